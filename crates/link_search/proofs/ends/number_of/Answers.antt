use Rattle.link_search.specs.contracts.terminal.TerminalEq.TheImpl.Laws.{laws-law}
use Rattle.link_search.proofs.Members.{apart_by}
use Rattle.link_search.proofs.ends.number_of.Goals as goal

pub returns-in-Ok-clause-apart : goal.returns-in-Ok-clause-apart
returns-in-Ok-clause-apart c = apart_by _ (laws-law).refl c.insert_full.new.self.keys c.in_ok-place.ensures.unique
