use Rattle.std.proofs.Common.{sym, ◌∙◌}
use Rattle.scoping.proofs.Named.{values-named}
use Rattle.scoping.proofs.scoping.Scoping.root_unresolved_references_ids.Goals as goal

pub returns : goal.returns
returns c = rw (← c.self.view_is) (c.new.ensures ∙ sym (values-named c.self.inside.names c.self.inside.free))
