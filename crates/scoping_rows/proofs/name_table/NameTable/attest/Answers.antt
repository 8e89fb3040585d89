use Rattle.scoping_rows.proofs.Names.{number_text}
use Rattle.scoping_rows.proofs.name_table.NameTable.attest.Goals as goal

pub returns : goal.returns
returns c = rw (← c.self.view_is) (number_text c.self.inside.texts.keys c.args.number c.len-count.ensures.unique (rw (← c.self.view_is) at c.requires))
