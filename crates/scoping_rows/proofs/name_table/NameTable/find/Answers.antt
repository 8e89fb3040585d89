use Rattle.scoping_rows.proofs.Names.{find_text}
use Rattle.scoping_rows.proofs.name_table.NameTable.find.Goals as goal

pub returns : goal.returns
returns c = rw (c.get_index_of.ensures.index, ← c.self.view_is, ← c.as_str.ensures) (find_text c.self.inside.texts.keys _ c.as_str.utf8 c.len-count.ensures.unique)
