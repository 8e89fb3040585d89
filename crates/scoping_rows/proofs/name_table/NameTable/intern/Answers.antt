use Rattle.std.proofs.Common.{◌∙◌}
use Rattle.scoping_rows.proofs.Names.{intern_text}
use Rattle.scoping_rows.proofs.name_table.NameTable.intern.Goals as goal

pub returns-clause-ok : goal.returns-clause-ok
returns-clause-ok c =
    rw (← c.self.view_is, c.len-number.ensures.len)
    (intern_text c.self.inside.texts.keys c.insert.new.self.keys c.in_ok-text.text c.args.name.text.now
    c.len-number.ensures.unique
    (rw c.self.view_is c.in_default.ensures)
    (c.in_ok-text.ensures.ok ∙ c.as_str.ensures)
    c.in_ok-insert.ensures.keys)
