use Rattle.std.proofs.Common.{◌∙◌}
use Rattle.std.proofs.lemmas.List.{length-map}
use Rattle.scoping_rows.proofs.Names.{text_bytes}
use Rattle.scoping_rows.proofs.name_table.NameTable.name.Goals as goal

pub returns-clause-bytes : goal.returns-clause-bytes
returns-clause-bytes c =
    let keys = c.as_slice.ensures.keys in
    rw (← c.self.view_is) (c.as_str.ensures.value
    ∙ text_bytes c.self.inside.texts.keys c.args.number c.index-as_slice-number.result
    (rw length-map at (rw (← c.self.view_is) at c.requires))
    (rw keys at c.index-as_slice-number.is))
