use Rattle.std.proofs.Common.{map, ◌∙◌}
use Rattle.tangled_names.specs.Gathered.{noted_of}
use Rattle.tangled_names.proofs.Tangling.{told_same, found_same, all_same, if_ok_same}
use Rattle.tangled_names.proofs.tangles.tangled_names.Goals as goal

pub returns : goal.returns
returns c =
    let ms = map noted_of c.as_slice.result.now in
    if_ok_same c.tangles_by.result _ _
    (found_same c.in_ok-facts.facts c.source_type.result ms c.args.scoping.now (told_same c.in_ok-facts.facts c.source_type.result ms c.args.scoping.now c.in_ok-facts.ensures)
    ∙ all_same _ _ _ _ _ _ c.source_type.ensures (c.as_slice.ensures ∙ c.in_ok-pass.ensures) c.requires)
    c.tangles_by.ensures
