use Rattle.std.proofs.Common.{◌≡◌, List, [], true, None, subst, arith}
use Rattle.std.proofs.lemmas.Bool.{not-false}
use Rattle.std.proofs.lemmas.Grind.{common_steps}
use Rattle.semantic_tree.specs.declared.node.Node.{Node}
use Rattle.walk_model.specs.WrittenNames.{WrittenName, is_sloppy, names_written, written_in}
use Rattle.walk_notes.specs.WrittenNames.{Adds}
use Rattle.walk_notes.proofs.Adding.{all-move}
use Rattle.walk_notes.proofs.namesakes.Namesakes.of.Goals as goal

pub returns : goal.returns
returns c =
    let now : List WrittenName = c.collect.new.self in
    let all : List WrittenName = names_written c.args.program.now in
    let sloppy : is_sloppy c.args.program.now.source_type ≡ true = grind (arith, common_steps, not-false) in
    let from_none : Adds [] now (written_in c.root.result.node.now None (record { innermost = 0; around = 0 })) =
    subst (λ (v : List WrittenName). Adds v now (written_in c.root.result.node.now None (record { innermost = 0; around = 0 }))) c.new-namesakes.ensures c.in_ok-collect.ensures in
    let adds : Adds [] now all = subst (λ (r : Node). Adds [] now (written_in r None (record { innermost = 0; around = 0 }))) c.root.ensures.root from_none in
    all-move now all (is_sloppy c.args.program.now.source_type) sloppy adds
