use Rattle.std.proofs.Common.{◌≡◌, None, ap, sym, ◌∙◌, arith}
use Rattle.semantic_tree.specs.Place.{all_placed, placed_from}
use Rattle.semantic_tree.specs.Faults.{first_where}
use Rattle.semantic_tree.specs.Checks.{has_fault}
use Rattle.semantic_tree.proofs.Faults.{comments_alone}
use Rattle.semantic_tree.proofs.program.form_fault.Goals as goal

pub returns-in-None : goal.returns-in-None
returns-in-None c =
    let source = c.args.source.now in
    let root = c.args.root.now in
    let none : first_where (has_fault source) (all_placed root) ≡ None =
    ap (λ place. first_where (has_fault source) (placed_from place root)) (sym c.root.ensures) ∙ sym c.in-None.ensures in
    c.comment_fault.ensures ∙ sym (comments_alone source c.args.comments.now root none)

pub first_breaking-requires : goal.first_breaking-requires
first_breaking-requires c = omega (arith, ap (λ place. place.depth) c.root.ensures, c.requires.nodes)

pub first_breaking-requires-2 : goal.first_breaking-requires-2
first_breaking-requires-2 c = omega (arith, ap (λ place. place.depth) c.root-2.ensures, c.requires.nodes)

pub first_breaking-requires-3 : goal.first_breaking-requires-3
first_breaking-requires-3 c = omega (arith, ap (λ place. place.depth) c.root-3.ensures, c.requires.nodes)

pub first_breaking-requires-4 : goal.first_breaking-requires-4
first_breaking-requires-4 c = omega (arith, ap (λ place. place.depth) c.root-4.ensures, c.requires.nodes)
