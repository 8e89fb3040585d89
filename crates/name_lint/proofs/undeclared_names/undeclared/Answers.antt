use Rattle.std.proofs.Common.{◌≡◌, ◌<◌, [], ◌∷◌, ◌++◌, length, sym, ap, ◌∙◌, arith}
use Rattle.semantic_syntax.specs.Tables.{Tables}
use Rattle.semantic_syntax.specs.Reading.{reference_of}
use Rattle.name_lint.specs.Gathered.{text_of}
use Rattle.name_lint.specs.Undeclared.{is_undeclared}
use Rattle.name_lint.proofs.Turns.{added, passed_over, undeclared_turn}
use Rattle.name_lint.proofs.undeclared_names.undeclared.Goals as goal
use Rattle.name_lint.proofs.undeclared_names.undeclared.Goals.{then-is_undeclared+in_ok-push, else-is_undeclared}

pub loop-number-preserved : goal.loop-number-preserved
loop-number-preserved c =
    let t : Tables = c.args.scoping.now in
    let within : c.loop-number.number < length t.references = omega (arith, c.references_len-count.ensures.count, c.loop-number-test.true) in
    let nodes_within : c.loop-number.number < length c.args.references.now = omega (arith, within, c.requires) in
    let told : c.is_undeclared.result ≡ is_undeclared c.args.known.now t (text_of c.index-references-number.result) (reference_of t c.loop-number.number) = rw (c.text-name.ensures, c.get_reference.ensures, c.new-id.ensures) at c.is_undeclared.ensures in
    let turn = undeclared_turn c.args.known.now t c.loop-number.number c.args.references.now c.index-references-number.result nodes_within within c.index-references-number.is in
    elim c.if-is_undeclared.branch [
      | then-is_undeclared+in_ok-push w ↦ added _ _ _ _ _ _ c.loop-number.number (sym told ∙ w.if-is_undeclared.true) turn (ap (λ v. v.items) w.found-is ∙ w.in_ok-push.ensures.items ∙ ap (λ x. c.loop-number.found.items ++ x ∷ []) c.new-id.ensures) c.loop-number.invariant
      | else-is_undeclared w ↦ rw w.found-is (passed_over _ _ _ _ _ c.loop-number.number (sym told ∙ w.if-is_undeclared.false) turn c.loop-number.invariant)
    ]
