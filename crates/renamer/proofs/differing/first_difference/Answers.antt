use Rattle.std.proofs.Common.{◌≡◌, ◌<◌, true, ap, sym, ◌∙◌, arith}
use Rattle.semantic_model.specs.Analysis.{Analysis}
use Rattle.rename_model.specs.Same.{is_same_at}
use Rattle.renamer.specs.Told.{told_by}
use Rattle.renamer.proofs.GoingOn.{goes_on}
use Rattle.renamer.proofs.differing.first_difference.Goals as goal

pub loop-number-preserved : goal.loop-number-preserved
loop-number-preserved c =
    let a : Analysis = told_by c.args.one.now in
    let b : Analysis = told_by c.args.other.now in
    let within : c.loop-number.number < c.args.count = omega arith in
    let here : is_same_at a b c.new-node.result ≡ true = cc in
    goes_on a b c.loop-number.number c.args.count within (ap (is_same_at a b) (sym c.new-node.ensures) ∙ here) ∙ c.loop-number.invariant
