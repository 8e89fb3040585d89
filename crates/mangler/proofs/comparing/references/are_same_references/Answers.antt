use Rattle.std.proofs.Common.{◌≡◌, ◌<◌, ◌≤◌, length, true, false, ap, sym, ◌∙◌, arith}
use Rattle.semantic_syntax.specs.Reading.{no_reference, reference_of}
use Rattle.mangle_model.specs.Tests.{same_reference}
use Rattle.mangler.proofs.Pairs.{pair_passes, pair_fails, pairs_end}
use Rattle.mangler.proofs.comparing.references.are_same_references.Goals as goal

pub returns : goal.returns
returns c =
    let ended : length c.args.one.now.references ≤ c.loop-number.number = omega arith in
    let as_long : length c.args.other.now.references ≤ c.loop-number.number = omega arith in
    pairs_end same_reference c.args.other.now.references c.args.one.now.references c.loop-number.number _ as_long ended c.loop-number.invariant

pub returns-then-not-is_same_reference : goal.returns-then-not-is_same_reference
returns-then-not-is_same_reference c =
    let within : c.loop-number.number < length c.args.one.now.references = omega arith in
    let as_well : c.loop-number.number < length c.args.other.now.references = omega arith in
    let other : same_reference (reference_of c.args.other.now c.loop-number.number) (reference_of c.args.one.now c.loop-number.number) ≡ false =
    ap (λ n. same_reference (reference_of c.args.other.now n) (reference_of c.args.one.now n)) (sym c.new-reference.ensures) ∙ (λ i. same_reference (sym c.get_reference.ensures i) (sym c.get_reference-in-loop-number.ensures i)) ∙ sym c.is_same_reference.ensures ∙ c.if-not-is_same_reference.true in
    pair_fails same_reference c.args.other.now.references c.args.one.now.references c.loop-number.number no_reference no_reference _ as_well within other c.loop-number.invariant

pub loop-number-preserved : goal.loop-number-preserved
loop-number-preserved c =
    let within : c.loop-number.number < length c.args.one.now.references = omega arith in
    let as_well : c.loop-number.number < length c.args.other.now.references = omega arith in
    let same : same_reference (reference_of c.args.other.now c.loop-number.number) (reference_of c.args.one.now c.loop-number.number) ≡ true =
    ap (λ n. same_reference (reference_of c.args.other.now n) (reference_of c.args.one.now n)) (sym c.new-reference.ensures) ∙ (λ i. same_reference (sym c.get_reference.ensures i) (sym c.get_reference-in-loop-number.ensures i)) ∙ sym c.is_same_reference.ensures ∙ c.if-not-is_same_reference.false in
    pair_passes same_reference c.args.other.now.references c.args.one.now.references c.loop-number.number no_reference no_reference _ as_well within same c.loop-number.invariant
