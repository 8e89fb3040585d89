use Rattle.std.proofs.Common.{◌≡◌, ◌<◌, ◌≤◌, length, get_or, true, false, sym, ◌∙◌, arith}
use Rattle.mangle_model.specs.Tests.{same_declaration}
use Rattle.mangler.proofs.Pairs.{pair_passes, pair_fails, pairs_end}
use Rattle.mangler.proofs.comparing.values.are_same_declarations.Goals as goal

pub returns : goal.returns
returns c =
    let as_long : length c.args.other.now ≤ c.loop-number.number = omega arith in
    pairs_end same_declaration c.args.one.now c.args.other.now c.loop-number.number _ c.loop-number-test.false as_long c.loop-number.invariant

pub returns-then-not-is_same_declaration : goal.returns-then-not-is_same_declaration
returns-then-not-is_same_declaration c =
    let as_well : c.loop-number.number < length c.args.other.now = omega arith in
    let other : same_declaration (get_or c.args.one.now c.loop-number.number c.index-one-number.result) (get_or c.args.other.now c.loop-number.number c.index-other-number.result) ≡ false =
    (λ i. same_declaration (sym c.index-one-number.is i) (sym c.index-other-number.is i)) ∙ sym c.is_same_declaration.ensures ∙ c.if-not-is_same_declaration.true in
    pair_fails same_declaration c.args.one.now c.args.other.now c.loop-number.number _ _ _ c.loop-number-test.true as_well other c.loop-number.invariant

pub loop-number-preserved : goal.loop-number-preserved
loop-number-preserved c =
    let as_well : c.loop-number.number < length c.args.other.now = omega arith in
    let same : same_declaration (get_or c.args.one.now c.loop-number.number c.index-one-number.result) (get_or c.args.other.now c.loop-number.number c.index-other-number.result) ≡ true =
    (λ i. same_declaration (sym c.index-one-number.is i) (sym c.index-other-number.is i)) ∙ sym c.is_same_declaration.ensures ∙ c.if-not-is_same_declaration.false in
    pair_passes same_declaration c.args.one.now c.args.other.now c.loop-number.number _ _ _ c.loop-number-test.true as_well same c.loop-number.invariant
