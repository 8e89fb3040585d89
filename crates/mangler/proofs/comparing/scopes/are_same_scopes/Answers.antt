use Rattle.std.proofs.Common.{◌≡◌, ◌<◌, ◌≤◌, length, true, false, ap, sym, ◌∙◌, arith}
use Rattle.semantic_syntax.specs.Reading.{no_scope, scope_of}
use Rattle.mangle_model.specs.Tests.{same_scope}
use Rattle.mangler.proofs.Pairs.{pair_passes, pair_fails, pairs_end}
use Rattle.mangler.proofs.comparing.scopes.are_same_scopes.Goals as goal

pub returns : goal.returns
returns c =
    let ended : length c.args.one.now.scopes ≤ c.loop-number.number = omega arith in
    let as_long : length c.args.other.now.scopes ≤ c.loop-number.number = omega arith in
    pairs_end same_scope c.args.other.now.scopes c.args.one.now.scopes c.loop-number.number _ as_long ended c.loop-number.invariant

pub returns-then-not-is_same_scope : goal.returns-then-not-is_same_scope
returns-then-not-is_same_scope c =
    let within : c.loop-number.number < length c.args.one.now.scopes = omega arith in
    let as_well : c.loop-number.number < length c.args.other.now.scopes = omega arith in
    let other : same_scope (scope_of c.args.other.now c.loop-number.number) (scope_of c.args.one.now c.loop-number.number) ≡ false =
    ap (λ n. same_scope (scope_of c.args.other.now n) (scope_of c.args.one.now n)) (sym c.new.ensures) ∙ sym c.is_same_scope.ensures ∙ c.if-not-is_same_scope.true in
    pair_fails same_scope c.args.other.now.scopes c.args.one.now.scopes c.loop-number.number no_scope no_scope _ as_well within other c.loop-number.invariant

pub loop-number-preserved : goal.loop-number-preserved
loop-number-preserved c =
    let within : c.loop-number.number < length c.args.one.now.scopes = omega arith in
    let as_well : c.loop-number.number < length c.args.other.now.scopes = omega arith in
    let same : same_scope (scope_of c.args.other.now c.loop-number.number) (scope_of c.args.one.now c.loop-number.number) ≡ true =
    ap (λ n. same_scope (scope_of c.args.other.now n) (scope_of c.args.one.now n)) (sym c.new.ensures) ∙ sym c.is_same_scope.ensures ∙ c.if-not-is_same_scope.false in
    pair_passes same_scope c.args.other.now.scopes c.args.one.now.scopes c.loop-number.number no_scope no_scope _ as_well within same c.loop-number.invariant
