use Rattle.std.proofs.Common.{◌<◌, ◌≤◌, length, ap, sym, ◌∙◌, arith}
use Rattle.mangle_names.specs.Marks.{is_number_marked}
use Rattle.mangler.specs.Passing.{passes_by, passes_option}
use Rattle.mangler.proofs.PassingNames.{pass_next, pass_fails, pass_end}
use Rattle.mangler.proofs.passing.all_pass.Goals as goal

pub returns : goal.returns
returns c =
    let ended : length c.args.names.now ≤ c.loop-number.number = omega arith in
    pass_end (passes_by (is_number_marked c.args.may.now) c.args.barred.now) c.args.names.now c.loop-number.number _ ended c.loop-number.invariant

pub returns-then-not-passes : goal.returns-then-not-passes
returns-then-not-passes c =
    let within : c.loop-number.number < length c.args.names.now = omega arith in
    let test = passes_by (is_number_marked c.args.may.now) c.args.barred.now in
    pass_fails test c.args.names.now c.loop-number.number _ within
    (ap (passes_option test c.loop-number.number) (sym c.name_at.ensures) ∙ sym c.passes.ensures ∙ c.if-not-passes.true) c.loop-number.invariant

pub loop-number-preserved : goal.loop-number-preserved
loop-number-preserved c =
    let within : c.loop-number.number < length c.args.names.now = omega arith in
    let test = passes_by (is_number_marked c.args.may.now) c.args.barred.now in
    pass_next test c.args.names.now c.loop-number.number _ within
    (ap (passes_option test c.loop-number.number) (sym c.name_at.ensures) ∙ sym c.passes.ensures ∙ c.if-not-passes.false) c.loop-number.invariant
