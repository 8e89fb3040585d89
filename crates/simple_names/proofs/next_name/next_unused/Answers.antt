use Rattle.std.proofs.Common.{◌≡◌, ap, sym, ◌∙◌, arith}
use Rattle.std.specs.Str.{chars}
use Rattle.mangle_model.specs.ShortNames.{short_name}
use Rattle.simple_names.specs.TakenNames.{unused_by}
use Rattle.simple_names.proofs.NextTurns.{used_more}
use Rattle.simple_names.proofs.next_name.next_unused.Goals as goal

pub loop-number-preserved : goal.loop-number-preserved
loop-number-preserved c =
    let named : chars c.as_str.result.now ≡ short_name c.loop-number.number = ap chars c.as_str.ensures.value ∙ c.in_ok-name.ensures in
    used_more (unused_by c.args.taken.now) c.args.from c.loop-number.number c.loop-number.invariant
    (ap (unused_by c.args.taken.now) (sym named) ∙ sym c.is_unused.ensures ∙ c.if-is_unused.false)

pub returns-then-is_unused : goal.returns-then-is_unused
returns-then-is_unused c =
    let named : chars c.as_str.result.now ≡ short_name c.loop-number.number = ap chars c.as_str.ensures.value ∙ c.in_ok-name.ensures in record {
      named = c.in_ok-name.ensures;
      is_unused = ap (unused_by c.args.taken.now) (sym named) ∙ sym c.is_unused.ensures ∙ c.if-is_unused.true;
      after = omega arith;
      used = c.loop-number.invariant;
      small = omega arith;
    }
