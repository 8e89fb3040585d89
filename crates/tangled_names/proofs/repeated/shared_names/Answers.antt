use Rattle.std.proofs.Common.{ap, ◌∙◌, arith}
use Rattle.std.specs.Str.{chars}
use Rattle.semantic_syntax.specs.Reading.{symbol_of}
use Rattle.semantic_syntax.specs.Tables.{Tables}
use Rattle.tangled_names.proofs.Keys.{shared_turn, shared_kept, shared_end}
use Rattle.tangled_names.proofs.repeated.shared_names.Goals as goal

pub loop-number-preserved : goal.loop-number-preserved
loop-number-preserved c =
    let t : Tables = c.args.scoping.now in
    record {
      kept = λ x. shared_kept t c.loop-number.number x (chars c.symbol_name.result.now)
          c.loop-number.met.seen c.meet_name.new.met.seen c.loop-number.met.again c.meet_name.new.met.again
          c.in_ok-meet_name.ensures.seen c.in_ok-meet_name.ensures.again (c.loop-number.invariant.kept x);
      rest = λ x. shared_turn t c.loop-number.number x (chars c.symbol_name.result.now)
          c.loop-number.met.seen c.meet_name.new.met.seen c.loop-number.met.again c.meet_name.new.met.again _
          (omega (arith, c.symbols_len-count.ensures.count, c.loop-number-test.true))
          (c.symbol_name.ensures.characters ∙ ap (λ n. (symbol_of t n).name) c.new-symbol.ensures)
          c.in_ok-meet_name.ensures.seen c.in_ok-meet_name.ensures.again (c.loop-number.invariant.kept x) (c.loop-number.invariant.rest x);
    }

pub returns : goal.returns
returns c = λ x.
    shared_end c.args.scoping.now c.loop-number.number x c.loop-number.met.seen c.loop-number.met.again _
    (omega (arith, c.symbols_len-count.ensures.count, c.loop-number-test.false))
    (c.loop-number.invariant.kept x) (c.loop-number.invariant.rest x)
