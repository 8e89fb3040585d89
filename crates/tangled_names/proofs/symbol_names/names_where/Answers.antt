use Rattle.std.proofs.Common.{ap, ◌∙◌, arith}
use Rattle.std.specs.Str.{chars}
use Rattle.semantic_syntax.specs.Reading.{symbol_of}
use Rattle.semantic_syntax.specs.Tables.{Tables}
use Rattle.tangled_names.specs.Asked.{asked}
use Rattle.tangled_names.proofs.Keys.{symbols_turn, symbols_end}
use Rattle.tangled_names.proofs.symbol_names.names_where.Goals as goal

pub loop-number-preserved : goal.loop-number-preserved
loop-number-preserved c = λ x.
    let t : Tables = c.args.scoping.now in
    symbols_turn t c.loop-number.number (asked c.args.question t) x c.is_so-is.result (chars c.symbol_name.result.now) c.loop-number.names c.add_name_if.new.self _
    (omega (arith, c.symbols_len-count.ensures.count, c.loop-number-test.true))
    (c.is_so-is.ensures ∙ ap (λ n. asked c.args.question t (symbol_of t n)) c.new-symbol.ensures)
    (c.symbol_name.ensures.characters ∙ ap (λ n. (symbol_of t n).name) c.new-symbol.ensures)
    c.in_ok-add_name_if.ensures (c.loop-number.invariant x)

pub returns : goal.returns
returns c = λ x.
    let t : Tables = c.args.scoping.now in
    symbols_end t c.loop-number.number (asked c.args.question t) x c.loop-number.names _
    (omega (arith, c.symbols_len-count.ensures.count, c.loop-number-test.false))
    (c.loop-number.invariant x)
