use Rattle.std.proofs.Common.{◌≡◌, ◌<◌, ◌≤◌, ℕ, List, length, true, false, slice_index_or, ap, sym, ◌∙◌, arith}
use Rattle.std.specs.Cmp.Lexicographic.{unequal}
use Rattle.semantic_syntax.specs.Reading.{no_symbol, symbol_of}
use Rattle.semantic_syntax.specs.Tables.{Symbol}
use Rattle.mangle_model.specs.Assignment.{Assignment, assignment_of}
use Rattle.mangle_model.specs.Alike.{renamed_symbols}
use Rattle.mangle_model.specs.Tests.{same_symbol}
use Rattle.mangler.proofs.Pairs.{pair_passes, pair_fails, pairs_end}
use Rattle.mangler.proofs.RenamedSymbols.{as_many_symbols, renamed_symbol, renamed_at}
use Rattle.mangler.proofs.comparing.symbols.are_same_symbols.Goals as goal

pub returns-then-symbols_len : goal.returns-then-symbols_len
returns-then-symbols_len c =
    let many = as_many_symbols (assignment_of c.args.names.now) 0 c.args.one.now.symbols in
    sym (unequal same_symbol c.args.other.now.symbols (renamed_symbols (assignment_of c.args.names.now) 0 c.args.one.now.symbols) (λ e. c.if-symbols_len.true (c.symbols_len.ensures.count ∙ e ∙ many ∙ sym c.symbols_len-2.ensures.count)))

pub returns : goal.returns
returns c =
    let names : Assignment = assignment_of c.args.names.now in
    let many : length (renamed_symbols names 0 c.args.one.now.symbols) ≡ length c.args.one.now.symbols = as_many_symbols names 0 c.args.one.now.symbols in
    let ended : length (renamed_symbols names 0 c.args.one.now.symbols) ≤ c.loop-number.number = omega arith in
    let as_long : length c.args.other.now.symbols ≤ c.loop-number.number = omega arith in
    pairs_end same_symbol c.args.other.now.symbols (renamed_symbols names 0 c.args.one.now.symbols) c.loop-number.number _ as_long ended c.loop-number.invariant

pub returns-then-not-is_same_symbol : goal.returns-then-not-is_same_symbol
returns-then-not-is_same_symbol c =
    let i : ℕ = c.loop-number.number in
    let names : Assignment = assignment_of c.args.names.now in
    let mine : List Symbol = renamed_symbols names 0 c.args.one.now.symbols in
    let many : length (renamed_symbols names 0 c.args.one.now.symbols) ≡ length c.args.one.now.symbols = as_many_symbols names 0 c.args.one.now.symbols in
    let inside : i < length c.args.one.now.symbols = omega arith in
    let within : i < length (renamed_symbols names 0 c.args.one.now.symbols) = omega arith in
    let as_well : i < length c.args.other.now.symbols = omega arith in
    let here : same_symbol (symbol_of c.args.other.now i) (slice_index_or mine i no_symbol) ≡ false =
    ap (same_symbol (symbol_of c.args.other.now i)) (renamed_at names c.args.one.now.symbols i no_symbol inside)
    ∙ ap (λ n. same_symbol (symbol_of c.args.other.now n) (renamed_symbol names n (symbol_of c.args.one.now n))) (sym c.new.ensures)
    ∙ sym c.is_same_symbol.ensures ∙ c.if-not-is_same_symbol.true in
    pair_fails same_symbol c.args.other.now.symbols mine i no_symbol no_symbol _ as_well within here c.loop-number.invariant

pub loop-number-preserved : goal.loop-number-preserved
loop-number-preserved c =
    let i : ℕ = c.loop-number.number in
    let names : Assignment = assignment_of c.args.names.now in
    let mine : List Symbol = renamed_symbols names 0 c.args.one.now.symbols in
    let many : length (renamed_symbols names 0 c.args.one.now.symbols) ≡ length c.args.one.now.symbols = as_many_symbols names 0 c.args.one.now.symbols in
    let inside : i < length c.args.one.now.symbols = omega arith in
    let within : i < length (renamed_symbols names 0 c.args.one.now.symbols) = omega arith in
    let as_well : i < length c.args.other.now.symbols = omega arith in
    let here : same_symbol (symbol_of c.args.other.now i) (slice_index_or mine i no_symbol) ≡ true =
    ap (same_symbol (symbol_of c.args.other.now i)) (renamed_at names c.args.one.now.symbols i no_symbol inside)
    ∙ ap (λ n. same_symbol (symbol_of c.args.other.now n) (renamed_symbol names n (symbol_of c.args.one.now n))) (sym c.new.ensures)
    ∙ sym c.is_same_symbol.ensures ∙ c.if-not-is_same_symbol.false in
    pair_passes same_symbol c.args.other.now.symbols mine i no_symbol no_symbol _ as_well within here c.loop-number.invariant
