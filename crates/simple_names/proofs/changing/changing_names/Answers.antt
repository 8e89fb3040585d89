use Rattle.std.proofs.Common.{◌≡◌, ◌<◌, ◌≤◌, cond, length, ap, ◌∙◌, arith}
use Rattle.std.specs.Str.{chars}
use Rattle.semantic_syntax.specs.Reading.{symbol_of}
use Rattle.semantic_syntax.specs.Tables.{Name}
use Rattle.mangle_model.specs.OneNameEach.{joining}
use Rattle.simple_names.specs.TakenNames.{changes_by}
use Rattle.simple_names.proofs.ChangingTurns.{joined_turn, joined_end}
use Rattle.simple_names.proofs.changing.changing_names.Goals as goal

pub loop-number-preserved : goal.loop-number-preserved
loop-number-preserved c =
    let within : c.loop-number.number < length c.args.scoping.now.symbols = omega arith in
    let named : chars c.symbol_name.result.now ≡ (symbol_of c.args.scoping.now c.loop-number.number).name = c.symbol_name.ensures.characters ∙ ap (λ n. (symbol_of c.args.scoping.now n).name) c.new-symbol.ensures in
    joined_turn (changes_by c.args.taken.now) c.args.scoping.now.symbols c.loop-number.number c.loop-number.names c.add_changing.new.names _ within
    (c.in_ok-add_changing.ensures ∙ ap (λ (n : Name). cond (changes_by c.args.taken.now n) (joining c.loop-number.names n) c.loop-number.names) named)
    c.loop-number.invariant

pub returns : goal.returns
returns c =
    let ended : length c.args.scoping.now.symbols ≤ c.loop-number.number = omega arith in
    joined_end (changes_by c.args.taken.now) c.args.scoping.now.symbols c.loop-number.number c.loop-number.names _ ended c.loop-number.invariant
