use Rattle.std.proofs.Common.{◌≡◌, ◌<◌, ◌≤◌, ◌++◌, [], ◌∷◌, Option, bytes_eq, length, ap, ◌∙◌, arith}
use Rattle.std.specs.Map.{lookup}
use Rattle.std.specs.Str.{chars}
use Rattle.semantic_syntax.specs.Reading.{symbol_of}
use Rattle.semantic_syntax.specs.Tables.{Name}
use Rattle.simple_names.proofs.Gathered.{named_turn, named_end}
use Rattle.simple_names.proofs.naming.names_by.Goals as goal

pub loop-number-preserved : goal.loop-number-preserved
loop-number-preserved c =
    let within : c.loop-number.number < length c.args.scoping.now.symbols = omega arith in
    let named : chars c.symbol_name.result.now ≡ (symbol_of c.args.scoping.now c.loop-number.number).name = c.symbol_name.ensures.characters ∙ ap (λ n. (symbol_of c.args.scoping.now n).name) c.new-symbol.ensures in
    named_turn c.args.pairs.now c.args.scoping.now.symbols c.loop-number.number c.loop-number.names c.push_name.new.names _ within
    (c.in_ok-push_name.ensures ∙ ap (λ (o : Option Name). c.loop-number.names ++ o ∷ []) (c.get.ensures ∙ ap (λ (n : Name). lookup (bytes_eq n) c.args.pairs.now) named))
    c.loop-number.invariant

pub returns : goal.returns
returns c =
    let ended : length c.args.scoping.now.symbols ≤ c.loop-number.number = omega arith in
    named_end c.args.pairs.now c.args.scoping.now.symbols c.loop-number.number c.loop-number.names _ ended c.loop-number.invariant
