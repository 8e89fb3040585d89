use Rattle.std.proofs.Common.{◌<◌, ◌||◌, ◌&&◌, not, bytes_eq, length, ap, ◌∙◌, arith}
use Rattle.std.specs.List.{list_any}
use Rattle.semantic_syntax.specs.Reading.{symbol_of}
use Rattle.mangle_names.specs.Marks.{is_number_marked}
use Rattle.mangle_names.proofs.BarredNames.{kept_turn}
use Rattle.mangle_names.proofs.barred.add_kept_names.Goals as goal

pub loop-number-preserved : goal.loop-number-preserved
loop-number-preserved c = λ q.
    let within : c.loop-number.number < length c.args.scoping.now.symbols = omega arith in
    kept_turn (is_number_marked c.args.may.now) q c.args.scoping.now.symbols c.loop-number.number c.loop-number.names c.add_kept_name.new.names _ within
    (c.in_ok-add_kept_name.ensures q ∙ ap (λ n. list_any (bytes_eq q) c.loop-number.names || (not (is_number_marked c.args.may.now n) && bytes_eq q (symbol_of c.args.scoping.now n).name)) c.new.ensures)
    (c.loop-number.invariant q)
