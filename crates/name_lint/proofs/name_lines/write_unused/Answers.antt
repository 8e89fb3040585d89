use Rattle.std.proofs.Common.{◌<◌, length, sym, subst}
use Rattle.std.proofs.lemmas.List.Elements.{All-get_or}
use Rattle.report_ends.proofs.Stages.{flat_map_goes_on, flat_map_fails}
use Rattle.name_lint.specs.Lines.{unused_line}
use Rattle.name_lint.proofs.name_lines.write_unused.Goals as goal

pub write_symbol-requires : goal.write_symbol-requires
write_symbol-requires g c =
    subst (λ y. y < length c.args.scoping.now.symbols) (sym c.symbol-item.is) (All-get_or (λ y. y < length c.args.scoping.now.symbols) c.args.symbols.now c.loop-symbol.symbol-index _ c.loop-symbol-test.true c.requires)

pub loop-symbol-preserved : goal.loop-symbol-preserved
loop-symbol-preserved g c =
    flat_map_goes_on g.K.Sink.held g.K.Sink.faults (unused_line c.args.scoping.now) c.loop-symbol.symbol-index c.args.symbols.now _ _ _ _ _ _ c.loop-symbol.invariant c.loop-symbol-test.true c.symbol-item.is c.in_ok-write_symbol.ensures

pub returns-in_err-write_symbol : goal.returns-in_err-write_symbol
returns-in_err-write_symbol g c =
    flat_map_fails g.K.Sink.held g.K.Sink.faults (unused_line c.args.scoping.now) c.loop-symbol.symbol-index c.args.symbols.now _ _ _ _ _ _ c.from_residual.result c.loop-symbol.invariant c.loop-symbol-test.true c.symbol-item.is c.in_err-write_symbol.ensures
    c.from_residual.ensures.1
