use Rattle.std.proofs.Common.{rules, ◌≡◌, refl}
use Rattle.report_lines.proofs.Made.{writes_made}
use Rattle.tangled_names.specs.Found.{tangle_seen}
use Rattle.tangle_lint.specs.Lines.{name_line, tangle_line}
use Rattle.tangle_lint.proofs.tangle_lines.write_tangle.Goals as goal

pub returns : goal.returns
returns g c =
    let same : name_line c.index.result c.name_of-text.result.now c.as_slice.result.now ≡ tangle_line c.args.scoping.now (tangle_seen c.args.name.now) = search rules in
    writes_made g.K.Sink.held g.K.Sink.faults _ _ _ _ _ _ _ c.offer_made.ensures c.make_line-made.ensures same (_, _, _, refl)
