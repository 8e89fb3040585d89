use Rattle.std.proofs.Common.{refl, ◌++◌, flat_map}
use Rattle.report_ends.proofs.Stages.{writes_not_then, writes_then}
use Rattle.report_lines.specs.CountLines.{label_line}
use Rattle.report_lines.specs.DiagnosticLine.{diagnostic_line}
use Rattle.report_lines.specs.TableLines.{table_lines}
use Rattle.report_answers.specs.Found.{found_in}
use Rattle.report_answers.specs.Report.{noted_text, counted_text}
use Rattle.report_answers.proofs.write.write_report.Goals as goal

pub returns-in_err-write_asked_nodes : goal.returns-in_err-write_asked_nodes
returns-in_err-write_asked_nodes g c =
    let o = c.args.options in
    let found = found_in c.args.ret.now in
    writes_not_then g.K.Sink.held g.K.Sink.faults _ _ _ (table_lines found.tables ++ noted_text o found) _ _ c.from_residual.result c.in_err-write_asked_nodes.ensures c.from_residual.ensures.1 (rw c.nodes.ensures refl)

pub returns-in_err-write_tables : goal.returns-in_err-write_tables
returns-in_err-write_tables g c =
    let o = c.args.options in
    let found = found_in c.args.ret.now in
    writes_then g.K.Sink.held g.K.Sink.faults _ _ _ _ (table_lines found.tables ++ noted_text o found) _ _ _ c.in_ok-write_asked_nodes.ensures
    (writes_not_then g.K.Sink.held g.K.Sink.faults _ _ _ (noted_text o found) _ _ c.from_residual-in_err-write_tables.result c.in_err-write_tables.ensures c.from_residual-in_err-write_tables.ensures.1 (rw c.scoping.ensures refl))
    (rw c.nodes.ensures refl)

pub returns-in_err-write_asked_classes : goal.returns-in_err-write_asked_classes
returns-in_err-write_asked_classes g c =
    let o = c.args.options in
    let found = found_in c.args.ret.now in
    writes_then g.K.Sink.held g.K.Sink.faults _ _ _ _ (table_lines found.tables ++ noted_text o found) _ _ _ c.in_ok-write_asked_nodes.ensures
    (writes_then g.K.Sink.held g.K.Sink.faults _ _ _ _ (noted_text o found) _ _ _ c.in_ok-write_tables.ensures
    (writes_not_then g.K.Sink.held g.K.Sink.faults _ _ _ (flat_map label_line found.labels ++ counted_text o found) _ _ c.from_residual-in_err-write_asked_classes.result c.in_err-write_asked_classes.ensures c.from_residual-in_err-write_asked_classes.ensures.1 (rw c.classes.ensures refl))
    (rw c.scoping.ensures refl))
    (rw c.nodes.ensures refl)

pub returns-in_err-write_labels : goal.returns-in_err-write_labels
returns-in_err-write_labels g c =
    let o = c.args.options in
    let found = found_in c.args.ret.now in
    writes_then g.K.Sink.held g.K.Sink.faults _ _ _ _ (table_lines found.tables ++ noted_text o found) _ _ _ c.in_ok-write_asked_nodes.ensures
    (writes_then g.K.Sink.held g.K.Sink.faults _ _ _ _ (noted_text o found) _ _ _ c.in_ok-write_tables.ensures
    (writes_then g.K.Sink.held g.K.Sink.faults _ _ _ _ (flat_map label_line found.labels ++ counted_text o found) _ _ _ c.in_ok-write_asked_classes.ensures
    (writes_not_then g.K.Sink.held g.K.Sink.faults _ _ _ (counted_text o found) _ _ c.from_residual-in_err-write_labels.result c.in_err-write_labels.ensures c.from_residual-in_err-write_labels.ensures.1 (rw c.unused_labels.ensures refl))
    (rw c.classes.ensures refl))
    (rw c.scoping.ensures refl))
    (rw c.nodes.ensures refl)

pub returns-in_err-write_asked_stats : goal.returns-in_err-write_asked_stats
returns-in_err-write_asked_stats g c =
    let o = c.args.options in
    let found = found_in c.args.ret.now in
    writes_then g.K.Sink.held g.K.Sink.faults _ _ _ _ (table_lines found.tables ++ noted_text o found) _ _ _ c.in_ok-write_asked_nodes.ensures
    (writes_then g.K.Sink.held g.K.Sink.faults _ _ _ _ (noted_text o found) _ _ _ c.in_ok-write_tables.ensures
    (writes_then g.K.Sink.held g.K.Sink.faults _ _ _ _ (flat_map label_line found.labels ++ counted_text o found) _ _ _ c.in_ok-write_asked_classes.ensures
    (writes_then g.K.Sink.held g.K.Sink.faults _ _ _ _ (counted_text o found) _ _ _ c.in_ok-write_labels.ensures
    (writes_not_then g.K.Sink.held g.K.Sink.faults _ _ _ (flat_map diagnostic_line found.diagnostics) _ _ c.from_residual-in_err-write_asked_stats.result c.in_err-write_asked_stats.ensures c.from_residual-in_err-write_asked_stats.ensures.1 refl)
    (rw c.unused_labels.ensures refl))
    (rw c.classes.ensures refl))
    (rw c.scoping.ensures refl))
    (rw c.nodes.ensures refl)

pub returns : goal.returns
returns g c =
    let o = c.args.options in
    let found = found_in c.args.ret.now in
    writes_then g.K.Sink.held g.K.Sink.faults _ _ _ _ (table_lines found.tables ++ noted_text o found) _ _ _ c.in_ok-write_asked_nodes.ensures
    (writes_then g.K.Sink.held g.K.Sink.faults _ _ _ _ (noted_text o found) _ _ _ c.in_ok-write_tables.ensures
    (writes_then g.K.Sink.held g.K.Sink.faults _ _ _ _ (flat_map label_line found.labels ++ counted_text o found) _ _ _ c.in_ok-write_asked_classes.ensures
    (writes_then g.K.Sink.held g.K.Sink.faults _ _ _ _ (counted_text o found) _ _ _ c.in_ok-write_labels.ensures
    (writes_then g.K.Sink.held g.K.Sink.faults _ _ _ _ (flat_map diagnostic_line found.diagnostics) _ _ _ c.in_ok-write_asked_stats.ensures c.write_diagnostics.ensures refl)
    (rw c.unused_labels.ensures refl))
    (rw c.classes.ensures refl))
    (rw c.scoping.ensures refl))
    (rw c.nodes.ensures refl)
