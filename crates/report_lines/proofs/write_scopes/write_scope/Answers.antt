use Rattle.std.proofs.Common.{refl, rules, ◌≡◌, flat_map}
use Rattle.semantic_syntax.specs.Reading.{bindings_of, scope_of}
use Rattle.report_ends.proofs.Stages.{writes_not_then, writes_then}
use Rattle.report_lines.specs.Rows as row
use Rattle.report_lines.specs.TableLines.{bind_line, scope_line}
use Rattle.report_lines.proofs.Made.{writes_made}
use Rattle.report_lines.proofs.write_scopes.write_scope.Goals as goal

pub returns-in_err-offer_made : goal.returns-in_err-offer_made
returns-in_err-offer_made g c =
    let scope = scope_of c.args.scoping.now c.args.scope in
    let same : scope_line c.args.scope (record { parent = c.scope_parent_id-parent.result; node = c.get_node_id.result; flags = c.scope_flags.result }) ≡ scope_line c.args.scope scope = search rules in
    writes_not_then g.K.Sink.held g.K.Sink.faults _ _ (scope_line c.args.scope scope) (flat_map (bind_line c.args.scope) (bindings_of c.args.scoping.now c.args.scope)) _ _ c.from_residual.result
    (writes_made g.K.Sink.held g.K.Sink.faults _ _ _ _ _ _ _ c.in_err-offer_made.ensures c.make_scope_line-made.ensures same (row.scope _ _, refl)) c.from_residual.ensures.1 refl

pub returns : goal.returns
returns g c =
    let scope = scope_of c.args.scoping.now c.args.scope in
    let same : scope_line c.args.scope (record { parent = c.scope_parent_id-parent.result; node = c.get_node_id.result; flags = c.scope_flags.result }) ≡ scope_line c.args.scope scope = search rules in
    writes_then g.K.Sink.held g.K.Sink.faults _ _ _ (scope_line c.args.scope scope) _ _ _ _
    (writes_made g.K.Sink.held g.K.Sink.faults _ _ _ _ _ _ _ c.in_ok-offer_made.ensures c.make_scope_line-made.ensures same (row.scope _ _, refl)) c.write_bindings.ensures (rw c.get_bindings.ensures refl)
