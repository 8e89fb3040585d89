use Rattle.std.proofs.Common.{rules, ◌≡◌, refl}
use Rattle.node_store.specs.Seen.{seen}
use Rattle.report_lines.specs.CountLines.{node_line, node_line_by}
use Rattle.report_lines.specs.Rows as row
use Rattle.report_lines.proofs.Made.{writes_made}
use Rattle.report_lines.proofs.write_nodes.write_node.Goals as goal

pub returns : goal.returns
returns g c =
    let same : node_line c.args.id c.ty.result c.parent_id-parent.result c.scope_id.result ≡ node_line_by c.args.nodes.now.parents (c.args.id, seen c.args.node.now) = search rules in
    writes_made g.K.Sink.held g.K.Sink.faults _ _ _ _ _ _ _ c.offer_made.ensures c.make_node_line-made.ensures same (row.node _ _ _ _, refl)
