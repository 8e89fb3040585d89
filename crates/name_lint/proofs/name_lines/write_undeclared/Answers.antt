use Rattle.std.proofs.Common.{◌<◌, length, map, sym, subst}
use Rattle.std.proofs.lemmas.List.Elements.{All-get_or}
use Rattle.report_ends.proofs.Stages.{flat_map_goes_on, flat_map_fails}
use Rattle.name_lint.specs.Gathered.{text_of, span_of}
use Rattle.name_lint.specs.Lines.{undeclared_line}
use Rattle.name_lint.proofs.name_lines.write_undeclared.Goals as goal

pub write_reference-requires : goal.write_reference-requires
write_reference-requires g c =
    subst (λ r. r < length c.args.nodes.now) (sym c.reference-item.is) (All-get_or (λ r. r < length c.args.nodes.now) c.args.references.now c.loop-reference.reference-index _ c.loop-reference-test.true c.requires)

pub loop-reference-preserved : goal.loop-reference-preserved
loop-reference-preserved g c =
    flat_map_goes_on g.K.Sink.held g.K.Sink.faults (undeclared_line (map text_of c.args.nodes.now) (map span_of c.args.nodes.now)) c.loop-reference.reference-index c.args.references.now _ _ _ _ _ _ c.loop-reference.invariant
    c.loop-reference-test.true c.reference-item.is c.in_ok-write_reference.ensures

pub returns-in_err-write_reference : goal.returns-in_err-write_reference
returns-in_err-write_reference g c =
    flat_map_fails g.K.Sink.held g.K.Sink.faults (undeclared_line (map text_of c.args.nodes.now) (map span_of c.args.nodes.now)) c.loop-reference.reference-index c.args.references.now _ _ _ _ _ _ c.from_residual.result c.loop-reference.invariant
    c.loop-reference-test.true c.reference-item.is c.in_err-write_reference.ensures c.from_residual.ensures.1
