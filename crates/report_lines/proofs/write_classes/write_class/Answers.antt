use Rattle.std.proofs.Common.{refl, rules, ◌≡◌, flat_map, ap, ◌∙◌, ◌++◌}
use Rattle.class_table.specs.Lists.{elements_in, uses_in}
use Rattle.class_table.specs.Outward.{parent_class}
use Rattle.class_table.specs.Seen.{element_seen}
use Rattle.report_ends.specs.Streams.{numbered_text}
use Rattle.report_ends.proofs.Stages.{writes_not_then, writes_then}
use Rattle.report_lines.specs.Rows as row
use Rattle.report_lines.specs.ClassLines.{class_line, element_line, private_use_line}
use Rattle.report_lines.proofs.Made.{writes_made}
use Rattle.report_lines.proofs.Numbers.{texts_seen}
use Rattle.report_lines.proofs.write_classes.write_class.Goals as goal

pub returns-in_err-offer_made : goal.returns-in_err-offer_made
returns-in_err-offer_made g c =
    let parent = parent_class c.args.classes.now.parents c.args.class in
    let uses = flat_map (private_use_line c.args.class) (uses_in c.args.classes.now c.args.class) in
    let elements = numbered_text (element_line c.args.class) 0 (elements_in c.args.classes.now c.args.class) in
    let same : class_line c.args.class c.args.node c.parent_in-parent.result ≡ class_line c.args.class c.args.node parent = search rules in
    writes_not_then g.K.Sink.held g.K.Sink.faults _ _ (class_line c.args.class c.args.node parent) (elements ++ uses) _ _ c.from_residual.result
    (writes_made g.K.Sink.held g.K.Sink.faults _ _ _ _ _ _ _ c.in_err-offer_made.ensures c.make_class_line-made.ensures same (row.class _ _ _, refl)) c.from_residual.ensures.1 refl

pub returns-in_err-write_elements : goal.returns-in_err-write_elements
returns-in_err-write_elements g c =
    let parent = parent_class c.args.classes.now.parents c.args.class in
    let uses = flat_map (private_use_line c.args.class) (uses_in c.args.classes.now c.args.class) in
    let elements = numbered_text (element_line c.args.class) 0 (elements_in c.args.classes.now c.args.class) in
    let same : class_line c.args.class c.args.node c.parent_in-parent.result ≡ class_line c.args.class c.args.node parent = search rules in
    writes_then g.K.Sink.held g.K.Sink.faults _ _ _ (class_line c.args.class c.args.node parent) (elements ++ uses) _ _ c.from_residual-in_err-write_elements.result
    (writes_made g.K.Sink.held g.K.Sink.faults _ _ _ _ _ _ _ c.in_ok-offer_made.ensures c.make_class_line-made.ensures same (row.class _ _ _, refl))
    (writes_not_then g.K.Sink.held g.K.Sink.faults _ _ _ uses _ _ c.from_residual-in_err-write_elements.result c.in_err-write_elements.ensures c.from_residual-in_err-write_elements.ensures.1 (ap (λ text. text ++ uses) (texts_seen element_seen (element_line c.args.class) 0 _ ∙ ap (numbered_text (element_line c.args.class) 0) c.elements_of.ensures.elements))) refl

pub returns : goal.returns
returns g c =
    let parent = parent_class c.args.classes.now.parents c.args.class in
    let uses = flat_map (private_use_line c.args.class) (uses_in c.args.classes.now c.args.class) in
    let elements = numbered_text (element_line c.args.class) 0 (elements_in c.args.classes.now c.args.class) in
    let same : class_line c.args.class c.args.node c.parent_in-parent.result ≡ class_line c.args.class c.args.node parent = search rules in
    writes_then g.K.Sink.held g.K.Sink.faults _ _ _ (class_line c.args.class c.args.node parent) (elements ++ uses) _ _ _
    (writes_made g.K.Sink.held g.K.Sink.faults _ _ _ _ _ _ _ c.in_ok-offer_made.ensures c.make_class_line-made.ensures same (row.class _ _ _, refl))
    (writes_then g.K.Sink.held g.K.Sink.faults _ _ _ _ _ _ _ _ c.in_ok-write_elements.ensures c.write_uses.ensures (ap (λ text. text ++ uses) (texts_seen element_seen (element_line c.args.class) 0 _ ∙ ap (numbered_text (element_line c.args.class) 0) c.elements_of.ensures.elements))) refl
