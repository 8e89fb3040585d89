use Rattle.std.proofs.Common.{ap, ◌∙◌, not}
use Rattle.report_lines.proofs.NamesOnce.{set_once}
use Rattle.report_lines.proofs.free_names.name_once.Goals as goal

pub returns-then-is_none : goal.returns-then-is_none
returns-then-is_none c = rw (← c.index-place.ensures) (set_once c.args.names.now c.index-place.result c.args.name c.if-place-names.true (c.is_none.ensures ∙ ap not c.if-is_none.true))
