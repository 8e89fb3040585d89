use Rattle.std.proofs.Common.{ap, ◌∙◌}
use Rattle.module_linker.specs.Codes.{status_for}
use Rattle.module_linker.proofs.Answering.{gives_refusal, gives_part, gives_all}
use Rattle.module_linker.proofs.program.answer.Goals as goal

pub returns-in_err-links : goal.returns-in_err-links
returns-in_err-links g c = gives_refusal g.K.Sink.held g.K.Sink.faults c.args.modules.now c.args.out.now c.in_err-links.field-0.0 c.from_residual.result c.in_err-links.ensures.refused c.from_residual.ensures.1

pub returns-in_err-write_links : goal.returns-in_err-write_links
returns-in_err-write_links g c =
    gives_part g.K.Sink.held g.K.Sink.faults c.args.modules.now _ _ c.in_ok-links.links c.in_err-write_links.field-0.0 c.from_residual-in_err-write_links.result c.in_ok-links.ensures.linkable c.in_ok-links.ensures.linked (rw c.as_slice.ensures at c.in_err-write_links.ensures.written) c.from_residual-in_err-write_links.ensures.1

pub returns : goal.returns
returns g c =
    gives_all g.K.Sink.held g.K.Sink.faults c.args.modules.now _ _ c.in_ok-links.links c.status_for.result c.in_ok-links.ensures.linkable c.in_ok-links.ensures.linked (rw c.as_slice.ensures at c.in_ok-write_links.ensures.written)
    (c.status_for.ensures ∙ ap status_for c.as_slice-2.ensures)
