use Rattle.std.proofs.Common.{refl, subst, sym}
use Rattle.program_ends.proofs.Answering.{gives_none, gives}
use Rattle.mangler.specs.Changing.{options_of}
use Rattle.mangler_program.specs.Codes.{end_of}
use Rattle.mangler_program.specs.Meaning.{Answers, IsMangledText}
use Rattle.mangler_program.specs.declared.status.MangleStatus.TheVariants.{Done}
use Rattle.mangler_program.proofs.program.answer.Goals as goal

pub returns-in_err-text : goal.returns-in_err-text
returns-in_err-text g c = gives_none g.K.Sink.held g.K.Sink.faults end_of (Answers (options_of c.args.options)) c.args.program.now c.args.out.now c.from_residual.result c.from_residual.ensures.1

pub returns : goal.returns
returns g c =
    gives g.K.Sink.held g.K.Sink.faults end_of (Answers (options_of c.args.options)) c.args.program.now _ _ c.as_slice.result.now Done c.write_text.result
    (record { mangled = subst (IsMangledText (options_of c.args.options) c.args.program.now) (sym c.as_slice.ensures.value) c.in_ok-text.ensures; ends = refl })
    c.write_text.ensures
