use Rattle.std.proofs.Common.{refl}
use Rattle.program_ends.proofs.Inputs.{refused_input, memory_told, reads_form}
use Rattle.program_ends.proofs.input.program_in.Goals as goal

pub returns-in_err-program-clause-refused : goal.returns-in_err-program-clause-refused
returns-in_err-program-clause-refused c = refused_input c.args.input.now c.in_err-program.field-0.0 c.from_residual.result c.in_err-program.ensures.refused c.from_residual.ensures.1

pub returns-in_err-program-clause-complete : goal.returns-in_err-program-clause-complete
returns-in_err-program-clause-complete c = λ program stands.
    memory_told c.in_err-program.field-0.0 c.from_residual.result (rw c.in_err-program.was at (reads_form c.args.input.now c.args.input.now program c.read_program.result c.read_program.ensures.complete refl stands)) c.from_residual.ensures.1
