use Rattle.std.proofs.Common.{subst}
use Rattle.memchr.specs.Find.{IsFirstByte, is_byte}
use Rattle.statement_checks.proofs.Skipped.{past_sliced}
use Rattle.statement_checks.proofs.escapes.past_backslash.Goals as goal

pub returns-in-Some-clause-escapes : goal.returns-in-Some-clause-escapes
returns-in-Some-clause-escapes c = past_sliced c.args.left.now c.in-Some.at (subst (IsFirstByte (is_byte 92) c.args.left.now) c.in-Some.is c.memchr.ensures)
