-- What is told of the program `break;`.
use lib.Utf8.{encode}
use Rattle.std.specs.Str.{chars}
use Rattle.std.proofs.Common.{◌≡◌, true, refl}
use Rattle.check_model.specs.DiagnosticsOf.{diagnostics_of}
use Rattle.check_trials.specs.LoneBreak.{lone_break, illegal_break}

pub lone_break_told : diagnostics_of true lone_break ≡ illegal_break
unfolding encode chars
lone_break_told = refl
