-- The names of loops are ASCII.
use Rattle.std.proofs.Common.{◌≡◌, Bool, true, false, refl}
use Rattle.std.specs.Str.{chars}
use Rattle.semantic_kinds.proofs.Ascii.{ascii_chars}
use Rattle.check_model.specs.Variables.{loop_name}

pub name_chars : (for_in : Bool) → chars (loop_name for_in) ≡ loop_name for_in
name_chars true = ascii_chars (loop_name true) refl
name_chars false = ascii_chars (loop_name false) refl

pub ruleset names = (name_chars)
