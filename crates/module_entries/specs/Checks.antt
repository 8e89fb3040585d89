-- What a check of modules finds.
use Rattle.std.specs.Prelude.{◌≡◌, Option, Some, None, Result, Ok, Err}
use Rattle.module_set.specs.declared.error.LinkError.{LinkError}
use Rattle.module_set.specs.Outcome.{IsWantOfMemory}

-- nothing is refused, or this is the refusal, unless memory was wanting
abbrev pub Checks : {T : Type 0} → Option LinkError → Result T LinkError → Type 0
Checks refusal (Ok done) = refusal ≡ None
Checks refusal (Err e) = ¬ IsWantOfMemory e → refusal ≡ Some e
