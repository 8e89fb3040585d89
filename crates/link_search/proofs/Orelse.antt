-- The first of two options.
use Rattle.std.proofs.Common.{Option, Some, None}

abbrev pub or_else : {A : Type 0} → Option A → Option A → Option A
or_else None later = later
or_else (Some x) later = Some x
