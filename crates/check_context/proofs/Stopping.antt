-- What a check leaves that stops for want of memory.
use Rattle.std.proofs.Common.{List, Result, Ok, Err}
use Rattle.std.specs.Result.{IsErrAnd}
use Rattle.semantic_diagnostics.specs.declared.diagnostic.Diagnostic.{Diagnostic}
use Rattle.check_context.specs.Tells.{TellsSome, IsTelling, Tells}

-- the first rows are told
pub stopped : {A E : Type 0} (P : E → Type 0) (r : Result A E) (rows before now : List Diagnostic) → IsErrAnd r P → TellsSome rows before now → Tells r rows before now
stopped P (Ok done) rows before now h k = absurd h
stopped P (Err want) rows before now h k = k

-- those that are not left are the first
pub all_told_so_far : (rows left before now : List Diagnostic) → IsTelling rows left before now → TellsSome rows before now
all_told_so_far rows left before now h = record { told = h.told; left = left; are_first = h.are_first; are_last = h.are_last }
