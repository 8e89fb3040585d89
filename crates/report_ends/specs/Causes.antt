-- When a call may answer a fault: where the count of faults of the end that was handed in has risen, and there alone it rises.
use Rattle.std.specs.Prelude.{◌≡◌, ◌⊎◌, ℕ, ◌+◌, ◌-◌, ◌^◌, ◌<◌, ◌≤◌, min, List, length, Result, OnOk, OnErr, IfOk, IsErrOf}
use Rattle.report_ends.specs.declared.ends.WriteFault.{WriteFault}
use Rattle.report_ends.specs.declared.ends.WriteFault.TheVariants.{Failed, Memory}

-- a count that stops at `u64::MAX` has risen, or stands there
abbrev pub Rose : ℕ → ℕ → Type 0
Rose before now = min (before + 1) (2 ^ 64 - 1) ≤ now

-- a read fails where the count rose, and only there
pub record ReadHasCause {T E : Type 0} (before now : ℕ) (result : Result T E) : Type 0 where
  pub later : before ≤ now
  pub kept : OnOk result (now ≡ before)
  pub failed : OnErr result (Rose before now)

-- a write fails, or takes nothing of a piece that isn't empty, where the count rose, and only there
pub record WriteHasCause (before now : ℕ) (piece : List ℕ) (result : Result ℕ WriteFault) : Type 0 where
  pub later : before ≤ now
  pub kept : IfOk result (λ count. (0 < count) ⊎ (length piece ≡ 0) → now ≡ before)
  pub wanting : IsErrOf result Memory → now ≡ before
  pub failed : IsErrOf result Failed → Rose before now
  pub stalled : IfOk result (λ count. count ≡ 0 → 0 < length piece → Rose before now)
