-- What the ends in memory stand for.
use Rattle.std.specs.Prelude.{◌≡◌, ℕ, ◌+◌, ◌-◌, ◌^◌, min, List, drop, Some, Result}
use Rattle.std.specs.Io.KnownBytes.{WriteAppends}
use Rattle.report_ends.specs.declared.ends.WriteFault.{WriteFault}
use Rattle.report_ends.specs.declared.memory.MemorySource.{MemorySource}
use Rattle.report_ends.specs.declared.memory.MemorySink.{MemorySink}
use Rattle.report_ends.specs.declared.sure.SureSource.{SureSource}
use Rattle.report_ends.specs.declared.sure.SureSink.{SureSink}

-- the bytes that the source has left
abbrev pub source_left : MemorySource → List ℕ
source_left s = drop s.place s.bytes.items

-- the numbers of the calls that fail
abbrev pub source_failing : MemorySource → List ℕ
source_failing s = s.failing.items

-- how many calls there were
abbrev pub source_calls : MemorySource → ℕ
source_calls s = s.calls

-- the most bytes that a read moves
abbrev pub source_most : MemorySource → ℕ
source_most s = s.most

-- the bytes that the sink has taken
abbrev pub sink_held : MemorySink → List ℕ
sink_held s = s.bytes.items

-- the numbers of the calls that fail
abbrev pub sink_failing : MemorySink → List ℕ
sink_failing s = s.failing.items

-- how many calls there were
abbrev pub sink_calls : MemorySink → ℕ
sink_calls s = s.calls

-- the most bytes that a write takes
abbrev pub sink_most : MemorySink → ℕ
sink_most s = s.most

-- the number of the next call, which stops at `u64::MAX`
abbrev pub next_call : ℕ → ℕ
next_call calls = min (calls + 1) (2 ^ 64 - 1)

-- a call on the sink is counted, and appends the bytes that it took of the piece
abbrev pub Wrote : MemorySink → List ℕ → Result ℕ WriteFault → MemorySink → Type 0
Wrote old piece answer new = WriteAppends (Some (sink_held old)) (Some (sink_held new)) answer piece × (sink_calls new ≡ next_call (sink_calls old))

-- the bytes that the source has left
abbrev pub sure_left : SureSource → List ℕ
sure_left s = drop s.place s.bytes.items

-- the bytes that the sink has taken
abbrev pub sure_held : SureSink → List ℕ
sure_held s = s.bytes.items
