-- What becomes of a tool that is run over the real ends.
use Rattle.std.proofs.Common.{inl, inr}
use Rattle.program_ends.specs.Meaning.{End}
use Rattle.program_ends.specs.Running.{EndsRun}

-- what a run gives is what it is said to give
pub ends_as : {S : Type 0} (end_of : S → End) (Given Said : S → Type 0) (result : S) → ((status : S) → Given status → Said status) → EndsRun end_of Given result → EndsRun end_of Said result
ends_as end_of Given Said result says (inl early) = inl early
ends_as end_of Given Said result says (inr run) = inr (run.0, says run.0 run.1, run.2, run.3, run.4)
