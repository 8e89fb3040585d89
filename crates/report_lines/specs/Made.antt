-- What becomes of a line that was to be made.
use Rattle.std.specs.Prelude.{◌≡◌, ℕ, List, Option, Result, OnOk, OnErr}
use Rattle.std.specs.Result.{IsErrAnd}
use Rattle.report_ends.specs.declared.error.ReportError.{ReportError}
use Rattle.report_ends.specs.declared.error.ReportError.TheVariants.{Memory}
use Rattle.report_ends.specs.Offers.{Offering, OffersPiece}
use Rattle.report_ends.specs.Streams.{Writes}

-- A line that was made is offered as one piece. Where memory was wanting to make it nothing is offered, and that is told.
pub record OffersMade {K A E : Type 0} (held : K → Option (List ℕ)) (faults : K → ℕ) (Offered : Offering K) (old new : K) (made : Result A E) (line : List ℕ) (result : Result Unit ReportError) : Type 0 where
  pub offered : OnOk made (Writes held faults old new line result × OffersPiece Offered old new line result)
  pub lacking : OnErr made ((new ≡ old) × IsErrAnd result (λ told. told ≡ Memory))
