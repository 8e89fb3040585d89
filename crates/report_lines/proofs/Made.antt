-- A line that was to be made is written, as the line that it is.
use Rattle.std.proofs.Common.{◌≡◌, ℕ, List, Option, Result, Ok, Err, subst, sym, ◌∙◌}
use Rattle.std.specs.Prelude.{OnOk}
use Rattle.report_ends.specs.declared.error.ReportError.{ReportError}
use Rattle.report_ends.specs.Offers.{Offering}
use Rattle.report_ends.specs.Streams.{WritesLines}
use Rattle.report_ends.proofs.Stages.{lacks_memory_at_once, writes_line}
use Rattle.report_lines.specs.Made.{OffersMade}

module _ {K : Type 0} (held : K → Option (List ℕ)) (faults : K → ℕ) {Offered : Offering K} {IsLine : List ℕ → Type 0} where
  pub writes_made : {A E : Type 0} (a b : K) (made : Result A E) (bytes text line : List ℕ) (result : Result Unit ReportError) → OffersMade held faults Offered a b made bytes result → OnOk made (bytes ≡ text) → text ≡ line → IsLine line → WritesLines held faults Offered IsLine a b line result
  writes_made a b (Ok done) bytes text line result call is same row = writes_line held faults a b bytes line result call.offered.0 call.offered.1 (is ∙ same) row
  writes_made a b (Err want) bytes text line result call is same row = subst (λ k. WritesLines held faults Offered IsLine a k line result) (sym call.lacking.0) (lacks_memory_at_once held faults a line result call.lacking.1)
