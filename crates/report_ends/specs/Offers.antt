-- In which pieces texts are offered to a sink.
use Rattle.std.specs.Prelude.{◌≡◌, ◌⊎◌, ◌<◌, ℕ, List, [], ◌∷◌, ◌++◌, length, drop, Result, Ok, Err, OnOk, OnErr, IfOk}
use Rattle.std.specs.List.{concat}
use Rattle.report_ends.specs.declared.ends.WriteFault.{WriteFault}
use Rattle.report_ends.specs.declared.error.ReportError.{ReportError}

-- what a sink says of a call on `write`: the sink before it, the piece, the answer, and the sink after it
abbrev pub Offering : Type 0 → Type 1
Offering K = K → List ℕ → Result ℕ WriteFault → K → Type 0

-- ---- one piece

-- Calls offer the piece, and each but the first what the one before left of it. They took so many bytes each, not none, and this is left.
abbrev pub OffersAgain : {K : Type 0} → Offering K → List ℕ → K → List ℕ → K → List ℕ → Type 0
OffersAgain Offered [] old piece new left = (new ≡ old) × (left ≡ piece)
OffersAgain Offered (count ∷ counts) old piece new left = (between : _) × (0 < count) × Offered old piece (Ok count) between × OffersAgain Offered counts between (drop count piece) new left

-- the piece is offered so until this is left
pub record OffersUntil {K : Type 0} (Offered : Offering K) (old : K) (piece : List ℕ) (new : K) (left : List ℕ) : Type 0 where
  pub counts : List ℕ
  pub calls : OffersAgain Offered counts old piece new left

-- the piece is offered so, and then a call takes nothing of what is left, or fails
pub record OffersPart {K : Type 0} (Offered : Offering K) (old : K) (piece : List ℕ) (new : K) : Type 0 where
  pub between : K
  pub left : List ℕ
  pub before : OffersUntil Offered old piece between left
  pub some : 0 < length left
  pub answer : Result ℕ WriteFault
  pub last : Offered between left answer new
  pub nothing : IfOk answer (λ count. count ≡ 0)

-- the text is offered as one piece
pub record OffersPiece {K E : Type 0} (Offered : Offering K) (old new : K) (text : List ℕ) (result : Result Unit E) : Type 0 where
  pub whole : OnOk result (OffersUntil Offered old text new [])
  pub part : OnErr result (OffersPart Offered old text new)

-- ---- a piece for each line

-- each of these is a line and was offered as one piece, in order
abbrev pub OffersEach : {K : Type 0} → Offering K → (List ℕ → Type 0) → List (List ℕ) → K → K → Type 0
OffersEach Offered IsLine [] old new = new ≡ old
OffersEach Offered IsLine (line ∷ lines) old new = (between : _) × IsLine line × OffersUntil Offered old line between [] × OffersEach Offered IsLine lines between new

-- the first lines of the text were offered, each as one piece, and this is the rest of it
pub record HasOffered {K : Type 0} (Offered : Offering K) (IsLine : List ℕ → Type 0) (old new : K) (rest text : List ℕ) : Type 0 where
  pub lines : List (List ℕ)
  pub calls : OffersEach Offered IsLine lines old new
  pub whole : concat lines ++ rest ≡ text

-- the first line of the text was offered as one piece, and the sink didn't take it to its end
pub record StopsWithin {K : Type 0} (Offered : Offering K) (IsLine : List ℕ → Type 0) (old new : K) (text : List ℕ) : Type 0 where
  pub line : List ℕ
  pub behind : List ℕ
  pub is_line : IsLine line
  pub calls : OffersPart Offered old line new
  pub whole : line ++ behind ≡ text

-- the first lines of the text were offered, each as one piece, and of the next a part was taken, or it wasn't offered
pub record OffersSome {K : Type 0} (Offered : Offering K) (IsLine : List ℕ → Type 0) (old new : K) (text : List ℕ) : Type 0 where
  pub between : K
  pub rest : List ℕ
  pub before : HasOffered Offered IsLine old between rest text
  pub last : (new ≡ between) ⊎ StopsWithin Offered IsLine between new rest

-- the lines of the text are offered, each as one piece
abbrev pub OffersLines : {K : Type 0} → Offering K → (List ℕ → Type 0) → K → K → List ℕ → Result Unit ReportError → Type 0
OffersLines Offered IsLine old new text (Ok done) = HasOffered Offered IsLine old new [] text
OffersLines Offered IsLine old new text (Err cause) = OffersSome Offered IsLine old new text
