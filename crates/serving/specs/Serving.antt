-- What it is to answer requests one behind the other.
use Rattle.std.specs.Prelude.{◌≡◌, ◌⊎◌, ◌-◌, ◌^◌, ℕ, List, [], ◌∷◌, length, Option, Some, None, String}
use Rattle.std.specs.List.{concat}
use Rattle.std.specs.Io.KnownBytes.{Appends, Consumes}
use Rattle.std.specs.declared.alloc.Global.{Global}
use Rattle.report_ends.specs.Offers.{Offering, OffersUntil, OffersPart, OffersEach}
use Rattle.report_ends.specs.Streams.{AppendsPrefix}
use Rattle.std.specs.Str.{IsUtf8}
use Rattle.serving.specs.Requests.{Answer, IsRequest, IsAnswered}
use Rattle.serving.specs.Reads.{IsDone, IsCut, IsTooLong}
use Rattle.serving.specs.declared.fault.ServeFault.{ServeFault}
use Rattle.serving.specs.declared.fault.ServeFault.TheVariants as fault

-- each of these requests is answered by the text at its place
abbrev pub EachAnswered : (List (String Global) → List ℕ → Answer → Type 0) → List (List ℕ) → List (List ℕ) → Type 0
EachAnswered Answers [] [] = Unit {0}
EachAnswered Answers [] (told ∷ tells) = ⊥
EachAnswered Answers (asked ∷ asks) [] = ⊥
EachAnswered Answers (asked ∷ asks) (told ∷ tells) = IsAnswered Answers asked told × EachAnswered Answers asks tells

-- any text
abbrev pub AnyText : List ℕ → Type 0
AnyText text = Unit {0}

-- the source has lost requests, and the sink has got the answer to each, in this order, where these tell their bytes; each answer was offered as one piece
pub record HasServed {K : Type 0} (Offered : Offering K) (Answers : List (String Global) → List ℕ → Answer → Type 0) (left left_then held held_then : Option (List ℕ)) (old new : K) : Type 0 where
  pub asked : List (List ℕ)
  pub told : List (List ℕ)
  pub answered : EachAnswered Answers asked told
  pub read : Consumes left left_then (concat asked)
  pub written : Appends held held_then (concat told)
  pub pieces : OffersEach Offered AnyText told old new

-- the source has lost one request, and the sink has got the answer to it, which was offered as one piece
pub record HasServedOne {K : Type 0} (Offered : Offering K) (Answers : List (String Global) → List ℕ → Answer → Type 0) (left left_then held held_then : Option (List ℕ)) (old new : K) : Type 0 where
  pub asked : List ℕ
  pub told : List ℕ
  pub answered : IsAnswered Answers asked told
  pub read : Consumes left left_then asked
  pub written : Appends held held_then told
  pub piece : OffersUntil Offered old told new []

-- nothing is offered
pub record OffersNone {K : Type 0} (held held_then : Option (List ℕ)) (old new : K) : Type 0 where
  pub written : Appends held held_then []
  pub same : new ≡ old

-- one more request is answered, or there is none
abbrev pub Turn : {K : Type 0} → Offering K → (List (String Global) → List ℕ → Answer → Type 0) → Option (List ℕ) → Option (List ℕ) → Option (List ℕ) → Option (List ℕ) → K → K → Option Unit → Type 0
Turn Offered Answers left left_then held held_then old new (Some u) = HasServedOne Offered Answers left left_then held held_then old new
Turn Offered Answers left left_then held held_then old new None = IsDone left left_then × OffersNone held held_then old new

-- the source has lost one request, the answer to it was offered as one piece, and the sink has got a prefix of that, and not all
pub record TookPrefix {K : Type 0} (Offered : Offering K) (Answers : List (String Global) → List ℕ → Answer → Type 0) (left left_then held held_then : Option (List ℕ)) (old new : K) : Type 0 where
  pub asked : List ℕ
  pub told : List ℕ
  pub answered : IsAnswered Answers asked told
  pub read : Consumes left left_then asked
  pub written : AppendsPrefix held held_then told
  pub piece : OffersPart Offered old told new

-- nothing is offered, or a part of the answer to the next request is taken
abbrev pub TookPart : {K : Type 0} → Offering K → (List (String Global) → List ℕ → Answer → Type 0) → Option (List ℕ) → Option (List ℕ) → Option (List ℕ) → Option (List ℕ) → K → K → Type 0
TookPart Offered Answers left left_then held held_then old new = OffersNone held held_then old new ⊎ TookPrefix Offered Answers left left_then held held_then old new

-- all requests of the input are answered, and nothing is left of it
pub record ServedAll {K : Type 0} (Offered : Offering K) (Answers : List (String Global) → List ℕ → Answer → Type 0) (left left_then held held_then : Option (List ℕ)) (old new : K) : Type 0 where
  pub between : Option (List ℕ)
  pub served : HasServed Offered Answers left between held held_then old new
  pub done : IsDone between left_then

-- ---- what stops

-- why a request that was read isn't answered: its words aren't UTF-8, or memory is wanting
abbrev pub AnswerCause : (text : List ℕ) → ServeFault → Type 0
AnswerCause text fault.Words = ¬ IsUtf8 text
AnswerCause text fault.Memory = Unit {0}
AnswerCause text other = ⊥

-- why an answer isn't written: the sink failed, or memory is wanting
abbrev pub OfferCause : (failed : Type 0) → ServeFault → Type 0
OfferCause failed fault.Write = failed
OfferCause failed fault.Memory = Unit {0}
OfferCause failed other = ⊥

-- the source has lost a request whose words aren't UTF-8
pub record HasNoWords (left left_then : Option (List ℕ)) : Type 0 where
  pub asked : List ℕ
  pub text : List ℕ
  pub input : List ℕ
  pub request : IsRequest asked text input
  pub read : Consumes left left_then asked
  pub other : ¬ IsUtf8 text

-- why the next request isn't answered: the source or the sink failed, the input ends within the request, it is too long, its words aren't
-- UTF-8, it is one too many, or memory is wanting
abbrev pub FaultCause : (read_failed write_failed many : Type 0) (left left_then : Option (List ℕ)) → ServeFault → Type 0
FaultCause read_failed write_failed many left left_then fault.Read = read_failed
FaultCause read_failed write_failed many left left_then fault.Write = write_failed
FaultCause read_failed write_failed many left left_then fault.Cut = IsCut left left_then
FaultCause read_failed write_failed many left left_then fault.TooLong = IsTooLong left left_then
FaultCause read_failed write_failed many left left_then fault.Words = HasNoWords left left_then
FaultCause read_failed write_failed many left left_then fault.TooMany = many
FaultCause read_failed write_failed many left left_then fault.Memory = Unit {0}

-- the first requests of the input are answered, of the next answer the sink has got a prefix at most, and this is why
pub record ServedSome {K : Type 0} (Offered : Offering K) (Answers : List (String Global) → List ℕ → Answer → Type 0) (read_failed write_failed : Type 0) (left left_then held held_then : Option (List ℕ)) (old new : K) (why : ServeFault) : Type 0 where
  pub between : Option (List ℕ)
  pub held_between : Option (List ℕ)
  pub out_between : K
  pub served : HasServed Offered Answers left between held held_between old out_between
  pub part : TookPart Offered Answers between left_then held_between held_then out_between new
  pub cause : FaultCause read_failed write_failed (length served.told ≡ 2 ^ 32 - 1) between left_then why
