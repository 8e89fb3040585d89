-- Requests that are answered one behind the other.
use Rattle.std.proofs.Common.{◌≡◌, ◌-◌, ◌^◌, ◌++◌, ◌∷◌, [], ℕ, List, length, Option, Result, Ok, Err, OnErr, IfErr, String, refl, sym, ap, subst, ◌∙◌, inl, inr, append-nil}
use Rattle.std.specs.List.{concat}
use Rattle.std.proofs.lemmas.List.Folds.{concat-append}
use Rattle.std.specs.Result.{IsErrAnd}
use Rattle.std.specs.Io.KnownBytes.{Consumes, Appends}
use Rattle.std.proofs.KnownBytes.{Consumes-nil, Consumes-trans, Appends-nil, Appends-trans}
use Rattle.std.specs.declared.alloc.Global.{Global}
use Rattle.report_ends.specs.Causes.{Rose}
use Rattle.report_ends.specs.Streams.{AppendsPrefix}
use Rattle.report_ends.specs.Offers.{Offering, OffersUntil, OffersPart, OffersEach}
use Rattle.report_ends.proofs.Offering.{each_append}
use Rattle.serving.specs.Requests.{Answer, IsRequest, IsAnswerTo, IsAnswered, answer_bytes}
use Rattle.serving.specs.Reads.{IsDone, IsCut, IsTooLong, ReadCause}
use Rattle.serving.specs.Serving.{AnyText, EachAnswered, HasServed, HasServedOne, OffersNone, TookPart, ServedAll, ServedSome, AnswerCause, OfferCause, FaultCause}
use Rattle.serving.proofs.Steps.{stopped_by, rose_since}
use Rattle.serving.specs.declared.fault.ServeFault.{ServeFault}
use Rattle.serving.specs.declared.fault.ServeFault.TheVariants as fault

-- ---- what stops a turn

-- no request is read
of_reading : (read write many : Type 0) (a b : Option (List ℕ)) (why : ServeFault) → ReadCause read (IsCut a b) (IsTooLong a b) why → FaultCause read write many a b why
of_reading read write many a b fault.Read cause = cause
of_reading read write many a b fault.Cut cause = cause
of_reading read write many a b fault.TooLong cause = cause
of_reading read write many a b fault.Memory cause = tt
of_reading read write many a b fault.Write cause = absurd cause
of_reading read write many a b fault.Words cause = absurd cause
of_reading read write many a b fault.TooMany cause = absurd cause

pub unread : {T : Type 0} (read write many : Type 0) (a b : Option (List ℕ)) (why : ServeFault) (result : Result T ServeFault) → ReadCause read (IsCut a b) (IsTooLong a b) why → IsErrAnd result (λ told. told ≡ why) → IfErr result (FaultCause read write many a b)
unread read write many a b why result cause same = stopped_by (FaultCause read write many a b) why result (of_reading read write many a b why cause) same

-- a request isn't answered
of_answering : (read write many : Type 0) (a b : Option (List ℕ)) (asked text input : List ℕ) (why : ServeFault) → IsRequest asked text input → Consumes a b asked → AnswerCause text why → FaultCause read write many a b why
of_answering read write many a b asked text input fault.Words request consumed cause = record { asked = asked; text = text; input = input; request = request; read = consumed; other = cause }
of_answering read write many a b asked text input fault.Memory request consumed cause = tt
of_answering read write many a b asked text input fault.Read request consumed cause = absurd cause
of_answering read write many a b asked text input fault.Cut request consumed cause = absurd cause
of_answering read write many a b asked text input fault.TooLong request consumed cause = absurd cause
of_answering read write many a b asked text input fault.Write request consumed cause = absurd cause
of_answering read write many a b asked text input fault.TooMany request consumed cause = absurd cause

pub unanswered : {T : Type 0} (read write many : Type 0) (a b : Option (List ℕ)) (asked text input : List ℕ) (why : ServeFault) (result : Result T ServeFault) → IsRequest asked text input → Consumes a b asked → AnswerCause text why → IsErrAnd result (λ told. told ≡ why)
    → IfErr result (FaultCause read write many a b)
unanswered read write many a b asked text input why result request consumed cause same =
    stopped_by (FaultCause read write many a b) why result (of_answering read write many a b asked text input why request consumed cause) same

-- an answer isn't written
of_offering : (read write many : Type 0) (a b : Option (List ℕ)) (why : ServeFault) → OfferCause write why → FaultCause read write many a b why
of_offering read write many a b fault.Write cause = cause
of_offering read write many a b fault.Memory cause = tt
of_offering read write many a b fault.Read cause = absurd cause
of_offering read write many a b fault.Cut cause = absurd cause
of_offering read write many a b fault.TooLong cause = absurd cause
of_offering read write many a b fault.Words cause = absurd cause
of_offering read write many a b fault.TooMany cause = absurd cause

pub unoffered : {T : Type 0} (read write many : Type 0) (a b : Option (List ℕ)) (why : ServeFault) (result : Result T ServeFault) → OfferCause write why → IsErrAnd result (λ told. told ≡ why) → IfErr result (FaultCause read write many a b)
unoffered read write many a b why result cause same = stopped_by (FaultCause read write many a b) why result (of_offering read write many a b why cause) same

-- counts that were as before
cause_since : (many : Type 0) (a b : Option (List ℕ)) (read read_mid read_now write write_mid write_now : ℕ) (why : ServeFault) → read_mid ≡ read → write_mid ≡ write → FaultCause (Rose read_mid read_now) (Rose write_mid write_now) ⊥ a b why
    → FaultCause (Rose read read_now) (Rose write write_now) many a b why
cause_since many a b read read_mid read_now write write_mid write_now fault.Read read_kept write_kept cause = rose_since read read_mid read_now read_kept cause
cause_since many a b read read_mid read_now write write_mid write_now fault.Write read_kept write_kept cause = rose_since write write_mid write_now write_kept cause
cause_since many a b read read_mid read_now write write_mid write_now fault.Cut read_kept write_kept cause = cause
cause_since many a b read read_mid read_now write write_mid write_now fault.TooLong read_kept write_kept cause = cause
cause_since many a b read read_mid read_now write write_mid write_now fault.Words read_kept write_kept cause = cause
cause_since many a b read read_mid read_now write write_mid write_now fault.TooMany read_kept write_kept cause = absurd cause
cause_since many a b read read_mid read_now write write_mid write_now fault.Memory read_kept write_kept cause = tt

-- ---- texts one behind the other

pub concat_last : (texts : List (List ℕ)) (last : List ℕ) → concat (texts ++ last ∷ []) ≡ concat texts ++ last
concat_last texts last = concat-append texts (last ∷ []) ∙ ap (λ end. concat texts ++ end) (append-nil last)

pub answered_last : (Answers : List (String Global) → List ℕ → Answer → Type 0) (asks tells : List (List ℕ)) (asked told : List ℕ) → EachAnswered Answers asks tells → IsAnswered Answers asked told → EachAnswered Answers (asks ++ asked ∷ []) (tells ++ told ∷ [])
answered_last Answers [] [] asked told each last = (last, tt)
answered_last Answers [] (t ∷ tells) asked told each last = absurd each
answered_last Answers (a ∷ asks) [] asked told each last = absurd each
answered_last Answers (a ∷ asks) (t ∷ tells) asked told (first, each) last = (first, answered_last Answers asks tells asked told each last)

-- ---- turns

module _ {K : Type 0} (Offered : Offering K) (Answers : List (String Global) → List ℕ → Answer → Type 0) where
  -- nothing is offered
  offered_nothing : (left left_then held : Option (List ℕ)) (out : K) → TookPart Offered Answers left left_then held held out out
  offered_nothing left left_then held out = inl (record { written = Appends-nil held; same = refl })

  -- a fault before anything is offered
  pub nothing_on_fault : {T : Type 0} (result : Result T ServeFault) (left left_then held : Option (List ℕ)) (out : K) → OnErr result (TookPart Offered Answers left left_then held held out out)
  nothing_on_fault (Ok x) left left_then held out = tt
  nothing_on_fault (Err e) left left_then held out = offered_nothing left left_then held out

  is_answered : (asked text input bytes : List ℕ) → IsRequest asked text input → ((answer : Answer) × IsAnswerTo Answers text input answer × (answer_bytes answer ≡ bytes)) → IsAnswered Answers asked bytes
  is_answered asked text input bytes request (answer, answers, same) = record { text = text; input = input; request = request; answer = answer; answers = answers; bytes = same }

  -- a fault while an answer is offered
  pub part_on_fault : {T : Type 0} (result : Result T ServeFault) (asked text input bytes : List ℕ) (left left_then held held_then : Option (List ℕ)) (old new : K) → IsRequest asked text input → Consumes left left_then asked
      → ((answer : Answer) × IsAnswerTo Answers text input answer × (answer_bytes answer ≡ bytes)) → AppendsPrefix held held_then bytes → OffersPart Offered old bytes new → OnErr result (TookPart Offered Answers left left_then held held_then old new)
  part_on_fault (Ok x) asked text input bytes left left_then held held_then old new request read answers part piece = tt
  part_on_fault (Err e) asked text input bytes left left_then held held_then old new request read answers part piece =
      inr (record { asked = asked; told = bytes; answered = is_answered asked text input bytes request answers; read = read; written = part; piece = piece })

  -- an answer is offered
  pub served_one : (asked text input bytes : List ℕ) (left left_then held held_then : Option (List ℕ)) (old new : K) → IsRequest asked text input → Consumes left left_then asked
      → ((answer : Answer) × IsAnswerTo Answers text input answer × (answer_bytes answer ≡ bytes)) → Appends held held_then bytes → OffersUntil Offered old bytes new [] → HasServedOne Offered Answers left left_then held held_then old new
  served_one asked text input bytes left left_then held held_then old new request read answers written piece =
      record { asked = asked; told = bytes; answered = is_answered asked text input bytes request answers; read = read; written = written; piece = piece }

  -- nothing is asked yet
  abbrev pub served_none : (left held : Option (List ℕ)) (out : K) → HasServed Offered Answers left left held held out out
  served_none left held out = record {
    asked = [];
    told = [];
    answered = tt;
    read = Consumes-nil left;
    written = Appends-nil held;
    pieces = refl;
  }

  -- one more is answered
  abbrev pub served_more : (a b c d e f : Option (List ℕ)) (k m n : K) → HasServed Offered Answers a b d e k m → HasServedOne Offered Answers b c e f m n → HasServed Offered Answers a c d f k n
  served_more a b c d e f k m n before one = record {
    asked = before.asked ++ one.asked ∷ [];
    told = before.told ++ one.told ∷ [];
    answered = answered_last Answers before.asked before.told one.asked one.told before.answered one.answered;
    read = subst (Consumes a c) (sym (concat_last before.asked one.asked)) (Consumes-trans a b c (concat before.asked) one.asked before.read one.read);
    written = subst (Appends d f) (sym (concat_last before.told one.told)) (Appends-trans d e f (concat before.told) one.told before.written one.written);
    pieces = each_append Offered AnyText before.told (one.told ∷ []) k m n before.pieces (n, tt, one.piece, refl);
  }

  -- nothing more is asked
  pub served_all : (a b c d e f : Option (List ℕ)) (k m n : K) → HasServed Offered Answers a b d e k m → IsDone b c × OffersNone e f m n → ServedAll Offered Answers a c d f k n
  served_all a b c d e f k m n before (done, none) = record {
    between = b;
    served = record {
      asked = before.asked;
      told = before.told;
      answered = before.answered;
      read = before.read;
      written = subst (Appends d f) (append-nil (concat before.told)) (Appends-trans d e f (concat before.told) [] before.written none.written);
      pieces = subst (λ out. OffersEach Offered AnyText before.told k out) (sym none.same) before.pieces;
    };
    done = done;
  }

  -- what stops a later turn stops them all
  pub served_some : (read write write_mid : ℕ) (read_mid read_now write_now : ℕ) (a b c d e f : Option (List ℕ)) (k m n : K) (why : ServeFault) → HasServed Offered Answers a b d e k m → read_mid ≡ read → write_mid ≡ write → TookPart Offered Answers b c e f m n
      → FaultCause (Rose read_mid read_now) (Rose write_mid write_now) ⊥ b c why → ServedSome Offered Answers (Rose read read_now) (Rose write write_now) a c d f k n why
  served_some read write write_mid read_mid read_now write_now a b c d e f k m n why before read_kept write_kept part cause =
      record { between = b; held_between = e; out_between = m; served = before; part = part; cause = cause_since (length before.told ≡ 2 ^ 32 - 1) b c read read_mid read_now write write_mid write_now why read_kept write_kept cause }

  -- all turns that there are, are taken
  pub served_most : (read write : Type 0) (a b d e : Option (List ℕ)) (k m : K) (before : HasServed Offered Answers a b d e k m) → length before.told ≡ 2 ^ 32 - 1 → ServedSome Offered Answers read write a b d e k m fault.TooMany
  served_most read write a b d e k m before many = record { between = b; held_between = e; out_between = m; served = before; part = offered_nothing b b e m; cause = many }
