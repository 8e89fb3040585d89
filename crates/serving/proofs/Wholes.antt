-- Whole requests are answered, but for want of memory.
use Rattle.std.proofs.Common.{◌≡◌, ◌⊎◌, ◌<◌, ◌+◌, ◌-◌, ◌^◌, ◌++◌, ◌∷◌, ℕ, zero, suc, List, [], Option, Some, None, String, length, subst, sym, refl, ap, ◌∙◌, inl, inr, arith, append_assoc, append-nil, length-append}
use Rattle.std.specs.List.{concat}
use Rattle.std.specs.Io.KnownBytes.{Consumes, IsAtEnd}
use Rattle.std.specs.Str.{IsUtf8}
use Rattle.std.specs.declared.alloc.Global.{Global}
use Rattle.serving.specs.Requests.{Answer, IsNumber, IsRequest, IsPart, AreWhole, IsAnswered}
use Rattle.report_ends.specs.Offers.{Offering}
use Rattle.serving.specs.Serving.{EachAnswered, HasNoWords, ServedSome, FaultCause}
use Rattle.serving.specs.declared.fault.ServeFault.{ServeFault}
use Rattle.serving.specs.declared.fault.ServeFault.TheVariants as fault
use Rattle.serving.proofs.Steps.{same_front, same_number}

-- ---- how a request is spelled

-- a request and what stands behind it, part by part
pub spelled : (a r t i : List ℕ) (q : IsRequest a t i) → a ++ r ≡ q.text_size ++ (q.input_size ++ (t ++ (i ++ r)))
spelled a r t i q =
    ap (λ xs. xs ++ r) (sym q.whole)
    ∙ append_assoc q.text_size (q.input_size ++ (t ++ i)) r
    ∙ ap (λ xs. q.text_size ++ xs) (append_assoc q.input_size (t ++ i) r ∙ ap (λ xs. q.input_size ++ xs) (append_assoc t i r))

-- it begins with two numbers
numbers : (a r t i ts is more : List ℕ) (m n : ℕ) (q : IsRequest a t i) → IsNumber ts m → IsNumber is n → a ++ r ≡ ts ++ (is ++ more) → (length t ≡ m) × (length i ≡ n) × (t ++ (i ++ r) ≡ more)
numbers a r t i ts is more m n q of_ts of_is same =
    let outer : (q.text_size ≡ ts) × (q.input_size ++ (t ++ (i ++ r)) ≡ is ++ more) = same_front q.text_size (q.input_size ++ (t ++ (i ++ r))) ts (is ++ more) (q.text_length.sized ∙ sym of_ts.sized) (sym (spelled a r t i q) ∙ same) in
    let inner : (q.input_size ≡ is) × (t ++ (i ++ r) ≡ more) = same_front q.input_size (t ++ (i ++ r)) is more (q.input_length.sized ∙ sym of_is.sized) outer.1 in
    (same_number q.text_size ts (length t) m q.text_length of_ts outer.0, same_number q.input_size is (length i) n q.input_length of_is inner.0, inner.1)

-- a request is known by the bytes that it begins
same_request : (a r b s t i u j : List ℕ) → IsRequest a t i → IsRequest b u j → a ++ r ≡ b ++ s → (t ≡ u) × (r ≡ s)
same_request a r b s t i u j p q same =
    let sizes = numbers a r t i q.text_size q.input_size (u ++ (j ++ s)) (length u) (length j) p q.text_length q.input_length (same ∙ spelled b s u j q) in
    let texts : (t ≡ u) × (i ++ r ≡ j ++ s) = same_front t (i ++ r) u (j ++ s) sizes.0 sizes.2 in
    let inputs : (i ≡ j) × (r ≡ s) = same_front i r j s sizes.1 texts.1 in
    (texts.0, inputs.1)

-- a number isn't nothing
not_none : (size more : List ℕ) (n : ℕ) → IsNumber size n → [] ≡ size ++ more → ⊥
not_none size more n number same = omega (arith, ap length same, length-append size more, number.sized)

-- ---- what is left behind requests

module _ (Answers : List (String Global) → List ℕ → Answer → Type 0) where
  left_behind : (k m n : ℕ) (rest last told : List ℕ) → IsAnswered Answers last told → n ≡ k + m → AreWhole m (last ++ rest) → (l : ℕ) × (n ≡ suc k + l) × AreWhole l rest
  left_behind k zero n rest last told answered is none = absurd (not_none answered.request.text_size _ _ answered.request.text_length (sym none ∙ spelled last rest answered.text answered.input answered.request))
  left_behind k (suc m) n rest last told answered is (first, more, one, others, same) =
      let after : (answered.text ≡ one.text) × (rest ≡ more) = same_request last rest first more answered.text answered.input one.text one.input answered.request one.request same in
      (m, omega (arith, is), subst (AreWhole m) (sym after.1) others)

  -- behind requests that are answered, whole ones are left
  rest_whole : (n : ℕ) (asks tells : List (List ℕ)) (rest : List ℕ) → EachAnswered Answers asks tells → AreWhole n (concat asks ++ rest) → (m : ℕ) × (n ≡ length tells + m) × AreWhole m rest
  rest_whole n [] [] rest each whole = (n, omega arith, whole)
  rest_whole n [] (told ∷ tells) rest each whole = absurd each
  rest_whole n (asked ∷ asks) [] rest each whole = absurd each
  rest_whole n (asked ∷ asks) (told ∷ tells) rest (first, each) whole =
      let one = left_behind 0 n n (concat asks ++ rest) asked told first (omega arith) (subst (AreWhole n) (append_assoc asked (concat asks) rest) whole) in
      let others = rest_whole one.0 asks tells rest each one.2 in
      (others.0, omega (arith, one.1, others.1), others.2)

-- ---- what doesn't stop whole requests

all_left : (rest part : List ℕ) (left_then : Option (List ℕ)) → Consumes (Some rest) left_then part → IsAtEnd left_then → rest ≡ part
all_left rest part None consumed ended = absurd consumed
all_left rest part (Some ys) consumed ended = consumed ∙ ap (λ xs. part ++ xs) ended ∙ append-nil part

lost : (rest part : List ℕ) (left_then : Option (List ℕ)) → Consumes (Some rest) left_then part → (ys : List ℕ) × (rest ≡ part ++ ys)
lost rest part None consumed = absurd consumed
lost rest part (Some ys) consumed = (ys, consumed)

no_part : (m : ℕ) (rest : List ℕ) → AreWhole m rest → IsPart rest → ⊥
no_part zero rest none part = omega (arith, ap length none, part.some)
no_part (suc m) rest (first, more, one, others, same) part =
    let q = one.request in
    let short : length (one.text ++ (one.input ++ more)) < length one.text + length one.input =
    part.short q.text_size q.input_size (one.text ++ (one.input ++ more)) (length one.text) (length one.input) q.text_length q.input_length (same ∙ spelled first more one.text one.input q) in
    omega (arith, short, length-append one.text (one.input ++ more), length-append one.input more)

no_long : (m : ℕ) (rest ts is more : List ℕ) (n k : ℕ) → AreWhole m rest → IsNumber ts n → IsNumber is k → rest ≡ ts ++ (is ++ more) → (67108864 < n) ⊎ (67108864 < k) → ⊥
no_long zero rest ts is more n k none of_ts of_is same longer = not_none ts (is ++ more) n of_ts (sym none ∙ same)
no_long (suc m) rest ts is more n k (first, others, one, whole, split) of_ts of_is same (inl longer) =
    let sizes = numbers first others one.text one.input ts is more n k one.request of_ts of_is (sym split ∙ same) in
    omega (arith, sizes.0, one.text_fits, longer)
no_long (suc m) rest ts is more n k (first, others, one, whole, split) of_ts of_is same (inr longer) =
    let sizes = numbers first others one.text one.input ts is more n k one.request of_ts of_is (sym split ∙ same) in
    omega (arith, sizes.1, one.input_fits, longer)

no_words : (m : ℕ) (rest ys : List ℕ) (left left_then : Option (List ℕ)) (bad : HasNoWords left left_then) → AreWhole m rest → rest ≡ bad.asked ++ ys → ⊥
no_words zero rest ys left left_then bad none same = not_none bad.request.text_size _ _ bad.request.text_length (sym none ∙ same ∙ spelled bad.asked ys bad.text bad.input bad.request)
no_words (suc m) rest ys left left_then bad (first, more, one, others, split) same =
    let texts : (one.text ≡ bad.text) × (more ≡ ys) = same_request first more bad.asked ys one.text one.input bad.text bad.input one.request bad.request (sym split ∙ same) in
    bad.other (subst IsUtf8 texts.0 one.utf8)

no_fault : (read write many : Type 0) (m : ℕ) (rest : List ℕ) (left_then : Option (List ℕ)) (why : ServeFault) → AreWhole m rest → ¬ read → ¬ write → ¬ many → FaultCause read write many (Some rest) left_then why → why ≡ fault.Memory
no_fault read write many m rest left_then fault.Read whole unread unwritten few cause = absurd (unread cause)
no_fault read write many m rest left_then fault.Write whole unread unwritten few cause = absurd (unwritten cause)
no_fault read write many m rest left_then fault.TooMany whole unread unwritten few cause = absurd (few cause)
no_fault read write many m rest left_then fault.Cut whole unread unwritten few cause =
    absurd (no_part m rest whole (subst IsPart (sym (all_left rest cause.part left_then cause.read cause.ended)) cause.is_part))
no_fault read write many m rest left_then fault.TooLong whole unread unwritten few cause =
    let behind = lost rest (cause.text_size ++ (cause.input_size ++ cause.more)) left_then cause.read in
    let split : rest ≡ cause.text_size ++ (cause.input_size ++ (cause.more ++ behind.0)) =
    behind.1 ∙ append_assoc cause.text_size (cause.input_size ++ cause.more) behind.0 ∙ ap (λ xs. cause.text_size ++ xs) (append_assoc cause.input_size cause.more behind.0) in
    absurd (no_long m rest cause.text_size cause.input_size (cause.more ++ behind.0) cause.text_length cause.input_length whole cause.text_number cause.input_number split cause.longer)
no_fault read write many m rest left_then fault.Words whole unread unwritten few cause =
    let behind = lost rest cause.asked left_then cause.read in
    absurd (no_words m rest behind.0 (Some rest) left_then cause whole behind.1)
no_fault read write many m rest left_then fault.Memory whole unread unwritten few cause = refl

-- what is left of known bytes
rest_of : (input asked : List ℕ) (between : Option (List ℕ)) → Consumes (Some input) between asked → (rest : List ℕ) × (between ≡ Some rest) × (input ≡ asked ++ rest)
rest_of input asked None consumed = absurd consumed
rest_of input asked (Some rest) consumed = (rest, refl, consumed)

-- want of memory alone stops the answers to whole requests
pub only_memory : {K : Type 0} (Offered : Offering K) (Answers : List (String Global) → List ℕ → Answer → Type 0) (read write : Type 0) (left left_then held held_then : Option (List ℕ)) (old new : K) (why : ServeFault)
    → ServedSome Offered Answers read write left left_then held held_then old new why → (count : ℕ) (input : List ℕ) → count < 2 ^ 32 - 1 → left ≡ Some input → AreWhole count input → ¬ read → ¬ write → why ≡ fault.Memory
only_memory Offered Answers read write left left_then held held_then old new why stops count input few told whole unread unwritten =
    let asked = concat stops.served.asked in
    let known = rest_of input asked stops.between (subst (λ xs. Consumes xs stops.between asked) told stops.served.read) in
    let behind = rest_whole Answers count stops.served.asked stops.served.told known.0 stops.served.answered (subst (AreWhole count) known.2 whole) in
    no_fault read write (length stops.served.told ≡ 2 ^ 32 - 1) behind.0 known.0 left_then why behind.2 unread unwritten (λ many. omega (arith, many, few, behind.1))
    (subst (λ xs. FaultCause read write (length stops.served.told ≡ 2 ^ 32 - 1) xs left_then why) known.1 stops.cause)
