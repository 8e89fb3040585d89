-- How the bytes that a sink holds grow over several calls.
use Rattle.std.proofs.Common.{◌<◌, ◌≤◌, ◌≡◌, ℕ, ◌+◌, ◌-◌, List, ◌++◌, length, take, drop, Option, subst, sym, arith, ap, ◌∙◌, take-append-drop, refl, append_assoc, append-nil, [], length-drop}
use Rattle.std.proofs.lemmas.Grind.{common_steps}
use Rattle.std.proofs.KnownBytes.{Appends-trans, Appends-nil}
use Rattle.report_ends.specs.Streams.{HasWritten, AppendsPrefix}
use Rattle.std.proofs.lemmas.List.{drop-drop}
use Rattle.std.specs.Io.KnownBytes.{Appends}

-- the rest of a list is not cut by its own length
pub take_rest : (n : ℕ) (xs : List ℕ) → take (length xs - n) (drop n xs) ≡ drop n xs
take_rest n xs = grind (arith, common_steps)

-- what is taken of the rest is inside
pub taken_inside : (n m : ℕ) (xs : List ℕ) → n < length xs → m ≤ length (take (length xs - n) (drop n xs)) → n + m ≤ length xs
taken_inside n m xs some bound =
    let most : m ≤ length (drop n xs) = subst (λ rest. m ≤ length rest) (take_rest n xs) bound in
    omega (arith, most, length-drop n xs, some)

-- nothing yet
pub wrote_nothing : (a : Option (List ℕ)) (text : List ℕ) → HasWritten a a text text
wrote_nothing a text = record { part = []; appended = Appends-nil a; whole = refl }

-- the front of the rest too
pub wrote_then : (a b c : Option (List ℕ)) (front rest old_rest text : List ℕ) → HasWritten a b old_rest text → Appends b c front → front ++ rest ≡ old_rest → HasWritten a c rest text
wrote_then a b c front rest old_rest text before call split = record {
  part = before.part ++ front;
  appended = Appends-trans a b c before.part front before.appended call;
  whole = append_assoc before.part front rest ∙ ap (λ end. before.part ++ end) split ∙ before.whole;
}

-- a prefix of the front of the rest
pub wrote_prefix : (a b c : Option (List ℕ)) (front rest old_rest text : List ℕ) → HasWritten a b old_rest text → AppendsPrefix b c front → front ++ rest ≡ old_rest → AppendsPrefix a c text
wrote_prefix a b c front rest old_rest text before (left, call) split =
    (left ++ rest, wrote_then a b c call.part (left ++ rest) old_rest text before call.appended (sym (append_assoc call.part left rest) ∙ ap (λ start. start ++ rest) call.whole ∙ split))

pub wrote_whole : (a b : Option (List ℕ)) (text : List ℕ) → HasWritten a b [] text → Appends a b text
wrote_whole a b text written = subst (Appends a b) (sym (append-nil written.part) ∙ written.whole) written.appended

-- a call took some of the rest
pub wrote_more : (a b c : Option (List ℕ)) (n m : ℕ) (xs : List ℕ) → HasWritten a b (drop n xs) xs → Appends b c (take m (take (length xs - n) (drop n xs))) → HasWritten a c (drop (n + m) xs) xs
wrote_more a b c n m xs before call =
    let front = take m (drop n xs) in
    let taken : Appends b c front = subst (λ rest. Appends b c (take m rest)) (take_rest n xs) call in
    let split : front ++ drop (n + m) xs ≡ drop n xs = ap (λ rest. front ++ rest) (sym (drop-drop m n xs)) ∙ take-append-drop m (drop n xs) in
    wrote_then a b c front (drop (n + m) xs) (drop n xs) xs before taken split

pub wrote_all : (a b : Option (List ℕ)) (n : ℕ) (xs : List ℕ) → HasWritten a b (drop n xs) xs → length xs ≤ n → Appends a b xs
wrote_all a b n xs written past =
    let none : drop n xs ≡ [] = grind (arith, common_steps) in
    wrote_whole a b xs (subst (λ rest. HasWritten a b rest xs) none written)

-- what is left of a list is the front that was moved, and what is left then
pub front_and_rest : (xs buf : List ℕ) (place count : ℕ) → take count buf ≡ take count (drop place xs) → drop place xs ≡ take count buf ++ drop (place + count) xs
front_and_rest xs buf place count moved =
    sym (take-append-drop count (drop place xs)) ∙ ap (λ front. front ++ drop count (drop place xs)) (sym moved) ∙ ap (λ rest. take count buf ++ rest) (grind (arith, common_steps))

pub none_and_rest : (xs : List ℕ) (place count : ℕ) → count ≡ 0 → drop place xs ≡ drop (place + count) xs
none_and_rest xs place count none = grind (arith, common_steps)
