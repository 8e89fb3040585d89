-- Texts that are offered in several pieces, and pieces that are offered in several calls.
use Rattle.std.proofs.Common.{◌≡◌, ◌⊎◌, inl, inr, ◌<◌, ◌≤◌, ◌+◌, ◌-◌, ℕ, List, [], ◌∷◌, ◌++◌, length, drop, take, Result, Ok, Err, refl, sym, ap, ◌∙◌, subst, append_assoc, append-nil, arith, length-drop}
use Rattle.std.specs.List.{concat}
use Rattle.std.specs.Result.{IfOk, IsErrAnd}
use Rattle.std.proofs.lemmas.Grind.{common_steps}
use Rattle.std.proofs.lemmas.List.{drop-drop}
use Rattle.report_ends.proofs.Growth.{take_rest}
use Rattle.report_ends.specs.declared.ends.WriteFault.{WriteFault}
use Rattle.report_ends.specs.declared.error.ReportError.{ReportError}
use Rattle.report_ends.specs.Offers.{Offering, OffersAgain, OffersUntil, OffersPart, OffersPiece, OffersEach, HasOffered, StopsWithin, OffersSome, OffersLines}

concat-append : (xs ys : List (List ℕ)) → concat (xs ++ ys) ≡ concat xs ++ concat ys
concat-append [] ys = refl
concat-append (x ∷ xs) ys = ap (λ rest. x ++ rest) (concat-append xs ys) ∙ sym (append_assoc x (concat xs) (concat ys))

module _ {K : Type 0} (Offered : Offering K) where
  -- ---- one piece

  one_more : (counts : List ℕ) (a b c : K) (piece left : List ℕ) (count : ℕ) → OffersAgain Offered counts a piece b left → 0 < count → Offered b left (Ok count) c → OffersAgain Offered (counts ++ count ∷ []) a piece c (drop count left)
  one_more [] a b c piece left count (same, whole) some call =
      (c, some, subst (λ k. Offered k piece (Ok count) c) same (subst (λ p. Offered b p (Ok count) c) whole call), (refl, ap (drop count) whole))
  one_more (n ∷ counts) a b c piece left count (between, took, first, others) some call = (between, took, first, one_more counts between b c (drop n piece) left count others some call)

  -- no call yet
  pub offered_nothing : (a : K) (piece : List ℕ) → OffersUntil Offered a piece a piece
  offered_nothing a piece = record { counts = []; calls = (refl, refl) }

  module _ (a b c : K) (n : ℕ) (piece : List ℕ) (before : OffersUntil Offered a piece b (drop n piece)) where
    -- one call more
    pub offered_again : (count : ℕ) → 0 < count → Offered b (take (length piece - n) (drop n piece)) (Ok count) c → OffersUntil Offered a piece c (drop (n + count) piece)
    offered_again count some call = record {
      counts = before.counts ++ count ∷ [];
      calls = subst (OffersAgain Offered (before.counts ++ count ∷ []) a piece c) (drop-drop count n piece)
          (one_more before.counts a b c piece (drop n piece) count before.calls some (subst (λ rest. Offered b rest (Ok count) c) (take_rest n piece) call));
    }

    -- a call that took nothing, or failed
    pub offered_in_vain : (answer : Result ℕ WriteFault) → n < length piece → Offered b (take (length piece - n) (drop n piece)) answer c → IfOk answer (λ count. count ≡ 0) → OffersPart Offered a piece c
    offered_in_vain answer inside call none = record {
      between = b;
      left = drop n piece;
      before = before;
      some = omega (arith, length-drop n piece, inside);
      answer = answer;
      last = subst (λ rest. Offered b rest answer c) (take_rest n piece) call;
      nothing = none;
    }

  -- not all is taken
  pub offered_part : {E : Type 0} (Why : E → Type 0) (a b : K) (piece : List ℕ) (result : Result Unit E) → IsErrAnd result Why → OffersPart Offered a piece b → OffersPiece Offered a b piece result
  offered_part Why a b piece (Err why) is part = record { whole = tt; part = part }
  offered_part Why a b piece (Ok done) is part = absurd is

  -- nothing is left
  pub offered_all : (a b : K) (n : ℕ) (piece : List ℕ) → OffersUntil Offered a piece b (drop n piece) → length piece ≤ n → OffersUntil Offered a piece b []
  offered_all a b n piece before past =
      let none : drop n piece ≡ [] = grind (arith, common_steps) in
      subst (OffersUntil Offered a piece b) none before

  -- ---- a piece for each line

  module _ (IsLine : List ℕ → Type 0) where
    pub each_append : (first second : List (List ℕ)) (a b c : K) → OffersEach Offered IsLine first a b → OffersEach Offered IsLine second b c → OffersEach Offered IsLine (first ++ second) a c
    each_append [] second a b c same others = subst (λ k. OffersEach Offered IsLine second k c) same others
    each_append (line ∷ lines) second a b c (between, is, calls, more) others = (between, is, calls, each_append lines second between b c more others)

    -- no line yet
    pub offered_none : (a : K) (text : List ℕ) → HasOffered Offered IsLine a a text text
    offered_none a text = record { lines = []; calls = refl; whole = refl }

    -- the first lines of the rest too
    pub offered_then : (a b c : K) (rest middle text : List ℕ) → HasOffered Offered IsLine a b middle text → HasOffered Offered IsLine b c rest middle → HasOffered Offered IsLine a c rest text
    offered_then a b c rest middle text before call = record {
      lines = before.lines ++ call.lines;
      calls = each_append before.lines call.lines a b c before.calls call.calls;
      whole = ap (λ front. front ++ rest) (concat-append before.lines call.lines) ∙ append_assoc (concat before.lines) (concat call.lines) rest ∙ ap (λ end. concat before.lines ++ end) call.whole ∙ before.whole;
    }

    -- more text behind
    offered_before : (a b : K) (rest text behind : List ℕ) → HasOffered Offered IsLine a b rest text → HasOffered Offered IsLine a b (rest ++ behind) (text ++ behind)
    offered_before a b rest text behind call = record {
      lines = call.lines;
      calls = call.calls;
      whole = sym (append_assoc (concat call.lines) rest behind) ∙ ap (λ front. front ++ behind) call.whole;
    }

    -- the lines of the front of the rest too
    pub offered_more : (a b c : K) (front rest old_rest text : List ℕ) → HasOffered Offered IsLine a b old_rest text → HasOffered Offered IsLine b c [] front → front ++ rest ≡ old_rest → HasOffered Offered IsLine a c rest text
    offered_more a b c front rest old_rest text before call split =
        offered_then a b c rest old_rest text before (subst (HasOffered Offered IsLine b c rest) split (offered_before b c [] front rest call))

    stops_before : (a b : K) (text behind : List ℕ) → (b ≡ a) ⊎ StopsWithin Offered IsLine a b text → (b ≡ a) ⊎ StopsWithin Offered IsLine a b (text ++ behind)
    stops_before a b text behind (inl same) = inl same
    stops_before a b text behind (inr stops) = inr record {
      line = stops.line;
      behind = stops.behind ++ behind;
      is_line = stops.is_line;
      calls = stops.calls;
      whole = sym (append_assoc stops.line stops.behind behind) ∙ ap (λ front. front ++ behind) stops.whole;
    }

    -- some lines of the front of the rest
    pub offered_some : (a b c : K) (front rest old_rest text : List ℕ) → HasOffered Offered IsLine a b old_rest text → OffersSome Offered IsLine b c front → front ++ rest ≡ old_rest → OffersSome Offered IsLine a c text
    offered_some a b c front rest old_rest text before call split = record {
      between = call.between;
      rest = call.rest ++ rest;
      before = offered_then a b call.between (call.rest ++ rest) old_rest text before (subst (HasOffered Offered IsLine b call.between (call.rest ++ rest)) split (offered_before b call.between call.rest front rest call.before));
      last = stops_before call.between c call.rest rest call.last;
    }

    -- no line more
    pub offered_no_more : (a b : K) (rest text : List ℕ) → HasOffered Offered IsLine a b rest text → OffersSome Offered IsLine a b text
    offered_no_more a b rest text before = record { between = b; rest = rest; before = before; last = inl refl }

    -- one piece that is a line
    pub one_line : (a b : K) (line : List ℕ) (result : Result Unit ReportError) → IsLine line → OffersPiece Offered a b line result → OffersLines Offered IsLine a b line result
    one_line a b line (Ok done) is call = record { lines = line ∷ []; calls = (b, is, call.whole, refl); whole = append-nil (line ++ []) ∙ append-nil line }
    one_line a b line (Err cause) is call = record {
      between = a;
      rest = line;
      before = offered_none a line;
      last = inr record { line = line; behind = []; is_line = is; calls = call.part; whole = append-nil line };
    }
