-- What the search finds is right for all names from which it starts.
use Rattle.std.proofs.Common.{◌≡◌, ◌<◌, inl, inr, ℕ, ◌+◌, ◌==◌, List, [], ◌∷◌, Bool, true, false, ◌&&◌, cond, Some, None, refl, sym, ap, subst, ◌∙◌, slice_get, get_or, length, arith, All, nat_lt, eq-eqb}
use Rattle.std.specs.List.{position, position_or_len}
use Rattle.std.proofs.lemmas.Bool.{and_parts, eqb-true}
use Rattle.std.proofs.lemmas.Bool.Decides.{Decides-ltb}
use Rattle.std.proofs.lemmas.List.Elements.{All-nil, All-cons}
use Rattle.std.proofs.lemmas.List.Sums.{position_or_len_is}
use Rattle.std.proofs.lemmas.Option.{slice_get_within, slice_get-get_or, get_or_from_slice_get}
use Rattle.reachability.specs.Marked.{is_marked}
use Rattle.reachability.specs.Rows.{Among}
use Rattle.link_search.specs.Graph.{StartAmong, AreRowsOf}
use Rattle.link_search.specs.Numbering.{Pair, same_pair, AreDistinctPairs}
use Rattle.link_search.specs.Reached.{AnswerTells, known_of}
use Rattle.link_search.specs.Steps.{LeadsToRing}
use Rattle.link_search.specs.Answers.{answer_if, IsSearched}
use Rattle.link_search.specs.Ends.{AreApart, EndsAreNumbered, ends_from}
use Rattle.link_search.specs.Exports.{leads_of}
use Rattle.link_search.specs.Targets.{TargetComesTo}
use Rattle.link_search.specs.declared.answer.Search.{Search}
use Rattle.link_search.specs.declared.exports.SetExports.{SetExports}
use Rattle.link_search.specs.declared.target.Target.TheVariants.{Name}
use Rattle.link_search.specs.declared.terminal.Terminal.{Terminal}
use Rattle.link_search.proofs.Members.{one_place}
use Rattle.link_search.proofs.Numbers.{Ended, EndsAt, ends_only}
use Rattle.link_search.proofs.Right.{right_at}
use Rattle.link_search.proofs.Ties.{names_of}

-- ---- pairs

pairs_same : (p q : Pair) → same_pair p q ≡ true → p ≡ q
pairs_same p q h =
    let w : ((p.0 == q.0) ≡ true) × ((p.1 == q.1) ≡ true) = and_parts (p.0 == q.0) (p.1 == q.1) h in
    let first : p.0 ≡ q.0 = eqb-true p.0 q.0 w.0 in
    let second : p.1 ≡ q.1 = eqb-true p.1 q.1 w.1 in
    λ i. (first i, second i)

pair_itself : (p : Pair) → same_pair p p ≡ true
pair_itself p = λ i. eq-eqb p.0 p.0 refl i && eq-eqb p.1 p.1 refl i

-- the place of a pair among distinct ones is its number
place_is : (keys : List Pair) → AreDistinctPairs keys → (i : ℕ) (p : Pair) → slice_get keys i ≡ Some p → position (same_pair p) keys ≡ Some i
place_is keys distinct i p e =
    let within : i < length keys = slice_get_within keys i p e in
    let is : position_or_len (same_pair p) keys ≡ i = position_or_len_is (same_pair p) keys i p (omega (arith, within)) (λ k before. unlike k before within) (λ _. ap (same_pair p) (get_or_from_slice_get keys i p p e) ∙ pair_itself p) in
    let inside : nat_lt i (length keys) ≡ true = (Decides-ltb i (length keys)).1 within in
    (λ j. cond (nat_lt (is j) (length keys)) (Some (is j)) None) ∙ ap (λ b. cond b (Some i) None) inside
  where
    unlike : (k : ℕ) → k < i → i < length keys → same_pair p (get_or keys k p) ≡ false
    unlike k before within = go (same_pair p (get_or keys k p)) refl
      where
        go : (b : Bool) → same_pair p (get_or keys k p) ≡ b → b ≡ false
        go false h = refl
        go true h =
            let there : slice_get keys k ≡ Some p = slice_get-get_or keys k p (omega (arith, before, within)) ∙ ap (λ q. Some q) (sym (pairs_same p (get_or keys k p) h)) in
            let same : k ≡ i = one_place keys distinct k i p there e in
            absurd (omega (arith, same, before))

start_place : (keys starts : List Pair) → StartAmong keys starts → (p : Pair) → Among p starts → (i : ℕ) × (slice_get keys i ≡ Some p)
start_place keys [] h p i = absurd i
start_place keys (q ∷ starts) h p (inl e) = (h.0.0, h.0.1 ∙ ap (λ r. Some r) e)
start_place keys (q ∷ starts) h p (inr i) = start_place keys starts h.1 p i

-- ---- numbers of names that lead to terminals

module _ (s : SetExports) (keys : List Pair) where
  below_each : (ts : List Terminal) (es : List (ℕ × ℕ)) (xs : List Ended) → ((i : ℕ) (t : Terminal) → Among {A = Ended} (i, t) xs → i < length keys) → EndsAreNumbered ts es xs → All (λ e. e.0 < length keys) es
  below_each ts [] xs h n = All-nil (λ e. e.0 < length keys)
  below_each ts (e ∷ es) [] h n = absurd n
  below_each ts (e ∷ es) (x ∷ xs) h n =
      All-cons (λ e. e.0 < length keys) e es (subst (λ k. k < length keys) (sym n.0) (h x.0 x.1 (inl refl))) (below_each ts es xs (λ i t a. h i t (inr a)) n.2)

  end_below : (i : ℕ) (t : Terminal) → Among {A = Ended} (i, t) (ends_from s 0 keys) → i < length keys
  end_below i t a =
      let w : EndsAt s keys 0 i t = ends_only s keys 0 i t a in
      let within : w.place < length keys = slice_get_within keys w.place w.name w.there in
      let is : i ≡ 0 + w.place = w.is in
      omega (arith, within, is)

  pub ends_below : (ts : List Terminal) (es : List (ℕ × ℕ)) → EndsAreNumbered ts es (ends_from s 0 keys) → All (λ e. e.0 < length keys) es
  ends_below ts es n = below_each ts es (ends_from s 0 keys) end_below n

-- ---- the search

pub searched : (s : SetExports) (starts : List Pair) (found : Search) (rows : List (List ℕ)) (ends : List (ℕ × ℕ))
    → StartAmong found.names.keys starts → AreDistinctPairs found.names.keys → AreRowsOf (names_of s) found.names.keys rows
    → EndsAreNumbered found.terminals.keys ends (ends_from s 0 found.names.keys) → AreApart found.terminals.keys
    → ((a : ℕ) → is_marked found.to_rings.items a ≡ true → LeadsToRing rows a)
    → ((a : ℕ) → a < length rows → LeadsToRing rows a → is_marked found.to_rings.items a ≡ true)
    → ((a : ℕ) → AnswerTells rows ends (known_of found.reached.items a) a)
    → IsSearched s starts found
searched s starts found rows ends begun distinct are numbered apart sound complete tells p i =
    let w : (n : ℕ) × (slice_get found.names.keys n ≡ Some p) = start_place found.names.keys starts begun p i in
    let within : w.0 < length rows = subst (λ n. w.0 < n) (sym are.many) (slice_get_within found.names.keys w.0 p w.1) in
    subst (λ o. TargetComesTo (leads_of s) (Name p.0 p.1) (answer_if found o)) (sym (place_is found.names.keys distinct w.0 p w.1))
    (right_at s found.names.keys rows are distinct found.terminals.keys ends numbered apart w.0 p.0 p.1 (is_marked found.to_rings.items w.0) (known_of found.reached.items w.0) w.1 (sound w.0) (complete w.0 within) (tells w.0))
