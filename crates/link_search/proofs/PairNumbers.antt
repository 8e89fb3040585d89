-- Numbers stay those of their pairs while pairs are added.
use Rattle.std.proofs.Common.{◌≡◌, ◌<◌, ◌+◌, ℕ, zero, suc, List, [], ◌∷◌, ◌++◌, Bool, true, false, Some, cond, slice_get, get_or, take, drop, length, sym, ap, subst, ◌∙◌}
use Rattle.std.proofs.lemmas.List.{drop_more, take_more}
use Rattle.std.specs.List.{list_any}
use Rattle.link_search.specs.Numbering.{Pair, same_pair, with_pair, with_pairs, AreNumbersOf}

pub stays : (ps more : List Pair) (i : ℕ) (q : Pair) → slice_get ps i ≡ Some q → slice_get (ps ++ more) i ≡ Some q
stays [] more i q e = absurd cc
stays (p ∷ ps) more zero q e = e
stays (p ∷ ps) more (suc i) q e = stays ps more i q e

pub numbers_stay : (ps : List Pair) (p : Pair) (is : List ℕ) (qs : List Pair) → AreNumbersOf ps is qs → AreNumbersOf (with_pair ps p) is qs
numbers_stay ps p [] [] h = tt
numbers_stay ps p [] (q ∷ qs) h = absurd h
numbers_stay ps p (i ∷ is) [] h = absurd h
numbers_stay ps p (i ∷ is) (q ∷ qs) h = (go (list_any (same_pair p) ps), numbers_stay ps p is qs h.1)
  where
    go : (b : Bool) → slice_get (cond b ps (ps ++ p ∷ [])) i ≡ Some q
    go true = h.0
    go false = stays ps (p ∷ []) i q h.0

pub one_more : (ps : List Pair) (is : List ℕ) (qs : List Pair) (i : ℕ) (q : Pair) → AreNumbersOf ps is qs → slice_get ps i ≡ Some q → AreNumbersOf ps (is ++ i ∷ []) (qs ++ q ∷ [])
one_more ps [] [] i q h e = (e, tt)
one_more ps [] (r ∷ qs) i q h e = absurd h
one_more ps (j ∷ is) [] i q h e = absurd h
one_more ps (j ∷ is) (r ∷ qs) i q h e = (h.0, one_more ps is qs i q h.1 e)

pub pairs_step : (keys next met whole : List Pair) (i : ℕ) (d : Pair) → i < length met → next ≡ with_pair keys (get_or met i d) → with_pairs keys (drop i met) ≡ whole → with_pairs next (drop (i + 1) met) ≡ whole
pairs_step keys next met whole i d h e inv = ap (λ ks. with_pairs ks (drop (i + 1) met)) e ∙ sym (ap (with_pairs keys) (drop_more met i d h)) ∙ inv

pub numbers_step : (keys next met : List Pair) (is js : List ℕ) (i m : ℕ) (d : Pair) → i < length met → next ≡ with_pair keys (get_or met i d) → slice_get next m ≡ Some (get_or met i d) → js ≡ is ++ m ∷ [] → AreNumbersOf keys is (take i met) → AreNumbersOf next js (take (i + 1) met)
numbers_step keys next met is js i m d h e f g inv =
    subst (AreNumbersOf next js) (sym (take_more met i d h))
    (subst (λ ks. AreNumbersOf next ks (take i met ++ get_or met i d ∷ [])) (sym g)
    (one_more next is (take i met) m (get_or met i d) (subst (λ ks. AreNumbersOf ks is (take i met)) (sym e) (numbers_stay keys (get_or met i d) is (take i met) inv)) f))
