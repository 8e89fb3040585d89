-- One more entry in one of some lists.
use Rattle.std.proofs.Common.{◌≡◌, ℕ, ◌<◌, List, [], ◌∷◌, ◌++◌, length, map, get_or, sym, ap, ◌∙◌}
use Rattle.std.proofs.Math.ListN.{set}
use Rattle.std.proofs.Math.Seq.{map-set_same}
use Rattle.std.proofs.lemmas.List.{map-set, map-append, get_or-map, length-map}

module _ {V A B : Type 0} (f : A → B) (items : V → List A) where
  -- the lists as they are seen
  abbrev shown : List V → List (List B)
  shown vs = map (λ v. map f (items v)) vs

  -- one of the lists, read at its place
  pub read_at : (vs : List V) (c i : ℕ) (was : V) → i ≡ c → was ≡ get_or vs i was → c < length (shown vs) → get_or (shown vs) c [] ≡ map f (items was)
  read_at vs c i was same read within =
      get_or-map (λ v. map f (items v)) vs c was [] (simp length-map at within) ∙ ap (λ v. map f (items v)) (ap (λ n. get_or vs n was) (sym same) ∙ sym read)

  pub pushed : (vs : List V) (c i : ℕ) (was now : V) (x : A) → i ≡ c → was ≡ get_or vs i was → items now ≡ items was ++ x ∷ [] → c < length (shown vs)
      → shown (set vs i now) ≡ set (shown vs) c (get_or (shown vs) c [] ++ f x ∷ [])
  pushed vs c i was now x same read more within =
      map-set (λ v. map f (items v)) vs i now
      ∙ ap (λ n. set (shown vs) n (map f (items now))) same
      ∙ ap (set (shown vs) c) (ap (map f) more ∙ map-append f (items was) (x ∷ []) ∙ ap (λ l. l ++ f x ∷ []) (sym (read_at vs c i was same read within)))

  pub kept : (vs : List V) (i : ℕ) (was now : V) → was ≡ get_or vs i was → items now ≡ items was → shown (set vs i now) ≡ shown vs
  kept vs i was now read same = map-set_same (λ v. map f (items v)) vs i now was (ap (map f) (same ∙ ap items read))
