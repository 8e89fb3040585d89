-- Lists of lists, as one of them changes.
use Rattle.std.proofs.Common.{◌≡◌, ℕ, ◌<◌, List, [], length, get_or, map, sym, ap, ◌∙◌}
use Rattle.smallvec.specs.SmallVec.{SmallVec}
use Rattle.std.proofs.Math.ListN.{set}
use Rattle.std.proofs.Math.Seq.{map-set_same}
use Rattle.std.proofs.lemmas.List.{map-set, get_or-map}

-- the lists of vectors
abbrev pub rows : {X : Type 0} → List (SmallVec X) → List (List X)
rows vs = map (λ v. v.items) vs

module _ {X : Type 0} (vs : List (SmallVec X)) (s i : ℕ) (was now : SmallVec X) (at : i ≡ s) (within : s < length vs) (read : was ≡ get_or vs i was) where
  pub row_at : get_or (rows vs) s [] ≡ was.items
  row_at = get_or-map (λ v. v.items) vs s was [] within ∙ sym (ap (λ v. v.items) (read ∙ ap (λ k. get_or vs k was) at))

  pub rows_changed : (f : List X → List X) → now.items ≡ f was.items → rows (set vs i now) ≡ set (rows vs) s (f (get_or (rows vs) s []))
  rows_changed f is =
      map-set (λ v. v.items) vs i now
      ∙ ap (λ k. set (rows vs) k now.items) at
      ∙ ap (set (rows vs) s) (is ∙ ap f (sym row_at))

  pub rows_kept : now.items ≡ was.items → rows (set vs i now) ≡ rows vs
  rows_kept kept = map-set_same (λ v. v.items) vs i now was (kept ∙ ap (λ v. v.items) read)
