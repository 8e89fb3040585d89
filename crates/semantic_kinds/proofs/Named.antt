-- A table of what all have, in their order, has what each has in its place.
use Rattle.std.proofs.Common.{◌≡◌, ◌≤◌, ◌<◌, ◌+◌, ◌-◌, ℕ, List, Some, map, take, drop, slice_get, slice_index_or, sym, ap, ◌∙◌, arith}
use Rattle.std.proofs.Math.ListN.{get_or, get_or-map}
use Rattle.std.proofs.lemmas.List.{get_or-take, get_or-drop}
use Rattle.std.proofs.lemmas.Option.{slice_get-map, get_or_from_slice_get}
use Rattle.std.specs.Prelude.{option_map}

listed : {K Y : Type 0} (name : K → Y) (all : List K) (n : ℕ) (d : Y) (one : K) → slice_get all n ≡ Some one → slice_index_or (map name all) n d ≡ name one
listed name all n d one place = get_or_from_slice_get (map name all) n (name one) d (slice_get-map name all n ∙ ap (option_map name) place)

pub named_at : {K X Y : Type 0} (name : K → Y) (all : List K) (shown : X → Y) (table : List X) (n : ℕ) (d : X) (one : K) → slice_get all n ≡ Some one → map shown table ≡ map name all → shown (slice_index_or table n d) ≡ name one
named_at name all shown table n d one place same =
    sym (get_or-map shown table n d) ∙ ap (λ names. slice_index_or names n (shown d)) same ∙ listed name all n (shown d) one place

-- a table of some that follow one another
pub named_from : {K X Y : Type 0} (name : K → Y) (all : List K) (shown : X → Y) (table : List X) (many start n : ℕ) (d : X) (one : K) → slice_get all n ≡ Some one → start ≤ n → n < start + many → map shown table ≡ take many (drop start (map name all)) → shown (slice_index_or table (n - start) d) ≡ name one
named_from name all shown table many start n d one place from below same =
    let back : start + (n - start) ≡ n = omega (arith, from) in
    let inside : n - start < many = omega (arith, from, below) in
    sym (get_or-map shown table (n - start) d)
    ∙ ap (λ names. slice_index_or names (n - start) (shown d)) same
    ∙ get_or-take many (drop start (map name all)) (n - start) (shown d) inside
    ∙ get_or-drop start (map name all) (n - start) (shown d)
    ∙ ap (λ i. get_or (map name all) i (shown d)) back
    ∙ listed name all n (shown d) one place
