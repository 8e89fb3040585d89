-- Names in a set.
use Rattle.std.proofs.Common.{◌≡◌, List, [], ◌∷◌, ◌++◌, Bool, true, false, not, ℕ, map, refl, sym, ap, ◌∙◌}
use Rattle.std.specs.List.{list_any}
use Rattle.std.specs.Str.{bytes_eq}
use Rattle.std.specs.Prelude.{if◌then◌else◌}
use denote.Bor.{Bor}
use Rattle.tree_json.specs.Views.{characters, IsSpelled}
use Rattle.tree_json.specs.Written.{Each}
use Rattle.tree_json.proofs.Spelled.{any_spelled, inserted, insert_characters}

-- names are equal by their bytes where they are by their characters
abbrev pub same_bytes : Bor (List ℕ) → Bor (List ℕ) → Bool
same_bytes x y = bytes_eq x.now y.now

-- whether a name is new
pub fresh_told : (x : Bor (List ℕ)) (ks : List (Bor (List ℕ))) (fresh : Bool) → IsSpelled x → Each IsSpelled ks → fresh ≡ not (list_any (same_bytes x) ks) → fresh ≡ not (list_any (bytes_eq (characters x)) (map characters ks))
fresh_told x ks fresh spelled all is = is ∙ ap not (sym (any_spelled x ks spelled all))

not_there : (b : Bool) (xs ys : List (List ℕ)) → not b ≡ true → (if b then xs else ys) ≡ ys
not_there true xs ys h = absurd cc
not_there false xs ys h = refl

-- a new name is added last
pub fresh_added : (x : Bor (List ℕ)) (ks new : List (Bor (List ℕ))) (fresh : Bool) → IsSpelled x → Each IsSpelled ks → fresh ≡ not (list_any (same_bytes x) ks) → new ≡ inserted ks x → fresh ≡ true
    → map characters new ≡ map characters ks ++ characters x ∷ []
fresh_added x ks new fresh spelled all is made held =
    ap (map characters) made
    ∙ insert_characters x ks spelled all
    ∙ not_there (list_any (bytes_eq (characters x)) (map characters ks)) (map characters ks) (map characters ks ++ characters x ∷ []) (sym (fresh_told x ks fresh spelled all is) ∙ held)
