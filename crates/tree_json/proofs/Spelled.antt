-- Texts that are the UTF-8 forms of their characters are equal where their characters are.
use Rattle.std.proofs.Common.{◌≡◌, ℕ, Bool, List, [], ◌∷◌, ◌++◌, map, cond, true, false, refl, ap, sym, ◌∙◌}
use Rattle.std.specs.List.{list_any, position, position_or_len}
use Rattle.std.specs.Str.{IsUtf8, bytes_eq, chars, encode_utf8_all}
use Rattle.std.proofs.lemmas.List.{map-append, length-map}
use Rattle.std.proofs.lemmas.Str.{encodes-chars}
use Rattle.std.proofs.lemmas.Slice.Eq.{bytes_eq-Decides}
use Rattle.std.proofs.lemmas.Bool.Decides.{same_from_decides}
use denote.Bor.{Bor}
use Rattle.tree_json.specs.Views.{characters, IsSpelled}
use Rattle.tree_json.specs.Written.{and_text, Each}

pub is_spelled : (bytes : List ℕ) → IsUtf8 bytes → encode_utf8_all (chars bytes) ≡ bytes
is_spelled = encodes-chars

abbrev text_eq : Bor (List ℕ) → Bor (List ℕ) → Bool
text_eq x y = bytes_eq x.now y.now

eq_spelled : (x y : Bor (List ℕ)) → IsSpelled x → IsSpelled y → bytes_eq (characters x) (characters y) ≡ text_eq x y
eq_spelled x y x_spelled y_spelled =
    let there = bytes_eq-Decides (characters x) (characters y) in
    same_from_decides {P = x.now ≡ y.now} (bytes_eq (characters x) (characters y)) (text_eq x y)
    ((λ e. sym x_spelled ∙ ap encode_utf8_all (there.0 e) ∙ y_spelled), (λ e. there.1 (ap chars e)))
    (bytes_eq-Decides x.now y.now)

prefix_spelled : (x : Bor (List ℕ)) (ks : List (Bor (List ℕ))) → IsSpelled x → Each IsSpelled ks → position_or_len (bytes_eq (characters x)) (map characters ks) ≡ position_or_len (text_eq x) ks
prefix_spelled x [] x_spelled spelled = refl
prefix_spelled x (k ∷ ks) x_spelled spelled =
    rw (eq_spelled x k x_spelled spelled.0, prefix_spelled x ks x_spelled spelled.1) refl

pub position_spelled : (x : Bor (List ℕ)) (ks : List (Bor (List ℕ))) → IsSpelled x → Each IsSpelled ks → position (bytes_eq (characters x)) (map characters ks) ≡ position (text_eq x) ks
position_spelled x ks x_spelled spelled =
    rw (prefix_spelled x ks x_spelled spelled, length-map ks characters) refl

pub any_spelled : (x : Bor (List ℕ)) (ks : List (Bor (List ℕ))) → IsSpelled x → Each IsSpelled ks → list_any (bytes_eq (characters x)) (map characters ks) ≡ list_any (text_eq x) ks
any_spelled x [] x_spelled spelled = refl
any_spelled x (k ∷ ks) x_spelled spelled =
    rw (eq_spelled x k x_spelled spelled.0, any_spelled x ks x_spelled spelled.1) refl

abbrev pub inserted : List (Bor (List ℕ)) → Bor (List ℕ) → List (Bor (List ℕ))
inserted ks x = cond (list_any (text_eq x) ks) ks (ks ++ x ∷ [])

map_cond : (b : Bool) (xs ys : List (Bor (List ℕ))) → map characters (cond b xs ys) ≡ cond b (map characters xs) (map characters ys)
map_cond true xs ys = refl
map_cond false xs ys = refl

pub insert_characters : (x : Bor (List ℕ)) (ks : List (Bor (List ℕ))) → IsSpelled x → Each IsSpelled ks → map characters (inserted ks x) ≡ and_text (map characters ks) (characters x)
insert_characters x ks x_spelled spelled =
    map_cond (list_any (text_eq x) ks) ks (ks ++ x ∷ [])
    ∙ rw (map-append characters ks (x ∷ []), any_spelled x ks x_spelled spelled) refl

Each-push : {X : Type 0} (P : X → Type 0) (xs : List X) (x : X) → Each P xs → P x → Each P (xs ++ x ∷ [])
Each-push P [] x each here = (here, tt)
Each-push P (y ∷ ys) x each here = (each.0, Each-push P ys x each.1 here)

Each-cond : {X : Type 0} (P : X → Type 0) (b : Bool) (xs ys : List X) → Each P xs → Each P ys → Each P (cond b xs ys)
Each-cond P true xs ys in_xs in_ys = in_xs
Each-cond P false xs ys in_xs in_ys = in_ys

pub insert_spelled : (x : Bor (List ℕ)) (ks : List (Bor (List ℕ))) → IsSpelled x → Each IsSpelled ks → Each IsSpelled (inserted ks x)
insert_spelled x ks x_spelled spelled =
    Each-cond IsSpelled (list_any (text_eq x) ks) ks (ks ++ x ∷ []) spelled (Each-push IsSpelled ks x spelled x_spelled)
