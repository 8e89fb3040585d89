-- Keys that are texts are equal where their characters are.
use Rattle.std.proofs.Common.{◌≡◌, ◌==◌, List, [], ◌∷◌, ◌++◌, Bool, true, false, cond, if◌then◌else◌, ◌&&◌, ◌||◌, map, refl, sym, ap, ◌∙◌}
use Rattle.std.specs.List.{AllByRecursion, list_any}
use Rattle.std.specs.Str.{bytes_eq, IsUtf8}
use Rattle.std.proofs.lemmas.List.{map-append}
use Rattle.indexmap.specs.IndexSet.{insert_key}
use Rattle.semantic_syntax.proofs.SameTexts.{same_texts}
use Rattle.tangle_model.specs.Repeated.{same_key, key_stands}
use Rattle.tangled_names.specs.Stored.{Stored, key_seen, IsSpelled, with_key}

abbrev pub stored_eq : Stored → Stored → Bool
stored_eq k l = bytes_eq k.0.now l.0.now && k.1 == l.1

same_keys : (k l : Stored) → IsUtf8 k.0.now → IsUtf8 l.0.now → same_key (key_seen k) (key_seen l) ≡ stored_eq k l
same_keys k l u v = ap (λ b. b && k.1 == l.1) (same_texts k.0.now l.0.now u v)

pub stands_seen : (q : Stored) → IsUtf8 q.0.now → (ks : List Stored) → AllByRecursion IsSpelled ks → key_stands (key_seen q) (map key_seen ks) ≡ list_any (stored_eq q) ks
stands_seen q u [] h = refl
stands_seen q u (k ∷ ks) h =
    ap (λ b. b || key_stands (key_seen q) (map key_seen ks)) (same_keys q k u h.0)
    ∙ ap (λ b. stored_eq q k || b) (stands_seen q u ks h.1)

pub insert_seen : (q : Stored) → IsUtf8 q.0.now → (ks : List Stored) → AllByRecursion IsSpelled ks → map key_seen (insert_key stored_eq ks q) ≡ with_key (map key_seen ks) (key_seen q)
insert_seen q u ks h =
    by (list_any (stored_eq q) ks)
    ∙ ap (λ b. cond b (map key_seen ks) (map key_seen ks ++ key_seen q ∷ [])) (sym (stands_seen q u ks h))
  where
    by : (b : Bool) → map key_seen (if b then ks else ks ++ q ∷ []) ≡ cond b (map key_seen ks) (map key_seen ks ++ key_seen q ∷ [])
    by true = refl
    by false = map-append key_seen ks (q ∷ [])

spelled_append : (ks : List Stored) (q : Stored) → AllByRecursion IsSpelled ks → IsSpelled q → AllByRecursion IsSpelled (ks ++ q ∷ [])
spelled_append [] q h u = (u, tt)
spelled_append (k ∷ ks) q h u = (h.0, spelled_append ks q h.1 u)

pub insert_spelled : (q : Stored) → IsUtf8 q.0.now → (ks : List Stored) → AllByRecursion IsSpelled ks → AllByRecursion IsSpelled (insert_key stored_eq ks q)
insert_spelled q u ks h = by (list_any (stored_eq q) ks)
  where
    by : (b : Bool) → AllByRecursion IsSpelled (if b then ks else ks ++ q ∷ [])
    by true = h
    by false = spelled_append ks q h u

pub ruleset keys = (stands_seen, insert_seen, insert_spelled)
