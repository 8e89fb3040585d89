-- Names that are texts are equal where their characters are.
use Rattle.std.proofs.Common.{◌≡◌, ℕ, List, [], ◌∷◌, Bool, true, false, if◌then◌else◌, map, option_map, refl, sym, ap, ◌∙◌}
use Rattle.std.specs.Borrow.{Bor}
use Rattle.std.specs.List.{AllByRecursion}
use Rattle.std.specs.Map.{lookup}
use Rattle.std.specs.Str.{chars, bytes_eq, IsUtf8}
use Rattle.indexmap.specs.IndexMap.{insert_entry}
use Rattle.semantic_syntax.proofs.SameTexts.{same_texts, lookup_text}
use Rattle.class_table.specs.Seen.{element_seen}
use Rattle.class_table.specs.declared.element.Element.{Element as StoredElement}
use Rattle.expression_checks.specs.Entries.{Stored, entry_seen, IsSpelled}
use Rattle.expression_checks.specs.Predecessors.{element_behind, with_last_element}

abbrev text_eq : Bor (List ℕ) → Bor (List ℕ) → Bool
text_eq k l = bytes_eq k.now l.now

pub lookup_seen : (q : List ℕ) → IsUtf8 q → (es : List Stored) → AllByRecursion IsSpelled es
    → lookup (bytes_eq (chars q)) (map entry_seen es) ≡ option_map element_behind (lookup (λ k. bytes_eq q k.now) es)
lookup_seen = lookup_text element_behind

pub insert_seen : (k : Bor (List ℕ)) (v : Bor StoredElement) → IsUtf8 k.now → (es : List Stored) → AllByRecursion IsSpelled es
    → map entry_seen (insert_entry text_eq es k v) ≡ insert_entry bytes_eq (map entry_seen es) (chars k.now) (element_seen v.now)
insert_seen k v u [] h = refl
insert_seen k v u (e ∷ es) h =
    by (text_eq k e.0) (insert_seen k v u es h.1)
    ∙ ap (λ b. if b then (chars e.0.now, element_seen v.now) ∷ map entry_seen es else entry_seen e ∷ insert_entry bytes_eq (map entry_seen es) (chars k.now) (element_seen v.now)) (sym (same_texts k.now e.0.now u h.0))
  where
    by : (b : Bool) → map entry_seen (insert_entry text_eq es k v) ≡ insert_entry bytes_eq (map entry_seen es) (chars k.now) (element_seen v.now)
        → map entry_seen (if b then (e.0, v) ∷ es else e ∷ insert_entry text_eq es k v) ≡ (if b then (chars e.0.now, element_seen v.now) ∷ map entry_seen es else entry_seen e ∷ insert_entry bytes_eq (map entry_seen es) (chars k.now) (element_seen v.now))
    by true rest = refl
    by false rest = ap (λ xs. entry_seen e ∷ xs) rest

-- an element under its own name
pub insert_named : (k : Bor (List ℕ)) (v : Bor StoredElement) → IsUtf8 k.now → k.now ≡ v.now.name.text.now → (es : List Stored) → AllByRecursion IsSpelled es
    → map entry_seen (insert_entry text_eq es k v) ≡ with_last_element (map entry_seen es) (element_seen v.now)
insert_named k v u own es h = insert_seen k v u es h ∙ ap (λ name. insert_entry bytes_eq (map entry_seen es) (chars name) (element_seen v.now)) own

pub insert_spelled : (k : Bor (List ℕ)) (v : Bor StoredElement) → IsUtf8 k.now → (es : List Stored) → AllByRecursion IsSpelled es → AllByRecursion IsSpelled (insert_entry text_eq es k v)
insert_spelled k v u [] h = (u, tt)
insert_spelled k v u (e ∷ es) h = by (text_eq k e.0) (insert_spelled k v u es h.1)
  where
    by : (b : Bool) → AllByRecursion IsSpelled (insert_entry text_eq es k v) → AllByRecursion IsSpelled (if b then (e.0, v) ∷ es else e ∷ insert_entry text_eq es k v)
    by true rest = h
    by false rest = (h.0, rest)

pub ruleset names = (lookup_seen, insert_named, insert_spelled)
