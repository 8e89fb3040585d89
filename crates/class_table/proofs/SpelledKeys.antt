-- Keys that are texts are equal where their characters are.
use Rattle.std.proofs.Common.{◌≡◌, ℕ, ◌<◌, ◌-◌, ◌^◌, Option, None, List, [], ◌∷◌, Bool, true, false, cond, if◌then◌else◌, not, ◌&&◌, Some, map, refl, sym, ap, ◌∙◌}
use Rattle.std.specs.Bool.{beq}
use Rattle.std.specs.Borrow.{Bor}
use Rattle.std.specs.List.{AllByRecursion}
use Rattle.std.specs.Map.{lookup}
use Rattle.std.specs.Str.{chars, bytes_eq, IsUtf8}
use Rattle.indexmap.specs.IndexMap.{insert_entry}
use Rattle.semantic_syntax.proofs.SameTexts.{same_texts}
use Rattle.class_table.specs.declared.meant_names.Meaning.{Meaning}
use Rattle.class_table.specs.declared.meant_names.Meaning.TheVariants.{Alone, Half, Both}
use Rattle.class_table.specs.Meanings.{ElementKey, entry_seen, IsMeant, AreIds, ids_in, ids_meant, with_more, key_eq}

abbrev pub Stored : Type 0
Stored = Bor (List ℕ) × Bool

abbrev pub stored_eq : Stored → Stored → Bool
stored_eq k l = bytes_eq k.0.now l.0.now && beq k.1 l.1

abbrev pub key_seen : Stored → ElementKey
key_seen k = (chars k.0.now, k.1)

same_bools : (a b : Bool) → cond b a (not a) ≡ beq a b
same_bools true true = refl
same_bools true false = refl
same_bools false true = refl
same_bools false false = refl

same_keys : (k l : Stored) → IsUtf8 k.0.now → IsUtf8 l.0.now → key_eq (key_seen k) (key_seen l) ≡ stored_eq k l
same_keys k l u v = ap (λ b. b && cond l.1 k.1 (not k.1)) (same_texts k.0.now l.0.now u v) ∙ ap (λ b. bytes_eq k.0.now l.0.now && b) (same_bools k.1 l.1)

pub lookup_seen : (q : Stored) → IsUtf8 q.0.now → (es : List (Stored × Meaning)) → AllByRecursion IsMeant es → lookup (key_eq (key_seen q)) (map entry_seen es) ≡ lookup (stored_eq q) es
lookup_seen q u [] h = refl
lookup_seen q u (e ∷ es) h =
    ap (λ b. cond b (Some e.1) (lookup (key_eq (key_seen q)) (map entry_seen es))) (same_keys q e.0 u h.0.text)
    ∙ ap (cond (stored_eq q e.0) (Some e.1)) (lookup_seen q u es h.1)

pub insert_seen : (k : Stored) (v : Meaning) → IsUtf8 k.0.now → (es : List (Stored × Meaning)) → AllByRecursion IsMeant es
    → map entry_seen (insert_entry stored_eq es k v) ≡ insert_entry key_eq (map entry_seen es) (key_seen k) v
insert_seen k v u [] h = refl
insert_seen k v u (e ∷ es) h =
    by (stored_eq k e.0) (insert_seen k v u es h.1)
    ∙ ap (λ b. if b then (key_seen e.0, v) ∷ map entry_seen es else entry_seen e ∷ insert_entry key_eq (map entry_seen es) (key_seen k) v) (sym (same_keys k e.0 u h.0.text))
  where
    by : (b : Bool) → map entry_seen (insert_entry stored_eq es k v) ≡ insert_entry key_eq (map entry_seen es) (key_seen k) v
        → map entry_seen (if b then (e.0, v) ∷ es else e ∷ insert_entry stored_eq es k v) ≡ (if b then (key_seen e.0, v) ∷ map entry_seen es else entry_seen e ∷ insert_entry key_eq (map entry_seen es) (key_seen k) v)
    by true rest = refl
    by false rest = ap (λ xs. entry_seen e ∷ xs) rest

pub insert_meant : (k : Stored) (v : Meaning) → IsUtf8 k.0.now → AreIds (ids_in v) → (es : List (Stored × Meaning)) → AllByRecursion IsMeant es → AllByRecursion IsMeant (insert_entry stored_eq es k v)
insert_meant k v u ids [] h = (record { text = u; ids = ids }, tt)
insert_meant k v u ids (e ∷ es) h = by (stored_eq k e.0) (insert_meant k v u ids es h.1)
  where
    by : (b : Bool) → AllByRecursion IsMeant (insert_entry stored_eq es k v) → AllByRecursion IsMeant (if b then (e.0, v) ∷ es else e ∷ insert_entry stored_eq es k v)
    by true rest = (record { text = h.0.text; ids = ids }, h.1)
    by false rest = (h.0, rest)

pub lookup_ids : (test : Stored → Bool) (es : List (Stored × Meaning)) → AllByRecursion IsMeant es → AreIds (ids_meant (lookup test es))
lookup_ids test [] h = tt
lookup_ids test (e ∷ es) h = by (test e.0) (lookup_ids test es h.1)
  where
    by : (b : Bool) → AreIds (ids_meant (lookup test es)) → AreIds (ids_meant (cond b (Some e.1) (lookup test es)))
    by true rest = h.0.ids
    by false rest = rest

pub more_ids : (o : Option Meaning) (n : ℕ) (alone : Bool) → AreIds (ids_meant o) → n < 2 ^ 32 - 1 → AreIds (ids_in (with_more o n alone))
more_ids None n true h fits = (fits, tt)
more_ids None n false h fits = (fits, tt)
more_ids (Some (Alone m)) n alone h fits = h
more_ids (Some (Half m)) n alone h fits = (h.0, (fits, tt))
more_ids (Some (Both m k)) n alone h fits = h
