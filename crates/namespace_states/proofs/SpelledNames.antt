-- Names that are texts are equal where their characters are.
use Rattle.std.proofs.Common.{◌≡◌, ℕ, List, [], ◌∷◌, ◌++◌, Bool, true, false, cond, if◌then◌else◌, Option, Some, None, is_some, map, option_map, refl, sym, ap, ◌∙◌}
use Rattle.std.specs.Borrow.{Bor}
use Rattle.std.specs.List.{AllByRecursion}
use Rattle.std.specs.Map.{lookup}
use Rattle.std.specs.Str.{chars, bytes_eq, IsUtf8}
use Rattle.indexmap.specs.IndexMap.{insert_entry}
use Rattle.semantic_syntax.proofs.SameTexts.{lookup_text}
use Rattle.semantic_tree.specs.ChildIter.{shown}
use Rattle.semantic_tree.specs.declared.node.Node.{Node}
use Rattle.semantic_tree.specs.declared.view.AstKind.{AstKind}
use Rattle.namespace_states.specs.FirstNames.{NamedStatement, with_first}
use Rattle.namespace_states.specs.Entries.{Stored, entry_shown, IsSpelled}

abbrev text_eq : Bor (List ℕ) → Bor (List ℕ) → Bool
text_eq k l = bytes_eq k.now l.now

pub lookup_shown : (q : List ℕ) → IsUtf8 q → (es : List Stored) → AllByRecursion IsSpelled es
    → lookup (bytes_eq (chars q)) (map entry_shown es) ≡ option_map shown (lookup (λ k. bytes_eq q k.now) es)
lookup_shown = lookup_text shown

none_there : {X : Type 0} (o : Option X) → is_some o ≡ false → o ≡ None
none_there None h = refl
none_there (Some x) h = cc

-- a new name goes last
inserted_last : (k : Bor (List ℕ)) (v : AstKind) (es : List Stored) → lookup (λ l. bytes_eq k.now l.now) es ≡ None → insert_entry text_eq es k v ≡ es ++ (k, v) ∷ []
inserted_last k v [] h = refl
inserted_last k v (e ∷ es) h = by (bytes_eq k.now e.0.now) h (λ g. inserted_last k v es g)
  where
    by : (b : Bool) → cond b (Some e.1) (lookup (λ l. bytes_eq k.now l.now) es) ≡ None → (lookup (λ l. bytes_eq k.now l.now) es ≡ None → insert_entry text_eq es k v ≡ es ++ (k, v) ∷ [])
        → (if b then (e.0, v) ∷ es else e ∷ insert_entry text_eq es k v) ≡ e ∷ es ++ (k, v) ∷ []
    by true h g = cc
    by false h g = ap (λ xs. e ∷ xs) (g h)

shown_last : (es : List Stored) (e : Stored) → map entry_shown (es ++ e ∷ []) ≡ map entry_shown es ++ entry_shown e ∷ []
shown_last [] e = refl
shown_last (x ∷ es) e = ap (λ xs. entry_shown x ∷ xs) (shown_last es e)

pub put_new : (k : Bor (List ℕ)) (v : AstKind) → IsUtf8 k.now → (es : List Stored) → AllByRecursion IsSpelled es → is_some (lookup (λ l. bytes_eq k.now l.now) es) ≡ false
    → map entry_shown (insert_entry text_eq es k v) ≡ with_first (map entry_shown es) (chars k.now, v.node.now)
put_new k v u es h n =
    let none : lookup (λ l. bytes_eq k.now l.now) es ≡ None = none_there (lookup (λ l. bytes_eq k.now l.now) es) n in
    let same : lookup (bytes_eq (chars k.now)) (map entry_shown es) ≡ None = lookup_shown k.now u es h ∙ ap (option_map shown) none in
    let all : List NamedStatement = map entry_shown es in
    ap (map entry_shown) (inserted_last k v es none) ∙ shown_last es (k, v)
    ∙ sym (ap (λ (o : Option Node). elim o [ None ↦ all ++ (chars k.now, v.node.now) ∷ [] | Some x ↦ all ]) same)

some_there : (o : Option AstKind) → is_some o ≡ true → (x : AstKind) × (o ≡ Some x)
some_there None h = absurd cc
some_there (Some x) h = (x, refl)

pub put_known : (k : Bor (List ℕ)) (v : Node) → IsUtf8 k.now → (es : List Stored) → AllByRecursion IsSpelled es → is_some (lookup (λ l. bytes_eq k.now l.now) es) ≡ true
    → map entry_shown es ≡ with_first (map entry_shown es) (chars k.now, v)
put_known k v u es h n =
    let (x, found) = some_there (lookup (λ l. bytes_eq k.now l.now) es) n in
    let same : lookup (bytes_eq (chars k.now)) (map entry_shown es) ≡ Some x.node.now = lookup_shown k.now u es h ∙ ap (option_map shown) found in
    let all : List NamedStatement = map entry_shown es in
    sym (ap (λ (o : Option Node). elim o [ None ↦ all ++ (chars k.now, v) ∷ [] | Some y ↦ all ]) same)

pub put_spelled : (k : Bor (List ℕ)) (v : AstKind) → IsUtf8 k.now → (es : List Stored) → AllByRecursion IsSpelled es → AllByRecursion IsSpelled (insert_entry text_eq es k v)
put_spelled k v u [] h = (u, tt)
put_spelled k v u (e ∷ es) h = by (text_eq k e.0) (put_spelled k v u es h.1)
  where
    by : (b : Bool) → AllByRecursion IsSpelled (insert_entry text_eq es k v) → AllByRecursion IsSpelled (if b then (e.0, v) ∷ es else e ∷ insert_entry text_eq es k v)
    by true rest = h
    by false rest = (h.0, rest)

pub ruleset names = (lookup_shown, put_new, put_known, put_spelled)
