-- One turn of the loops that list what passes a test.
use Rattle.std.proofs.Common.{◌≡◌, ◌<◌, ◌≤◌, ◌+◌, ℕ, List, [], ◌∷◌, ◌++◌, Bool, true, false, cond, Option, length, map, get_or, drop, refl, sym, ap, subst, ◌∙◌, append_assoc, append-nil}
use Rattle.std.specs.List.{filter_map}
use Rattle.std.proofs.lemmas.List.{at_drop_more, at_drop_all, get_or-map, length-map}
use Rattle.std.proofs.lemmas.List.Elements.{filter_map-append}
use Rattle.semantic_syntax.specs.declared.references.Reference.{Reference}
use Rattle.semantic_syntax.specs.Tables.{Name, Tables}
use Rattle.semantic_tree.specs.declared.view.AstKind.{AstKind}
use Rattle.name_lint.specs.Gathered.{text_of}
use Rattle.semantic_syntax.specs.Reading.{no_reference, no_symbol, reference_of, symbol_of}
use Rattle.name_lint.specs.Uses.{OwnedUse, used_symbol, use_of, uses_by}
use Rattle.name_lint.specs.Live.{is_sure, sure_from, unmarked_from}
use Rattle.name_lint.specs.Undeclared.{is_undeclared, undeclared_from}

module _ {X : Type 0} where
  -- what is next passes the test, and is added
  pub added : (b : Bool) (found new rest whole w : List X) (x : X) → b ≡ true → whole ≡ cond b (x ∷ rest) rest → new ≡ found ++ x ∷ [] → found ++ whole ≡ w → new ++ rest ≡ w
  added b found new rest whole w x e s n h =
      ap (λ (xs : List X). xs ++ rest) n ∙ append_assoc found (x ∷ []) rest
      ∙ ap (λ (xs : List X). found ++ xs) (sym (s ∙ ap (λ c. cond c (x ∷ rest) rest) e)) ∙ h

  -- what is next doesn't
  pub passed_over : (b : Bool) (found rest whole w : List X) (x : X) → b ≡ false → whole ≡ cond b (x ∷ rest) rest → found ++ whole ≡ w → found ++ rest ≡ w
  passed_over b found rest whole w x e s h = ap (λ (xs : List X). found ++ xs) (sym (s ∙ ap (λ c. cond c (x ∷ rest) rest) e)) ∙ h

  -- nothing is left
  pub all_found : (found rest w : List X) → rest ≡ [] → found ++ rest ≡ w → found ≡ w
  all_found found rest w e h = sym (append-nil found) ∙ ap (λ (xs : List X). found ++ xs) (sym e) ∙ h

  -- a list is added
  pub more_added : (found new here rest whole w : List X) → whole ≡ here ++ rest → new ≡ found ++ here → found ++ whole ≡ w → new ++ rest ≡ w
  more_added found new here rest whole w s n h =
      ap (λ (xs : List X). xs ++ rest) n ∙ append_assoc found here rest ∙ ap (λ (xs : List X). found ++ xs) (sym s) ∙ h

-- ---- undeclared names

module _ (known : List Name) (t : Tables) (n : ℕ) (nodes : List AstKind) where
  abbrev left : ℕ → List ℕ
  left k = undeclared_from known t k (drop k (map text_of nodes)) (drop k t.references)

  pub undeclared_turn : (node : AstKind) → n < length nodes → n < length t.references → node ≡ get_or nodes n node
      → left n ≡ cond (is_undeclared known t (text_of node) (reference_of t n)) (n ∷ left (n + 1)) (left (n + 1))
  undeclared_turn node h l is =
      at_drop_more (λ (xs : List Name). undeclared_from known t n xs (drop n t.references)) (map text_of nodes) n [] (subst (λ k. n < k) (sym (length-map nodes text_of)) h)
      ∙ at_drop_more (λ (rs : List Reference). undeclared_from known t n (get_or (map text_of nodes) n [] ∷ drop (n + 1) (map text_of nodes)) rs) t.references n no_reference l
      ∙ ap (λ (x : Name). cond (is_undeclared known t x (reference_of t n)) (n ∷ left (n + 1)) (left (n + 1))) (get_or-map text_of nodes n node [] h ∙ ap text_of (sym is))

  pub undeclared_end : length t.references ≤ n → left n ≡ []
  undeclared_end h = at_drop_all (λ (rs : List Reference). undeclared_from known t n (drop n (map text_of nodes)) rs) t.references n h ∙ by (drop n (map text_of nodes))
    where
      by : (xs : List Name) → undeclared_from known t n xs [] ≡ []
      by [] = refl
      by (x ∷ xs) = refl

-- ---- uses

module _ {B : Type 0} (f : OwnedUse → Option B) (os : List (Option ℕ)) (rs : List Reference) (n : ℕ) where
  pub uses_turn : (owner : Option ℕ) → n < length os → n < length rs → owner ≡ get_or os n owner
      → filter_map f (uses_by (drop n os) (drop n rs)) ≡ filter_map f (use_of owner (used_symbol (get_or rs n no_reference))) ++ filter_map f (uses_by (drop (n + 1) os) (drop (n + 1) rs))
  uses_turn owner h k is =
      at_drop_more (λ (xs : List (Option ℕ)). filter_map f (uses_by xs (drop n rs))) os n owner h
      ∙ at_drop_more (λ (ys : List Reference). filter_map f (uses_by (get_or os n owner ∷ drop (n + 1) os) ys)) rs n no_reference k
      ∙ ap (λ (o : Option ℕ). filter_map f (use_of o (used_symbol (get_or rs n no_reference)) ++ uses_by (drop (n + 1) os) (drop (n + 1) rs))) (sym is)
      ∙ filter_map-append f (use_of owner (used_symbol (get_or rs n no_reference))) (uses_by (drop (n + 1) os) (drop (n + 1) rs))

  pub uses_end : length rs ≤ n → filter_map f (uses_by (drop n os) (drop n rs)) ≡ []
  uses_end h = at_drop_all (λ (ys : List Reference). filter_map f (uses_by (drop n os) ys)) rs n h ∙ by (drop n os)
    where
      by : (xs : List (Option ℕ)) → filter_map f (uses_by xs []) ≡ []
      by [] = refl
      by (x ∷ xs) = refl

-- ---- symbols that are in use for what they are, and marks

module _ (t : Tables) (n : ℕ) where
  pub sure_turn : n < length t.symbols → sure_from t n (drop n t.symbols) ≡ cond (is_sure t (symbol_of t n)) (n ∷ sure_from t (n + 1) (drop (n + 1) t.symbols)) (sure_from t (n + 1) (drop (n + 1) t.symbols))
  sure_turn h = at_drop_more (sure_from t n) t.symbols n no_symbol h

  pub sure_end : length t.symbols ≤ n → sure_from t n (drop n t.symbols) ≡ []
  sure_end h = at_drop_all (sure_from t n) t.symbols n h

pub unmarked_turn : (marks : List Bool) (n : ℕ) (d : Bool) → n < length marks → unmarked_from n (drop n marks) ≡ cond (get_or marks n d) (unmarked_from (n + 1) (drop (n + 1) marks)) (n ∷ unmarked_from (n + 1) (drop (n + 1) marks))
unmarked_turn marks n d h = at_drop_more (unmarked_from n) marks n d h
