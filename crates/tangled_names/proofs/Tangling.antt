-- The loops that find reasons and tangled names.
use Rattle.std.proofs.Common.{◌≡◌, ℕ, ◌+◌, ◌<◌, ◌≤◌, List, [], ◌∷◌, ◌++◌, Bool, true, false, cond, ◌&&◌, ◌||◌, not, filter, length, drop, get_or, Result, Ok, Err, IfOk, refl, sym, ap, ◌∙◌, append_assoc, append-nil}
use Rattle.std.specs.Str.{bytes_eq}
use Rattle.std.proofs.lemmas.List.{at_drop_more, at_drop_all}
use Rattle.semantic_syntax.specs.Reading.{no_symbol, symbol_of}
use Rattle.semantic_syntax.specs.SourceTypes.{is_typescript}
use Rattle.semantic_syntax.specs.Tables.{Name, Tables}
use Rattle.tangle_model.specs.Repeated.{Key}
use Rattle.semantic_syntax.specs.declared.source_type.SourceType.{SourceType}
use Rattle.tangle_model.specs.Mention.{Mention}
use Rattle.tangle_model.specs.Tangled.{Tangle, told, tangles_from, tangles_in, all_reasons}
use Rattle.tangle_model.specs.declared.reason.Reason.TheVariants as reason
use Rattle.tangled_names.specs.Facts.{FactsHold, NamesHold, facts_tell as told_by}
use Rattle.tangled_names.specs.declared.facts.NameFacts.{NameFacts}
use Rattle.tangle_model.specs.declared.reason.Reason.{Reason}
use Rattle.tangled_names.specs.Found.{with_tangle}
use Rattle.tangled_names.specs.Stored.{with_key_if, name_key, has_name}
use Rattle.tangled_names.proofs.Keys.{name_more_if}

-- ---- reasons

module _ (test : Reason → Bool) (rs : List Reason) (i : ℕ) where
  pub reason_turn : (r : Reason) (found : List Reason) (goal : List Reason) → i < length rs → r ≡ get_or rs i r → found ++ filter test (drop i rs) ≡ goal
      → (found ++ cond (test r) (r ∷ []) []) ++ filter test (drop (i + 1) rs) ≡ goal
  reason_turn r found goal within is h =
      append_assoc found (cond (test r) (r ∷ []) []) (filter test (drop (i + 1) rs))
      ∙ ap (λ xs. found ++ xs) (by (test r) ∙ ap (λ x. filter test (x ∷ drop (i + 1) rs)) is ∙ sym (at_drop_more (filter test) rs i r within))
      ∙ h
    where
      by : (b : Bool) → cond b (r ∷ []) [] ++ filter test (drop (i + 1) rs) ≡ cond b (r ∷ filter test (drop (i + 1) rs)) (filter test (drop (i + 1) rs))
      by true = refl
      by false = refl

  pub reasons_end : (found goal : List Reason) → length rs ≤ i → found ++ filter test (drop i rs) ≡ goal → found ≡ goal
  reasons_end found goal past h = sym (append-nil found) ∙ ap (λ xs. found ++ xs) (sym (at_drop_all (filter test) rs i past)) ∙ h

-- ---- tangled names

told_first : (n : ℕ) (rs : List Reason) (later : List Tangle) → told n rs later ≡ told n rs [] ++ later
told_first n [] later = refl
told_first n (r ∷ rs) later = refl

module _ (t : Tables) (i : ℕ) (reasons : Name → List Reason) where
  -- a name that stood before
  pub known_turn : (before : Name → Bool) (found goal : List Tangle) → i < length t.symbols → before (symbol_of t i).name ≡ true
      → found ++ tangles_from reasons before i (drop i t.symbols) ≡ goal → found ++ tangles_from reasons before (i + 1) (drop (i + 1) t.symbols) ≡ goal
  known_turn before found goal within known h =
      ap (λ xs. found ++ xs) (sym (at_drop_more (tangles_from reasons before i) t.symbols i no_symbol within
      ∙ ap (λ b. cond b (tangles_from reasons before (i + 1) (drop (i + 1) t.symbols)) (told i (reasons (symbol_of t i).name) (tangles_from reasons (λ x. bytes_eq x (symbol_of t i).name || before x) (i + 1) (drop (i + 1) t.symbols)))) known))
      ∙ h

  -- a new name
  pub new_turn : (before : List Key) (text : Name) (found found' goal : List Tangle) → i < length t.symbols → text ≡ (symbol_of t i).name → has_name before text ≡ false → found' ≡ with_tangle found i (reasons text)
      → found ++ tangles_from reasons (has_name before) i (drop i t.symbols) ≡ goal
      → found' ++ tangles_from reasons (has_name (with_key_if true before (name_key text))) (i + 1) (drop (i + 1) t.symbols) ≡ goal
  new_turn before text found found' goal within named new made h =
      ap (λ xs. xs ++ tangles_from reasons (has_name (with_key_if true before (name_key text))) (i + 1) (drop (i + 1) t.symbols)) made
      ∙ append_assoc found (told i (reasons text) []) (tangles_from reasons (has_name (with_key_if true before (name_key text))) (i + 1) (drop (i + 1) t.symbols))
      ∙ ap (λ xs. found ++ xs) (sym (told_first i (reasons text) (tangles_from reasons (has_name (with_key_if true before (name_key text))) (i + 1) (drop (i + 1) t.symbols)))
      ∙ ap (λ (f : Name → Bool). told i (reasons text) (tangles_from reasons f (i + 1) (drop (i + 1) t.symbols))) (λ j x. name_more_if true x text before j)
      ∙ ap (λ y. told i (reasons y) (tangles_from reasons (λ x. bytes_eq x y || has_name before x) (i + 1) (drop (i + 1) t.symbols))) named
      ∙ ap (λ b. cond b (tangles_from reasons (has_name before) (i + 1) (drop (i + 1) t.symbols)) (told i (reasons (symbol_of t i).name) (tangles_from reasons (λ x. bytes_eq x (symbol_of t i).name || has_name before x) (i + 1) (drop (i + 1) t.symbols)))) (sym new ∙ ap (has_name before) named)
      ∙ sym (at_drop_more (tangles_from reasons (has_name before) i) t.symbols i no_symbol within))
      ∙ h

  pub tangle_turn : (before before' : List Key) (text : Name) (b : Bool) (rs : List Reason) (found found' goal : List Tangle) → i < length t.symbols → text ≡ (symbol_of t i).name → b ≡ not (has_name before text)
      → rs ≡ cond b (reasons text) [] → before' ≡ with_key_if b before (name_key text) → found' ≡ with_tangle found i rs
      → found ++ tangles_from reasons (has_name before) i (drop i t.symbols) ≡ goal → found' ++ tangles_from reasons (has_name before') (i + 1) (drop (i + 1) t.symbols) ≡ goal
  tangle_turn before before' text b rs found found' goal within named same listed kept made inv = by (has_name before text) refl
    where
      by : (h : Bool) → has_name before text ≡ h → found' ++ tangles_from reasons (has_name before') (i + 1) (drop (i + 1) t.symbols) ≡ goal
      by true k =
          let no : b ≡ false = same ∙ ap not k in
          ap (λ xs. xs ++ tangles_from reasons (has_name before') (i + 1) (drop (i + 1) t.symbols)) (made ∙ ap (with_tangle found i) (listed ∙ ap (λ c. cond c (reasons text) []) no) ∙ append-nil found)
          ∙ ap (λ ks. found ++ tangles_from reasons (has_name ks) (i + 1) (drop (i + 1) t.symbols)) (kept ∙ ap (λ c. with_key_if c before (name_key text)) no)
          ∙ known_turn (has_name before) found goal within (ap (has_name before) (sym named) ∙ k) inv
      by false k =
          let yes : b ≡ true = same ∙ ap not k in
          ap (λ ks. found' ++ tangles_from reasons (has_name ks) (i + 1) (drop (i + 1) t.symbols)) (kept ∙ ap (λ c. with_key_if c before (name_key text)) yes)
          ∙ new_turn before text found found' goal within named k (made ∙ ap (with_tangle found i) (listed ∙ ap (λ c. cond c (reasons text) []) yes)) inv

  pub tangles_end : (before : Name → Bool) (found goal : List Tangle) → length t.symbols ≤ i → found ++ tangles_from reasons before i (drop i t.symbols) ≡ goal → found ≡ goal
  tangles_end before found goal past h = sym (append-nil found) ∙ ap (λ xs. found ++ xs) (sym (at_drop_all (tangles_from reasons before i) t.symbols i past)) ∙ h

-- ---- what is known of names

module _ (f : NameFacts) (s : SourceType) (ms : List Mention) (t : Tables) where
  pub told_same : NamesHold f ms t → FactsHold f s ms t
  told_same y reason.BlockFunction x = y.places.block_functions x
  told_same y reason.CatchVariable x = y.places.catch_variables x
  told_same y reason.Arguments x = refl
  told_same y reason.With x = y.places.in_with x
  told_same y reason.Eval x = y.scopes.seen_by_eval x
  told_same y reason.FreeNamesake x = refl
  told_same y reason.MergedMember x = y.scopes.merged x
  told_same y reason.NamespaceNamesake x = λ i. is_typescript s && y.namesakes.passed x i && y.namesakes.shared x i
  told_same y reason.InferredName x = λ i. is_typescript s && y.typed.met.beside_infer x i
  told_same y reason.HiddenParameter x = λ i. is_typescript s && y.typed.noted.in_type_parameters x i && y.typed.symbols.inner_variables x i
  told_same y reason.IndexParameter x = λ i. is_typescript s && y.typed.met.in_own_index x i
  told_same y reason.SloppyFunction x = λ i. is_typescript s && y.typed.noted.inner_functions x i && y.namesakes.shared x i
  told_same y reason.ExportedType x = λ i. is_typescript s && y.typed.noted.exported_types x i && y.namesakes.shared x i
  told_same y reason.TypedVariable x = λ i. is_typescript s && y.typed.noted.passing_variables x i && y.typed.symbols.typed_variables x i
  told_same y reason.TypedFunctionName x = λ i. is_typescript s && y.typed.symbols.own_names x i && y.typed.symbols.types x i

  pub found_same : FactsHold f s ms t → tangles_from (λ (x : Name). filter (λ (r : Reason). told_by f s t r x) all_reasons) (λ x. false) 0 t.symbols ≡ tangles_in s ms t
  found_same tells = λ i. tangles_from (λ (x : Name). filter (λ (r : Reason). tells r x i) all_reasons) (λ x. false) 0 t.symbols

pub if_ok_same : {T E : Type 0} (r : Result T E) (a b : T) → a ≡ b → IfOk r (λ x. x ≡ a) → IfOk r (λ x. x ≡ b)
if_ok_same (Ok x) a b is h = h ∙ is
if_ok_same (Err e) a b is h = h

pub all_same : (s s' : SourceType) (ms ms' : List Mention) (t t' : Tables) → s ≡ s' → ms ≡ ms' → t ≡ t' → tangles_in s ms t ≡ tangles_in s' ms' t'
all_same s s' ms ms' t t' a b c = λ i. tangles_in (a i) (b i) (c i)
