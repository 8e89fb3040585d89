-- What is gathered from a program speaks of symbols that its tables have.
use Rattle.std.proofs.Common.{◌≡◌, ◌<◌, ◌≤◌, ◌+◌, ◌==◌, ℕ, suc, List, [], ◌∷◌, ◌++◌, Bool, true, false, cond, Option, None, Some, All, length, map, refl, sym, ap, subst, ◌∙◌, inl, inr, eq-eqb, arith}
use Rattle.std.specs.Prelude.{slice_get}
use Rattle.std.specs.List.{filter_map, cons_option, range_with_len}
use Rattle.std.proofs.lemmas.List.{length-map}
use Rattle.std.proofs.lemmas.List.Elements.{All-nil, All-cons, All-append}
use Rattle.std.proofs.lemmas.List.FromFn.{length-range_with_len}
use Rattle.std.proofs.lemmas.Option.{slice_get_within}
use Rattle.semantic_syntax.specs.declared.references.Reference.{Reference}
use Rattle.semantic_syntax.specs.Tables.{Tables, Symbol}
use Rattle.semantic_tree.specs.Tree.{Tree}
use Rattle.semantic_tree.specs.Faults.{first_fault}
use Rattle.semantic_tree.specs.declared.node.Node.{Node}
use Rattle.semantic_kinds.specs.declared.kind.AstType.TheVariants as kind
use Rattle.semantic_tree.specs.Views.{is}
use Rattle.semantic_model.specs.Entries.{Among, times, or_empty}
use Rattle.semantic_model.specs.Event.{events}
use Rattle.semantic_model.specs.Fits.{StandOnce, stand_of, stand_in_tree}
use Rattle.semantic_model.specs.Fold.{Made, start}
use Rattle.semantic_model.specs.Hoist.{run}
use Rattle.semantic_model.specs.NodeTable.{belonging, number_of}
use Rattle.semantic_model.specs.Reference.{reference_at, references}
use Rattle.semantic_model.specs.Step.{Step, entering, opening, header_ending, closing, leaving, steps}
use Rattle.semantic_model.specs.TablesOf.{tables_of, is_symbol}
use Rattle.semantic_model.proofs.fits.Afterwards.{uses_are_ties}
use Rattle.semantic_model.proofs.fold.Changes.{HasName}
use Rattle.semantic_model.proofs.fold.Orders.{HasForm, sound_program}
use Rattle.semantic_model.proofs.form.Shape.{has_form}
use Rattle.semantic_model.proofs.fits.TablesFit.{tables_fit}
use Rattle.semantic_model.specs.Analysis.{Analysis, analysis_of, symbol_at}
use Rattle.name_lint.specs.Uses.{owner_of, owner_on, owners, is_counted, used_symbol, use_of, uses_by}
use Rattle.name_lint.specs.Live.{is_sure, sure_from, free_use, owned_use, directly_exported}
use Rattle.name_lint.specs.Undeclared.{reference_names}
use Rattle.name_lint.specs.Within.{OwnersAreSymbols}

some_same : (x y : ℕ) → ◌≡◌ {A = Option ℕ} (Some x) (Some y) → x ≡ y
some_same x y e = cc

-- ---- lists of numbers below a bound

-- a symbol or none
abbrev pub IsBelow : ℕ → Option ℕ → Type 0
IsBelow n None = Unit {0}
IsBelow n (Some s) = s < n

abbrev pub OwnersBelow : ℕ → List (Option ℕ) → Type 0
OwnersBelow n [] = Unit {0}
OwnersBelow n (o ∷ os) = IsBelow n o × OwnersBelow n os

abbrev pub TiesBelow : ℕ → List Reference → Type 0
TiesBelow n [] = Unit {0}
TiesBelow n (r ∷ rs) = IsBelow n r.symbol_id × TiesBelow n rs

module _ (n : ℕ) where
  sure_below : (t : Tables) (k : ℕ) (ys : List Symbol) → k + length ys ≤ n → All (λ s. s < n) (sure_from t k ys)
  sure_below t k [] h = All-nil (λ s. s < n)
  sure_below t k (y ∷ ys) h = by (is_sure t y) (sure_below t (k + 1) ys (omega arith))
    where
      by : (b : Bool) → All (λ s. s < n) (sure_from t (k + 1) ys) → All (λ s. s < n) (cond b (k ∷ sure_from t (k + 1) ys) (sure_from t (k + 1) ys))
      by true rest = All-cons (λ s. s < n) k (sure_from t (k + 1) ys) (omega arith) rest
      by false rest = rest

  declared_below : (f : ℕ → Option ℕ) → ((x s : ℕ) → f x ≡ Some s → s < n) → (xs : List ℕ) → All (λ s. s < n) (filter_map f xs)
  declared_below f h [] = All-nil (λ s. s < n)
  declared_below f h (x ∷ xs) = by (f x) refl (declared_below f h xs)
    where
      by : (o : Option ℕ) → f x ≡ o → All (λ s. s < n) (filter_map f xs) → All (λ s. s < n) (cons_option o (filter_map f xs))
      by None e rest = rest
      by (Some s) e rest = All-cons (λ s. s < n) s (filter_map f xs) (h x s e) rest

  used_below : (b : Bool) (o : Option ℕ) → IsBelow n o → IsBelow n (cond b o None)
  used_below true o h = h
  used_below false o h = tt

  free_below : (os : List (Option ℕ)) (rs : List Reference) → TiesBelow n rs → All (λ s. s < n) (filter_map free_use (uses_by os rs))
  free_below [] rs h = All-nil (λ s. s < n)
  free_below (o ∷ os) [] h = All-nil (λ s. s < n)
  free_below (o ∷ os) (r ∷ rs) h = by o (used_symbol r) (used_below (is_counted r) r.symbol_id h.0) (free_below os rs h.1)
    where
      by : (owner used : Option ℕ) → IsBelow n used → All (λ s. s < n) (filter_map free_use (uses_by os rs)) → All (λ s. s < n) (filter_map free_use (use_of owner used ++ uses_by os rs))
      by owner None k rest = rest
      by None (Some s) k rest = All-cons (λ s. s < n) s (filter_map free_use (uses_by os rs)) k rest
      by (Some w) (Some s) k rest = rest

  owners_below : (os : List (Option ℕ)) (rs : List Reference) → OwnersBelow n os → All (λ pair. pair.0 < n) (filter_map owned_use (uses_by os rs))
  owners_below [] rs h = All-nil (λ (pair : ℕ × ℕ). pair.0 < n)
  owners_below (o ∷ os) [] h = All-nil (λ (pair : ℕ × ℕ). pair.0 < n)
  owners_below (o ∷ os) (r ∷ rs) h = by o (used_symbol r) h.0 (owners_below os rs h.1)
    where
      by : (owner used : Option ℕ) → IsBelow n owner → All (λ pair. pair.0 < n) (filter_map owned_use (uses_by os rs)) → All (λ pair. pair.0 < n) (filter_map owned_use (use_of owner used ++ uses_by os rs))
      by owner None k rest = rest
      by None (Some s) k rest = rest
      by (Some w) (Some s) k rest = All-cons (λ (pair : ℕ × ℕ). pair.0 < n) (w, s) (filter_map owned_use (uses_by os rs)) k rest

  seconds_below : (os : List (Option ℕ)) (rs : List Reference) → TiesBelow n rs → All (λ pair. pair.1 < n) (filter_map owned_use (uses_by os rs))
  seconds_below [] rs h = All-nil (λ (pair : ℕ × ℕ). pair.1 < n)
  seconds_below (o ∷ os) [] h = All-nil (λ (pair : ℕ × ℕ). pair.1 < n)
  seconds_below (o ∷ os) (r ∷ rs) h = by o (used_symbol r) (used_below (is_counted r) r.symbol_id h.0) (seconds_below os rs h.1)
    where
      by : (owner used : Option ℕ) → IsBelow n used → All (λ pair. pair.1 < n) (filter_map owned_use (uses_by os rs)) → All (λ pair. pair.1 < n) (filter_map owned_use (use_of owner used ++ uses_by os rs))
      by owner None k rest = rest
      by None (Some s) k rest = rest
      by (Some w) (Some s) k rest = All-cons (λ (pair : ℕ × ℕ). pair.1 < n) (w, s) (filter_map owned_use (uses_by os rs)) k rest

  ties_below : (rs : List Reference) → ((k : ℕ) (r : Reference) → slice_get rs k ≡ Some r → IsBelow n r.symbol_id) → TiesBelow n rs
  ties_below [] h = tt
  ties_below (r ∷ rs) h = (h 0 r refl, ties_below rs (λ k q e. h (suc k) q e))

  made_below : (ms : List Made) → ((m : Made) → Among m ms → m.symbol < n) → (node s : ℕ) → number_of (map belonging ms) node ≡ Some s → s < n
  made_below [] h node s e = absurd cc
  made_below (m ∷ ms) h node s e = by (m.declaration.naming.identifier == node) e (made_below ms (λ q a. h q (inr a)) node s)
    where
      by : (b : Bool) → cond b (Some m.symbol) (number_of (map belonging ms) node) ≡ Some s → (number_of (map belonging ms) node ≡ Some s → s < n) → s < n
      by true e more = subst (λ x. x < n) (some_same m.symbol s e) (h m (inl refl))
      by false e more = more e

  -- owners are symbols of nodes
  steps_below : (a : Analysis) → ((node s : ℕ) → symbol_at a node ≡ Some s → s < n) → (ss : List Step) → OwnersBelow n (owners a ss)
  steps_below a h [] = tt
  steps_below a h (entering p ∷ ss) = by (is kind.IdentifierReference p.node) (own (owner_on p.path)) (steps_below a h ss)
    where
      of : (id : ℕ) (o : Option ℕ) → symbol_at a id ≡ o → IsBelow n o
      of id None e = tt
      of id (Some s) e = h id s e

      own : (o : Option Node) → IsBelow n (elim o [ None ↦ None | Some id ↦ symbol_at a id.node_id ])
      own None = tt
      own (Some id) = of id.node_id (symbol_at a id.node_id) refl

      by : (b : Bool) → IsBelow n (owner_of a p.path) → OwnersBelow n (owners a ss) → OwnersBelow n (cons_option (cond b (Some (owner_of a p.path)) None) (owners a ss))
      by true k rest = (k, rest)
      by false k rest = rest
  steps_below a h (opening p s ∷ ss) = steps_below a h ss
  steps_below a h (header_ending p s ∷ ss) = steps_below a h ss
  steps_below a h (closing p s ∷ ss) = steps_below a h ss
  steps_below a h (leaving p ∷ ss) = steps_below a h ss

-- ---- as many owners and names as references

owners_count : (a : Analysis) (ss : List Step) → length (owners a ss) ≡ length (references ss)
owners_count a [] = refl
owners_count a (entering p ∷ ss) = by (is kind.IdentifierReference p.node) (owners_count a ss)
  where
    by : (b : Bool) → length (owners a ss) ≡ length (references ss) → length (cons_option (cond b (Some (owner_of a p.path)) None) (owners a ss)) ≡ length (cons_option (cond b (Some (reference_at p)) None) (references ss))
    by true e = ap suc e
    by false e = e
owners_count a (opening p s ∷ ss) = owners_count a ss
owners_count a (header_ending p s ∷ ss) = owners_count a ss
owners_count a (closing p s ∷ ss) = owners_count a ss
owners_count a (leaving p ∷ ss) = owners_count a ss

module _ (p : Tree) (faultless : first_fault p ≡ None) where
  abbrev count : ℕ
  count = length (tables_of p).symbols

  once : StandOnce (tables_of p) (references (steps p))
  once = (tables_fit p faultless).references_stand_once

  as_many : length (references (steps p)) ≡ length (tables_of p).references
  as_many = sym (length-map (references (steps p)) stand_in_tree) ∙ ap length (sym once.same) ∙ length-map (tables_of p).references stand_of

  pub names_count : length (reference_names (steps p)) ≡ length (tables_of p).references
  names_count = length-map (references (steps p)) (λ o. o.name) ∙ as_many

  uses_count : length (tables_of p).uses ≡ count
  uses_count = length-map (range_with_len 0 count) _ ∙ length-range_with_len 0 count

  -- a tie is to a symbol
  tie_below : (k : ℕ) (r : Reference) → slice_get (tables_of p).references k ≡ Some r → IsBelow count r.symbol_id
  tie_below k r e = by r.symbol_id refl
    where
      listed : (s : ℕ) (o : Option (List ℕ)) → slice_get (tables_of p).uses s ≡ o → times k (or_empty o) ≡ 1 → s < count
      listed s None g h = absurd (omega (arith, h))
      listed s (Some xs) g h = (let w : s < length (tables_of p).uses = slice_get_within (tables_of p).uses s xs g in omega (arith, w, uses_count))

      by : (o : Option ℕ) → r.symbol_id ≡ o → IsBelow count o
      by None i = tt
      by (Some s) i =
          let u : times k (or_empty (slice_get (tables_of p).uses s)) ≡ cond (is_symbol s r.symbol_id) 1 0 = uses_are_ties p once k s r e in
          listed s (slice_get (tables_of p).uses s) refl (u ∙ ap (λ (o : Option ℕ). cond (is_symbol s o) 1 0) i ∙ ap (λ b. cond b 1 0) (eq-eqb s s refl))

  -- what a node declares is a symbol
  pub declared_symbol : (node s : ℕ) → symbol_at (analysis_of p) node ≡ Some s → s < count
  declared_symbol node s e = made_below count (run start (events (steps p))).made within node s e
    where
      form : HasForm p
      form = has_form p faultless

      within : (m : Made) → Among m (run start (events (steps p))).made → m.symbol < count
      within m i =
          let named : HasName (run start (events (steps p))).symbols m.symbol m.declaration.naming.name = (sound_program p form).has_name m i in
          slice_get_within (run start (events (steps p))).symbols m.symbol named.symbol named.is_there

  pub are_symbols : OwnersAreSymbols (tables_of p) (symbol_at (analysis_of p)) (directly_exported (steps p)) (owners (analysis_of p) (steps p))
  are_symbols =
      let ties : TiesBelow count (tables_of p).references = ties_below count (tables_of p).references tie_below in
      record {
        references = owners_count (analysis_of p) (steps p) ∙ as_many;
        seeds = All-append (λ s. s < count) (sure_from (tables_of p) 0 (tables_of p).symbols ++ filter_map (symbol_at (analysis_of p)) (directly_exported (steps p)))
            (filter_map free_use (uses_by (owners (analysis_of p) (steps p)) (tables_of p).references))
            (All-append (λ s. s < count) (sure_from (tables_of p) 0 (tables_of p).symbols) (filter_map (symbol_at (analysis_of p)) (directly_exported (steps p)))
            (sure_below count (tables_of p) 0 (tables_of p).symbols (omega arith))
            (declared_below count (symbol_at (analysis_of p)) declared_symbol (directly_exported (steps p))))
            (free_below count (owners (analysis_of p) (steps p)) (tables_of p).references ties);
        owning = owners_below count (owners (analysis_of p) (steps p)) (tables_of p).references (steps_below count (analysis_of p) declared_symbol (steps p));
        used = seconds_below count (owners (analysis_of p) (steps p)) (tables_of p).references ties;
      }
