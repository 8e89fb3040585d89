-- What the renaming of a symbol comes to.
use Rattle.std.proofs.Common.{◌≡◌, ℕ, ◌+◌, ◌<◌, ◌≤◌, nat_lt, List, [], ◌∷◌, Bool, true, false, Option, Some, None, Result, Ok, Err, cond, ◌⊎◌, inl, inr, refl, sym, ap, subst, ◌∙◌, arith}
use Rattle.std.proofs.lemmas.Bool.Decides.{nat_tests}
use Rattle.semantic_syntax.specs.Tables.{Name}
use Rattle.semantic_tree.specs.Children.{node_count}
use Rattle.semantic_tree.specs.Forest.{count}
use Rattle.semantic_tree.specs.Tree.{Tree, IsNumbered}
use Rattle.semantic_model.specs.Entries.{Among}
use Rattle.semantic_model.specs.Place.{Place}
use Rattle.semantic_model.specs.Step.{Step, entering, opening, header_ending, closing, leaving, steps}
use Rattle.semantic_model.specs.Analysis.{analysis_of}
use Rattle.semantic_model.specs.Exported.{exported_names}
use Rattle.rename_model.specs.Fixed.{FixesFirst, NoneFixes}
use Rattle.rename_model.specs.Refusal.{Refusal, bad_name, fixed, differs, is_bad_name, fixes_name, node_in, first_fixed, compared, unless_fixed, unless_bad, rename}
use Rattle.rename_model.specs.Renamed.{bears_name, program_renamed}
use Rattle.rename_model.specs.Same.{Same, DiffersFirstAt, first_difference}
use Rattle.rename_model.proofs.Differences.{exact_none, exact_some, complete}
use Rattle.rename_model.proofs.NamedNodes.{some_is}
use Rattle.rename_model.proofs.Rising.{Rises, steps_rise, at_least}

-- ---- the least node that fixes a name

-- a place among steps at which a name is fixed first
record FirstAt (exported : List ℕ) (chosen : ℕ → Bool) (ss : List Step) (node : ℕ) : Type 0 where
  place : Place
  among : Among (entering place) ss
  fixes : fixes_name exported chosen (entering place) ≡ true
  id : place.node.node_id ≡ node
  least : (other : Place) → Among (entering other) ss → fixes_name exported chosen (entering other) ≡ true → node ≤ other.node.node_id

no_number : (n : ℕ) → ◌≡◌ {A = Option ℕ} None (Some n) → ⊥
no_number n e = cc

not_both : {b : Bool} → b ≡ false → b ≡ true → ⊥
not_both e f = both (sym e ∙ f)
  where
    both : false ≡ true → ⊥
    both g = cc

id_in : (p q : Place) → entering p ≡ entering q → p.node.node_id ≡ q.node.node_id
id_in p q e = ap node_in e

module _ (exported : List ℕ) (chosen : ℕ → Bool) where
  passes : (s : Step) (ss : List Step) (node : ℕ) → fixes_name exported chosen s ≡ false → FirstAt exported chosen ss node → FirstAt exported chosen (s ∷ ss) node
  passes s ss node e w = record {
    place = w.place;
    among = inr w.among;
    fixes = w.fixes;
    id = w.id;
    least = λ other a f. later other a f;
  }
    where
      later : (other : Place) → Among (entering other) (s ∷ ss) → fixes_name exported chosen (entering other) ≡ true → node ≤ other.node.node_id
      later other (inl q) f = absurd (not_both e (ap (fixes_name exported chosen) q ∙ f))
      later other (inr a) f = w.least other a f

  first_at : (low high : ℕ) (ss : List Step) (node : ℕ) → Rises low high ss → first_fixed exported chosen ss ≡ Some node → FirstAt exported chosen ss node
  first_at low high [] node h e = absurd (no_number node e)
  first_at low high (entering p ∷ ss) node h e = go (fixes_name exported chosen (entering p)) refl e (λ k. first_at (p.node.node_id + 1) high ss node h.1 k)
    where
      after : (other : Place) → Among (entering other) (entering p ∷ ss) → p.node.node_id ≤ other.node.node_id
      after other (inl q) = let same : p.node.node_id ≡ other.node.node_id = id_in p other q in omega (arith, same)
      after other (inr a) = let l : p.node.node_id + 1 ≤ other.node.node_id = at_least (p.node.node_id + 1) high ss h.1 other a in omega (arith, l)

      go : (b : Bool) → fixes_name exported chosen (entering p) ≡ b → cond b (Some p.node.node_id) (first_fixed exported chosen ss) ≡ Some node → (first_fixed exported chosen ss ≡ Some node → FirstAt exported chosen ss node) → FirstAt exported chosen (entering p ∷ ss) node
      go true t k more = record { place = p; among = inl refl; fixes = t; id = some_is p.node.node_id node k; least = λ other a f. subst (λ i. i ≤ other.node.node_id) (some_is p.node.node_id node k) (after other a) }
      go false t k more = passes (entering p) ss node t (more k)
  first_at low high (opening p s ∷ ss) node h e = passes (opening p s) ss node refl (first_at low high ss node h e)
  first_at low high (header_ending p s ∷ ss) node h e = passes (header_ending p s) ss node refl (first_at low high ss node h e)
  first_at low high (closing p s ∷ ss) node h e = passes (closing p s) ss node refl (first_at low high ss node h e)
  first_at low high (leaving p ∷ ss) node h e = passes (leaving p) ss node refl (first_at low high ss node h e)

-- where no node is found, none fixes a name
pub none_fixes : (exported : List ℕ) (chosen : ℕ → Bool) (ss : List Step) → first_fixed exported chosen ss ≡ None → (t : Step) → Among t ss → fixes_name exported chosen t ≡ false
none_fixes exported chosen [] h t a = absurd a
none_fixes exported chosen (s ∷ ss) h t a = go (fixes_name exported chosen s) refl h a (λ k b. none_fixes exported chosen ss k t b)
  where
    go : (b : Bool) → fixes_name exported chosen s ≡ b → cond b (Some (node_in s)) (first_fixed exported chosen ss) ≡ None → Among t (s ∷ ss) → (first_fixed exported chosen ss ≡ None → Among t ss → fixes_name exported chosen t ≡ false) → fixes_name exported chosen t ≡ false
    go true e k c more = absurd cc
    go false e k (inl q) more = sym (ap (fixes_name exported chosen) q) ∙ e
    go false e k (inr q) more = more k q

-- what is found fixes a name
some_fixes : (exported : List ℕ) (chosen : ℕ → Bool) (ss : List Step) (node : ℕ) → first_fixed exported chosen ss ≡ Some node → (t : Step) × Among t ss × (fixes_name exported chosen t ≡ true)
some_fixes exported chosen [] node h = absurd (no_number node h)
some_fixes exported chosen (s ∷ ss) node h = go (fixes_name exported chosen s) refl h (λ k. some_fixes exported chosen ss node k)
  where
    go : (b : Bool) → fixes_name exported chosen s ≡ b → cond b (Some (node_in s)) (first_fixed exported chosen ss) ≡ Some node → (first_fixed exported chosen ss ≡ Some node → (t : Step) × Among t ss × (fixes_name exported chosen t ≡ true)) → (t : Step) × Among t (s ∷ ss) × (fixes_name exported chosen t ≡ true)
    go true e k more = (s, inl refl, e)
    go false e k more = let (t, a, f) = more k in (t, inr a, f)

module _ (p : Tree) (s : ℕ) where
  abbrev fixing_in : Option ℕ
  fixing_in = first_fixed (exported_names (steps p)) (bears_name (analysis_of p) s) (steps p)

  pub free_means_none : fixing_in ≡ None → NoneFixes p s
  free_means_none e place f = not_both (none_fixes (exported_names (steps p)) (bears_name (analysis_of p) s) (steps p) e (entering place) f.0) f.1

  at_step : NoneFixes p s → (t : Step) → Among t (steps p) → fixes_name (exported_names (steps p)) (bears_name (analysis_of p) s) t ≡ true → ⊥
  at_step none (entering place) a f = none place (a, f)
  at_step none (opening place o) a f = not_both refl f
  at_step none (header_ending place o) a f = not_both refl f
  at_step none (closing place o) a f = not_both refl f
  at_step none (leaving place) a f = not_both refl f

  pub none_means_free : NoneFixes p s → fixing_in ≡ None
  none_means_free none = go fixing_in refl
    where
      go : (o : Option ℕ) → first_fixed (exported_names (steps p)) (bears_name (analysis_of p) s) (steps p) ≡ o → o ≡ None
      go None e = refl
      go (Some node) e = let (t, a, f) = some_fixes (exported_names (steps p)) (bears_name (analysis_of p) s) (steps p) node e in absurd (at_step none t a f)

pub fixes_first : (p : Tree) (s node : ℕ) → IsNumbered p.root → first_fixed (exported_names (steps p)) (bears_name (analysis_of p) s) (steps p) ≡ Some node → FixesFirst p s node
fixes_first p s node h e =
    let w : FirstAt (exported_names (steps p)) (bears_name (analysis_of p) s) (steps p) node = first_at (exported_names (steps p)) (bears_name (analysis_of p) s) 0 (1 + count p.root.children) (steps p) node (steps_rise p h) e in
    record { place = w.place; fixes = (w.among, w.fixes); id = w.id; least = λ other f. w.least other f.0 f.1 }

-- ---- what comes of a renaming

compare : (m n : ℕ) → (m < n) ⊎ (n < m) ⊎ (m ≡ n)
compare m n = go (nat_lt m n) refl (nat_lt n m) refl
  where
    go : (a : Bool) → nat_lt m n ≡ a → (b : Bool) → nat_lt n m ≡ b → (m < n) ⊎ (n < m) ⊎ (m ≡ n)
    go true e b f = inl (grind (arith, nat_tests))
    go false e true f = inr (inl (grind (arith, nat_tests)))
    go false e false f = inr (inr (grind (arith, nat_tests)))

module _ (p : Tree) (s : ℕ) (new : Name) where
  abbrev q : Tree
  q = program_renamed p (analysis_of p) s new

  abbrev found : Option ℕ
  found = first_difference (analysis_of p) (analysis_of q) 0 (node_count p.root)

  abbrev fixing : Option ℕ
  fixing = first_fixed (exported_names (steps p)) (bears_name (analysis_of p) s) (steps p)

  -- why nothing is refused, or what is
  abbrev Ends : Result Tree Refusal → Type 0
  Ends (Ok r) = (is_bad_name new ≡ false) × (fixing ≡ None) × (found ≡ None) × (r ≡ q)
  Ends (Err bad_name) = is_bad_name new ≡ true
  Ends (Err (fixed node)) = (is_bad_name new ≡ false) × (fixing ≡ Some node)
  Ends (Err (differs node)) = (is_bad_name new ≡ false) × (fixing ≡ None) × (found ≡ Some node)

  ends : Ends (rename p s new)
  ends = by_name (is_bad_name new) refl
    where
      by_difference : is_bad_name new ≡ false → fixing ≡ None → (o : Option ℕ) → found ≡ o → Ends (compared p (analysis_of p) q o)
      by_difference bad free None e = (bad, free, e, refl)
      by_difference bad free (Some node) e = (bad, free, e)

      by_fixed : is_bad_name new ≡ false → (o : Option ℕ) → fixing ≡ o → Ends (unless_fixed p (analysis_of p) (bears_name (analysis_of p) s) new o)
      by_fixed bad (Some node) e = (bad, e)
      by_fixed bad None e = by_difference bad e found refl

      by_name : (b : Bool) → is_bad_name new ≡ b → Ends (unless_bad b p (steps p) (analysis_of p) s new)
      by_name true e = e
      by_name false e = by_fixed e fixing refl

  pub ends_renamed : (r : Tree) → rename p s new ≡ Ok r → (is_bad_name new ≡ false) × NoneFixes p s × Same p r × (r ≡ q)
  ends_renamed r e = let w : Ends (Ok r) = subst Ends e ends in (w.0, free_means_none p s w.1, subst (Same p) (sym w.3) (exact_none p q w.2), w.3)

  after_name : is_bad_name new ≡ false → rename p s new ≡ unless_fixed p (analysis_of p) (bears_name (analysis_of p) s) new fixing
  after_name bad = ap (λ b. unless_bad b p (steps p) (analysis_of p) s new) bad

  after_fixed : is_bad_name new ≡ false → NoneFixes p s → rename p s new ≡ compared p (analysis_of p) q found
  after_fixed bad none = after_name bad ∙ ap (unless_fixed p (analysis_of p) (bears_name (analysis_of p) s) new) (none_means_free p s none)

  pub renames : (r : Tree) → (is_bad_name new ≡ false) × NoneFixes p s × Same p r × (r ≡ q) → rename p s new ≡ Ok r
  renames r w = after_fixed w.0 w.1 ∙ ap (compared p (analysis_of p) q) (complete p q (subst (Same p) w.3 w.2)) ∙ ap Ok (sym w.3)

  pub ends_bad : rename p s new ≡ Err bad_name → is_bad_name new ≡ true
  ends_bad e = subst Ends e ends

  pub is_bad : is_bad_name new ≡ true → rename p s new ≡ Err bad_name
  is_bad e = ap (λ b. unless_bad b p (steps p) (analysis_of p) s new) e

  pub ends_fixed : (node : ℕ) → IsNumbered p.root → rename p s new ≡ Err (fixed node) → (is_bad_name new ≡ false) × FixesFirst p s node
  ends_fixed node h e = let w : Ends (Err (fixed node)) = subst Ends e ends in (w.0, fixes_first p s node h w.1)

  -- there is one least node
  one_fixed : (node : ℕ) → IsNumbered p.root → FixesFirst p s node → fixing ≡ Some node
  one_fixed node h w = go fixing refl
    where
      go : (o : Option ℕ) → first_fixed (exported_names (steps p)) (bears_name (analysis_of p) s) (steps p) ≡ o → o ≡ Some node
      go None e = absurd (free_means_none p s e w.place w.fixes)
      go (Some other) e =
          let v : FixesFirst p s other = fixes_first p s other h e in
          let here : node ≤ v.place.node.node_id = w.least v.place v.fixes in
          let there : other ≤ w.place.node.node_id = v.least w.place w.fixes in
          ap Some (omega (arith, here, there, v.id, w.id))

  pub is_fixed : (node : ℕ) → IsNumbered p.root → (is_bad_name new ≡ false) × FixesFirst p s node → rename p s new ≡ Err (fixed node)
  is_fixed node h w = after_name w.0 ∙ ap (unless_fixed p (analysis_of p) (bears_name (analysis_of p) s) new) (one_fixed node h w.1)

  pub ends_different : (node : ℕ) → rename p s new ≡ Err (differs node) → (is_bad_name new ≡ false) × NoneFixes p s × DiffersFirstAt p q node
  ends_different node e = let w : Ends (Err (differs node)) = subst Ends e ends in (w.0, free_means_none p s w.1, exact_some p q node w.2)

  one_difference : (node : ℕ) → DiffersFirstAt p q node → found ≡ Some node
  one_difference node w = go found refl
    where
      go : (o : Option ℕ) → first_difference (analysis_of p) (analysis_of (program_renamed p (analysis_of p) s new)) 0 (node_count p.root) ≡ o → o ≡ Some node
      go None e = absurd (w.there (exact_none p (program_renamed p (analysis_of p) s new) e node w.inside))
      go (Some other) e = let v : DiffersFirstAt p (program_renamed p (analysis_of p) s new) other = exact_some p (program_renamed p (analysis_of p) s new) other e in elim (compare other node) [
        | inl l ↦ absurd (v.there (w.before other l))
        | inr c ↦ elim c [ inl l ↦ absurd (w.there (v.before node l)) | inr same ↦ ap Some same ]
      ]

  pub is_different : (node : ℕ) → (is_bad_name new ≡ false) × NoneFixes p s × DiffersFirstAt p q node → rename p s new ≡ Err (differs node)
  is_different node w = after_fixed w.0 w.1 ∙ ap (compared p (analysis_of p) q) (one_difference node w.2)
