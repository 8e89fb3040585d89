-- Symbols that share a name, and references that a name leaves free.
use Rattle.std.proofs.Common.{◌≡◌, ℕ, zero, suc, List, [], ◌∷◌, Some, None, Bool, true, false, ◌&&◌, cond, refl, sym, ap, subst, ◌∙◌, inl, inr, bytes_eq, arith}
use Rattle.std.specs.Map.{lookup as entry_of_name}
use Rattle.std.specs.Option.{is_some}
use Rattle.std.specs.Prelude.{slice_get}
use Rattle.semantic_syntax.specs.SourceTypes.{is_typescript}
use Rattle.semantic_syntax.specs.Tables.{Name, Symbol, FreeLists}
use Rattle.semantic_tree.specs.Faults.{first_fault}
use Rattle.semantic_tree.specs.Tree.{Tree}
use Rattle.semantic_model.specs.Entries.{Among, times}
use Rattle.semantic_model.specs.Fits.{StandsUnder}
use Rattle.semantic_model.specs.FreeNames.{free_references}
use Rattle.semantic_model.specs.Place.{Place}
use Rattle.semantic_model.specs.Reference.{reference_at}
use Rattle.semantic_model.specs.TablesOf.{tables_of}
use Rattle.semantic_model.proofs.form.Shape.{has_form}
use Rattle.semantic_model.proofs.lists.Members.{among_at}
use Rattle.semantic_model.proofs.once.ListedUnder.{name_tells}
use Rattle.semantic_model.proofs.once.ReferencesStand.{stand_once}
use Rattle.binding_laws.proofs.ListLaws.{filtered_out}
use Rattle.tangle_model.specs.Mention.{mentions}
use Rattle.tangle_model.specs.Tangled.{any_mention, is_in_own_index, is_name_of, is_shared, holds_in, all_reasons, tangle_reasons}
use Rattle.tangle_model.specs.declared.reason.Reason.{Reason}
use Rattle.tangle_model.specs.declared.reason.Reason.TheVariants as reason
use Rattle.typescript_ties.proofs.AgreedPlaces.{any_there}
use Rattle.binding_laws.proofs.ReferredNodes.{IsReferred}
use Rattle.binding_laws.proofs.SmallLaws.{never}

-- ---- symbols of one name

pub name_among : (ys : List Symbol) (i : ℕ) (y : Symbol) (x : Name) → slice_get ys i ≡ Some y → y.name ≡ x → is_name_of ys x ≡ true
name_among ys i y x at e = any_there (λ z. bytes_eq x z.name) ys y (among_at ys i y at) (elim (name_tells x y.name) [ inl j ↦ j.0 | inr j ↦ absurd (j.1 (sym e)) ])

pub two_share : (ys : List Symbol) (i j : ℕ) (y z : Symbol) (x : Name) → slice_get ys i ≡ Some y → slice_get ys j ≡ Some z → y.name ≡ x → z.name ≡ x → is_shared ys x ≡ false → i ≡ j
two_share [] i j y z x a b e f h = absurd cc
two_share (u ∷ ys) zero zero y z x a b e f h = refl
two_share (u ∷ ys) zero (suc j) y z x a b e f h =
    let first : u ≡ y = cc in
    let same : bytes_eq x u.name ≡ true = elim (name_tells x u.name) [ inl k ↦ k.0 | inr k ↦ absurd (k.1 (sym (ap (λ v. v.name) first ∙ e))) ] in
    absurd (never (sym (name_among ys j z x b f) ∙ sym (ap (λ t. cond t (is_name_of ys x) (is_shared ys x)) same) ∙ h))
two_share (u ∷ ys) (suc i) zero y z x a b e f h =
    let first : u ≡ z = cc in
    let same : bytes_eq x u.name ≡ true = elim (name_tells x u.name) [ inl k ↦ k.0 | inr k ↦ absurd (k.1 (sym (ap (λ v. v.name) first ∙ f))) ] in
    absurd (never (sym (name_among ys i y x a e) ∙ sym (ap (λ t. cond t (is_name_of ys x) (is_shared ys x)) same) ∙ h))
two_share (u ∷ ys) (suc i) (suc j) y z x a b e f h = ap suc (by (bytes_eq x u.name) h (two_share ys i j y z x a b e f))
  where
    by : (t : Bool) → cond t (is_name_of ys x) (is_shared ys x) ≡ false → (is_shared ys x ≡ false → i ≡ j) → i ≡ j
    by true g later = absurd (never (sym (name_among ys i y x a e) ∙ g))
    by false g later = later g

-- ---- free names

no_entry : (fs : FreeLists) (x : Name) → is_some (entry_of_name (bytes_eq x) fs) ≡ false → free_references fs x ≡ []
no_entry [] x h = refl
no_entry (f ∷ fs) x h = by (bytes_eq x f.0) refl h (no_entry fs x)
  where
    by : (t : Bool) → bytes_eq x f.0 ≡ t → is_some (cond t (Some f.1) (entry_of_name (bytes_eq x) fs)) ≡ false → (is_some (entry_of_name (bytes_eq x) fs) ≡ false → free_references fs x ≡ []) → free_references (f ∷ fs) x ≡ []
    by true e g later = absurd (never g)
    by false e g later = rw (other e) (later g)
      where
        other : bytes_eq x f.0 ≡ false → bytes_eq f.0 x ≡ false
        other i = elim (name_tells f.0 x) [
          | inr j ↦ j.0
          | inl j ↦ absurd (elim (name_tells x f.0) [ inl k ↦ never (sym k.0 ∙ i) | inr k ↦ k.1 (sym j.1) ])
        ]

-- ---- the program

module _ (p : Tree) (h : first_fault p ≡ None) (typed : is_typescript p.source_type ≡ true) (x : Name) (untangled : tangle_reasons p x ≡ []) where
  pub holds_not : (r : Reason) → Among r all_reasons → holds_in p.source_type (mentions p) (tables_of p) r x ≡ false
  holds_not r a = filtered_out (λ r. holds_in p.source_type (mentions p) (tables_of p) r x) all_reasons r untangled a

  not_free : is_some (entry_of_name (bytes_eq x) (tables_of p).free) ≡ false
  not_free = by (is_typescript p.source_type) typed (holds_not reason.FreeNamesake (inr (inr (inr (inr (inr (inl refl)))))))
    where
      by : (t : Bool) → t ≡ true → (t && is_some (entry_of_name (bytes_eq x) (tables_of p).free)) ≡ false → is_some (entry_of_name (bytes_eq x) (tables_of p).free) ≡ false
      by true e i = i
      by false e i = absurd (never (sym e))

  -- no index signature has it that is asked for it
  pub asks_own_index : any_mention (is_in_own_index (mentions p)) (mentions p) x ≡ false
  asks_own_index = by (is_typescript p.source_type) typed (holds_not reason.IndexParameter (inr (inr (inr (inr (inr (inr (inr (inr (inr (inr (inl refl))))))))))))
    where
      by : (t : Bool) → t ≡ true → (t && any_mention (is_in_own_index (mentions p)) (mentions p) x) ≡ false → any_mention (is_in_own_index (mentions p)) (mentions p) x ≡ false
      by true e i = i
      by false e i = absurd (never (sym e))

  -- no reference of it is free
  pub never_free : (q : Place) (referred : IsReferred p q) → q.node.text ≡ x → referred.entry.symbol_id ≡ None → ⊥
  never_free q referred is_x e =
      let under : StandsUnder (tables_of p) referred.number q.node.text referred.entry.symbol_id = (stand_once p (has_form p h)).under referred.number (reference_at q) referred.entry referred.reference referred.row in
      let once : times referred.number (free_references (tables_of p).free q.node.text) ≡ 1 = subst (λ o. StandsUnder (tables_of p) referred.number q.node.text o) e under in
      let none : free_references (tables_of p).free q.node.text ≡ [] = no_entry (tables_of p).free q.node.text (subst (λ y. is_some (entry_of_name (bytes_eq y) (tables_of p).free) ≡ false) (sym is_x) not_free) in
      let zero_is : 0 ≡ 1 = sym (ap (times referred.number) none) ∙ once in
      absurd (omega (arith, zero_is))
