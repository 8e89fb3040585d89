-- What a declaration of another name leaves of a name: its bindings, what is remembered of it, and the flags of its symbols.
use Rattle.std.proofs.Common.{◌≡◌, ℕ, List, [], ◌∷◌, ◌++◌, Option, Some, false, inl, inr, refl, sym, ap, subst, ◌∙◌, length}
use Rattle.std.specs.Prelude.{slice_get}
use Rattle.semantic_syntax.specs.Tables.{Name}
use Rattle.semantic_model.specs.Binding.{get}
use Rattle.semantic_model.specs.Declaration.{Declaration}
use Rattle.semantic_model.specs.Entries.{Among}
use Rattle.semantic_model.specs.Fold.{State, Made, in_scope, flags_of, new_symbol}
use Rattle.semantic_model.proofs.fold.Changes.{Has, HasName, Sound, Change, makes, finds, unbinds, binds, remembers, rescopes, notes, Changes, none, more}
use Rattle.semantic_model.proofs.fold.Soundness.{sound-changes}
use Rattle.semantic_model.proofs.lists.BindingLaws.{same_key, same_key_tells, get-put_other, get-remove_other}
use Rattle.semantic_model.proofs.lists.Members.{among_left, among_more}
use Rattle.binding_laws.proofs.Growing.{other_flags, pushed_flags, same_flags}

module _ (table : List (Option ℕ)) (x : Name) where
  pub record LeavesName (a b : State) : Type 0 where
    pub bindings : (c : ℕ) → get b.bindings c x ≡ get a.bindings c x
    pub remembered : (c : ℕ) → get b.remembered c x ≡ get a.remembered c x
    pub kept : (k : Made) → Among k a.made → Among k b.made
    pub older : (k : Made) → Among k b.made → k.declaration.naming.name ≡ x → Among k a.made
    pub flags : (k : Made) → Among k a.made → k.declaration.naming.name ≡ x → flags_of b k.symbol ≡ flags_of a k.symbol

  other_key : (c : ℕ) (y : Name) (d : ℕ) → (y ≡ x → ⊥) → same_key c y d x ≡ false
  other_key c y d n = elim (same_key_tells c d y x) [ inl k ↦ absurd (n k.2) | inr k ↦ k.0 ]

  -- one more declaration, of another name
  older_made : (ms : List Made) (d : Declaration) (s : ℕ) → (d.naming.name ≡ x → ⊥) → (k : Made) → Among k (ms ++ record { declaration = d; symbol = s } ∷ []) → k.declaration.naming.name ≡ x → Among k ms
  older_made ms d s n k a h = elim (among_more k (record { declaration = d; symbol = s }) ms a) [
    | inl b ↦ b
    | inr e ↦ absurd (n (ap (λ m. m.declaration.naming.name) e ∙ h))
  ]

  -- a symbol of the other name is another one
  other_symbol : (st : State) (d : Declaration) (c s : ℕ) → (d.naming.name ≡ x → ⊥) → Sound table st → Has st.made c d.naming.name s → (k : Made) → Among k st.made → k.declaration.naming.name ≡ x → s ≡ k.symbol → ⊥
  other_symbol st d c s n sound has k a h e =
      let mine : HasName st.symbols k.symbol k.declaration.naming.name = sound.has_name k a in
      let theirs : HasName st.symbols has.made.symbol has.made.declaration.naming.name = sound.has_name has.made has.among in
      let q : Some theirs.symbol ≡ Some mine.symbol = sym (subst (λ r. slice_get st.symbols r ≡ Some theirs.symbol) (has.symbol ∙ e) theirs.is_there) ∙ mine.is_there in
      let w : theirs.symbol ≡ mine.symbol = cc in
      n (sym has.named ∙ sym theirs.named ∙ ap (λ y. y.name) w ∙ mine.named ∙ h)

  leaves_change : (d : Declaration) {a b : State} → (d.naming.name ≡ x → ⊥) → Sound table a → Change table d a b → LeavesName a b
  leaves_change d n sound (makes st c p) = record {
    bindings = λ e. get-put_other st.bindings c d.naming.name (length st.symbols) e x (other_key c d.naming.name e n);
    remembered = λ e. refl;
    kept = λ k a. among_left k st.made (record { declaration = d; symbol = length st.symbols } ∷ []) a;
    older = older_made st.made d (length st.symbols) n;
    flags = λ k a h. (let w : HasName st.symbols k.symbol k.declaration.naming.name = sound.has_name k a in pushed_flags st.symbols (new_symbol c d.naming) w.symbol k.symbol w.is_there);
  }
  leaves_change d n sound (finds st f c s keeps p has) = record {
    bindings = λ e. refl;
    remembered = λ e. refl;
    kept = λ k a. among_left k st.made (record { declaration = d; symbol = s } ∷ []) a;
    older = older_made st.made d s n;
    flags = λ k a h. other_flags f st.symbols s k.symbol (other_symbol st d c s n sound has k a h);
  }
  leaves_change d n sound (unbinds st c p) = record {
    bindings = λ e. get-remove_other st.bindings c d.naming.name e x (other_key c d.naming.name e n);
    remembered = λ e. refl;
    kept = λ k a. a;
    older = λ k a h. a;
    flags = λ k a h. refl;
  }
  leaves_change d n sound (binds st c s p m) = record {
    bindings = λ e. get-put_other st.bindings c d.naming.name s e x (other_key c d.naming.name e n);
    remembered = λ e. refl;
    kept = λ k a. a;
    older = λ k a h. a;
    flags = λ k a h. same_flags (in_scope c) st.symbols s k.symbol (λ y. refl);
  }
  leaves_change d n sound (remembers st c s p m) = record {
    bindings = λ e. refl;
    remembered = λ e. get-put_other st.remembered c d.naming.name s e x (other_key c d.naming.name e n);
    kept = λ k a. a;
    older = λ k a h. a;
    flags = λ k a h. refl;
  }
  leaves_change d n sound (rescopes st c s m) = record {
    bindings = λ e. refl;
    remembered = λ e. refl;
    kept = λ k a. a;
    older = λ k a h. a;
    flags = λ k a h. same_flags (in_scope c) st.symbols s k.symbol (λ y. refl);
  }
  leaves_change d n sound (notes st cs) = record { bindings = λ e. refl; remembered = λ e. refl; kept = λ k a. a; older = λ k a h. a; flags = λ k a h. refl }

  leaves_both : (a b c : State) → LeavesName a b → LeavesName b c → LeavesName a c
  leaves_both a b c h k = record {
    bindings = λ e. k.bindings e ∙ h.bindings e;
    remembered = λ e. k.remembered e ∙ h.remembered e;
    kept = λ m q. k.kept m (h.kept m q);
    older = λ m q e. h.older m (k.older m q e) e;
    flags = λ m q e. k.flags m (h.kept m q) e ∙ h.flags m q e;
  }

  -- what a declaration of another name does
  pub leaves_name : (d : Declaration) {a b : State} → (d.naming.name ≡ x → ⊥) → Sound table a → Changes table d a b → LeavesName a b
  leaves_name d n sound (none st) = record { bindings = λ e. refl; remembered = λ e. refl; kept = λ k a. a; older = λ k a h. a; flags = λ k a h. refl }
  leaves_name d n sound (more {a} {b} {c} h k) = leaves_both a b c (leaves_name d n sound h) (leaves_change d n (sound-changes table d h sound) k)
