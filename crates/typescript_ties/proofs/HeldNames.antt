-- What a catch clause declares is bound by the clause, or by its body, which takes it over.
use Rattle.std.proofs.Common.{◌≡◌, ℕ, Option, Some, None, inl, inr, ◌⊎◌, refl, sym, ap, subst, ◌∙◌, filter}
use Rattle.semantic_syntax.specs.Tables.{Name}
use Rattle.semantic_model.specs.Binding.{get}
use Rattle.semantic_model.specs.Fold.{State, Made, or_else, flags_of}
use Rattle.semantic_model.specs.Tie.{seen_as}
use Rattle.binding_laws.specs.SeenDeclarations.{bound_by_all}
use Rattle.typescript_ties.specs.SeenTogether.{is_in_scope}
use Rattle.typescript_ties.proofs.LikeFlags.{SeenAlike}
use Rattle.typescript_ties.proofs.PlainFold.{seen_with}

-- what the clause declares, the clause binds or its body
pub record IsHeld (x : Name) (st : State) (c b : ℕ) : Type 0 where
  pub either : (get st.bindings c x ≡ None) ⊎ (get st.bindings b x ≡ None)
  pub counted : SeenAlike (seen_as st (or_else (get st.bindings c x) (get st.bindings b x))) (bound_by_all (filter (is_in_scope c x) st.made))

-- the target of what was made binds it, or the body that takes it over
abbrev pub IsBoundFor : Name → State → Made → Type 0
IsBoundFor x st m = (get st.bindings m.declaration.route.target.number x ≡ Some m.symbol) ⊎ ((b : ℕ) × (m.declaration.route.target.body ≡ Some b) × (get st.bindings b x ≡ Some m.symbol))

pub or_cases : (o r : Option ℕ) (s : ℕ) → or_else o r ≡ Some s → (o ≡ Some s) ⊎ (r ≡ Some s)
or_cases None r s e = inr e
or_cases (Some y) r s e = inl e

pub seen_kept : (st new : State) (o : Option ℕ) → ((s : ℕ) → o ≡ Some s → flags_of new s ≡ flags_of st s) → seen_as new o ≡ seen_as st o
seen_kept st new None f = refl
seen_kept st new (Some s) f = ap (seen_with s) (f s refl)

-- another state in which one of them binds the same
pub held_so : (x : Name) (st new : State) (c b : ℕ) → (get new.bindings c x ≡ None) ⊎ (get new.bindings b x ≡ None) → or_else (get new.bindings c x) (get new.bindings b x) ≡ or_else (get st.bindings c x) (get st.bindings b x)
    → filter (is_in_scope c x) new.made ≡ filter (is_in_scope c x) st.made → ((s : ℕ) → (get st.bindings c x ≡ Some s) ⊎ (get st.bindings b x ≡ Some s) → flags_of new s ≡ flags_of st s) → IsHeld x st c b → IsHeld x new c b
held_so x st new c b either same made flags k = record {
  either = either;
  counted = subst (λ l. SeenAlike (seen_as new (or_else (get new.bindings c x) (get new.bindings b x))) (bound_by_all l)) (sym made)
      (subst (λ z. SeenAlike z (bound_by_all (filter (is_in_scope c x) st.made)))
      (sym (ap (seen_as new) same ∙ seen_kept st new (or_else (get st.bindings c x) (get st.bindings b x)) (λ s e. flags s (or_cases (get st.bindings c x) (get st.bindings b x) s e)))) k.counted);
}

pub held_kept : (x : Name) (st new : State) (c b : ℕ) → get new.bindings c x ≡ get st.bindings c x → get new.bindings b x ≡ get st.bindings b x
    → filter (is_in_scope c x) new.made ≡ filter (is_in_scope c x) st.made → ((s : ℕ) → (get st.bindings c x ≡ Some s) ⊎ (get st.bindings b x ≡ Some s) → flags_of new s ≡ flags_of st s) → IsHeld x st c b → IsHeld x new c b
held_kept x st new c b p q made flags k = held_so x st new c b (elim k.either [ inl e ↦ inl (p ∙ e) | inr e ↦ inr (q ∙ e) ]) (λ i. or_else (p i) (q i)) made flags k
