-- What a take-over at the body of a catch clause leaves.
use Rattle.std.proofs.Common.{◌≡◌, ℕ, ◌<◌, List, [], ◌∷◌, refl, sym, subst, ◌∙◌, Some, None, Option, inl, inr}
use Rattle.std.specs.Prelude.{slice_get}
use Rattle.semantic_syntax.specs.Tables.{Name, Bindings, Symbol}
use Rattle.semantic_model.specs.Entries.{Among}
use Rattle.semantic_model.specs.Binding.{bound_by}
use Rattle.semantic_model.specs.Declaration.{Declaration}
use Rattle.semantic_model.specs.Event.{Event, declares, takes_over, ends_header}
use Rattle.semantic_model.specs.Fold.{State, Made, update, in_scope}
use Rattle.semantic_model.specs.Hoist.{rescoped, act, run}
use Rattle.semantic_model.proofs.lists.BindingLaws.{among_take_over}
use Rattle.semantic_model.proofs.lists.Growth.{rescoped_length}
use Rattle.semantic_model.proofs.fold.Changes.{Sits, at_target, at_body, at_block, Holds, HasName, Sound}
use Rattle.semantic_model.proofs.fold.Soundness.{has_name-update, sound-changes}
use Rattle.semantic_model.proofs.fold.Actions.{StandsInBlock, changes_declare}

-- scope b is the body of clause c, and the targets of the declarations have their bodies in the table
pub record Ready (table : List (Option ℕ)) (ms : List Made) (c b : ℕ) : Type 0 where
  pub clause : slice_get table c ≡ Some (Some b)
  pub body : slice_get table b ≡ Some None
  pub targets : (m : Made) → Among m ms → slice_get table m.declaration.route.target.number ≡ Some m.declaration.route.target.body

pub two : (table : List (Option ℕ)) (ms : List Made) (c b : ℕ) → Ready table ms c b → c ≡ b → ⊥
two table ms c b r e = let q : slice_get table b ≡ Some (Some b) = subst (λ n. slice_get table n ≡ Some (Some b)) e r.clause in
    let k : Some (Some b) ≡ Some None = sym q ∙ r.body in absurd cc

-- what may be bound in the clause may be bound in its body
pub sits_closed : (table : List (Option ℕ)) (d : Declaration) (c b : ℕ) → slice_get table c ≡ Some (Some b) → slice_get table b ≡ Some None → slice_get table d.route.target.number ≡ Some d.route.target.body → Sits table d c → Sits table d b
sits_closed table d c b e f t (at_target k) =
    let q : Some d.route.target.body ≡ Some (Some b) = sym t ∙ subst (λ n. slice_get table n ≡ Some (Some b)) (sym k) e in
    let w : d.route.target.body ≡ Some b = cc in
    at_body w f
sits_closed table d c b e f t (at_body k h) = let q : Some (Some b) ≡ Some None = sym e ∙ h in absurd cc
sits_closed table d c b e f t (at_block k h) = let q : Some (Some b) ≡ Some None = sym e ∙ h in absurd cc

pub holds_closed : (table : List (Option ℕ)) (ms : List Made) (c b : ℕ) (x : Name) (s : ℕ) → Ready table ms c b → Holds table ms c x s → Holds table ms b x s
holds_closed table ms c b x s r h = record {
  made = h.made;
  among = h.among;
  named = h.named;
  sits = sits_closed table h.made.declaration c b r.clause r.body (r.targets h.made h.among) h.sits;
  symbol = h.symbol;
}

has_name-rescoped : (ys : List Symbol) (bs : Bindings) (c s : ℕ) (x : Name) → HasName ys s x → HasName (rescoped ys bs c) s x
has_name-rescoped ys [] c s x h = h
has_name-rescoped ys (b ∷ bs) c s x h = has_name-rescoped (update (in_scope c) ys b.1) bs c s x (has_name-update (in_scope c) ys b.1 s x (λ y. refl) h)

pub sound_take : (table : List (Option ℕ)) (st : State) (c b : ℕ) → Ready table st.made c b → Sound table st → Sound table (act st (takes_over c b))
sound_take table st c b r h = record {
  bound = λ e q. elim (among_take_over e st.bindings c b q) [
    | inl k ↦ h.bound e k
    | inr k ↦ subst (λ n. Holds table st.made n e.name e.symbol) (sym k.0) (holds_closed table st.made c b e.name e.symbol r (h.bound (record e { scope = c }) k.1))
  ];
  remembered = h.remembered;
  has_name = λ m a. has_name-rescoped st.symbols (bound_by st.bindings c) b m.symbol m.declaration.naming.name (h.has_name m a);
  has_declaration = λ s q. h.has_declaration s (subst (λ l. s < l) (rescoped_length st.symbols (bound_by st.bindings c) b) q);
}

-- what an event asks of the state before it
abbrev pub IsReady : List (Option ℕ) → State → Event → Type 0
IsReady table st (declares d) = StandsInBlock table d.how d
IsReady table st (takes_over c b) = Ready table st.made c b
IsReady table st (ends_header c) = Unit {0}

abbrev pub Orderly : List (Option ℕ) → State → List Event → Type 0
Orderly table st [] = Unit {0}
Orderly table st (e ∷ es) = IsReady table st e × Orderly table (act st e) es

pub sound_act : (table : List (Option ℕ)) (st : State) (e : Event) → IsReady table st e → Sound table st → Sound table (act st e)
sound_act table st (declares d) r h = sound-changes table d (changes_declare table st d r h) h
sound_act table st (takes_over c b) r h = sound_take table st c b r h
sound_act table st (ends_header c) r h = h

pub sound_run : (table : List (Option ℕ)) (st : State) (es : List Event) → Orderly table st es → Sound table st → Sound table (run st es)
sound_run table st [] r h = h
sound_run table st (e ∷ es) r h = sound_run table (act st e) es r.1 (sound_act table st e r.0 h)
