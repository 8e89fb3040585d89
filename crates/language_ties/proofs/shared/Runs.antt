-- Through all events, declarations of a name that keep clear of each other share the symbols of their scopes.
use Rattle.std.proofs.Common.{◌≡◌, ℕ, suc, ◌==◌, List, [], ◌∷◌, Option, Some, None, Bool, true, false, ◌||◌, cond, inl, inr, ◌⊎◌, refl, sym, ap, subst, ◌∙◌}
use Rattle.std.specs.Prelude.{slice_get}
use Rattle.std.proofs.lemmas.Bool.Decides.{eqb_tells}
use Rattle.semantic_syntax.specs.Tables.{Name}
use Rattle.semantic_model.specs.Binding.{Binding, get, put, take_over}
use Rattle.semantic_model.specs.Declaration.{Declaration}
use Rattle.semantic_model.specs.Entries.{Among}
use Rattle.semantic_model.specs.Event.{Event, declares, takes_over, ends_header, declarations}
use Rattle.semantic_model.specs.Tie.{until_end_of}
use Rattle.semantic_model.specs.Fold.{State, Made}
use Rattle.semantic_model.specs.Hoist.{act, run}
use Rattle.semantic_model.proofs.alone.Homecoming.{takes, AllHomed}
use Rattle.semantic_model.proofs.bindings.VarTargets.{IsLed, AllEventsLed}
use Rattle.semantic_model.proofs.fold.Actions.{changes_declare}
use Rattle.semantic_model.proofs.fold.Changes.{Sits, at_target, at_body, at_block, Sound, Change, makes, finds, unbinds, binds, remembers, rescopes, notes, Changes, none, more}
use Rattle.semantic_model.proofs.fold.Declared.{IsDeclaredIn, AllEventsIn}
use Rattle.semantic_model.proofs.fold.Orders.{Adds, adds}
use Rattle.semantic_model.proofs.fold.TakeOvers.{Ready, two, Orderly, sound_act}
use Rattle.semantic_model.proofs.lists.BindingLaws.{same_key_tells, get-remove, get-put_other, get-remove_other, get-take_over_other}
use Rattle.semantic_model.proofs.lists.Members.{among_more}
use Rattle.semantic_model.proofs.once.ListedUnder.{name_tells}
use Rattle.binding_laws.proofs.OtherNames.{leaves_name}
use Rattle.language_ties.specs.SharedSymbols.{KeepClear, AllKeepClear}
use Rattle.language_ties.proofs.shared.Declares.{IsFit}
use Rattle.language_ties.proofs.shared.Events.{IsNumbered, AllNumbered}
use Rattle.language_ties.proofs.shared.Shared.{Shared, shared_untouched, shared_taken, taken_gone}
use Rattle.language_ties.proofs.shared.Ways.{by_way}

module _ (table : List (Option ℕ)) (root : slice_get table 0 ≡ Some None) (v : ℕ → ℕ) (x : Name) where
  -- the declarations that were made keep clear of those to come
  abbrev pub AreClear : List Made → List Event → Type 0
  AreClear ms es = (y : Made) → Among y ms → y.declaration.naming.name ≡ x → (e : Declaration) → Among e (declarations es) → e.naming.name ≡ x → KeepClear y.declaration e

  abbrev pub AreLed : List Made → Type 0
  AreLed ms = (y : Made) → Among y ms → y.declaration.naming.name ≡ x → IsLed v table y.declaration.how y.declaration.route

  fit_of : (n m k l : ℕ) (d : Declaration) → IsNumbered n m k l d → IsDeclaredIn table root d → IsFit table n m k l d
  fit_of n m k l d h i = record { more = h.more; opens = h.opens; below = h.below; within = h.within; fresh = h.fresh; entry = i.target.entry; visible = h.visible }

  one_declaration : (n m k l : ℕ) (st : State) (d : Declaration) (es : List Event) → IsFit table n m k l d → IsLed v table d.how d.route → Orderly table st (declares d ∷ es) → Sound table st → AreClear st.made (declares d ∷ es) → AreLed st.made → Shared table x n m st → Shared table x k l (act st (declares d))
  one_declaration n m k l st d es fit lead order sound clear led h = elim (name_tells d.naming.name x) [
    | inl e ↦ subst (λ y. Shared table y k l (act st (declares d))) e.1
        (by_way table v n m k l st d sound (subst (λ y. Shared table y n m st) (sym e.1) h) fit (λ y a q. clear y a (q ∙ e.1) d (inl refl) e.1) d.how refl (λ y a q. led y a (q ∙ e.1)) lead)
    | inr e ↦ shared_untouched table x n m k l st (act st (declares d)) fit.more fit.opens (leaves_name table x d e.1 sound (changes_declare table st d order.0 sound)) h
  ]

  clear_next : (st : State) (d : Declaration) (es : List Event) → AreClear st.made (declares d ∷ es) → (d.naming.name ≡ x → (e : Declaration) → Among e (declarations es) → e.naming.name ≡ x → KeepClear d e) → AreClear (act st (declares d)).made es
  clear_next st d es clear keep y a q e b r =
      let w : Adds st.made d (act st (declares d)).made = adds st d in
      elim (among_more y (record { declaration = d; symbol = w.symbol }) st.made (subst (Among y) w.adds a)) [
        | inl c ↦ clear y c q e (inr b) r
        | inr c ↦ subst (λ z. KeepClear z.declaration e) c (keep (ap (λ z. z.declaration.naming.name) c ∙ q) e b r)
      ]

  led_next : (st : State) (d : Declaration) → IsLed v table d.how d.route → AreLed st.made → AreLed (act st (declares d)).made
  led_next st d lead led y a q =
      let w : Adds st.made d (act st (declares d)).made = adds st d in
      elim (among_more y (record { declaration = d; symbol = w.symbol }) st.made (subst (Among y) w.adds a)) [
        | inl c ↦ led y c q
        | inr c ↦ subst (λ z. IsLed v table z.declaration.how z.declaration.route) c lead
      ]

  abbrev pub SharedAtLast : State → Type 0
  SharedAtLast st = (n : ℕ) × (m : ℕ) × Shared table x n m st

  pub shared_run : (n m : ℕ) (st : State) (es : List Event) → AllNumbered n m es → AllEventsIn table root es → AllEventsLed v table es → Orderly table st es → Sound table st → AllKeepClear x (declarations es) → AreClear st.made es → AreLed st.made → Shared table x n m st → SharedAtLast (run st es)
  shared_run n m st [] num ins lead order sound keep clear led h = (n, m, h)
  shared_run n m st (declares d ∷ es) num ins lead order sound keep clear led h =
      let fit : IsFit table n m num.0 num.1 d = fit_of n m num.0 num.1 d num.2 ins.0 in
      shared_run num.0 num.1 (act st (declares d)) es num.3 ins.1 lead.1 order.1 (sound_act table st (declares d) order.0 sound) keep.1 (clear_next st d es clear keep.0) (led_next st d lead.0 led)
      (one_declaration n m num.0 num.1 st d es fit lead.0 order sound clear led h)
  shared_run n m st (takes_over c b ∷ es) num ins lead order sound keep clear led h =
      shared_run (suc b) (suc b) (act st (takes_over c b)) es num.2 ins.1 lead order.1 (sound_act table st (takes_over c b) order.0 sound) keep clear led (shared_taken table x n m st c b order.0 num.0 num.1 h)
  shared_run n m st (ends_header c ∷ es) num ins lead order sound keep clear led h = shared_run n m st es num ins.1 lead order.1 sound keep clear led h

  -- and where a header ends
  pub shared_until : (e n m : ℕ) (st : State) (es : List Event) → AllNumbered n m es → AllEventsIn table root es → AllEventsLed v table es → Orderly table st es → Sound table st → AllKeepClear x (declarations es) → AreClear st.made es → AreLed st.made → Shared table x n m st → SharedAtLast (run st (until_end_of e es))
  shared_until e n m st [] num ins lead order sound keep clear led h = (n, m, h)
  shared_until e n m st (declares d ∷ es) num ins lead order sound keep clear led h =
      let fit : IsFit table n m num.0 num.1 d = fit_of n m num.0 num.1 d num.2 ins.0 in
      shared_until e num.0 num.1 (act st (declares d)) es num.3 ins.1 lead.1 order.1 (sound_act table st (declares d) order.0 sound) keep.1 (clear_next st d es clear keep.0) (led_next st d lead.0 led)
      (one_declaration n m num.0 num.1 st d es fit lead.0 order sound clear led h)
  shared_until e n m st (takes_over c b ∷ es) num ins lead order sound keep clear led h =
      shared_until e (suc b) (suc b) (act st (takes_over c b)) es num.2 ins.1 lead order.1 (sound_act table st (takes_over c b) order.0 sound) keep clear led (shared_taken table x n m st c b order.0 num.0 num.1 h)
  shared_until e n m st (ends_header c ∷ es) num ins lead order sound keep clear led h = go (c == e) (shared_until e n m st es num ins.1 lead order.1 sound keep clear led h)
    where
      go : (b : Bool) → SharedAtLast (run st (until_end_of e es)) → SharedAtLast (run st (cond b [] (ends_header c ∷ until_end_of e es)))
      go true k = (n, m, h)
      go false k = k

  -- ---- nothing stays in a clause

  -- what binds the name in a clause will be taken over
  abbrev pub IsPending : State → List Event → Type 0
  IsPending st es = (c b s : ℕ) → slice_get table c ≡ Some (Some b) → get st.bindings c x ≡ Some s → takes c es ≡ true

  -- what a change binds in a clause was bound there before, or the clause is its target
  abbrev BoundBefore : Declaration → State → State → Type 0
  BoundBefore d a b = (c e s : ℕ) → slice_get table c ≡ Some (Some e) → get b.bindings c x ≡ Some s → ((r : ℕ) × (get a.bindings c x ≡ Some r)) ⊎ (d.route.target.number ≡ c)

  sits_in_clause : (d : Declaration) (c e : ℕ) → slice_get table c ≡ Some (Some e) → Sits table d c → d.route.target.number ≡ c
  sits_in_clause d c e q (at_target i) = i
  sits_in_clause d c e q (at_body i j) = let w : Some (Some e) ≡ Some None = sym q ∙ j in absurd cc
  sits_in_clause d c e q (at_block i j) = let w : Some (Some e) ≡ Some None = sym q ∙ j in absurd cc

  put_before : (bs : List Binding) (d : Declaration) (i s : ℕ) → Sits table d i → (c e r : ℕ) → slice_get table c ≡ Some (Some e) → get (put bs i d.naming.name s) c x ≡ Some r → ((z : ℕ) × (get bs c x ≡ Some z)) ⊎ (d.route.target.number ≡ c)
  put_before bs d i s sits c e r q g = elim (same_key_tells i c d.naming.name x) [
    | inl k ↦ inr (sits_in_clause d c e q (subst (Sits table d) k.1 sits))
    | inr k ↦ inl (r, sym (get-put_other bs i d.naming.name s c x k.0) ∙ g)
  ]

  before_change : (d : Declaration) {a b : State} → Change table d a b → BoundBefore d a b
  before_change d (makes st i p) c e s q g = put_before st.bindings d i _ p c e s q g
  before_change d (finds st f i r keeps p k) c e s q g = inl (s, g)
  before_change d (unbinds st i p) c e s q g = elim (same_key_tells i c d.naming.name x) [
    | inl k ↦ (let w : None ≡ Some s = sym (get-remove st.bindings i d.naming.name c x ∙ rw k.0 refl) ∙ g in absurd cc)
    | inr k ↦ inl (s, sym (get-remove_other st.bindings i d.naming.name c x k.0) ∙ g)
  ]
  before_change d (binds st i r p k) c e s q g = put_before st.bindings d i r p c e s q g
  before_change d (remembers st i r p k) c e s q g = inl (s, g)
  before_change d (rescopes st i r k) c e s q g = inl (s, g)
  before_change d (notes st cs) c e s q g = inl (s, g)

  before_changes : (d : Declaration) {a b : State} → Changes table d a b → BoundBefore d a b
  before_changes d (none st) c e s q g = inl (s, g)
  before_changes d (more h k) c e s q g = elim (before_change d k c e s q g) [
    | inl w ↦ before_changes d h c e w.0 q w.1
    | inr w ↦ inr w
  ]

  pending_declares : (st : State) (d : Declaration) (es : List Event) → IsDeclaredIn table root d → Orderly table st (declares d ∷ es) → Sound table st → AllHomed (declares d ∷ es) → IsPending st (declares d ∷ es) → IsPending (act st (declares d)) es
  pending_declares st d es ins order sound homed h c b s q g = elim (before_changes d (changes_declare table st d order.0 sound) c b s q g) [
    | inl w ↦ h c b w.0 q w.1
    | inr w ↦ (let e : Some d.route.target.body ≡ Some (Some b) = sym ins.target.entry ∙ subst (λ k. slice_get table k ≡ Some (Some b)) (sym w) q in
        let i : d.route.target.body ≡ Some b = cc in
        subst (λ k. takes k es ≡ true) w (homed.0 b i))
  ]

  pending_takes : (st : State) (d e : ℕ) (es : List Event) → Ready table st.made d e → IsPending st (takes_over d e ∷ es) → IsPending (act st (takes_over d e)) es
  pending_takes st d e es ready h c b s q g = elim (eqb_tells c d) [
    | inl k ↦ absurd (taken_gone table x st.bindings d e (two table st.made d e ready) s (subst (λ i. get (take_over st.bindings d e) i x ≡ Some s) k.1 g))
    | inr k ↦ elim (eqb_tells c e) [
      | inl i ↦ (let w : Some (Some b) ≡ Some None = sym q ∙ subst (λ j. slice_get table j ≡ Some None) (sym i.1) ready.body in absurd cc)
      | inr i ↦ elim (eqb_tells d c) [
        | inl j ↦ absurd (k.1 (sym j.1))
        | inr j ↦ (let w : (d == c || takes c es) ≡ true = h c b s q (sym (get-take_over_other st.bindings d e c x k.1 i.1) ∙ g) in rw j.0 at w)
      ]
    ]
  ]

  pub none_pending : (st : State) (es : List Event) → AllEventsIn table root es → Orderly table st es → Sound table st → AllHomed es → IsPending st es → (c b s : ℕ) → slice_get table c ≡ Some (Some b) → get (run st es).bindings c x ≡ Some s → ⊥
  none_pending st [] ins order sound homed h c b s q g = let w : false ≡ true = h c b s q g in absurd cc
  none_pending st (declares d ∷ es) ins order sound homed h c b s q g =
      none_pending (act st (declares d)) es ins.1 order.1 (sound_act table st (declares d) order.0 sound) homed.1 (pending_declares st d es ins.0 order sound homed h) c b s q g
  none_pending st (takes_over d e ∷ es) ins order sound homed h c b s q g =
      none_pending (act st (takes_over d e)) es ins.1 order.1 (sound_act table st (takes_over d e) order.0 sound) homed (pending_takes st d e es order.0 h) c b s q g
  none_pending st (ends_header d ∷ es) ins order sound homed h c b s q g = none_pending st es ins.1 order.1 sound homed h c b s q g
