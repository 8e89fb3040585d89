-- A take-over moves a lone declaration to the body, and leaves it alone elsewhere.
use Rattle.std.proofs.Common.{◌≡◌, ℕ, ◌==◌, List, [], ◌∷◌, refl, sym, ap, subst, ◌∙◌, Some, None, Option, option_map, cond, Bool, true, false, ◌||◌, ◌⊎◌, inl, inr}
use Rattle.std.specs.Prelude.{slice_get}
use Rattle.std.proofs.lemmas.Bool.Decides.{eqb_tells}
use Rattle.semantic_syntax.specs.Tables.{Bindings, Symbol}
use Rattle.semantic_model.specs.Entries.{Among}
use Rattle.semantic_model.specs.Binding.{Binding, get, bound_by, take_over}
use Rattle.semantic_model.specs.Declaration.{Declaration, path, Meets}
use Rattle.semantic_syntax.specs.Members.{contains}
use Rattle.semantic_model.specs.Event.{Event, declares, takes_over, ends_header}
use Rattle.semantic_model.specs.Fold.{State, Made, update, new_symbol, in_scope}
use Rattle.semantic_model.specs.Hoist.{rescoped, act, run}
use Rattle.semantic_model.proofs.lists.BindingLaws.{get_among, among_take_over, among_taken, get-take_over_other, get-take_over_body, get-take_over_kept}
use Rattle.semantic_model.proofs.lists.SymbolLaws.{get-update}
use Rattle.semantic_model.proofs.fold.Changes.{Sits, on_path, Holds, Sound}
use Rattle.semantic_model.proofs.fold.Actions.{changes_declare}
use Rattle.semantic_model.proofs.fold.TakeOvers.{Ready, two, sits_closed, Orderly, sound_act}
use Rattle.semantic_model.proofs.alone.Alone.{Own, own_changes}

-- some of the names is bound to the symbol
abbrev hits : ℕ → Bindings → Bool
hits s [] = false
hits s (b ∷ bs) = b.1 == s || hits s bs

twice : (b : ℕ) (o : Option Symbol) → option_map (in_scope b) (option_map (in_scope b) o) ≡ option_map (in_scope b) o
twice b None = refl
twice b (Some y) = refl

symbol_rescoped : (bs : Bindings) (b s : ℕ) (ys : List Symbol) → slice_get (rescoped ys bs b) s ≡ cond (hits s bs) (option_map (in_scope b) (slice_get ys s)) (slice_get ys s)
symbol_rescoped [] b s ys = refl
symbol_rescoped (x ∷ bs) b s ys = symbol_rescoped bs b s (update (in_scope b) ys x.1) ∙ go (x.1 == s) (hits s bs) (get-update (in_scope b) ys x.1 s)
  where
    go : (t u : Bool) → slice_get (update (in_scope b) ys x.1) s ≡ cond t (option_map (in_scope b) (slice_get ys s)) (slice_get ys s) → cond u (option_map (in_scope b) (slice_get (update (in_scope b) ys x.1) s)) (slice_get (update (in_scope b) ys x.1) s) ≡ cond (t || u) (option_map (in_scope b) (slice_get ys s)) (slice_get ys s)
    go true true e = ap (option_map (in_scope b)) e ∙ twice b (slice_get ys s)
    go true false e = e
    go false true e = ap (option_map (in_scope b)) e
    go false false e = e

-- the names of a scope are its bindings
hits_bound : (e : Binding) (bs : List Binding) (c s : ℕ) → Among e bs → e.scope ≡ c → e.symbol ≡ s → hits s (bound_by bs c) ≡ true
hits_bound e [] c s a k i = absurd a
hits_bound e (b ∷ bs) c s (inl q) k i =
    let r : b.scope ≡ c = ap (λ x. x.scope) q ∙ k in
    let w : b.symbol ≡ s = ap (λ x. x.symbol) q ∙ i in
    elim (eqb_tells b.scope c) [
      | inl t ↦ elim (eqb_tells b.symbol s) [ inl u ↦ rw (t.0, u.0) refl | inr u ↦ absurd (u.1 w) ]
      | inr t ↦ absurd (t.1 r)
    ]
hits_bound e (b ∷ bs) c s (inr a) k i = go (b.scope == c) (b.symbol == s) (hits_bound e bs c s a k i)
  where
    go : (t u : Bool) → hits s (bound_by bs c) ≡ true → hits s (cond t ((b.name, b.symbol) ∷ bound_by bs c) (bound_by bs c)) ≡ true
    go true u h = rw h (elim (b.symbol == s) as (λ v. (v || true) ≡ true) [ true ↦ refl | false ↦ refl ])
    go false u h = h

record BoundIn (bs : List Binding) (c s : ℕ) : Type 0 where
  entry : Binding
  among : Among entry bs
  scope : entry.scope ≡ c
  symbol : entry.symbol ≡ s

bound_more : (b : Binding) (bs : List Binding) (c s : ℕ) → BoundIn bs c s → BoundIn (b ∷ bs) c s
bound_more b bs c s h = record { entry = h.entry; among = inr h.among; scope = h.scope; symbol = h.symbol }

bound_passed_symbol : (bs : List Binding) (c s : ℕ) → hits s (bound_by bs c) ≡ true → BoundIn bs c s
bound_passed_symbol [] c s h = absurd cc
bound_passed_symbol (b ∷ bs) c s h = elim (eqb_tells b.scope c) [
  | inl t ↦ elim (eqb_tells b.symbol s) [
    | inl u ↦ record { entry = b; among = inl refl; scope = t.1; symbol = u.1 }
    | inr u ↦ bound_more b bs c s (bound_passed_symbol bs c s (rw (t.0, u.0) at h))
  ]
  | inr t ↦ bound_more b bs c s (bound_passed_symbol bs c s (rw t.0 at h))
]

module _ (table : List (Option ℕ)) (d : Declaration) (s : ℕ) where
  pub own_among : (h : ℕ) (st : State) → Sound table st → Own table d s h st → Among (record { declaration = d; symbol = s }) st.made
  own_among h st k o =
      let t : Holds table st.made h d.naming.name s = k.bound (record { scope = h; name = d.naming.name; symbol = s }) (get_among st.bindings h d.naming.name s o.binds) in
      elim (o.others t.made t.among) [
        | inl q ↦ subst (λ m. Among m st.made) q t.among
        | inr q ↦ absurd (q.1 t.symbol)
      ]

  -- where d's name may be bound elsewhere on its path, nothing is
  none_bound : (h c e : ℕ) (st : State) → Sound table st → Own table d s h st → (c ≡ h → ⊥) → contains (path d) e ≡ true → ((m : Made) → Among m st.made → Sits table m.declaration c → contains (path m.declaration) e ≡ true) → get st.bindings c d.naming.name ≡ None
  none_bound h c e st k o n p f = go (get st.bindings c d.naming.name) refl
    where
      go : (t : Option ℕ) → get st.bindings c d.naming.name ≡ t → get st.bindings c d.naming.name ≡ None
      go None q = q
      go (Some r) q =
          let a : Among (record { scope = c; name = d.naming.name; symbol = r }) st.bindings = get_among st.bindings c d.naming.name r q in
          let t : Holds table st.made c d.naming.name r = k.bound (record { scope = c; name = d.naming.name; symbol = r }) a in
          elim (o.others t.made t.among) [
            | inl w ↦ absurd (n (o.only (record { scope = c; name = d.naming.name; symbol = r }) a (sym t.symbol ∙ ap (λ m. m.symbol) w)).0)
            | inr w ↦ absurd (w.0 (record { same_name = sym t.named; shared = e; on_left = p; on_right = f t.made t.among t.sits }))
          ]

  own_take_here : (c b : ℕ) (st : State) → Ready table st.made c b → Sound table st → Own table d s c st → Own table d s b (act st (takes_over c b))
  own_take_here c b st r k o =
      let a : Among (record { declaration = d; symbol = s }) st.made = own_among c st k o in
      let home : Sits table d b = sits_closed table d c b r.clause r.body (r.targets (record { declaration = d; symbol = s }) a) o.sits in
      let empty : get st.bindings b d.naming.name ≡ None = none_bound c b b st k o (λ e. two table st.made c b r (sym e)) (on_path table d b home) (λ m q t. on_path table m.declaration b t) in
      let passed_symbol : hits s (bound_by st.bindings c) ≡ true = hits_bound (record { scope = c; name = d.naming.name; symbol = s }) st.bindings c s (get_among st.bindings c d.naming.name s o.binds) refl refl in
      record {
        sits = home;
        others = o.others;
        once = o.once;
        symbol = symbol_rescoped (bound_by st.bindings c) b s st.symbols ∙ rw (passed_symbol, o.symbol) refl;
        binds = get-take_over_body st.bindings c b d.naming.name empty ∙ o.binds;
        only = λ e q i. elim (among_take_over e st.bindings c b q) [
          | inl t ↦ absurd (among_taken e st.bindings c b (two table st.made c b r) q (o.only e t i).0)
          | inr t ↦ (t.0, (o.only (record e { scope = c }) t.1 i).1)
        ];
      }

  own_take_elsewhere : (h c b : ℕ) (st : State) → (h ≡ c → ⊥) → Ready table st.made c b → Sound table st → Own table d s h st → Own table d s h (act st (takes_over c b))
  own_take_elsewhere h c b st n r k o = record {
    sits = o.sits;
    others = o.others;
    once = o.once;
    symbol = symbol_rescoped (bound_by st.bindings c) b s st.symbols ∙ unhit (hits s (bound_by st.bindings c)) refl;
    binds = kept (eqb_tells h b);
    only = λ e q i. elim (among_take_over e st.bindings c b q) [
      | inl t ↦ o.only e t i
      | inr t ↦ absurd (n (sym (o.only (record e { scope = c }) t.1 i).0))
    ];
  }
    where
      unhit : (t : Bool) → hits s (bound_by st.bindings c) ≡ t → cond (hits s (bound_by st.bindings c)) (option_map (in_scope b) (slice_get st.symbols s)) (slice_get st.symbols s) ≡ Some (new_symbol h d.naming)
      unhit true e = let w : BoundIn st.bindings c s = bound_passed_symbol st.bindings c s e in absurd (n (sym (o.only w.entry w.among w.symbol).0 ∙ w.scope))
      unhit false e = rw e o.symbol

      kept : ((h == b ≡ true) × (h ≡ b)) ⊎ ((h == b ≡ false) × (h ≡ b → ⊥)) → get (take_over st.bindings c b) h d.naming.name ≡ Some s
      kept (inr e) = get-take_over_other st.bindings c b h d.naming.name n e.1 ∙ o.binds
      kept (inl e) =
          let free : get st.bindings c d.naming.name ≡ None = none_bound h c h st k o (λ q. n (sym q)) (on_path table d h o.sits)
          (λ m a t. subst (λ x. contains (path m.declaration) x ≡ true) (sym e.1) (on_path table m.declaration b (sits_closed table m.declaration c b r.clause r.body (r.targets m a) t))) in
          subst (λ x. get (take_over st.bindings c b) x d.naming.name ≡ Some s) (sym e.1)
          (get-take_over_kept st.bindings c b d.naming.name free ∙ subst (λ x. get st.bindings x d.naming.name ≡ Some s) e.1 o.binds)

  own_take : (h c b : ℕ) (st : State) → Ready table st.made c b → Sound table st → Own table d s h st → Own table d s (cond (h == c) b h) (act st (takes_over c b))
  own_take h c b st r k o = go (eqb_tells h c)
    where
      go : ((h == c ≡ true) × (h ≡ c)) ⊎ ((h == c ≡ false) × (h ≡ c → ⊥)) → Own table d s (cond (h == c) b h) (act st (takes_over c b))
      go (inl e) = rw e.0 (own_take_here c b st r k (subst (λ x. Own table d s x st) e.1 o))
      go (inr e) = rw e.0 (own_take_elsewhere h c b st e.1 r k o)

-- d meets no declaration of the events
abbrev pub AllApart : Declaration → List Event → Type 0
AllApart d [] = Unit {0}
AllApart d (declares e ∷ es) = (Meets d e → ⊥) × AllApart d es
AllApart d (takes_over c b ∷ es) = AllApart d es
AllApart d (ends_header c ∷ es) = AllApart d es

-- where a binding in scope h is after the events
abbrev pub ends_at : ℕ → List Event → ℕ
ends_at h [] = h
ends_at h (takes_over c b ∷ es) = ends_at (cond (h == c) b h) es
ends_at h (declares d ∷ es) = ends_at h es
ends_at h (ends_header c ∷ es) = ends_at h es

pub own_run : (table : List (Option ℕ)) (d : Declaration) (s h : ℕ) (st : State) (es : List Event) → AllApart d es → Orderly table st es → Sound table st → Own table d s h st → Own table d s (ends_at h es) (run st es)
own_run table d s h st [] n r k o = o
own_run table d s h st (declares e ∷ es) n r k o = own_run table d s h (act st (declares e)) es n.1 r.1 (sound_act table st (declares e) r.0 k) (own_changes table d e s h n.0 (changes_declare table st e r.0 k) o)
own_run table d s h st (takes_over c b ∷ es) n r k o = own_run table d s (cond (h == c) b h) (act st (takes_over c b)) es n r.1 (sound_act table st (takes_over c b) r.0 k) (own_take table d s h c b st r.0 k o)
own_run table d s h st (ends_header c ∷ es) n r k o = own_run table d s h st es n r.1 k o
