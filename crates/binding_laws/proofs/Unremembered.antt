-- An event that leaves a scope alone leaves what it remembers.
use Rattle.std.proofs.Common.{◌≡◌, ℕ, ◌==◌, List, [], ◌∷◌, ◌&&◌, bytes_eq, Option, Some, None, Bool, false, refl, ap, ◌∙◌}
use Rattle.semantic_syntax.specs.Tables.{Name}
use Rattle.semantic_model.specs.Place.{OpenScope}
use Rattle.semantic_model.specs.Binding.{Binding, get, put}
use Rattle.semantic_model.specs.Declaration.{How, plain, hoisted, moved, caught, Declaration, stands_in}
use Rattle.semantic_model.specs.Event.{Event, declares, takes_over, ends_header}
use Rattle.semantic_model.specs.Fold.{State, found, update, redeclared, note_symbol, against, declare_in, chosen}
use Rattle.semantic_model.specs.Hoist.{PassedSymbol, passed_symbol, asked_symbols, against_all, remember, move_symbol, hoist_by, move_out, declare_by, act}
use Rattle.semantic_model.proofs.lists.BindingLaws.{same_key, get-put_other}
use Rattle.walk_model.proofs.headers.Sides.{AllOn, ArePassedOn}
use Rattle.walk_model.proofs.headers.TouchedScopes.{Touches}
use Rattle.binding_laws.proofs.CutEvents.{is_scope}

module _ (c : ℕ) (x : Name) where
  other_key : (d : ℕ) (y : Name) → (d == c) ≡ false → same_key d y c x ≡ false
  other_key d y e = ap (λ b. b && bytes_eq y x) e

  put_elsewhere : (bs : List Binding) (d : ℕ) (y : Name) (s : ℕ) → (d == c) ≡ false → get (put bs d y s) c x ≡ get bs c x
  put_elsewhere bs d y s e = get-put_other bs d y s c x (other_key d y e)

  remember_elsewhere : (side : ℕ → Bool) (bs : List Binding) (cs : List OpenScope) (y : Name) (s : ℕ) → AllOn (is_scope c) side false cs → get (remember bs cs y s) c x ≡ get bs c x
  remember_elsewhere side bs [] y s h = refl
  remember_elsewhere side bs (d ∷ cs) y s h = remember_elsewhere side (put bs d.number y s) cs y s h.1 ∙ put_elsewhere bs d.number y s h.0

  declare_remembers : (st : State) (d : ℕ) (e : Declaration) (o : Option ℕ) → (declare_in st d e o).remembered ≡ st.remembered
  declare_remembers st d e None = refl
  declare_remembers st d e (Some s) = refl

  against_remembers : (st : State) (e : Declaration) (ss : List ℕ) → (against_all st e ss).remembered ≡ st.remembered
  against_remembers st e [] = refl
  against_remembers st e (s ∷ ss) = against_remembers (against st e s) e ss

  move_remembers : (st : State) (d t : ℕ) (y : Name) (s : ℕ) (o : Option ℕ) → (move_symbol st d t y s o).remembered ≡ st.remembered
  move_remembers st d t y s None = refl
  move_remembers st d t y s (Some r) = refl

  out_remembers : (st : State) (d t : ℕ) (y : Name) (s : ℕ) (o : Option ℕ) → (d == c) ≡ false → get (move_out st d t y s o).remembered c x ≡ get st.remembered c x
  out_remembers st d t y s None e = put_elsewhere st.remembered d y s e
  out_remembers st d t y s (Some r) e = refl

  hoist_remembers : (side : ℕ → Bool) (st : State) (e : Declaration) (o : Option PassedSymbol) → AllOn (is_scope c) side false e.route.passed → get (hoist_by st e o).remembered c x ≡ get st.remembered c x
  hoist_remembers side st e None h =
      let f : Option ℕ = found st e.route.target.number e.naming.name in
      remember_elsewhere side (declare_in st e.route.target.number e f).remembered e.route.passed e.naming.name (chosen st f) h
      ∙ ap (λ bs. get bs c x) (declare_remembers st e.route.target.number e f)
  hoist_remembers side st e (Some r) h =
      let got : State = note_symbol (record st { symbols = update (redeclared e.naming) st.symbols r.symbol }) e r.symbol in
      let o : Option ℕ = get got.bindings e.route.target.number e.naming.name in
      remember_elsewhere side (move_symbol got r.scope e.route.target.number e.naming.name r.symbol o).remembered e.route.passed e.naming.name r.symbol h
      ∙ ap (λ bs. get bs c x) (move_remembers got r.scope e.route.target.number e.naming.name r.symbol o)

  by_remembers : (side : ℕ → Bool) (how : How) (st : State) (e : Declaration) → ArePassedOn (is_scope c) side false how e → get (declare_by how st e).remembered c x ≡ get st.remembered c x
  by_remembers side plain st e h = ap (λ bs. get bs c x) (declare_remembers st e.route.target.number e (found st e.route.target.number e.naming.name))
  by_remembers side caught st e h = refl
  by_remembers side hoisted st e h =
      let noted : State = against_all st e (asked_symbols st e.route.passed e.naming.name) in
      hoist_remembers side noted e (passed_symbol st e.route.passed e.naming.name) h ∙ ap (λ bs. get bs c x) (against_remembers st e (asked_symbols st e.route.passed e.naming.name))
  by_remembers side moved st e h =
      let d : ℕ = stands_in e in
      let o : Option ℕ = found st d e.naming.name in
      out_remembers (declare_in st d e o) d e.route.target.number e.naming.name (chosen st o) (get st.bindings e.route.target.number e.naming.name) h
      ∙ ap (λ bs. get bs c x) (declare_remembers st d e o)

  pub act_remembers : (st : State) (e : Event) → Touches (is_scope c) false e → get (act st e).remembered c x ≡ get st.remembered c x
  act_remembers st (declares e) t = by_remembers (λ s. false) e.how st e (t (λ s. false)).1
  act_remembers st (takes_over a b) t = refl
  act_remembers st (ends_header d) t = refl
