-- The events of a program come in order: the fold over them is sound.
use Rattle.std.proofs.Common.{◌≡◌, ℕ, suc, ◌+◌, List, [], ◌∷◌, ◌++◌, Option, Some, None, true, false, inl, inr, refl, sym, ap, subst, ◌∙◌, ◌&&◌, length, arith, zero-add}
use Rattle.std.specs.Prelude.{slice_get}
use Rattle.semantic_syntax.proofs.Truth.{and_second}
use Rattle.semantic_tree.specs.Forest.{Forest, nothing, tree}
use Rattle.semantic_tree.specs.Tree.{Tree}
use Rattle.semantic_kinds.specs.declared.kind.AstType.TheVariants as kind
use Rattle.semantic_kinds.specs.declared.role.Role.TheVariants as role
use Rattle.semantic_kinds.specs.Roles.{same_role}
use Rattle.semantic_tree.specs.Views.{is}
use Rattle.semantic_model.specs.Entries.{Among}
use Rattle.semantic_model.specs.Binding.{get}
use Rattle.semantic_model.specs.Place.{Place}
use Rattle.semantic_model.specs.Step.{Step, entering, opening, header_ending, closing, leaving, steps_below, steps, root_place}
use Rattle.semantic_model.specs.Cursor.{on_entering}
use Rattle.semantic_model.specs.Declaration.{Declaration, How, plain, hoisted, moved, caught, stands_in}
use Rattle.semantic_model.specs.Event.{Event, declares, takes_over, ends_header, events, written_declarations}
use Rattle.semantic_model.specs.Fold.{State, Made, found, declare_in, chosen, note_symbol, start, update, redeclared}
use Rattle.semantic_model.specs.Hoist.{PassedSymbol, passed_symbol, asked_symbols, against_all, hoist_by, move_symbol, move_out, declare_by, act, run}
use Rattle.semantic_model.proofs.lists.Members.{among_more}
use Rattle.semantic_model.proofs.fold.Actions.{made_against_all}
use Rattle.semantic_model.proofs.fold.Changes.{Sound, sound_start}
use Rattle.semantic_model.proofs.fold.TakeOvers.{IsReady, Orderly, sound_run}
use Rattle.semantic_model.proofs.form.Clauses.{clauses_end, kind_is}
use Rattle.semantic_model.proofs.form.ParameterShape.{parameters_stand}
use Rattle.semantic_model.proofs.fold.BodyChains.{HasBody, IsStepIn, AllStepsIn, in_steps}
use Rattle.semantic_model.proofs.steps.OpenedFrom.{OpenedFrom, opened_left}
use Rattle.semantic_model.proofs.steps.EachStep.{each_of_node}
use Rattle.semantic_model.proofs.fold.Declared.{IsDeclaredIn, IsEventIn, AllEventsIn, all_events_in}

-- each declaration makes one entry
pub record Adds (before : List Made) (d : Declaration) (after : List Made) : Type 0 where
  pub symbol : ℕ
  pub adds : after ≡ before ++ record { declaration = d; symbol = symbol } ∷ []

made_declare_in : (st : State) (c : ℕ) (d : Declaration) (o : Option ℕ) → (declare_in st c d o).made ≡ st.made ++ record { declaration = d; symbol = chosen st o } ∷ []
made_declare_in st c d None = refl
made_declare_in st c d (Some s) = refl

made_move_symbol : (st : State) (c t : ℕ) (x : List ℕ) (s : ℕ) (o : Option ℕ) → (move_symbol st c t x s o).made ≡ st.made
made_move_symbol st c t x s None = refl
made_move_symbol st c t x s (Some r) = refl

made_move_out : (st : State) (c t : ℕ) (x : List ℕ) (s : ℕ) (o : Option ℕ) → (move_out st c t x s o).made ≡ st.made
made_move_out st c t x s None = refl
made_move_out st c t x s (Some r) = refl

adds_hoist : (st : State) (d : Declaration) (o : Option PassedSymbol) → Adds st.made d (hoist_by st d o).made
adds_hoist st d None = record { symbol = chosen st (found st d.route.target.number d.naming.name); adds = made_declare_in st d.route.target.number d (found st d.route.target.number d.naming.name) }
adds_hoist st d (Some h) =
    let got : State = note_symbol (record st { symbols = update (redeclared d.naming) st.symbols h.symbol }) d h.symbol in
    record { symbol = h.symbol; adds = made_move_symbol got h.scope d.route.target.number d.naming.name h.symbol (get got.bindings d.route.target.number d.naming.name) }

adds_by : (how : How) (st : State) (d : Declaration) → Adds st.made d (declare_by how st d).made
adds_by plain st d = record { symbol = chosen st (found st d.route.target.number d.naming.name); adds = made_declare_in st d.route.target.number d (found st d.route.target.number d.naming.name) }
adds_by hoisted st d =
    let noted : State = against_all st d (asked_symbols st d.route.passed d.naming.name) in
    subst (λ ms. Adds ms d (hoist_by noted d (passed_symbol st d.route.passed d.naming.name)).made) (made_against_all st d (asked_symbols st d.route.passed d.naming.name)) (adds_hoist noted d (passed_symbol st d.route.passed d.naming.name))
adds_by moved st d =
    let c : ℕ = stands_in d in
    let o : Option ℕ = found st c d.naming.name in
    record {
      symbol = chosen st o;
      adds = made_move_out (declare_in st c d o) c d.route.target.number d.naming.name (chosen st o) (get st.bindings d.route.target.number d.naming.name) ∙ made_declare_in st c d o;
    }
adds_by caught st d = record { symbol = length st.symbols; adds = refl }

pub adds : (st : State) (d : Declaration) → Adds st.made d (act st (declares d)).made
adds st d = adds_by d.how st d

-- the bodies of the scopes that the steps open
abbrev pub bodies : List Step → List (Option ℕ)
bodies [] = []
bodies (opening p s ∷ more) = s.body ∷ bodies more
bodies (entering p ∷ more) = bodies more
bodies (header_ending p s ∷ more) = bodies more
bodies (closing p s ∷ more) = bodies more
bodies (leaving p ∷ more) = bodies more

bodies_at : (table : List (Option ℕ)) (n : ℕ) (ss : List Step) → ((i : ℕ) → slice_get table (n + i) ≡ slice_get (bodies ss) i) → OpenedFrom (HasBody table) n ss
bodies_at table n [] h = tt
bodies_at table n (opening p s ∷ more) h =
    (subst (λ m. slice_get table m ≡ Some s.body) (omega arith) (h 0), bodies_at table (suc n) more (λ i. subst (λ m. slice_get table m ≡ slice_get (bodies more) i) (omega arith) (h (suc i))))
bodies_at table n (entering p ∷ more) h = bodies_at table n more h
bodies_at table n (header_ending p s ∷ more) h = bodies_at table n more h
bodies_at table n (closing p s ∷ more) h = bodies_at table n more h
bodies_at table n (leaving p ∷ more) h = bodies_at table n more h

-- what is asked of the form of a tree: its root is a program, its catch clauses end with their bodies, and parameters stand in lists of functions
pub record HasForm (p : Tree) : Type 0 where
  pub root : p.root.kind ≡ kind.Program
  pub clauses : clauses_end p.root.children ≡ true
  pub parameters : parameters_stand p.root.kind p.root.children ≡ true

abbrev pub table_of : Tree → List (Option ℕ)
table_of p = bodies (steps p)

root_bodies : (p : Place) (cursor : ℕ) (f : Forest) (more : List Step) → p.node.kind ≡ kind.Program → slice_get (bodies (steps_below p None 0 cursor f ++ more)) 0 ≡ Some None
root_bodies p cursor nothing more e = rw e refl
root_bodies p cursor (tree r k span text marks below id after) more e = rw e refl

pub root_body : (p : Tree) → HasForm p → slice_get (table_of p) 0 ≡ Some None
root_body p h = root_bodies (root_place p) (on_entering p.root.kind 0) p.root.children (leaving (root_place p) ∷ []) h.root

pub steps_in : (p : Tree) → HasForm p → AllStepsIn (table_of p) (steps p)
steps_in p h =
    let table : List (Option ℕ) = table_of p in
    let root : Place = root_place p in
    let all : OpenedFrom (HasBody table) 0 (steps p) = bodies_at table 0 (steps p) (λ i. ap (slice_get table) (zero-add i)) in
    let below : List Step = steps_below root None 0 (on_entering p.root.kind 0) p.root.children in
    each_of_node (IsStepIn table) root below tt
    (in_steps table root None 0 (on_entering p.root.kind 0) p.root.children tt tt
    (λ e. (let q : false ≡ true = and_second (is kind.BlockStatement p.root && same_role role.Root role.Body) false e in absurd cc))
    (λ e. (let q : kind.Program ≡ kind.CatchClause = sym h.root ∙ kind_is p.root.kind kind.CatchClause e in absurd cc))
    h.clauses (opened_left (HasBody table) 0 below (leaving root ∷ []) all))
    tt

pub events_in : (p : Tree) (h : HasForm p) → AllEventsIn (table_of p) (root_body p h) (events (steps p))
events_in p h = all_events_in (table_of p) (root_body p h) (written_declarations (steps p)) (steps p) (steps_in p h)

module _ (table : List (Option ℕ)) (root : slice_get table 0 ≡ Some None) where
  abbrev pub AllMadeIn : List Made → Type 0
  AllMadeIn ms = (m : Made) → Among m ms → IsDeclaredIn table root m.declaration

  made_in_act : (st : State) (e : Event) → IsEventIn table root e → AllMadeIn st.made → AllMadeIn (act st e).made
  made_in_act st (declares d) h k m a =
      let w : Adds st.made d (act st (declares d)).made = adds st d in
      elim (among_more m (record { declaration = d; symbol = w.symbol }) st.made (subst (Among m) w.adds a)) [
        | inl b ↦ k m b
        | inr q ↦ subst (λ x. IsDeclaredIn table root x.declaration) q h
      ]
  made_in_act st (takes_over c b) h k m a = k m a
  made_in_act st (ends_header c) h k m a = k m a

  ready : (st : State) (e : Event) → IsEventIn table root e → AllMadeIn st.made → IsReady table st e
  ready st (declares d) h k = h.block
  ready st (takes_over c b) h k = record { clause = h.0; body = h.1; targets = λ m a. (k m a).target.entry }
  ready st (ends_header c) h k = tt

  pub orderly : (st : State) (es : List Event) → AllEventsIn table root es → AllMadeIn st.made → Orderly table st es
  orderly st [] h k = tt
  orderly st (e ∷ es) h k = (ready st e h.0 k, orderly (act st e) es h.1 (made_in_act st e h.0 k))

pub orderly_events : (p : Tree) → HasForm p → Orderly (table_of p) start (events (steps p))
orderly_events p h = orderly (table_of p) (root_body p h) start (events (steps p)) (events_in p h) (λ m a. absurd a)

-- the fold of a program is sound
pub sound_program : (p : Tree) → HasForm p → Sound (table_of p) (run start (events (steps p)))
sound_program p h = sound_run (table_of p) start (events (steps p)) (orderly_events p h) (sound_start (table_of p))
