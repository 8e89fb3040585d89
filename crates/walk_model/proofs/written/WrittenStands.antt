-- The names that are written in a program are those of its declarations that count, each in the scope where it stands.
use Rattle.std.proofs.Common.{◌≡◌, ℕ, List, [], ◌∷◌, ◌++◌, Option, Some, None, Bool, true, false, cond, ◌&&◌, ◌||◌, refl, sym, ap, ◌∙◌}
use Rattle.std.specs.Prelude.{flat_map}
use Rattle.std.proofs.lemmas.List.Folds.{list_any-append}
use Rattle.semantic_kinds.specs.declared.kind.AstType.{AstType}
use Rattle.semantic_kinds.specs.declared.kind.AstType.TheVariants as kind
use Rattle.semantic_kinds.specs.declared.role.Role.{Role}
use Rattle.semantic_syntax.specs.Tables.{Name}
use Rattle.semantic_syntax.proofs.Truth.{and_first, and_second, or_false, or_assoc}
use Rattle.semantic_tree.specs.Forest.{Forest, nothing, tree}
use Rattle.semantic_tree.specs.Tree.{Tree}
use Rattle.semantic_tree.specs.Faults.{first_fault}
use Rattle.semantic_tree.specs.Place.{root_place as top, child_place as under, placed_below}
use Rattle.semantic_tree.specs.Rules.{is_well_formed}
use Rattle.semantic_tree.specs.declared.node.Node.{Node}
use Rattle.semantic_tree.specs.declared.place.Place.{Place as Spot}
use Rattle.semantic_model.specs.Place.{Place, OpenScope}
use Rattle.semantic_model.specs.Inside.{opens, is_inside}
use Rattle.semantic_model.specs.ScopeKind.{opened_scope}
use Rattle.semantic_model.specs.Cursor.{on_entering}
use Rattle.semantic_model.specs.Binder.{declared_on_entering}
use Rattle.semantic_model.specs.Event.{declared_at, written_declarations}
use Rattle.semantic_model.specs.Step.{Step, entering, opening, closing, leaving, steps_below, steps, opening_at, ending_after, opening_last, scope_at, root_place}
use Rattle.semantic_model.proofs.steps.Turn.{Turn, turn_at}
use Rattle.semantic_model.proofs.steps.Compose.{flat-append}
use Rattle.semantic_model.proofs.form.ParameterShape.{stands_under, parameters_stand}
use Rattle.semantic_model.proofs.fold.Orders.{HasForm}
use Rattle.semantic_model.proofs.form.Shape.{NoneMisshapen, has_form, none_misshapen, first_formed, rest_formed, table_kept, fit_kept}
use Rattle.semantic_model.proofs.steps.TurnCases.{ending_case}
use Rattle.walk_model.specs.WrittenNames.{WrittenName, is_written, Openers, openers_at, written_by, written_below, names_written, any_standing}
use Rattle.semantic_model.proofs.form.ParameterChains.{is_open_inside}
use Rattle.walk_model.proofs.written.OpenersFit.{FitOpeners, IsOwn, own_at, child_fits}
use Rattle.walk_model.proofs.written.WrittenRows.{written_inside, is_in, any_in, any_append}
use Rattle.walk_model.proofs.written.WrittenNodes.{node_written, own_written}

-- without a scope nothing is written in it
nothing_inside : (k : AstType) (node : Node) → opens k ≡ false → written_inside k node ≡ []
nothing_inside kind.Function node h = absurd cc
nothing_inside kind.Class node h = absurd cc
nothing_inside _ node h = refl

-- what opens before a child, what it declares on entering, in its own scope and below, and what is left
join : (before enters own below left more : Bool)
    → (((before || (enters || ((own || below) || false))) || false) || (left || more)) ≡ ((before || left) || (((enters || own) || below) || more))
join true enters own below left more = refl
join false true own below true more = refl
join false true own below false more = refl
join false false true below true more = refl
join false false true below false more = refl
join false false false true true more = refl
join false false false true false more = refl
join false false false false true more = refl
join false false false false false more = refl

module _ (x : ℕ) (name : Name) where
  abbrev any_of : List Step → Bool
  any_of ss = any_in x name (written_declarations ss)

  abbrev on : List WrittenName → Bool
  on ws = is_in x name ws

  steps_append : (ss ts : List Step) → any_of (ss ++ ts) ≡ (any_of ss || any_of ts)
  steps_append ss ts = ap (any_in x name) (flat-append declared_at ss ts) ∙ any_append x name (flat_map declared_at ss) (flat_map declared_at ts)

  on_append : (vs ws : List WrittenName) → on (vs ++ ws) ≡ (on vs || on ws)
  on_append vs ws = list_any-append _ vs ws

  -- what a node is still to write in its own scope
  abbrev late : Place → Option OpenScope → Bool
  late p None = on (written_inside p.node.kind p.node)
  late p (Some s) = false

  opening_one : (p : Place) (n : ℕ) → any_of (opening p (opened_scope p n) ∷ []) ≡ on (written_inside p.node.kind p.node)
  opening_one p n = any_append x name (declared_at (opening p (opened_scope p n))) [] ∙ or_false _ ∙ own_written x name p (opened_scope p n) refl

  opening_stands : (p : Place) (r : Role) (own : Option OpenScope) (n : ℕ) → (any_of (opening_at p r own n) || late p (scope_at p r own n)) ≡ late p own
  opening_stands p r (Some s) n = refl
  opening_stands p r None n = by (is_inside p.node.kind r)
    where
      by : (b : Bool) → (any_of (cond b (opening p (opened_scope p n) ∷ []) []) || late p (cond b (Some (opened_scope p n)) None)) ≡ late p None
      by true = or_false _ ∙ opening_one p n
      by false = refl

  last_stands : (p : Place) (own : Option OpenScope) (n : ℕ) → any_of (opening_last p own n) ≡ late p own
  last_stands p (Some s) n = refl
  last_stands p None n = by (opens p.node.kind) refl
    where
      by : (b : Bool) → opens p.node.kind ≡ b → any_of (cond b (opening p (opened_scope p n) ∷ closing p (opened_scope p n) ∷ []) []) ≡ late p None
      by true e = opening_one p n
      by false e = ap on (sym (nothing_inside p.node.kind p.node e))

  ending_none : (p : Place) (r : Role) (own : Option OpenScope) (after : Forest) → any_of (ending_after p r own after) ≡ false
  ending_none p r own after = ending_case (λ ss. any_of ss ≡ false) p r own after refl (λ s. refl) (λ s. refl) (λ s. refl)

  -- entering a node, what is below it, and leaving it
  entered : (p : Place) (ys : List Step) (own below : Bool) → any_of ys ≡ (own || below) → any_of (entering p ∷ (ys ++ leaving p ∷ [])) ≡ (any_in x name (declared_on_entering p) || ((own || below) || false))
  entered p ys own below h =
      any_append x name (declared_on_entering p) (written_declarations (ys ++ leaving p ∷ []))
      ∙ ap (λ b. any_in x name (declared_on_entering p) || b) (steps_append ys (leaving p ∷ []) ∙ ap (λ b. b || false) h)

  -- the steps of what is left of a place
  below_stands : (spot : Spot) (p : Place) (own : Option OpenScope) (n cursor : ℕ) (f : Forest) (o : Openers) → IsOwn p own → FitOpeners p o → parameters_stand p.node.kind f ≡ true → NoneMisshapen (placed_below spot p.node.kind f)
      → any_of (steps_below p own n cursor f) ≡ (late p own || on (written_below p.node o f))
  below_stands spot p own n cursor nothing o i g s m = last_stands p own n ∙ sym (or_false (late p own))
  below_stands spot p own n cursor (tree r k span text marks below id after) o i g s m =
      let node : Node = record { kind = k; span = span; text = text; marks = marks; children = below; node_id = id } in
      let turn : Turn = turn_at p own n cursor r node after in
      let here : Spot = under spot p.node.kind r in
      let q : Openers = openers_at p.node r o in
      let formed : (is_well_formed here node ≡ true) × NoneMisshapen (placed_below here k below ++ placed_below spot p.node.kind after) = first_formed (here, node) (placed_below here k below ++ placed_below spot p.node.kind after) m in
      let others : NoneMisshapen (placed_below here k below) × NoneMisshapen (placed_below spot p.node.kind after) = rest_formed (placed_below here k below) (placed_below spot p.node.kind after) formed.1 in
      let s_rest : (parameters_stand k below && parameters_stand p.node.kind after) ≡ true = and_second (stands_under p.node.kind r k) _ s in
      let i_scope : IsOwn p turn.scope = own_at p r own n i in
      let g_child : FitOpeners turn.child q = child_fits p turn.scope cursor r node o i_scope (is_open_inside p r own n) g (and_first (stands_under p.node.kind r k) _ s) in
      let inside : Bool = on (written_inside k node) in
      let down : any_of turn.below ≡ (inside || on (written_below node q below)) = below_stands here turn.child None turn.next turn.inner below q tt g_child (and_first (parameters_stand k below) _ s_rest) others.0 in
      let on_it : (any_in x name (declared_on_entering turn.child) || inside) ≡ on (written_by node (Some p.node) q) = node_written x name turn.child q g_child.within (fit_kept node (table_kept here node formed.0)) in
      let along : any_of turn.others ≡ (late p turn.scope || on (written_below p.node o after)) = below_stands spot p turn.scope turn.rest turn.past after o i_scope g (and_second (parameters_stand k below) _ s_rest) others.1 in
      steps_append (turn.before ++ turn.whole ++ turn.behind) turn.others
      ∙ ap (λ b. b || any_of turn.others) (steps_append (turn.before ++ turn.whole) turn.behind ∙ ap (λ b. b || any_of turn.behind) (steps_append turn.before turn.whole))
      ∙ (λ j. ((any_of turn.before || entered turn.child turn.below inside (on (written_below node q below)) down j) || ending_none p r turn.scope after j) || along j)
      ∙ join (any_of turn.before) (any_in x name (declared_on_entering turn.child)) inside (on (written_below node q below)) (late p turn.scope) (on (written_below p.node o after))
      ∙ (λ j. opening_stands p r own n j || ((on_it j || on (written_below node q below)) || on (written_below p.node o after)))
      ∙ ap (λ b. late p own || b) (sym (on_append (written_by node (Some p.node) q ++ written_below node q below) (written_below p.node o after) ∙ ap (λ b. b || on (written_below p.node o after)) (on_append (written_by node (Some p.node) q) (written_below node q below))))

  top_stands : (program : Tree) → first_fault program ≡ None → any_of (steps program) ≡ on (names_written program)
  top_stands program h =
      let p : Place = root_place program in
      let o : Openers = record { innermost = 0; around = 0 } in
      let f : FitOpeners p o = record { within = refl; beyond = λ e. refl } in
      let form : HasForm program = has_form program h in
      let formed : (is_well_formed top program.root ≡ true) × NoneMisshapen (placed_below top program.root.kind program.root.children) = first_formed (top, program.root) (placed_below top program.root.kind program.root.children) (none_misshapen program h) in
      let inside : Bool = on (written_inside program.root.kind program.root) in
      let down : any_of (steps_below p None 0 (on_entering program.root.kind 0) program.root.children) ≡ (inside || on (written_below program.root o program.root.children)) = below_stands top p None 0 (on_entering program.root.kind 0) program.root.children o tt f form.parameters formed.1 in
      let on_it : (any_in x name (declared_on_entering p) || inside) ≡ on (written_by program.root None o) = node_written x name p o refl (fit_kept program.root (table_kept top program.root formed.0)) in
      entered p (steps_below p None 0 (on_entering program.root.kind 0) program.root.children) inside (on (written_below program.root o program.root.children)) down
      ∙ ap (λ b. any_in x name (declared_on_entering p) || b) (or_false (inside || on (written_below program.root o program.root.children)))
      ∙ (sym (or_assoc (any_in x name (declared_on_entering p)) inside (on (written_below program.root o program.root.children))))
      ∙ ap (λ b. b || on (written_below program.root o program.root.children)) on_it
      ∙ sym (on_append (written_by program.root None o) (written_below program.root o program.root.children))

-- what is written in a program without a fault
pub written_stands : (program : Tree) → first_fault program ≡ None → (opener : ℕ) (name : Name)
    → is_written (names_written program) opener name ≡ any_standing opener name (written_declarations (steps program))
written_stands program h opener name = sym (top_stands opener name program h)
