-- A `var` passes no class: what holds statements stands in a class only within functions and static blocks.
use Rattle.std.proofs.Common.{◌≡◌, ℕ, List, [], ◌∷◌, ◌++◌, Option, None, Bool, true, false, ◌&&◌, ◌||◌, not, cond, inl, inr, refl, sym, ap, subst, ◌∙◌}
use Rattle.std.proofs.lemmas.Bool.{cases_Bool}
use Rattle.semantic_syntax.proofs.Truth.{and_first, and_second}
use Rattle.semantic_kinds.specs.declared.kind.AstType.{AstType}
use Rattle.semantic_kinds.specs.declared.kind.AstType.TheVariants as kind
use Rattle.semantic_kinds.specs.declared.role.Role.{Role}
use Rattle.semantic_tree.specs.Faults.{first_fault}
use Rattle.semantic_tree.specs.Forest.{Forest, nothing, tree}
use Rattle.semantic_tree.specs.Tree.{Tree}
use Rattle.semantic_tree.specs.Views.{is}
use Rattle.semantic_tree.specs.declared.node.Node.{Node}
use Rattle.semantic_model.specs.Binder.{is_statement}
use Rattle.semantic_model.specs.Cursor.{on_entering}
use Rattle.semantic_model.specs.EachStep.{EachStep}
use Rattle.semantic_model.specs.Entries.{Among}
use Rattle.semantic_model.specs.Place.{Place, OpenScope}
use Rattle.semantic_model.specs.Step.{Step, entering, opening, header_ending, closing, leaving, steps_below, steps, root_place}
use Rattle.semantic_model.proofs.steps.EachStep.{each_of_node, each_of_turn}
use Rattle.semantic_model.proofs.steps.Turn.{Turn, turn_at}
use Rattle.semantic_model.proofs.steps.TurnCases.{opening_case, ending_case, last_case}
use Rattle.walk_model.proofs.headers.NoStatements.{is_loose, is_bound, asks_closed, is_closed, closed_by_table, closed_by_place, table_closes, place_closes, child_closed}
use Rattle.walk_model.proofs.places.Shapes.{holds_below}
use Rattle.language_ties.specs.Environments.{Environment, is_made_for, has_parameter_expressions, is_outside_body, is_body_of_with, made_by, environments, passed, takes_variables}
use Rattle.language_ties.specs.declared.environment_kind.EnvironmentKind.TheVariants as environment

-- what holds a node of a kind that holds statements holds them too, or ends the way of a `var`
abbrev pub HoldsLoose : AstType → List Node → Type 0
HoldsLoose k [] = Unit {0}
HoldsLoose k (x ∷ path) = (is_loose k ≡ true → (is_loose x.kind || is_bound x.kind) ≡ true) × HoldsLoose x.kind path

abbrev pub LooseAt : Step → Type 0
LooseAt (entering q) = HoldsLoose q.node.kind q.path
LooseAt (opening q o) = Unit {0}
LooseAt (header_ending q o) = Unit {0}
LooseAt (closing q o) = Unit {0}
LooseAt (leaving q) = Unit {0}

pub asks : (k : AstType) (r : Role) → (is_loose k || is_bound k) ≡ false → asks_closed k r ≡ true
asks k r h = elim (cases_Bool (is_loose k)) [
  | inl e ↦ (let w : true ≡ false = sym (ap (λ b. b || is_bound k) e) ∙ h in absurd cc)
  | inr e ↦ (let w : is_bound k ≡ false = sym (ap (λ b. b || is_bound k) e) ∙ h in rw (e, w) refl)
]

loose_child : (k : AstType) (r : Role) (k2 : AstType) (text : List ℕ) → closed_by_table k r k2 text ≡ true → closed_by_place k r k2 text ≡ true → is_loose k2 ≡ true → (is_loose k || is_bound k) ≡ true
loose_child k r k2 text t p l = elim (cases_Bool (is_loose k || is_bound k)) [
  | inl e ↦ e
  | inr e ↦ (let c : is_closed k2 text ≡ true = child_closed k r k2 text t p (asks k r e) in
      let n : not (is_loose k2) ≡ true = and_first (not (is_loose k2)) _ c in
      let w : false ≡ true = sym (ap not l) ∙ n in absurd cc)
]

loose_steps : (p : Place) (own : Option OpenScope) (n cursor : ℕ) (f : Forest) → HoldsLoose p.node.kind p.path → holds_below closed_by_table p.node.kind f ≡ true → holds_below closed_by_place p.node.kind f ≡ true → EachStep LooseAt (steps_below p own n cursor f)
loose_steps p own n cursor nothing h t s = last_case (EachStep LooseAt) p own n tt (tt, (tt, tt))
loose_steps p own n cursor (tree r k2 span text marks below id after) h t s =
    let node : Node = record { kind = k2; span = span; text = text; marks = marks; children = below; node_id = id } in
    let turn : Turn = turn_at p own n cursor r node after in
    let tables : (holds_below closed_by_table k2 below && holds_below closed_by_table p.node.kind after) ≡ true = and_second (closed_by_table p.node.kind r k2 text) (holds_below closed_by_table k2 below && holds_below closed_by_table p.node.kind after) t in
    let places : (holds_below closed_by_place k2 below && holds_below closed_by_place p.node.kind after) ≡ true = and_second (closed_by_place p.node.kind r k2 text) (holds_below closed_by_place k2 below && holds_below closed_by_place p.node.kind after) s in
    let child : HoldsLoose k2 (p.node ∷ p.path) = (loose_child p.node.kind r k2 text (and_first (closed_by_table p.node.kind r k2 text) (holds_below closed_by_table k2 below && holds_below closed_by_table p.node.kind after) t) (and_first (closed_by_place p.node.kind r k2 text) (holds_below closed_by_place k2 below && holds_below closed_by_place p.node.kind after) s), h) in
    each_of_turn LooseAt turn (record {
      before = opening_case (EachStep LooseAt) p r own n tt (tt, tt);
      whole = each_of_node LooseAt turn.child turn.below child
          (loose_steps turn.child None turn.next turn.inner below child (and_first (holds_below closed_by_table k2 below) (holds_below closed_by_table p.node.kind after) tables) (and_first (holds_below closed_by_place k2 below) (holds_below closed_by_place p.node.kind after) places)) tt;
      behind = ending_case (EachStep LooseAt) p r turn.scope after tt (λ o. (tt, tt)) (λ o. (tt, tt)) (λ o. (tt, (tt, tt)));
      others = loose_steps p turn.scope turn.rest turn.past after h (and_second (holds_below closed_by_table k2 below) (holds_below closed_by_table p.node.kind after) tables) (and_second (holds_below closed_by_place k2 below) (holds_below closed_by_place p.node.kind after) places);
    })

pub loose_program : (p : Tree) → first_fault p ≡ None → EachStep LooseAt (steps p)
loose_program p h =
    let root : Place = root_place p in
    let n : ℕ = on_entering p.root.kind 0 in
    each_of_node LooseAt root (steps_below root None 0 n p.root.children) tt (loose_steps root None 0 n p.root.children tt (table_closes p h) (place_closes p h)) tt

-- ---- what a `var` passes

abbrev pub NoClass : Environment → Type 0
NoClass d = is_made_for environment.Class d ≡ false

-- what a node that holds statements, or ends the way of a `var`, makes round a child is passed with no class
module _ (child x : Node) (path : List Node) (d : Environment) where
  abbrev E : List Environment
  E = environments x path

  either : (e : Environment) → NoClass e → Among d (e ∷ passed E) → (Among d (passed E) → NoClass d) → NoClass d
  either e n (inl q) later = subst NoClass q n
  either e n (inr i) later = later i

  maybe : (b : Bool) (e : Environment) → takes_variables e ≡ false → NoClass e → Among d (passed (cond b (e ∷ []) [] ++ E)) → (Among d (passed E) → NoClass d) → NoClass d
  maybe true e t n i later = either e n (subst (λ z. Among d (cond z [] (e ∷ passed E))) t i) later
  maybe false e t n i later = later i

  function : (b : Bool) → Among d (passed ((cond b (record { kind = environment.Body; maker = x.node_id } ∷ []) [] ++ record { kind = environment.Parameters; maker = x.node_id } ∷ record { kind = environment.OwnName; maker = x.node_id } ∷ []) ++ E)) → NoClass d
  function true i = absurd i
  function false i = absurd i

  arrow : (b : Bool) → Among d (passed ((cond b (record { kind = environment.Body; maker = x.node_id } ∷ []) [] ++ record { kind = environment.ArrowParameters; maker = x.node_id } ∷ []) ++ E)) → NoClass d
  arrow true i = absurd i
  arrow false i = absurd i

  by_kind : (k : AstType) → (is_loose k || is_bound k) ≡ true → (is_loose k ≡ true → (c : Environment) → Among c (passed E) → NoClass c) → Among d (passed (made_by k x child ++ E)) → NoClass d
  by_kind kind.Program i later b = absurd b
  by_kind kind.Function i later b = function (not (is_outside_body child) && has_parameter_expressions x) b
  by_kind kind.ArrowFunctionExpression i later b = arrow (not (is_outside_body child) && has_parameter_expressions x) b
  by_kind kind.StaticBlock i later b = absurd b
  by_kind kind.BlockStatement i later b = either (record { kind = environment.Block; maker = x.node_id }) refl b (later refl d)
  by_kind kind.SwitchStatement i later b = maybe (is kind.SwitchCase child) (record { kind = environment.Block; maker = x.node_id }) refl refl b (later refl d)
  by_kind kind.IfStatement i later b = maybe (is kind.Function child && is_statement child) (record { kind = environment.IfBody; maker = child.node_id }) refl refl b (later refl d)
  by_kind kind.ForStatement i later b = either (record { kind = environment.Loop; maker = x.node_id }) refl b (later refl d)
  by_kind kind.ForInStatement i later b = either (record { kind = environment.Loop; maker = x.node_id }) refl b (later refl d)
  by_kind kind.ForOfStatement i later b = either (record { kind = environment.Loop; maker = x.node_id }) refl b (later refl d)
  by_kind kind.CatchClause i later b = either (record { kind = environment.Catch; maker = x.node_id }) refl b (later refl d)
  by_kind kind.WithStatement i later b = maybe (is_body_of_with child) (record { kind = environment.Object; maker = x.node_id }) refl refl b (later refl d)
  by_kind kind.Class i later b = absurd cc
  by_kind _ i later b = later i d b

-- none of the environments that are passed is a class's
pub passes_no_class : (child : Node) (path : List Node) → HoldsLoose child.kind path → is_loose child.kind ≡ true → (d : Environment) → Among d (passed (environments child path)) → NoClass d
passes_no_class child [] h l d a = absurd a
passes_no_class child (x ∷ path) h l d a = by_kind child x path d x.kind (h.0 l) (passes_no_class x path h.1) a

-- nor under a node that holds statements
pub under_no_class : (child x : Node) (path : List Node) → (is_loose x.kind || is_bound x.kind) ≡ true → HoldsLoose x.kind path → (d : Environment) → Among d (passed (environments child (x ∷ path))) → NoClass d
under_no_class child x path l h d a = by_kind child x path d x.kind l (passes_no_class x path h) a
