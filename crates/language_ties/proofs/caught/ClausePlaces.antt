-- What stands in the scope of a catch clause stands in its header, or is its body.
use Rattle.std.proofs.Common.{◌≡◌, ℕ, List, [], ◌∷◌, Option, Some, None, Bool, true, false, ◌&&◌, ◌||◌, not, inl, inr, ◌⊎◌, refl, sym, ap, subst, ◌∙◌}
use Rattle.std.specs.List.{list_all}
use Rattle.std.proofs.lemmas.Bool.{and_from}
use Rattle.semantic_syntax.proofs.Truth.{and_first, and_second}
use Rattle.semantic_kinds.specs.Classes.{is_of}
use Rattle.semantic_kinds.specs.Kinds.{same_kind}
use Rattle.semantic_kinds.specs.Parts.{parts}
use Rattle.semantic_kinds.specs.Roles.{same_role}
use Rattle.semantic_kinds.specs.declared.class.Class.{Class}
use Rattle.semantic_kinds.specs.declared.class.Class.TheVariants as class
use Rattle.semantic_kinds.specs.declared.kind.AstType.{AstType}
use Rattle.semantic_kinds.specs.declared.kind.AstType.TheVariants as kind
use Rattle.semantic_kinds.specs.declared.part.Part.{Part}
use Rattle.semantic_kinds.specs.declared.role.Role.{Role}
use Rattle.semantic_kinds.specs.declared.role.Role.TheVariants as role
use Rattle.semantic_tree.specs.Faults.{first_fault}
use Rattle.semantic_tree.specs.Forest.{Forest, nothing, tree}
use Rattle.semantic_tree.specs.Tree.{Tree, IsNumbered}
use Rattle.semantic_tree.specs.Views.{is}
use Rattle.semantic_tree.specs.declared.node.Node.{Node}
use Rattle.semantic_model.specs.Cursor.{on_entering}
use Rattle.semantic_model.specs.EachStep.{EachStep}
use Rattle.semantic_model.specs.Event.{is_catch_body}
use Rattle.semantic_model.specs.Inside.{is_inside, is_in_header}
use Rattle.semantic_model.specs.Place.{Place, OpenScope, innermost, parent_holds}
use Rattle.semantic_model.specs.Step.{Step, entering, opening, header_ending, closing, leaving, steps_below, steps, root_place}
use Rattle.semantic_model.proofs.form.Clauses.{kind_is}
use Rattle.semantic_model.proofs.form.ParameterChains.{is_open_inside}
use Rattle.semantic_model.proofs.form.PartsHold.{passed_hold}
use Rattle.semantic_model.proofs.steps.EachStep.{EachOfTurn, each_left, each_of_node, each_of_turn, turn_of_each}
use Rattle.semantic_model.proofs.steps.Turn.{Turn, turn_at}
use Rattle.semantic_model.proofs.steps.TurnCases.{opening_case, ending_case, last_case}
use Rattle.walk_model.proofs.places.Shapes.{holds_below, tree_holds, only_is}
use Rattle.walk_model.proofs.once.NodeIds.{root_numbered}
use Rattle.binding_laws.proofs.ChildChains.{ChainOf, outer_chain, inner_chain, OwnOf, own_of, no_decorator, chain_of}
use Rattle.binding_laws.proofs.SmallLaws.{never, some_is}
use Rattle.language_ties.specs.EcmaScript.{is_ecmascript}
use Rattle.language_ties.proofs.agree.FamiliarPlaces.{IsFamiliar, FamiliarAt, familiar_program}
use Rattle.language_ties.proofs.agree.KnownNodes.{node_at}

-- ---- the shape

-- a child of a clause stands in its header, or is its block; and the parameter of a clause is the child of one
abbrev stands_in_clause : AstType → Role → AstType → List ℕ → Bool
stands_in_clause k r k2 text =
    (not (same_kind k kind.CatchClause) || (is_in_header k r || (same_kind k2 kind.BlockStatement && same_role r role.Body)))
    && (not (same_kind k2 kind.CatchParameter) || same_kind k kind.CatchClause)

only_block : Class → Bool
only_block (class.Only k) = same_kind k kind.BlockStatement
only_block _ = false

clause_part : AstType → List ℕ → Part → Bool
clause_part k text part =
    (not (same_kind k kind.CatchClause) || (is_in_header k part.role || (only_block part.class && same_role part.role role.Body)))
    && (not (is_of part.class kind.CatchParameter text) || same_kind k kind.CatchClause)

all_clauses : (k : AstType) (text : List ℕ) → list_all (clause_part k text) (parts k) ≡ true
unfolding clause_part only_block
all_clauses kind.Program text = refl
all_clauses _ text = refl

is_block : (c : Class) (k2 : AstType) (text : List ℕ) → only_block c ≡ true → is_of c k2 text ≡ true → same_kind k2 kind.BlockStatement ≡ true
unfolding only_block
is_block (class.Only k) k2 text h i = subst (λ j. same_kind k2 j ≡ true) (kind_is k kind.BlockStatement h) (sym (only_is k k2 text) ∙ i)
is_block _ k2 text h i = absurd (never (sym h))

part_in_clause : (k : AstType) (part : Part) (k2 : AstType) (text : List ℕ) → clause_part k text part ≡ true → is_of part.class k2 text ≡ true → stands_in_clause k part.role k2 text ≡ true
unfolding clause_part
part_in_clause k part k2 text h i =
    and_from (not (same_kind k kind.CatchClause) || (is_in_header k part.role || (same_kind k2 kind.BlockStatement && same_role part.role role.Body))) (not (same_kind k2 kind.CatchParameter) || same_kind k kind.CatchClause)
    (go (same_kind k kind.CatchClause) (is_in_header k part.role) (only_block part.class) (same_role part.role role.Body) refl (and_first (not (same_kind k kind.CatchClause) || (is_in_header k part.role || (only_block part.class && same_role part.role role.Body))) _ h))
    (under (same_kind k2 kind.CatchParameter) refl (and_second (not (same_kind k kind.CatchClause) || (is_in_header k part.role || (only_block part.class && same_role part.role role.Body))) (not (is_of part.class kind.CatchParameter text) || same_kind k kind.CatchClause) h))
  where
    go : (a b c d : Bool) → only_block part.class ≡ c → (not a || (b || (c && d))) ≡ true → (not a || (b || (same_kind k2 kind.BlockStatement && d))) ≡ true
    go false b c d w v = refl
    go true true c d w v = refl
    go true false true true w v = rw (is_block part.class k2 text w i) refl
    go true false true false w v = absurd (never (sym v))
    go true false false d w v = absurd (never (sym v))

    under : (t : Bool) → same_kind k2 kind.CatchParameter ≡ t → (not (is_of part.class kind.CatchParameter text) || same_kind k kind.CatchClause) ≡ true → (not t || same_kind k kind.CatchClause) ≡ true
    under false w v = refl
    under true w v = subst (λ b. (not b || same_kind k kind.CatchClause) ≡ true) (subst (λ j. is_of part.class j text ≡ true) (kind_is k2 kind.CatchParameter w) i) v

tree_in_clauses : (p : Tree) → first_fault p ≡ None → holds_below stands_in_clause p.root.kind p.root.children ≡ true
tree_in_clauses p h = tree_holds stands_in_clause (λ k. passed_hold stands_in_clause (clause_part k) k (part_in_clause k) (parts k) (all_clauses k)) p h

-- ---- places

-- the body of a clause, round which the clause's scope is the innermost
pub record IsClauseBody (q : Place) : Type 0 where
  pub clause : OpenScope
  pub round : List OpenScope
  pub chain : q.chain ≡ clause ∷ round
  pub parent : Node
  pub path : List Node
  pub under : q.path ≡ parent ∷ path
  pub caught : parent.kind ≡ kind.CatchClause
  pub opener : clause.opener ≡ parent.node_id
  pub header : clause.in_header ≡ false

pub body_kind : (q : Place) → is_catch_body q ≡ true → q.node.kind ≡ kind.BlockStatement
body_kind q h = kind_is q.node.kind kind.BlockStatement (and_first (is kind.BlockStatement q.node) (same_role q.role role.Body) (and_first (is kind.BlockStatement q.node && same_role q.role role.Body) _ h))

module _ (g : ℕ → Option Node) where
  -- where the innermost scope is a clause's, the place stands in its header or is its body
  abbrev pub StandsInClause : Place → OpenScope → Type 0
  StandsInClause q s = (y : Node) → g s.opener ≡ Some y → y.kind ≡ kind.CatchClause → (s.in_header ≡ true) ⊎ (is_catch_body q ≡ true)

  -- the node above is a clause
  abbrev pub UnderClause : List Node → Type 0
  UnderClause [] = ⊥
  UnderClause (x ∷ path) = x.kind ≡ kind.CatchClause

  pub record IsClausal (q : Place) : Type 0 where
    pub parameter : q.node.kind ≡ kind.CatchParameter → UnderClause q.path
    pub header : q.node.kind ≡ kind.CatchParameter → is_in_header kind.CatchClause q.role ≡ true
    pub stands : StandsInClause q (innermost q.chain)
    pub body : is_catch_body q ≡ true → IsClauseBody q

  abbrev pub ClausalAt : Step → Type 0
  ClausalAt (entering q) = IsClausal q
  ClausalAt (opening q o) = Unit {0}
  ClausalAt (header_ending q o) = Unit {0}
  ClausalAt (closing q o) = Unit {0}
  ClausalAt (leaving q) = Unit {0}

  module _ (q c : Place) (before : IsClausal q) (found : g q.node.node_id ≡ Some q.node) (path : c.path ≡ q.node ∷ q.path) (well : stands_in_clause q.node.kind c.role c.node.kind [] ≡ true) where
    -- the body of a clause, by its parent
    is_body : is kind.CatchClause q.node ≡ true → (same_kind c.node.kind kind.BlockStatement && same_role c.role role.Body) ≡ true → is_catch_body c ≡ true
    is_body k w = and_from (is kind.BlockStatement c.node && same_role c.role role.Body) (parent_holds (is kind.CatchClause) c.path) w (subst (λ l. parent_holds (is kind.CatchClause) l ≡ true) (sym path) k)

    under_clause : is_catch_body c ≡ true → is kind.CatchClause q.node ≡ true
    under_clause w = subst (λ l. parent_holds (is kind.CatchClause) l ≡ true) path (and_second (is kind.BlockStatement c.node && same_role c.role role.Body) (parent_holds (is kind.CatchClause) c.path) w)

    outer_stands : is_inside q.node.kind c.role ≡ false → StandsInClause c (innermost q.chain)
    outer_stands i = λ y f w. elim (before.stands y f w) [
      | inl v ↦ inl v
      | inr v ↦ absurd (never (subst (λ a. is_inside a c.role ≡ false) (body_kind q v) i))
    ]

    inner_stands : (s : OpenScope) → s.opener ≡ q.node.node_id → s.in_header ≡ is_in_header q.node.kind c.role → StandsInClause c s
    inner_stands s o j = λ y f w.
        let same : y ≡ q.node = some_is y q.node (sym f ∙ ap g o ∙ found) in
        let clause : is kind.CatchClause q.node ≡ true = subst (λ a. same_kind a kind.CatchClause ≡ true) (sym w ∙ ap (λ z. z.kind) same) refl in
        let shape : (is_in_header q.node.kind c.role || (same_kind c.node.kind kind.BlockStatement && same_role c.role role.Body)) ≡ true = subst (λ b. (not b || (is_in_header q.node.kind c.role || (same_kind c.node.kind kind.BlockStatement && same_role c.role role.Body))) ≡ true) clause (and_first (not (same_kind q.node.kind kind.CatchClause) || (is_in_header q.node.kind c.role || (same_kind c.node.kind kind.BlockStatement && same_role c.role role.Body))) (not (same_kind c.node.kind kind.CatchParameter) || same_kind q.node.kind kind.CatchClause) well) in
        go clause (is_in_header q.node.kind c.role) refl shape
      where
        go : is kind.CatchClause q.node ≡ true → (b : Bool) → is_in_header q.node.kind c.role ≡ b → (b || (same_kind c.node.kind kind.BlockStatement && same_role c.role role.Body)) ≡ true → (s.in_header ≡ true) ⊎ (is_catch_body c ≡ true)
        go k true v w = inl (j ∙ v)
        go k false v w = inr (is_body k w)

    child_stands : (chain : List OpenScope) → ChainOf q.node.kind c.role q.node q.chain chain → StandsInClause c (innermost chain)
    child_stands _ (outer_chain i) = outer_stands i
    child_stands _ (inner_chain s i o j _) = inner_stands s o j

    body_role : is_catch_body c ≡ true → same_role c.role role.Body ≡ true
    body_role w = and_second (is kind.BlockStatement c.node) (same_role c.role role.Body) (and_first (is kind.BlockStatement c.node && same_role c.role role.Body) _ w)

    no_header : (r : Role) → same_role r role.Body ≡ true → is_in_header kind.CatchClause r ≡ false
    no_header role.Body h = refl
    no_header role.Param h = absurd (never (sym h))
    no_header _ h = absurd (never (sym h))

    child_body : (chain : List OpenScope) → c.chain ≡ chain → ChainOf q.node.kind c.role q.node q.chain chain → is_catch_body c ≡ true → IsClauseBody c
    child_body _ v (outer_chain i) w = absurd (never (subst (λ a. is_inside a c.role ≡ false) (kind_is q.node.kind kind.CatchClause (under_clause w)) i))
    child_body _ v (inner_chain s i o j _) w = record {
      clause = s;
      round = q.chain;
      chain = v;
      parent = q.node;
      path = q.path;
      under = path;
      caught = kind_is q.node.kind kind.CatchClause (under_clause w);
      opener = o;
      header = j ∙ ap (λ a. is_in_header a c.role) (kind_is q.node.kind kind.CatchClause (under_clause w)) ∙ no_header c.role (body_role w);
    }

    child_parameter : c.node.kind ≡ kind.CatchParameter → UnderClause c.path
    child_parameter w =
        let shape : (not (same_kind c.node.kind kind.CatchParameter) || same_kind q.node.kind kind.CatchClause) ≡ true = and_second (not (same_kind q.node.kind kind.CatchClause) || (is_in_header q.node.kind c.role || (same_kind c.node.kind kind.BlockStatement && same_role c.role role.Body))) (not (same_kind c.node.kind kind.CatchParameter) || same_kind q.node.kind kind.CatchClause) well in
        subst UnderClause (sym path) (kind_is q.node.kind kind.CatchClause (subst (λ a. (not (same_kind a kind.CatchParameter) || same_kind q.node.kind kind.CatchClause) ≡ true) w shape))

    child_header : c.node.kind ≡ kind.CatchParameter → is_in_header kind.CatchClause c.role ≡ true
    child_header w =
        let under : (not (same_kind c.node.kind kind.CatchParameter) || same_kind q.node.kind kind.CatchClause) ≡ true = and_second (not (same_kind q.node.kind kind.CatchClause) || (is_in_header q.node.kind c.role || (same_kind c.node.kind kind.BlockStatement && same_role c.role role.Body))) (not (same_kind c.node.kind kind.CatchParameter) || same_kind q.node.kind kind.CatchClause) well in
        let clause : q.node.kind ≡ kind.CatchClause = kind_is q.node.kind kind.CatchClause (subst (λ a. (not (same_kind a kind.CatchParameter) || same_kind q.node.kind kind.CatchClause) ≡ true) w under) in
        let shape : (not (same_kind q.node.kind kind.CatchClause) || (is_in_header q.node.kind c.role || (same_kind c.node.kind kind.BlockStatement && same_role c.role role.Body))) ≡ true = and_first (not (same_kind q.node.kind kind.CatchClause) || (is_in_header q.node.kind c.role || (same_kind c.node.kind kind.BlockStatement && same_role c.role role.Body))) (not (same_kind c.node.kind kind.CatchParameter) || same_kind q.node.kind kind.CatchClause) well in
        or_false (is_in_header kind.CatchClause c.role)
        (subst (λ a. (is_in_header kind.CatchClause c.role || (same_kind a kind.BlockStatement && same_role c.role role.Body)) ≡ true) w
        (subst (λ a. (not (same_kind a kind.CatchClause) || (is_in_header a c.role || (same_kind c.node.kind kind.BlockStatement && same_role c.role role.Body))) ≡ true) clause shape))
      where
        or_false : (b : Bool) → (b || false) ≡ true → b ≡ true
        or_false true v = refl
        or_false false v = v

    clausal_child : ChainOf q.node.kind c.role q.node q.chain c.chain → IsClausal c
    clausal_child t = record { parameter = child_parameter; header = child_header; stands = child_stands c.chain t; body = child_body c.chain refl t }

  clausal_steps : (q : Place) (own : Option OpenScope) (n cursor : ℕ) (f : Forest) → IsClausal q → IsFamiliar g q → OwnOf q own → holds_below stands_in_clause q.node.kind f ≡ true → EachStep (FamiliarAt g) (steps_below q own n cursor f) → EachStep ClausalAt (steps_below q own n cursor f)
  clausal_steps q own n cursor nothing k familiar o w s = last_case (EachStep ClausalAt) q own n tt (tt, (tt, tt))
  clausal_steps q own n cursor (tree r k2 span text marks below id after) k familiar o w s =
      let node : Node = record { kind = k2; span = span; text = text; marks = marks; children = below; node_id = id } in
      let turn : Turn = turn_at q own n cursor r node after in
      let sees : EachOfTurn (FamiliarAt g) turn = turn_of_each (FamiliarAt g) turn s in
      let child_familiar : IsFamiliar g turn.child = sees.whole.0 in
      let more : (holds_below stands_in_clause k2 below && holds_below stands_in_clause q.node.kind after) ≡ true = and_second (stands_in_clause q.node.kind r k2 text) (holds_below stands_in_clause k2 below && holds_below stands_in_clause q.node.kind after) w in
      let well : stands_in_clause q.node.kind r k2 [] ≡ true = and_first (stands_in_clause q.node.kind r k2 text) (holds_below stands_in_clause k2 below && holds_below stands_in_clause q.node.kind after) w in
      let o_scope : OwnOf q turn.scope = own_of q r own n o in
      let chain : ChainOf q.node.kind r q.node q.chain turn.child.chain = chain_of q r turn.scope cursor node (no_decorator q.node.kind r child_familiar.undecorated) (is_open_inside q r own n) o_scope in
      let child : IsClausal turn.child = clausal_child q turn.child k familiar.node refl well chain in
      each_of_turn ClausalAt turn (record {
        before = opening_case (EachStep ClausalAt) q r own n tt (tt, tt);
        whole = each_of_node ClausalAt turn.child turn.below child
            (clausal_steps turn.child None turn.next turn.inner below child child_familiar tt (and_first (holds_below stands_in_clause k2 below) (holds_below stands_in_clause q.node.kind after) more) (each_left (FamiliarAt g) turn.below (leaving turn.child ∷ []) sees.whole.1)) tt;
        behind = ending_case (EachStep ClausalAt) q r turn.scope after tt (λ s. (tt, tt)) (λ s. (tt, tt)) (λ s. (tt, (tt, tt)));
        others = clausal_steps q turn.scope turn.rest turn.past after k familiar o_scope (and_second (holds_below stands_in_clause k2 below) (holds_below stands_in_clause q.node.kind after) more) sees.others;
      })

no_program : Node → kind.CatchClause ≡ kind.Program → ⊥
no_program y h = absurd cc

no_parameter : kind.Program ≡ kind.CatchParameter → ⊥
no_parameter h = absurd cc

pub clausal_program : (p : Tree) → first_fault p ≡ None → is_ecmascript p ≡ true → IsNumbered p.root → EachStep (ClausalAt (node_at p)) (steps p)
clausal_program p h e numbered =
    let root : Place = root_place p in
    let n : ℕ = on_entering p.root.kind 0 in
    let below : List Step = steps_below root None 0 n p.root.children in
    let familiar : EachStep (FamiliarAt (node_at p)) (steps p) = familiar_program p h e numbered in
    let one : IsClausal (node_at p) root = record { parameter = λ w. no_parameter (sym familiar.0.rooted ∙ w); header = λ w. absurd (no_parameter (sym familiar.0.rooted ∙ w)); stands = λ y f w. absurd (no_program y (sym w ∙ ap (λ z. z.kind) (some_is y p.root (sym f ∙ ap (node_at p) (sym (root_numbered p numbered).0) ∙ familiar.0.node)) ∙ familiar.0.rooted)); body = λ w. absurd (never (sym (and_second (is kind.BlockStatement p.root && same_role role.Root role.Body) false w))) } in
    each_of_node (ClausalAt (node_at p)) root below one
    (clausal_steps (node_at p) root None 0 n p.root.children one familiar.0 tt (tree_in_clauses p h) (each_left (FamiliarAt (node_at p)) below (leaving root ∷ []) familiar.1)) tt
