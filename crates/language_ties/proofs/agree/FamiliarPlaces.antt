-- What is known of each place of a numbered program of ECMAScript: its nodes by their ids, and where lists of parameters stand.
use Rattle.std.proofs.Common.{◌≡◌, ℕ, suc, List, [], ◌∷◌, Option, Some, None, Bool, true, false, ◌&&◌, ◌||◌, not, cond, inl, inr, refl, sym, subst}
use Rattle.std.specs.List.{list_all}
use Rattle.std.proofs.lemmas.Bool.{cases_Bool, and_from, not-true}
use Rattle.semantic_syntax.proofs.Truth.{and_first, and_second, and_false}
use Rattle.semantic_kinds.specs.Classes.{is_of, holds_kind}
use Rattle.semantic_kinds.specs.Kinds.{same_kind}
use Rattle.semantic_kinds.specs.Parts.{parts}
use Rattle.semantic_kinds.specs.Roles.{same_role}
use Rattle.semantic_kinds.specs.declared.kind.AstType.{AstType}
use Rattle.semantic_kinds.specs.declared.kind.AstType.TheVariants as kind
use Rattle.semantic_kinds.specs.declared.part.Part.{Part}
use Rattle.semantic_kinds.specs.declared.role.Role.{Role}
use Rattle.semantic_kinds.specs.declared.role.Role.TheVariants as role
use Rattle.semantic_syntax.specs.SourceTypes.{is_typescript}
use Rattle.semantic_tree.specs.Faults.{first_fault}
use Rattle.semantic_tree.specs.Forest.{Forest, nothing, tree}
use Rattle.semantic_tree.specs.Tree.{Tree, IsNumbered}
use Rattle.semantic_tree.specs.Views.{is}
use Rattle.semantic_tree.specs.declared.node.Node.{Node}
use Rattle.semantic_model.specs.Cursor.{on_entering}
use Rattle.semantic_model.specs.EachStep.{EachStep}
use Rattle.semantic_model.specs.Inside.{body_number, is_in_header}
use Rattle.semantic_model.specs.Entries.{Among}
use Rattle.semantic_model.specs.Place.{Place, OpenScope, innermost}
use Rattle.semantic_model.specs.ScopeKind.{opened_scope}
use Rattle.semantic_model.specs.Step.{Step, entering, opening, header_ending, closing, leaving, steps_below, steps, root_place}
use Rattle.semantic_model.proofs.form.Clauses.{kind_is}
use Rattle.semantic_model.proofs.form.ParameterShape.{is_parameter}
use Rattle.semantic_model.proofs.form.PartsHold.{passed_hold}
use Rattle.semantic_model.proofs.form.Shape.{has_form}
use Rattle.semantic_model.proofs.steps.EachStep.{each_of_node, each_of_turn}
use Rattle.semantic_model.proofs.steps.Turn.{Turn, turn_at}
use Rattle.semantic_model.proofs.steps.TurnCases.{opening_case, ending_case, last_case}
use Rattle.walk_model.proofs.places.Shapes.{holds_below, tree_holds}
use Rattle.binding_laws.proofs.ListLaws.{each_at}
use Rattle.binding_laws.proofs.ScopesRound.{AllRound, OwnRound, own_round, child_round}
use Rattle.binding_laws.proofs.SmallLaws.{implied}
use Rattle.language_ties.specs.EcmaScript.{is_ecmascript_kind, is_ecmascript_forest, is_ecmascript}
use Rattle.language_ties.proofs.agree.KnownNodes.{node_at, AllFound, all_found, root_found}
use Rattle.language_ties.proofs.agree.MadeEnvironments.{EndsAtProgram}
use Rattle.language_ties.proofs.shared.PlainNodes.{forests_plain}

-- ---- the shape

abbrev pub is_function_kind : AstType → Bool
is_function_kind k = holds_kind (kind.Function ∷ kind.ArrowFunctionExpression ∷ []) k

-- nothing stands under an identifier, and a function's parameters stand in its header
abbrev pub stands_well : AstType → Role → AstType → List ℕ → Bool
stands_well k r k2 text = not (same_kind k kind.BindingIdentifier) && (not (is_function_kind k && same_kind k2 kind.FormalParameters) || is_in_header k r)

-- a list of parameters is a function's, a parameter is one of a list
abbrev pub is_parent : AstType → AstType → Bool
is_parent k k2 = cond (same_kind k2 kind.FormalParameters) (is_function_kind k || not (is_ecmascript_kind k)) (cond (is_parameter k2) (same_kind k kind.FormalParameters) true)

holds_part : AstType → List ℕ → Part → Bool
holds_part k text part = not (same_kind k kind.BindingIdentifier) && (not (is_function_kind k) || (not (is_of part.class kind.FormalParameters text) || is_in_header k part.role))

lists_part : AstType → List ℕ → Part → Bool
lists_part k text part =
    (not (is_of part.class kind.FormalParameters text) || (is_function_kind k || not (is_ecmascript_kind k)))
    && ((not (is_of part.class kind.FormalParameter text) || same_kind k kind.FormalParameters)
    && (not (is_of part.class kind.FormalParameterRest text) || same_kind k kind.FormalParameters))

all_lists : (k : AstType) (text : List ℕ) → list_all (lists_part k text) (parts k) ≡ true
unfolding lists_part
all_lists kind.Program text = refl
all_lists _ text = refl

part_lists : (k : AstType) (part : Part) (k2 : AstType) (text : List ℕ) → lists_part k text part ≡ true → is_of part.class k2 text ≡ true → is_parent k k2 ≡ true
unfolding lists_part
part_lists k part k2 text h i =
    let first : (not (is_of part.class kind.FormalParameters text) || (is_function_kind k || not (is_ecmascript_kind k))) ≡ true = and_first (not (is_of part.class kind.FormalParameters text) || (is_function_kind k || not (is_ecmascript_kind k))) _ h in
    let rest : ((not (is_of part.class kind.FormalParameter text) || same_kind k kind.FormalParameters) && (not (is_of part.class kind.FormalParameterRest text) || same_kind k kind.FormalParameters)) ≡ true = and_second (not (is_of part.class kind.FormalParameters text) || (is_function_kind k || not (is_ecmascript_kind k))) _ h in
    let second : (not (is_of part.class kind.FormalParameter text) || same_kind k kind.FormalParameters) ≡ true = and_first (not (is_of part.class kind.FormalParameter text) || same_kind k kind.FormalParameters) _ rest in
    let third : (not (is_of part.class kind.FormalParameterRest text) || same_kind k kind.FormalParameters) ≡ true = and_second (not (is_of part.class kind.FormalParameter text) || same_kind k kind.FormalParameters) _ rest in
    elim (cases_Bool (same_kind k2 kind.FormalParameters)) [
      | inl e ↦ rw e (implied (is_of part.class kind.FormalParameters text) (is_function_kind k || not (is_ecmascript_kind k)) first (subst (λ q. is_of part.class q text ≡ true) (kind_is k2 kind.FormalParameters e) i))
      | inr e ↦ rw e (elim (cases_Bool (same_kind k2 kind.FormalParameter)) [
        | inl f ↦ rw f (implied (is_of part.class kind.FormalParameter text) (same_kind k kind.FormalParameters) second (subst (λ q. is_of part.class q text ≡ true) (kind_is k2 kind.FormalParameter f) i))
        | inr f ↦ rw f (elim (cases_Bool (same_kind k2 kind.FormalParameterRest)) [
          | inl g ↦ rw g (implied (is_of part.class kind.FormalParameterRest text) (same_kind k kind.FormalParameters) third (subst (λ q. is_of part.class q text ≡ true) (kind_is k2 kind.FormalParameterRest g) i))
          | inr g ↦ rw g refl
        ])
      ])
    ]

pub tree_lists : (p : Tree) → first_fault p ≡ None → holds_below (λ k r k2 text. is_parent k k2) p.root.kind p.root.children ≡ true
tree_lists p h = tree_holds (λ k r k2 text. is_parent k k2) (λ k. passed_hold (λ k r k2 text. is_parent k k2) (lists_part k) k (part_lists k) (parts k) (all_lists k)) p h

all_parts : (k : AstType) (text : List ℕ) → list_all (holds_part k text) (parts k) ≡ true
unfolding holds_part
all_parts kind.Program text = refl
all_parts _ text = refl

part_stands : (k : AstType) (part : Part) (k2 : AstType) (text : List ℕ) → holds_part k text part ≡ true → is_of part.class k2 text ≡ true → stands_well k part.role k2 text ≡ true
unfolding holds_part
part_stands k part k2 text h i =
    and_from (not (same_kind k kind.BindingIdentifier)) (not (is_function_kind k && same_kind k2 kind.FormalParameters) || is_in_header k part.role)
    (and_first (not (same_kind k kind.BindingIdentifier)) _ h)
    (elim (cases_Bool (same_kind k2 kind.FormalParameters)) [
      | inl e ↦ rw e (by (is_function_kind k) (is_of part.class kind.FormalParameters text) (is_in_header k part.role)
          (and_second (not (same_kind k kind.BindingIdentifier)) (not (is_function_kind k) || (not (is_of part.class kind.FormalParameters text) || is_in_header k part.role)) h)
          (subst (λ q. is_of part.class q text ≡ true) (kind_is k2 kind.FormalParameters e) i))
      | inr e ↦ rw (e, and_false (is_function_kind k)) refl
    ])
  where
    by : (f o d : Bool) → (not f || (not o || d)) ≡ true → o ≡ true → (not (f && true) || d) ≡ true
    by false o d q w = refl
    by true true d q w = q
    by true false d q w = absurd cc

pub tree_stands_well : (p : Tree) → first_fault p ≡ None → holds_below stands_well p.root.kind p.root.children ≡ true
tree_stands_well p h = tree_holds stands_well (λ k. passed_hold stands_well (holds_part k) k (part_stands k) (parts k) (all_parts k)) p h

-- ---- places

-- so it is with each node and the one above it
abbrev pub ParentsFit : AstType → List Node → Type 0
ParentsFit k [] = Unit {0}
ParentsFit k (x ∷ path) = (is_parent x.kind k ≡ true) × (is_ecmascript_kind x.kind ≡ true) × ParentsFit x.kind path

module _ (g : ℕ → Option Node) where
  abbrev pub AllKnown : List Node → Type 0
  AllKnown [] = Unit {0}
  AllKnown (x ∷ xs) = (g x.node_id ≡ Some x) × AllKnown xs

  -- a scope with a body is opened by a catch clause
  abbrev pub IsClauseScope : OpenScope → Type 0
  IsClauseScope s = (b : ℕ) → s.body ≡ Some b → (x : Node) × (g s.opener ≡ Some x) × (x.kind ≡ kind.CatchClause)

  abbrev pub AllClauseScopes : List OpenScope → Type 0
  AllClauseScopes chain = AllRound IsClauseScope chain

  abbrev StandsUnder : Role → AstType → List Node → Type 0
  StandsUnder r k [] = Unit {0}
  StandsUnder r k (x ∷ path) = stands_well x.kind r k [] ≡ true

  pub record IsFamiliar (q : Place) : Type 0 where
    pub node : g q.node.node_id ≡ Some q.node
    pub path : AllKnown q.path
    pub rooted : EndsAtProgram q.node q.path
    pub clauses : AllClauseScopes q.chain
    pub undecorated : same_role q.role role.Decorators ≡ false
    pub stands : StandsUnder q.role q.node.kind q.path
    pub parents : ParentsFit q.node.kind q.path
    pub ecmascript : is_ecmascript_kind q.node.kind ≡ true

  abbrev pub FamiliarAt : Step → Type 0
  FamiliarAt (entering q) = IsFamiliar q
  FamiliarAt (opening q o) = Unit {0}
  FamiliarAt (header_ending q o) = Unit {0}
  FamiliarAt (closing q o) = Unit {0}
  FamiliarAt (leaving q) = Unit {0}

  opened_clause : (p : Place) (n : ℕ) → g p.node.node_id ≡ Some p.node → IsClauseScope (opened_scope p n)
  opened_clause p n k b q = go (is kind.CatchClause p.node) refl q
    where
      go : (t : Bool) → is kind.CatchClause p.node ≡ t → cond t (body_number (suc n) p.node.children) None ≡ Some b → (x : Node) × (g p.node.node_id ≡ Some x) × (x.kind ≡ kind.CatchClause)
      go true e w = (p.node, k, kind_is p.node.kind kind.CatchClause e)
      go false e w = absurd cc

  undecorated_here : (k : AstType) (r : Role) (rest more : Bool) → ((is_ecmascript_kind k && not (same_role r role.Decorators)) && rest && more) ≡ true → same_role r role.Decorators ≡ false
  undecorated_here k r rest more h = not-true (same_role r role.Decorators) (and_second (is_ecmascript_kind k) (not (same_role r role.Decorators)) (and_first (is_ecmascript_kind k && not (same_role r role.Decorators)) rest (and_first ((is_ecmascript_kind k && not (same_role r role.Decorators)) && rest) more h)))

  kind_here : (k : AstType) (r : Role) (rest more : Bool) → ((is_ecmascript_kind k && not (same_role r role.Decorators)) && rest && more) ≡ true → is_ecmascript_kind k ≡ true
  kind_here k r rest more h = and_first (is_ecmascript_kind k) (not (same_role r role.Decorators)) (and_first (is_ecmascript_kind k && not (same_role r role.Decorators)) rest (and_first ((is_ecmascript_kind k && not (same_role r role.Decorators)) && rest) more h))

  familiar_steps : (p : Place) (own : Option OpenScope) (n cursor : ℕ) (f : Forest) → IsFamiliar p → AllFound g f → OwnRound IsClauseScope own → is_ecmascript_forest f ≡ true → holds_below stands_well p.node.kind f ≡ true → holds_below (λ i r j text. is_parent i j) p.node.kind f ≡ true → EachStep FamiliarAt (steps_below p own n cursor f)
  familiar_steps p own n cursor nothing k a o e w l = last_case (EachStep FamiliarAt) p own n tt (tt, (tt, tt))
  familiar_steps p own n cursor (tree r k2 span text marks below id after) k a o e w l =
      let node : Node = record { kind = k2; span = span; text = text; marks = marks; children = below; node_id = id } in
      let turn : Turn = turn_at p own n cursor r node after in
      let forests : (is_ecmascript_forest below ≡ true) × (is_ecmascript_forest after ≡ true) = forests_plain _ below after e in
      let well : (holds_below stands_well k2 below && holds_below stands_well p.node.kind after) ≡ true = and_second (stands_well p.node.kind r k2 text) (holds_below stands_well k2 below && holds_below stands_well p.node.kind after) w in
      let lists : (holds_below (λ i r j text. is_parent i j) k2 below && holds_below (λ i r j text. is_parent i j) p.node.kind after) ≡ true = and_second (is_parent p.node.kind k2) (holds_below (λ i r j text. is_parent i j) k2 below && holds_below (λ i r j text. is_parent i j) p.node.kind after) l in
      let o_scope : OwnRound IsClauseScope turn.scope = own_round IsClauseScope p r own n (opened_clause p n k.node) o in
      let child : IsFamiliar turn.child = record {
        node = a.0;
        path = (k.node, k.path);
        rooted = k.rooted;
        clauses = child_round IsClauseScope (λ z b h. h) p turn.scope cursor r node k.clauses o_scope;
        undecorated = undecorated_here k2 r _ _ e;
        stands = and_first (stands_well p.node.kind r k2 text) (holds_below stands_well k2 below && holds_below stands_well p.node.kind after) w;
        parents = (and_first (is_parent p.node.kind k2) (holds_below (λ i r j text. is_parent i j) k2 below && holds_below (λ i r j text. is_parent i j) p.node.kind after) l, k.ecmascript, k.parents);
        ecmascript = kind_here k2 r _ _ e;
      } in
      each_of_turn FamiliarAt turn (record {
        before = opening_case (EachStep FamiliarAt) p r own n tt (tt, tt);
        whole = each_of_node FamiliarAt turn.child turn.below child (familiar_steps turn.child None turn.next turn.inner below child a.1 tt forests.0 (and_first (holds_below stands_well k2 below) (holds_below stands_well p.node.kind after) well) (and_first (holds_below (λ i r j text. is_parent i j) k2 below) (holds_below (λ i r j text. is_parent i j) p.node.kind after) lists)) tt;
        behind = ending_case (EachStep FamiliarAt) p r turn.scope after tt (λ s. (tt, tt)) (λ s. (tt, tt)) (λ s. (tt, (tt, tt)));
        others = familiar_steps p turn.scope turn.rest turn.past after k a.2 o_scope forests.1 (and_second (holds_below stands_well k2 below) (holds_below stands_well p.node.kind after) well) (and_second (holds_below (λ i r j text. is_parent i j) k2 below) (holds_below (λ i r j text. is_parent i j) p.node.kind after) lists);
      })

  pub innermost_clause : (chain : List OpenScope) → AllClauseScopes chain → IsClauseScope (innermost chain)
  innermost_clause [] h b q = absurd cc
  innermost_clause (s ∷ ss) h b q = h.0 b q

  pub known_among : (xs : List Node) (x : Node) → AllKnown xs → Among x xs → g x.node_id ≡ Some x
  known_among [] x h a = absurd a
  known_among (y ∷ xs) x h (inl q) = subst (λ z. g z.node_id ≡ Some z) q h.0
  known_among (y ∷ xs) x h (inr a) = known_among xs x h.1 a

pub familiar_program : (p : Tree) → first_fault p ≡ None → is_ecmascript p ≡ true → IsNumbered p.root → EachStep (FamiliarAt (node_at p)) (steps p)
familiar_program p h e numbered =
    let root : Place = root_place p in
    let n : ℕ = on_entering p.root.kind 0 in
    let one : IsFamiliar (node_at p) root = record { node = root_found p; path = tt; rooted = (has_form p h).root; clauses = tt; undecorated = refl; stands = tt; parents = tt; ecmascript = subst (λ k. is_ecmascript_kind k ≡ true) (sym (has_form p h).root) refl } in
    each_of_node (FamiliarAt (node_at p)) root (steps_below root None 0 n p.root.children) one
    (familiar_steps (node_at p) root None 0 n p.root.children one (all_found p numbered) tt (and_second (not (is_typescript p.source_type)) (is_ecmascript_forest p.root.children) e) (tree_stands_well p h) (tree_lists p h)) tt

pub familiar_at : (p : Tree) → first_fault p ≡ None → is_ecmascript p ≡ true → IsNumbered p.root → (q : Place) → Among (entering q) (steps p) → IsFamiliar (node_at p) q
familiar_at p h e numbered q a = each_at (FamiliarAt (node_at p)) (steps p) (entering q) (familiar_program p h e numbered) a
