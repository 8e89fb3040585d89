-- Code that isn't strict by the nodes above it is noted as none that is.
use Rattle.std.proofs.Common.{◌≡◌, ℕ, List, [], ◌∷◌, Option, Some, None, Bool, true, false, ◌&&◌, ◌||◌, not, inl, inr, ◌⊎◌, refl, sym, ap, subst, ◌∙◌}
use Rattle.std.specs.List.{list_all}
use Rattle.std.proofs.lemmas.Bool.{cases_Bool, and_from}
use Rattle.semantic_syntax.proofs.Truth.{and_first, and_second}
use Rattle.semantic_kinds.specs.Classes.{is_of, holds_kind}
use Rattle.semantic_kinds.specs.Kinds.{same_kind}
use Rattle.semantic_kinds.specs.Parts.{parts}
use Rattle.semantic_kinds.specs.Roles.{same_role}
use Rattle.semantic_kinds.specs.declared.kind.AstType.{AstType}
use Rattle.semantic_kinds.specs.declared.kind.AstType.TheVariants as kind
use Rattle.semantic_kinds.specs.declared.part.Part.{Part}
use Rattle.semantic_kinds.specs.declared.role.Role.{Role}
use Rattle.semantic_kinds.specs.declared.role.Role.TheVariants as role
use Rattle.semantic_syntax.specs.declared.source_type.SourceType.{SourceType}
use Rattle.semantic_tree.specs.Faults.{first_fault}
use Rattle.semantic_tree.specs.Fit.{fit}
use Rattle.semantic_tree.specs.Forest.{Forest, nothing, tree}
use Rattle.semantic_tree.specs.Nodes.{trees, nodes_in, first_of}
use Rattle.semantic_tree.specs.Tree.{Tree, IsNumbered}
use Rattle.semantic_tree.specs.Views.{is, has_use_strict, child_of, holds}
use Rattle.semantic_tree.specs.declared.node.Node.{Node}
use Rattle.semantic_model.specs.Cursor.{on_entering}
use Rattle.semantic_model.specs.EachStep.{EachStep}
use Rattle.semantic_model.specs.Entries.{Among}
use Rattle.semantic_model.specs.Place.{Place, OpenScope}
use Rattle.semantic_model.specs.Step.{Step, entering, opening, header_ending, closing, leaving, steps_below, steps, root_place}
use Rattle.semantic_model.proofs.form.Clauses.{role_is, kind_is}
use Rattle.semantic_model.proofs.form.PartsHold.{passed_hold}
use Rattle.semantic_model.proofs.steps.EachStep.{each_of_node, each_of_turn}
use Rattle.semantic_model.proofs.steps.Turn.{Turn, turn_at}
use Rattle.semantic_model.proofs.steps.TurnCases.{opening_case, ending_case, last_case}
use Rattle.walk_model.proofs.once.NamesInRole.{AtMostOne}
use Rattle.walk_model.proofs.places.Shapes.{holds_below, tree_holds}
use Rattle.binding_laws.proofs.ListLaws.{each_at, same_of_one}
use Rattle.binding_laws.proofs.SmallLaws.{never, either}
use Rattle.tangle_model.specs.Surroundings as tangle
use Rattle.tangle_model.specs.Surroundings.{is_strict_under}
use Rattle.language_ties.specs.Bound as language
use Rattle.language_ties.specs.EcmaScript.{is_ecmascript_kind, is_ecmascript}
use Rattle.language_ties.proofs.agree.FamiliarPlaces.{is_function_kind, AllKnown, IsFamiliar, FamiliarAt, familiar_program}
use Rattle.language_ties.proofs.agree.KnownNodes.{node_at}
use Rattle.language_ties.proofs.agree.MadeEnvironments.{EndsAtProgram}
use Rattle.language_ties.proofs.caught.CalmPlaces.{IsChild, QuietAt, quiet_program}
use Rattle.language_ties.proofs.own_names.OwnIds.{fit_at}
use Rattle.language_ties.proofs.tangled.NamePlaces.{IsEnteredAs, AllEnteredAs}
use Rattle.language_ties.proofs.tangled.OnceInRole.{has_single, once_in_role}

-- ---- the shape

-- the body of a class stands in a class, and that of a function in a function, as its body
abbrev pub is_body_child : AstType → Role → AstType → List ℕ → Bool
is_body_child k r k2 text =
    (not (same_kind k2 kind.ClassBody) || same_kind k kind.Class) && (not (same_kind k2 kind.FunctionBody) || (is_function_kind k && same_role r role.Body))

body_part : AstType → List ℕ → Part → Bool
body_part k text part =
    (not (is_of part.class kind.ClassBody text) || same_kind k kind.Class) && (not (is_of part.class kind.FunctionBody text) || (is_function_kind k && same_role part.role role.Body))

all_bodies : (k : AstType) (text : List ℕ) → list_all (body_part k text) (parts k) ≡ true
unfolding body_part
all_bodies kind.Program text = refl
all_bodies _ text = refl

part_bodies : (k : AstType) (part : Part) (k2 : AstType) (text : List ℕ) → body_part k text part ≡ true → is_of part.class k2 text ≡ true → is_body_child k part.role k2 text ≡ true
unfolding body_part
part_bodies k part k2 text h i =
    and_from (not (same_kind k2 kind.ClassBody) || same_kind k kind.Class) (not (same_kind k2 kind.FunctionBody) || (is_function_kind k && same_role part.role role.Body))
    (of_kind kind.ClassBody (same_kind k kind.Class) (same_kind k2 kind.ClassBody) refl (and_first (not (is_of part.class kind.ClassBody text) || same_kind k kind.Class) _ h))
    (of_kind kind.FunctionBody (is_function_kind k && same_role part.role role.Body) (same_kind k2 kind.FunctionBody) refl (and_second (not (is_of part.class kind.ClassBody text) || same_kind k kind.Class) _ h))
  where
    of_kind : (j : AstType) (c t : Bool) → same_kind k2 j ≡ t → (not (is_of part.class j text) || c) ≡ true → (not t || c) ≡ true
    of_kind j c false w v = refl
    of_kind j c true w v = subst (λ b. (not b || c) ≡ true) (subst (λ z. is_of part.class z text ≡ true) (kind_is k2 j w) i) v

tree_bodies : (p : Tree) → first_fault p ≡ None → holds_below is_body_child p.root.kind p.root.children ≡ true
tree_bodies p h = tree_holds is_body_child (λ k. passed_hold is_body_child (body_part k) k (part_bodies k) (parts k) (all_bodies k)) p h

-- ---- places

abbrev BodiesAt : Step → Type 0
BodiesAt (entering q) = (y : Node) (path : List Node) → q.path ≡ y ∷ path → is_body_child y.kind q.role q.node.kind [] ≡ true
BodiesAt (opening q o) = Unit {0}
BodiesAt (header_ending q o) = Unit {0}
BodiesAt (closing q o) = Unit {0}
BodiesAt (leaving q) = Unit {0}

bodies_steps : (q : Place) (own : Option OpenScope) (n cursor : ℕ) (f : Forest) → holds_below is_body_child q.node.kind f ≡ true → EachStep BodiesAt (steps_below q own n cursor f)
bodies_steps q own n cursor nothing a = last_case (EachStep BodiesAt) q own n tt (tt, (tt, tt))
bodies_steps q own n cursor (tree r k2 span text marks below id after) a =
    let node : Node = record { kind = k2; span = span; text = text; marks = marks; children = below; node_id = id } in
    let turn : Turn = turn_at q own n cursor r node after in
    let more : (holds_below is_body_child k2 below && holds_below is_body_child q.node.kind after) ≡ true = and_second (is_body_child q.node.kind r k2 text) (holds_below is_body_child k2 below && holds_below is_body_child q.node.kind after) a in
    let first : is_body_child q.node.kind r k2 text ≡ true = and_first (is_body_child q.node.kind r k2 text) (holds_below is_body_child k2 below && holds_below is_body_child q.node.kind after) a in
    each_of_turn BodiesAt turn (record {
      before = opening_case (EachStep BodiesAt) q r own n tt (tt, tt);
      whole = each_of_node BodiesAt turn.child turn.below (λ y path w. subst (λ z. is_body_child z.kind r k2 [] ≡ true) (heads q.node y q.path path w) first)
          (bodies_steps turn.child None turn.next turn.inner below (and_first (holds_below is_body_child k2 below) (holds_below is_body_child q.node.kind after) more)) tt;
      behind = ending_case (EachStep BodiesAt) q r turn.scope after tt (λ s. (tt, tt)) (λ s. (tt, tt)) (λ s. (tt, (tt, tt)));
      others = bodies_steps q turn.scope turn.rest turn.past after (and_second (holds_below is_body_child k2 below) (holds_below is_body_child q.node.kind after) more);
    })
  where
    heads : (x y : Node) (xs ys : List Node) → x ∷ xs ≡ y ∷ ys → x ≡ y
    heads x y xs ys w = cc

bodies_program : (p : Tree) → first_fault p ≡ None → EachStep BodiesAt (steps p)
bodies_program p h =
    let root : Place = root_place p in
    let n : ℕ = on_entering p.root.kind 0 in
    each_of_node BodiesAt root (steps_below root None 0 n p.root.children) (λ y path w. absurd (no_parent y path w)) (bodies_steps root None 0 n p.root.children (tree_bodies p h)) tt
  where
    no_parent : (y : Node) (path : List Node) → [] ≡ y ∷ path → ⊥
    no_parent y path w = absurd cc

-- ---- strict code

module _ (p : Tree) (h : first_fault p ≡ None) (e : is_ecmascript p ≡ true) (numbered : IsNumbered p.root) where
  abbrev s : SourceType
  s = p.source_type

  or_first : (a b : Bool) → a ≡ true → (a || b) ≡ true
  or_first true b w = refl
  or_first false b w = absurd (never (sym w))

  or_second : (a b : Bool) → b ≡ true → (a || b) ≡ true
  or_second true b w = refl
  or_second false b w = w

  -- the body of a function with the directive makes it strict
  by_body : (y : Node) → node_at p y.node_id ≡ Some y → (x : Node) → is_function_kind y.kind ≡ true → Among x (nodes_in role.Body (trees y.children)) → has_use_strict x ≡ true → language.makes_strict y ≡ true
  by_body y known x f a w =
      let body : child_of role.Body y ≡ Some x = first (nodes_in role.Body (trees y.children)) refl (of_kind (same_kind kind.Function y.kind) (same_kind kind.ArrowFunctionExpression y.kind) refl refl f) in
      or_second (is kind.Class y || (is kind.Program y && has_use_strict y)) _ (and_from (is_function_kind y.kind) (holds has_use_strict (child_of role.Body y)) f (ap (holds has_use_strict) body ∙ w))
    where
      once : (k : AstType) → has_single role.Body (parts k) ≡ true → k ≡ y.kind → AtMostOne (nodes_in role.Body (trees y.children))
      once k u i = once_in_role role.Body (parts k) (trees y.children) u (subst (λ j. fit (parts j) (trees y.children) ≡ true) (sym i) (fit_at p h y.node_id y known))

      of_kind : (a b : Bool) → same_kind kind.Function y.kind ≡ a → same_kind kind.ArrowFunctionExpression y.kind ≡ b → (a || (b || false)) ≡ true → AtMostOne (nodes_in role.Body (trees y.children))
      of_kind true b i j v = once kind.Function refl (kind_is kind.Function y.kind i)
      of_kind false true i j v = once kind.ArrowFunctionExpression refl (kind_is kind.ArrowFunctionExpression y.kind j)
      of_kind false false i j v = absurd (never (sym v))

      first : (ns : List Node) → nodes_in role.Body (trees y.children) ≡ ns → AtMostOne (nodes_in role.Body (trees y.children)) → child_of role.Body y ≡ Some x
      first [] v o = absurd (subst (Among x) v a)
      first (n ∷ ns) v o = ap first_of v ∙ ap Some (same_of_one (nodes_in role.Body (trees y.children)) n x o (subst (Among n) (sym v) (inl refl)) a)

  module _ (x : Node) (path : List Node) (entered : IsEnteredAs (steps p) x path) where
    familiar : IsFamiliar (node_at p) entered.place
    familiar = each_at (FamiliarAt (node_at p)) (steps p) (entering entered.place) (familiar_program p h e numbered) entered.entered

    ecmascript : is_ecmascript_kind x.kind ≡ true
    ecmascript = subst (λ n. is_ecmascript_kind n.kind ≡ true) entered.node familiar.ecmascript

    rooted : path ≡ [] → x.kind ≡ kind.Program
    rooted w = subst (λ n. n.kind ≡ kind.Program) entered.node (subst (EndsAtProgram entered.place.node) (entered.above ∙ w) familiar.rooted)

    bodies : (y : Node) (l : List Node) → path ≡ y ∷ l → is_body_child y.kind entered.place.role x.kind [] ≡ true
    bodies y l w = subst (λ n. is_body_child y.kind entered.place.role n.kind [] ≡ true) entered.node (each_at BodiesAt (steps p) (entering entered.place) (bodies_program p h) entered.entered y l (entered.above ∙ w))

    child : (y : Node) (l : List Node) → path ≡ y ∷ l → Among x (nodes_in entered.place.role (trees y.children))
    child y l w = subst (λ n. Among n (nodes_in entered.place.role (trees y.children))) entered.node
        (subst (IsChild (node_at p) entered.place) (entered.above ∙ w) (each_at (QuietAt (node_at p)) (steps p) (entering entered.place) (quiet_program p h e numbered) entered.entered).child)

    -- what is noted to make code strict does so, or its parent
    strict_here : (AllKnown (node_at p) path) → tangle.makes_strict x ≡ true → (language.makes_strict x || language.is_strict s path) ≡ true
    strict_here known w = go path refl (either (is kind.ClassBody x) (holds_kind (kind.Program ∷ kind.FunctionBody ∷ kind.TSModuleBlock ∷ []) x.kind && has_use_strict x) w)
      where
        no_program : (k : AstType) → (k ≡ kind.Program → ⊥) → x.kind ≡ k → path ≡ [] → ⊥
        no_program k n v u = n (sym v ∙ rooted u)

        parent_strict : (y : Node) (l : List Node) → path ≡ y ∷ l → language.makes_strict y ≡ true → (language.makes_strict x || language.is_strict s path) ≡ true
        parent_strict y l u v = or_second (language.makes_strict x) (language.is_strict s path) (ap (language.is_strict s) u ∙ or_first (language.makes_strict y) (language.is_strict s l) v)

        class_body : (y : Node) (l : List Node) → path ≡ y ∷ l → is kind.ClassBody x ≡ true → (language.makes_strict x || language.is_strict s path) ≡ true
        class_body y l u v = parent_strict y l u (or_first (is kind.Class y || (is kind.Program y && has_use_strict y)) _ (or_first (is kind.Class y) (is kind.Program y && has_use_strict y) first_class))
          where
            first_class : is kind.Class y ≡ true
            first_class = subst (λ b. (not b || same_kind y.kind kind.Class) ≡ true) v (and_first (not (same_kind x.kind kind.ClassBody) || same_kind y.kind kind.Class) _ (bodies y l u))

        function_body : (y : Node) (l : List Node) → path ≡ y ∷ l → kind.FunctionBody ≡ x.kind → has_use_strict x ≡ true → (language.makes_strict x || language.is_strict s path) ≡ true
        function_body y l u k v =
            let both : (is_function_kind y.kind && same_role entered.place.role role.Body) ≡ true = subst (λ b. (not b || (is_function_kind y.kind && same_role entered.place.role role.Body)) ≡ true) (ap (λ j. same_kind j kind.FunctionBody) (sym k)) (and_second (not (same_kind x.kind kind.ClassBody) || same_kind y.kind kind.Class) _ (bodies y l u)) in
            let in_body : Among x (nodes_in role.Body (trees y.children)) = subst (λ r. Among x (nodes_in r (trees y.children))) (role_is entered.place.role role.Body (and_second (is_function_kind y.kind) (same_role entered.place.role role.Body) both)) (child y l u) in
            parent_strict y l u (by_body y (subst (AllKnown (node_at p)) u known).0 x (and_first (is_function_kind y.kind) (same_role entered.place.role role.Body) both) in_body v)

        program_strict : kind.Program ≡ x.kind → has_use_strict x ≡ true → language.makes_strict x ≡ true
        program_strict k v = or_first (is kind.Class x || (is kind.Program x && has_use_strict x)) _ (or_second (is kind.Class x) (is kind.Program x && has_use_strict x) (and_from (is kind.Program x) (has_use_strict x) (ap (λ j. same_kind j kind.Program) (sym k)) v))

        of_kinds : (l : List Node) → path ≡ l → (a b c : Bool) → same_kind kind.Program x.kind ≡ a → same_kind kind.FunctionBody x.kind ≡ b → same_kind kind.TSModuleBlock x.kind ≡ c → (a || (b || (c || false))) ≡ true → has_use_strict x ≡ true → (language.makes_strict x || language.is_strict s path) ≡ true
        of_kinds l u true b c i j k v w = or_first (language.makes_strict x) (language.is_strict s path) (program_strict (kind_is kind.Program x.kind i) w)
        of_kinds [] u false true c i j k v w = absurd (no_program kind.FunctionBody (λ z. absurd cc) (sym (kind_is kind.FunctionBody x.kind j)) u)
        of_kinds (y ∷ l) u false true c i j k v w = function_body y l u (kind_is kind.FunctionBody x.kind j) w
        of_kinds l u false false true i j k v w = absurd (never (sym (subst (λ z. is_ecmascript_kind z ≡ true) (sym (kind_is kind.TSModuleBlock x.kind k)) ecmascript)))
        of_kinds l u false false false i j k v w = absurd (never (sym v))

        go : (l : List Node) → path ≡ l → (is kind.ClassBody x ≡ true) ⊎ ((holds_kind (kind.Program ∷ kind.FunctionBody ∷ kind.TSModuleBlock ∷ []) x.kind && has_use_strict x) ≡ true) → (language.makes_strict x || language.is_strict s path) ≡ true
        go [] u (inl v) = absurd (no_program kind.ClassBody (λ z. absurd cc) (kind_is x.kind kind.ClassBody v) u)
        go (y ∷ l) u (inl v) = class_body y l u v
        go l u (inr v) = of_kinds l u (same_kind kind.Program x.kind) (same_kind kind.FunctionBody x.kind) (same_kind kind.TSModuleBlock x.kind) refl refl refl (and_first (holds_kind (kind.Program ∷ kind.FunctionBody ∷ kind.TSModuleBlock ∷ []) x.kind) (has_use_strict x) v) (and_second (holds_kind (kind.Program ∷ kind.FunctionBody ∷ kind.TSModuleBlock ∷ []) x.kind) (has_use_strict x) v)

  pub not_strict_under : (path : List Node) → AllKnown (node_at p) path → AllEnteredAs (steps p) path → language.is_strict s path ≡ false → is_strict_under s path ≡ false
  not_strict_under [] known entered w = w
  not_strict_under (x ∷ path) known entered w = elim (cases_Bool (tangle.makes_strict x)) [
    | inl v ↦ absurd (never (sym (strict_here x path entered.0 known.1 v) ∙ w))
    | inr v ↦ ap (λ b. b || is_strict_under s path) v ∙ not_strict_under path known.1 entered.1 (second (language.makes_strict x) (language.is_strict s path) w)
  ]
    where
      second : (a b : Bool) → (a || b) ≡ false → b ≡ false
      second true b i = absurd (never i)
      second false b i = i
