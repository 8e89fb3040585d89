-- No declaration binds in the environment of a class: statements and imports stand in a class only within functions and static blocks.
use Rattle.std.proofs.Common.{◌≡◌, ℕ, List, [], ◌∷◌, ◌++◌, Option, None, Bool, true, false, ◌&&◌, ◌||◌, not, cond, map, inl, inr, refl, sym, ap, subst, ◌∙◌, codes}
use Rattle.std.proofs.lemmas.Bool.{cases_Bool}
use Rattle.semantic_syntax.proofs.Truth.{and_first, and_second}
use Rattle.semantic_kinds.specs.Kinds.{same_kind}
use Rattle.semantic_kinds.specs.declared.kind.AstType.{AstType}
use Rattle.semantic_kinds.specs.declared.kind.AstType.TheVariants as kind
use Rattle.semantic_kinds.specs.declared.role.Role.{Role}
use Rattle.semantic_kinds.specs.declared.role.Role.TheVariants as role
use Rattle.semantic_tree.specs.Faults.{first_fault}
use Rattle.semantic_tree.specs.Forest.{Forest, nothing, tree}
use Rattle.semantic_tree.specs.Tree.{Tree, IsNumbered}
use Rattle.semantic_tree.specs.Views.{is_with_text}
use Rattle.semantic_tree.specs.declared.node.Node.{Node}
use Rattle.semantic_model.specs.Binder.{is_statement}
use Rattle.semantic_model.specs.Cursor.{on_entering}
use Rattle.semantic_model.specs.EachStep.{EachStep}
use Rattle.semantic_model.specs.Entries.{Among}
use Rattle.semantic_model.specs.Names.{bound_names, names_at}
use Rattle.semantic_model.specs.Place.{Place, OpenScope}
use Rattle.semantic_model.specs.Step.{Step, entering, opening, header_ending, closing, leaving, steps_below, steps, root_place}
use Rattle.semantic_model.proofs.form.Clauses.{kind_is}
use Rattle.semantic_model.proofs.form.ParameterShape.{is_parameter}
use Rattle.semantic_model.proofs.steps.EachStep.{each_of_node, each_of_turn}
use Rattle.semantic_model.proofs.steps.Turn.{Turn, turn_at}
use Rattle.semantic_model.proofs.steps.TurnCases.{opening_case, ending_case, last_case}
use Rattle.program_laws.proofs.DeclaredNodes.{among_map}
use Rattle.walk_model.proofs.headers.NoStatements.{is_loose, is_bound, is_statement_text, is_closed, closed_by_table, closed_by_place, table_closes, place_closes, child_closed}
use Rattle.walk_model.proofs.places.Shapes.{holds_below}
use Rattle.binding_laws.proofs.ListLaws.{each_at}
use Rattle.binding_laws.proofs.SmallLaws.{never}
use Rattle.language_ties.specs.Bound as language
use Rattle.language_ties.specs.Bound.{Bound, bound_identifier, bound_here, bound_outward, bound_by_declarator, bound_by_declaration, bound_by_function, bound_by_class, bound_by_node, is_bound_as}
use Rattle.language_ties.specs.EcmaScript.{is_ecmascript}
use Rattle.language_ties.specs.Environments.{Environment, is_made_for, made_by, environments, innermost, passed, takes_variables, variable_environment}
use Rattle.language_ties.specs.declared.bound_as.BoundAs.{BoundAs}
use Rattle.language_ties.specs.declared.bound_as.BoundAs.TheVariants as bound
use Rattle.language_ties.specs.declared.environment_kind.EnvironmentKind.TheVariants as environment
use Rattle.language_ties.proofs.agree.FamiliarPlaces.{IsFamiliar, FamiliarAt, familiar_program}
use Rattle.language_ties.proofs.agree.KnownBounds.{taking_no_class}
use Rattle.language_ties.proofs.agree.KnownNodes.{node_at}
use Rattle.language_ties.proofs.agree.MadeEnvironments.{EndsAtProgram}
use Rattle.language_ties.proofs.caught.CalmPlaces.{is_import_name, is_class_statement, is_quiet, tree_quiet}
use Rattle.language_ties.proofs.caught.CaughtNames.{catch_environment}
use Rattle.language_ties.proofs.caught.InClauses.{IsInClause, in_clause}
use Rattle.language_ties.proofs.clear.ParameterPlaces.{parameter_takes}
use Rattle.language_ties.proofs.clear.PassedScopes.{variables_taken}
use Rattle.language_ties.proofs.own_names.PassedClasses.{HoldsLoose, LooseAt, loose_program, asks, NoClass, passes_no_class, under_no_class}
use Rattle.language_ties.proofs.tangled.NamePlaces.{IsEnteredAs, AllEnteredAs, AmidAt, amid_program}

-- ---- what statements stand in

abbrev Holds : AstType → Type 0
Holds k = (is_loose k || is_bound k) ≡ true

-- a statement that declares stands under a node that holds statements, and the name of an import in an import
pub record IsUnder (q : Place) (y : Node) : Type 0 where
  pub function : q.node.kind ≡ kind.Function → is_statement q.node ≡ true → Holds y.kind
  pub class : q.node.kind ≡ kind.Class → is_statement q.node ≡ true → Holds y.kind
  pub import : q.node.kind ≡ kind.ImportDeclaration → Holds y.kind
  pub import_name : is_import_name q.node.kind ≡ true → y.kind ≡ kind.ImportDeclaration

abbrev pub UnderAt : Step → Type 0
UnderAt (entering q) = (y : Node) (path : List Node) → q.path ≡ y ∷ path → IsUnder q y
UnderAt (opening q o) = Unit {0}
UnderAt (header_ending q o) = Unit {0}
UnderAt (closing q o) = Unit {0}
UnderAt (leaving q) = Unit {0}

module _ (k : AstType) (r : Role) (k2 : AstType) (text : List ℕ) (table : closed_by_table k r k2 text ≡ true) (by_place : closed_by_place k r k2 text ≡ true) (quiet : is_quiet k r k2 text ≡ true) where
  holds_function : k2 ≡ kind.Function → is_statement_text text ≡ true → Holds k
  holds_function w t = elim (cases_Bool (is_loose k || is_bound k)) [
    | inl v ↦ v
    | inr v ↦ (let closed : is_closed k2 text ≡ true = child_closed k r k2 text table by_place (asks k r v) in
        let not_closed : not (same_kind k2 kind.Function && is_statement_text text) ≡ false = ap (λ j. not (same_kind j kind.Function && is_statement_text text)) w ∙ ap not t in
        absurd (never (sym (and_second (not (is_loose k2)) (not (same_kind k2 kind.Function && is_statement_text text)) closed) ∙ not_closed)))
  ]

  statements : (is_loose k || is_bound k) ≡ false → (not (is_class_statement k2 text) && not (same_kind k2 kind.ImportDeclaration)) ≡ true
  statements v = subst (λ b. (b || (not (is_class_statement k2 text) && not (same_kind k2 kind.ImportDeclaration))) ≡ true) v (and_first ((is_loose k || is_bound k) || (not (is_class_statement k2 text) && not (same_kind k2 kind.ImportDeclaration))) _ quiet)

  holds_class : k2 ≡ kind.Class → is_statement_text text ≡ true → Holds k
  holds_class w t = elim (cases_Bool (is_loose k || is_bound k)) [
    | inl v ↦ v
    | inr v ↦ absurd (never (sym (and_first (not (is_class_statement k2 text)) (not (same_kind k2 kind.ImportDeclaration)) (statements v)) ∙ ap (λ j. not (is_class_statement j text)) w ∙ ap not t))
  ]

  holds_import : k2 ≡ kind.ImportDeclaration → Holds k
  holds_import w = elim (cases_Bool (is_loose k || is_bound k)) [
    | inl v ↦ v
    | inr v ↦ absurd (never (sym (and_second (not (is_class_statement k2 text)) (not (same_kind k2 kind.ImportDeclaration)) (statements v)) ∙ ap (λ j. not (same_kind j kind.ImportDeclaration)) w))
  ]

  in_import : is_import_name k2 ≡ true → k ≡ kind.ImportDeclaration
  in_import w = kind_is k kind.ImportDeclaration (subst (λ b. (not b || same_kind k kind.ImportDeclaration) ≡ true) w (and_first (not (is_import_name k2) || same_kind k kind.ImportDeclaration) _ (and_second ((is_loose k || is_bound k) || (not (is_class_statement k2 text) && not (same_kind k2 kind.ImportDeclaration))) _ quiet)))

under_steps : (q : Place) (own : Option OpenScope) (n cursor : ℕ) (f : Forest) → holds_below closed_by_table q.node.kind f ≡ true → holds_below closed_by_place q.node.kind f ≡ true → holds_below is_quiet q.node.kind f ≡ true → EachStep UnderAt (steps_below q own n cursor f)
under_steps q own n cursor nothing a b d = last_case (EachStep UnderAt) q own n tt (tt, (tt, tt))
under_steps q own n cursor (tree r k2 span text marks below id after) a b d =
    let node : Node = record { kind = k2; span = span; text = text; marks = marks; children = below; node_id = id } in
    let turn : Turn = turn_at q own n cursor r node after in
    let tables : (holds_below closed_by_table k2 below && holds_below closed_by_table q.node.kind after) ≡ true = and_second (closed_by_table q.node.kind r k2 text) (holds_below closed_by_table k2 below && holds_below closed_by_table q.node.kind after) a in
    let places : (holds_below closed_by_place k2 below && holds_below closed_by_place q.node.kind after) ≡ true = and_second (closed_by_place q.node.kind r k2 text) (holds_below closed_by_place k2 below && holds_below closed_by_place q.node.kind after) b in
    let quiets : (holds_below is_quiet k2 below && holds_below is_quiet q.node.kind after) ≡ true = and_second (is_quiet q.node.kind r k2 text) (holds_below is_quiet k2 below && holds_below is_quiet q.node.kind after) d in
    let table : closed_by_table q.node.kind r k2 text ≡ true = and_first (closed_by_table q.node.kind r k2 text) (holds_below closed_by_table k2 below && holds_below closed_by_table q.node.kind after) a in
    let by_place : closed_by_place q.node.kind r k2 text ≡ true = and_first (closed_by_place q.node.kind r k2 text) (holds_below closed_by_place k2 below && holds_below closed_by_place q.node.kind after) b in
    let quiet : is_quiet q.node.kind r k2 text ≡ true = and_first (is_quiet q.node.kind r k2 text) (holds_below is_quiet k2 below && holds_below is_quiet q.node.kind after) d in
    let one : IsUnder turn.child q.node = record {
      function = λ w t. holds_function q.node.kind r k2 text table by_place quiet w t;
      class = λ w t. holds_class q.node.kind r k2 text table by_place quiet w t;
      import = λ w. holds_import q.node.kind r k2 text table by_place quiet w;
      import_name = λ w. in_import q.node.kind r k2 text table by_place quiet w;
    } in
    each_of_turn UnderAt turn (record {
      before = opening_case (EachStep UnderAt) q r own n tt (tt, tt);
      whole = each_of_node UnderAt turn.child turn.below (λ y path w. subst (IsUnder turn.child) (heads q.node y q.path path w) one)
          (under_steps turn.child None turn.next turn.inner below (and_first (holds_below closed_by_table k2 below) (holds_below closed_by_table q.node.kind after) tables) (and_first (holds_below closed_by_place k2 below) (holds_below closed_by_place q.node.kind after) places) (and_first (holds_below is_quiet k2 below) (holds_below is_quiet q.node.kind after) quiets)) tt;
      behind = ending_case (EachStep UnderAt) q r turn.scope after tt (λ s. (tt, tt)) (λ s. (tt, tt)) (λ s. (tt, (tt, tt)));
      others = under_steps q turn.scope turn.rest turn.past after (and_second (holds_below closed_by_table k2 below) (holds_below closed_by_table q.node.kind after) tables) (and_second (holds_below closed_by_place k2 below) (holds_below closed_by_place q.node.kind after) places) (and_second (holds_below is_quiet k2 below) (holds_below is_quiet q.node.kind after) quiets);
    })
  where
    heads : (x y : Node) (xs ys : List Node) → x ∷ xs ≡ y ∷ ys → x ≡ y
    heads x y xs ys w = cc

under_program : (p : Tree) → first_fault p ≡ None → EachStep UnderAt (steps p)
under_program p h =
    let root : Place = root_place p in
    let n : ℕ = on_entering p.root.kind 0 in
    each_of_node UnderAt root (steps_below root None 0 n p.root.children) (λ y path w. absurd (no_parent y path w)) (under_steps root None 0 n p.root.children (table_closes p h) (place_closes p h) (tree_quiet p h)) tt
  where
    no_parent : (y : Node) (path : List Node) → [] ≡ y ∷ path → ⊥
    no_parent y path w = absurd cc

-- ---- environments

-- the innermost is passed, or takes variables
innermost_no_class : (es : List Environment) → ((d : Environment) → Among d (passed es) → NoClass d) → NoClass (innermost es)
innermost_no_class [] f = refl
innermost_no_class (d ∷ es) f = elim (cases_Bool (takes_variables d)) [
  | inl t ↦ taking_no_class d t
  | inr t ↦ f d (subst (λ b. Among d (cond b [] (d ∷ passed es))) (sym t) (inl refl))
]

module _ (p : Tree) (h : first_fault p ≡ None) (e : is_ecmascript p ≡ true) (numbered : IsNumbered p.root) where
  module _ (q : Place) (entered : Among (entering q) (steps p)) where
    abbrev es : List Environment
    es = environments q.node q.path

    familiar : IsFamiliar (node_at p) q
    familiar = each_at (FamiliarAt (node_at p)) (steps p) (entering q) (familiar_program p h e numbered) entered

    loose : HoldsLoose q.node.kind q.path
    loose = each_at LooseAt (steps p) (entering q) (loose_program p h) entered

    under : (y : Node) (path : List Node) → q.path ≡ y ∷ path → IsUnder q y
    under = each_at UnderAt (steps p) (entering q) (under_program p h) entered

    -- under what holds statements
    held : (y : Node) (path : List Node) → q.path ≡ y ∷ path → Holds y.kind → NoClass (innermost es)
    held y path w k = subst (λ l. NoClass (innermost (environments q.node l))) (sym w)
        (innermost_no_class (environments q.node (y ∷ path)) (λ d a. under_no_class q.node y path k (subst (HoldsLoose q.node.kind) w loose).1 d a))

    by_parent : (q.path ≡ [] → ⊥) → ((y : Node) (path : List Node) → q.path ≡ y ∷ path → NoClass (innermost es)) → NoClass (innermost es)
    by_parent rooted f = go q.path refl
      where
        go : (l : List Node) → q.path ≡ l → NoClass (innermost es)
        go [] w = absurd (rooted w)
        go (y ∷ path) w = f y path w

    -- the name of an import is bound where the import stands
    imported : is_import_name q.node.kind ≡ true → (y : Node) (path : List Node) → q.path ≡ y ∷ path → NoClass (innermost es)
    imported w y path v = go path refl
      where
        declaration : y.kind ≡ kind.ImportDeclaration
        declaration = (under y path v).import_name w

        as_place : IsEnteredAs (steps p) y path
        as_place = (subst (AllEnteredAs (steps p)) v (each_at (AmidAt (steps p)) (steps p) (entering q) (amid_program p) entered).above).0

        outer : environments q.node q.path ≡ environments y path
        outer = ap (environments q.node) v ∙ ap (λ k. made_by k y q.node ++ environments y path) declaration

        no_program : kind.Program ≡ kind.ImportDeclaration → ⊥
        no_program i = absurd cc

        go : (l : List Node) → path ≡ l → NoClass (innermost es)
        go [] u = absurd (no_program (sym (subst (EndsAtProgram y) u (subst (EndsAtProgram q.node) v familiar.rooted)) ∙ declaration))
        go (z ∷ l) u =
            let above : IsUnder as_place.place z = each_at UnderAt (steps p) (entering as_place.place) (under_program p h) as_place.entered z l (as_place.above ∙ u) in
            let holds : Holds z.kind = above.import (ap (λ n. n.kind) as_place.node ∙ declaration) in
            let outer_loose : HoldsLoose y.kind (z ∷ l) = subst (HoldsLoose y.kind) u (subst (HoldsLoose q.node.kind) v loose).1 in
            subst (λ ds. NoClass (innermost ds)) (sym (outer ∙ ap (environments y) u)) (innermost_no_class (environments y (z ∷ l)) (λ d a. under_no_class y z l holds outer_loose.1 d a))

    -- ---- node by node

    module _ (b : Bound) (no_own : is_bound_as bound.OwnName b ≡ false) where
      of_here : NoClass (innermost es) → (w : BoundAs) (names : List Node) → Among b (map (bound_here w es) names) → NoClass b.environment
      of_here k w names a = let (n, i, j) = among_map (bound_here w es) names b a in subst (λ z. NoClass z.environment) j k

      kind_rooted : (k : AstType) → q.node.kind ≡ k → (k ≡ kind.Program → ⊥) → q.path ≡ [] → ⊥
      kind_rooted k w n v = n (sym w ∙ subst (EndsAtProgram q.node) v familiar.rooted)

      declarator : q.node.kind ≡ kind.VariableDeclarator → (path : List Node) → q.path ≡ path → Among b (bound_by_declarator q.node path) → NoClass b.environment
      declarator k [] w a = absurd a
      declarator k (y ∷ path) w a = go (is_with_text kind.VariableDeclaration (codes "var") y) a
        where
          fs : List Environment
          fs = environments q.node (y ∷ path)

          go : (t : Bool) → Among b (map (cond t (bound_outward (environments q.node (y ∷ path))) (bound_here bound.Lexical (environments q.node (y ∷ path)))) (bound_names q.node)) → NoClass b.environment
          go true i =
              let (n, j, v) = among_map (bound_outward (environments q.node (y ∷ path))) (bound_names q.node) b i in
              subst (λ z. NoClass z.environment) v (taking_no_class (variable_environment (environments q.node (y ∷ path))) (variables_taken q.node y path (subst (EndsAtProgram q.node) w familiar.rooted)))
          go false i =
              let (n, j, v) = among_map (bound_here bound.Lexical (environments q.node (y ∷ path))) (bound_names q.node) b i in
              subst (λ z. NoClass z.environment) v (innermost_no_class (environments q.node (y ∷ path)) (λ d c. passes_no_class q.node (y ∷ path) (subst (HoldsLoose q.node.kind) w loose) (ap is_loose k) d c))

      declaration_here : (n : Node) → (bound_by_declaration p.source_type q.node q.path n).environment ≡ innermost es
      declaration_here n = go (language.is_block_function p.source_type q.node q.path)
        where
          go : (t : Bool) → (cond t (bound_identifier bound.Function (innermost es) (variable_environment es ∷ []) (passed es) n) (bound_here bound.Function es n)).environment ≡ innermost es
          go true = refl
          go false = refl

      no_program_function : kind.Function ≡ kind.Program → ⊥
      no_program_function i = absurd cc

      no_program_class : kind.Class ≡ kind.Program → ⊥
      no_program_class i = absurd cc

      function : q.node.kind ≡ kind.Function → Among b (bound_by_function p.source_type q.node q.path) → NoClass b.environment
      function w a = go (is_statement q.node) refl a
        where
          go : (t : Bool) → is_statement q.node ≡ t → Among b (map (cond t (bound_by_declaration p.source_type q.node q.path) (bound_identifier bound.OwnName (record { kind = environment.OwnName; maker = q.node.node_id }) [] [])) (names_at role.Id q.node)) → NoClass b.environment
          go true st i =
              let (n, j, v) = among_map (bound_by_declaration p.source_type q.node q.path) (names_at role.Id q.node) b i in
              subst NoClass (sym (declaration_here n) ∙ ap (λ z. z.environment) v) (by_parent (kind_rooted kind.Function w no_program_function) (λ y path u. held y path u ((under y path u).function w st)))
          go false st i =
              let (n, j, v) = among_map (bound_identifier bound.OwnName (record { kind = environment.OwnName; maker = q.node.node_id }) [] []) (names_at role.Id q.node) b i in
              absurd (never (ap (is_bound_as bound.OwnName) v ∙ no_own))

      class : q.node.kind ≡ kind.Class → Among b (bound_by_class q.node q.path) → NoClass b.environment
      class w a = go (is_statement q.node) refl a
        where
          go : (t : Bool) → is_statement q.node ≡ t → Among b (map (cond t (bound_identifier bound.Lexical (innermost es) (record { kind = environment.Class; maker = q.node.node_id } ∷ []) []) (bound_identifier bound.OwnName (record { kind = environment.Class; maker = q.node.node_id }) [] [])) (names_at role.Id q.node)) → NoClass b.environment
          go true st i =
              let (n, j, v) = among_map (bound_identifier bound.Lexical (innermost es) (record { kind = environment.Class; maker = q.node.node_id } ∷ []) []) (names_at role.Id q.node) b i in
              subst (λ z. NoClass z.environment) v (by_parent (kind_rooted kind.Class w no_program_class) (λ y path u. held y path u ((under y path u).class w st)))
          go false st i =
              let (n, j, v) = among_map (bound_identifier bound.OwnName (record { kind = environment.Class; maker = q.node.node_id }) [] []) (names_at role.Id q.node) b i in
              absurd (never (ap (is_bound_as bound.OwnName) v ∙ no_own))

      parameter : is_parameter q.node.kind ≡ true → Among b (map (bound_here bound.Parameter es) (bound_names q.node)) → NoClass b.environment
      parameter w a = of_here (taking_no_class (innermost es) (parameter_takes q.node q.path w familiar.parents familiar.rooted)) bound.Parameter (bound_names q.node) a

      catch : q.node.kind ≡ kind.CatchParameter → Among b (bound_by_node kind.CatchParameter p.source_type q.node q.path) → NoClass b.environment
      catch w a =
          let c : IsInClause p h e numbered q = in_clause p h e numbered q entered w in
          ap (is_made_for environment.Class) (catch_environment p.source_type q.node q.path b a)
          ∙ ap (λ l. is_made_for environment.Class (innermost (environments q.node l))) c.under
          ∙ ap (λ k. is_made_for environment.Class (innermost (made_by k c.clause.node q.node ++ environments c.clause.node c.clause.path))) c.caught

      import : (k : AstType) → q.node.kind ≡ k → is_import_name k ≡ true → (k ≡ kind.Program → ⊥) → Among b (map (bound_here bound.Lexical es) (names_at role.Local q.node)) → NoClass b.environment
      import k w i n a = of_here (by_parent (kind_rooted k w n) (imported (ap is_import_name w ∙ i))) bound.Lexical (names_at role.Local q.node) a

      by_kind : (k : AstType) → q.node.kind ≡ k → Among b (bound_by_node k p.source_type q.node q.path) → NoClass b.environment
      by_kind kind.VariableDeclarator w a = declarator w q.path refl a
      by_kind kind.Function w a = function w a
      by_kind kind.Class w a = class w a
      by_kind kind.FormalParameter w a = parameter (ap is_parameter w) a
      by_kind kind.FormalParameterRest w a = parameter (ap is_parameter w) a
      by_kind kind.CatchParameter w a = catch w a
      by_kind kind.ImportSpecifier w a = import kind.ImportSpecifier w refl (λ i. absurd cc) a
      by_kind kind.ImportDefaultSpecifier w a = import kind.ImportDefaultSpecifier w refl (λ i. absurd cc) a
      by_kind kind.ImportNamespaceSpecifier w a = import kind.ImportNamespaceSpecifier w refl (λ i. absurd cc) a
      by_kind _ w a = absurd a

      pub no_class_environment : Among b (bound_by_node q.node.kind p.source_type q.node q.path) → is_made_for environment.Class b.environment ≡ false
      no_class_environment a = by_kind q.node.kind refl a
