-- What stands in the header of a catch clause, in its own scope, declares nothing but by the clause's parameter.
use Rattle.std.proofs.Common.{◌≡◌, ℕ, List, [], ◌∷◌, Option, Some, None, Bool, true, false, ◌&&◌, ◌||◌, not, if◌then◌else◌, inl, inr, refl, sym, ap, subst, ◌∙◌, bytes_eq, codes}
use Rattle.std.specs.List.{list_all}
use denote.Enum.Bare.{true_same}
use Rattle.std.proofs.lemmas.Bool.{cases_Bool, and_from, not-true}
use Rattle.semantic_syntax.proofs.Truth.{and_first, and_second}
use Rattle.semantic_kinds.specs.Classes.{is_of, holds_kind}
use Rattle.semantic_kinds.specs.Kinds.{same_kind}
use Rattle.semantic_kinds.specs.Parts.{parts}
use Rattle.semantic_kinds.specs.Roles.{same_role}
use Rattle.semantic_kinds.specs.contracts.role.Role.{the_type as the_roles}
use Rattle.semantic_kinds.specs.declared.class.Class.{Class}
use Rattle.semantic_kinds.specs.declared.class.Class.TheVariants as class
use Rattle.semantic_kinds.specs.declared.kind.AstType.{AstType}
use Rattle.semantic_kinds.specs.declared.kind.AstType.TheVariants as kind
use Rattle.semantic_kinds.specs.declared.part.Part.{Part}
use Rattle.semantic_kinds.specs.declared.role.Role.{Role}
use Rattle.semantic_tree.specs.Faults.{first_fault}
use Rattle.semantic_tree.specs.Forest.{Forest, nothing, tree}
use Rattle.semantic_tree.specs.Nodes.{trees, nodes_in}
use Rattle.semantic_tree.specs.Tree.{Tree, IsNumbered}
use Rattle.semantic_tree.specs.declared.node.Node.{Node}
use Rattle.semantic_model.specs.Cursor.{on_entering}
use Rattle.semantic_model.specs.EachStep.{EachStep}
use Rattle.semantic_model.specs.Entries.{Among}
use Rattle.semantic_model.specs.Inside.{is_inside, is_in_header}
use Rattle.semantic_model.specs.Place.{Place, OpenScope, innermost}
use Rattle.semantic_model.specs.Step.{Step, entering, opening, header_ending, closing, leaving, steps_below, steps, root_place}
use Rattle.semantic_model.proofs.form.Clauses.{kind_is}
use Rattle.semantic_model.proofs.form.ParameterChains.{is_open_inside}
use Rattle.semantic_model.proofs.form.PartsHold.{passed_hold}
use Rattle.semantic_model.proofs.once.ListedUnder.{name_tells}
use Rattle.semantic_model.proofs.steps.EachStep.{EachOfTurn, each_left, each_of_node, each_of_turn, turn_of_each}
use Rattle.semantic_model.proofs.steps.Turn.{Turn, turn_at}
use Rattle.semantic_model.proofs.steps.TurnCases.{opening_case, ending_case, last_case}
use Rattle.walk_model.proofs.headers.Headed.{bound_inside}
use Rattle.walk_model.proofs.headers.NoStatements.{is_loose, is_statement_text, is_closed, is_bound, asks_closed, closed_by_table, closed_by_place, table_closes, place_closes, child_closed}
use Rattle.walk_model.proofs.places.Shapes.{holds_below, tree_holds, only_is}
use Rattle.binding_laws.proofs.ChildChains.{ChainOf, outer_chain, inner_chain, OwnOf, own_of, no_decorator, chain_of}
use Rattle.binding_laws.proofs.SmallLaws.{never, some_is}
use Rattle.language_ties.specs.EcmaScript.{is_ecmascript}
use Rattle.language_ties.proofs.agree.FamiliarPlaces.{IsFamiliar, FamiliarAt, familiar_program}
use Rattle.language_ties.proofs.agree.KnownNodes.{node_at}

-- ---- the shape

abbrev pub is_import_name : AstType → Bool
is_import_name k = holds_kind (kind.ImportSpecifier ∷ kind.ImportDefaultSpecifier ∷ kind.ImportNamespaceSpecifier ∷ []) k

abbrev pub is_class_statement : AstType → List ℕ → Bool
is_class_statement k text = same_kind k kind.Class && is_statement_text text

-- classes as statements, and imports, stand where statements do; names of imports in imports; and in the header of a clause its parameter
abbrev pub is_quiet : AstType → Role → AstType → List ℕ → Bool
is_quiet k r k2 text =
    ((is_loose k || is_bound k) || (not (is_class_statement k2 text) && not (same_kind k2 kind.ImportDeclaration)))
    && ((not (is_import_name k2) || same_kind k kind.ImportDeclaration) && (not (same_kind k kind.CatchClause && is_in_header k r) || same_kind k2 kind.CatchParameter))

only_parameter : Class → Bool
only_parameter (class.Only k) = same_kind k kind.CatchParameter
only_parameter _ = false

no_imports : Class → List ℕ → Bool
no_imports c text = not (is_of c kind.ImportSpecifier text) && (not (is_of c kind.ImportDefaultSpecifier text) && not (is_of c kind.ImportNamespaceSpecifier text))

no_statements : Class → List ℕ → Bool
no_statements c text = (not (is_of c kind.Class (codes "declaration")) && not (is_of c kind.Class (codes "ts-declare"))) && not (is_of c kind.ImportDeclaration text)

quiet_part : AstType → List ℕ → Part → Bool
quiet_part k text part =
    ((is_loose k || is_bound k) || no_statements part.class text)
    && ((no_imports part.class text || same_kind k kind.ImportDeclaration) && (not (same_kind k kind.CatchClause && is_in_header k part.role) || only_parameter part.class))

all_quiet : (k : AstType) (text : List ℕ) → list_all (quiet_part k text) (parts k) ≡ true
unfolding quiet_part no_statements no_imports only_parameter
all_quiet kind.Program text = refl
all_quiet _ text = refl

is_parameter_kind : (c : Class) (k2 : AstType) (text : List ℕ) → only_parameter c ≡ true → is_of c k2 text ≡ true → same_kind k2 kind.CatchParameter ≡ true
unfolding only_parameter
is_parameter_kind (class.Only k) k2 text h i = subst (λ j. same_kind k2 j ≡ true) (kind_is k kind.CatchParameter h) (sym (only_is k k2 text) ∙ i)
is_parameter_kind _ k2 text h i = absurd (never (sym h))

-- what isn't of the class is no such kind
not_of : (c : Class) (k k2 : AstType) (text : List ℕ) → not (is_of c k text) ≡ true → is_of c k2 text ≡ true → same_kind k2 k ≡ false
not_of c k k2 text h i = elim (cases_Bool (same_kind k2 k)) [
  | inr q ↦ q
  | inl q ↦ absurd (never (sym (subst (λ j. is_of c j text ≡ true) (kind_is k2 k q) i) ∙ not-true (is_of c k text) h))
]

text_is : (a b : List ℕ) → bytes_eq a b ≡ true → a ≡ b
text_is a b h = elim (name_tells a b) [ inl k ↦ k.1 | inr k ↦ absurd (never (sym h ∙ k.0)) ]

no_class : (c : Class) (k2 : AstType) (text : List ℕ) → (not (is_of c kind.Class (codes "declaration")) && not (is_of c kind.Class (codes "ts-declare"))) ≡ true → is_of c k2 text ≡ true → not (is_class_statement k2 text) ≡ true
no_class c k2 text h i = go (same_kind k2 kind.Class) (bytes_eq text (codes "declaration")) (bytes_eq text (codes "ts-declare")) refl refl refl
  where
    first : not (is_of c kind.Class (codes "declaration")) ≡ true
    first = and_first (not (is_of c kind.Class (codes "declaration"))) (not (is_of c kind.Class (codes "ts-declare"))) h

    second : not (is_of c kind.Class (codes "ts-declare")) ≡ true
    second = and_second (not (is_of c kind.Class (codes "declaration"))) (not (is_of c kind.Class (codes "ts-declare"))) h

    as_class : same_kind k2 kind.Class ≡ true → is_of c kind.Class text ≡ true
    as_class w = subst (λ j. is_of c j text ≡ true) (kind_is k2 kind.Class w) i

    go : (a b d : Bool) → same_kind k2 kind.Class ≡ a → bytes_eq text (codes "declaration") ≡ b → bytes_eq text (codes "ts-declare") ≡ d → not (a && (b || d)) ≡ true
    go false b d w u v = refl
    go true false false w u v = refl
    go true true d w u v = absurd (never (sym (subst (λ t. is_of c kind.Class t ≡ true) (text_is text (codes "declaration") u) (as_class w)) ∙ not-true (is_of c kind.Class (codes "declaration")) first))
    go true false true w u v = absurd (never (sym (subst (λ t. is_of c kind.Class t ≡ true) (text_is text (codes "ts-declare") v) (as_class w)) ∙ not-true (is_of c kind.Class (codes "ts-declare")) second))

part_quiet : (k : AstType) (part : Part) (k2 : AstType) (text : List ℕ) → quiet_part k text part ≡ true → is_of part.class k2 text ≡ true → is_quiet k part.role k2 text ≡ true
unfolding quiet_part no_statements no_imports
part_quiet k part k2 text h i =
    and_from ((is_loose k || is_bound k) || (not (is_class_statement k2 text) && not (same_kind k2 kind.ImportDeclaration))) _
    (statements (is_loose k || is_bound k) (and_first ((is_loose k || is_bound k) || no_statements part.class text) _ h))
    (and_from (not (is_import_name k2) || same_kind k kind.ImportDeclaration) _
    (imports (same_kind k kind.ImportDeclaration) (and_first (no_imports part.class text || same_kind k kind.ImportDeclaration) _ rest))
    (parameters (same_kind k kind.CatchClause && is_in_header k part.role) (only_parameter part.class) refl (and_second (no_imports part.class text || same_kind k kind.ImportDeclaration) (not (same_kind k kind.CatchClause && is_in_header k part.role) || only_parameter part.class) rest)))
  where
    rest : ((no_imports part.class text || same_kind k kind.ImportDeclaration) && (not (same_kind k kind.CatchClause && is_in_header k part.role) || only_parameter part.class)) ≡ true
    rest = and_second ((is_loose k || is_bound k) || no_statements part.class text) _ h

    statements : (a : Bool) → (a || no_statements part.class text) ≡ true → (a || (not (is_class_statement k2 text) && not (same_kind k2 kind.ImportDeclaration))) ≡ true
    statements true w = refl
    statements false w =
        and_from (not (is_class_statement k2 text)) (not (same_kind k2 kind.ImportDeclaration))
        (no_class part.class k2 text (and_first (not (is_of part.class kind.Class (codes "declaration")) && not (is_of part.class kind.Class (codes "ts-declare"))) (not (is_of part.class kind.ImportDeclaration text)) w) i)
        (ap not (not_of part.class kind.ImportDeclaration k2 text (and_second (not (is_of part.class kind.Class (codes "declaration")) && not (is_of part.class kind.Class (codes "ts-declare"))) (not (is_of part.class kind.ImportDeclaration text)) w) i))

    flipped : (a b : AstType) → same_kind b a ≡ false → same_kind a b ≡ false
    flipped a b w = elim (cases_Bool (same_kind a b)) [
      | inr q ↦ q
      | inl q ↦ (let same : a ≡ b = kind_is a b q in absurd (never (sym (subst (λ j. same_kind j a ≡ true) same (subst (λ j. same_kind a j ≡ true) (sym same) q)) ∙ w)))
    ]

    none : no_imports part.class text ≡ true → is_import_name k2 ≡ false
    none w =
        let more : (not (is_of part.class kind.ImportDefaultSpecifier text) && not (is_of part.class kind.ImportNamespaceSpecifier text)) ≡ true = and_second (not (is_of part.class kind.ImportSpecifier text)) _ w in
        let a : same_kind kind.ImportSpecifier k2 ≡ false = flipped kind.ImportSpecifier k2 (not_of part.class kind.ImportSpecifier k2 text (and_first (not (is_of part.class kind.ImportSpecifier text)) _ w) i) in
        let b : same_kind kind.ImportDefaultSpecifier k2 ≡ false = flipped kind.ImportDefaultSpecifier k2 (not_of part.class kind.ImportDefaultSpecifier k2 text (and_first (not (is_of part.class kind.ImportDefaultSpecifier text)) _ more) i) in
        let c : same_kind kind.ImportNamespaceSpecifier k2 ≡ false = flipped kind.ImportNamespaceSpecifier k2 (not_of part.class kind.ImportNamespaceSpecifier k2 text (and_second (not (is_of part.class kind.ImportDefaultSpecifier text)) (not (is_of part.class kind.ImportNamespaceSpecifier text)) more) i) in
        rw (a, b, c) refl

    imports : (b : Bool) → (no_imports part.class text || b) ≡ true → (not (is_import_name k2) || b) ≡ true
    imports b w = go (no_imports part.class text) refl w
      where
        go : (a : Bool) → no_imports part.class text ≡ a → (a || b) ≡ true → (not (is_import_name k2) || b) ≡ true
        go true u v = ap (λ t. not t || b) (none u)
        go false u v = or_second (not (is_import_name k2)) b v
          where
            or_second : (x y : Bool) → y ≡ true → (x || y) ≡ true
            or_second true y z = refl
            or_second false y z = z

    parameters : (a b : Bool) → only_parameter part.class ≡ b → (not a || b) ≡ true → (not a || same_kind k2 kind.CatchParameter) ≡ true
    parameters false b u v = refl
    parameters true true u v = is_parameter_kind part.class k2 text u i
    parameters true false u v = absurd (never (sym v))

pub tree_quiet : (p : Tree) → first_fault p ≡ None → holds_below is_quiet p.root.kind p.root.children ≡ true
tree_quiet p h = tree_holds is_quiet (λ k. passed_hold is_quiet (quiet_part k) k (part_quiet k) (parts k) (all_quiet k)) p h

-- ---- places

-- a node that is no statement and declares nothing by itself but as the parameter of a clause
pub record IsCalm (x : Node) : Type 0 where
  pub closed : is_closed x.kind x.text ≡ true
  pub no_class_statement : is_class_statement x.kind x.text ≡ false
  pub no_import : same_kind x.kind kind.ImportDeclaration ≡ false
  pub no_import_name : is_import_name x.kind ≡ false

same_itself : (r : Role) → same_role r r ≡ true
same_itself r = true_same the_roles r r refl

module _ (g : ℕ → Option Node) where
  abbrev pub IsCalmHere : Place → OpenScope → Type 0
  IsCalmHere q s = (y : Node) → g s.opener ≡ Some y → y.kind ≡ kind.CatchClause → s.in_header ≡ true → IsCalm q.node

  -- the place's node is a child of the node above it
  abbrev pub IsChild : Place → List Node → Type 0
  IsChild q [] = Unit {0}
  IsChild q (x ∷ path) = Among q.node (nodes_in q.role (trees x.children))

  pub record IsQuietPlace (q : Place) : Type 0 where
    pub calm : IsCalmHere q (innermost q.chain)
    pub child : IsChild q q.path

  abbrev pub QuietAt : Step → Type 0
  QuietAt (entering q) = IsQuietPlace q
  QuietAt (opening q o) = Unit {0}
  QuietAt (header_ending q o) = Unit {0}
  QuietAt (closing q o) = Unit {0}
  QuietAt (leaving q) = Unit {0}

  module _ (q c : Place) (before : IsQuietPlace q) (found : g q.node.node_id ≡ Some q.node) (quiet : is_quiet q.node.kind c.role c.node.kind c.node.text ≡ true) (table : closed_by_table q.node.kind c.role c.node.kind c.node.text ≡ true) (by_place : closed_by_place q.node.kind c.role c.node.kind c.node.text ≡ true) where
    abbrev a_statement : Bool
    a_statement = not (is_class_statement c.node.kind c.node.text) && not (same_kind c.node.kind kind.ImportDeclaration)

    more : ((not (is_import_name c.node.kind) || same_kind q.node.kind kind.ImportDeclaration) && (not (same_kind q.node.kind kind.CatchClause && is_in_header q.node.kind c.role) || same_kind c.node.kind kind.CatchParameter)) ≡ true
    more = and_second ((is_loose q.node.kind || is_bound q.node.kind) || a_statement) _ quiet

    -- the parameter of a clause
    parameter_calm : c.node.kind ≡ kind.CatchParameter → IsCalm c.node
    parameter_calm w = record {
      closed = ap (λ k. is_closed k c.node.text) w;
      no_class_statement = ap (λ k. is_class_statement k c.node.text) w;
      no_import = ap (λ k. same_kind k kind.ImportDeclaration) w;
      no_import_name = ap is_import_name w;
    }

    -- what a calm node holds in the same scope
    inner_calm : IsCalm q.node → is_inside q.node.kind c.role ≡ false → IsCalm c.node
    inner_calm k i =
        let no_loose : is_loose q.node.kind ≡ false = not-true (is_loose q.node.kind) (and_first (not (is_loose q.node.kind)) _ k.closed) in
        let no_bound : is_bound q.node.kind ≡ false = elim (cases_Bool (is_bound q.node.kind)) [ inr w ↦ w | inl w ↦ absurd (never (sym (bound_inside q.node.kind c.role w) ∙ i)) ] in
        let statements : a_statement ≡ true = subst (λ t. (t || a_statement) ≡ true) (ap (λ t. t || is_bound q.node.kind) no_loose ∙ no_bound) (and_first ((is_loose q.node.kind || is_bound q.node.kind) || a_statement) _ quiet) in
        let asks : asks_closed q.node.kind c.role ≡ true = rw (no_loose, no_bound) refl in
        let names : (not (is_import_name c.node.kind) || same_kind q.node.kind kind.ImportDeclaration) ≡ true = and_first (not (is_import_name c.node.kind) || same_kind q.node.kind kind.ImportDeclaration) _ more in
        record {
          closed = child_closed q.node.kind c.role c.node.kind c.node.text table by_place asks;
          no_class_statement = not-true (is_class_statement c.node.kind c.node.text) (and_first (not (is_class_statement c.node.kind c.node.text)) _ statements);
          no_import = not-true (same_kind c.node.kind kind.ImportDeclaration) (and_second (not (is_class_statement c.node.kind c.node.text)) (not (same_kind c.node.kind kind.ImportDeclaration)) statements);
          no_import_name = by_names (is_import_name c.node.kind) (subst (λ t. (not (is_import_name c.node.kind) || t) ≡ true) k.no_import names);
        }
      where
        by_names : (b : Bool) → (not b || false) ≡ true → b ≡ false
        by_names false w = refl
        by_names true w = absurd (never (sym w))

    child_calm : (chain : List OpenScope) → ChainOf q.node.kind c.role q.node q.chain chain → IsCalmHere c (innermost chain)
    child_calm _ (outer_chain i) = λ y f w v. inner_calm (before.calm y f w v) i
    child_calm _ (inner_chain s i o j _) = λ y f w v.
        let clause : q.node.kind ≡ kind.CatchClause = ap (λ z. z.kind) (sym (some_is y q.node (sym f ∙ ap g o ∙ found))) ∙ w in
        let both : (same_kind q.node.kind kind.CatchClause && is_in_header q.node.kind c.role) ≡ true = and_from (same_kind q.node.kind kind.CatchClause) (is_in_header q.node.kind c.role) (ap (λ k. same_kind k kind.CatchClause) clause) (sym j ∙ v) in
        parameter_calm (kind_is c.node.kind kind.CatchParameter (subst (λ t. (not t || same_kind c.node.kind kind.CatchParameter) ≡ true) both (and_second (not (is_import_name c.node.kind) || same_kind q.node.kind kind.ImportDeclaration) (not (same_kind q.node.kind kind.CatchClause && is_in_header q.node.kind c.role) || same_kind c.node.kind kind.CatchParameter) more)))

  in_role : (r : Role) (x : Node) (cs : List (Role × Node)) → Among (r, x) cs → Among x (nodes_in r cs)
  in_role r x [] a = absurd a
  in_role r x (c ∷ cs) a = go (same_role c.0 r) refl a (in_role r x cs)
    where
      go : (b : Bool) → same_role c.0 r ≡ b → Among (r, x) (c ∷ cs) → (Among (r, x) cs → Among x (nodes_in r cs)) → Among x (if b then c.1 ∷ nodes_in r cs else nodes_in r cs)
      go true w (inl e) later = inl (ap (λ d. d.1) e)
      go true w (inr i) later = inr (later i)
      go false w (inl e) later = absurd (never (sym (same_itself r) ∙ sym (ap (λ d. same_role d.0 r) e) ∙ w))
      go false w (inr i) later = later i

  quiet_steps : (q : Place) (own : Option OpenScope) (n cursor : ℕ) (f : Forest) → IsQuietPlace q → IsFamiliar g q → OwnOf q own → ((c : Role × Node) → Among c (trees f) → Among c (trees q.node.children)) → holds_below is_quiet q.node.kind f ≡ true → holds_below closed_by_table q.node.kind f ≡ true → holds_below closed_by_place q.node.kind f ≡ true
      → EachStep (FamiliarAt g) (steps_below q own n cursor f) → EachStep QuietAt (steps_below q own n cursor f)
  quiet_steps q own n cursor nothing k familiar o i a b d s = last_case (EachStep QuietAt) q own n tt (tt, (tt, tt))
  quiet_steps q own n cursor (tree r k2 span text marks below id after) k familiar o i a b d s =
      let node : Node = record { kind = k2; span = span; text = text; marks = marks; children = below; node_id = id } in
      let turn : Turn = turn_at q own n cursor r node after in
      let sees : EachOfTurn (FamiliarAt g) turn = turn_of_each (FamiliarAt g) turn s in
      let child_familiar : IsFamiliar g turn.child = sees.whole.0 in
      let quiets : (holds_below is_quiet k2 below && holds_below is_quiet q.node.kind after) ≡ true = and_second (is_quiet q.node.kind r k2 text) (holds_below is_quiet k2 below && holds_below is_quiet q.node.kind after) a in
      let tables : (holds_below closed_by_table k2 below && holds_below closed_by_table q.node.kind after) ≡ true = and_second (closed_by_table q.node.kind r k2 text) (holds_below closed_by_table k2 below && holds_below closed_by_table q.node.kind after) b in
      let places : (holds_below closed_by_place k2 below && holds_below closed_by_place q.node.kind after) ≡ true = and_second (closed_by_place q.node.kind r k2 text) (holds_below closed_by_place k2 below && holds_below closed_by_place q.node.kind after) d in
      let o_scope : OwnOf q turn.scope = own_of q r own n o in
      let chain : ChainOf q.node.kind r q.node q.chain turn.child.chain = chain_of q r turn.scope cursor node (no_decorator q.node.kind r child_familiar.undecorated) (is_open_inside q r own n) o_scope in
      let child : IsQuietPlace turn.child = record {
        calm = child_calm q turn.child k familiar.node (and_first (is_quiet q.node.kind r k2 text) (holds_below is_quiet k2 below && holds_below is_quiet q.node.kind after) a) (and_first (closed_by_table q.node.kind r k2 text) (holds_below closed_by_table k2 below && holds_below closed_by_table q.node.kind after) b)
            (and_first (closed_by_place q.node.kind r k2 text) (holds_below closed_by_place k2 below && holds_below closed_by_place q.node.kind after) d) turn.child.chain chain;
        child = in_role r node (trees q.node.children) (i (r, node) (inl refl));
      } in
      each_of_turn QuietAt turn (record {
        before = opening_case (EachStep QuietAt) q r own n tt (tt, tt);
        whole = each_of_node QuietAt turn.child turn.below child
            (quiet_steps turn.child None turn.next turn.inner below child child_familiar tt (λ c z. z) (and_first (holds_below is_quiet k2 below) (holds_below is_quiet q.node.kind after) quiets) (and_first (holds_below closed_by_table k2 below) (holds_below closed_by_table q.node.kind after) tables)
            (and_first (holds_below closed_by_place k2 below) (holds_below closed_by_place q.node.kind after) places) (each_left (FamiliarAt g) turn.below (leaving turn.child ∷ []) sees.whole.1)) tt;
        behind = ending_case (EachStep QuietAt) q r turn.scope after tt (λ z. (tt, tt)) (λ z. (tt, tt)) (λ z. (tt, (tt, tt)));
        others = quiet_steps q turn.scope turn.rest turn.past after k familiar o_scope (λ c z. i c (inr z)) (and_second (holds_below is_quiet k2 below) (holds_below is_quiet q.node.kind after) quiets) (and_second (holds_below closed_by_table k2 below) (holds_below closed_by_table q.node.kind after) tables)
            (and_second (holds_below closed_by_place k2 below) (holds_below closed_by_place q.node.kind after) places) sees.others;
      })

pub quiet_program : (p : Tree) → first_fault p ≡ None → is_ecmascript p ≡ true → IsNumbered p.root → EachStep (QuietAt (node_at p)) (steps p)
quiet_program p h e numbered =
    let root : Place = root_place p in
    let n : ℕ = on_entering p.root.kind 0 in
    let below : List Step = steps_below root None 0 n p.root.children in
    let familiar : EachStep (FamiliarAt (node_at p)) (steps p) = familiar_program p h e numbered in
    let one : IsQuietPlace (node_at p) root = record { calm = λ y f w v. absurd (never (sym v)); child = tt } in
    each_of_node (QuietAt (node_at p)) root below one
    (quiet_steps (node_at p) root None 0 n p.root.children one familiar.0 tt (λ c z. z) (tree_quiet p h) (table_closes p h) (place_closes p h) (each_left (FamiliarAt (node_at p)) below (leaving root ∷ []) familiar.1)) tt
