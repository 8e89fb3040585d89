-- The names that a node binds are those under its one role; the parameter of a catch clause has one pattern, and an enum's member one id.
use Rattle.std.proofs.Common.{◌≡◌, List, [], ◌∷◌, ◌++◌, Bool, true, false, cond, ◌||◌, if◌then◌else◌, flat_map, length, refl, sym, ap, subst, ◌∙◌, arith}
use Rattle.std.proofs.lemmas.Bool.{eqb-true}
use Rattle.std.proofs.lemmas.List.{append-nil}
use Rattle.semantic_syntax.proofs.Truth.{and_first, and_second}
use Rattle.semantic_kinds.specs.Kinds.{same_kind}
use Rattle.semantic_kinds.specs.Roles.{same_role}
use Rattle.semantic_kinds.specs.Parts.{parts}
use Rattle.semantic_kinds.specs.declared.kind.AstType.{AstType}
use Rattle.semantic_kinds.specs.declared.kind.AstType.TheVariants as kind
use Rattle.semantic_kinds.specs.declared.class.Class.TheVariants as class
use Rattle.semantic_kinds.specs.declared.part.Count.TheVariants as count
use Rattle.semantic_kinds.specs.declared.part.Part.{Part}
use Rattle.semantic_kinds.specs.declared.role.Role.{Role}
use Rattle.semantic_kinds.specs.declared.role.Role.TheVariants as role
use Rattle.semantic_tree.specs.Forest.{Forest, nothing, tree}
use Rattle.semantic_tree.specs.Nodes.{nodes_in}
use Rattle.semantic_tree.specs.Fit.{allows, fit, Fit, AreInRole}
use Rattle.semantic_tree.specs.declared.node.Node.{Node}
use Rattle.semantic_tree.proofs.FitLaws.{fit-Fit}
use Rattle.semantic_tree.specs.Views.{is, is_role_of, children_of}
use Rattle.semantic_model.specs.Names.{binding_roles, bound_below, bound_names, names_at}
use Rattle.semantic_model.proofs.form.Clauses.{role_is}

-- below a node of a kind whose names stand under one role
bound_in_role : (k : AstType) (r : Role) (f : Forest) → binding_roles k ≡ r ∷ [] → bound_below k f ≡ flat_map bound_names (children_of r f)
bound_in_role k r nothing e = refl
bound_in_role k r (tree q inner span text marks below id after) e =
    let node : Node = record { kind = inner; span = span; text = text; marks = marks; children = below; node_id = id } in
    (λ i. cond (is_role_of q (e i)) (bound_names node) [] ++ bound_in_role k r after e i) ∙ by node (same_role q r)
  where
    by : (node : Node) (b : Bool) → cond (b || false) (bound_names node) [] ++ flat_map bound_names (children_of r after) ≡ flat_map bound_names (if b then node ∷ children_of r after else children_of r after)
    by node true = refl
    by node false = refl

-- the names of such a node
pub bound_is : (node : Node) (k : AstType) (r : Role) → node.kind ≡ k → same_kind k kind.BindingIdentifier ≡ false → binding_roles k ≡ r ∷ [] → bound_names node ≡ names_at r node
bound_is node k r e other roles =
    (λ i. cond (same_kind (e i) kind.BindingIdentifier) (node ∷ []) (bound_below (e i) node.children))
    ∙ (λ i. cond (other i) (node ∷ []) (bound_below k node.children))
    ∙ bound_in_role k r node.children roles

-- no more than one
abbrev pub AtMostOne : List Node → Type 0
AtMostOne [] = Unit {0}
AtMostOne (x ∷ []) = Unit {0}
AtMostOne (x ∷ y ∷ more) = ⊥

none_in : (r q : Role) (cs : List (Role × Node)) → AreInRole q cs → same_role q r ≡ false → nodes_in r cs ≡ []
none_in r q [] h e = refl
none_in r q (c ∷ cs) h e =
    let own : c.0 ≡ q = role_is c.0 q (and_first (same_role c.0 q) _ h) in
    (λ i. if same_role (own i) r then c.1 ∷ nodes_in r cs else nodes_in r cs)
    ∙ (λ i. if e i then c.1 ∷ nodes_in r cs else nodes_in r cs)
    ∙ none_in r q cs (and_second (same_role c.0 q) _ h) e

-- of one child in whatever role
one_in : (r : Role) (cs rest : List (Role × Node)) → length cs ≡ 1 → nodes_in r rest ≡ [] → AtMostOne (nodes_in r (cs ++ rest))
one_in r [] rest l e = absurd (omega (arith, l))
one_in r (c ∷ []) rest l e = by (same_role c.0 r)
  where
    by : (b : Bool) → AtMostOne (if b then c.1 ∷ nodes_in r rest else nodes_in r rest)
    by true = subst (λ ns. AtMostOne (c.1 ∷ ns)) (sym e) tt
    by false = subst AtMostOne (sym e) tt
one_in r (c ∷ d ∷ more) rest l e = absurd (omega (arith, l))

-- of two parts the first of which has one child
one_of_two : (p q : Part) (cs : List (Role × Node)) → p.count ≡ count.One → same_role q.role p.role ≡ false → fit (p ∷ q ∷ []) cs ≡ true → AtMostOne (nodes_in p.role cs)
one_of_two p q cs once apart h = by (fit-Fit (p ∷ q ∷ []) cs h)
  where
    by : Fit (p ∷ q ∷ []) cs → AtMostOne (nodes_in p.role cs)
    by (own, rest, is, in_role, run, (more, end, is_more, in_second, fits, last)) =
        let all : rest ≡ more = is_more ∙ ap (λ l. more ++ l) last ∙ append-nil more in
        let none : nodes_in p.role rest ≡ [] = ap (nodes_in p.role) all ∙ none_in p.role q.role more in_second apart in
        let allowed : allows p.count (length own) ≡ true = and_first (allows p.count (length own)) _ run in
        let one : length own ≡ 1 = eqb-true (length own) 1 (subst (λ many. allows many (length own) ≡ true) once allowed) in
        subst (λ l. AtMostOne (nodes_in p.role l)) (sym is) (one_in p.role own rest one none)

-- the parameter of a catch clause has one pattern
pub one_pattern : (cs : List (Role × Node)) → fit (parts kind.CatchParameter) cs ≡ true → AtMostOne (nodes_in role.Pattern cs)
one_pattern cs h = one_of_two (record { role = role.Pattern; count = count.One; class = class.Pattern }) (record { role = role.Annotation; count = count.AtMostOne; class = class.Only kind.TSTypeAnnotation }) cs refl refl h

-- an enum's member has one id
pub one_id : (cs : List (Role × Node)) → fit (parts kind.TSEnumMember) cs ≡ true → AtMostOne (nodes_in role.Id cs)
one_id cs h = one_of_two (record { role = role.Id; count = count.One; class = class.EnumMemberName }) (record { role = role.Initializer; count = count.AtMostOne; class = class.Expression }) cs refl refl h
