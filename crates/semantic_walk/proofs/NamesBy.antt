-- The names of a node are no more than it declares at its place, and no more than the nodes from it down.
use Rattle.std.proofs.Common.{◌≡◌, ℕ, ◌+◌, ◌≤◌, List, [], ◌∷◌, Bool, true, false, cond, length, map, flat_map, refl, ap, arith}
use Rattle.std.specs.Prelude.{filter, if◌then◌else◌}
use Rattle.std.proofs.lemmas.List.{length-append, length-map}
use Rattle.semantic_kinds.specs.Kinds.{same_kind}
use Rattle.semantic_kinds.specs.Roles.{same_role}
use Rattle.semantic_kinds.specs.Classes.{holds_kind}
use Rattle.semantic_kinds.specs.declared.kind.AstType.{AstType}
use Rattle.semantic_kinds.specs.declared.kind.AstType.TheVariants as kind
use Rattle.semantic_kinds.specs.declared.mark.Mark.TheVariants as mark
use Rattle.semantic_kinds.specs.declared.role.Role.{Role}
use Rattle.semantic_kinds.specs.declared.role.Role.TheVariants as role
use Rattle.semantic_syntax.specs.declared.symbol_flags.TheConstants.SymbolFlags as symbol
use Rattle.semantic_syntax.specs.Sets.{union}
use Rattle.semantic_tree.specs.Forest.{Forest, nothing, tree, count}
use Rattle.semantic_tree.specs.Children.{node_count}
use Rattle.semantic_tree.specs.declared.node.Node.{Node}
use Rattle.semantic_tree.specs.Views.{is, has, is_role_of, children_of}
use Rattle.semantic_model.specs.Names.{binding_roles, bound_below, bound_names, names_at}
use Rattle.semantic_model.specs.Namespace.{InstanceState, non_instantiated, const_enum_only, instantiated, instance_state, nodes_around}
use Rattle.semantic_model.specs.Place.{Place, OpenScope, parent_holds}
use Rattle.semantic_model.specs.Declaration.{Declaration, plain, here}
use Rattle.semantic_model.specs.Binder as binder
use Rattle.semantic_model.specs.Binder.{declare_here, ids, is_statement, variables_under, parameters_under, catch_names, enums, member_names, named_member, member_named, namespace_row, declared_by, declared_inside}
use Rattle.semantic_walk.specs.Binds.{is_bound_inside}
use Rattle.semantic_walk.specs.Ids.{under, names_by}
use Rattle.semantic_walk.proofs.Opening.{alone}
use Rattle.semantic_walk.proofs.PlaceDeclares.{own_names, not_inside, stated, unstated, mapped_inside}

-- of what is above no more than the parent is asked for

under_alone : (above names : List Node) → under (alone above) names ≡ under above names
under_alone [] names = refl
under_alone (x ∷ above) names = refl

rest_alone : (above names : List Node) → cond (parent_holds (is kind.FormalParameters) (alone above)) names [] ≡ cond (parent_holds (is kind.FormalParameters) above) names []
rest_alone [] names = refl
rest_alone (x ∷ above) names = refl

pub names_alone : (k : AstType) (above : List Node) (node : Node) → names_by k (alone above) node ≡ names_by k above node
names_alone kind.VariableDeclarator above node = under_alone above (bound_names node)
names_alone kind.FormalParameter above node = under_alone above (bound_names node)
names_alone kind.FormalParameterRest above node = under_alone above (bound_names node)
names_alone kind.BindingRestElement above node = rest_alone above (bound_names node)
names_alone _ above node = refl

-- each name of a list is declared

row_long : (f : Node → Declaration) (names : List Node) → length names ≤ length (map f names)
row_long f names = omega (arith, length-map names f)

ids_long : (p : Place) (k : AstType) (f : Node → Declaration) → p.node.kind ≡ k → same_kind k kind.BindingIdentifier ≡ false → binding_roles k ≡ role.Id ∷ [] → length (bound_names p.node) ≤ length (map f (ids p.node))
ids_long p k f e other roles = omega (arith, ap (λ (xs : List Node). length xs) (own_names p.node k e other roles), length-map (ids p.node) f)

if_long : (b : Bool) (n : ℕ) (ds : List Declaration) → b ≡ true → n ≤ length ds → n ≤ length (cond b ds [])
if_long true n ds e h = h
if_long false n ds e h = absurd cc

unless_long : (b : Bool) (n : ℕ) (ds : List Declaration) → b ≡ false → n ≤ length ds → n ≤ length (cond b [] ds)
unless_long true n ds e h = absurd cc
unless_long false n ds e h = h

both_long : (b : Bool) (names : List Node) (ds : List Declaration) → length names ≤ length ds → length (cond b names []) ≤ length (cond b ds [])
both_long true names ds h = h
both_long false names ds h = omega arith

variables_long : (above : List Node) (p : Place) → length (under above (bound_names p.node)) ≤ length (variables_under above p)
variables_long [] p = omega arith
variables_long (d ∷ above) p = row_long _ (bound_names p.node)

parameters_long : (above : List Node) (p : Place) → length (under above (bound_names p.node)) ≤ length (parameters_under above p)
parameters_long [] p = omega arith
parameters_long (d ∷ above) p = row_long _ (bound_names p.node)

pattern_long : (p : Place) (pattern : Node) → length (bound_names pattern) ≤ length (catch_names p pattern)
pattern_long p pattern = by (is kind.BindingIdentifier pattern) refl
  where
    by : (b : Bool) → is kind.BindingIdentifier pattern ≡ b → length (bound_names pattern) ≤ length (catch_names p pattern)
    by true e = rw e (omega arith)
    by false e = rw e (row_long _ (bound_below pattern.kind pattern.children))

patterns_long : (p : Place) (patterns : List Node) → length (flat_map bound_names patterns) ≤ length (flat_map (catch_names p) patterns)
patterns_long p [] = omega arith
patterns_long p (x ∷ xs) = omega (
  arith,
  length-append (bound_names x) (flat_map bound_names xs),
  length-append (catch_names p x) (flat_map (catch_names p) xs),
  pattern_long p x,
  patterns_long p xs,
)

members_long : (node : Node) (ids : List Node) → length (flat_map member_names ids) ≤ length (flat_map (member_named node) ids)
members_long node [] = omega arith
members_long node (x ∷ xs) = omega (
  arith,
  length-append (member_names x) (flat_map member_names xs),
  length-append (member_named node x) (flat_map (member_named node) xs),
  length-map (member_names x) (named_member node x),
  members_long node xs,
)

enums_long : (p : Place) → p.node.kind ≡ kind.TSEnumDeclaration → length (bound_names p.node) ≤ length (enums p)
enums_long p e = by (has mark.Const p.node)
  where
    by : (b : Bool) → length (bound_names p.node)
        ≤ length (if b then declare_here p (union symbol.ConstEnum.bits (binder.marked_ambient p.node)) symbol.ConstEnumExcludes.bits (ids p.node) else declare_here p (union symbol.RegularEnum.bits (binder.marked_ambient p.node)) symbol.RegularEnumExcludes.bits (ids p.node))
    by true = ids_long p kind.TSEnumDeclaration _ e refl refl
    by false = ids_long p kind.TSEnumDeclaration _ e refl refl

namespace_long : (s : InstanceState) (p : Place) → p.node.kind ≡ kind.TSNamespaceDeclaration → length (bound_names p.node) ≤ length (namespace_row s p)
namespace_long non_instantiated p e = ids_long p kind.TSNamespaceDeclaration _ e refl refl
namespace_long const_enum_only p e = ids_long p kind.TSNamespaceDeclaration _ e refl refl
namespace_long instantiated p e = ids_long p kind.TSNamespaceDeclaration _ e refl refl

-- on entering, of a node that declares outside of its scope
pub entered_long : (k : AstType) (p : Place) → p.node.kind ≡ k → is_bound_inside p.node ≡ false → length (names_by k p.path p.node) ≤ length (declared_by k p)
entered_long kind.VariableDeclarator p e h = variables_long p.path p
entered_long kind.Function p e h = if_long (is_statement p.node) _ _ (stated p.node kind.Function e refl h) (ids_long p kind.Function _ e refl refl)
entered_long kind.Class p e h = if_long (is_statement p.node) _ _ (stated p.node kind.Class e refl h) (ids_long p kind.Class _ e refl refl)
entered_long kind.FormalParameter p e h = parameters_long p.path p
entered_long kind.FormalParameterRest p e h = parameters_long p.path p
entered_long kind.BindingRestElement p e h = both_long (parent_holds (is kind.FormalParameters) p.path) (bound_names p.node) _ (row_long _ (bound_names p.node))
entered_long kind.CatchParameter p e h = patterns_long p (children_of role.Pattern p.node.children)
entered_long kind.ImportSpecifier p e h = row_long _ (names_at role.Local p.node)
entered_long kind.ImportDefaultSpecifier p e h = row_long _ (names_at role.Local p.node)
entered_long kind.ImportNamespaceSpecifier p e h = row_long _ (names_at role.Local p.node)
entered_long kind.TSImportEqualsDeclaration p e h = ids_long p kind.TSImportEqualsDeclaration _ e refl refl
entered_long kind.TSTypeAliasDeclaration p e h = ids_long p kind.TSTypeAliasDeclaration _ e refl refl
entered_long kind.TSInterfaceDeclaration p e h = ids_long p kind.TSInterfaceDeclaration _ e refl refl
entered_long kind.TSEnumDeclaration p e h = enums_long p e
entered_long kind.TSEnumMember p e h =
    omega (arith, members_long p.node (children_of role.Id p.node.children), row_long (binder.declaration_at p.node (record { flags = symbol.EnumMember.bits; excluded = symbol.EnumMemberExcludes.bits; how = plain; route = here p.chain }) false) (flat_map (member_named p.node) (children_of role.Id p.node.children)))
entered_long kind.TSNamespaceDeclaration p e h = namespace_long (instance_state p.node p.path (nodes_around p.node p.path)) p e
entered_long kind.TSTypeParameter p e h = row_long _ (names_at role.Name p.node)
entered_long kind.TSMappedType p e h = absurd (mapped_inside p.node e h)
entered_long _ p e h = omega arith

-- and on opening, of one that declares inside
pub opened_long : (k : AstType) (p : Place) (own : OpenScope) → p.node.kind ≡ k → is_bound_inside p.node ≡ true → length (names_by k p.path p.node) ≤ length (declared_inside k p own)
opened_long kind.Function p own e h = unless_long (is_statement p.node) _ _ (unstated p.node kind.Function e refl h) (ids_long p kind.Function _ e refl refl)
opened_long kind.Class p own e h = unless_long (is_statement p.node) _ _ (unstated p.node kind.Class e refl h) (ids_long p kind.Class _ e refl refl)
opened_long kind.TSMappedType p own e h = row_long _ (names_at role.Key p.node)
opened_long kind.VariableDeclarator p own e h = absurd (not_inside p.node kind.VariableDeclarator e refl h)
opened_long kind.FormalParameter p own e h = absurd (not_inside p.node kind.FormalParameter e refl h)
opened_long kind.FormalParameterRest p own e h = absurd (not_inside p.node kind.FormalParameterRest e refl h)
opened_long kind.BindingRestElement p own e h = absurd (not_inside p.node kind.BindingRestElement e refl h)
opened_long kind.CatchParameter p own e h = absurd (not_inside p.node kind.CatchParameter e refl h)
opened_long kind.ImportSpecifier p own e h = absurd (not_inside p.node kind.ImportSpecifier e refl h)
opened_long kind.ImportDefaultSpecifier p own e h = absurd (not_inside p.node kind.ImportDefaultSpecifier e refl h)
opened_long kind.ImportNamespaceSpecifier p own e h = absurd (not_inside p.node kind.ImportNamespaceSpecifier e refl h)
opened_long kind.TSImportEqualsDeclaration p own e h = absurd (not_inside p.node kind.TSImportEqualsDeclaration e refl h)
opened_long kind.TSTypeAliasDeclaration p own e h = absurd (not_inside p.node kind.TSTypeAliasDeclaration e refl h)
opened_long kind.TSInterfaceDeclaration p own e h = absurd (not_inside p.node kind.TSInterfaceDeclaration e refl h)
opened_long kind.TSEnumDeclaration p own e h = absurd (not_inside p.node kind.TSEnumDeclaration e refl h)
opened_long kind.TSEnumMember p own e h = absurd (not_inside p.node kind.TSEnumMember e refl h)
opened_long kind.TSNamespaceDeclaration p own e h = absurd (not_inside p.node kind.TSNamespaceDeclaration e refl h)
opened_long kind.TSTypeParameter p own e h = absurd (not_inside p.node kind.TSTypeParameter e refl h)
opened_long _ p own e h = omega arith

-- no node stands among the names twice

below_few : (k : AstType) (f : Forest) → length (bound_below k f) ≤ count f
below_few k nothing = omega arith
below_few k (tree r inner span text marks below id after) =
    let node : Node = record { kind = inner; span = span; text = text; marks = marks; children = below; node_id = id } in
    omega (
      arith,
      length-append (cond (is_role_of r (binding_roles k)) (cond (is kind.BindingIdentifier node) (node ∷ []) (bound_below inner below)) []) (bound_below k after),
      by node (is_role_of r (binding_roles k)) (is kind.BindingIdentifier node) (below_few inner below),
      below_few k after,
    )
  where
    by : (node : Node) (a b : Bool) → length (bound_below inner below) ≤ count below → length (cond a (cond b (node ∷ []) (bound_below inner below)) []) ≤ count below + 1
    by node false b h = omega arith
    by node true true h = omega arith
    by node true false h = omega (arith, h)

names_few : (node : Node) → length (bound_names node) ≤ node_count node
names_few node = by (is kind.BindingIdentifier node)
  where
    by : (b : Bool) → length (cond b (node ∷ []) (bound_below node.kind node.children)) ≤ node_count node
    by true = omega arith
    by false = omega (arith, below_few node.kind node.children)

-- each child in a role has as many names at most as there are nodes from it down
each_few : (names : Node → List Node) → ((node : Node) → length (names node) ≤ node_count node) → (r : Role) (f : Forest) → length (flat_map names (children_of r f)) ≤ count f
each_few names few r nothing = omega arith
each_few names few r (tree q k span text marks below id after) =
    by (record { kind = k; span = span; text = text; marks = marks; children = below; node_id = id }) (same_role q r) (few (record { kind = k; span = span; text = text; marks = marks; children = below; node_id = id })) (each_few names few r after)
  where
    by : (node : Node) (b : Bool) → length (names node) ≤ count below + 1 → length (flat_map names (children_of r after)) ≤ count after
        → length (flat_map names (if b then node ∷ children_of r after else children_of r after)) ≤ count below + count after + 1
    by node true here h = omega (arith, here, h, length-append (names node) (flat_map names (children_of r after)))
    by node false here h = omega (arith, h)

abbrev itself : Node → List Node
itself node = node ∷ []

filter_few : (test : Node → Bool) (xs : List Node) → length (filter test xs) ≤ length (flat_map itself xs)
filter_few test [] = omega arith
filter_few test (x ∷ xs) = by (test x) (filter_few test xs)
  where
    by : (b : Bool) → length (filter test xs) ≤ length (flat_map itself xs) → length (if b then x ∷ filter test xs else filter test xs) ≤ length (flat_map itself (x ∷ xs))
    by true h = omega (arith, h)
    by false h = omega (arith, h)

member_few : (id : Node) → length (member_names id) ≤ node_count id
member_few id = by (holds_kind (kind.IdentifierName ∷ kind.StringLiteral ∷ []) id.kind) (is kind.TemplateLiteral id)
  where
    pieces : List Node
    pieces = filter (is kind.TemplateElement) (children_of role.Quasis id.children)

    by : (a b : Bool) → length (cond a (id ∷ []) (cond b pieces [])) ≤ node_count id
    by true b = omega arith
    by false true = omega (arith, filter_few (is kind.TemplateElement) (children_of role.Quasis id.children), each_few itself (λ node. omega arith) role.Quasis id.children)
    by false false = omega arith

under_few : (above names : List Node) (n : ℕ) → length names ≤ n → length (under above names) ≤ n
under_few [] names n h = omega arith
under_few (x ∷ above) names n h = h

if_few : (b : Bool) (names : List Node) (n : ℕ) → length names ≤ n → length (cond b names []) ≤ n
if_few true names n h = h
if_few false names n h = omega arith

at_few : (r : Role) (node : Node) → length (names_at r node) ≤ node_count node
at_few r node = omega (arith, each_few bound_names names_few r node.children)

-- the names are no more than the nodes
pub all_few : (k : AstType) (above : List Node) (node : Node) → length (names_by k above node) ≤ node_count node
all_few kind.VariableDeclarator above node = under_few above (bound_names node) (node_count node) (names_few node)
all_few kind.Function above node = names_few node
all_few kind.Class above node = names_few node
all_few kind.FormalParameter above node = under_few above (bound_names node) (node_count node) (names_few node)
all_few kind.FormalParameterRest above node = under_few above (bound_names node) (node_count node) (names_few node)
all_few kind.BindingRestElement above node = if_few (parent_holds (is kind.FormalParameters) above) (bound_names node) (node_count node) (names_few node)
all_few kind.CatchParameter above node = omega (arith, each_few bound_names names_few role.Pattern node.children)
all_few kind.ImportSpecifier above node = at_few role.Local node
all_few kind.ImportDefaultSpecifier above node = at_few role.Local node
all_few kind.ImportNamespaceSpecifier above node = at_few role.Local node
all_few kind.TSImportEqualsDeclaration above node = names_few node
all_few kind.TSTypeAliasDeclaration above node = names_few node
all_few kind.TSInterfaceDeclaration above node = names_few node
all_few kind.TSEnumDeclaration above node = names_few node
all_few kind.TSEnumMember above node = omega (arith, each_few member_names member_few role.Id node.children)
all_few kind.TSNamespaceDeclaration above node = names_few node
all_few kind.TSTypeParameter above node = at_few role.Name node
all_few kind.TSMappedType above node = at_few role.Key node
all_few _ above node = omega arith
