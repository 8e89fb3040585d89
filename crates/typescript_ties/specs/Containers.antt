-- The containers round a place, innermost first: what has declarations of its own in TypeScript, by the nodes above the place.
use Rattle.std.specs.Prelude.{ℕ, ◌==◌, List, [], ◌∷◌, ◌++◌, Bool, true, false, ◌&&◌, ◌||◌, not, Option, Some, None, cond, bytes_eq}
use Rattle.std.specs.List.{list_any}
use denote.Enum.Bare.{sameb}
use Rattle.semantic_kinds.specs.Classes.{holds_kind, is_kind_of_statement}
use Rattle.semantic_kinds.specs.declared.kind.AstType.{AstType}
use Rattle.semantic_kinds.specs.declared.kind.AstType.TheVariants as kind
use Rattle.semantic_kinds.specs.declared.mark.Mark.TheVariants as mark
use Rattle.semantic_kinds.specs.declared.role.Role.TheVariants as role
use Rattle.semantic_syntax.specs.SourceTypes.{is_typescript_definition}
use Rattle.semantic_syntax.specs.Tables.{Name}
use Rattle.semantic_syntax.specs.declared.source_type.SourceType.{SourceType}
use Rattle.semantic_tree.specs.Views.{is, has, holds, child_of, children_of, is_child_in}
use Rattle.semantic_tree.specs.declared.node.Node.{Node}
use Rattle.semantic_model.specs.Exported.{is_default_declaration}
use Rattle.typescript_ties.specs.contracts.container_kind.ContainerKind.{the_type as the_container_kinds}
use Rattle.typescript_ties.specs.declared.container_kind.ContainerKind.{ContainerKind}
use Rattle.typescript_ties.specs.declared.container_kind.ContainerKind.TheVariants as container

-- under which names members stand, innermost first, from the node on that has the outermost of them
pub record MemberPath : Type 0 where
  pub root : ℕ
  pub names : List Name

pub record Container : Type 0 where
  pub kind : ContainerKind
  -- the node by which it stands round a place
  pub node : ℕ
  -- of members, which all blocks of the name share
  pub members : Option MemberPath

abbrev pub same_container_kind : ContainerKind → ContainerKind → Bool
same_container_kind = sameb the_container_kinds

abbrev pub same_names : List Name → List Name → Bool
same_names [] [] = true
same_names (x ∷ xs) (y ∷ ys) = bytes_eq x y && same_names xs ys
same_names xs ys = false

abbrev pub same_members : Container → Container → Option MemberPath → Option MemberPath → Bool
same_members c d None None = c.node == d.node
same_members c d (Some m) (Some n) = m.root == n.root && same_names m.names n.names
same_members c d m n = false

abbrev pub same_container : Container → Container → Bool
same_container c d = same_container_kind c.kind d.kind && same_members c d c.members d.members

abbrev pub is_container : ContainerKind → Container → Bool
is_container k c = same_container_kind c.kind k

abbrev pub container_of : ContainerKind → Node → Container
container_of k x = record { kind = k; node = x.node_id; members = None }

abbrev pub no_container : Container
no_container = record { kind = container.Globals; node = 0; members = None }

-- ---- what is exported

-- a statement by which a block says itself what it exports
abbrev pub tells_exports : Node → Bool
tells_exports statement =
    holds_kind (kind.ExportNamedDeclaration ∷ kind.ExportFromDeclaration ∷ kind.ExportAllDeclaration ∷ kind.TSExportAssignment ∷ []) statement.kind
    || (is kind.ExportDefaultDeclaration statement && not (holds is_default_declaration (child_of role.Declaration statement)))

-- a block that is only declared exports all that it declares, unless it says what
abbrev pub exports_all : SourceType → Node → List Node → Bool
exports_all s block path =
    (is_typescript_definition s || list_any (has mark.Declare) path) && not (list_any tells_exports (children_of role.Body block.children))

abbrev pub exported_by : AstType → SourceType → Node → List Node → Bool → Bool
exported_by kind.ExportDeclaration s x path above = true
exported_by kind.TSNamespaceDeclaration s x path above = true
exported_by kind.TSModuleBlock s x path above = exports_all s x path
exported_by kind.VariableDeclaration s x path above = above
exported_by _ s x path above = false

-- whether a declaration under these nodes, parent first, is exported: by `export`, as `B` in `namespace A.B`, or by its block
abbrev pub is_exported_under : SourceType → List Node → Bool
is_exported_under s [] = false
is_exported_under s (x ∷ path) = exported_by x.kind s x path (is_exported_under s path)

-- ---- where a declaration is bound, and members

-- in the innermost container, but as a member where it is exported from a block
abbrev pub bound_container : Bool → List Container → Container
bound_container exported [] = no_container
bound_container exported (c ∷ []) = c
bound_container exported (c ∷ d ∷ cs) = cond (exported && is_container container.ModuleBlock c) d c

abbrev pub path_below : Name → Container → Option MemberPath → MemberPath
path_below name c None = record { root = c.node; names = name ∷ [] }
path_below name c (Some m) = record { root = m.root; names = name ∷ m.names }

-- a block without a name shares nothing
abbrev pub path_if : Option Name → Container → Option MemberPath
path_if None c = None
path_if (Some name) c = Some (path_below name c c.members)

-- the members of what is bound in the container by that name, at the node
abbrev pub members_of : ContainerKind → ℕ → Option Name → Container → Container
members_of k node name c = record { kind = k; node = node; members = path_if name c }

abbrev pub id_name : Option Node → Option Name
id_name None = None
id_name (Some id) = Some id.text

-- the name of a module isn't that of a namespace: it begins with a quotation mark
abbrev pub module_member_name : Option Node → Option Name
module_member_name None = None
module_member_name (Some id) = Some (39 ∷ id.text)

-- the members of the enum above its body
abbrev pub enum_members : SourceType → Node → List Node → List Container → Container
enum_members s body [] outer = container_of container.EnumMembers body
enum_members s body (x ∷ path) outer =
    members_of container.EnumMembers body.node_id (id_name (child_of role.Id x)) (bound_container (is_exported_under s path) outer)

-- ---- what a node has round a child

abbrev pub is_one_of_kind : AstType → Node → Bool
is_one_of_kind k child = holds_kind (k ∷ []) child.kind

-- the type parameters, the parameters and the type of a function or signature
abbrev pub is_of_signature : Node → Bool
is_of_signature child = holds_kind (kind.TSTypeParameterDeclaration ∷ kind.TSThisParameter ∷ kind.FormalParameters ∷ kind.TSTypeAnnotation ∷ []) child.kind

-- parameters aren't seen in the type parameters
abbrev pub parameter_containers : Node → Node → List Container
parameter_containers x child =
    cond (is kind.TSTypeParameterDeclaration child) [] (container_of container.Parameters x ∷ []) ++ container_of container.TypeParameters x ∷ []

-- and what a body declares isn't outside of it
abbrev pub function_containers : Node → Node → List Container
function_containers x child =
    cond (is_of_signature child) [] (container_of container.Body x ∷ []) ++ parameter_containers x child ++ container_of container.OwnName x ∷ []

abbrev pub block_containers : Bool → Node → List Container
block_containers inside x = cond inside (container_of container.Block x ∷ []) []

abbrev pub type_containers : Bool → Node → List Container
type_containers inside x = cond inside (container_of container.TypeParameters x ∷ []) []

-- the containers that a node of the kind has round one of its children
abbrev pub containers_by : AstType → SourceType → Node → List Node → List Container → Node → List Container
containers_by kind.Program s x path outer child = container_of container.File x ∷ []
containers_by kind.Function s x path outer child = function_containers x child
containers_by kind.ArrowFunctionExpression s x path outer child = function_containers x child
containers_by kind.TSFunctionType s x path outer child = parameter_containers x child
containers_by kind.TSConstructorType s x path outer child = parameter_containers x child
containers_by kind.TSCallSignatureDeclaration s x path outer child = parameter_containers x child
containers_by kind.TSConstructSignatureDeclaration s x path outer child = parameter_containers x child
containers_by kind.TSMethodSignature s x path outer child = cond (is_of_signature child) (parameter_containers x child) []
containers_by kind.TSIndexSignature s x path outer child = container_of container.IndexSignature x ∷ []
containers_by kind.Class s x path outer child =
    cond (is_one_of_kind kind.Decorator child) [] (container_of container.TypeParameters x ∷ container_of container.OwnName x ∷ [])
containers_by kind.TSInterfaceDeclaration s x path outer child = type_containers (not (is_one_of_kind kind.BindingIdentifier child)) x
containers_by kind.TSTypeAliasDeclaration s x path outer child = type_containers (not (is_one_of_kind kind.BindingIdentifier child)) x
containers_by kind.TSMappedType s x path outer child = type_containers true x
containers_by kind.TSConditionalType s x path outer child =
    container_of (cond (is_child_in role.True x child) container.Inferred container.Condition) x ∷ []
containers_by kind.TSInferType s x path outer child = container_of container.Infer x ∷ []
containers_by kind.StaticBlock s x path outer child = container_of container.StaticBlock x ∷ []
containers_by kind.BlockStatement s x path outer child = block_containers true x
containers_by kind.ForStatement s x path outer child = block_containers true x
containers_by kind.ForInStatement s x path outer child = block_containers true x
containers_by kind.ForOfStatement s x path outer child = block_containers true x
containers_by kind.CatchClause s x path outer child = container_of container.CatchClause x ∷ []
containers_by kind.SwitchStatement s x path outer child = block_containers (is_one_of_kind kind.SwitchCase child) x
containers_by kind.WithStatement s x path outer child = block_containers (is_kind_of_statement child.kind child.text) x
containers_by kind.TSNamespaceDeclaration s x path outer child =
    cond (is_one_of_kind kind.BindingIdentifier child) []
    (container_of container.ModuleBlock x
    ∷ members_of container.NamespaceMembers x.node_id (id_name (child_of role.Id x)) (bound_container (is_exported_under s path) outer)
    ∷ [])
containers_by kind.TSExternalModuleDeclaration s x path outer child =
    cond (is_one_of_kind kind.TSModuleBlock child)
    (container_of container.ModuleBlock x
    ∷ members_of container.ModuleMembers x.node_id (module_member_name (child_of role.Id x)) (bound_container false outer)
    ∷ []) []
containers_by kind.TSGlobalDeclaration s x path outer child =
    container_of container.ModuleBlock x ∷ record { kind = container.GlobalMembers; node = x.node_id; members = Some (record { root = 0; names = [] }) } ∷ []
containers_by kind.TSEnumBody s x path outer child = enum_members s x path outer ∷ []
containers_by _ s x path outer child = []

-- a decorator of a parameter stands outside of the function
abbrev pub past_node : ℕ → List Container → List Container
past_node node [] = []
past_node node (c ∷ cs) = cond (c.node == node) (past_node node cs) (c ∷ cs)

abbrev pub outside_function : List Container → List Container
outside_function [] = []
outside_function (c ∷ cs) = past_node c.node cs

abbrev pub decorates_parameter : Node → Node → Bool
decorates_parameter x child = holds_kind (kind.FormalParameter ∷ kind.FormalParameterRest ∷ []) x.kind && is kind.Decorator child

-- the containers round a node, under the nodes above it, parent first
abbrev pub containers : SourceType → Node → List Node → List Container
containers s child [] = no_container ∷ []
containers s child (x ∷ path) =
    let outer : List Container = containers s x path in
    cond (decorates_parameter x child) (outside_function outer) (containers_by x.kind s x path outer child ++ outer)
