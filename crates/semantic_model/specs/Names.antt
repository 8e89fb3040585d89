-- The names that a pattern, declarator, parameter or declaration binds.
use Rattle.std.specs.Prelude.{List, [], ◌∷◌, ◌++◌, cond, flat_map}
use Rattle.semantic_tree.specs.Forest.{Forest, nothing, tree}
use Rattle.semantic_kinds.specs.declared.kind.AstType.{AstType}
use Rattle.semantic_kinds.specs.declared.kind.AstType.TheVariants as kind
use Rattle.semantic_kinds.specs.declared.role.Role.{Role}
use Rattle.semantic_kinds.specs.declared.role.Role.TheVariants as role
use Rattle.semantic_tree.specs.declared.node.Node.{Node}
use Rattle.semantic_tree.specs.Views.{is, is_role_of, children_of}

-- the roles of a kind under which the names stand that it binds
abbrev pub binding_roles : AstType → List Role
binding_roles kind.VariableDeclaration = role.Declarators ∷ []
binding_roles kind.FormalParameters = role.Items ∷ role.Rest ∷ []
binding_roles kind.FormalParameter = role.Pattern ∷ []
binding_roles kind.FormalParameterRest = role.Rest ∷ []
binding_roles kind.CatchParameter = role.Pattern ∷ []
binding_roles kind.BindingRestElement = role.Argument ∷ []
binding_roles kind.ObjectPattern = role.Properties ∷ role.Rest ∷ []
binding_roles kind.BindingProperty = role.Value ∷ []
binding_roles kind.ArrayPattern = role.Elements ∷ role.Rest ∷ []
binding_roles kind.AssignmentPattern = role.Left ∷ []
binding_roles _ = role.Id ∷ []

-- the binding identifiers below a node of the kind, in preorder
abbrev pub bound_below : AstType → Forest → List Node
bound_below parent nothing = []
bound_below parent (tree r k span text marks below id after) =
    let node : Node = record { kind = k; span = span; text = text; marks = marks; children = below; node_id = id } in
    cond (is_role_of r (binding_roles parent)) (cond (is kind.BindingIdentifier node) (node ∷ []) (bound_below k below)) []
    ++ bound_below parent after

-- the binding identifiers of a node, in preorder
abbrev pub bound_names : Node → List Node
bound_names node = cond (is kind.BindingIdentifier node) (node ∷ []) (bound_below node.kind node.children)

-- the binding identifiers under a role of a node
abbrev pub names_at : Role → Node → List Node
names_at r node = flat_map bound_names (children_of r node.children)
