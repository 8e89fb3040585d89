-- Which nodes open a scope, which of their children stand inside it, and which are its header.
use Rattle.std.specs.Prelude.{ℕ, ◌+◌, List, [], ◌∷◌, Bool, true, false, not, cond, ◌&&◌, Option, Some, None}
use Rattle.semantic_tree.specs.Forest.{Forest, nothing, tree}
use Rattle.semantic_kinds.specs.Roles.{same_role}
use Rattle.semantic_kinds.specs.declared.kind.AstType.{AstType}
use Rattle.semantic_kinds.specs.declared.kind.AstType.TheVariants as kind
use Rattle.semantic_kinds.specs.declared.role.Role.{Role}
use Rattle.semantic_kinds.specs.declared.role.Role.TheVariants as role
use Rattle.semantic_tree.specs.Views.{is_role_of}
use Rattle.semantic_kinds.specs.Classes.{holds_kind}

-- the children of a node that stand inside its scope
pub data Inside : Type 0 where
  no_scope_opens : Inside
  all_children : Inside
  only : List Role → Inside
  all_but : Role → Inside

abbrev pub inside : AstType → Inside
inside kind.Program = all_children
inside kind.Class = all_but role.Decorators
inside kind.Function = all_children
inside kind.ArrowFunctionExpression = all_children
inside kind.BlockStatement = all_children
inside kind.ForStatement = all_children
inside kind.ForInStatement = all_children
inside kind.ForOfStatement = all_children
inside kind.SwitchStatement = only (role.Cases ∷ [])
inside kind.WithStatement = only (role.Body ∷ [])
inside kind.CatchClause = all_children
inside kind.StaticBlock = all_children
inside kind.TSNamespaceDeclaration = only (role.Body ∷ [])
inside kind.TSExternalModuleDeclaration = only (role.Body ∷ [])
inside kind.TSGlobalDeclaration = all_children
inside kind.TSTypeAliasDeclaration = all_but role.Id
inside kind.TSInterfaceDeclaration = all_but role.Id
inside kind.TSMethodSignature = all_but role.Key
inside kind.TSMappedType = all_children
inside kind.TSEnumBody = all_children
inside kind.TSFunctionType = all_children
inside kind.TSConstructorType = all_children
inside kind.TSCallSignatureDeclaration = all_children
inside kind.TSConstructSignatureDeclaration = all_children
inside kind.TSConditionalType = only (role.Extends ∷ role.True ∷ [])
inside _ = no_scope_opens

abbrev pub opens_for : Inside → Bool
opens_for no_scope_opens = false
opens_for _ = true

abbrev pub holds_for : Inside → Role → Bool
holds_for no_scope_opens r = false
holds_for all_children r = true
holds_for (only rs) r = is_role_of r rs
holds_for (all_but q) r = not (same_role r q)

-- whether a node of the kind opens a scope
abbrev pub opens : AstType → Bool
opens k = opens_for (inside k)

-- whether a child in the role stands inside the scope of a node of the kind
abbrev pub is_inside : AstType → Role → Bool
is_inside k r = holds_for (inside k) r

-- whether some of the children that follow stand inside too
abbrev pub any_inside : AstType → Forest → Bool
any_inside k nothing = false
any_inside k (tree r kind span text marks below id after) = cond (is_inside k r) true (any_inside k after)

-- the roles of the header: what is settled before the body is seen
abbrev pub header_roles : AstType → List Role
header_roles kind.Function = role.TypeParameters ∷ role.This ∷ role.Params ∷ role.ReturnType ∷ []
header_roles kind.ArrowFunctionExpression = role.TypeParameters ∷ role.This ∷ role.Params ∷ role.ReturnType ∷ []
header_roles kind.CatchClause = role.Param ∷ []
header_roles _ = []

abbrev pub is_in_header : AstType → Role → Bool
is_in_header k r = is_role_of r (header_roles k)

-- a decorator of a parameter stands outside the scope of the parameter
abbrev pub is_parameter_decorator : AstType → Role → Bool
is_parameter_decorator k r = holds_kind (kind.FormalParameter ∷ kind.FormalParameterRest ∷ []) k && same_role r role.Decorators

-- how many scopes are opened by the nodes of a forest
abbrev pub scopes_in : Forest → ℕ
scopes_in nothing = 0
scopes_in (tree role kind span text marks below id after) = cond (opens kind) 1 0 + scopes_in below + scopes_in after

-- the number of the body's scope, where so many scopes were opened before the children
abbrev pub body_number : ℕ → Forest → Option ℕ
body_number n nothing = None
body_number n (tree r kind span text marks below id after) =
    cond (same_role r role.Body) (Some n) (body_number (n + cond (opens kind) 1 0 + scopes_in below) after)
