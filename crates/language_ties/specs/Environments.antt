-- The environments round a place, innermost first, by the nodes above it (ECMA-262, 9.1).
use Rattle.std.specs.Prelude.{ℕ, ◌==◌, List, [], ◌∷◌, ◌++◌, Bool, false, ◌&&◌, ◌||◌, not, Option, Some, None, cond}
use denote.Enum.Bare.{sameb}
use Rattle.semantic_kinds.specs.Classes.{holds_kind, is_kind_of_statement}
use Rattle.semantic_kinds.specs.Kinds.{same_kind}
use Rattle.semantic_kinds.specs.MarkSets.{has_mark}
use Rattle.semantic_kinds.specs.Roles.{same_role}
use Rattle.semantic_kinds.specs.declared.kind.AstType.{AstType}
use Rattle.semantic_kinds.specs.declared.kind.AstType.TheVariants as kind
use Rattle.semantic_kinds.specs.declared.mark.Mark.TheVariants as mark
use Rattle.semantic_kinds.specs.declared.role.Role.TheVariants as role
use Rattle.semantic_tree.specs.Forest.{Forest, nothing, tree}
use Rattle.semantic_tree.specs.Views.{is, holds, child_of}
use Rattle.semantic_tree.specs.declared.node.Node.{Node}
use Rattle.semantic_model.specs.Binder.{is_statement}
use Rattle.language_ties.specs.contracts.environment_kind.EnvironmentKind.{the_type as the_kinds}
use Rattle.language_ties.specs.declared.environment_kind.EnvironmentKind.{EnvironmentKind}
use Rattle.language_ties.specs.declared.environment_kind.EnvironmentKind.TheVariants as environment

-- an environment, by what it is made for and the node that makes it
pub record Environment : Type 0 where
  pub kind : EnvironmentKind
  pub maker : ℕ

abbrev pub same_environment_kind : EnvironmentKind → EnvironmentKind → Bool
same_environment_kind = sameb the_kinds

abbrev pub same_environment : Environment → Environment → Bool
same_environment d e = same_environment_kind d.kind e.kind && d.maker == e.maker

abbrev pub is_made_for : EnvironmentKind → Environment → Bool
is_made_for k e = same_environment_kind e.kind k

abbrev pub made_for : EnvironmentKind → Node → Environment
made_for k x = record { kind = k; maker = x.node_id }

-- whether a reference stands in the forest
abbrev pub refers : Forest → Bool
refers nothing = false
refers (tree r k span text marks below id after) = same_kind k kind.IdentifierReference || refers below || refers after

-- whether one stands in the key of a property with these children
abbrev pub key_refers : Forest → Bool
key_refers nothing = false
key_refers (tree r k span text marks below id after) =
    (same_role r role.Key && (same_kind k kind.IdentifierReference || refers below)) || key_refers after

-- whether parameters have an expression: an initializer or a computed key, which is marked as one or refers (15.1.2, ContainsExpression)
abbrev pub contains_expression : Forest → Bool
contains_expression nothing = false
contains_expression (tree r k span text marks below id after) =
    same_role r role.Initializer || same_kind k kind.AssignmentPattern || (same_kind k kind.BindingProperty && (has_mark marks mark.Computed || key_refers below))
    || contains_expression below || contains_expression after

abbrev pub has_parameter_expressions : Node → Bool
has_parameter_expressions function = holds (λ parameters. contains_expression parameters.children) (child_of role.Params function)

-- the name and the parameters of a function, which its body's own environment doesn't hold
abbrev pub is_outside_body : Node → Bool
is_outside_body child = holds_kind (kind.BindingIdentifier ∷ kind.FormalParameters ∷ []) child.kind

-- a body has an environment of its own where the parameters have an expression (10.2.11, steps 27 and 28); else its variables and what it declares lexically are with the parameters, whose names differ from the latter (15.2.1)
abbrev pub body_round : Node → Node → List Environment
body_round function child =
    cond (not (is_outside_body child) && has_parameter_expressions function) (made_for environment.Body function ∷ []) []

-- the body of a `with` is a statement, and its object is none
abbrev pub is_body_of_with : Node → Bool
is_body_of_with child = is_kind_of_statement child.kind child.text

-- the environments that a node of the kind makes round one of its children
abbrev pub made_by : AstType → Node → Node → List Environment
made_by kind.Program x child = made_for environment.Global x ∷ []
made_by kind.Function x child = body_round x child ++ made_for environment.Parameters x ∷ made_for environment.OwnName x ∷ []
made_by kind.ArrowFunctionExpression x child = body_round x child ++ made_for environment.ArrowParameters x ∷ []
made_by kind.StaticBlock x child = made_for environment.StaticBlock x ∷ []
made_by kind.BlockStatement x child = made_for environment.Block x ∷ []
made_by kind.SwitchStatement x child = cond (is kind.SwitchCase child) (made_for environment.Block x ∷ []) []
made_by kind.IfStatement x child = cond (is kind.Function child && is_statement child) (made_for environment.IfBody child ∷ []) []
made_by kind.ForStatement x child = made_for environment.Loop x ∷ []
made_by kind.ForInStatement x child = made_for environment.Loop x ∷ []
made_by kind.ForOfStatement x child = made_for environment.Loop x ∷ []
made_by kind.CatchClause x child = made_for environment.Catch x ∷ []
made_by kind.Class x child = cond (is kind.Decorator child) [] (made_for environment.Class x ∷ [])
made_by kind.WithStatement x child = cond (is_body_of_with child) (made_for environment.Object x ∷ []) []
made_by _ x child = []

-- the environments round a node, under the nodes above it, parent first
abbrev pub environments : Node → List Node → List Environment
environments child [] = []
environments child (x ∷ path) = made_by x.kind x child ++ environments x path

abbrev pub no_environment : Environment
no_environment = record { kind = environment.Block; maker = 0 }

abbrev pub innermost : List Environment → Environment
innermost [] = no_environment
innermost (e ∷ es) = e

-- whether `var` declares in the environment (VarScopedDeclarations of scripts, modules, functions and static blocks)
abbrev pub takes_variables : Environment → Bool
takes_variables e =
    is_made_for environment.Global e || is_made_for environment.Parameters e || is_made_for environment.ArrowParameters e || is_made_for environment.Body e
    || is_made_for environment.StaticBlock e

-- the environments that a variable passes
abbrev pub passed : List Environment → List Environment
passed [] = []
passed (e ∷ es) = cond (takes_variables e) [] (e ∷ passed es)

abbrev pub first_taking : List Environment → Option Environment
first_taking [] = None
first_taking (e ∷ es) = cond (takes_variables e) (Some e) (first_taking es)

abbrev pub environment_or : Environment → Option Environment → Environment
environment_or d None = d
environment_or d (Some e) = e

-- the environment where it is bound
abbrev pub variable_environment : List Environment → Environment
variable_environment es = environment_or (innermost es) (first_taking es)
