-- The names that a node binds, and the environments that bind them (ECMA-262, BoundNames, LexicallyScopedDeclarations, VarScopedDeclarations).
use Rattle.std.specs.Prelude.{ℕ, List, [], ◌∷◌, Bool, ◌&&◌, ◌||◌, not, cond, map, flat_map, codes}
use denote.Enum.Bare.{sameb}
use Rattle.semantic_kinds.specs.Classes.{holds_kind}
use Rattle.semantic_kinds.specs.declared.kind.AstType.{AstType}
use Rattle.semantic_kinds.specs.declared.kind.AstType.TheVariants as kind
use Rattle.semantic_kinds.specs.declared.role.Role.TheVariants as role
use Rattle.semantic_syntax.specs.SourceTypes.{is_module}
use Rattle.semantic_syntax.specs.Tables.{Name}
use Rattle.semantic_syntax.specs.declared.source_type.SourceType.{SourceType}
use Rattle.semantic_tree.specs.Views.{is, is_with_text, has_use_strict, child_of, children_of, holds}
use Rattle.semantic_tree.specs.declared.node.Node.{Node}
use Rattle.semantic_model.specs.Binder.{is_statement, is_special}
use Rattle.semantic_model.specs.Names.{bound_names, names_at}
use Rattle.semantic_model.specs.Step.{Step, entering}
use Rattle.language_ties.specs.Environments.{Environment, takes_variables, made_for, environments, innermost, passed, variable_environment}
use Rattle.language_ties.specs.contracts.bound_as.BoundAs.{the_type as the_ways}
use Rattle.language_ties.specs.declared.bound_as.BoundAs.{BoundAs}
use Rattle.language_ties.specs.declared.bound_as.BoundAs.TheVariants as bound
use Rattle.language_ties.specs.declared.environment_kind.EnvironmentKind.TheVariants as environment

abbrev pub same_way : BoundAs → BoundAs → Bool
same_way = sameb the_ways

-- a name that an identifier binds
pub record Bound : Type 0 where
  pub sort : BoundAs
  pub identifier : ℕ
  pub name : Name
  -- the environment that binds it
  pub environment : Environment
  -- others that bind it as well: round a class its own, and where a block binds a function the one that takes its variable
  pub also : List Environment
  -- the environments that the variable passes
  pub passed : List Environment

abbrev pub is_bound_as : BoundAs → Bound → Bool
is_bound_as w b = same_way b.sort w

abbrev pub bound_identifier : BoundAs → Environment → List Environment → List Environment → Node → Bound
bound_identifier w e also between id =
    record { sort = w; identifier = id.node_id; name = id.text; environment = e; also = also; passed = between }

-- in the environment where the node stands
abbrev pub bound_here : BoundAs → List Environment → Node → Bound
bound_here w es id = bound_identifier w (innermost es) [] [] id

-- where variables go
abbrev pub bound_outward : List Environment → Node → Bound
bound_outward es id = bound_identifier bound.Var (variable_environment es) [] (passed es) id

-- what makes the code in it strict: a class, or a directive (11.2.2)
abbrev pub makes_strict : Node → Bool
makes_strict x =
    is kind.Class x || (is kind.Program x && has_use_strict x)
    || (holds_kind (kind.Function ∷ kind.ArrowFunctionExpression ∷ []) x.kind && holds has_use_strict (child_of role.Body x))

abbrev pub is_strict : SourceType → List Node → Bool
is_strict s [] = is_module s
is_strict s (x ∷ path) = makes_strict x || is_strict s path

-- a declarator, in the declaration above it
abbrev pub bound_by_declarator : Node → List Node → List Bound
bound_by_declarator x [] = []
bound_by_declarator x (declaration ∷ path) =
    let es : List Environment = environments x (declaration ∷ path) in
    map (cond (is_with_text kind.VariableDeclaration (codes "var") declaration) (bound_outward es) (bound_here bound.Lexical es)) (bound_names x)

-- a plain function in a block of sloppy code, which may have a variable beside (B.3.2, B.3.3)
abbrev pub is_block_function : SourceType → Node → List Node → Bool
is_block_function s x path =
    not (takes_variables (innermost (environments x path))) && not (is_special x) && not (is_strict s path)

-- a function's declaration, as if its variable were barred by nothing
abbrev pub bound_by_declaration : SourceType → Node → List Node → Node → Bound
bound_by_declaration s x path id =
    let es : List Environment = environments x path in
    cond (is_block_function s x path) (bound_identifier bound.Function (innermost es) (variable_environment es ∷ []) (passed es) id) (bound_here bound.Function es id)

abbrev pub bound_by_function : SourceType → Node → List Node → List Bound
bound_by_function s x path =
    map (cond (is_statement x) (bound_by_declaration s x path) (bound_identifier bound.OwnName (made_for environment.OwnName x) [] [])) (names_at role.Id x)

abbrev pub bound_by_class : Node → List Node → List Bound
bound_by_class x path =
    map (cond (is_statement x)
    (bound_identifier bound.Lexical (innermost (environments x path)) (made_for environment.Class x ∷ []) [])
    (bound_identifier bound.OwnName (made_for environment.Class x) [] [])) (names_at role.Id x)

-- the name, or the names of a pattern, of a catch clause
abbrev pub bound_by_catch : List Environment → Node → List Bound
bound_by_catch es pattern =
    map (bound_here (cond (is kind.BindingIdentifier pattern) bound.CatchName bound.Lexical) es) (bound_names pattern)

-- what a node of the kind binds
abbrev pub bound_by_node : AstType → SourceType → Node → List Node → List Bound
bound_by_node kind.VariableDeclarator s x path = bound_by_declarator x path
bound_by_node kind.Function s x path = bound_by_function s x path
bound_by_node kind.Class s x path = bound_by_class x path
bound_by_node kind.FormalParameter s x path = map (bound_here bound.Parameter (environments x path)) (bound_names x)
bound_by_node kind.FormalParameterRest s x path = map (bound_here bound.Parameter (environments x path)) (bound_names x)
bound_by_node kind.CatchParameter s x path = flat_map (bound_by_catch (environments x path)) (children_of role.Pattern x.children)
bound_by_node kind.ImportSpecifier s x path = map (bound_here bound.Lexical (environments x path)) (names_at role.Local x)
bound_by_node kind.ImportDefaultSpecifier s x path = map (bound_here bound.Lexical (environments x path)) (names_at role.Local x)
bound_by_node kind.ImportNamespaceSpecifier s x path = map (bound_here bound.Lexical (environments x path)) (names_at role.Local x)
bound_by_node _ s x path = []

abbrev pub bound_at : SourceType → Step → List Bound
bound_at s (entering p) = bound_by_node p.node.kind s p.node p.path
bound_at s _ = []

-- what is bound in a program, as if nothing barred the variables of block functions
abbrev pub written : SourceType → List Step → List Bound
written s walk = flat_map (bound_at s) walk
