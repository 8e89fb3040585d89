-- How trees of small programs are put together.
use Rattle.std.specs.Prelude.{ℕ, List, [], ◌∷◌, codes}
use Rattle.semantic_syntax.specs.declared.source_type.Goal.{Goal}
use Rattle.semantic_syntax.specs.declared.source_type.Lang.{Lang}
use Rattle.semantic_kinds.specs.declared.kind.AstType.{AstType}
use Rattle.semantic_kinds.specs.declared.kind.AstType.TheVariants as kind
use Rattle.semantic_kinds.specs.declared.role.Role.{Role}
use Rattle.semantic_kinds.specs.declared.role.Role.TheVariants as role
use Rattle.semantic_kinds.specs.declared.mark.Mark.{Mark}
use Rattle.semantic_kinds.specs.declared.mark.Mark.TheVariants as mark
use Rattle.semantic_kinds.specs.MarkSets.{no_marks, set_of}
use Rattle.semantic_tree.specs.Forest.{Forest, nothing, tree, join}
use Rattle.semantic_tree.specs.Tree.{Tree, numbered_tree}

-- a node with its marks and what is below it, without a span; ids are given in the end
abbrev pub side_by_side : List Forest → Forest
side_by_side [] = nothing
side_by_side (f ∷ fs) = join f (side_by_side fs)

abbrev pub marked : List Mark → Role → AstType → List ℕ → List Forest → Forest
marked marks r k text below = tree r k (record { start = 0; end = 0 }) text (set_of marks) (side_by_side below) 0 nothing

abbrev pub node : Role → AstType → List ℕ → List Forest → Forest
node r k text below = marked [] r k text below

abbrev pub program : Goal → Lang → List Forest → Tree
program g l below = numbered_tree (record {
  source = [];
  source_type = record { goal = g; lang = l };
  comments = [];
  root = record { kind = kind.Program; span = record { start = 0; end = 0 }; text = []; marks = no_marks; children = side_by_side below; node_id = 0 };
})

-- ---- names and literals

-- a name that is bound, and one that is read
abbrev pub binding : Role → List ℕ → Forest
binding r name = node r kind.BindingIdentifier name []

abbrev pub reference : Role → List ℕ → Forest
reference r name = node r kind.IdentifierReference name []

abbrev pub number : Role → List ℕ → Forest
number r digits = marked (mark.Decimal ∷ []) r kind.NumericLiteral digits []

abbrev pub in_parentheses : Role → Forest → Forest
in_parentheses r inner = node r kind.ParenthesizedExpression [] (inner ∷ [])

-- ---- statements

abbrev pub statement : Forest → Forest
statement expression = node role.Body kind.ExpressionStatement [] (expression ∷ [])

-- a name that is read by itself
abbrev pub mention : List ℕ → Forest
mention name = statement (reference role.Expression name)

-- `var`, `let` or `const` with one declarator: with what it has below, or of a name alone
abbrev pub declared : Role → List ℕ → List Forest → Forest
declared r word below = node r kind.VariableDeclaration word (node role.Declarators kind.VariableDeclarator [] below ∷ [])

abbrev pub declarator : List ℕ → Forest
declarator name = node role.Declarators kind.VariableDeclarator [] (binding role.Id name ∷ [])

abbrev pub variable : List ℕ → List ℕ → Forest
variable word name = declared role.Body word (binding role.Id name ∷ [])

abbrev pub block : Role → List Forest → Forest
block r body = node r kind.BlockStatement [] body

-- `with (OBJECT) { .. }`
abbrev pub with_block : List ℕ → List Forest → Forest
with_block object body = node role.Body kind.WithStatement [] (reference role.Object object ∷ block role.Body body ∷ [])

-- `catch (PATTERN) { .. }`
abbrev pub catch_clause : Role → Forest → List Forest → Forest
catch_clause r pattern body = node r kind.CatchClause [] (node role.Param kind.CatchParameter [] (pattern ∷ []) ∷ block role.Body body ∷ [])

-- ---- functions

abbrev pub parameter_of : Forest → Forest
parameter_of pattern = node role.Items kind.FormalParameter [] (pattern ∷ [])

abbrev pub parameter : List ℕ → Forest
parameter name = parameter_of (binding role.Pattern name)

-- with an initializer
abbrev pub defaulted : List ℕ → Forest → Forest
defaulted name value = node role.Items kind.FormalParameter [] (binding role.Pattern name ∷ value ∷ [])

abbrev pub parameters : List Forest → Forest
parameters items = node role.Params kind.FormalParameters (codes "formal") items

abbrev pub function_body : List Forest → Forest
function_body body = node role.Body kind.FunctionBody [] body

-- what a function with a name has below
abbrev pub function_parts : List ℕ → List Forest → List Forest → List Forest
function_parts name items body = binding role.Id name ∷ parameters items ∷ function_body body ∷ []

abbrev pub function : Role → List ℕ → List Forest → List Forest → Forest
function r name items body = node r kind.Function (codes "declaration") (function_parts name items body)

-- function expressions, without a name and with one
abbrev pub expression : Role → List Forest → List Forest → Forest
expression r items body = node r kind.Function (codes "expression") (parameters items ∷ function_body body ∷ [])

abbrev pub named_expression : Role → List ℕ → List Forest → List Forest → Forest
named_expression r name items body = node r kind.Function (codes "expression") (function_parts name items body)

-- `namespace NAME { .. }`
abbrev pub namespace : Role → List ℕ → List Forest → Forest
namespace r name body = node r kind.TSNamespaceDeclaration [] (binding role.Id name ∷ node role.Body kind.TSModuleBlock [] body ∷ [])

-- ---- types

-- a type by its name
abbrev pub type_named : Role → List ℕ → Forest
type_named r name = node r kind.TSTypeReference [] (reference role.Name name ∷ [])

-- `typeof NAME`
abbrev pub type_query : Role → List ℕ → Forest
type_query r name = node r kind.TSTypeQuery [] (reference role.Name name ∷ [])

-- `type NAME = VALUE`
abbrev pub alias : List ℕ → Forest → Forest
alias name value = node role.Body kind.TSTypeAliasDeclaration [] (binding role.Id name ∷ value ∷ [])

abbrev pub infer : Role → List ℕ → Forest
infer r name = node r kind.TSInferType [] (node role.Parameter kind.TSTypeParameter [] (binding role.Name name ∷ []) ∷ [])

-- a tuple of two
abbrev pub pair : Role → Forest → Forest → Forest
pair r x y = node r kind.TSTupleType [] (x ∷ y ∷ [])

-- `CHECK extends PART ? TRUE : FALSE`
abbrev pub conditional : Role → List Forest → Forest
conditional r parts = node r kind.TSConditionalType [] parts

-- `<NAME extends CONSTRAINT>`
abbrev pub type_parameter : List ℕ → Forest → Forest
type_parameter name constraint =
    node role.TypeParameters kind.TSTypeParameterDeclaration [] (node role.Params kind.TSTypeParameter [] (binding role.Name name ∷ constraint ∷ []) ∷ [])
