-- The names of keys.
use Rattle.std.specs.Prelude.{ℕ, List, [], ◌∷◌, Option, Some, None, codes}
use Rattle.std.specs.Option.{option_map}
use Rattle.semantic_kinds.specs.declared.kind.AstType.{AstType}
use Rattle.semantic_kinds.specs.declared.kind.AstType.TheVariants as kinds
use Rattle.semantic_kinds.specs.declared.role.Role.TheVariants as roles
use Rattle.semantic_tree.specs.Nodes.{first_of}
use Rattle.semantic_tree.specs.Views.{all_in}
use Rattle.semantic_tree.specs.declared.node.Node.{Node}

-- the text of a template's only piece, where it has no expressions
abbrev pub whole_template : List Node → List Node → Option (List ℕ)
whole_template quasis [] = option_map (λ quasi. quasi.text) (first_of quasis)
whole_template quasis (expression ∷ rest) = None

-- the static name, by the kind of the key
abbrev pub static_name_by : AstType → Node → Option (List ℕ)
static_name_by kinds.IdentifierName key = Some key.text
static_name_by kinds.StringLiteral key = Some key.text
static_name_by kinds.NumericLiteral key = Some key.text
static_name_by kinds.BigIntLiteral key = Some key.text
static_name_by kinds.RegExpLiteral key = Some key.text
static_name_by kinds.NullLiteral key = Some (codes "null")
static_name_by kinds.TemplateLiteral key = whole_template (all_in roles.Quasis key) (all_in roles.Expressions key)
static_name_by _ key = None

-- the name that a key has whatever code runs; a private name is none
abbrev pub static_name : Node → Option (List ℕ)
static_name key = static_name_by key.kind key

-- the name, by the kind of the key
abbrev pub key_name_by : AstType → Node → Option (List ℕ)
key_name_by kinds.PrivateIdentifier key = Some key.text
key_name_by _ key = static_name key

-- the private name of a key, or else its static name
abbrev pub key_name : Node → Option (List ℕ)
key_name key = key_name_by key.kind key
