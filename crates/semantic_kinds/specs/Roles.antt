-- The roles of children and their names.
use Rattle.std.specs.Prelude.{ℕ, List, [], ◌∷◌, Bool, Option, codes, find, filter, length, ◌==◌}
use Rattle.std.specs.Str.{bytes_eq}
use denote.Enum.Bare.{sameb}
use Rattle.semantic_kinds.specs.declared.role.Role.{Role}
use Rattle.semantic_kinds.specs.declared.role.Role.TheVariants as role
use Rattle.semantic_kinds.specs.contracts.role.Role.{the_type as the_roles}

-- the two are one
abbrev pub same_role : Role → Role → Bool
same_role = sameb the_roles

-- in the order of the enum
abbrev pub all_roles : List Role
all_roles = role.Root ∷ role.Hashbang ∷ role.Directives ∷ role.Body ∷ role.Expression ∷ role.Test ∷ role.Consequent ∷ role.Param ∷ role.Pattern ∷ role.Annotation ∷ role.Alternate ∷ role.Init ∷ role.Update ∷ role.Left ∷ role.Right ∷ role.Label ∷ role.Argument ∷ role.Object ∷ role.Discriminant ∷ role.Cases ∷ role.Block ∷ role.Handler ∷ role.Finalizer ∷ role.Declarators ∷ role.Id ∷ role.TypeParameters ∷ role.This ∷ role.Params ∷ role.ReturnType ∷ role.Items ∷ role.Rest ∷ role.Decorators ∷ role.Initializer ∷ role.Properties ∷ role.Key ∷ role.Value ∷ role.Elements ∷ role.Heritage ∷ role.TypeArguments ∷ role.Implements ∷ role.Specifiers ∷ role.Source ∷ role.Attributes ∷ role.Imported ∷ role.Local ∷ role.Entries ∷ role.Declaration ∷ role.Exported ∷ role.Quasis ∷ role.Expressions ∷ role.Tag ∷ role.Quasi ∷ role.Meta ∷ role.Property ∷ role.Callee ∷ role.Arguments ∷ role.Options ∷ role.Field ∷ role.Binding ∷ role.Opening ∷ role.Children ∷ role.Closing ∷ role.Name ∷ role.Namespace ∷ role.Element ∷ role.Check ∷ role.Extends ∷ role.True ∷ role.False ∷ role.Qualifier ∷ role.Index ∷ role.Parameter ∷ role.Types ∷ role.Literal ∷ role.Constraint ∷ role.NameType ∷ role.ValueType ∷ role.Members ∷ role.Default ∷ role.Parameters ∷ role.Reference ∷ []

abbrev pub role_name : Role → List ℕ
role_name role.Root = codes "root"
role_name role.Hashbang = codes "hashbang"
role_name role.Directives = codes "directives"
role_name role.Body = codes "body"
role_name role.Expression = codes "expression"
role_name role.Test = codes "test"
role_name role.Consequent = codes "consequent"
role_name role.Param = codes "param"
role_name role.Pattern = codes "pattern"
role_name role.Annotation = codes "type"
role_name role.Alternate = codes "alternate"
role_name role.Init = codes "init"
role_name role.Update = codes "update"
role_name role.Left = codes "left"
role_name role.Right = codes "right"
role_name role.Label = codes "label"
role_name role.Argument = codes "argument"
role_name role.Object = codes "object"
role_name role.Discriminant = codes "discriminant"
role_name role.Cases = codes "cases"
role_name role.Block = codes "block"
role_name role.Handler = codes "handler"
role_name role.Finalizer = codes "finalizer"
role_name role.Declarators = codes "declarators"
role_name role.Id = codes "id"
role_name role.TypeParameters = codes "typeParameters"
role_name role.This = codes "this"
role_name role.Params = codes "params"
role_name role.ReturnType = codes "returnType"
role_name role.Items = codes "items"
role_name role.Rest = codes "rest"
role_name role.Decorators = codes "decorators"
role_name role.Initializer = codes "initializer"
role_name role.Properties = codes "properties"
role_name role.Key = codes "key"
role_name role.Value = codes "value"
role_name role.Elements = codes "elements"
role_name role.Heritage = codes "heritage"
role_name role.TypeArguments = codes "typeArguments"
role_name role.Implements = codes "implements"
role_name role.Specifiers = codes "specifiers"
role_name role.Source = codes "source"
role_name role.Attributes = codes "attributes"
role_name role.Imported = codes "imported"
role_name role.Local = codes "local"
role_name role.Entries = codes "entries"
role_name role.Declaration = codes "declaration"
role_name role.Exported = codes "exported"
role_name role.Quasis = codes "quasis"
role_name role.Expressions = codes "expressions"
role_name role.Tag = codes "tag"
role_name role.Quasi = codes "quasi"
role_name role.Meta = codes "meta"
role_name role.Property = codes "property"
role_name role.Callee = codes "callee"
role_name role.Arguments = codes "arguments"
role_name role.Options = codes "options"
role_name role.Field = codes "field"
role_name role.Binding = codes "binding"
role_name role.Opening = codes "opening"
role_name role.Children = codes "children"
role_name role.Closing = codes "closing"
role_name role.Name = codes "name"
role_name role.Namespace = codes "namespace"
role_name role.Element = codes "element"
role_name role.Check = codes "check"
role_name role.Extends = codes "extends"
role_name role.True = codes "true"
role_name role.False = codes "false"
role_name role.Qualifier = codes "qualifier"
role_name role.Index = codes "index"
role_name role.Parameter = codes "parameter"
role_name role.Types = codes "types"
role_name role.Literal = codes "literal"
role_name role.Constraint = codes "constraint"
role_name role.NameType = codes "nameType"
role_name role.ValueType = codes "valueType"
role_name role.Members = codes "members"
role_name role.Default = codes "default"
role_name role.Parameters = codes "parameters"
role_name role.Reference = codes "reference"

-- the roles whose names have so many bytes, in order
unfoldable pub roles_of_length : ℕ → List Role
roles_of_length n = filter (λ one. length (role_name one) == n) all_roles

-- the role of that name
unfoldable pub role_named : List ℕ → Option Role
role_named text = find (λ one. bytes_eq (role_name one) text) all_roles
