-- Which nodes of a tree are references, or may declare a symbol.
use Rattle.std.specs.Prelude.{Bool, ◌||◌}
use Rattle.semantic_kinds.specs.Kinds.{same_kind}
use Rattle.semantic_kinds.specs.declared.kind.AstType.{AstType}
use Rattle.semantic_kinds.specs.declared.kind.AstType.TheVariants as kind

-- a binding identifier or an enum member: each declares at most one symbol
abbrev pub declares_symbol : AstType → Bool
declares_symbol k = same_kind k kind.BindingIdentifier || same_kind k kind.TSEnumMember

abbrev pub is_reference : AstType → Bool
is_reference k = same_kind k kind.IdentifierReference
