-- The names for which rules on identifiers ask.
use Rattle.std.specs.Prelude.{List, ◌∷◌, [], Bool, bytes_eq, codes}
use Rattle.std.specs.List.{list_any}
use Rattle.semantic_kinds.specs.Classes.{holds_kind}
use Rattle.semantic_kinds.specs.declared.kind.AstType.{AstType}
use Rattle.semantic_kinds.specs.declared.kind.AstType.TheVariants as kind
use Rattle.semantic_syntax.specs.Tables.{Name}
use Rattle.check_model.specs.Names.{strict_reserved_words}

-- `let` and what else strict code reserves, the two names that it protects, and `await`
abbrev pub asked_names : List Name
asked_names = codes "arguments" ∷ codes "await" ∷ codes "eval" ∷ strict_reserved_words

abbrev pub is_asked_for : Name → Bool
is_asked_for name = list_any (bytes_eq name) asked_names

-- a name that is declared or used, or a label
abbrev pub is_name : AstType → Bool
is_name k = holds_kind (kind.BindingIdentifier ∷ kind.IdentifierReference ∷ kind.LabelIdentifier ∷ []) k
