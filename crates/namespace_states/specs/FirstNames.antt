-- The statements of a list by the names that they declare, of one name the first.
use Rattle.std.specs.Prelude.{List, [], ◌∷◌, ◌++◌, Option, None, Some}
use Rattle.std.specs.Map.{lookup}
use Rattle.std.specs.Str.{bytes_eq}
use Rattle.semantic_syntax.specs.Tables.{Name}
use Rattle.semantic_tree.specs.declared.node.Node.{Node}
use Rattle.semantic_model.specs.Names.{bound_names}
use Rattle.semantic_model.specs.Namespace.{exported}

-- a name, and a statement that declares it
abbrev pub NamedStatement : Type 0
NamedStatement = Name × Node

-- the first of its name goes last
abbrev pub with_first : List NamedStatement → NamedStatement → List NamedStatement
with_first es e = elim (lookup (bytes_eq e.0) es) [ None ↦ es ++ e ∷ [] | Some x ↦ es ]

-- a statement with the names that it declares
abbrev pub with_first_names : List NamedStatement → Node → List Node → List NamedStatement
with_first_names es statement [] = es
with_first_names es statement (name ∷ names) = with_first_names (with_first es (name.text, statement)) statement names

-- statements, in order
abbrev pub with_statements : List NamedStatement → List Node → List NamedStatement
with_statements es [] = es
with_statements es (statement ∷ more) = with_statements (with_first_names es statement (bound_names (exported statement))) more
