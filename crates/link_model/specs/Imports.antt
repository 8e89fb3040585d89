-- What modules import.
use Rattle.std.specs.Prelude.{ℕ, List, Option, Some, None, codes, filter_map}
use Rattle.semantic_kinds.specs.declared.kind.AstType.{AstType}
use Rattle.semantic_kinds.specs.declared.kind.AstType.TheVariants as kind
use Rattle.semantic_kinds.specs.declared.role.Role.TheVariants as role
use Rattle.semantic_tree.specs.declared.node.Node.{Node}
use Rattle.semantic_syntax.specs.Tables.{Name}
use Rattle.semantic_tree.specs.Views.{child_of}
use Rattle.link_model.specs.Module.{Analysed, Below, nodes_below_program, text_or_empty, source_text}

-- what is asked of a module: the export of a name, or all
pub data Wanted : Type 0 where
  one : Name → Wanted
  whole : Wanted

-- an import specifier
pub record Import : Type 0 where
  pub node : ℕ
  -- the name that it binds
  pub local : Option Node
  pub source : Name
  pub wanted : Wanted

-- what a specifier of an import asks for
abbrev pub wanted_by : AstType → Node → Option Wanted
wanted_by kind.ImportSpecifier node = Some (one (text_or_empty (child_of role.Imported node)))
wanted_by kind.ImportDefaultSpecifier node = Some (one (codes "default"))
wanted_by kind.ImportNamespaceSpecifier node = Some whole
wanted_by _ node = None

-- the specifier stands below its statement, which has the specifier of the module
abbrev pub import_by : Below → Option Wanted → Option Import
import_by b None = None
import_by b (Some w) = Some (record { node = b.node.node_id; local = child_of role.Local b.node; source = source_text b.parent; wanted = w })

abbrev pub import_at : Below → Option Import
import_at b = import_by b (wanted_by b.node.kind b.node)

-- the import specifiers of a module, in preorder
abbrev pub imports : Analysed → List Import
imports m = filter_map import_at (nodes_below_program m)
