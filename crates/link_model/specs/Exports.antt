-- What modules export.
use Rattle.std.specs.Prelude.{ℕ, List, [], ◌∷◌, Bool, ◌&&◌, Option, Some, None, cond, bytes_eq, codes, map, flat_map, filter_map, is_none}
use Rattle.semantic_kinds.specs.declared.kind.AstType.{AstType}
use Rattle.semantic_kinds.specs.declared.kind.AstType.TheVariants as kind
use Rattle.semantic_kinds.specs.declared.role.Role.TheVariants as role
use Rattle.semantic_tree.specs.declared.node.Node.{Node}
use Rattle.semantic_syntax.specs.Tables.{Name}
use Rattle.semantic_tree.specs.Views.{is, child_of, children_of}
use Rattle.semantic_model.specs.Exported.{declared_names}
use Rattle.link_model.specs.Module.{Analysed, Below, nodes_below_program, text_or_empty, source_text}

-- how a name is exported
pub data Exported : Type 0 where
  -- by a specifier without a source: its local
  listed : Option Node → Exported
  -- from another module, under its name there
  passed_on : (source name : Name) → Exported
  -- all that a module exports, under one name
  collected : (source : Name) → Exported
  -- a declared name
  declared : (id : ℕ) → Exported
  -- the default export, with the name of the function or class if it has one
  by_default : Option Node → Exported

-- a node that exports a name
pub record Export : Type 0 where
  pub node : ℕ
  pub name : Name
  pub what : Exported

abbrev pub listed_export : Node → Export
listed_export s = record { node = s.node_id; name = text_or_empty (child_of role.Exported s); what = listed (child_of role.Local s) }

abbrev pub passed_export : Name → Node → Export
passed_export source s = record { node = s.node_id; name = text_or_empty (child_of role.Exported s); what = passed_on source (text_or_empty (child_of role.Local s)) }

abbrev pub declared_export : Node → Export
declared_export id = record { node = id.node_id; name = id.text; what = declared id.node_id }

-- the name of a function or class
abbrev pub id_by : AstType → Node → Option Node
id_by kind.Function d = child_of role.Id d
id_by kind.Class d = child_of role.Id d
id_by _ d = None

abbrev pub name_of_default : Node → Option Node
name_of_default d = id_by d.kind d

-- the name of a function or class that is a default export
abbrev pub default_name : Option Node → Option Node
default_name None = None
default_name (Some d) = name_of_default d

abbrev pub default_export : Node → Export
default_export node = record { node = node.node_id; name = codes "default"; what = by_default (default_name (child_of role.Declaration node)) }

abbrev pub collected_export : Node → Option Node → List Export
collected_export node None = []
collected_export node (Some e) = record { node = node.node_id; name = e.text; what = collected (source_text node) } ∷ []

abbrev pub exports_by : AstType → Node → List Export
exports_by kind.ExportNamedDeclaration node = map listed_export (children_of role.Specifiers node.children)
exports_by kind.ExportFromDeclaration node = map (passed_export (source_text node)) (children_of role.Specifiers node.children)
exports_by kind.ExportDeclaration node = map declared_export (declared_names node)
exports_by kind.ExportDefaultDeclaration node = default_export node ∷ []
exports_by kind.ExportAllDeclaration node = collected_export node (child_of role.Exported node)
exports_by _ node = []

abbrev pub exports_of_node : Node → List Export
exports_of_node node = exports_by node.kind node

-- the statements of a module
abbrev pub statements_of : Node → List Node
statements_of root = children_of role.Body root.children

-- the exporting nodes of a module, in order
abbrev pub exports : Analysed → List Export
exports m = flat_map exports_of_node (statements_of m.program.root)

-- the first node that exports the name
abbrev pub export_named : List Export → Name → Option Export
export_named [] name = None
export_named (e ∷ es) name = cond (bytes_eq e.name name) (Some e) (export_named es name)

-- a star export passes on all names of a module
abbrev pub is_star : Node → Bool
is_star node = is kind.ExportAllDeclaration node && is_none (child_of role.Exported node)

abbrev pub star_at : Below → Option Node
star_at b = cond (is_star b.node) (Some b.node) None

-- the star exports of a module, also those below another statement than the program
abbrev pub stars : Analysed → List Node
stars m = filter_map star_at (nodes_below_program m)
