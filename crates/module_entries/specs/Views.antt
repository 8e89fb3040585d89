-- What contracts see of the entries of a module.
use Rattle.std.specs.Prelude.{Option, Some, None}
use Rattle.std.specs.Str.{chars}
use Rattle.semantic_kinds.specs.declared.kind.AstType.{AstType}
use Rattle.semantic_kinds.specs.declared.kind.AstType.TheVariants as kind
use Rattle.semantic_kinds.specs.declared.role.Role.TheVariants as role
use Rattle.semantic_tree.specs.declared.node.Node.{Node}
use Rattle.semantic_tree.specs.Views.{child_of}
use Rattle.link_model.specs.Exports as model
use Rattle.link_model.specs.Imports.{Import, wanted_by}
use Rattle.link_model.specs.Imports as asked
use Rattle.link_model.specs.Module.{text_or_empty, source_text}
use Rattle.module_entries.specs.declared.import.ImportEntry.{ImportEntry}
use Rattle.module_entries.specs.declared.import.Wanted.{Wanted}
use Rattle.module_entries.specs.declared.import.Wanted.TheVariants.{One, Whole}
use Rattle.module_entries.specs.declared.export.ExportEntry.{ExportEntry}
use Rattle.module_entries.specs.declared.export.ExportWay.{ExportWay}
use Rattle.module_entries.specs.declared.export.ExportWay.TheVariants.{Listed, PassedOn, Collected, Declared, ByDefault}

abbrev pub shown_wanted : Wanted → asked.Wanted
shown_wanted (One name) = asked.one (chars name.now)
shown_wanted Whole = asked.whole

-- what is asked, or all
abbrev pub or_whole : Option asked.Wanted → asked.Wanted
or_whole None = asked.whole
or_whole (Some wanted) = wanted

-- the import that a specifier in a statement is
abbrev pub import_of : Node → Node → Import
import_of statement s = record { node = s.node_id; local = child_of role.Local s; source = source_text statement; wanted = or_whole (wanted_by s.kind s) }

abbrev pub shown_import : ImportEntry → Import
shown_import e = import_of e.statement.now e.specifier.now

abbrev pub shown_way : ExportWay → model.Exported
shown_way (Listed specifier) = model.listed (child_of role.Local specifier.now)
shown_way (PassedOn source name) = model.passed_on (chars source.now) (chars name.now)
shown_way (Collected source) = model.collected (chars source.now)
shown_way (Declared id) = model.declared id.now.node_id
shown_way (ByDefault statement) = model.by_default (model.default_name (child_of role.Declaration statement.now))

abbrev pub collected_export : Node → Node → model.Export
collected_export statement x = record { node = x.node_id; name = text_or_empty (child_of role.Exported x); what = model.collected (source_text statement) }

abbrev pub export_by : AstType → Node → Node → model.Export
export_by kind.ExportNamedDeclaration statement x = model.listed_export x
export_by kind.ExportFromDeclaration statement x = model.passed_export (source_text statement) x
export_by kind.ExportDeclaration statement x = model.declared_export x
export_by kind.ExportDefaultDeclaration statement x = model.default_export x
export_by _ statement x = collected_export statement x

-- the export that a node in a statement is
abbrev pub export_of : Node → Node → model.Export
export_of statement x = export_by statement.kind statement x

abbrev pub shown_export : ExportEntry → model.Export
shown_export e = export_of e.statement.now e.exporting.now
