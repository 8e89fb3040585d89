use Rattle.std.proofs.Common.{sym, ◌∙◌, refl, map}
use Rattle.semantic_tree.specs.ChildIter.{shown}
use Rattle.module_entries.specs.Entries.{seen}
use Rattle.module_entries.specs.Views.{shown_export}
use Rattle.module_entries.proofs.Specifiers.{import_pushed, none_pushed}
use Rattle.module_entries.proofs.entries.ModuleEntries.gather_import.Goals as goal

pub returns-in_ok-push : goal.returns-in_ok-push
returns-in_ok-push c =
    import_pushed c.args.parent.now c.args.node.now c.args.self.now.imports.items c.push.new.self.items (record { statement = c.args.parent; specifier = c.args.node })
    (map shown_export c.args.self.now.exports.items) (map shown c.args.self.now.stars.items) c.in_ok-push.ensures.items refl (sym c.is_specifier.ensures ∙ c.if-is_specifier.true)

pub returns-else-is_specifier : goal.returns-else-is_specifier
returns-else-is_specifier c = none_pushed c.args.parent.now c.args.node.now (seen c.args.self.now) (sym c.is_specifier.ensures ∙ c.if-is_specifier.false)
