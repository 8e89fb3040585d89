use Rattle.std.proofs.Common.{sym, ◌∙◌, ap, map}
use Rattle.semantic_tree.specs.declared.node.Node.{Node}
use Rattle.link_model.specs.Exports.{is_star}
use Rattle.module_entries.specs.Entries.{seen}
use Rattle.module_entries.specs.Views.{shown_import, shown_export}
use Rattle.module_entries.proofs.Specifiers.{star_pushed, no_star}
use Rattle.module_entries.proofs.entries.ModuleEntries.gather_star.Goals as goal

pub returns-in_ok-push : goal.returns-in_ok-push
returns-in_ok-push c =
    star_pushed c.args.node.now c.args.self.now.stars.items c.push.new.self.items c.new-star.result
    (map shown_import c.args.self.now.imports.items) (map shown_export c.args.self.now.exports.items) c.in_ok-push.ensures.items c.new-star.ensures (ap is_star (sym c.new-star.ensures) ∙ sym c.is_star.ensures ∙ c.if-is_star.true)

pub returns-else-is_star : goal.returns-else-is_star
returns-else-is_star c = no_star c.args.node.now (seen c.args.self.now) (ap is_star (sym c.new-star.ensures) ∙ sym c.is_star.ensures ∙ c.if-is_star.false)
