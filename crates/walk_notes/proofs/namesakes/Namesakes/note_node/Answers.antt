use Rattle.std.proofs.Common.{◌≡◌, false, option_map, sym, ◌∙◌}
use Rattle.semantic_tree.specs.ChildIter.{shown}
use Rattle.walk_model.specs.WrittenNames.{declares_lexically}
use Rattle.walk_notes.proofs.Adding.{adds-none}
use Rattle.walk_notes.proofs.namesakes.Namesakes.note_node.Goals as goal

pub returns-else-counts : goal.returns-else-counts
returns-else-counts c =
    let none : declares_lexically c.args.kind.node.now.kind c.args.kind.node.now (option_map shown c.args.parent) ≡ false = sym c.counts.ensures ∙ c.if-counts.false in
    rw none (adds-none c.args.self.now)
