use Rattle.std.proofs.Common.{◌≡◌, ap, ◌∙◌}
use Rattle.semantic_tree.specs.declared.node.Node.{Node}
use Rattle.module_entries.specs.Entries.{EntryLists, seen, imports_in, exports_in, stars_in}
use Rattle.module_entries.proofs.Passed.{all_gathered}
use Rattle.module_entries.proofs.entries.entries_of.Goals as goal

pub returns : goal.returns
returns c =
    let root : Node = c.args.program.now.root in
    let gathered : seen c.gather_exports.new.self ≡ record { imports = imports_in root; exports = exports_in root; stars = stars_in root } =
    all_gathered root c.node-root.result.now (seen c.new-entries.result) (seen c.gather_below.new.self) (seen c.gather_exports.new.self)
    (c.node-root.ensures ∙ c.root.ensures.root) c.new-entries.ensures c.in_ok-gather_below.ensures c.in_ok-gather_exports.ensures in
    record { imports = ap (λ (e : EntryLists). e.imports) gathered; exports = ap (λ (e : EntryLists). e.exports) gathered; stars = ap (λ (e : EntryLists). e.stars) gathered }
