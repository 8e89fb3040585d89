use Rattle.std.proofs.Common.{◌≡◌}
use Rattle.tree_json.proofs.Spelled.{inserted, insert_spelled}
use Rattle.module_entries.proofs.Keys.{fresh_told, fresh_added}
use Rattle.module_entries.proofs.name_set.add_name.Goals as goal

pub returns-clause-fresh : goal.returns-clause-fresh
returns-clause-fresh c = fresh_told c.args.name c.args.names.now.keys _ c.spell.ensures c.requires c.in_ok-fresh.ensures.added

pub returns-clause-added : goal.returns-clause-added
returns-clause-added c = λ fresh. fresh_added c.args.name c.args.names.now.keys c.insert.new.self.keys _ c.spell.ensures c.requires c.in_ok-fresh.ensures.added c.in_ok-fresh.ensures.keys fresh

pub returns-clause-spelled : goal.returns-clause-spelled
returns-clause-spelled c =
    let keys : c.insert.new.self.keys ≡ inserted c.args.names.now.keys c.args.name = c.in_ok-fresh.ensures.keys in
    rw keys (insert_spelled c.args.name c.args.names.now.keys c.spell.ensures c.requires)
