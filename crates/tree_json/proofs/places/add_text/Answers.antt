use Rattle.std.proofs.Common.{◌≡◌, ◌∙◌, map, ap}
use Rattle.tree_json.specs.Views.{characters}
use Rattle.tree_json.proofs.Spelled.{inserted, insert_characters}
use Rattle.tree_json.proofs.places.add_text.Goals as goal

pub returns-clause-texts : goal.returns-clause-texts
returns-clause-texts c =
    let keys : c.insert.new.self.keys ≡ inserted c.args.texts.now.keys c.args.text = c.in_ok-insert.ensures.keys in
    ap (map characters) keys ∙ insert_characters c.args.text c.args.texts.now.keys c.spell.ensures c.requires
