use Rattle.std.proofs.Common.{◌∙◌, sym, ap, refl, map, rules, Ok}
use Rattle.std.specs.Str.{chars}
use Rattle.tree_json.specs.Listing.{line}
use Rattle.tree_json.proofs.PulledTop.{parts_pulled}
use Rattle.tree_json.proofs.read.parts_of_pulled.Goals as goal

pub returns-in_ok-parts_listed : goal.returns-in_ok-parts_listed
returns-in_ok-parts_listed c d h =
    let top = c.args.top in
    let is = c.lists_tree.ensures in
    let listed = is.listed (search rules) in
    parts_pulled d top (chars top.source.now) (map line top.rows.items) refl refl h (is.some (search rules)) (is.few (search rules)) listed.0 listed.1
    ∙ ap Ok (sym c.in_ok-parts_listed.ensures)
