use Rattle.std.proofs.Common.{◌≡◌, sym, ◌∙◌, Some, true, false, rules}
use Rattle.std.proofs.lemmas.Map.Text.{hash_map_updates_str}
use Rattle.module_entries.proofs.NamesFound.{noted_new, noted_known}
use Rattle.module_entries.proofs.module_names.note.Goals as goal

pub returns-in_ok-insert : goal.returns-in_ok-insert
returns-in_ok-insert c =
    let unknown : c.contains_key.result ≡ false = search rules in
    noted_new c.args.name.now c.args.number c.args.numbers.now c.insert.new.self (sym c.contains_key.ensures ∙ unknown)
    (hash_map_updates_str c.args.name.now c.args.numbers.now c.insert.new.self (Some c.args.number) c.in_ok-insert.ensures.updates)

pub returns-else-not-contains_key : goal.returns-else-not-contains_key
returns-else-not-contains_key c =
    let known : c.contains_key.result ≡ true = search rules in
    noted_known c.args.name.now c.args.number c.args.numbers.now (sym c.contains_key.ensures ∙ known)
