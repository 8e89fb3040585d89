use Rattle.std.proofs.Common.{◌≡◌, ◌<◌, length, ap, ◌∙◌}
use Rattle.std.specs.List.{AllByRecursion}
use Rattle.std.specs.Str.{chars}
use Rattle.class_table.specs.Lists.{ClassLists, elements_in}
use Rattle.class_table.specs.Meanings.{ElementKey, ids_meant, key_eq, meanings_of}
use Rattle.class_table.specs.View.{lists_of}
use Rattle.std.specs.Map.{lookup}
use Rattle.class_table.proofs.Matches.{ids_within}
use Rattle.class_table.proofs.Meanings.{ids_found}
use Rattle.class_table.proofs.Named.{names_at, if_ok_same, if_ok_holds}
use Rattle.class_table.proofs.Sound.{within_elements}
use Rattle.class_table.proofs.table.ClassTable.get_element_ids.Goals as goal

pub returns-clause-ids : goal.returns-clause-ids
returns-clause-ids c =
    let lists = lists_of c.self.inside in
    let within : c.args.c < length lists.nodes = rw (← c.self.view_is) at c.requires in
    let key : ElementKey = (chars c.args.name.text.now, c.args.is_private) in
    let names : c.index-2.result.now ≡ meanings_of (elements_in c.args.self.now c.args.c) =
    names_at c.self.inside.names.items lists.elements c.args.c c.index.result c.index-2.result.now c.self.invariant.named c.index.ensures c.index-2.ensures (within_elements lists c.args.c c.self.invariant.lists within)
    ∙ ap (λ (l : ClassLists). meanings_of (elements_in l c.args.c)) c.self.view_is in
    if_ok_same c.ids_meant.result _ _ (ap (λ ms. ids_meant (lookup (key_eq key) ms)) names ∙ ids_found key (elements_in c.args.self.now c.args.c)) c.ids_meant.ensures

pub returns-clause-within : goal.returns-clause-within
returns-clause-within c =
    let elements = elements_in c.args.self.now c.args.c in
    if_ok_holds (AllByRecursion (λ i. i < length elements)) c.ids_meant.result _ (ids_within (chars c.args.name.text.now) c.args.is_private elements) (returns-clause-ids c)
