use Rattle.std.proofs.Common.{◌≡◌, ◌<◌, true, is_some, length, ap, ◌∙◌}
use Rattle.std.specs.Str.{chars}
use Rattle.std.specs.Map.{lookup}
use Rattle.class_table.specs.Lists.{ClassLists, elements_in}
use Rattle.class_table.specs.Meanings.{ElementKey, key_eq, meanings_of}
use Rattle.class_table.specs.View.{lists_of}
use Rattle.class_table.proofs.Meanings.{some_found}
use Rattle.class_table.proofs.Named.{names_at}
use Rattle.class_table.proofs.Sound.{within_elements}
use Rattle.class_table.proofs.table.ClassTable.has_private_definition.Goals as goal

pub returns : goal.returns
returns c =
    let lists = lists_of c.self.inside in
    let within : c.args.c < length lists.nodes = rw (← c.self.view_is) at c.requires in
    let key : ElementKey = (chars c.args.name.text.now, true) in
    let names : c.index-2.result.now ≡ meanings_of (elements_in c.args.self.now c.args.c) =
    names_at c.self.inside.names.items lists.elements c.args.c c.index.result c.index-2.result.now c.self.invariant.named c.index.ensures c.index-2.ensures (within_elements lists c.args.c c.self.invariant.lists within)
    ∙ ap (λ (l : ClassLists). meanings_of (elements_in l c.args.c)) c.self.view_is in
    c.has.ensures ∙ ap (λ ms. is_some (lookup (key_eq key) ms)) names ∙ some_found key (elements_in c.args.self.now c.args.c)
