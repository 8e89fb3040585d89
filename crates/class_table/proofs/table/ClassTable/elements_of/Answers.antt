use Rattle.std.proofs.Common.{length, ◌<◌, ap, ◌∙◌, sym}
use Rattle.std.proofs.lemmas.List.{length-map}
use Rattle.class_table.specs.Seen.{element_seen}
use Rattle.class_table.specs.View.{lists_of}
use Rattle.class_table.proofs.Pushed.{read_at}
use Rattle.class_table.proofs.Sound.{elements_fit, within_elements}
use Rattle.class_table.proofs.table.ClassTable.elements_of.Goals as goal

pub returns-clause-numbered : goal.returns-clause-numbered
returns-clause-numbered c =
    let lists = lists_of c.self.inside in
    let within : c.args.c < length lists.nodes = rw (← c.self.view_is) at c.requires in
    let fit = elements_fit lists c.args.c c.self.invariant.lists within in
    let read = read_at element_seen (λ v. v.items) c.self.inside.elements.items c.args.c c.index.result c.index-2.result.now c.index.ensures c.index-2.ensures (within_elements lists c.args.c c.self.invariant.lists within) in
    let same = ap length read ∙ length-map c.index-2.result.now.items element_seen ∙ sym (ap length c.as_slice.ensures.value) in
    rw same at fit
