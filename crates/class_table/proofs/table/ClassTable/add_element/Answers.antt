use Rattle.std.proofs.Common.{◌≡◌, ◌<◌, [], map, length, get_or, sym, ap, ◌∙◌}
use Rattle.std.proofs.lemmas.List.{length-map}
use Rattle.class_table.specs.Seen.{element_seen}
use Rattle.class_table.specs.View.{lists_of}
use Rattle.class_table.specs.Lists.{with_element}
use Rattle.class_table.specs.Meanings.{meanings_of}
use Rattle.semantic_syntax.proofs.Results.{on_err}
use Rattle.class_table.proofs.Named.{names_set, names_kept}
use Rattle.class_table.proofs.Pushed.{pushed, kept, read_at}
use Rattle.class_table.proofs.Sound.{sound_with_element, within_elements}
use Rattle.class_table.proofs.table.ClassTable.add_element.Goals as goal

pub invariant_of-self : goal.invariant_of-self
invariant_of-self c =
    let same = kept element_seen (λ v. v.items) c.self.inside.elements.items c.index.result c.index_mut.result.now c.push_named.new.elements c.index_mut.ensures.value c.in_err-push_named.ensures.elements_stay in
    let names = names_kept c.self.inside.names.items c.index-2.result c.index_mut-2.result.now c.push_named.new.names c.index_mut-2.ensures.value c.in_err-push_named.ensures.names_stay in
    record {
      lists = rw same c.self.invariant.lists;
      named = names ∙ c.self.invariant.named ∙ ap (map meanings_of) (sym same);
    }

pub returns-in_err-push_named-clause-err : goal.returns-in_err-push_named-clause-err
returns-in_err-push_named-clause-err c =
    on_err c.from_residual.result
    (rw (kept element_seen (λ v. v.items) c.self.inside.elements.items c.index.result c.index_mut.result.now c.push_named.new.elements c.index_mut.ensures.value c.in_err-push_named.ensures.elements_stay) c.self.view_is)

pub invariant_of-self-2 : goal.invariant_of-self-2
invariant_of-self-2 c =
    let lists = lists_of c.self.inside in
    let within : c.args.c < length lists.nodes = rw (← c.self.view_is) at c.requires.class in
    let there = within_elements lists c.args.c c.self.invariant.lists within in
    let room = rw (← c.self.view_is) at c.requires.room in
    let more = pushed element_seen (λ v. v.items) c.self.inside.elements.items c.args.c c.index.result c.index_mut.result.now c.push_named.new.elements c.args.element c.index.ensures c.index_mut.ensures.value c.in_ok-push_named.ensures.elements there in
    let read = read_at element_seen (λ v. v.items) c.self.inside.elements.items c.args.c c.index.result c.index_mut.result.now c.index.ensures c.index_mut.ensures.value there in
    let number : length c.index_mut.result.now.items ≡ length (get_or lists.elements c.args.c []) = sym (ap length read ∙ length-map c.index_mut.result.now.items element_seen) in
    let names = names_set c.self.inside.names.items lists.elements c.args.c c.index-2.result c.index_mut-2.result.now c.push_named.new.names (element_seen c.args.element) (length c.index_mut.result.now.items) c.self.invariant.named c.index-2.ensures c.index_mut-2.ensures.value there number c.in_ok-push_named.ensures.names in
    record {
      lists = rw more (sound_with_element lists c.args.c (element_seen c.args.element) c.self.invariant.lists room);
      named = names ∙ ap (map meanings_of) (sym more);
    }

pub returns-clause-ok : goal.returns-clause-ok
returns-clause-ok c =
    let lists = lists_of c.self.inside in
    let within : c.args.c < length lists.nodes = rw (← c.self.view_is) at c.requires.class in
    rw (pushed element_seen (λ v. v.items) c.self.inside.elements.items c.args.c c.index.result c.index_mut.result.now c.push_named.new.elements c.args.element c.index.ensures c.index_mut.ensures.value c.in_ok-push_named.ensures.elements
    (within_elements lists c.args.c c.self.invariant.lists within))
    (ap (λ ls. with_element ls c.args.c (element_seen c.args.element)) c.self.view_is)
