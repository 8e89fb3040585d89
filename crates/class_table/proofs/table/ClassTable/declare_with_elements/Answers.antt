use Rattle.std.proofs.Common.{◌∷◌, [], ◌++◌, ◌≡◌, ◌<◌, ◌^◌, ◌-◌, length, map, option_map, refl, ap, ◌∙◌, rules}
use Rattle.std.specs.Option.{option_to_list}
use Rattle.std.proofs.lemmas.List.{map-append, length-map}
use Rattle.class_table.specs.Seen.{element_seen, use_seen}
use Rattle.class_table.specs.Lists.{with_class}
use Rattle.class_table.specs.View.{lists_of}
use Rattle.class_table.specs.Meanings.{meanings_of}
use Rattle.semantic_syntax.proofs.Results.{on_err}
use Rattle.class_table.proofs.Named.{names_pushed}
use Rattle.class_table.proofs.Held.{lists_held, table_held}
use Rattle.class_table.proofs.Sound.{sound_made, made_is}
use Rattle.class_table.proofs.table.ClassTable.declare_with_elements.Goals as goal

pub invariant_of-self : goal.invariant_of-self
invariant_of-self c =
    let room = c.reserve_class.ensures in
    table_held c.self.inside _ c.self.invariant refl room.declarations room.elements room.uses room.names

pub returns-in_err-reserve_class-clause-err : goal.returns-in_err-reserve_class-clause-err
returns-in_err-reserve_class-clause-err c =
    let room = c.reserve_class.ensures in
    rw (← c.self.view_is) (on_err c.from_residual.result (lists_held c.self.inside _ _ _ _ refl room.declarations room.elements room.uses))

pub invariant_of-self-in_err-names : goal.invariant_of-self-in_err-names
invariant_of-self-in_err-names c =
    let room = c.reserve_class.ensures in
    table_held c.self.inside _ c.self.invariant refl room.declarations room.elements room.uses room.names

pub returns-in_err-names-clause-err : goal.returns-in_err-names-clause-err
returns-in_err-names-clause-err c =
    let room = c.reserve_class.ensures in
    rw (← c.self.view_is) (on_err c.from_residual-in_err-names.result (lists_held c.self.inside _ _ _ _ refl room.declarations room.elements room.uses))

pub invariant_of-self-in_err-put_inside : goal.invariant_of-self-in_err-put_inside
invariant_of-self-in_err-put_inside c =
    let room = c.reserve_class.ensures in
    table_held c.self.inside _ c.self.invariant c.in_err-put_inside.ensures.err room.declarations room.elements room.uses room.names

pub returns-in_err-put_inside-clause-err : goal.returns-in_err-put_inside-clause-err
returns-in_err-put_inside-clause-err c =
    let room = c.reserve_class.ensures in
    rw (← c.self.view_is) (on_err c.from_residual-in_err-put_inside.result (lists_held c.self.inside _ _ _ _ c.in_err-put_inside.ensures.err room.declarations room.elements room.uses))

pub invariant_of-self-2 : goal.invariant_of-self-2
invariant_of-self-2 c =
    let lists = lists_of c.self.inside in
    let room : length lists.nodes < 2 ^ 32 - 1 = rw (← c.self.view_is) at c.requires.room in
    let id : c.new-id.result ≡ length c.self.inside.declarations.items = search rules in
    let inside = rw (← c.self.view_is) at c.requires.parent in
    let longer = ap (map (λ v. map element_seen v.items)) (c.push_in_room-2.ensures ∙ ap (λ l. l ++ c.args.elements ∷ []) c.reserve_class.ensures.elements) ∙ map-append (λ v. map element_seen v.items) c.self.inside.elements.items (c.args.elements ∷ []) in
    record {
      lists =
          sound_made lists c.args.parent c.args.node (map element_seen c.args.elements.items) _ _ _ _
          (c.in_ok-put_inside.ensures.ok ∙ ap (λ n. c.self.inside.parent_ids.entries ++ option_to_list (option_map (λ p. (n, p)) c.args.parent)) id)
          (c.push_in_room.ensures ∙ ap (λ l. l ++ c.args.node ∷ []) c.reserve_class.ensures.declarations)
          longer
          (ap (map (λ v. map use_seen v.items)) (c.push_in_room-3.ensures ∙ ap (λ l. l ++ c.new.result ∷ []) c.reserve_class.ensures.uses)
          ∙ map-append (λ v. map use_seen v.items) c.self.inside.private_identifier_references.items (c.new.result ∷ [])
          ∙ ap (λ l. lists.uses ++ map use_seen l ∷ []) c.new.ensures.items)
          c.self.invariant.lists room (rw length-map c.requires.elements) inside;
      named =
          names_pushed c.self.inside.names.items _ lists.elements _ c.in_ok-names.names (map element_seen c.args.elements.items) c.self.invariant.named
          (c.push_in_room-4.ensures ∙ ap (λ l. l ++ c.in_ok-names.names ∷ []) c.reserve_class.ensures.names)
          longer
          (c.in_ok-names.ensures ∙ ap (λ l. meanings_of (map element_seen l)) c.as_slice.ensures.value);
    }

pub returns-clause-ok : goal.returns-clause-ok
returns-clause-ok c =
    let lists = lists_of c.self.inside in
    let id : c.new-id.result ≡ length c.self.inside.declarations.items = search rules in
    made_is lists c.args.parent c.args.node (map element_seen c.args.elements.items) _ _ _ _
    (c.in_ok-put_inside.ensures.ok ∙ ap (λ n. c.self.inside.parent_ids.entries ++ option_to_list (option_map (λ p. (n, p)) c.args.parent)) id)
    (c.push_in_room.ensures ∙ ap (λ l. l ++ c.args.node ∷ []) c.reserve_class.ensures.declarations)
    (ap (map (λ v. map element_seen v.items)) (c.push_in_room-2.ensures ∙ ap (λ l. l ++ c.args.elements ∷ []) c.reserve_class.ensures.elements) ∙ map-append (λ v. map element_seen v.items) c.self.inside.elements.items (c.args.elements ∷ []))
    (ap (map (λ v. map use_seen v.items)) (c.push_in_room-3.ensures ∙ ap (λ l. l ++ c.new.result ∷ []) c.reserve_class.ensures.uses)
    ∙ map-append (λ v. map use_seen v.items) c.self.inside.private_identifier_references.items (c.new.result ∷ [])
    ∙ ap (λ l. lists.uses ++ map use_seen l ∷ []) c.new.ensures.items)
    ∙ ap (λ ls. with_class ls c.args.parent c.args.node (map element_seen c.args.elements.items)) c.self.view_is
