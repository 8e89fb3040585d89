use Rattle.std.proofs.Common.{ℕ, None, Some, [], get_or, sym, ap, subst, ◌∙◌}
use Rattle.std.specs.Option.{option_map}
use Rattle.std.proofs.lemmas.List.{length-map}
use Rattle.scoping_rows.specs.Flat.{SlotList, StandsAt, IsIndexed}
use Rattle.scoping_rows.proofs.Filled.{lookup_filled}
use Rattle.scoping_rows.proofs.Indexed.{shown_row, row_read}
use Rattle.scoping_rows.proofs.binding_table.BindingTable.get.Goals as goal

pub position_of-requires : goal.position_of-requires
position_of-requires c =
    let rows = c.self.inside.scopes.items in
    let within = rw length-map at (rw (← c.self.view_is) at c.requires) in
    let read = row_read rows c.args.scope c.index.result c.index-slots.result.now c.index.ensures within c.index-slots.ensures in
    subst (IsIndexed c.self.inside.positions.entries c.args.scope) (sym read) (c.self.invariant c.args.scope)

pub returns-in_err-position : goal.returns-in_err-position
returns-in_err-position c =
    let rows = c.self.inside.scopes.items in
    let row = get_or rows c.args.scope [] in
    let within = rw length-map at (rw (← c.self.view_is) at c.requires) in
    let read = row_read rows c.args.scope c.index.result c.index-slots.result.now c.index.ensures within c.index-slots.ensures in
    rw (← c.self.view_is, shown_row _ _)
    (c.from_residual.ensures ∙ sym (lookup_filled c.args.number row None (subst (λ (r : SlotList). StandsAt r c.args.number None) read c.in_err-position.ensures)))

pub returns : goal.returns
returns c =
    let rows = c.self.inside.scopes.items in
    let row = get_or rows c.args.scope [] in
    let position = c.in_ok-position.position in
    let within = rw length-map at (rw (← c.self.view_is) at c.requires) in
    let read = row_read rows c.args.scope c.index.result c.index-slots.result.now c.index.ensures within c.index-slots.ensures in
    rw (← c.self.view_is, shown_row _ _)
    (ap (option_map (λ (b : ℕ × ℕ). b.1)) (c.in_ok-symbol.ensures ∙ ap (λ (r : SlotList). get_or r position None) read)
    ∙ sym (lookup_filled c.args.number row (Some position) (subst (λ (r : SlotList). StandsAt r c.args.number (Some position)) read c.in_ok-position.ensures)))
