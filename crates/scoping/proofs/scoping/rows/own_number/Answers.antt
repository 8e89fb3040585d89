use Rattle.std.proofs.Common.{◌≡◌, sym, ap, subst, get_or, ◌∙◌}
use Rattle.std.proofs.lemmas.List.{get_or_default}
use Rattle.scoping_rows.specs.Names.{name_at, IsNumberOf}
use Rattle.scoping_rows.specs.Row.{Row, no_row}
use Rattle.scoping.proofs.Shown.{read_named}
use Rattle.scoping.proofs.scoping.rows.own_number.Goals as goal

pub attest-requires : goal.attest-requires
attest-requires c = rw c.name-number.ensures (read_named _ c.index.result c.args.id c.index-2.result.now c.args.rows.now.items c.requires.named c.index.ensures c.requires.id c.index-2.ensures)

pub returns : goal.returns
returns c =
    let rows = c.args.rows.now.items in
    let row : c.index-2.result.now ≡ get_or rows c.args.id no_row =
    c.index-2.ensures ∙ ap (λ k. get_or rows k c.index-2.result.now) c.index.ensures ∙ sym (get_or_default rows c.args.id no_row c.index-2.result.now c.requires.id) in
    subst (λ k. IsNumberOf c.args.names.now (name_at c.args.names.now k) c.name-number.result) (c.name-number.ensures ∙ ap (λ (y : Row). y.name) row) c.attest.ensures
