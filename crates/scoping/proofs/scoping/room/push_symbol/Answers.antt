use Rattle.std.proofs.Common.{◌++◌, ◌∷◌, [], ap, ◌∙◌}
use Rattle.std.proofs.lemmas.List.{map-append}
use Rattle.scoping_rows.proofs.Rows.{rows}
use Rattle.scoping.proofs.scoping.room.push_symbol.Goals as goal

pub returns-clause-uses : goal.returns-clause-uses
returns-clause-uses c =
    let uses = c.args.uses.now.items in
    ap rows c.push_in_room-2.ensures ∙ map-append (λ v. v.items) uses (c.new.result ∷ []) ∙ ap (λ us. rows uses ++ us ∷ []) c.new.ensures.items
