use Rattle.scoping_rows.proofs.Clones.{clones_same}
use Rattle.scoping.proofs.Clones.{sound_same, tables_same}
use Rattle.scoping.proofs.scoping.Scoping.clone_in_with_semantic_ids_with_another_arena.Goals as goal

pub invariant_of-result : goal.invariant_of-result
invariant_of-result c =
    let named = c.in_ok-named.ensures in
    let rows = c.in_ok-rows.ensures in
    sound_same c.self.inside _ c.self.invariant named.names rows.scopes named.bindings rows.symbols rows.references rows.uses named.free

pub returns : goal.returns
returns c =
    let named = c.in_ok-named.ensures in
    let rows = c.in_ok-rows.ensures in
    rw (← c.self.view_is)
    (tables_same c.self.inside _ _ _ _ _ _ _ _ named.names rows.scopes named.bindings rows.symbols rows.references rows.uses named.free
    (clones_same _ (λ x y h. h) c.self.inside.pure_symbols.keys c.in_ok-pure_symbols.pure_symbols.keys c.in_ok-pure_symbols.ensures.cases))
