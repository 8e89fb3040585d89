use Rattle.std.proofs.lemmas.List.{length-map}
use Rattle.scoping.proofs.Shown.{bound_at, bound_symbol, shown_at, scope_within}
use Rattle.scoping.proofs.scoping.Scoping.attest.Goals as goal

pub returns-clause-source : goal.returns-clause-source
returns-clause-source c =
    let sound = c.self.invariant in
    rw (← c.self.view_is) (record {
      parents = λ s below. sound.forest.exist s;
      ends = sound.forest.ends;
      bound_symbols = λ s name below.
          rw (shown_at _ _ c.self.inside.bindings sound.bound s (scope_within c.self.inside sound s below), length-map)
          (bound_symbol c.self.inside.names name _ _ _ (bound_at _ _ c.self.inside.bindings s sound.bound));
    })

pub returns-clause-counted : goal.returns-clause-counted
returns-clause-counted c = rw (← c.self.view_is, length-map, length-map) c.self.invariant.counted
