use Rattle.scoping.proofs.Named.{under-named}
use Rattle.scoping.proofs.Shown.{all_known}
use Rattle.scoping.proofs.scoping.Scoping.place_in_scopes.Goals as goal

pub returns : goal.returns
returns c = rw (← c.self.view_is) (under-named _ _ _ c.find.ensures c.self.inside.bindings (all_known _ _ c.self.inside.bindings c.self.invariant.bound))
