use Rattle.std.proofs.Common.{◌∙◌}
use Rattle.scoping.proofs.Places.{place_within, bound_at_place}
use Rattle.scoping.proofs.scoping.Scoping.get_binding_at.Goals as goal

pub symbol_under-requires : goal.symbol_under-requires
symbol_under-requires c = place_within c.args.self.now _ _ _ c.requires.place c.attest.ensures.counted c.args.scope c.requires.scope

pub returns : goal.returns
returns c = c.symbol_under.ensures ∙ bound_at_place c.args.self.now _ _ _ c.requires.place c.attest.ensures.counted c.args.scope c.requires.scope
