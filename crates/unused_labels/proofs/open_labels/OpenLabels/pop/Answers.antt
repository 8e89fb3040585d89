use Rattle.std.proofs.Common.{List, subst, ap, is_some}
use Rattle.unused_labels.specs.declared.open_labels.OpenLabel.{OpenLabel}
use Rattle.unused_labels.specs.OpenPlaces.{nowhere, places_of_map, PlacesAreKnown}
use Rattle.unused_labels.proofs.Places.{popped, last_known}
use Rattle.unused_labels.proofs.open_labels.OpenLabels.pop.Goals as goal

pub put_back-requires : goal.put_back-requires
put_back-requires c =
    let places = places_of_map c.self.inside.innermost.entries in
    ap is_some (last_known nowhere 0 c.pop.new.self.items places c.in-Some.label (subst (λ (ls : List OpenLabel). PlacesAreKnown nowhere 0 ls places) c.in-Some.ensures.items c.self.invariant))

pub invariant_of-self : goal.invariant_of-self
invariant_of-self c =
    let places = places_of_map c.self.inside.innermost.entries in
    popped nowhere 0 c.pop.new.self.items places (places_of_map c.put_back.new.innermost.entries) c.in-Some.label (subst (λ (ls : List OpenLabel). PlacesAreKnown nowhere 0 ls places) c.in-Some.ensures.items c.self.invariant) c.put_back.ensures
