use Rattle.tangled_names.proofs.facts.NameFacts.of.Goals as goal

pub returns : goal.returns
returns c = record {
  places = c.in_ok-places.ensures;
  scopes = c.in_ok-scopes.ensures;
  namesakes = c.in_ok-namesakes.ensures;
  typed = c.in_ok-typed.ensures;
}
