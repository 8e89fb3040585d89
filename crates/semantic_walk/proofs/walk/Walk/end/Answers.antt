use Rattle.semantic_walk.proofs.walk.Walk.end.Goals as goal

pub returns-clause-cost : goal.returns-clause-cost
returns-clause-cost g c = rw (← c.self.view_is) c.settle_rest.ensures.cost
