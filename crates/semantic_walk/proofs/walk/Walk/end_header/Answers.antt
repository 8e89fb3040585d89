use Rattle.semantic_walk.proofs.walk.Walk.end_header.Goals as goal

pub returns-clause-cost : goal.returns-clause-cost
returns-clause-cost g c = rw (← c.self.view_is) c.end_header.ensures.cost
