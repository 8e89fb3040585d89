use Rattle.std.proofs.Common.{◌≡◌, drop}
use Rattle.link_search.specs.Walked.{enter_tasks}
use Rattle.link_search.proofs.rings.Walk.go_to_all.Given as goal

abbrev pub invariant-loop-b : goal.invariant-loop-b
invariant-loop-b l = (l.self.marks ≡ l.fn.self.marks) × (enter_tasks (drop l.b-index l.numbers) l.self.tasks ≡ enter_tasks l.numbers l.fn.self.tasks)
