use Rattle.std.proofs.Common.{◌<◌, ◌∷◌, sym, ap, subst, ◌∙◌, length, All}
use Rattle.reachability.specs.Rows.{lists}
use Rattle.reachability.proofs.Lists.{row_within}
use Rattle.link_search.specs.Walked.{number_entered, number_left}
use Rattle.link_search.specs.declared.rings.Task.{Task}
use Rattle.link_search.specs.Keeping.{Keeps, Turned}
use Rattle.link_search.proofs.Walking.{passes, enters, leaves}
use Rattle.link_search.proofs.rings.Walk.turn.Goals as goal

pub leave-requires-clause-row : goal.leave-requires-clause-row
leave-requires-clause-row c =
    subst (λ n. All (λ b. b < n) c.row-in-Leave.result.now) (sym c.requires.keeps.size)
    (subst (All (λ b. b < length c.args.rows.now)) (sym c.row-in-Leave.ensures) (row_within (length c.args.rows.now) (lists c.args.rows.now) c.in-Leave.a c.requires.rows))

pub returns-in_ok-enter-in-Enter : goal.returns-in_ok-enter-in-Enter
returns-in_ok-enter-in-Enter c = record {
  ok =
      subst (λ t. Turned (lists c.args.rows.now) (length c.args.rows.now) (record { marks = c.args.self.now.marks; tasks = t ∷ c.args.self.now.tasks }) c.enter.new.self) (sym c.in-Enter.is)
      (subst (Turned (lists c.args.rows.now) (length c.args.rows.now) (record { marks = c.args.self.now.marks; tasks = Task.Enter c.in-Enter.a ∷ c.args.self.now.tasks })) (sym (c.in_ok-enter-in-Enter.ensures.ok ∙ ap (number_entered c.args.self.now c.in-Enter.a) c.row.ensures))
      (enters (lists c.args.rows.now) (length c.args.rows.now) c.args.self.now.marks c.in-Enter.a c.args.self.now.tasks c.requires.rows
      (subst (λ t. Keeps (lists c.args.rows.now) (length c.args.rows.now) (record { marks = c.args.self.now.marks; tasks = t ∷ c.args.self.now.tasks })) c.in-Enter.is c.requires.keeps)
      (sym c.is_new.ensures ∙ c.if-is_new.true)));
}

pub returns-else-is_new : goal.returns-else-is_new
returns-else-is_new c = record {
  ok =
      subst (λ t. Turned (lists c.args.rows.now) (length c.args.rows.now) (record { marks = c.args.self.now.marks; tasks = t ∷ c.args.self.now.tasks }) c.args.self.now) (sym c.in-Enter.is)
      (passes (lists c.args.rows.now) (length c.args.rows.now) c.args.self.now.marks c.in-Enter.a c.args.self.now.tasks
      (subst (λ t. Keeps (lists c.args.rows.now) (length c.args.rows.now) (record { marks = c.args.self.now.marks; tasks = t ∷ c.args.self.now.tasks })) c.in-Enter.is c.requires.keeps)
      (sym c.is_new.ensures ∙ c.if-is_new.false));
}

pub returns-in-Leave : goal.returns-in-Leave
returns-in-Leave c = record {
  ok =
      subst (λ t. Turned (lists c.args.rows.now) (length c.args.rows.now) (record { marks = c.args.self.now.marks; tasks = t ∷ c.args.self.now.tasks }) c.leave.new.self) (sym c.in-Leave.is)
      (subst (Turned (lists c.args.rows.now) (length c.args.rows.now) (record { marks = c.args.self.now.marks; tasks = Task.Leave c.in-Leave.a ∷ c.args.self.now.tasks })) (sym (c.leave.ensures ∙ ap (number_left c.args.self.now c.in-Leave.a) c.row-in-Leave.ensures))
      (leaves (lists c.args.rows.now) (length c.args.rows.now) c.args.self.now.marks c.in-Leave.a c.args.self.now.tasks
      (subst (λ t. Keeps (lists c.args.rows.now) (length c.args.rows.now) (record { marks = c.args.self.now.marks; tasks = t ∷ c.args.self.now.tasks })) c.in-Leave.is c.requires.keeps)));
}
