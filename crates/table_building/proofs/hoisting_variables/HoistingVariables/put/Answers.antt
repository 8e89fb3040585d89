use Rattle.std.proofs.Common.{ap, ◌∙◌}
use Rattle.scoping_rows.specs.Names.{name_of}
use Rattle.semantic_syntax.proofs.Results.{on_err}
use Rattle.semantic_model.specs.Binding.{put}
use Rattle.table_building.proofs.Numbered.{interned_same, interned_numbered, numbered_insert, put_numbered}
use Rattle.table_building.proofs.Marked.{marked_more, marked_insert}
use Rattle.table_building.proofs.hoisting_variables.HoistingVariables.put.Goals as goal

pub invariant_of-self : goal.invariant_of-self
invariant_of-self c = rw c.in_err-number.ensures.err c.self.invariant

pub returns-in_err-number-clause-err : goal.returns-in_err-number-clause-err
returns-in_err-number-clause-err c = rw c.in_err-number.ensures.err (on_err c.from_residual.result c.self.view_is)

pub invariant_of-self-in_err-mark : goal.invariant_of-self-in_err-mark
invariant_of-self-in_err-mark c = record {
  numbered = interned_numbered _ _ _ _ c.in_ok-number.ensures.ok c.self.inside.symbols.entries c.self.invariant.numbered;
  marked = marked_more _ _ c.in_err-mark.ensures.kept c.self.inside.symbols.entries c.self.invariant.marked;
}

pub returns-in_err-mark-clause-err : goal.returns-in_err-mark-clause-err
returns-in_err-mark-clause-err c =
    on_err c.from_residual-in_err-mark.result (interned_same _ _ _ _ c.in_ok-number.ensures.ok c.self.inside.symbols.entries c.self.invariant.numbered ∙ c.self.view_is)

pub invariant_of-self-in_err-insert : goal.invariant_of-self-in_err-insert
invariant_of-self-in_err-insert c =
    rw c.in_err-insert.ensures.err
    (record {
      numbered = interned_numbered _ _ _ _ c.in_ok-number.ensures.ok c.self.inside.symbols.entries c.self.invariant.numbered;
      marked = marked_more _ _ c.in_ok-mark.ensures.kept c.self.inside.symbols.entries c.self.invariant.marked;
    })

pub returns-in_err-insert-clause-err : goal.returns-in_err-insert-clause-err
returns-in_err-insert-clause-err c =
    rw c.in_err-insert.ensures.err
    (on_err c.from_residual-in_err-insert.result (interned_same _ _ _ _ c.in_ok-number.ensures.ok c.self.inside.symbols.entries c.self.invariant.numbered ∙ c.self.view_is))

pub invariant_of-self-2 : goal.invariant_of-self-2
invariant_of-self-2 c =
    let interned = c.in_ok-number.ensures.ok in
    let es = c.self.inside.symbols.entries in
    rw c.in_ok-insert.ensures.entries
    (record {
      numbered = numbered_insert _ c.args.scope _ c.args.symbol es interned.number.within (interned_numbered _ _ _ _ interned es c.self.invariant.numbered);
      marked = marked_insert _ c.args.scope _ c.args.symbol es c.in_ok-mark.ensures.marked (marked_more _ _ c.in_ok-mark.ensures.kept es c.self.invariant.marked);
    })

pub returns-clause-ok : goal.returns-clause-ok
returns-clause-ok c =
    let interned = c.in_ok-number.ensures.ok in
    let numbered = interned_numbered _ _ _ _ interned c.self.inside.symbols.entries c.self.invariant.numbered in
    rw (← c.self.view_is, c.in_ok-insert.ensures.entries)
    (put_numbered _ _ c.args.scope _ interned.number c.args.symbol c.self.inside.symbols.entries numbered
    ∙ ap (λ bs. put bs c.args.scope (name_of c.args.name) c.args.symbol) (interned_same _ _ _ _ interned c.self.inside.symbols.entries c.self.invariant.numbered))
