use Rattle.std.proofs.Common.{ap, subst, ◌∙◌}
use Rattle.name_lint.specs.Gathered.{symbol_at_node}
use Rattle.name_lint.specs.Live.{AreOutsideSet, unmarked_from}
use Rattle.name_lint.specs.Within.{LiveIn}
use Rattle.name_lint.proofs.Outside.{outside}
use Rattle.name_lint.proofs.liveness.unused_symbols.Goals as goal

pub returns : goal.returns
returns c =
    subst (λ n. AreOutsideSet n (LiveIn c.args.scoping.now (symbol_at_node c.args.tables.now) c.args.exported.now c.args.owners.now) c.new.result) c.in_ok-marks.ensures.length
    (outside c.in_ok-marks.marks.items (LiveIn c.args.scoping.now (symbol_at_node c.args.tables.now) c.args.exported.now c.args.owners.now) c.in_ok-marks.ensures.sound c.in_ok-marks.ensures.complete c.new.result
    (c.new.ensures ∙ c.in_ok-unused.ensures ∙ ap (unmarked_from 0) c.deref.ensures.value))
