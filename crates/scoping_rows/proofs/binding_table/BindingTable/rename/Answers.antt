use Rattle.std.proofs.Common.{◌==◌, refl}
use Rattle.std.proofs.lemmas.Bool.{eq-eqb, false_from_ne_true, eqb-true}
use Rattle.scoping_rows.proofs.Renumbered.{rename_commutes}
use Rattle.scoping_rows.proofs.binding_table.BindingTable.rename.Goals as goal

pub returns-then-new-old-clause-ok : goal.returns-then-new-old-clause-ok
returns-then-new-old-clause-ok c = rw (eq-eqb c.args.new c.args.old c.if-new-old.true) refl

pub returns-clause-ok : goal.returns-clause-ok
returns-clause-ok c =
    let apart = false_from_ne_true (c.args.new == c.args.old) (λ t. c.if-new-old.false (eqb-true c.args.new c.args.old t)) in
    rw (c.remove.ensures, c.in_ok-insert.ensures.ok, apart) (rename_commutes c.args.self.now c.args.scope c.args.old c.args.new c.args.symbol apart c.requires.scope)
