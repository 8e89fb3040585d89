use Rattle.std.proofs.Common.{◌≡◌, List, ◌++◌, Result, Ok, Err, OnOk, ap, ◌∙◌}
use Rattle.semantic_diagnostics.specs.declared.diagnostic.Diagnostic.{Diagnostic}
use Rattle.check_context.specs.Tells.{Tells}
use Rattle.semantic_walk.proofs.on_leaving.tell_leaving.Goals as goal

pub check-requires : goal.check-requires
check-requires g c = c.requires

told_last : {A E : Type 0} (r : Result A E) (said before now rows : List Diagnostic) → said ≡ before → Tells r rows said now → OnOk r (now ≡ before ++ rows)
told_last (Ok done) said before now rows e h = h ∙ ap (λ l. l ++ rows) e
told_last (Err want) said before now rows e h = tt

pub returns : goal.returns
returns g c = told_last c.check.result c.tell_from.new.out _ c.check.new.out _ c.in_ok-tell_from.ensures c.check.ensures
