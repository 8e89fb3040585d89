use Rattle.language_ties.proofs.agree.AgreeingUses.{agrees_outside, agrees_past_objects}
use Rattle.language_ties.proofs.agree.Differing.{nothing_differs}
use Rattle.language_ties.proofs.clear.UnclashedNames.{unclashed_clear}
use Rattle.language_ties.proofs.headers.InExpressions.{in_expressions}
use Rattle.language_ties.proofs.laws.plain_names_agree.Goals as goal

pub returns-clause-outside : goal.returns-clause-outside
returns-clause-outside c = λ p name h e numbered not_arguments plain no_clash q a k n w.
    agrees_outside p h e numbered name not_arguments (unclashed_clear p h e numbered name plain no_clash) plain q a k n w (in_expressions p h e name q a k)

pub returns-clause-none : goal.returns-clause-none
returns-clause-none c = λ p name h e numbered not_arguments plain no_clash outside.
    nothing_differs p name (λ q a k n.
    agrees_outside p h e numbered name not_arguments (unclashed_clear p h e numbered name plain no_clash) plain q a k n (outside q a k n) (in_expressions p h e name q a k))

pub returns-clause-past_objects : goal.returns-clause-past_objects
returns-clause-past_objects c = λ p name h e numbered not_arguments plain no_clash q a k n.
    agrees_past_objects p h e numbered name not_arguments (unclashed_clear p h e numbered name plain no_clash) plain q a k n (in_expressions p h e name q a k)
