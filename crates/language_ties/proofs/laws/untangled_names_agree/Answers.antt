use Rattle.language_ties.specs.AgreeingNames.{IsPlainName}
use Rattle.language_ties.proofs.agree.AgreeingUses.{agrees_outside, agrees_past_objects}
use Rattle.language_ties.proofs.agree.Differing.{nothing_differs}
use Rattle.language_ties.proofs.clear.UnclashedNames.{unclashed_clear}
use Rattle.language_ties.proofs.headers.InExpressions.{in_expressions}
use Rattle.language_ties.proofs.tangled.PlainNames.{plain_name}
use Rattle.language_ties.proofs.tangled.Untangled.{NoneButWith, no_arguments, none_but_with, read_outside_with, with_alone}
use Rattle.language_ties.proofs.laws.untangled_names_agree.Goals as goal

pub returns-clause-untangled : goal.returns-clause-untangled
returns-clause-untangled c = λ p name h e numbered untangled well_placed no_clash.
    let others : NoneButWith p name = none_but_with p name untangled in
    let plain : IsPlainName p name = plain_name p h e numbered name others well_placed in
    nothing_differs p name (λ q a k n.
    agrees_outside p h e numbered name (no_arguments p name others) (unclashed_clear p h e numbered name plain no_clash) plain q a k n
    (read_outside_with p name untangled q a k n) (in_expressions p h e name q a k))

pub returns-clause-by_with : goal.returns-clause-by_with
returns-clause-by_with c = λ p name h e numbered alone well_placed no_clash q a k n.
    let others : NoneButWith p name = with_alone p name alone in
    let plain : IsPlainName p name = plain_name p h e numbered name others well_placed in
    agrees_past_objects p h e numbered name (no_arguments p name others) (unclashed_clear p h e numbered name plain no_clash) plain q a k n (in_expressions p h e name q a k)
