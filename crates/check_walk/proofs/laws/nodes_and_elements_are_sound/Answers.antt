use Rattle.check_context.proofs.GoodChildren.{child_good}
use Rattle.check_walk.proofs.Conditions.{program_in_source, entered_sound, below_sound, left_sound}
use Rattle.check_walk.proofs.laws.nodes_and_elements_are_sound.Goals as goal

pub returns-clause-program : goal.returns-clause-program
returns-clause-program c = program_in_source

pub returns-clause-child : goal.returns-clause-child
returns-clause-child c = λ source r f h. child_good source r f h

pub returns-clause-entering : goal.returns-clause-entering
returns-clause-entering c = λ source above here b h k. entered_sound source above here b h k

pub returns-clause-below : goal.returns-clause-below
returns-clause-below c = λ source k node f b h s. below_sound source k node f b h s

pub returns-clause-leaving : goal.returns-clause-leaving
returns-clause-leaving c = λ source k b s. left_sound source k b s
