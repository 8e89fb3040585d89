use Rattle.mangle_model.specs.OneNameEach.{one_name_each}
use Rattle.mangle_model.proofs.EachAccepted.{always_accepted}
use Rattle.mangle_model.proofs.Settled.{accepted}
use Rattle.mangle_model.proofs.laws.the_simple_mangler_mangles.Goals as goal

pub returns : goal.returns
returns c = λ o p h n. accepted o p h n (one_name_each o p) (always_accepted o p h n)
