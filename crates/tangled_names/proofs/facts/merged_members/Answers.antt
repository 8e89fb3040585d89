use Rattle.std.proofs.Common.{map, ◌∙◌}
use Rattle.tangled_names.specs.Gathered.{noted_of}
use Rattle.tangled_names.proofs.Keys.{members_same}
use Rattle.tangled_names.proofs.facts.merged_members.Goals as goal

pub returns : goal.returns
returns c = λ x.
    c.in_ok-names.ensures x
    ∙ members_same (map noted_of c.args.mentions.now) c.args.scoping.now c.in_ok-openers.openers c.in_ok-repeated.repeated x c.in_ok-repeated.ensures c.in_ok-openers.ensures
