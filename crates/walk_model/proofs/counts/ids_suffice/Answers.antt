use Rattle.walk_model.proofs.sizes.ProgramRoom.{walk_room}
use Rattle.walk_model.proofs.counts.ids_suffice.Goals as goal

pub returns : goal.returns
returns c = walk_room
