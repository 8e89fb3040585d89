-- What the name of a block function adds.
use Rattle.std.proofs.Common.{ℕ, ◌+◌, ◌≤◌, Option, None, Some, length}
use Rattle.semantic_model.specs.Naming.{Naming}
use Rattle.walk_model.proofs.sizes.Growth.{declare_adds, moved_adds}
use Rattle.table_building.specs.Each.{settle_in_block}
use Rattle.semantic_walk.specs.Walker.{Walker}
use Rattle.semantic_walk.specs.Binds.{block_target, moving_one}

-- it makes a symbol at most
pub move_adds : (w : Walker) (d : Naming) → length (moving_one w d).made.tables.symbols ≤ length w.made.tables.symbols + 1
move_adds w d = by (block_target w.made.tables w.namesakes w.current d.name)
  where
    by : (o : Option ℕ) → length (settle_in_block w.made w.current o d).tables.symbols ≤ length w.made.tables.symbols + 1
    by None = (declare_adds w.made w.current d).of_symbols
    by (Some target) = (moved_adds w.made w.current target d).of_symbols
