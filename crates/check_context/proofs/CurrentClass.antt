-- The classes that a check sees begin with the current one.
use Rattle.std.proofs.Common.{◌≡◌, ℕ, Option, Some, None, refl}
use Rattle.std.specs.Prelude.{is_some}
use Rattle.class_table.specs.Lists.{ClassLists}
use Rattle.check_model.specs.Context.{classes_from}
use Rattle.check_model.specs.Search.{first}

pub first_class : (lists : ClassLists) (current : Option ℕ) → is_some (first (classes_from lists current)) ≡ is_some current
first_class lists None = refl
first_class lists (Some c) = refl

pub ruleset current = (first_class)
