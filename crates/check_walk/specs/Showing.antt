-- The classes that a walk has noted, and those that checks look at.
use Rattle.std.specs.Prelude.{◌≡◌, ◌∷◌, List, true, false, Option, ℕ, length}
use Rattle.std.specs.List.{AllByRecursion}
use Rattle.semantic_kinds.specs.declared.kind.AstType.TheVariants as kind
use Rattle.semantic_kinds.specs.declared.role.Role.TheVariants as role
use Rattle.semantic_tree.specs.Forest.{Forest, nothing, tree}
use Rattle.semantic_tree.specs.Views.{is, children_of}
use Rattle.semantic_model.specs.Place.{Place}
use Rattle.class_table.specs.Lists.{ClassLists, IsInside}
use Rattle.class_table.specs.Told.{FitCurrent}
use Rattle.class_table.specs.declared.builder.ClassTableBuilder.{ClassTableBuilder}
use Rattle.check_model.specs.Context.{classes_from, uses_from}
use Rattle.check_model.specs.Sight.{SeenClass}
use Rattle.check_model.specs.SightOf.{bodies_of, classes_around, classes_at, uses_at}
use Rattle.check_walk.specs.Shaped.{is_class_shape, are_class_shapes}

-- on leaving a place: the current class and those around it, and of a class the uses of private names in it; a class body is left within its class, and no row looks at it
pub record ShowsClasses (lists : ClassLists) (current : Option ℕ) (p : Place) : Type 0 where
  pub classes : is kind.ClassBody p.node ≡ false → classes_from lists current ≡ classes_at p.node p.path
  pub uses : is kind.Class p.node ≡ true → uses_from lists current ≡ uses_at p.node

-- classes are noted, each behind the one around it, and the current one and those around it are these
pub record IsInClasses (b : ClassTableBuilder) (around : List SeenClass) : Type 0 where
  pub enabled : b.enabled ≡ true
  pub fits : FitCurrent b.classes b.current_class_id
  pub inside : AllByRecursion (IsInside (length b.classes.nodes)) b.classes.parents
  pub classes : classes_from b.classes b.current_class_id ≡ around

-- children of a place are left
pub record ShowsAround (b : ClassTableBuilder) (p : Place) (f : Forest) : Type 0 where
  pub around : IsInClasses b (classes_around (p.node ∷ p.path))
  pub shape : is_class_shape p.node.kind f ≡ true
  pub below : are_class_shapes f ≡ true
  -- the body of a class is yet to come
  pub bodies : is kind.Class p.node ≡ true → bodies_of p.node ≡ children_of role.Body f

-- between two children of a place, with those that are left
abbrev pub ShowsBetween : ClassTableBuilder → Place → Forest → Type 0
ShowsBetween b p nothing = ShowsClasses b.classes b.current_class_id p
ShowsBetween b p (tree r k span text marks below id after) = ShowsAround b p (tree r k span text marks below id after)
