-- What a recursion over a program knows, with which it may check each node on leaving it.
use Rattle.std.specs.Prelude.{◌≡◌, ℕ, List, true}
use Rattle.semantic_tree.specs.Forest.{Forest, numbered}
use Rattle.semantic_tree.specs.Tree.{IsPreorder}
use Rattle.semantic_model.specs.Place.{Place}
use Rattle.walk_model.specs.WalkState.{WalkState}
use Rattle.class_table.specs.declared.builder.ClassTableBuilder.{ClassTableBuilder}
use Rattle.check_model.specs.SightOf.{classes_around}
use Rattle.check_walk.specs.Apart.{HasApart}
use Rattle.check_walk.specs.Shaped.{is_class_shape, are_class_shapes}
use Rattle.check_walk.specs.Showing.{IsInClasses, ShowsBetween}
use Rattle.check_context.specs.Sound.{HaveGoodSpans, IsInSource, AreAllSound}

-- it has come to a place: the classes are those around it, and the node and all below it are as they should be
pub record IsReadyAt (source : List ℕ) (w : WalkState) (b : ClassTableBuilder) (p : Place) : Type 0 where
  pub around : IsInClasses b (classes_around p.path)
  pub shape : is_class_shape p.node.kind p.node.children ≡ true
  pub below : are_class_shapes p.node.children ≡ true
  pub in_source : IsInSource source p.node
  pub order : IsPreorder p.node
  pub apart : HasApart w
  pub elements : AreAllSound source b.classes.elements

-- it stands between two children of the place, with those that are left
pub record IsReadyBetween (source : List ℕ) (w : WalkState) (b : ClassTableBuilder) (p : Place) (f : Forest) : Type 0 where
  pub classes : ShowsBetween b p f
  pub spans : HaveGoodSpans source f
  -- the id of the first that is left
  pub next : ℕ
  pub order : numbered next f ≡ f
  pub apart : HasApart w
  pub elements : AreAllSound source b.classes.elements
