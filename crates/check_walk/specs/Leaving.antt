-- When what is handed to a check is what a walk has at the place that it leaves.
use Rattle.std.specs.Prelude.{◌≡◌, ℕ, List}
use Rattle.semantic_model.specs.Ambient.{ambient_inside}
use Rattle.semantic_model.specs.Place.{Place, scope_of_place}
use Rattle.walk_model.specs.WalkState.{WalkState}
use Rattle.check_model.specs.Context.{Context}
use Rattle.check_walk.specs.Showing.{ShowsClasses}

-- the walk's own fields, at the place
pub record IsHandedAt (c : Context) (source : List ℕ) (w : WalkState) (p : Place) : Type 0 where
  pub source_is : c.source ≡ source
  pub source_type : c.source_type ≡ p.source_type
  pub tables : c.tables ≡ w.tables
  pub nodes : c.nodes ≡ w.nodes
  pub path : c.path ≡ p.path
  pub current : c.current_scope ≡ scope_of_place p
  pub is_ambient : c.is_ambient ≡ ambient_inside p.node p.is_ambient
  pub classes : ShowsClasses c.classes c.current_class p
