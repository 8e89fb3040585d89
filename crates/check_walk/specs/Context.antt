-- When what is handed to a check shows a walk at a place.
use Rattle.std.specs.Prelude.{◌≡◌, ℕ, List, true}
use Rattle.semantic_kinds.specs.declared.kind.AstType.TheVariants as kind
use Rattle.semantic_tree.specs.Views.{is}
use Rattle.semantic_model.specs.Place.{Place, innermost}
use Rattle.semantic_model.specs.Ambient.{ambient_inside}
use Rattle.walk_model.specs.WalkState.{WalkState}
use Rattle.walk_model.specs.Shown.{ShowsChain}
use Rattle.check_model.specs.Context.{Context, unresolved_by}
use Rattle.check_model.specs.SightOf.{scopes_it_stands_in, elements_at}
use Rattle.check_walk.specs.Showing.{ShowsClasses}
use Rattle.check_walk.specs.WalkSight.{unresolved_in}

-- the context of a walk at a place
pub record IsContextAt (c : Context) (source : List ℕ) (w : WalkState) (p : Place) : Type 0 where
  pub source_is : c.source ≡ source
  pub source_type : c.source_type ≡ p.source_type
  pub tables : c.tables ≡ w.tables
  pub nodes : c.nodes ≡ w.nodes
  pub path : c.path ≡ p.path
  pub current : c.current_scope ≡ (innermost (scopes_it_stands_in p)).number
  pub is_ambient : c.is_ambient ≡ ambient_inside p.node p.is_ambient
  -- the scopes of the place have rows in the tables
  pub chain_shown : ShowsChain w.tables (scopes_it_stands_in p)
  -- the classes: on leaving a class it is still the current one; all are there when the program is left
  pub classes : ShowsClasses c.classes c.current_class p
  pub references : is kind.Program p.node ≡ true → unresolved_by w.nodes w.tables ≡ unresolved_in w.tables
  pub elements : is kind.Program p.node ≡ true → c.classes.elements ≡ elements_at p.node
