-- What a recursion over a program's tree knows, before a node, and between its children.
use Rattle.std.specs.Prelude.{◌≡◌, ℕ, ◌<◌, Option, Some, None, length}
use Rattle.semantic_tree.specs.Forest.{Forest}
use Rattle.semantic_model.specs.Place.{Place, OpenScope}
use Rattle.walk_model.specs.WalkState.{WalkState}
use Rattle.walk_model.specs.Shown.{ShowsChain, ShowsOwn, HasVar}
use Rattle.walk_model.specs.Waits.{IsSound, HoldsAt}
use Rattle.walk_model.specs.Seated.{IsSeated, IsSeat}

-- so many scopes are made, and those of the place are shown
pub record WalkStandsAt (w : WalkState) (p : Place) (own : Option OpenScope) (n : ℕ) : Type 0 where
  pub count : length w.tables.scopes ≡ n
  pub chain : ShowsChain w.tables p.chain
  pub shown : ShowsOwn w.tables p own

-- before a node below the root
pub record IsReady (w : WalkState) (p : Place) (n : ℕ) : Type 0 where
  pub some : 0 < n
  pub stands : WalkStandsAt w p None n
  pub sound : IsSound w
  pub seat : IsSeat p n

-- where no own scope is open, the place stands in some scope
abbrev pub OpensInside : Place → Option OpenScope → Type 0
OpensInside p None = HasVar p.chain
OpensInside p (Some s) = Unit {0}

-- between two children of a place, with those that are left
pub record IsBetween (w : WalkState) (p : Place) (own : Option OpenScope) (n cursor start : ℕ) (f : Forest) : Type 0 where
  pub some : 0 < n
  pub stands : WalkStandsAt w p own n
  pub holds : HoldsAt w own start
  pub seated : IsSeated p own n cursor f
  pub inside : OpensInside p own
