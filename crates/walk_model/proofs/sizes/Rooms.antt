-- Ids are left at each place of the walk.
use Rattle.std.proofs.Common.{List, [], ◌∷◌, ◌++◌, arith}
use Rattle.semantic_syntax.specs.Tables.{Tables}
use Rattle.semantic_model.specs.Declaration.{Declaration}
use Rattle.semantic_model.specs.Step.{Step}
use Rattle.walk_model.specs.WalkState.{WalkState}
use Rattle.walk_model.specs.Walks.{after, after_all}
use Rattle.walk_model.specs.Room.{opened_by, names_declared_by, referred_by, HasRoom}
use Rattle.walk_model.proofs.sizes.InSteps.{all-append}
use Rattle.walk_model.proofs.sizes.Growth.{Adds, step_adds}

-- once the first step is done
pub room_once : (t u : Tables) (step : Step) (more : List Step) → HasRoom t (step ∷ more) → Adds (opened_by step) (names_declared_by step) (referred_by step) t u → HasRoom u more
room_once t u step more h a = record {
  scopes = omega (arith, h.scopes, a.of_scopes);
  symbols = omega (arith, h.symbols, a.of_symbols);
  references = omega (arith, h.references, a.of_references);
}

pub room_after : (ds : List Declaration) (w : WalkState) (step : Step) (more : List Step) → HasRoom w.tables (step ∷ more) → HasRoom (after ds w step).tables more
room_after ds w step more h = room_once w.tables (after ds w step).tables step more h (step_adds ds w step)

pub room_past : (ds : List Declaration) (w : WalkState) (xs ys : List Step) → HasRoom w.tables (xs ++ ys) → HasRoom (after_all ds w xs).tables ys
room_past ds w [] ys h = h
room_past ds w (x ∷ xs) ys h = room_past ds (after ds w x) xs ys (room_after ds w x (xs ++ ys) h)

-- what has room for all has room for the first of it
pub room_first : (t : Tables) (xs ys : List Step) → HasRoom t (xs ++ ys) → HasRoom t xs
room_first t xs ys h = record {
  scopes = omega (arith, h.scopes, all-append opened_by xs ys);
  symbols = omega (arith, h.symbols, all-append names_declared_by xs ys);
  references = omega (arith, h.references, all-append referred_by xs ys);
}
