-- Where a walk stands between two children, in tables that grow.
use Rattle.std.proofs.Common.{◌≡◌, ℕ, ◌<◌, ◌≤◌, length, Option, Some, None, IfSome, subst, arith}
use Rattle.semantic_syntax.specs.Tables.{Tables}
use Rattle.walk_model.specs.WalkState.{WalkState}
use Rattle.table_building.specs.Growth.{Goes, Grows}
use Rattle.table_building.proofs.Growing.{grows-refl, grows-trans, goes-refl, goes-trans, waiting_grows}
use Rattle.semantic_walk.specs.declared.visit.Turn.{Turn}
use Rattle.semantic_walk.specs.Turns.{IsTurn}
use Rattle.semantic_walk.specs.Walker.{Walker}

turn-goes-own : (m n : ℕ) (own : Option ℕ) → m ≤ n → IfSome own (λ s. s < m) → IfSome own (λ s. s < n)
turn-goes-own m n None h below = tt
turn-goes-own m n (Some s) h below = omega (arith, h, below)

pub turn-goes : (w v : WalkState) (turn : Turn) → Goes w v → IsTurn w turn → IsTurn v turn
turn-goes w v turn g h = record {
  outer = omega (arith, g.tables.scopes, h.outer);
  own = turn-goes-own _ _ turn.own g.tables.scopes h.own;
  start = omega (arith, g.waiting, h.start);
}

pub ruleset going = (goes-refl, goes-trans, waiting_grows, turn-goes, grows-refl, grows-trans)

-- a scope that stands in the tables still stands once they have grown
pub stands_on : (t u : Tables) (s : ℕ) → Grows t u → s < length t.scopes → s < length u.scopes
stands_on t u s g h = omega (arith, g.scopes, h)

-- so does a turn, while what waited at the start of its header may still wait
pub turn_grows : (w v : WalkState) (turn : Turn) → Grows w.tables v.tables → turn.header_start ≤ length v.waiting → IsTurn w turn → IsTurn v turn
turn_grows w v turn g start h = record {
  outer = stands_on w.tables v.tables turn.outer g h.outer;
  own = turn-goes-own _ _ turn.own g.scopes h.own;
  start = start;
}

-- to go into a scope makes nothing
pub goes_past : (u v w x : Walker) (s : ℕ) → Goes u.made v.made → w ≡ record v { current = s } → Goes w.made x.made → Goes u.made x.made
goes_past u v w x s g e h = goes-trans u.made v.made x.made g (subst (λ (y : Walker). Goes y.made x.made) e h)
