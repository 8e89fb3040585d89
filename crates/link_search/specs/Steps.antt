-- What a number leads to, and rings.
use Rattle.std.specs.Prelude.{ℕ, List}
use Rattle.reachability.specs.Rows.{Among, row}

-- from a to b in any number of steps
pub data Leads (rows : List (List ℕ)) : ℕ → ℕ → Type 0 where
  itself : (a : ℕ) → Leads rows a a
  onward : (a b c : ℕ) → Among b (row rows a) → Leads rows b c → Leads rows a c

-- from a to b in one step or more
pub record LeadsOn (rows : List (List ℕ)) (a b : ℕ) : Type 0 where
  pub next : ℕ
  pub step : Among next (row rows a)
  pub rest : Leads rows next b

-- it leads to a number that leads to itself
pub record LeadsToRing (rows : List (List ℕ)) (a : ℕ) : Type 0 where
  pub there : ℕ
  pub reached : Leads rows a there
  pub ring : LeadsOn rows there there
