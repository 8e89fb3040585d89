-- What is reached in any number of steps, and where the ways end.
use Rattle.std.specs.Prelude.{◌≡◌, List, Bool, true}
use Rattle.reachability.specs.Rows.{Among}

-- from one to the other in any number of steps
pub data Reaches {A : Type 0} (leads : A → List A) : A → A → Type 0 where
  itself : (a : A) → Reaches leads a a
  onward : (a b c : A) → Among b (leads a) → Reaches leads b c → Reaches leads a c

-- it reaches itself in one step or more
pub record ReachesItself {A : Type 0} (leads : A → List A) (a : A) : Type 0 where
  pub next : A
  pub step : Among next (leads a)
  pub back : Reaches leads next a

-- it reaches one that reaches itself
pub record ReachesRing {A : Type 0} (leads : A → List A) (a : A) : Type 0 where
  pub there : A
  pub reached : Reaches leads a there
  pub again : ReachesItself leads there

module _ {A : Type 0} (leads : A → List A) (is_terminal : A → Bool) where
  -- it reaches the terminal
  abbrev pub ReachesTerminal : A → A → Type 0
  ReachesTerminal a t = Reaches leads a t × (is_terminal t ≡ true)

  -- it reaches this terminal alone
  pub record ReachesOne (a t : A) : Type 0 where
    pub reached : ReachesTerminal a t
    pub alone : (u : A) → ReachesTerminal a u → u ≡ t

  -- it reaches two that differ
  pub record ReachesTwo (a : A) : Type 0 where
    pub one : A
    pub other : A
    pub reached_one : ReachesTerminal a one
    pub reached_other : ReachesTerminal a other
    pub differ : one ≡ other → ⊥

  -- it reaches none
  abbrev pub ReachesNone : A → Type 0
  ReachesNone a = (t : A) → ReachesTerminal a t → ⊥
