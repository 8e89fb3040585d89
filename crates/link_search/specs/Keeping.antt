-- What the walk keeps from turn to turn.
use Rattle.std.specs.Prelude.{◌≡◌, ◌<◌, ◌+◌, ◌⊎◌, ℕ, List, [], ◌∷◌, Bool, true, false, length}
use Rattle.reachability.specs.Rows.{Among, row}
use Rattle.link_search.specs.declared.rings.Mark.{Mark}
use Rattle.link_search.specs.declared.rings.Mark.TheVariants as mark
use Rattle.link_search.specs.declared.rings.Task.{Task}
use Rattle.link_search.specs.declared.rings.Task.TheVariants as task
use Rattle.link_search.specs.Steps.{LeadsOn, LeadsToRing}
use Rattle.link_search.specs.Walked.{Walked, mark_of, is_new}

-- what is left to do: each number that wasn't entered stands for its row, its leaving and itself
abbrev pub weight_at : Bool → List ℕ → ℕ
weight_at true r = length r + 2
weight_at false r = 0

-- over all numbers
abbrev pub weight : List Mark → List (List ℕ) → ℕ
weight [] rows = 0
weight (m ∷ ms) [] = weight_at (is_new m) [] + weight ms []
weight (m ∷ ms) (r ∷ rows) = weight_at (is_new m) r + weight ms rows

-- and each task for one
abbrev pub left_to_do : List (List ℕ) → Walked → ℕ
left_to_do rows w = weight w.marks rows + length w.tasks

-- the number that a task is about
abbrev pub task_number : Task → ℕ
task_number (task.Enter a) = a
task_number (task.Leave a) = a

module _ (rows : List (List ℕ)) where
  -- all ways from a number end
  pub data WaysEnd : ℕ → Type 0 where
    they_end : (a : ℕ) → ((b : ℕ) → Among b (row rows a) → WaysEnd b) → WaysEnd a

  -- what is to be left leads to all that is done before
  abbrev pub Linked : List Task → Type 0
  Linked [] = Unit {0}
  Linked (t ∷ ts) = ((a : ℕ) → Among (task.Leave a) ts → LeadsOn rows a (task_number t)) × Linked ts

  -- the number was entered, or is to be entered before
  abbrev pub IsMet : List Mark → List ℕ → ℕ → Type 0
  IsMet marks before b = (is_new (mark_of marks b) ≡ false) ⊎ Among b before

  -- what a number leads to is seen before it is left
  abbrev pub Handled : List Mark → List ℕ → List Task → Type 0
  Handled marks before [] = Unit {0}
  Handled marks before (task.Enter b ∷ ts) = Handled marks (b ∷ before) ts
  Handled marks before (task.Leave a ∷ ts) = ((b : ℕ) → Among b (row rows a) → IsMet marks before b) × Handled marks before ts

  -- what is known of a number by its mark
  abbrev pub Knows : Mark → List Task → ℕ → Type 0
  Knows mark.New ts a = Unit {0}
  Knows mark.Open ts a = Among (task.Leave a) ts
  Knows mark.Straight ts a = WaysEnd a
  Knows mark.Ring ts a = LeadsToRing rows a

  -- the numbers of tasks have rows
  abbrev pub Within : ℕ → List Task → Type 0
  Within n [] = Unit {0}
  Within n (t ∷ ts) = (task_number t < n) × Within n ts

  -- what stands between two turns
  pub record Keeps (n : ℕ) (w : Walked) : Type 0 where
    pub size : length w.marks ≡ n
    pub within : Within n w.tasks
    pub linked : Linked w.tasks
    pub handled : Handled w.marks [] w.tasks
    pub knows : (a : ℕ) → Knows (mark_of w.marks a) w.tasks a

  -- a turn of the walk: it keeps all this, leaves less to do, and forgets no number that is to be entered
  pub record Turned (n : ℕ) (w v : Walked) : Type 0 where
    pub keeps : Keeps n v
    pub less : left_to_do rows v < left_to_do rows w
    pub grows : (b : ℕ) → is_new (mark_of w.marks b) ≡ false → is_new (mark_of v.marks b) ≡ false
    pub to_enter : (b : ℕ) → Among (task.Enter b) w.tasks → (is_new (mark_of v.marks b) ≡ false) ⊎ Among (task.Enter b) v.tasks

  -- the walk is back from all that it entered, and has entered a number besides
  pub record Finished (n : ℕ) (w : Walked) (start : ℕ) (v : Walked) : Type 0 where
    pub keeps : Keeps n v
    pub done : v.tasks ≡ []
    pub grows : (b : ℕ) → is_new (mark_of w.marks b) ≡ false → is_new (mark_of v.marks b) ≡ false
    pub entered : is_new (mark_of v.marks start) ≡ false
