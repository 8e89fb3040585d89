-- A walk from number to number, which enters each number once.
use Rattle.std.specs.Prelude.{ℕ, List, [], ◌∷◌, Bool, true, false, set, slice_index_or}
use Rattle.std.specs.List.{list_any}
use Rattle.link_search.specs.declared.rings.Mark.{Mark}
use Rattle.link_search.specs.declared.rings.Mark.TheVariants as mark
use Rattle.link_search.specs.declared.rings.Task.{Task}
use Rattle.link_search.specs.declared.rings.Task.TheVariants as task

-- the marks, and what is left to do, next first
pub record Walked : Type 0 where
  pub marks : List Mark
  pub tasks : List Task

-- how far the walk is with a number
abbrev pub mark_of : List Mark → ℕ → Mark
mark_of marks a = slice_index_or marks a mark.New

-- it wasn't entered
abbrev pub is_new : Mark → Bool
is_new mark.New = true
is_new _ = false

-- it leads to a ring
abbrev pub is_ring : Mark → Bool
is_ring mark.Ring = true
is_ring _ = false

-- the walk isn't back from it, or it leads to a ring
abbrev pub turns : Mark → Bool
turns mark.Open = true
turns mark.Ring = true
turns _ = false

-- the numbers are entered, the last one next
abbrev pub enter_tasks : List ℕ → List Task → List Task
enter_tasks [] ts = ts
enter_tasks (b ∷ bs) ts = enter_tasks bs (task.Enter b ∷ ts)

-- a number is entered, with its row
abbrev pub number_entered : Walked → ℕ → List ℕ → Walked
number_entered w a r = record { marks = set w.marks a mark.Open; tasks = enter_tasks r (task.Leave a ∷ w.tasks) }

-- one of the numbers is open, or leads to a ring
abbrev pub any_turns : List Mark → List ℕ → Bool
any_turns marks r = list_any (λ b. turns (mark_of marks b)) r

-- the mark of a number that is left
abbrev pub mark_for : Bool → Mark
mark_for true = mark.Ring
mark_for false = mark.Straight

-- a number is left, with its row
abbrev pub number_left : Walked → ℕ → List ℕ → Walked
number_left w a r = record w { marks = set w.marks a (mark_for (any_turns w.marks r)) }
