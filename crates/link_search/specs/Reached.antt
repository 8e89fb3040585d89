-- Which terminals a number reaches: none, one, or several.
use Rattle.std.specs.Prelude.{◌≡◌, ℕ, ◌==◌, List, [], ◌∷◌, ◌++◌, ◌+◌, Bool, true, false, cond, map, set, slice_index_or}
use Rattle.reachability.specs.Rows.{Among}
use Rattle.link_search.specs.Steps.{Leads}
use Rattle.link_search.specs.declared.terminals.Terminals.{Terminals}
use Rattle.link_search.specs.declared.terminals.Terminals.TheVariants as those

module _ (rows : List (List ℕ)) (ends : List (ℕ × ℕ)) where
  -- it leads to a number that ends in the terminal
  pub record ReachesEnd (a terminal : ℕ) : Type 0 where
    pub there : ℕ
    pub reached : Leads rows a there
    pub end : Among (there, terminal) ends

  -- it reaches two that differ
  pub record ReachesTwo (a : ℕ) : Type 0 where
    pub one : ℕ
    pub other : ℕ
    pub reached_one : ReachesEnd a one
    pub reached_other : ReachesEnd a other
    pub differ : one ≡ other → ⊥

  -- what an answer says of a number
  abbrev pub AnswerTells : Terminals → ℕ → Type 0
  AnswerTells those.Nowhere a = (t : ℕ) → ReachesEnd a t → ⊥
  AnswerTells (those.One t) a = ReachesEnd a t × ((u : ℕ) → ReachesEnd a u → u ≡ t)
  AnswerTells those.Several a = ReachesTwo a

-- those of both
abbrev pub joined : Terminals → Terminals → Terminals
joined those.Nowhere y = y
joined x those.Nowhere = x
joined (those.One t) (those.One u) = cond (t == u) (those.One t) those.Several
joined _ _ = those.Several

-- the first has all that the second has
abbrev pub absorbs : Terminals → Terminals → Bool
absorbs x those.Nowhere = true
absorbs those.Several y = true
absorbs (those.One t) (those.One u) = t == u
absorbs _ _ = false

-- what is known of each number, and the numbers whose news are to be handed on, next first
pub record Spread : Type 0 where
  pub values : List Terminals
  pub news : List ℕ

-- what is known of a number
abbrev pub known_of : List Terminals → ℕ → Terminals
known_of values a = slice_index_or values a those.Nowhere

-- a number reaches these, too
abbrev pub spread_raised : Spread → ℕ → Terminals → Spread
spread_raised s a v = cond (absorbs (known_of s.values a) v) s (record { values = set s.values a (joined (known_of s.values a) v); news = a ∷ s.news })

-- numbers reach these, too
abbrev pub raised_all : Spread → List ℕ → Terminals → Spread
raised_all s [] v = s
raised_all s (a ∷ more) v = raised_all (spread_raised s a v) more v

-- numbers end in terminals
abbrev pub with_ends : Spread → List (ℕ × ℕ) → Spread
with_ends s [] = s
with_ends s (end ∷ more) = with_ends (spread_raised s end.0 (those.One end.1)) more

-- each step of the rows from a number on, backward
abbrev pub backward_from : ℕ → List (List ℕ) → List (ℕ × ℕ)
backward_from n [] = []
backward_from n (r ∷ rs) = map (λ b. (b, n)) r ++ backward_from (n + 1) rs
