-- Where imports and exported names lead, in numbers, and what they come to.
use Rattle.std.specs.Prelude.{ℕ, ◌<◌, List, [], ◌∷◌, Bool, true, false}
use Rattle.link_search.specs.Numbering.{Pair}
use Rattle.link_search.specs.declared.target.Target.{Target}
use Rattle.link_search.specs.declared.target.Target.TheVariants.{Name, End}
use Rattle.link_search.specs.declared.answer.Found.{Found}
use Rattle.link_search.specs.declared.answer.Found.TheVariants as found
use Rattle.link_search.specs.Reaches.{ReachesRing, ReachesOne, ReachesTwo, ReachesNone}

-- the target is a terminal
abbrev pub is_end : Target → Bool
is_end (Name m k) = false
is_end (End t) = true

-- the names among targets, each as a module and a name
abbrev pub target_names : List Target → List Pair
target_names [] = []
target_names (Name m k ∷ ts) = (m, k) ∷ target_names ts
target_names (End t ∷ ts) = target_names ts

-- names are told by numbers that there are
abbrev pub IsTargetWithin : (modules names : ℕ) → Target → Type 0
IsTargetWithin modules names (Name m k) = (m < modules) × (k < names)
IsTargetWithin modules names (End t) = Unit {0}

abbrev pub AreTargetsWithin : (modules names : ℕ) → List Target → Type 0
AreTargetsWithin modules names [] = Unit {0}
AreTargetsWithin modules names (t ∷ ts) = IsTargetWithin modules names t × AreTargetsWithin modules names ts

-- what a target comes to
abbrev pub TargetComesTo : (Target → List Target) → Target → Found → Type 0
TargetComesTo leads t found.Missing = ReachesNone leads is_end t × (ReachesRing leads t → ⊥)
TargetComesTo leads t found.Ring = ReachesNone leads is_end t × ReachesRing leads t
TargetComesTo leads t (found.One e) = ReachesOne leads is_end t (End e)
TargetComesTo leads t found.Ambiguous = ReachesTwo leads is_end t

-- what each comes to, in order
abbrev pub AreFound : (Target → List Target) → List Target → List Found → Type 0
AreFound leads [] [] = Unit {0}
AreFound leads (t ∷ ts) (f ∷ fs) = TargetComesTo leads t f × AreFound leads ts fs
AreFound leads _ _ = ⊥
