-- What imports come to.
use Rattle.std.specs.Prelude.{◌≡◌, ℕ, ◌+◌, List, [], ◌∷◌, ◌++◌, map}
use Rattle.module_set.specs.declared.modules.Module.{Module}
use Rattle.link_search.specs.Reaches.{ReachesRing, ReachesOne, ReachesTwo, ReachesNone}
use Rattle.link_model.specs.declared.outcome.Link.{Link}
use Rattle.link_model.specs.declared.outcome.LinkOutcome.{LinkOutcome}
use Rattle.link_model.specs.declared.outcome.LinkOutcome.TheVariants as outcome
use Rattle.link_model.specs.Module.{Analysed, all_analysed, module_names}
use Rattle.link_model.specs.Imports.{Import, imports}
use Rattle.link_model.specs.Leads.{LinkEnd, pair, symbol, default_of, namespace_of, outside, is_terminal, leads, import_end}

-- the outcome of one terminal
abbrev pub outcome_at : LinkEnd → LinkOutcome
outcome_at (pair m name) = outcome.Missing
outcome_at (symbol m s) = outcome.Symbol m s
outcome_at (default_of m) = outcome.Default m
outcome_at (namespace_of m) = outcome.Namespace m
outcome_at (outside source name) = outcome.External

-- this is the outcome of the one terminal that is reached
pub record IsOfOne (ms : List Analysed) (e : LinkEnd) (o : LinkOutcome) : Type 0 where
  pub terminal : LinkEnd
  pub reached : ReachesOne (leads ms) is_terminal e terminal
  pub told : o ≡ outcome_at terminal

-- the outcome of what leads to an end: by the terminals that it reaches in any number of steps, and by rings if there are none
abbrev pub IsOutcome : List Analysed → LinkEnd → LinkOutcome → Type 0
IsOutcome ms e outcome.Ambiguous = ReachesTwo (leads ms) is_terminal e
IsOutcome ms e outcome.Ring = ReachesNone (leads ms) is_terminal e × ReachesRing (leads ms) e
IsOutcome ms e outcome.Missing = ReachesNone (leads ms) is_terminal e × (ReachesRing (leads ms) e → ⊥)
IsOutcome ms e o = IsOfOne ms e o

-- an import specifier, and the number of its module
pub record ImportIn : Type 0 where
  pub number : ℕ
  pub import : Import

abbrev pub imports_from : ℕ → List Analysed → List ImportIn
imports_from n [] = []
imports_from n (x ∷ xs) = map (λ i. record { number = n; import = i }) (imports x) ++ imports_from (n + 1) xs

-- the import specifiers of all modules, in order of module and node
abbrev pub all_imports : List Analysed → List ImportIn
all_imports ms = imports_from 0 ms

-- the link tells the outcome of the import
pub record IsLink (ms : List Analysed) (i : ImportIn) (l : Link) : Type 0 where
  pub number : l.module ≡ i.number
  pub node : l.node ≡ i.import.node
  pub outcome : IsOutcome ms (import_end (module_names ms) i.import) l.outcome

abbrev pub AreLinksOf : List Analysed → List ImportIn → List Link → Type 0
AreLinksOf ms [] [] = Unit {0}
AreLinksOf ms (i ∷ is) (l ∷ ls) = IsLink ms i l × AreLinksOf ms is ls
AreLinksOf ms _ _ = ⊥

-- one link for each import specifier of each module, in order of module and node
abbrev pub AreLinks : List Module → List Link → Type 0
AreLinks modules ls = AreLinksOf (all_analysed modules) (all_imports (all_analysed modules)) ls
