-- Targets that lead where their ends do, and the outcomes of what is found.
use Rattle.std.specs.Prelude.{◌≡◌, List, Some}
use Rattle.semantic_syntax.specs.Tables.{Name}
use Rattle.link_model.specs.Leads.{LinkEnd, leads}
use Rattle.link_model.specs.Module.{Analysed}
use Rattle.link_model.specs.declared.outcome.LinkOutcome.{LinkOutcome}
use Rattle.link_model.specs.declared.outcome.LinkOutcome.TheVariants as outcome
use Rattle.link_search.specs.Exports.{leads_of}
use Rattle.link_search.specs.declared.answer.Found.{Found}
use Rattle.link_search.specs.declared.answer.Found.TheVariants as found
use Rattle.link_search.specs.declared.exports.SetExports.{SetExports}
use Rattle.link_search.specs.declared.target.Target.{Target}
use Rattle.link_search.specs.declared.terminal.Terminal.{Terminal}
use Rattle.link_search.specs.declared.terminal.Terminal.TheVariants as terminal
use Rattle.link_targets.specs.Denoted.{denoted, AreDenoted}

-- each target leads to what its end leads to
abbrev pub Follow : List Name → SetExports → List Analysed → Type 0
Follow texts s ms = (t : Target) (e : LinkEnd) → denoted texts t ≡ Some e → AreDenoted texts (leads_of s t) (leads ms e)

abbrev pub terminal_outcome : Terminal → LinkOutcome
terminal_outcome (terminal.Symbol m s) = outcome.Symbol m s
terminal_outcome (terminal.Default m) = outcome.Default m
terminal_outcome (terminal.Namespace m) = outcome.Namespace m
terminal_outcome (terminal.Outside source name) = outcome.External

-- the outcome of what was found
abbrev pub outcome_of : Found → LinkOutcome
outcome_of found.Missing = outcome.Missing
outcome_of found.Ring = outcome.Ring
outcome_of found.Ambiguous = outcome.Ambiguous
outcome_of (found.One t) = terminal_outcome t
