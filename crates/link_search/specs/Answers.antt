-- What was found of names, and what it says of targets.
use Rattle.std.specs.Prelude.{ℕ, List, Bool, Option, Some, None, if◌then◌else◌, position, slice_get}
use Rattle.reachability.specs.Rows.{Among}
use Rattle.reachability.specs.Marked.{is_marked}
use Rattle.link_search.specs.Numbering.{Pair, same_pair}
use Rattle.link_search.specs.Reached.{known_of}
use Rattle.link_search.specs.declared.terminals.Terminals.{Terminals}
use Rattle.link_search.specs.declared.terminals.Terminals.TheVariants as those
use Rattle.link_search.specs.declared.target.Target.{Target}
use Rattle.link_search.specs.declared.target.Target.TheVariants.{Name, End}
use Rattle.link_search.specs.declared.terminal.Terminal.{Terminal}
use Rattle.link_search.specs.declared.exports.SetExports.{SetExports}
use Rattle.link_search.specs.declared.answer.Found.{Found}
use Rattle.link_search.specs.declared.answer.Found.TheVariants as found
use Rattle.link_search.specs.declared.answer.Search.{Search}
use Rattle.link_search.specs.Exports.{leads_of}
use Rattle.link_search.specs.Targets.{TargetComesTo}

abbrev pub if_there : Option Terminal → Found
if_there None = found.Missing
if_there (Some t) = found.One t

abbrev pub answer_by : List Terminal → Bool → Terminals → Found
answer_by terminals to_ring those.Nowhere = if to_ring then found.Ring else found.Missing
answer_by terminals to_ring (those.One terminal) = if_there (slice_get terminals terminal)
answer_by terminals to_ring those.Several = found.Ambiguous

-- what the name with this number comes to
abbrev pub answer_at : Search → ℕ → Found
answer_at s number = answer_by s.terminals.keys (is_marked s.to_rings.items number) (known_of s.reached.items number)

abbrev pub answer_if : Search → Option ℕ → Found
answer_if s None = found.Missing
answer_if s (Some number) = answer_at s number

-- what a target comes to
abbrev pub target_answer : Search → Target → Found
target_answer s (End t) = found.One t
target_answer s (Name m k) = answer_if s (position (same_pair (m, k)) s.names.keys)

-- the answers on these names are right
abbrev pub IsSearched : SetExports → List Pair → Search → Type 0
IsSearched exports starts s = (p : Pair) → Among p starts → TargetComesTo (leads_of exports) (Name p.0 p.1) (target_answer s (Name p.0 p.1))
