-- What targets stand for, whose texts have numbers.
use Rattle.std.specs.Prelude.{◌≡◌, ℕ, List, [], ◌∷◌, Option, Some, None, option_map, option_and_then, slice_get}
use Rattle.semantic_syntax.specs.Tables.{Name}
use Rattle.link_model.specs.Leads.{LinkEnd, pair, symbol, default_of, namespace_of, outside}
use Rattle.link_search.specs.Ends.{Extends, AreApart}
use Rattle.link_search.specs.declared.target.Target.{Target}
use Rattle.link_search.specs.declared.target.Target.TheVariants as target
use Rattle.link_search.specs.declared.terminal.Terminal.{Terminal}
use Rattle.link_search.specs.declared.terminal.Terminal.TheVariants as terminal

abbrev pub outside_of : List Name → Option ℕ → Name → Option LinkEnd
outside_of texts None source = Some (outside source None)
outside_of texts (Some k) source = option_map (λ name. outside source (Some name)) (slice_get texts k)

abbrev pub terminal_denoted : List Name → Terminal → Option LinkEnd
terminal_denoted texts (terminal.Symbol m s) = Some (symbol m s)
terminal_denoted texts (terminal.Default m) = Some (default_of m)
terminal_denoted texts (terminal.Namespace m) = Some (namespace_of m)
terminal_denoted texts (terminal.Outside k name) = option_and_then (outside_of texts name) (slice_get texts k)

-- what a target stands for, if its texts have numbers
abbrev pub denoted : List Name → Target → Option LinkEnd
denoted texts (target.Name m k) = option_map (λ name. pair m name) (slice_get texts k)
denoted texts (target.End t) = terminal_denoted texts t

-- targets stand for these, in order
abbrev pub AreDenoted : List Name → List Target → List LinkEnd → Type 0
AreDenoted texts [] [] = Unit {0}
AreDenoted texts (t ∷ ts) (e ∷ es) = (denoted texts t ≡ Some e) × AreDenoted texts ts es
AreDenoted texts _ _ = ⊥

-- texts keep their numbers, and none gets two
pub record Grows (old new : List Name) : Type 0 where
  pub extends : Extends old new
  pub apart : AreApart old → AreApart new
