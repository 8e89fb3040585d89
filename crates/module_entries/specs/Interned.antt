-- Texts that have numbers.
use Rattle.std.specs.Prelude.{ℕ, List, map}
use denote.Bor.{Bor}
use Rattle.tree_json.specs.Views.{characters, IsSpelled}
use Rattle.tree_json.specs.Written.{Each}
use Rattle.link_search.specs.Ends.{AreApart}

-- each is the UTF-8 form of its characters, and none stands twice
pub record AreInterned (texts : List (Bor (List ℕ))) : Type 0 where
  pub spelled : Each IsSpelled texts
  pub apart : AreApart (map characters texts)
