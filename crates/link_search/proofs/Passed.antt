-- Stars pass on names alone.
use Rattle.std.proofs.Common.{◌≡◌, ℕ, ◌==◌, List, [], ◌∷◌, Bool, true, false, cond, None, refl}
use Rattle.link_search.specs.declared.exports.ModuleExports.{ModuleExports}
use Rattle.link_search.specs.Ends.{ends_in}
use Rattle.link_search.specs.Exports.{passed_on, exported_or_passed}

no_ends : (name : ℕ) (stars : List ℕ) → ends_in (passed_on name stars) ≡ []
no_ends name [] = refl
no_ends name (m ∷ stars) = no_ends name stars

pub none_passed : (default_name : ℕ) (m : ModuleExports) (name : ℕ) → ends_in (exported_or_passed default_name m name None) ≡ []
none_passed default_name m name = go (name == default_name)
  where
    go : (b : Bool) → ends_in (cond b [] (passed_on name m.stars.items)) ≡ []
    go true = refl
    go false = no_ends name m.stars.items
