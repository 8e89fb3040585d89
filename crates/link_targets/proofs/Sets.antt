-- The exports of a set, in numbers.
use Rattle.std.proofs.Common.{◌≡◌, ℕ, suc, ◌+◌, List, [], ◌∷◌, refl, ap, length}
use Rattle.semantic_syntax.specs.Tables.{Name}
use Rattle.link_model.specs.Module.{Analysed, module_names}
use Rattle.link_search.specs.Ends.{AreApart}
use Rattle.link_search.specs.Exports.{StaysWithin}
use Rattle.link_search.specs.declared.exports.ModuleExports.{ModuleExports}
use Rattle.link_search.specs.declared.exports.SetExports.{SetExports}
use Rattle.link_targets.specs.Described.{AreModuleExports, AreSetExports}
use Rattle.link_targets.specs.Followed.{Follow}
use Rattle.link_targets.proofs.Bounds.{stays_within}
use Rattle.link_targets.proofs.Matches.{follows}

pub modules_many : (names texts : List Name) (n : ℕ) (xs : List Analysed) (es : List ModuleExports) → AreModuleExports names texts n xs es → length es ≡ length xs
modules_many names texts n [] [] h = refl
modules_many names texts n [] (e ∷ es) h = absurd h
modules_many names texts n (x ∷ xs) [] h = absurd h
modules_many names texts n (x ∷ xs) (e ∷ es) h = ap suc (modules_many names texts (n + 1) xs es h.1)

pub set_follows : (texts : List Name) (ms : List Analysed) (s : SetExports) → AreApart texts → AreSetExports texts ms s → Follow texts s ms
set_follows texts ms s apart are t e d = follows (module_names ms) texts apart s.default_name are.default_there s ms refl are.modules are.many refl t e d

pub set_within : (texts : List Name) (ms : List Analysed) (s : SetExports) → AreApart texts → AreSetExports texts ms s → StaysWithin s
set_within texts ms s apart are = stays_within texts s ms (set_follows texts ms s apart are) are.many (modules_many (module_names ms) texts 0 ms s.modules.items are.modules)
