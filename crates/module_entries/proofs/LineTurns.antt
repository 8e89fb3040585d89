-- One import, or one module, more.
use Rattle.std.proofs.Common.{◌≡◌, ◌<◌, ◌≤◌, ℕ, ◌+◌, List, [], ◌∷◌, ◌++◌, length, map, drop, get_or, refl, sym, ap, ◌∙◌, append-nil}
use Rattle.std.proofs.lemmas.List.{at_drop_more, at_drop_all, map-append}
use Rattle.std.specs.Str.{chars}
use Rattle.std.proofs.lemmas.Str.{chars-nil}
use Rattle.semantic_syntax.specs.Tables.{Name}
use Rattle.module_set.specs.declared.modules.Module.{Module}
use Rattle.link_model.specs.Imports.{Import, imports}
use Rattle.link_model.specs.Module.{Analysed, analysed, all_analysed}
use Rattle.link_model.specs.Outcome.{imports_from, all_imports}
use Rattle.module_entries.specs.Views.{shown_import}
use Rattle.module_entries.specs.declared.import.ImportEntry.{ImportEntry}
use Rattle.module_entries.specs.LinkLines.{local_of, local_name}

-- the names that the imports of a module bind
abbrev pub locals_in : Analysed → List Name
locals_in m = map local_of (imports m)

numbered : (n : ℕ) (is : List Import) → map local_name (map (λ i. record { number = n; import = i }) is) ≡ map local_of is
numbered n [] = refl
numbered n (i ∷ is) = ap (λ (rest : List Name). local_of i ∷ rest) (numbered n is)

-- those of the modules from a number on: the number is no matter
abbrev pub all_locals : List Module → List Name
all_locals [] = []
all_locals (m ∷ ms) = locals_in (analysed m) ++ all_locals ms

locals_from : (n : ℕ) (ms : List Module) → map local_name (imports_from n (all_analysed ms)) ≡ all_locals ms
locals_from n [] = refl
locals_from n (m ∷ ms) =
    map-append local_name (map (λ i. record { number = n; import = i }) (imports (analysed m))) (imports_from (n + 1) (all_analysed ms))
    ∙ (λ j. numbered n (imports (analysed m)) j ++ locals_from (n + 1) ms j)

-- the names that all imports bind
locals_are : (ms : List Module) → map local_name (all_imports (all_analysed ms)) ≡ all_locals ms
locals_are ms = locals_from 0 ms

-- one module more
pub module_turn : (ms : List Module) (i : ℕ) (d : Module) → i < length ms → all_locals (drop i ms) ≡ locals_in (analysed (get_or ms i d)) ++ all_locals (drop (i + 1) ms)
module_turn ms i d h = at_drop_more all_locals ms i d h

modules_end : (ms : List Module) (i : ℕ) → length ms ≤ i → all_locals (drop i ms) ≡ []
modules_end ms i h = at_drop_all all_locals ms i h

-- one import more
pub import_turn : (es : List ImportEntry) (i : ℕ) (d : ImportEntry) → i < length es → map local_of (map shown_import (drop i es)) ≡ local_of (shown_import (get_or es i d)) ∷ map local_of (map shown_import (drop (i + 1) es))
import_turn es i d h = at_drop_more (λ (xs : List ImportEntry). map local_of (map shown_import xs)) es i d h

pub imports_end : (es : List ImportEntry) (i : ℕ) → length es ≤ i → map local_of (map shown_import (drop i es)) ≡ []
imports_end es i h = at_drop_all (λ (xs : List ImportEntry). map local_of (map shown_import xs)) es i h

-- those of all modules are all
pub locals_end : (ms : List Module) (i : ℕ) (now : List Name) → length ms ≤ i → now ++ all_locals (drop i ms) ≡ all_locals ms → now ≡ map local_name (all_imports (all_analysed ms))
locals_end ms i now past h = sym (append-nil now) ∙ ap (λ rest. now ++ rest) (sym (modules_end ms i past)) ∙ h ∙ sym (locals_are ms)

pub no_text : chars [] ≡ []
no_text = chars-nil
