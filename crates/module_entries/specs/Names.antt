-- The names of the modules of a set, and the first module with a name.
use Rattle.std.specs.Prelude.{◌≡◌, ℕ, List, Option, Some, None, cond, bytes_eq}
use Rattle.std.specs.Str.{chars, encode_utf8_all}
use denote.Bor.{Bor}
use Rattle.indexmap.specs.IndexMap.{IndexMap, get_by}
use Rattle.semantic_syntax.specs.Tables.{Name}
use Rattle.module_set.specs.declared.modules.Module.{Module}
use Rattle.link_model.specs.Module.{all_analysed, module_names, module_named}

-- the names, in order
abbrev pub names_of : List Module → List Name
names_of modules = module_names (all_analysed modules)

-- the number that the map has for a text
abbrev pub number_for : {S : Type 0} → IndexMap (Bor (List ℕ)) ℕ S → List ℕ → Option ℕ
number_for numbers text = get_by (λ name. bytes_eq text name.now) numbers

-- the number of a text, once a name is noted that may be new
abbrev pub name_noted : List ℕ → ℕ → Option ℕ → List ℕ → Option ℕ
name_noted name n (Some m) text = Some m
name_noted name n None text = cond (bytes_eq name text) (Some n) None

-- the map has the first number of each name
abbrev pub AreFirsts : {S : Type 0} → List Name → IndexMap (Bor (List ℕ)) ℕ S → Type 0
AreFirsts names numbers = (text : List ℕ) → encode_utf8_all (chars text) ≡ text → number_for numbers text ≡ module_named names (chars text)
