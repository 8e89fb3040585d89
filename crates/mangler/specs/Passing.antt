-- Whether names pass, by a set of barred ones.
use Rattle.std.specs.Prelude.{ℕ, List, Bool, true, Option, Some, None, not, ◌&&◌, bytes_eq}
use Rattle.std.specs.List.{list_any}
use Rattle.semantic_syntax.specs.Tables.{Name}
use Rattle.mangle_model.specs.GoodNames.{is_ascii_identifier, is_reserved}

-- the name is a good one, where those of the list are barred
abbrev pub good_by : (barred : List Name) → Name → Bool
good_by barred name = is_ascii_identifier name && (not (is_reserved name) && not (list_any (bytes_eq name) barred))

-- a symbol may have the name
abbrev pub passes_by : (ℕ → Bool) → (barred : List Name) → ℕ → Name → Bool
passes_by may barred s name = may s && good_by barred name

-- the new name, if there is one, passes the test
abbrev pub passes_option : (ℕ → Name → Bool) → ℕ → Option Name → Bool
passes_option test s None = true
passes_option test s (Some name) = test s name
