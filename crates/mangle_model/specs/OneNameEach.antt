-- The simple mangler: a name that only symbols have which may change becomes one short name, the same for all of them. So new names
-- come of a one-to-one map of names, and nothing can be captured.
--
-- A program finds it in linear time. One walk over the tree gathers the names at nodes that bear no symbol which may change. A set
-- holds them, the free names and those of symbols that must keep theirs: these are fixed. One loop over symbols puts the other
-- names into a map, in order. One over the numbers of short names gives the next of them the name of that number, if it is no word,
-- is not fixed, and no symbol has it. Then each symbol's name is looked up.
use Rattle.std.specs.Prelude.{ℕ, ◌+◌, List, [], ◌∷◌, ◌++◌, Bool, false, not, ◌&&◌, ◌||◌, Option, Some, None, cond, nat_le, nat_lt, bytes_eq, length, map, filter, fold, zip}
use Rattle.std.specs.List.{list_any, range_with_len}
use Rattle.std.specs.Map.{lookup}
use Rattle.semantic_syntax.specs.Tables.{Name, Symbol, Tables}
use Rattle.semantic_tree.specs.Forest.{Forest, nothing, tree}
use Rattle.semantic_tree.specs.Renamed.{is_program_name, setting_below}
use Rattle.semantic_tree.specs.Tree.{Tree}
use Rattle.semantic_tree.specs.declared.swap.Setting.{Setting}
use Rattle.semantic_tree.specs.declared.swap.Setting.TheVariants.{Elsewhere}
use Rattle.semantic_model.specs.Analysis.{Analysis, symbol_at, tied_at, analysis_of}
use Rattle.mangle_model.specs.Assignment.{assignment_of}
use Rattle.mangle_model.specs.GoodNames.{reserved_words, is_free_name, is_kept_name}
use Rattle.mangle_model.specs.MayMangle.{Options}
use Rattle.mangle_model.specs.Mangling.{may_change}
use Rattle.mangle_model.specs.Renamed.{renamed_by}
use Rattle.mangle_model.specs.ShortNames.{short_name}
use Rattle.mangle_model.specs.Written.{size_of, size_written}

-- ---- which names change

abbrev pub is_such : (ℕ → Bool) → Option ℕ → Bool
is_such may None = false
is_such may (Some s) = may s

-- the node declares a symbol that may change, or is tied to one
abbrev pub bears_such : (may : ℕ → Bool) → Analysis → ℕ → Bool
bears_such may a id = is_such may (symbol_at a id) || is_such may (tied_at a id)

-- the names at the nodes that don't
abbrev pub fixed_below : (bears : ℕ → Bool) → Setting → Forest → List Name
fixed_below bears setting nothing = []
fixed_below bears setting (tree r k span text marks below id after) =
    cond (is_program_name setting r k && not (bears id)) (text ∷ []) [] ++ (fixed_below bears (setting_below setting r k) below ++ fixed_below bears setting after)

-- the name is free, or a symbol has it that must keep it, or a node that bears no symbol which may change
abbrev pub is_fixed_name : (may : ℕ → Bool) → Analysis → Tree → Name → Bool
is_fixed_name may a p name =
    is_free_name a.tables name || (is_kept_name may name 0 a.tables.symbols || list_any (bytes_eq name) (fixed_below (bears_such may a) Elsewhere p.root.children))

-- a name of one byte stays too, since none is shorter
abbrev pub does_change : (may : ℕ → Bool) → Analysis → Tree → Name → Bool
does_change may a p name = nat_lt 1 (size_of name) && not (is_fixed_name may a p name)

-- a name behind others, unless it is one of them
abbrev pub joining : List Name → Name → List Name
joining names name = cond (list_any (bytes_eq name) names) names (names ++ name ∷ [])

abbrev pub symbol_names : Tables → List Name
symbol_names t = map (λ y. y.name) t.symbols

-- the names that change, each once, in order of their first symbols
abbrev pub changing_names : (may : ℕ → Bool) → Analysis → Tree → List Name
changing_names may a p = fold joining [] (filter (does_change may a p) (symbol_names a.tables))

-- ---- their new names

-- words, free names, the names of symbols, and those at nodes that bear no symbol which may change
abbrev pub taken_names : (may : ℕ → Bool) → Analysis → Tree → List Name
taken_names may a p =
    reserved_words ++ (map (λ f. f.0) a.tables.free ++ (symbol_names a.tables ++ fixed_below (bears_such may a) Elsewhere p.root.children))

abbrev pub is_unused_name : (may : ℕ → Bool) → Analysis → Tree → Name → Bool
is_unused_name may a p name = not (list_any (bytes_eq name) (taken_names may a p))

-- so many short names that there is an unused one for each name that changes
abbrev pub short_names : (may : ℕ → Bool) → Analysis → Tree → List Name
short_names may a p = map short_name (range_with_len 0 (length (taken_names may a p) + length a.tables.symbols))

abbrev pub unused_names : (may : ℕ → Bool) → Analysis → Tree → List Name
unused_names may a p = filter (is_unused_name may a p) (short_names may a p)

abbrev pub is_shorter : Name × Name → Bool
is_shorter pair = nat_lt (size_of pair.1) (size_of pair.0)

-- the names that change with their new names: the next unused ones in order, where they are shorter
abbrev pub name_pairs : (may : ℕ → Bool) → Analysis → Tree → List (Name × Name)
name_pairs may a p = filter is_shorter (zip (changing_names may a p) (unused_names may a p))

-- ---- all together

-- each symbol has the new name of its name
abbrev pub names_by_name : List (Name × Name) → List Symbol → List (Option Name)
names_by_name pairs symbols = map (λ y. lookup (bytes_eq y.name) pairs) symbols

abbrev pub each_named : Options → Tree → List (Option Name)
each_named o p = let a : Analysis = analysis_of p in names_by_name (name_pairs (may_change o p) a p) a.tables.symbols

-- these names, or none where the program would be longer, as `{ name: a }` is than `{ name }`
abbrev pub one_name_each : Options → Tree → List (Option Name)
one_name_each o p = let names : List (Option Name) = each_named o p in cond (nat_le (size_written (renamed_by (assignment_of names) p)) (size_written p)) names []

-- the program with these names
abbrev pub simply_mangled : Options → Tree → Tree
simply_mangled o p = renamed_by (assignment_of (one_name_each o p)) p
