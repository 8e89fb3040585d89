-- Which names change and which are unused, by sets of names.
use Rattle.std.specs.Prelude.{◌≡◌, ℕ, Bool, not, ◌&&◌, ◌||◌, nat_lt}
use Rattle.semantic_syntax.specs.Tables.{Name}
use Rattle.semantic_tree.specs.Tree.{Tree}
use Rattle.semantic_tree.specs.declared.swap.Setting.TheVariants.{Elsewhere}
use Rattle.semantic_model.specs.Analysis.{Analysis}
use Rattle.mangle_model.specs.GoodNames.{is_free_name, is_kept_name, is_reserved}
use Rattle.mangle_model.specs.OneNameEach.{bears_such, fixed_below, symbol_names}
use Rattle.mangle_model.specs.Written.{size_of}
use Rattle.simple_names.specs.Telling.{is_name_among}
use Rattle.simple_names.specs.declared.sets.Taken.{Taken}

-- the name has more than one byte, and doesn't stay
abbrev pub changes_by : Taken → Name → Bool
changes_by taken name = nat_lt 1 (size_of name) && not (is_name_among taken.barred name || is_name_among taken.standing name)

-- nothing has the name, and it is no word
abbrev pub unused_by : Taken → Name → Bool
unused_by taken name = not (is_reserved name || (is_name_among taken.tabled name || is_name_among taken.standing name))

-- the sets are those of a program
pub record AreTaken (may : ℕ → Bool) (a : Analysis) (p : Tree) (taken : Taken) : Type 0 where
  pub barred : (q : Name) → is_name_among taken.barred q ≡ (is_free_name a.tables q || is_kept_name may q 0 a.tables.symbols)
  pub tabled : (q : Name) → is_name_among taken.tabled q ≡ (is_free_name a.tables q || is_name_among (symbol_names a.tables) q)
  pub standing : (q : Name) → is_name_among taken.standing q ≡ is_name_among (fixed_below (bears_such may a) Elsewhere p.root.children) q
