-- Two programs that are alike, as tests tell it.
use Rattle.std.specs.Prelude.{◌≡◌, ◌≤◌, ℕ, List, Bool, true, Option, None}
use Rattle.semantic_syntax.specs.Tables.{Name}
use Rattle.semantic_tree.specs.Children.{node_count}
use Rattle.semantic_tree.specs.Tree.{Tree}
use Rattle.semantic_model.specs.Analysis.{analysis_of}
use Rattle.semantic_model.specs.TablesOf.{tables_of}
use Rattle.rename_model.specs.Same.{first_difference}
use Rattle.mangle_model.specs.Alike.{renamed_tables}
use Rattle.mangle_model.specs.Assignment.{Assignment, assignment_of}
use Rattle.mangle_model.specs.Mangling.{all_identifiers, all_pass, may_take, IsMangled}
use Rattle.mangle_model.specs.MayMangle.{Options}
use Rattle.mangle_model.specs.OneNameEach.{one_name_each, simply_mangled}
use Rattle.mangle_model.specs.Renamed.{given}
use Rattle.mangle_model.specs.WithNames.{is_given}
use Rattle.mangle_model.specs.Written.{size_written}
use Rattle.mangler.specs.declared.mangling.Mangled.{Mangled}

-- the tables are the first with the new names, and no node differs
pub record AreAlike (names : Assignment) (p q : Tree) : Type 0 where
  pub tables : tables_of q ≡ renamed_tables names (tables_of p)
  pub nodes : first_difference (analysis_of p) (analysis_of q) 0 (node_count p.root) ≡ None

-- and the names are not longer
abbrev pub IsGoodCopy : Assignment → Tree → Tree → Type 0
IsGoodCopy names p q = AreAlike names p q × (size_written q ≤ size_written p)

-- the names pass, where these symbols may change, and what is given one is an identifier
pub record AreGivable (may : ℕ → Bool) (p : Tree) (names : List (Option Name)) : Type 0 where
  pub pass : all_pass (may_take may (analysis_of p)) 0 names ≡ true
  pub identifiers : all_identifiers (is_given (given (assignment_of names) (analysis_of p))) p.root.children ≡ true

-- a mangled program with its names
abbrev pub IsMangling : Options → Tree → Mangled → Type 0
IsMangling o p m = IsMangled o p m.names m.program

-- whose names are those of the simple mangler
pub record IsSimple (o : Options) (p : Tree) (m : Mangled) : Type 0 where
  pub mangled : IsMangling o p m
  pub names : m.names ≡ one_name_each o p

-- whose names are not longer than those of the simple mangler
pub record IsShortMangling (o : Options) (p : Tree) (m : Mangled) : Type 0 where
  pub mangled : IsMangling o p m
  pub length : size_written m.program ≤ size_written (simply_mangled o p)
