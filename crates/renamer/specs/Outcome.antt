-- What comes of a renaming.
use Rattle.std.specs.Prelude.{◌≡◌, ℕ, true, false, Option, Some, None, Result, Ok, Err}
use Rattle.std.specs.declared.alloc.AllocError.{AllocError}
use Rattle.semantic_syntax.specs.Tables.{Name}
use Rattle.semantic_tree.specs.Children.{node_count}
use Rattle.semantic_tree.specs.Tree.{Tree}
use Rattle.semantic_model.specs.Analysis.{Analysis, analysis_of}
use Rattle.rename_model.specs.Fixed.{FixesFirst, NoneFixes}
use Rattle.rename_model.specs.Refusal.{bad_name, fixed, differs, is_bad_name, rename}
use Rattle.rename_model.specs.Renamed.{program_renamed}
use Rattle.rename_model.specs.Same.{Same, DiffersFirstAt, first_difference}
use Rattle.renamer.specs.declared.error.RenameError.{RenameError}
use Rattle.renamer.specs.declared.error.RenameError.TheVariants.{BadName, Fixed, Differs, Memory}

-- the program, or the refusal, that the definition gives, or want of memory
abbrev pub Comes : Tree → ℕ → Name → Result Tree RenameError → Type 0
Comes p s new (Ok q) = rename p s new ≡ Ok q
Comes p s new (Err BadName) = rename p s new ≡ Err bad_name
Comes p s new (Err (Fixed node)) = rename p s new ≡ Err (fixed node)
Comes p s new (Err (Differs node)) = rename p s new ≡ Err (differs node)
Comes p s new (Err (Memory wanting)) = Unit {0}

-- the symbol has the new name, no node that has it fixes the old one, and each node means the same
pub record IsRenaming (p : Tree) (s : ℕ) (new : Name) (q : Tree) : Type 0 where
  pub good : is_bad_name new ≡ false
  pub unfixed : NoneFixes p s
  pub same : Same p q
  pub is_renamed : q ≡ program_renamed p (analysis_of p) s new

-- why a renaming is refused: the first cause of three, with its least node
abbrev pub IsRefusedFor : Tree → ℕ → Name → RenameError → Type 0
IsRefusedFor p s new BadName = is_bad_name new ≡ true
IsRefusedFor p s new (Fixed node) = (is_bad_name new ≡ false) × FixesFirst p s node
IsRefusedFor p s new (Differs node) = (is_bad_name new ≡ false) × NoneFixes p s × DiffersFirstAt p (program_renamed p (analysis_of p) s new) node
IsRefusedFor p s new (Memory wanting) = Unit {0}

-- no node is said to differ
abbrev pub NeverDiffers : Result Tree RenameError → Type 0
NeverDiffers (Err (Differs node)) = ⊥
NeverDiffers other = Unit {0}

-- where the analysis of a program first differs from another
abbrev pub FindsDifference : Analysis → Tree → Result (Option ℕ) AllocError → Type 0
FindsDifference a q (Ok found) = first_difference a (analysis_of q) 0 (node_count q.root) ≡ found
FindsDifference a q (Err wanting) = Unit {0}

-- the program, unless its analysis differs from another
abbrev pub Compares : Analysis → Tree → Result Tree RenameError → Type 0
Compares a q (Ok r) = (first_difference a (analysis_of q) 0 (node_count q.root) ≡ None) × (r ≡ q)
Compares a q (Err (Differs node)) = first_difference a (analysis_of q) 0 (node_count q.root) ≡ Some node
Compares a q (Err (Memory wanting)) = Unit {0}
Compares a q (Err other) = ⊥
