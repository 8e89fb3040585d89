-- Rows that stand under a condition, once it is decided.
use Rattle.std.proofs.Common.{◌≡◌, List, Bool, true, false, if◌then◌else◌, not, refl}
use Rattle.semantic_diagnostics.specs.declared.diagnostic.Diagnostic.{Diagnostic}
use Rattle.check_model.specs.Search.{rows_if}

pub rows_unless : (test : Bool) (rows : List Diagnostic) → test ≡ false → rows ≡ rows_if (not test) rows
rows_unless true rows h = absurd cc
rows_unless false rows h = refl

pub rows_with : (test : Bool) (rows : List Diagnostic) → test ≡ true → rows ≡ rows_if test rows
rows_with true rows h = refl
rows_with false rows h = absurd cc

pub chosen_first : (test choice : Bool) (one other : List Diagnostic) → test ≡ false → choice ≡ true → one ≡ rows_if (not test) (if choice then one else other)
chosen_first false true one other h k = refl
chosen_first false false one other h k = absurd cc
chosen_first true choice one other h k = absurd cc

pub chosen_second : (test choice : Bool) (one other : List Diagnostic) → test ≡ false → choice ≡ false → other ≡ rows_if (not test) (if choice then one else other)
chosen_second false false one other h k = refl
chosen_second false true one other h k = absurd cc
chosen_second true choice one other h k = absurd cc
