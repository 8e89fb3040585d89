use Rattle.std.proofs.Common.{◌≡◌, fold, take}
use Rattle.std.specs.Int.RustNames.{bit_or}
use Rattle.semantic_syntax.specs.declared.references.Redeclaration.{Redeclaration}
use Rattle.scoping_rows.proofs.symbol_row.united_flags.Given as goal

abbrev pub invariant-loop-entry : goal.invariant-loop-entry
invariant-loop-entry l = l.flags.bits ≡ fold (λ bits (d : Redeclaration). bit_or bits d.flags.bits) 0 (take l.entry-index l.list)
