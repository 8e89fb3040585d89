-- What a reference lends.
use Rattle.std.specs.Borrow.{Lends, MutBor, Fml}
use Rattle.semantic_syntax.specs.declared.references.Reference.{Reference}
use Rattle.semantic_syntax.specs.declared.reference_flags.ReferenceFlags.{ReferenceFlags}
use Rattle.semantic_syntax.specs.contracts.references.Reference as reference
use Rattle.semantic_syntax.specs.contracts.reference_flags.ReferenceFlags as flags

-- the reference with other flags
abbrev pub with_flags : Reference → ReferenceFlags → Reference
with_flags r used = record r { flags = used }

-- the reference ends with the last flags that were written through the loan
abbrev pub LendsFlags : MutBor Reference → MutBor ReferenceFlags → Fml
LendsFlags r lent = Lends reference.the_row flags.the_row r lent (with_flags r.now)
