-- Declarations before the first async function or generator.
use Rattle.std.specs.Prelude.{ℕ, List}
use Rattle.std.specs.List.{position_or_len}
use Rattle.semantic_syntax.specs.Sets.{meets}
use Rattle.semantic_syntax.specs.declared.references.Redeclaration.{Redeclaration}
use Rattle.semantic_syntax.specs.declared.symbol_flags.TheConstants.SymbolFlags as symbol

-- how many declarations stand before the first of an async function or a generator; all where there is none
abbrev pub plain_count : List Redeclaration → ℕ
plain_count entries = position_or_len (λ entry. meets entry.flags.bits symbol.AsyncOrGeneratorFunction.bits) entries
