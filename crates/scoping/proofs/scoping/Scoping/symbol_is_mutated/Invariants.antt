use Rattle.std.proofs.Common.{◌≡◌, map}
use Rattle.std.specs.List.{list_any}
use Rattle.semantic_syntax.specs.declared.references.Reference.{Reference}
use Rattle.semantic_syntax.specs.declared.reference_flags.TheConstants.ReferenceFlags as way
use Rattle.semantic_syntax.specs.Sets.{meets}
use Rattle.semantic_syntax.specs.Reading.{reference_of, uses_of}
use Rattle.scoping.proofs.scoping.Scoping.symbol_is_mutated.Given as goal

abbrev pub invariant-loop-reference : goal.invariant-loop-reference
invariant-loop-reference l =
    list_any (λ (r : Reference). meets r.flags.bits way.Write.bits) (map (reference_of l.self) (uses_of l.self l.fn.symbol))
    ≡ list_any (λ (r : Reference). meets r.flags.bits way.Write.bits) l.reference-iterator
