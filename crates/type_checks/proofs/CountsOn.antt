-- Kinds after which TypeScript can count on.
use Rattle.std.proofs.Common.{◌≡◌, refl}
use Rattle.semantic_kinds.specs.Classes.{is_member}
use Rattle.semantic_kinds.specs.declared.kind.AstType.{AstType}
use Rattle.semantic_kinds.specs.declared.kind.AstType.TheVariants as kinds
use Rattle.check_model.specs.Types.{is_countable}

-- any kind but these four is one of a member expression, or none
pub others : (kind : AstType) → (kind ≡ kinds.NumericLiteral → ⊥) → (kind ≡ kinds.IdentifierReference → ⊥) → (kind ≡ kinds.BinaryExpression → ⊥) → (kind ≡ kinds.UnaryExpression → ⊥) → is_member kind ≡ is_countable kind
others kinds.NumericLiteral a b c d = absurd (a refl)
others kinds.IdentifierReference a b c d = absurd (b refl)
others kinds.BinaryExpression a b c d = absurd (c refl)
others kinds.UnaryExpression a b c d = absurd (d refl)
others _ a b c d = refl
