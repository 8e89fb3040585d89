-- The body of a `with` is that child of it which is a statement.
use Rattle.std.proofs.Common.{◌≡◌, ℕ, List, [], ◌∷◌, Bool, true, false, ◌&&◌, not, cond, None, inl, inr, refl, sym, subst, codes}
use Rattle.std.specs.Str.{bytes_eq}
use Rattle.std.proofs.lemmas.Bool.{cases_Bool}
use Rattle.std.proofs.lemmas.Slice.Eq.{bytes_eq-Decides}
use Rattle.semantic_kinds.specs.Classes.{is_expression, is_kind_of_statement}
use Rattle.semantic_kinds.specs.Kinds.{same_kind}
use Rattle.semantic_kinds.specs.Parts.{parts}
use Rattle.semantic_kinds.specs.Roles.{same_role}
use Rattle.semantic_kinds.specs.declared.kind.AstType.{AstType}
use Rattle.semantic_kinds.specs.declared.kind.AstType.TheVariants as kind
use Rattle.semantic_kinds.specs.declared.part.Part.{Part}
use Rattle.semantic_kinds.specs.declared.role.Role.{Role}
use Rattle.semantic_kinds.specs.declared.role.Role.TheVariants as role
use Rattle.semantic_tree.specs.Faults.{first_fault}
use Rattle.semantic_tree.specs.Tree.{Tree}
use Rattle.semantic_model.proofs.form.Clauses.{kind_is}
use Rattle.walk_model.proofs.places.Shapes.{HoldParts, holds_below, tree_holds}

-- a child of a `with` is a statement exactly in the role of the body
abbrev pub is_body_by_role : AstType → Role → AstType → List ℕ → Bool
is_body_by_role k r k2 text = cond (same_kind k kind.WithStatement) (cond (is_kind_of_statement k2 text) (same_role r role.Body) (not (same_role r role.Body))) true

abbrev is_one_of_both : AstType → List ℕ → Bool
is_one_of_both k text = not (is_expression k text && is_kind_of_statement k text)

one_text : (text : List ℕ) → bytes_eq text (codes "expression") ≡ true → (k : AstType) → is_one_of_both k (codes "expression") ≡ true → is_one_of_both k text ≡ true
one_text text h k w = let q : text ≡ codes "expression" = (bytes_eq-Decides text (codes "expression")).0 h in subst (λ t. is_one_of_both k t ≡ true) (sym q) w

-- an expression is no statement
no_both : (k : AstType) (text : List ℕ) → is_one_of_both k text ≡ true
no_both kind.Function text = elim (cases_Bool (bytes_eq text (codes "expression"))) [ inl e ↦ one_text text e kind.Function refl | inr e ↦ rw e refl ]
no_both kind.Class text = elim (cases_Bool (bytes_eq text (codes "expression"))) [ inl e ↦ one_text text e kind.Class refl | inr e ↦ rw e refl ]
no_both _ text = refl

no_statement : (k : AstType) (text : List ℕ) → is_expression k text ≡ true → is_kind_of_statement k text ≡ false
no_statement k text h = go (is_expression k text) (is_kind_of_statement k text) h (no_both k text)
  where
    go : (a b : Bool) → a ≡ true → not (a && b) ≡ true → b ≡ false
    go true true h w = absurd cc
    go a false h w = refl
    go false true h w = absurd cc

with_parts : HoldParts is_body_by_role kind.WithStatement (parts kind.WithStatement)
with_parts = (λ k2 text h. rw (no_statement k2 text h) refl, (λ k2 text h. rw h refl, tt))

other_parts : (k : AstType) → same_kind k kind.WithStatement ≡ false → (ps : List Part) → HoldParts is_body_by_role k ps
other_parts k e [] = tt
other_parts k e (p ∷ ps) = (λ k2 text h. rw e refl, other_parts k e ps)

all_parts : (k : AstType) → HoldParts is_body_by_role k (parts k)
all_parts k = elim (cases_Bool (same_kind k kind.WithStatement)) [
  | inl e ↦ subst (λ j. HoldParts is_body_by_role j (parts j)) (sym (kind_is k kind.WithStatement e)) with_parts
  | inr e ↦ other_parts k e (parts k)
]

-- in a program without a fault
pub program_bodies : (p : Tree) → first_fault p ≡ None → holds_below is_body_by_role p.root.kind p.root.children ≡ true
program_bodies p h = tree_holds is_body_by_role all_parts p h
