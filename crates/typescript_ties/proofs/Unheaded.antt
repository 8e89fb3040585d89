-- Enums, namespaces and imports stand in no header of a function or catch clause.
use Rattle.std.proofs.Common.{◌≡◌, ℕ, List, [], ◌∷◌, None, Bool, true, false, ◌&&◌, ◌||◌, not, refl, sym, ap, subst, ◌∙◌, inl, inr}
use Rattle.std.specs.List.{list_all, list_any}
use Rattle.std.proofs.lemmas.Bool.{cases_Bool, not-true}
use Rattle.semantic_syntax.proofs.Truth.{and_first, and_second}
use Rattle.semantic_kinds.specs.Classes.{is_of, holds_kind}
use Rattle.semantic_kinds.specs.Kinds.{same_kind}
use Rattle.semantic_kinds.specs.Parts.{parts}
use Rattle.semantic_kinds.specs.declared.class.Class.{Class}
use Rattle.semantic_kinds.specs.declared.part.Part.{Part}
use Rattle.semantic_kinds.specs.declared.kind.AstType.{AstType}
use Rattle.semantic_kinds.specs.declared.kind.AstType.TheVariants as kind
use Rattle.semantic_kinds.specs.declared.role.Role.{Role}
use Rattle.semantic_tree.specs.Faults.{first_fault}
use Rattle.semantic_tree.specs.Tree.{Tree}
use Rattle.semantic_tree.specs.declared.node.Node.{Node}
use Rattle.semantic_model.specs.Inside.{is_in_header}
use Rattle.semantic_model.specs.Place.{OpenScope, innermost}
use Rattle.semantic_model.proofs.form.Clauses.{kind_is}
use Rattle.semantic_model.proofs.form.PartsHold.{passed_hold}
use Rattle.walk_model.proofs.headers.Headed.{bound_inside}
use Rattle.walk_model.proofs.headers.NoStatements.{loose_kinds, is_bound}
use Rattle.walk_model.proofs.places.Shapes.{holds_below, tree_holds}
use Rattle.binding_laws.proofs.ChildChains.{ChainOf, outer_chain, inner_chain}
use Rattle.binding_laws.proofs.SmallLaws.{never, either}

-- what holds statements, and enums and imports among these
abbrev pub unheaded_kinds : List AstType
unheaded_kinds = kind.TSEnumDeclaration ∷ kind.TSImportEqualsDeclaration ∷ kind.ImportDeclaration ∷ kind.ImportSpecifier ∷ kind.ImportDefaultSpecifier ∷ kind.ImportNamespaceSpecifier ∷ loose_kinds

abbrev pub is_unheaded : AstType → Bool
is_unheaded k = holds_kind unheaded_kinds k

-- such a child stands in one of them or behind a header
abbrev pub stands_unheaded : AstType → Role → AstType → List ℕ → Bool
stands_unheaded k r k2 text = not (is_unheaded k2) || ((is_unheaded k || is_bound k) && not (is_in_header k r))

may_be : List AstType → Class → List ℕ → Bool
may_be ks c text = list_any (λ j. is_of c j text) ks

unheaded_part : AstType → List ℕ → Part → Bool
unheaded_part k text part = not (may_be unheaded_kinds part.class text) || ((is_unheaded k || is_bound k) && not (is_in_header k part.role))

all_unheaded : (k : AstType) (text : List ℕ) → list_all (unheaded_part k text) (parts k) ≡ true
unfolding unheaded_part may_be
all_unheaded kind.Program text = refl
all_unheaded _ text = refl

one_may : (ks : List AstType) (c : Class) (k2 : AstType) (text : List ℕ) → is_of c k2 text ≡ true → holds_kind ks k2 ≡ true → may_be ks c text ≡ true
unfolding may_be
one_may [] c k2 text h i = absurd (never (sym i))
one_may (j ∷ ks) c k2 text h i = elim (cases_Bool (same_kind j k2)) [
  | inl e ↦ ap (λ b. b || list_any (λ l. is_of c l text) ks) (subst (λ l. is_of c l text ≡ true) (sym (kind_is j k2 e)) h)
  | inr e ↦ last (is_of c j text) (one_may ks c k2 text h (sym (ap (λ b. b || holds_kind ks k2) e) ∙ i))
]
  where
    last : (b : Bool) → list_any (λ l. is_of c l text) ks ≡ true → (b || list_any (λ l. is_of c l text) ks) ≡ true
    last true f = refl
    last false f = f

part_unheaded : (k : AstType) (part : Part) (k2 : AstType) (text : List ℕ) → unheaded_part k text part ≡ true → is_of part.class k2 text ≡ true → stands_unheaded k part.role k2 text ≡ true
unfolding unheaded_part
part_unheaded k part k2 text h i = elim (cases_Bool (is_unheaded k2)) [
  | inr e ↦ ap (λ b. not b || ((is_unheaded k || is_bound k) && not (is_in_header k part.role))) e
  | inl e ↦ ap (λ b. not b || ((is_unheaded k || is_bound k) && not (is_in_header k part.role))) e
      ∙ sym (ap (λ b. not b || ((is_unheaded k || is_bound k) && not (is_in_header k part.role))) (one_may unheaded_kinds part.class k2 text i e)) ∙ h
]

pub tree_unheaded : (p : Tree) → first_fault p ≡ None → holds_below stands_unheaded p.root.kind p.root.children ≡ true
tree_unheaded p h = tree_holds stands_unheaded (λ k. passed_hold stands_unheaded (unheaded_part k) k (part_unheaded k) (parts k) (all_unheaded k)) p h

-- so no header holds it, if none holds its parent
pub child_unheaded : (k : AstType) (r : Role) (k2 : AstType) (text : List ℕ) (q : Node) (outer chain : List OpenScope) → (is_unheaded k ≡ true → (innermost outer).in_header ≡ false) → stands_unheaded k r k2 text ≡ true → ChainOf k r q outer chain
    → is_unheaded k2 ≡ true → (innermost chain).in_header ≡ false
child_unheaded k r k2 text q outer chain above h c e = by c
  where
    stands : ((is_unheaded k || is_bound k) && not (is_in_header k r)) ≡ true
    stands = sym (ap (λ b. not b || ((is_unheaded k || is_bound k) && not (is_in_header k r))) e) ∙ h

    by : {cs : List OpenScope} → ChainOf k r q outer cs → (innermost cs).in_header ≡ false
    by (inner_chain s i opener header lasting) = header ∙ not-true (is_in_header k r) (and_second (is_unheaded k || is_bound k) (not (is_in_header k r)) stands)
    by (outer_chain i) = elim (either (is_unheaded k) (is_bound k) (and_first (is_unheaded k || is_bound k) (not (is_in_header k r)) stands)) [
      | inl a ↦ above a
      | inr b ↦ absurd (never (sym (bound_inside k r b) ∙ i))
    ]
