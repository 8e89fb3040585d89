-- Which children of a node stand inside its scope, by their kinds; and what a node has round them.
use Rattle.std.proofs.Common.{◌≡◌, ℕ, List, [], ◌∷◌, None, Bool, true, false, ◌||◌, not, cond, refl, sym, ap, subst, ◌∙◌, inl, inr}
use Rattle.std.specs.List.{list_all}
use Rattle.std.proofs.lemmas.Bool.{cases_Bool}
use Rattle.semantic_syntax.proofs.Truth.{and_first, and_second, or_true}
use Rattle.semantic_kinds.specs.Classes.{is_of, holds_kind}
use Rattle.semantic_kinds.specs.Kinds.{same_kind}
use Rattle.semantic_kinds.specs.Parts.{parts}
use Rattle.semantic_kinds.specs.declared.class.Class.{Class}
use Rattle.semantic_kinds.specs.declared.class.Class.TheVariants as class
use Rattle.semantic_kinds.specs.declared.kind.AstType.{AstType}
use Rattle.semantic_kinds.specs.declared.kind.AstType.TheVariants as kind
use Rattle.semantic_kinds.specs.declared.part.Part.{Part}
use Rattle.semantic_kinds.specs.declared.role.Role.{Role}
use Rattle.semantic_tree.specs.Faults.{first_fault}
use Rattle.semantic_tree.specs.Tree.{Tree}
use Rattle.semantic_model.specs.Inside.{opens, is_inside, is_in_header}
use Rattle.semantic_model.proofs.form.Clauses.{kind_is}
use Rattle.semantic_model.proofs.form.PartsHold.{passed_hold}
use Rattle.walk_model.proofs.places.Shapes.{holds_below, tree_holds, only_is}

abbrev pub signature_kinds : List AstType
signature_kinds = kind.TSTypeParameterDeclaration ∷ kind.TSThisParameter ∷ kind.FormalParameters ∷ kind.TSTypeAnnotation ∷ []

-- the kinds of children by which it is told which stand inside
abbrev pub telling_kinds : AstType → List AstType
telling_kinds kind.Class = kind.Decorator ∷ []
telling_kinds kind.TSInterfaceDeclaration = kind.BindingIdentifier ∷ []
telling_kinds kind.TSTypeAliasDeclaration = kind.BindingIdentifier ∷ []
telling_kinds kind.TSNamespaceDeclaration = kind.BindingIdentifier ∷ []
telling_kinds kind.TSExternalModuleDeclaration = kind.TSModuleBlock ∷ []
telling_kinds kind.SwitchStatement = kind.SwitchCase ∷ []
telling_kinds kind.TSMethodSignature = signature_kinds
telling_kinds _ = []

-- whether these are the ones inside, or the others
abbrev pub are_inside : AstType → Bool
are_inside kind.Class = false
are_inside kind.TSInterfaceDeclaration = false
are_inside kind.TSTypeAliasDeclaration = false
are_inside kind.TSNamespaceDeclaration = false
are_inside kind.TSExternalModuleDeclaration = true
are_inside kind.SwitchStatement = true
are_inside kind.TSMethodSignature = true
are_inside k = not (opens k)

-- of a conditional type and a `with` it isn't told by kinds
abbrev pub is_told_by_role : AstType → Bool
is_told_by_role k = same_kind k kind.TSConditionalType || same_kind k kind.WithStatement

abbrev pub same_truth : Bool → Bool → Bool
same_truth true b = b
same_truth false b = not b

-- a child stands as its kind tells
-- by its kind alone
abbrev pub tells_by_kind : AstType → Role → AstType → Bool
tells_by_kind k r k2 = same_truth (is_inside k r) (same_truth (are_inside k) (holds_kind (telling_kinds k) k2))

abbrev pub tells_inside : AstType → Role → AstType → List ℕ → Bool
tells_inside k r k2 text = is_told_by_role k || same_truth (is_inside k r) (same_truth (are_inside k) (holds_kind (telling_kinds k) k2))

abbrev pub is_one_of : List AstType → Class → Bool
is_one_of ks (class.Only k) = holds_kind ks k
is_one_of ks c = false

abbrev pub is_none_of : List AstType → Class → List ℕ → Bool
is_none_of ks c text = list_all (λ k. not (is_of c k text)) ks

tells_part : AstType → List ℕ → Part → Bool
tells_part k text part = is_told_by_role k || cond (same_truth (is_inside k part.role) (are_inside k)) (is_one_of (telling_kinds k) part.class) (is_none_of (telling_kinds k) part.class text)

all_tell : (k : AstType) (text : List ℕ) → list_all (tells_part k text) (parts k) ≡ true
unfolding tells_part
all_tell kind.Program text = refl
all_tell _ text = refl

pub one_of : (ks : List AstType) (c : Class) (k2 : AstType) (text : List ℕ) → is_one_of ks c ≡ true → is_of c k2 text ≡ true → holds_kind ks k2 ≡ true
one_of ks (class.Only k) k2 text h i = subst (λ m. holds_kind ks m ≡ true) (sym (kind_is k2 k (sym (only_is k k2 text) ∙ i))) h
one_of ks _ k2 text h i = absurd cc

pub none_of : (ks : List AstType) (c : Class) (k2 : AstType) (text : List ℕ) → is_none_of ks c text ≡ true → is_of c k2 text ≡ true → holds_kind ks k2 ≡ false
none_of [] c k2 text h i = refl
none_of (k ∷ ks) c k2 text h i = elim (cases_Bool (same_kind k k2)) [
  | inl e ↦ (let q : is_of c k text ≡ true = subst (λ m. is_of c m text ≡ true) (sym (kind_is k k2 e)) i in
      let w : not (is_of c k text) ≡ true = and_first (not (is_of c k text)) _ h in
      let v : not true ≡ true = subst (λ b. not b ≡ true) q w in absurd cc)
  | inr e ↦ rw e (none_of ks c k2 text (and_second (not (is_of c k text)) _ h) i)
]

by_truth : (a b c : Bool) → (same_truth a b ≡ true → c ≡ true) → (same_truth a b ≡ false → c ≡ false) → same_truth a (same_truth b c) ≡ true
by_truth true true c f g = f refl
by_truth true false c f g = ap not (g refl)
by_truth false true c f g = ap not (g refl)
by_truth false false c f g = ap (λ d. not (not d)) (f refl)

part_tells : (k : AstType) (part : Part) (k2 : AstType) (text : List ℕ) → tells_part k text part ≡ true → is_of part.class k2 text ≡ true → tells_inside k part.role k2 text ≡ true
unfolding tells_part
part_tells k part k2 text h i = elim (cases_Bool (is_told_by_role k)) [
  | inl e ↦ ap (λ b. b || same_truth (is_inside k part.role) (same_truth (are_inside k) (holds_kind (telling_kinds k) k2))) e
  | inr e ↦ ap (λ b. is_told_by_role k || b) (by_truth (is_inside k part.role) (are_inside k) (holds_kind (telling_kinds k) k2)
      (λ t. one_of (telling_kinds k) part.class k2 text (sym (ap (λ b. cond b (is_one_of (telling_kinds k) part.class) (is_none_of (telling_kinds k) part.class text)) t) ∙ left e h) i)
      (λ t. none_of (telling_kinds k) part.class k2 text (sym (ap (λ b. cond b (is_one_of (telling_kinds k) part.class) (is_none_of (telling_kinds k) part.class text)) t) ∙ left e h) i)) ∙ or_true (is_told_by_role k)
]
  where
    left : is_told_by_role k ≡ false → tells_part k text part ≡ true → cond (same_truth (is_inside k part.role) (are_inside k)) (is_one_of (telling_kinds k) part.class) (is_none_of (telling_kinds k) part.class text) ≡ true
    left e h = sym (ap (λ b. b || cond (same_truth (is_inside k part.role) (are_inside k)) (is_one_of (telling_kinds k) part.class) (is_none_of (telling_kinds k) part.class text)) e) ∙ h

pub told_by_kind : (k : AstType) (r : Role) (k2 : AstType) (text : List ℕ) → tells_inside k r k2 text ≡ true → is_told_by_role k ≡ false → tells_by_kind k r k2 ≡ true
told_by_kind k r k2 text h e = sym (ap (λ b. b || tells_by_kind k r k2) e) ∙ h

pub tree_tells : (p : Tree) → first_fault p ≡ None → holds_below tells_inside p.root.kind p.root.children ≡ true
tree_tells p h = tree_holds tells_inside (λ k. passed_hold tells_inside (tells_part k) k (part_tells k) (parts k) (all_tell k)) p h

-- ---- headers of functions

abbrev pub is_function : AstType → Bool
is_function k = holds_kind (kind.Function ∷ kind.ArrowFunctionExpression ∷ []) k

-- of a function's children those of its signature stand in its header
abbrev pub tells_header : AstType → Role → AstType → List ℕ → Bool
tells_header k r k2 text = not (is_function k) || same_truth (is_in_header k r) (holds_kind signature_kinds k2)

header_part : AstType → List ℕ → Part → Bool
header_part k text part = not (is_function k) || cond (is_in_header k part.role) (is_one_of signature_kinds part.class) (is_none_of signature_kinds part.class text)

all_headed : (k : AstType) (text : List ℕ) → list_all (header_part k text) (parts k) ≡ true
unfolding header_part
all_headed kind.Program text = refl
all_headed _ text = refl

part_headed : (k : AstType) (part : Part) (k2 : AstType) (text : List ℕ) → header_part k text part ≡ true → is_of part.class k2 text ≡ true → tells_header k part.role k2 text ≡ true
unfolding header_part
part_headed k part k2 text h i = go (not (is_function k)) (is_in_header k part.role) h
    (λ t. one_of signature_kinds part.class k2 text t i) (λ t. none_of signature_kinds part.class k2 text t i)
  where
    go : (a b : Bool) → (a || cond b (is_one_of signature_kinds part.class) (is_none_of signature_kinds part.class text)) ≡ true
        → (is_one_of signature_kinds part.class ≡ true → holds_kind signature_kinds k2 ≡ true) → (is_none_of signature_kinds part.class text ≡ true → holds_kind signature_kinds k2 ≡ false)
        → (a || same_truth b (holds_kind signature_kinds k2)) ≡ true
    go true b g f e = refl
    go false true g f e = f g
    go false false g f e = ap not (e g)

pub tree_headed : (p : Tree) → first_fault p ≡ None → holds_below tells_header p.root.kind p.root.children ≡ true
tree_headed p h = tree_holds tells_header (λ k. passed_hold tells_header (header_part k) k (part_headed k) (parts k) (all_headed k)) p h
