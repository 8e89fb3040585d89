-- Which kinds stand in the roles by which names are bound, by the table of parts.
use Rattle.std.proofs.Common.{◌≡◌, ℕ, List, [], ◌∷◌, ◌++◌, Bool, true, false, not, ◌&&◌, cond, refl, sym, subst, inl, inr}
use Rattle.std.specs.List.{list_all}
use Rattle.std.proofs.lemmas.Bool.{cases_Bool}
use Rattle.semantic_syntax.proofs.Truth.{and_first, and_second}
use Rattle.semantic_kinds.specs.Kinds.{same_kind}
use Rattle.semantic_kinds.specs.Classes.{is_of, holds_kind}
use Rattle.semantic_kinds.specs.Parts.{parts}
use Rattle.semantic_kinds.specs.declared.kind.AstType.{AstType}
use Rattle.semantic_kinds.specs.declared.kind.AstType.TheVariants as kind
use Rattle.semantic_kinds.specs.declared.class.Class.{Class}
use Rattle.semantic_kinds.specs.declared.role.Role.{Role}
use Rattle.semantic_kinds.specs.declared.part.Part.{Part}
use Rattle.semantic_tree.specs.BoundNames.{binds_by}
use Rattle.semantic_tree.specs.Forest.{Forest}
use Rattle.semantic_tree.specs.Fit.{fit}
use Rattle.semantic_tree.specs.Nodes.{trees}
use Rattle.semantic_tree.specs.Views.{is_role_of}
use Rattle.semantic_model.specs.Names.{binding_roles}
use Rattle.semantic_model.proofs.form.Clauses.{kind_is}
use Rattle.program_laws.specs.NamesAlike.{binding_kinds, operand_kinds}
use Rattle.program_laws.proofs.FitChildren.{all_pass, fit_passes}

-- the kinds below which there are names by role
abbrev pub naming_kinds : List AstType
naming_kinds = operand_kinds ++ binding_kinds

-- below a node of another kind no child in a role that is followed is of one of these; `lacks` tells kinds of which the child is none
abbrev silent_by : (List AstType → Bool) → AstType → Role → Bool
silent_by lacks k r = cond (holds_kind naming_kinds k) true (cond (binds_by k r) (lacks naming_kinds) true)

-- below a node without operands a child in a role under which its kind binds has none either, and is followed; one in another role that is followed has no names
abbrev alike_by : (List AstType → Bool) → AstType → Role → Bool
alike_by lacks k r = cond (holds_kind operand_kinds k) true (cond (is_role_of r (binding_roles k)) (binds_by k r && lacks operand_kinds) (cond (binds_by k r) (lacks naming_kinds) true))

-- a child is of none of the kinds
abbrev is_none : AstType → List AstType → Bool
is_none k ks = not (holds_kind ks k)

-- the class, for nodes of the text, has none of the kinds
abbrev takes_none : Class → List ℕ → List AstType → Bool
takes_none c text ks = list_all (λ k. not (is_of c k text)) ks

abbrev pub is_silent_child : AstType → Role → AstType → Bool
is_silent_child k r child = silent_by (is_none child) k r

abbrev pub is_alike_child : AstType → Role → AstType → Bool
is_alike_child k r child = alike_by (is_none child) k r

silent_part : AstType → List ℕ → Part → Bool
silent_part k text part = silent_by (takes_none part.class text) k part.role

alike_part : AstType → List ℕ → Part → Bool
alike_part k text part = alike_by (takes_none part.class text) k part.role

silent_parts : (k : AstType) (text : List ℕ) → list_all (silent_part k text) (parts k) ≡ true
unfolding silent_part
silent_parts kind.Program text = refl
silent_parts _ text = refl

alike_parts : (k : AstType) (text : List ℕ) → list_all (alike_part k text) (parts k) ≡ true
unfolding alike_part
alike_parts kind.Program text = refl
alike_parts _ text = refl

-- a child of a class that takes none of the kinds is of none of them
none_taken : (c : Class) (child : AstType) (text : List ℕ) (ks : List AstType) → is_of c child text ≡ true → takes_none c text ks ≡ true → is_none child ks ≡ true
none_taken c child text [] i h = refl
none_taken c child text (k ∷ ks) i h = elim (cases_Bool (same_kind k child)) [
  | inl e ↦
      (let taken : is_of c k text ≡ true = subst (λ q. is_of c q text ≡ true) (sym (kind_is k child e)) i in
      let none : not (is_of c k text) ≡ true = and_first (not (is_of c k text)) _ h in
      let q : false ≡ true = rw taken at none in absurd cc)
  | inr e ↦ rw e (none_taken c child text ks i (and_second (not (is_of c k text)) _ h))
]

if_less : (a b x y : Bool) → (x ≡ true → y ≡ true) → cond a true (cond b x true) ≡ true → cond a true (cond b y true) ≡ true
if_less true b x y f h = refl
if_less false true x y f h = f h
if_less false false x y f h = refl

either_less : (a b c x y u v : Bool) → (x ≡ true → y ≡ true) → (u ≡ true → v ≡ true) → cond a true (cond b (c && x) (cond c u true)) ≡ true → cond a true (cond b (c && y) (cond c v true)) ≡ true
either_less true b c x y u v f g h = refl
either_less false true true x y u v f g h = f h
either_less false true false x y u v f g h = h
either_less false false true x y u v f g h = g h
either_less false false false x y u v f g h = refl

-- the children of a node that keeps the table
pub silent_children : (k : AstType) (f : Forest) → fit (parts k) (trees f) ≡ true → all_pass (is_silent_child k) (trees f) ≡ true
unfolding silent_part
silent_children k f h =
    fit_passes (silent_part k) (is_silent_child k)
    (λ part child text a i. if_less (holds_kind naming_kinds k) (binds_by k part.role) (takes_none part.class text naming_kinds) (is_none child naming_kinds) (none_taken part.class child text naming_kinds i) a)
    (parts k) (trees f) (silent_parts k) h

pub alike_children : (k : AstType) (f : Forest) → fit (parts k) (trees f) ≡ true → all_pass (is_alike_child k) (trees f) ≡ true
unfolding alike_part
alike_children k f h =
    fit_passes (alike_part k) (is_alike_child k)
    (λ part child text a i. either_less (holds_kind operand_kinds k) (is_role_of part.role (binding_roles k)) (binds_by k part.role) (takes_none part.class text operand_kinds) (is_none child operand_kinds) (takes_none part.class text naming_kinds) (is_none child naming_kinds) (none_taken part.class child text operand_kinds i) (none_taken part.class child text naming_kinds i) a)
    (parts k) (trees f) (alike_parts k) h
