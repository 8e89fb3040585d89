-- Which nodes have their names changed, and what their kinds allow.
use Rattle.std.proofs.Common.{◌≡◌, ℕ, List, [], Bool, true, false, ◌&&◌, ◌||◌, ◌⊎◌, inl, inr, not, if◌then◌else◌, refl, ap, sym, ◌∙◌, subst}
use Rattle.std.specs.Str.{bytes_eq}
use Rattle.std.proofs.lemmas.Slice.Eq.{bytes_eq-Decides}
use Rattle.semantic_syntax.proofs.Truth.{and_second}
use denote.Enum.Bare.{same_true}
use Rattle.semantic_kinds.specs.Kinds.{same_kind}
use Rattle.semantic_kinds.specs.Roles.{same_role}
use Rattle.semantic_kinds.specs.Classes.{is_of}
use Rattle.semantic_kinds.specs.Texts.{may_have_text}
use Rattle.semantic_kinds.specs.contracts.kind.AstType.{the_type as the_kinds}
use Rattle.semantic_kinds.specs.declared.kind.AstType.{AstType}
use Rattle.semantic_kinds.specs.declared.kind.AstType.TheVariants as kinds
use Rattle.semantic_kinds.specs.declared.role.Role.{Role}
use Rattle.semantic_kinds.specs.declared.role.Role.TheVariants as roles
use Rattle.semantic_kinds.specs.declared.class.Class.{Class}
use Rattle.semantic_kinds.specs.declared.class.Class.TheVariants as class
use Rattle.semantic_tree.specs.Renamed.{swap, names_member, is_program_name, renamed_text}
use Rattle.semantic_tree.specs.declared.swap.Setting.{Setting}
use Rattle.semantic_tree.specs.declared.swap.Setting.TheVariants.{InMember, InMemberName, Elsewhere}

not_both : false ≡ true → ⊥
not_both e = cc

either_of : (a b : Bool) → a || b ≡ true → (a ≡ true) ⊎ (b ≡ true)
either_of true b h = inl refl
either_of false b h = inr h

and_never : (a : Bool) → a && false ≡ false
and_never true = refl
and_never false = refl

-- what holds of the kinds of members' names holds of such a name
of_member : (P : AstType → Type 0) → P kinds.IdentifierName → P kinds.StringLiteral → P kinds.TemplateElement → (s : Setting) (r : Role) (k : AstType) → names_member s r k ≡ true → P k
of_member P name string piece InMember r k h =
    elim (either_of (same_kind k kinds.IdentifierName) (same_kind k kinds.StringLiteral) (and_second (same_role r roles.Id) (same_kind k kinds.IdentifierName || same_kind k kinds.StringLiteral) h)) [
      | inl e ↦ subst P (sym (same_true the_kinds tt k kinds.IdentifierName e)) name
      | inr e ↦ subst P (sym (same_true the_kinds tt k kinds.StringLiteral e)) string
    ]
of_member P name string piece InMemberName r k h = subst P (sym (same_true the_kinds tt k kinds.TemplateElement (and_second (same_role r roles.Quasis) (same_kind k kinds.TemplateElement) h))) piece
of_member P name string piece Elsewhere r k h = absurd (not_both h)

-- what holds of the five kinds that have names holds of a node with a name
of_named : (P : AstType → Type 0) → P kinds.BindingIdentifier → P kinds.IdentifierReference → P kinds.IdentifierName → P kinds.StringLiteral → P kinds.TemplateElement → (s : Setting) (r : Role) (k : AstType) → is_program_name s r k ≡ true → P k
of_named P binding reference name string piece s r k h =
    elim (either_of (same_kind k kinds.BindingIdentifier || same_kind k kinds.IdentifierReference) (names_member s r k) h) [
      | inl e ↦ (elim (either_of (same_kind k kinds.BindingIdentifier) (same_kind k kinds.IdentifierReference) e) [
        | inl i ↦ subst P (sym (same_true the_kinds tt k kinds.BindingIdentifier i)) binding
        | inr i ↦ subst P (sym (same_true the_kinds tt k kinds.IdentifierReference i)) reference
      ])
      | inr e ↦ of_member P name string piece s r k e
    ]

-- a function has no name of its own
pub function_unnamed : (s : Setting) (r : Role) → is_program_name s r kinds.Function ≡ false
function_unnamed InMember r = and_never (same_role r roles.Id)
function_unnamed InMemberName r = and_never (same_role r roles.Quasis)
function_unnamed Elsewhere r = refl

-- ---- texts

-- other names are empty where the names were
abbrev pub KeepsEmpty : (List ℕ → List ℕ) → Type 0
KeepsEmpty f = (x : List ℕ) → bytes_eq (f x) [] ≡ bytes_eq x []

named_text : (f : List ℕ → List ℕ) → KeepsEmpty f → (t : List ℕ) (s : Setting) (r : Role) (k : AstType) → is_program_name s r k ≡ true → may_have_text k (f t) ≡ may_have_text k t
named_text f keeps t s r k h =
    let P : AstType → Type 0 = λ kind. may_have_text kind (f t) ≡ may_have_text kind t in
    let some : not (bytes_eq (f t) []) ≡ not (bytes_eq t []) = ap not (keeps t) in
    of_named P some some some refl refl s r k h

pub text_kept : (f : List ℕ → List ℕ) → KeepsEmpty f → (t : List ℕ) (s : Setting) (r : Role) (k : AstType) → may_have_text k (renamed_text f s r k t) ≡ may_have_text k t
text_kept f keeps t s r k =
    elim (is_program_name s r k) as (λ b. is_program_name s r k ≡ b → may_have_text k (if b then f t else t) ≡ may_have_text k t) [
      | true ↦ λ named. named_text f keeps t s r k named
      | false ↦ λ plain. refl
    ] refl

-- ---- classes, which ask nothing of these texts

of_binding : (c : Class) (t u : List ℕ) → is_of c kinds.BindingIdentifier t ≡ is_of c kinds.BindingIdentifier u
of_binding class.Statement t u = refl
of_binding _ t u = refl

of_reference : (c : Class) (t u : List ℕ) → is_of c kinds.IdentifierReference t ≡ is_of c kinds.IdentifierReference u
of_reference class.Statement t u = refl
of_reference _ t u = refl

of_name : (c : Class) (t u : List ℕ) → is_of c kinds.IdentifierName t ≡ is_of c kinds.IdentifierName u
of_name class.Statement t u = refl
of_name _ t u = refl

of_string : (c : Class) (t u : List ℕ) → is_of c kinds.StringLiteral t ≡ is_of c kinds.StringLiteral u
of_string class.Statement t u = refl
of_string _ t u = refl

of_piece : (c : Class) (t u : List ℕ) → is_of c kinds.TemplateElement t ≡ is_of c kinds.TemplateElement u
of_piece class.Statement t u = refl
of_piece _ t u = refl

pub class_kept : (f : List ℕ → List ℕ) (c : Class) (t : List ℕ) (s : Setting) (r : Role) (k : AstType) → is_of c k (renamed_text f s r k t) ≡ is_of c k t
class_kept f c t s r k =
    let P : AstType → Type 0 = λ kind. is_of c kind (f t) ≡ is_of c kind t in
    elim (is_program_name s r k) as (λ b. is_program_name s r k ≡ b → is_of c k (if b then f t else t) ≡ is_of c k t) [
      | true ↦ λ named. of_named P (of_binding c (f t) t) (of_reference c (f t) t) (of_name c (f t) t) (of_string c (f t) t) (of_piece c (f t) t) s r k named
      | false ↦ λ plain. refl
    ] refl

-- ---- swapping two names that are not empty

not_empty : (x : List ℕ) → (x ≡ [] → ⊥) → bytes_eq x [] ≡ false
not_empty x h =
    elim (bytes_eq x []) as (λ b. bytes_eq x [] ≡ b → b ≡ false) [
      | true ↦ λ e. absurd (h ((bytes_eq-Decides x []).0 e))
      | false ↦ λ e. refl
    ] refl

pub swap_keeps_empty : (a b : List ℕ) → (a ≡ [] → ⊥) → (b ≡ [] → ⊥) → KeepsEmpty (swap a b)
swap_keeps_empty a b some_a some_b x =
    elim (bytes_eq x a) as (λ first. bytes_eq x a ≡ first → bytes_eq (if first then b else (if bytes_eq x b then a else x)) [] ≡ bytes_eq x []) [
      | true ↦ λ is. not_empty b some_b ∙ sym (ap (λ y. bytes_eq y []) ((bytes_eq-Decides x a).0 is) ∙ not_empty a some_a)
      | false ↦ λ other. elim (bytes_eq x b) as (λ second. bytes_eq x b ≡ second → bytes_eq (if second then a else x) [] ≡ bytes_eq x []) [
        | true ↦ λ is. not_empty a some_a ∙ sym (ap (λ y. bytes_eq y []) ((bytes_eq-Decides x b).0 is) ∙ not_empty b some_b)
        | false ↦ λ none. refl
      ] refl
    ] refl
