-- What stands in the header of a function is its list of parameters, in ECMAScript.
use Rattle.std.proofs.Common.{◌≡◌, ℕ, List, Bool, true, false, ◌&&◌, ◌||◌, not, None, refl}
use Rattle.std.specs.List.{list_all}
use Rattle.semantic_kinds.specs.Classes.{is_of}
use Rattle.semantic_kinds.specs.Kinds.{same_kind}
use Rattle.semantic_kinds.specs.Parts.{parts}
use Rattle.semantic_kinds.specs.declared.kind.AstType.{AstType}
use Rattle.semantic_kinds.specs.declared.kind.AstType.TheVariants as kind
use Rattle.semantic_kinds.specs.declared.part.Part.{Part}
use Rattle.semantic_kinds.specs.declared.role.Role.{Role}
use Rattle.semantic_tree.specs.Faults.{first_fault}
use Rattle.semantic_tree.specs.Tree.{Tree}
use Rattle.semantic_model.specs.Inside.{is_in_header}
use Rattle.semantic_model.proofs.form.PartsHold.{passed_hold}
use Rattle.walk_model.proofs.places.Shapes.{is_only, only_holds, holds_below, tree_holds}
use Rattle.language_ties.specs.EcmaScript.{is_ecmascript_kind}
use Rattle.language_ties.proofs.agree.FamiliarPlaces.{is_function_kind}

abbrev is_list_or_foreign : AstType → Bool
is_list_or_foreign k = same_kind k kind.FormalParameters || not (is_ecmascript_kind k)

-- a child in the header of a function is its list of parameters, or TypeScript's
abbrev pub heads_parameters : AstType → Role → AstType → List ℕ → Bool
heads_parameters k r k2 text = not (is_function_kind k && is_in_header k r) || is_list_or_foreign k2

part_heads : AstType → List ℕ → Part → Bool
part_heads k text part = not (is_function_kind k && is_in_header k part.role) || is_only is_list_or_foreign part.class

all_head : (k : AstType) (text : List ℕ) → list_all (part_heads k text) (parts k) ≡ true
unfolding part_heads
all_head kind.Program text = refl
all_head _ text = refl

part_holds : (k : AstType) (part : Part) (k2 : AstType) (text : List ℕ) → part_heads k text part ≡ true → is_of part.class k2 text ≡ true → heads_parameters k part.role k2 text ≡ true
unfolding part_heads
part_holds k part k2 text h i = by (is_function_kind k && is_in_header k part.role) h
  where
    by : (b : Bool) → (not b || is_only is_list_or_foreign part.class) ≡ true → (not b || is_list_or_foreign k2) ≡ true
    by true w = only_holds is_list_or_foreign part.class k2 text w i
    by false w = refl

pub tree_heads : (p : Tree) → first_fault p ≡ None → holds_below heads_parameters p.root.kind p.root.children ≡ true
tree_heads p h = tree_holds heads_parameters (λ k. passed_hold heads_parameters (part_heads k) k (part_holds k) (parts k) (all_head k)) p h

-- so it is the list
pub header_list : (k : AstType) (r : Role) (k2 : AstType) (text : List ℕ) → heads_parameters k r k2 text ≡ true → is_ecmascript_kind k2 ≡ true → is_function_kind k ≡ true → is_in_header k r ≡ true → same_kind k2 kind.FormalParameters ≡ true
header_list k r k2 text h e f i = by (is_function_kind k) (is_in_header k r) (same_kind k2 kind.FormalParameters) (is_ecmascript_kind k2) h e f i
  where
    by : (a b c d : Bool) → (not (a && b) || (c || not d)) ≡ true → d ≡ true → a ≡ true → b ≡ true → c ≡ true
    by true true true d w v u t = refl
    by true true false true w v u t = absurd cc
    by true true false false w v u t = absurd cc
    by true false c d w v u t = absurd cc
    by false b c d w v u t = absurd cc
