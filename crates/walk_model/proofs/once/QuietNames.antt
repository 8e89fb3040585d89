-- In a tree without a fault the nodes that hand names on to the nodes around them declare nothing themselves.
use Rattle.std.proofs.Common.{◌≡◌, ℕ, List, [], ◌∷◌, Bool, true, false, not, ◌||◌, None, refl}
use Rattle.std.specs.List.{list_all}
use Rattle.semantic_syntax.proofs.Truth.{and_first, and_second}
use Rattle.semantic_kinds.specs.Classes.{is_of, is_pattern}
use Rattle.semantic_kinds.specs.Parts.{parts}
use Rattle.semantic_kinds.specs.declared.kind.AstType.{AstType}
use Rattle.semantic_kinds.specs.declared.kind.AstType.TheVariants as kind
use Rattle.semantic_kinds.specs.declared.role.Role.{Role}
use Rattle.semantic_kinds.specs.declared.part.Part.{Part}
use Rattle.semantic_kinds.specs.declared.class.Class.{Class}
use Rattle.semantic_kinds.specs.declared.class.Class.TheVariants as class
use Rattle.semantic_tree.specs.Tree.{Tree}
use Rattle.semantic_tree.specs.Faults.{first_fault}
use Rattle.semantic_tree.specs.Views.{is_role_of}
use Rattle.semantic_model.specs.Names.{binding_roles}
use Rattle.walk_model.proofs.places.Shapes.{HoldsPart, HoldParts, holds_below, tree_holds, is_only, only_holds}
use Rattle.walk_model.proofs.once.NameTimes.{name_roles}

-- a node of the kind leaves the names that it binds to the node around it, unless it is the rest of a list of parameters
abbrev pub is_quiet : AstType → Bool
is_quiet kind.VariableDeclaration = false
is_quiet kind.VariableDeclarator = false
is_quiet kind.Function = false
is_quiet kind.Class = false
is_quiet kind.FormalParameters = false
is_quiet kind.FormalParameter = false
is_quiet kind.FormalParameterRest = false
is_quiet kind.CatchParameter = false
is_quiet kind.ImportSpecifier = false
is_quiet kind.ImportDefaultSpecifier = false
is_quiet kind.ImportNamespaceSpecifier = false
is_quiet kind.TSImportEqualsDeclaration = false
is_quiet kind.TSTypeAliasDeclaration = false
is_quiet kind.TSInterfaceDeclaration = false
is_quiet kind.TSEnumDeclaration = false
is_quiet kind.TSEnumMember = false
is_quiet kind.TSNamespaceDeclaration = false
is_quiet kind.TSTypeParameter = false
is_quiet kind.TSMappedType = false
is_quiet _ = true

-- what stands where names do is quiet
abbrev pub names_quietly : AstType → Role → AstType → List ℕ → Bool
names_quietly k r child text = not (is_role_of r (name_roles k)) || is_quiet child

abbrev is_quiet_class : Class → Bool
is_quiet_class class.Pattern = true
is_quiet_class c = is_only is_quiet c

part_names : AstType → Part → Bool
part_names k part = not (is_role_of part.role (name_roles k)) || is_quiet_class part.class

all_name : (k : AstType) → list_all (part_names k) (parts k) ≡ true
unfolding part_names
all_name kind.Program = refl
all_name _ = refl

pattern_table : (k : AstType) → (not (is_pattern k) || is_quiet k) ≡ true
pattern_table kind.Program = refl
pattern_table _ = refl

pattern_quiet : (k : AstType) → is_pattern k ≡ true → is_quiet k ≡ true
pattern_quiet k h = by (is_pattern k) h (pattern_table k)
  where
    by : (b : Bool) → b ≡ true → (not b || is_quiet k) ≡ true → is_quiet k ≡ true
    by true e q = q
    by false e q = absurd cc

class_quiet : (c : Class) (child : AstType) (text : List ℕ) → is_quiet_class c ≡ true → is_of c child text ≡ true → is_quiet child ≡ true
class_quiet class.Pattern child text e h = pattern_quiet child h
class_quiet c child text e h = only_holds is_quiet c child text e h

part_holds : (k : AstType) (part : Part) → part_names k part ≡ true → HoldsPart names_quietly k part
unfolding part_names
part_holds k part e child text h = by (is_role_of part.role (name_roles k)) e
  where
    by : (b : Bool) → (not b || is_quiet_class part.class) ≡ true → (not b || is_quiet child) ≡ true
    by true q = class_quiet part.class child text q h
    by false q = refl

parts_hold : (k : AstType) (ps : List Part) → list_all (part_names k) ps ≡ true → HoldParts names_quietly k ps
parts_hold k [] h = tt
parts_hold k (p ∷ ps) h = (part_holds k p (and_first (part_names k p) (list_all (part_names k) ps) h), parts_hold k ps (and_second (part_names k p) (list_all (part_names k) ps) h))

pub tree_quiet : (p : Tree) → first_fault p ≡ None → holds_below names_quietly p.root.kind p.root.children ≡ true
tree_quiet p h = tree_holds names_quietly (λ k. parts_hold k (parts k) (all_name k)) p h

-- a quiet node hands on what it binds
pub quiet_roles : (k : AstType) → is_quiet k ≡ true → name_roles k ≡ binding_roles k
quiet_roles kind.VariableDeclaration h = absurd cc
quiet_roles kind.FormalParameters h = absurd cc
quiet_roles kind.TSEnumMember h = absurd cc
quiet_roles kind.ImportSpecifier h = absurd cc
quiet_roles kind.ImportDefaultSpecifier h = absurd cc
quiet_roles kind.ImportNamespaceSpecifier h = absurd cc
quiet_roles kind.TSTypeParameter h = absurd cc
quiet_roles kind.TSMappedType h = absurd cc
quiet_roles _ h = refl
