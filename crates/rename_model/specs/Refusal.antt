-- Why a symbol can't have a name.
use Rattle.std.specs.Prelude.{ℕ, List, [], ◌∷◌, Bool, true, false, ◌&&◌, ◌||◌, Option, Some, None, cond, codes, bytes_eq, Result, Ok, Err}
use Rattle.semantic_kinds.specs.Roles.{same_role}
use Rattle.semantic_kinds.specs.declared.kind.AstType.TheVariants as kind
use Rattle.semantic_kinds.specs.declared.role.Role.TheVariants as role
use Rattle.semantic_syntax.specs.Tables.{Name}
use Rattle.semantic_tree.specs.Children.{node_count}
use Rattle.semantic_tree.specs.Tree.{Tree}
use Rattle.semantic_tree.specs.Views.{is}
use Rattle.semantic_model.specs.Place.{Place, parent_holds}
use Rattle.semantic_syntax.specs.Members.{contains}
use Rattle.semantic_model.specs.Step.{Step, entering, steps}
use Rattle.semantic_model.specs.Analysis.{Analysis, analysis_by, analysis_of}
use Rattle.semantic_model.specs.Exported.{exported_names}
use Rattle.rename_model.specs.WithName.{with_name_in}
use Rattle.rename_model.specs.Renamed.{bears_name}
use Rattle.rename_model.specs.Same.{first_difference}

pub data Refusal : Type 0 where
  bad_name : Refusal
  fixed : ℕ → Refusal
  differs : ℕ → Refusal

-- a name that no symbol gets
abbrev pub is_bad_name : Name → Bool
is_bad_name name = bytes_eq name [] || bytes_eq name (codes "arguments") || bytes_eq name (codes "eval")

-- a node whose text is also the name of a property or of a member
abbrev pub names_property : Place → Bool
names_property p = is kind.TSEnumMember p.node || (same_role p.role role.Binding && parent_holds (is kind.AssignmentTargetPropertyIdentifier) p.path)

abbrev pub fixes_name : (exported : List ℕ) (chosen : ℕ → Bool) → Step → Bool
fixes_name exported chosen (entering p) = chosen p.node.node_id && (names_property p || contains exported p.node.node_id)
fixes_name exported chosen _ = false

abbrev pub node_in : Step → ℕ
node_in (entering p) = p.node.node_id
node_in _ = 0

-- the first of the chosen nodes that fixes a name that others see
abbrev pub first_fixed : (exported : List ℕ) (chosen : ℕ → Bool) → List Step → Option ℕ
first_fixed exported chosen [] = None
first_fixed exported chosen (s ∷ ss) = cond (fixes_name exported chosen s) (Some (node_in s)) (first_fixed exported chosen ss)

abbrev pub compared : Tree → Analysis → Tree → Option ℕ → Result Tree Refusal
compared p a q None = Ok q
compared p a q (Some node) = Err (differs node)

abbrev pub unless_fixed : Tree → Analysis → (ℕ → Bool) → Name → Option ℕ → Result Tree Refusal
unless_fixed p a chosen name (Some node) = Err (fixed node)
unless_fixed p a chosen name None =
    let q : Tree = with_name_in chosen name p in
    compared p a q (first_difference a (analysis_of q) 0 (node_count p.root))

abbrev pub unless_bad : Bool → Tree → List Step → Analysis → ℕ → Name → Result Tree Refusal
unless_bad true p walk a s name = Err bad_name
unless_bad false p walk a s name =
    let chosen : ℕ → Bool = bears_name a s in unless_fixed p a chosen name (first_fixed (exported_names walk) chosen walk)

-- the program in which symbol s has the name, or the first refusal
abbrev pub rename : Tree → ℕ → Name → Result Tree Refusal
rename p s name = let walk : List Step = steps p in unless_bad (is_bad_name name) p walk (analysis_by walk) s name
