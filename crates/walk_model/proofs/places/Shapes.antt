-- What holds of each part of a kind holds of each child in a tree without a fault.
use Rattle.std.proofs.Common.{◌≡◌, ℕ, List, ◌++◌, Bool, true, false, ◌&&◌, None, refl, sym, subst, ◌∙◌}
use Rattle.std.proofs.lemmas.Bool.{and_from}
use Rattle.semantic_syntax.proofs.Truth.{and_first, and_second}
use Rattle.semantic_kinds.specs.Kinds.{same_kind}
use Rattle.semantic_kinds.specs.Classes.{is_of}
use Rattle.semantic_kinds.specs.Parts.{parts}
use Rattle.semantic_kinds.specs.declared.class.Class.{Class}
use Rattle.semantic_kinds.specs.declared.class.Class.TheVariants as class
use Rattle.semantic_kinds.specs.declared.kind.AstType.{AstType}
use Rattle.semantic_kinds.specs.declared.role.Role.{Role}
use Rattle.semantic_tree.specs.Forest.{Forest, nothing, tree}
use Rattle.semantic_tree.specs.Tree.{Tree}
use Rattle.semantic_tree.specs.Nodes.{trees}
use Rattle.semantic_tree.specs.Faults.{first_fault}
use Rattle.semantic_tree.specs.Place.{root_place, child_place, placed_below}
use Rattle.semantic_tree.specs.Rules.{is_well_formed, is_rooted, keeps_table, stands, names_foreign}
use Rattle.semantic_tree.specs.declared.node.Node.{Node}
use Rattle.semantic_tree.specs.declared.place.Place.{Place}
use Rattle.semantic_model.proofs.form.Clauses.{kind_is}
pub use Rattle.semantic_model.proofs.form.PartsHold.{HoldsPart, HoldParts}
use Rattle.semantic_model.proofs.form.PartsHold.{hold, fit_holds}
use Rattle.semantic_model.proofs.form.Shape.{NoneMisshapen, first_formed, rest_formed, table_kept, fit_kept, none_misshapen}

pub only_is : (k child : AstType) (text : List ℕ) → is_of (class.Only k) child text ≡ same_kind child k
only_is k child text = refl

-- the class has one kind alone, of which the test holds
abbrev pub is_only : (AstType → Bool) → Class → Bool
is_only t (class.Only k) = t k
is_only t _ = false

pub only_holds : (t : AstType → Bool) (c : Class) (child : AstType) (text : List ℕ) → is_only t c ≡ true → is_of c child text ≡ true → t child ≡ true
only_holds t (class.Only k) child text e h = let q : k ≡ child = sym (kind_is child k (sym (only_is k child text) ∙ h)) in subst (λ m. t m ≡ true) q e
only_holds t _ child text e h = absurd cc

module _ (q : AstType → Role → AstType → List ℕ → Bool) where
  -- the test holds of each child below a node of the kind
  abbrev pub holds_below : AstType → Forest → Bool
  holds_below k nothing = true
  holds_below k (tree r k2 span text marks below id after) = q k r k2 text && (holds_below k2 below && holds_below k after)

  forest_holds : ((k : AstType) → HoldParts q k (parts k)) → (place : Place) (k : AstType) (f : Forest) → hold q k (trees f) ≡ true → NoneMisshapen (placed_below place k f) → holds_below k f ≡ true
  forest_holds all place k nothing s h = refl
  forest_holds all place k (tree r k2 span text marks below id after) s h =
      let node : Node = record { kind = k2; span = span; text = text; marks = marks; children = below; node_id = id } in
      let here : Place = child_place place k r in
      let f : (is_well_formed here node ≡ true) × NoneMisshapen (placed_below here k2 below ++ placed_below place k after) = first_formed (here, node) (placed_below here k2 below ++ placed_below place k after) h in
      let w : NoneMisshapen (placed_below here k2 below) × NoneMisshapen (placed_below place k after) = rest_formed (placed_below here k2 below) (placed_below place k after) f.1 in
      and_from (q k r k2 text) (holds_below k2 below && holds_below k after) (and_first (q k r k2 text) (hold q k (trees after)) s)
      (and_from (holds_below k2 below) (holds_below k after)
      (forest_holds all here k2 below (fit_holds q k2 (parts k2) (trees below) (all k2) (fit_kept node (table_kept here node f.0))) w.0)
      (forest_holds all place k after (and_second (q k r k2 text) (hold q k (trees after)) s) w.1))

  -- so it is in a tree without a fault
  pub tree_holds : ((k : AstType) → HoldParts q k (parts k)) → (p : Tree) → first_fault p ≡ None → holds_below p.root.kind p.root.children ≡ true
  tree_holds all p h =
      let f : (is_well_formed root_place p.root ≡ true) × NoneMisshapen (placed_below root_place p.root.kind p.root.children) = first_formed (root_place, p.root) (placed_below root_place p.root.kind p.root.children) (none_misshapen p h) in
      forest_holds all root_place p.root.kind p.root.children (fit_holds q p.root.kind (parts p.root.kind) (trees p.root.children) (all p.root.kind) (fit_kept p.root (table_kept root_place p.root f.0))) f.1

  -- or what holds of each node that stands well
  forest_stands : ((place : Place) (k : AstType) (r : Role) (node : Node) → stands (child_place place k r) node.kind node ≡ true → q k r node.kind node.text ≡ true) → (place : Place) (k : AstType) (f : Forest) → NoneMisshapen (placed_below place k f) → holds_below k f ≡ true
  forest_stands one place k nothing h = refl
  forest_stands one place k (tree r k2 span text marks below id after) h =
      let node : Node = record { kind = k2; span = span; text = text; marks = marks; children = below; node_id = id } in
      let here : Place = child_place place k r in
      let f : (is_well_formed here node ≡ true) × NoneMisshapen (placed_below here k2 below ++ placed_below place k after) = first_formed (here, node) (placed_below here k2 below ++ placed_below place k after) h in
      let w : NoneMisshapen (placed_below here k2 below) × NoneMisshapen (placed_below place k after) = rest_formed (placed_below here k2 below) (placed_below place k after) f.1 in
      let g : stands here k2 node ≡ true = and_second (is_rooted here k2 && keeps_table node) (stands here k2 node) (and_first (is_rooted here k2 && keeps_table node && stands here k2 node) (names_foreign here k2) f.0) in
      and_from (q k r k2 text) (holds_below k2 below && holds_below k after) (one place k r node g)
      (and_from (holds_below k2 below) (holds_below k after) (forest_stands one here k2 below w.0) (forest_stands one place k after w.1))

  pub tree_stands : ((place : Place) (k : AstType) (r : Role) (node : Node) → stands (child_place place k r) node.kind node ≡ true → q k r node.kind node.text ≡ true) → (p : Tree) → first_fault p ≡ None → holds_below p.root.kind p.root.children ≡ true
  tree_stands one p h =
      let f : (is_well_formed root_place p.root ≡ true) × NoneMisshapen (placed_below root_place p.root.kind p.root.children) = first_formed (root_place, p.root) (placed_below root_place p.root.kind p.root.children) (none_misshapen p h) in
      forest_stands one root_place p.root.kind p.root.children f.1
