-- In a program without fault labels are labels, and the pieces of templates are pieces.
use Rattle.std.proofs.Common.{◌≡◌, ℕ, List, [], ◌∷◌, ◌++◌, None, Bool, true, false, ◌&&◌, ◌||◌, not, if◌then◌else◌, refl, subst}
use Rattle.std.specs.List.{list_all}
use Rattle.std.proofs.lemmas.Bool.{and_from}
use Rattle.semantic_syntax.proofs.Truth.{and_first, and_second}
use Rattle.semantic_kinds.specs.Classes.{is_of}
use Rattle.semantic_kinds.specs.Kinds.{same_kind}
use Rattle.semantic_kinds.specs.Parts.{parts}
use Rattle.semantic_kinds.specs.Roles.{same_role}
use Rattle.semantic_kinds.specs.declared.class.Class.{Class}
use Rattle.semantic_kinds.specs.declared.class.Class.TheVariants as class
use Rattle.semantic_kinds.specs.declared.kind.AstType.{AstType}
use Rattle.semantic_kinds.specs.declared.kind.AstType.TheVariants as kind
use Rattle.semantic_kinds.specs.declared.part.Part.{Part}
use Rattle.semantic_kinds.specs.declared.role.Role.{Role}
use Rattle.semantic_kinds.specs.declared.role.Role.TheVariants as role
use Rattle.semantic_tree.specs.Faults.{first_fault}
use Rattle.semantic_tree.specs.Fit.{fit}
use Rattle.semantic_tree.specs.Forest.{Forest, nothing, tree}
use Rattle.semantic_tree.specs.Nodes.{trees, nodes_in}
use Rattle.semantic_tree.specs.Place.{root_place, child_place, placed_below}
use Rattle.semantic_tree.specs.Rules.{is_well_formed}
use Rattle.semantic_tree.specs.Tree.{Tree}
use Rattle.semantic_tree.specs.Views.{is, all_in}
use Rattle.semantic_tree.specs.declared.node.Node.{Node}
use Rattle.semantic_tree.specs.declared.place.Place.{Place}
use Rattle.semantic_model.proofs.form.Clauses.{kind_is}
use Rattle.semantic_model.proofs.form.PartsHold.{passed_hold, fit_holds}
use Rattle.semantic_model.proofs.form.Shape.{NoneMisshapen, first_formed, rest_formed, table_kept, fit_kept, none_misshapen}
use Rattle.swapped_checks.specs.SwappedPrograms.{holds_below, holds_within}
use Rattle.swapped_checks.specs.SwappedSight.{has_plain_labels}

-- the templates of a node consist of pieces
abbrev pub has_own_pieces : Node → Bool
has_own_pieces node = list_all (is kind.TemplateElement) (all_in role.Quasis node)

abbrev pub is_formed : Node → Bool
is_formed node = has_plain_labels node && has_own_pieces node

-- ---- the table of parts

abbrev only : AstType → Class → Bool
only k (class.Only j) = same_kind j k
only k _ = false

-- what a part may hold, and what a child is
abbrev asks : AstType → List ℕ → Part → Bool
asks k text part = (not (same_role part.role role.Label) || (same_kind k kind.TSNamedTupleMember || only kind.LabelIdentifier part.class)) && (not (same_role part.role role.Quasis) || only kind.TemplateElement part.class)

abbrev suits : AstType → Role → AstType → Bool
suits k r k2 = (not (same_role r role.Label) || (same_kind k kind.TSNamedTupleMember || same_kind k2 kind.LabelIdentifier)) && (not (same_role r role.Quasis) || same_kind k2 kind.TemplateElement)

only_of : (j : AstType) (c : Class) (k : AstType) (text : List ℕ) → only j c ≡ true → is_of c k text ≡ true → same_kind k j ≡ true
only_of j (class.Only i) k text h e = subst (λ q. same_kind k q ≡ true) (kind_is i j h) e
only_of j _ k text h e = absurd cc

or_later : (x a o t : Bool) → (o ≡ true → t ≡ true) → (not x || (a || o)) ≡ true → (not x || (a || t)) ≡ true
or_later false a o t f h = refl
or_later true true o t f h = refl
or_later true false o t f h = f h

part_suits : (k : AstType) (part : Part) (k2 : AstType) (text : List ℕ) → asks k text part ≡ true → is_of part.class k2 text ≡ true → suits k part.role k2 ≡ true
part_suits k part k2 text h i =
    let first : (not (same_role part.role role.Label) || (same_kind k kind.TSNamedTupleMember || only kind.LabelIdentifier part.class)) ≡ true = and_first (not (same_role part.role role.Label) || (same_kind k kind.TSNamedTupleMember || only kind.LabelIdentifier part.class)) (not (same_role part.role role.Quasis) || only kind.TemplateElement part.class) h in
    let second : (not (same_role part.role role.Quasis) || only kind.TemplateElement part.class) ≡ true = and_second (not (same_role part.role role.Label) || (same_kind k kind.TSNamedTupleMember || only kind.LabelIdentifier part.class)) (not (same_role part.role role.Quasis) || only kind.TemplateElement part.class) h in
    and_from (not (same_role part.role role.Label) || (same_kind k kind.TSNamedTupleMember || same_kind k2 kind.LabelIdentifier)) (not (same_role part.role role.Quasis) || same_kind k2 kind.TemplateElement)
    (or_later (same_role part.role role.Label) (same_kind k kind.TSNamedTupleMember) (only kind.LabelIdentifier part.class) (same_kind k2 kind.LabelIdentifier) (λ e. only_of kind.LabelIdentifier part.class k2 text e i) first)
    (or_later (same_role part.role role.Quasis) false (only kind.TemplateElement part.class) (same_kind k2 kind.TemplateElement) (λ e. only_of kind.TemplateElement part.class k2 text e i) second)

all_asked : (k : AstType) (text : List ℕ) → list_all (asks k text) (parts k) ≡ true
all_asked kind.Program text = refl
all_asked _ text = refl

all_suit : (k : AstType) (g : Forest) → fit (parts k) (trees g) ≡ true → list_all (λ c. suits k c.0 c.1.kind) (trees g) ≡ true
all_suit k g h = fit_holds (λ k r k2 text. suits k r k2) k (parts k) (trees g) (passed_hold (λ k r k2 text. suits k r k2) (asks k) k (part_suits k) (parts k) (all_asked k)) h

-- ---- children

or_true : (a : Bool) → (a || true) ≡ true
or_true true = refl
or_true false = refl

or_and : (a t r : Bool) → (a || t) ≡ true → (a || r) ≡ true → (a || (t && r)) ≡ true
or_and true t r h i = refl
or_and false t r h i = and_from t r h i

labels_in : (k : AstType) (cs : List (Role × Node)) → list_all (λ c. suits k c.0 c.1.kind) cs ≡ true → (same_kind k kind.TSNamedTupleMember || list_all (is kind.LabelIdentifier) (nodes_in role.Label cs)) ≡ true
labels_in k [] h = or_true (same_kind k kind.TSNamedTupleMember)
labels_in k (c ∷ cs) h = go (same_role c.0 role.Label) (and_first (not (same_role c.0 role.Label) || (same_kind k kind.TSNamedTupleMember || is kind.LabelIdentifier c.1)) (not (same_role c.0 role.Quasis) || is kind.TemplateElement c.1) (and_first (suits k c.0 c.1.kind) (list_all (λ d. suits k d.0 d.1.kind) cs) h)) (labels_in k cs (and_second (suits k c.0 c.1.kind) (list_all (λ d. suits k d.0 d.1.kind) cs) h))
  where
    go : (x : Bool) → (not x || (same_kind k kind.TSNamedTupleMember || is kind.LabelIdentifier c.1)) ≡ true → (same_kind k kind.TSNamedTupleMember || list_all (is kind.LabelIdentifier) (nodes_in role.Label cs)) ≡ true → (same_kind k kind.TSNamedTupleMember || list_all (is kind.LabelIdentifier) (if x then c.1 ∷ nodes_in role.Label cs else nodes_in role.Label cs)) ≡ true
    go true e i = or_and (same_kind k kind.TSNamedTupleMember) (is kind.LabelIdentifier c.1) (list_all (is kind.LabelIdentifier) (nodes_in role.Label cs)) e i
    go false e i = i

pieces_in : (k : AstType) (cs : List (Role × Node)) → list_all (λ c. suits k c.0 c.1.kind) cs ≡ true → list_all (is kind.TemplateElement) (nodes_in role.Quasis cs) ≡ true
pieces_in k [] h = refl
pieces_in k (c ∷ cs) h = go (same_role c.0 role.Quasis) (and_second (not (same_role c.0 role.Label) || (same_kind k kind.TSNamedTupleMember || is kind.LabelIdentifier c.1)) (not (same_role c.0 role.Quasis) || is kind.TemplateElement c.1) (and_first (suits k c.0 c.1.kind) (list_all (λ d. suits k d.0 d.1.kind) cs) h)) (pieces_in k cs (and_second (suits k c.0 c.1.kind) (list_all (λ d. suits k d.0 d.1.kind) cs) h))
  where
    go : (x : Bool) → (not x || is kind.TemplateElement c.1) ≡ true → list_all (is kind.TemplateElement) (nodes_in role.Quasis cs) ≡ true → list_all (is kind.TemplateElement) (if x then c.1 ∷ nodes_in role.Quasis cs else nodes_in role.Quasis cs) ≡ true
    go true e i = and_from (is kind.TemplateElement c.1) (list_all (is kind.TemplateElement) (nodes_in role.Quasis cs)) e i
    go false e i = i

node_formed : (place : Place) (node : Node) → is_well_formed place node ≡ true → is_formed node ≡ true
node_formed place node h =
    let suit : list_all (λ c. suits node.kind c.0 c.1.kind) (trees node.children) ≡ true = all_suit node.kind node.children (fit_kept node (table_kept place node h)) in
    and_from (has_plain_labels node) (has_own_pieces node) (labels_in node.kind (trees node.children) suit) (pieces_in node.kind (trees node.children) suit)

-- ---- the program

formed_below : (place : Place) (k : AstType) (g : Forest) → NoneMisshapen (placed_below place k g) → holds_below is_formed g ≡ true
formed_below place k nothing h = refl
formed_below place k (tree r k2 span text marks below id after) h =
    let node : Node = record { kind = k2; span = span; text = text; marks = marks; children = below; node_id = id } in
    let here : Place = child_place place k r in
    let q : (is_well_formed here node ≡ true) × NoneMisshapen (placed_below here k2 below ++ placed_below place k after) = first_formed (here, node) (placed_below here k2 below ++ placed_below place k after) h in
    let w : NoneMisshapen (placed_below here k2 below) × NoneMisshapen (placed_below place k after) = rest_formed (placed_below here k2 below) (placed_below place k after) q.1 in
    and_from (is_formed node) (holds_below is_formed below && holds_below is_formed after) (node_formed here node q.0)
    (and_from (holds_below is_formed below) (holds_below is_formed after) (formed_below here k2 below w.0) (formed_below place k after w.1))

pub formed_within : (p : Tree) → first_fault p ≡ None → holds_within is_formed p.root ≡ true
formed_within p h =
    let q : (is_well_formed root_place p.root ≡ true) × NoneMisshapen (placed_below root_place p.root.kind p.root.children) = first_formed (root_place, p.root) (placed_below root_place p.root.kind p.root.children) (none_misshapen p h) in
    and_from (is_formed p.root) (holds_below is_formed p.root.children) (node_formed root_place p.root q.0) (formed_below root_place p.root.kind p.root.children q.1)

-- ---- two tests

both_below : (t u : Node → Bool) (g : Forest) → holds_below t g ≡ true → holds_below u g ≡ true → holds_below (λ n. t n && u n) g ≡ true
both_below t u nothing h i = refl
both_below t u (tree r k span text marks below id after) h i =
    let node : Node = record { kind = k; span = span; text = text; marks = marks; children = below; node_id = id } in
    let hs : (holds_below t below && holds_below t after) ≡ true = and_second (t node) (holds_below t below && holds_below t after) h in
    let us : (holds_below u below && holds_below u after) ≡ true = and_second (u node) (holds_below u below && holds_below u after) i in
    and_from (t node && u node) (holds_below (λ n. t n && u n) below && holds_below (λ n. t n && u n) after)
    (and_from (t node) (u node) (and_first (t node) (holds_below t below && holds_below t after) h) (and_first (u node) (holds_below u below && holds_below u after) i))
    (and_from (holds_below (λ n. t n && u n) below) (holds_below (λ n. t n && u n) after)
    (both_below t u below (and_first (holds_below t below) (holds_below t after) hs) (and_first (holds_below u below) (holds_below u after) us))
    (both_below t u after (and_second (holds_below t below) (holds_below t after) hs) (and_second (holds_below u below) (holds_below u after) us)))

-- in a program without fault each node that passes a test has its form, too
pub formed_and : (p : Tree) (test : Node → Bool) → first_fault p ≡ None → holds_within test p.root ≡ true → holds_within (λ n. is_formed n && test n) p.root ≡ true
formed_and p test h i =
    let q : holds_within is_formed p.root ≡ true = formed_within p h in
    and_from (is_formed p.root && test p.root) (holds_below (λ n. is_formed n && test n) p.root.children)
    (and_from (is_formed p.root) (test p.root) (and_first (is_formed p.root) (holds_below is_formed p.root.children) q) (and_first (test p.root) (holds_below test p.root.children) i))
    (both_below is_formed test p.root.children (and_second (is_formed p.root) (holds_below is_formed p.root.children) q) (and_second (test p.root) (holds_below test p.root.children) i))
