-- In a tree without a fault each member of an enum has one id, and that gives no more than one name.
use Rattle.std.proofs.Common.{◌≡◌, suc, ◌+◌, ◌≤◌, ◌==◌, List, [], ◌∷◌, ◌++◌, Bool, true, false, cond, ◌&&◌, None, if◌then◌else◌, length, filter, refl, subst, arith}
use Rattle.std.proofs.lemmas.Bool.{eqb-true}
use Rattle.semantic_syntax.proofs.Truth.{and_first, and_second}
use Rattle.semantic_kinds.specs.Roles.{same_role}
use Rattle.semantic_kinds.specs.Classes.{holds_kind}
use Rattle.semantic_kinds.specs.Parts.{parts}
use Rattle.semantic_kinds.specs.declared.kind.AstType.{AstType}
use Rattle.semantic_kinds.specs.declared.kind.AstType.TheVariants as kind
use Rattle.semantic_kinds.specs.declared.role.Role.{Role}
use Rattle.semantic_kinds.specs.declared.role.Role.TheVariants as role
use Rattle.semantic_tree.specs.Forest.{Forest, nothing, tree}
use Rattle.semantic_tree.specs.Tree.{Tree}
use Rattle.semantic_tree.specs.Nodes.{trees}
use Rattle.semantic_tree.specs.Fit.{fit}
use Rattle.semantic_tree.specs.Faults.{first_fault}
use Rattle.semantic_tree.specs.Place.{root_place, child_place, placed_below}
use Rattle.semantic_tree.specs.Rules.{number_in, template_stands, stands, keeps_table, is_rooted, names_foreign, is_well_formed}
use Rattle.semantic_tree.specs.declared.node.Node.{Node}
use Rattle.semantic_tree.specs.declared.place.Place.{Place}
use Rattle.semantic_tree.specs.Views.{is, children_of}
use Rattle.semantic_model.specs.Binder.{member_names}
use Rattle.semantic_model.proofs.form.Clauses.{kind_is}
use Rattle.semantic_model.proofs.form.Shape.{NoneMisshapen, first_formed, rest_formed, table_kept, fit_kept, none_misshapen}
use Rattle.walk_model.proofs.once.NamesInRole.{AtMostOne, one_id}

-- each gives no more than one name
abbrev pub NameOnce : List Node → Type 0
NameOnce [] = Unit {0}
NameOnce (c ∷ cs) = AtMostOne (member_names c) × NameOnce cs

-- of a member: it has no more than one id, and that gives no more than one name
abbrev pub IsLone : AstType → Forest → Type 0
IsLone kind.TSEnumMember f = AtMostOne (children_of role.Id f) × NameOnce (children_of role.Id f)
IsLone _ f = Unit {0}

-- so it is for each member of a forest
abbrev pub AreLone : Forest → Type 0
AreLone nothing = Unit {0}
AreLone (tree r k span text marks below id after) = IsLone k below × (AreLone below × AreLone after)

short : (ns : List Node) → length ns ≤ 1 → AtMostOne ns
short [] l = tt
short (n ∷ []) l = tt
short (n ∷ m ∷ ns) l = absurd (omega (arith, l))

filter_shorter : (test : Node → Bool) (ns : List Node) → length (filter test ns) ≤ length ns
filter_shorter test [] = omega arith
filter_shorter test (n ∷ ns) = by (test n) (filter_shorter test ns)
  where
    by : (b : Bool) → length (filter test ns) ≤ length ns → length (if b then n ∷ filter test ns else filter test ns) ≤ suc (length ns)
    by true h = omega (arith, h)
    by false h = omega (arith, h)

-- a template that names a member is one piece
one_piece : (place : Place) (r : Role) (node : Node) → same_role r role.Id ≡ true → template_stands (child_place place kind.TSEnumMember r) node ≡ true → length (children_of role.Quasis node.children) ≡ 1
one_piece place r node e h =
    let two : ((number_in role.Quasis node == number_in role.Expressions node + 1) && (number_in role.Expressions node == 0)) ≡ true = rw e at h in
    let more : number_in role.Quasis node ≡ number_in role.Expressions node + 1 = eqb-true (number_in role.Quasis node) (number_in role.Expressions node + 1) (and_first (number_in role.Quasis node == number_in role.Expressions node + 1) (number_in role.Expressions node == 0) two) in
    let none : number_in role.Expressions node ≡ 0 = eqb-true (number_in role.Expressions node) 0 (and_second (number_in role.Quasis node == number_in role.Expressions node + 1) (number_in role.Expressions node == 0) two) in
    omega (arith, more, none)

names_once : (place : Place) (r : Role) (node : Node) → same_role r role.Id ≡ true → stands (child_place place kind.TSEnumMember r) node.kind node ≡ true → AtMostOne (member_names node)
names_once place r node e h = by (holds_kind (kind.IdentifierName ∷ kind.StringLiteral ∷ []) node.kind) (is kind.TemplateLiteral node) refl
  where
    by : (a b : Bool) → is kind.TemplateLiteral node ≡ b → AtMostOne (cond a (node ∷ []) (cond b (filter (is kind.TemplateElement) (children_of role.Quasis node.children)) []))
    by true b q = tt
    by false false q = tt
    by false true q =
        let own : node.kind ≡ kind.TemplateLiteral = kind_is node.kind kind.TemplateLiteral q in
        let t : template_stands (child_place place kind.TSEnumMember r) node ≡ true = subst (λ k. stands (child_place place kind.TSEnumMember r) k node ≡ true) own h in
        short (filter (is kind.TemplateElement) (children_of role.Quasis node.children))
        (omega (arith, filter_shorter (is kind.TemplateElement) (children_of role.Quasis node.children), one_piece place r node e t))

node_stands : (place : Place) (node : Node) → is_well_formed place node ≡ true → stands place node.kind node ≡ true
node_stands place node h = and_second (is_rooted place node.kind && keeps_table node) (stands place node.kind node) (and_first (is_rooted place node.kind && keeps_table node && stands place node.kind node) (names_foreign place node.kind) h)

-- the ids of a member
ids_once : (place : Place) (f : Forest) → NoneMisshapen (placed_below place kind.TSEnumMember f) → NameOnce (children_of role.Id f)
ids_once place nothing h = tt
ids_once place (tree r k span text marks below id after) h =
    let node : Node = record { kind = k; span = span; text = text; marks = marks; children = below; node_id = id } in
    let here : Place = child_place place kind.TSEnumMember r in
    let f : (is_well_formed here node ≡ true) × NoneMisshapen (placed_below here k below ++ placed_below place kind.TSEnumMember after) = first_formed (here, node) (placed_below here k below ++ placed_below place kind.TSEnumMember after) h in
    let w : NoneMisshapen (placed_below here k below) × NoneMisshapen (placed_below place kind.TSEnumMember after) = rest_formed (placed_below here k below) (placed_below place kind.TSEnumMember after) f.1 in
    by node (same_role r role.Id) (λ e. names_once place r node e (node_stands here node f.0)) (ids_once place after w.1)
  where
    by : (node : Node) (b : Bool) → (b ≡ true → AtMostOne (member_names node)) → NameOnce (children_of role.Id after) → NameOnce (if b then node ∷ children_of role.Id after else children_of role.Id after)
    by node true one rest = (one refl, rest)
    by node false one rest = rest

lone : (place : Place) (k : AstType) (f : Forest) → fit (parts k) (trees f) ≡ true → NoneMisshapen (placed_below place k f) → IsLone k f
lone place kind.TSEnumMember f t h = (one_id (trees f) t, ids_once place f h)
lone place _ f t h = tt

forest_lone : (place : Place) (k : AstType) (f : Forest) → NoneMisshapen (placed_below place k f) → AreLone f
forest_lone place k nothing h = tt
forest_lone place k (tree r inner span text marks below id after) h =
    let node : Node = record { kind = inner; span = span; text = text; marks = marks; children = below; node_id = id } in
    let here : Place = child_place place k r in
    let f : (is_well_formed here node ≡ true) × NoneMisshapen (placed_below here inner below ++ placed_below place k after) = first_formed (here, node) (placed_below here inner below ++ placed_below place k after) h in
    let w : NoneMisshapen (placed_below here inner below) × NoneMisshapen (placed_below place k after) = rest_formed (placed_below here inner below) (placed_below place k after) f.1 in
    (lone here inner below (fit_kept node (table_kept here node f.0)) w.0, (forest_lone here inner below w.0, forest_lone place k after w.1))

pub tree_lone : (p : Tree) → first_fault p ≡ None → AreLone p.root.children
tree_lone p h =
    let f : (is_well_formed root_place p.root ≡ true) × NoneMisshapen (placed_below root_place p.root.kind p.root.children) = first_formed (root_place, p.root) (placed_below root_place p.root.kind p.root.children) (none_misshapen p h) in
    forest_lone root_place p.root.kind p.root.children f.1
