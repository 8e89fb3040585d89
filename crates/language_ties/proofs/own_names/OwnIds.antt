-- In a tree without a fault a function has no more than one name.
use Rattle.std.proofs.Common.{◌≡◌, ℕ, ◌≤◌, ◌==◌, List, [], ◌∷◌, ◌++◌, Option, Some, None, Bool, true, false, ◌&&◌, not, cond, if◌then◌else◌, inl, inr, refl, sym, ap, subst, ◌∙◌, flat_map, length, take, drop, arith}
use Rattle.std.specs.List.{list_all}
use Rattle.std.specs.Prelude.{nat_le}
use Rattle.std.proofs.lemmas.Bool.{eqb-true, not-true}
use Rattle.std.proofs.lemmas.Bool.Decides.{leb_tells}
use Rattle.std.proofs.lemmas.List.{take-append-drop}
use Rattle.semantic_syntax.proofs.Truth.{and_first, and_second}
use Rattle.semantic_kinds.specs.Kinds.{same_kind}
use Rattle.semantic_kinds.specs.Parts.{parts}
use Rattle.semantic_kinds.specs.Roles.{same_role}
use Rattle.semantic_kinds.specs.declared.class.Class.TheVariants as class
use Rattle.semantic_kinds.specs.declared.kind.AstType.{AstType}
use Rattle.semantic_kinds.specs.declared.kind.AstType.TheVariants as kind
use Rattle.semantic_kinds.specs.declared.part.Part.{Part}
use Rattle.semantic_kinds.specs.declared.role.Role.{Role}
use Rattle.semantic_kinds.specs.declared.role.Role.TheVariants as role
use Rattle.semantic_tree.specs.Faults.{first_fault}
use Rattle.semantic_tree.specs.Fit.{AreInRole, all_of, fit, is_run, lead}
use Rattle.semantic_tree.specs.Forest.{Forest, nothing, tree}
use Rattle.semantic_tree.specs.Nodes.{nodes_in, trees}
use Rattle.semantic_tree.specs.Place.{child_place, placed_below, root_place}
use Rattle.semantic_tree.specs.Rules.{is_well_formed}
use Rattle.semantic_tree.specs.Tree.{Tree}
use Rattle.semantic_tree.specs.declared.node.Node.{Node}
use Rattle.semantic_tree.specs.declared.place.Place.{Place}
use Rattle.semantic_model.specs.Names.{bound_names, bound_below, names_at}
use Rattle.semantic_model.proofs.form.Clauses.{role_is}
use Rattle.semantic_tree.proofs.FitLaws.{lead_in_role}
use Rattle.semantic_model.proofs.form.Shape.{NoneMisshapen, first_formed, rest_formed, table_kept, fit_kept, none_misshapen}
use Rattle.walk_model.proofs.once.NamesInRole.{AtMostOne}
use Rattle.language_ties.proofs.agree.KnownNodes.{node_in, node_at, or_node}

-- ---- the children of a function

pub nodes_append : (r : Role) (xs ys : List (Role × Node)) → nodes_in r (xs ++ ys) ≡ nodes_in r xs ++ nodes_in r ys
nodes_append r [] ys = refl
nodes_append r (c ∷ xs) ys = go (same_role c.0 r) (nodes_append r xs ys)
  where
    go : (b : Bool) → nodes_in r (xs ++ ys) ≡ nodes_in r xs ++ nodes_in r ys → (if b then c.1 ∷ nodes_in r (xs ++ ys) else nodes_in r (xs ++ ys)) ≡ (if b then c.1 ∷ nodes_in r xs else nodes_in r xs) ++ nodes_in r ys
    go true h = ap (λ ns. c.1 ∷ ns) h
    go false h = h

none_in : (r q : Role) (cs : List (Role × Node)) → AreInRole q cs → same_role q r ≡ false → nodes_in r cs ≡ []
none_in r q [] h e = refl
none_in r q (c ∷ cs) h e =
    let own : c.0 ≡ q = role_is c.0 q (and_first (same_role c.0 q) _ h) in
    (λ i. if same_role (own i) r then c.1 ∷ nodes_in r cs else nodes_in r cs)
    ∙ (λ i. if e i then c.1 ∷ nodes_in r cs else nodes_in r cs)
    ∙ none_in r q cs (and_second (same_role c.0 q) _ h) e

-- parts of other roles
pub none_of_parts : (r : Role) (ps : List Part) (cs : List (Role × Node)) → list_all (λ p. not (same_role p.role r)) ps ≡ true → fit ps cs ≡ true → nodes_in r cs ≡ []
none_of_parts r [] [] h f = refl
none_of_parts r [] (c ∷ cs) h f = let w : length (c ∷ cs) ≡ 0 = eqb-true (length (c ∷ cs)) 0 f in absurd (omega arith)
none_of_parts r (p ∷ ps) cs h f =
    let n : ℕ = lead p.role cs in
    let other : same_role p.role r ≡ false = not-true (same_role p.role r) (and_first (not (same_role p.role r)) (list_all (λ q. not (same_role q.role r)) ps) h) in
    let own : nodes_in r (take n cs) ≡ [] = none_in r p.role (take n cs) (lead_in_role p.role cs) other in
    let rest : nodes_in r (drop n cs) ≡ [] = none_of_parts r ps (drop n cs) (and_second (not (same_role p.role r)) (list_all (λ q. not (same_role q.role r)) ps) h) (and_second (is_run p (take n cs)) (fit ps (drop n cs)) f) in
    subst (λ xs. nodes_in r xs ≡ []) (take-append-drop n cs) (nodes_append r (take n cs) (drop n cs) ∙ (λ i. own i ++ rest i))

pub is_at_most : (m n : ℕ) → nat_le m n ≡ true → m ≤ n
is_at_most m n h = elim (leb_tells m n) [ inl k ↦ k.1 | inr k ↦ (let q : false ≡ true = sym k.0 ∙ h in absurd cc) ]

-- one identifier in the role, or none
names_once : (r : Role) (own rest : List (Role × Node)) → nat_le (length own) 1 ≡ true → all_of (class.Only kind.BindingIdentifier) own ≡ true → nodes_in r rest ≡ [] → AtMostOne (flat_map bound_names (nodes_in r (own ++ rest)))
names_once r [] rest l a e = subst (λ ns. AtMostOne (flat_map bound_names ns)) (sym e) tt
names_once r (c ∷ []) rest l a e = by (same_role c.0 r)
  where
    identifier : same_kind c.1.kind kind.BindingIdentifier ≡ true
    identifier = and_first (same_kind c.1.kind kind.BindingIdentifier) true a

    by : (b : Bool) → AtMostOne (flat_map bound_names (if b then c.1 ∷ nodes_in r rest else nodes_in r rest))
    by true = subst (λ ns. AtMostOne (bound_names c.1 ++ flat_map bound_names ns)) (sym e) (subst (λ b. AtMostOne (cond b (c.1 ∷ []) (bound_below c.1.kind c.1.children) ++ [])) (sym identifier) tt)
    by false = subst (λ ns. AtMostOne (flat_map bound_names ns)) (sym e) tt
names_once r (c ∷ d ∷ more) rest l a e = let w : length (c ∷ d ∷ more) ≤ 1 = is_at_most (length (c ∷ d ∷ more)) 1 l in absurd (omega arith)

abbrev pub later_parts : List Part → List Part
later_parts [] = []
later_parts (p ∷ ps) = ps

function_named : (cs : List (Role × Node)) → fit (parts kind.Function) cs ≡ true → AtMostOne (flat_map bound_names (nodes_in role.Id cs))
function_named cs f =
    let n : ℕ = lead role.Id cs in
    let run : (nat_le (length (take n cs)) 1 && all_of (class.Only kind.BindingIdentifier) (take n cs)) ≡ true = and_first (nat_le (length (take n cs)) 1 && all_of (class.Only kind.BindingIdentifier) (take n cs)) (fit (later_parts (parts kind.Function)) (drop n cs)) f in
    let rest : fit (later_parts (parts kind.Function)) (drop n cs) ≡ true = and_second (nat_le (length (take n cs)) 1 && all_of (class.Only kind.BindingIdentifier) (take n cs)) (fit (later_parts (parts kind.Function)) (drop n cs)) f in
    subst (λ xs. AtMostOne (flat_map bound_names (nodes_in role.Id xs))) (take-append-drop n cs)
    (names_once role.Id (take n cs) (drop n cs) (and_first (nat_le (length (take n cs)) 1) _ run) (and_second (nat_le (length (take n cs)) 1) _ run)
    (none_of_parts role.Id (later_parts (parts kind.Function)) (drop n cs) refl rest))

-- ---- the nodes of a tree

some_is : (x y : Node) → Some x ≡ Some y → x ≡ y
some_is x y h = cc

abbrev pub Fits : Node → Type 0
Fits x = fit (parts x.kind) (trees x.children) ≡ true

fit_in : (place : Place) (k : AstType) (f : Forest) (i : ℕ) (x : Node) → NoneMisshapen (placed_below place k f) → node_in f i ≡ Some x → Fits x
fit_in place k nothing i x h q = absurd cc
fit_in place k (tree r k2 span text marks below id after) i x h q =
    let node : Node = record { kind = k2; span = span; text = text; marks = marks; children = below; node_id = id } in
    let here : Place = child_place place k r in
    let f : (is_well_formed here node ≡ true) × NoneMisshapen (placed_below here k2 below ++ placed_below place k after) = first_formed (here, node) (placed_below here k2 below ++ placed_below place k after) h in
    let w : NoneMisshapen (placed_below here k2 below) × NoneMisshapen (placed_below place k after) = rest_formed (placed_below here k2 below) (placed_below place k after) f.1 in
    go node (id == i) q (fit_kept node (table_kept here node f.0)) (fit_in here k2 below i x w.0) (fit_in place k after i x w.1)
  where
    either : (a b : Option Node) → or_node a b ≡ Some x → (a ≡ Some x → Fits x) → (b ≡ Some x → Fits x) → Fits x
    either None b j inner others = others j
    either (Some y) b j inner others = inner j

    go : (node : Node) (b : Bool) → cond b (Some node) (or_node (node_in below i) (node_in after i)) ≡ Some x → Fits node → (node_in below i ≡ Some x → Fits x) → (node_in after i ≡ Some x → Fits x) → Fits x
    go node true j own inner others = subst Fits (some_is node x j) own
    go node false j own inner others = either (node_in below i) (node_in after i) j inner others

pub fit_at : (p : Tree) → first_fault p ≡ None → (i : ℕ) (x : Node) → node_at p i ≡ Some x → Fits x
fit_at p h i x q =
    let f : (is_well_formed root_place p.root ≡ true) × NoneMisshapen (placed_below root_place p.root.kind p.root.children) = first_formed (root_place, p.root) (placed_below root_place p.root.kind p.root.children) (none_misshapen p h) in
    go (p.root.node_id == i) q (fit_kept p.root (table_kept root_place p.root f.0)) (fit_in root_place p.root.kind p.root.children i x f.1)
  where
    go : (b : Bool) → cond b (Some p.root) (node_in p.root.children i) ≡ Some x → Fits p.root → (node_in p.root.children i ≡ Some x → Fits x) → Fits x
    go true j own inner = subst Fits (some_is p.root x j) own
    go false j own inner = inner j

-- a function of the tree has no more than one name
pub named_once : (p : Tree) → first_fault p ≡ None → (x : Node) → node_at p x.node_id ≡ Some x → x.kind ≡ kind.Function → AtMostOne (names_at role.Id x)
named_once p h x q k = function_named (trees x.children) (subst (λ j. fit (parts j) (trees x.children) ≡ true) k (fit_at p h x.node_id x q))
