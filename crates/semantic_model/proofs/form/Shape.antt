-- A program has the form that the laws ask for.
use Rattle.std.proofs.Common.{◌≡◌, ℕ, zero, suc, ◌≤◌, nat_le, min, ◌+◌, ◌==◌, List, [], ◌∷◌, ◌++◌, length, Some, None, Bool, true, false, cond, ◌&&◌, inl, inr, refl, sym, subst, ◌∙◌, take, drop, if◌then◌else◌, option_map, arith}
use Rattle.std.proofs.lemmas.Bool.{cases_Bool, eqb-true, and_from}
use Rattle.std.proofs.lemmas.Bool.Decides.{leb_tells}
use Rattle.std.proofs.lemmas.List.{length-take}
use Rattle.std.specs.Str.{encode_utf8_all}
use Rattle.semantic_syntax.proofs.Truth.{and_first, and_second}
use Rattle.semantic_tree.specs.Forest.{Forest, nothing, tree}
use Rattle.semantic_tree.specs.Tree.{Tree}
use Rattle.semantic_tree.specs.Nodes.{trees}
use Rattle.semantic_tree.specs.Fit.{lead, fit, all_of}
use Rattle.semantic_tree.specs.Place.{root_place, child_place, placed_below, all_placed}
use Rattle.semantic_tree.specs.Rules.{is_well_formed, is_rooted, keeps_table, stands, names_foreign}
use Rattle.semantic_tree.specs.Faults.{first_where, is_too_deep, is_misshapen, is_too_large, form_fault, first_fault}
use Rattle.semantic_tree.specs.declared.node.Node.{Node}
use Rattle.semantic_tree.specs.declared.place.Place.{Place}
use Rattle.semantic_tree.specs.declared.error.TreeError.TheVariants.{Shape, TooMany, TooDeep}
use Rattle.semantic_tree.proofs.ShapedLaws.{or_first, or_second, map_none}
use Rattle.semantic_kinds.specs.Kinds.{same_kind}
use Rattle.semantic_kinds.specs.Roles.{same_role}
use Rattle.semantic_kinds.specs.Parts.{parts}
use Rattle.semantic_kinds.specs.Texts.{may_have_text}
use Rattle.semantic_kinds.specs.Allowed.{allowed_marks}
use Rattle.semantic_kinds.specs.MarkSets.{set_of, is_within}
use Rattle.semantic_kinds.specs.declared.kind.AstType.{AstType}
use Rattle.semantic_kinds.specs.declared.kind.AstType.TheVariants as kind
use Rattle.semantic_kinds.specs.declared.role.Role.{Role}
use Rattle.semantic_kinds.specs.declared.role.Role.TheVariants as role
use Rattle.semantic_kinds.specs.declared.part.Part.{Part}
use Rattle.semantic_kinds.specs.declared.part.Count.TheVariants as count
use Rattle.semantic_kinds.specs.declared.class.Class.TheVariants as class
use Rattle.semantic_model.proofs.form.Clauses.{kind_is, role_is, is_nothing, ends_with_block, clauses_end}
use Rattle.semantic_model.proofs.form.ParameterShape.{parameters_stand, stands_under, all_stand, table_stands}
use Rattle.semantic_model.proofs.fold.Orders.{HasForm}

abbrev body_part : Part
body_part = record { role = role.Body; count = count.One; class = class.Only kind.BlockStatement }

abbrev parameter_part : Part
parameter_part = record { role = role.Param; count = count.AtMostOne; class = class.Only kind.CatchParameter }

or_false : (b : Bool) → (b && true) ≡ true → b ≡ true
or_false true h = refl
or_false false h = h

parts_length : (n : ℕ) (cs : List (Role × Node)) → length (take n cs) + length (drop n cs) ≡ length cs
parts_length zero cs = omega arith
parts_length (suc n) [] = omega arith
parts_length (suc n) (c ∷ cs) = omega (arith, parts_length n cs)

one_only : (n : ℕ) (b : Bool) (cs : List (Role × Node)) → ((length (take n cs) == 1 && b) && (length (drop n cs) == 0)) ≡ true → length cs ≡ 1
one_only n b cs h =
    omega (
      arith,
      parts_length n cs,
      eqb-true (length (take n cs)) 1 (and_first (length (take n cs) == 1) b (and_first (length (take n cs) == 1 && b) (length (drop n cs) == 0) h)),
      eqb-true (length (drop n cs)) 0 (and_second (length (take n cs) == 1 && b) (length (drop n cs) == 0) h),
    )

-- children that are one block in the role of a body
body_fits : (f : Forest) → fit (body_part ∷ []) (trees f) ≡ true → ends_with_block f ≡ true
body_fits nothing h = absurd cc
body_fits (tree r k span text marks below id nothing) h = elim (cases_Bool (same_role r role.Body)) [
  | inl e ↦ rw e (and_first (same_kind k kind.BlockStatement && true) true (rw e at h))
  | inr e ↦ (let q : false ≡ true = rw e at h in absurd cc)
]
body_fits (tree r k span text marks below id (tree r2 k2 span2 text2 marks2 below2 id2 after)) h =
    let cs : List (Role × Node) = trees (tree r k span text marks below id (tree r2 k2 span2 text2 marks2 below2 id2 after)) in
    let q : length cs ≡ 1 = one_only (lead role.Body cs) (all_of body_part.class (take (lead role.Body cs) cs)) cs h in
    absurd (omega arith)

is_at_most : (m n : ℕ) → nat_le m n ≡ true → m ≤ n
is_at_most m n h = elim (leb_tells m n) [ inl k ↦ k.1 | inr k ↦ (let q : false ≡ true = sym k.0 ∙ h in absurd cc) ]

-- no two children are at most one
two_taken : (n : ℕ) (x y : Role × Node) (ys : List (Role × Node)) (b : Bool) → (nat_le (length (take (n + 1 + 1) (x ∷ y ∷ ys))) 1 && b) ≡ true → ⊥
two_taken n x y ys b h =
    let q : length (take (n + 1 + 1) (x ∷ y ∷ ys)) ≤ 1 = is_at_most (length (take (n + 1 + 1) (x ∷ y ∷ ys))) 1 (and_first (nat_le (length (take (n + 1 + 1) (x ∷ y ∷ ys))) 1) b h) in
    let w : length (take (n + 1 + 1) (x ∷ y ∷ ys)) ≡ min (n + 1 + 1) (length (x ∷ y ∷ ys)) = length-take (n + 1 + 1) (x ∷ y ∷ ys) in
    omega arith

not_body : (r : Role) (k : AstType) (after : Forest) → same_role r role.Param ≡ true → ends_with_block after ≡ true → cond (same_role r role.Body) (same_kind k kind.BlockStatement && is_nothing after) (ends_with_block after) ≡ true
not_body r k after e h = subst (λ q. cond (same_role q role.Body) (same_kind k kind.BlockStatement && is_nothing after) (ends_with_block after) ≡ true) (sym (role_is r role.Param e)) h

-- the parameter, if there is one, stands before the body
clause_fits : (f : Forest) → fit (parameter_part ∷ body_part ∷ []) (trees f) ≡ true → ends_with_block f ≡ true
clause_fits nothing h = absurd cc
clause_fits (tree r k span text marks below id nothing) h = elim (cases_Bool (same_role r role.Param)) [
  | inl e ↦ (let q : (same_kind k kind.CatchParameter && true && false) ≡ true = rw e at h in let w : false ≡ true = and_second (same_kind k kind.CatchParameter && true) false q in absurd cc)
  | inr e ↦ body_fits (tree r k span text marks below id nothing) (and_second true _ (rw e at h))
]
clause_fits (tree r k span text marks below id (tree r2 k2 span2 text2 marks2 below2 id2 after)) h =
    let f2 : Forest = tree r2 k2 span2 text2 marks2 below2 id2 after in
    elim (cases_Bool (same_role r role.Param)) [
      | inl e ↦ elim (cases_Bool (same_role r2 role.Param)) [
        | inl e2 ↦ absurd (two_taken (lead role.Param (trees after)) (r, record { kind = k; span = span; text = text; marks = marks; children = below; node_id = id }) (r2, record { kind = k2; span = span2; text = text2; marks = marks2; children = below2; node_id = id2 }) (trees after) _ (and_first _ _ (rw (e, e2) at h)))
        | inr e2 ↦ not_body r k f2 e (body_fits f2 (and_second _ _ (rw (e, e2) at h)))
      ]
      | inr e ↦ body_fits (tree r k span text marks below id f2) (and_second true _ (rw e at h))
    ]

-- a clause with its children
clause_ends : (node : Node) → keeps_table node ≡ true → cond (same_kind node.kind kind.CatchClause) (ends_with_block node.children) true ≡ true
clause_ends node h = elim (cases_Bool (same_kind node.kind kind.CatchClause)) [
  | inl e ↦ rw e (clause_fits node.children (subst (λ k. fit (parts k) (trees node.children) ≡ true) (kind_is node.kind kind.CatchClause e) (and_second (may_have_text node.kind node.text && is_within node.marks (set_of (allowed_marks node.kind))) (fit (parts node.kind) (trees node.children)) h)))
  | inr e ↦ rw e refl
]

-- no node is misshapen
abbrev pub NoneMisshapen : List (Place × Node) → Type 0
NoneMisshapen placed = first_where is_misshapen placed ≡ None

pub first_formed : (placed : Place × Node) (rest : List (Place × Node)) → NoneMisshapen (placed ∷ rest) → (is_well_formed placed.0 placed.1 ≡ true) × NoneMisshapen rest
first_formed placed rest h = elim (cases_Bool (is_well_formed placed.0 placed.1)) [
  | inl e ↦ (e, rw e at h)
  | inr e ↦ (let q : Some placed.1.node_id ≡ None = rw e at h in absurd cc)
]

pub rest_formed : (xs ys : List (Place × Node)) → NoneMisshapen (xs ++ ys) → NoneMisshapen xs × NoneMisshapen ys
rest_formed [] ys h = (refl, h)
rest_formed (x ∷ xs) ys h =
    let q : (is_well_formed x.0 x.1 ≡ true) × NoneMisshapen (xs ++ ys) = first_formed x (xs ++ ys) h in
    let w : NoneMisshapen xs × NoneMisshapen ys = rest_formed xs ys q.1 in
    (rw q.0 w.0, w.1)

pub table_kept : (place : Place) (node : Node) → is_well_formed place node ≡ true → keeps_table node ≡ true
table_kept place node h =
    and_second (is_rooted place node.kind) (keeps_table node) (and_first (is_rooted place node.kind && keeps_table node) (stands place node.kind node) (and_first (is_rooted place node.kind && keeps_table node && stands place node.kind node) (names_foreign place node.kind) h))

pub fit_kept : (node : Node) → keeps_table node ≡ true → fit (parts node.kind) (trees node.children) ≡ true
fit_kept node h = and_second (may_have_text node.kind node.text && is_within node.marks (set_of (allowed_marks node.kind))) (fit (parts node.kind) (trees node.children)) h

forest_clauses : (place : Place) (k : AstType) (f : Forest) → NoneMisshapen (placed_below place k f) → clauses_end f ≡ true
forest_clauses place k nothing h = refl
forest_clauses place k (tree r k2 span text marks below id after) h =
    let node : Node = record { kind = k2; span = span; text = text; marks = marks; children = below; node_id = id } in
    let here : Place = child_place place k r in
    let q : (is_well_formed here node ≡ true) × NoneMisshapen (placed_below here k2 below ++ placed_below place k after) = first_formed (here, node) (placed_below here k2 below ++ placed_below place k after) h in
    let w : NoneMisshapen (placed_below here k2 below) × NoneMisshapen (placed_below place k after) = rest_formed (placed_below here k2 below) (placed_below place k after) q.1 in
    and_from (cond (same_kind k2 kind.CatchClause) (ends_with_block below) true) (clauses_end below && clauses_end after) (clause_ends node (table_kept here node q.0))
    (and_from (clauses_end below) (clauses_end after) (forest_clauses here k2 below w.0) (forest_clauses place k after w.1))

forest_parameters : (place : Place) (k : AstType) (f : Forest) → all_stand k (trees f) ≡ true → NoneMisshapen (placed_below place k f) → parameters_stand k f ≡ true
forest_parameters place k nothing s h = refl
forest_parameters place k (tree r k2 span text marks below id after) s h =
    let node : Node = record { kind = k2; span = span; text = text; marks = marks; children = below; node_id = id } in
    let here : Place = child_place place k r in
    let q : (is_well_formed here node ≡ true) × NoneMisshapen (placed_below here k2 below ++ placed_below place k after) = first_formed (here, node) (placed_below here k2 below ++ placed_below place k after) h in
    let w : NoneMisshapen (placed_below here k2 below) × NoneMisshapen (placed_below place k after) = rest_formed (placed_below here k2 below) (placed_below place k after) q.1 in
    and_from (stands_under k r k2) (parameters_stand k2 below && parameters_stand k after) (and_first (stands_under k r k2) (all_stand k (trees after)) s)
    (and_from (parameters_stand k2 below) (parameters_stand k after) (forest_parameters here k2 below (table_stands k2 below (fit_kept node (table_kept here node q.0))) w.0) (forest_parameters place k after (and_second (stands_under k r k2) (all_stand k (trees after)) s) w.1))

pub none_misshapen : (p : Tree) → first_fault p ≡ None → NoneMisshapen (all_placed p.root)
none_misshapen p h = go (is_too_large source p.comments p.root) h
  where
    source : List ℕ
    source = encode_utf8_all p.source

    formed : form_fault source p.comments p.root ≡ None → NoneMisshapen (all_placed p.root)
    formed k = map_none (λ id. Shape (Some id)) (first_where is_misshapen (all_placed p.root)) (or_first (option_map (λ id. Shape (Some id)) (first_where is_misshapen (all_placed p.root))) _ (or_second (option_map (λ id. TooDeep id) (first_where is_too_deep (all_placed p.root))) _ k))

    go : (b : Bool) → (if b then Some TooMany else form_fault source p.comments p.root) ≡ None → NoneMisshapen (all_placed p.root)
    go true k = absurd cc
    go false k = formed k

-- a tree without a fault has the form
pub has_form : (p : Tree) → first_fault p ≡ None → HasForm p
has_form p h =
    let all : NoneMisshapen (all_placed p.root) = none_misshapen p h in
    let q : (is_well_formed root_place p.root ≡ true) × NoneMisshapen (placed_below root_place p.root.kind p.root.children) = first_formed (root_place, p.root) (placed_below root_place p.root.kind p.root.children) all in
    record {
      root = kind_is p.root.kind kind.Program (and_first (is_rooted root_place p.root.kind) (keeps_table p.root) (and_first (is_rooted root_place p.root.kind && keeps_table p.root) (stands root_place p.root.kind p.root) (and_first (is_rooted root_place p.root.kind && keeps_table p.root && stands root_place p.root.kind p.root) (names_foreign root_place p.root.kind) q.0)));
      clauses = forest_clauses root_place p.root.kind p.root.children q.1;
      parameters = forest_parameters root_place p.root.kind p.root.children (table_stands p.root.kind p.root.children (fit_kept p.root (table_kept root_place p.root q.0))) q.1;
    }
