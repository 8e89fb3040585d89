-- Before the last part of a header there is nothing but parts of it, and the name of a function.
use Rattle.std.proofs.Common.{◌≡◌, ℕ, List, [], ◌∷◌, ◌++◌, Bool, true, false, not, ◌&&◌, ◌||◌, None, take, drop, length, ◌⊎◌, inl, inr, refl, sym, ap, subst, ◌∙◌, arith}
use Rattle.std.specs.List.{list_all, list_any}
use Rattle.std.proofs.lemmas.Bool.{cases_Bool, eqb-true, and_from, or_parts}
use Rattle.std.proofs.lemmas.List.{take-append-drop}
use Rattle.semantic_syntax.proofs.Truth.{and_first, and_second}
use Rattle.semantic_kinds.specs.Kinds.{same_kind}
use Rattle.semantic_kinds.specs.Roles.{same_role}
use Rattle.semantic_kinds.specs.Parts.{parts}
use Rattle.semantic_kinds.specs.declared.kind.AstType.{AstType}
use Rattle.semantic_kinds.specs.declared.kind.AstType.TheVariants as kind
use Rattle.semantic_kinds.specs.declared.role.Role.{Role}
use Rattle.semantic_kinds.specs.declared.role.Role.TheVariants as role
use Rattle.semantic_kinds.specs.declared.class.Class.TheVariants as class
use Rattle.semantic_kinds.specs.declared.part.Part.{Part}
use Rattle.semantic_tree.specs.Forest.{Forest, nothing, tree}
use Rattle.semantic_tree.specs.Tree.{Tree}
use Rattle.semantic_tree.specs.Nodes.{trees}
use Rattle.semantic_tree.specs.Fit.{lead, fit}
use Rattle.semantic_tree.specs.Faults.{first_fault}
use Rattle.semantic_tree.specs.Place.{root_place, child_place, placed_below}
use Rattle.semantic_tree.specs.Rules.{is_well_formed}
use Rattle.semantic_tree.specs.declared.node.Node.{Node}
use Rattle.semantic_tree.specs.declared.place.Place.{Place}
use Rattle.semantic_tree.specs.Views.{has_role}
use Rattle.semantic_tree.proofs.FitLaws.{lead_in_role}
use Rattle.semantic_model.specs.Inside.{header_roles, is_in_header}
use Rattle.semantic_model.proofs.form.Clauses.{role_is}
use Rattle.semantic_model.proofs.form.Shape.{NoneMisshapen, first_formed, rest_formed, table_kept, fit_kept, none_misshapen}
use Rattle.walk_model.proofs.places.Shapes.{HoldsPart, HoldParts, holds_below, tree_holds, is_only, only_holds}

abbrev pub is_name : AstType → Role → Bool
is_name k r = same_kind k kind.Function && same_role r role.Id

-- a child in the role may be followed by parts of the header, if any are left
abbrev pub may_lead : AstType → Role → Bool → Bool
may_lead k r left = is_in_header k r || (not left || is_name k r)

-- so it is with each child below a node of the kind
abbrev pub ordered_below : AstType → Forest → Bool
ordered_below k nothing = true
ordered_below k (tree r k2 span text marks below id after) = may_lead k r (has_role (header_roles k) after) && (ordered_below k2 below && ordered_below k after)

abbrev heads : AstType → List (Role × Node) → Bool
heads k cs = list_any (λ c. is_in_header k c.0) cs

abbrev ordered : AstType → List (Role × Node) → Bool
ordered k [] = true
ordered k (c ∷ cs) = may_lead k c.0 (heads k cs) && ordered k cs

abbrev part_heads : AstType → List Part → Bool
part_heads k ps = list_any (λ p. is_in_header k p.role) ps

abbrev good : AstType → List Part → Bool
good k [] = true
good k (p ∷ ps) = may_lead k p.role (part_heads k ps) && good k ps

all_good : (k : AstType) → good k (parts k) ≡ true
all_good kind.Program = refl
all_good _ = refl

heads_append : (k : AstType) (xs ys : List (Role × Node)) → heads k (xs ++ ys) ≡ (heads k xs || heads k ys)
heads_append k [] ys = refl
heads_append k (x ∷ xs) ys = ap (λ b. is_in_header k x.0 || b) (heads_append k xs ys) ∙ or_assoc (is_in_header k x.0) (heads k xs) (heads k ys)
  where
    or_assoc : (a b c : Bool) → (a || (b || c)) ≡ ((a || b) || c)
    or_assoc true b c = refl
    or_assoc false b c = refl

run_none : (k : AstType) (r : Role) (own : List (Role × Node)) → is_in_header k r ≡ false → list_all (λ c. same_role c.0 r) own ≡ true → heads k own ≡ false
run_none k r [] h s = refl
run_none k r (c ∷ cs) h s =
    let q : is_in_header k c.0 ≡ false = subst (λ m. is_in_header k m ≡ false) (sym (role_is c.0 r (and_first (same_role c.0 r) _ s))) h in
    ap (λ b. b || heads k cs) q ∙ run_none k r cs h (and_second (same_role c.0 r) _ s)

none_heads : (k : AstType) (ps : List Part) (cs : List (Role × Node)) → fit ps cs ≡ true → part_heads k ps ≡ false → heads k cs ≡ false
none_heads k [] [] f h = refl
none_heads k [] (c ∷ cs) f h = let w : length (c ∷ cs) ≡ 0 = eqb-true (length (c ∷ cs)) 0 f in absurd (omega arith)
none_heads k (p ∷ ps) cs f h =
    let n : ℕ = lead p.role cs in
    let own : heads k (take n cs) ≡ false = run_none k p.role (take n cs) ((or_parts (is_in_header k p.role) (part_heads k ps) h).0) (lead_in_role p.role cs) in
    let rest : heads k (drop n cs) ≡ false = none_heads k ps (drop n cs) (and_second _ (fit ps (drop n cs)) f) ((or_parts (is_in_header k p.role) (part_heads k ps) h).1) in
    subst (λ xs. heads k xs ≡ false) (take-append-drop n cs) (heads_append k (take n cs) (drop n cs) ∙ ap (λ b. b || heads k (drop n cs)) own ∙ rest)

-- a run of children in one role, before the others
run_ordered : (k : AstType) (r : Role) (own rest : List (Role × Node)) → list_all (λ c. same_role c.0 r) own ≡ true → may_lead k r (heads k rest) ≡ true → ordered k rest ≡ true → ordered k (own ++ rest) ≡ true
run_ordered k r [] rest s m o = o
run_ordered k r (c ∷ cs) rest s m o =
    let same : c.0 ≡ r = role_is c.0 r (and_first (same_role c.0 r) _ s) in
    let more : list_all (λ (d : Role × Node). same_role d.0 r) cs ≡ true = and_second (same_role c.0 r) _ s in
    and_from (may_lead k c.0 (heads k (cs ++ rest))) (ordered k (cs ++ rest))
    (subst (λ q. may_lead k q (heads k (cs ++ rest)) ≡ true) (sym same) (by more (cases_Bool (is_in_header k r))))
    (run_ordered k r cs rest more m o)
  where
    by : list_all (λ (d : Role × Node). same_role d.0 r) cs ≡ true → (is_in_header k r ≡ true) ⊎ (is_in_header k r ≡ false) → may_lead k r (heads k (cs ++ rest)) ≡ true
    by more (inl e) = rw e refl
    by more (inr e) =
        let same_heads : heads k (cs ++ rest) ≡ heads k rest = heads_append k cs rest ∙ ap (λ b. b || heads k rest) (run_none k r cs e more) in
        subst (λ b. may_lead k r b ≡ true) (sym same_heads) m

lead_none : (k : AstType) (r : Role) (ps : List Part) (cs : List (Role × Node)) → fit ps cs ≡ true → may_lead k r (part_heads k ps) ≡ true → may_lead k r (heads k cs) ≡ true
lead_none k r ps cs f m = elim (cases_Bool (part_heads k ps)) [
  | inl e ↦ yes (is_in_header k r) (is_name k r) (heads k cs) (rw e at m)
  | inr e ↦ (let n : heads k cs ≡ false = none_heads k ps cs f e in no (is_in_header k r) (is_name k r) (heads k cs) n)
]
  where
    yes : (a c h : Bool) → (a || (not true || c)) ≡ true → (a || (not h || c)) ≡ true
    yes true c h q = refl
    yes false true true q = refl
    yes false true false q = refl
    yes false false h q = absurd cc

    no : (a c h : Bool) → h ≡ false → (a || (not h || c)) ≡ true
    no true c h q = refl
    no false c h q = rw q refl

fit_ordered : (k : AstType) (ps : List Part) (cs : List (Role × Node)) → good k ps ≡ true → fit ps cs ≡ true → ordered k cs ≡ true
fit_ordered k [] [] g f = refl
fit_ordered k [] (c ∷ cs) g f = let w : length (c ∷ cs) ≡ 0 = eqb-true (length (c ∷ cs)) 0 f in absurd (omega arith)
fit_ordered k (p ∷ ps) cs g f =
    let n : ℕ = lead p.role cs in
    let rest : fit ps (drop n cs) ≡ true = and_second _ (fit ps (drop n cs)) f in
    subst (λ xs. ordered k xs ≡ true) (take-append-drop n cs)
    (run_ordered k p.role (take n cs) (drop n cs) (lead_in_role p.role cs)
    (lead_none k p.role ps (drop n cs) rest (and_first (may_lead k p.role (part_heads k ps)) (good k ps) g))
    (fit_ordered k ps (drop n cs) (and_second (may_lead k p.role (part_heads k ps)) (good k ps) g) rest))

heads_are : (k : AstType) (f : Forest) → has_role (header_roles k) f ≡ heads k (trees f)
heads_are k nothing = refl
heads_are k (tree r k2 span text marks below id after) = ap (λ b. is_in_header k r || b) (heads_are k after)

forest_ordered : (place : Place) (k : AstType) (f : Forest) → ordered k (trees f) ≡ true → NoneMisshapen (placed_below place k f) → ordered_below k f ≡ true
forest_ordered place k nothing s h = refl
forest_ordered place k (tree r k2 span text marks below id after) s h =
    let node : Node = record { kind = k2; span = span; text = text; marks = marks; children = below; node_id = id } in
    let here : Place = child_place place k r in
    let f : (is_well_formed here node ≡ true) × NoneMisshapen (placed_below here k2 below ++ placed_below place k after) = first_formed (here, node) (placed_below here k2 below ++ placed_below place k after) h in
    let w : NoneMisshapen (placed_below here k2 below) × NoneMisshapen (placed_below place k after) = rest_formed (placed_below here k2 below) (placed_below place k after) f.1 in
    and_from (may_lead k r (has_role (header_roles k) after)) (ordered_below k2 below && ordered_below k after)
    (subst (λ b. may_lead k r b ≡ true) (sym (heads_are k after)) (and_first (may_lead k r (heads k (trees after))) (ordered k (trees after)) s))
    (and_from (ordered_below k2 below) (ordered_below k after)
    (forest_ordered here k2 below (fit_ordered k2 (parts k2) (trees below) (all_good k2) (fit_kept node (table_kept here node f.0))) w.0)
    (forest_ordered place k after (and_second (may_lead k r (heads k (trees after))) (ordered k (trees after)) s) w.1))

pub tree_ordered : (p : Tree) → first_fault p ≡ None → ordered_below p.root.kind p.root.children ≡ true
tree_ordered p h =
    let f : (is_well_formed root_place p.root ≡ true) × NoneMisshapen (placed_below root_place p.root.kind p.root.children) = first_formed (root_place, p.root) (placed_below root_place p.root.kind p.root.children) (none_misshapen p h) in
    forest_ordered root_place p.root.kind p.root.children (fit_ordered p.root.kind (parts p.root.kind) (trees p.root.children) (all_good p.root.kind) (fit_kept p.root (table_kept root_place p.root f.0))) f.1

-- a function's name is an identifier, and that has no children
abbrev pub names_identifier : AstType → Role → AstType → List ℕ → Bool
names_identifier k r k2 text = not (same_kind k kind.BindingIdentifier) && (not (is_name k r) || same_kind k2 kind.BindingIdentifier)

abbrev is_identifier : AstType → Bool
is_identifier k = same_kind k kind.BindingIdentifier

part_names : AstType → Part → Bool
part_names k part = not (same_kind k kind.BindingIdentifier) && (not (is_name k part.role) || is_only is_identifier part.class)

all_name : (k : AstType) → list_all (part_names k) (parts k) ≡ true
unfolding part_names
all_name kind.Program = refl
all_name _ = refl

part_holds : (k : AstType) (part : Part) → part_names k part ≡ true → HoldsPart names_identifier k part
unfolding part_names
part_holds k part e k2 text h =
    and_from (not (same_kind k kind.BindingIdentifier)) (not (is_name k part.role) || same_kind k2 kind.BindingIdentifier)
    (and_first (not (same_kind k kind.BindingIdentifier)) _ e)
    (by (is_name k part.role) (and_second (not (same_kind k kind.BindingIdentifier)) (not (is_name k part.role) || is_only is_identifier part.class) e))
  where
    by : (b : Bool) → (not b || is_only is_identifier part.class) ≡ true → (not b || same_kind k2 kind.BindingIdentifier) ≡ true
    by true q = only_holds is_identifier part.class k2 text q h
    by false q = refl

parts_hold : (k : AstType) (ps : List Part) → list_all (part_names k) ps ≡ true → HoldParts names_identifier k ps
parts_hold k [] h = tt
parts_hold k (p ∷ ps) h = (part_holds k p (and_first (part_names k p) (list_all (part_names k) ps) h), parts_hold k ps (and_second (part_names k p) (list_all (part_names k) ps) h))

pub tree_names : (p : Tree) → first_fault p ≡ None → holds_below names_identifier p.root.kind p.root.children ≡ true
tree_names p h = tree_holds names_identifier (λ k. parts_hold k (parts k) (all_name k)) p h

-- below an identifier there is nothing
pub nothing_below : (f : Forest) → holds_below names_identifier kind.BindingIdentifier f ≡ true → f ≡ nothing
nothing_below nothing h = refl
nothing_below (tree r k span text marks below id after) h = absurd cc
