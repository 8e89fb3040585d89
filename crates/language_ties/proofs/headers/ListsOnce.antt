-- A node has at most one list of parameters, so its first is the one.
use Rattle.std.proofs.Common.{◌≡◌, ℕ, List, [], ◌∷◌, ◌++◌, Bool, true, false, not, ◌&&◌, ◌||◌, None, take, drop, length, refl, sym, subst, arith}
use Rattle.std.specs.List.{list_all, list_any}
use Rattle.std.proofs.lemmas.Bool.{eqb-true, and_from, or_parts, not-true}
use Rattle.std.proofs.lemmas.List.{take-append-drop}
use Rattle.semantic_syntax.proofs.Truth.{and_first, and_second}
use Rattle.semantic_kinds.specs.Classes.{holds_kind}
use Rattle.semantic_kinds.specs.Parts.{parts}
use Rattle.semantic_kinds.specs.Roles.{same_role}
use Rattle.semantic_kinds.specs.declared.kind.AstType.{AstType}
use Rattle.semantic_kinds.specs.declared.kind.AstType.TheVariants as kind
use Rattle.semantic_kinds.specs.declared.part.Count.{Count}
use Rattle.semantic_kinds.specs.declared.part.Count.TheVariants.{One, AtMostOne, AnyNumber, AtLeastOne}
use Rattle.semantic_kinds.specs.declared.part.Part.{Part}
use Rattle.semantic_kinds.specs.declared.role.Role.{Role}
use Rattle.semantic_kinds.specs.declared.role.Role.TheVariants as role
use Rattle.semantic_tree.specs.Faults.{first_fault}
use Rattle.semantic_tree.specs.Fit.{allows, lead, all_of, is_run, fit}
use Rattle.semantic_tree.specs.Forest.{Forest, nothing, tree}
use Rattle.semantic_tree.specs.Nodes.{trees}
use Rattle.semantic_tree.specs.Place.{root_place, child_place, placed_below}
use Rattle.semantic_tree.specs.Rules.{is_well_formed}
use Rattle.semantic_tree.specs.Tree.{Tree}
use Rattle.semantic_tree.specs.declared.node.Node.{Node}
use Rattle.semantic_tree.specs.declared.place.Place.{Place}
use Rattle.semantic_tree.proofs.FitLaws.{lead_in_role}
use Rattle.semantic_model.proofs.form.Clauses.{role_is}
use Rattle.semantic_model.proofs.form.Shape.{NoneMisshapen, first_formed, rest_formed, table_kept, fit_kept, none_misshapen}

-- type parameters and arguments have the role of a list of parameters one by one
abbrev pub is_listing : AstType → Bool
is_listing k = not (holds_kind (kind.TSTypeParameterDeclaration ∷ kind.TSTypeParameterInstantiation ∷ []) k)

abbrev pub is_list_role : AstType → Role → Bool
is_list_role k r = is_listing k && same_role r role.Params

abbrev pub some_list : AstType → List (Role × Node) → Bool
some_list k cs = list_any (λ c. is_list_role k c.0) cs

-- behind a list of parameters there is no other
abbrev once : AstType → List (Role × Node) → Bool
once k [] = true
once k (c ∷ cs) = (not (is_list_role k c.0) || not (some_list k cs)) && once k cs

abbrev pub once_below : AstType → Forest → Bool
once_below k nothing = true
once_below k (tree r k2 span text marks below id after) = (not (is_list_role k r) || not (some_list k (trees after))) && (once_below k2 below && once_below k after)

-- ---- parts

abbrev is_one : Count → Bool
is_one One = true
is_one _ = false

abbrev parts_list : AstType → List Part → Bool
parts_list k ps = list_any (λ p. is_list_role k p.role) ps

abbrev singles : AstType → List Part → Bool
singles k [] = true
singles k (p ∷ ps) = (not (is_list_role k p.role) || (is_one p.count && not (parts_list k ps))) && singles k ps

all_single : (k : AstType) → singles k (parts k) ≡ true
all_single kind.Program = refl
all_single _ = refl

-- ---- children that fit

module _ (k : AstType) where
  some_append : (xs ys : List (Role × Node)) → some_list k xs ≡ false → some_list k ys ≡ false → some_list k (xs ++ ys) ≡ false
  some_append [] ys h j = j
  some_append (x ∷ xs) ys h j = let w : (is_list_role k x.0 ≡ false) × (some_list k xs ≡ false) = or_parts (is_list_role k x.0) (some_list k xs) h in rw w.0 (some_append xs ys w.1 j)

  run_none : (r : Role) (own : List (Role × Node)) → is_list_role k r ≡ false → list_all (λ c. same_role c.0 r) own ≡ true → some_list k own ≡ false
  run_none r [] h s = refl
  run_none r (c ∷ own) h s =
      let q : is_list_role k c.0 ≡ false = subst (λ m. is_list_role k m ≡ false) (sym (role_is c.0 r (and_first (same_role c.0 r) _ s))) h in
      rw q (run_none r own h (and_second (same_role c.0 r) _ s))

  none_left : (ps : List Part) (cs : List (Role × Node)) → fit ps cs ≡ true → parts_list k ps ≡ false → some_list k cs ≡ false
  none_left [] [] f h = refl
  none_left [] (c ∷ cs) f h = let w : length (c ∷ cs) ≡ 0 = eqb-true (length (c ∷ cs)) 0 f in absurd (omega arith)
  none_left (p ∷ ps) cs f h =
      let n : ℕ = lead p.role cs in
      let w : (is_list_role k p.role ≡ false) × (parts_list k ps ≡ false) = or_parts (is_list_role k p.role) (parts_list k ps) h in
      subst (λ xs. some_list k xs ≡ false) (take-append-drop n cs)
      (some_append (take n cs) (drop n cs) (run_none p.role (take n cs) w.0 (lead_in_role p.role cs)) (none_left ps (drop n cs) (and_second (is_run p (take n cs)) (fit ps (drop n cs)) f) w.1))

  run_once : (own rest : List (Role × Node)) → some_list k own ≡ false → once k rest ≡ true → once k (own ++ rest) ≡ true
  run_once [] rest h j = j
  run_once (c ∷ own) rest h j = let w : (is_list_role k c.0 ≡ false) × (some_list k own ≡ false) = or_parts (is_list_role k c.0) (some_list k own) h in rw w.0 (run_once own rest w.1 j)

  -- one list alone, with none behind
  single_once : (own rest : List (Role × Node)) → length own ≡ 1 → some_list k rest ≡ false → once k rest ≡ true → once k (own ++ rest) ≡ true
  single_once [] rest l h j = absurd (omega (arith, l))
  single_once (c ∷ []) rest l h j = rw (h, j) (go (is_list_role k c.0))
    where
      go : (b : Bool) → ((not b || not false) && true) ≡ true
      go true = refl
      go false = refl
  single_once (c ∷ d ∷ own) rest l h j = absurd (omega (arith, l))

  one_of : (c : Count) (n : ℕ) → is_one c ≡ true → allows c n ≡ true → n ≡ 1
  one_of One n s h = eqb-true n 1 h
  one_of AtMostOne n s h = absurd cc
  one_of AnyNumber n s h = absurd cc
  one_of AtLeastOne n s h = absurd cc

  fit_once : (ps : List Part) (cs : List (Role × Node)) → singles k ps ≡ true → fit ps cs ≡ true → once k cs ≡ true
  fit_once [] [] s f = refl
  fit_once [] (c ∷ cs) s f = let w : length (c ∷ cs) ≡ 0 = eqb-true (length (c ∷ cs)) 0 f in absurd (omega arith)
  fit_once (p ∷ ps) cs s f =
      let n : ℕ = lead p.role cs in
      let run : is_run p (take n cs) ≡ true = and_first (is_run p (take n cs)) (fit ps (drop n cs)) f in
      let rest : fit ps (drop n cs) ≡ true = and_second (is_run p (take n cs)) (fit ps (drop n cs)) f in
      let later : once k (drop n cs) ≡ true = fit_once ps (drop n cs) (and_second (not (is_list_role k p.role) || (is_one p.count && not (parts_list k ps))) (singles k ps) s) rest in
      subst (λ xs. once k xs ≡ true) (take-append-drop n cs) (by (is_list_role k p.role) refl (and_first (not (is_list_role k p.role) || (is_one p.count && not (parts_list k ps))) (singles k ps) s) run rest later)
    where
      by : (b : Bool) → is_list_role k p.role ≡ b → (not b || (is_one p.count && not (parts_list k ps))) ≡ true → is_run p (take (lead p.role cs) cs) ≡ true → fit ps (drop (lead p.role cs) cs) ≡ true → once k (drop (lead p.role cs) cs) ≡ true → once k (take (lead p.role cs) cs ++ drop (lead p.role cs) cs) ≡ true
      by false e h run rest later = run_once (take (lead p.role cs) cs) (drop (lead p.role cs) cs) (run_none p.role (take (lead p.role cs) cs) e (lead_in_role p.role cs)) later
      by true e h run rest later =
          single_once (take (lead p.role cs) cs) (drop (lead p.role cs) cs)
          (one_of p.count (length (take (lead p.role cs) cs)) (and_first (is_one p.count) (not (parts_list k ps)) h) (and_first (allows p.count (length (take (lead p.role cs) cs))) (all_of p.class (take (lead p.role cs) cs)) run))
          (none_left ps (drop (lead p.role cs) cs) rest (not-true (parts_list k ps) (and_second (is_one p.count) (not (parts_list k ps)) h))) later

-- ---- the tree

forest_once : (place : Place) (k : AstType) (f : Forest) → once k (trees f) ≡ true → NoneMisshapen (placed_below place k f) → once_below k f ≡ true
forest_once place k nothing s h = refl
forest_once place k (tree r k2 span text marks below id after) s h =
    let node : Node = record { kind = k2; span = span; text = text; marks = marks; children = below; node_id = id } in
    let here : Place = child_place place k r in
    let f : (is_well_formed here node ≡ true) × NoneMisshapen (placed_below here k2 below ++ placed_below place k after) = first_formed (here, node) (placed_below here k2 below ++ placed_below place k after) h in
    let w : NoneMisshapen (placed_below here k2 below) × NoneMisshapen (placed_below place k after) = rest_formed (placed_below here k2 below) (placed_below place k after) f.1 in
    and_from (not (is_list_role k r) || not (some_list k (trees after))) (once_below k2 below && once_below k after)
    (and_first (not (is_list_role k r) || not (some_list k (trees after))) (once k (trees after)) s)
    (and_from (once_below k2 below) (once_below k after)
    (forest_once here k2 below (fit_once k2 (parts k2) (trees below) (all_single k2) (fit_kept node (table_kept here node f.0))) w.0)
    (forest_once place k after (and_second (not (is_list_role k r) || not (some_list k (trees after))) (once k (trees after)) s) w.1))

pub tree_once : (p : Tree) → first_fault p ≡ None → once_below p.root.kind p.root.children ≡ true
tree_once p h =
    let f : (is_well_formed root_place p.root ≡ true) × NoneMisshapen (placed_below root_place p.root.kind p.root.children) = first_formed (root_place, p.root) (placed_below root_place p.root.kind p.root.children) (none_misshapen p h) in
    forest_once root_place p.root.kind p.root.children (fit_once p.root.kind (parts p.root.kind) (trees p.root.children) (all_single p.root.kind) (fit_kept p.root (table_kept root_place p.root f.0))) f.1
