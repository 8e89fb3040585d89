-- A program in which identifiers have another name, and properties no mark `shorthand`, is numbered and shaped as it was.
use Rattle.std.proofs.Common.{◌≡◌, ℕ, suc, ◌+◌, ◌≤◌, ◌==◌, List, [], ◌∷◌, ◌++◌, Bool, true, false, not, ◌&&◌, ◌||◌, cond, if◌then◌else◌, inl, inr, length, map, codes, bytes_eq, bit_and, bit_or, None, refl, sym, ap, subst, ◌∙◌, arith, eq-eqb}
use Rattle.std.specs.List.{list_all, list_any}
use Rattle.std.specs.Int.{bit_at}
use Rattle.std.specs.Str.{encode_utf8_all}
use Rattle.std.proofs.lemmas.Bool.{eqb-true}
use Rattle.std.proofs.lemmas.List.{length-map}
use Rattle.std.proofs.lemmas.Nat.Bits.{bit_at_or, bit_at_and, same_from_bits}
use Rattle.semantic_kinds.specs.Allowed.{allowed_marks}
use Rattle.semantic_kinds.specs.Classes.{is_of}
use Rattle.semantic_kinds.specs.Kinds.{same_kind}
use Rattle.semantic_kinds.specs.MarkSets.{set_of, is_within, is_single}
use Rattle.semantic_kinds.specs.Parts.{parts}
use Rattle.semantic_kinds.specs.Roles.{same_role}
use Rattle.semantic_kinds.specs.Texts.{may_have_text}
use Rattle.semantic_kinds.specs.declared.class.Class.{Class}
use Rattle.semantic_kinds.specs.declared.class.Class.TheVariants as class
use Rattle.semantic_kinds.specs.declared.kind.AstType.{AstType}
use Rattle.semantic_kinds.specs.declared.kind.AstType.TheVariants as kind
use Rattle.semantic_kinds.specs.declared.mark.Mark.{Mark}
use Rattle.semantic_kinds.specs.declared.mark.Mark.TheVariants as mark
use Rattle.semantic_kinds.specs.declared.marks.Marks.{Marks}
use Rattle.semantic_kinds.specs.declared.part.Part.{Part}
use Rattle.semantic_kinds.specs.declared.role.Role.{Role}
use Rattle.semantic_kinds.specs.declared.role.Role.TheVariants as role
use Rattle.semantic_syntax.specs.Tables.{Name}
use Rattle.semantic_tree.specs.Faults.{first_fault}
use Rattle.semantic_tree.specs.Fit.{allows, all_of, is_run, AreInRole, Fit}
use Rattle.semantic_tree.specs.Forest.{Forest, nothing, tree, count, numbered}
use Rattle.semantic_tree.specs.Limits.{node_limit, depth_limit}
use Rattle.semantic_tree.specs.Nodes.{trees, nodes_in}
use Rattle.semantic_tree.specs.Place.{child_place, placed_below, root_place}
use Rattle.semantic_tree.specs.Rules.{is_method_value, is_member_name, number_in, stands}
use Rattle.semantic_tree.specs.Shaped.{IsWellFormed, OfEach, IsShaped}
use Rattle.semantic_tree.specs.Sound.{shows_sign, is_sound, has_good_span}
use Rattle.semantic_tree.specs.Tree.{Tree, IsNumbered}
use Rattle.semantic_tree.specs.declared.node.Node.{Node}
use Rattle.semantic_tree.specs.declared.place.Place.{Place}
use Rattle.semantic_tree.proofs.ShapedLaws.{no_fault-IsShaped, IsShaped-no_fault}
use Rattle.semantic_model.specs.Entries.{Among}
use Rattle.semantic_tree.specs.Views.{children_of}
use Rattle.semantic_model.proofs.form.Clauses.{kind_is}
use Rattle.semantic_model.proofs.lists.Members.{among_left, among_right}
use Rattle.program_laws.specs.ReadMarks.{without_mark, without_where}
use Rattle.rename_model.specs.WithName.{is_named_value, sheds, with_name, with_name_in, is_identifier, AreIdentifiers}
use Rattle.semantic_tree.proofs.Forests.{below_same}
use Rattle.semantic_model.proofs.swapped.Alike.{map_append}

-- ---- identifiers

pub identifier_cases : (P : AstType → Type 0) → P kind.BindingIdentifier → P kind.IdentifierReference → (k : AstType) → is_identifier k ≡ true → P k
identifier_cases P binding reference k h = first (same_kind kind.BindingIdentifier k) refl (same_kind kind.IdentifierReference k) refl h
  where
    first : (a : Bool) → same_kind kind.BindingIdentifier k ≡ a → (b : Bool) → same_kind kind.IdentifierReference k ≡ b → (a || (b || false)) ≡ true → P k
    first true e b f i = subst P (kind_is kind.BindingIdentifier k e) binding
    first false e true f i = subst P (kind_is kind.IdentifierReference k f) reference
    first false e false f i = absurd cc

of_binding : (c : Class) (t u : Name) → is_of c kind.BindingIdentifier t ≡ is_of c kind.BindingIdentifier u
of_binding class.Statement t u = refl
of_binding _ t u = refl

of_reference : (c : Class) (t u : Name) → is_of c kind.IdentifierReference t ≡ is_of c kind.IdentifierReference u
of_reference class.Statement t u = refl
of_reference _ t u = refl

-- ---- fewer marks

clear_bits : (b m o : ℕ) → bit_or b o ≡ o → bit_or (bit_and b m) o ≡ o
clear_bits b m o h = same_from_bits (bit_or (bit_and b m) o) o (λ i. let e : bit_at (bit_or b o) i ≡ bit_at o i = ap (λ n. bit_at n i) h in omega (arith, e, bit_at_or b o i, bit_at_or (bit_and b m) o i, bit_at_and b m i))

pub within_without : (marks others : Marks) (m : Mark) → is_within marks others ≡ true → is_within (without_mark marks m) others ≡ true
within_without marks others m h = eq-eqb (bit_or (without_mark marks m).bits others.bits) others.bits (clear_bits marks.bits _ others.bits (eqb-true (bit_or marks.bits others.bits) others.bits h))

module _ (chosen : ℕ → Bool) (name : Name) where
  -- the node, with the name if it is chosen
  abbrev pub named_node : Node → Node
  named_node node = record node { text = cond (chosen node.node_id) name node.text; marks = without_where (sheds chosen) mark.Shorthand node; children = with_name chosen name node.children }

  abbrev Child : Type 0
  Child = Role × Node

  abbrev named_child : Child → Child
  named_child c = (c.0, named_node c.1)

  abbrev IsSafe : Node → Type 0
  IsSafe node = chosen node.node_id ≡ true → is_identifier node.kind ≡ true

  abbrev AreSafe : List Child → Type 0
  AreSafe cs = (c : Child) → Among c cs → IsSafe c.1

  safe_trees : (f : Forest) → AreIdentifiers chosen f → AreSafe (trees f)
  safe_trees nothing h c a = absurd a
  safe_trees (tree r k span text marks below id after) h c (inl e) = subst (λ (x : Child). IsSafe x.1) e h.0
  safe_trees (tree r k span text marks below id after) h c (inr a) = safe_trees after h.2 c a

  trees_named : (f : Forest) → trees (with_name chosen name f) ≡ map named_child (trees f)
  trees_named nothing = refl
  trees_named (tree r k span text marks below id after) =
      ap (λ (rest : List Child). named_child (r, record { kind = k; span = span; text = text; marks = marks; children = below; node_id = id }) ∷ rest) (trees_named after)

  -- ---- the children of a node

  class_kept : (c : Class) (node : Node) → IsSafe node → is_of c node.kind (cond (chosen node.node_id) name node.text) ≡ is_of c node.kind node.text
  class_kept c node safe = go (chosen node.node_id) safe
    where
      go : (b : Bool) → (b ≡ true → is_identifier node.kind ≡ true) → is_of c node.kind (cond b name node.text) ≡ is_of c node.kind node.text
      go true h = identifier_cases (λ k. is_of c k name ≡ is_of c k node.text) (of_binding c name node.text) (of_reference c name node.text) node.kind (h refl)
      go false h = refl

  all_kept : (c : Class) (cs : List Child) → AreSafe cs → all_of c (map named_child cs) ≡ all_of c cs
  all_kept c [] safe = refl
  all_kept c (x ∷ xs) safe = λ i. class_kept c x.1 (safe x (inl refl)) i && all_kept c xs (λ y a. safe y (inr a)) i

  run_kept : (part : Part) (cs : List Child) → AreSafe cs → is_run part (map named_child cs) ≡ is_run part cs
  run_kept part cs safe = λ i. allows part.count (length-map cs named_child i) && all_kept part.class cs safe i

  roles_kept : (r : Role) (cs : List Child) → AreInRole r cs → AreInRole r (map named_child cs)
  roles_kept r cs h = same cs ∙ h
    where
      same : (xs : List Child) → list_all (λ child. same_role child.0 r) (map named_child xs) ≡ list_all (λ child. same_role child.0 r) xs
      same [] = refl
      same (x ∷ xs) = ap (λ b. same_role x.0 r && b) (same xs)

  fit_kept : (ps : List Part) (cs : List Child) → AreSafe cs → Fit ps cs → Fit ps (map named_child cs)
  fit_kept [] cs safe h = ap (map named_child) h
  fit_kept (part ∷ ps) cs safe h =
      let (own, rest, e, in_role, run, fits) = h in
      let own_safe : AreSafe own = λ c a. safe c (subst (Among c) (sym e) (among_left c own rest a)) in
      let rest_safe : AreSafe rest = λ c a. safe c (subst (Among c) (sym e) (among_right c own rest a)) in
      (map named_child own, map named_child rest, ap (map named_child) e ∙ map_append named_child own rest, roles_kept part.role own in_role, run_kept part own own_safe ∙ run, fit_kept ps rest rest_safe fits)

  in_role_kept : (r : Role) (cs : List Child) → length (nodes_in r (map named_child cs)) ≡ length (nodes_in r cs)
  in_role_kept r [] = refl
  in_role_kept r (c ∷ cs) = go (same_role c.0 r) (in_role_kept r cs)
    where
      go : (b : Bool) → length (nodes_in r (map named_child cs)) ≡ length (nodes_in r cs) → length (if b then named_node c.1 ∷ nodes_in r (map named_child cs) else nodes_in r (map named_child cs)) ≡ length (if b then c.1 ∷ nodes_in r cs else nodes_in r cs)
      go true h = ap (λ n. suc n) h
      go false h = h

  number_kept : (r : Role) (node : Node) → number_in r (named_node node) ≡ number_in r node
  number_kept r node = ap (λ cs. length (nodes_in r cs)) (trees_named node.children) ∙ in_role_kept r (trees node.children)

  -- ---- one node

  text_kept : (node : Node) → IsSafe node → bytes_eq name [] ≡ false → may_have_text node.kind node.text ≡ true → may_have_text node.kind (cond (chosen node.node_id) name node.text) ≡ true
  text_kept node safe some h = go (chosen node.node_id) safe
    where
      go : (b : Bool) → (b ≡ true → is_identifier node.kind ≡ true) → may_have_text node.kind (cond b name node.text) ≡ true
      go true i = identifier_cases (λ k. may_have_text k name ≡ true) (ap not some) (ap not some) node.kind (i refl)
      go false i = h

  marks_kept : (node : Node) (others : Marks) → is_within node.marks others ≡ true → is_within (without_where (sheds chosen) mark.Shorthand node) others ≡ true
  marks_kept node others h = go (sheds chosen node)
    where
      go : (b : Bool) → is_within (cond b (without_mark node.marks mark.Shorthand) node.marks) others ≡ true
      go true = within_without node.marks others mark.Shorthand h
      go false = h

  -- a node that is no identifier keeps its text
  own_text : (k : AstType) (node : Node) → k ≡ node.kind → is_identifier k ≡ false → IsSafe node → cond (chosen node.node_id) name node.text ≡ node.text
  own_text k node e h safe = go (chosen node.node_id) safe
    where
      go : (b : Bool) → (b ≡ true → is_identifier node.kind ≡ true) → cond b name node.text ≡ node.text
      go true i = let q : false ≡ true = sym h ∙ ap is_identifier e ∙ i refl in absurd cc
      go false i = refl

  -- a node that is no property keeps its marks
  own_marks : (k : AstType) (node : Node) → k ≡ node.kind → (same_kind kind.ObjectProperty k || (same_kind kind.BindingProperty k || false)) ≡ false → without_where (sheds chosen) mark.Shorthand node ≡ node.marks
  own_marks k node e h = ap (λ b. cond (b && list_any (is_named_value chosen) (children_of role.Value node.children)) (without_mark node.marks mark.Shorthand) node.marks) (ap (λ j. same_kind kind.ObjectProperty j || (same_kind kind.BindingProperty j || false)) (sym e) ∙ h)

  stands_kept : (place : Place) (node : Node) (k : AstType) → k ≡ node.kind → IsSafe node → stands place k (named_node node) ≡ stands place k node
  stands_kept place node kind.Function e safe =
      let test : List ℕ → ℕ → Bool = λ text chosen. if bytes_eq text (codes "ts-empty-body") then is_method_value place && chosen == 0 else not (is_method_value place) || bytes_eq text (codes "expression") in
      λ i. test (own_text kind.Function node e refl safe i) (number_kept role.Id node i)
  stands_kept place node kind.Class e safe = λ i. (number_kept role.TypeArguments node i == 0) || not (number_kept role.Heritage node i == 0)
  stands_kept place node kind.NumericLiteral e safe = ap is_single (own_marks kind.NumericLiteral node e refl)
  stands_kept place node kind.TemplateLiteral e safe =
      λ i. (number_kept role.Quasis node i == number_kept role.Expressions node i + 1) && (not (is_member_name place) || number_kept role.Expressions node i == 0)
  stands_kept place node kind.TSTemplateLiteralType e safe = λ i. number_kept role.Quasis node i == number_kept role.Types node i + 1
  stands_kept place node _ e safe = refl

  sign_kept : (source : List ℕ) (node : Node) (k : AstType) → k ≡ node.kind → shows_sign source k (named_node node) ≡ shows_sign source k node
  sign_kept source node kind.JSDocNullableType e = ap (λ m. shows_sign source kind.JSDocNullableType (record node { marks = m })) (own_marks kind.JSDocNullableType node e refl)
  sign_kept source node kind.JSDocNonNullableType e = ap (λ m. shows_sign source kind.JSDocNonNullableType (record node { marks = m })) (own_marks kind.JSDocNonNullableType node e refl)
  sign_kept source node _ e = refl

  -- ---- numbers

  count_kept : (f : Forest) → count (with_name chosen name f) ≡ count f
  count_kept nothing = refl
  count_kept (tree r k span text marks below id after) = λ i. count_kept below i + count_kept after i + 1

  numbers_below : (n : ℕ) (f : Forest) → numbered n f ≡ f → numbered n (with_name chosen name f) ≡ with_name chosen name f
  numbers_below n nothing h = refl
  numbers_below n (tree r k span text marks below id after) h =
      let (inner, own, rest) = below_same h in
      let node : Node = named_node (record { kind = k; span = span; text = text; marks = marks; children = below; node_id = id }) in
      (λ i. tree r k span node.text node.marks (numbers_below (n + 1) below inner i) n (numbered (n + 1 + count_kept below i) (with_name chosen name after)))
      ∙ (λ i. tree r k span node.text node.marks (with_name chosen name below) (own i) (numbers_below (n + 1 + count below) after rest i))

  pub numbers_kept : (p : Tree) → IsNumbered p.root → IsNumbered (with_name_in chosen name p).root
  numbers_kept p h =
      ap (λ (g : Forest). record p.root { children = g; node_id = 0 }) (numbers_below 1 p.root.children (ap (λ n. n.children) h))
      ∙ ap (λ n. record p.root { children = with_name chosen name p.root.children; node_id = n }) (ap (λ n. n.node_id) h)

  module _ (some : bytes_eq name [] ≡ false) where
    form_kept : (place : Place) (node : Node) → IsSafe node → AreIdentifiers chosen node.children → IsWellFormed place node → IsWellFormed place (named_node node)
    form_kept place node safe all h = record {
      rooted = h.rooted;
      text = text_kept node safe some h.text;
      marks = marks_kept node (set_of (allowed_marks node.kind)) h.marks;
      children = subst (Fit (parts node.kind)) (sym (trees_named node.children)) (fit_kept (parts node.kind) (trees node.children) (safe_trees node.children all) h.children);
      rules = stands_kept place node node.kind refl safe ∙ h.rules;
      named = h.named;
    }

    -- ---- all nodes

    of_append : (P : Place → Node → Type 0) (xs ys : List (Place × Node)) → OfEach P xs → OfEach P ys → OfEach P (xs ++ ys)
    of_append P [] ys h k = k
    of_append P (x ∷ xs) ys h k = (h.0, of_append P xs ys h.1 k)

    of_left : (P : Place → Node → Type 0) (xs ys : List (Place × Node)) → OfEach P (xs ++ ys) → OfEach P xs
    of_left P [] ys h = tt
    of_left P (x ∷ xs) ys h = (h.0, of_left P xs ys h.1)

    of_right : (P : Place → Node → Type 0) (xs ys : List (Place × Node)) → OfEach P (xs ++ ys) → OfEach P ys
    of_right P [] ys h = h
    of_right P (x ∷ xs) ys h = of_right P xs ys h.1

    abbrev IsKept : (Place → Node → Type 0) → Type 0
    IsKept P = (place : Place) (node : Node) → IsSafe node → AreIdentifiers chosen node.children → P place node → P place (named_node node)

    below_kept : (P : Place → Node → Type 0) → IsKept P → (place : Place) (k : AstType) (f : Forest) → AreIdentifiers chosen f → OfEach P (placed_below place k f) → OfEach P (placed_below place k (with_name chosen name f))
    below_kept P keeps place k nothing all h = tt
    below_kept P keeps place k (tree r k2 span text marks below id after) all h =
        let node : Node = record { kind = k2; span = span; text = text; marks = marks; children = below; node_id = id } in
        let here : Place = child_place place k r in (
          keeps here node all.0 all.1 h.0,
          of_append P (placed_below here k2 (with_name chosen name below)) (placed_below place k (with_name chosen name after))
              (below_kept P keeps here k2 below all.1 (of_left P (placed_below here k2 below) (placed_below place k after) h.1))
              (below_kept P keeps place k after all.2 (of_right P (placed_below here k2 below) (placed_below place k after) h.1)),
        )

    -- the root keeps its text and marks
    root_kept : (p : Tree) → AreIdentifiers chosen p.root.children → IsWellFormed root_place p.root → IsWellFormed root_place (with_name_in chosen name p).root
    root_kept p all h =
        let cs : trees (with_name chosen name p.root.children) ≡ map named_child (trees p.root.children) = trees_named p.root.children in
        record {
          rooted = h.rooted;
          text = h.text;
          marks = h.marks;
          children = subst (Fit (parts p.root.kind)) (sym cs) (fit_kept (parts p.root.kind) (trees p.root.children) (safe_trees p.root.children all) h.children);
          rules = root_stands p.root.kind ∙ h.rules;
          named = h.named;
        }
      where
        new : Node
        new = record p.root { children = with_name chosen name p.root.children }

        numbers : (r : Role) → number_in r (record p.root { children = with_name chosen name p.root.children }) ≡ number_in r p.root
        numbers r = ap (λ cs. length (nodes_in r cs)) (trees_named p.root.children) ∙ in_role_kept r (trees p.root.children)

        root_stands : (k : AstType) → stands root_place k (record p.root { children = with_name chosen name p.root.children }) ≡ stands root_place k p.root
        root_stands kind.Function = λ i. if bytes_eq p.root.text (codes "ts-empty-body") then is_method_value root_place && numbers role.Id i == 0 else not (is_method_value root_place) || bytes_eq p.root.text (codes "expression")
        root_stands kind.Class = λ i. (numbers role.TypeArguments i == 0) || not (numbers role.Heritage i == 0)
        root_stands kind.NumericLiteral = refl
        root_stands kind.TemplateLiteral = λ i. (numbers role.Quasis i == numbers role.Expressions i + 1) && (not (is_member_name root_place) || numbers role.Expressions i == 0)
        root_stands kind.TSTemplateLiteralType = λ i. numbers role.Quasis i == numbers role.Types i + 1
        root_stands _ = refl

    root_sign : (source : List ℕ) (node : Node) (g : Forest) (k : AstType) → shows_sign source k (record node { children = g }) ≡ shows_sign source k node
    root_sign source node g kind.JSDocNullableType = refl
    root_sign source node g kind.JSDocNonNullableType = refl
    root_sign source node g _ = refl

    pub shape_kept : (p : Tree) → AreIdentifiers chosen p.root.children → IsShaped p → IsShaped (with_name_in chosen name p)
    shape_kept p all h =
        let source : List ℕ = encode_utf8_all p.source in
        record {
          nodes = subst (λ n. n + 1 ≤ node_limit) (sym (count_kept p.root.children)) h.nodes;
          number_of_comments = h.number_of_comments;
          bytes = h.bytes;
          depths = (h.depths.0, below_kept (λ place node. place.depth ≤ depth_limit) (λ place node safe below k. k) root_place p.root.kind p.root.children all h.depths.1);
          forms = (root_kept p all h.forms.0, below_kept IsWellFormed form_kept root_place p.root.kind p.root.children all h.forms.1);
          spans = (
            ap (λ b. is_sound source p.root.span && b) (root_sign source p.root (with_name chosen name p.root.children) p.root.kind) ∙ h.spans.0,
            below_kept (λ place node. has_good_span source node ≡ true) (λ place node safe below k. ap (λ b. is_sound source node.span && b) (sign_kept source node node.kind refl) ∙ k) root_place p.root.kind p.root.children all h.spans.1,
          );
          comments = h.comments;
        }

    pub no_fault_made : (p : Tree) → AreIdentifiers chosen p.root.children → first_fault p ≡ None → first_fault (with_name_in chosen name p) ≡ None
    no_fault_made p all h = IsShaped-no_fault (with_name_in chosen name p) (shape_kept p all (no_fault-IsShaped p h))
