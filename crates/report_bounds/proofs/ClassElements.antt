-- The classes of a tree, with their elements and the uses of private names in them, are within bounds where its nodes are.
use Rattle.std.proofs.Common.{◌≡◌, ℕ, ◌+◌, ◌<◌, ◌≤◌, ◌^◌, ◌&&◌, Bool, true, false, cond, List, [], ◌∷◌, ◌++◌, Option, Some, None, inl, inr, length, map, option_and_then, not, codes, refl, lit<, IfSome, arith}
use Rattle.std.specs.List.{AllByRecursion}
use Rattle.std.specs.Option.{option_map}
use lib.Bits.{or_lt}
use Rattle.semantic_syntax.proofs.Every.{every-append, every-more}
use Rattle.semantic_syntax.specs.FlagNames.{element_kind_names}
use Rattle.semantic_syntax.specs.Sets.{union}
use Rattle.semantic_syntax.specs.Tables.{Name}
use Rattle.semantic_syntax.specs.declared.element_kind.TheConstants.ElementKind as element
use Rattle.semantic_kinds.specs.Kinds.{same_kind}
use Rattle.semantic_kinds.specs.declared.kind.AstType.{AstType}
use Rattle.semantic_kinds.specs.declared.kind.AstType.TheVariants as kind
use Rattle.semantic_kinds.specs.declared.mark.Mark.TheVariants as mark
use Rattle.semantic_kinds.specs.declared.role.Role.TheVariants as role
use Rattle.semantic_tree.specs.Children.{node_count}
use Rattle.semantic_tree.specs.Faults.{first_fault}
use Rattle.semantic_tree.specs.Forest.{Forest, nothing, tree, count}
use Rattle.semantic_tree.specs.KeyNames.{key_name}
use Rattle.semantic_tree.specs.Tree.{Tree, IsNumbered}
use Rattle.semantic_tree.specs.Views.{is, has, has_text, holds, children_of, child_of}
use Rattle.semantic_tree.specs.declared.node.Node.{Node}
use Rattle.semantic_tree.proofs.ShapedLaws.{no_fault-IsShaped}
use Rattle.semantic_model.specs.Class.{PrivateUse, Class, uses_under, uses_below, body_count, classes_below, classes}
use Rattle.semantic_model.specs.Element.{Element, element_with, is_implemented, method_kind, element_of, elements_of, is_named, stands_alone, matches_from, element_ids}
use Rattle.semantic_model.specs.Entries.{Among}
use Rattle.semantic_model.proofs.lists.Members.{among_left, among_right}
use Rattle.check_model.specs.SightOf.{bodies_of, uses_if, uses_at, elements_if, elements_at}
use Rattle.class_table.proofs.Room.{elements_fit_trees, trees_fit}
use Rattle.class_table.proofs.Noting.{classes_fit}
use Rattle.program_laws.proofs.TreeNodes.{nodes_below, child_in}
use Rattle.table_bounds.specs.Tellable.{IsWrittenWhole, AreNumbers, HaveNames, IsTellableElement, IsTellableUse, IsTellableClass, AreTellableClasses}
use Rattle.table_bounds.proofs.Lists.{all_among}
use Rattle.table_bounds.proofs.Nodes.{IsBounded, bounded_nodes}
use Rattle.report_bounds.proofs.Rows.{HasNumbers, AreAll, child_with, all_mapped, all_flat, all_taken}

abbrev AreBounded : Node → Type 0
AreBounded x = AreAll IsBounded x

-- ---- elements

abbrev AreElementFlags : ℕ → Type 0
AreElementFlags bits = HaveNames element_kind_names bits

with_key : (what : ℕ) (member : Node) (o : Option Node) → AreElementFlags what → IfSome o AreBounded
    → IfSome (option_and_then (λ key. option_map (λ (name : Name). record { name = name; span = key.span; is_static = has mark.Static member; is_private = is kind.PrivateIdentifier key; kind = record { bits = what } }) (key_name key)) o) IsTellableElement
with_key what member None named h = tt
with_key what member (Some key) named h = by (key_name key)
  where
    here : IsBounded key
    here = h key (inl refl)

    by : (o : Option Name) → IfSome (option_map (λ (name : Name). record { name = name; span = key.span; is_static = has mark.Static member; is_private = is kind.PrivateIdentifier key; kind = record { bits = what } }) o) IsTellableElement
    by None = tt
    by (Some name) = record { start = here.start; end = here.end; flags = named }

either : (b : Bool) (x y : ℕ) → AreElementFlags x → AreElementFlags y → AreElementFlags (cond b x y)
either true x y h k = h
either false x y h k = k

method_named : (member : Node) → AreElementFlags (method_kind member)
method_named member =
    or_lt 5 element.Method.bits (cond (has_text (codes "get") member) element.Getter.bits (cond (has_text (codes "set") member) element.Setter.bits 0)) (lit< tt)
    (either (has_text (codes "get") member) element.Getter.bits (cond (has_text (codes "set") member) element.Setter.bits 0) (lit< tt) (either (has_text (codes "set") member) element.Setter.bits 0 (lit< tt) (lit< tt)))

method_tellable : (member : Node) (b : Bool) → AreBounded member → IfSome (cond b (element_with (method_kind member) (record member { kind = kind.MethodDefinition })) None) IsTellableElement
method_tellable member true h = with_key (method_kind member) (record member { kind = kind.MethodDefinition }) (child_of role.Key member) (method_named member) (child_with IsBounded role.Key member h)
method_tellable member false h = tt

of_kind : (k : AstType) (member : Node) → AreBounded member → IfSome (element_of (record member { kind = k })) IsTellableElement
of_kind kind.MethodDefinition member h = method_tellable member (not (has_text (codes "constructor") member) && holds is_implemented (child_of role.Value member)) h
of_kind kind.PropertyDefinition member h = with_key element.Property.bits (record member { kind = kind.PropertyDefinition }) (child_of role.Key member) (lit< tt) (child_with IsBounded role.Key member h)
of_kind kind.AccessorProperty member h = with_key element.Accessor.bits (record member { kind = kind.AccessorProperty }) (child_of role.Key member) (lit< tt) (child_with IsBounded role.Key member h)
of_kind _ member h = tt

elements_tellable : (body : Forest) → ((y : Node) → Among y (nodes_below body) → IsBounded y) → AllByRecursion IsTellableElement (elements_of body)
elements_tellable body h =
    all_mapped AreBounded IsTellableElement element_of (children_of role.Body body) (λ member k. of_kind member.kind member k) (all_among AreBounded (children_of role.Body body) (λ member a y b. h y (child_in role.Body body member a y b)))

few_elements : (body : Forest) → count body ≤ 4294967294 → length (elements_of body) ≤ 2 ^ 64
few_elements body few = omega (arith, few, elements_fit_trees body, trees_fit body)

-- ---- uses

matches_small : (n : ℕ) (name : Name) (b : Bool) (es : List Element) → n + length es ≤ 2 ^ 64 → AreNumbers (matches_from n name b es)
matches_small n name b [] few = tt
matches_small n name b (e ∷ es) few = by (is_named name b e) (stands_alone e) (matches_small (n + 1) name b es (omega (arith, few)))
  where
    by : (c d : Bool) → AreNumbers (matches_from (n + 1) name b es) → AreNumbers (cond c (n ∷ cond d [] (matches_from (n + 1) name b es)) (matches_from (n + 1) name b es))
    by true true later = (omega (arith, few), tt)
    by true false later = (omega (arith, few), later)
    by false d later = later

ids_small : (es : List Element) (name : Name) (b : Bool) → length es ≤ 2 ^ 64 → AreNumbers (element_ids es name b)
ids_small es name b few = all_taken IsWrittenWhole 2 (matches_from 0 name b es) (matches_small 0 name b es (omega (arith, few)))

uses_tellable : (es : List Element) (parent : AstType) (f : Forest) → length es ≤ 2 ^ 64 → ((y : Node) → Among y (nodes_below f) → IsBounded y) → AllByRecursion IsTellableUse (uses_below es parent f)
uses_tellable es parent nothing few h = tt
uses_tellable es parent (tree r k span text marks below id after) few h =
    every-append IsTellableUse (cond (same_kind k kind.PrivateIdentifier && uses_under parent) (record { id = id; name = text; span = span; element_ids = element_ids es text true } ∷ []) [])
    (cond (same_kind k kind.ClassBody) [] (uses_below es k below) ++ uses_below es parent after)
    (used (same_kind k kind.PrivateIdentifier && uses_under parent))
    (every-append IsTellableUse (cond (same_kind k kind.ClassBody) [] (uses_below es k below)) (uses_below es parent after)
    (inside (same_kind k kind.ClassBody) (uses_tellable es k below few (λ y a. h y (inr (among_left y (nodes_below below) (nodes_below after) a)))))
    (uses_tellable es parent after few (λ y a. h y (inr (among_right y (nodes_below below) (nodes_below after) a)))))
  where
    here : IsBounded (record { kind = k; span = span; text = text; marks = marks; children = below; node_id = id })
    here = h (record { kind = k; span = span; text = text; marks = marks; children = below; node_id = id }) (inl refl)

    used : (b : Bool) → AllByRecursion IsTellableUse (cond b (record { id = id; name = text; span = span; element_ids = element_ids es text true } ∷ []) [])
    used true = (record { id = here.id; start = here.start; end = here.end; element_ids = ids_small es text true few }, tt)
    used false = tt

    inside : (b : Bool) → AllByRecursion IsTellableUse (uses_below es k below) → AllByRecursion IsTellableUse (cond b [] (uses_below es k below))
    inside true later = tt
    inside false later = later

-- ---- classes

around_small : (b : Bool) (n : ℕ) (around : Option ℕ) → IsWrittenWhole n → IfSome around IsWrittenWhole → IfSome (cond b (Some n) around) IsWrittenWhole
around_small true n around h k = h
around_small false n around h k = k

classes_tellable : (n : ℕ) (around : Option ℕ) (node : ℕ) (f : Forest) → n + body_count f ≤ 4294967294 → count f ≤ 4294967294 → IfSome around IsWrittenWhole → IsWrittenWhole node → ((y : Node) → Among y (nodes_below f) → IsBounded y)
    → AllByRecursion IsTellableClass (classes_below n around node f)
classes_tellable n around node nothing fits few k l h = tt
classes_tellable n around node (tree r k span text marks below id after) fits few outer at h =
    let is_body : Bool = same_kind k kind.ClassBody in
    let next : ℕ = n + cond is_body 1 0 in
    every-append IsTellableClass (cond is_body (record { node = node; parent = around; elements = elements_of below; uses = uses_below (elements_of below) kind.ClassBody below } ∷ []) [])
    (classes_below next (cond is_body (Some n) around) id below ++ classes_below (next + body_count below) around node after)
    (by is_body)
    (every-append IsTellableClass (classes_below next (cond is_body (Some n) around) id below) (classes_below (next + body_count below) around node after)
    (classes_tellable next (cond is_body (Some n) around) id below (omega (arith, fits)) (omega (arith, few)) (around_small is_body n around (omega (arith, fits)) outer) here.id inner)
    (classes_tellable (next + body_count below) around node after (omega (arith, fits)) (omega (arith, few)) outer at (λ y a. h y (inr (among_right y (nodes_below below) (nodes_below after) a)))))
  where
    here : IsBounded (record { kind = k; span = span; text = text; marks = marks; children = below; node_id = id })
    here = h (record { kind = k; span = span; text = text; marks = marks; children = below; node_id = id }) (inl refl)

    inner : (y : Node) → Among y (nodes_below below) → IsBounded y
    inner y a = h y (inr (among_left y (nodes_below below) (nodes_below after) a))

    elements_few : length (elements_of below) ≤ 2 ^ 64
    elements_few = few_elements below (omega (arith, few))

    by : (b : Bool) → AllByRecursion IsTellableClass (cond b (record { node = node; parent = around; elements = elements_of below; uses = uses_below (elements_of below) kind.ClassBody below } ∷ []) [])
    by true = (record { node = at; parent = outer; elements_numbered = elements_few; elements = elements_tellable below inner; uses = uses_tellable (elements_of below) kind.ClassBody below elements_few inner }, tt)
    by false = tt

one_or_none : (b : Bool) → cond b 1 0 ≤ 1
one_or_none true = omega arith
one_or_none false = omega arith

bodies_few : (f : Forest) → body_count f ≤ count f
bodies_few nothing = omega arith
bodies_few (tree r k span text marks below id after) = omega (arith, one_or_none (same_kind k kind.ClassBody), bodies_few below, bodies_few after)

of_root : (root : Node) → node_count root ≤ 4294967294 → AreBounded root → AllByRecursion IsTellableClass (classes root)
of_root root few h =
    classes_tellable 0 None root.node_id root.children (omega (arith, few, bodies_few root.children)) (omega (arith, few)) tt (h root (inl refl)).id (λ y a. h y (inr a))

pub classes_bounded : (p : Tree) → first_fault p ≡ None → IsNumbered p.root → AreTellableClasses (classes p.root)
classes_bounded p faultless numbered =
    let few : node_count p.root ≤ 4294967294 = (no_fault-IsShaped p faultless).nodes in
    record { numbered = omega (arith, few, classes_fit p.root); each = of_root p.root few (λ y a. bounded_nodes p faultless numbered y a) }

-- ---- as sights have them

abbrev pub HasElementNumbers : Element → Type 0
HasElementNumbers e = HasNumbers e.span

abbrev pub HasUseNumbers : PrivateUse → Type 0
HasUseNumbers u = HasNumbers u.span

abbrev HasElements : Class → Type 0
HasElements c = AllByRecursion IsTellableElement c.elements

all_elements : (cs : List Class) → AllByRecursion HasElements cs → AllByRecursion (AllByRecursion HasElementNumbers) (map (λ c. c.elements) cs)
all_elements [] h = tt
all_elements (c ∷ cs) h = (every-more IsTellableElement HasElementNumbers (λ e k. (k.start, k.end)) c.elements h.0, all_elements cs h.1)

each_has_elements : (n : ℕ) (around : Option ℕ) (node : ℕ) (f : Forest) → ((y : Node) → Among y (nodes_below f) → IsBounded y) → AllByRecursion HasElements (classes_below n around node f)
each_has_elements n around node nothing h = tt
each_has_elements n around node (tree r k span text marks below id after) h =
    let is_body : Bool = same_kind k kind.ClassBody in
    let next : ℕ = n + cond is_body 1 0 in
    every-append HasElements (cond is_body (record { node = node; parent = around; elements = elements_of below; uses = uses_below (elements_of below) kind.ClassBody below } ∷ []) [])
    (classes_below next (cond is_body (Some n) around) id below ++ classes_below (next + body_count below) around node after)
    (by is_body)
    (every-append HasElements (classes_below next (cond is_body (Some n) around) id below) (classes_below (next + body_count below) around node after)
    (each_has_elements next (cond is_body (Some n) around) id below inner)
    (each_has_elements (next + body_count below) around node after (λ y a. h y (inr (among_right y (nodes_below below) (nodes_below after) a)))))
  where
    inner : (y : Node) → Among y (nodes_below below) → IsBounded y
    inner y a = h y (inr (among_left y (nodes_below below) (nodes_below after) a))

    by : (b : Bool) → AllByRecursion HasElements (cond b (record { node = node; parent = around; elements = elements_of below; uses = uses_below (elements_of below) kind.ClassBody below } ∷ []) [])
    by true = (elements_tellable below inner, tt)
    by false = tt

pub elements_fine : (node : Node) → AreAll IsBounded node → AllByRecursion (AllByRecursion HasElementNumbers) (elements_at node)
elements_fine node h = by (is kind.Program node)
  where
    by : (b : Bool) → AllByRecursion (AllByRecursion HasElementNumbers) (elements_if b node)
    by true = all_elements (classes node) (each_has_elements 0 None node.node_id node.children (λ y a. h y (inr a)))
    by false = tt

use_spans : (es : List Element) (parent : AstType) (f : Forest) → ((y : Node) → Among y (nodes_below f) → IsBounded y) → AllByRecursion HasUseNumbers (uses_below es parent f)
use_spans es parent nothing h = tt
use_spans es parent (tree r k span text marks below id after) h =
    every-append HasUseNumbers (cond (same_kind k kind.PrivateIdentifier && uses_under parent) (record { id = id; name = text; span = span; element_ids = element_ids es text true } ∷ []) [])
    (cond (same_kind k kind.ClassBody) [] (uses_below es k below) ++ uses_below es parent after)
    (used (same_kind k kind.PrivateIdentifier && uses_under parent))
    (every-append HasUseNumbers (cond (same_kind k kind.ClassBody) [] (uses_below es k below)) (uses_below es parent after)
    (inside (same_kind k kind.ClassBody) (use_spans es k below (λ y a. h y (inr (among_left y (nodes_below below) (nodes_below after) a)))))
    (use_spans es parent after (λ y a. h y (inr (among_right y (nodes_below below) (nodes_below after) a)))))
  where
    here : IsBounded (record { kind = k; span = span; text = text; marks = marks; children = below; node_id = id })
    here = h (record { kind = k; span = span; text = text; marks = marks; children = below; node_id = id }) (inl refl)

    used : (b : Bool) → AllByRecursion HasUseNumbers (cond b (record { id = id; name = text; span = span; element_ids = element_ids es text true } ∷ []) [])
    used true = ((here.start, here.end), tt)
    used false = tt

    inside : (b : Bool) → AllByRecursion HasUseNumbers (uses_below es k below) → AllByRecursion HasUseNumbers (cond b [] (uses_below es k below))
    inside true later = tt
    inside false later = later

pub uses_fine : (node : Node) → AreAll IsBounded node → AllByRecursion HasUseNumbers (uses_at node)
uses_fine node h = by (is kind.Class node)
  where
    by : (b : Bool) → AllByRecursion HasUseNumbers (uses_if b node)
    by true =
        all_flat AreBounded HasUseNumbers (λ (body : Node). uses_below (elements_of body.children) kind.ClassBody body.children) (bodies_of node)
        (λ body k. use_spans (elements_of body.children) kind.ClassBody body.children (λ y a. k y (inr a)))
        (all_among AreBounded (children_of role.Body node.children) (λ body a y b. h y (inr (child_in role.Body node.children body a y b))))
    by false = tt
