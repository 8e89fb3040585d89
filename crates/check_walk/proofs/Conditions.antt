-- What a check asks of the nodes and classes that it is handed holds at each place of a program without a fault.
use Rattle.std.proofs.Common.{◌≡◌, ℕ, List, [], ◌∷◌, ◌++◌, Option, Some, None, IfSome, Bool, true, false, cond, if◌then◌else◌, refl, sym, subst, length}
use Rattle.std.specs.Prelude.{filter_map, option_map, ◌&&◌}
use Rattle.std.specs.Str.{encode_utf8_all}
use Rattle.std.specs.List.{AllByRecursion, cons_option}
use Rattle.std.specs.Option.{option_and_then, option_map_or}
use Rattle.semantic_syntax.proofs.Truth.{and_first}
use Rattle.semantic_kinds.specs.Kinds.{same_kind}
use Rattle.semantic_kinds.specs.Roles.{same_role}
use Rattle.semantic_kinds.specs.declared.kind.AstType.{AstType}
use Rattle.semantic_kinds.specs.declared.kind.AstType.TheVariants as kind
use Rattle.semantic_kinds.specs.declared.role.Role.{Role}
use Rattle.semantic_kinds.specs.declared.role.Role.TheVariants as role
use Rattle.semantic_tree.specs.Faults.{first_fault}
use Rattle.semantic_tree.specs.Forest.{Forest, nothing, tree}
use Rattle.semantic_tree.specs.Nodes.{trees, nodes_in, first_of}
use Rattle.semantic_tree.specs.Place.{child_place, placed_below, root_place}
use Rattle.semantic_tree.specs.Shaped.{OfEach, IsShaped}
use Rattle.semantic_tree.specs.Sound.{is_sound, shows_sign, has_good_span}
use Rattle.semantic_tree.specs.Tree.{Tree}
use Rattle.semantic_tree.specs.declared.node.Node.{Node}
use Rattle.semantic_tree.specs.declared.place.Place.{Place}
use Rattle.semantic_tree.proofs.ShapedLaws.{no_fault-IsShaped}
use Rattle.semantic_model.specs.Element.{Element, element_of, element_with, elements_of}
use Rattle.semantic_tree.specs.KeyNames.{key_name}
use Rattle.semantic_tree.specs.Views.{child_of}
use Rattle.class_table.specs.Building.{with_body, with_use_under, use_in}
use Rattle.class_table.specs.Lists.{with_class, with_use}
use Rattle.class_table.specs.Outward.{parent_class}
use Rattle.semantic_model.specs.Class.{uses_under}
use Rattle.class_table.specs.Noted.{class_entered, class_left, noted_below}
use Rattle.class_table.specs.NotedSteps.{entered_under}
use Rattle.class_table.specs.declared.builder.ClassTableBuilder.{ClassTableBuilder}
use Rattle.check_context.specs.Sound.{HaveGoodSpans, IsInSource, AreAllSound}
use Rattle.check_context.proofs.GoodChildren.{child_good}

module _ (P : Place → Node → Type 0) where
  each_first : (xs ys : List (Place × Node)) → OfEach P (xs ++ ys) → OfEach P xs
  each_first [] ys h = tt
  each_first (x ∷ xs) ys h = (h.0, each_first xs ys h.1)

  each_later : (xs ys : List (Place × Node)) → OfEach P (xs ++ ys) → OfEach P ys
  each_later [] ys h = h
  each_later (x ∷ xs) ys h = each_later xs ys h.1

-- a use of a private name changes no element
same_elements : (b : ClassTableBuilder) (here : Node) (parent : AstType) → (with_use_under b here here.node_id parent).classes.elements ≡ b.classes.elements
same_elements b here parent = by (b.enabled && uses_under parent) b.current_class_id
  where
    by : (c : Bool) (o : Option ℕ) → (cond c (option_map_or (λ d. with_use b.classes d (use_in b.classes d here here.node_id)) o b.classes) b.classes).elements ≡ b.classes.elements
    by true None = refl
    by true (Some d) = refl
    by false o = refl

module _ (source : List ℕ) where
  abbrev IsGood : Place → Node → Type 0
  IsGood place node = has_good_span source node ≡ true

  spans_below : (place : Place) (k : AstType) (f : Forest) → OfEach IsGood (placed_below place k f) → HaveGoodSpans source f
  spans_below place k nothing h = tt
  spans_below place k (tree r own span text marks below id after) h =
      let inner : Place = child_place place k r in
      (h.0, (spans_below inner own below (each_first IsGood (placed_below inner own below) (placed_below place k after) h.1), spans_below place k after (each_later IsGood (placed_below inner own below) (placed_below place k after) h.1)))

  abbrev IsSoundElement : Element → Type 0
  IsSoundElement e = is_sound source e.span ≡ true

  and_then : {A B : Type 0} (f : A → Option B) (P : A → Type 0) (Q : B → Type 0) → ((a : A) → P a → IfSome (f a) Q) → (o : Option A) → IfSome o P → IfSome (option_and_then f o) Q
  and_then f P Q h None p = tt
  and_then f P Q h (Some a) p = h a p

  of_map : {A B : Type 0} (g : A → B) (Q : B → Type 0) → ((a : A) → Q (g a)) → (o : Option A) → IfSome (option_map g o) Q
  of_map g Q h None = tt
  of_map g Q h (Some a) = h a

  with_sound : (what : ℕ) (member : Node) → HaveGoodSpans source member.children → IfSome (element_with what member) IsSoundElement
  with_sound what member h =
      and_then _ (λ (key : Node). has_good_span source key ≡ true) IsSoundElement
      (λ key good. of_map _ IsSoundElement (λ name. and_first (is_sound source key.span) (shows_sign source key.kind key) good) (key_name key))
      (child_of role.Key member) (child_good source role.Key member.children h)

  unless : (b : Bool) (o : Option Element) → IfSome o IsSoundElement → IfSome (cond b o None) IsSoundElement
  unless true o h = h
  unless false o h = tt

  element_sound : (member : Node) → HaveGoodSpans source member.children → IfSome (element_of member) IsSoundElement
  element_sound member h = by member.kind
    where
      by : (k : AstType) → IfSome (element_of (record member { kind = k })) IsSoundElement
      by kind.MethodDefinition = unless _ _ (with_sound _ (record member { kind = kind.MethodDefinition }) h)
      by kind.PropertyDefinition = with_sound _ (record member { kind = kind.PropertyDefinition }) h
      by kind.AccessorProperty = with_sound _ (record member { kind = kind.AccessorProperty }) h
      by _ = tt

  cons_sound : (o : Option Element) (es : List Element) → IfSome o IsSoundElement → AllByRecursion IsSoundElement es → AllByRecursion IsSoundElement (cons_option o es)
  cons_sound None es h k = k
  cons_sound (Some e) es h k = (h, k)

  -- the elements of a class body
  pub elements_sound : (f : Forest) → HaveGoodSpans source f → AllByRecursion IsSoundElement (elements_of f)
  elements_sound nothing h = tt
  elements_sound (tree r k span text marks below id after) h = by (same_role r role.Body) (elements_sound after h.1.1)
    where
      by : (b : Bool) → AllByRecursion IsSoundElement (elements_of after) → AllByRecursion IsSoundElement (filter_map element_of (if b then (record { kind = k; span = span; text = text; marks = marks; children = below; node_id = id }) ∷ nodes_in role.Body (trees after) else nodes_in role.Body (trees after)))
      by true rest = cons_sound (element_of (record { kind = k; span = span; text = text; marks = marks; children = below; node_id = id })) (elements_of after) (element_sound (record { kind = k; span = span; text = text; marks = marks; children = below; node_id = id }) h.1.0) rest
      by false rest = rest

  one_more_sound : (xs : List (List Element)) (es : List Element) → AreAllSound source xs → AllByRecursion IsSoundElement es → AreAllSound source (xs ++ es ∷ [])
  one_more_sound [] es h k = (k, tt)
  one_more_sound (x ∷ xs) es h k = (h.0, one_more_sound xs es h.1 k)

  body_sound : (b : ClassTableBuilder) (body : Node) (node : ℕ) → HaveGoodSpans source body.children → AreAllSound source b.classes.elements → AreAllSound source (with_body b body node).classes.elements
  body_sound b body node h k = by b.enabled
    where
      by : (on : Bool) → AreAllSound source (cond on (record b { current_class_id = Some (length b.classes.nodes); classes = with_class b.classes b.current_class_id node (elements_of body.children) }) b).classes.elements
      by true = one_more_sound b.classes.elements (elements_of body.children) k (elements_sound body.children h)
      by false = k

  use_sound : (b : ClassTableBuilder) (here : Node) (parent : AstType) → AreAllSound source b.classes.elements → AreAllSound source (with_use_under b here here.node_id parent).classes.elements
  use_sound b here parent k = subst (AreAllSound source) (sym (same_elements b here parent)) k

  pub under_sound : (parent : AstType) (node : ℕ) (here : Node) (b : ClassTableBuilder) → HaveGoodSpans source here.children → AreAllSound source b.classes.elements → AreAllSound source (class_entered parent node here b).classes.elements
  under_sound parent node here b h k = last (same_kind here.kind kind.ClassBody) (used (same_kind here.kind kind.PrivateIdentifier))
    where
      used : (c : Bool) → AreAllSound source (cond c (with_use_under b here here.node_id parent) b).classes.elements
      used true = use_sound b here parent k
      used false = k

      last : (c : Bool) → AreAllSound source (cond (same_kind here.kind kind.PrivateIdentifier) (with_use_under b here here.node_id parent) b).classes.elements
          → AreAllSound source (cond c (with_body (cond (same_kind here.kind kind.PrivateIdentifier) (with_use_under b here here.node_id parent) b) here node) (cond (same_kind here.kind kind.PrivateIdentifier) (with_use_under b here here.node_id parent) b)).classes.elements
      last true g = body_sound (cond (same_kind here.kind kind.PrivateIdentifier) (with_use_under b here here.node_id parent) b) here node h g
      last false g = g

  pub entered_sound : (above : List Node) (here : Node) (b : ClassTableBuilder) → HaveGoodSpans source here.children → AreAllSound source b.classes.elements → AreAllSound source (entered_under above here b).classes.elements
  entered_sound [] here b h k = k
  entered_sound (parent ∷ more) here b h k = under_sound parent.kind parent.node_id here b h k

  pub left_sound : (k : AstType) (b : ClassTableBuilder) → AreAllSound source b.classes.elements → AreAllSound source (class_left k b).classes.elements
  left_sound k b h = by (same_kind k kind.Class) b.enabled
    where
      by : (c on : Bool) → AreAllSound source (cond c (cond on (record b { current_class_id = option_map_or (parent_class b.classes.parents) b.current_class_id None }) b) b).classes.elements
      by true true = h
      by true false = h
      by false on = h

  pub below_sound : (parent : AstType) (node : ℕ) (f : Forest) (b : ClassTableBuilder) → HaveGoodSpans source f → AreAllSound source b.classes.elements → AreAllSound source (noted_below parent node f b).classes.elements
  below_sound parent node nothing b h k = k
  below_sound parent node (tree r own span text marks below id after) b h k =
      let here : Node = record { kind = own; span = span; text = text; marks = marks; children = below; node_id = id } in
      let into : ClassTableBuilder = class_entered parent node here b in
      let inner : ClassTableBuilder = noted_below own id below into in
      below_sound parent node after (class_left own inner) h.1.1 (left_sound own inner (below_sound own id below into h.1.0 (under_sound parent node here b h.1.0 k)))

pub program_in_source : (p : Tree) → first_fault p ≡ None → IsInSource (encode_utf8_all p.source) p.root
program_in_source p h =
    let source : List ℕ = encode_utf8_all p.source in
    let shaped : IsShaped p = no_fault-IsShaped p h in
    record { span = shaped.spans.0; below = spans_below source root_place p.root.kind p.root.children shaped.spans.1 }
