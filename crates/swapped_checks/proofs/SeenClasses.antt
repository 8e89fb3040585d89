-- The classes that rules see are the same where names are others.
use Rattle.std.proofs.Common.{◌≡◌, ℕ, ◌+◌, List, [], ◌∷◌, ◌++◌, Option, Some, None, cond, if◌then◌else◌, Bool, true, false, not, ◌&&◌, ◌||◌, inl, inr, ◌⊎◌, refl, ap, ◌∙◌, map, bytes_eq, codes, option_map}
use Rattle.std.specs.Prelude.{filter_map, is_some}
use Rattle.std.specs.List.{list_all, cons_option}
use Rattle.std.specs.Option.{option_and_then}
use Rattle.std.proofs.lemmas.Bool.{cases_Bool, and_from}
use Rattle.semantic_syntax.proofs.Truth.{and_first, and_second}
use Rattle.semantic_syntax.specs.Sets.{union}
use Rattle.semantic_syntax.specs.Tables.{Name}
use Rattle.semantic_syntax.specs.declared.spans.Span.{Span}
use Rattle.semantic_syntax.specs.declared.element_kind.TheConstants.ElementKind as element
use Rattle.semantic_kinds.specs.Kinds.{same_kind}
use Rattle.semantic_kinds.specs.Roles.{same_role}
use Rattle.semantic_kinds.specs.declared.kind.AstType.{AstType}
use Rattle.semantic_kinds.specs.declared.kind.AstType.TheVariants as kind
use Rattle.semantic_kinds.specs.declared.mark.Mark.TheVariants as mark
use Rattle.semantic_kinds.specs.declared.marks.Marks.{Marks}
use Rattle.semantic_kinds.specs.declared.role.Role.{Role}
use Rattle.semantic_kinds.specs.declared.role.Role.TheVariants as role
use Rattle.semantic_tree.specs.Forest.{Forest, nothing, tree}
use Rattle.semantic_tree.specs.KeyNames.{key_name_by, key_name}
use Rattle.semantic_tree.specs.Nodes.{first_of}
use Rattle.semantic_tree.specs.Renamed.{setting_below, renamed_text}
use Rattle.semantic_tree.specs.Views.{is, has, holds, all_in, child_of, children_of}
use Rattle.semantic_tree.specs.declared.node.Node.{Node}
use Rattle.semantic_tree.specs.declared.swap.Setting.{Setting}
use Rattle.semantic_model.specs.Class.{PrivateUse, uses_under, uses_below, body_count, classes_below, classes}
use Rattle.semantic_model.specs.Element.{Element, element_with, is_implemented, method_kind, element_of_method, element_of, elements_of, element_ids}
use Rattle.semantic_model.proofs.form.Clauses.{kind_is}
use Rattle.semantic_model.proofs.swapped.Alike.{text_renamed}
use Rattle.check_model.specs.SightOf.{class_of, classes_around, bodies_of, classes_at, uses_if, uses_at, elements_if, elements_at}
use Rattle.swapped_checks.specs.RuleWords.{KeepsRuleWords}
use Rattle.swapped_checks.specs.SwappedPrograms.{holds_below, holds_within}
use Rattle.swapped_checks.specs.SwappedSight.{has_plain_pieces}
use Rattle.swapped_checks.proofs.Changed.{Change, changed, changed_node, IsChanged, changed_at}
use Rattle.swapped_checks.proofs.ClassRows.{exactly, key_text, key_kept}
use Rattle.swapped_checks.proofs.PlainForm.{has_own_pieces}
use Rattle.swapped_checks.proofs.Pairwise.{Each, Both, flat_same}
use Rattle.swapped_checks.proofs.RenamedNodes.{same_kinds, same_ids, plain_text, word_agrees, child_both}
use Rattle.swapped_checks.proofs.Spots.{Within}

module _ (f : Change) (keeps : KeepsRuleWords f.names) (test : Node → Bool) (plain : (n : Node) → test n ≡ true → has_own_pieces n ≡ true) where
  abbrev R : Node → Node → Type 0
  R = IsChanged f

  abbrev W : Node → Node → Type 0
  W = Within f test

  -- ---- elements

  key_name_kept : (st : Setting) (x : Node) → list_all (is kind.TemplateElement) (all_in role.Quasis x) ≡ true → key_name (changed_node f st role.Key x) ≡ key_name x
  key_name_kept st x h = by x.kind refl
    where
      y : Node
      y = changed_node f st role.Key x

      by : (k : AstType) → x.kind ≡ k → key_name_by k y ≡ key_name_by k x
      by kind.PrivateIdentifier e = ap Some (key_text f st x.kind x.text (rw e refl))
      by _ e = key_kept f st x h

  -- the element of a name that a key has
  abbrev made_by : ℕ → Bool → Node → Name → Element
  made_by what static key name = record { name = name; span = key.span; is_static = static; is_private = is kind.PrivateIdentifier key; kind = record { bits = what } }

  abbrev made_of : ℕ → Bool → Node → Option Element
  made_of what static key = option_map (made_by what static key) (key_name key)

  with_key : (what : ℕ) (a b : Node) → R a b → has_plain_pieces a ≡ true → element_with what b ≡ element_with what a
  with_key what _ _ (changed_at st q m) h =
      (λ i. option_and_then (made_of what (f.kept m mark.Static refl i)) (first_of (exactly f role.Key (setting_below st q m.kind) m.children i)))
      ∙ go (children_of role.Key m.children) h
    where
      below : Setting
      below = setting_below st q m.kind

      static : Bool
      static = has mark.Static m

      go : (xs : List Node) → list_all has_own_pieces xs ≡ true → option_and_then (made_of what static) (first_of (map (changed_node f below role.Key) xs)) ≡ option_and_then (made_of what static) (first_of xs)
      go [] i = refl
      go (x ∷ xs) i = ap (option_map (made_by what static x)) (key_name_kept below x (and_first (has_own_pieces x) (list_all has_own_pieces xs) i))

  some_both : (o p : Option Node) → Both R o p → is_some p ≡ is_some o
  some_both None None e = refl
  some_both None (Some y) e = absurd e
  some_both (Some x) None e = absurd e
  some_both (Some x) (Some y) e = refl

  implemented_same : (a b : Node) → R a b → is_implemented b ≡ is_implemented a
  implemented_same a b e = λ i. some_both (child_of role.Body a) (child_of role.Body b) (child_both f role.Body a b e) i && not (word_agrees f keeps (codes "ts-declare") refl a b e i || word_agrees f keeps (codes "ts-empty-body") refl a b e i)

  held : (o p : Option Node) → Both R o p → holds is_implemented p ≡ holds is_implemented o
  held None None e = refl
  held None (Some y) e = absurd e
  held (Some x) None e = absurd e
  held (Some x) (Some y) e = implemented_same x y e

  method_same : (a b : Node) → R a b → has_plain_pieces a ≡ true → a.kind ≡ kind.MethodDefinition → element_of_method b ≡ element_of_method a
  method_same a b e h k = λ i. cond (not (bytes_eq (texts i) (codes "constructor")) && held (child_of role.Value a) (child_of role.Value b) (child_both f role.Value a b e) i) ((ap (λ w. element_with w b) kinds ∙ with_key (method_kind a) a b e h) i) None
    where
      texts : b.text ≡ a.text
      texts = plain_text f kind.MethodDefinition refl refl a b e k

      kinds : method_kind b ≡ method_kind a
      kinds = ap (λ u. union element.Method.bits (cond (bytes_eq u (codes "get")) element.Getter.bits (cond (bytes_eq u (codes "set")) element.Setter.bits 0))) texts

  -- the element of a member, by the kind of the member
  element_at : (st : Setting) (q : Role) (k : AstType) (span : Span) (text : Name) (marks : Marks) (below : Forest) (id : ℕ) → has_plain_pieces (record { kind = k; span = span; text = text; marks = marks; children = below; node_id = id }) ≡ true
      → element_of (changed_node f st q (record { kind = k; span = span; text = text; marks = marks; children = below; node_id = id })) ≡ element_of (record { kind = k; span = span; text = text; marks = marks; children = below; node_id = id })
  element_at st q kind.MethodDefinition span text marks below id h = let m : Node = record { kind = kind.MethodDefinition; span = span; text = text; marks = marks; children = below; node_id = id } in method_same m (changed_node f st q m) (changed_at st q m) h refl
  element_at st q kind.PropertyDefinition span text marks below id h = let m : Node = record { kind = kind.PropertyDefinition; span = span; text = text; marks = marks; children = below; node_id = id } in with_key element.Property.bits m (changed_node f st q m) (changed_at st q m) h
  element_at st q kind.AccessorProperty span text marks below id h = let m : Node = record { kind = kind.AccessorProperty; span = span; text = text; marks = marks; children = below; node_id = id } in with_key element.Accessor.bits m (changed_node f st q m) (changed_at st q m) h
  element_at st q _ span text marks below id h = refl

  element_same : (a b : Node) → R a b → has_plain_pieces a ≡ true → element_of b ≡ element_of a
  element_same _ _ (changed_at st q m) h = element_at st q m.kind m.span m.text m.marks m.children m.node_id h

  keys_plain : (g : Forest) → holds_below test g ≡ true → list_all has_own_pieces (children_of role.Key g) ≡ true
  keys_plain nothing h = refl
  keys_plain (tree p k span text marks below id after) h = go (same_role p role.Key) (keys_plain after (and_second (holds_below test below) (holds_below test after) (and_second (test old) (holds_below test below && holds_below test after) h)))
    where
      old : Node
      old = record { kind = k; span = span; text = text; marks = marks; children = below; node_id = id }

      go : (c : Bool) → list_all has_own_pieces (children_of role.Key after) ≡ true → list_all has_own_pieces (if c then old ∷ children_of role.Key after else children_of role.Key after) ≡ true
      go true i = and_from (has_own_pieces old) (list_all has_own_pieces (children_of role.Key after)) (plain old (and_first (test old) (holds_below test below && holds_below test after) h)) i
      go false i = i

  pub own_plain : (n : Node) → holds_within test n ≡ true → has_plain_pieces n ≡ true
  own_plain n h = keys_plain n.children (and_second (test n) (holds_below test n.children) h)

  within_each : (q : Role) (st : Setting) (g : Forest) → holds_below test g ≡ true → Each W (children_of q g) (children_of q (changed f st g))
  within_each q st nothing h = tt
  within_each q st (tree p k span text marks below id after) h = go (same_role p q) (within_each q st after (and_second (holds_below test below) (holds_below test after) rest))
    where
      old : Node
      old = record { kind = k; span = span; text = text; marks = marks; children = below; node_id = id }

      rest : (holds_below test below && holds_below test after) ≡ true
      rest = and_second (test old) (holds_below test below && holds_below test after) h

      go : (c : Bool) → Each W (children_of q after) (children_of q (changed f st after)) → Each W (if c then old ∷ children_of q after else children_of q after) (if c then changed_node f st p old ∷ children_of q (changed f st after) else children_of q (changed f st after))
      go true i = ((changed_at st p old, and_from (test old) (holds_below test below) (and_first (test old) (holds_below test below && holds_below test after) h) (and_first (holds_below test below) (holds_below test after) rest)), i)
      go false i = i

  pub inner_each : (q : Role) (a b : Node) → W a b → Each W (all_in q a) (all_in q b)
  inner_each q a b w = go a b w.0 (and_second (test a) (holds_below test a.children) w.1)
    where
      go : (x y : Node) → R x y → holds_below test x.children ≡ true → Each W (all_in q x) (all_in q y)
      go _ _ (changed_at st r node) h = within_each q (setting_below st r node.kind) node.children h

  made_same : (xs ys : List Node) → Each W xs ys → filter_map element_of ys ≡ filter_map element_of xs
  made_same [] [] e = refl
  made_same [] (y ∷ ys) e = absurd e
  made_same (x ∷ xs) [] e = absurd e
  made_same (x ∷ xs) (y ∷ ys) e = λ i. cons_option (element_same x y e.0.0 (own_plain x e.0.1) i) (made_same xs ys e.1 i)

  elements_same : (a b : Node) → W a b → elements_of b.children ≡ elements_of a.children
  elements_same a b w = made_same (all_in role.Body a) (all_in role.Body b) (inner_each role.Body a b w)

  -- ---- classes

  class_same : (a b : Node) → W a b → (c d : Node) → W c d → class_of b d ≡ class_of a c
  class_same a b w c d v = λ i. record { node = same_ids f a b w.0 i; elements = elements_same c d v i }

  around_at : (k : AstType) (span : Span) (text new : Name) (marks marks' : Marks) (below below' : Forest) (id : ℕ) (a b : Node) (xs ys : List Node)
      → class_of b (record { kind = k; span = span; text = new; marks = marks'; children = below'; node_id = id }) ≡ class_of a (record { kind = k; span = span; text = text; marks = marks; children = below; node_id = id })
      → classes_around (b ∷ ys) ≡ classes_around (a ∷ xs)
      → classes_around (record { kind = k; span = span; text = new; marks = marks'; children = below'; node_id = id } ∷ b ∷ ys) ≡ classes_around (record { kind = k; span = span; text = text; marks = marks; children = below; node_id = id } ∷ a ∷ xs)
  around_at kind.ClassBody span text new marks marks' below below' id a b xs ys e h = λ i. e i ∷ h i
  around_at _ span text new marks marks' below below' id a b xs ys e h = h

  around_both : (c d a b : Node) (xs ys : List Node) → R c d → class_of b d ≡ class_of a c → classes_around (b ∷ ys) ≡ classes_around (a ∷ xs) → classes_around (d ∷ b ∷ ys) ≡ classes_around (c ∷ a ∷ xs)
  around_both _ _ a b xs ys (changed_at st r m) e h = around_at m.kind m.span m.text (renamed_text f.names st r m.kind m.text) m.marks (f.marks m) m.children (changed f (setting_below st r m.kind) m.children) m.node_id a b xs ys e h

  around_same : (xs ys : List Node) → Each W xs ys → classes_around ys ≡ classes_around xs
  around_same [] [] e = refl
  around_same [] (y ∷ ys) e = absurd e
  around_same (x ∷ xs) [] e = absurd e
  around_same (x ∷ []) (y ∷ []) e = refl
  around_same (x ∷ []) (y ∷ y2 ∷ ys) e = absurd e.1
  around_same (x ∷ x2 ∷ xs) (y ∷ []) e = absurd e.1
  around_same (x ∷ x2 ∷ xs) (y ∷ y2 ∷ ys) e = around_both x y x2 y2 xs ys e.0.0 (class_same x2 y2 e.1.0 x y e.0) (around_same (x2 ∷ xs) (y2 ∷ ys) e.1)

  bodies_same : (a b : Node) → W a b → (xs ys : List Node) → Each W xs ys → map (class_of b) ys ≡ map (class_of a) xs
  bodies_same a b w [] [] e = refl
  bodies_same a b w [] (y ∷ ys) e = absurd e
  bodies_same a b w (x ∷ xs) [] e = absurd e
  bodies_same a b w (x ∷ xs) (y ∷ ys) e = λ i. class_same a b w x y e.0 i ∷ bodies_same a b w xs ys e.1 i

  at_kind : (k : AstType) (span : Span) (text new : Name) (marks marks' : Marks) (below below' : Forest) (id : ℕ) (xs ys : List Node)
      → map (class_of (record { kind = k; span = span; text = new; marks = marks'; children = below'; node_id = id })) (children_of role.Body below') ≡ map (class_of (record { kind = k; span = span; text = text; marks = marks; children = below; node_id = id })) (children_of role.Body below)
      → classes_around ys ≡ classes_around xs
      → classes_at (record { kind = k; span = span; text = new; marks = marks'; children = below'; node_id = id }) ys ≡ classes_at (record { kind = k; span = span; text = text; marks = marks; children = below; node_id = id }) xs
  at_kind kind.Class span text new marks marks' below below' id xs ys e h = λ i. e i ++ h i
  at_kind _ span text new marks marks' below below' id xs ys e h = h

  at_both : (a b : Node) → R a b → (xs ys : List Node) → map (class_of b) (bodies_of b) ≡ map (class_of a) (bodies_of a) → classes_around ys ≡ classes_around xs → classes_at b ys ≡ classes_at a xs
  at_both _ _ (changed_at st r m) xs ys e h = at_kind m.kind m.span m.text (renamed_text f.names st r m.kind m.text) m.marks (f.marks m) m.children (changed f (setting_below st r m.kind) m.children) m.node_id xs ys e h

  pub classes_same : (a b : Node) (xs ys : List Node) → W a b → Each W xs ys → classes_at b ys ≡ classes_at a xs
  classes_same a b xs ys w e = at_both a b w.0 xs ys (bodies_same a b w (bodies_of a) (bodies_of b) (inner_each role.Body a b w)) (around_same xs ys e)

  -- ---- uses of private names

  use_text : (st : Setting) (r : Role) (k : AstType) (text : Name) → same_kind k kind.PrivateIdentifier ≡ true → renamed_text f.names st r k text ≡ text
  use_text st r k text h = let e : k ≡ kind.PrivateIdentifier = kind_is k kind.PrivateIdentifier h in (text_renamed f.names st r k text).plain (rw e refl) (rw e refl)

  uses_same : (elements : List Element) (parent : AstType) (st : Setting) (g : Forest) → uses_below elements parent (changed f st g) ≡ uses_below elements parent g
  uses_same elements parent st nothing = refl
  uses_same elements parent st (tree r k span text marks below id after) =
      λ i. here (cases_Bool (same_kind k kind.PrivateIdentifier)) i ++ (cond (same_kind k kind.ClassBody) [] (uses_same elements k (setting_below st r k) below i) ++ uses_same elements parent st after i)
    where
      one_use : Name → List PrivateUse
      one_use t = record { id = id; name = t; span = span; element_ids = element_ids elements t true } ∷ []

      here : (same_kind k kind.PrivateIdentifier ≡ true) ⊎ (same_kind k kind.PrivateIdentifier ≡ false) → cond (same_kind k kind.PrivateIdentifier && uses_under parent) (one_use (renamed_text f.names st r k text)) [] ≡ cond (same_kind k kind.PrivateIdentifier && uses_under parent) (one_use text) []
      here (inl h) = ap (λ t. cond (same_kind k kind.PrivateIdentifier && uses_under parent) (one_use t) []) (use_text st r k text h)
      here (inr h) = rw h refl

  body_uses : (a b : Node) → W a b → uses_below (elements_of b.children) kind.ClassBody b.children ≡ uses_below (elements_of a.children) kind.ClassBody a.children
  body_uses a b w = ap (λ es. uses_below es kind.ClassBody b.children) (elements_same a b w) ∙ go a b w.0 (elements_of a.children)
    where
      go : (x y : Node) → R x y → (es : List Element) → uses_below es kind.ClassBody y.children ≡ uses_below es kind.ClassBody x.children
      go _ _ (changed_at st r node) es = uses_same es kind.ClassBody (setting_below st r node.kind) node.children

  pub uses_seen : (a b : Node) → W a b → uses_at b ≡ uses_at a
  uses_seen a b w = ap (λ k. uses_if (same_kind k kind.Class) b) (same_kinds f a b w.0) ∙ go (same_kind a.kind kind.Class)
    where
      go : (c : Bool) → uses_if c b ≡ uses_if c a
      go true = flat_same W (λ body. uses_below (elements_of body.children) kind.ClassBody body.children) (λ body. uses_below (elements_of body.children) kind.ClassBody body.children) body_uses (bodies_of a) (bodies_of b) (inner_each role.Body a b w)
      go false = refl

  -- ---- all classes of a program

  count_same : (st : Setting) (g : Forest) → body_count (changed f st g) ≡ body_count g
  count_same st nothing = refl
  count_same st (tree r k span text marks below id after) = λ i. cond (same_kind k kind.ClassBody) 1 0 + count_same (setting_below st r k) below i + count_same st after i

  all_same : (n : ℕ) (around : Option ℕ) (node : ℕ) (st : Setting) (g : Forest) → holds_below test g ≡ true → classes_below n around node (changed f st g) ≡ classes_below n around node g
  all_same n around node st nothing h = refl
  all_same n around node st (tree r k span text marks below id after) h =
      λ i. cond (same_kind k kind.ClassBody) (record { node = node; parent = around; elements = inside i; uses = (ap (λ es. uses_below es kind.ClassBody (changed f (setting_below st r k) below)) inside ∙ uses_same (elements_of below) kind.ClassBody (setting_below st r k) below) i } ∷ []) []
      ++ (all_same next (cond (same_kind k kind.ClassBody) (Some n) around) id (setting_below st r k) below (and_first (holds_below test below) (holds_below test after) rest) i
      ++ (ap (λ m. classes_below (next + m) around node (changed f st after)) (count_same (setting_below st r k) below) ∙ all_same (next + body_count below) around node st after (and_second (holds_below test below) (holds_below test after) rest)) i)
    where
      old : Node
      old = record { kind = k; span = span; text = text; marks = marks; children = below; node_id = id }

      next : ℕ
      next = n + cond (same_kind k kind.ClassBody) 1 0

      rest : (holds_below test below && holds_below test after) ≡ true
      rest = and_second (test old) (holds_below test below && holds_below test after) h

      inside : elements_of (changed f (setting_below st r k) below) ≡ elements_of below
      inside = made_same (children_of role.Body below) (children_of role.Body (changed f (setting_below st r k) below)) (within_each role.Body (setting_below st r k) below (and_first (holds_below test below) (holds_below test after) rest))

  pub elements_seen : (a b : Node) → W a b → elements_at b ≡ elements_at a
  elements_seen a b w = ap (λ k. elements_if (same_kind k kind.Program) b) (same_kinds f a b w.0) ∙ go (same_kind a.kind kind.Program)
    where
      all : (x y : Node) → R x y → holds_below test x.children ≡ true → classes y ≡ classes x
      all _ _ (changed_at st r node) h = all_same 0 None node.node_id (setting_below st r node.kind) node.children h

      go : (c : Bool) → elements_if c b ≡ elements_if c a
      go true = ap (map (λ c. c.elements)) (all a b w.0 (and_second (test a) (holds_below test a.children) w.1))
      go false = refl
