-- Rows on classes, where names are others.
use Rattle.std.proofs.Common.{◌≡◌, List, [], ◌∷◌, ◌++◌, Option, Some, None, Bool, true, false, ◌&&◌, ◌||◌, not, if◌then◌else◌, refl, sym, subst, ap, ◌∙◌, map, bytes_eq, codes, option_map}
use Rattle.std.specs.Prelude.{filter, is_some}
use Rattle.std.specs.List.{list_all}
use Rattle.std.specs.Option.{option_and_then, unwrap_or}
use Rattle.semantic_syntax.proofs.Truth.{and_first, and_second}
use Rattle.semantic_syntax.specs.Sets.{meets}
use Rattle.semantic_syntax.specs.Tables.{Name}
use Rattle.semantic_syntax.specs.declared.spans.Span.{Span}
use Rattle.semantic_syntax.specs.declared.references.Redeclaration.{Redeclaration}
use Rattle.semantic_syntax.specs.declared.symbol_flags.TheConstants.SymbolFlags as symbol
use Rattle.semantic_kinds.specs.Kinds.{same_kind}
use Rattle.semantic_kinds.specs.Roles.{same_role}
use Rattle.semantic_kinds.specs.declared.kind.AstType.{AstType}
use Rattle.semantic_kinds.specs.declared.kind.AstType.TheVariants as kind
use Rattle.semantic_kinds.specs.declared.mark.Mark.TheVariants as mark
use Rattle.semantic_kinds.specs.declared.role.Role.{Role}
use Rattle.semantic_kinds.specs.declared.role.Role.TheVariants as role
use Rattle.semantic_tree.specs.Forest.{Forest, nothing, tree}
use Rattle.semantic_tree.specs.KeyNames.{whole_template, static_name_by, static_name}
use Rattle.semantic_tree.specs.Nodes.{first_of}
use Rattle.semantic_tree.specs.Renamed.{setting_below, renamed_text}
use Rattle.semantic_tree.specs.Views.{is, has_text, has_child, whose, all_in, child_of, children_of}
use Rattle.semantic_tree.specs.declared.node.Node.{Node}
use Rattle.semantic_tree.specs.declared.swap.Setting.{Setting}
use Rattle.semantic_tree.specs.declared.swap.Setting.TheVariants.{InMember, InMemberName, Elsewhere}
use Rattle.semantic_diagnostics.specs.declared.diagnostic.Diagnostic.{Diagnostic}
use Rattle.semantic_diagnostics.specs.Names.{redeclaration}
use Rattle.semantic_diagnostics.specs.Functions.{require_class_name, duplicate_constructor}
use Rattle.semantic_diagnostics.specs.Types.{abstract_elem_in_concrete_class, constructor_implementation_missing, function_implementation_missing}
use Rattle.semantic_model.proofs.form.Clauses.{kind_is, role_is}
use Rattle.semantic_model.proofs.swapped.Alike.{is_name}
use Rattle.check_model.specs.Classes.{members, private_use_rows, class_name_rows, is_constructor_with_body, member_span, second_rows, constructor_rows, check_class, check_class_redeclaration}
use Rattle.check_model.specs.Entries.{one_before_last}
use Rattle.check_model.specs.Members as typed
use Rattle.check_model.specs.Search.{rows_if, row_if, rows_of_some, passes, first, each_between}
use Rattle.check_model.specs.Sight.{Sight, symbol_entries}
use Rattle.check_model.specs.Surroundings.{is_typescript, first_bytes}
use Rattle.swapped_checks.specs.RuleWords.{KeepsRuleWords}
use Rattle.swapped_checks.specs.SwappedRows.{AreToldAgain}
use Rattle.swapped_checks.specs.SwappedSight.{has_plain_pieces, has_plain_keys}
use Rattle.swapped_checks.proofs.Changed.{Change, changed, changed_node, IsChanged, changed_at}
use Rattle.swapped_checks.proofs.Pairwise.{Each, Both, Agree, filter_each, first_each, passes_both, some_same, some_rows, flat_same, flat_each, told_if}
use Rattle.swapped_checks.proofs.RenamedNodes.{kind_agrees, mark_agrees, same_kinds, same_spans, plain_text, guarded, word_agrees, all_each, child_both, child_agrees, whose_agrees, either_row}
use Rattle.swapped_checks.proofs.Around.{seen, own, own_text, under, declared_same}

nothing_either : (b c : Bool) → rows_if {A = Diagnostic} b [] ≡ rows_if {A = Diagnostic} c []
nothing_either true true = refl
nothing_either true false = refl
nothing_either false true = refl
nothing_either false false = refl

module _ (f : Change) where
  abbrev R : Node → Node → Type 0
  R = IsChanged f

  -- ---- the names of keys

  pub exactly : (q : Role) (st : Setting) (g : Forest) → children_of q (changed f st g) ≡ map (changed_node f st q) (children_of q g)
  exactly q st nothing = refl
  exactly q st (tree p k span text marks below id after) = go (same_role p q) (λ h. role_is p q h) (exactly q st after)
    where
      old : Node
      old = record { kind = k; span = span; text = text; marks = marks; children = below; node_id = id }

      go : (b : Bool) → (b ≡ true → p ≡ q) → children_of q (changed f st after) ≡ map (changed_node f st q) (children_of q after) → (if b then changed_node f st p old ∷ children_of q (changed f st after) else children_of q (changed f st after)) ≡ map (changed_node f st q) (if b then old ∷ children_of q after else children_of q after)
      go true e h = λ i. changed_node f st (e refl i) old ∷ h i
      go false e h = h

  not_named : (a b : Bool) (u : Name) → (a || b) ≡ false → (if a || b || false then f.names u else u) ≡ u
  not_named false false u h = refl
  not_named true b u h = absurd cc
  not_named false true u h = absurd cc

  pub key_text : (st : Setting) (k : AstType) (u : Name) → is_name k ≡ false → renamed_text f.names st role.Key k u ≡ u
  key_text InMember k u h = not_named (same_kind k kind.BindingIdentifier) (same_kind k kind.IdentifierReference) u h
  key_text InMemberName k u h = not_named (same_kind k kind.BindingIdentifier) (same_kind k kind.IdentifierReference) u h
  key_text Elsewhere k u h = not_named (same_kind k kind.BindingIdentifier) (same_kind k kind.IdentifierReference) u h

  in_template : (st : Setting) → setting_below st role.Key kind.TemplateLiteral ≡ Elsewhere
  in_template InMember = refl
  in_template InMemberName = refl
  in_template Elsewhere = refl

  piece_text : (x : Node) → is kind.TemplateElement x ≡ true → renamed_text f.names Elsewhere role.Quasis x.kind x.text ≡ x.text
  piece_text x h = subst (λ k. renamed_text f.names Elsewhere role.Quasis k x.text ≡ x.text) (sym (kind_is x.kind kind.TemplateElement h)) refl

  pieces_kept : (xs : List Node) → list_all (is kind.TemplateElement) xs ≡ true → (es ds : List Node) → Each R es ds → whole_template (map (changed_node f Elsewhere role.Quasis) xs) ds ≡ whole_template xs es
  pieces_kept [] h [] [] e = refl
  pieces_kept (x ∷ xs) h [] [] e = ap Some (piece_text x (and_first (is kind.TemplateElement x) (list_all (is kind.TemplateElement) xs) h))
  pieces_kept xs h [] (d ∷ ds) e = absurd e
  pieces_kept xs h (c ∷ es) [] e = absurd e
  pieces_kept xs h (c ∷ es) (d ∷ ds) e = refl

  pub key_kept : (st : Setting) (x : Node) → list_all (is kind.TemplateElement) (all_in role.Quasis x) ≡ true → static_name (changed_node f st role.Key x) ≡ static_name x
  key_kept st x h = by x.kind refl
    where
      y : Node
      y = changed_node f st role.Key x

      text : (k : AstType) → x.kind ≡ k → is_name k ≡ false → y.text ≡ x.text
      text k e i = key_text st x.kind x.text (subst (λ j. is_name j ≡ false) (sym e) i)

      by : (k : AstType) → x.kind ≡ k → static_name_by k y ≡ static_name_by k x
      by kind.IdentifierName e = ap Some (text kind.IdentifierName e refl)
      by kind.StringLiteral e = ap Some (text kind.StringLiteral e refl)
      by kind.NumericLiteral e = ap Some (text kind.NumericLiteral e refl)
      by kind.BigIntLiteral e = ap Some (text kind.BigIntLiteral e refl)
      by kind.RegExpLiteral e = ap Some (text kind.RegExpLiteral e refl)
      by kind.TemplateLiteral e =
          let inside : setting_below st role.Key x.kind ≡ Elsewhere = ap (setting_below st role.Key) e ∙ in_template st in
          ap (λ w. whole_template (children_of role.Quasis (changed f w x.children)) (all_in role.Expressions y)) inside
          ∙ ap (λ qs. whole_template qs (all_in role.Expressions y)) (exactly role.Quasis Elsewhere x.children)
          ∙ pieces_kept (all_in role.Quasis x) h (all_in role.Expressions x) (all_in role.Expressions y) (all_each f role.Expressions x y (changed_at st role.Key x))
      by _ e = refl

  member_kept : (a b : Node) → R a b → has_plain_pieces a ≡ true → typed.member_name b ≡ typed.member_name a
  member_kept _ _ (changed_at st q m) h =
      ap (λ xs. option_and_then static_name (first_of xs)) (exactly role.Key (setting_below st q m.kind) m.children) ∙ go (children_of role.Key m.children) h
    where
      go : (xs : List Node) → list_all (λ key. list_all (is kind.TemplateElement) (all_in role.Quasis key)) xs ≡ true → option_and_then static_name (first_of (map (changed_node f (setting_below st q m.kind) role.Key) xs)) ≡ option_and_then static_name (first_of xs)
      go [] i = refl
      go (x ∷ xs) i = key_kept (setting_below st q m.kind) x (and_first (list_all (is kind.TemplateElement) (all_in role.Quasis x)) (list_all (λ key. list_all (is kind.TemplateElement) (all_in role.Quasis key)) xs) i)

  -- a member with the same name
  abbrev M : Node → Node → Type 0
  M a b = R a b × (typed.member_name b ≡ typed.member_name a)

  members_kept : (xs ys : List Node) → Each R xs ys → list_all has_plain_pieces xs ≡ true → Each M xs ys
  members_kept [] [] e h = tt
  members_kept [] (y ∷ ys) e h = absurd e
  members_kept (x ∷ xs) [] e h = absurd e
  members_kept (x ∷ xs) (y ∷ ys) e h = ((e.0, member_kept x y e.0 (and_first (has_plain_pieces x) (list_all has_plain_pieces xs) h)), members_kept xs ys e.1 (and_second (has_plain_pieces x) (list_all has_plain_pieces xs) h))

  members_each : (a b : Node) → R a b → Each R (members a) (members b)
  members_each a b e = flat_each R (all_in role.Body) (all_in role.Body) (all_each f role.Body) (all_in role.Body a) (all_in role.Body b) (all_each f role.Body a b e)

  -- ---- constructors

  both_tests : (m n a b c d : Bool) → n ≡ m → (n && b) ≡ (m && a) → d ≡ c → (n && (b && d)) ≡ (m && (a && c))
  both_tests true true a b c d e h i = λ j. h j && i j
  both_tests false false a b c d e h i = refl
  both_tests true false a b c d e h i = absurd cc
  both_tests false true a b c d e h i = absurd cc

  constructor_agrees : Agree R is_constructor_with_body is_constructor_with_body
  constructor_agrees a b e =
      both_tests (is kind.MethodDefinition a) (is kind.MethodDefinition b) (has_text (codes "constructor") a) (has_text (codes "constructor") b) (whose role.Value (has_child role.Body) a) (whose role.Value (has_child role.Body) b)
      (kind_agrees f (λ k. same_kind k kind.MethodDefinition) a b e) (guarded f kind.MethodDefinition (λ u ms. bytes_eq u (codes "constructor")) refl refl a b e (λ u h. refl)) (whose_agrees f role.Value (has_child role.Body) (has_child role.Body) (child_agrees f role.Body) a b e)

  some_piece : (xs ys us vs : List Node) → Each R xs ys → Each R us vs → is_some (whole_template ys vs) ≡ is_some (whole_template xs us)
  some_piece [] [] [] [] d e = refl
  some_piece (x ∷ xs) (y ∷ ys) [] [] d e = refl
  some_piece [] (y ∷ ys) us vs d e = absurd d
  some_piece (x ∷ xs) [] us vs d e = absurd d
  some_piece xs ys [] (v ∷ vs) d e = absurd e
  some_piece xs ys (u ∷ us) [] d e = absurd e
  some_piece xs ys (u ∷ us) (v ∷ vs) d e = refl

  some_by : (k : AstType) (a b : Node) → R a b → is_some (static_name_by k b) ≡ is_some (static_name_by k a)
  some_by kind.TemplateLiteral a b e = some_piece (all_in role.Quasis a) (all_in role.Quasis b) (all_in role.Expressions a) (all_in role.Expressions b) (all_each f role.Quasis a b e) (all_each f role.Expressions a b e)
  some_by _ a b e = refl

  some_agrees : Agree R (λ key. is_some (static_name key)) (λ key. is_some (static_name key))
  some_agrees a b e = ap (λ k. is_some (static_name_by k b)) (same_kinds f a b e) ∙ some_by a.kind a b e

  span_both : (o p : Option Node) → Both R o p → (x y : Span) → y ≡ x → unwrap_or (option_map (λ key. key.span) p) y ≡ unwrap_or (option_map (λ key. key.span) o) x
  span_both None None e x y h = h
  span_both None (Some b) e x y h = absurd e
  span_both (Some a) None e x y h = absurd e
  span_both (Some a) (Some b) e x y h = same_spans f a b e

  member_spans : (a b : Node) → R a b → member_span b ≡ member_span a
  member_spans a b e = λ i. if whose_agrees f role.Key (λ key. is_some (static_name key)) (λ key. is_some (static_name key)) some_agrees a b e i then span_both (child_of role.Key a) (child_of role.Key b) (child_both f role.Key a b e) a.span b.span (same_spans f a b e) i else same_spans f a b e i

  second_same : (xs ys : List Node) → Each R xs ys → second_rows ys ≡ second_rows xs
  second_same [] [] e = refl
  second_same [] (y ∷ ys) e = absurd e
  second_same (x ∷ xs) [] e = absurd e
  second_same (x ∷ []) (y ∷ []) e = refl
  second_same (x ∷ []) (y ∷ y2 ∷ ys) e = absurd e.1
  second_same (x ∷ x2 ∷ xs) (y ∷ []) e = absurd e.1
  second_same (x ∷ x2 ∷ xs) (y ∷ y2 ∷ ys) e = λ i. duplicate_constructor (member_spans x y e.0 i) (member_spans x2 y2 e.1.0 i) ∷ []

  -- ---- methods without body

  property_agrees : Agree R typed.is_property typed.is_property
  property_agrees = kind_agrees f (λ k. same_kind k kind.PropertyDefinition || same_kind k kind.AccessorProperty)

  abstract_same : (a b : Node) → R a b → typed.abstract_rows b ≡ typed.abstract_rows a
  abstract_same a b e = λ i. rows_if (mark_agrees f mark.Abstract refl a b e i)
      (some_same R (λ key. abstract_elem_in_concrete_class (typed.is_property a) key.span ∷ []) (λ key. abstract_elem_in_concrete_class (typed.is_property b) key.span ∷ []) (λ x y h. λ j. abstract_elem_in_concrete_class (property_agrees a b e j) (same_spans f x y h j) ∷ []) (child_of role.Key a) (child_of role.Key b) (child_both f role.Key a b e) i)

  between_same : (g h : Option Node → Node → Option Node → List Diagnostic) → ((o p : Option Node) (x y : Node) (u v : Option Node) → Both M o p → M x y → Both M u v → h p y v ≡ g o x u) → (o p : Option Node) (xs ys : List Node) → Both M o p → Each M xs ys → each_between h p ys ≡ each_between g o xs
  between_same g h k o p [] [] d e = refl
  between_same g h k o p [] (y ∷ ys) d e = absurd e
  between_same g h k o p (x ∷ xs) [] d e = absurd e
  between_same g h k o p (x ∷ xs) (y ∷ ys) d e = λ i. k o p x y (first xs) (first ys) d e.0 (first_each M xs ys e.1) i ++ between_same g h k (Some x) (Some y) xs ys e.0 e.1 i

  module _ (keeps : KeepsRuleWords f.names) where
    bodiless_agrees : Agree R typed.is_bodiless typed.is_bodiless
    bodiless_agrees a b e = λ i. kind_agrees f (λ k. same_kind k kind.MethodDefinition) a b e i && (not (mark_agrees f mark.Abstract refl a b e i || mark_agrees f mark.Optional refl a b e i) && whose_agrees f role.Value (has_text (codes "ts-empty-body")) (has_text (codes "ts-empty-body")) (word_agrees f keeps (codes "ts-empty-body") refl) a b e i)

    overload_same : (a b : Node) → M a b → (x y : Node) → M x y → typed.is_overload b y ≡ typed.is_overload a x
    overload_same a b e x y h = λ i. bodiless_agrees a b e.0 i && (kind_agrees f (λ k. same_kind k kind.MethodDefinition) x y h.0 i && typed.same_name (e.1 i) (h.1 i))

    missing_by : (c d : Bool) (a b : Node) → R a b → d ≡ c → (c ≡ true → is kind.MethodDefinition a ≡ true) → (x y : Node) → R x y → rows_if d (typed.missing_implementation b y ∷ []) ≡ rows_if c (typed.missing_implementation a x ∷ [])
    missing_by true false a b e h k x y q = absurd cc
    missing_by false true a b e h k x y q = absurd cc
    missing_by false false a b e h k x y q = refl
    missing_by true true a b e h k x y q = λ i. (if has_constructor i then constructor_implementation_missing (same_spans f x y q i) else function_implementation_missing (same_spans f x y q i)) ∷ []
      where
        has_constructor : has_text (codes "constructor") b ≡ has_text (codes "constructor") a
        has_constructor = ap (λ u. bytes_eq u (codes "constructor")) (plain_text f kind.MethodDefinition refl refl a b e (kind_is a.kind kind.MethodDefinition (k refl)))

    missing_rows : (c d : Bool) (a b : Node) → R a b → d ≡ c → (c ≡ true → is kind.MethodDefinition a ≡ true) → (o p : Option Node) → Both R o p → rows_if d (rows_of_some (λ key. typed.missing_implementation b key ∷ []) p) ≡ rows_if c (rows_of_some (λ key. typed.missing_implementation a key ∷ []) o)
    missing_rows c d a b e h k None None q = nothing_either d c
    missing_rows c d a b e h k None (Some y) q = absurd q
    missing_rows c d a b e h k (Some x) None q = absurd q
    missing_rows c d a b e h k (Some x) (Some y) q = missing_by c d a b e h k x y q

    implementations_same : (o p : Option Node) (x y : Node) (u v : Option Node) → Both M o p → M x y → Both M u v → typed.implementation_rows p y v ≡ typed.implementation_rows o x u
    implementations_same o p x y u v d e h =
        missing_rows (asked o x u) (asked p y v) x y e.0 same (λ q. and_first (is kind.MethodDefinition x) _ (and_first (typed.is_bodiless x) _ q)) (child_of role.Key x) (child_of role.Key y) (child_both f role.Key x y e.0)
      where
        asked : Option Node → Node → Option Node → Bool
        asked before member after = typed.is_bodiless member && (not (passes (typed.is_overload member) after) && (is_some (typed.member_name member) || passes (λ overload. typed.is_overload overload member) before))

        same : asked p y v ≡ asked o x u
        same = λ i. bodiless_agrees x y e.0 i && (not (passes_both M (typed.is_overload x) (typed.is_overload y) (λ a b k. overload_same x y e a b k) u v h i) && (is_some (e.1 i) || passes_both M (λ overload. typed.is_overload overload x) (λ overload. typed.is_overload overload y) (λ a b k. overload_same a b k x y e) o p d i))

module _ (f : Change) (keeps : KeepsRuleWords f.names) (s : Sight) (st : Setting) (r : Role) (path : List Node) (above : Each (IsChanged f) s.path path) where
  abbrev t : Sight
  t = seen f s st r path

  abbrev mine : IsChanged f s.node t.node
  mine = own f s st r path above

  class_names_same : s.node.kind ≡ kind.Class → class_name_rows t ≡ class_name_rows s
  class_names_same k = λ i. row_if (bytes_eq (own_text f s st r path above kind.Class refl refl k i) (codes "declaration") && not (child_agrees f role.Id s.node t.node mine i || under f s st r path above kind.ExportDefaultDeclaration i)) (require_class_name (first_bytes 5 s.node.span))

  constructors_same : constructor_rows t ≡ constructor_rows s
  constructors_same = second_same f (filter is_constructor_with_body (members s.node)) (filter is_constructor_with_body (members t.node)) (filter_each (IsChanged f) is_constructor_with_body is_constructor_with_body (constructor_agrees f) (members s.node) (members t.node) (members_each f s.node t.node mine))

  pub classes_same : s.node.kind ≡ kind.Class → check_class t ≡ check_class s
  classes_same k = λ i. private_use_rows s ++ (class_names_same k i ++ constructors_same i)

  again_told : (a b : Node) → IsChanged f a b → (o : Option Redeclaration) → AreToldAgain f.names (rows_of_some (λ before. row_if (meets before.flags.bits symbol.Function.bits) (redeclaration a.text before.span a.span)) o) (rows_of_some (λ before. row_if (meets before.flags.bits symbol.Function.bits) (redeclaration b.text before.span b.span)) o)
  again_told a b e None = tt
  again_told a b e (Some before) =
      told_if f.names (meets before.flags.bits symbol.Function.bits) (meets before.flags.bits symbol.Function.bits) (redeclaration a.text before.span a.span ∷ []) (redeclaration b.text before.span b.span ∷ []) refl
      (subst (λ sp. AreToldAgain f.names (redeclaration a.text before.span a.span ∷ []) (redeclaration b.text before.span sp ∷ [])) (sym (same_spans f a b e)) (either_row f a b e before.span a.span, tt))

  abbrev ident_rows : Sight → Node → List Diagnostic
  ident_rows z ident = rows_of_some (λ before. row_if (meets before.flags.bits symbol.Function.bits) (redeclaration ident.text before.span ident.span)) (one_before_last (symbol_entries z ident))

  idents_told : (a b : Node) → IsChanged f a b → AreToldAgain f.names (ident_rows s a) (ident_rows t b)
  idents_told a b e = subst (λ es. AreToldAgain f.names (ident_rows s a) (rows_of_some (λ before. row_if (meets before.flags.bits symbol.Function.bits) (redeclaration b.text before.span b.span)) (one_before_last es))) (sym (declared_same f s st r path above a b e)) (again_told a b e (one_before_last (symbol_entries s a)))

  pub redeclared_told : AreToldAgain f.names (check_class_redeclaration s) (check_class_redeclaration t)
  redeclared_told =
      told_if f.names (not (is_typescript s)) (not (is_typescript s)) (rows_of_some (ident_rows s) (child_of role.Id s.node)) (rows_of_some (ident_rows t) (child_of role.Id t.node)) refl
      (some_rows (IsChanged f) f.names (ident_rows s) (ident_rows t) idents_told (child_of role.Id s.node) (child_of role.Id t.node) (child_both f role.Id s.node t.node mine))

  pub members_same : has_plain_keys s.node ≡ true → typed.check_class_members t ≡ typed.check_class_members s
  members_same h = λ i.
      rows_if (not (mark_agrees f mark.Abstract refl s.node t.node mine i)) (flat_same (IsChanged f) typed.abstract_rows typed.abstract_rows (abstract_same f) (members s.node) (members t.node) (members_each f s.node t.node mine) i)
      ++ rows_if (not s.is_ambient) (between_same f typed.implementation_rows typed.implementation_rows (implementations_same f keeps) None None (members s.node) (members t.node) tt (members_kept f (members s.node) (members t.node) (members_each f s.node t.node mine) h) i)
