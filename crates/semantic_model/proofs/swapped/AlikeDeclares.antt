-- The declarations and events of alike steps: the same, with changed names.
use Rattle.std.proofs.Common.{◌≡◌, ℕ, List, [], ◌∷◌, ◌++◌, cond, Bool, true, false, ◌||◌, refl, sym, ap, subst, ◌∙◌, map, flat_map, if◌then◌else◌}
use Rattle.semantic_syntax.specs.declared.spans.Span.{Span}
use Rattle.semantic_syntax.specs.Tables.{Name}
use Rattle.semantic_syntax.specs.Sets.{union}
use Rattle.semantic_syntax.specs.declared.symbol_flags.TheConstants.SymbolFlags as symbol
use Rattle.semantic_tree.specs.Forest.{Forest}
use Rattle.semantic_tree.specs.declared.node.Node.{Node}
use Rattle.semantic_kinds.specs.Kinds.{same_kind}
use Rattle.semantic_kinds.specs.declared.kind.AstType.{AstType}
use Rattle.semantic_kinds.specs.declared.kind.AstType.TheVariants as kind
use Rattle.semantic_kinds.specs.declared.mark.Mark.TheVariants as mark
use Rattle.semantic_kinds.specs.declared.role.Role.TheVariants as role
use Rattle.semantic_tree.specs.Views.{is, has, children_of}
use Rattle.semantic_model.specs.Names.{bound_names, names_at}
use Rattle.semantic_model.specs.Namespace.{InstanceState, non_instantiated, const_enum_only, instantiated}
use Rattle.semantic_model.specs.Place.{Place, OpenScope, parent_holds}
use Rattle.semantic_model.specs.Declaration.{plain, here, outward_to}
use Rattle.semantic_model.specs.Binder.{BinderRow, declaration_at, declare_here, ids, marked_ambient, is_conditional, is_statement, function_row, own_function_row, class_row, import_flags, import_declarations, enums, member_names, named_member, member_named, member_declarations, namespace_row, type_parameter_route, type_parameter_row, declared_by, declared_on_entering, declared_inside, declared_on_opening}
use Rattle.semantic_model.proofs.swapped.Alike.{labels_in, labels, changed, map_append}
use Rattle.semantic_model.proofs.swapped.AlikeCursor.{with_text}
use Rattle.semantic_model.proofs.swapped.AlikeScopes.{re}
use Rattle.semantic_model.proofs.swapped.AlikeSteps.{SamePlace, Facts}
use Rattle.semantic_model.proofs.swapped.AlikeNames.{bound_changed, names_changed, children_same}
use Rattle.semantic_model.proofs.swapped.AlikeBinder.{renamed_declaration, ren, rows_changed, here_changed, cond_changed, parent_kind, parent_typed, variables_same, function_same, own_same, parameters_same, catches_same}

-- a member with a label as its name
abbrev of_label : Node → Name × Span → Node
of_label member l = record member { text = l.0; span = l.1 }

label_names : (member id : Node) (names : List Node) → map (named_member member id) names ≡ map (of_label member) (map (λ name. (name.text, id.span)) names)
label_names member id [] = refl
label_names member id (x ∷ xs) = ap (λ ys. named_member member id x ∷ ys) (label_names member id xs)

label_members : (member : Node) (ns : List Node) → flat_map (member_named member) ns ≡ map (of_label member) (flat_map labels_in ns)
label_members member [] = refl
label_members member (x ∷ xs) = (λ i. label_names member x (member_names x) i ++ label_members member xs i) ∙ sym (map_append (of_label member) (labels_in x) (flat_map labels_in xs))

module _ (f : Name → Name) where
  label_rows : (node : Node) (u : Name) (g : Forest) (row : BinderRow) (ls : List (Name × Span)) → map (declaration_at (with_text node u g) row false) (map (of_label (with_text node u g)) (map (changed f) ls)) ≡ map (renamed_declaration f) (map (declaration_at node row false) (map (of_label node) ls))
  label_rows node u g row [] = refl
  label_rows node u g row (l ∷ ls) = ap (λ ds. renamed_declaration f (declaration_at node row false (of_label node l)) ∷ ds) (label_rows node u g row ls)

  members_same : (p : Place) (u : Name) (g : Forest) (path : List Node) → Facts f p u g path → p.node.kind ≡ kind.TSEnumMember → member_declarations (re p u g path) ≡ ren f (member_declarations p)
  members_same p u g path w e =
      let row : BinderRow = record { flags = symbol.EnumMember.bits; excluded = symbol.EnumMemberExcludes.bits; how = plain; route = here p.chain } in
      ap (map (declaration_at (with_text p.node u g) row false)) (label_members (with_text p.node u g) (children_of role.Id g) ∙ ap (map (of_label (with_text p.node u g))) (w.members (rw e refl)))
      ∙ label_rows p.node u g row (labels p.node.children)
      ∙ ap (λ ns. map (renamed_declaration f) (map (declaration_at p.node row false) ns)) (sym (label_members p.node (children_of role.Id p.node.children)))

  names_here : (p : Place) (u : Name) (g : Forest) (path : List Node) (w : Facts f p u g path) (flags excluded : ℕ) → declare_here (re p u g path) flags excluded (ids (with_text p.node u g)) ≡ ren f (declare_here p flags excluded (ids p.node))
  names_here p u g path w flags excluded = here_changed f p u g path flags excluded (ids p.node) (ids (with_text p.node u g)) (names_changed f role.Id p.node (with_text p.node u g) w.node.children)

  pub namespace_same : (s : InstanceState) (p : Place) (u : Name) (g : Forest) (path : List Node) → Facts f p u g path → namespace_row s (re p u g path) ≡ ren f (namespace_row s p)
  namespace_same non_instantiated p u g path w = names_here p u g path w (union symbol.NamespaceModule.bits (marked_ambient p.node)) symbol.NamespaceModuleExcludes.bits
  namespace_same const_enum_only p u g path w = names_here p u g path w (union symbol.ValueModule.bits (marked_ambient p.node)) symbol.ValueModuleExcludes.bits
  namespace_same instantiated p u g path w = names_here p u g path w (union symbol.ValueModule.bits (marked_ambient p.node)) symbol.ValueModuleExcludes.bits

  enums_same : (p : Place) (u : Name) (g : Forest) (path : List Node) → Facts f p u g path → enums (re p u g path) ≡ ren f (enums p)
  enums_same p u g path w = go (has mark.Const p.node)
    where
      go : (b : Bool) → (if b then declare_here (re p u g path) (union symbol.ConstEnum.bits (marked_ambient p.node)) symbol.ConstEnumExcludes.bits (ids (with_text p.node u g)) else declare_here (re p u g path) (union symbol.RegularEnum.bits (marked_ambient p.node)) symbol.RegularEnumExcludes.bits (ids (with_text p.node u g))) ≡ ren f (if b then declare_here p (union symbol.ConstEnum.bits (marked_ambient p.node)) symbol.ConstEnumExcludes.bits (ids p.node) else declare_here p (union symbol.RegularEnum.bits (marked_ambient p.node)) symbol.RegularEnumExcludes.bits (ids p.node))
      go true = names_here p u g path w (union symbol.ConstEnum.bits (marked_ambient p.node)) symbol.ConstEnumExcludes.bits
      go false = names_here p u g path w (union symbol.RegularEnum.bits (marked_ambient p.node)) symbol.RegularEnumExcludes.bits

  imports_same : (p : Place) (u : Name) (g : Forest) (path : List Node) → Facts f p u g path → import_declarations (re p u g path) ≡ ren f (import_declarations p)
  imports_same p u g path w =
      ap (λ b. declare_here (re p u g path) (cond (has mark.TypeOnly p.node || b) symbol.TypeImport.bits symbol.Import.bits) symbol.ImportBindingExcludes.bits (names_at role.Local (with_text p.node u g))) (parent_typed f p.path path w.above)
      ∙ here_changed f p u g path (import_flags p) symbol.ImportBindingExcludes.bits (names_at role.Local p.node) (names_at role.Local (with_text p.node u g)) (names_changed f role.Local p.node (with_text p.node u g) w.node.children)

  function_declared : (p : Place) (g : Forest) (path : List Node) → Facts f p p.node.text g path → declared_by kind.Function (re p p.node.text g path) ≡ ren f (declared_by kind.Function p)
  function_declared p g path w =
      let node : Node = with_text p.node p.node.text g in
      cond_changed f (is_statement p.node) (map (declaration_at p.node (function_row p) (has mark.Pure p.node)) (ids p.node)) [] (map (declaration_at node (function_row (re p p.node.text g path)) (has mark.Pure p.node)) (ids node)) []
      (ap (λ row. map (declaration_at node row (has mark.Pure p.node)) (ids node)) (function_same f p g path w.above) ∙ rows_changed f p.node p.node.text g (function_row p) (has mark.Pure p.node) (ids p.node) (ids node) (names_changed f role.Id p.node node w.node.children))
      refl

  class_declared : (p : Place) (g : Forest) (path : List Node) → Facts f p p.node.text g path → declared_by kind.Class (re p p.node.text g path) ≡ ren f (declared_by kind.Class p)
  class_declared p g path w =
      let node : Node = with_text p.node p.node.text g in
      cond_changed f (is_statement p.node) (map (declaration_at p.node (class_row p p.chain) false) (ids p.node)) [] (map (declaration_at node (class_row p p.chain) false) (ids node)) []
      (rows_changed f p.node p.node.text g (class_row p p.chain) false (ids p.node) (ids node) (names_changed f role.Id p.node node w.node.children)) refl

  -- the same place with its own text, where that is no name
  own_text : (p : Place) (u : Name) (g : Forest) (path : List Node) (P : Name → Type 0) → Facts f p u g path → u ≡ p.node.text → (Facts f p p.node.text g path → P p.node.text) → P u
  own_text p u g path P w e h = subst P (sym e) (h (subst (λ t. Facts f p t g path) e w))

  -- what a node that is no namespace declares
  pub declared_same : (k : AstType) (p : Place) (u : Name) (g : Forest) (path : List Node) → p.node.kind ≡ k → Facts f p u g path → same_kind k kind.TSNamespaceDeclaration ≡ false → declared_by k (re p u g path) ≡ ren f (declared_by k p)
  declared_same kind.VariableDeclarator p u g path e w o = variables_same f p u g path path p.path path w.node w.above
  declared_same kind.Function p u g path e w o = own_text p u g path (λ t. declared_by kind.Function (re p t g path) ≡ ren f (declared_by kind.Function p)) w (w.node.text.plain (rw e refl) (rw e refl)) (function_declared p g path)
  declared_same kind.Class p u g path e w o = own_text p u g path (λ t. declared_by kind.Class (re p t g path) ≡ ren f (declared_by kind.Class p)) w (w.node.text.plain (rw e refl) (rw e refl)) (class_declared p g path)
  declared_same kind.FormalParameter p u g path e w o = parameters_same f p u g path p.path path w.node w.above
  declared_same kind.FormalParameterRest p u g path e w o = parameters_same f p u g path p.path path w.node w.above
  declared_same kind.BindingRestElement p u g path e w o =
      let node : Node = with_text p.node u g in
      let excluded : ℕ = union symbol.FunctionScopedVariableExcludes.bits symbol.FunctionScopedVariable.bits in
      ap (λ b. cond b (declare_here (re p u g path) symbol.FunctionScopedVariable.bits excluded (bound_names node)) []) (parent_kind f kind.FormalParameters p.path path w.above)
      ∙ cond_changed f (parent_holds (is kind.FormalParameters) p.path) (declare_here p symbol.FunctionScopedVariable.bits excluded (bound_names p.node)) [] (declare_here (re p u g path) symbol.FunctionScopedVariable.bits excluded (bound_names node)) []
      (here_changed f p u g path symbol.FunctionScopedVariable.bits excluded (bound_names p.node) (bound_names node) (bound_changed f p.node u g w.node)) refl
  declared_same kind.CatchParameter p u g path e w o = catches_same f p u g path (children_of role.Pattern p.node.children) (children_of role.Pattern g) (children_same f role.Pattern p.node.children g w.node.children)
  declared_same kind.ImportSpecifier p u g path e w o = imports_same p u g path w
  declared_same kind.ImportDefaultSpecifier p u g path e w o = imports_same p u g path w
  declared_same kind.ImportNamespaceSpecifier p u g path e w o = imports_same p u g path w
  declared_same kind.TSImportEqualsDeclaration p u g path e w o = names_here p u g path w symbol.Import.bits symbol.ImportBindingExcludes.bits
  declared_same kind.TSTypeAliasDeclaration p u g path e w o = names_here p u g path w (union symbol.TypeAlias.bits (marked_ambient p.node)) symbol.TypeAliasExcludes.bits
  declared_same kind.TSInterfaceDeclaration p u g path e w o = names_here p u g path w (union symbol.Interface.bits (marked_ambient p.node)) symbol.InterfaceExcludes.bits
  declared_same kind.TSEnumDeclaration p u g path e w o = enums_same p u g path w
  declared_same kind.TSEnumMember p u g path e w o = members_same p u g path w e
  declared_same kind.TSNamespaceDeclaration p u g path e w o = absurd cc
  declared_same kind.TSTypeParameter p u g path e w o =
      let node : Node = with_text p.node u g in
      ap (λ b. map (declaration_at node (type_parameter_row (cond b (outward_to is_conditional p.chain) (here p.chain))) false) (names_at role.Name node)) (parent_kind f kind.TSInferType p.path path w.above)
      ∙ rows_changed f p.node u g (type_parameter_row (type_parameter_route p)) false (names_at role.Name p.node) (names_at role.Name node) (names_changed f role.Name p.node node w.node.children)
  declared_same _ p u g path e w o = refl

  -- what is declared inside
  own_function : (p : Place) (own : OpenScope) (g : Forest) (path : List Node) → Facts f p p.node.text g path → declared_inside kind.Function (re p p.node.text g path) own ≡ ren f (declared_inside kind.Function p own)
  own_function p own g path w =
      let node : Node = with_text p.node p.node.text g in
      cond_changed f (is_statement p.node) [] (map (declaration_at p.node (own_function_row p own) (has mark.Pure p.node)) (ids p.node)) [] (map (declaration_at node (own_function_row (re p p.node.text g path) own) (has mark.Pure p.node)) (ids node)) refl
      (ap (λ row. map (declaration_at node row (has mark.Pure p.node)) (ids node)) (own_same f p g path own w.above) ∙ rows_changed f p.node p.node.text g (own_function_row p own) (has mark.Pure p.node) (ids p.node) (ids node) (names_changed f role.Id p.node node w.node.children))

  own_class : (p : Place) (own : OpenScope) (g : Forest) (path : List Node) → Facts f p p.node.text g path → declared_inside kind.Class (re p p.node.text g path) own ≡ ren f (declared_inside kind.Class p own)
  own_class p own g path w =
      let node : Node = with_text p.node p.node.text g in
      cond_changed f (is_statement p.node) [] (map (declaration_at p.node (class_row p (own ∷ [])) false) (ids p.node)) [] (map (declaration_at node (class_row p (own ∷ [])) false) (ids node)) refl
      (rows_changed f p.node p.node.text g (class_row p (own ∷ [])) false (ids p.node) (ids node) (names_changed f role.Id p.node node w.node.children))

  inside_same : (k : AstType) (p : Place) (own : OpenScope) (u : Name) (g : Forest) (path : List Node) → p.node.kind ≡ k → Facts f p u g path → declared_inside k (re p u g path) own ≡ ren f (declared_inside k p own)
  inside_same kind.Function p own u g path e w = own_text p u g path (λ t. declared_inside kind.Function (re p t g path) own ≡ ren f (declared_inside kind.Function p own)) w (w.node.text.plain (rw e refl) (rw e refl)) (own_function p own g path)
  inside_same kind.Class p own u g path e w = own_text p u g path (λ t. declared_inside kind.Class (re p t g path) own ≡ ren f (declared_inside kind.Class p own)) w (w.node.text.plain (rw e refl) (rw e refl)) (own_class p own g path)
  inside_same kind.TSMappedType p own u g path e w =
      rows_changed f p.node u g (type_parameter_row (here (own ∷ []))) false (names_at role.Key p.node) (names_at role.Key (with_text p.node u g)) (names_changed f role.Key p.node (with_text p.node u g) w.node.children)
  inside_same _ p own u g path e w = refl

  abbrev pub facts : (p q : Place) → (s : SamePlace f p q) → Facts f p s.u s.g s.path
  facts p q s = record { node = s.node; above = s.above; members = s.members }

  pub entering_same : (p q : Place) → SamePlace f p q → same_kind p.node.kind kind.TSNamespaceDeclaration ≡ false → declared_on_entering q ≡ ren f (declared_on_entering p)
  entering_same p q s o = ap declared_on_entering s.is ∙ declared_same p.node.kind p s.u s.g s.path refl (facts p q s) o

  pub opening_same : (p q : Place) (own : OpenScope) → SamePlace f p q → declared_on_opening q own ≡ ren f (declared_on_opening p own)
  opening_same p q own s = ap (λ x. declared_on_opening x own) s.is ∙ inside_same p.node.kind p own s.u s.g s.path refl (facts p q s)
