-- The tables are told the names that the language declares, and a name that nothing declares is free.
use Rattle.std.proofs.Common.{◌≡◌, ℕ, List, [], ◌∷◌, ◌++◌, None, Bool, true, false, cond, map, flat_map, refl, sym, ap, ◌∙◌, codes, if◌then◌else◌}
use Rattle.semantic_kinds.specs.Kinds.{same_kind}
use Rattle.semantic_kinds.specs.declared.kind.AstType.{AstType}
use Rattle.semantic_kinds.specs.declared.kind.AstType.TheVariants as kind
use Rattle.semantic_kinds.specs.declared.mark.Mark.TheVariants as mark
use Rattle.semantic_kinds.specs.declared.role.Role.TheVariants as role
use Rattle.semantic_syntax.specs.Sets.{union}
use Rattle.semantic_syntax.specs.declared.symbol_flags.TheConstants.SymbolFlags as symbol
use Rattle.semantic_syntax.specs.declared.source_type.SourceType.{SourceType}
use Rattle.semantic_tree.specs.Faults.{first_fault}
use Rattle.semantic_tree.specs.Tree.{Tree}
use Rattle.semantic_tree.specs.Views.{is, is_with_text, has, children_of}
use Rattle.semantic_tree.specs.declared.node.Node.{Node}
use Rattle.semantic_model.specs.Binder.{BinderRow, declaration_at, declare_here, is_statement, variable_row, variables_under, is_pure_declarator, function_row, own_function_row, class_row, parameter_excluded, parameters_under, import_flags, import_declarations, marked_ambient, member_named, namespace_row, type_parameter_row, type_parameter_route, catch_names, ids, declared_by, declared_inside}
use Rattle.semantic_model.specs.Declaration.{Declaration, plain, caught, here}
use Rattle.semantic_model.specs.Names.{bound_names, bound_below, names_at}
use Rattle.semantic_model.specs.Namespace.{InstanceState, non_instantiated, const_enum_only, instantiated, instance_state, nodes_around}
use Rattle.semantic_model.specs.Place as place
use Rattle.semantic_model.specs.Place.{Place, OpenScope}
use Rattle.semantic_model.specs.ScopeKind.{opened_scope}
use Rattle.semantic_model.specs.Step.{Step, entering, opening, header_ending, closing, leaving, steps}
use Rattle.std.proofs.lemmas.List.{append-nil, map-append}
use Rattle.binding_laws.proofs.ListLaws.{each_map}
use Rattle.typescript_ties.specs.Containers.{Container, container_of, bound_container, containers}
use Rattle.typescript_ties.specs.DeclaredNames.{NamedIdentifier, told_to_tables, told_by_language, NamesAsDeclared, NamesAreDeclared}
use Rattle.typescript_ties.specs.NamedDeclarations.{NamedDeclaration, named_declaration, declared_here, imported_as, imported_here, declared_outward, variables_named, leaves_its_block, namespace_sort, first_condition, named_by_node}
use Rattle.typescript_ties.specs.declared.container_kind.ContainerKind.TheVariants as container
use Rattle.typescript_ties.specs.declared.declaration_sort.DeclarationSort.TheVariants as sort
use Rattle.typescript_ties.proofs.KnownPlaces.{KnownStep, is_bare_rest, known_places}

same_names : (f : Node → Declaration) (g : Node → NamedDeclaration) (names : List Node) → ((id : Node) → told_to_tables (f id) ≡ told_by_language (g id)) → map told_to_tables (map f names) ≡ map told_by_language (map g names)
same_names f g [] h = refl
same_names f g (x ∷ xs) h = λ i. h x i ∷ same_names f g xs h i

same_names_last : (f : Node → Declaration) (g : Node → NamedDeclaration) (names : List Node) → ((id : Node) → told_to_tables (f id) ≡ told_by_language (g id)) → map told_to_tables (map f names ++ []) ≡ map told_by_language (map g names)
same_names_last f g names h = ap (map told_to_tables) (append-nil (map f names)) ∙ same_names f g names h

abbrev told : Node → NamedIdentifier
told id = record { identifier = id.node_id; name = id.text }

either_told : (b : Bool) (f g : Node → NamedDeclaration) (id : Node) → told_by_language (f id) ≡ told id → told_by_language (g id) ≡ told id → told id ≡ told_by_language (cond b f g id)
either_told true f g id h k = sym h
either_told false f g id h k = sym k

module _ (s : SourceType) (p : Place) (own : OpenScope) where
  abbrev Alike : AstType → Type 0
  Alike k = map told_to_tables (declared_inside k p own ++ declared_by k p) ≡ map told_by_language (named_by_node k s p.node p.path)

  variable_names : (path : List Node) → map told_to_tables (variables_under path p) ≡ map told_by_language (variables_named s p.node path)
  variable_names [] = refl
  variable_names (declaration ∷ path) =
      let b : Bool = is_with_text kind.VariableDeclaration (codes "var") declaration in
      let f : Node → NamedDeclaration = declared_outward sort.Var s p.node (declaration ∷ path) in
      let g : Node → NamedDeclaration = declared_here sort.Lexical s p.node (declaration ∷ path) in
      same_names (declaration_at p.node (variable_row declaration p.chain) (is_pure_declarator p.node)) (cond b f g) (bound_names p.node) (λ id. either_told b f g id refl refl)

  parameter_names : (path : List Node) → (path ≡ [] → ⊥) → (g : Node → NamedDeclaration) → ((id : Node) → told id ≡ told_by_language (g id)) → map told_to_tables (parameters_under path p) ≡ map told_by_language (map g (bound_names p.node))
  parameter_names [] e g h = absurd (e refl)
  parameter_names (list ∷ path) e g h = same_names (declaration_at p.node (record { flags = symbol.FunctionScopedVariable.bits; excluded = parameter_excluded list p.chain; how = plain; route = here p.chain }) false) g (bound_names p.node) h

  catch_clause_names : (patterns : List Node) (g : Node → NamedDeclaration) → ((id : Node) → told id ≡ told_by_language (g id)) → map told_to_tables (flat_map (catch_names p) patterns) ≡ map told_by_language (map g (flat_map bound_names patterns))
  catch_clause_names [] g h = refl
  catch_clause_names (x ∷ xs) g h =
      map-append told_to_tables (catch_names p x) (flat_map (catch_names p) xs)
      ∙ (λ i. go (is kind.BindingIdentifier x) i ++ catch_clause_names xs g h i)
      ∙ sym (map-append told_by_language (map g (bound_names x)) (map g (flat_map bound_names xs)))
      ∙ ap (map told_by_language) (sym (map-append g (bound_names x) (flat_map bound_names xs)))
    where
      row : BinderRow
      row = record { flags = union symbol.FunctionScopedVariable.bits symbol.CatchVariable.bits; excluded = 0; how = caught; route = here p.chain }

      lexical : BinderRow
      lexical = record { flags = union symbol.BlockScopedVariable.bits symbol.CatchVariable.bits; excluded = symbol.BlockScopedVariableExcludes.bits; how = plain; route = here p.chain }

      go : (b : Bool) → map told_to_tables (if b then declaration_at p.node row false x ∷ [] else map (declaration_at p.node lexical false) (cond b (x ∷ []) (bound_below x.kind x.children)))
          ≡ map told_by_language (map g (cond b (x ∷ []) (bound_below x.kind x.children)))
      go true = same_names (declaration_at p.node row false) g (x ∷ []) h
      go false = same_names (declaration_at p.node lexical false) g (bound_below x.kind x.children) h

  function_names : Alike kind.Function
  function_names = go (is_statement p.node)
    where
      far : Node → NamedDeclaration
      far = declared_outward sort.BlockFunction s p.node p.path

      near : Node → NamedDeclaration
      near = declared_here sort.Function s p.node p.path

      go : (b : Bool) → map told_to_tables (cond b [] (map (declaration_at p.node (own_function_row p own) (has mark.Pure p.node)) (ids p.node)) ++ cond b (map (declaration_at p.node (function_row p) (has mark.Pure p.node)) (ids p.node)) [])
          ≡ map told_by_language (map (cond b (cond (leaves_its_block s p.node p.path) far near) (named_declaration sort.FunctionName (container_of container.OwnName p.node) [])) (ids p.node))
      go true = same_names (declaration_at p.node (function_row p) (has mark.Pure p.node)) (cond (leaves_its_block s p.node p.path) far near) (ids p.node) (λ id. either_told (leaves_its_block s p.node p.path) far near id refl refl)
      go false = same_names_last (declaration_at p.node (own_function_row p own) (has mark.Pure p.node)) (named_declaration sort.FunctionName (container_of container.OwnName p.node) []) (ids p.node) (λ id. refl)

  class_names : Alike kind.Class
  class_names = go (is_statement p.node)
    where
      go : (b : Bool) → map told_to_tables (cond b [] (map (declaration_at p.node (class_row p (own ∷ [])) false) (ids p.node)) ++ cond b (map (declaration_at p.node (class_row p p.chain) false) (ids p.node)) [])
          ≡ map told_by_language (map (cond b (declared_here sort.Class s p.node p.path) (named_declaration sort.ClassName (container_of container.OwnName p.node) [])) (ids p.node))
      go true = same_names (declaration_at p.node (class_row p p.chain) false) (declared_here sort.Class s p.node p.path) (ids p.node) (λ id. refl)
      go false = same_names_last (declaration_at p.node (class_row p (own ∷ [])) false) (named_declaration sort.ClassName (container_of container.OwnName p.node) []) (ids p.node) (λ id. refl)

  -- what is declared where the node stands
  names_here : (flags excluded : ℕ) (g : Node → NamedDeclaration) (names : List Node) → ((id : Node) → told id ≡ told_by_language (g id)) → map told_to_tables (declare_here p flags excluded names) ≡ map told_by_language (map g names)
  names_here flags excluded g names h = same_names (declaration_at p.node (record { flags = flags; excluded = excluded; how = plain; route = here p.chain }) false) g names h

  import_names : map told_to_tables (import_declarations p) ≡ map told_by_language (map (imported_here s p.node p.path) (names_at role.Local p.node))
  import_names = names_here (import_flags p) symbol.ImportBindingExcludes.bits (imported_here s p.node p.path) (names_at role.Local p.node) (λ id. refl)

  enum_names : Alike kind.TSEnumDeclaration
  enum_names = go (has mark.Const p.node)
    where
      g : Node → NamedDeclaration
      g = declared_here sort.Enum s p.node p.path

      go : (b : Bool) → map told_to_tables (if b then declare_here p (union symbol.ConstEnum.bits (marked_ambient p.node)) symbol.ConstEnumExcludes.bits (ids p.node) else declare_here p (union symbol.RegularEnum.bits (marked_ambient p.node)) symbol.RegularEnumExcludes.bits (ids p.node))
          ≡ map told_by_language (map g (ids p.node))
      go true = names_here (union symbol.ConstEnum.bits (marked_ambient p.node)) symbol.ConstEnumExcludes.bits g (ids p.node) (λ id. refl)
      go false = names_here (union symbol.RegularEnum.bits (marked_ambient p.node)) symbol.RegularEnumExcludes.bits g (ids p.node) (λ id. refl)

  namespace_names : (i : InstanceState) → map told_to_tables (namespace_row i p) ≡ map told_by_language (map (declared_here (namespace_sort i) s p.node p.path) (ids p.node))
  namespace_names non_instantiated = names_here (union symbol.NamespaceModule.bits (marked_ambient p.node)) symbol.NamespaceModuleExcludes.bits (declared_here sort.TypeNamespace s p.node p.path) (ids p.node) (λ id. refl)
  namespace_names const_enum_only = names_here (union symbol.ValueModule.bits (marked_ambient p.node)) symbol.ValueModuleExcludes.bits (declared_here sort.ValueNamespace s p.node p.path) (ids p.node) (λ id. refl)
  namespace_names instantiated = names_here (union symbol.ValueModule.bits (marked_ambient p.node)) symbol.ValueModuleExcludes.bits (declared_here sort.ValueNamespace s p.node p.path) (ids p.node) (λ id. refl)

  type_parameter_names : Alike kind.TSTypeParameter
  type_parameter_names =
      let cs : List Container = containers s p.node p.path in
      let b : Bool = place.parent_holds (is kind.TSInferType) p.path in
      let f : Node → NamedDeclaration = named_declaration sort.Inferred (first_condition cs) (bound_container false cs ∷ []) in
      let g : Node → NamedDeclaration = named_declaration sort.TypeParameter (bound_container false cs) [] in
      same_names (declaration_at p.node (type_parameter_row (type_parameter_route p)) false) (cond b f g) (names_at role.Name p.node) (λ id. either_told b f g id refl refl)

  no_rest_names : (b : Bool) (ds : List Declaration) → b ≡ false → map told_to_tables (cond b ds []) ≡ []
  no_rest_names true ds e = absurd cc
  no_rest_names false ds e = refl

  not_root : (k : AstType) → p.node.kind ≡ k → (k ≡ kind.Program → ⊥) → (p.path ≡ [] → p.node.kind ≡ kind.Program) → p.path ≡ [] → ⊥
  not_root k e n h q = n (sym e ∙ h q)

  pub names_by : (k : AstType) → p.node.kind ≡ k → same_kind k kind.TSIndexSignatureName ≡ false → is_bare_rest p.node p.path ≡ false → (p.path ≡ [] → p.node.kind ≡ kind.Program) → Alike k
  names_by kind.VariableDeclarator k i r u = variable_names p.path
  names_by kind.Function k i r u = function_names
  names_by kind.Class k i r u = class_names
  names_by kind.FormalParameter k i r u = parameter_names p.path (not_root kind.FormalParameter k (λ q. absurd cc) u) (named_declaration sort.Parameter (bound_container false (containers s p.node p.path)) []) (λ id. refl)
  names_by kind.FormalParameterRest k i r u = parameter_names p.path (not_root kind.FormalParameterRest k (λ q. absurd cc) u) (named_declaration sort.Parameter (bound_container false (containers s p.node p.path)) []) (λ id. refl)
  names_by kind.BindingRestElement k i r u = no_rest_names (place.parent_holds (is kind.FormalParameters) p.path) _ (rw k at r)
  names_by kind.CatchParameter k i r u = catch_clause_names (children_of role.Pattern p.node.children) (named_declaration sort.CatchName (bound_container false (containers s p.node p.path)) []) (λ id. refl)
  names_by kind.ImportSpecifier k i r u = import_names
  names_by kind.ImportDefaultSpecifier k i r u = import_names
  names_by kind.ImportNamespaceSpecifier k i r u = import_names
  names_by kind.TSImportEqualsDeclaration k i r u = names_here symbol.Import.bits symbol.ImportBindingExcludes.bits (imported_as sort.Import s p.node p.path) (ids p.node) (λ id. refl)
  names_by kind.TSTypeAliasDeclaration k i r u = names_here (union symbol.TypeAlias.bits (marked_ambient p.node)) symbol.TypeAliasExcludes.bits (declared_here sort.TypeAlias s p.node p.path) (ids p.node) (λ id. refl)
  names_by kind.TSInterfaceDeclaration k i r u = names_here (union symbol.Interface.bits (marked_ambient p.node)) symbol.InterfaceExcludes.bits (declared_here sort.Interface s p.node p.path) (ids p.node) (λ id. refl)
  names_by kind.TSEnumDeclaration k i r u = enum_names
  names_by kind.TSEnumMember k i r u = names_here symbol.EnumMember.bits symbol.EnumMemberExcludes.bits (named_declaration sort.EnumMember (bound_container false (containers s p.node p.path)) []) (flat_map (member_named p.node) (children_of role.Id p.node.children)) (λ id. refl)
  names_by kind.TSNamespaceDeclaration k i r u = namespace_names (instance_state p.node p.path (nodes_around p.node p.path))
  names_by kind.TSTypeParameter k i r u = type_parameter_names
  names_by kind.TSMappedType k i r u = same_names_last (declaration_at p.node (type_parameter_row (here (own ∷ []))) false) (named_declaration sort.MappedKey (container_of container.TypeParameters p.node) []) (names_at role.Key p.node) (λ id. refl)
  names_by kind.TSIndexSignatureName k i r u = absurd cc
  names_by _ k i r u = refl

named_step : (s : SourceType) (st : Step) → KnownStep st → NamesAsDeclared s st
named_step s (entering p) k = λ i. names_by s p (opened_scope p 0) p.node.kind refl i k.whole k.rooted
named_step s (opening p o) k = tt
named_step s (header_ending p o) k = tt
named_step s (closing p o) k = tt
named_step s (leaving p) k = tt

pub names_are_declared : (p : Tree) → first_fault p ≡ None → NamesAreDeclared p
names_are_declared p h = each_map KnownStep (NamesAsDeclared p.source_type) (named_step p.source_type) (steps p) (known_places p h)
