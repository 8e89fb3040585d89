-- What the tables are told at a node to declare is what the language binds.
use Rattle.std.proofs.Common.{◌≡◌, ℕ, List, [], ◌∷◌, ◌++◌, Bool, true, false, ◌&&◌, cond, map, flat_map, refl, sym, ap, subst, ◌∙◌, inl, inr, codes, if◌then◌else◌}
use Rattle.std.proofs.lemmas.List.{append-nil, map-append}
use Rattle.semantic_kinds.specs.Kinds.{same_kind}
use Rattle.semantic_kinds.specs.declared.kind.AstType.{AstType}
use Rattle.semantic_kinds.specs.declared.kind.AstType.TheVariants as kind
use Rattle.semantic_kinds.specs.declared.mark.Mark.TheVariants as mark
use Rattle.semantic_kinds.specs.declared.role.Role.TheVariants as role
use Rattle.semantic_syntax.specs.declared.source_type.SourceType.{SourceType}
use Rattle.semantic_syntax.specs.declared.symbol_flags.TheConstants.SymbolFlags as symbol
use Rattle.semantic_syntax.specs.Sets.{union}
use Rattle.std.specs.Prelude.{None}
use Rattle.semantic_tree.specs.Faults.{first_fault}
use Rattle.semantic_tree.specs.Tree.{Tree}
use Rattle.semantic_tree.specs.Views.{is, is_with_text, has, children_of}
use Rattle.semantic_tree.specs.declared.node.Node.{Node}
use Rattle.semantic_model.specs.Binder.{BinderRow, declaration_at, declare_here, is_statement, is_block_function, variable_row, variables_under, function_row, own_function_row, class_row, is_pure_declarator, ids, parameter_excluded, parameters_under, catch_names, import_flags, declared_by, declared_inside}
use Rattle.semantic_model.specs.Declaration.{Declaration, here}
use Rattle.semantic_model.specs.Declaration.{plain as plain_way, caught as caught_way}
use Rattle.semantic_model.specs.Names.{bound_names, bound_below, names_at}
use Rattle.semantic_model.specs.EachStep.{EachStep}
use Rattle.semantic_model.specs.Place as place
use Rattle.semantic_model.specs.Place.{Place, is_strict, parent_holds}
use Rattle.semantic_model.specs.ScopeKind.{opened_scope}
use Rattle.semantic_model.specs.Step.{Step, entering, opening, header_ending, closing, leaving, steps}
use Rattle.language_ties.specs.Bound.{Bound, bound_identifier, bound_here, bound_outward, bound_by_declarator, bound_by_declaration, bound_by_catch, bound_by_node}
use Rattle.language_ties.specs.Bound as language
use Rattle.language_ties.specs.ToldNames.{Told, told_by_declaration, told_by_bound, may_leave_block, DeclaresAsBound, Declares, DeclarationsAreBound}
use Rattle.language_ties.specs.EcmaScript.{is_ecmascript_kind, is_ecmascript}
use Rattle.language_ties.specs.Environments.{is_made_for, environments, innermost, variable_environment}
use Rattle.language_ties.specs.Scopes.{maker_of_scope, maker_of_environment}
use Rattle.language_ties.specs.declared.bound_as.BoundAs.{BoundAs}
use Rattle.language_ties.specs.declared.bound_as.BoundAs.TheVariants as bound
use Rattle.language_ties.specs.declared.environment_kind.EnvironmentKind.TheVariants as environment
use Rattle.language_ties.proofs.EnvironmentsRound.{IsKnown, KnownAt, known_program}
use Rattle.language_ties.proofs.SwitchShape.{is_bare_rest}
use Rattle.language_ties.proofs.block_functions.StayingFunctions.{StaysInBlock, stays_in_block, stays_there}
use Rattle.language_ties.proofs.block_functions.StrictPlaces.{Strict, StrictAt, strict_program}
use Rattle.language_ties.proofs.Innermost.{IsPlain, innermost_made, variables_made}

abbrev told : Node → ℕ → Told
told id m = record { identifier = id.node_id; name = id.text; maker = m }

-- names by two rows with one maker
same_told : (f : Node → Declaration) (g : Node → Bound) (names : List Node) → ((id : Node) → told_by_declaration (f id) ≡ told_by_bound (g id)) → map told_by_declaration (map f names) ≡ map told_by_bound (map g names)
same_told f g [] h = refl
same_told f g (x ∷ xs) h = λ i. h x i ∷ same_told f g xs h i

-- the same with nothing behind
same_told_last : (f : Node → Declaration) (g : Node → Bound) (names : List Node) → ((id : Node) → told_by_declaration (f id) ≡ told_by_bound (g id)) → map told_by_declaration (map f names ++ []) ≡ map told_by_bound (map g names)
same_told_last f g names h = ap (map told_by_declaration) (append-nil (map f names)) ∙ same_told f g names h

module _ (s : SourceType) (p : Place) (known : IsKnown p) (strict : Strict s p) where
  -- the name stands in the innermost scope, as in the innermost environment
  stands_here : IsPlain p.node p.path → (place.innermost p.chain).opener ≡ (innermost (environments p.node p.path)).maker
  stands_here plain = ap (λ m. m.node) (innermost_made p.chain p.node p.path known.round plain)

  names_here : IsPlain p.node p.path → (flags excluded : ℕ) (b : BoundAs) (names : List Node) → map told_by_declaration (declare_here p flags excluded names) ≡ map told_by_bound (map (bound_here b (environments p.node p.path)) names)
  names_here plain flags excluded b names =
      same_told (declaration_at p.node (record { flags = flags; excluded = excluded; how = plain_way; route = here p.chain }) false) (bound_here b (environments p.node p.path)) names (λ id. ap (told id) (stands_here plain))

  variables : IsPlain p.node p.path → (path : List Node) → p.path ≡ path → map told_by_declaration (variables_under path p) ≡ map told_by_bound (bound_by_declarator p.node path)
  variables plain [] e = refl
  variables plain (declaration ∷ path) e = go (is_with_text kind.VariableDeclaration (codes "var") declaration) refl
    where
      out : (outward_target : ℕ) → outward_target ≡ (variable_environment (environments p.node p.path)).maker → outward_target ≡ (variable_environment (environments p.node (declaration ∷ path))).maker
      out n h = subst (λ q. n ≡ (variable_environment (environments p.node q)).maker) e h

      inside : (place.innermost p.chain).opener ≡ (innermost (environments p.node (declaration ∷ path))).maker
      inside = subst (λ q. (place.innermost p.chain).opener ≡ (innermost (environments p.node q)).maker) e (stands_here plain)

      go : (b : Bool) → is_with_text kind.VariableDeclaration (codes "var") declaration ≡ b → map told_by_declaration (map (declaration_at p.node (variable_row declaration p.chain) (is_pure_declarator p.node)) (bound_names p.node)) ≡ map told_by_bound (map (cond b (bound_outward (environments p.node (declaration ∷ path))) (bound_here bound.Lexical (environments p.node (declaration ∷ path)))) (bound_names p.node))
      go true q = same_told (declaration_at p.node (variable_row declaration p.chain) (is_pure_declarator p.node)) (bound_outward (environments p.node (declaration ∷ path))) (bound_names p.node) (λ id. rw q (ap (told id) (out _ (variables_made p.chain p.node p.path known.round plain))))
      go false q = same_told (declaration_at p.node (variable_row declaration p.chain) (is_pure_declarator p.node)) (bound_here bound.Lexical (environments p.node (declaration ∷ path))) (bound_names p.node) (λ id. rw q (ap (told id) inside))

  parameters : IsPlain p.node p.path → (path : List Node) → (path ≡ [] → ⊥) → map told_by_declaration (parameters_under path p) ≡ map told_by_bound (map (bound_here bound.Parameter (environments p.node p.path)) (bound_names p.node))
  parameters plain [] e = absurd (e refl)
  parameters plain (list ∷ path) e = names_here plain symbol.FunctionScopedVariable.bits (parameter_excluded list p.chain) bound.Parameter (bound_names p.node)

  catches : IsPlain p.node p.path → (patterns : List Node) → map told_by_declaration (flat_map (catch_names p) patterns) ≡ map told_by_bound (flat_map (bound_by_catch (environments p.node p.path)) patterns)
  catches plain [] = refl
  catches plain (x ∷ xs) =
      map-append told_by_declaration (catch_names p x) (flat_map (catch_names p) xs)
      ∙ (λ i. one i ++ catches plain xs i)
      ∙ sym (map-append told_by_bound (bound_by_catch (environments p.node p.path) x) (flat_map (bound_by_catch (environments p.node p.path)) xs))
    where
      row : BinderRow
      row = record { flags = union symbol.FunctionScopedVariable.bits symbol.CatchVariable.bits; excluded = 0; how = caught_way; route = here p.chain }

      go : (b : Bool) → map told_by_declaration (if b then declaration_at p.node row false x ∷ [] else declare_here p (union symbol.BlockScopedVariable.bits symbol.CatchVariable.bits) symbol.BlockScopedVariableExcludes.bits (cond b (x ∷ []) (bound_below x.kind x.children)))
          ≡ map told_by_bound (map (bound_here (cond b bound.CatchName bound.Lexical) (environments p.node p.path)) (cond b (x ∷ []) (bound_below x.kind x.children)))
      go true = λ i. told x (stands_here plain i) ∷ []
      go false = names_here plain (union symbol.BlockScopedVariable.bits symbol.CatchVariable.bits) symbol.BlockScopedVariableExcludes.bits bound.Lexical (bound_below x.kind x.children)

      one : map told_by_declaration (catch_names p x) ≡ map told_by_bound (bound_by_catch (environments p.node p.path) x)
      one = go (is kind.BindingIdentifier x)

  -- a function that stays where it stands, or has its name as an expression
  abbrev Stays : Type 0
  Stays = is_statement p.node ≡ true → (is_block_function p ≡ false) × (language.is_block_function s p.node p.path ≡ false) × (is_made_for environment.IfBody (innermost (environments p.node p.path)) ≡ false)

  functions_told : Stays
      → map told_by_declaration (cond (is_statement p.node) [] (map (declaration_at p.node (own_function_row p (opened_scope p 0)) (has mark.Pure p.node)) (ids p.node)) ++ cond (is_statement p.node) (map (declaration_at p.node (function_row p) (has mark.Pure p.node)) (ids p.node)) [])
      ≡ map told_by_bound (bound_by_node kind.Function s p.node p.path)
  functions_told stays = go (is_statement p.node) refl
    where
      go : (b : Bool) → is_statement p.node ≡ b
          → map told_by_declaration (cond b [] (map (declaration_at p.node (own_function_row p (opened_scope p 0)) (has mark.Pure p.node)) (ids p.node)) ++ cond b (map (declaration_at p.node (function_row p) (has mark.Pure p.node)) (ids p.node)) [])
          ≡ map told_by_bound (map (cond b (bound_by_declaration s p.node p.path) (bound_identifier bound.OwnName (record { kind = environment.OwnName; maker = p.node.node_id }) [] [])) (ids p.node))
      go false e = same_told_last (declaration_at p.node (own_function_row p (opened_scope p 0)) (has mark.Pure p.node)) (bound_identifier bound.OwnName (record { kind = environment.OwnName; maker = p.node.node_id }) [] []) (ids p.node) (λ id. refl)
      go true e =
          let (tables, ours, no_body) = stays e in
          let made : maker_of_scope (place.innermost p.chain) ≡ maker_of_environment (innermost (environments p.node p.path)) = innermost_made p.chain p.node p.path known.round (inr no_body) in
          same_told (declaration_at p.node (function_row p) (has mark.Pure p.node)) (bound_by_declaration s p.node p.path) (ids p.node) (λ id. rw (tables, ours) (ap (λ m. told id m.node) made))

  functions : p.node.kind ≡ kind.Function → may_leave_block s p.node p.path ≡ false
      → map told_by_declaration (cond (is_statement p.node) [] (map (declaration_at p.node (own_function_row p (opened_scope p 0)) (has mark.Pure p.node)) (ids p.node)) ++ cond (is_statement p.node) (map (declaration_at p.node (function_row p) (has mark.Pure p.node)) (ids p.node)) [])
      ≡ map told_by_bound (bound_by_node kind.Function s p.node p.path)
  functions k h = functions_told (λ e. let stays : StaysInBlock s p.node p.path = stays_in_block s p.node p.path k e h in (stays_there s p known strict k stays, stays.ours, stays.no_body))

  classes : IsPlain p.node p.path → map told_by_declaration (cond (is_statement p.node) [] (map (declaration_at p.node (class_row p (opened_scope p 0 ∷ [])) false) (ids p.node)) ++ cond (is_statement p.node) (map (declaration_at p.node (class_row p p.chain) false) (ids p.node)) [])
      ≡ map told_by_bound (bound_by_node kind.Class s p.node p.path)
  classes plain = go (is_statement p.node)
    where
      go : (b : Bool) → map told_by_declaration (cond b [] (map (declaration_at p.node (class_row p (opened_scope p 0 ∷ [])) false) (ids p.node)) ++ cond b (map (declaration_at p.node (class_row p p.chain) false) (ids p.node)) [])
          ≡ map told_by_bound (map (cond b (bound_identifier bound.Lexical (innermost (environments p.node p.path)) (record { kind = environment.Class; maker = p.node.node_id } ∷ []) []) (bound_identifier bound.OwnName (record { kind = environment.Class; maker = p.node.node_id }) [] [])) (ids p.node))
      go true = same_told (declaration_at p.node (class_row p p.chain) false) (bound_identifier bound.Lexical (innermost (environments p.node p.path)) (record { kind = environment.Class; maker = p.node.node_id } ∷ []) []) (ids p.node) (λ id. ap (told id) (stands_here plain))
      go false = same_told_last (declaration_at p.node (class_row p (opened_scope p 0 ∷ [])) false) (bound_identifier bound.OwnName (record { kind = environment.Class; maker = p.node.node_id }) [] []) (ids p.node) (λ id. refl)

  not_function : (k : AstType) → p.node.kind ≡ k → same_kind k kind.Function ≡ false → IsPlain p.node p.path
  not_function k e h = inl (ap (λ b. b && is_statement p.node) (ap (λ q. same_kind q kind.Function) e ∙ h))

  no_root : (k : AstType) → p.node.kind ≡ k → (k ≡ kind.Program → ⊥) → p.path ≡ [] → ⊥
  no_root k e n h = n (sym e ∙ known.rooted h)

  by_kind : (k : AstType) → p.node.kind ≡ k → is_ecmascript_kind k ≡ true → may_leave_block s p.node p.path ≡ false → is_bare_rest p.node p.path ≡ false
      → map told_by_declaration (declared_inside k p (opened_scope p 0) ++ declared_by k p) ≡ map told_by_bound (bound_by_node k s p.node p.path)
  by_kind kind.VariableDeclarator k j h r = variables (not_function kind.VariableDeclarator k refl) p.path refl
  by_kind kind.Function k j h r = functions k h
  by_kind kind.Class k j h r = classes (not_function kind.Class k refl)
  by_kind kind.FormalParameter k j h r = parameters (not_function kind.FormalParameter k refl) p.path (no_root kind.FormalParameter k (λ q. absurd cc))
  by_kind kind.FormalParameterRest k j h r = parameters (not_function kind.FormalParameterRest k refl) p.path (no_root kind.FormalParameterRest k (λ q. absurd cc))
  by_kind kind.BindingRestElement k j h r = bare (parent_holds (is kind.FormalParameters) p.path) (rw k at r)
    where
      bare : (b : Bool) → b ≡ false → map told_by_declaration (cond b (declare_here p symbol.FunctionScopedVariable.bits (union symbol.FunctionScopedVariableExcludes.bits symbol.FunctionScopedVariable.bits) (bound_names p.node)) []) ≡ []
      bare true e = absurd cc
      bare false e = refl
  by_kind kind.CatchParameter k j h r = catches (not_function kind.CatchParameter k refl) (children_of role.Pattern p.node.children)
  by_kind kind.ImportSpecifier k j h r = names_here (not_function kind.ImportSpecifier k refl) (import_flags p) symbol.ImportBindingExcludes.bits bound.Lexical (names_at role.Local p.node)
  by_kind kind.ImportDefaultSpecifier k j h r = names_here (not_function kind.ImportDefaultSpecifier k refl) (import_flags p) symbol.ImportBindingExcludes.bits bound.Lexical (names_at role.Local p.node)
  by_kind kind.ImportNamespaceSpecifier k j h r = names_here (not_function kind.ImportNamespaceSpecifier k refl) (import_flags p) symbol.ImportBindingExcludes.bits bound.Lexical (names_at role.Local p.node)
  by_kind kind.TSImportEqualsDeclaration k j h r = absurd cc
  by_kind kind.TSTypeAliasDeclaration k j h r = absurd cc
  by_kind kind.TSInterfaceDeclaration k j h r = absurd cc
  by_kind kind.TSEnumDeclaration k j h r = absurd cc
  by_kind kind.TSEnumMember k j h r = absurd cc
  by_kind kind.TSNamespaceDeclaration k j h r = absurd cc
  by_kind kind.TSTypeParameter k j h r = absurd cc
  by_kind kind.TSMappedType k j h r = absurd cc
  by_kind _ k j h r = refl

declares_as_bound : (s : SourceType) (p : Place) → IsKnown p → Strict s p → DeclaresAsBound s p
declares_as_bound s p known strict = λ h. by_kind s p known strict p.node.kind refl known.ecmascript h known.whole

declares_all : (s : SourceType) (ss : List Step) → EachStep KnownAt ss → EachStep (StrictAt s) ss → EachStep (Declares s) ss
declares_all s [] k t = tt
declares_all s (entering p ∷ ss) k t = (declares_as_bound s p k.0 t.0, declares_all s ss k.1 t.1)
declares_all s (opening p o ∷ ss) k t = (tt, declares_all s ss k.1 t.1)
declares_all s (header_ending p o ∷ ss) k t = (tt, declares_all s ss k.1 t.1)
declares_all s (closing p o ∷ ss) k t = (tt, declares_all s ss k.1 t.1)
declares_all s (leaving p ∷ ss) k t = (tt, declares_all s ss k.1 t.1)

pub declarations_are_bound : (p : Tree) → first_fault p ≡ None → is_ecmascript p ≡ true → DeclarationsAreBound p
declarations_are_bound p h e = declares_all p.source_type (steps p) (known_program p h e) (strict_program p h e)
