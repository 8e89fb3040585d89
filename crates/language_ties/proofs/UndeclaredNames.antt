-- A name that nothing binds is free in the tables, wherever it is used.
use Rattle.std.proofs.Common.{◌≡◌, ℕ, List, [], ◌∷◌, ◌++◌, Option, Some, None, Bool, true, false, ◌&&◌, ◌||◌, cond, map, flat_map, filter, refl, sym, ap, subst, ◌∙◌, inl, inr, codes, if◌then◌else◌, bytes_eq}
use Rattle.std.proofs.lemmas.Bool.{or_parts}
use Rattle.std.specs.List.{list_any}
use Rattle.semantic_kinds.specs.declared.kind.AstType.{AstType}
use Rattle.semantic_kinds.specs.declared.kind.AstType.TheVariants as kind
use Rattle.semantic_kinds.specs.declared.mark.Mark.TheVariants as mark
use Rattle.semantic_kinds.specs.declared.role.Role.TheVariants as role
use Rattle.semantic_syntax.specs.Sets.{union}
use Rattle.semantic_syntax.specs.declared.symbol_flags.TheConstants.SymbolFlags as symbol
use Rattle.semantic_syntax.specs.Tables.{Name}
use Rattle.semantic_syntax.specs.declared.source_type.SourceType.{SourceType}
use Rattle.semantic_tree.specs.Faults.{first_fault}
use Rattle.semantic_tree.specs.Forest.{Forest, nothing, tree}
use Rattle.semantic_tree.specs.Tree.{Tree}
use Rattle.semantic_tree.specs.Views.{is, is_with_text, has, children_of}
use Rattle.semantic_tree.specs.declared.node.Node.{Node}
use Rattle.semantic_model.specs.Binder.{BinderRow, declaration_at, is_statement, variable_row, variables_under, is_pure_declarator, function_row, own_function_row, class_row, parameter_excluded, parameters_under, import_flags, catch_names, ids, declared_by, declared_inside, declared_on_entering, declared_on_opening}
use Rattle.semantic_model.specs.Cursor.{on_entering}
use Rattle.semantic_model.specs.Declaration.{Declaration, plain, caught, here}
use Rattle.semantic_model.specs.EachStep.{EachStep}
use Rattle.semantic_model.specs.Entries.{Among}
use Rattle.semantic_model.specs.Event.{Event, declares, takes_over, declared, declared_at, declarations, events, events_of, declares_all, placed, taken_over, is_catch_body, written_declarations}
use Rattle.semantic_model.specs.Fits.{DeclaredAs}
use Rattle.semantic_model.specs.NodeTable.{node_tables}
use Rattle.semantic_model.specs.Names.{bound_names, bound_below, names_at}
use Rattle.semantic_model.specs.Place as place
use Rattle.semantic_model.specs.Place.{Place, OpenScope}
use Rattle.semantic_model.specs.Step.{Step, entering, opening, header_ending, closing, leaving, steps, steps_below, root_place}
use Rattle.semantic_model.specs.TablesOf.{tables_of}
use Rattle.std.proofs.lemmas.List.{append-nil, map-append}
use Rattle.semantic_model.specs.ScopeKind.{opened_scope}
use Rattle.semantic_model.proofs.fits.NothingInvented.{nothing_invented}
use Rattle.semantic_model.proofs.form.Shape.{has_form}
use Rattle.semantic_model.proofs.lists.Members.{among_left, among_right, among_cases}
use Rattle.semantic_model.proofs.once.ListedUnder.{name_tells}
use Rattle.semantic_model.proofs.steps.EachStep.{EachOfTurn, each_left, each_of_node, each_of_turn, turn_of_each}
use Rattle.semantic_model.proofs.steps.Turn.{Turn, turn_at}
use Rattle.semantic_model.proofs.steps.TurnCases.{opening_case, ending_case, last_case}
use Rattle.program_laws.specs.SymbolNames.{IsNamed}
use Rattle.program_laws.proofs.DeclaredNodes.{among_map, among_flat}
use Rattle.program_laws.proofs.TiedNames.{ties_have_names}
use Rattle.binding_laws.proofs.DeclaredMade.{placed_naming}
use Rattle.binding_laws.proofs.ListLaws.{each_at, each_map}
use Rattle.language_ties.specs.Bound.{Bound, bound_identifier, bound_here, bound_outward, bound_by_declarator, bound_by_declaration, bound_by_catch, bound_by_node, written}
use Rattle.language_ties.specs.Bound as language
use Rattle.language_ties.specs.EcmaScript.{is_ecmascript_kind, is_ecmascript}
use Rattle.language_ties.specs.Environments.{Environment, same_environment, environments, innermost, passed, variable_environment}
use Rattle.language_ties.specs.Meaning.{is_bound_in, identifiers_in}
use Rattle.language_ties.specs.Moved.{moved as moved_by, unless_barred, bound_of}
use Rattle.language_ties.specs.ToldNames.{Named, named_by_declaration, named_by_bound, NamesAsBound, NamesAreBound}
use Rattle.language_ties.specs.UnboundNames.{binds_name, IsFreeEverywhere}
use Rattle.language_ties.specs.declared.bound_as.BoundAs.TheVariants as bound
use Rattle.language_ties.specs.declared.environment_kind.EnvironmentKind.TheVariants as environment
use Rattle.language_ties.proofs.EnvironmentsRound.{IsKnown, KnownAt, known_program}
use Rattle.language_ties.proofs.SwitchShape.{is_bare_rest}

-- ---- the names of a node

abbrev name_of_declaration : Declaration → Name
name_of_declaration d = d.naming.name

abbrev name_of_bound : Bound → Name
name_of_bound b = b.name

same_names : (f : Node → Declaration) (g : Node → Bound) (names : List Node) → ((id : Node) → named_by_declaration (f id) ≡ named_by_bound (g id)) → map named_by_declaration (map f names) ≡ map named_by_bound (map g names)
same_names f g [] h = refl
same_names f g (x ∷ xs) h = λ i. h x i ∷ same_names f g xs h i

same_names_last : (f : Node → Declaration) (g : Node → Bound) (names : List Node) → ((id : Node) → named_by_declaration (f id) ≡ named_by_bound (g id)) → map named_by_declaration (map f names ++ []) ≡ map named_by_bound (map g names)
same_names_last f g names h = ap (map named_by_declaration) (append-nil (map f names)) ∙ same_names f g names h

abbrev named : Node → Named
named id = record { identifier = id.node_id; name = id.text }

either_name : (b : Bool) (f g : Node → Bound) (id : Node) → named_by_bound (f id) ≡ named id → named_by_bound (g id) ≡ named id → named id ≡ named_by_bound (cond b f g id)
either_name true f g id h k = sym h
either_name false f g id h k = sym k

either_bound : (b : Bool) (x y : Bound) (n : Named) → named_by_bound x ≡ n → named_by_bound y ≡ n → n ≡ named_by_bound (cond b x y)
either_bound true x y n h k = sym h
either_bound false x y n h k = sym k

module _ (s : SourceType) (p : Place) (own : OpenScope) where
  variable_names : (path : List Node) → map named_by_declaration (variables_under path p) ≡ map named_by_bound (bound_by_declarator p.node path)
  variable_names [] = refl
  variable_names (declaration ∷ path) =
      let es : List Environment = environments p.node (declaration ∷ path) in
      let b : Bool = is_with_text kind.VariableDeclaration (codes "var") declaration in
      same_names (declaration_at p.node (variable_row declaration p.chain) (is_pure_declarator p.node)) (cond b (bound_outward es) (bound_here bound.Lexical es)) (bound_names p.node) (λ id. either_name b (bound_outward es) (bound_here bound.Lexical es) id refl refl)

  parameter_names : (path : List Node) → (path ≡ [] → ⊥) → map named_by_declaration (parameters_under path p) ≡ map named_by_bound (map (bound_here bound.Parameter (environments p.node p.path)) (bound_names p.node))
  parameter_names [] e = absurd (e refl)
  parameter_names (list ∷ path) e = same_names (declaration_at p.node (record { flags = symbol.FunctionScopedVariable.bits; excluded = parameter_excluded list p.chain; how = plain; route = here p.chain }) false) (bound_here bound.Parameter (environments p.node p.path)) (bound_names p.node) (λ id. refl)

  catch_clause_names : (patterns : List Node) → map named_by_declaration (flat_map (catch_names p) patterns) ≡ map named_by_bound (flat_map (bound_by_catch (environments p.node p.path)) patterns)
  catch_clause_names [] = refl
  catch_clause_names (x ∷ xs) =
      map-append named_by_declaration (catch_names p x) (flat_map (catch_names p) xs)
      ∙ (λ i. go (is kind.BindingIdentifier x) i ++ catch_clause_names xs i)
      ∙ sym (map-append named_by_bound (bound_by_catch (environments p.node p.path) x) (flat_map (bound_by_catch (environments p.node p.path)) xs))
    where
      row : BinderRow
      row = record { flags = union symbol.FunctionScopedVariable.bits symbol.CatchVariable.bits; excluded = 0; how = caught; route = here p.chain }

      lexical : BinderRow
      lexical = record { flags = union symbol.BlockScopedVariable.bits symbol.CatchVariable.bits; excluded = symbol.BlockScopedVariableExcludes.bits; how = plain; route = here p.chain }

      go : (b : Bool) → map named_by_declaration (if b then declaration_at p.node row false x ∷ [] else map (declaration_at p.node lexical false) (cond b (x ∷ []) (bound_below x.kind x.children)))
          ≡ map named_by_bound (map (bound_here (cond b bound.CatchName bound.Lexical) (environments p.node p.path)) (cond b (x ∷ []) (bound_below x.kind x.children)))
      go true = refl
      go false = same_names (declaration_at p.node lexical false) (bound_here bound.Lexical (environments p.node p.path)) (bound_below x.kind x.children) (λ id. refl)

  function_names : map named_by_declaration (declared_inside kind.Function p own ++ declared_by kind.Function p) ≡ map named_by_bound (bound_by_node kind.Function s p.node p.path)
  function_names = go (is_statement p.node)
    where
      es : List Environment
      es = environments p.node p.path

      go : (b : Bool) → map named_by_declaration (cond b [] (map (declaration_at p.node (own_function_row p own) (has mark.Pure p.node)) (ids p.node)) ++ cond b (map (declaration_at p.node (function_row p) (has mark.Pure p.node)) (ids p.node)) [])
          ≡ map named_by_bound (map (cond b (bound_by_declaration s p.node p.path) (bound_identifier bound.OwnName (record { kind = environment.OwnName; maker = p.node.node_id }) [] [])) (ids p.node))
      go true = same_names (declaration_at p.node (function_row p) (has mark.Pure p.node)) (bound_by_declaration s p.node p.path) (ids p.node)
          (λ id. either_bound (language.is_block_function s p.node p.path) (bound_identifier bound.Function (innermost es) (variable_environment es ∷ []) (passed es) id) (bound_here bound.Function es id) (named id) refl refl)
      go false = same_names_last (declaration_at p.node (own_function_row p own) (has mark.Pure p.node)) (bound_identifier bound.OwnName (record { kind = environment.OwnName; maker = p.node.node_id }) [] []) (ids p.node) (λ id. refl)

  class_names : map named_by_declaration (declared_inside kind.Class p own ++ declared_by kind.Class p) ≡ map named_by_bound (bound_by_node kind.Class s p.node p.path)
  class_names = go (is_statement p.node)
    where
      go : (b : Bool) → map named_by_declaration (cond b [] (map (declaration_at p.node (class_row p (own ∷ [])) false) (ids p.node)) ++ cond b (map (declaration_at p.node (class_row p p.chain) false) (ids p.node)) [])
          ≡ map named_by_bound (map (cond b (bound_identifier bound.Lexical (innermost (environments p.node p.path)) (record { kind = environment.Class; maker = p.node.node_id } ∷ []) []) (bound_identifier bound.OwnName (record { kind = environment.Class; maker = p.node.node_id }) [] [])) (ids p.node))
      go true = same_names (declaration_at p.node (class_row p p.chain) false) (bound_identifier bound.Lexical (innermost (environments p.node p.path)) (record { kind = environment.Class; maker = p.node.node_id } ∷ []) []) (ids p.node) (λ id. refl)
      go false = same_names_last (declaration_at p.node (class_row p (own ∷ [])) false) (bound_identifier bound.OwnName (record { kind = environment.Class; maker = p.node.node_id }) [] []) (ids p.node) (λ id. refl)

  import_names : map named_by_declaration (declared_by kind.ImportSpecifier p) ≡ map named_by_bound (bound_by_node kind.ImportSpecifier s p.node p.path)
  import_names = same_names (declaration_at p.node (record { flags = import_flags p; excluded = symbol.ImportBindingExcludes.bits; how = plain; route = here p.chain }) false) (bound_here bound.Lexical (environments p.node p.path)) (names_at role.Local p.node) (λ id. refl)

  no_rest : (b : Bool) (ds : List Declaration) → b ≡ false → map named_by_declaration (cond b ds []) ≡ []
  no_rest true ds e = absurd cc
  no_rest false ds e = refl

  not_root : (k : AstType) → p.node.kind ≡ k → (k ≡ kind.Program → ⊥) → (p.path ≡ [] → p.node.kind ≡ kind.Program) → p.path ≡ [] → ⊥
  not_root k e n h q = n (sym e ∙ h q)

  names_by : (k : AstType) → p.node.kind ≡ k → is_ecmascript_kind k ≡ true → is_bare_rest p.node p.path ≡ false → (p.path ≡ [] → p.node.kind ≡ kind.Program)
      → map named_by_declaration (declared_inside k p own ++ declared_by k p) ≡ map named_by_bound (bound_by_node k s p.node p.path)
  names_by kind.VariableDeclarator k j r u = variable_names p.path
  names_by kind.Function k j r u = function_names
  names_by kind.Class k j r u = class_names
  names_by kind.FormalParameter k j r u = parameter_names p.path (not_root kind.FormalParameter k (λ q. absurd cc) u)
  names_by kind.FormalParameterRest k j r u = parameter_names p.path (not_root kind.FormalParameterRest k (λ q. absurd cc) u)
  names_by kind.BindingRestElement k j r u = no_rest (place.parent_holds (is kind.FormalParameters) p.path) _ (rw k at r)
  names_by kind.CatchParameter k j r u = catch_clause_names (children_of role.Pattern p.node.children)
  names_by kind.ImportSpecifier k j r u = import_names
  names_by kind.ImportDefaultSpecifier k j r u = import_names
  names_by kind.ImportNamespaceSpecifier k j r u = import_names
  names_by kind.TSImportEqualsDeclaration k j r u = absurd cc
  names_by kind.TSTypeAliasDeclaration k j r u = absurd cc
  names_by kind.TSInterfaceDeclaration k j r u = absurd cc
  names_by kind.TSEnumDeclaration k j r u = absurd cc
  names_by kind.TSEnumMember k j r u = absurd cc
  names_by kind.TSNamespaceDeclaration k j r u = absurd cc
  names_by kind.TSTypeParameter k j r u = absurd cc
  names_by kind.TSMappedType k j r u = absurd cc
  names_by _ k j r u = refl

-- a declaration of the list has a namesake in the other
among_names : (ds : List Declaration) (bs : List Bound) → map named_by_declaration ds ≡ map named_by_bound bs → (d : Declaration) → Among d ds → (b : Bound) × Among b bs × (named_by_bound b ≡ named_by_declaration d)
among_names [] bs h d a = absurd a
among_names (x ∷ ds) [] h d a = absurd cc
among_names (x ∷ ds) (y ∷ bs) h d (inl e) = let q : named_by_declaration x ≡ named_by_bound y = cc in (y, inl refl, sym q ∙ ap named_by_declaration e)
among_names (x ∷ ds) (y ∷ bs) h d (inr a) =
    let q : map named_by_declaration ds ≡ map named_by_bound bs = cc in
    let (b, c, e) = among_names ds bs q d a in (b, inr c, e)

-- ---- the steps

module _ (s : SourceType) (x : Name) (Q : ℕ → Type 0) where
  -- of the identifiers of the name, as they are bound and as they are declared
  abbrev Unbound : Place → Type 0
  Unbound p = (b : Bound) → Among b (bound_by_node p.node.kind s p.node p.path) → b.name ≡ x → Q b.identifier

  abbrev UnboundAt : Step → Type 0
  UnboundAt (entering p) = Unbound p
  UnboundAt (opening p o) = Unit {0}
  UnboundAt (header_ending p o) = Unit {0}
  UnboundAt (closing p o) = Unit {0}
  UnboundAt (leaving p) = Unit {0}

  abbrev Undeclared : Step → Type 0
  Undeclared st = (d : Declaration) → Among d (declared_at st) → d.naming.name ≡ x → Q d.naming.identifier

  place_undeclared : (p : Place) (own : OpenScope) → IsKnown p → Unbound p → (d : Declaration) → Among d (declared_on_opening p own ++ declared_on_entering p) → d.naming.name ≡ x → Q d.naming.identifier
  place_undeclared p own k u d a h =
      let (b, c, e) = among_names (declared_on_opening p own ++ declared_on_entering p) (bound_by_node p.node.kind s p.node p.path) (names_by s p own p.node.kind refl k.ecmascript k.whole k.rooted) d a in
      subst Q (ap (λ n. n.identifier) e) (u b c (ap (λ n. n.name) e ∙ h))

  on_opening : (p : Place) (n : ℕ) → IsKnown p → Unbound p → Undeclared (opening p (opened_scope p n))
  on_opening p n k u d a h = place_undeclared p (opened_scope p n) k u d (among_left d (declared_on_opening p (opened_scope p n)) (declared_on_entering p) a) h

  on_enter : (p : Place) → IsKnown p → Unbound p → Undeclared (entering p)
  on_enter p k u d a h = place_undeclared p (opened_scope p 0) k u d (among_right d (declared_on_opening p (opened_scope p 0)) (declared_on_entering p) a) h

  undeclared_steps : (p : Place) (own : Option OpenScope) (n cursor : ℕ) (f : Forest) → IsKnown p → Unbound p → EachStep KnownAt (steps_below p own n cursor f) → EachStep UnboundAt (steps_below p own n cursor f) → EachStep Undeclared (steps_below p own n cursor f)
  undeclared_steps p own n cursor nothing k u ks us = last_case (EachStep Undeclared) p own n tt (on_opening p n k u, ((λ d a h. absurd a), tt))
  undeclared_steps p own n cursor (tree r k2 span text marks below id after) k u ks us =
      let node : Node = record { kind = k2; span = span; text = text; marks = marks; children = below; node_id = id } in
      let turn : Turn = turn_at p own n cursor r node after in
      let known : EachOfTurn KnownAt turn = turn_of_each KnownAt turn ks in
      let unbound : EachOfTurn UnboundAt turn = turn_of_each UnboundAt turn us in
      let child_known : IsKnown turn.child = known.whole.0 in
      let child_unbound : Unbound turn.child = unbound.whole.0 in
      each_of_turn Undeclared turn (record {
        before = opening_case (EachStep Undeclared) p r own n tt (on_opening p n k u, tt);
        whole = each_of_node Undeclared turn.child turn.below (on_enter turn.child child_known child_unbound)
            (undeclared_steps turn.child None turn.next turn.inner below child_known child_unbound (each_left KnownAt turn.below (leaving turn.child ∷ []) known.whole.1) (each_left UnboundAt turn.below (leaving turn.child ∷ []) unbound.whole.1))
            (λ d a h. absurd a);
        behind = ending_case (EachStep Undeclared) p r turn.scope after tt (λ o. ((λ d a h. absurd a), tt)) (λ o. ((λ d a h. absurd a), tt)) (λ o. ((λ d a h. absurd a), ((λ d a h. absurd a), tt)));
        others = undeclared_steps p turn.scope turn.rest turn.past after k u known.others unbound.others;
      })

  -- ---- the declarations of a program

  of_all : (ds new : List Declaration) (e : Event) (d : Declaration) → ((n : Declaration) → Among n new → n.naming.name ≡ x → Q n.naming.identifier) → Among e (declares_all ds new) → Among d (declared e) → d.naming.name ≡ x → Q d.naming.identifier
  of_all ds new e d u a b h =
      let (n, c, q) = among_map (λ n. declares (placed ds n)) new e a in
      go n c (subst (λ y. Among d (declared y)) (sym q) b)
    where
      go : (n : Declaration) → Among n new → Among d (placed ds n ∷ []) → Q d.naming.identifier
      go n c (inl r) =
          subst Q (sym (ap (λ m. m.identifier) (placed_naming n.how ds n)) ∙ ap (λ m. m.naming.identifier) r)
          (u n c (sym (ap (λ m. m.name) (placed_naming n.how ds n)) ∙ ap name_of_declaration r ∙ h))
      go n c (inr r) = absurd r

  of_step : (ds : List Declaration) (st : Step) (e : Event) (d : Declaration) → Undeclared st → Among e (events_of ds st) → Among d (declared e) → d.naming.name ≡ x → Q d.naming.identifier
  of_step ds (entering p) e d u a b h = of_all ds (declared_on_entering p) e d u a b h
  of_step ds (opening p o) e d u a b h = elim (among_cases e (taken_over p o) (declares_all ds (declared_on_opening p o)) a) [
    | inl q ↦ absurd (taken (is_catch_body p) q)
    | inr q ↦ of_all ds (declared_on_opening p o) e d u q b h
  ]
    where
      taken : (t : Bool) → Among e (cond t (takes_over (place.innermost p.chain).number o.number ∷ []) []) → ⊥
      taken true (inl r) = subst (λ y. Among d (declared y)) (sym r) b
      taken true (inr r) = r
      taken false r = r
  of_step ds (header_ending p o) e d u (inl q) b h = absurd (subst (λ y. Among d (declared y)) (sym q) b)
  of_step ds (header_ending p o) e d u (inr q) b h = absurd q
  of_step ds (closing p o) e d u a b h = absurd a
  of_step ds (leaving p) e d u a b h = absurd a

  of_program : (p : Tree) → EachStep Undeclared (steps p) → (d : Declaration) → Among d (declarations (events (steps p))) → d.naming.name ≡ x → Q d.naming.identifier
  of_program p u d a h =
      let (e, b, c) = among_flat declared (events (steps p)) d a in
      let (st, f, g) = among_flat (events_of (written_declarations (steps p))) (steps p) e b in
      of_step (written_declarations (steps p)) st e d (each_at Undeclared (steps p) st u f) g c h

  each_unbound : (ss : List Step) → ((b : Bound) → Among b (written s ss) → b.name ≡ x → Q b.identifier) → EachStep UnboundAt ss
  each_unbound [] h = tt
  each_unbound (entering p ∷ ss) h = ((λ b a e. h b (among_left b (bound_by_node p.node.kind s p.node p.path) (written s ss) a) e), each_unbound ss (λ b a e. h b (among_right b (bound_by_node p.node.kind s p.node p.path) (written s ss) a) e))
  each_unbound (opening p o ∷ ss) h = (tt, each_unbound ss h)
  each_unbound (header_ending p o ∷ ss) h = (tt, each_unbound ss h)
  each_unbound (closing p o ∷ ss) h = (tt, each_unbound ss h)
  each_unbound (leaving p ∷ ss) h = (tt, each_unbound ss h)

  -- so it is of the declarations of a program, where it is of what that binds
  pub each_identifier : (p : Tree) → first_fault p ≡ None → is_ecmascript p ≡ true → ((b : Bound) → Among b (written s (steps p)) → b.name ≡ x → Q b.identifier) → (d : Declaration) → Among d (declarations (events (steps p))) → d.naming.name ≡ x → Q d.naming.identifier
  each_identifier p h e b = of_program p undeclared
    where
      unbound : EachStep UnboundAt (steps p)
      unbound = each_unbound (steps p) b

      known : EachStep KnownAt (steps p)
      known = known_program p h e

      below : List Step
      below = steps_below (root_place p) None 0 (on_entering p.root.kind 0) p.root.children

      undeclared : EachStep Undeclared (steps p)
      undeclared = each_of_node Undeclared (root_place p) below (on_enter (root_place p) known.0 unbound.0)
          (undeclared_steps (root_place p) None 0 (on_entering p.root.kind 0) p.root.children known.0 unbound.0 (each_left KnownAt below (leaving (root_place p) ∷ []) known.1) (each_left UnboundAt below (leaving (root_place p) ∷ []) unbound.1))
          (λ d a k. absurd a)

-- ---- names that nothing binds

module _ (x : Name) where
  abbrev has_name : Bound → Bool
  has_name b = bytes_eq b.name x

  none_named : (bs : List Bound) → list_any has_name bs ≡ false → (b : Bound) → Among b bs → b.name ≡ x → ⊥
  none_named [] h b a e = absurd a
  none_named (c ∷ bs) h b (inl q) e = elim (name_tells c.name x) [
    | inl t ↦ (let w : true ≡ false = sym t.0 ∙ (or_parts (bytes_eq c.name x) (list_any has_name bs) h).0 in absurd cc)
    | inr t ↦ t.1 (ap name_of_bound q ∙ e)
  ]
  none_named (c ∷ bs) h b (inr a) e = none_named bs (or_parts (bytes_eq c.name x) (list_any has_name bs) h).1 b a e

  skipped : (f : Bound → Bool) (c : Bound) (cs : List Bound) → f c ≡ false → filter f (c ∷ cs) ≡ filter f cs
  skipped f c cs h = rw h refl

  -- no environment binds it
  no_identifiers : (all bs : List Bound) (e : Environment) → list_any has_name bs ≡ false → identifiers_in (map (moved_by all) bs) e x ≡ []
  no_identifiers all [] e h = refl
  no_identifiers all (b ∷ bs) e h =
      let q : (bytes_eq b.name x ≡ false) × (list_any has_name bs ≡ false) = or_parts (bytes_eq b.name x) (list_any has_name bs) h in
      let same : (moved_by all b).name ≡ b.name = kept (language.is_bound_as bound.Function b) in
      let test : is_bound_in e x (moved_by all b) ≡ false =
      ap (λ t. t && (same_environment (moved_by all b).environment e || list_any (λ d. same_environment d e) (moved_by all b).also)) (ap (λ n. bytes_eq n x) same ∙ q.0) in
      ap (map (λ c. c.identifier)) (skipped (is_bound_in e x) (moved_by all b) (map (moved_by all) bs) test) ∙ no_identifiers all bs e q.1
    where
      kept : (t : Bool) → (cond t (record b { also = unless_barred all b b.also }) b).name ≡ b.name
      kept true = refl
      kept false = refl

pub unbound_nowhere : (p : Tree) (x : Name) (e : Environment) → binds_name p x ≡ false → identifiers_in (bound_of p) e x ≡ []
unbound_nowhere p x e h = no_identifiers x (written p.source_type (steps p)) (written p.source_type (steps p)) e h

pub unbound_is_free : (p : Tree) (x : Name) → first_fault p ≡ None → is_ecmascript p ≡ true → binds_name p x ≡ false → IsFreeEverywhere p x
unbound_is_free p x h e b n r t i j q = go t.symbol_id refl
  where
    go : (o : Option ℕ) → t.symbol_id ≡ o → t.symbol_id ≡ None
    go None k = k
    go (Some y) k =
        let named : IsNamed (tables_of p) y r.name = ties_have_names p (has_form p h) n y r t i j k in
        let d : DeclaredAs (node_tables (steps p)).symbols (declarations (events (steps p))) y named.symbol.name = (nothing_invented p (has_form p h)).symbols y named.symbol named.is_there in
        absurd (each_identifier p.source_type x (λ m. ⊥) p h e (none_named x (written p.source_type (steps p)) b) d.declaration d.among (d.named ∙ named.named ∙ q))

-- ---- all names

named_at : (s : SourceType) (st : Step) → KnownAt st → NamesAsBound s st
named_at s (entering p) k = names_by s p (opened_scope p 0) p.node.kind refl k.ecmascript k.whole k.rooted
named_at s (opening p o) k = tt
named_at s (header_ending p o) k = tt
named_at s (closing p o) k = tt
named_at s (leaving p) k = tt

pub names_are_bound : (p : Tree) → first_fault p ≡ None → is_ecmascript p ≡ true → NamesAreBound p
names_are_bound p h e = each_map KnownAt (NamesAsBound p.source_type) (named_at p.source_type) (steps p) (known_program p h e)
