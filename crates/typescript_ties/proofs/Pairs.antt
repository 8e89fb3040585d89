-- Each declaration that the tables are told with the one of the language that it is.
use Rattle.std.proofs.Common.{◌≡◌, ℕ, suc, List, [], ◌∷◌, ◌++◌, None, Bool, true, false, ◌&&◌, ◌||◌, not, cond, map, flat_map, refl, sym, ap, subst, ◌∙◌, inl, inr, ◌⊎◌, codes, if◌then◌else◌}
use Rattle.std.specs.List.{list_any}
use Rattle.semantic_kinds.specs.Kinds.{same_kind}
use Rattle.semantic_kinds.specs.declared.kind.AstType.{AstType}
use Rattle.semantic_kinds.specs.declared.kind.AstType.TheVariants as kind
use Rattle.semantic_kinds.specs.declared.mark.Mark.TheVariants as mark
use Rattle.semantic_kinds.specs.declared.role.Role.TheVariants as role
use Rattle.semantic_syntax.specs.Sets.{meets, union}
use Rattle.semantic_syntax.specs.SourceTypes.{is_typescript}
use Rattle.semantic_syntax.specs.declared.source_type.SourceType.{SourceType}
use Rattle.semantic_syntax.specs.declared.symbol_flags.TheConstants.SymbolFlags as symbol
use Rattle.semantic_tree.specs.Tree.{Tree}
use Rattle.semantic_tree.specs.Views.{is, is_with_text, has, children_of}
use Rattle.semantic_tree.specs.declared.node.Node.{Node}
use Rattle.semantic_model.specs.Binder.{BinderRow, declaration_at, ambient_if, is_var, is_special, is_statement, lexical_flags, variable_row, variables_under, is_pure_declarator, is_block_function, is_clause, is_conditional, function_excluded, class_row, parameter_excluded, parameters_under, catch_names, marked_ambient, member_named, namespace_row, type_parameter_row, ids, declared_by, declared_inside}
use Rattle.semantic_model.specs.Declaration.{Declaration, Route, plain, hoisted, moved, caught, here, passed_before, route_from, outward_to, outward_past}
use Rattle.semantic_model.specs.Entries.{Among}
use Rattle.semantic_model.specs.Inside.{opens, body_number}
use Rattle.semantic_model.specs.Names.{bound_names, bound_below, names_at}
use Rattle.semantic_model.specs.Namespace.{InstanceState, non_instantiated, const_enum_only, instantiated, instance_state, nodes_around}
use Rattle.semantic_model.specs.Place as place
use Rattle.semantic_model.specs.Place.{Place, OpenScope, innermost}
use Rattle.semantic_model.specs.ScopeKind.{opened_scope}
use Rattle.semantic_model.specs.Step.{entering, steps}
use Rattle.binding_laws.specs.SeenDeclarations.{is_own_name}
use Rattle.std.proofs.lemmas.List.{append-nil, map-append}
use Rattle.binding_laws.proofs.ListLaws.{of_map}
use denote.Enum.Bare.{same_true}
use Rattle.typescript_ties.specs.contracts.container_kind.ContainerKind.{the_type as the_container_kinds}
use Rattle.typescript_ties.specs.declared.container_kind.ContainerKind.{ContainerKind}
use Rattle.typescript_ties.specs.Containers.{Container, is_container, same_container_kind, same_container, container_of, bound_container, is_exported_under, is_of_signature, containers_by}
use Rattle.typescript_ties.specs.DeclaredNames.{told_to_tables, told_by_language}
use Rattle.typescript_ties.specs.MeaningSets.{sort_meanings}
use Rattle.typescript_ties.specs.NamedDeclarations.{same_sort, NamedDeclaration, named_declaration, global_besides, declared_here, imported_as, from_first_taking, declared_outward, variables_named, leaves_its_block, namespace_sort, first_condition, named_by_node}
use Rattle.typescript_ties.specs.SimpleNames.{is_simple_sort, is_apart, is_simple, before_first_taking}
use Rattle.typescript_ties.specs.declared.container_kind.ContainerKind.TheVariants as container
use Rattle.typescript_ties.specs.declared.declaration_sort.DeclarationSort.{DeclarationSort}
use Rattle.typescript_ties.specs.declared.declaration_sort.DeclarationSort.TheVariants as sort
use Rattle.typescript_ties.proofs.ChildPlaces.{is_function}
use Rattle.typescript_ties.proofs.Heads.{is_of_header}
use Rattle.typescript_ties.proofs.HeadPlaces.{HeadAt, HasOrigin, IsHeaded, IsCommonPlace, round_place}
use Rattle.typescript_ties.proofs.KnownPlaces.{is_bare_rest}
use Rattle.typescript_ties.proofs.LikeFlags.{IsVariable}
use Rattle.typescript_ties.proofs.VarPlaces.{is_statement_kind}
use Rattle.typescript_ties.proofs.VarRoutes.{TakesIn, StandsWell}
use Rattle.binding_laws.proofs.ScopeOpeners.{openers, IsOpened, AllOpened}
use Rattle.binding_laws.proofs.SmallLaws.{never}
use Rattle.typescript_ties.proofs.OwnScopes.{among_opened}
use Rattle.typescript_ties.proofs.SimpleOnes.{sort_is_simple, is_not_apart}
use Rattle.typescript_ties.proofs.Unheaded.{is_unheaded}

pub container_kind_is : (a b : ContainerKind) → same_container_kind a b ≡ true → a ≡ b
container_kind_is a b h = same_true the_container_kinds tt a b h

-- the flags mean what the sort does
pub record HasMeanings (k : DeclarationSort) (flags : ℕ) : Type 0 where
  pub value : meets flags symbol.ByValueAsType.bits ≡ (sort_meanings k).value
  pub is_type : meets flags symbol.ByType.bits ≡ (sort_meanings k).is_type
  pub namespace : meets flags symbol.AsNamespace.bits ≡ (sort_meanings k).namespace
  pub parameter : (not (same_sort k sort.Parameter) || meets flags symbol.FunctionScopedVariable.bits) ≡ true

-- and are no function expression's
pub record FlagsAre (k : DeclarationSort) (flags : ℕ) : Type 0 where
  pub value : meets flags symbol.ByValueAsType.bits ≡ (sort_meanings k).value
  pub is_type : meets flags symbol.ByType.bits ≡ (sort_meanings k).is_type
  pub namespace : meets flags symbol.AsNamespace.bits ≡ (sort_meanings k).namespace
  pub no_own : meets flags symbol.FunctionExpression.bits ≡ false
  pub parameter : (not (same_sort k sort.Parameter) || meets flags symbol.FunctionScopedVariable.bits) ≡ true

meanings_of : (k : DeclarationSort) (flags : ℕ) → FlagsAre k flags → HasMeanings k flags
meanings_of k flags f = record { value = f.value; is_type = f.is_type; namespace = f.namespace; parameter = f.parameter }

module _ (p : Tree) where
  abbrev s : SourceType
  s = p.source_type

  -- the scope of a function is seen from its header, or has its own name
  pub record IsSeenHeaded (w : Declaration) : Type 0 where
    pub place : Place
    pub entered : Among (entering place) (steps p)
    pub opener : w.route.target.opener ≡ place.node.node_id
    pub header : is_function place.node.kind ≡ true → (w.route.target.in_header || is_own_name w) ≡ true

  -- the declaration goes where the container is
  pub record IsAtHome (w : Declaration) (n : NamedDeclaration) : Type 0 where
    pub opener : w.route.target.opener ≡ n.container.node
    pub lasting : w.route.target.body ≡ None
    pub in_body : is_container container.Body n.container ≡ true → w.route.target.in_header ≡ false
    pub in_header : is_of_header n.container ≡ true → IsSeenHeaded w
    pub unheaded : (sort_meanings n.sort).namespace ≡ true → w.route.target.in_header ≡ false
    pub origin : HasOrigin p n.container
    pub opened : IsOpened (openers (steps p)) w.route.target

  -- a scope round a variable's place stands for a container that the variable passes
  pub record IsPassedAs (q : Place) (z : OpenScope) : Type 0 where
    pub around : Among z q.chain
    pub container : Container
    pub among : Among container (before_first_taking (round_place p q))
    pub stands : container.node ≡ z.opener

  -- how the declaration comes to its symbol: in its scope, or as `var` does
  pub data WayOf (w : Declaration) (n : NamedDeclaration) : Type 0 where
    stays : w.how ≡ plain → WayOf w n
    goes_out : w.how ≡ hoisted → IsVariable w → n.sort ≡ sort.Var → (q : Place) → Among (entering q) (steps p) → Among n (named_by_node q.node.kind s q.node q.path) → ((z : OpenScope) → Among z w.route.passed → IsPassedAs q z) → WayOf w n

  pub record IsSimplePair (w : Declaration) (n : NamedDeclaration) : Type 0 where
    pub how : WayOf w n
    pub flags : HasMeanings n.sort w.naming.flags
    pub own : (is_own_name w ≡ false) ⊎ ((n.sort ≡ sort.FunctionName) × (is_container container.OwnName n.container ≡ true))
    pub home : IsAtHome w n
    pub also : (c : Container) → same_container_kind container.Globals c.kind ≡ false → list_any (λ e. same_container e c) n.also ≡ false

  pub record IsPair (w : Declaration) (n : NamedDeclaration) : Type 0 where
    pub told : told_to_tables w ≡ told_by_language n
    pub simple : is_simple n ≡ true → IsSimplePair w n

  abbrev pub AllPairs : List Declaration → List NamedDeclaration → Type 0
  AllPairs [] [] = Unit {0}
  AllPairs (w ∷ ws) (n ∷ ns) = IsPair w n × AllPairs ws ns
  AllPairs ws ns = ⊥

  map_pairs : (f : Node → Declaration) (g : Node → NamedDeclaration) (names : List Node) → ((id : Node) → IsPair (f id) (g id)) → AllPairs (map f names) (map g names)
  map_pairs f g [] h = tt
  map_pairs f g (x ∷ xs) h = (h x, map_pairs f g xs h)

  map_pairs_among : (f : Node → Declaration) (g : Node → NamedDeclaration) (names : List Node) → ((id : Node) → Among id names → IsPair (f id) (g id)) → AllPairs (map f names) (map g names)
  map_pairs_among f g [] h = tt
  map_pairs_among f g (x ∷ xs) h = (h x (inl refl), map_pairs_among f g xs (λ id a. h id (inr a)))

  join_pairs : (ws us : List Declaration) (ns vs : List NamedDeclaration) → AllPairs ws ns → AllPairs us vs → AllPairs (ws ++ us) (ns ++ vs)
  join_pairs [] us [] vs h k = k
  join_pairs [] us (n ∷ ns) vs h k = absurd h
  join_pairs (w ∷ ws) us [] vs h k = absurd h
  join_pairs (w ∷ ws) us (n ∷ ns) vs h k = (h.0, join_pairs ws us ns vs h.1 k)

  map_pairs_last : (f : Node → Declaration) (g : Node → NamedDeclaration) (names : List Node) → ((id : Node) → IsPair (f id) (g id)) → AllPairs (map f names ++ []) (map g names)
  map_pairs_last f g names h = subst (λ l. AllPairs l (map g names)) (sym (append-nil (map f names))) (map_pairs f g names h)

  pub pair_of_written : (ws : List Declaration) (ns : List NamedDeclaration) → AllPairs ws ns → (w : Declaration) → Among w ws → (n : NamedDeclaration) × Among n ns × IsPair w n
  pair_of_written [] ns h w a = absurd a
  pair_of_written (y ∷ ws) [] h w a = absurd h
  pair_of_written (y ∷ ws) (n ∷ ns) h w (inl e) = (n, inl refl, subst (λ z. IsPair z n) e h.0)
  pair_of_written (y ∷ ws) (n ∷ ns) h w (inr a) = let (m, b, c) = pair_of_written ws ns h.1 w a in (m, inr b, c)

  pub pair_of_named : (ws : List Declaration) (ns : List NamedDeclaration) → AllPairs ws ns → (n : NamedDeclaration) → Among n ns → (w : Declaration) × Among w ws × IsPair w n
  pair_of_named ws [] h n a = absurd a
  pair_of_named [] (m ∷ ns) h n a = absurd h
  pair_of_named (w ∷ ws) (m ∷ ns) h n (inl e) = (w, inl refl, subst (λ z. IsPair w z) e h.0)
  pair_of_named (w ∷ ws) (m ∷ ns) h n (inr a) = let (v, b, c) = pair_of_named ws ns h.1 n a in (v, inr b, c)

  -- ---- one place

  module _ (q : Place) (entered : Among (entering q) (steps p)) (k : IsCommonPlace p q) (well : StandsWell p q) (typed : is_typescript s ≡ true) (count : ℕ)
      (chain_opened : AllOpened (openers (steps p)) q.chain) (head_opened : IsOpened (openers (steps p)) (innermost q.chain)) (own_opened : opens q.node.kind ≡ true → IsOpened (openers (steps p)) (opened_scope q count)) where
    abbrev cs : List Container
    cs = round_place p q

    abbrev own : OpenScope
    own = opened_scope q count

    abbrev not_apart : (n : NamedDeclaration) → is_simple n ≡ true → is_apart n.container.kind ≡ false
    not_apart n e = is_not_apart n e

    origin_of : (c : Container) → is_apart c.kind ≡ false → (is_apart c.kind ≡ true) ⊎ HasOrigin p c → HasOrigin p c
    origin_of c a (inl i) = absurd (never (sym i ∙ a))
    origin_of c a (inr o) = o

    -- what may be a namespace is declared by a node that stands in no header
    abbrev IsUnheaded : DeclarationSort → Type 0
    IsUnheaded j = (sort_meanings j).namespace ≡ true → is_unheaded q.node.kind ≡ true

    no_namespace : (b : Bool) → false ≡ true → b ≡ true
    no_namespace b i = absurd (never (sym i))

    -- declared where the node stands
    at_head : (w : Declaration) (n : NamedDeclaration) (b : Bool) → w.route.target ≡ innermost q.chain → n.container ≡ bound_container b cs → is_apart n.container.kind ≡ false → IsUnheaded n.sort → IsAtHome w n
    at_head w n b t e a u =
        let h : HeadAt p q = k.head in
        let free : is_apart (bound_container b cs).kind ≡ false = subst (λ c. is_apart c.kind ≡ false) e a in
        record {
          opener = ap (λ o. o.opener) t ∙ h.opener b free ∙ ap (λ c. c.node) (sym e);
          lasting = ap (λ o. o.body) t ∙ h.lasting b free;
          in_body = λ i. ap (λ o. o.in_header) t ∙ h.in_body b (subst (λ c. is_container container.Body c ≡ true) e i);
          in_header = λ i. headed (subst (IsHeaded p) (sym t) (h.in_header b (subst (λ c. is_of_header c ≡ true) e i)));
          unheaded = λ i. ap (λ o. o.in_header) t ∙ k.unheaded (u i);
          opened = subst (IsOpened (openers (steps p))) (sym t) head_opened;
          origin = origin_of n.container a (h.origin n.container (subst (λ c. Among c cs) (sym e) (h.among b free)));
        }
      where
        headed : IsHeaded p w.route.target → IsSeenHeaded w
        headed g = record { place = g.place; entered = g.entered; opener = g.opener; header = λ f. ap (λ t. t || is_own_name w) (g.header f) }

    pair_here : (flags excluded : ℕ) (pure : Bool) (j : DeclarationSort) (b : Bool) (also : List Container) → IsUnheaded j → FlagsAre j flags → ((c : Container) → same_container_kind container.Globals c.kind ≡ false → list_any (λ e. same_container e c) also ≡ false) → (id : Node)
        → IsPair (declaration_at q.node (record { flags = flags; excluded = excluded; how = plain; route = here q.chain }) pure id) (named_declaration j (bound_container b cs) also id)
    pair_here flags excluded pure j b also u f g id = record {
      told = refl;
      simple = λ e. record { how = stays refl; flags = meanings_of j flags f; own = inl f.no_own; home = at_head (declaration_at q.node (record { flags = flags; excluded = excluded; how = plain; route = here q.chain }) pure id) (named_declaration j (bound_container b cs) also id) b refl refl (not_apart (named_declaration j (bound_container b cs) also id) e) u; also = g };
    }

    nothing_else : (c : Container) → same_container_kind container.Globals c.kind ≡ false → list_any (λ e. same_container e c) [] ≡ false
    nothing_else c e = refl

    -- what is global beside is in no other container
    beside : (d : Container) (c : Container) → same_container_kind container.Globals c.kind ≡ false → list_any (λ e. same_container e c) (global_besides d) ≡ false
    beside d c e = go (is_container container.GlobalMembers d)
      where
        go : (t : Bool) → list_any (λ e. same_container e c) (cond t (record { kind = container.Globals; node = 0; members = None } ∷ []) []) ≡ false
        go true = rw e refl
        go false = refl

    sort_here : (flags excluded : ℕ) (pure : Bool) (j : DeclarationSort) → IsUnheaded j → FlagsAre j flags → (id : Node)
        → IsPair (declaration_at q.node (record { flags = flags; excluded = excluded; how = plain; route = here q.chain }) pure id) (declared_here j s q.node q.path id)
    sort_here flags excluded pure j u f id =
        let b : Bool = is_exported_under s q.path in
        pair_here flags excluded pure j b (global_besides (bound_container b cs)) u f (beside (bound_container b cs)) id

    import_here : (flags excluded : ℕ) (j : DeclarationSort) → IsUnheaded j → FlagsAre j flags → (id : Node)
        → IsPair (declaration_at q.node (record { flags = flags; excluded = excluded; how = plain; route = here q.chain }) false id) (imported_as j s q.node q.path id)
    import_here flags excluded j u f id =
        let b : Bool = place.parent_holds (is kind.ExportDeclaration) q.path in
        pair_here flags excluded false j b (global_besides (bound_container b cs)) u f (beside (bound_container b cs)) id

    -- declared in the scope that the node opens
    own_home : (w : Declaration) (n : NamedDeclaration) → w.route.target ≡ own → n.container.node ≡ q.node.node_id → Among n.container (containers_by q.node.kind s q.node q.path cs q.node) → opens q.node.kind ≡ true → same_kind q.node.kind kind.CatchClause ≡ false
        → is_container container.Body n.container ≡ false → (is_function q.node.kind ≡ true → is_own_name w ≡ true) → (sort_meanings n.sort).namespace ≡ false → IsAtHome w n
    own_home w n t at among o no_clause no_body named typed = record {
      opener = ap (λ z. z.opener) t ∙ sym at;
      lasting = ap (λ z. z.body) t ∙ ap (λ b. cond b (body_number (suc count) q.node.children) None) no_clause;
      in_body = λ i. absurd (never (sym i ∙ no_body));
      in_header = λ i. record { place = q; entered = entered; opener = ap (λ z. z.opener) t; header = λ j. or_own w.route.target.in_header (named j) };
      unheaded = λ i. absurd (never (sym i ∙ typed));
      opened = subst (IsOpened (openers (steps p))) (sym t) (own_opened o);
      origin = record { place = q; entered = entered; child = q.node; among = among; stands = at };
    }
      where
        or_own : (a : Bool) → is_own_name w ≡ true → (a || is_own_name w) ≡ true
        or_own true i = refl
        or_own false i = i

    -- of a sort that isn't simple
    unsimple : (w : Declaration) (n : NamedDeclaration) → is_simple_sort n.sort ≡ false → told_to_tables w ≡ told_by_language n → IsPair w n
    unsimple w n e t = record { told = t; simple = λ i. absurd (never (sym (sort_is_simple n i) ∙ e)) }

    -- ---- row by row

    abbrev Paired : AstType → Type 0
    Paired j = AllPairs (declared_inside j q own ++ declared_by j q) (named_by_node j s q.node q.path)

    variable_are : (a : Bool) → FlagsAre sort.Var (union symbol.FunctionScopedVariable.bits (ambient_if a))
    variable_are true = record { value = refl; is_type = refl; namespace = refl; no_own = refl; parameter = refl }
    variable_are false = record { value = refl; is_type = refl; namespace = refl; no_own = refl; parameter = refl }

    lexical_are : (t a : Bool) → FlagsAre sort.Lexical (union (cond t symbol.BlockScopedVariable.bits (union symbol.BlockScopedVariable.bits symbol.ConstVariable.bits)) (ambient_if a))
    lexical_are true true = record { value = refl; is_type = refl; namespace = refl; no_own = refl; parameter = refl }
    lexical_are true false = record { value = refl; is_type = refl; namespace = refl; no_own = refl; parameter = refl }
    lexical_are false true = record { value = refl; is_type = refl; namespace = refl; no_own = refl; parameter = refl }
    lexical_are false false = record { value = refl; is_type = refl; namespace = refl; no_own = refl; parameter = refl }

    function_are : (a t : Bool) → FlagsAre sort.Function (union (union symbol.Function.bits (ambient_if a)) (union 0 (cond t symbol.AsyncOrGeneratorFunction.bits 0)))
    function_are true true = record { value = refl; is_type = refl; namespace = refl; no_own = refl; parameter = refl }
    function_are true false = record { value = refl; is_type = refl; namespace = refl; no_own = refl; parameter = refl }
    function_are false true = record { value = refl; is_type = refl; namespace = refl; no_own = refl; parameter = refl }
    function_are false false = record { value = refl; is_type = refl; namespace = refl; no_own = refl; parameter = refl }

    class_are : (a : Bool) → FlagsAre sort.Class (union symbol.Class.bits (ambient_if a))
    class_are true = record { value = refl; is_type = refl; namespace = refl; no_own = refl; parameter = refl }
    class_are false = record { value = refl; is_type = refl; namespace = refl; no_own = refl; parameter = refl }

    class_name_are : (a : Bool) → FlagsAre sort.ClassName (union symbol.Class.bits (ambient_if a))
    class_name_are true = record { value = refl; is_type = refl; namespace = refl; no_own = refl; parameter = refl }
    class_name_are false = record { value = refl; is_type = refl; namespace = refl; no_own = refl; parameter = refl }

    alias_are : (a : Bool) → FlagsAre sort.TypeAlias (union symbol.TypeAlias.bits (ambient_if a))
    alias_are true = record { value = refl; is_type = refl; namespace = refl; no_own = refl; parameter = refl }
    alias_are false = record { value = refl; is_type = refl; namespace = refl; no_own = refl; parameter = refl }

    interface_are : (a : Bool) → FlagsAre sort.Interface (union symbol.Interface.bits (ambient_if a))
    interface_are true = record { value = refl; is_type = refl; namespace = refl; no_own = refl; parameter = refl }
    interface_are false = record { value = refl; is_type = refl; namespace = refl; no_own = refl; parameter = refl }

    const_enum_are : (a : Bool) → FlagsAre sort.Enum (union symbol.ConstEnum.bits (ambient_if a))
    const_enum_are true = record { value = refl; is_type = refl; namespace = refl; no_own = refl; parameter = refl }
    const_enum_are false = record { value = refl; is_type = refl; namespace = refl; no_own = refl; parameter = refl }

    enum_are : (a : Bool) → FlagsAre sort.Enum (union symbol.RegularEnum.bits (ambient_if a))
    enum_are true = record { value = refl; is_type = refl; namespace = refl; no_own = refl; parameter = refl }
    enum_are false = record { value = refl; is_type = refl; namespace = refl; no_own = refl; parameter = refl }

    type_namespace_are : (a : Bool) → FlagsAre sort.TypeNamespace (union symbol.NamespaceModule.bits (ambient_if a))
    type_namespace_are true = record { value = refl; is_type = refl; namespace = refl; no_own = refl; parameter = refl }
    type_namespace_are false = record { value = refl; is_type = refl; namespace = refl; no_own = refl; parameter = refl }

    namespace_are : (a : Bool) → FlagsAre sort.ValueNamespace (union symbol.ValueModule.bits (ambient_if a))
    namespace_are true = record { value = refl; is_type = refl; namespace = refl; no_own = refl; parameter = refl }
    namespace_are false = record { value = refl; is_type = refl; namespace = refl; no_own = refl; parameter = refl }

    import_are : FlagsAre sort.Import symbol.Import.bits
    import_are = record { value = refl; is_type = refl; namespace = refl; no_own = refl; parameter = refl }

    type_import_are : FlagsAre sort.TypeImport symbol.TypeImport.bits
    type_import_are = record { value = refl; is_type = refl; namespace = refl; no_own = refl; parameter = refl }

    member_are : FlagsAre sort.EnumMember symbol.EnumMember.bits
    member_are = record { value = refl; is_type = refl; namespace = refl; no_own = refl; parameter = refl }

    key_are : FlagsAre sort.MappedKey symbol.TypeParameter.bits
    key_are = record { value = refl; is_type = refl; namespace = refl; no_own = refl; parameter = refl }

    value_parameter_are : FlagsAre sort.Parameter symbol.FunctionScopedVariable.bits
    value_parameter_are = record { value = refl; is_type = refl; namespace = refl; no_own = refl; parameter = refl }

    parameter_are : FlagsAre sort.TypeParameter symbol.TypeParameter.bits
    parameter_are = record { value = refl; is_type = refl; namespace = refl; no_own = refl; parameter = refl }

    passed_in : (chain : List OpenScope) (z : OpenScope) → Among z (passed_before is_var chain) → Among z chain
    passed_in [] z a = absurd a
    passed_in (o ∷ os) z a = go (is_var o) (passed_in os z) a
      where
        go : (b : Bool) → (Among z (passed_before is_var os) → Among z os) → Among z (cond b [] (o ∷ passed_before is_var os)) → Among z (o ∷ os)
        go true later i = absurd i
        go false later (inl i) = inl i
        go false later (inr i) = inr (later i)

    -- by `var`, in the scope of the container that takes it
    module _ (declaration : Node) (t : TakesIn q.chain cs) where
      abbrev far : BinderRow
      far = record { flags = union symbol.FunctionScopedVariable.bits (marked_ambient declaration); excluded = symbol.FunctionScopedVariableExcludes.bits; how = hoisted; route = outward_to is_var q.chain }

      way_out : outward_to is_var q.chain ≡ record { passed = passed_before is_var q.chain; target = t.first }
      way_out = ap (route_from q.chain (passed_before is_var q.chain)) t.is_first

      target_is : (outward_to is_var q.chain).target ≡ t.first
      target_is = ap (λ (r : Route). r.target) way_out

      passed_as : (z : OpenScope) → Among z (outward_to is_var q.chain).passed → IsPassedAs q z
      passed_as z a =
          let i : Among z (passed_before is_var q.chain) = subst (λ (r : Route). Among z r.passed) way_out a in
          let (c, there, node) = t.passed z i in
          record { around = passed_in q.chain z i; container = c; among = there; stands = node }

      abbrev pure : Bool
      pure = is_pure_declarator q.node

      abbrev out : Node → NamedDeclaration
      out = declared_outward sort.Var s q.node q.path

      abbrev exported : Bool
      exported = is_exported_under s q.path

      var_home : (id : Node) → IsAtHome (declaration_at q.node far pure id) (out id)
      var_home id = record {
        opener = ap (λ (o : OpenScope). o.opener) target_is ∙ t.opener exported;
        lasting = ap (λ (o : OpenScope). o.body) target_is ∙ t.lasting;
        in_body = λ i. ap (λ (o : OpenScope). o.in_header) target_is ∙ t.in_body;
        in_header = λ i. absurd (never (sym i ∙ t.no_header exported));
        origin = origin_of (out id).container (t.free exported) (k.head.origin (out id).container (t.among exported));
        unheaded = λ i. absurd (never (sym i));
        opened = among_opened (openers (steps p)) q.chain (outward_to is_var q.chain).target chain_opened (subst (λ o. Among o q.chain) (sym target_is) t.among_scopes);
      }

      var_pair : (id : Node) → Among (out id) (named_by_node q.node.kind s q.node q.path) → IsPair (declaration_at q.node far pure id) (out id)
      var_pair id a = record {
        told = refl;
        simple = λ e. record {
          how = goes_out refl (has mark.Declare declaration, refl) refl q entered a passed_as;
          flags = meanings_of sort.Var (union symbol.FunctionScopedVariable.bits (marked_ambient declaration)) (variable_are (has mark.Declare declaration));
          own = inl (variable_are (has mark.Declare declaration)).no_own;
          home = var_home id;
          also = beside (bound_container exported (from_first_taking cs));
        };
      }

    variable_pairs : (path : List Node) → q.node.kind ≡ kind.VariableDeclarator → q.path ≡ path → AllPairs (variables_under path q) (variables_named s q.node path)
    variable_pairs [] j e = tt
    variable_pairs (declaration ∷ path) j e = subst (λ l. AllPairs (map (declaration_at q.node (variable_row declaration q.chain) (is_pure_declarator q.node)) (bound_names q.node)) (map (cond var (declared_outward sort.Var s q.node l) (declared_here sort.Lexical s q.node l)) (bound_names q.node))) e
        (map_pairs_among (declaration_at q.node (variable_row declaration q.chain) (is_pure_declarator q.node)) (cond var (declared_outward sort.Var s q.node q.path) (declared_here sort.Lexical s q.node q.path)) (bound_names q.node) (by var refl))
      where
        var : Bool
        var = is_with_text kind.VariableDeclaration (codes "var") declaration

        let_text : Bool
        let_text = is_with_text kind.VariableDeclaration (codes "let") declaration

        t : TakesIn q.chain cs
        t = well (subst (λ z. is_statement_kind z ≡ true) (sym j) refl)

        out_there : Node → NamedDeclaration
        out_there = declared_outward sort.Var s q.node (declaration ∷ path)

        named_so : var ≡ true → (id : Node) → Among id (bound_names q.node) → Among (declared_outward sort.Var s q.node q.path id) (named_by_node q.node.kind s q.node q.path)
        named_so v id a =
            subst (λ l. Among (declared_outward sort.Var s q.node l id) (named_by_node q.node.kind s q.node q.path)) (sym e)
            (subst (Among (out_there id)) (sym (ap (λ z. named_by_node z s q.node q.path) j ∙ ap (variables_named s q.node) e))
            (subst (λ b. Among (out_there id) (map (cond b out_there (declared_here sort.Lexical s q.node (declaration ∷ path))) (bound_names q.node))) (sym v) (of_map out_there (bound_names q.node) id a)))

        near : BinderRow
        near = record { flags = union (lexical_flags declaration) (marked_ambient declaration); excluded = symbol.BlockScopedVariableExcludes.bits; how = plain; route = here q.chain }

        by : (b : Bool) → var ≡ b → (id : Node) → Among id (bound_names q.node) → IsPair (declaration_at q.node (if b then far declaration t else near) (is_pure_declarator q.node) id) (cond b (declared_outward sort.Var s q.node q.path) (declared_here sort.Lexical s q.node q.path) id)
        by true v id a = var_pair declaration t id (named_so v id a)
        by false v id a = sort_here (union (lexical_flags declaration) (marked_ambient declaration)) symbol.BlockScopedVariableExcludes.bits (is_pure_declarator q.node) sort.Lexical (no_namespace (is_unheaded q.node.kind)) (lexical_are let_text (has mark.Declare declaration)) id

    parameter_pairs : (path : List Node) → (path ≡ [] → ⊥) → AllPairs (parameters_under path q) (map (named_declaration sort.Parameter (bound_container false cs) []) (bound_names q.node))
    parameter_pairs [] e = absurd (e refl)
    parameter_pairs (list ∷ path) e =
        map_pairs (declaration_at q.node (record { flags = symbol.FunctionScopedVariable.bits; excluded = parameter_excluded list q.chain; how = plain; route = here q.chain }) false) (named_declaration sort.Parameter (bound_container false cs) []) (bound_names q.node)
        (pair_here symbol.FunctionScopedVariable.bits (parameter_excluded list q.chain) false sort.Parameter false [] (no_namespace (is_unheaded q.node.kind)) value_parameter_are nothing_else)

    catch_pairs : (patterns : List Node) → AllPairs (flat_map (catch_names q) patterns) (map (named_declaration sort.CatchName (bound_container false cs) []) (flat_map bound_names patterns))
    catch_pairs [] = tt
    catch_pairs (x ∷ xs) =
        subst (AllPairs (catch_names q x ++ flat_map (catch_names q) xs)) (sym (map-append g (bound_names x) (flat_map bound_names xs)))
        (join_pairs (catch_names q x) (flat_map (catch_names q) xs) (map g (bound_names x)) (map g (flat_map bound_names xs)) (go (is kind.BindingIdentifier x)) (catch_pairs xs))
      where
        g : Node → NamedDeclaration
        g = named_declaration sort.CatchName (bound_container false cs) []

        row : BinderRow
        row = record { flags = union symbol.FunctionScopedVariable.bits symbol.CatchVariable.bits; excluded = 0; how = caught; route = here q.chain }

        lexical : BinderRow
        lexical = record { flags = union symbol.BlockScopedVariable.bits symbol.CatchVariable.bits; excluded = symbol.BlockScopedVariableExcludes.bits; how = plain; route = here q.chain }

        go : (b : Bool) → AllPairs (if b then declaration_at q.node row false x ∷ [] else map (declaration_at q.node lexical false) (cond b (x ∷ []) (bound_below x.kind x.children))) (map g (cond b (x ∷ []) (bound_below x.kind x.children)))
        go true = (unsimple (declaration_at q.node row false x) (g x) refl refl, tt)
        go false = map_pairs (declaration_at q.node lexical false) g (bound_below x.kind x.children) (λ id. unsimple (declaration_at q.node lexical false id) (g id) refl refl)

    blocked : (a b c d : Bool) → b ≡ true → (((a && not b) && c) && d) ≡ false
    blocked true true c d e = refl
    blocked false true c d e = refl
    blocked a false c d e = absurd (never (sym e))

    not_moved : is_block_function q ≡ false
    not_moved = blocked (not (is_special q.node)) (is_typescript q.source_type) (not (place.is_strict q.chain)) (not (is_var (innermost q.chain) || is_clause (innermost q.chain))) (ap is_typescript k.source ∙ typed)

    function_pairs : q.node.kind ≡ kind.Function → Paired kind.Function
    function_pairs e = go (is_statement q.node) refl
      where
        own_name : Node → NamedDeclaration
        own_name = named_declaration sort.FunctionName (container_of container.OwnName q.node) []

        own_among : (t u : Bool) → Among (container_of container.OwnName q.node) (cond t [] (container_of container.Body q.node ∷ []) ++ (cond u [] (container_of container.Parameters q.node ∷ []) ++ container_of container.TypeParameters q.node ∷ []) ++ container_of container.OwnName q.node ∷ [])
        own_among true true = inr (inl refl)
        own_among true false = inr (inr (inl refl))
        own_among false true = inr (inr (inl refl))
        own_among false false = inr (inr (inr (inl refl)))

        among : Among (container_of container.OwnName q.node) (containers_by q.node.kind s q.node q.path cs q.node)
        among = subst (λ j. Among (container_of container.OwnName q.node) (containers_by j s q.node q.path cs q.node)) (sym e) (own_among (is_of_signature q.node) (is kind.TSTypeParameterDeclaration q.node))

        own_flags : (a t : Bool) → HasMeanings sort.FunctionName (union (union symbol.Function.bits (ambient_if a)) (union symbol.FunctionExpression.bits (cond t symbol.AsyncOrGeneratorFunction.bits 0)))
        own_flags true true = record { value = refl; is_type = refl; namespace = refl; parameter = refl }
        own_flags true false = record { value = refl; is_type = refl; namespace = refl; parameter = refl }
        own_flags false true = record { value = refl; is_type = refl; namespace = refl; parameter = refl }
        own_flags false false = record { value = refl; is_type = refl; namespace = refl; parameter = refl }

        is_own : (a t : Bool) → meets (union (union symbol.Function.bits (ambient_if a)) (union symbol.FunctionExpression.bits (cond t symbol.AsyncOrGeneratorFunction.bits 0))) symbol.FunctionExpression.bits ≡ true
        is_own true true = refl
        is_own true false = refl
        is_own false true = refl
        is_own false false = refl

        far : Node → NamedDeclaration
        far = declared_outward sort.BlockFunction s q.node q.path

        near : Node → NamedDeclaration
        near = declared_here sort.Function s q.node q.path

        pure : Bool
        pure = has mark.Pure q.node

        flags_by : Bool → ℕ
        flags_by b = union (union symbol.Function.bits (marked_ambient q.node)) (union (cond b 0 symbol.FunctionExpression.bits) (cond (is_special q.node) symbol.AsyncOrGeneratorFunction.bits 0))

        row_by : Bool → Bool → BinderRow
        row_by b t = if t then record { flags = flags_by b; excluded = function_excluded q; how = moved; route = outward_past is_var q.chain } else record { flags = flags_by b; excluded = function_excluded q; how = plain; route = here q.chain }

        near_or_far : (t : Bool) (id : Node) → IsPair (declaration_at q.node (row_by true false) pure id) (cond t far near id)
        near_or_far true id = unsimple (declaration_at q.node (row_by true false) pure id) (far id) refl refl
        near_or_far false id = sort_here (flags_by true) (function_excluded q) pure sort.Function (no_namespace (is_unheaded q.node.kind)) (function_are (has mark.Declare q.node) (is_special q.node)) id

        declared : (t : Bool) → t ≡ false → AllPairs (map (declaration_at q.node (row_by true t) pure) (ids q.node)) (map (cond (leaves_its_block s q.node q.path) far near) (ids q.node))
        declared true e = absurd (never e)
        declared false e = map_pairs (declaration_at q.node (row_by true false) pure) (cond (leaves_its_block s q.node q.path) far near) (ids q.node) (near_or_far (leaves_its_block s q.node q.path))

        go : (b : Bool) → is_statement q.node ≡ b
            → AllPairs (cond b [] (map (declaration_at q.node (record { flags = flags_by b; excluded = function_excluded q; how = plain; route = here (own ∷ []) }) pure) (ids q.node)) ++ cond b (map (declaration_at q.node (row_by b (is_block_function q)) pure) (ids q.node)) [])
            (map (cond b (cond (leaves_its_block s q.node q.path) far near) (named_declaration sort.FunctionName (container_of container.OwnName q.node) [])) (ids q.node))
        go true i = declared (is_block_function q) not_moved
        go false i =
            let w : Node → Declaration = declaration_at q.node (record { flags = flags_by false; excluded = function_excluded q; how = plain; route = here (own ∷ []) }) pure in
            map_pairs_last w own_name (ids q.node) (λ id. record {
              told = refl;
              simple = λ i. record {
                how = stays refl;
                flags = own_flags (has mark.Declare q.node) (is_special q.node);
                own = inr (refl, refl);
                home = own_home (w id) (own_name id) refl refl among (ap opens e) (ap (λ j. same_kind j kind.CatchClause) e) refl (λ j. is_own (has mark.Declare q.node) (is_special q.node)) refl;
                also = nothing_else;
              };
            })

    class_pairs : q.node.kind ≡ kind.Class → Paired kind.Class
    class_pairs e = go (is_statement q.node)
      where
        own_name : Node → NamedDeclaration
        own_name = named_declaration sort.ClassName (container_of container.OwnName q.node) []

        own_class : Node → Declaration
        own_class = declaration_at q.node (class_row q (own ∷ [])) false

        among : Among (container_of container.OwnName q.node) (containers_by q.node.kind s q.node q.path cs q.node)
        among =
            subst (λ j. Among (container_of container.OwnName q.node) (containers_by j s q.node q.path cs q.node)) (sym e)
            (subst (λ b. Among (container_of container.OwnName q.node) (cond b [] (container_of container.TypeParameters q.node ∷ container_of container.OwnName q.node ∷ []))) (sym (ap (λ j. same_kind kind.Decorator j || false) e)) (inr (inl refl)))

        home : (id : Node) → IsAtHome (own_class id) (own_name id)
        home id = own_home (own_class id) (own_name id) refl refl among (ap opens e) (ap (λ j. same_kind j kind.CatchClause) e) refl (λ i. absurd (never (sym i ∙ ap is_function e))) refl

        go : (b : Bool) → AllPairs (cond b [] (map (declaration_at q.node (class_row q (own ∷ [])) false) (ids q.node)) ++ cond b (map (declaration_at q.node (class_row q q.chain) false) (ids q.node)) [])
            (map (cond b (declared_here sort.Class s q.node q.path) own_name) (ids q.node))
        go true = map_pairs (declaration_at q.node (class_row q q.chain) false) (declared_here sort.Class s q.node q.path) (ids q.node) (λ id. sort_here (union symbol.Class.bits (marked_ambient q.node)) symbol.ClassExcludes.bits false sort.Class (no_namespace (is_unheaded q.node.kind)) (class_are (has mark.Declare q.node)) id)
        go false = map_pairs_last (declaration_at q.node (class_row q (own ∷ [])) false) own_name (ids q.node) (λ id. record { told = refl; simple = λ i. record { how = stays refl; flags = meanings_of sort.ClassName (union symbol.Class.bits (marked_ambient q.node)) (class_name_are (has mark.Declare q.node)); own = inl (class_name_are (has mark.Declare q.node)).no_own; home = home id; also = nothing_else } })

    mapped_pairs : q.node.kind ≡ kind.TSMappedType → Paired kind.TSMappedType
    mapped_pairs e = map_pairs_last w key (names_at role.Key q.node) (λ id. record { told = refl; simple = λ i. record { how = stays refl; flags = meanings_of sort.MappedKey symbol.TypeParameter.bits key_are; own = inl refl; home = home id; also = nothing_else } })
      where
        w : Node → Declaration
        w = declaration_at q.node (type_parameter_row (here (own ∷ []))) false

        key : Node → NamedDeclaration
        key = named_declaration sort.MappedKey (container_of container.TypeParameters q.node) []

        home : (id : Node) → IsAtHome (w id) (key id)
        home id = own_home (w id) (key id) refl refl (subst (λ j. Among (container_of container.TypeParameters q.node) (containers_by j s q.node q.path cs q.node)) (sym e) (inl refl)) (ap opens e) (ap (λ j. same_kind j kind.CatchClause) e) refl (λ i. absurd (never (sym i ∙ ap is_function e))) refl

    import_pairs : is_unheaded q.node.kind ≡ true → Paired kind.ImportSpecifier
    import_pairs u = go (has mark.TypeOnly q.node || place.parent_holds (has mark.TypeOnly) q.path)
      where
        row_by : Bool → BinderRow
        row_by b = record { flags = cond b symbol.TypeImport.bits symbol.Import.bits; excluded = symbol.ImportBindingExcludes.bits; how = plain; route = here q.chain }

        go : (b : Bool) → AllPairs (map (declaration_at q.node (row_by b) false) (names_at role.Local q.node)) (map (imported_as (cond b sort.TypeImport sort.Import) s q.node q.path) (names_at role.Local q.node))
        go true = map_pairs (declaration_at q.node (row_by true) false) (imported_as sort.TypeImport s q.node q.path) (names_at role.Local q.node) (import_here symbol.TypeImport.bits symbol.ImportBindingExcludes.bits sort.TypeImport (λ i. u) type_import_are)
        go false = map_pairs (declaration_at q.node (row_by false) false) (imported_as sort.Import s q.node q.path) (names_at role.Local q.node) (import_here symbol.Import.bits symbol.ImportBindingExcludes.bits sort.Import (λ i. u) import_are)

    -- all names of a row that is plain and here
    here_pairs : (flags excluded : ℕ) (j : DeclarationSort) (names : List Node) → IsUnheaded j → FlagsAre j flags → AllPairs (map (declaration_at q.node (record { flags = flags; excluded = excluded; how = plain; route = here q.chain }) false) names) (map (declared_here j s q.node q.path) names)
    here_pairs flags excluded j names u f = map_pairs (declaration_at q.node (record { flags = flags; excluded = excluded; how = plain; route = here q.chain }) false) (declared_here j s q.node q.path) names (sort_here flags excluded false j u f)

    enum_pairs : is_unheaded q.node.kind ≡ true → Paired kind.TSEnumDeclaration
    enum_pairs u = go (has mark.Const q.node)
      where
        go : (b : Bool) → AllPairs (if b then map (declaration_at q.node (record { flags = union symbol.ConstEnum.bits (marked_ambient q.node); excluded = symbol.ConstEnumExcludes.bits; how = plain; route = here q.chain }) false) (ids q.node)
            else map (declaration_at q.node (record { flags = union symbol.RegularEnum.bits (marked_ambient q.node); excluded = symbol.RegularEnumExcludes.bits; how = plain; route = here q.chain }) false) (ids q.node))
            (map (declared_here sort.Enum s q.node q.path) (ids q.node))
        go true = here_pairs (union symbol.ConstEnum.bits (marked_ambient q.node)) symbol.ConstEnumExcludes.bits sort.Enum (ids q.node) (λ i. u) (const_enum_are (has mark.Declare q.node))
        go false = here_pairs (union symbol.RegularEnum.bits (marked_ambient q.node)) symbol.RegularEnumExcludes.bits sort.Enum (ids q.node) (λ i. u) (enum_are (has mark.Declare q.node))

    namespace_pairs : is_unheaded q.node.kind ≡ true → (i : InstanceState) → AllPairs (namespace_row i q) (map (declared_here (namespace_sort i) s q.node q.path) (ids q.node))
    namespace_pairs u non_instantiated = here_pairs (union symbol.NamespaceModule.bits (marked_ambient q.node)) symbol.NamespaceModuleExcludes.bits sort.TypeNamespace (ids q.node) (λ i. u) (type_namespace_are (has mark.Declare q.node))
    namespace_pairs u const_enum_only = here_pairs (union symbol.ValueModule.bits (marked_ambient q.node)) symbol.ValueModuleExcludes.bits sort.ValueNamespace (ids q.node) (λ i. u) (namespace_are (has mark.Declare q.node))
    namespace_pairs u instantiated = here_pairs (union symbol.ValueModule.bits (marked_ambient q.node)) symbol.ValueModuleExcludes.bits sort.ValueNamespace (ids q.node) (λ i. u) (namespace_are (has mark.Declare q.node))

    member_pairs : Paired kind.TSEnumMember
    member_pairs =
        map_pairs (declaration_at q.node (record { flags = symbol.EnumMember.bits; excluded = symbol.EnumMemberExcludes.bits; how = plain; route = here q.chain }) false) (named_declaration sort.EnumMember (bound_container false cs) []) (flat_map (member_named q.node) (children_of role.Id q.node.children))
        (pair_here symbol.EnumMember.bits symbol.EnumMemberExcludes.bits false sort.EnumMember false [] (no_namespace (is_unheaded q.node.kind)) member_are nothing_else)

    type_parameter_pairs : Paired kind.TSTypeParameter
    type_parameter_pairs = go (place.parent_holds (is kind.TSInferType) q.path)
      where
        inferred : Node → NamedDeclaration
        inferred = named_declaration sort.Inferred (first_condition cs) (bound_container false cs ∷ [])

        parameter : Node → NamedDeclaration
        parameter = named_declaration sort.TypeParameter (bound_container false cs) []

        row_by : Bool → BinderRow
        row_by b = type_parameter_row (cond b (outward_to is_conditional q.chain) (here q.chain))

        go : (b : Bool) → AllPairs (map (declaration_at q.node (row_by b) false) (names_at role.Name q.node)) (map (cond b inferred parameter) (names_at role.Name q.node))
        go true = map_pairs (declaration_at q.node (row_by true) false) inferred (names_at role.Name q.node) (λ id. unsimple (declaration_at q.node (row_by true) false id) (inferred id) refl refl)
        go false = map_pairs (declaration_at q.node (row_by false) false) parameter (names_at role.Name q.node) (pair_here symbol.TypeParameter.bits symbol.TypeParameterExcludes.bits false sort.TypeParameter false [] (no_namespace (is_unheaded q.node.kind)) parameter_are nothing_else)

    no_rest_pairs : (b : Bool) (ws : List Declaration) → b ≡ false → AllPairs (cond b ws []) []
    no_rest_pairs true ws e = absurd (never e)
    no_rest_pairs false ws e = tt

    not_root : (j : AstType) → q.node.kind ≡ j → (j ≡ kind.Program → ⊥) → (q.path ≡ [] → q.node.kind ≡ kind.Program) → q.path ≡ [] → ⊥
    not_root j e n h i = n (sym e ∙ h i)

    pub pairs_by : (j : AstType) → q.node.kind ≡ j → same_kind j kind.TSIndexSignatureName ≡ false → is_bare_rest q.node q.path ≡ false → (q.path ≡ [] → q.node.kind ≡ kind.Program) → Paired j
    pairs_by kind.VariableDeclarator e i r u = variable_pairs q.path e refl
    pairs_by kind.Function e i r u = function_pairs e
    pairs_by kind.Class e i r u = class_pairs e
    pairs_by kind.FormalParameter e i r u = parameter_pairs q.path (not_root kind.FormalParameter e (λ z. absurd cc) u)
    pairs_by kind.FormalParameterRest e i r u = parameter_pairs q.path (not_root kind.FormalParameterRest e (λ z. absurd cc) u)
    pairs_by kind.BindingRestElement e i r u = no_rest_pairs (place.parent_holds (is kind.FormalParameters) q.path) _ (rw e at r)
    pairs_by kind.CatchParameter e i r u = catch_pairs (children_of role.Pattern q.node.children)
    pairs_by kind.ImportSpecifier e i r u = import_pairs (ap is_unheaded e)
    pairs_by kind.ImportDefaultSpecifier e i r u = import_pairs (ap is_unheaded e)
    pairs_by kind.ImportNamespaceSpecifier e i r u = import_pairs (ap is_unheaded e)
    pairs_by kind.TSImportEqualsDeclaration e i r u =
        map_pairs (declaration_at q.node (record { flags = symbol.Import.bits; excluded = symbol.ImportBindingExcludes.bits; how = plain; route = here q.chain }) false) (imported_as sort.Import s q.node q.path) (ids q.node) (import_here symbol.Import.bits symbol.ImportBindingExcludes.bits sort.Import (λ j. ap is_unheaded e) import_are)
    pairs_by kind.TSTypeAliasDeclaration e i r u = here_pairs (union symbol.TypeAlias.bits (marked_ambient q.node)) symbol.TypeAliasExcludes.bits sort.TypeAlias (ids q.node) (no_namespace (is_unheaded q.node.kind)) (alias_are (has mark.Declare q.node))
    pairs_by kind.TSInterfaceDeclaration e i r u = here_pairs (union symbol.Interface.bits (marked_ambient q.node)) symbol.InterfaceExcludes.bits sort.Interface (ids q.node) (no_namespace (is_unheaded q.node.kind)) (interface_are (has mark.Declare q.node))
    pairs_by kind.TSEnumDeclaration e i r u = enum_pairs (ap is_unheaded e)
    pairs_by kind.TSEnumMember e i r u = member_pairs
    pairs_by kind.TSNamespaceDeclaration e i r u = namespace_pairs (ap is_unheaded e) (instance_state q.node q.path (nodes_around q.node q.path))
    pairs_by kind.TSTypeParameter e i r u = type_parameter_pairs
    pairs_by kind.TSMappedType e i r u = mapped_pairs e
    pairs_by kind.TSIndexSignatureName e i r u = absurd cc
    pairs_by _ e i r u = tt
