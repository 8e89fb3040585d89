-- What binds a name is noted at the home of the environments on its way.
use Rattle.std.proofs.Common.{◌≡◌, ℕ, List, [], ◌∷◌, Some, None, Bool, true, false, ◌||◌, not, cond, map, flat_map, inl, inr, ◌⊎◌, refl, sym, ap, subst, ◌∙◌, codes}
use Rattle.semantic_syntax.proofs.Truth.{and_first}
use Rattle.semantic_kinds.specs.Classes.{holds_kind}
use Rattle.semantic_kinds.specs.Kinds.{same_kind}
use Rattle.semantic_kinds.specs.declared.kind.AstType.{AstType}
use Rattle.semantic_kinds.specs.declared.kind.AstType.TheVariants as kind
use Rattle.semantic_kinds.specs.declared.role.Role.{Role}
use Rattle.semantic_kinds.specs.declared.role.Role.TheVariants as role
use Rattle.semantic_syntax.specs.Tables.{Name}
use Rattle.semantic_tree.specs.Faults.{first_fault}
use Rattle.semantic_tree.specs.Nodes.{first_of}
use Rattle.semantic_tree.specs.Tree.{Tree, IsNumbered}
use Rattle.semantic_tree.specs.Views.{is, is_with_text, has_text, child_of, children_of}
use Rattle.semantic_tree.specs.declared.node.Node.{Node}
use Rattle.semantic_model.specs.Binder.{is_statement}
use Rattle.semantic_model.specs.Entries.{Among}
use Rattle.semantic_model.specs.Names.{bound_names, bound_below, names_at}
use Rattle.semantic_model.specs.Place.{Place}
use Rattle.semantic_model.specs.Step.{entering, steps}
use Rattle.semantic_model.proofs.form.Clauses.{kind_is}
use Rattle.semantic_model.proofs.lists.Members.{among_left, among_cases}
use Rattle.program_laws.proofs.DeclaredNodes.{among_map, among_flat}
use Rattle.walk_model.proofs.once.NamesInRole.{AtMostOne}
use Rattle.binding_laws.proofs.ListLaws.{each_at, same_of_one}
use Rattle.tangle_model.specs.Mention.{Mention, same_declarer, noted_if, identifier_noted, function_noted, named_noted, noted_by, noted_at}
use Rattle.tangle_model.specs.Surroundings.{is_home, home_under, declarer_in, declarer_under, around_under}
use Rattle.tangle_model.specs.declared.around.Declarer.TheVariants as declarer
use Rattle.tangle_model.specs.declared.what.What.TheVariants as what
use Rattle.language_ties.specs.AgreeingNames.{crossed}
use Rattle.language_ties.specs.Bound as language
use Rattle.language_ties.specs.Bound.{Bound, bound_identifier, bound_here, bound_outward, bound_by_declarator, bound_by_declaration, bound_by_function, bound_by_class, bound_by_catch, bound_by_node}
use Rattle.language_ties.specs.EcmaScript.{is_ecmascript}
use Rattle.language_ties.specs.Environments.{Environment, is_made_for, environments, innermost, passed, variable_environment, first_taking, environment_or}
use Rattle.language_ties.specs.declared.bound_as.BoundAs.{BoundAs}
use Rattle.language_ties.specs.declared.bound_as.BoundAs.TheVariants as bound
use Rattle.language_ties.specs.declared.environment_kind.EnvironmentKind.{EnvironmentKind}
use Rattle.language_ties.specs.declared.environment_kind.EnvironmentKind.TheVariants as environment
use Rattle.language_ties.proofs.agree.FamiliarPlaces.{IsFamiliar, FamiliarAt, familiar_program}
use Rattle.language_ties.proofs.agree.KnownNodes.{node_at}
use Rattle.language_ties.proofs.agree.MadeEnvironments.{EndsAtProgram, innermost_among}
use Rattle.language_ties.proofs.clear.PassedScopes.{takes_some}
use Rattle.language_ties.proofs.own_names.OwnIds.{named_once}
use Rattle.language_ties.proofs.tangled.CaughtVariables.{in_below, reached_declarer, reached_home, name_place}
use Rattle.language_ties.proofs.tangled.HomesRound.{reach, passed_reached, taking_reached, innermost_reached, InHome, in_home}
use Rattle.language_ties.proofs.tangled.NameChildren.{has_name_in, IsRoleChild, name_child, NamedAt, named_program}
use Rattle.language_ties.proofs.tangled.NamePlaces.{holds_names, Reaches, IsNamePlace, IsAmidSteps, AmidAt, amid_program}

-- where a name is noted, with the home of the environments on its way: at a function, or at an identifier
pub record IsNoted (p : Tree) (q : Place) (b : Bound) : Type 0 where
  pub place : Place
  pub entered : Among (entering place) (steps p)
  pub home : ℕ
  pub noted : Among (record { what = what.Declaration; home = home; name = b.name }) (noted_at p.source_type (entering place))
  pub ways : (d : Environment) → Among d (crossed b) → InHome (steps p) home q.node d
  pub sort : ((place ≡ q) × (q.node.kind ≡ kind.Function)) ⊎ (place.node.kind ≡ kind.BindingIdentifier)

-- the node is no home, or the name is a function's own
no_home : (k : AstType) (x : Node) → x.kind ≡ k → holds_kind (kind.Program ∷ kind.Function ∷ kind.ArrowFunctionExpression ∷ kind.StaticBlock ∷ kind.TSModuleBlock ∷ []) k ≡ false → is_home x ≡ false
no_home k x w n = ap (λ i. holds_kind (kind.Program ∷ kind.Function ∷ kind.ArrowFunctionExpression ∷ kind.StaticBlock ∷ kind.TSModuleBlock ∷ []) i) w ∙ n

module _ (p : Tree) (h : first_fault p ≡ None) (e : is_ecmascript p ≡ true) (numbered : IsNumbered p.root) (q : Place) (entered : Among (entering q) (steps p)) where
  abbrev es : List Environment
  es = environments q.node q.path

  familiar : IsFamiliar (node_at p) q
  familiar = each_at (FamiliarAt (node_at p)) (steps p) (entering q) (familiar_program p h e numbered) entered

  amid : IsAmidSteps (steps p) q
  amid = each_at (AmidAt (steps p)) (steps p) (entering q) (amid_program p) entered

  -- the environments up to where variables go are of the home around
  round : (d : Environment) → Among d (reach es) → InHome (steps p) (home_under q.path) q.node d
  round d a = in_home (steps p) q.node q.path amid.above familiar.parents d a

  module _ (rooted : q.path ≡ [] → ⊥) where
    inner_there : Among (innermost es) (reach es)
    inner_there = innermost_reached es (go q.path refl)
      where
        go : (path : List Node) → q.path ≡ path → Among (innermost (environments q.node q.path)) (environments q.node q.path)
        go [] w = absurd (rooted w)
        go (y ∷ path) w = subst (λ l. Among (innermost (environments q.node l)) (environments q.node l)) (sym w) (innermost_among q.node y path (subst (EndsAtProgram q.node) w familiar.rooted))

    taken : (d : Environment) × (first_taking es ≡ Some d)
    taken = go q.path refl
      where
        go : (path : List Node) → q.path ≡ path → (d : Environment) × (first_taking (environments q.node q.path) ≡ Some d)
        go [] w = absurd (rooted w)
        go (y ∷ path) w = subst (λ l. (d : Environment) × (first_taking (environments q.node l) ≡ Some d)) (sym w) (takes_some q.node y path (subst (EndsAtProgram q.node) w familiar.rooted))

    variable_there : Among (variable_environment es) (reach es)
    variable_there = subst (λ d. Among d (reach es)) (sym (ap (environment_or (innermost es)) taken.1)) (taking_reached es taken.0 taken.1)

    -- ---- ways

    abbrev pub Ways : Bound → Type 0
    Ways b = (d : Environment) → Among d (crossed b) → InHome (steps p) (home_under q.path) q.node d

    here_ways : (w : BoundAs) (n : Node) → Ways (bound_here w es n)
    here_ways w n d (inl i) = subst (InHome (steps p) (home_under q.path) q.node) i (round (innermost es) inner_there)
    here_ways w n d (inr i) = absurd i

    outward_ways : (n : Node) → Ways (bound_outward es n)
    outward_ways n d (inl i) = subst (InHome (steps p) (home_under q.path) q.node) i (round (variable_environment es) variable_there)
    outward_ways n d (inr i) = elim (among_cases d (passed es) [] i) [ inl j ↦ round d (passed_reached es d j) | inr j ↦ absurd j ]

    leaving_ways : (n : Node) → Ways (bound_identifier bound.Function (innermost es) (variable_environment es ∷ []) (passed es) n)
    leaving_ways n d (inl i) = subst (InHome (steps p) (home_under q.path) q.node) i (round (innermost es) inner_there)
    leaving_ways n d (inr i) = elim (among_cases d (passed es) (variable_environment es ∷ []) i) [
      | inl j ↦ round d (passed_reached es d j)
      | inr j ↦ elim j [ inl k ↦ subst (InHome (steps p) (home_under q.path) q.node) k (round (variable_environment es) variable_there) | inr k ↦ absurd k ]
    ]

    pub declaration_ways : (n : Node) → Ways (bound_by_declaration p.source_type q.node q.path n)
    declaration_ways n = go (language.is_block_function p.source_type q.node q.path)
      where
        go : (t : Bool) → Ways (cond t (bound_identifier bound.Function (innermost es) (variable_environment es ∷ []) (passed es) n) (bound_here bound.Function es n))
        go true = leaving_ways n
        go false = here_ways bound.Function n

    -- the node's own environment is of the home that it makes or stands in
    own_way : (k : EnvironmentKind) → is_made_for environment.IfBody (record { kind = k; maker = q.node.node_id }) ≡ false → InHome (steps p) (home_under (q.node ∷ q.path)) q.node (record { kind = k; maker = q.node.node_id })
    own_way k n = inl (record { maker = q.node; path = q.path; entered = record { place = q; entered = entered; node = refl; above = refl }; is = refl; no_body = n; home_is = refl })

    -- ---- identifiers

    -- an identifier of the place is noted
    identifier_there : (b : Bound) (i : Node) → IsNamePlace (steps p) (q.node ∷ q.path) i → i.text ≡ b.name → same_declarer (declarer_under (q.node ∷ q.path)) declarer.Function ≡ false → ((d : Environment) → Among d (crossed b) → InHome (steps p) (home_under (q.node ∷ q.path)) q.node d) → IsNoted p q b
    identifier_there b i z text other ways = record {
      place = z.place;
      entered = z.entered;
      home = home_under z.place.path;
      noted = subst (λ j. Among mention (noted_by j (around_under p.source_type z.place.path) z.place.node)) (sym z.identifier) in_noted;
      ways = λ d a. subst (λ m. InHome (steps p) m q.node d) (sym (reached_home z.place.path (q.node ∷ q.path) z.reaches)) (ways d a);
      sort = inr z.identifier;
    }
      where
        mention : Mention
        mention = record { what = what.Declaration; home = home_under z.place.path; name = b.name }

        named : z.place.node.text ≡ b.name
        named = ap (λ n. n.text) z.is_it ∙ text

        declarer_is : same_declarer (declarer_under z.place.path) declarer.Function ≡ false
        declarer_is = ap (λ d. same_declarer d declarer.Function) (reached_declarer z.place.path (q.node ∷ q.path) z.reaches) ∙ other

        first : Among mention (noted_if (not (same_declarer (declarer_under z.place.path) declarer.Function)) what.Declaration (home_under z.place.path) z.place.node.text)
        first = subst (λ t. Among mention (noted_if (not t) what.Declaration (home_under z.place.path) z.place.node.text)) (sym declarer_is) (inl (λ i. record { what = what.Declaration; home = home_under z.place.path; name = named i }))

        in_noted : Among mention (identifier_noted (around_under p.source_type z.place.path) z.place.node.text)
        in_noted = among_left mention _ _ (among_left mention _ _ (among_left mention _ _ (among_left mention _ _ first)))

    -- a name that the place binds in the environments around
    plain_case : (b : Bound) (i : Node) → IsNamePlace (steps p) (q.node ∷ q.path) i → i.text ≡ b.name → same_declarer (declarer_under (q.node ∷ q.path)) declarer.Function ≡ false → is_home q.node ≡ false → Ways b → IsNoted p q b
    plain_case b i z text other n ways =
        identifier_there b i z text other (λ d a. subst (λ m. InHome (steps p) m q.node d) (sym (ap (λ t. cond t q.node.node_id (home_under q.path)) n)) (ways d a))

    -- a name that stands in a pattern
    in_pattern : (k : AstType) → q.node.kind ≡ k → holds_names k ≡ true → same_kind k kind.BindingIdentifier ≡ false → (i : Node) → Among i (bound_names q.node) → IsNamePlace (steps p) (q.node ∷ q.path) i
    in_pattern k w holds n i a = name_place p h e numbered q entered (subst (λ j. holds_names j ≡ true) (sym w) holds) i
        (subst (λ t. Among i (cond t (q.node ∷ []) (bound_below q.node.kind q.node.children))) (ap (λ j. same_kind j kind.BindingIdentifier) w ∙ n) a)

    -- a name of the node's own
    in_own_role : (r : Role) → has_name_in q.node.kind r ≡ true → (m : Node) → Among m (children_of r q.node.children) → (m.kind ≡ kind.BindingIdentifier) × IsNamePlace (steps p) (q.node ∷ q.path) m
    in_own_role r w m a =
        let c : IsRoleChild (steps p) q r m = name_child p h q entered r m a in
        let identifier : m.kind ≡ kind.BindingIdentifier = kind_is m.kind kind.BindingIdentifier (subst (λ t. (not t || same_kind m.kind kind.BindingIdentifier) ≡ true) w (and_first (not (has_name_in q.node.kind r) || same_kind m.kind kind.BindingIdentifier) _ c.fits)) in (
          identifier,
          record {
            place = c.place;
            entered = c.entered;
            is_it = c.is_it;
            identifier = ap (λ n. n.kind) c.is_it ∙ identifier;
            reaches = subst (λ l. Reaches l (q.node ∷ q.path)) (sym c.above) (inl refl);
          },
        )

    one_name : (m i : Node) → m.kind ≡ kind.BindingIdentifier → Among i (bound_names m) → m ≡ i
    one_name m i w a = go (subst (λ t. Among i (cond t (m ∷ []) (bound_below m.kind m.children))) (ap (λ j. same_kind j kind.BindingIdentifier) w) a)
      where
        go : Among i (m ∷ []) → m ≡ i
        go (inl k) = k
        go (inr k) = absurd k

    own_name : (r : Role) → has_name_in q.node.kind r ≡ true → (i : Node) → Among i (names_at r q.node) → IsNamePlace (steps p) (q.node ∷ q.path) i
    own_name r w i a =
        let (m, j, k) = among_flat bound_names (children_of r q.node.children) i a in
        let two : (m.kind ≡ kind.BindingIdentifier) × IsNamePlace (steps p) (q.node ∷ q.path) m = in_own_role r w m j in
        subst (IsNamePlace (steps p) (q.node ∷ q.path)) (one_name m i two.0 k) two.1

    -- what declares the names of a node of the kind
    declarer_is : (k : AstType) → q.node.kind ≡ k → declarer_under (q.node ∷ q.path) ≡ declarer_in k q.node (declarer_under q.path)
    declarer_is k w = ap (λ j. declarer_in j q.node (declarer_under q.path)) w

    -- ---- node by node

    names_here : (k : AstType) → q.node.kind ≡ k → holds_names k ≡ true → same_kind k kind.BindingIdentifier ≡ false → holds_kind (kind.Program ∷ kind.Function ∷ kind.ArrowFunctionExpression ∷ kind.StaticBlock ∷ kind.TSModuleBlock ∷ []) k ≡ false → same_declarer (declarer_in k q.node (declarer_under q.path)) declarer.Function ≡ false → (f : Node → Bound) → ((i : Node) → Ways (f i)) → ((i : Node) → i.text ≡ (f i).name) → (b : Bound) → Among b (map f (bound_names q.node)) → IsNoted p q b
    names_here k w holds n home other f ways text b a =
        let (i, j, v) = among_map f (bound_names q.node) b a in
        subst (IsNoted p q) v (plain_case (f i) i (in_pattern k w holds n i j) (text i) (ap (λ d. same_declarer d declarer.Function) (declarer_is k w) ∙ other) (no_home k q.node w home) (ways i))

    names_in_role : (k : AstType) (r : Role) → q.node.kind ≡ k → has_name_in k r ≡ true → holds_kind (kind.Program ∷ kind.Function ∷ kind.ArrowFunctionExpression ∷ kind.StaticBlock ∷ kind.TSModuleBlock ∷ []) k ≡ false → same_declarer (declarer_in k q.node (declarer_under q.path)) declarer.Function ≡ false → (f : Node → Bound) → ((i : Node) → Ways (f i)) → ((i : Node) → i.text ≡ (f i).name) → (b : Bound) → Among b (map f (names_at r q.node)) → IsNoted p q b
    names_in_role k r w holds home other f ways text b a =
        let (i, j, v) = among_map f (names_at r q.node) b a in
        subst (IsNoted p q) v (plain_case (f i) i (own_name r (ap (λ t. has_name_in t r) w ∙ holds) i j) (text i) (ap (λ d. same_declarer d declarer.Function) (declarer_is k w) ∙ other) (no_home k q.node w home) (ways i))

    declarator : q.node.kind ≡ kind.VariableDeclarator → (b : Bound) (path : List Node) → q.path ≡ path → Among b (bound_by_declarator q.node path) → IsNoted p q b
    declarator w b [] u a = absurd (rooted u)
    declarator w b (y ∷ path) u a = go (is_with_text kind.VariableDeclaration (codes "var") y) a
      where
        above : (z : Node) × (l : List Node) × (q.path ≡ z ∷ l) × (z.kind ≡ kind.VariableDeclaration)
        above = (each_at (NamedAt (steps p)) (steps p) (entering q) (named_program p h) entered).above w

        not_function : (t : Bool) → same_declarer (cond t declarer.Var declarer.Other) declarer.Function ≡ false
        not_function true = refl
        not_function false = refl

        other : same_declarer (declarer_in kind.VariableDeclarator q.node (declarer_under q.path)) declarer.Function ≡ false
        other = let (z, l, v, k) = above in
            ap (λ m. same_declarer (declarer_under m) declarer.Function) v ∙ ap (λ j. same_declarer (declarer_in j z (declarer_under l)) declarer.Function) k ∙ not_function (has_text (codes "var") z)

        same_round : environments q.node (y ∷ path) ≡ es
        same_round = ap (environments q.node) (sym u)

        go : (t : Bool) → Among b (map (cond t (bound_outward (environments q.node (y ∷ path))) (bound_here bound.Lexical (environments q.node (y ∷ path)))) (bound_names q.node)) → IsNoted p q b
        go true i = names_here kind.VariableDeclarator w refl refl refl other (bound_outward es) outward_ways (λ n. refl) b (subst (λ ds. Among b (map (bound_outward ds) (bound_names q.node))) same_round i)
        go false i = names_here kind.VariableDeclarator w refl refl refl other (bound_here bound.Lexical es) (here_ways bound.Lexical) (λ n. refl) b (subst (λ ds. Among b (map (bound_here bound.Lexical ds) (bound_names q.node))) same_round i)

    catches : q.node.kind ≡ kind.CatchParameter → (b : Bound) → Among b (flat_map (bound_by_catch es) (children_of role.Pattern q.node.children)) → IsNoted p q b
    catches w b a =
        let (m, i, d) = among_flat (bound_by_catch es) (children_of role.Pattern q.node.children) b a in
        let (n, j, k) = among_map (bound_here (cond (is kind.BindingIdentifier m) bound.CatchName bound.Lexical) es) (bound_names m) b d in
        subst (IsNoted p q) k (plain_case (bound_here (cond (is kind.BindingIdentifier m) bound.CatchName bound.Lexical) es n) n
        (name_place p h e numbered q entered (subst (λ t. holds_names t ≡ true) (sym w) refl) n (subst (λ t. Among n (bound_below t q.node.children)) (sym w) (in_below q.node.children m n i j)))
        refl (ap (λ t. same_declarer t declarer.Function) (declarer_is kind.CatchParameter w)) (no_home kind.CatchParameter q.node w refl) (here_ways (cond (is kind.BindingIdentifier m) bound.CatchName bound.Lexical) n))

    -- a class is bound inside itself, too
    class_ways : (n : Node) → (d : Environment) → Among d (crossed (bound_identifier bound.Lexical (innermost es) (record { kind = environment.Class; maker = q.node.node_id } ∷ []) [] n)) → is_home q.node ≡ false → InHome (steps p) (home_under (q.node ∷ q.path)) q.node d
    class_ways n d (inl i) home = subst (λ m. InHome (steps p) m q.node d) (sym (ap (λ t. cond t q.node.node_id (home_under q.path)) home)) (subst (InHome (steps p) (home_under q.path) q.node) i (round (innermost es) inner_there))
    class_ways n d (inr (inl i)) home = subst (InHome (steps p) (home_under (q.node ∷ q.path)) q.node) i (own_way environment.Class refl)
    class_ways n d (inr (inr i)) home = absurd i

    own_ways : (k : EnvironmentKind) → is_made_for environment.IfBody (record { kind = k; maker = q.node.node_id }) ≡ false → (n : Node) (d : Environment) → Among d (crossed (bound_identifier bound.OwnName (record { kind = k; maker = q.node.node_id }) [] [] n)) → InHome (steps p) (home_under (q.node ∷ q.path)) q.node d
    own_ways k v n d (inl i) = subst (InHome (steps p) (home_under (q.node ∷ q.path)) q.node) i (own_way k v)
    own_ways k v n d (inr i) = absurd i

    class : q.node.kind ≡ kind.Class → (b : Bound) → Among b (bound_by_class q.node q.path) → IsNoted p q b
    class w b a = go (is_statement q.node) a
      where
        home : is_home q.node ≡ false
        home = no_home kind.Class q.node w refl

        other : same_declarer (declarer_under (q.node ∷ q.path)) declarer.Function ≡ false
        other = ap (λ t. same_declarer t declarer.Function) (declarer_is kind.Class w)

        go : (t : Bool) → Among b (map (cond t (bound_identifier bound.Lexical (innermost es) (record { kind = environment.Class; maker = q.node.node_id } ∷ []) []) (bound_identifier bound.OwnName (record { kind = environment.Class; maker = q.node.node_id }) [] [])) (names_at role.Id q.node)) → IsNoted p q b
        go true i =
            let (n, j, v) = among_map (bound_identifier bound.Lexical (innermost es) (record { kind = environment.Class; maker = q.node.node_id } ∷ []) []) (names_at role.Id q.node) b i in
            subst (IsNoted p q) v (identifier_there (bound_identifier bound.Lexical (innermost es) (record { kind = environment.Class; maker = q.node.node_id } ∷ []) [] n) n (own_name role.Id (ap (λ t. has_name_in t role.Id) w) n j) refl other (λ d a. class_ways n d a home))
        go false i =
            let (n, j, v) = among_map (bound_identifier bound.OwnName (record { kind = environment.Class; maker = q.node.node_id }) [] []) (names_at role.Id q.node) b i in
            subst (IsNoted p q) v (identifier_there (bound_identifier bound.OwnName (record { kind = environment.Class; maker = q.node.node_id }) [] [] n) n (own_name role.Id (ap (λ t. has_name_in t role.Id) w) n j) refl other (own_ways environment.Class refl n))

    -- the name of a function declaration is noted at the function
    first_name : q.node.kind ≡ kind.Function → (n : Node) → Among n (names_at role.Id q.node) → child_of role.Id q.node ≡ Some n
    first_name w n a = go (children_of role.Id q.node.children) refl
      where
        once : AtMostOne (names_at role.Id q.node)
        once = named_once p h q.node familiar.node w

        go : (ms : List Node) → children_of role.Id q.node.children ≡ ms → child_of role.Id q.node ≡ Some n
        go [] v = absurd (subst (λ ms. Among n (flat_map bound_names ms)) v a)
        go (m ∷ ms) v =
            let identifier : m.kind ≡ kind.BindingIdentifier = (in_own_role role.Id (ap (λ t. has_name_in t role.Id) w) m (subst (Among m) (sym v) (inl refl))).0 in
            let itself : Among m (bound_names m) = subst (λ t. Among m (cond t (m ∷ []) (bound_below m.kind m.children))) (sym (ap (λ j. same_kind j kind.BindingIdentifier) identifier)) (inl refl) in
            let there : Among m (names_at role.Id q.node) = subst (λ l. Among m (flat_map bound_names l)) (sym v) (among_left m (bound_names m) (flat_map bound_names ms) itself) in
            ap first_of v ∙ ap Some (same_of_one (names_at role.Id q.node) m n once there a)

    abbrev declared_as : Name → Mention
    declared_as name = record { what = what.Declaration; home = home_under q.path; name = name }

    pub function_noted_there : q.node.kind ≡ kind.Function → is_statement q.node ≡ true → (n : Node) → Among n (names_at role.Id q.node) → (m : Mention) → Among m (function_noted (around_under p.source_type q.path) q.node n.text) → Among m (noted_at p.source_type (entering q))
    function_noted_there w st n a m i =
        subst (λ k. Among m (noted_by k (around_under p.source_type q.path) q.node)) (sym w)
        (subst (λ t. Among m (cond t (named_noted (function_noted (around_under p.source_type q.path) q.node) (child_of role.Id q.node)) [])) (sym st)
        (subst (λ o. Among m (named_noted (function_noted (around_under p.source_type q.path) q.node) o)) (sym (first_name w n a)) i))

    pub declaration_there : q.node.kind ≡ kind.Function → is_statement q.node ≡ true → (n : Node) → Among n (names_at role.Id q.node) → IsNoted p q (bound_by_declaration p.source_type q.node q.path n)
    declaration_there w st n a = record {
      place = q;
      entered = entered;
      home = home_under q.path;
      noted = function_noted_there w st n a (declared_as (bound_by_declaration p.source_type q.node q.path n).name) (inl (λ i. record { what = what.Declaration; home = home_under q.path; name = named i }));
      ways = declaration_ways n;
      sort = inl (refl, w);
    }
      where
        named : n.text ≡ (bound_by_declaration p.source_type q.node q.path n).name
        named = go (language.is_block_function p.source_type q.node q.path)
          where
            go : (t : Bool) → n.text ≡ (cond t (bound_identifier bound.Function (innermost es) (variable_environment es ∷ []) (passed es) n) (bound_here bound.Function es n)).name
            go true = refl
            go false = refl

    function : q.node.kind ≡ kind.Function → (b : Bound) → Among b (bound_by_function p.source_type q.node q.path) → IsNoted p q b
    function w b a = go (is_statement q.node) refl a
      where
        go : (t : Bool) → is_statement q.node ≡ t → Among b (map (cond t (bound_by_declaration p.source_type q.node q.path) (bound_identifier bound.OwnName (record { kind = environment.OwnName; maker = q.node.node_id }) [] [])) (names_at role.Id q.node)) → IsNoted p q b
        go true st i =
            let (n, j, v) = among_map (bound_by_declaration p.source_type q.node q.path) (names_at role.Id q.node) b i in
            subst (IsNoted p q) v (declaration_there w st n j)
        go false st i =
            let (n, j, v) = among_map (bound_identifier bound.OwnName (record { kind = environment.OwnName; maker = q.node.node_id }) [] []) (names_at role.Id q.node) b i in
            let other : same_declarer (declarer_under (q.node ∷ q.path)) declarer.Function ≡ false = ap (λ t. same_declarer t declarer.Function) (declarer_is kind.Function w) ∙ ap (λ t. same_declarer (cond t declarer.Function declarer.Other) declarer.Function) st in
            subst (IsNoted p q) v (identifier_there (bound_identifier bound.OwnName (record { kind = environment.OwnName; maker = q.node.node_id }) [] [] n) n (own_name role.Id (ap (λ t. has_name_in t role.Id) w) n j) refl other (own_ways environment.OwnName refl n))

    by_kind : (k : AstType) → q.node.kind ≡ k → (b : Bound) → Among b (bound_by_node k p.source_type q.node q.path) → IsNoted p q b
    by_kind kind.VariableDeclarator w b a = declarator w b q.path refl a
    by_kind kind.Function w b a = function w b a
    by_kind kind.Class w b a = class w b a
    by_kind kind.FormalParameter w b a = names_here kind.FormalParameter w refl refl refl refl (bound_here bound.Parameter es) (here_ways bound.Parameter) (λ n. refl) b a
    by_kind kind.FormalParameterRest w b a = names_here kind.FormalParameterRest w refl refl refl refl (bound_here bound.Parameter es) (here_ways bound.Parameter) (λ n. refl) b a
    by_kind kind.CatchParameter w b a = catches w b a
    by_kind kind.ImportSpecifier w b a = names_in_role kind.ImportSpecifier role.Local w refl refl refl (bound_here bound.Lexical es) (here_ways bound.Lexical) (λ n. refl) b a
    by_kind kind.ImportDefaultSpecifier w b a = names_in_role kind.ImportDefaultSpecifier role.Local w refl refl refl (bound_here bound.Lexical es) (here_ways bound.Lexical) (λ n. refl) b a
    by_kind kind.ImportNamespaceSpecifier w b a = names_in_role kind.ImportNamespaceSpecifier role.Local w refl refl refl (bound_here bound.Lexical es) (here_ways bound.Lexical) (λ n. refl) b a
    by_kind _ w b a = absurd a

  -- the program itself binds nothing
  pub is_noted : (b : Bound) → Among b (bound_by_node q.node.kind p.source_type q.node q.path) → IsNoted p q b
  is_noted b a = by_kind (λ w. root_binds q.node.kind (subst (EndsAtProgram q.node) w familiar.rooted) a) q.node.kind refl b a
    where
      root_binds : (k : AstType) → k ≡ kind.Program → Among b (bound_by_node k p.source_type q.node q.path) → ⊥
      root_binds k w i = subst (λ j. Among b (bound_by_node j p.source_type q.node q.path)) w i
