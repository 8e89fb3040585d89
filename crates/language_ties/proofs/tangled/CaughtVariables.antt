-- A `var` that passes a clause whose plain parameter has its name is noted with that name, and tangles it.
use Rattle.std.proofs.Common.{◌≡◌, ◌==◌, List, [], ◌∷◌, ◌++◌, None, Bool, true, false, ◌&&◌, ◌||◌, not, cond, map, flat_map, filter, if◌then◌else◌, inl, inr, refl, sym, ap, subst, ◌∙◌, bytes_eq, codes}
use Rattle.std.proofs.lemmas.Bool.{and_from, eq-eqb}
use Rattle.semantic_kinds.specs.Classes.{holds_kind}
use Rattle.semantic_kinds.specs.Kinds.{same_kind}
use Rattle.semantic_kinds.specs.Roles.{same_role}
use Rattle.semantic_kinds.specs.declared.kind.AstType.{AstType}
use Rattle.semantic_kinds.specs.declared.kind.AstType.TheVariants as kind
use Rattle.semantic_kinds.specs.declared.role.Role.TheVariants as role
use Rattle.semantic_syntax.specs.Tables.{Name}
use Rattle.semantic_syntax.specs.declared.source_type.SourceType.{SourceType}
use Rattle.semantic_tree.specs.Faults.{first_fault}
use Rattle.semantic_tree.specs.Forest.{Forest, nothing, tree}
use Rattle.semantic_tree.specs.Tree.{Tree, IsNumbered}
use Rattle.semantic_tree.specs.Views.{is, is_with_text, has_text, children_of}
use Rattle.semantic_tree.specs.declared.node.Node.{Node}
use Rattle.semantic_model.specs.Binder.{is_statement}
use Rattle.semantic_model.specs.Cursor.{on_entering}
use Rattle.semantic_model.specs.Entries.{Among}
use Rattle.semantic_model.specs.Names.{bound_names, bound_below, names_at}
use Rattle.semantic_model.specs.Place.{Place}
use Rattle.semantic_model.specs.Step.{entering, steps}
use Rattle.semantic_model.proofs.form.Clauses.{kind_is}
use Rattle.semantic_model.proofs.lists.Members.{among_left, among_right}
use Rattle.program_laws.proofs.DeclaredNodes.{among_map, among_flat}
use Rattle.binding_laws.proofs.ListLaws.{among_filter, of_map, of_flat, each_at}
use Rattle.binding_laws.proofs.SmallLaws.{never, same_names}
use Rattle.tangle_model.specs.Mention.{Mention, same_declarer, noted_if, identifier_noted, noted_by, noted_at, mentions}
use Rattle.tangle_model.specs.Repeated.{same_key, is_mention_of, key_of, keys_of, key_stands}
use Rattle.tangle_model.specs.Surroundings.{home_under, in_catch_under, in_inner_block_under, in_with_under, declarer_in, declarer_under, around_under}
use Rattle.tangle_model.specs.Tangled.{meets_catch_name, any_mention}
use Rattle.tangle_model.specs.declared.around.Around.{Around}
use Rattle.tangle_model.specs.declared.around.Declarer.{Declarer}
use Rattle.tangle_model.specs.declared.around.Declarer.TheVariants as declarer
use Rattle.tangle_model.specs.declared.reason.Reason.TheVariants as reason
use Rattle.tangle_model.specs.declared.what.What.TheVariants as what
use Rattle.language_ties.specs.Bound.{Bound, bound_identifier, bound_here, bound_outward, bound_by_declarator, bound_by_declaration, bound_by_function, bound_by_class, bound_by_catch, bound_by_node, is_block_function, is_bound_as, written}
use Rattle.language_ties.specs.EcmaScript.{is_ecmascript}
use Rattle.language_ties.specs.Environments.{Environment, made_by, environments, innermost, passed, variable_environment}
use Rattle.language_ties.specs.declared.bound_as.BoundAs.TheVariants as way
use Rattle.language_ties.specs.declared.environment_kind.EnvironmentKind.TheVariants as environment
use Rattle.language_ties.proofs.agree.FamiliarPlaces.{IsFamiliar, familiar_at}
use Rattle.language_ties.proofs.agree.KnownNodes.{node_at}
use Rattle.language_ties.proofs.agree.PlainBounds.{IsBoundAt, bound_at_place}
use Rattle.language_ties.proofs.caught.CaughtNames.{catch_environment, catch_kind}
use Rattle.language_ties.proofs.caught.InClauses.{IsInClause, in_clause}
use Rattle.language_ties.proofs.tangled.NamePlaces.{is_inner_pattern, holds_names, Reaches, IsNamePlace, names_below, IsAmidSteps, AmidAt, amid_program, NamesStandAt, stand_program}
use Rattle.language_ties.proofs.tangled.PassedClauses.{IsHeldBy, held_by}
use Rattle.language_ties.proofs.tangled.Untangled.{NoneButWith, any_of, holds_not}

-- ---- what stands round an identifier of a pattern

inner_declarer : (k : AstType) (x : Node) (d : Declarer) → is_inner_pattern k ≡ true → declarer_in k x d ≡ d
inner_declarer kind.ObjectPattern x d h = refl
inner_declarer kind.ArrayPattern x d h = refl
inner_declarer kind.AssignmentPattern x d h = refl
inner_declarer kind.BindingProperty x d h = refl
inner_declarer kind.BindingRestElement x d h = refl
inner_declarer _ x d h = absurd (never (sym h))

inner_home : (k : AstType) → is_inner_pattern k ≡ true → holds_kind (kind.Program ∷ kind.Function ∷ kind.ArrowFunctionExpression ∷ kind.StaticBlock ∷ kind.TSModuleBlock ∷ []) k ≡ false
inner_home kind.ObjectPattern h = refl
inner_home kind.ArrayPattern h = refl
inner_home kind.AssignmentPattern h = refl
inner_home kind.BindingProperty h = refl
inner_home kind.BindingRestElement h = refl
inner_home _ h = absurd (never (sym h))

inner_clause : (k : AstType) → is_inner_pattern k ≡ true → same_kind k kind.CatchClause ≡ false
inner_clause kind.ObjectPattern h = refl
inner_clause kind.ArrayPattern h = refl
inner_clause kind.AssignmentPattern h = refl
inner_clause kind.BindingProperty h = refl
inner_clause kind.BindingRestElement h = refl
inner_clause _ h = absurd (never (sym h))

pub reached_declarer : (path goal : List Node) → Reaches path goal → declarer_under path ≡ declarer_under goal
reached_declarer [] goal h = ap declarer_under h
reached_declarer (x ∷ path) goal (inl h) = ap declarer_under h
reached_declarer (x ∷ path) goal (inr h) = inner_declarer x.kind x (declarer_under path) h.0 ∙ reached_declarer path goal h.1

pub reached_home : (path goal : List Node) → Reaches path goal → home_under path ≡ home_under goal
reached_home [] goal h = ap home_under h
reached_home (x ∷ path) goal (inl h) = ap home_under h
reached_home (x ∷ path) goal (inr h) = ap (λ b. cond b x.node_id (home_under path)) (inner_home x.kind h.0) ∙ reached_home path goal h.1

reached_catch : (path goal : List Node) → Reaches path goal → in_catch_under path ≡ in_catch_under goal
reached_catch [] goal h = ap in_catch_under h
reached_catch (x ∷ path) goal (inl h) = ap in_catch_under h
reached_catch (x ∷ path) goal (inr h) =
    ap (λ b. not b && (same_kind x.kind kind.CatchClause || in_catch_under path)) (inner_home x.kind h.0)
    ∙ ap (λ b. b || in_catch_under path) (inner_clause x.kind h.0)
    ∙ reached_catch path goal h.1

-- ---- what binds as a `var`

module _ (s : SourceType) (x : Node) (path : List Node) (c : Bound) where
  abbrev es : List Environment
  es = environments x path

  pub record IsOfDeclarator : Type 0 where
    pub declaration : Node
    pub above : List Node
    pub under : path ≡ declaration ∷ above
    pub var : is_with_text kind.VariableDeclaration (codes "var") declaration ≡ true
    pub name : Node
    pub among : Among name (bound_names x)
    pub is_it : c ≡ bound_outward es name

  module _ (var : is_bound_as way.Var c ≡ true) where
    other : (f : Node → Bound) (names : List Node) → ((n : Node) → is_bound_as way.Var (f n) ≡ false) → Among c (map f names) → ⊥
    other f names g a = let (n, i, j) = among_map f names c a in never (sym var ∙ sym (ap (is_bound_as way.Var) j) ∙ g n)

    of_declarator : (l : List Node) → path ≡ l → Among c (bound_by_declarator x l) → IsOfDeclarator
    of_declarator [] w a = absurd a
    of_declarator (declaration ∷ l) w a = go (is_with_text kind.VariableDeclaration (codes "var") declaration) refl a
      where
        go : (t : Bool) → is_with_text kind.VariableDeclaration (codes "var") declaration ≡ t → Among c (map (cond t (bound_outward (environments x (declaration ∷ l))) (bound_here way.Lexical (environments x (declaration ∷ l)))) (bound_names x)) → IsOfDeclarator
        go true v i =
            let (n, j, k) = among_map (bound_outward (environments x (declaration ∷ l))) (bound_names x) c i in
            record { declaration = declaration; above = l; under = w; var = v; name = n; among = j; is_it = sym k ∙ ap (λ z. bound_outward (environments x z) n) (sym w) }
        go false v i = absurd (other (bound_here way.Lexical (environments x (declaration ∷ l))) (bound_names x) (λ n. refl) i)

    of_declaration : (n : Node) → is_bound_as way.Var (bound_by_declaration s x path n) ≡ false
    of_declaration n = go (is_block_function s x path)
      where
        go : (t : Bool) → is_bound_as way.Var (cond t (bound_identifier way.Function (innermost es) (variable_environment es ∷ []) (passed es) n) (bound_here way.Function es n)) ≡ false
        go true = refl
        go false = refl

    function : Among c (bound_by_function s x path) → ⊥
    function a = go (is_statement x) a
      where
        go : (t : Bool) → Among c (map (cond t (bound_by_declaration s x path) (bound_identifier way.OwnName (record { kind = environment.OwnName; maker = x.node_id }) [] [])) (names_at role.Id x)) → ⊥
        go true i = other (bound_by_declaration s x path) (names_at role.Id x) of_declaration i
        go false i = other (bound_identifier way.OwnName (record { kind = environment.OwnName; maker = x.node_id }) [] []) (names_at role.Id x) (λ n. refl) i

    class : Among c (bound_by_class x path) → ⊥
    class a = go (is_statement x) a
      where
        go : (t : Bool) → Among c (map (cond t (bound_identifier way.Lexical (innermost es) (record { kind = environment.Class; maker = x.node_id } ∷ []) []) (bound_identifier way.OwnName (record { kind = environment.Class; maker = x.node_id }) [] [])) (names_at role.Id x)) → ⊥
        go true i = other (bound_identifier way.Lexical (innermost es) (record { kind = environment.Class; maker = x.node_id } ∷ []) []) (names_at role.Id x) (λ n. refl) i
        go false i = other (bound_identifier way.OwnName (record { kind = environment.Class; maker = x.node_id }) [] []) (names_at role.Id x) (λ n. refl) i

    catch : Among c (flat_map (bound_by_catch es) (children_of role.Pattern x.children)) → ⊥
    catch a = let (n, i, d) = among_flat (bound_by_catch es) (children_of role.Pattern x.children) c a in go (is kind.BindingIdentifier n) n d
      where
        go : (t : Bool) (n : Node) → Among c (map (bound_here (cond t way.CatchName way.Lexical) es) (bound_names n)) → ⊥
        go true n i = other (bound_here way.CatchName es) (bound_names n) (λ m. refl) i
        go false n i = other (bound_here way.Lexical es) (bound_names n) (λ m. refl) i

    pub by_declarator : (k : AstType) → x.kind ≡ k → Among c (bound_by_node k s x path) → (x.kind ≡ kind.VariableDeclarator) × IsOfDeclarator
    by_declarator kind.VariableDeclarator w a = (w, of_declarator path refl a)
    by_declarator kind.Function w a = absurd (function a)
    by_declarator kind.Class w a = absurd (class a)
    by_declarator kind.CatchParameter w a = absurd (catch a)
    by_declarator kind.FormalParameter w a = absurd (other (bound_here way.Parameter es) (bound_names x) (λ n. refl) a)
    by_declarator kind.FormalParameterRest w a = absurd (other (bound_here way.Parameter es) (bound_names x) (λ n. refl) a)
    by_declarator kind.ImportSpecifier w a = absurd (other (bound_here way.Lexical es) (names_at role.Local x) (λ n. refl) a)
    by_declarator kind.ImportDefaultSpecifier w a = absurd (other (bound_here way.Lexical es) (names_at role.Local x) (λ n. refl) a)
    by_declarator kind.ImportNamespaceSpecifier w a = absurd (other (bound_here way.Lexical es) (names_at role.Local x) (λ n. refl) a)
    by_declarator _ w a = absurd a

-- ---- what the parameter of a clause binds stands below it

pub in_below : (f : Forest) (m n : Node) → Among m (children_of role.Pattern f) → Among n (bound_names m) → Among n (bound_below kind.CatchParameter f)
in_below nothing m n a b = absurd a
in_below (tree r k span text marks below id after) m n a b = go (same_role r role.Pattern) a (λ i. in_below after m n i b)
  where
    node : Node
    node = record { kind = k; span = span; text = text; marks = marks; children = below; node_id = id }

    go : (t : Bool) → Among m (if t then node ∷ children_of role.Pattern after else children_of role.Pattern after) → (Among m (children_of role.Pattern after) → Among n (bound_below kind.CatchParameter after)) → Among n (cond (t || false) (bound_names node) [] ++ bound_below kind.CatchParameter after)
    go true (inl e) later = among_left n (bound_names node) (bound_below kind.CatchParameter after) (subst (λ z. Among n (bound_names z)) (sym e) b)
    go true (inr i) later = among_right n (bound_names node) (bound_below kind.CatchParameter after) (later i)
    go false i later = later i

-- ---- what is noted

module _ (p : Tree) (h : first_fault p ≡ None) (e : is_ecmascript p ≡ true) (numbered : IsNumbered p.root) where
  -- an identifier below a place that holds names
  pub name_place : (q : Place) → Among (entering q) (steps p) → holds_names q.node.kind ≡ true → (i : Node) → Among i (bound_below q.node.kind q.node.children) → IsNamePlace (steps p) (q.node ∷ q.path) i
  name_place q a k i b =
      let amid : IsAmidSteps (steps p) q = each_at (AmidAt (steps p)) (steps p) (entering q) (amid_program p) a in
      let stands_well : NamesStandAt (entering q) = each_at NamesStandAt (steps p) (entering q) (stand_program p h) a in
      names_below (steps p) q None amid.below.number (on_entering q.node.kind q.cursor) q.node.children amid.below.includes k stands_well i b

  abbrev noted_there : Place → Around
  noted_there z = around_under p.source_type z.path

  identifier_at : (z : Place) → z.node.kind ≡ kind.BindingIdentifier → (m : Mention) → Among m (identifier_noted (noted_there z) z.node.text) → Among (entering z) (steps p) → Among m (mentions p)
  identifier_at z k m a entered = of_flat (noted_at p.source_type) (steps p) (entering z) m entered (subst (λ j. Among m (noted_by j (noted_there z) z.node)) (sym k) a)

  noted_true : (b : Bool) (m : Mention) → b ≡ true → Among m (noted_if b m.what m.home m.name)
  noted_true true m w = inl refl
  noted_true false m w = absurd (never (sym w))

  abbrev as_name : Place → Mention
  as_name z = record { what = what.CatchName; home = home_under z.path; name = z.node.text }

  abbrev as_variable : Place → Mention
  as_variable z = record { what = what.VarInCatch; home = home_under z.path; name = z.node.text }

  module _ (z : Place) where
    abbrev first : List Mention
    first = noted_if (not (same_declarer (declarer_under z.path) declarer.Function)) what.Declaration (home_under z.path) z.node.text

    abbrev second : List Mention
    second = noted_if (same_declarer (declarer_under z.path) declarer.CatchParameter) what.CatchName (home_under z.path) z.node.text

    abbrev third : List Mention
    third = noted_if (same_declarer (declarer_under z.path) declarer.Var && in_catch_under z.path) what.VarInCatch (home_under z.path) z.node.text

    abbrev fourth : List Mention
    fourth = noted_if (same_declarer (declarer_under z.path) declarer.Var && in_with_under z.path) what.InWith (home_under z.path) z.node.text

    abbrev fifth : List Mention
    fifth = noted_if (same_declarer (declarer_under z.path) declarer.Var && in_inner_block_under z.path) what.PassingVariable (home_under z.path) z.node.text

    -- a plain catch name is noted
    name_noted : z.node.kind ≡ kind.BindingIdentifier → Among (entering z) (steps p) → declarer_under z.path ≡ declarer.CatchParameter → Among (as_name z) (mentions p)
    name_noted k a d = identifier_at z k (as_name z)
        (among_left (as_name z) (first ++ second ++ third ++ fourth) fifth
        (among_left (as_name z) (first ++ second ++ third) fourth (among_left (as_name z) (first ++ second) third (among_right (as_name z) first second (noted_true (same_declarer (declarer_under z.path) declarer.CatchParameter) (as_name z) (ap (λ i. same_declarer i declarer.CatchParameter) d)))))) a

    -- so is a `var` in a clause
    variable_noted : z.node.kind ≡ kind.BindingIdentifier → Among (entering z) (steps p) → declarer_under z.path ≡ declarer.Var → in_catch_under z.path ≡ true → Among (as_variable z) (mentions p)
    variable_noted k a d w = identifier_at z k (as_variable z)
        (among_left (as_variable z) (first ++ second ++ third ++ fourth) fifth
        (among_left (as_variable z) (first ++ second ++ third) fourth (among_right (as_variable z) (first ++ second) third (noted_true (same_declarer (declarer_under z.path) declarer.Var && in_catch_under z.path) (as_variable z) (and_from (same_declarer (declarer_under z.path) declarer.Var) (in_catch_under z.path) (ap (λ i. same_declarer i declarer.Var) d) w))))) a

  -- both with one home tangle the name
  met : (name : Name) (y z : Place) → Among (as_variable y) (mentions p) → Among (as_name z) (mentions p) → y.node.text ≡ name → z.node.text ≡ name → home_under y.path ≡ home_under z.path → any_mention (meets_catch_name (mentions p)) (mentions p) name ≡ true
  met name y z a b n m w =
      let key : Among (key_of (as_name z)) (keys_of what.CatchName (mentions p)) = of_map key_of (filter (is_mention_of what.CatchName) (mentions p)) (as_name z) (among_filter (is_mention_of what.CatchName) (mentions p) (as_name z) b refl) in
      let same : same_key (key_of (as_variable y)) (key_of (as_name z)) ≡ true = and_from (bytes_eq y.node.text z.node.text) (home_under y.path == home_under z.path) (same_names y.node.text z.node.text (n ∙ sym m)) (eq-eqb (home_under y.path) (home_under z.path) w) in
      let there : key_stands (key_of (as_variable y)) (keys_of what.CatchName (mentions p)) ≡ true = any_of (same_key (key_of (as_variable y))) (keys_of what.CatchName (mentions p)) (key_of (as_name z)) key same in
      any_of (λ i. meets_catch_name (mentions p) i && bytes_eq name i.name) (mentions p) (as_variable y) a (and_from (meets_catch_name (mentions p) (as_variable y)) (bytes_eq name y.node.text) there (same_names name y.node.text (sym n)))

  -- ---- the name

  module _ (name : Name) (untangled : NoneButWith p name) (b c : Bound) (b_among : Among b (written p.source_type (steps p))) (c_among : Among c (written p.source_type (steps p))) (b_named : b.name ≡ name) (c_named : c.name ≡ name) (caught : is_bound_as way.CatchName b ≡ true) (var : is_bound_as way.Var c ≡ true) (passes : Among b.environment c.passed) where
    at_name : IsBoundAt p.source_type (steps p) b
    at_name = bound_at_place p.source_type (steps p) b b_among

    at_variable : IsBoundAt p.source_type (steps p) c
    at_variable = bound_at_place p.source_type (steps p) c c_among

    parameter : at_name.place.node.kind ≡ kind.CatchParameter
    parameter = catch_kind p.source_type at_name.place.node at_name.place.path b caught at_name.place.node.kind at_name.binds

    clause : IsInClause p h e numbered at_name.place
    clause = in_clause p h e numbered at_name.place at_name.entered parameter

    binds : Among b (bound_by_node kind.CatchParameter p.source_type at_name.place.node at_name.place.path)
    binds = subst (λ k. Among b (bound_by_node k p.source_type at_name.place.node at_name.place.path)) parameter at_name.binds

    environment_is : b.environment ≡ record { kind = environment.Catch; maker = clause.clause.node.node_id }
    environment_is =
        catch_environment p.source_type at_name.place.node at_name.place.path b binds
        ∙ ap (λ l. innermost (environments at_name.place.node l)) clause.under
        ∙ ap (λ k. innermost (made_by k clause.clause.node at_name.place.node ++ environments clause.clause.node clause.clause.path)) clause.caught

    declarator : (at_variable.place.node.kind ≡ kind.VariableDeclarator) × IsOfDeclarator p.source_type at_variable.place.node at_variable.place.path c
    declarator = by_declarator p.source_type at_variable.place.node at_variable.place.path c var at_variable.place.node.kind refl at_variable.binds

    held : IsHeldBy p numbered clause.clause clause.entered at_variable.place.path
    held =
        let familiar : IsFamiliar (node_at p) at_variable.place = familiar_at p h e numbered at_variable.place at_variable.entered in
        held_by p numbered clause.clause clause.entered at_variable.place.node at_variable.place.path familiar.path familiar.parents (each_at (AmidAt (steps p)) (steps p) (entering at_variable.place) (amid_program p) at_variable.entered).above clause.known
        (subst (λ d. Among d (passed (environments at_variable.place.node at_variable.place.path))) environment_is (subst (λ z. Among b.environment z.passed) declarator.1.is_it passes))

    -- the identifier of the `var`
    variable_place : IsNamePlace (steps p) (at_variable.place.node ∷ at_variable.place.path) declarator.1.name
    variable_place = name_place at_variable.place at_variable.entered (subst (λ k. holds_names k ≡ true) (sym declarator.0) refl) declarator.1.name
        (subst (λ k. Among declarator.1.name (cond (same_kind k kind.BindingIdentifier) (at_variable.place.node ∷ []) (bound_below at_variable.place.node.kind at_variable.place.node.children))) declarator.0 declarator.1.among)

    variable_declarer : declarer_under variable_place.place.path ≡ declarer.Var
    variable_declarer =
        reached_declarer variable_place.place.path (at_variable.place.node ∷ at_variable.place.path) variable_place.reaches
        ∙ ap (λ k. declarer_in k at_variable.place.node (declarer_under at_variable.place.path)) declarator.0
        ∙ ap declarer_under declarator.1.under
        ∙ of_var declarator.1.declaration (declarer_under declarator.1.above) declarator.1.var
      where
        of_var : (d : Node) (above : Declarer) → is_with_text kind.VariableDeclaration (codes "var") d ≡ true → declarer_in d.kind d above ≡ declarer.Var
        of_var d above w = go (same_kind d.kind kind.VariableDeclaration) (has_text (codes "var") d) refl refl w
          where
            go : (a b : Bool) → same_kind d.kind kind.VariableDeclaration ≡ a → has_text (codes "var") d ≡ b → (a && b) ≡ true → declarer_in d.kind d above ≡ declarer.Var
            go true true i j v = subst (λ k. declarer_in k d above ≡ declarer.Var) (sym (kind_is d.kind kind.VariableDeclaration i)) (ap (λ t. cond t declarer.Var declarer.Other) j)
            go true false i j v = absurd (never (sym v))
            go false b i j v = absurd (never (sym v))

    variable_catch : in_catch_under variable_place.place.path ≡ true
    variable_catch =
        reached_catch variable_place.place.path (at_variable.place.node ∷ at_variable.place.path) variable_place.reaches
        ∙ ap (λ k. not (holds_kind (kind.Program ∷ kind.Function ∷ kind.ArrowFunctionExpression ∷ kind.StaticBlock ∷ kind.TSModuleBlock ∷ []) k) && (same_kind k kind.CatchClause || in_catch_under at_variable.place.path)) declarator.0
        ∙ held.held

    variable_home : home_under variable_place.place.path ≡ home_under clause.clause.path
    variable_home =
        reached_home variable_place.place.path (at_variable.place.node ∷ at_variable.place.path) variable_place.reaches
        ∙ ap (λ k. cond (holds_kind (kind.Program ∷ kind.Function ∷ kind.ArrowFunctionExpression ∷ kind.StaticBlock ∷ kind.TSModuleBlock ∷ []) k) at_variable.place.node.node_id (home_under at_variable.place.path)) declarator.0
        ∙ held.home

    -- the identifier of the parameter
    record IsParameterName : Type 0 where
      name_node : Node
      below : Among name_node (bound_below kind.CatchParameter at_name.place.node.children)
      text : name_node.text ≡ b.name

    parameter_name : IsParameterName
    parameter_name =
        let (m, i, d) = among_flat (bound_by_catch (environments at_name.place.node at_name.place.path)) (children_of role.Pattern at_name.place.node.children) b binds in
        let (n, j, k) = among_map (bound_here (cond (is kind.BindingIdentifier m) way.CatchName way.Lexical) (environments at_name.place.node at_name.place.path)) (bound_names m) b d in
        record { name_node = n; below = in_below at_name.place.node.children m n i j; text = ap (λ z. z.name) k }

    name_at : IsNamePlace (steps p) (at_name.place.node ∷ at_name.place.path) parameter_name.name_node
    name_at = name_place at_name.place at_name.entered (subst (λ k. holds_names k ≡ true) (sym parameter) refl) parameter_name.name_node
        (subst (λ k. Among parameter_name.name_node (bound_below k at_name.place.node.children)) (sym parameter) parameter_name.below)

    name_declarer : declarer_under name_at.place.path ≡ declarer.CatchParameter
    name_declarer =
        reached_declarer name_at.place.path (at_name.place.node ∷ at_name.place.path) name_at.reaches
        ∙ ap (λ k. declarer_in k at_name.place.node (declarer_under at_name.place.path)) parameter

    name_home : home_under name_at.place.path ≡ home_under clause.clause.path
    name_home =
        reached_home name_at.place.path (at_name.place.node ∷ at_name.place.path) name_at.reaches
        ∙ ap (λ k. cond (holds_kind (kind.Program ∷ kind.Function ∷ kind.ArrowFunctionExpression ∷ kind.StaticBlock ∷ kind.TSModuleBlock ∷ []) k) at_name.place.node.node_id (home_under at_name.place.path)) parameter
        ∙ ap home_under clause.under
        ∙ ap (λ k. cond (holds_kind (kind.Program ∷ kind.Function ∷ kind.ArrowFunctionExpression ∷ kind.StaticBlock ∷ kind.TSModuleBlock ∷ []) k) clause.clause.node.node_id (home_under clause.clause.path)) clause.caught

    -- so the name would be tangled
    pub passes_not : ⊥
    passes_not =
        let y : Place = variable_place.place in
        let z : Place = name_at.place in
        let y_text : y.node.text ≡ name = ap (λ n. n.text) variable_place.is_it ∙ ap (λ i. i.name) (sym declarator.1.is_it) ∙ c_named in
        let z_text : z.node.text ≡ name = ap (λ n. n.text) name_at.is_it ∙ parameter_name.text ∙ b_named in
        let tangled : any_mention (meets_catch_name (mentions p)) (mentions p) name ≡ true =
        met name y z (variable_noted y variable_place.identifier variable_place.entered variable_declarer variable_catch) (name_noted z name_at.identifier name_at.entered name_declarer) y_text z_text (variable_home ∙ sym name_home) in
        never (sym tangled ∙ holds_not p name untangled reason.CatchVariable (inr (inl refl)))
