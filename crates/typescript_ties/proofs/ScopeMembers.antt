-- The declarations that a place sees of the scope round it are those of the containers of that scope.
use Rattle.std.proofs.Common.{◌≡◌, ℕ, ◌==◌, List, [], ◌∷◌, ◌++◌, Option, Some, None, Bool, true, false, ◌||◌, not, cond, refl, sym, ap, subst, ◌∙◌, inl, inr, ◌⊎◌, bytes_eq}
use Rattle.std.specs.List.{list_any}
use Rattle.std.specs.Prelude.{slice_get}
use Rattle.std.proofs.lemmas.Bool.{cases_Bool, eq-eqb, and_from, not-true}
use Rattle.std.proofs.lemmas.Bool.Decides.{eqb_tells}
use Rattle.semantic_syntax.proofs.Truth.{and_first, and_second}
use Rattle.semantic_kinds.specs.Kinds.{same_kind}
use Rattle.semantic_kinds.specs.declared.kind.AstType.{AstType}
use Rattle.semantic_kinds.specs.declared.kind.AstType.TheVariants as kind
use Rattle.semantic_kinds.specs.declared.role.Role.{Role}
use Rattle.semantic_syntax.specs.SourceTypes.{is_typescript}
use Rattle.semantic_syntax.specs.Tables.{Name}
use Rattle.semantic_tree.specs.Faults.{first_fault}
use Rattle.semantic_tree.specs.Tree.{Tree, IsNumbered}
use Rattle.semantic_tree.specs.Views.{is}
use Rattle.semantic_tree.specs.declared.node.Node.{Node}
use Rattle.semantic_model.specs.Declaration.{Declaration}
use Rattle.semantic_model.specs.Entries.{Among}
use Rattle.semantic_model.specs.Fold.{Made}
use Rattle.semantic_model.specs.Inside.{is_inside, is_in_header}
use Rattle.semantic_model.specs.Place.{Place, OpenScope}
use Rattle.semantic_model.specs.Step.{entering, steps}
use Rattle.semantic_model.proofs.once.ListedUnder.{name_tells}
use Rattle.semantic_model.specs.TablesOf.{made_of}
use Rattle.binding_laws.specs.SeenDeclarations.{is_own_name, stands_before_body, is_before_body}
use Rattle.binding_laws.proofs.EnteredOnce.{entered_once}
use Rattle.typescript_ties.specs.Containers.{Container, MemberPath, same_container_kind, same_names, same_members, same_container, is_container, is_of_signature, containers_by}
use Rattle.typescript_ties.specs.NamedDeclarations.{NamedDeclaration, is_sort, named_in}
use Rattle.typescript_ties.specs.Resolved.{has_declared}
use Rattle.typescript_ties.specs.SeenTogether.{is_in_scope, is_seen_from}
use Rattle.typescript_ties.specs.SimpleNames.{is_common, is_apart, is_simple, IsSimplyDeclared, HasOwnMembers}
use Rattle.typescript_ties.specs.declared.container_kind.ContainerKind.{ContainerKind}
use Rattle.typescript_ties.specs.declared.container_kind.ContainerKind.TheVariants as container
use Rattle.typescript_ties.specs.declared.declaration_sort.DeclarationSort.TheVariants as sort
use Rattle.typescript_ties.proofs.ChildPlaces.{same_truth, is_function, tells_inside, told_by_kind, tells_header}
use Rattle.typescript_ties.proofs.Groups.{GroupMember, member_of}
use Rattle.typescript_ties.proofs.HeadPlaces.{HasOrigin, IsCommonPlace, round_place}
use Rattle.typescript_ties.proofs.Pairs.{container_kind_is, IsSeenHeaded}
use Rattle.binding_laws.proofs.ScopeOpeners.{openers, IsOpened, one_scope}
use Rattle.binding_laws.proofs.SmallLaws.{never}
use Rattle.typescript_ties.proofs.SimpleOnes.{is_not_apart, is_parameter}
use Rattle.typescript_ties.proofs.SimpleDeclarations.{IsBoth, of_tables, of_language, of_made, made_so}

-- ---- a container is itself

pub kind_self : (k : ContainerKind) → same_container_kind k k ≡ true
kind_self container.Globals = refl
kind_self _ = refl

names_self : (xs : List Name) → same_names xs xs ≡ true
names_self [] = refl
names_self (x ∷ xs) = and_from (bytes_eq x x) (same_names xs xs) (elim (name_tells x x) [ inl e ↦ e.0 | inr e ↦ absurd (e.1 refl) ]) (names_self xs)

members_self : (c : Container) (m : Option MemberPath) → same_members c c m m ≡ true
members_self c None = eq-eqb c.node c.node refl
members_self c (Some m) = and_from (m.root == m.root) (same_names m.names m.names) (eq-eqb m.root m.root refl) (names_self m.names)

container_self : (c : Container) → same_container c c ≡ true
container_self c = and_from (same_container_kind c.kind c.kind) (same_members c c c.members c.members) (kind_self c.kind) (members_self c c.members)

-- the kinds that have a header
header_kinds : (k : AstType) (r : Role) → is_in_header k r ≡ true → (is_function k ≡ true) ⊎ (same_kind k kind.CatchClause ≡ true)
header_kinds kind.Function r h = inl refl
header_kinds kind.ArrowFunctionExpression r h = inl refl
header_kinds kind.CatchClause r h = inr refl
header_kinds _ r h = absurd (never (sym h))

module _ (p : Tree) (h : first_fault p ≡ None) (common : is_common p ≡ true) (typed : is_typescript p.source_type ≡ true) (numbered : IsNumbered p.root) (x : Name) (simply : IsSimplyDeclared p x) (alone : HasOwnMembers p x) where
  abbrev Both : Declaration → NamedDeclaration → Type 0
  Both d n = IsBoth p h common typed numbered x simply d n

  -- ---- a child of a place, within its scope

  module _ (q : Place) (entered : Among (entering q) (steps p)) (k : IsCommonPlace p q) (r : Role) (node : Node) (text : List ℕ)
      (tells : tells_inside q.node.kind r node.kind text ≡ true) (headed : tells_header q.node.kind r node.kind text ≡ true) (inside : is_inside q.node.kind r ≡ true)
      (s : OpenScope) (opener : s.opener ≡ q.node.node_id) (header : s.in_header ≡ is_in_header q.node.kind r) (opened : IsOpened (openers (steps p)) s)
      (c : Place) (c_entered : Among (entering c) (steps p)) (c_round : round_place p c ≡ containers_by q.node.kind p.source_type q.node q.path (round_place p q) node ++ round_place p q) where
    abbrev group : List Container
    group = containers_by q.node.kind p.source_type q.node q.path (round_place p q) node

    abbrev Member : Node → Container → Type 0
    Member ch d = GroupMember q.node.kind q.node ch node group d

    member : (ch : Node) (d : Container) → Among d (containers_by q.node.kind p.source_type q.node q.path (round_place p q) ch) → Member ch d
    member ch d a = member_of p.source_type q.node ch node q.path (round_place p q) r q.node.kind d k.no_with inside (told_by_kind q.node.kind r node.kind text tells) a

    header_is : is_function q.node.kind ≡ true → same_truth (is_in_header q.node.kind r) (is_of_signature node) ≡ true
    header_is f = go (is_function q.node.kind) f headed
      where
        go : (a : Bool) → a ≡ true → (not a || same_truth (is_in_header q.node.kind r) (is_of_signature node)) ≡ true → same_truth (is_in_header q.node.kind r) (is_of_signature node) ≡ true
        go true e h = h
        go false e h = absurd (never (sym e))

    same_or : (a b : Bool) → same_truth a b ≡ true → b ≡ a
    same_or true b e = e
    same_or false b e = not-true b e

    -- a container of the scope is one of the child's
    within_group : (n : NamedDeclaration) → is_apart n.container.kind ≡ false → n.container.node ≡ q.node.node_id → HasOrigin p n.container → (is_container container.Body n.container ≡ true → s.in_header ≡ false) → (is_container container.Parameters n.container ≡ true → is kind.TSTypeParameterDeclaration node ≡ false) → Among n.container group
    within_group n free at o body parameters =
        let place : o.place ≡ q = entered_once p numbered o.place q o.entered entered (sym o.stands ∙ at) in
        let a : Among n.container (containers_by q.node.kind p.source_type q.node q.path (round_place p q) o.child) = subst (λ (z : Place). Among n.container (containers_by z.node.kind p.source_type z.node z.path (round_place p z) o.child)) place o.among in
        let m : Member o.child n.container = member o.child n.container a in
        m.again free (λ i. same_or (is_in_header q.node.kind r) (is_of_signature node) (header_is (m.body i)) ∙ sym header ∙ body i) parameters

    -- a parameter, which isn't seen from type parameters
    pub record IsHidden (n : NamedDeclaration) : Type 0 where
      pub parameter : n.sort ≡ sort.Parameter
      pub past : is kind.TSTypeParameterDeclaration node ≡ true
      pub stands : n.container.node ≡ q.node.node_id

    in_or_hidden : (n : NamedDeclaration) → is_simple n ≡ true → n.container.node ≡ q.node.node_id → HasOrigin p n.container → (is_container container.Body n.container ≡ true → s.in_header ≡ false) → Among n.container group ⊎ IsHidden n
    in_or_hidden n e at o body = elim (cases_Bool (is kind.TSTypeParameterDeclaration node)) [
      | inr i ↦ inl (within_group n (is_not_apart n e) at o body (λ j. i))
      | inl i ↦ elim (cases_Bool (is_container container.Parameters n.container)) [
        | inl j ↦ inr (record { parameter = is_parameter n e j; past = i; stands = at })
        | inr j ↦ inl (within_group n (is_not_apart n e) at o body (λ l. absurd (never (sym l ∙ j))))
      ]
    ]

    -- what is seen of the scope: the child has its container, or it is hidden
    pub record SeenAs (m : Made) : Type 0 where
      pub named : NamedDeclaration
      pub both : Both m.declaration named
      pub there : Among named.container group ⊎ IsHidden named
      pub has : has_declared named.container x named ≡ true
      pub number : m.declaration.route.target.number ≡ s.number
      pub name : m.declaration.naming.name ≡ x

    -- what is seen has the name and the scope
    seen_so : (b : Bool) (m : Made) → cond b (is_before_body s.number x m) (is_in_scope s.number x m) ≡ true → (m.declaration.route.target.number ≡ s.number) × ((m.declaration.naming.name ≡ x) × (b ≡ true → (m.declaration.route.target.in_header || is_own_name m.declaration) ≡ true))
    seen_so true m e =
        let first : stands_before_body s.number m.declaration ≡ true = and_first (stands_before_body s.number m.declaration) (bytes_eq m.declaration.naming.name x) e in
        (number_is (and_first (m.declaration.route.target.number == s.number) (m.declaration.route.target.in_header || is_own_name m.declaration) first), (name_is (and_second (stands_before_body s.number m.declaration) (bytes_eq m.declaration.naming.name x) e), λ i. and_second (m.declaration.route.target.number == s.number) (m.declaration.route.target.in_header || is_own_name m.declaration) first))
      where
        number_is : (m.declaration.route.target.number == s.number) ≡ true → m.declaration.route.target.number ≡ s.number
        number_is i = elim (eqb_tells m.declaration.route.target.number s.number) [ inl j ↦ j.1 | inr j ↦ absurd (never (sym i ∙ j.0)) ]

        name_is : bytes_eq m.declaration.naming.name x ≡ true → m.declaration.naming.name ≡ x
        name_is i = elim (name_tells m.declaration.naming.name x) [ inl j ↦ j.1 | inr j ↦ absurd (never (sym i ∙ j.0)) ]
    seen_so false m e = (number_is (and_first (m.declaration.route.target.number == s.number) (bytes_eq m.declaration.naming.name x) e), (name_is (and_second (m.declaration.route.target.number == s.number) (bytes_eq m.declaration.naming.name x) e), λ i. absurd (never (sym i))))
      where
        number_is : (m.declaration.route.target.number == s.number) ≡ true → m.declaration.route.target.number ≡ s.number
        number_is i = elim (eqb_tells m.declaration.route.target.number s.number) [ inl j ↦ j.1 | inr j ↦ absurd (never (sym i ∙ j.0)) ]

        name_is : bytes_eq m.declaration.naming.name x ≡ true → m.declaration.naming.name ≡ x
        name_is i = elim (name_tells m.declaration.naming.name x) [ inl j ↦ j.1 | inr j ↦ absurd (never (sym i ∙ j.0)) ]

    pub seen_as : (m : Made) → Among m (made_of p) → is_seen_from s x m ≡ true → SeenAs m
    seen_as m a e =
        let (number, f) = seen_so s.in_header m e in
        let (n, both) = of_tables p h common typed numbered x simply m.declaration (of_made p h common typed numbered x simply m a) f.0 in
        let same : m.declaration.route.target.opener ≡ s.opener = one_opener m.declaration.route.target.opener s.opener (sym both.opened ∙ ap (slice_get (openers (steps p))) number ∙ opened) in
        record {
          named = n;
          both = both;
          there = in_or_hidden n (simply.each n both.named both.named_so both.other) (sym both.pair.home.opener ∙ same ∙ opener) both.pair.home.origin (λ i. not_headed s.in_header f.1 (both.pair.home.in_body i) (in_no_body m n both i));
          has = and_from (bytes_eq n.name x) (same_container n.container n.container || list_any (λ d. same_container d n.container) n.also) (elim (name_tells n.name x) [ inl j ↦ j.0 | inr j ↦ absurd (j.1 both.named_so) ]) (ap (λ b. b || list_any (λ d. same_container d n.container) n.also) (container_self n.container));
          number = number;
          name = f.0;
        }
      where
        one_opener : (a b : ℕ) → Some a ≡ Some b → a ≡ b
        one_opener a b i = cc

        in_no_body : (m : Made) (n : NamedDeclaration) → Both m.declaration n → is_container container.Body n.container ≡ true → is_own_name m.declaration ≡ false
        in_no_body m n both i = elim both.pair.own [
          | inl e ↦ e
          | inr (is_name, at) ↦ absurd (let z : container.Body ≡ container.OwnName = sym (container_kind_is n.container.kind container.Body i) ∙ container_kind_is n.container.kind container.OwnName at in absurd cc)
        ]

        not_headed : (b : Bool) → (b ≡ true → (m.declaration.route.target.in_header || is_own_name m.declaration) ≡ true) → m.declaration.route.target.in_header ≡ false → is_own_name m.declaration ≡ false → b ≡ false
        not_headed false f i j = refl
        not_headed true f i j = absurd (never (sym (f refl) ∙ (λ t. i t || j t)))

    -- a declaration that a container of the child has is seen
    pub record SeenToo (n : NamedDeclaration) : Type 0 where
      pub made : Made
      pub among : Among made (made_of p)
      pub both : Both made.declaration n
      pub seen : is_seen_from s x made ≡ true

    -- a container of the child that has one is none apart
    pub free_in : (n : NamedDeclaration) → Among n (named_in p) → is_sort sort.IndexParameter n ≡ false → (d : Container) → Among d group → has_declared d x n ≡ true → is_apart d.kind ≡ false
    free_in n a other d b e =
        let named : n.name ≡ x = elim (name_tells n.name x) [ inl j ↦ j.1 | inr j ↦ absurd (never (sym (and_first (bytes_eq n.name x) (same_container n.container d || list_any (λ z. same_container z d) n.also) e) ∙ j.0)) ] in
        let both : Both (of_language p h common typed numbered x simply n a named other).0 n = (of_language p h common typed numbered x simply n a named other).1 in
        let here : same_container n.container d ≡ true = first_of (same_container n.container d) (list_any (λ z. same_container z d) n.also) (and_second (bytes_eq n.name x) (same_container n.container d || list_any (λ z. same_container z d) n.also) e) (both.pair.also d (member node d b).no_global) in
        subst (λ z. is_apart z ≡ false) (container_kind_is n.container.kind d.kind (and_first (same_container_kind n.container.kind d.kind) (same_members n.container d n.container.members d.members) here)) (is_not_apart n (simply.each n a named other))
      where
        first_of : (u v : Bool) → (u || v) ≡ true → v ≡ false → u ≡ true
        first_of true v i j = refl
        first_of false v i j = absurd (never (sym i ∙ j))

    pub seen_too : (n : NamedDeclaration) → Among n (named_in p) → is_sort sort.IndexParameter n ≡ false → (d : Container) → Among d group → has_declared d x n ≡ true → SeenToo n
    seen_too n a other d b e =
        let named : n.name ≡ x = elim (name_tells n.name x) [ inl j ↦ j.1 | inr j ↦ absurd (never (sym (and_first (bytes_eq n.name x) (same_container n.container d || list_any (λ z. same_container z d) n.also) e) ∙ j.0)) ] in
        let (w, both) = of_language p h common typed numbered x simply n a named other in
        let m : Member node d = member node d b in
        let here : same_container n.container d ≡ true = left_or (same_container n.container d) (list_any (λ z. same_container z d) n.also) (and_second (bytes_eq n.name x) (same_container n.container d || list_any (λ z. same_container z d) n.also) e) (both.pair.also d m.no_global) in
        let same_node : n.container.node ≡ d.node = alone n a named c c_entered d (subst (Among d) (sym c_round) (left_among d group (round_place p q) b)) here in
        let same_kinds : n.container.kind ≡ d.kind = container_kind_is n.container.kind d.kind (and_first (same_container_kind n.container.kind d.kind) (same_members n.container d n.container.members d.members) here) in
        let at_node : n.container.node ≡ q.node.node_id = same_node ∙ m.node in
        let number : w.route.target.number ≡ s.number = one_scope p numbered w.route.target s both.opened opened (both.pair.home.opener ∙ at_node ∙ sym opener) in
        let free : is_apart n.container.kind ≡ false = is_not_apart n (simply.each n a named other) in
        let (y, made) = made_so p h common typed numbered x simply w both.among in
        record {
          made = record { declaration = w; symbol = y };
          among = made;
          both = both;
          seen = by s.in_header refl w number (ap (λ t. t.name) both.told ∙ named)
              (λ i. into_header w both.pair.home.opener at_node (both.pair.home.in_header (subst (λ z. (same_container_kind z container.TypeParameters || (same_container_kind z container.Parameters || same_container_kind z container.OwnName)) ≡ true) (sym same_kinds) (m.header (subst (λ z. is_apart z ≡ false) same_kinds free) (λ f. same_or_true (is_in_header q.node.kind r) (is_of_signature node) (header_is f) (sym header ∙ i)) (header_kinds q.node.kind r (sym header ∙ i))))) (header_kinds q.node.kind r (sym header ∙ i)) d b (subst (λ z. is_apart z ≡ false) same_kinds free)) y;
        }
      where
        left_or : (u v : Bool) → (u || v) ≡ true → v ≡ false → u ≡ true
        left_or true v i j = refl
        left_or false v i j = absurd (never (sym i ∙ j))

        left_among : (d : Container) (g l : List Container) → Among d g → Among d (g ++ l)
        left_among d [] l i = absurd i
        left_among d (z ∷ g) l (inl i) = inl i
        left_among d (z ∷ g) l (inr i) = inr (left_among d g l i)

        same_or_true : (u v : Bool) → same_truth u v ≡ true → u ≡ true → v ≡ true
        same_or_true true v i j = i
        same_or_true false v i j = absurd (never (sym j))

        -- the scope of a function is seen from its header
        into_header : (w : Declaration) → w.route.target.opener ≡ n.container.node → n.container.node ≡ q.node.node_id → IsSeenHeaded p w → (is_function q.node.kind ≡ true) ⊎ (same_kind q.node.kind kind.CatchClause ≡ true) → (d : Container) → Among d group → is_apart d.kind ≡ false → (w.route.target.in_header || is_own_name w) ≡ true
        into_header w o i g (inl f) d b free =
            let place : g.place ≡ q = entered_once p numbered g.place q g.entered entered (sym g.opener ∙ o ∙ i) in
            g.header (subst (λ (z : Place). is_function z.node.kind ≡ true) (sym place) f)
        into_header w o i g (inr f) d b free = absurd (no_clause q.node.kind f d b free)
          where
            no_clause : (j : AstType) → same_kind j kind.CatchClause ≡ true → (d : Container) → Among d (containers_by j p.source_type q.node q.path (round_place p q) node) → is_apart d.kind ≡ false → ⊥
            no_clause kind.CatchClause f d (inl e) free = never (subst (λ (z : Container). is_apart z.kind ≡ false) (sym e) free)
            no_clause kind.CatchClause f d (inr e) free = e
            no_clause _ f d b free = never (sym f)

        by : (b : Bool) → s.in_header ≡ b → (w : Declaration) → w.route.target.number ≡ s.number → w.naming.name ≡ x → (s.in_header ≡ true → (w.route.target.in_header || is_own_name w) ≡ true) → (y : ℕ) → is_seen_from s x (record { declaration = w; symbol = y }) ≡ true
        by true e w i j f y = rw e (and_from (stands_before_body s.number w) (bytes_eq w.naming.name x) (and_from (w.route.target.number == s.number) (w.route.target.in_header || is_own_name w) (eq-eqb w.route.target.number s.number i) (f e)) (elim (name_tells w.naming.name x) [ inl z ↦ z.0 | inr z ↦ absurd (z.1 j) ]))
        by false e w i j f y = rw e (and_from (w.route.target.number == s.number) (bytes_eq w.naming.name x) (eq-eqb w.route.target.number s.number i) (elim (name_tells w.naming.name x) [ inl z ↦ z.0 | inr z ↦ absurd (z.1 j) ]))
