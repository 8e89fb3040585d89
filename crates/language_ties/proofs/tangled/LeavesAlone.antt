-- Of a name that isn't tangled, a function that leaves its block goes alone: what else is bound on its way would be noted at its home.
use Rattle.std.proofs.Common.{◌≡◌, ℕ, ◌==◌, List, [], ◌∷◌, ◌++◌, None, Bool, true, false, ◌&&◌, ◌||◌, cond, map, flat_map, filter, inl, inr, ◌⊎◌, refl, sym, ap, subst, ◌∙◌, bytes_eq}
use Rattle.std.proofs.lemmas.Bool.{and_from, eq-eqb}
use Rattle.std.proofs.lemmas.Bool.Decides.{eqb_tells}
use Rattle.semantic_kinds.specs.declared.kind.AstType.TheVariants as kind
use Rattle.semantic_kinds.specs.declared.role.Role.TheVariants as role
use Rattle.semantic_syntax.specs.Tables.{Name}
use Rattle.semantic_tree.specs.Faults.{first_fault}
use Rattle.semantic_tree.specs.Tree.{Tree, IsNumbered}
use Rattle.semantic_model.specs.Binder.{is_statement}
use Rattle.semantic_model.specs.Entries.{Among}
use Rattle.semantic_model.proofs.lists.Members.{among_left}
use Rattle.semantic_model.specs.Names.{names_at}
use Rattle.semantic_model.specs.Place.{Place}
use Rattle.semantic_model.specs.Step.{Step, entering, steps}
use Rattle.program_laws.proofs.DeclaredNodes.{among_map}
use Rattle.binding_laws.proofs.EnteredOnce.{entered_once}
use Rattle.binding_laws.proofs.ListLaws.{among_filter, of_map, of_flat, each_at, same_of_one}
use Rattle.binding_laws.proofs.SmallLaws.{never, same_names}
use Rattle.tangle_model.specs.Mention.{Mention, noted_if, function_noted, is_block_function, noted_at, mentions}
use Rattle.tangle_model.specs.Repeated.{Key, same_key, is_mention_of, key_of, keys_of, key_stands, repeats}
use Rattle.tangle_model.specs.Surroundings.{home_under, around_under}
use Rattle.tangle_model.specs.Tangled.{meets_declaration, any_mention}
use Rattle.tangle_model.specs.declared.reason.Reason.TheVariants as reason
use Rattle.tangle_model.specs.declared.what.What.TheVariants as what
use Rattle.language_ties.specs.AgreeingNames.{crossed, IsAlone}
use Rattle.language_ties.specs.Bound.{Bound, bound_identifier, bound_here, bound_by_declaration, bound_by_node, written}
use Rattle.language_ties.specs.EcmaScript.{is_ecmascript}
use Rattle.language_ties.specs.Environments.{Environment, environments, innermost, passed, variable_environment}
use Rattle.language_ties.specs.declared.bound_as.BoundAs.TheVariants as bound
use Rattle.language_ties.specs.declared.environment_kind.EnvironmentKind.TheVariants as environment
use Rattle.language_ties.proofs.agree.FamiliarPlaces.{IsFamiliar, FamiliarAt, familiar_program}
use Rattle.language_ties.proofs.agree.KnownNodes.{node_at}
use Rattle.language_ties.proofs.agree.MadeEnvironments.{EndsAtProgram}
use Rattle.language_ties.proofs.agree.PlainBounds.{IsBoundAt, bound_at_place}
use Rattle.language_ties.proofs.moved.LeavingFunctions.{LeavesAt}
use Rattle.language_ties.proofs.own_names.OwnIds.{named_once}
use Rattle.language_ties.proofs.tangled.HomesRound.{IsMadeInHome, InHome}
use Rattle.language_ties.proofs.tangled.NotedNames.{IsNoted, is_noted, declaration_ways, function_noted_there}
use Rattle.language_ties.proofs.tangled.Untangled.{NoneButWith, any_of, holds_not}

-- ---- keys that stand twice

keys_append : (a b : List Mention) → keys_of what.Declaration (a ++ b) ≡ keys_of what.Declaration a ++ keys_of what.Declaration b
keys_append [] b = refl
keys_append (m ∷ a) b = go (is_mention_of what.Declaration m) (keys_append a b)
  where
    go : (t : Bool) → keys_of what.Declaration (a ++ b) ≡ keys_of what.Declaration a ++ keys_of what.Declaration b
        → map key_of (cond t (m ∷ filter (is_mention_of what.Declaration) (a ++ b)) (filter (is_mention_of what.Declaration) (a ++ b)))
        ≡ map key_of (cond t (m ∷ filter (is_mention_of what.Declaration) a) (filter (is_mention_of what.Declaration) a)) ++ keys_of what.Declaration b
    go true q = ap (λ ks. key_of m ∷ ks) q
    go false q = q

module _ (k : Key) where
  stands_left : (a b : List Key) → key_stands k a ≡ true → key_stands k (a ++ b) ≡ true
  stands_left [] b h = absurd (never (sym h))
  stands_left (l ∷ a) b h = go (same_key k l) h (stands_left a b)
    where
      go : (t : Bool) → (t || key_stands k a) ≡ true → (key_stands k a ≡ true → key_stands k (a ++ b) ≡ true) → (t || key_stands k (a ++ b)) ≡ true
      go true w later = refl
      go false w later = later w

  stands_right : (a b : List Key) → key_stands k b ≡ true → key_stands k (a ++ b) ≡ true
  stands_right [] b h = h
  stands_right (l ∷ a) b h = go (same_key k l) (stands_right a b h)
    where
      go : (t : Bool) → key_stands k (a ++ b) ≡ true → (t || key_stands k (a ++ b)) ≡ true
      go true w = refl
      go false w = w

  repeated_stands : (a : List Key) → repeats k a ≡ true → key_stands k a ≡ true
  repeated_stands [] h = absurd (never (sym h))
  repeated_stands (l ∷ a) h = go (same_key k l) h (repeated_stands a)
    where
      go : (t : Bool) → cond t (key_stands k a) (repeats k a) ≡ true → (repeats k a ≡ true → key_stands k a ≡ true) → (t || key_stands k a) ≡ true
      go true w later = refl
      go false w later = later w

  repeats_right : (a b : List Key) → repeats k b ≡ true → repeats k (a ++ b) ≡ true
  repeats_right [] b h = h
  repeats_right (l ∷ a) b h = go (same_key k l) (repeats_right a b h)
    where
      go : (t : Bool) → repeats k (a ++ b) ≡ true → cond t (key_stands k (a ++ b)) (repeats k (a ++ b)) ≡ true
      go true w = stands_right a b (repeated_stands b h)
      go false w = w

  repeats_both : (a b : List Key) → key_stands k a ≡ true → key_stands k b ≡ true → repeats k (a ++ b) ≡ true
  repeats_both [] b h g = absurd (never (sym h))
  repeats_both (l ∷ a) b h g = go (same_key k l) h (λ w. repeats_both a b w g)
    where
      go : (t : Bool) → (t || key_stands k a) ≡ true → (key_stands k a ≡ true → repeats k (a ++ b) ≡ true) → cond t (key_stands k (a ++ b)) (repeats k (a ++ b)) ≡ true
      go true w later = stands_right a b g
      go false w later = later w

  module _ (f : Step → List Mention) where
    abbrev Stands : Step → Type 0
    Stands st = key_stands k (keys_of what.Declaration (f st)) ≡ true

    stands_flat : (ss : List Step) (st : Step) → Among st ss → Stands st → key_stands k (keys_of what.Declaration (flat_map f ss)) ≡ true
    stands_flat [] st a h = absurd a
    stands_flat (y ∷ ss) st (inl q) h = subst (λ ks. key_stands k ks ≡ true) (sym (keys_append (f y) (flat_map f ss))) (stands_left (keys_of what.Declaration (f y)) (keys_of what.Declaration (flat_map f ss)) (subst Stands (sym q) h))
    stands_flat (y ∷ ss) st (inr a) h = subst (λ ks. key_stands k ks ≡ true) (sym (keys_append (f y) (flat_map f ss))) (stands_right (keys_of what.Declaration (f y)) (keys_of what.Declaration (flat_map f ss)) (stands_flat ss st a h))

    twice : (ss : List Step) (s t : Step) → Among s ss → Among t ss → (s ≡ t → ⊥) → Stands s → Stands t → repeats k (keys_of what.Declaration (flat_map f ss)) ≡ true
    twice [] s t a b n g h = absurd a
    twice (y ∷ ss) s t (inl q) (inl r) n g h = absurd (n (sym q ∙ r))
    twice (y ∷ ss) s t (inl q) (inr b) n g h = subst (λ ks. repeats k ks ≡ true) (sym (keys_append (f y) (flat_map f ss))) (repeats_both (keys_of what.Declaration (f y)) (keys_of what.Declaration (flat_map f ss)) (subst Stands (sym q) g) (stands_flat ss t b h))
    twice (y ∷ ss) s t (inr a) (inl r) n g h = subst (λ ks. repeats k ks ≡ true) (sym (keys_append (f y) (flat_map f ss))) (repeats_both (keys_of what.Declaration (f y)) (keys_of what.Declaration (flat_map f ss)) (subst Stands (sym r) h) (stands_flat ss s a g))
    twice (y ∷ ss) s t (inr a) (inr b) n g h = subst (λ ks. repeats k ks ≡ true) (sym (keys_append (f y) (flat_map f ss))) (repeats_right (keys_of what.Declaration (f y)) (keys_of what.Declaration (flat_map f ss)) (twice ss s t a b n g h))

-- ---- the function

module _ (p : Tree) (h : first_fault p ≡ None) (e : is_ecmascript p ≡ true) (numbered : IsNumbered p.root) (name : Name) (untangled : NoneButWith p name) where
  abbrev ws : List Bound
  ws = written p.source_type (steps p)

  abbrev mention : ℕ → Mention
  mention home = record { what = what.Declaration; home = home; name = name }

  -- what is noted of the name
  stands_noted : (home : ℕ) (other : Name) (ms : List Mention) → other ≡ name → Among (record { what = what.Declaration; home = home; name = other }) ms → key_stands (record { name = name; home = home }) (keys_of what.Declaration ms) ≡ true
  stands_noted home other ms w a =
      any_of (same_key (record { name = name; home = home })) (keys_of what.Declaration ms) (record { name = other; home = home })
      (of_map key_of (filter (is_mention_of what.Declaration) ms) (record { what = what.Declaration; home = home; name = other }) (among_filter (is_mention_of what.Declaration) ms (record { what = what.Declaration; home = home; name = other }) a refl))
      (and_from (bytes_eq name other) (home == home) (same_names name other (sym w)) (eq-eqb home home refl))

  module _ (b : Bound) (b_named : b.name ≡ name) (r : Place) (entered : Among (entering r) (steps p)) (l : LeavesAt p.source_type r b) (blocked : is_block_function (around_under p.source_type r.path) r.node ≡ true) where
    familiar : IsFamiliar (node_at p) r
    familiar = each_at (FamiliarAt (node_at p)) (steps p) (entering r) (familiar_program p h e numbered) entered

    no_program : kind.Program ≡ kind.Function → ⊥
    no_program i = absurd cc

    rooted : r.path ≡ [] → ⊥
    rooted w = no_program (sym (subst (EndsAtProgram r.node) w familiar.rooted) ∙ l.function)

    abbrev es : List Environment
    es = environments r.node r.path

    is_declaration : bound_by_declaration p.source_type r.node r.path l.name_node ≡ b
    is_declaration = ap (λ t. cond t (bound_identifier bound.Function (innermost es) (variable_environment es ∷ []) (passed es) l.name_node) (bound_here bound.Function es l.name_node)) l.ours ∙ sym l.is_it

    text_is : l.name_node.text ≡ name
    text_is = ap (λ z. z.name) (sym l.is_it) ∙ b_named

    my_ways : (d : Environment) → Among d (crossed b) → InHome (steps p) (home_under r.path) r.node d
    my_ways d a = declaration_ways p h e numbered r entered rooted l.name_node d (subst (λ c. Among d (crossed c)) (sym is_declaration) a)

    -- both of its notes
    abbrev notes : List Mention
    notes = function_noted (around_under p.source_type r.path) r.node l.name_node.text

    declared_there : Among (record { what = what.Declaration; home = home_under r.path; name = l.name_node.text }) (noted_at p.source_type (entering r))
    declared_there = function_noted_there p h e numbered r entered rooted l.function l.statement l.name_node l.among (record { what = what.Declaration; home = home_under r.path; name = l.name_node.text }) (inl refl)

    abbrev as_block : Mention
    as_block = record { what = what.BlockFunction; home = home_under r.path; name = l.name_node.text }

    block_there : Among as_block (mentions p)
    block_there = of_flat (noted_at p.source_type) (steps p) (entering r) as_block entered
        (function_noted_there p h e numbered r entered rooted l.function l.statement l.name_node l.among as_block (inr (among_left as_block (noted_if (is_block_function (around_under p.source_type r.path) r.node) what.BlockFunction (home_under r.path) l.name_node.text) _
        (subst (λ t. Among as_block (noted_if t what.BlockFunction (home_under r.path) l.name_node.text)) (sym blocked) (inl refl)))))

    -- no other node notes the name at its home
    noted_once : (z : Place) → Among (entering z) (steps p) → (entering z ≡ entering r → ⊥) → (other : Name) → other ≡ name → Among (record { what = what.Declaration; home = home_under r.path; name = other }) (noted_at p.source_type (entering z)) → ⊥
    noted_once z a n other w i =
        let key : Key = record { name = name; home = home_under r.path } in
        let two : repeats key (keys_of what.Declaration (mentions p)) ≡ true = twice key (noted_at p.source_type) (steps p) (entering z) (entering r) a entered n
        (stands_noted (home_under r.path) other (noted_at p.source_type (entering z)) w i)
        (stands_noted (home_under r.path) l.name_node.text (noted_at p.source_type (entering r)) text_is declared_there) in
        let meets : meets_declaration (mentions p) as_block ≡ true = subst (λ x. repeats (record { name = x; home = home_under r.path }) (keys_of what.Declaration (mentions p)) ≡ true) (sym text_is) two in
        let tangled : any_mention (meets_declaration (mentions p)) (mentions p) name ≡ true =
        any_of (λ m. meets_declaration (mentions p) m && bytes_eq name m.name) (mentions p) as_block block_there (and_from (meets_declaration (mentions p) as_block) (bytes_eq name l.name_node.text) meets (same_names name l.name_node.text (sym text_is))) in
        never (sym tangled ∙ holds_not p name untangled reason.BlockFunction (inl refl))

    -- the function binds nothing else
    itself_there : (c : Bound) → Among c (bound_by_node r.node.kind p.source_type r.node r.path) → c ≡ b
    itself_there c a =
        let there : Among c (map (bound_by_declaration p.source_type r.node r.path) (names_at role.Id r.node)) = go (subst (λ k. Among c (bound_by_node k p.source_type r.node r.path)) l.function a) in
        let (n, i, q) = among_map (bound_by_declaration p.source_type r.node r.path) (names_at role.Id r.node) c there in
        sym q ∙ ap (bound_by_declaration p.source_type r.node r.path) (same_of_one (names_at role.Id r.node) n l.name_node (named_once p h r.node familiar.node l.function) i l.among) ∙ is_declaration
      where
        go : Among c (map (cond (is_statement r.node) (bound_by_declaration p.source_type r.node r.path) (bound_identifier bound.OwnName (record { kind = environment.OwnName; maker = r.node.node_id }) [] [])) (names_at role.Id r.node)) → Among c (map (bound_by_declaration p.source_type r.node r.path) (names_at role.Id r.node))
        go i = subst (λ t. Among c (map (cond t (bound_by_declaration p.source_type r.node r.path) (bound_identifier bound.OwnName (record { kind = environment.OwnName; maker = r.node.node_id }) [] [])) (names_at role.Id r.node))) l.statement i

    at_its_place : (c : Bound) (q : Place) → Among (entering q) (steps p) → Among c (bound_by_node q.node.kind p.source_type q.node q.path) → q.node.node_id ≡ r.node.node_id → c ≡ b
    at_its_place c q a i w = itself_there c (subst (λ (z : Place). Among c (bound_by_node z.node.kind p.source_type z.node z.path)) (entered_once p numbered q r a entered w) i)

    no_function : kind.BindingIdentifier ≡ kind.Function → ⊥
    no_function i = absurd cc

    place_is : (y z : Place) → entering y ≡ entering z → y ≡ z
    place_is y z w = cc

    -- what shares its home is itself
    at_its_home : (c : Bound) → c.name ≡ name → (q : Place) → Among (entering q) (steps p) → Among c (bound_by_node q.node.kind p.source_type q.node q.path) → (n : IsNoted p q c) → n.home ≡ home_under r.path → c ≡ b
    at_its_home c c_named q a i n w = elim (eqb_tells q.node.node_id r.node.node_id) [
      | inl k ↦ at_its_place c q a i k.1
      | inr k ↦ absurd (noted_once n.place n.entered (λ s. elsewhere k.1 (place_is n.place r s) n.sort) c.name c_named (subst (λ m. Among (record { what = what.Declaration; home = m; name = c.name }) (noted_at p.source_type (entering n.place))) w n.noted))
    ]
      where
        elsewhere : (q.node.node_id ≡ r.node.node_id → ⊥) → n.place ≡ r → ((n.place ≡ q) × (q.node.kind ≡ kind.Function)) ⊎ (n.place.node.kind ≡ kind.BindingIdentifier) → ⊥
        elsewhere k s (inl u) = k (ap (λ (z : Place). z.node.node_id) (sym u.0 ∙ s))
        elsewhere k s (inr u) = no_function (sym u ∙ ap (λ (z : Place). z.node.kind) s ∙ l.function)

    one_home : (home other : ℕ) (d f : Environment) → d.maker ≡ f.maker → IsMadeInHome (steps p) home d → IsMadeInHome (steps p) other f → other ≡ home
    one_home home other d f maker u v =
        let same : v.entered.place ≡ u.entered.place = entered_once p numbered v.entered.place u.entered.place v.entered.entered u.entered.entered (ap (λ z. z.node_id) v.entered.node ∙ v.is ∙ sym maker ∙ sym u.is ∙ ap (λ z. z.node_id) (sym u.entered.node)) in
        let nodes : v.maker ≡ u.maker = sym v.entered.node ∙ ap (λ (z : Place). z.node) same ∙ u.entered.node in
        let paths : v.path ≡ u.path = sym v.entered.above ∙ ap (λ (z : Place). z.path) same ∙ u.entered.above in
        sym v.home_is ∙ (λ i. home_under (nodes i ∷ paths i)) ∙ u.home_is

    pub goes_alone : IsAlone p b
    goes_alone c a n d f on_b on_c same =
        let at : IsBoundAt p.source_type (steps p) c = bound_at_place p.source_type (steps p) c a in
        let noted_c : IsNoted p at.place c = is_noted p h e numbered at.place at.entered c at.binds in
        elim (my_ways d on_b) [
          | inl u ↦ elim (noted_c.ways f on_c) [
            | inl v ↦ at_its_home c (n ∙ b_named) at.place at.entered at.binds noted_c (one_home (home_under r.path) noted_c.home d f same.0 u v)
            | inr v ↦ absurd (never (sym v.body ∙ sym same.1 ∙ u.no_body))
          ]
          | inr u ↦ elim (noted_c.ways f on_c) [
            | inl v ↦ absurd (never (sym u.body ∙ same.1 ∙ v.no_body))
            | inr v ↦ at_its_place c at.place at.entered at.binds (v.maker_is ∙ sym same.0 ∙ sym u.maker_is)
          ]
        ]
