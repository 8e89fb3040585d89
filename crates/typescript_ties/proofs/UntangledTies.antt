-- References of a name that isn't tangled are tied to what it means.
use Rattle.std.proofs.Common.{◌≡◌, ℕ, ◌==◌, List, [], ◌∷◌, Option, Some, None, Bool, true, false, ◌&&◌, ◌||◌, not, cond, refl, sym, ap, subst, ◌∙◌, inl, inr, ◌⊎◌, bytes_eq, codes, map, filter, fold}
use Rattle.std.specs.List.{list_all}
use Rattle.std.proofs.lemmas.Bool.{cases_Bool, and_from, eq-eqb, or_parts}
use Rattle.std.proofs.lemmas.Bool.Decides.{eqb_tells}
use Rattle.semantic_syntax.proofs.Truth.{and_first, and_second}
use Rattle.semantic_kinds.specs.declared.kind.AstType.TheVariants as kind
use Rattle.semantic_syntax.specs.Lookup.{Seen, is_arguments, lookup}
use Rattle.semantic_syntax.specs.Sets.{meets, union}
use Rattle.semantic_syntax.specs.SourceTypes.{is_typescript}
use Rattle.semantic_syntax.specs.Tables.{Name, Symbol}
use Rattle.semantic_syntax.specs.Usable.{asks_for_namespace, is_usable}
use Rattle.semantic_syntax.specs.declared.reference_flags.TheConstants.ReferenceFlags as way
use Rattle.semantic_syntax.specs.declared.symbol_flags.TheConstants.SymbolFlags as symbol
use Rattle.semantic_tree.specs.Faults.{first_fault}
use Rattle.semantic_tree.specs.Tree.{Tree, IsNumbered}
use Rattle.semantic_tree.specs.Views.{is}
use Rattle.semantic_model.specs.Analysis.{analysis_of, symbol_at}
use Rattle.semantic_model.specs.Binding.{get}
use Rattle.semantic_model.specs.Cursor.{way_or_read}
use Rattle.semantic_model.specs.Entries.{Among}
use Rattle.semantic_model.specs.Event.{events, declarations}
use Rattle.semantic_model.specs.Fold.{State, Made, start, flags_or_none}
use Rattle.semantic_model.specs.Hoist.{run}
use Rattle.semantic_model.specs.Place.{Place, OpenScope}
use Rattle.semantic_model.specs.Reference.{reference_at}
use Rattle.semantic_model.specs.Step.{entering, steps}
use Rattle.semantic_model.specs.TablesOf.{tables_of, made_of}
use Rattle.semantic_model.specs.Tie.{seen_as, symbol_by}
use Rattle.semantic_model.proofs.bindings.NearestVar.{nearest}
use Rattle.semantic_model.proofs.fold.Orders.{table_of}
use Rattle.semantic_model.proofs.bindings.Owned.{kept_program}
use Rattle.semantic_model.proofs.bindings.Owners.{IsSymbolOf}
use Rattle.semantic_model.proofs.form.Shape.{has_form}
use Rattle.semantic_model.proofs.lists.BindingLaws.{get_among}
use Rattle.semantic_model.proofs.lists.Members.{among_at}
use Rattle.semantic_model.proofs.once.ListedUnder.{name_tells}
use Rattle.program_laws.specs.SymbolNames.{IsNamed}
use Rattle.program_laws.proofs.TiedNames.{ties_have_names, declarations_have_names}
use Rattle.binding_laws.proofs.ListLaws.{filter_among, among_filter, each_at}
use Rattle.binding_laws.specs.SeenDeclarations.{seen_alone, with_declaration, bound_by_all, is_before_body, stands_before_body}
use Rattle.tangle_model.specs.Mention.{mentions}
use Rattle.tangle_model.specs.Tangled.{is_bare_namespace, is_inner_alias, may_be_passed, is_merged_member, is_shared, any_symbol, holds_in, tangle_reasons}
use Rattle.tangle_model.specs.declared.reason.Reason.TheVariants as reason
use Rattle.typescript_ties.specs.AskedMeanings.{asked_by_reference}
use Rattle.typescript_ties.specs.NamedDeclarations.{named_in}
use Rattle.typescript_ties.specs.Resolved.{Resolved, nowhere, declared_in, resolve, name_use}
use Rattle.typescript_ties.specs.ResolvedTies.{is_that_symbol, is_untied, is_tied_to_each, is_tied_as_resolved, is_use_tied, parting_uses}
use Rattle.typescript_ties.specs.SeenTogether.{is_in_scope, is_seen_from, bound_together, asked_together}
use Rattle.typescript_ties.specs.SimpleNames.{is_common, HasOwnMembers, IsSimpleName}
use Rattle.typescript_ties.proofs.AgreedPlaces.{Agrees, AllHave, IsMissed, Matches, AgreesRound, AgreedStep, looked_up, agreed_places, any_there}
use Rattle.typescript_ties.proofs.FitsTogether.{meets_union, meets_mask}
use Rattle.typescript_ties.proofs.HiddenParameters.{asks_past_none}
use Rattle.typescript_ties.proofs.HeadPlaces.{round_place}
use Rattle.typescript_ties.proofs.IndexAsks.{under_index, hidden_cases, asks_no_index}
use Rattle.typescript_ties.proofs.OwnMembers.{own_members}
use Rattle.typescript_ties.proofs.PastParameters.{is_past_parameter}
use Rattle.typescript_ties.proofs.ClearFold.{ClearState}
use Rattle.typescript_ties.proofs.ClearTies.{clearly_tied}
use Rattle.typescript_ties.proofs.LikeFlags.{FlagsAlike, SeenAlike}
use Rattle.binding_laws.proofs.ReferredNodes.{IsReferred, is_referred}
use Rattle.binding_laws.proofs.SmallLaws.{never}
use Rattle.typescript_ties.proofs.PartingUses.{none_part}
use Rattle.typescript_ties.proofs.SharedNames.{asks_own_index, two_share, holds_not, never_free}
use Rattle.typescript_ties.proofs.SimpleDeclarations.{is_clear, all_free, all_seen, clear_state, bound_at_target}

-- ---- flags

abbrev aliases : ℕ
aliases = union symbol.Import.bits symbol.TypeImport.bits

abbrev enums : ℕ
enums = union symbol.RegularEnum.bits symbol.ConstEnum.bits

abbrev other_types : ℕ
other_types = union symbol.Class.bits (union symbol.Interface.bits (union symbol.EnumMember.bits (union symbol.TypeParameter.bits symbol.TypeAlias.bits)))

-- a namespace that is no type
bare : (f : ℕ) → meets f symbol.AsNamespace.bits ≡ true → meets f symbol.ByType.bits ≡ false → ((meets f symbol.ValueModule.bits || meets f symbol.NamespaceModule.bits) && not (meets f symbol.TypeFlag.bits)) ≡ true
bare f n t =
    let (no_types, no_aliases) = or_parts (meets f symbol.TypeFlag.bits) (meets f aliases) (sym (meets_mask f symbol.TypeFlag.bits aliases) ∙ t) in
    let (no_enums, no_others) = or_parts (meets f enums) (meets f other_types) (sym (meets_mask f enums other_types) ∙ no_types) in
    let both : (meets f (union symbol.ValueModule.bits symbol.NamespaceModule.bits) || (meets f enums || meets f aliases)) ≡ true = ap (λ z. meets f (union symbol.ValueModule.bits symbol.NamespaceModule.bits) || z) (sym (meets_mask f enums aliases)) ∙ sym (meets_mask f (union symbol.ValueModule.bits symbol.NamespaceModule.bits) (union enums aliases)) ∙ n in
    let first : (meets f symbol.ValueModule.bits || meets f symbol.NamespaceModule.bits) ≡ true = sym (meets_mask f symbol.ValueModule.bits symbol.NamespaceModule.bits) ∙ left (meets f (union symbol.ValueModule.bits symbol.NamespaceModule.bits)) (meets f enums) (meets f aliases) no_enums no_aliases both in
    and_from (meets f symbol.ValueModule.bits || meets f symbol.NamespaceModule.bits) (not (meets f symbol.TypeFlag.bits)) first (ap not no_types)
  where
    left : (a b c : Bool) → b ≡ false → c ≡ false → (a || (b || c)) ≡ true → a ≡ true
    left true b c i j k = refl
    left false b c i j k = absurd (never (sym k ∙ (λ z. i z || j z)))

-- more flags are usable, too
more_usable : (w f g : ℕ) → ((m : ℕ) → meets f m ≡ true → meets g m ≡ true) → is_usable w f ≡ true → is_usable w g ≡ true
more_usable w f g h e =
    let a : Bool = meets w way.Value.bits && meets f symbol.ByValue.bits in
    let b : Bool = meets w way.TypeFlag.bits && meets f symbol.ByType.bits in
    let c : Bool = meets w way.ValueAsType.bits && meets f symbol.ByValueAsType.bits in
    let n : Bool = not (asks_for_namespace w) in
    and_from ((meets w way.Value.bits && meets g symbol.ByValue.bits) || (meets w way.TypeFlag.bits && meets g symbol.ByType.bits) || (meets w way.ValueAsType.bits && meets g symbol.ByValueAsType.bits)) (n || meets g symbol.AsNamespace.bits)
    (three a b c (meets w way.Value.bits && meets g symbol.ByValue.bits) (meets w way.TypeFlag.bits && meets g symbol.ByType.bits) (meets w way.ValueAsType.bits && meets g symbol.ByValueAsType.bits)
    (grown (meets w way.Value.bits) symbol.ByValue.bits) (grown (meets w way.TypeFlag.bits) symbol.ByType.bits) (grown (meets w way.ValueAsType.bits) symbol.ByValueAsType.bits) (and_first ((a || b) || c) (n || meets f symbol.AsNamespace.bits) e))
    (second n (meets f symbol.AsNamespace.bits) (meets g symbol.AsNamespace.bits) (h symbol.AsNamespace.bits) (and_second ((a || b) || c) (n || meets f symbol.AsNamespace.bits) e))
  where
    grown : (v : Bool) (m : ℕ) → (v && meets f m) ≡ true → (v && meets g m) ≡ true
    grown v m i = and_from v (meets g m) (and_first v (meets f m) i) (h m (and_second v (meets f m) i))

    second : (n s t : Bool) → (s ≡ true → t ≡ true) → (n || s) ≡ true → (n || t) ≡ true
    second true s t i j = refl
    second false s t i j = i j

    three : (a b c d e f : Bool) → (a ≡ true → d ≡ true) → (b ≡ true → e ≡ true) → (c ≡ true → f ≡ true) → ((a || b) || c) ≡ true → ((d || e) || f) ≡ true
    three true b c d e f i j k l = (λ z. (i refl z || e) || f)
    three false true c d e f i j k l = (λ z. (d || j refl z) || f) ∙ one d f
      where
        one : (d f : Bool) → ((d || true) || f) ≡ true
        one true f = refl
        one false f = refl
    three false false true d e f i j k l = (λ z. (d || e) || k refl z) ∙ last (d || e)
      where
        last : (d : Bool) → (d || true) ≡ true
        last true = refl
        last false = refl
    three false false false d e f i j k l = absurd (never (sym l))

-- ---- where the flags of what is bound come from

record ComesFrom (ms : List Made) (y mask : ℕ) : Type 0 where
  made : Made
  among : Among made ms
  number : made.symbol ≡ y
  flag : meets made.declaration.naming.flags mask ≡ true

later_made : (m : Made) (ms : List Made) (y mask : ℕ) → ComesFrom ms y mask → ComesFrom (m ∷ ms) y mask
later_made m ms y mask c = record { made = c.made; among = inr c.among; number = c.number; flag = c.flag }

seen_is : (a b : Seen) → Some a ≡ Some b → a ≡ b
seen_is a b e = cc

comes_from : (ms : List Made) (z f y g mask : ℕ) → fold with_declaration (Some (record { symbol = z; flags = f })) ms ≡ Some (record { symbol = y; flags = g }) → meets g mask ≡ true → ((z ≡ y) × (meets f mask ≡ true)) ⊎ ComesFrom ms y mask
comes_from [] z f y g mask e h = inl (ap (λ (s : Seen). s.symbol) (seen_is (record { symbol = z; flags = f }) (record { symbol = y; flags = g }) e), ap (λ (s : Seen). meets s.flags mask) (seen_is (record { symbol = z; flags = f }) (record { symbol = y; flags = g }) e) ∙ h)
comes_from (m ∷ ms) z f y g mask e h = elim (eqb_tells z m.symbol) [
  | inl q ↦ (let same : with_declaration (Some (record { symbol = z; flags = f })) m ≡ Some (record { symbol = z; flags = union f m.declaration.naming.flags }) = ap (λ t. Some (cond t (record { symbol = z; flags = union f m.declaration.naming.flags }) (seen_alone m))) q.0 in
      elim (comes_from ms z (union f m.declaration.naming.flags) y g mask (sym (ap (λ o. fold with_declaration o ms) same) ∙ e) h) [
        | inr c ↦ inr (later_made m ms y mask c)
        | inl c ↦ elim (cases_Bool (meets f mask)) [
          | inl i ↦ inl (c.0, i)
          | inr i ↦ inr (record { made = m; among = inl refl; number = sym q.1 ∙ c.0; flag = sym (ap (λ t. t || meets m.declaration.naming.flags mask) i) ∙ sym (meets_union f m.declaration.naming.flags mask) ∙ c.1 })
        ]
      ])
  | inr q ↦ (let other : with_declaration (Some (record { symbol = z; flags = f })) m ≡ Some (record { symbol = m.symbol; flags = m.declaration.naming.flags }) = ap (λ t. Some (cond t (record { symbol = z; flags = union f m.declaration.naming.flags }) (seen_alone m))) q.0 in
      elim (comes_from ms m.symbol m.declaration.naming.flags y g mask (sym (ap (λ o. fold with_declaration o ms) other) ∙ e) h) [
        | inr c ↦ inr (later_made m ms y mask c)
        | inl c ↦ inr (record { made = m; among = inl refl; number = c.0; flag = c.1 })
      ])
]

bound_from : (ms : List Made) (y g mask : ℕ) → bound_by_all ms ≡ Some (record { symbol = y; flags = g }) → meets g mask ≡ true → ComesFrom ms y mask
bound_from [] y g mask e h = absurd cc
bound_from (m ∷ ms) y g mask e h = elim (comes_from ms m.symbol m.declaration.naming.flags y g mask e h) [
  | inl c ↦ record { made = m; among = inl refl; number = c.0; flag = c.1 }
  | inr c ↦ later_made m ms y mask c
]

-- ---- what a look-up finds

-- the scope of a look-up that ended well, and what it binds
record IsFoundAt (p : Tree) (x : Name) (w y : ℕ) : Type 0 where
  scope : OpenScope
  flags : ℕ
  bound : bound_together p x scope ≡ Some (record { symbol = y; flags = flags })
  usable : is_usable w flags ≡ true

module _ (p : Tree) (x : Name) (w : ℕ) (no_arguments : bytes_eq x (codes "arguments") ≡ false) where
  not_arguments : is_arguments x w ≡ false
  not_arguments = rw no_arguments refl

  found_at : (y : ℕ) (chain : List OpenScope) → symbol_by (lookup x w (map (asked_together p x) chain)) ≡ Some y → IsFoundAt p x w y
  found_at y [] e = absurd cc
  found_at y (s ∷ ss) e = by (bound_together p x s) refl e (found_at y ss)
    where
      by : (o : Option Seen) → bound_together p x s ≡ o → symbol_by (lookup x w (record { scope = s.number; flags = s.flags; bound = o } ∷ map (asked_together p x) ss)) ≡ Some y → (symbol_by (lookup x w (map (asked_together p x) ss)) ≡ Some y → IsFoundAt p x w y) → IsFoundAt p x w y
      by None b i later = later (sym next ∙ i)
        where
          next : symbol_by (lookup x w (record { scope = s.number; flags = s.flags; bound = None } ∷ map (asked_together p x) ss)) ≡ symbol_by (lookup x w (map (asked_together p x) ss))
          next = rw not_arguments refl
      by (Some z) b i later = elim (cases_Bool (is_usable w z.flags)) [
        | inl u ↦ (let found : symbol_by (lookup x w (record { scope = s.number; flags = s.flags; bound = Some z } ∷ map (asked_together p x) ss)) ≡ Some z.symbol = rw (not_arguments, u) refl in
            let same : Some z.symbol ≡ Some y = sym found ∙ i in
            let is_y : z.symbol ≡ y = cc in
            record { scope = s; flags = z.flags; bound = b ∙ ap (λ t. Some (record { symbol = t; flags = z.flags })) is_y; usable = u })
        | inr u ↦ (let next : symbol_by (lookup x w (record { scope = s.number; flags = s.flags; bound = Some z } ∷ map (asked_together p x) ss)) ≡ symbol_by (lookup x w (map (asked_together p x) ss)) = rw (not_arguments, u) refl in
            later (sym next ∙ i))
      ]

-- ---- the program

module _ (p : Tree) (h : first_fault p ≡ None) (common : is_common p ≡ true) (typed : is_typescript p.source_type ≡ true) (numbered : IsNumbered p.root) (x : Name) (untangled : tangle_reasons p x ≡ []) (name : IsSimpleName p x) where
  no_arguments : bytes_eq x (codes "arguments") ≡ false
  no_arguments = holds_not p h typed x untangled reason.Arguments (inr (inr (inl refl)))

  not_shared : any_symbol may_be_passed (tables_of p).symbols x ≡ true → is_shared (tables_of p).symbols x ≡ false
  not_shared e = by (is_typescript p.source_type) (any_symbol may_be_passed (tables_of p).symbols x) typed e (holds_not p h typed x untangled reason.NamespaceNamesake (inr (inr (inr (inr (inr (inr (inr (inl refl)))))))))
    where
      by : (t u : Bool) → t ≡ true → u ≡ true → ((t && u) && is_shared (tables_of p).symbols x) ≡ false → is_shared (tables_of p).symbols x ≡ false
      by true true i j k = k
      by true false i j k = absurd (never (sym j))
      by false u i j k = absurd (never (sym i))

  hidden : holds_in p.source_type (mentions p) (tables_of p) reason.HiddenParameter x ≡ false
  hidden = holds_not p h typed x untangled reason.HiddenParameter (inr (inr (inr (inr (inr (inr (inr (inr (inr (inl refl))))))))))

  unmerged : any_symbol (is_merged_member (mentions p) (tables_of p)) (tables_of p).symbols x ≡ false
  unmerged = holds_not p h typed x untangled reason.MergedMember (inr (inr (inr (inr (inr (inr (inl refl)))))))

  alone_members : HasOwnMembers p x
  alone_members = own_members p h common typed numbered x name.simply unmerged

  abbrev final : State
  final = run start (events (steps p))

  clear : ClearState (table_of p) (nearest p) (declarations (events (steps p))) x final
  clear = clear_state p h common typed numbered x name.simply

  -- ---- a reference

  module _ (q : Place) (entered : Among (entering q) (steps p)) (refers : is kind.IdentifierReference q.node ≡ true) (is_x : q.node.text ≡ x) where
    referred : IsReferred p q
    referred = is_referred p numbered q entered refers

    abbrev w : ℕ
    w = way_or_read q.cursor

    tied_is : referred.entry.symbol_id ≡ looked_up p h common typed numbered x no_arguments name.simply alone_members w q.chain
    tied_is = clearly_tied p h numbered x (is_clear p h common typed numbered x name.simply) referred.number (reference_at q) referred.entry referred.reference referred.row is_x (rw no_arguments refl) (all_seen p h common typed numbered x name.simply q.chain)

    -- no namespace is passed that is no type
    module _ (m : IsMissed p h common typed numbered x no_arguments name.simply alone_members w) where
      m_named : m.made.declaration.naming.name ≡ x
      m_named = elim (name_tells m.made.declaration.naming.name x) [ inl j ↦ j.1 | inr j ↦ absurd (never (sym (and_second (m.made.declaration.route.target.number == m.scope) (bytes_eq m.made.declaration.naming.name x) m.in_it) ∙ j.0)) ]

      missed_symbol : IsNamed (tables_of p) m.number x
      missed_symbol = subst (λ y. IsNamed (tables_of p) y x) m.is (subst (IsNamed (tables_of p) m.made.symbol) m_named (declarations_have_names p (has_form p h) m.made m.among))

      alike : SeenAlike (seen_as final (get final.bindings m.scope x)) (Some (record { symbol = m.number; flags = m.flags }))
      alike = subst (SeenAlike (seen_as final (get final.bindings m.scope x))) m.bound (clear.counted m.scope (all_free p h common typed numbered x name.simply m.scope))

      bound_there : get final.bindings m.scope x ≡ Some m.number
      bound_there = by (get final.bindings m.scope x) alike
        where
          by : (o : Option ℕ) → SeenAlike (seen_as final o) (Some (record { symbol = m.number; flags = m.flags })) → o ≡ Some m.number
          by None e = absurd e
          by (Some y) e = ap Some e.0

      missed_flags : FlagsAlike missed_symbol.symbol.flags.bits m.flags
      missed_flags = subst (λ f. FlagsAlike f m.flags) (sym (ap flags_or_none (sym missed_symbol.is_there))) (subst (λ o. SeenAlike (seen_as final o) (Some (record { symbol = m.number; flags = m.flags }))) bound_there alike).1

      -- the scope of the symbol is the one that binds it
      scope_there : missed_symbol.symbol.scope ≡ m.scope
      scope_there =
          let own : IsSymbolOf final.symbols m.scope x m.number = (kept_program p (has_form p h)).owned (record { scope = m.scope; name = x; symbol = m.number }) (get_among final.bindings m.scope x m.number bound_there) in
          ap (λ y. y.scope) (same_symbol missed_symbol.symbol own.symbol (sym missed_symbol.is_there ∙ own.is_there)) ∙ own.stands
        where
          same_symbol : (y z : Symbol) → Some y ≡ Some z → y ≡ z
          same_symbol y z e = cc

      is_passed : may_be_passed missed_symbol.symbol ≡ true
      is_passed = elim m.passed [
        | inl (namespace, no_type) ↦ ap (λ b. b || is_inner_alias missed_symbol.symbol) (bare missed_symbol.symbol.flags.bits (missed_flags symbol.AsNamespace.bits refl ∙ namespace) (missed_flags symbol.ByType.bits refl ∙ no_type))
        | inr (import, inner) ↦ or_last (is_bare_namespace missed_symbol.symbol) (is_inner_alias missed_symbol.symbol)
            (and_from (meets missed_symbol.symbol.flags.bits symbol.Import.bits || meets missed_symbol.symbol.flags.bits symbol.TypeImport.bits) (not (missed_symbol.symbol.scope == 0))
            (or_last (meets missed_symbol.symbol.flags.bits symbol.Import.bits) (meets missed_symbol.symbol.flags.bits symbol.TypeImport.bits) (missed_flags symbol.TypeImport.bits refl ∙ import)) (ap (λ c. not (c == 0)) scope_there ∙ ap not inner))
      ]
        where
          or_last : (a b : Bool) → b ≡ true → (a || b) ≡ true
          or_last true b e = refl
          or_last false b e = e

      alone : is_shared (tables_of p).symbols x ≡ false
      alone = not_shared (any_there (λ y. may_be_passed y && bytes_eq x y.name) (tables_of p).symbols missed_symbol.symbol (among_at (tables_of p).symbols m.number missed_symbol.symbol missed_symbol.is_there)
          (and_from (may_be_passed missed_symbol.symbol) (bytes_eq x missed_symbol.symbol.name) is_passed (elim (name_tells x missed_symbol.symbol.name) [ inl j ↦ j.0 | inr j ↦ absurd (j.1 (sym missed_symbol.named)) ])))

      -- what a declaration of its symbol is, the symbol is
      flag_of_symbol : (y : Made) (mask : ℕ) → Among y (made_of p) → y.declaration.naming.name ≡ x → y.symbol ≡ m.number → meets y.declaration.naming.flags mask ≡ true → meets m.flags mask ≡ true
      flag_of_symbol y mask a named same flag = m.any mask ∙ any_there (λ z. meets z.declaration.naming.flags mask) (filter (is_in_scope m.scope x) (made_of p)) y (among_filter (is_in_scope m.scope x) (made_of p) y a in_scope) flag
        where
          c : ℕ
          c = y.declaration.route.target.number

          in_own : is_in_scope c x y ≡ true
          in_own = and_from (c == c) (bytes_eq y.declaration.naming.name x) (eq-eqb c c refl) (elim (name_tells y.declaration.naming.name x) [ inl j ↦ j.0 | inr j ↦ absurd (j.1 named) ])

          -- that scope binds it, too
          bound_own : get final.bindings c x ≡ Some m.number
          bound_own = bound_at_target p h common typed numbered x name.simply y a named ∙ ap Some same

          in_scope : is_in_scope m.scope x y ≡ true
          in_scope = subst (λ d. is_in_scope d x y ≡ true) (clear.apart c m.scope m.number bound_own bound_there) in_own

      -- the look-up doesn't find its symbol
      never_that : looked_up p h common typed numbered x no_arguments name.simply alone_members w q.chain ≡ Some m.number → ⊥
      never_that e =
          let found : IsFoundAt p x w m.number = found_at p x w no_arguments m.number q.chain e in
          let more : (mask : ℕ) → meets found.flags mask ≡ true → meets m.flags mask ≡ true = λ mask i. from_scope found.scope (bound_from (filter (is_seen_from found.scope x) (made_of p)) m.number found.flags mask found.bound i) in
          never (sym (more_usable w found.flags m.flags more found.usable) ∙ m.unusable)
        where
          name_seen : (s : OpenScope) (b : Bool) (y : Made) → cond b (is_before_body s.number x y) (is_in_scope s.number x y) ≡ true → y.declaration.naming.name ≡ x
          name_seen s true y i = elim (name_tells y.declaration.naming.name x) [ inl k ↦ k.1 | inr k ↦ absurd (never (sym (and_second (stands_before_body s.number y.declaration) (bytes_eq y.declaration.naming.name x) i) ∙ k.0)) ]
          name_seen s false y i = elim (name_tells y.declaration.naming.name x) [ inl k ↦ k.1 | inr k ↦ absurd (never (sym (and_second (y.declaration.route.target.number == s.number) (bytes_eq y.declaration.naming.name x) i) ∙ k.0)) ]

          from_scope : (s : OpenScope) {mask : ℕ} → ComesFrom (filter (is_seen_from s x) (made_of p)) m.number mask → meets m.flags mask ≡ true
          from_scope s {mask} c = let (a, i) = filter_among (is_seen_from s x) (made_of p) c.made c.among in flag_of_symbol c.made mask a (name_seen s s.in_header c.made i) c.number c.flag

      never_missed : ⊥
      never_missed = by referred.entry.symbol_id refl
        where
          by : (o : Option ℕ) → referred.entry.symbol_id ≡ o → ⊥
          by None e = never_free p h typed x untangled q referred is_x e
          by (Some y) e =
              let other : IsNamed (tables_of p) y x = subst (IsNamed (tables_of p) y) is_x (ties_have_names p (has_form p h) referred.number y (reference_at q) referred.entry referred.reference referred.row e) in
              let same : y ≡ m.number = two_share (tables_of p).symbols y m.number other.symbol missed_symbol.symbol x other.is_there missed_symbol.is_there other.named missed_symbol.named alone in
              never_that (sym tied_is ∙ e ∙ ap Some same)

    tied_to_all : (ids : List ℕ) (y : ℕ) → AllHave p h common typed numbered x no_arguments name.simply alone_members ids y → list_all (λ i. is_that_symbol y (symbol_at (analysis_of p) i)) ids ≡ true
    tied_to_all [] y k = refl
    tied_to_all (i ∷ ids) y k =
        let one : is_that_symbol y (symbol_at (analysis_of p) i) ≡ true = ap (is_that_symbol y) k.0 ∙ eq-eqb y y refl in
        rw one (tied_to_all ids y k.1)

    agrees_so : (o : Option ℕ) (r : Resolved) → referred.entry.symbol_id ≡ o → Agrees p h common typed numbered x no_arguments name.simply alone_members o r → is_tied_as_resolved (analysis_of p) q.node.node_id r ≡ true
    agrees_so o nowhere e a = ap is_untied (referred.tied ∙ e ∙ a)
    agrees_so o (declared_in c ids) e a = ap (is_tied_to_each (analysis_of p) ids) (referred.tied ∙ e ∙ a.1) ∙ tied_to_all ids a.0 a.2

    -- where the name is hidden, no value is asked for
    not_hidden : (is_past_parameter (named_in p) x q.node q.path ≡ true) ⊎ (under_index (named_in p) x q.path ≡ true) → (asked_by_reference q.path).value ≡ false
    not_hidden (inl i) = asks_past_none p h common typed numbered x name.simply hidden q entered refers is_x i
    not_hidden (inr i) = absurd (asks_no_index p h numbered x (asks_own_index p h typed x untangled) q entered refers is_x i)

    use_agrees : is_use_tied (analysis_of p) (named_in p) (name_use p.source_type q) ≡ true
    use_agrees =
        let agree : AgreesRound p h common typed numbered x no_arguments name.simply alone_members q = (each_at (AgreedStep p h common typed numbered x no_arguments name.simply alone_members) (steps p) (entering q) (agreed_places p h common typed numbered x no_arguments name.simply alone_members) entered).0 in
        let matches : Matches p h common typed numbered x no_arguments name.simply alone_members w (looked_up p h common typed numbered x no_arguments name.simply alone_members w q.chain) (resolve (named_in p) (round_place p q) (asked_by_reference q.path) x) = agree (asked_by_reference q.path) w (name.ways q entered refers is_x) (λ i. not_hidden (hidden_cases (named_in p) x q.node q.path i)) in
        let there : is_tied_as_resolved (analysis_of p) q.node.node_id (resolve (named_in p) (round_place p q) (asked_by_reference q.path) x) ≡ true = elim matches [
          | inl a ↦ agrees_so (looked_up p h common typed numbered x no_arguments name.simply alone_members w q.chain) (resolve (named_in p) (round_place p q) (asked_by_reference q.path) x) tied_is a
          | inr b ↦ elim b [
            | inl m ↦ absurd (never_missed m)
            | inr f ↦ absurd (never_free p h typed x untangled q referred is_x (tied_is ∙ f.free))
          ]
        ] in
        subst (λ y. is_tied_as_resolved (analysis_of p) q.node.node_id (resolve (named_in p) (round_place p q) (asked_by_reference q.path) y) ≡ true) (sym is_x) there

  pub nothing_parts : parting_uses p x ≡ []
  nothing_parts = none_part p x use_agrees
