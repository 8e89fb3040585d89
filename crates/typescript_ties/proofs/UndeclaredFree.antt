-- The declarations of the tables, by the nodes that declare; and a name that nothing declares.
use Rattle.std.proofs.Common.{◌≡◌, ℕ, List, [], ◌∷◌, ◌++◌, Option, Some, None, Bool, true, false, cond, map, flat_map, refl, sym, ap, subst, ◌∙◌, inl, inr, ◌⊎◌, bytes_eq}
use Rattle.std.proofs.lemmas.Bool.{or_parts}
use Rattle.std.specs.List.{list_any}
use Rattle.semantic_kinds.specs.declared.kind.AstType.{AstType}
use Rattle.semantic_kinds.specs.declared.kind.AstType.TheVariants as kind
use Rattle.semantic_syntax.specs.Tables.{Name}
use Rattle.semantic_tree.specs.Faults.{first_fault}
use Rattle.semantic_tree.specs.Forest.{Forest, nothing, tree}
use Rattle.semantic_tree.specs.Tree.{Tree}
use Rattle.semantic_tree.specs.Views.{is}
use Rattle.semantic_tree.specs.declared.node.Node.{Node}
use Rattle.semantic_model.specs.Binder.{declared_by, declared_inside, declared_on_entering, declared_on_opening}
use Rattle.semantic_model.specs.Cursor.{on_entering}
use Rattle.semantic_model.specs.Declaration.{Declaration}
use Rattle.semantic_model.specs.EachStep.{EachStep}
use Rattle.semantic_model.specs.Entries.{Among}
use Rattle.semantic_model.specs.Event.{Event, declares, takes_over, declared, declarations, events, events_of, declares_all, placed, taken_over, is_catch_body, written_declarations}
use Rattle.semantic_model.specs.Fits.{DeclaredAs}
use Rattle.semantic_model.specs.NodeTable.{node_tables}
use Rattle.semantic_model.specs.Place as place
use Rattle.semantic_model.specs.Place.{Place, OpenScope, outside}
use Rattle.semantic_model.specs.ScopeKind.{opened_scope}
use Rattle.semantic_model.specs.Step.{Step, entering, opening, header_ending, closing, leaving, steps, steps_below, root_place}
use Rattle.semantic_model.specs.TablesOf.{tables_of}
use Rattle.semantic_model.proofs.fits.NothingInvented.{nothing_invented}
use Rattle.semantic_model.proofs.form.Shape.{has_form}
use Rattle.semantic_model.proofs.lists.Members.{among_left, among_right, among_cases}
use Rattle.semantic_model.proofs.once.ListedUnder.{name_tells}
use Rattle.semantic_model.proofs.steps.EachStep.{EachOfTurn, each_left, each_of_node, each_of_turn, turn_of_each}
use Rattle.semantic_model.proofs.steps.Turn.{Turn, turn_at}
use Rattle.semantic_model.proofs.steps.TurnCases.{opening_case, ending_case, last_case}
use Rattle.program_laws.specs.SymbolNames.{IsNamed}
use Rattle.program_laws.proofs.DeclaredNodes.{among_map, among_flat}
use Rattle.program_laws.proofs.TiedNames.{ties_have_names}
use Rattle.binding_laws.proofs.DeclaredMade.{placed_naming}
use Rattle.binding_laws.proofs.ListLaws.{each_at}
use Rattle.typescript_ties.specs.Containers.{Container}
use Rattle.typescript_ties.specs.DeclaredNames.{told_to_tables, told_by_language, is_declared_in, IsUntiedEverywhere, MeansNothing}
use Rattle.typescript_ties.specs.MeaningSets.{MeaningSet}
use Rattle.typescript_ties.specs.NamedDeclarations.{NamedDeclaration, named_by_node, named_at, named_in}
use Rattle.typescript_ties.specs.Resolved.{nowhere, declarations_in, resolve}
use Rattle.typescript_ties.proofs.DeclaredAlike.{names_by}
use Rattle.typescript_ties.proofs.KnownPlaces.{IsKnownPlace, KnownStep, known_places}

-- ---- a scope opens at a place that was entered

module _ (F : Place → Type 0) where
  abbrev pub OfEntered : Step → Type 0
  OfEntered (entering p) = F p
  OfEntered (opening p s) = Unit {0}
  OfEntered (header_ending p s) = Unit {0}
  OfEntered (closing p s) = Unit {0}
  OfEntered (leaving p) = Unit {0}

  abbrev pub OfOpened : Step → Type 0
  OfOpened (entering p) = Unit {0}
  OfOpened (opening p s) = F p × ((n : ℕ) × (s ≡ opened_scope p n))
  OfOpened (header_ending p s) = Unit {0}
  OfOpened (closing p s) = Unit {0}
  OfOpened (leaving p) = Unit {0}

  opened_below : (p : Place) (own : Option OpenScope) (n cursor : ℕ) (f : Forest) → F p → EachStep OfEntered (steps_below p own n cursor f) → EachStep OfOpened (steps_below p own n cursor f)
  opened_below p own n cursor nothing k us = last_case (EachStep OfOpened) p own n tt ((k, (n, refl)), (tt, tt))
  opened_below p own n cursor (tree r k2 span text marks below id after) k us =
      let node : Node = record { kind = k2; span = span; text = text; marks = marks; children = below; node_id = id } in
      let turn : Turn = turn_at p own n cursor r node after in
      let entered : EachOfTurn OfEntered turn = turn_of_each OfEntered turn us in
      each_of_turn OfOpened turn (record {
        before = opening_case (EachStep OfOpened) p r own n tt ((k, (n, refl)), tt);
        whole = each_of_node OfOpened turn.child turn.below tt (opened_below turn.child None turn.next turn.inner below entered.whole.0 (each_left OfEntered turn.below (leaving turn.child ∷ []) entered.whole.1)) tt;
        behind = ending_case (EachStep OfOpened) p r turn.scope after tt (λ s. (tt, tt)) (λ s. (tt, tt)) (λ s. (tt, (tt, tt)));
        others = opened_below p turn.scope turn.rest turn.past after k entered.others;
      })

  pub opened_program : (p : Tree) → EachStep OfEntered (steps p) → EachStep OfOpened (steps p)
  opened_program p us =
      let root : Place = root_place p in
      let n : ℕ = on_entering p.root.kind 0 in
      let below : List Step = steps_below root None 0 n p.root.children in
      each_of_node OfOpened root below tt (opened_below root None 0 n p.root.children us.0 (each_left OfEntered below (leaving root ∷ []) us.1)) tt

-- ---- where a declaration comes from

-- the place is entered
abbrev pub IsEnteredIn : List Step → Place → Type 0
IsEnteredIn ss p = Among (entering p) ss

pub all_entered : (all ss : List Step) → ((st : Step) → Among st ss → Among st all) → EachStep (OfEntered (IsEnteredIn all)) ss
all_entered all [] f = tt
all_entered all (entering p ∷ ss) f = (f (entering p) (inl refl), all_entered all ss (λ st a. f st (inr a)))
all_entered all (opening p s ∷ ss) f = (tt, all_entered all ss (λ st a. f st (inr a)))
all_entered all (header_ending p s ∷ ss) f = (tt, all_entered all ss (λ st a. f st (inr a)))
all_entered all (closing p s ∷ ss) f = (tt, all_entered all ss (λ st a. f st (inr a)))
all_entered all (leaving p ∷ ss) f = (tt, all_entered all ss (λ st a. f st (inr a)))

-- a declaration as it is written, at a place, in the scope that opens there or around it
pub record IsWritten (p : Tree) (d : Declaration) : Type 0 where
  pub place : Place
  pub entered : Among (entering place) (steps p)
  pub count : ℕ
  pub written : Declaration
  pub among : Among written (declared_on_opening place (opened_scope place count) ++ declared_on_entering place)
  pub opened : (Among (opening place (opened_scope place count)) (steps p)) ⊎ (Among written (declared_on_entering place))
  pub is_placed : placed (written_declarations (steps p)) written ≡ d
  pub naming_same : written.naming ≡ d.naming

module _ (p : Tree) where
  abbrev ds : List Declaration
  ds = written_declarations (steps p)

  of_all : (new : List Declaration) (e : Event) (d : Declaration) → Among e (declares_all ds new) → Among d (declared e) → (w : Declaration) × Among w new × (placed ds w ≡ d)
  of_all new e d a b =
      let (w, c, q) = among_map (λ n. declares (placed ds n)) new e a in
      (w, c, only w (subst (λ y. Among d (declared y)) (sym q) b))
    where
      only : (w : Declaration) → Among d (placed ds w ∷ []) → placed ds w ≡ d
      only w (inl r) = r
      only w (inr r) = absurd r

  of_step : (st : Step) (e : Event) (d : Declaration) → Among st (steps p) → OfOpened (IsEnteredIn (steps p)) st → Among e (events_of ds st) → Among d (declared e) → IsWritten p d
  of_step (entering q) e d i o a b =
      let (w, c, r) = of_all (declared_on_entering q) e d a b in
      record { place = q; entered = i; count = 0; written = w; among = among_right w (declared_on_opening q (opened_scope q 0)) (declared_on_entering q) c; opened = inr c; is_placed = r; naming_same = sym (placed_naming w.how ds w) ∙ ap (λ z. z.naming) r }
  of_step (opening q s) e d i o a b = elim (among_cases e (taken_over q s) (declares_all ds (declared_on_opening q s)) a) [
    | inl t ↦ absurd (taken (is_catch_body q) t)
    | inr t ↦ (let (w, c, r) = of_all (declared_on_opening q s) e d t b in
        record { place = q; entered = o.0; count = o.1.0; written = w; among = among_left w (declared_on_opening q (opened_scope q o.1.0)) (declared_on_entering q) (subst (λ z. Among w (declared_on_opening q z)) o.1.1 c); opened = inl (subst (λ z. Among (opening q z) (steps p)) o.1.1 i); is_placed = r; naming_same = sym (placed_naming w.how ds w) ∙ ap (λ z. z.naming) r })
  ]
    where
      taken : (t : Bool) → Among e (cond t (takes_over (place.innermost q.chain).number s.number ∷ []) []) → ⊥
      taken true (inl r) = subst (λ y. Among d (declared y)) (sym r) b
      taken true (inr r) = r
      taken false r = r
  of_step (header_ending q s) e d i o (inl r) b = absurd (subst (λ y. Among d (declared y)) (sym r) b)
  of_step (header_ending q s) e d i o (inr r) b = absurd r
  of_step (closing q s) e d i o a b = absurd a
  of_step (leaving q) e d i o a b = absurd a

  pub is_written : (d : Declaration) → Among d (declarations (events (steps p))) → IsWritten p d
  is_written d a =
      let (e, b, c) = among_flat declared (events (steps p)) d a in
      let (st, f, g) = among_flat (events_of ds) (steps p) e b in
      of_step st e d f (each_at (OfOpened (IsEnteredIn (steps p))) (steps p) st (opened_program (IsEnteredIn (steps p)) p (all_entered (steps p) (steps p) (λ st a. a))) f) g c

-- a declaration of the list has a namesake in the other
among_told : (ds : List Declaration) (ns : List NamedDeclaration) → map told_to_tables ds ≡ map told_by_language ns → (d : Declaration) → Among d ds → (n : NamedDeclaration) × Among n ns × (told_by_language n ≡ told_to_tables d)
among_told [] ns h d a = absurd a
among_told (x ∷ ds) [] h d a = absurd cc
among_told (x ∷ ds) (y ∷ ns) h d (inl e) = let q : told_to_tables x ≡ told_by_language y = cc in (y, inl refl, sym q ∙ ap told_to_tables e)
among_told (x ∷ ds) (y ∷ ns) h d (inr a) =
    let q : map told_to_tables ds ≡ map told_by_language ns = cc in
    let (n, c, e) = among_told ds ns q d a in (n, inr c, e)

-- an index signature's parameter is none of the tables
pub not_index : (q : Place) (n : ℕ) (d : Declaration) → Among d (declared_on_opening q (opened_scope q n) ++ declared_on_entering q) → is kind.TSIndexSignatureName q.node ≡ false
not_index q n d a = go q.node.kind refl a
  where
    go : (k : AstType) → q.node.kind ≡ k → Among d (declared_inside k q (opened_scope q n) ++ declared_by k q) → is kind.TSIndexSignatureName q.node ≡ false
    go kind.TSIndexSignatureName e b = absurd b
    go kind.Program e b = rw e refl
    go _ e b = rw e refl

-- the language declares it, too
pub record IsNamedToo (p : Tree) (d : Declaration) : Type 0 where
  pub from : IsWritten p d
  pub named : NamedDeclaration
  pub among : Among named (named_by_node from.place.node.kind p.source_type from.place.node from.place.path)
  pub identifier : named.identifier ≡ d.naming.identifier
  pub name : named.name ≡ d.naming.name

pub named_too : (p : Tree) → first_fault p ≡ None → (d : Declaration) → Among d (declarations (events (steps p))) → IsNamedToo p d
named_too p h d a =
    let w : IsWritten p d = is_written p d a in
    let k : IsKnownPlace w.place = each_at KnownStep (steps p) (entering w.place) (known_places p h) w.entered in
    let alike : map told_to_tables (declared_on_opening w.place (opened_scope w.place w.count) ++ declared_on_entering w.place) ≡ map told_by_language (named_by_node w.place.node.kind p.source_type w.place.node w.place.path) =
    names_by p.source_type w.place (opened_scope w.place w.count) w.place.node.kind refl (not_index w.place w.count w.written w.among) k.whole k.rooted in
    let (n, b, e) = among_told (declared_on_opening w.place (opened_scope w.place w.count) ++ declared_on_entering w.place) (named_by_node w.place.node.kind p.source_type w.place.node w.place.path) alike w.written w.among in
    record { from = w; named = n; among = b; identifier = ap (λ t. t.identifier) e ∙ ap (λ t. t.identifier) w.naming_same; name = ap (λ t. t.name) e ∙ ap (λ t. t.name) w.naming_same }

-- ---- a name that nothing declares

module _ (x : Name) where
  abbrev has_name : NamedDeclaration → Bool
  has_name d = bytes_eq d.name x

  none_named : (ds : List NamedDeclaration) → list_any has_name ds ≡ false → (d : NamedDeclaration) → Among d ds → d.name ≡ x → ⊥
  none_named [] h d a e = absurd a
  none_named (c ∷ ds) h d (inl q) e = elim (name_tells c.name x) [
    | inl t ↦ (let w : true ≡ false = sym t.0 ∙ (or_parts (bytes_eq c.name x) (list_any has_name ds) h).0 in absurd cc)
    | inr t ↦ t.1 (ap (λ (n : NamedDeclaration). n.name) q ∙ e)
  ]
  none_named (c ∷ ds) h d (inr a) e = none_named ds (or_parts (bytes_eq c.name x) (list_any has_name ds) h).1 d a e

  none_in : (ds : List NamedDeclaration) (c : Container) → list_any has_name ds ≡ false → declarations_in ds c x ≡ []
  none_in [] c h = refl
  none_in (d ∷ ds) c h =
      let q : (bytes_eq d.name x ≡ false) × (list_any has_name ds ≡ false) = or_parts (bytes_eq d.name x) (list_any has_name ds) h in
      rw q.0 (none_in ds c q.1)

  pub resolves_nowhere : (ds : List NamedDeclaration) (cs : List Container) (asked : MeaningSet) → list_any has_name ds ≡ false → resolve ds cs asked x ≡ nowhere
  resolves_nowhere ds [] asked h = refl
  resolves_nowhere ds (c ∷ cs) asked h = rw (none_in ds c h) (resolves_nowhere ds cs asked h)

-- what a place declares, a program does
pub named_among : (p : Tree) (ss : List Step) (q : Place) (n : NamedDeclaration) → Among (entering q) ss → Among n (named_by_node q.node.kind p.source_type q.node q.path) → Among n (flat_map (named_at p.source_type) ss)
named_among p [] q n a b = absurd a
named_among p (st ∷ ss) q n (inl e) b = among_left n (named_at p.source_type st) (flat_map (named_at p.source_type) ss) (subst (λ z. Among n (named_at p.source_type z)) (sym e) b)
named_among p (st ∷ ss) q n (inr a) b = among_right n (named_at p.source_type st) (flat_map (named_at p.source_type) ss) (named_among p ss q n a b)

pub means_nothing : (p : Tree) (x : Name) → is_declared_in p x ≡ false → MeansNothing p x
means_nothing p x h cs asked = resolves_nowhere x (named_in p) cs asked h

pub undeclared_is_free : (p : Tree) (x : Name) → first_fault p ≡ None → is_declared_in p x ≡ false → IsUntiedEverywhere p x
undeclared_is_free p x h b n r t i j q = go t.symbol_id refl
  where
    go : (o : Option ℕ) → t.symbol_id ≡ o → t.symbol_id ≡ None
    go None k = k
    go (Some y) k =
        let named : IsNamed (tables_of p) y r.name = ties_have_names p (has_form p h) n y r t i j k in
        let d : DeclaredAs (node_tables (steps p)).symbols (declarations (events (steps p))) y named.symbol.name = (nothing_invented p (has_form p h)).symbols y named.symbol named.is_there in
        let w : IsNamedToo p d.declaration = named_too p h d.declaration d.among in
        absurd (none_named x (named_in p) b w.named (named_among p (steps p) w.from.place w.named w.from.entered w.among) (w.name ∙ d.named ∙ named.named ∙ q))
