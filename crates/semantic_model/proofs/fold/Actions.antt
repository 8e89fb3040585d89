-- What a declaration does is a chain of changes, each at a scope of its path.
use Rattle.std.proofs.Common.{◌≡◌, ℕ, List, [], ◌∷◌, ◌++◌, length, map, refl, sym, subst, ◌∙◌, Some, None, Option, true, false, ◌⊎◌, inl, inr, arith}
use Rattle.std.specs.Prelude.{slice_get}
use Rattle.std.proofs.lemmas.Bool.{cases_Bool}
use Rattle.semantic_syntax.specs.Tables.{Name}
use Rattle.semantic_model.specs.Place.{OpenScope}
use Rattle.semantic_model.specs.Entries.{Among}
use Rattle.semantic_model.specs.Binding.{get, put, remove, move}
use Rattle.semantic_model.specs.Declaration.{Declaration, How, plain, hoisted, moved, caught, path, stands_in, body_list}
use Rattle.semantic_syntax.specs.Members.{contains}
use Rattle.semantic_model.specs.Event.{declares}
use Rattle.semantic_model.specs.Fold.{State, Made, update, note_symbol, in_scope, united, redeclared, found, or_else, unless_expression, flags_of, declare_in, chosen, against, conflict_with}
use Rattle.semantic_model.specs.Hoist.{PassedSymbol, passed_symbol, counts, asked_symbols, against_all, remembering, move_symbol, hoist_by, hoist, move_out, declare_by, act}
use Rattle.semantic_model.proofs.lists.Members.{among_last, contains_right, contains_first}
use Rattle.semantic_model.proofs.lists.BindingLaws.{get_among, get-put_same}
use Rattle.semantic_model.proofs.fold.Changes.{Sits, at_target, at_block, on_path, Has, has_held, makes, finds, unbinds, binds, remembers, rescopes, notes, Changes, none, more, Sound}
use Rattle.semantic_model.proofs.fold.Soundness.{sound-changes}

-- each of the scopes is in the list
abbrev pub AllIn : List ℕ → List OpenScope → Type 0
AllIn ns [] = Unit {0}
AllIn ns (c ∷ cs) = (contains ns c.number ≡ true) × AllIn ns cs

all_in_more : (n : ℕ) (ns : List ℕ) (cs : List OpenScope) → AllIn ns cs → AllIn (n ∷ ns) cs
all_in_more n ns [] h = tt
all_in_more n ns (c ∷ cs) h = (contains_right (n ∷ []) ns c.number h.0, all_in_more n ns cs h.1)

all_passed : (cs : List OpenScope) (ns : List ℕ) → AllIn (map (λ s. s.number) cs ++ ns) cs
all_passed [] ns = tt
all_passed (c ∷ cs) ns = (contains_first c.number (map (λ s. s.number) cs ++ ns), all_in_more c.number (map (λ s. s.number) cs ++ ns) cs (all_passed cs ns))

pub passed_on_path : (d : Declaration) → AllIn (path d) d.route.passed
passed_on_path d = all_passed d.route.passed (d.route.target.number ∷ body_list d.route.target.body)

pub unless_some : (st : State) (o : Option ℕ) (s : ℕ) → unless_expression (flags_of st) o ≡ Some s → o ≡ Some s
unless_some st None s h = h
unless_some st (Some r) s h = grind arith

pub or_else_some : (o p : Option ℕ) (s : ℕ) → or_else o p ≡ Some s → (o ≡ Some s) ⊎ (p ≡ Some s)
or_else_some (Some r) p s h = inl h
or_else_some None p s h = inr h

-- a symbol that is found is a declaration's with the scope on its path
pub has_found : (table : List (Option ℕ)) (st : State) (c : ℕ) (x : Name) (s : ℕ) → Sound table st → found st c x ≡ Some s → Has st.made c x s
has_found table st c x s h e =
    elim (or_else_some (get st.bindings c x) (get st.remembered c x) s (unless_some st (or_else (get st.bindings c x) (get st.remembered c x)) s e)) [
      | inl k ↦ has_held table st.made c x s (h.bound (record { scope = c; name = x; symbol = s }) (get_among st.bindings c x s k))
      | inr k ↦ h.remembered (record { scope = c; name = x; symbol = s }) (get_among st.remembered c x s k)
    ]

changes_declare_in : (table : List (Option ℕ)) (a st : State) (d : Declaration) (c : ℕ) → Sits table d c → Sound table st → Changes table d a st → (o : Option ℕ) → found st c d.naming.name ≡ o → Changes table d a (declare_in st c d o)
changes_declare_in table a st d c p h m None e = more m (makes st c p)
changes_declare_in table a st d c p h m (Some s) e =
    more (more m (notes st (st.conflicts ++ conflict_with d.naming (slice_get st.symbols s))))
    (finds (against st d s) (λ y. united d.naming.flags (redeclared d.naming y)) c s (λ y. refl) (on_path table d c p) (has_found table st c d.naming.name s h e))

among_declare_in : (st : State) (d : Declaration) (c : ℕ) (o : Option ℕ) → Among (record { declaration = d; symbol = chosen st o }) (declare_in st c d o).made
among_declare_in st d c None = among_last (record { declaration = d; symbol = length st.symbols }) st.made
among_declare_in st d c (Some s) = among_last (record { declaration = d; symbol = s }) st.made

changes_remembering : (table : List (Option ℕ)) (d : Declaration) (a st : State) (cs : List OpenScope) (s : ℕ) → AllIn (path d) cs → Among (record { declaration = d; symbol = s }) st.made → Changes table d a st → Changes table d a (remembering st cs d.naming.name s)
changes_remembering table d a st [] s h k m = m
changes_remembering table d a st (c ∷ cs) s h k m =
    changes_remembering table d a (record st { remembered = put st.remembered c.number d.naming.name s }) cs s h.1 k (more m (remembers st c.number s h.0 k))

changes_move_symbol : (table : List (Option ℕ)) (d : Declaration) (a st : State) (c t s : ℕ) (o : Option ℕ) → contains (path d) c ≡ true → Sits table d t → Among (record { declaration = d; symbol = s }) st.made → Changes table d a st → Changes table d a (move_symbol st c t d.naming.name s o)
changes_move_symbol table d a st c t s (Some r) p q k m = m
changes_move_symbol table d a st c t s None p q k m = more (more m (unbinds st c p)) (binds (record st { bindings = remove st.bindings c d.naming.name }) t s q k)

among_move_symbol : (m : Made) (st : State) (c t : ℕ) (x : Name) (s : ℕ) (o : Option ℕ) → Among m st.made → Among m (move_symbol st c t x s o).made
among_move_symbol m st c t x s None h = h
among_move_symbol m st c t x s (Some r) h = h

-- what the passed scopes gave was found in one of them
pub record IsPassedSymbol (st : State) (ns : List ℕ) (x : Name) (h : PassedSymbol) : Type 0 where
  pub inside : contains ns h.scope ≡ true
  pub is_found : found st h.scope x ≡ Some h.symbol

pub is_passed_symbol : (st : State) (ns : List ℕ) (x : Name) (cs : List OpenScope) (h : PassedSymbol) → AllIn ns cs → passed_symbol st cs x ≡ Some h → IsPassedSymbol st ns x h
is_passed_symbol st ns x [] h a e = absurd cc
is_passed_symbol st ns x (c ∷ cs) h a e = go (found st c.number x) refl (cases_Bool (counts st (found st c.number x))) (is_passed_symbol st ns x cs h a.1)
  where
    go : (o : Option ℕ) → found st c.number x ≡ o → (counts st (found st c.number x) ≡ true) ⊎ (counts st (found st c.number x) ≡ false) → (passed_symbol st cs x ≡ Some h → IsPassedSymbol st ns x h) → IsPassedSymbol st ns x h
    go o f (inr k) later = later (rw k at e)
    go None f (inl k) later = let q : counts st None ≡ true = subst (λ o. counts st o ≡ true) f k in absurd cc
    go (Some s) f (inl k) later =
        let q : Some (record { scope = c.number; symbol = s }) ≡ Some h = rw (k, f) at e in
        let i : record { scope = c.number; symbol = s } ≡ h = cc in
        subst (λ g. IsPassedSymbol st ns x g) i (record { inside = a.0; is_found = f })

pub changes_against_all : (table : List (Option ℕ)) (a st : State) (d : Declaration) (ss : List ℕ) → Changes table d a st → Changes table d a (against_all st d ss)
changes_against_all table a st d [] m = m
changes_against_all table a st d (s ∷ ss) m =
    changes_against_all table a (against st d s) d ss (more m (notes st (st.conflicts ++ conflict_with d.naming (slice_get st.symbols s))))

pub made_against_all : (st : State) (d : Declaration) (ss : List ℕ) → (against_all st d ss).made ≡ st.made
made_against_all st d [] = refl
made_against_all st d (s ∷ ss) = made_against_all (against st d s) d ss

changes_hoist_by : (table : List (Option ℕ)) (a st : State) (d : Declaration) → Sound table st → Changes table d a st → (o : Option PassedSymbol) → ((h : PassedSymbol) → o ≡ Some h → (contains (path d) h.scope ≡ true) × Has st.made h.scope d.naming.name h.symbol) → Changes table d a (hoist_by st d o)
changes_hoist_by table a st d h m None e =
    let o : Option ℕ = found st d.route.target.number d.naming.name in
    changes_remembering table d a (declare_in st d.route.target.number d o) d.route.passed (chosen st o) (passed_on_path d) (among_declare_in st d d.route.target.number o)
    (changes_declare_in table a st d d.route.target.number (at_target refl) h m o refl)
changes_hoist_by table a st d h m (Some r) e =
    let i : (contains (path d) r.scope ≡ true) × Has st.made r.scope d.naming.name r.symbol = e r refl in
    let got : State = note_symbol (record st { symbols = update (redeclared d.naming) st.symbols r.symbol }) d r.symbol in
    let k : Among (record { declaration = d; symbol = r.symbol }) got.made = among_last (record { declaration = d; symbol = r.symbol }) st.made in
    let o : Option ℕ = get got.bindings d.route.target.number d.naming.name in
    changes_remembering table d a (move_symbol got r.scope d.route.target.number d.naming.name r.symbol o) d.route.passed r.symbol (passed_on_path d)
    (among_move_symbol (record { declaration = d; symbol = r.symbol }) got r.scope d.route.target.number d.naming.name r.symbol o k)
    (changes_move_symbol table d a got r.scope d.route.target.number r.symbol o i.0 (at_target refl) k
    (more m (finds st (redeclared d.naming) r.scope r.symbol (λ y. refl) i.0 i.1)))

changes_hoist : (table : List (Option ℕ)) (st : State) (d : Declaration) → Sound table st → Changes table d st (hoist st d)
changes_hoist table st d h =
    let noted : State = against_all st d (asked_symbols st d.route.passed d.naming.name) in
    let m : Changes table d st noted = changes_against_all table st st d (asked_symbols st d.route.passed d.naming.name) (none st) in
    changes_hoist_by table st noted d (sound-changes table d m h) m (passed_symbol st d.route.passed d.naming.name)
    (λ r e. let i : IsPassedSymbol st (path d) d.naming.name r = is_passed_symbol st (path d) d.naming.name d.route.passed r (passed_on_path d) e in
    (i.inside, subst (λ ms. Has ms r.scope d.naming.name r.symbol) (sym (made_against_all st d (asked_symbols st d.route.passed d.naming.name))) (has_found table st r.scope d.naming.name r.symbol h i.is_found)))

-- what is moved out of a block is the symbol itself, or nothing
abbrev pub IsMovable : State → ℕ → Name → ℕ → Type 0
IsMovable st c x s = (get st.bindings c x ≡ Some s) ⊎ (get st.bindings c x ≡ None)

changes_move_out : (table : List (Option ℕ)) (d : Declaration) (a st : State) (c s : ℕ) (o : Option ℕ) → contains (path d) c ≡ true → IsMovable st c d.naming.name s → Among (record { declaration = d; symbol = s }) st.made → Changes table d a st → Changes table d a (move_out st c d.route.target.number d.naming.name s o)
changes_move_out table d a st c s (Some r) p g k m = m
changes_move_out table d a st c s None p (inl g) k m =
    rw (g, move) (more (more (more m (unbinds st c p)) (binds (record st { bindings = remove st.bindings c d.naming.name }) d.route.target.number s (at_target refl) k))
    (remembers (record st { bindings = put (remove st.bindings c d.naming.name) d.route.target.number d.naming.name s; symbols = update (in_scope d.route.target.number) st.symbols s }) c s p k))
changes_move_out table d a st c s None p (inr g) k m =
    rw (g, move) (more (more m (rescopes st d.route.target.number s k)) (remembers (record st { symbols = update (in_scope d.route.target.number) st.symbols s }) c s p k))

-- a scope binds the symbol that was found in it, or remembers it
found_movable : (st : State) (c : ℕ) (x : Name) (s : ℕ) → found st c x ≡ Some s → IsMovable st c x s
found_movable st c x s e = go (get st.bindings c x) refl e
  where
    go : (o : Option ℕ) → get st.bindings c x ≡ o → unless_expression (flags_of st) (or_else o (get st.remembered c x)) ≡ Some s → IsMovable st c x s
    go None g f = inr g
    go (Some r) g f = inl (g ∙ unless_some st (Some r) s f)

pub declared_movable : (st : State) (d : Declaration) (c : ℕ) (o : Option ℕ) → found st c d.naming.name ≡ o → IsMovable (declare_in st c d o) c d.naming.name (chosen st o)
declared_movable st d c None e = inl (get-put_same st.bindings c d.naming.name (length st.symbols))
declared_movable st d c (Some s) e = found_movable st c d.naming.name s e

-- a block function may be bound where it stands
abbrev pub StandsInBlock : List (Option ℕ) → How → Declaration → Type 0
StandsInBlock table moved d = slice_get table (stands_in d) ≡ Some None
StandsInBlock table _ d = Unit {0}

changes_by : (table : List (Option ℕ)) (how : How) (st : State) (d : Declaration) → StandsInBlock table how d → Sound table st → Changes table d st (declare_by how st d)
changes_by table plain st d b h = changes_declare_in table st st d d.route.target.number (at_target refl) h (none st) (found st d.route.target.number d.naming.name) refl
changes_by table hoisted st d b h = changes_hoist table st d h
changes_by table moved st d b h =
    let c : ℕ = stands_in d in
    let o : Option ℕ = found st c d.naming.name in
    let sits : Sits table d c = at_block refl b in
    changes_move_out table d st (declare_in st c d o) c (chosen st o) (get st.bindings d.route.target.number d.naming.name) (on_path table d c sits)
    (declared_movable st d c o refl) (among_declare_in st d c o) (changes_declare_in table st st d c sits h (none st) o refl)
changes_by table caught st d b h = more (none st) (makes st d.route.target.number (at_target refl))

pub changes_declare : (table : List (Option ℕ)) (st : State) (d : Declaration) → StandsInBlock table d.how d → Sound table st → Changes table d st (act st (declares d))
changes_declare table st d b h = changes_by table d.how st d b h
