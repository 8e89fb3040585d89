-- Each declaration acts by a chain of small changes. What holds through each change holds through the fold.
use Rattle.std.proofs.Common.{◌≡◌, ℕ, ◌<◌, List, [], ◌∷◌, ◌++◌, length, map, refl, subst, Some, None, Option, true, arith}
use Rattle.std.specs.Prelude.{slice_get}
use Rattle.std.proofs.lemmas.Bool.Decides.{eqb_tells}
use Rattle.semantic_syntax.specs.Tables.{Name, Symbol}
use Rattle.semantic_model.specs.Place.{OpenScope}
use Rattle.semantic_model.specs.Entries.{Among}
use Rattle.semantic_model.specs.Binding.{Binding, put, remove}
use Rattle.semantic_model.specs.Declaration.{Declaration, path, stands_in, body_list}
use Rattle.semantic_syntax.specs.Members.{contains}
use Rattle.semantic_model.specs.Fold.{State, Made, Conflict, update, make, note_symbol, in_scope, start}
use Rattle.semantic_model.proofs.lists.Members.{among_left, contains_right, contains_first}

-- Scope c may bind the name of the declaration: its target, the body of that, or a block where it stands.
-- The table has for each scope the number of its body, if it is a catch clause's.
pub data Sits (table : List (Option ℕ)) (d : Declaration) (c : ℕ) : Type 0 where
  at_target : d.route.target.number ≡ c → Sits table d c
  at_body : d.route.target.body ≡ Some c → slice_get table c ≡ Some None → Sits table d c
  at_block : stands_in d ≡ c → slice_get table c ≡ Some None → Sits table d c

standing_on_path : (passed : List OpenScope) (d : Declaration) → d.route.passed ≡ passed → contains (path d) (stands_in d) ≡ true
standing_on_path [] d e = rw e (contains_first d.route.target.number (body_list d.route.target.body))
standing_on_path (s ∷ ss) d e = rw e (contains_first s.number (map (λ t. t.number) ss ++ d.route.target.number ∷ body_list d.route.target.body))

body_on_path : (n c : ℕ) → contains (n ∷ c ∷ []) c ≡ true
body_on_path n c = grind (arith, eqb_tells n c, eqb_tells c c)

pub on_path : (table : List (Option ℕ)) (d : Declaration) (c : ℕ) → Sits table d c → contains (path d) c ≡ true
on_path table d c (at_target e) =
    subst (λ n. contains (path d) n ≡ true) e (contains_right (map (λ t. t.number) d.route.passed) (d.route.target.number ∷ body_list d.route.target.body) d.route.target.number (contains_first d.route.target.number (body_list d.route.target.body)))
on_path table d c (at_body e k) =
    contains_right (map (λ t. t.number) d.route.passed) (d.route.target.number ∷ body_list d.route.target.body) c (rw e (body_on_path d.route.target.number c))
on_path table d c (at_block e k) = subst (λ n. contains (path d) n ≡ true) e (standing_on_path d.route.passed d refl)

-- a declaration of name x that may be bound in scope c got symbol s
pub record Holds (table : List (Option ℕ)) (ms : List Made) (c : ℕ) (x : Name) (s : ℕ) : Type 0 where
  pub made : Made
  pub among : Among made ms
  pub named : made.declaration.naming.name ≡ x
  pub sits : Sits table made.declaration c
  pub symbol : made.symbol ≡ s

-- a declaration of name x with scope c on its path got symbol s
pub record Has (ms : List Made) (c : ℕ) (x : Name) (s : ℕ) : Type 0 where
  pub made : Made
  pub among : Among made ms
  pub named : made.declaration.naming.name ≡ x
  pub on_path : contains (path made.declaration) c ≡ true
  pub symbol : made.symbol ≡ s

pub has_held : (table : List (Option ℕ)) (ms : List Made) (c : ℕ) (x : Name) (s : ℕ) → Holds table ms c x s → Has ms c x s
has_held table ms c x s h = record { made = h.made; among = h.among; named = h.named; on_path = on_path table h.made.declaration c h.sits; symbol = h.symbol }

pub holds_more : (table : List (Option ℕ)) (ms ns : List Made) (c : ℕ) (x : Name) (s : ℕ) → Holds table ms c x s → Holds table (ms ++ ns) c x s
holds_more table ms ns c x s h = record { made = h.made; among = among_left h.made ms ns h.among; named = h.named; sits = h.sits; symbol = h.symbol }

pub has_more : (ms ns : List Made) (c : ℕ) (x : Name) (s : ℕ) → Has ms c x s → Has (ms ++ ns) c x s
has_more ms ns c x s h = record { made = h.made; among = among_left h.made ms ns h.among; named = h.named; on_path = h.on_path; symbol = h.symbol }

pub data Change (table : List (Option ℕ)) (e : Declaration) : State → State → Type 0 where
  makes : (st : State) (c : ℕ) → Sits table e c → Change table e st (make st c e)
  finds : (st : State) (f : Symbol → Symbol) (c s : ℕ) → ((y : Symbol) → (f y).name ≡ y.name) → contains (path e) c ≡ true → Has st.made c e.naming.name s → Change table e st (note_symbol (record st { symbols = update f st.symbols s }) e s)
  unbinds : (st : State) (c : ℕ) → contains (path e) c ≡ true → Change table e st (record st { bindings = remove st.bindings c e.naming.name })
  binds : (st : State) (c s : ℕ) → Sits table e c → Among (record { declaration = e; symbol = s }) st.made → Change table e st (record st { bindings = put st.bindings c e.naming.name s; symbols = update (in_scope c) st.symbols s })
  remembers : (st : State) (c s : ℕ) → contains (path e) c ≡ true → Among (record { declaration = e; symbol = s }) st.made → Change table e st (record st { remembered = put st.remembered c e.naming.name s })
  rescopes : (st : State) (c s : ℕ) → Among (record { declaration = e; symbol = s }) st.made → Change table e st (record st { symbols = update (in_scope c) st.symbols s })
  notes : (st : State) (cs : List Conflict) → Change table e st (record st { conflicts = cs })

pub data Changes (table : List (Option ℕ)) (e : Declaration) : State → State → Type 0 where
  none : (st : State) → Changes table e st st
  more : {a b c : State} → Changes table e a b → Change table e b c → Changes table e a c

pub record HasName (ys : List Symbol) (s : ℕ) (x : Name) : Type 0 where
  pub symbol : Symbol
  pub is_there : slice_get ys s ≡ Some symbol
  pub named : symbol.name ≡ x

-- each bound or remembered name is a declaration's that was made, with its symbol, and each symbol is a declaration's
pub record Sound (table : List (Option ℕ)) (st : State) : Type 0 where
  pub bound : (e : Binding) → Among e st.bindings → Holds table st.made e.scope e.name e.symbol
  pub remembered : (e : Binding) → Among e st.remembered → Has st.made e.scope e.name e.symbol
  pub has_name : (m : Made) → Among m st.made → HasName st.symbols m.symbol m.declaration.naming.name
  pub has_declaration : (s : ℕ) → s < length st.symbols → (m : Made) × Among m st.made × (m.symbol ≡ s)

pub sound_start : (table : List (Option ℕ)) → Sound table start
sound_start table = record { bound = λ e h. absurd h; remembered = λ e h. absurd h; has_name = λ m h. absurd h; has_declaration = λ s h. absurd (omega arith) }
