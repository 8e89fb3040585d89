-- What each reference is tied to, and when: a header's scope is seen as it stood when the header ended, any other as it stands in the end.
use Rattle.std.specs.Prelude.{ℕ, suc, ◌==◌, List, [], ◌∷◌, ◌++◌, Bool, true, false, Option, Some, None, cond, map, flat_map, filter}
use Rattle.semantic_syntax.specs.Usable.{settled}
use Rattle.semantic_syntax.specs.Tables.{Name}
use Rattle.semantic_model.specs.Place.{OpenScope}
use Rattle.semantic_model.specs.Reference.{Occurrence}
use Rattle.semantic_model.specs.Binding.{get}
use Rattle.semantic_model.specs.Event.{Event, ends_header}
use Rattle.semantic_model.specs.Fold.{State, start, flags_of}
use Rattle.semantic_model.specs.Hoist.{run}
use Rattle.semantic_syntax.specs.Lookup.{Seen, Asked, Lookup, tied, barred, unanswered, lookup}

abbrev pub is_end_of : ℕ → Event → Bool
is_end_of c (ends_header d) = d == c
is_end_of c _ = false

-- the events before the end of the header of scope c
abbrev pub until_end_of : ℕ → List Event → List Event
until_end_of c [] = []
until_end_of c (e ∷ es) = cond (is_end_of c e) [] (e ∷ until_end_of c es)

abbrev pub view_by : Bool → State → List Event → ℕ → State
view_by true final es c = run start (until_end_of c es)
view_by false final es c = final

-- the state in which a reference sees the scope
abbrev pub view : State → List Event → OpenScope → State
view final es s = view_by s.in_header final es s.number

abbrev pub seen_as : State → Option ℕ → Option Seen
seen_as st None = None
seen_as st (Some s) = Some (record { symbol = s; flags = flags_of st s })

-- what the scope answers
abbrev pub answer : State → List Event → Name → OpenScope → Asked
answer final es x s =
    let st : State = view final es s in
    record { scope = s.number; flags = s.flags; bound = seen_as st (get st.bindings s.number x) }

abbrev pub answers : State → List Event → Occurrence → List Asked
answers final es r = map (answer final es r.name) r.chain

-- a reference with its number and its lookup
pub record Tie : Type 0 where
  pub number : ℕ
  pub reference : Occurrence
  pub lookup : Lookup

-- the ties of references that are numbered from n on
abbrev pub ties : State → List Event → ℕ → List Occurrence → List Tie
ties final es n [] = []
ties final es n (r ∷ rs) =
    record { number = n; reference = r; lookup = lookup r.name r.way (answers final es r) } ∷ ties final es (suc n) rs

abbrev pub symbol_by : Lookup → Option ℕ
symbol_by (tied c s flags) = Some s
symbol_by _ = None

abbrev pub tied_symbol : Tie → Option ℕ
tied_symbol t = symbol_by t.lookup

abbrev flags_by : Lookup → ℕ → ℕ
flags_by (tied c s flags) w = settled w flags
flags_by _ w = w

-- a tied reference has the settled flags, a free one its way
abbrev pub final_flags : Tie → ℕ
final_flags t = flags_by t.lookup t.reference.way

abbrev pub first_header : List OpenScope → Option ℕ
first_header [] = None
first_header (s ∷ ss) = cond s.in_header (Some s.number) (first_header ss)

-- the innermost header from scope c outward
abbrev pub header_from : ℕ → List OpenScope → Option ℕ
header_from c [] = None
header_from c (s ∷ ss) = cond (s.number == c) (first_header (s ∷ ss)) (header_from c ss)

abbrev pub moment_by : Lookup → List OpenScope → Option ℕ
moment_by (tied c s flags) chain = header_from c chain
moment_by (barred c) chain = header_from c chain
moment_by unanswered chain = None

-- the header at whose end a reference is settled; without one, it is settled in the end
abbrev pub moment : Tie → Option ℕ
moment t = moment_by t.lookup t.reference.chain

abbrev pub is_at : ℕ → Option ℕ → Bool
is_at c None = false
is_at c (Some d) = c == d

abbrev pub is_last : Option ℕ → Bool
is_last None = true
is_last (Some d) = false

abbrev pub settled_at : List Tie → Event → List Tie
settled_at ts (ends_header c) = filter (λ t. is_at c (moment t)) ts
settled_at ts _ = []

-- the ties in the order in which they are settled
abbrev pub in_order : List Event → List Tie → List Tie
in_order es ts = flat_map (settled_at ts) es ++ filter (λ t. is_last (moment t)) ts
