-- How references that wait are settled.
use Rattle.std.specs.Prelude.{ℕ, List, [], ◌∷◌, ◌++◌, Some, map}
use Rattle.std.specs.Str.{bytes_eq}
use Rattle.indexmap.specs.IndexMap.{insert_entry}
use Rattle.semantic_syntax.specs.Usable.{settled}
use Rattle.semantic_syntax.specs.declared.references.Reference.{Reference}
use Rattle.semantic_syntax.specs.Tables.{Tables, Symbol}
use Rattle.semantic_syntax.specs.Reading.{symbol_of, reference_of, uses_of, free_of}
use Rattle.semantic_syntax.specs.Told.{source_of}
use Rattle.semantic_syntax.specs.Writing.{with_uses, with_reference}
use Rattle.semantic_syntax.specs.Outcome.{Pending, Outcome, means, is_free, waits, header_outcome, last_outcome, staying}
use Rattle.walk_model.specs.WalkState.{WalkState}

abbrev pub tied_to : ℕ → Symbol → Reference → Reference
tied_to y s r = record r { flags = record { bits = settled r.flags.bits s.flags.bits }; symbol_id = Some y }

-- a reference is tied to the symbol: it has the settled flags, and stands last in the symbol's uses
abbrev pub tie : Tables → (r y : ℕ) → Tables
tie t r y =
    let used : Tables = with_uses t y (uses_of t y ++ r ∷ []) in
    with_reference used r (tied_to y (symbol_of t y) (reference_of used r))

abbrev pub set_free : Tables → Pending → Tables
set_free t e = record t { free = insert_entry bytes_eq t.free e.name (free_of t e.name ++ e.reference ∷ []) }

-- a reference gets its outcome: it is tied, or stands last in the free list of its name, or waits on
abbrev pub settle_one : Tables → Pending → Outcome → Tables
settle_one t e (means y) = tie t e.reference y
settle_one t e is_free = set_free t e
settle_one t e (waits s) = t

-- each gets its outcome
abbrev pub settle : Tables → List Pending → List Outcome → Tables
settle t [] outcomes = t
settle t (e ∷ es) [] = t
settle t (e ∷ es) (o ∷ os) = settle (settle_one t e o) es os

abbrev pub settle_by : WalkState → (Pending → Outcome) → WalkState
settle_by w outcome =
    let outcomes : List Outcome = map outcome w.waiting in
    record w { tables = settle w.tables w.waiting outcomes; waiting = staying w.waiting outcomes }

-- at the end of a header the references that wait in its scope or below are looked up as far as the scope
abbrev pub end_header : WalkState → ℕ → WalkState
end_header w c = settle_by w (header_outcome (source_of w.tables) c)

-- in the end no reference waits
abbrev pub settle_rest : WalkState → WalkState
settle_rest w = settle_by w (last_outcome (source_of w.tables))
