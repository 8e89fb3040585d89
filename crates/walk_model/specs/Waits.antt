-- Where references wait, and which of them a header has.
use Rattle.std.specs.Prelude.{ℕ, ◌<◌, ◌≤◌, List, Option, Some, None, IfSome, cond, length, take, slice_index_or}
use Rattle.std.specs.List.{AllByRecursion}
use Rattle.semantic_kinds.specs.declared.role.Role.{Role}
use Rattle.semantic_syntax.specs.Tables.{Scope}
use Rattle.semantic_syntax.specs.Reading.{no_scope}
use Rattle.semantic_model.specs.Place.{Place, OpenScope}
use Rattle.semantic_model.specs.Inside.{is_inside}
use Rattle.semantic_syntax.specs.Outcome.{Pending}
use Rattle.walk_model.specs.WalkState.{WalkState}

-- each parent has a smaller number than its scope
abbrev pub ParentsFall : List Scope → Type 0
ParentsFall es = (i : ℕ) → IfSome (slice_index_or es i no_scope).parent (λ p. p < i)

abbrev pub WaitsBelow : ℕ → Pending → Type 0
WaitsBelow n e = e.lookup_scope < n

-- parents fall, and each reference waits in a scope that exists
pub record IsSound (w : WalkState) : Type 0 where
  pub falls : ParentsFall w.tables.scopes
  pub waits : AllByRecursion (WaitsBelow (length w.tables.scopes)) w.waiting

-- so many references wait at least, and the first of them in scopes before the scope
pub record FirstBelow (c start : ℕ) (w : WalkState) : Type 0 where
  pub enough : start ≤ length w.waiting
  pub below : AllByRecursion (WaitsBelow c) (take start w.waiting)

-- the header of a node: what waited when its scope opened, as far as it is open
abbrev pub IsHeader : Option OpenScope → ℕ → WalkState → Type 0
IsHeader None start w = start ≤ length w.waiting
IsHeader (Some s) start w = FirstBelow s.number start w

-- between two children: all is sound, and the header is kept
pub record HoldsAt (w : WalkState) (own : Option OpenScope) (start : ℕ) : Type 0 where
  pub sound : IsSound w
  pub header : IsHeader own start w

-- where the header starts once a child in the role is reached
abbrev pub start_at : Place → Role → Option OpenScope → ℕ → WalkState → ℕ
start_at p r (Some s) start w = start
start_at p r None start w = cond (is_inside p.node.kind r) (length w.waiting) start
