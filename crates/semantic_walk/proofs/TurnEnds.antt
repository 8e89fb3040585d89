-- What a turn of the recursion opens and ends, at its place.
use Rattle.std.proofs.Common.{◌≡◌, ℕ, Bool, true, false, cond, ◌&&◌, not, Option, Some, None, is_some, List, length, map, drop, Result, Ok, Err, OnOk, refl, sym, ap, subst, ◌∙◌}
use Rattle.semantic_tree.specs.Forest.{Forest, nothing}
use Rattle.semantic_kinds.specs.declared.kind.AstType.{AstType}
use Rattle.semantic_kinds.specs.declared.role.Role.{Role}
use Rattle.semantic_syntax.specs.Told.{source_of}
use Rattle.semantic_tree.specs.Views.{has_role}
use Rattle.semantic_model.specs.Place.{Place, OpenScope}
use Rattle.semantic_model.specs.Inside.{opens, is_inside, any_inside, header_roles, is_in_header}
use Rattle.semantic_model.specs.ScopeKind.{opened_scope}
use Rattle.semantic_model.specs.Declaration.{Declaration}
use Rattle.semantic_syntax.specs.Outcome.{header_outcome}
use Rattle.semantic_model.specs.Step.{opening, opening_at, scope_at, ending_after, opening_last}
use Rattle.walk_model.specs.WalkState.{WalkState}
use Rattle.walk_model.specs.Opens.{close_scope}
use Rattle.walk_model.specs.Walks.{after, after_all}
use Rattle.walk_model.specs.Shown.{HasVar}
use Rattle.walk_model.specs.Waits.{HoldsAt, start_at}
use Rattle.walk_model.proofs.turns.TurnParts.{ends_header_at, closes_at, close_if, end_since, ending_since}
use Rattle.semantic_walk.specs.Walker.{Walker}
use Rattle.table_building.specs.Settled.{settled_from}
use Rattle.semantic_walk.specs.AtPlace.{IsTurnAt, IsBetweenAt}
use Rattle.semantic_walk.specs.declared.visit.Turn.{Turn}

pub none_there : (o : Option ℕ) → is_some o ≡ false → o ≡ None
none_there None e = refl
none_there (Some s) e = absurd cc

-- what follows from a fact of an answer, and from two
pub on_ok : {T E : Type 0} {P Q : Type 0} (r : Result T E) → OnOk r P → (P → Q) → OnOk r Q
on_ok (Ok x) p f = f p
on_ok (Err e) p f = tt

pub on_ok_both : {T E : Type 0} {P Q R : Type 0} (r : Result T E) → OnOk r P → OnOk r Q → (P → Q → R) → OnOk r R
on_ok_both (Ok x) p q f = f p q
on_ok_both (Err e) p q f = tt

module _ (ds : List Declaration) (w : Walker) (turn : Turn) (p : Place) (n cursor start : ℕ) where
  module _ (r : Role) (f : Forest) where
    -- before a child, whether a scope opens or not
    abbrev pub Opened : Option OpenScope → Walker → Turn → Type 0
    Opened own v moved =
        (◌≡◌ {A = Walker} (record v { current = w.current }) (record w { made = after_all ds w.made (opening_at p r own n) }))
        × IsTurnAt moved p (scope_at p r own n) (start_at p r own start w.made)

    -- where no scope is open, the place stands in some scope
    pub stands_var : (own : Option OpenScope) → IsBetweenAt ds w turn p own n cursor start f → turn.own ≡ None → HasVar p.chain
    stands_var (Some s) h absent = let none : None ≡ Some s.number = sym absent ∙ h.stands.own_scope in absurd cc
    stands_var None h absent = h.between.inside

    pub opened_turn : (own : Option OpenScope) → IsBetweenAt ds w turn p own n cursor start f → turn.own ≡ None → is_inside p.node.kind r ≡ true
        → (v : Walker) (moved : Turn)
        → v ≡ record w { made = after ds w.made (opening p (opened_scope p (length w.made.tables.scopes))); current = length w.made.tables.scopes }
        → moved ≡ record turn { own = Some (length w.made.tables.scopes); header_start = length w.made.waiting }
        → Opened own v moved
    opened_turn (Some s) h absent inside v moved opens goes = let none : None ≡ Some s.number = sym absent ∙ h.stands.own_scope in absurd cc
    opened_turn None h absent inside v moved opens goes =
        let count : length w.made.tables.scopes ≡ n = h.between.stands.count in
        rw inside (
          (λ i. record (opens i) { current = w.current }) ∙ ap (λ m. record w { made = after ds w.made (opening p (opened_scope p m)) }) count,
          subst (λ (t : Turn). IsTurnAt t p (Some (opened_scope p n)) (length w.made.waiting)) (sym goes)
              (record { outer = h.stands.outer; is_ambient = h.stands.is_ambient; own_scope = ap (λ m. Some m) count; header = refl; doings = h.stands.doings }),
        )

  -- a scope that opens behind all children closes at once
  pub opened_last : (own : Option OpenScope) → IsBetweenAt ds w turn p own n cursor start nothing → turn.own ≡ None → opens p.node.kind ≡ true → (v : Walker)
      → v ≡ record w { made = close_scope (after ds w.made (opening p (opened_scope p (length w.made.tables.scopes)))) (length w.made.tables.scopes); current = turn.outer; is_ambient = turn.is_ambient }
      → v ≡ record w { made = after_all ds w.made (opening_last p own n) }
  opened_last (Some s) h absent some v e = let none : None ≡ Some s.number = sym absent ∙ h.stands.own_scope in absurd cc
  opened_last None h absent some v e =
      let count : length w.made.tables.scopes ≡ n = h.between.stands.count in
      let outer : turn.outer ≡ w.current = h.stands.outer ∙ sym h.within.current in
      let ambient : turn.is_ambient ≡ w.is_ambient = h.stands.is_ambient ∙ sym h.is_ambient in
      rw some (e ∙ (λ i. record w { made = close_scope (after ds w.made (opening p (opened_scope p (count i)))) (count i); current = outer i; is_ambient = ambient i }))

-- what is made once the header ended, if it ends
abbrev ended_if : Bool → WalkState → (c start : ℕ) → WalkState
ended_if b w c start = cond b (end_since w c start) w

end_by : (w : Walker) (c start : ℕ) (b : Bool) → ◌≡◌ {A = Walker} (cond b (record w { made = end_since w.made c start }) w) (record w { made = ended_if b w.made c start })
end_by w c start true = refl
end_by w c start false = refl

close_by : (w : Walker) (c : ℕ) (m : WalkState) (b : Bool) → ◌≡◌ {A = Walker} (cond b (record w { made = close_scope m c }) (record w { made = m })) (record w { made = close_if b c m })
close_by w c m true = refl
close_by w c m false = refl

-- behind a child
module _ (ds : List Declaration) (w : Walker) (turn : Turn) (p : Place) (k : AstType) (same : p.node.kind ≡ k) (r : Role) (rest : Forest) (start : ℕ) where
  pub ended_some : (own : Option OpenScope) → IsTurnAt turn p own start → HoldsAt w.made own start → (s : ℕ) → turn.own ≡ Some s
      → (v u : Walker)
      → v ≡ cond (is_in_header k r && not (has_role (header_roles k) rest))
      (record w { made = settled_from w.made turn.header_start (map (header_outcome (source_of w.made.tables) s) (drop turn.header_start w.made.waiting)) }) w
      → u ≡ cond (is_inside k r && not (any_inside k rest)) (record v { made = close_scope v.made s }) v
      → u ≡ record w { made = after_all ds w.made (ending_after p r own rest) }
  ended_some None h holds s there v u ends closes = let none : Some s ≡ None = sym there ∙ h.own_scope in absurd cc
  ended_some (Some own) h holds s there v u ends closes =
      let of_kind : k ≡ p.node.kind = sym same in
      let number : s ≡ own.number = let both : Some s ≡ Some own.number = sym there ∙ h.own_scope in cc in
      let ended : v ≡ record w { made = ended_if (ends_header_at p r rest) w.made own.number start } =
      ends ∙ (λ i. cond (is_in_header (of_kind i) r && not (has_role (header_roles (of_kind i)) rest)) (record w { made = end_since w.made (number i) (h.header i) }) w) ∙ end_by w own.number start (ends_header_at p r rest) in
      closes
      ∙ (λ i. cond (is_inside (of_kind i) r && not (any_inside (of_kind i) rest)) (record (ended i) { made = close_scope (ended i).made (number i) }) (ended i))
      ∙ close_by w own.number (ended_if (ends_header_at p r rest) w.made own.number start) (closes_at p r rest)
      ∙ ap (λ (m : WalkState). record w { made = m }) (sym (ending_since ds w.made p r own start rest holds))
