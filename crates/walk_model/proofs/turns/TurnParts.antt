-- What the steps before and behind a child do: a scope opens, a header ends, a scope closes, or nothing happens.
use Rattle.std.proofs.Common.{◌≡◌, ℕ, ◌<◌, List, [], ◌∷◌, ◌++◌, Option, Some, None, Bool, true, false, cond, ◌&&◌, not, refl, sym, ap, ◌∙◌, length, map, take, drop}
use Rattle.std.specs.Prelude.{nat_eq}
use Rattle.std.specs.Option.{unwrap_or}
use Rattle.indexmap.specs.IndexMap.{insert_entry}
use Rattle.semantic_tree.specs.Forest.{Forest}
use Rattle.semantic_tree.specs.declared.node.Node.{Node}
use Rattle.semantic_kinds.specs.declared.role.Role.{Role}
use Rattle.semantic_syntax.specs.declared.scope_flags.TheConstants.ScopeFlags as flag
use Rattle.semantic_syntax.specs.Sets.{meets, union}
use Rattle.semantic_syntax.specs.Tables.{Tables}
use Rattle.semantic_syntax.specs.Reading.{scope_of}
use Rattle.semantic_syntax.specs.Told.{source_of}
use Rattle.semantic_tree.specs.Views.{has_role}
use Rattle.semantic_model.specs.Place.{Place, OpenScope, scope_of_place, innermost, outside}
use Rattle.semantic_model.specs.Inside.{opens, is_inside, any_inside, header_roles, is_in_header, is_parameter_decorator}
use Rattle.semantic_model.specs.ScopeKind.{opened_scope, flags_of_kind, strict_if}
use Rattle.semantic_model.specs.Declaration.{Declaration}
use Rattle.semantic_syntax.specs.Outcome.{Outcome, header_outcome, staying}
use Rattle.semantic_model.specs.Step.{opening, header_ending, closing, opening_at, ending_after, opening_last, child_place, child_scopes}
use Rattle.walk_model.specs.WalkState.{WalkState}
use Rattle.walk_model.specs.Settles.{settle, end_header}
use Rattle.walk_model.specs.Opens.{innermost_number, open_scope, close_scope}
use Rattle.walk_model.specs.Walks.{after, after_all}
use Rattle.walk_model.proofs.turns.ChainWays.{flags_at}
use Rattle.walk_model.proofs.turns.ChainsShown.{ShowsChain}
use Rattle.walk_model.proofs.turns.HeaderStarts.{settled_since}
use Rattle.walk_model.proofs.turns.KeptHeaderStarts.{HoldsAt}

-- a scope that isn't open yet opens before a child inside
pub opening_is : (ds : List Declaration) (w : WalkState) (p : Place) (r : Role) (n : ℕ)
    → after_all ds w (opening_at p r None n) ≡ cond (is_inside p.node.kind r) (after ds w (opening p (opened_scope p n))) w
opening_is ds w p r n = by (is_inside p.node.kind r)
  where
    by : (b : Bool) → after_all ds w (cond b (opening p (opened_scope p n) ∷ []) []) ≡ cond b (after ds w (opening p (opened_scope p n))) w
    by true = refl
    by false = refl

-- whether a header ends behind a child, with such children behind it, and whether the scope closes
abbrev pub ends_header_at : Place → Role → Forest → Bool
ends_header_at p r rest = is_in_header p.node.kind r && not (has_role (header_roles p.node.kind) rest)

abbrev pub closes_at : Place → Role → Forest → Bool
closes_at p r rest = is_inside p.node.kind r && not (any_inside p.node.kind rest)

abbrev pub close_if : Bool → ℕ → WalkState → WalkState
close_if b s w = cond b (close_scope w s) w

-- behind a child the header may end, and then the scope may close
pub ending_is : (ds : List Declaration) (w : WalkState) (p : Place) (r : Role) (s : OpenScope) (rest : Forest)
    → after_all ds w (ending_after p r (Some s) rest) ≡ close_if (closes_at p r rest) s.number (cond (ends_header_at p r rest) (end_header w s.number) w)
ending_is ds w p r s rest = by (ends_header_at p r rest) (closes_at p r rest)
  where
    by : (a b : Bool) → after_all ds w (cond a (header_ending p s ∷ []) [] ++ cond b (closing p s ∷ []) []) ≡ close_if b s.number (cond a (end_header w s.number) w)
    by true true = refl
    by true false = refl
    by false true = refl
    by false false = refl

-- what waits from a place on is looked up as far as the scope
abbrev pub outcomes_since : WalkState → (c start : ℕ) → List Outcome
outcomes_since w c start = map (header_outcome (source_of w.tables) c) (drop start w.waiting)

abbrev pub end_since : WalkState → (c start : ℕ) → WalkState
end_since w c start = record w {
  tables = settle w.tables (drop start w.waiting) (outcomes_since w c start);
  waiting = take start w.waiting ++ staying (drop start w.waiting) (outcomes_since w c start);
}

-- the same, where the header ends with what waits since its scope opened
pub ending_since : (ds : List Declaration) (w : WalkState) (p : Place) (r : Role) (s : OpenScope) (start : ℕ) (rest : Forest) → HoldsAt w (Some s) start
    → after_all ds w (ending_after p r (Some s) rest) ≡ close_if (closes_at p r rest) s.number (cond (ends_header_at p r rest) (end_since w s.number start) w)
ending_since ds w p r s start rest h =
    ending_is ds w p r s rest
    ∙ ap (λ v. close_if (closes_at p r rest) s.number (cond (ends_header_at p r rest) v w)) (sym (settled_since w s.number start h.sound h.header))

-- without an own scope nothing ends
pub ending_none : (ds : List Declaration) (w : WalkState) (p : Place) (r : Role) (rest : Forest) → after_all ds w (ending_after p r None rest) ≡ w
ending_none ds w p r rest = refl

-- behind all children a scope that isn't open yet opens and closes
pub last_is : (ds : List Declaration) (w : WalkState) (p : Place) (n : ℕ)
    → after_all ds w (opening_last p None n) ≡ cond (opens p.node.kind) (close_scope (after ds w (opening p (opened_scope p n))) n) w
last_is ds w p n = by (opens p.node.kind)
  where
    by : (b : Bool) → after_all ds w (cond b (opening p (opened_scope p n) ∷ closing p (opened_scope p n) ∷ []) []) ≡ cond b (close_scope (after ds w (opening p (opened_scope p n))) n) w
    by true = refl
    by false = refl

abbrev pub within_at : Place → Role → Option OpenScope → ℕ
within_at p r None = scope_of_place p
within_at p r (Some s) = cond (is_inside p.node.kind r) s.number (scope_of_place p)

-- where a child stands: a parameter's decorator outside of the parameter's scope, others inside of the own scope or around it
pub child_at : (p : Place) (own : Option OpenScope) (cursor : ℕ) (r : Role) (node : Node)
    → scope_of_place (child_place p own cursor r node) ≡ cond (is_parameter_decorator p.node.kind r) (innermost (outside p.chain)).number (within_at p r own)
child_at p own cursor r node = go (is_parameter_decorator p.node.kind r)
  where
    within : (o : Option OpenScope) → (innermost (child_scopes p r o)).number ≡ within_at p r o
    within None = refl
    within (Some s) = by (is_inside p.node.kind r)
      where
        by : (b : Bool) → (innermost (cond b (record s { in_header = is_in_header p.node.kind r } ∷ p.chain) p.chain)).number ≡ cond b s.number (scope_of_place p)
        by true = refl
        by false = refl

    go : (b : Bool) → (innermost (cond b (outside p.chain) (child_scopes p r own))).number ≡ cond b (innermost (outside p.chain)).number (within_at p r own)
    go true = refl
    go false = within own

-- the scope around the innermost one, by its row
pub around_at : (t : Tables) (chain : List OpenScope) → ShowsChain t chain → (outside chain ≡ [] → ⊥) → unwrap_or (scope_of t (innermost chain).number).parent (innermost chain).number ≡ (innermost (outside chain)).number
around_at t [] h f = absurd (f refl)
around_at t (s ∷ []) h f = absurd (f refl)
around_at t (s ∷ r ∷ rs) h f = rw h.0.parent refl

-- a scope opens within the scope where its place stands
pub opens_within : (chain : List OpenScope) → (chain ≡ [] → ⊥) → innermost_number chain ≡ Some (innermost chain).number
opens_within [] f = absurd (f refl)
opens_within (s ∷ ss) f = refl

-- the innermost scope exists
pub at_within : (t : Tables) (p : Place) → 0 < length t.scopes → ShowsChain t p.chain → scope_of_place p < length t.scopes
at_within t p z h = go p.chain refl h
  where
    go : (chain : List OpenScope) → p.chain ≡ chain → ShowsChain t chain → scope_of_place p < length t.scopes
    go [] e k = rw e z
    go (s ∷ ss) e k = rw e k.0.within

-- a scope that opens is strict where the row of the scope around it is
pub opened_flags : (t : Tables) (p : Place) (n : ℕ) → ShowsChain t p.chain → (p.chain ≡ [] → ⊥) → (opened_scope p n).flags ≡ union (flags_of_kind p.node.kind p) (strict_if (meets (scope_of t (scope_of_place p)).flags.bits flag.StrictMode.bits))
opened_flags t p n h f = ap (λ b. union (flags_of_kind p.node.kind p) (strict_if b)) (sym (flags_at t flag.StrictMode.bits p.chain refl h f))

-- so a scope opens in the innermost one, by its row
pub opened_as : (w : WalkState) (p : Place) (n : ℕ) → n ≡ length w.tables.scopes → ShowsChain w.tables p.chain → (p.chain ≡ [] → ⊥)
    → ◌≡◌ {A = WalkState} (open_scope w p (opened_scope p n))
    (record w {
      tables = record w.tables {
        scopes = w.tables.scopes ++ record {
          parent = Some (scope_of_place p);
          node = p.node.node_id;
          flags = record { bits = union (flags_of_kind p.node.kind p) (strict_if (meets (scope_of w.tables (scope_of_place p)).flags.bits flag.StrictMode.bits)) };
        } ∷ [];
        bindings = w.tables.bindings ++ [] ∷ [];
      };
      nodes = record w.nodes { scopes = insert_entry nat_eq w.nodes.scopes p.node.node_id (length w.tables.scopes) };
    })
opened_as w p n e h f = λ i. record w {
  tables = record w.tables {
    scopes = w.tables.scopes ++ record { parent = opens_within p.chain f i; node = p.node.node_id; flags = record { bits = opened_flags w.tables p n h f i } } ∷ [];
    bindings = w.tables.bindings ++ [] ∷ [];
  };
  nodes = record w.nodes { scopes = insert_entry nat_eq w.nodes.scopes p.node.node_id (e i) };
}
