-- What holds of a scope, whether its header lasts or not, holds of the scopes round a child if it holds of those round its parent.
use Rattle.std.proofs.Common.{ℕ, List, [], ◌∷◌, Option, Some, None, Bool, true, false, cond, inl, inr, subst}
use Rattle.semantic_kinds.specs.declared.role.Role.{Role}
use Rattle.semantic_tree.specs.declared.node.Node.{Node}
use Rattle.semantic_model.specs.Entries.{Among}
use Rattle.semantic_model.specs.Inside.{is_inside, is_in_header, is_parameter_decorator}
use Rattle.semantic_model.specs.Place.{Place, OpenScope, outside}
use Rattle.semantic_model.specs.ScopeKind.{opened_scope}
use Rattle.semantic_model.specs.Step.{scope_at, child_place, child_scopes}

module _ (P : OpenScope → Type 0) where
  abbrev pub AllRound : List OpenScope → Type 0
  AllRound [] = Unit {0}
  AllRound (s ∷ ss) = P s × AllRound ss

  -- the scope that the place itself opened, if it did
  abbrev pub OwnRound : Option OpenScope → Type 0
  OwnRound None = Unit {0}
  OwnRound (Some s) = P s

  pub among_round : (chain : List OpenScope) (s : OpenScope) → AllRound chain → Among s chain → P s
  among_round [] s h a = absurd a
  among_round (z ∷ chain) s h (inl e) = subst P e h.0
  among_round (z ∷ chain) s h (inr a) = among_round chain s h.1 a

  pub own_round : (p : Place) (r : Role) (own : Option OpenScope) (n : ℕ) → P (opened_scope p n) → OwnRound own → OwnRound (scope_at p r own n)
  own_round p r (Some s) n k o = o
  own_round p r None n k o = go (is_inside p.node.kind r)
    where
      go : (b : Bool) → OwnRound (cond b (Some (opened_scope p n)) None)
      go true = k
      go false = tt

  outside_round : (chain : List OpenScope) → AllRound chain → AllRound (outside chain)
  outside_round [] h = tt
  outside_round (s ∷ ss) h = h.1

  module _ (passes : (s : OpenScope) (b : Bool) → P s → P (record s { in_header = b })) where
    within_round : (p : Place) (r : Role) (own : Option OpenScope) → AllRound p.chain → OwnRound own → AllRound (child_scopes p r own)
    within_round p r None h o = h
    within_round p r (Some s) h o = go (is_inside p.node.kind r)
      where
        go : (b : Bool) → AllRound (cond b (record s { in_header = is_in_header p.node.kind r } ∷ p.chain) p.chain)
        go true = (passes s (is_in_header p.node.kind r) o, h)
        go false = h

    pub child_round : (p : Place) (own : Option OpenScope) (cursor : ℕ) (r : Role) (node : Node) → AllRound p.chain → OwnRound own → AllRound (child_place p own cursor r node).chain
    child_round p own cursor r node h o = go (is_parameter_decorator p.node.kind r)
      where
        go : (b : Bool) → AllRound (cond b (outside p.chain) (child_scopes p r own))
        go true = outside_round p.chain h
        go false = within_round p r own h o
