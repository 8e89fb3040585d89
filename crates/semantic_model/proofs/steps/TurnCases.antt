-- What holds of the steps round a child, and behind the last one, whichever of them are taken.
use Rattle.std.proofs.Common.{ℕ, List, [], ◌∷◌, ◌++◌, Option, Some, None, Bool, true, false, ◌&&◌, not, cond}
use Rattle.semantic_kinds.specs.declared.role.Role.{Role}
use Rattle.semantic_tree.specs.Forest.{Forest}
use Rattle.semantic_tree.specs.Views.{has_role}
use Rattle.semantic_model.specs.Place.{Place, OpenScope}
use Rattle.semantic_model.specs.Inside.{opens, is_inside, any_inside, header_roles, is_in_header}
use Rattle.semantic_model.specs.ScopeKind.{opened_scope}
use Rattle.semantic_model.specs.Step.{Step, opening, header_ending, closing, opening_at, ending_after, opening_last}

module _ (P : List Step → Type 0) where
  pub opening_case : (p : Place) (r : Role) (own : Option OpenScope) (n : ℕ) → P [] → P (opening p (opened_scope p n) ∷ []) → P (opening_at p r own n)
  opening_case p r (Some s) n none one = none
  opening_case p r None n none one = by (is_inside p.node.kind r)
    where
      by : (b : Bool) → P (cond b (opening p (opened_scope p n) ∷ []) [])
      by true = one
      by false = none

  pub ending_case : (p : Place) (r : Role) (own : Option OpenScope) (after : Forest) → P [] → ((s : OpenScope) → P (header_ending p s ∷ [])) → ((s : OpenScope) → P (closing p s ∷ [])) → ((s : OpenScope) → P (header_ending p s ∷ closing p s ∷ []))
      → P (ending_after p r own after)
  ending_case p r None after none ends closes both = none
  ending_case p r (Some s) after none ends closes both =
      by (is_in_header p.node.kind r && not (has_role (header_roles p.node.kind) after)) (is_inside p.node.kind r && not (any_inside p.node.kind after))
    where
      by : (a b : Bool) → P (cond a (header_ending p s ∷ []) [] ++ cond b (closing p s ∷ []) [])
      by true true = both s
      by true false = ends s
      by false true = closes s
      by false false = none

  pub last_case : (p : Place) (own : Option OpenScope) (n : ℕ) → P [] → P (opening p (opened_scope p n) ∷ closing p (opened_scope p n) ∷ []) → P (opening_last p own n)
  last_case p (Some s) n none one = none
  last_case p None n none one = by (opens p.node.kind)
    where
      by : (b : Bool) → P (cond b (opening p (opened_scope p n) ∷ closing p (opened_scope p n) ∷ []) [])
      by true = one
      by false = none
