-- The children fit the parts by the test exactly where they do by the relation.
use Rattle.std.proofs.Common.{◌≡◌, ◌+◌, List, [], ◌∷◌, ◌++◌, true, false, not, if◌then◌else◌, length, take, drop, refl, ap, sym, ◌∙◌, arith, add-one}
use Rattle.std.specs.List.{list_all}
use Rattle.std.proofs.lemmas.Bool.{and_parts, and_from, not-true}
use Rattle.std.proofs.lemmas.Bool.Decides.{Decides-eqb}
use Rattle.std.proofs.lemmas.List.{take-append-drop}
use denote.Enum.Bare.{same_true}
use Rattle.semantic_kinds.specs.Roles.{same_role}
use Rattle.semantic_kinds.specs.contracts.role.Role.{the_type as the_roles}
use Rattle.semantic_kinds.specs.declared.role.Role.{Role}
use Rattle.semantic_kinds.specs.declared.part.Part.{Part}
use Rattle.semantic_tree.specs.Fit.{lead, is_run, fit, AreInRole, Fit, have_own_roles}
use Rattle.semantic_tree.specs.declared.node.Node.{Node}

abbrev Child : Type 0
Child = Role × Node

-- ---- the children in the lead

pub lead_in_role : (role : Role) (cs : List Child) → AreInRole role (take (lead role cs) cs)
lead_in_role role [] = refl
lead_in_role role (c ∷ cs) =
    elim (same_role c.0 role) as (λ b. same_role c.0 role ≡ b → AreInRole role (take (if b then lead role cs + 1 else 0) (c ∷ cs))) [
      | true ↦ λ is. rw (add-one) (and_from (same_role c.0 role) _ is (lead_in_role role cs))
      | false ↦ λ is. refl
    ] refl

-- what passes the test fits
pub fit-Fit : (parts : List Part) (cs : List Child) → fit parts cs ≡ true → Fit parts cs
fit-Fit [] [] h = refl
fit-Fit [] (c ∷ cs) h = let none : length (c ∷ cs) ≡ 0 = (Decides-eqb (length (c ∷ cs)) 0).0 h in absurd (omega (arith, none))
fit-Fit (p ∷ ps) cs h =
    let n = lead p.role cs in
    (take n cs, drop n cs, sym (take-append-drop n cs), lead_in_role p.role cs, (and_parts (is_run p (take n cs)) (fit ps (drop n cs)) h).0, fit-Fit ps (drop n cs) (and_parts (is_run p (take n cs)) (fit ps (drop n cs)) h).1)

-- ---- what fits passes the test

lead-append : (role : Role) (own rest : List Child) → AreInRole role own → lead role rest ≡ 0 → lead role (own ++ rest) ≡ length own
lead-append role [] rest h none = none
lead-append role (c ∷ own) rest h none =
    rw ((and_parts (same_role c.0 role) (list_all (λ child. same_role child.0 role) own) h).0, lead-append role own rest (and_parts (same_role c.0 role) (list_all (λ child. same_role child.0 role) own) h).1 none) (add-one (length own))

take-append : (own rest : List Child) → take (length own) (own ++ rest) ≡ own
take-append [] rest = refl
take-append (c ∷ own) rest = ap (λ xs. c ∷ xs) (take-append own rest)

drop-append : (own rest : List Child) → drop (length own) (own ++ rest) ≡ rest
drop-append [] rest = refl
drop-append (c ∷ own) rest = drop-append own rest

-- children that fit parts of other roles do not begin with this role
no_lead : (role : Role) (parts : List Part) (cs : List Child) → list_all (λ other. not (same_role other.role role)) parts ≡ true → Fit parts cs → lead role cs ≡ 0
no_lead role [] cs h f = ap (lead role) f
no_lead role (p ∷ ps) cs h (([]), rest, is, in_role, run, f) = ap (lead role) is ∙ no_lead role ps rest (and_parts (not (same_role p.role role)) (list_all (λ other. not (same_role other.role role)) ps) h).1 f
no_lead role (p ∷ ps) cs h ((c ∷ own), rest, is, in_role, run, f) =
    let same : c.0 ≡ p.role = same_true the_roles tt c.0 p.role (and_parts (same_role c.0 p.role) (list_all (λ child. same_role child.0 p.role) own) in_role).0 in
    let other : same_role c.0 role ≡ false = ap (λ r. same_role r role) same ∙ not-true (same_role p.role role) (and_parts (not (same_role p.role role)) (list_all (λ q. not (same_role q.role role)) ps) h).0 in
    ap (lead role) is ∙ ap (λ b. if b then lead role (own ++ rest) + 1 else 0) other

pub Fit-fit : (parts : List Part) (cs : List Child) → have_own_roles parts ≡ true → Fit parts cs → fit parts cs ≡ true
Fit-fit [] cs h f = rw f refl
Fit-fit (p ∷ ps) cs h (own, rest, is, in_role, run, f) =
    let others = (and_parts (list_all (λ other. not (same_role other.role p.role)) ps) (have_own_roles ps) h).0 in
    let n : lead p.role (own ++ rest) ≡ length own = lead-append p.role own rest in_role (no_lead p.role ps rest others f) in
    let first : is_run p (take (lead p.role (own ++ rest)) (own ++ rest)) ≡ true = rw (n, take-append own rest) run in
    let second : fit ps (drop (lead p.role (own ++ rest)) (own ++ rest)) ≡ true = rw (n, drop-append own rest) (Fit-fit ps rest (and_parts (list_all (λ other. not (same_role other.role p.role)) ps) (have_own_roles ps) h).1 f) in
    ap (fit (p ∷ ps)) is ∙ and_from (is_run p (take (lead p.role (own ++ rest)) (own ++ rest))) (fit ps (drop (lead p.role (own ++ rest)) (own ++ rest))) first second
