-- A function has at most one body.
use Rattle.std.proofs.Common.{◌≡◌, ℕ, ◌≤◌, List, [], ◌∷◌, ◌++◌, Bool, true, false, not, ◌&&◌, cond, if◌then◌else◌, length, take, drop, refl, sym, ap, subst, ◌∙◌, arith}
use Rattle.std.specs.List.{list_all}
use Rattle.std.proofs.lemmas.Bool.{eqb-true}
use Rattle.std.proofs.lemmas.List.{take-append-drop}
use Rattle.semantic_syntax.proofs.Truth.{and_first, and_second}
use Rattle.semantic_kinds.specs.Roles.{same_role}
use Rattle.semantic_kinds.specs.declared.part.Count.{Count}
use Rattle.semantic_kinds.specs.declared.part.Count.TheVariants as count
use Rattle.semantic_kinds.specs.declared.part.Part.{Part}
use Rattle.semantic_kinds.specs.declared.role.Role.{Role}
use Rattle.semantic_tree.specs.Fit.{AreInRole, allows, lead, all_of, is_run, fit}
use Rattle.semantic_tree.specs.Nodes.{nodes_in}
use Rattle.semantic_tree.specs.declared.node.Node.{Node}
use Rattle.semantic_tree.proofs.FitLaws.{lead_in_role}
use Rattle.semantic_model.proofs.form.Clauses.{role_is}
use Rattle.walk_model.proofs.once.NamesInRole.{AtMostOne}
use Rattle.binding_laws.proofs.SmallLaws.{never}
use Rattle.language_ties.proofs.own_names.OwnIds.{nodes_append, none_of_parts, is_at_most}

abbrev is_single : Count → Bool
is_single count.One = true
is_single count.AtMostOne = true
is_single _ = false

-- one part alone has the role, and that once
abbrev pub has_single : Role → List Part → Bool
has_single r [] = true
has_single r (p ∷ ps) = cond (same_role p.role r) (is_single p.count && list_all (λ q. not (same_role q.role r)) ps) (has_single r ps)

single_length : (c : Count) (n : ℕ) → is_single c ≡ true → allows c n ≡ true → n ≤ 1
single_length count.One n s h = let w : n ≡ 1 = eqb-true n 1 h in omega (arith, w)
single_length count.AtMostOne n s h = is_at_most n 1 h
single_length count.AnyNumber n s h = absurd (never (sym s))
single_length count.AtLeastOne n s h = absurd (never (sym s))

-- children of another role
none_there : (r s : Role) (own : List (Role × Node)) → same_role s r ≡ false → AreInRole s own → nodes_in r own ≡ []
none_there r s [] n h = refl
none_there r s (c ∷ own) n h =
    let other : same_role c.0 r ≡ false = subst (λ z. same_role z r ≡ false) (sym (role_is c.0 s (and_first (same_role c.0 s) _ h))) n in
    ap (λ b. if b then c.1 ∷ nodes_in r own else nodes_in r own) other ∙ none_there r s own n (and_second (same_role c.0 s) _ h)

at_most_in : (r : Role) (own : List (Role × Node)) → length own ≤ 1 → AtMostOne (nodes_in r own)
at_most_in r [] h = tt
at_most_in r (c ∷ []) h = go (same_role c.0 r)
  where
    go : (b : Bool) → AtMostOne (if b then c.1 ∷ [] else [])
    go true = tt
    go false = tt
at_most_in r (c ∷ d ∷ own) h = absurd (omega (arith, h))

append_none : {A : Type 0} (xs ys : List A) → ys ≡ [] → xs ++ ys ≡ xs
append_none [] ys h = h
append_none (x ∷ xs) ys h = ap (λ z. x ∷ z) (append_none xs ys h)

pub once_in_role : (r : Role) (ps : List Part) (cs : List (Role × Node)) → has_single r ps ≡ true → fit ps cs ≡ true → AtMostOne (nodes_in r cs)
once_in_role r [] cs s f = none cs f
  where
    none : (cs : List (Role × Node)) → fit [] cs ≡ true → AtMostOne (nodes_in r cs)
    none [] f = tt
    none (c ∷ cs) f = let w : length (c ∷ cs) ≡ 0 = eqb-true (length (c ∷ cs)) 0 f in absurd (omega arith)
once_in_role r (p ∷ ps) cs s f =
    let n : ℕ = lead p.role cs in
    let run : is_run p (take n cs) ≡ true = and_first (is_run p (take n cs)) (fit ps (drop n cs)) f in
    let rest : fit ps (drop n cs) ≡ true = and_second (is_run p (take n cs)) (fit ps (drop n cs)) f in
    subst (λ xs. AtMostOne (nodes_in r xs)) (take-append-drop n cs) (subst AtMostOne (sym (nodes_append r (take n cs) (drop n cs)))
    (by (same_role p.role r) refl s (take n cs) (drop n cs) (lead_in_role p.role cs) run rest (λ w. once_in_role r ps (drop n cs) w rest)))
  where
    by : (b : Bool) → same_role p.role r ≡ b → cond b (is_single p.count && list_all (λ q. not (same_role q.role r)) ps) (has_single r ps) ≡ true → (own others : List (Role × Node)) → AreInRole p.role own → is_run p own ≡ true → fit ps others ≡ true → (has_single r ps ≡ true → AtMostOne (nodes_in r others)) → AtMostOne (nodes_in r own ++ nodes_in r others)
    by true w s own others i run rest later =
        let few : length own ≤ 1 = single_length p.count (length own) (and_first (is_single p.count) _ s) (and_first (allows p.count (length own)) (all_of p.class own) run) in
        subst AtMostOne (sym (append_none (nodes_in r own) (nodes_in r others) (none_of_parts r ps others (and_second (is_single p.count) _ s) rest))) (at_most_in r own few)
    by false w s own others i run rest later = subst (λ xs. AtMostOne (xs ++ nodes_in r others)) (sym (none_there r p.role own w i)) (later s)
