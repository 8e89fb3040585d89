-- Scopes are numbered as they open: what is declared goes to scopes that are open, and the name of a function to one that just opened.
use Rattle.std.proofs.Common.{◌≡◌, ℕ, suc, ◌+◌, ◌<◌, ◌≤◌, List, [], ◌∷◌, ◌++◌, Option, Some, None, Bool, true, false, inl, inr, ◌⊎◌, refl, sym, subst, cond, map, arith}
use Rattle.std.proofs.lemmas.Bool.Decides.{eqb_tells}
use Rattle.semantic_kinds.specs.declared.kind.AstType.{AstType}
use Rattle.semantic_kinds.specs.declared.kind.AstType.TheVariants as kind
use Rattle.semantic_kinds.specs.declared.role.Role.{Role}
use Rattle.semantic_syntax.specs.Members.{contains}
use Rattle.semantic_tree.specs.Forest.{Forest, nothing, tree}
use Rattle.semantic_tree.specs.Tree.{Tree}
use Rattle.semantic_tree.specs.declared.node.Node.{Node}
use Rattle.semantic_model.specs.Binder.{is_var, is_conditional, declared_by}
use Rattle.semantic_model.specs.Cursor.{on_entering}
use Rattle.semantic_model.specs.Declaration.{Declaration, Route, here, passed_before, first_with, route_from, outward_to, outward_past, scope_it_stands_in}
use Rattle.semantic_model.specs.Inside.{is_inside, is_in_header, is_parameter_decorator}
use Rattle.semantic_model.specs.Place.{Place, OpenScope, innermost, outside}
use Rattle.semantic_model.specs.ScopeKind.{opened_scope}
use Rattle.semantic_model.specs.Step.{Step, entering, opening, header_ending, closing, leaving, steps_below, steps, root_place, scope_at, next_at, child_place, child_scopes}
use Rattle.semantic_model.proofs.fold.EachDeclared.{EachDeclared, each_on_entering}
use Rattle.semantic_model.proofs.steps.Opened.{openings, next_opened, rest_opened}
use Rattle.semantic_model.proofs.steps.Turn.{Turn, turn_at}
use Rattle.semantic_model.proofs.steps.TurnCases.{opening_case, ending_case, last_case}
use Rattle.language_ties.proofs.shared.Shared.{RouteBelow}

-- ---- chains

abbrev pub AllBelow : ℕ → List OpenScope → Type 0
AllBelow n [] = Unit {0}
AllBelow n (s ∷ ss) = (s.number < n) × AllBelow n ss

-- the scopes of a chain are among the first n, of which there is one at least
pub record ChainBelow (n : ℕ) (chain : List OpenScope) : Type 0 where
  pub some : 0 < n
  pub all : AllBelow n chain

all_below_more : (n k : ℕ) (cs : List OpenScope) → n ≤ k → AllBelow n cs → AllBelow k cs
all_below_more n k [] i h = tt
all_below_more n k (s ∷ ss) i h = ((let w : s.number < n = h.0 in omega arith), all_below_more n k ss i h.1)

innermost_below : (n : ℕ) (chain : List OpenScope) → ChainBelow n chain → (innermost chain).number < n
innermost_below n [] h = h.some
innermost_below n (s ∷ ss) h = h.all.0

-- ---- routes

record RouteIn (n : ℕ) (r : Route) : Type 0 where
  target : r.target.number < n
  passed : AllBelow n r.passed

below_at : (n : ℕ) (cs : List OpenScope) (c : ℕ) → AllBelow n cs → contains (map (λ s. s.number) cs) c ≡ true → c < n
below_at n [] c h e = absurd cc
below_at n (s ∷ ss) c h e = elim (eqb_tells s.number c) [
  | inl k ↦ subst (λ r. r < n) k.1 h.0
  | inr k ↦ below_at n ss c h.1 (rw k.0 at e)
]

first_below : (n : ℕ) (cs : List OpenScope) (t : OpenScope) → AllBelow n cs → t.number < n → (innermost (cs ++ t ∷ [])).number < n
first_below n [] t h k = k
first_below n (s ∷ ss) t h k = h.0

route_below : (n : ℕ) (d : Declaration) → RouteIn n d.route → RouteBelow n d
route_below n d h = record { target = h.target; passed = λ c e. below_at n d.route.passed c h.passed e; stands = first_below n d.route.passed d.route.target h.passed h.target }

before_below : (n : ℕ) (test : OpenScope → Bool) (chain : List OpenScope) → AllBelow n chain → AllBelow n (passed_before test chain)
before_below n test [] h = tt
before_below n test (s ∷ ss) h = go (test s) (before_below n test ss h.1)
  where
    go : (b : Bool) → AllBelow n (passed_before test ss) → AllBelow n (cond b [] (s ∷ passed_before test ss))
    go true k = tt
    go false k = (h.0, k)

abbrev FirstBelow : ℕ → Option OpenScope → Type 0
FirstBelow n None = Unit {0}
FirstBelow n (Some s) = s.number < n

found_below : (n : ℕ) (test : OpenScope → Bool) (chain : List OpenScope) → AllBelow n chain → FirstBelow n (first_with test chain)
found_below n test [] h = tt
found_below n test (s ∷ ss) h = go (test s) (found_below n test ss h.1)
  where
    go : (b : Bool) → FirstBelow n (first_with test ss) → FirstBelow n (cond b (Some s) (first_with test ss))
    go true k = h.0
    go false k = k

from_below : (n : ℕ) (chain passed : List OpenScope) (o : Option OpenScope) → ChainBelow n chain → AllBelow n passed → FirstBelow n o → RouteIn n (route_from chain passed o)
from_below n chain passed None h p k = record { target = innermost_below n chain h; passed = tt }
from_below n chain passed (Some s) h p k = record { target = k; passed = p }

here_below : (n : ℕ) (chain : List OpenScope) → ChainBelow n chain → RouteIn n (here chain)
here_below n chain h = record { target = innermost_below n chain h; passed = tt }

outward_below : (n : ℕ) (test : OpenScope → Bool) (chain : List OpenScope) → ChainBelow n chain → RouteIn n (outward_to test chain)
outward_below n test chain h = from_below n chain (passed_before test chain) (first_with test chain) h (before_below n test chain h.all) (found_below n test chain h.all)

past_below : (n : ℕ) (chain : List OpenScope) → ChainBelow n chain → RouteIn n (outward_past is_var chain)
past_below n [] h = here_below n [] h
past_below n (s ∷ ss) h = from_below n (s ∷ ss) (s ∷ passed_before is_var ss) (first_with is_var ss) h (h.all.0, before_below n is_var ss h.all.1) (found_below n is_var ss h.all.1)

-- what a node declares goes to scopes that are open there
pub entering_below : (n : ℕ) (k : AstType) (p : Place) → ChainBelow n p.chain → EachDeclared (RouteBelow n) (declared_by k p)
entering_below n k p h = each_on_entering (RouteBelow n) (λ how r. RouteIn n r) (λ node row is_pure name r. route_below n _ r) k p (record {
  at_home = here_below n p.chain h;
  when_caught = here_below n p.chain h;
  when_hoisted = λ e. outward_below n is_var p.chain h;
  when_moved = λ e s q. past_below n p.chain h;
  when_inferred = outward_below n is_conditional p.chain h;
})

-- a block function that stays
pub staying_below : (n : ℕ) (d e : Declaration) → RouteBelow n d → e.route ≡ record { passed = []; target = scope_it_stands_in d } → RouteBelow n e
staying_below n d e h q = route_below n e (subst (RouteIn n) (sym q) (record { target = h.stands; passed = tt }))

-- ---- steps

-- the root declares nothing, and each other place stands in scopes that are open
abbrev pub PlaceIn : ℕ → Place → Type 0
PlaceIn n p = (p.node.kind ≡ kind.Program) ⊎ ChainBelow n p.chain

-- the steps open scopes from number n on
abbrev pub NumberedFrom : ℕ → List Step → Type 0
NumberedFrom n [] = Unit {0}
NumberedFrom n (entering p ∷ ss) = PlaceIn n p × NumberedFrom n ss
NumberedFrom n (opening p s ∷ ss) = (s.number ≡ n) × NumberedFrom (suc n) ss
NumberedFrom n (header_ending p s ∷ ss) = NumberedFrom n ss
NumberedFrom n (closing p s ∷ ss) = NumberedFrom n ss
NumberedFrom n (leaving p ∷ ss) = NumberedFrom n ss

numbered-append : (n m : ℕ) (xs ys : List Step) → n + openings xs ≡ m → NumberedFrom n xs → NumberedFrom m ys → NumberedFrom n (xs ++ ys)
numbered-append n m [] ys e h k = subst (λ i. NumberedFrom i ys) (omega arith) k
numbered-append n m (entering p ∷ xs) ys e h k = (h.0, numbered-append n m xs ys e h.1 k)
numbered-append n m (opening p s ∷ xs) ys e h k = (h.0, numbered-append (suc n) m xs ys (omega arith) h.1 k)
numbered-append n m (header_ending p s ∷ xs) ys e h k = numbered-append n m xs ys e h k
numbered-append n m (closing p s ∷ xs) ys e h k = numbered-append n m xs ys e h k
numbered-append n m (leaving p ∷ xs) ys e h k = numbered-append n m xs ys e h k

abbrev OwnBelow : ℕ → Option OpenScope → Type 0
OwnBelow n None = Unit {0}
OwnBelow n (Some s) = s.number < n

-- a scope is open, or the place is the root and is about to open the first
abbrev Based : Place → Option OpenScope → ℕ → Type 0
Based p own n = (0 < n) ⊎ ((p.node.kind ≡ kind.Program) × (own ≡ None))

next_more : (p : Place) (r : Role) (own : Option OpenScope) (n : ℕ) → n ≤ next_at p r own n
next_more p r (Some s) n = omega arith
next_more p r None n = go (is_inside p.node.kind r)
  where
    go : (b : Bool) → n ≤ cond b (suc n) n
    go true = omega arith
    go false = omega arith

own_below : (p : Place) (r : Role) (own : Option OpenScope) (n : ℕ) → OwnBelow n own → OwnBelow (next_at p r own n) (scope_at p r own n)
own_below p r (Some s) n h = h
own_below p r None n h = go (is_inside p.node.kind r)
  where
    go : (b : Bool) → OwnBelow (cond b (suc n) n) (cond b (Some (opened_scope p n)) None)
    go true = omega arith
    go false = tt

next_some : (p : Place) (r : Role) (own : Option OpenScope) (n : ℕ) → Based p own n → 0 < next_at p r own n
next_some p r own n (inl h) = let w : n ≤ next_at p r own n = next_more p r own n in omega arith
next_some p r own n (inr h) = subst (λ o. 0 < next_at p r o n) (sym h.1) (subst (λ k. 0 < cond (is_inside k r) (suc n) n) (sym h.0) (omega arith))

outside_below : (n : ℕ) (cs : List OpenScope) → AllBelow n cs → AllBelow n (outside cs)
outside_below n [] h = tt
outside_below n (s ∷ ss) h = h.1

within_below : (n : ℕ) (p : Place) (r : Role) (own : Option OpenScope) → AllBelow n p.chain → OwnBelow n own → AllBelow n (child_scopes p r own)
within_below n p r None a o = a
within_below n p r (Some s) a o = go (is_inside p.node.kind r)
  where
    go : (b : Bool) → AllBelow n (cond b (record s { in_header = is_in_header p.node.kind r } ∷ p.chain) p.chain)
    go true = (o, a)
    go false = a

child_below : (n : ℕ) (p : Place) (own : Option OpenScope) (cursor : ℕ) (r : Role) (node : Node) → AllBelow n p.chain → OwnBelow n own → AllBelow n (child_place p own cursor r node).chain
child_below n p own cursor r node a o = go (is_parameter_decorator p.node.kind r)
  where
    go : (b : Bool) → AllBelow n (cond b (outside p.chain) (child_scopes p r own))
    go true = outside_below n p.chain a
    go false = within_below n p r own a o

own_below_more : (n k : ℕ) (own : Option OpenScope) → n ≤ k → OwnBelow n own → OwnBelow k own
own_below_more n k None i h = tt
own_below_more n k (Some s) i h = omega arith

numbered_steps : (p : Place) (own : Option OpenScope) (n cursor : ℕ) (f : Forest) → AllBelow n p.chain → OwnBelow n own → Based p own n → NumberedFrom n (steps_below p own n cursor f)
numbered_steps p own n cursor nothing a o b = last_case (NumberedFrom n) p own n tt (refl, tt)
numbered_steps p own n cursor (tree r k span text marks below id after) a o b =
    let node : Node = record { kind = k; span = span; text = text; marks = marks; children = below; node_id = id } in
    let turn : Turn = turn_at p own n cursor r node after in
    let more : n ≤ turn.next = next_more p r own n in
    let a_next : AllBelow turn.next p.chain = all_below_more n turn.next p.chain more a in
    let o_next : OwnBelow turn.next turn.scope = own_below p r own n o in
    let some : 0 < turn.next = next_some p r own n b in
    let chain : AllBelow turn.next turn.child.chain = child_below turn.next p turn.scope cursor r node a_next o_next in
    let rest : turn.next ≤ turn.rest = omega arith in
    let inner : NumberedFrom turn.next turn.below = numbered_steps turn.child None turn.next turn.inner below chain tt (inl some) in
    let whole : NumberedFrom turn.next turn.whole = (inr (record { some = some; all = chain }), numbered-append turn.next (turn.next + openings turn.below) turn.below (leaving turn.child ∷ []) refl inner tt) in
    let first : NumberedFrom n (turn.before ++ turn.whole) = numbered-append n turn.next turn.before turn.whole (next_opened p r own n) (opening_case (NumberedFrom n) p r own n tt (refl, tt)) whole in
    let ends : (m : ℕ) → NumberedFrom m turn.behind = λ m. ending_case (NumberedFrom m) p r turn.scope after tt (λ s. tt) (λ s. tt) (λ s. tt) in
    numbered-append n turn.rest (turn.before ++ turn.whole ++ turn.behind) turn.others (rest_opened p own n cursor r node after)
    (numbered-append n (n + openings (turn.before ++ turn.whole)) (turn.before ++ turn.whole) turn.behind refl first (ends (n + openings (turn.before ++ turn.whole))))
    (numbered_steps p turn.scope turn.rest turn.past after (all_below_more turn.next turn.rest p.chain rest a_next) (own_below_more turn.next turn.rest turn.scope rest o_next) (inl (omega arith)))

pub numbered_program : (p : Tree) → p.root.kind ≡ kind.Program → NumberedFrom 0 (steps p)
numbered_program p e =
    let root : Place = root_place p in
    let n : ℕ = on_entering p.root.kind 0 in
    (inl e, numbered-append 0 (0 + openings (steps_below root None 0 n p.root.children)) (steps_below root None 0 n p.root.children) (leaving root ∷ []) refl (numbered_steps root None 0 n p.root.children tt tt (inr (e, refl))) tt)
