-- What a walker tells along steps, as a recursion over a tree does them.
use Rattle.std.proofs.Common.{◌≡◌, ℕ, ◌+◌, ◌≤◌, List, [], ◌∷◌, ◌++◌, Option, Some, None, Bool, true, false, ◌&&◌, not, cond, refl, sym, ap, ◌∙◌, map, length, arith, length-append}
use Rattle.std.proofs.lemmas.List.{append_assoc, append-nil}
use Rattle.semantic_kinds.specs.declared.role.Role.{Role}
use Rattle.semantic_tree.specs.Forest.{Forest, tree}
use Rattle.semantic_tree.specs.declared.node.Node.{Node}
use Rattle.semantic_tree.specs.Views.{has_role}
use Rattle.semantic_model.specs.Inside.{opens, is_inside, any_inside, header_roles, is_in_header, scopes_in}
use Rattle.semantic_model.specs.Place.{Place, OpenScope}
use Rattle.semantic_model.specs.Cursor.{on_entering}
use Rattle.semantic_model.specs.Declaration.{Declaration}
use Rattle.semantic_model.specs.ScopeKind.{opened_scope}
use Rattle.semantic_model.specs.Step.{Step, entering, opening, header_ending, closing, leaving, scope_at, next_at, opening_at, ending_after, opening_last, child_place, cursor_past, steps_below, steps_of}
use Rattle.walk_model.specs.WalkState.{WalkState}
use Rattle.walk_model.specs.Walks as walk
use Rattle.walk_model.proofs.turns.ChildTurns.{after-append}
use Rattle.check_model.specs.DiagnosticsOf.{conflict_diagnostic}
use Rattle.check_model.proofs.ConflictsGrow.{More}
use Rattle.check_walk.specs.Telling.{IsQuiet, noted_since, told_over}
use Rattle.check_walk.specs.SoFar.{Telling, so_far, CountedAreTold}
use Rattle.check_walk.specs.TellingAlong.{telling_past, telling_left, telling_along, making, AreUntold, telling_over}
use Rattle.check_walk.proofs.Noting.{keeps_steps, quiet_step, leaving_step, told-append, more_so_far}

-- what is made doesn't depend on checks
pub past_makes : (checks : Bool) (source : List ℕ) (ds : List Declaration) (t : Telling) (step : Step) → (telling_past checks source ds t step).made ≡ walk.after ds t.made step
past_makes true source ds t (entering p) = refl
past_makes true source ds t (opening p s) = refl
past_makes true source ds t (header_ending p s) = refl
past_makes true source ds t (closing p s) = refl
past_makes true source ds t (leaving p) = refl
past_makes false source ds t step = refl

pub along_makes : (checks : Bool) (source : List ℕ) (ds : List Declaration) (t : Telling) (ss : List Step) → (telling_along checks source ds t ss).made ≡ walk.after_all ds t.made ss
along_makes checks source ds t [] = refl
along_makes checks source ds t (s ∷ ss) = along_makes checks source ds (telling_past checks source ds t s) ss ∙ ap (λ (w : WalkState). walk.after_all ds w ss) (past_makes checks source ds t s)

-- what is made may be said by the steps alone
pub along_parts : (checks : Bool) (source : List ℕ) (ds : List Declaration) (t : Telling) (ss : List Step) → record (telling_along checks source ds t ss) { made = walk.after_all ds t.made ss } ≡ telling_along checks source ds t ss
along_parts checks source ds t ss = λ i. record (telling_along checks source ds t ss) { made = sym (along_makes checks source ds t ss) i }

-- leaving a node makes nothing
pub leaving_parts : (checks : Bool) (source : List ℕ) (ds : List Declaration) (t : Telling) (p : Place) → record (telling_left checks source t p) { made = t.made } ≡ telling_past checks source ds t (leaving p)
leaving_parts true source ds t p = refl
leaving_parts false source ds t p = refl

-- with checks off nothing is told
pub unchecked : (source : List ℕ) (ds : List Declaration) (t : Telling) (ss : List Step) → telling_along false source ds t ss ≡ making ds t ss
unchecked source ds t [] = refl
unchecked source ds t (s ∷ ss) = unchecked source ds (record t { made = walk.after ds t.made s }) ss

-- one list of steps and then another
pub along-append : (checks : Bool) (source : List ℕ) (ds : List Declaration) (t : Telling) (xs ys : List Step) → telling_along checks source ds t (xs ++ ys) ≡ telling_along checks source ds (telling_along checks source ds t xs) ys
along-append checks source ds t [] ys = refl
along-append checks source ds t (x ∷ xs) ys = along-append checks source ds (telling_past checks source ds t x) xs ys

-- conflicts that are told stay
grown : (t : Telling) (now : WalkState) → CountedAreTold t → More t.made.conflicts now.conflicts → t.counted ≤ length now.conflicts
grown t now c h = omega (arith, c, ap length h.is, length-append t.made.conflicts h.more)

pub past_counts : (checks : Bool) (source : List ℕ) (ds : List Declaration) (t : Telling) (step : Step) → CountedAreTold t → CountedAreTold (telling_past checks source ds t step)
past_counts true source ds t (entering p) c = grown t (walk.after ds t.made (entering p)) c (keeps_steps ds t.made (entering p ∷ []))
past_counts true source ds t (opening p s) c = grown t (walk.after ds t.made (opening p s)) c (keeps_steps ds t.made (opening p s ∷ []))
past_counts true source ds t (header_ending p s) c = grown t (walk.after ds t.made (header_ending p s)) c (keeps_steps ds t.made (header_ending p s ∷ []))
past_counts true source ds t (closing p s) c = grown t (walk.after ds t.made (closing p s)) c (keeps_steps ds t.made (closing p s ∷ []))
past_counts true source ds t (leaving p) c = omega arith
past_counts false source ds t step c = grown t (walk.after ds t.made step) c (keeps_steps ds t.made (step ∷ []))

pub along_counts : (checks : Bool) (source : List ℕ) (ds : List Declaration) (t : Telling) (ss : List Step) → CountedAreTold t → CountedAreTold (telling_along checks source ds t ss)
along_counts checks source ds t [] c = c
along_counts checks source ds t (s ∷ ss) c = along_counts checks source ds (telling_past checks source ds t s) ss (past_counts checks source ds t s c)

-- each step tells what there is to be told of it
pub past_tells : (checks : Bool) (source : List ℕ) (ds : List Declaration) (t : Telling) (step : Step) → CountedAreTold t → so_far (telling_past checks source ds t step) ≡ so_far t ++ told_over checks source ds t.made (step ∷ [])
past_tells true source ds t (entering p) c = quiet_step true source ds t (entering p) c tt
past_tells true source ds t (opening p s) c = quiet_step true source ds t (opening p s) c tt
past_tells true source ds t (header_ending p s) c = quiet_step true source ds t (header_ending p s) c tt
past_tells true source ds t (closing p s) c = quiet_step true source ds t (closing p s) c tt
past_tells true source ds t (leaving p) c = leaving_step source ds t p
past_tells false source ds t step c =
    more_so_far t (walk.after ds t.made step) c (keeps_steps ds t.made (step ∷ []))
    ∙ ap (λ l. so_far t ++ l) (sym (append-nil (map conflict_diagnostic (noted_since t.made (walk.after ds t.made step)) ++ []) ∙ append-nil (map conflict_diagnostic (noted_since t.made (walk.after ds t.made step)))))

pub along_tells : (checks : Bool) (source : List ℕ) (ds : List Declaration) (t : Telling) (ss : List Step) → CountedAreTold t → so_far (telling_along checks source ds t ss) ≡ so_far t ++ told_over checks source ds t.made ss
along_tells checks source ds t [] c = sym (append-nil (so_far t))
along_tells checks source ds t (s ∷ ss) c =
    let past : Telling = telling_past checks source ds t s in
    along_tells checks source ds past ss (past_counts checks source ds t s c)
    ∙ ap (λ l. l ++ told_over checks source ds past.made ss) (past_tells checks source ds t s c)
    ∙ append_assoc (so_far t) (told_over checks source ds t.made (s ∷ [])) (told_over checks source ds past.made ss)
    ∙ ap (λ (w : WalkState). so_far t ++ (told_over checks source ds t.made (s ∷ []) ++ told_over checks source ds w ss)) (past_makes checks source ds t s)
    ∙ ap (λ l. so_far t ++ l) (sym (told-append checks source ds (s ∷ []) ss t.made))

-- steps that leave no node
one_untold : (step : Step) → IsQuiet step → AreUntold (step ∷ [])
one_untold (entering p) q true source ds t = refl
one_untold (opening p s) q true source ds t = refl
one_untold (header_ending p s) q true source ds t = refl
one_untold (closing p s) q true source ds t = refl
one_untold (leaving p) q true source ds t = absurd q
one_untold step q false source ds t = refl

two_untold : (xs ys : List Step) → AreUntold xs → AreUntold ys → AreUntold (xs ++ ys)
two_untold xs ys h k checks source ds t =
    along-append checks source ds t xs ys
    ∙ ap (λ (u : Telling). telling_along checks source ds u ys) (h checks source ds t)
    ∙ k checks source ds (making ds t xs)
    ∙ ap (λ (w : WalkState). record t { made = w }) (sym (after-append ds t.made xs ys))

none_untold : AreUntold []
none_untold checks source ds t = refl

if_untold : (b : Bool) (step : Step) → IsQuiet step → AreUntold (cond b (step ∷ []) [])
if_untold true step q = one_untold step q
if_untold false step q = none_untold

pub opening_untold : (p : Place) (r : Role) (own : Option OpenScope) (n : ℕ) → AreUntold (opening_at p r own n)
opening_untold p r (Some s) n = none_untold
opening_untold p r None n = if_untold (is_inside p.node.kind r) (opening p (opened_scope p n)) tt

pub ending_untold : (p : Place) (r : Role) (own : Option OpenScope) (after : Forest) → AreUntold (ending_after p r own after)
ending_untold p r None after = none_untold
ending_untold p r (Some s) after =
    two_untold (cond (is_in_header p.node.kind r && not (has_role (header_roles p.node.kind) after)) (header_ending p s ∷ []) [])
    (cond (is_inside p.node.kind r && not (any_inside p.node.kind after)) (closing p s ∷ []) [])
    (if_untold (is_in_header p.node.kind r && not (has_role (header_roles p.node.kind) after)) (header_ending p s) tt)
    (if_untold (is_inside p.node.kind r && not (any_inside p.node.kind after)) (closing p s) tt)

pub last_untold : (p : Place) (own : Option OpenScope) (n : ℕ) → AreUntold (opening_last p own n)
last_untold p (Some s) n = none_untold
last_untold p None n = by (opens p.node.kind)
  where
    by : (b : Bool) → AreUntold (cond b (opening p (opened_scope p n) ∷ closing p (opened_scope p n) ∷ []) [])
    by true = two_untold (opening p (opened_scope p n) ∷ []) (closing p (opened_scope p n) ∷ []) (one_untold (opening p (opened_scope p n)) tt) (one_untold (closing p (opened_scope p n)) tt)
    by false = none_untold

pub node_told : (checks : Bool) (source : List ℕ) (ds : List Declaration) (t : Telling) (p : Place) (n : ℕ) → telling_along checks source ds t (steps_of p n) ≡ telling_over checks source ds t p n
node_told checks source ds t p n =
    let below : List Step = steps_below p None n (on_entering p.node.kind p.cursor) p.node.children in
    ap (λ (u : Telling). telling_along checks source ds u (below ++ leaving p ∷ [])) (one_untold (entering p) tt checks source ds t)
    ∙ along-append checks source ds (record t { made = walk.after ds t.made (entering p) }) below (leaving p ∷ [])

-- one child of a place, and then the others
pub turn_told : (checks : Bool) (source : List ℕ) (ds : List Declaration) (t : Telling) (p : Place) (own : Option OpenScope) (n cursor : ℕ) (r : Role) (here : Node) (after : Forest)
    → telling_along checks source ds t (steps_below p own n cursor (tree r here.kind here.span here.text here.marks here.children here.node_id after))
    ≡ telling_along checks source ds
    (making ds (telling_over checks source ds (making ds t (opening_at p r own n)) (child_place p (scope_at p r own n) cursor r here) (next_at p r own n)) (ending_after p r (scope_at p r own n) after))
    (steps_below p (scope_at p r own n) (next_at p r own n + cond (opens here.kind) 1 0 + scopes_in here.children) (cursor_past p r cursor (child_place p (scope_at p r own n) cursor r here)) after)
turn_told checks source ds t p own n cursor r here after =
    let scope : Option OpenScope = scope_at p r own n in
    let child : Place = child_place p scope cursor r here in
    let before : List Step = opening_at p r own n in
    let mine : List Step = steps_of child (next_at p r own n) in
    let behind : List Step = ending_after p r scope after in
    let later : List Step = steps_below p scope (next_at p r own n + cond (opens here.kind) 1 0 + scopes_in here.children) (cursor_past p r cursor child) after in
    let opened : Telling = making ds t before in
    let over : Telling = telling_over checks source ds opened child (next_at p r own n) in
    let first : telling_along checks source ds t (before ++ mine) ≡ over =
    along-append checks source ds t before mine
    ∙ ap (λ (u : Telling). telling_along checks source ds u mine) (opening_untold p r own n checks source ds t)
    ∙ node_told checks source ds opened child (next_at p r own n) in
    along-append checks source ds t (before ++ mine ++ behind) later
    ∙ ap (λ (u : Telling). telling_along checks source ds u later)
    (along-append checks source ds t (before ++ mine) behind
    ∙ ap (λ (u : Telling). telling_along checks source ds u behind) first
    ∙ ending_untold p r scope after checks source ds over)
