-- The steps of a program are nested: scopes are numbered as they open, and a place stands in open scopes, each in the next.
use Rattle.std.proofs.Common.{◌≡◌, ℕ, zero, suc, ◌+◌, ◌<◌, ◌≤◌, List, [], ◌∷◌, ◌++◌, refl, sym, ap, subst, ◌∙◌, Option, Some, None, cond, Bool, true, false, ◌&&◌, not, length, arith}
use Rattle.std.specs.Prelude.{slice_get}
use Rattle.std.proofs.lemmas.List.{length-append, append_assoc, append-nil}
use Rattle.std.proofs.lemmas.Option.{slice_get_within}
use Rattle.std.proofs.lemmas.Bool.Decides.{eqb_tells}
use Rattle.semantic_tree.specs.Forest.{Forest, nothing, tree}
use Rattle.semantic_tree.specs.declared.node.Node.{Node}
use Rattle.semantic_kinds.specs.declared.kind.AstType.{AstType}
use Rattle.semantic_kinds.specs.declared.kind.AstType.TheVariants as kind
use Rattle.semantic_kinds.specs.declared.role.Role.{Role}
use Rattle.semantic_tree.specs.Views.{has_role}
use Rattle.semantic_model.specs.Place.{Place, OpenScope, outside}
use Rattle.semantic_model.specs.Inside.{opens, is_inside, any_inside, header_roles, is_in_header, is_parameter_decorator, scopes_in}
use Rattle.semantic_model.specs.ScopeKind.{opened_scope}
use Rattle.semantic_syntax.specs.Members.{contains}
use Rattle.semantic_syntax.proofs.Truth.{and_first}
use Rattle.semantic_model.specs.Step.{Step, entering, opening, header_ending, closing, leaving, steps_below, opening_at, ending_after, opening_last, scope_at, child_place, child_scopes}
use Rattle.semantic_model.proofs.steps.Turn.{Turn, turn_at}
use Rattle.semantic_model.proofs.steps.Opened.{opened_by_node, openings, none_after, next_opened}
use Rattle.semantic_model.proofs.lists.Members.{contains_first}
use Rattle.semantic_model.proofs.steps.TurnCases.{last_case}
use Rattle.semantic_model.specs.TablesOf.{numbers}

-- the scopes that are open after a step, innermost first
abbrev pub open_past : List ℕ → Step → List ℕ
open_past stack (opening p s) = s.number ∷ stack
open_past [] (closing p s) = []
open_past (c ∷ stack) (closing p s) = stack
open_past stack (entering p) = stack
open_past stack (header_ending p s) = stack
open_past stack (leaving p) = stack

abbrev pub open_after : List ℕ → List Step → List ℕ
open_after stack [] = stack
open_after stack (s ∷ more) = open_after (open_past stack s) more

-- of each scope that was opened, in order, the scopes around it
abbrev pub seen_past : List (List ℕ) → Step → List (List ℕ)
seen_past seen (opening p s) = seen ++ numbers p.chain ∷ []
seen_past seen (entering p) = seen
seen_past seen (header_ending p s) = seen
seen_past seen (closing p s) = seen
seen_past seen (leaving p) = seen

pub seen_longer : (seen : List (List ℕ)) (step : Step) → length seen ≤ length (seen_past seen step)
seen_longer seen (entering p) = omega arith
seen_longer seen (header_ending p s) = omega arith
seen_longer seen (closing p s) = omega arith
seen_longer seen (leaving p) = omega arith
seen_longer seen (opening p s) = omega (arith, length-append seen (numbers p.chain ∷ []))

abbrev pub seen_after : List (List ℕ) → List Step → List (List ℕ)
seen_after seen [] = seen
seen_after seen (s ∷ more) = seen_after (seen_past seen s) more

abbrev pub AreOpen : List ℕ → List OpenScope → Type 0
AreOpen stack [] = Unit {0}
AreOpen stack (s ∷ ss) = (contains stack s.number ≡ true) × AreOpen stack ss

abbrev pub AreLinked : List (List ℕ) → List OpenScope → Type 0
AreLinked seen [] = Unit {0}
AreLinked seen (s ∷ ss) = (slice_get seen s.number ≡ Some (numbers ss)) × AreLinked seen ss

abbrev pub Descends : ℕ → List OpenScope → Type 0
Descends n [] = Unit {0}
Descends n (s ∷ ss) = (s.number < n) × Descends s.number ss

-- the scopes of the chain are open, each stands in the next, and has a greater number
pub record IsChain (stack : List ℕ) (seen : List (List ℕ)) (chain : List OpenScope) : Type 0 where
  pub are_open : AreOpen stack chain
  pub are_linked : AreLinked seen chain
  pub descends : Descends (length seen) chain

-- the scope is the innermost open one
pub record IsInnermost (stack : List ℕ) (s : OpenScope) : Type 0 where
  pub around : List ℕ
  pub is : stack ≡ s.number ∷ around

abbrev pub IsNestedStep : List ℕ → List (List ℕ) → Step → Type 0
IsNestedStep stack seen (entering p) = IsChain stack seen p.chain
IsNestedStep stack seen (opening p s) = IsChain stack seen p.chain × (s ≡ opened_scope p (length seen))
IsNestedStep stack seen (header_ending p s) = IsInnermost stack s
IsNestedStep stack seen (closing p s) = IsInnermost stack s
IsNestedStep stack seen (leaving p) = Unit {0}

abbrev pub AreNested : List ℕ → List (List ℕ) → List Step → Type 0
AreNested stack seen [] = Unit {0}
AreNested stack seen (s ∷ more) = IsNestedStep stack seen s × AreNested (open_past stack s) (seen_past seen s) more

pub opens-append : (stack : List ℕ) (xs ys : List Step) → open_after stack (xs ++ ys) ≡ open_after (open_after stack xs) ys
opens-append stack [] ys = refl
opens-append stack (x ∷ xs) ys = opens-append (open_past stack x) xs ys

pub seen-append : (seen : List (List ℕ)) (xs ys : List Step) → seen_after seen (xs ++ ys) ≡ seen_after (seen_after seen xs) ys
seen-append seen [] ys = refl
seen-append seen (x ∷ xs) ys = seen-append (seen_past seen x) xs ys

pub nested-append : (stack : List ℕ) (seen : List (List ℕ)) (xs ys : List Step) → AreNested stack seen xs → AreNested (open_after stack xs) (seen_after seen xs) ys → AreNested stack seen (xs ++ ys)
nested-append stack seen [] ys h k = k
nested-append stack seen (x ∷ xs) ys h k = (h.0, nested-append (open_past stack x) (seen_past seen x) xs ys h.1 k)

-- what is opened is added at the end
pub record Extends (seen later : List (List ℕ)) : Type 0 where
  pub added : List (List ℕ)
  pub is : later ≡ seen ++ added

step_extends : (seen : List (List ℕ)) (s : Step) → Extends seen (seen_past seen s)
step_extends seen (opening p s) = record { added = numbers p.chain ∷ []; is = refl }
step_extends seen (entering p) = record { added = []; is = sym (append-nil seen) }
step_extends seen (header_ending p s) = record { added = []; is = sym (append-nil seen) }
step_extends seen (closing p s) = record { added = []; is = sym (append-nil seen) }
step_extends seen (leaving p) = record { added = []; is = sym (append-nil seen) }

then_extends : (a b c : List (List ℕ)) → Extends a b → Extends b c → Extends a c
then_extends a b c h k = record { added = h.added ++ k.added; is = k.is ∙ ap (λ l. l ++ k.added) h.is ∙ append_assoc a h.added k.added }

pub seen_extends : (seen : List (List ℕ)) (xs : List Step) → Extends seen (seen_after seen xs)
seen_extends seen [] = record { added = []; is = sym (append-nil seen) }
seen_extends seen (x ∷ xs) = then_extends seen (seen_past seen x) (seen_after (seen_past seen x) xs) (step_extends seen x) (seen_extends (seen_past seen x) xs)

pub seen_length : (seen : List (List ℕ)) (xs : List Step) → length (seen_after seen xs) ≡ length seen + openings xs
seen_length seen [] = omega arith
seen_length seen (opening p s ∷ xs) = omega (arith, seen_length (seen ++ numbers p.chain ∷ []) xs, length-append seen (numbers p.chain ∷ []))
seen_length seen (entering p ∷ xs) = seen_length seen xs
seen_length seen (header_ending p s ∷ xs) = seen_length seen xs
seen_length seen (closing p s ∷ xs) = seen_length seen xs
seen_length seen (leaving p ∷ xs) = seen_length seen xs

pub get_left : (xs ys : List (List ℕ)) (i : ℕ) (x : List ℕ) → slice_get xs i ≡ Some x → slice_get (xs ++ ys) i ≡ Some x
get_left [] ys i x h = absurd cc
get_left (z ∷ xs) ys zero x h = h
get_left (z ∷ xs) ys (suc i) x h = get_left xs ys i x h

pub get_more : (seen later : List (List ℕ)) (i : ℕ) (x : List ℕ) → Extends seen later → slice_get seen i ≡ Some x → slice_get later i ≡ Some x
get_more seen later i x e h = subst (λ l. slice_get l i ≡ Some x) (sym e.is) (get_left seen e.added i x h)

pub linked_more : (seen later : List (List ℕ)) (chain : List OpenScope) → Extends seen later → AreLinked seen chain → AreLinked later chain
linked_more seen later [] e h = tt
linked_more seen later (s ∷ ss) e h = (get_more seen later s.number (numbers ss) e h.0, linked_more seen later ss e h.1)

pub descends_more : (n m : ℕ) (chain : List OpenScope) → n ≤ m → Descends n chain → Descends m chain
descends_more n m [] l h = tt
descends_more n m (s ∷ ss) l h = (omega (arith, h.0), h.1)

extends_longer : (seen later : List (List ℕ)) → Extends seen later → length seen ≤ length later
extends_longer seen later e = omega (arith, ap length e.is, length-append seen e.added)

pub contains_more : (c : ℕ) (cs : List ℕ) (x : ℕ) → contains cs x ≡ true → contains (c ∷ cs) x ≡ true
contains_more c cs x h = grind (arith, eqb_tells c x)

pub open_more : (c : ℕ) (stack : List ℕ) (chain : List OpenScope) → AreOpen stack chain → AreOpen (c ∷ stack) chain
open_more c stack [] h = tt
open_more c stack (s ∷ ss) h = (contains_more c stack s.number h.0, open_more c stack ss h.1)

pub chain_more : (stack : List ℕ) (seen later : List (List ℕ)) (chain : List OpenScope) → Extends seen later → IsChain stack seen chain → IsChain stack later chain
chain_more stack seen later chain e h = record {
  are_open = h.are_open;
  are_linked = linked_more seen later chain e h.are_linked;
  descends = descends_more (length seen) (length later) chain (extends_longer seen later e) h.descends;
}

chain_deeper : (b : Bool) (c : ℕ) (stack : List ℕ) (seen : List (List ℕ)) (chain : List OpenScope) → IsChain stack seen chain → IsChain (cond b (c ∷ stack) stack) seen chain
chain_deeper true c stack seen chain h = record { are_open = open_more c stack chain h.are_open; are_linked = h.are_linked; descends = h.descends }
chain_deeper false c stack seen chain h = h

pub outside_chain : (stack : List ℕ) (seen : List (List ℕ)) (chain : List OpenScope) → IsChain stack seen chain → IsChain stack seen (outside chain)
outside_chain stack seen [] h = h
outside_chain stack seen (s ∷ ss) h = record { are_open = h.are_open.1; are_linked = h.are_linked.1; descends = descends_more s.number (length seen) ss (omega (arith, h.descends.0)) h.descends.1 }

-- what is known of the own scope of a place: it stands in the place's chain
pub record IsOwn (seen : List (List ℕ)) (p : Place) (s : OpenScope) : Type 0 where
  pub linked : slice_get seen s.number ≡ Some (numbers p.chain)
  pub above : Descends s.number p.chain

abbrev pub IsOwnOf : List (List ℕ) → Place → Option OpenScope → Type 0
IsOwnOf seen p None = Unit {0}
IsOwnOf seen p (Some s) = IsOwn seen p s

own_more : (seen later : List (List ℕ)) (p : Place) (own : Option OpenScope) → Extends seen later → IsOwnOf seen p own → IsOwnOf later p own
own_more seen later p None e h = tt
own_more seen later p (Some s) e h = record { linked = get_more seen later s.number (numbers p.chain) e h.linked; above = h.above }

-- the own scope is open as long as children inside are left
abbrev pub open_with : Place → Option OpenScope → Forest → List ℕ → List ℕ
open_with p None f stack = stack
open_with p (Some s) f stack = cond (any_inside p.node.kind f) (s.number ∷ stack) stack

-- only what stands inside is in the header
pub header_inside : (k : AstType) (r : Role) → is_in_header k r ≡ true → is_inside k r ≡ true
header_inside kind.Function r h = refl
header_inside kind.ArrowFunctionExpression r h = refl
header_inside kind.CatchClause r h = refl
header_inside _ r h = absurd cc

-- steps that are nested, and lead from the open scopes to others
pub record Leads (stack later : List ℕ) (seen : List (List ℕ)) (xs : List Step) : Type 0 where
  pub nested : AreNested stack seen xs
  pub open_is : open_after stack xs ≡ later

pub get_end : (seen : List (List ℕ)) (x : List ℕ) (n : ℕ) → length seen ≡ n → slice_get (seen ++ x ∷ []) n ≡ Some x
get_end [] x zero e = refl
get_end [] x (suc n) e = absurd (omega arith)
get_end (y ∷ seen) x zero e = absurd (omega arith)
get_end (y ∷ seen) x (suc n) e = get_end seen x n (omega arith)

at_opening : (p : Place) (r : Role) (own : Option OpenScope) (n : ℕ) (f : Forest) (stack : List ℕ) (seen : List (List ℕ)) → length seen ≡ n → (is_inside p.node.kind r ≡ true → any_inside p.node.kind f ≡ true) → IsChain stack seen p.chain
    → Leads (open_with p own f stack) (open_with p (scope_at p r own n) f stack) seen (opening_at p r own n)
at_opening p r (Some s) n f stack seen e i h = record { nested = tt; open_is = refl }
at_opening p r None n f stack seen e i h = go (is_inside p.node.kind r) i
  where
    go : (b : Bool) → (b ≡ true → any_inside p.node.kind f ≡ true) → Leads stack (open_with p (cond b (Some (opened_scope p n)) None) f stack) seen (cond b (opening p (opened_scope p n) ∷ []) [])
    go true q = record { nested = ((h, ap (opened_scope p) (sym e)), tt); open_is = rw (q refl) refl }
    go false q = record { nested = tt; open_is = refl }

own_opened : (p : Place) (r : Role) (own : Option OpenScope) (n : ℕ) (stack : List ℕ) (seen : List (List ℕ)) → length seen ≡ n → IsChain stack seen p.chain → IsOwnOf seen p own → IsOwnOf (seen_after seen (opening_at p r own n)) p (scope_at p r own n)
own_opened p r (Some s) n stack seen e h o = o
own_opened p r None n stack seen e h o = go (is_inside p.node.kind r)
  where
    go : (b : Bool) → IsOwnOf (seen_after seen (cond b (opening p (opened_scope p n) ∷ []) [])) p (cond b (Some (opened_scope p n)) None)
    go true = record { linked = get_end seen (numbers p.chain) n e; above = subst (λ m. Descends m p.chain) e h.descends }
    go false = tt

-- a child in its place
pub child_chain : (p : Place) (own : Option OpenScope) (cursor : ℕ) (r : Role) (node : Node) (after : Forest) (stack : List ℕ) (seen : List (List ℕ)) → IsChain stack seen p.chain → IsOwnOf seen p own
    → IsChain (open_with p own (tree r node.kind node.span node.text node.marks node.children node.node_id after) stack) seen (child_place p own cursor r node).chain
child_chain p own cursor r node after stack seen h o = go (is_parameter_decorator p.node.kind r)
  where
    deeper : (c : Option OpenScope) (chain : List OpenScope) → IsChain stack seen chain → IsChain (open_with p c (tree r node.kind node.span node.text node.marks node.children node.node_id after) stack) seen chain
    deeper None chain k = k
    deeper (Some s) chain k = chain_deeper (any_inside p.node.kind (tree r node.kind node.span node.text node.marks node.children node.node_id after)) s.number stack seen chain k

    within : (c : Option OpenScope) → IsOwnOf seen p c → IsChain (open_with p c (tree r node.kind node.span node.text node.marks node.children node.node_id after) stack) seen (child_scopes p r c)
    within None k = h
    within (Some s) k = by (is_inside p.node.kind r)
      where
        by : (b : Bool) → IsChain (cond (cond b true (any_inside p.node.kind after)) (s.number ∷ stack) stack) seen (cond b (record s { in_header = is_in_header p.node.kind r } ∷ p.chain) p.chain)
        by true = record {
          are_open = (contains_first s.number stack, open_more s.number stack p.chain h.are_open);
          are_linked = (k.linked, h.are_linked);
          descends = (slice_get_within seen s.number (numbers p.chain) k.linked, k.above);
        }
        by false = chain_deeper (any_inside p.node.kind after) s.number stack seen p.chain h

    go : (b : Bool) → IsChain (open_with p own (tree r node.kind node.span node.text node.marks node.children node.node_id after) stack) seen (cond b (outside p.chain) (child_scopes p r own))
    go true = deeper own (outside p.chain) (outside_chain stack seen p.chain h)
    go false = within own o

at_ending : (p : Place) (r : Role) (own : Option OpenScope) (before after : Forest) (stack : List ℕ) (seen : List (List ℕ)) → any_inside p.node.kind before ≡ cond (is_inside p.node.kind r) true (any_inside p.node.kind after)
    → Leads (open_with p own before stack) (open_with p own after stack) seen (ending_after p r own after)
at_ending p r None before after stack seen e = record { nested = tt; open_is = refl }
at_ending p r (Some s) before after stack seen e =
    subst (λ b. Leads (cond b (s.number ∷ stack) stack) (open_with p (Some s) after stack) seen (ending_after p r (Some s) after)) (sym e)
    (go (is_in_header p.node.kind r && not (has_role (header_roles p.node.kind) after)) (is_inside p.node.kind r) (any_inside p.node.kind after)
    (λ h. header_inside p.node.kind r (and_first (is_in_header p.node.kind r) (not (has_role (header_roles p.node.kind) after)) h)))
  where
    go : (a i t : Bool) → (a ≡ true → i ≡ true)
        → Leads (cond (cond i true t) (s.number ∷ stack) stack) (cond t (s.number ∷ stack) stack) seen (cond a (header_ending p s ∷ []) [] ++ cond (i && not t) (closing p s ∷ []) [])
    go true true true h = record { nested = (record { around = stack; is = refl }, tt); open_is = refl }
    go true true false h = record { nested = (record { around = stack; is = refl }, (record { around = stack; is = refl }, tt)); open_is = refl }
    go true false t h = absurd (let q : false ≡ true = h refl in absurd cc)
    go false true true h = record { nested = tt; open_is = refl }
    go false true false h = record { nested = (record { around = stack; is = refl }, tt); open_is = refl }
    go false false t h = record { nested = tt; open_is = refl }

at_last : (p : Place) (own : Option OpenScope) (n : ℕ) (stack : List ℕ) (seen : List (List ℕ)) → length seen ≡ n → IsChain stack seen p.chain → Leads stack stack seen (opening_last p own n)
at_last p own n stack seen e h =
    last_case (Leads stack stack seen) p own n (record { nested = tt; open_is = refl }) (record { nested = ((h, ap (opened_scope p) (sym e)), (record { around = stack; is = refl }, tt)); open_is = refl })

pub leads-append : (a b c : List ℕ) (seen : List (List ℕ)) (xs ys : List Step) → Leads a b seen xs → Leads b c (seen_after seen xs) ys → Leads a c seen (xs ++ ys)
leads-append a b c seen xs ys h k = record {
  nested = nested-append a seen xs ys h.nested (subst (λ stack. AreNested stack (seen_after seen xs) ys) (sym h.open_is) k.nested);
  open_is = opens-append a xs ys ∙ ap (λ stack. open_after stack ys) h.open_is ∙ k.open_is;
}

none_with : (p : Place) (own : Option OpenScope) (stack : List ℕ) → open_with p own nothing stack ≡ stack
none_with p None stack = refl
none_with p (Some s) stack = refl

-- what is left of a place is nested, and leaves the scopes around it open
pub nested_below : (p : Place) (own : Option OpenScope) (n cursor : ℕ) (f : Forest) (stack : List ℕ) (seen : List (List ℕ)) → length seen ≡ n → IsChain stack seen p.chain → IsOwnOf seen p own
    → Leads (open_with p own f stack) stack seen (steps_below p own n cursor f)
nested_below p own n cursor nothing stack seen e h o =
    subst (λ l. Leads l stack seen (opening_last p own n)) (sym (none_with p own stack)) (at_last p own n stack seen e h)
nested_below p own n cursor (tree r k span text marks below id after) stack seen e h o =
    let node : Node = record { kind = k; span = span; text = text; marks = marks; children = below; node_id = id } in
    let turn : Turn = turn_at p own n cursor r node after in
    let here : Forest = tree r k span text marks below id after in
    let then_open : List ℕ = open_with p turn.scope here stack in
    let seen_x : List (List ℕ) = seen_after seen turn.before in
    let seen_z : List (List ℕ) = seen_after seen_x turn.whole in
    let seen_e : List (List ℕ) = seen_after seen_z turn.behind in
    let count_child : openings turn.whole ≡ cond (opens k) 1 0 + scopes_in below = opened_by_node turn.child turn.next in
    let length_x : length seen_x ≡ turn.next = omega (arith, seen_length seen turn.before, next_opened p r own n, e) in
    let length_e : length seen_e ≡ turn.rest = omega (arith, seen_length seen_z turn.behind, seen_length seen_x turn.whole, none_after p r turn.scope after, count_child, length_x) in
    let own_x : IsOwnOf seen_x p turn.scope = own_opened p r own n stack seen e h o in
    let chain_x : IsChain stack seen_x p.chain = chain_more stack seen seen_x p.chain (seen_extends seen turn.before) h in
    let chain_child : IsChain then_open seen_x turn.child.chain = child_chain p turn.scope cursor r node after stack seen_x chain_x own_x in
    let first : Leads (open_with p own here stack) then_open seen turn.before = at_opening p r own n here stack seen e (λ q. rw q refl) h in
    let inside : Leads then_open then_open seen_x turn.below = nested_below turn.child None turn.next turn.inner below then_open seen_x length_x chain_child tt in
    let leaves : Leads then_open then_open (seen_after seen_x turn.below) (leaving turn.child ∷ []) = record { nested = (tt, tt); open_is = refl } in
    let both : Leads then_open then_open seen_x (turn.below ++ leaving turn.child ∷ []) = leads-append then_open then_open then_open seen_x turn.below (leaving turn.child ∷ []) inside leaves in
    let second : Leads then_open then_open seen_x turn.whole = record { nested = (chain_child, both.nested); open_is = both.open_is } in
    let third : Leads then_open (open_with p turn.scope after stack) seen_z turn.behind = at_ending p r turn.scope here after stack seen_z refl in
    let extends : Extends seen_x seen_e = then_extends seen_x seen_z seen_e (seen_extends seen_x turn.whole) (seen_extends seen_z turn.behind) in
    let fourth : Leads (open_with p turn.scope after stack) stack seen_e turn.others = nested_below p turn.scope turn.rest turn.past after stack seen_e length_e (chain_more stack seen_x seen_e p.chain extends chain_x) (own_more seen_x seen_e p turn.scope extends own_x) in
    let two : Leads (open_with p own here stack) then_open seen (turn.before ++ turn.whole) = leads-append (open_with p own here stack) then_open then_open seen turn.before turn.whole first second in
    let three : Leads (open_with p own here stack) (open_with p turn.scope after stack) seen (turn.before ++ turn.whole ++ turn.behind) =
    leads-append (open_with p own here stack) then_open (open_with p turn.scope after stack) seen (turn.before ++ turn.whole) turn.behind two (subst (λ l. Leads then_open (open_with p turn.scope after stack) l turn.behind) (sym (seen-append seen turn.before turn.whole)) third) in
    leads-append (open_with p own here stack) (open_with p turn.scope after stack) stack seen (turn.before ++ turn.whole ++ turn.behind) turn.others three
    (subst (λ l. Leads (open_with p turn.scope after stack) stack l turn.others) (sym (seen-append seen (turn.before ++ turn.whole) turn.behind ∙ ap (λ l. seen_after l turn.behind) (seen-append seen turn.before turn.whole))) fourth)
