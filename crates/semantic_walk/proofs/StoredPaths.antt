-- Where a walk that enters and leaves nodes stands at a node, its store has the path of the node's place.
use Rattle.std.proofs.Common.{◌≡◌, ℕ, ◌<◌, List, [], ◌∷◌, ◌++◌, Option, Some, None, Bool, true, false, ◌&&◌, not, cond, length, drop, refl, sym, ap, subst, ◌∙◌, arith}
use Rattle.semantic_kinds.specs.declared.role.Role.{Role}
use Rattle.semantic_tree.specs.Forest.{Forest, nothing, tree}
use Rattle.semantic_tree.specs.Tree.{Tree}
use Rattle.semantic_tree.specs.declared.node.Node.{Node}
use Rattle.semantic_model.specs.Cursor.{on_entering}
use Rattle.semantic_model.specs.Inside.{opens, is_inside, any_inside, header_roles, is_in_header}
use Rattle.semantic_tree.specs.Views.{has_role}
use Rattle.semantic_model.specs.Place.{Place, OpenScope, scope_of_place}
use Rattle.semantic_model.specs.ScopeKind.{opened_scope}
use Rattle.semantic_model.specs.Step.{Step, entering, opening, header_ending, closing, leaving, steps_below, opening_at, ending_after, opening_last, scope_at, next_at, child_place, root_place, steps}
use Rattle.node_store.specs.Store.{path_to, after_entering}
use Rattle.node_store.specs.declared.store.AstNodeStore.{AstNodeStore}
use Rattle.node_store.proofs.Following.{IsFollowing, enters_path, enters_following, leaves_path, leaves_following}
use Rattle.semantic_walk.specs.Stored.{empty_store, stored_past, stored_after}
use Rattle.semantic_walk.proofs.Listing.{first_steps, later_steps}

-- the nodes that steps have entered and not left, inner first
abbrev path_past : List Node → Step → List Node
path_past path (entering p) = p.node ∷ path
path_past path (leaving p) = drop 1 path
path_past path _ = path

abbrev path_after : List Node → List Step → List Node
path_after path [] = path
path_after path (step ∷ more) = path_after (path_past path step) more

-- at a node they are those above it; and when a node is left that is not the root, it and those above it
abbrev StandsAt : List Node → Step → Type 0
StandsAt path (entering p) = path ≡ p.path
StandsAt path (leaving p) = 1 < length path
StandsAt path _ = Unit {0}

abbrev AllStand : List Node → List Step → Type 0
AllStand path [] = Unit {0}
AllStand path (step ∷ more) = StandsAt path step × AllStand (path_past path step) more

-- steps that come back to where they began
record ComesBack (path : List Node) (ss : List Step) : Type 0 where
  stand : AllStand path ss
  back : path_after path ss ≡ path

stands-append : (path : List Node) (xs ys : List Step) → AllStand path xs → AllStand (path_after path xs) ys → AllStand path (xs ++ ys)
stands-append path [] ys h k = k
stands-append path (x ∷ xs) ys h k = (h.0, stands-append (path_past path x) xs ys h.1 k)

after-append : (path : List Node) (xs ys : List Step) → path_after path (xs ++ ys) ≡ path_after (path_after path xs) ys
after-append path [] ys = refl
after-append path (x ∷ xs) ys = after-append (path_past path x) xs ys

back-append : (path : List Node) (xs ys : List Step) → ComesBack path xs → ComesBack path ys → ComesBack path (xs ++ ys)
back-append path xs ys h k = record {
  stand = stands-append path xs ys h.stand (subst (λ (l : List Node). AllStand l ys) (sym h.back) k.stand);
  back = after-append path xs ys ∙ ap (λ (l : List Node). path_after l ys) h.back ∙ k.back;
}

back_opening : (path : List Node) (p : Place) (r : Role) (own : Option OpenScope) (n : ℕ) → ComesBack path (opening_at p r own n)
back_opening path p r (Some s) n = record { stand = tt; back = refl }
back_opening path p r None n = by (is_inside p.node.kind r)
  where
    by : (b : Bool) → ComesBack path (cond b (opening p (opened_scope p n) ∷ []) [])
    by true = record { stand = (tt, tt); back = refl }
    by false = record { stand = tt; back = refl }

back_ending : (path : List Node) (p : Place) (r : Role) (own : Option OpenScope) (after : Forest) → ComesBack path (ending_after p r own after)
back_ending path p r None after = record { stand = tt; back = refl }
back_ending path p r (Some s) after = by (is_in_header p.node.kind r && not (has_role (header_roles p.node.kind) after)) (is_inside p.node.kind r && not (any_inside p.node.kind after))
  where
    by : (a b : Bool) → ComesBack path (cond a (header_ending p s ∷ []) [] ++ cond b (closing p s ∷ []) [])
    by true true = record { stand = (tt, (tt, tt)); back = refl }
    by true false = record { stand = (tt, tt); back = refl }
    by false true = record { stand = (tt, tt); back = refl }
    by false false = record { stand = tt; back = refl }

back_last : (path : List Node) (p : Place) (own : Option OpenScope) (n : ℕ) → ComesBack path (opening_last p own n)
back_last path p (Some s) n = record { stand = tt; back = refl }
back_last path p None n = by (opens p.node.kind)
  where
    by : (b : Bool) → ComesBack path (cond b (opening p (opened_scope p n) ∷ closing p (opened_scope p n) ∷ []) [])
    by true = record { stand = (tt, (tt, tt)); back = refl }
    by false = record { stand = tt; back = refl }

-- a node below another one is entered, and left once all below it is walked
back_over : (p : Place) (inner : List Step) (parent : Node) (above : List Node) → p.path ≡ parent ∷ above → ComesBack (p.node ∷ p.path) inner → ComesBack p.path (entering p ∷ (inner ++ leaving p ∷ []))
back_over p inner parent above e h =
    let long : 1 < length (p.node ∷ p.path) = omega (arith, ap (λ (l : List Node). length l) e) in
    record {
      stand = (refl, stands-append (p.node ∷ p.path) inner (leaving p ∷ []) h.stand (subst (λ (l : List Node). 1 < length l) (sym h.back) long, tt));
      back = after-append (p.node ∷ p.path) inner (leaving p ∷ []) ∙ ap (λ (l : List Node). drop 1 l) h.back;
    }

back_below : (p : Place) (own : Option OpenScope) (n cursor : ℕ) (f : Forest) → ComesBack (p.node ∷ p.path) (steps_below p own n cursor f)
back_below p own n cursor nothing = back_last (p.node ∷ p.path) p own n
back_below p own n cursor (tree r k span text marks below id after) =
    let node : Node = record { kind = k; span = span; text = text; marks = marks; children = below; node_id = id } in
    let child : Place = child_place p (scope_at p r own n) cursor r node in
    let path : List Node = p.node ∷ p.path in
    let inner : List Step = first_steps p own n cursor (r, node) after in
    let later : List Step = later_steps p own n cursor (r, node) after in
    let over : ComesBack path (entering child ∷ (inner ++ leaving child ∷ [])) = back_over child inner p.node p.path refl (back_below child None (next_at p r own n) (on_entering k child.cursor) below) in
    back-append path (opening_at p r own n ++ (entering child ∷ (inner ++ leaving child ∷ [])) ++ ending_after p r (scope_at p r own n) after) later
    (back-append path (opening_at p r own n ++ (entering child ∷ (inner ++ leaving child ∷ []))) (ending_after p r (scope_at p r own n) after)
    (back-append path (opening_at p r own n) (entering child ∷ (inner ++ leaving child ∷ [])) (back_opening path p r own n) over)
    (back_ending path p r (scope_at p r own n) after))
    (back_below p (scope_at p r own n) _ _ after)

-- a store follows

follows : (s : AstNodeStore) (ss : List Step) → IsFollowing s → AllStand (path_to s) ss → IsFollowing (stored_after s ss) × (path_to (stored_after s ss) ≡ path_after (path_to s) ss)
follows s [] h k = (h, refl)
follows s (step ∷ more) h k =
    let next : IsFollowing (stored_past s step) = one step k.0 in
    let path : path_to (stored_past s step) ≡ path_past (path_to s) step = turn step k.0 in
    let rest = follows (stored_past s step) more next (subst (λ (l : List Node). AllStand l more) (sym path) k.1) in
    (rest.0, rest.1 ∙ ap (λ (l : List Node). path_after l more) path)
  where
    one : (step : Step) → StandsAt (path_to s) step → IsFollowing (stored_past s step)
    one (entering p) stands = enters_following s p.node (scope_of_place p) h
    one (leaving p) stands = leaves_following s h
    one (opening p c) stands = h
    one (header_ending p c) stands = h
    one (closing p c) stands = h

    turn : (step : Step) → StandsAt (path_to s) step → path_to (stored_past s step) ≡ path_past (path_to s) step
    turn (entering p) stands = enters_path s p.node (scope_of_place p) h
    turn (leaving p) stands = leaves_path s h stands
    turn (opening p c) stands = refl
    turn (header_ending p c) stands = refl
    turn (closing p c) stands = refl

-- what comes before a node that is entered doesn't leave the root, which is left last
record Parted (xs done : List Step) (p : Place) : Type 0 where
  later : List Step
  is : xs ≡ done ++ entering p ∷ later

abbrev rest_of : List Step → List Step
rest_of [] = []
rest_of (x ∷ xs) = xs

parted : (xs : List Step) (last : Place) (done more : List Step) (p : Place) → xs ++ leaving last ∷ [] ≡ done ++ entering p ∷ more → Parted xs done p
parted [] last [] more p e = absurd cc
parted [] last (d ∷ []) more p e = absurd cc
parted [] last (d ∷ c ∷ done) more p e = absurd cc
parted (x ∷ xs) last [] more p e = record { later = xs; is = (let same : x ≡ entering p = cc in ap (λ (y : Step). y ∷ xs) same) }
parted (x ∷ xs) last (d ∷ done) more p e =
    let same : x ≡ d = cc in
    let h : Parted xs done p = parted xs last done more p (ap rest_of e) in
    record { later = h.later; is = (λ i. same i ∷ h.is i) }

-- up to a node, where all stand
first_stand : (path : List Node) (xs ys : List Step) → AllStand path (xs ++ ys) → AllStand path xs × AllStand (path_after path xs) ys
first_stand path [] ys h = (tt, h)
first_stand path (x ∷ xs) ys h = let rest = first_stand (path_past path x) xs ys h.1 in ((h.0, rest.0), rest.1)

begins : (keeps : Bool) → IsFollowing (empty_store keeps) × (path_to (empty_store keeps) ≡ [])
begins true = (record { stands = (omega arith, refl); listed = record { with_parents = refl; before = λ n l. omega (arith, l) } }, refl)
begins false = (record { stands = omega arith; listed = tt }, refl)

stored_last : (s : AstNodeStore) (done : List Step) (p : Place) → stored_after s (done ++ entering p ∷ []) ≡ after_entering (stored_after s done) p.node (scope_of_place p)
stored_last s [] p = refl
stored_last s (d ∷ done) p = stored_last (stored_past s d) done p

-- so a store of either kind has the path of a place once its node is entered
pub stored_path : (program : Tree) (keeps : Bool) (done more : List Step) (p : Place) → steps program ≡ done ++ entering p ∷ more → path_to (stored_after (empty_store keeps) (done ++ entering p ∷ [])) ≡ p.node ∷ p.path
stored_path program keeps done more p split =
    let root : Place = root_place program in
    let below : List Step = steps_below root None 0 (on_entering program.root.kind 0) program.root.children in
    let part : Parted (entering root ∷ below) done p = parted (entering root ∷ below) root done more p split in
    let all : AllStand [] (entering root ∷ below) = (refl, (back_below root None 0 (on_entering program.root.kind 0) program.root.children).stand) in
    let here = first_stand [] done (entering p ∷ part.later) (subst (AllStand []) part.is all) in
    let s : AstNodeStore = empty_store keeps in
    let start = begins keeps in
    let followed = follows s done start.0 (subst (λ (l : List Node). AllStand l done) (sym start.1) here.0) in
    ap path_to (stored_last s done p)
    ∙ enters_path (stored_after s done) p.node (scope_of_place p) followed.0
    ∙ ap (λ (l : List Node). p.node ∷ l) (followed.1 ∙ ap (λ (l : List Node). path_after l done) start.1 ∙ here.1.0)
