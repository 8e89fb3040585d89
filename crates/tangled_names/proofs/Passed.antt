-- What the pass over a tree notes is what the definitions take from the steps of the walk.
use Rattle.std.proofs.Common.{◌≡◌, ℕ, List, [], ◌∷◌, ◌++◌, Bool, true, false, ◌&&◌, not, cond, Option, None, Some, refl, sym, ap, ◌∙◌, append_assoc, append-nil}
use Rattle.semantic_kinds.specs.declared.role.Role.{Role}
use Rattle.semantic_syntax.specs.declared.source_type.SourceType.{SourceType}
use Rattle.semantic_tree.specs.Forest.{Forest, nothing, tree}
use Rattle.semantic_tree.specs.Tree.{Tree}
use Rattle.semantic_tree.specs.declared.node.Node.{Node}
use Rattle.semantic_tree.specs.Views.{has_role}
use Rattle.semantic_model.specs.Cursor.{on_entering}
use Rattle.semantic_model.specs.Inside.{opens, is_inside, any_inside, header_roles, is_in_header}
use Rattle.semantic_model.specs.Place.{Place, OpenScope}
use Rattle.semantic_model.specs.ScopeKind.{opened_scope}
use Rattle.semantic_model.specs.Step.{Step, entering, opening, leaving, header_ending, closing, opening_at, ending_after, opening_last, steps_below, root_place, steps}
use Rattle.semantic_model.proofs.steps.Turn.{Turn, turn_at}
use Rattle.tangle_model.specs.Mention.{Mention, noted_by, mentions_by, mentions}
use Rattle.tangle_model.specs.Surroundings.{around_under}
use Rattle.tangled_names.specs.Gathered.{mentions_below, mentions_from}

module _ (s : SourceType) where
  -- what is noted at the steps of a walk, after what was noted before
  abbrev noted_all : List Mention → List Step → List Mention
  noted_all ms [] = ms
  noted_all ms (entering p ∷ more) = noted_all (ms ++ noted_by p.node.kind (around_under s p.path) p.node) more
  noted_all ms (opening p o ∷ more) = noted_all ms more
  noted_all ms (header_ending p o ∷ more) = noted_all ms more
  noted_all ms (closing p o ∷ more) = noted_all ms more
  noted_all ms (leaving p ∷ more) = noted_all ms more

  all_append : (ms : List Mention) (xs ys : List Step) → noted_all ms (xs ++ ys) ≡ noted_all (noted_all ms xs) ys
  all_append ms [] ys = refl
  all_append ms (entering p ∷ xs) ys = all_append (ms ++ noted_by p.node.kind (around_under s p.path) p.node) xs ys
  all_append ms (opening p o ∷ xs) ys = all_append ms xs ys
  all_append ms (header_ending p o ∷ xs) ys = all_append ms xs ys
  all_append ms (closing p o ∷ xs) ys = all_append ms xs ys
  all_append ms (leaving p ∷ xs) ys = all_append ms xs ys

  opens_quietly : (p : Place) (r : Role) (own : Option OpenScope) (n : ℕ) (ms : List Mention) → noted_all ms (opening_at p r own n) ≡ ms
  opens_quietly p r (Some o) n ms = refl
  opens_quietly p r None n ms = by (is_inside p.node.kind r)
    where
      by : (c : Bool) → noted_all ms (cond c (opening p (opened_scope p n) ∷ []) []) ≡ ms
      by true = refl
      by false = refl

  ends_quietly : (p : Place) (r : Role) (own : Option OpenScope) (after : Forest) (ms : List Mention) → noted_all ms (ending_after p r own after) ≡ ms
  ends_quietly p r None after ms = refl
  ends_quietly p r (Some o) after ms =
      by (is_in_header p.node.kind r && not (has_role (header_roles p.node.kind) after)) (is_inside p.node.kind r && not (any_inside p.node.kind after))
    where
      by : (c d : Bool) → noted_all ms (cond c (header_ending p o ∷ []) [] ++ cond d (closing p o ∷ []) []) ≡ ms
      by true true = refl
      by true false = refl
      by false true = refl
      by false false = refl

  last_quietly : (p : Place) (own : Option OpenScope) (n : ℕ) (ms : List Mention) → noted_all ms (opening_last p own n) ≡ ms
  last_quietly p (Some o) n ms = refl
  last_quietly p None n ms = by (opens p.node.kind)
    where
      by : (c : Bool) → noted_all ms (cond c (opening p (opened_scope p n) ∷ closing p (opened_scope p n) ∷ []) []) ≡ ms
      by true = refl
      by false = refl

  -- a child, and then the others
  turn : (ms : List Mention) (before inner behind later : List Step) → ((ms : List Mention) → noted_all ms before ≡ ms) → ((ms : List Mention) → noted_all ms behind ≡ ms)
      → noted_all ms (before ++ inner ++ behind ++ later) ≡ noted_all (noted_all ms inner) later
  turn ms before inner behind later quiet still =
      all_append ms (before ++ inner ++ behind) later
      ∙ ap (λ x. noted_all x later)
      (all_append ms (before ++ inner) behind
      ∙ still (noted_all ms (before ++ inner))
      ∙ all_append ms before inner
      ∙ ap (λ x. noted_all x inner) (quiet ms))

  -- the steps below a place
  below : (f : Forest) (p : Place) (own : Option OpenScope) (n cursor : ℕ) (ms : List Mention)
      → noted_all ms (steps_below p own n cursor f) ≡ mentions_below (around_under s (p.node ∷ p.path)) f ms
  below nothing p own n cursor ms = last_quietly p own n ms
  below (tree r k span text marks children id after) p own n cursor ms =
      let here : Node = record { kind = k; span = span; text = text; marks = marks; children = children; node_id = id } in
      let parts : Turn = turn_at p own n cursor r here after in
      let noted : List Mention = ms ++ noted_by k (around_under s (p.node ∷ p.path)) here in
      let deeper : List Mention = mentions_below (around_under s (here ∷ p.node ∷ p.path)) children noted in
      turn ms parts.before parts.whole parts.behind parts.others (opens_quietly p r own n) (ends_quietly p r parts.scope after)
      ∙ ap (λ x. noted_all x parts.others)
      (all_append noted parts.below (leaving parts.child ∷ [])
      ∙ below children parts.child None parts.next parts.inner noted)
      ∙ below after p parts.scope parts.rest parts.past deeper

  -- the steps of a program
  whole : (p : Tree) (ms : List Mention) → noted_all ms (steps p) ≡ mentions_from (around_under s []) p.root ms
  whole p ms =
      let root : Place = root_place p in
      let noted : List Mention = ms ++ noted_by p.root.kind (around_under s []) p.root in
      all_append noted (steps_below root None 0 (on_entering p.root.kind 0) p.root.children) (leaving root ∷ [])
      ∙ below p.root.children root None 0 (on_entering p.root.kind 0) noted

  listed : (ms : List Mention) (walk : List Step) → noted_all ms walk ≡ ms ++ mentions_by s walk
  listed ms [] = sym (append-nil ms)
  listed ms (entering p ∷ more) =
      let here : List Mention = noted_by p.node.kind (around_under s p.path) p.node in
      listed (ms ++ here) more ∙ append_assoc ms here (mentions_by s more)
  listed ms (opening p o ∷ more) = listed ms more
  listed ms (header_ending p o ∷ more) = listed ms more
  listed ms (closing p o ∷ more) = listed ms more
  listed ms (leaving p ∷ more) = listed ms more

-- the pass notes the same
pub passed : (p : Tree) → mentions_from (around_under p.source_type []) p.root [] ≡ mentions p
passed p = sym (whole p.source_type p []) ∙ listed p.source_type [] (steps p)
