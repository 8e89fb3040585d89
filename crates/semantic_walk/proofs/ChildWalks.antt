-- A walk that comes to a child of a node, and goes over it.
use Rattle.std.proofs.Common.{◌≡◌, ◌<◌, ◌≤◌, ℕ, List, [], ◌∷◌, Option, None, ap, ◌∙◌, length, refl, arith}
use Rattle.semantic_kinds.specs.declared.role.Role.{Role}
use Rattle.semantic_syntax.specs.Counts.{raised}
use Rattle.semantic_tree.specs.Forest.{nothing}
use Rattle.semantic_tree.specs.Children.{forest_of}
use Rattle.semantic_tree.specs.declared.node.Node.{Node}
use Rattle.semantic_model.specs.Place.{Place, OpenScope}
use Rattle.semantic_model.specs.Declaration.{Declaration}
use Rattle.semantic_model.specs.Step.{scope_at, next_at, opening_at}
use Rattle.walk_model.specs.Waits.{HoldsAt, start_at}
use Rattle.walk_model.specs.Walks.{after_all}
use Rattle.semantic_walk.specs.Walker.{Walker}
use Rattle.semantic_walk.specs.AtPlace.{IsTurnAt, IsComing, IsSomewhere, IsEntered, HasEntered, walked_within, left_at, walked_over, probes_over}
use Rattle.semantic_walk.specs.declared.visit.Turn.{Turn}
use Rattle.semantic_walk.proofs.Counting.{rests_child}
use Rattle.semantic_walk.proofs.Visiting.{Rests, left_is, at_child, place_of, holds_past}

pub through : (a b d : ℕ) → a ≤ b → b ≤ d → a ≤ d
through a b d h k = omega arith

pub shorter : (x : Role × Node) (xs ys : List (Role × Node)) → xs ≡ x ∷ ys → length ys < length xs
shorter x xs ys e = rw e (omega arith)

pub none_left : (items : List (Role × Node)) → length items ≡ 0 → forest_of items ≡ nothing
none_left [] h = refl
none_left (x ∷ xs) h = absurd (omega arith)

-- the walk has come to the node at a place
abbrev pub somewhere : {w : Walker} {x : Node} {role : Role} (ds : List Declaration) (p : Place) (own : Option OpenScope) (n : ℕ) → p.node ≡ x → p.role ≡ role → IsComing ds w p own n → IsSomewhere w x role
somewhere ds p own n node role coming = record { ds = ds; place = p; own = own; next = n; node_is = node; role_is = role; coming = coming }

-- and has entered it
abbrev pub within : {w : Walker} {x : Node} {role : Role} (ds : List Declaration) (first : Walker) (p : Place) (own : Option OpenScope) (n : ℕ) → p.node ≡ x → p.role ≡ role → IsEntered ds first w p own n → HasEntered w x role
within ds first p own n node role inside = record { ds = ds; first = first; place = p; own = own; next = n; node_is = node; role_is = role; inside = inside }

-- once a node below the root is left, it is walked over
pub over_left : (ds : List Declaration) (w : Walker) (p : Place) (n : ℕ) → IsComing ds w p None n → (inner past : Walker) → inner ≡ walked_within ds w p None n → past ≡ left_at inner p → past ≡ walked_over ds w p None n
over_left ds w p n coming inner past walks left = left ∙ ap (λ (u : Walker). left_at u p) walks ∙ left_is ds w p None n coming

-- the walk has come to a child of the place, with the rest to be gone over behind it
pub record ComesToChild (ds : List Declaration) (first : Walker) (p : Place) (own : Option OpenScope) (n before now : ℕ) (w v : Walker) (turn turned : Turn) (child : Role × Node) (rest : List (Role × Node)) : Type 0 where
  pub rests : Rests ds first p own n before now w turn (forest_of (child ∷ rest))
  pub stood : v ≡ at_child w (after_all ds w.made (opening_at p child.0 rests.scope rests.next)) (place_of p rests.scope rests.next rests.cursor child)
  pub stands : IsTurnAt turned p (scope_at p child.0 rests.scope rests.next) (start_at p child.0 rests.scope rests.start w.made)
  pub coming : IsComing ds v (place_of p rests.scope rests.next rests.cursor child) None (next_at p child.0 rests.scope rests.next)

module _ {ds : List Declaration} {first : Walker} {p : Place} {own : Option OpenScope} {n before now : ℕ} {w v : Walker} {turn turned : Turn} {child : Role × Node} {rest : List (Role × Node)}
    (k : ComesToChild ds first p own n before now w v turn turned child rest) where
  abbrev pub place : Place
  place = place_of p k.rests.scope k.rests.next k.rests.cursor child

  abbrev pub next : ℕ
  next = next_at p child.0 k.rests.scope k.rests.next

  abbrev pub scope : Option OpenScope
  scope = scope_at p child.0 k.rests.scope k.rests.next

  abbrev pub start : ℕ
  start = start_at p child.0 k.rests.scope k.rests.start w.made

  -- once it has gone over the child, the header of the place is kept
  pub holds : (past : Walker) → past ≡ walked_over ds v place None next → HoldsAt past.made scope start
  holds past went = holds_past ds p k.rests.scope k.rests.next k.rests.cursor k.rests.start child rest w v past turn k.rests.between k.stood went

  -- what the child has asked on an error is no more than all ask
  pub child_asks : (last : ℕ) → last ≤ raised now (probes_over ds v place None next) → last ≤ raised before (probes_over ds first p own n)
  child_asks last few = rests_child ds first p own n before now w turn child rest k.rests v k.stood last few
