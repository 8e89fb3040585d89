-- The bits of a kind answer the questions to it.
use Rattle.std.proofs.Common.{◌≡◌, ℕ, ◌==◌, ◌&&◌, List, [], ◌∷◌, Bool, true, false, not, cond, Some, map, option_map, slice_get, slice_index_or, length, refl, sym, ap, ◌∙◌}
use Rattle.std.proofs.Math.Dec.{eqb-suc-zero}
use Rattle.std.proofs.lemmas.Option.{slice_get-map, get_or_from_slice_get}
use Rattle.std.specs.Int.RustNames.{bit_and}
use Rattle.semantic_kinds.specs.Classes.{is_simple_target}
use Rattle.semantic_kinds.specs.Kinds.{all_kinds}
use Rattle.semantic_kinds.specs.Roles.{same_role}
use Rattle.semantic_kinds.specs.declared.kind.AstType.{AstType}
use Rattle.semantic_kinds.specs.declared.kind.AstType.TheVariants as kind
use Rattle.semantic_kinds.specs.declared.role.Role.{Role}
use Rattle.semantic_kinds.specs.declared.role.Role.TheVariants as role
use Rattle.semantic_syntax.specs.Sets.{meets}
use Rattle.semantic_syntax.specs.declared.reference_flags.TheConstants.ReferenceFlags as way
use Rattle.semantic_tree.specs.Children.{forest_of}
use Rattle.semantic_tree.specs.Forest.{Forest, nothing, tree}
use Rattle.semantic_tree.specs.declared.node.Node.{Node}
use Rattle.semantic_tree.specs.Views.{is_role_of}
use Rattle.semantic_model.specs.Inside.{Inside, no_scope_opens, all_children, only, all_but, opens_for, holds_for, inside, opens, is_inside, any_inside, header_roles, is_in_header}
use Rattle.semantic_model.specs.Cursor.{at_child, cursor_before, cursor_behind, is_write_place, on_entering, on_leaving}
use Rattle.walk_notes.specs.NoteLists.{is_noted_behind}
use Rattle.semantic_walk.specs.Doings.{acts_on_entering, acts_between, is_passing, is_leaf, turns_cursor, moves_cursor, holds_every, are_some, holds_all, has_header, bits_of}

-- whether the bit is one of those of the kind
abbrev has : AstType → ℕ → Bool
has k bit = not (bit_and (bits_of k) bit == 0)

-- kind by kind

entering_at : (k : AstType) → has k 1 ≡ acts_on_entering k
entering_at kind.Program = refl
entering_at _ = refl

between_at : (k : AstType) → has k 2 ≡ acts_between k
between_at kind.Program = refl
between_at _ = refl

turns_at : (k : AstType) → has k 4 ≡ turns_cursor k
turns_at kind.Program = refl
turns_at _ = refl

behind_at : (k : AstType) → has k 8 ≡ is_noted_behind k
behind_at kind.Program = refl
behind_at _ = refl

passing_at : (k : AstType) → has k 16 ≡ is_passing k
passing_at kind.Program = refl
passing_at _ = refl

opens_at : (k : AstType) → has k 32 ≡ opens k
opens_at kind.Program = refl
opens_at _ = refl

header_at : (k : AstType) → has k 64 ≡ has_header k
header_at kind.Program = refl
header_at _ = refl

all_at : (k : AstType) → has k 128 ≡ holds_all k
all_at kind.Program = refl
all_at _ = refl

moves_at : (k : AstType) → has k 256 ≡ moves_cursor k
moves_at kind.Program = refl
moves_at _ = refl

-- a table of the bits of all kinds has those of each kind in its place
pub bits_at : (table : List ℕ) (n d : ℕ) (k : AstType) → slice_get all_kinds n ≡ Some k → table ≡ map bits_of all_kinds → slice_index_or table n d ≡ bits_of k
bits_at table n d k place same =
    ap (λ bits. slice_index_or bits n d) same ∙ get_or_from_slice_get (map bits_of all_kinds) n (bits_of k) d (slice_get-map bits_of all_kinds n ∙ ap (option_map bits_of) place)

module _ (k j : AstType) (bits : ℕ) (of : bits ≡ bits_of k) (same : k ≡ j) where
  -- what holds of the bits of a kind holds of bits that are its
  by_kind : (f : AstType → Bool) (bit : ℕ) → has k bit ≡ f k → not (bit_and bits bit == 0) ≡ f j
  by_kind f bit at = ap (λ n. not (bit_and n bit == 0)) of ∙ at ∙ ap f same

  pub entering_bit : not (bit_and bits 1 == 0) ≡ acts_on_entering j
  entering_bit = by_kind acts_on_entering 1 (entering_at k)

  pub between_bit : not (bit_and bits 2 == 0) ≡ acts_between j
  between_bit = by_kind acts_between 2 (between_at k)

  pub turns_bit : not (bit_and bits 4 == 0) ≡ turns_cursor j
  turns_bit = by_kind turns_cursor 4 (turns_at k)

  pub behind_bit : not (bit_and bits 8 == 0) ≡ is_noted_behind j
  behind_bit = by_kind is_noted_behind 8 (behind_at k)

  pub passing_bit : not (bit_and bits 16 == 0) ≡ is_passing j
  passing_bit = by_kind is_passing 16 (passing_at k)

  pub opens_bit : not (bit_and bits 32 == 0) ≡ opens j
  opens_bit = by_kind opens 32 (opens_at k)

  pub header_bit : not (bit_and bits 64 == 0) ≡ has_header j
  header_bit = by_kind has_header 64 (header_at k)

  pub all_bit : not (bit_and bits 128 == 0) ≡ holds_all j
  all_bit = by_kind holds_all 128 (all_at k)

  pub moves_bit : not (bit_and bits 256 == 0) ≡ moves_cursor j
  moves_bit = by_kind moves_cursor 256 (moves_at k)

-- what the answers say

otherwise : {A : Type 0} (b : Bool) (x y z : A) → cond b x y ≡ z → b ≡ false → y ≡ z
otherwise b x y z e h = ap (λ c. cond c x y) (sym h) ∙ e

all_inside : (i : Inside) (r : Role) → holds_every i ≡ true → holds_for i r ≡ true
all_inside no_scope_opens r h = absurd cc
all_inside all_children r h = refl
all_inside (only rs) r h = absurd cc
all_inside (all_but q) r h = absurd cc

none_inside : (i : Inside) (r : Role) → opens_for i ≡ false → holds_for i r ≡ false
none_inside no_scope_opens r h = refl
none_inside all_children r h = absurd cc
none_inside (only rs) r h = absurd cc
none_inside (all_but q) r h = absurd cc

pub every_inside : (k : AstType) (r : Role) → holds_all k ≡ true → is_inside k r ≡ true
every_inside k r h = all_inside (inside k) r h

pub no_inside : (k : AstType) (r : Role) → opens k ≡ false → is_inside k r ≡ false
no_inside k r h = none_inside (inside k) r h

none_of : (rs : List Role) (r : Role) → are_some rs ≡ false → is_role_of r rs ≡ false
none_of [] r h = refl
none_of (q ∷ rs) r h = absurd cc

pub not_in_header : (k : AstType) (r : Role) → has_header k ≡ false → is_in_header k r ≡ false
not_in_header k r h = none_of (header_roles k) r h

-- where all children stand inside, some of those that follow do if there are some
pub rest_inside : (k : AstType) (f : Forest) → holds_all k ≡ true → any_inside k f ≡ not (is_leaf f)
rest_inside k nothing h = refl
rest_inside k (tree r j span text marks below id after) h = ap (λ b. cond b true (any_inside k after)) (every_inside k r h)

pub leaf_by : (xs : List (Role × Node)) → is_leaf (forest_of xs) ≡ (length xs == 0)
leaf_by [] = refl
leaf_by (x ∷ xs) = sym (eqb-suc-zero (length xs))

-- kind by kind, where the cursor doesn't turn

turns_before : (k : AstType) (parent : Node) (ambient : Bool) (r : Role) (child : Node) (cursor : ℕ) → cond (turns_cursor k) cursor (at_child k parent ambient r child cursor) ≡ cursor
turns_before kind.Class parent ambient r child cursor = refl
turns_before _ parent ambient r child cursor = refl

writes : (k : AstType) (r : Role) → cond (turns_cursor k) (same_role r role.Binding) (is_write_place k r) ≡ same_role r role.Binding
writes kind.AssignmentExpression r = refl
writes _ r = refl

turns_behind : (k : AstType) (r : Role) (before behind : ℕ) → cond (turns_cursor k) behind (cursor_behind k r before behind) ≡ behind
turns_behind kind.Class r before behind = refl
turns_behind _ r before behind = refl

turns_between : (k : AstType) → cond (acts_between k) false (turns_cursor k) ≡ false
turns_between kind.Class = refl
turns_between _ = refl

enters_moving : (k : AstType) (cursor : ℕ) → cond (moves_cursor k) cursor (on_entering k cursor) ≡ cursor
enters_moving kind.Class cursor = refl
enters_moving _ cursor = refl

leaves_moving : (k : AstType) (cursor : ℕ) → cond (moves_cursor k) cursor (on_leaving k cursor) ≡ cursor
leaves_moving kind.Class cursor = refl
leaves_moving _ cursor = refl

pub still_before : (parent : Node) (ambient : Bool) (r : Role) (child : Node) (cursor : ℕ) → turns_cursor parent.kind ≡ false → same_role r role.Binding ≡ false → cursor_before parent ambient r child cursor ≡ cursor
still_before parent ambient r child cursor still unbound =
    let k = parent.kind in
    ap (λ b. cond (b && is_simple_target child.kind && not (meets (at_child k parent ambient r child cursor) way.Write.bits)) way.Write.bits (at_child k parent ambient r child cursor))
    (otherwise (turns_cursor k) (same_role r role.Binding) (is_write_place k r) (same_role r role.Binding) (writes k r) still ∙ unbound)
    ∙ otherwise (turns_cursor k) cursor (at_child k parent ambient r child cursor) cursor (turns_before k parent ambient r child cursor) still

-- nor does it where nothing happens between children
pub still_even : (k : AstType) → acts_between k ≡ false → turns_cursor k ≡ false
still_even k even = otherwise (acts_between k) false (turns_cursor k) false (turns_between k) even

pub still_behind : (k : AstType) (r : Role) (before behind : ℕ) → turns_cursor k ≡ false → cursor_behind k r before behind ≡ behind
still_behind k r before behind still = otherwise (turns_cursor k) behind (cursor_behind k r before behind) behind (turns_behind k r before behind) still

pub still_entering : (k : AstType) (cursor : ℕ) → moves_cursor k ≡ false → on_entering k cursor ≡ cursor
still_entering k cursor still = otherwise (moves_cursor k) cursor (on_entering k cursor) cursor (enters_moving k cursor) still

pub still_leaving : (k : AstType) (cursor : ℕ) → moves_cursor k ≡ false → on_leaving k cursor ≡ cursor
still_leaving k cursor still = otherwise (moves_cursor k) cursor (on_leaving k cursor) cursor (leaves_moving k cursor) still
