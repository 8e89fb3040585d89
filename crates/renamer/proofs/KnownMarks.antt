-- The marks of properties, and those but `shorthand`.
use Rattle.std.proofs.Common.{◌≡◌, ℕ, zero, suc, ◌+◌, ◌-◌, ◌<◌, ◌≤◌, ◌^◌, ◌==◌, List, [], ◌∷◌, ◌++◌, Bool, true, false, not, ◌&&◌, ◌||◌, cond, bit_and, bit_or, nat_lt, filter, length, drop, get_or, refl, sym, ap, subst, ◌∙◌, arith}
use Rattle.std.proofs.Math.ListN.{drop_of_length-le}
use Rattle.std.proofs.lemmas.Bool.{eqb-true}
use Rattle.std.proofs.lemmas.Bool.Decides.{Decides-ltb}
use Rattle.std.proofs.lemmas.Nat.{and_assoc, and_le_l, and_le_r, le_or_l}
use Rattle.semantic_syntax.proofs.Truth.{drop_here}
use Rattle.semantic_kinds.specs.Allowed.{allowed_marks}
use Rattle.semantic_kinds.specs.Kinds.{same_kind}
use Rattle.semantic_kinds.specs.Marks.{mark_bit, all_marks, same_mark}
use Rattle.semantic_kinds.specs.MarkSets.{has_mark, with_mark, with_marks, set_of, is_within}
use Rattle.semantic_kinds.specs.declared.kind.AstType.{AstType}
use Rattle.semantic_kinds.specs.declared.kind.AstType.TheVariants as kind
use Rattle.semantic_kinds.specs.declared.mark.Mark.{Mark}
use Rattle.semantic_kinds.specs.declared.mark.Mark.TheVariants as mark
use Rattle.semantic_kinds.specs.declared.marks.Marks.{Marks}
use Rattle.semantic_kinds.specs.declared.role.Role.{Role}
use Rattle.semantic_kinds.proofs.MarkLaws.{set_of-marks_in}
use Rattle.semantic_tree.specs.Children.{forest_of}
use Rattle.semantic_tree.specs.Forest.{Forest, nothing, tree}
use Rattle.semantic_tree.specs.Place.{child_place, placed_below, root_place}
use Rattle.semantic_tree.specs.Shaped.{IsWellFormed, OfEach, IsShaped}
use Rattle.semantic_tree.specs.Tree.{Tree}
use Rattle.semantic_tree.specs.declared.node.Node.{Node}
use Rattle.semantic_tree.specs.declared.place.Place.{Place}
use Rattle.semantic_model.proofs.form.Clauses.{kind_is}
use Rattle.program_laws.specs.ReadMarks.{without_mark}
use Rattle.renamer.specs.Renaming.{IsKnown, AreKnown, is_kept, with_kept}

-- ---- the marks of properties are known

within_small : (marks others : Marks) → others.bits < 2 ^ 30 → is_within marks others ≡ true → marks.bits < 2 ^ 30
within_small marks others small h =
    let joined : bit_or marks.bits others.bits ≡ others.bits = eqb-true (bit_or marks.bits others.bits) others.bits h in
    let fewer : marks.bits ≤ bit_or marks.bits others.bits = le_or_l marks.bits others.bits in
    omega (arith, joined, fewer, small)

small_where : (n : ℕ) → nat_lt n (2 ^ 30) ≡ true → n < 2 ^ 30
small_where n h = (Decides-ltb n (2 ^ 30)).0 h

known_marks : (k : AstType) (marks : Marks) → is_within marks (set_of (allowed_marks k)) ≡ true → IsKnown k marks
known_marks k marks h = first (same_kind kind.ObjectProperty k) refl (same_kind kind.BindingProperty k) refl
  where
    first : (a : Bool) → same_kind kind.ObjectProperty k ≡ a → (b : Bool) → same_kind kind.BindingProperty k ≡ b → (a || (b || false)) ≡ true → marks.bits < 2 ^ 30
    first true e b f i = within_small marks (set_of (allowed_marks kind.ObjectProperty)) (small_where _ refl) (subst (λ j. is_within marks (set_of (allowed_marks j)) ≡ true) (sym (kind_is kind.ObjectProperty k e)) h)
    first false e true f i = within_small marks (set_of (allowed_marks kind.BindingProperty)) (small_where _ refl) (subst (λ j. is_within marks (set_of (allowed_marks j)) ≡ true) (sym (kind_is kind.BindingProperty k f)) h)
    first false e false f i = absurd cc

of_left : (P : Place → Node → Type 0) (xs ys : List (Place × Node)) → OfEach P (xs ++ ys) → OfEach P xs
of_left P [] ys h = tt
of_left P (x ∷ xs) ys h = (h.0, of_left P xs ys h.1)

of_right : (P : Place → Node → Type 0) (xs ys : List (Place × Node)) → OfEach P (xs ++ ys) → OfEach P ys
of_right P [] ys h = h
of_right P (x ∷ xs) ys h = of_right P xs ys h.1

known_below : (place : Place) (k : AstType) (f : Forest) → OfEach IsWellFormed (placed_below place k f) → AreKnown f
known_below place k nothing h = tt
known_below place k (tree r k2 span text marks below id after) h =
    let here : Place = child_place place k r in (
      known_marks k2 marks h.0.marks,
      known_below here k2 below (of_left IsWellFormed (placed_below here k2 below) (placed_below place k after) h.1),
      known_below place k after (of_right IsWellFormed (placed_below here k2 below) (placed_below place k after) h.1),
    )

pub shaped_known : (p : Tree) → IsShaped p → AreKnown p.root.children
shaped_known p h = known_below root_place p.root.kind p.root.children h.forms.1

-- a child is known, and those after it
pub known_turn : (items : List (Role × Node)) (i : ℕ) (child : Role × Node) → i < length items → child ≡ get_or items i child → AreKnown (forest_of (drop i items)) → IsKnown child.1.kind child.1.marks × AreKnown child.1.children × AreKnown (forest_of (drop (i + 1) items))
known_turn items i child h e k = subst (λ xs. AreKnown (forest_of xs)) (drop_here items i child h e) k

-- ---- all marks but one

kept_bit : (m : Mark) → bit_and (4294967295 - mark_bit mark.Shorthand) (mark_bit m) ≡ cond (same_mark m mark.Shorthand) 0 (mark_bit m)
kept_bit mark.Async = refl
kept_bit mark.Generator = refl
kept_bit mark.Declare = refl
kept_bit mark.Pure = refl
kept_bit mark.Static = refl
kept_bit mark.Computed = refl
kept_bit mark.Abstract = refl
kept_bit mark.Optional = refl
kept_bit mark.Definite = refl
kept_bit mark.Readonly = refl
kept_bit mark.Override = refl
kept_bit mark.Public = refl
kept_bit mark.Private = refl
kept_bit mark.Protected = refl
kept_bit mark.Method = refl
kept_bit mark.Shorthand = refl
kept_bit mark.Prefix = refl
kept_bit mark.Delegate = refl
kept_bit mark.Await = refl
kept_bit mark.TypeOnly = refl
kept_bit mark.Const = refl
kept_bit mark.In = refl
kept_bit mark.Out = refl
kept_bit mark.Asserts = refl
kept_bit mark.Postfix = refl
kept_bit mark.Binary = refl
kept_bit mark.Octal = refl
kept_bit mark.Decimal = refl
kept_bit mark.Hex = refl
kept_bit mark.Float = refl

and_nothing : (a : ℕ) → bit_and a 0 ≡ 0
and_nothing a = let h : bit_and a 0 ≤ 0 = and_le_r a 0 in omega (arith, h)

has_kept : (marks : Marks) (m : Mark) → has_mark (without_mark marks mark.Shorthand) m ≡ is_kept marks m
has_kept marks m =
    ap (λ b. not (b == 0)) (and_assoc (mark_bit m) marks.bits (4294967295 - mark_bit mark.Shorthand) ∙ ap (bit_and marks.bits) (kept_bit m))
    ∙ go (same_mark m mark.Shorthand)
  where
    go : (b : Bool) → not (bit_and marks.bits (cond b 0 (mark_bit m)) == 0) ≡ (not b && not (bit_and marks.bits (mark_bit m) == 0))
    go true = ap (λ n. not (n == 0)) (and_nothing marks.bits)
    go false = refl

same_filter : (one other : Mark → Bool) → ((m : Mark) → one m ≡ other m) → (ms : List Mark) → filter one ms ≡ filter other ms
same_filter one other h [] = refl
same_filter one other h (m ∷ ms) = λ i. cond (h m i) (m ∷ same_filter one other h ms i) (same_filter one other h ms i)

-- the set of the marks that are kept
pub kept_set : (marks : Marks) → marks.bits < 2 ^ 30 → set_of (filter (is_kept marks) all_marks) ≡ without_mark marks mark.Shorthand
kept_set marks small =
    ap set_of (sym (same_filter (has_mark (without_mark marks mark.Shorthand)) (is_kept marks) (has_kept marks) all_marks))
    ∙ set_of-marks_in (without_mark marks mark.Shorthand) (let h : bit_and marks.bits (4294967295 - mark_bit mark.Shorthand) ≤ marks.bits = and_le_l marks.bits (4294967295 - mark_bit mark.Shorthand) in omega (arith, h, small))

any_default : (ms : List Mark) (i : ℕ) (d e : Mark) → i < length ms → get_or ms i d ≡ get_or ms i e
any_default [] i d e h = absurd (omega arith)
any_default (m ∷ ms) zero d e h = refl
any_default (m ∷ ms) (suc i) d e h = any_default ms i d e (omega arith)

-- with those that are left, these are all
one_turn : (marks made : Marks) (ms : List Mark) (i : ℕ) (m : Mark) → i < length ms → m ≡ get_or ms i m → with_marks (with_kept marks made m) (filter (is_kept marks) (drop (i + 1) ms)) ≡ with_marks made (filter (is_kept marks) (drop i ms))
one_turn marks made ms i m h e = sym (ap (λ xs. with_marks made (filter (is_kept marks) xs)) (drop_here ms i m h e) ∙ go (is_kept marks m))
  where
    go : (b : Bool) → with_marks made (cond b (m ∷ filter (is_kept marks) (drop (i + 1) ms)) (filter (is_kept marks) (drop (i + 1) ms))) ≡ with_marks (cond b (with_mark made m) made) (filter (is_kept marks) (drop (i + 1) ms))
    go true = refl
    go false = refl

pub kept_turn : (marks made : Marks) (ms : List Mark) (i : ℕ) (d : Mark) → i < length ms → with_marks (with_kept marks made (get_or ms i d)) (filter (is_kept marks) (drop (i + 1) ms)) ≡ with_marks made (filter (is_kept marks) (drop i ms))
kept_turn marks made ms i d h = one_turn marks made ms i (get_or ms i d) h (any_default ms i d (get_or ms i d) h)

pub kept_end : (marks made : Marks) (ms : List Mark) (i : ℕ) → length ms ≤ i → with_marks made (filter (is_kept marks) (drop i ms)) ≡ made
kept_end marks made ms i h = ap (λ xs. with_marks made (filter (is_kept marks) xs)) (drop_of_length-le ms h)
