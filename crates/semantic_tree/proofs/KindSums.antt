-- The counts of all kinds that pass a test make up the count of the nodes that pass it.
use Rattle.std.proofs.Common.{◌≡◌, ℕ, zero, suc, ◌+◌, ◌<◌, ◌==◌, List, [], ◌∷◌, Bool, true, false, ◌&&◌, cond, Option, Some, None, slice_get, refl, ap, arith}
use denote.Enum.Bare.{same_true, true_same}
use Rattle.std.proofs.lemmas.Bool.{and_parts, eqb-true}
use Rattle.semantic_kinds.specs.Kinds.{same_kind, kind_number, all_kinds}
use Rattle.semantic_kinds.specs.contracts.kind.AstType.{the_type as the_kinds}
use Rattle.semantic_kinds.specs.declared.kind.AstType.{AstType}
use Rattle.semantic_kinds.proofs.KindNames.{kind_in_place}
use Rattle.semantic_tree.specs.Forest.{Forest, nothing, tree}
use Rattle.semantic_tree.specs.KindCounts.{kind_count, how_many, among_kinds}

-- how often a kind that passes the test is among the kinds
abbrev times : (AstType → Bool) → AstType → List AstType → ℕ
times test one [] = 0
times test one (k ∷ ks) = cond (test k) (cond (same_kind k one) 1 0) 0 + times test one ks

-- the kinds are numbered from n on
abbrev is_from : ℕ → List AstType → Bool
is_from n [] = true
is_from n (k ∷ ks) = (kind_number k == n) && is_from (suc n) ks

number_of : (k : AstType) (n : ℕ) → (kind_number k == n) ≡ true → kind_number k ≡ n
number_of k n h = eqb-true (kind_number k) n h

-- kinds with other numbers are others
apart : (k one : AstType) → (kind_number k ≡ kind_number one → ⊥) → same_kind k one ≡ false
apart k one differ = by (same_kind k one) refl
  where
    by : (b : Bool) → same_kind k one ≡ b → b ≡ false
    by true h = absurd (differ (ap kind_number (same_true the_kinds tt k one h)))
    by false h = refl

none : (b : Bool) → ◌≡◌ {A = ℕ} (cond b 0 0) 0
none true = refl
none false = refl

other : (test : AstType → Bool) (k one : AstType) → (kind_number k ≡ kind_number one → ⊥) → ◌≡◌ {A = ℕ} (cond (test k) (cond (same_kind k one) 1 0) 0) 0
other test k one differ = rw (apart k one differ) (none (test k))

left_out : (test : AstType → Bool) (one : AstType) (n : ℕ) (ks : List AstType) → is_from n ks ≡ true → kind_number one < n → times test one ks ≡ 0
left_out test one n [] from less = refl
left_out test one n (k ∷ ks) from less =
    let number = number_of k n (and_parts (kind_number k == n) (is_from (suc n) ks) from).0 in
    omega (arith, other test k one (λ e. absurd (omega (arith, number, e, less))), left_out test one (suc n) ks (and_parts (kind_number k == n) (is_from (suc n) ks) from).1 (omega arith))

itself : (one : AstType) → same_kind one one ≡ true
itself one = true_same the_kinds one one refl

here_once : (test : AstType → Bool) (k one : AstType) → k ≡ one → ◌≡◌ {A = ℕ} (cond (test k) (cond (same_kind k one) 1 0) 0) (cond (test one) 1 0)
here_once test k one e = rw (e, itself one) refl

not_found : (one : AstType) → ◌≡◌ {A = Option AstType} None (Some one) → ⊥
not_found one e = cc

some_is : (k one : AstType) → Some k ≡ Some one → k ≡ one
some_is k one e = cc

taken : (test : AstType → Bool) (one : AstType) (n i : ℕ) (ks : List AstType) → is_from n ks ≡ true → kind_number one ≡ n + i → slice_get ks i ≡ Some one → times test one ks ≡ cond (test one) 1 0
taken test one n i [] from number found = absurd (not_found one found)
taken test one n zero (k ∷ ks) from number found =
    let own = number_of k n (and_parts (kind_number k == n) (is_from (suc n) ks) from).0 in
    let rest = left_out test one (suc n) ks (and_parts (kind_number k == n) (is_from (suc n) ks) from).1 (omega (arith, number)) in
    omega (arith, here_once test k one (some_is k one found), rest)
taken test one n (suc i) (k ∷ ks) from number found =
    let own = number_of k n (and_parts (kind_number k == n) (is_from (suc n) ks) from).0 in
    omega (arith, other test k one (λ e. absurd (omega (arith, own, e, number))), taken test one (suc n) i ks (and_parts (kind_number k == n) (is_from (suc n) ks) from).1 (omega arith) found)

once : (test : AstType → Bool) (one : AstType) → times test one all_kinds ≡ cond (test one) 1 0
once test one = taken test one 0 (kind_number one) all_kinds refl (omega arith) (kind_in_place one)

split : (b : Bool) (x y z : ℕ) → cond b (x + y + z) 0 ≡ cond b x 0 + cond b y 0 + cond b z 0
split true x y z = refl
split false x y z = refl

none_counted : (test : AstType → Bool) (ks : List AstType) → among_kinds test nothing ks ≡ 0
none_counted test [] = refl
none_counted test (k ∷ ks) = omega (arith, none (test k), none_counted test ks)

parted : (test : AstType → Bool) (kind : AstType) (f below after : Forest) (ks : List AstType) → ((k : AstType) → kind_count k f ≡ cond (same_kind k kind) 1 0 + kind_count k below + kind_count k after) → among_kinds test f ks ≡ times test kind ks + among_kinds test below ks + among_kinds test after ks
parted test kind f below after [] each = refl
parted test kind f below after (k ∷ ks) each =
    omega (arith, ap (λ n. cond (test k) n 0) (each k), split (test k) (cond (same_kind k kind) 1 0) (kind_count k below) (kind_count k after), parted test kind f below after ks each)

joined : (all t b a one hb ha : ℕ) → all ≡ t + b + a → t ≡ one → b ≡ hb → a ≡ ha → all ≡ one + hb + ha
joined all t b a one hb ha e f g h = omega arith

-- the kinds' counts make up the count of all
pub kinds_make_up : (test : AstType → Bool) (f : Forest) → among_kinds test f all_kinds ≡ how_many test f
kinds_make_up test nothing = none_counted test all_kinds
kinds_make_up test (tree role kind span text marks below id after) =
    joined (among_kinds test (tree role kind span text marks below id after) all_kinds) (times test kind all_kinds) (among_kinds test below all_kinds) (among_kinds test after all_kinds) (cond (test kind) 1 0) (how_many test below) (how_many test after)
    (parted test kind (tree role kind span text marks below id after) below after all_kinds (λ k. refl)) (once test kind) (kinds_make_up test below) (kinds_make_up test after)
