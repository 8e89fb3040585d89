-- Names that are collected.
use Rattle.std.proofs.Common.{◌≡◌, ℕ, ◌+◌, ◌==◌, ◌<◌, ◌≤◌, Bool, true, false, not, ◌&&◌, ◌||◌, List, [], ◌∷◌, ◌++◌, Some, MatchBool, All, length, map, drop, get_or, refl, ap, sym, ◌∙◌, arith, length-append}
use Rattle.std.specs.List.{list_any}
use Rattle.std.specs.List.Sorted.{IsPermutation}
use Rattle.std.specs.Str.{bytes_eq}
use Rattle.std.proofs.lemmas.Bool.{and_parts, or_left, or_right}
use Rattle.std.proofs.lemmas.Bool.Decides.{Decides-eqb, same_from_decides}
use Rattle.std.proofs.lemmas.Slice.Eq.{bytes_eq-Decides}
use Rattle.std.proofs.lemmas.List.Elements.{All-cons, All-head, All-tail}
use Rattle.std.proofs.lemmas.List.Sorted.{list_any-IsPermutation, All-permutation}
use Rattle.std.proofs.Math.ListN.{get_or-append}
use Rattle.semantic_kinds.specs.declared.role.Role.{Role}
use Rattle.semantic_syntax.specs.Tables.{Name}
use Rattle.scoping_rows.specs.Names.{name_at, IsUnknown, IsNumberOf, IsInterned}
use Rattle.semantic_tree.specs.Children.{forest_of}
use Rattle.semantic_tree.specs.declared.node.Node.{Node}
use Rattle.walk_model.specs.WrittenNames.{Openers, WrittenName, is_written, openers_at, written_below, written_in}
use Rattle.walk_notes.specs.WrittenNames.{Adds, written_of}
use Rattle.std.proofs.Math.ListN.{drop_of_length-le}
use Rattle.semantic_syntax.proofs.Truth.{or_assoc, or_false, drop_here}

pub written-append : (xs ys : List WrittenName) (n : ℕ) (x : Name) → is_written (xs ++ ys) n x ≡ (is_written xs n x || is_written ys n x)
written-append [] ys n x = refl
written-append (w ∷ xs) ys n x =
    ap (λ b. (n == w.opener && bytes_eq w.name x) || b) (written-append xs ys n x)
    ∙ sym (or_assoc (n == w.opener && bytes_eq w.name x) (is_written xs n x) (is_written ys n x))

pub adds-none : (ws : List WrittenName) → Adds ws ws []
adds-none ws n x = sym (or_false (is_written ws n x))

pub adds-both : (a b c xs ys : List WrittenName) → Adds a b xs → Adds b c ys → Adds a c (xs ++ ys)
adds-both a b c xs ys h k n x =
    k n x ∙ ap (λ o. o || is_written ys n x) (h n x) ∙ or_assoc (is_written a n x) (is_written xs n x) (is_written ys n x) ∙ ap (λ o. is_written a n x || o) (sym (written-append xs ys n x))

-- with those that are left, all are added
pub record Rests (now left start all : List WrittenName) : Type 0 where
  pub same : (n : ℕ) (x : Name) → (is_written now n x || is_written left n x) ≡ (is_written start n x || is_written all n x)

pub rests-start : (start all : List WrittenName) → Rests start all start all
rests-start start all = record { same = λ n x. refl }

pub rests-step : (now then_ mine left start all : List WrittenName) → Rests now (mine ++ left) start all → Adds now then_ mine → Rests then_ left start all
rests-step now then_ mine left start all h k = record {
  same = λ n x. ap (λ o. o || is_written left n x) (k n x) ∙ or_assoc (is_written now n x) (is_written mine n x) (is_written left n x)
      ∙ ap (λ o. is_written now n x || o) (sym (written-append mine left n x)) ∙ h.same n x;
}

pub rests-end : (now start all : List WrittenName) → Rests now [] start all → Adds start now all
rests-end now start all h n x = sym (or_false (is_written now n x)) ∙ h.same n x

pub written-turn : (parent : Node) (o : Openers) (items : List (Role × Node)) (i : ℕ) (child : Role × Node) → i < length items → child ≡ get_or items i child
    → written_below parent o (forest_of (drop i items)) ≡ written_in child.1 (Some parent) (openers_at parent child.0 o) ++ written_below parent o (forest_of (drop (i + 1) items))
written-turn parent o items i child h e = ap (λ (xs : List (Role × Node)). written_below parent o (forest_of xs)) (drop_here items i child h e)

pub written-end : (parent : Node) (o : Openers) (items : List (Role × Node)) (i : ℕ) → length items ≤ i → written_below parent o (forest_of (drop i items)) ≡ []
written-end parent o items i h = ap (λ (xs : List (Role × Node)). written_below parent o (forest_of xs)) (drop_of_length-le items h)

-- a key is of the name, in the scope that the node opens
abbrev is_of : List Name → ℕ → Name → ℕ × ℕ → Bool
is_of names n x key = n == key.0 && bytes_eq (name_at names key.1) x

pub any-map : (names : List Name) (keys : List (ℕ × ℕ)) (n : ℕ) (x : Name) → is_written (map (written_of names) keys) n x ≡ list_any (is_of names n x) keys
any-map names [] n x = refl
any-map names (key ∷ keys) n x = ap (λ b. is_of names n x key || b) (any-map names keys n x)

bytes_eq-flip : (a b : Name) → bytes_eq a b ≡ bytes_eq b a
bytes_eq-flip a b = same_from_decides (bytes_eq a b) (bytes_eq b a) (bytes_eq-Decides a b) (λ t. sym ((bytes_eq-Decides b a).0 t), λ e. (bytes_eq-Decides b a).1 (sym e))

abbrev AreNumbered : List Name → List (ℕ × ℕ) → Type 0
AreNumbered names keys = All (λ key. key.1 < length names) keys

abbrev below : List Name → ℕ × ℕ → Type 0
below names key = key.1 < length names

-- a name without a number is none of theirs
pub absent-unknown : (names : List Name) (keys : List (ℕ × ℕ)) (n : ℕ) (x : Name) → AreNumbered names keys → IsUnknown names x → list_any (is_of names n x) keys ≡ false
absent-unknown names [] n x h u = refl
absent-unknown names (key ∷ keys) n x h u =
    let other : bytes_eq (name_at names key.1) x ≡ false = bytes_eq-flip (name_at names key.1) x ∙ u.none key.1 (All-head (below names) key keys h) in
    let later : list_any (is_of names n x) keys ≡ false = absent-unknown names keys n x (All-tail (below names) key keys h) u in
    rw (other, later) (go (n == key.0))
  where
    go : (b : Bool) → ((b && false) || false) ≡ false
    go true = refl
    go false = refl

-- a name with a number is where its number is
pub same-numbered : (names : List Name) (keys : List (ℕ × ℕ)) (n m : ℕ) (x : Name) → AreNumbered names keys → IsNumberOf names x m → list_any (λ key. n == key.0 && m == key.1) keys ≡ list_any (is_of names n x) keys
same-numbered names [] n m x h u = refl
same-numbered names (key ∷ keys) n m x h u =
    let here : bytes_eq (name_at names key.1) x ≡ (m == key.1) = bytes_eq-flip (name_at names key.1) x ∙ u.only key.1 (All-head (below names) key keys h) in
    let later : list_any (λ k. n == k.0 && m == k.1) keys ≡ list_any (is_of names n x) keys = same-numbered names keys n m x (All-tail (below names) key keys h) u in
    rw (here, later) refl

-- more names change none of theirs
any-grown : (names added : List Name) (keys : List (ℕ × ℕ)) (n : ℕ) (x : Name) → AreNumbered names keys → list_any (is_of (names ++ added) n x) keys ≡ list_any (is_of names n x) keys
any-grown names added [] n x h = refl
any-grown names added (key ∷ keys) n x h =
    let here : name_at (names ++ added) key.1 ≡ name_at names key.1 = get_or-append names added [] key.1 (All-head (below names) key keys h) in
    let later : list_any (is_of (names ++ added) n x) keys ≡ list_any (is_of names n x) keys = any-grown names added keys n x (All-tail (below names) key keys h) in
    rw (here, later) refl

pub numbered-grown : (names added : List Name) (keys : List (ℕ × ℕ)) → AreNumbered names keys → AreNumbered (names ++ added) keys
numbered-grown names added keys h k d w = let one : (get_or keys k d).1 < length names = h k d w in omega (arith, one, length-append names added)

-- a key that is there already stands for its name
stands-already : (names : List Name) (keys : List (ℕ × ℕ)) (opener number n : ℕ) (x : Name) → list_any (λ key. opener == key.0 && number == key.1) keys ≡ true
    → is_of names n x (opener, number) ≡ true → list_any (is_of names n x) keys ≡ true
stands-already names [] opener number n x h t = absurd cc
stands-already names (key ∷ keys) opener number n x h t = go (stands-already names keys opener number n x) (opener == key.0 && number == key.1) refl h
  where
    go : (list_any (λ k. opener == k.0 && number == k.1) keys ≡ true → is_of names n x (opener, number) ≡ true → list_any (is_of names n x) keys ≡ true)
        → (b : Bool) → (opener == key.0 && number == key.1) ≡ b → (b || list_any (λ k. opener == k.0 && number == k.1) keys) ≡ true → (is_of names n x key || list_any (is_of names n x) keys) ≡ true
    go more true e i =
        let both = and_parts (opener == key.0) (number == key.1) e in
        let first : opener ≡ key.0 = (Decides-eqb opener key.0).0 both.0 in
        let second : number ≡ key.1 = (Decides-eqb number key.1).0 both.1 in
        let same : is_of names n x key ≡ true = ap (λ k. n == k && bytes_eq (name_at names key.1) x) (sym first) ∙ ap (λ k. n == opener && bytes_eq (name_at names k) x) (sym second) ∙ t in
        or_left (is_of names n x key) (list_any (is_of names n x) keys) same
    go more false e i = or_right (is_of names n x key) (list_any (is_of names n x) keys) (more i t)

or-swapped : (a b : Bool) → (a || b) ≡ (b || (a || false))
or-swapped true true = refl
or-swapped true false = refl
or-swapped false true = refl
or-swapped false false = refl

or-implied : (a b : Bool) → (a ≡ true → b ≡ true) → b ≡ (b || (a || false))
or-implied a true h = refl
or-implied true false h = h refl
or-implied false false h = refl

not-false : (b : Bool) → false ≡ not b → b ≡ true
not-false true h = refl
not-false false h = cc

-- a name more
pub adds-one : (names now : List Name) (name : Name) (opener number : ℕ) (keys then_ : List (ℕ × ℕ)) (fresh : Bool) → AreNumbered names keys → IsInterned names now name number
    → fresh ≡ not (list_any (λ key. opener == key.0 && number == key.1) keys) → MatchBool fresh (IsPermutation ((opener, number) ∷ keys) then_) (then_ ≡ keys)
    → Adds (map (written_of names) keys) (map (written_of now) then_) (record { opener = opener; name = name } ∷ [])
adds-one names now name opener number keys then_ fresh h i f p n x =
    any-map now then_ n x ∙ go fresh f p ∙ ap (λ b. b || ((n == opener && bytes_eq name x) || false)) (sym (any-map names keys n x))
  where
    old : list_any (is_of now n x) keys ≡ list_any (is_of names n x) keys
    old = ap (λ (ns : List Name). list_any (is_of ns n x) keys) i.grown ∙ any-grown names i.added keys n x h

    mine : is_of now n x (opener, number) ≡ (n == opener && bytes_eq name x)
    mine = ap (λ (y : Name). n == opener && bytes_eq y x) i.number.named

    go : (b : Bool) → b ≡ not (list_any (λ key. opener == key.0 && number == key.1) keys) → MatchBool b (IsPermutation ((opener, number) ∷ keys) then_) (then_ ≡ keys)
        → list_any (is_of now n x) then_ ≡ (list_any (is_of names n x) keys || ((n == opener && bytes_eq name x) || false))
    go true e q =
        sym (list_any-IsPermutation (is_of now n x) ((opener, number) ∷ keys) then_ q)
        ∙ ap (λ a. a || list_any (is_of now n x) keys) mine ∙ ap (λ b. (n == opener && bytes_eq name x) || b) old
        ∙ or-swapped (n == opener && bytes_eq name x) (list_any (is_of names n x) keys)
    go false e q =
        ap (λ (ks : List (ℕ × ℕ)). list_any (is_of now n x) ks) q ∙ old
        ∙ or-implied (n == opener && bytes_eq name x) (list_any (is_of names n x) keys)
        (λ t. sym old ∙ stands-already now keys opener number n x (not-false (list_any (λ key. opener == key.0 && number == key.1) keys) e) (mine ∙ t))

-- and its key has a number
pub numbered-one : (names now : List Name) (name : Name) (opener number : ℕ) (keys then_ : List (ℕ × ℕ)) (fresh : Bool) → AreNumbered names keys → IsInterned names now name number
    → MatchBool fresh (IsPermutation ((opener, number) ∷ keys) then_) (then_ ≡ keys) → AreNumbered now then_
numbered-one names now name opener number keys then_ fresh h i p = go fresh p
  where
    grown : AreNumbered now keys
    grown = rw i.grown (numbered-grown names i.added keys h)

    go : (b : Bool) → MatchBool b (IsPermutation ((opener, number) ∷ keys) then_) (then_ ≡ keys) → AreNumbered now then_
    go true q = All-permutation (below now) ((opener, number) ∷ keys) then_ q (All-cons (below now) (opener, number) keys i.number.within grown)
    go false q = rw q grown

-- nothing is collected where no function moves
pub none-move : (ws : List WrittenName) (sloppy : Bool) → sloppy ≡ false → (n : ℕ) (x : Name) → is_written [] n x ≡ (sloppy && is_written ws n x)
none-move ws true h n x = cc
none-move ws false h n x = refl

-- and all where they do
pub all-move : (now ws : List WrittenName) (sloppy : Bool) → sloppy ≡ true → Adds [] now ws → (n : ℕ) (x : Name) → is_written now n x ≡ (sloppy && is_written ws n x)
all-move now ws true h a n x = a n x
all-move now ws false h a n x = cc
