-- Pairs of names of which no two share one make a one-to-one map of all names: each pair is swapped.
use Rattle.std.proofs.Common.{◌≡◌, List, [], ◌∷◌, Bool, true, false, Option, Some, None, cond, inl, inr, ◌⊎◌, refl, sym, ap, ◌∙◌, codes, bytes_eq, filter, zip}
use Rattle.std.specs.Map.{lookup}
use Rattle.semantic_syntax.specs.Tables.{Name}
use Rattle.semantic_tree.specs.Renamed.{swap}
use Rattle.semantic_model.specs.Entries.{Among}
use Rattle.semantic_model.proofs.once.ListedUnder.{name_tells}
use Rattle.semantic_model.proofs.swapped.AlikeProgram.{Keeps, swap_keeps}
use Rattle.mangle_model.specs.Assignment.{name_or}
use Rattle.mangle_model.proofs.NameLists.{among_passing, among_zipped, Different}

abbrev pub Pair : Type 0
Pair = Name × Name

-- two pairs share no name
pub record AreApart (e d : Pair) : Type 0 where
  pub old : e.0 ≡ d.0 → ⊥
  pub new : e.1 ≡ d.1 → ⊥
  pub old_new : e.0 ≡ d.1 → ⊥
  pub new_old : e.1 ≡ d.0 → ⊥

abbrev pub Apart : List Pair → Type 0
Apart [] = Unit {0}
Apart (e ∷ es) = ((d : Pair) → Among d es → AreApart e d) × Apart es

-- ---- lists zipped of names of which no two are the same

pub zipped_apart : (xs ys : List Name) → Different xs → Different ys → ((x y : Name) → Among x xs → Among y ys → x ≡ y → ⊥) → Apart (zip xs ys)
zipped_apart [] ys h k apart = tt
zipped_apart (x ∷ xs) [] h k apart = tt
zipped_apart (x ∷ xs) (y ∷ ys) h k apart = (
  λ d a. let (b, c) = among_zipped xs ys d a in record {
    old = h.0 d.0 b;
    new = k.0 d.1 c;
    old_new = apart x d.1 (inl refl) (inr c);
    new_old = λ e. apart d.0 y (inr b) (inl refl) (sym e);
  },
  zipped_apart xs ys h.1 k.1 (λ u v a b. apart u v (inr a) (inr b)),
)

pub passing_apart : (test : Pair → Bool) (es : List Pair) → Apart es → Apart (filter test es)
passing_apart test [] h = tt
passing_apart test (e ∷ es) h = go (test e) (passing_apart test es h.1)
  where
    go : (b : Bool) → Apart (filter test es) → Apart (cond b (e ∷ filter test es) (filter test es))
    go true k = (λ d a. h.0 d (among_passing test es d a).0, k)
    go false k = k

-- ---- what is found

pub record Found (es : List Pair) (x n : Name) : Type 0 where
  pub pair : Pair
  pub among : Among pair es
  pub old : pair.0 ≡ x
  pub new : pair.1 ≡ n

pub found : (es : List Pair) (x n : Name) → lookup (bytes_eq x) es ≡ Some n → Found es x n
found [] x n h = absurd cc
found (e ∷ es) x n h = go (bytes_eq x e.0) (name_tells x e.0) h (λ k. found es x n k)
  where
    go : (b : Bool) → ((b ≡ true) × (x ≡ e.0)) ⊎ ((b ≡ false) × (x ≡ e.0 → ⊥)) → cond b (Some e.1) (lookup (bytes_eq x) es) ≡ Some n → (lookup (bytes_eq x) es ≡ Some n → Found es x n) → Found (e ∷ es) x n
    go true (inl w) k more = record { pair = e; among = inl refl; old = sym w.1; new = (let f : ◌≡◌ {A = Option Name} (Some e.1) (Some n) = k in cc) }
    go true (inr w) k more = absurd cc
    go false w k more = let f : Found es x n = more k in record { pair = f.pair; among = inr f.among; old = f.old; new = f.new }

pub none_found : (es : List Pair) (x : Name) → ((d : Pair) → Among d es → d.0 ≡ x → ⊥) → lookup (bytes_eq x) es ≡ None
none_found [] x h = refl
none_found (e ∷ es) x h = go (bytes_eq x e.0) (name_tells x e.0) (none_found es x (λ d a. h d (inr a)))
  where
    go : (b : Bool) → ((b ≡ true) × (x ≡ e.0)) ⊎ ((b ≡ false) × (x ≡ e.0 → ⊥)) → lookup (bytes_eq x) es ≡ None → cond b (Some e.1) (lookup (bytes_eq x) es) ≡ None
    go true (inl w) k = absurd (h e (inl refl) (sym w.1))
    go true (inr w) k = absurd cc
    go false w k = k

-- ---- the map

abbrev pub mapped : List Pair → Name → Name
mapped [] x = x
mapped (e ∷ es) x = swap e.0 e.1 (mapped es x)

-- it is none of the new names
abbrev pub IsNotNew : List Pair → Name → Type 0
IsNotNew es x = (d : Pair) → Among d es → d.1 ≡ x → ⊥

swap_first : (a b : Name) → swap a b a ≡ b
swap_first a b = elim (name_tells a a) [ inl h ↦ rw h.0 refl | inr h ↦ absurd (h.1 refl) ]

swap_other : (a b x : Name) → (x ≡ a → ⊥) → (x ≡ b → ⊥) → swap a b x ≡ x
swap_other a b x h k = elim (name_tells x a) [
  | inl i ↦ absurd (h i.1)
  | inr i ↦ elim (name_tells x b) [ inl j ↦ absurd (k j.1) | inr j ↦ rw (i.0, j.0) refl ]
]

-- old names become their new ones, and others but these stay
pub mapped_is : (es : List Pair) → Apart es → (x : Name) → IsNotNew es x → mapped es x ≡ name_or (lookup (bytes_eq x) es) x
mapped_is [] h x k = refl
mapped_is (e ∷ es) h x k = go (bytes_eq x e.0) (name_tells x e.0) (mapped_is es h.1 x (λ d a. k d (inr a)))
  where
    other : (x ≡ e.0 → ⊥) → (o : Option Name) → lookup (bytes_eq x) es ≡ o → swap e.0 e.1 (name_or o x) ≡ name_or o x
    other i None f = swap_other e.0 e.1 x i (λ j. k e (inl refl) (sym j))
    other i (Some n) f =
        let w : Found es x n = found es x n f in
        let apart : AreApart e w.pair = h.0 w.pair w.among in
        swap_other e.0 e.1 n (λ j. apart.old_new (sym (w.new ∙ j))) (λ j. apart.new (sym (w.new ∙ j)))

    go : (b : Bool) → ((b ≡ true) × (x ≡ e.0)) ⊎ ((b ≡ false) × (x ≡ e.0 → ⊥)) → mapped es x ≡ name_or (lookup (bytes_eq x) es) x → swap e.0 e.1 (mapped es x) ≡ name_or (cond b (Some e.1) (lookup (bytes_eq x) es)) x
    go true (inl w) m =
        let none : lookup (bytes_eq x) es ≡ None = none_found es x (λ d a i. (h.0 d a).old (sym (i ∙ w.1))) in
        ap (swap e.0 e.1) (m ∙ ap (λ o. name_or o x) none ∙ w.1) ∙ swap_first e.0 e.1
    go true (inr w) m = absurd cc
    go false (inl w) m = absurd cc
    go false (inr w) m = ap (swap e.0 e.1) m ∙ other w.1 (lookup (bytes_eq x) es) refl

-- names that the rules do not know
pub record IsPlain (x : Name) : Type 0 where
  pub not_eval : bytes_eq (codes "eval") x ≡ false
  pub not_arguments : bytes_eq (codes "arguments") x ≡ false

pub mapped_keeps : (es : List Pair) → ((d : Pair) → Among d es → IsPlain d.0 × IsPlain d.1) → Keeps (mapped es)
mapped_keeps [] h = record { equal = λ x y. refl; eval = refl; arguments = refl }
mapped_keeps (e ∷ es) h =
    let (old, new) = h e (inl refl) in
    let first : Keeps (swap e.0 e.1) = swap_keeps e.0 e.1 old.not_eval new.not_eval old.not_arguments new.not_arguments in
    let rest : Keeps (mapped es) = mapped_keeps es (λ d a. h d (inr a)) in
    record {
      equal = λ x y. first.equal (mapped es x) (mapped es y) ∙ rest.equal x y;
      eval = ap (swap e.0 e.1) rest.eval ∙ first.eval;
      arguments = ap (swap e.0 e.1) rest.arguments ∙ first.arguments;
    }
