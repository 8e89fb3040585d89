-- Terminals that have numbers.
use Rattle.std.proofs.Common.{◌≡◌, ◌<◌, ◌⊎◌, inl, inr, ℕ, zero, suc, ◌+◌, List, [], ◌∷◌, ◌++◌, Some, refl, sym, ap, subst, ◌∙◌, slice_get, length, map, take, drop, get_or, append_assoc, append-nil, arith, All, Vec, Option, None}
use Rattle.std.specs.Option.{option_to_list}
use Rattle.std.specs.declared.alloc.Global.{Global}
use Rattle.std.proofs.lemmas.List.{take_more, drop_more, length-map}
use Rattle.reachability.specs.Rows.{Among, lists}
use Rattle.reachability.proofs.Lists.{among_left, among_right, among_either}
use Rattle.link_search.specs.Numbering.{Pair}
use Rattle.link_search.specs.declared.exports.SetExports.{SetExports}
use Rattle.link_search.specs.declared.terminal.Terminal.{Terminal}
use Rattle.link_search.specs.Ends.{Extends, EndsAreNumbered, ends_in, ends_from}
use Rattle.link_search.specs.Exports.{targets_of}

-- a terminal, with the number of the name that leads to it
abbrev pub Ended : Type 0
Ended = ℕ × Terminal

-- ---- in numbers

pub told : (ts : List Terminal) (es : List (ℕ × ℕ)) (xs : List Ended) → EndsAreNumbered ts es xs → (i n : ℕ) → Among {A = ℕ × ℕ} (i, n) es → (t : Terminal) × (slice_get ts n ≡ Some t) × Among {A = Ended} (i, t) xs
told ts [] xs h i n a = absurd a
told ts (e ∷ es) [] h i n a = absurd h
told ts (e ∷ es) (x ∷ xs) h i n (inl is) =
    let first : e.0 ≡ i = ap (λ (p : ℕ × ℕ). p.0) is in
    let second : e.1 ≡ n = ap (λ (p : ℕ × ℕ). p.1) is in
    let here : x.0 ≡ i = sym h.0 ∙ first in
    (x.1, subst (λ m. slice_get ts m ≡ Some x.1) second h.1, inl (λ j. (here j, x.1)))
told ts (e ∷ es) (x ∷ xs) h i n (inr a) =
    let w : (t : Terminal) × (slice_get ts n ≡ Some t) × Among {A = Ended} (i, t) xs = told ts es xs h.2 i n a in (w.0, w.1, inr w.2)

pub tells : (ts : List Terminal) (es : List (ℕ × ℕ)) (xs : List Ended) → EndsAreNumbered ts es xs → (i : ℕ) (t : Terminal) → Among {A = Ended} (i, t) xs → (n : ℕ) × Among {A = ℕ × ℕ} (i, n) es × (slice_get ts n ≡ Some t)
tells ts es [] h i t a = absurd a
tells ts [] (x ∷ xs) h i t a = absurd h
tells ts (e ∷ es) (x ∷ xs) h i t (inl is) =
    let first : x.0 ≡ i = ap (λ (p : Ended). p.0) is in
    let second : x.1 ≡ t = ap (λ (p : Ended). p.1) is in
    let here : e.0 ≡ i = h.0 ∙ first in
    (e.1, inl (λ j. (here j, e.1)), subst (λ u. slice_get ts e.1 ≡ Some u) second h.1)
tells ts (e ∷ es) (x ∷ xs) h i t (inr a) =
    let w : (n : ℕ) × Among {A = ℕ × ℕ} (i, n) es × (slice_get ts n ≡ Some t) = tells ts es xs h.2 i t a in (w.0, inr w.1, w.2)

-- ---- of names

in_all : (n : ℕ) (t : Terminal) (ts : List Terminal) → Among t ts → Among {A = Ended} (n, t) (map (λ u. (n, u)) ts)
in_all n t [] a = absurd a
in_all n t (u ∷ ts) (inl e) = inl (ap (λ v. (n, v)) e)
in_all n t (u ∷ ts) (inr a) = inr (in_all n t ts a)

of_all : (n i : ℕ) (t : Terminal) (ts : List Terminal) → Among {A = Ended} (i, t) (map (λ u. (n, u)) ts) → (n ≡ i) × Among t ts
of_all n i t [] a = absurd a
of_all n i t (u ∷ ts) (inl e) = (ap (λ (p : Ended). p.0) e, inl (ap (λ (p : Ended). p.1) e))
of_all n i t (u ∷ ts) (inr a) = let w : (n ≡ i) × Among t ts = of_all n i t ts a in (w.0, inr w.1)

module _ (s : SetExports) where
  pub ends_there : (ps : List Pair) (n j : ℕ) (p : Pair) (t : Terminal) → slice_get ps j ≡ Some p → Among t (ends_in (targets_of s p)) → Among {A = Ended} (n + j, t) (ends_from s n ps)
  ends_there [] n j p t e a = absurd cc
  ends_there (q ∷ ps) n zero p t e a =
      let same : q ≡ p = cc in
      among_left (n + 0, t) (map (λ u. (n, u)) (ends_in (targets_of s q))) (ends_from s (n + 1) ps)
      (subst (λ k. Among {A = Ended} (k, t) (map (λ u. (n, u)) (ends_in (targets_of s q)))) (omega arith) (in_all n t (ends_in (targets_of s q)) (subst (λ r. Among t (ends_in (targets_of s r))) (sym same) a)))
  ends_there (q ∷ ps) n (suc j) p t e a =
      among_right (n + suc j, t) (map (λ u. (n, u)) (ends_in (targets_of s q))) (ends_from s (n + 1) ps)
      (subst (λ k. Among {A = Ended} (k, t) (ends_from s (n + 1) ps)) (omega arith) (ends_there ps (n + 1) j p t e a))

  -- the name with a number, which leads to the terminal
  pub record EndsAt (ps : List Pair) (n i : ℕ) (t : Terminal) : Type 0 where
    pub place : ℕ
    pub is : i ≡ n + place
    pub name : Pair
    pub there : slice_get ps place ≡ Some name
    pub end : Among t (ends_in (targets_of s name))

  pub ends_only : (ps : List Pair) (n i : ℕ) (t : Terminal) → Among {A = Ended} (i, t) (ends_from s n ps) → EndsAt ps n i t
  ends_only [] n i t a = absurd a
  ends_only (q ∷ ps) n i t a = go (among_either (i, t) (map (λ u. (n, u)) (ends_in (targets_of s q))) (ends_from s (n + 1) ps) a) (λ b. ends_only ps (n + 1) i t b)
    where
      go : Among {A = Ended} (i, t) (map (λ u. (n, u)) (ends_in (targets_of s q))) ⊎ Among {A = Ended} (i, t) (ends_from s (n + 1) ps) → (Among {A = Ended} (i, t) (ends_from s (n + 1) ps) → EndsAt ps (n + 1) i t) → EndsAt (q ∷ ps) n i t
      go (inl b) more =
          let w : (n ≡ i) × Among t (ends_in (targets_of s q)) = of_all n i t (ends_in (targets_of s q)) b in
          record { place = 0; is = (let e : n ≡ i = w.0 in omega (arith, e)); name = q; there = refl; end = w.1 }
      go (inr b) more =
          let f : EndsAt ps (n + 1) i t = more b in
          record { place = suc f.place; is = (let e : i ≡ n + 1 + f.place = f.is in omega (arith, e)); name = f.name; there = f.there; end = f.end }

-- ---- one number more

numbered_stays : (old new : List Terminal) (es : List (ℕ × ℕ)) (xs : List Ended) → Extends old new → EndsAreNumbered old es xs → EndsAreNumbered new es xs
numbered_stays old new [] [] ext h = tt
numbered_stays old new [] (x ∷ xs) ext h = absurd h
numbered_stays old new (e ∷ es) [] ext h = absurd h
numbered_stays old new (e ∷ es) (x ∷ xs) ext h = (h.0, ext e.1 x.1 h.1, numbered_stays old new es xs ext h.2)

numbered_push : (ts : List Terminal) (es : List (ℕ × ℕ)) (xs : List Ended) (e : ℕ × ℕ) (x : Ended) → EndsAreNumbered ts es xs → e.0 ≡ x.0 → slice_get ts e.1 ≡ Some x.1 → EndsAreNumbered ts (es ++ e ∷ []) (xs ++ x ∷ [])
numbered_push ts [] [] e x h first second = (first, second, tt)
numbered_push ts [] (y ∷ xs) e x h first second = absurd h
numbered_push ts (d ∷ es) [] e x h first second = absurd h
numbered_push ts (d ∷ es) (y ∷ xs) e x h first second = (h.0, h.1, numbered_push ts es xs e x h.2 first second)

pub numbered_more : (old new : List Terminal) (es js : List (ℕ × ℕ)) (xs : List Ended) (i n : ℕ) (x : Ended) → i < length xs → x ≡ get_or xs i x → js ≡ es ++ (x.0, n) ∷ [] → Extends old new → slice_get new n ≡ Some x.1 → EndsAreNumbered old es (take i xs)
    → EndsAreNumbered new js (take (i + 1) xs)
numbered_more old new es js xs i n x within at pushed ext is h =
    subst (EndsAreNumbered new js) (sym (take_more xs i x within ∙ ap (λ y. take i xs ++ y ∷ []) (sym at)))
    (subst (λ ks. EndsAreNumbered new ks (take i xs ++ x ∷ [])) (sym pushed)
    (numbered_push new es (take i xs) (x.0, n) x (numbered_stays old new es (take i xs) ext h) refl is))

-- the terminal of one name more, if it leads to one
pub ends_more : (s : SetExports) (es fs whole : List Ended) (ps : List Pair) (o : Option Terminal) (n : ℕ) (d : Pair) → n < length ps → option_to_list o ≡ ends_in (targets_of s ((get_or ps n d).0, (get_or ps n d).1)) → fs ≡ es ++ map (λ t. (n, t)) (option_to_list o)
    → es ++ ends_from s n (drop n ps) ≡ whole → fs ++ ends_from s (n + 1) (drop (n + 1) ps) ≡ whole
ends_more s es fs whole ps o n d within is pushed inv =
    ap (λ xs. xs ++ ends_from s (n + 1) (drop (n + 1) ps)) (pushed ∙ ap (λ ts. es ++ map (λ t. (n, t)) ts) is)
    ∙ append_assoc es (map (λ t. (n, t)) (ends_in (targets_of s (get_or ps n d)))) (ends_from s (n + 1) (drop (n + 1) ps))
    ∙ sym (ap (λ xs. es ++ ends_from s n xs) (drop_more ps n d within))
    ∙ inv

pub ends_one : (s : SetExports) (es whole : List Ended) (ps : List Pair) (t : Terminal) (n : ℕ) (d : Pair) → n < length ps → (t ∷ []) ≡ ends_in (targets_of s ((get_or ps n d).0, (get_or ps n d).1))
    → es ++ ends_from s n (drop n ps) ≡ whole → (es ++ (n, t) ∷ []) ++ ends_from s (n + 1) (drop (n + 1) ps) ≡ whole
ends_one s es whole ps t n d within is inv = ends_more s es (es ++ (n, t) ∷ []) whole ps (Some t) n d within is refl inv

pub ends_none : (s : SetExports) (es whole : List Ended) (ps : List Pair) (n : ℕ) (d : Pair) → n < length ps → [] ≡ ends_in (targets_of s ((get_or ps n d).0, (get_or ps n d).1))
    → es ++ ends_from s n (drop n ps) ≡ whole → es ++ ends_from s (n + 1) (drop (n + 1) ps) ≡ whole
ends_none s es whole ps n d within is inv = ends_more s es es whole ps None n d within is (sym (append-nil es)) inv

-- numbers of names that have rows
pub ends_fit : (keys : List Pair) (es fs : List (ℕ × ℕ)) (vs ws : List (Vec ℕ Global)) → All (λ e. e.0 < length keys) es → length (lists vs) ≡ length keys → ws ≡ vs → fs ≡ es → All (λ e. e.0 < length ws) fs
ends_fit keys es fs vs ws below many rows same =
    let count : length keys ≡ length ws = sym many ∙ length-map vs (λ v. v.items) ∙ ap length (sym rows) in
    subst (All (λ e. e.0 < length ws)) (sym same) (subst (λ n. All (λ e. e.0 < n) es) count below)
