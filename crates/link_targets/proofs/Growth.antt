-- Texts that get numbers keep those that have them.
use Rattle.std.proofs.Common.{◌≡◌, ◌⊎◌, inl, inr, ℕ, zero, suc, List, [], ◌∷◌, ◌++◌, Bool, true, false, ◌||◌, cond, Option, Some, None, refl, sym, ap, subst, ◌∙◌, slice_get, length}
use Rattle.std.specs.List.{list_any}
use Rattle.std.specs.Prelude.{option_map, option_and_then}
use Rattle.std.specs.Str.{bytes_eq}
use Rattle.std.proofs.lemmas.Slice.Eq.{bytes_eq-Decides}
use Rattle.semantic_syntax.specs.Tables.{Name}
use Rattle.tree_json.specs.Written.{and_text}
use Rattle.link_model.specs.Leads.{LinkEnd, pair, outside}
use Rattle.link_search.specs.Ends.{AreApart}
use Rattle.link_search.specs.declared.target.Target.{Target}
use Rattle.link_search.specs.declared.target.Target.TheVariants as target
use Rattle.link_search.specs.declared.terminal.Terminal.{Terminal}
use Rattle.link_search.specs.declared.terminal.Terminal.TheVariants as terminal
use Rattle.link_search.proofs.Members.{some_same}
use Rattle.link_targets.specs.Denoted.{outside_of, terminal_denoted, denoted, AreDenoted, Grows}
use Rattle.link_targets.proofs.Denotes.{mapped_some, IsOutside, is_outside}

stays : {A : Type 0} (xs more : List A) (i : ℕ) (x : A) → slice_get xs i ≡ Some x → slice_get (xs ++ more) i ≡ Some x
stays [] more i x e = absurd cc
stays (y ∷ xs) more zero x e = e
stays (y ∷ xs) more (suc i) x e = stays xs more i x e

-- an element is one of before, or the last
last_or : {A : Type 0} (xs : List A) (y : A) (i : ℕ) (z : A) → slice_get (xs ++ y ∷ []) i ≡ Some z → (slice_get xs i ≡ Some z) ⊎ ((i ≡ length xs) × (y ≡ z))
last_or [] y zero z e = inr (refl, some_same y z e)
last_or [] y (suc i) z e = absurd cc
last_or (x ∷ xs) y zero z e = inl e
last_or (x ∷ xs) y (suc i) z e = elim (last_or xs y i z e) [ inl f ↦ inl f | inr f ↦ inr (ap suc f.0, f.1) ]

unlike : (x : Name) (xs : List Name) (i : ℕ) → list_any (bytes_eq x) xs ≡ false → slice_get xs i ≡ Some x → ⊥
unlike x [] i none e = cc
unlike x (y ∷ xs) zero none e = go (bytes_eq x y) ((bytes_eq-Decides x y).1 (sym (some_same y x e))) none
  where
    go : (b : Bool) → b ≡ true → (b || list_any (bytes_eq x) xs) ≡ false → ⊥
    go true h k = cc
    go false h k = cc
unlike x (y ∷ xs) (suc i) none e = go (bytes_eq x y) none (λ k. unlike x xs i k e)
  where
    go : (b : Bool) → (b || list_any (bytes_eq x) xs) ≡ false → (list_any (bytes_eq x) xs ≡ false → ⊥) → ⊥
    go true k more = cc
    go false k more = more k

apart_push : (xs : List Name) (x : Name) → list_any (bytes_eq x) xs ≡ false → AreApart xs → AreApart (xs ++ x ∷ [])
apart_push xs x none apart i j z e f = go (last_or xs x i z e) (last_or xs x j z f)
  where
    go : (slice_get xs i ≡ Some z) ⊎ ((i ≡ length xs) × (x ≡ z)) → (slice_get xs j ≡ Some z) ⊎ ((j ≡ length xs) × (x ≡ z)) → i ≡ j
    go (inl a) (inl b) = apart i j z a b
    go (inl a) (inr b) = absurd (unlike x xs i none (a ∙ ap (λ y. Some y) (sym b.1)))
    go (inr a) (inl b) = absurd (unlike x xs j none (b ∙ ap (λ y. Some y) (sym a.1)))
    go (inr a) (inr b) = a.0 ∙ sym b.0

pub grows_and : (old : List Name) (x : Name) → Grows old (and_text old x)
grows_and old x = go (list_any (bytes_eq x) old) refl
  where
    go : (b : Bool) → list_any (bytes_eq x) old ≡ b → Grows old (cond b old (old ++ x ∷ []))
    go true h = record { extends = λ i z e. e; apart = λ a. a }
    go false h = record { extends = λ i z e. stays old (x ∷ []) i z e; apart = λ a. apart_push old x h a }

pub grown : (old new : List Name) (x : Name) → new ≡ and_text old x → Grows old new
grown old new x e = subst (Grows old) (sym e) (grows_and old x)

pub grows_same : (texts : List Name) → Grows texts texts
grows_same texts = record { extends = λ i z e. e; apart = λ a. a }

pub grows_on : (a b c : List Name) → Grows a b → Grows b c → Grows a c
grows_on a b c g h = record { extends = λ i z e. h.extends i z (g.extends i z e); apart = λ x. h.apart (g.apart x) }

-- ---- what is denoted stays so

module _ (old new : List Name) (grows : Grows old new) where
  outside_stays : (name : Option ℕ) (source : Name) (e : LinkEnd) → outside_of old name source ≡ Some e → outside_of new name source ≡ Some e
  outside_stays None source e h = h
  outside_stays (Some k) source e h =
      let w : (x : Name) × (slice_get old k ≡ Some x) × (outside source (Some x) ≡ e) = mapped_some (λ x. outside source (Some x)) (slice_get old k) e h in
      ap (option_map (λ x. outside source (Some x))) (grows.extends k w.0 w.1) ∙ ap (λ x. Some x) w.2

  terminal_stays : (t : Terminal) (e : LinkEnd) → terminal_denoted old t ≡ Some e → terminal_denoted new t ≡ Some e
  terminal_stays (terminal.Symbol m s) e h = h
  terminal_stays (terminal.Default m) e h = h
  terminal_stays (terminal.Namespace m) e h = h
  terminal_stays (terminal.Outside k name) e h =
      let w : IsOutside old k name e = is_outside old k name e h in
      ap (option_and_then (outside_of new name)) (grows.extends k w.source w.source_there) ∙ outside_stays name w.source e w.asked

  pub denoted_stays : (t : Target) (e : LinkEnd) → denoted old t ≡ Some e → denoted new t ≡ Some e
  denoted_stays (target.Name m k) e h =
      let w : (x : Name) × (slice_get old k ≡ Some x) × (pair m x ≡ e) = mapped_some (λ x. pair m x) (slice_get old k) e h in
      ap (option_map (λ x. pair m x)) (grows.extends k w.0 w.1) ∙ ap (λ x. Some x) w.2
  denoted_stays (target.End t) e h = terminal_stays t e h

  pub all_stay : (ts : List Target) (es : List LinkEnd) → AreDenoted old ts es → AreDenoted new ts es
  all_stay [] [] h = tt
  all_stay [] (e ∷ es) h = absurd h
  all_stay (t ∷ ts) [] h = absurd h
  all_stay (t ∷ ts) (e ∷ es) h = (denoted_stays t e h.0, all_stay ts es h.1)
