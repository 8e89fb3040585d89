-- Targets stand for ends, one for one.
use Rattle.std.proofs.Common.{◌≡◌, inl, inr, ℕ, List, [], ◌∷◌, true, Option, Some, None, refl, sym, ap, ◌∙◌, slice_get}
use Rattle.std.specs.Prelude.{option_map, option_and_then}
use Rattle.reachability.specs.Rows.{Among}
use Rattle.semantic_syntax.specs.Tables.{Name}
use Rattle.link_model.specs.Leads.{LinkEnd, pair, symbol, default_of, namespace_of, outside, is_terminal}
use Rattle.link_search.specs.Ends.{AreApart}
use Rattle.link_search.specs.Targets.{is_end}
use Rattle.link_search.specs.declared.target.Target.{Target}
use Rattle.link_search.specs.declared.target.Target.TheVariants as target
use Rattle.link_search.specs.declared.terminal.Terminal.{Terminal}
use Rattle.link_search.specs.declared.terminal.Terminal.TheVariants as terminal
use Rattle.link_search.proofs.Members.{some_same}
use Rattle.link_targets.specs.Denoted.{outside_of, terminal_denoted, denoted, AreDenoted}

pub mapped_some : {A B : Type 0} (f : A → B) (o : Option A) (y : B) → option_map f o ≡ Some y → (x : A) × (o ≡ Some x) × (f x ≡ y)
mapped_some f None y h = absurd cc
mapped_some f (Some x) y h = (x, refl, some_same (f x) y h)

pub bound_some : {A B : Type 0} (f : A → Option B) (o : Option A) (y : B) → option_and_then f o ≡ Some y → (x : A) × (o ≡ Some x) × (f x ≡ Some y)
bound_some f None y h = absurd cc
bound_some f (Some x) y h = (x, refl, h)

-- the texts of an outside terminal
pub record IsOutside (texts : List Name) (k : ℕ) (name : Option ℕ) (e : LinkEnd) : Type 0 where
  pub source : Name
  pub source_there : slice_get texts k ≡ Some source
  pub asked : outside_of texts name source ≡ Some e

pub is_outside : (texts : List Name) (k : ℕ) (name : Option ℕ) (e : LinkEnd) → terminal_denoted texts (terminal.Outside k name) ≡ Some e → IsOutside texts k name e
is_outside texts k name e h =
    let w : (x : Name) × (slice_get texts k ≡ Some x) × (outside_of texts name x ≡ Some e) = bound_some (outside_of texts name) (slice_get texts k) e h in
    record { source = w.0; source_there = w.1; asked = w.2 }

-- the name of an outside terminal
pub outside_is : (texts : List Name) (name : Option ℕ) (source : Name) (e : LinkEnd) → outside_of texts name source ≡ Some e → (asked : Option Name) × (outside source asked ≡ e)
outside_is texts None source e h = (None, some_same (outside source None) e h)
outside_is texts (Some l) source e h =
    let w : (x : Name) × (slice_get texts l ≡ Some x) × (outside source (Some x) ≡ e) = mapped_some (λ x. outside source (Some x)) (slice_get texts l) e h in (Some w.0, w.2)

-- a terminal stands for a terminal
pub terminal_is : (texts : List Name) (t : Terminal) (e : LinkEnd) → terminal_denoted texts t ≡ Some e → is_terminal e ≡ true
terminal_is texts (terminal.Symbol m s) e h = ap is_terminal (sym (some_same (symbol m s) e h))
terminal_is texts (terminal.Default m) e h = ap is_terminal (sym (some_same (default_of m) e h))
terminal_is texts (terminal.Namespace m) e h = ap is_terminal (sym (some_same (namespace_of m) e h))
terminal_is texts (terminal.Outside k name) e h =
    let w : IsOutside texts k name e = is_outside texts k name e h in
    let v : (asked : Option Name) × (outside w.source asked ≡ e) = outside_is texts name w.source e w.asked in
    ap is_terminal (sym v.1)

-- and a name for a name
pub same_kind : (texts : List Name) (t : Target) (e : LinkEnd) → denoted texts t ≡ Some e → is_terminal e ≡ is_end t
same_kind texts (target.Name m k) e h =
    let w : (x : Name) × (slice_get texts k ≡ Some x) × (pair m x ≡ e) = mapped_some (λ x. pair m x) (slice_get texts k) e h in ap is_terminal (sym w.2)
same_kind texts (target.End t) e h = terminal_is texts t e h

-- ---- terminals that stand for one

module _ (texts : List Name) (apart : AreApart texts) where
  asked_same : (a b : Option ℕ) (x y : Name) (e : LinkEnd) → outside_of texts a x ≡ Some e → outside_of texts b y ≡ Some e → (x ≡ y) × (a ≡ b)
  asked_same None None x y e h k = let f : outside x None ≡ outside y None = some_same (outside x None) e h ∙ sym (some_same (outside y None) e k) in (source_same x y None None f, refl)
    where
      source_same : (x y : Name) (a b : Option Name) → outside x a ≡ outside y b → x ≡ y
      source_same x y a b f = cc
  asked_same None (Some l) x y e h k =
      let w : (z : Name) × (slice_get texts l ≡ Some z) × (outside y (Some z) ≡ e) = mapped_some (λ z. outside y (Some z)) (slice_get texts l) e k in
      absurd (let f : outside x None ≡ outside y (Some w.0) = some_same (outside x None) e h ∙ sym w.2 in differ x y w.0 f)
    where
      differ : (x y z : Name) → outside x None ≡ outside y (Some z) → ⊥
      differ x y z f = let g : None ≡ Some z = cc in cc
  asked_same (Some l) None x y e h k =
      let w : (z : Name) × (slice_get texts l ≡ Some z) × (outside x (Some z) ≡ e) = mapped_some (λ z. outside x (Some z)) (slice_get texts l) e h in
      absurd (let f : outside y None ≡ outside x (Some w.0) = some_same (outside y None) e k ∙ sym w.2 in differ y x w.0 f)
    where
      differ : (x y z : Name) → outside x None ≡ outside y (Some z) → ⊥
      differ x y z f = let g : None ≡ Some z = cc in cc
  asked_same (Some l) (Some n) x y e h k =
      let v : (z : Name) × (slice_get texts l ≡ Some z) × (outside x (Some z) ≡ e) = mapped_some (λ z. outside x (Some z)) (slice_get texts l) e h in
      let w : (z : Name) × (slice_get texts n ≡ Some z) × (outside y (Some z) ≡ e) = mapped_some (λ z. outside y (Some z)) (slice_get texts n) e k in
      let f : outside x (Some v.0) ≡ outside y (Some w.0) = v.2 ∙ sym w.2 in
      let same : (x ≡ y) × (v.0 ≡ w.0) = both x y v.0 w.0 f in
      (same.0, ap (λ z. Some z) (apart l n w.0 (v.1 ∙ ap (λ z. Some z) same.1) w.1))
    where
      both : (x y a b : Name) → outside x (Some a) ≡ outside y (Some b) → (x ≡ y) × (a ≡ b)
      both x y a b f = (cc, (let g : Some a ≡ Some b = cc in some_same a b g))

  abbrev stands : Terminal → LinkEnd → Type 0
  stands t e = terminal_denoted texts t ≡ Some e

  symbols_same : (m s n r : ℕ) (e : LinkEnd) → Some (symbol m s) ≡ Some e → Some (symbol n r) ≡ Some e → terminal.Symbol m s ≡ terminal.Symbol n r
  symbols_same m s n r e h k = go m s n r (some_same (symbol m s) e h ∙ sym (some_same (symbol n r) e k))
    where
      go : (m s n r : ℕ) → symbol m s ≡ symbol n r → terminal.Symbol m s ≡ terminal.Symbol n r
      go m s n r f = cc

  -- an outside terminal stands for none of the others
  not_outside : (k : ℕ) (name : Option ℕ) (e f : LinkEnd) → stands (terminal.Outside k name) e → f ≡ e → ((x : Name) (asked : Option Name) → outside x asked ≡ f → ⊥) → ⊥
  not_outside k name e f h same never =
      let w : IsOutside texts k name e = is_outside texts k name e h in
      let v : (asked : Option Name) × (outside w.source asked ≡ e) = outside_is texts name w.source e w.asked in
      never w.source v.0 (v.1 ∙ sym same)

  one_terminal : (t u : Terminal) (e : LinkEnd) → stands t e → stands u e → t ≡ u
  one_terminal (terminal.Symbol m s) (terminal.Symbol n r) e h k = symbols_same m s n r e h k
  one_terminal (terminal.Symbol m s) (terminal.Default n) e h k = absurd (let f : Some (symbol m s) ≡ Some (default_of n) = h ∙ sym k in let g : symbol m s ≡ default_of n = some_same (symbol m s) (default_of n) f in cc)
  one_terminal (terminal.Symbol m s) (terminal.Namespace n) e h k = absurd (let f : Some (symbol m s) ≡ Some (namespace_of n) = h ∙ sym k in let g : symbol m s ≡ namespace_of n = some_same (symbol m s) (namespace_of n) f in cc)
  one_terminal (terminal.Symbol m s) (terminal.Outside l b) e h k = absurd (not_outside l b e (symbol m s) k (some_same (symbol m s) e h) (λ x asked f. cc))
  one_terminal (terminal.Default m) (terminal.Symbol n r) e h k = absurd (let f : Some (default_of m) ≡ Some (symbol n r) = h ∙ sym k in let g : default_of m ≡ symbol n r = some_same (default_of m) (symbol n r) f in cc)
  one_terminal (terminal.Default m) (terminal.Default n) e h k = let f : default_of m ≡ default_of n = some_same (default_of m) (default_of n) (h ∙ sym k) in let g : m ≡ n = cc in ap (λ x. terminal.Default x) g
  one_terminal (terminal.Default m) (terminal.Namespace n) e h k = absurd (let f : Some (default_of m) ≡ Some (namespace_of n) = h ∙ sym k in let g : default_of m ≡ namespace_of n = some_same (default_of m) (namespace_of n) f in cc)
  one_terminal (terminal.Default m) (terminal.Outside l b) e h k = absurd (not_outside l b e (default_of m) k (some_same (default_of m) e h) (λ x asked f. cc))
  one_terminal (terminal.Namespace m) (terminal.Symbol n r) e h k = absurd (let f : Some (namespace_of m) ≡ Some (symbol n r) = h ∙ sym k in let g : namespace_of m ≡ symbol n r = some_same (namespace_of m) (symbol n r) f in cc)
  one_terminal (terminal.Namespace m) (terminal.Default n) e h k = absurd (let f : Some (namespace_of m) ≡ Some (default_of n) = h ∙ sym k in let g : namespace_of m ≡ default_of n = some_same (namespace_of m) (default_of n) f in cc)
  one_terminal (terminal.Namespace m) (terminal.Namespace n) e h k = let f : namespace_of m ≡ namespace_of n = some_same (namespace_of m) (namespace_of n) (h ∙ sym k) in let g : m ≡ n = cc in ap (λ x. terminal.Namespace x) g
  one_terminal (terminal.Namespace m) (terminal.Outside l b) e h k = absurd (not_outside l b e (namespace_of m) k (some_same (namespace_of m) e h) (λ x asked f. cc))
  one_terminal (terminal.Outside l b) (terminal.Symbol n r) e h k = absurd (not_outside l b e (symbol n r) h (some_same (symbol n r) e k) (λ x asked f. cc))
  one_terminal (terminal.Outside l b) (terminal.Default n) e h k = absurd (not_outside l b e (default_of n) h (some_same (default_of n) e k) (λ x asked f. cc))
  one_terminal (terminal.Outside l b) (terminal.Namespace n) e h k = absurd (not_outside l b e (namespace_of n) h (some_same (namespace_of n) e k) (λ x asked f. cc))
  one_terminal (terminal.Outside l b) (terminal.Outside n d) e h k =
      let v : IsOutside texts l b e = is_outside texts l b e h in
      let w : IsOutside texts n d e = is_outside texts n d e k in
      let same : (v.source ≡ w.source) × (b ≡ d) = asked_same b d v.source w.source e v.asked w.asked in
      let number : l ≡ n = apart l n w.source (v.source_there ∙ ap (λ z. Some z) same.0) w.source_there in
      λ i. terminal.Outside (number i) (same.1 i)

  -- terminals that stand for one are one
  pub one_end : (t u : Target) (e : LinkEnd) → is_end t ≡ true → is_end u ≡ true → denoted texts t ≡ Some e → denoted texts u ≡ Some e → t ≡ u
  one_end (target.Name m k) u e a b h l = absurd cc
  one_end (target.End t) (target.Name m k) e a b h l = absurd cc
  one_end (target.End t) (target.End u) e a b h l = ap (λ x. target.End x) (one_terminal t u e h l)

-- ---- lists

pub member_end : (texts : List Name) (ts : List Target) (es : List LinkEnd) → AreDenoted texts ts es → (t : Target) → Among t ts → (e : LinkEnd) × (denoted texts t ≡ Some e) × Among e es
member_end texts [] es h t i = absurd i
member_end texts (u ∷ ts) [] h t i = absurd h
member_end texts (u ∷ ts) (e ∷ es) h t (inl same) = (e, ap (denoted texts) (sym same) ∙ h.0, inl refl)
member_end texts (u ∷ ts) (e ∷ es) h t (inr i) =
    let w : (f : LinkEnd) × (denoted texts t ≡ Some f) × Among f es = member_end texts ts es h.1 t i in (w.0, w.1, inr w.2)

pub member_target : (texts : List Name) (ts : List Target) (es : List LinkEnd) → AreDenoted texts ts es → (e : LinkEnd) → Among e es → (t : Target) × (denoted texts t ≡ Some e) × Among t ts
member_target texts ts [] h e i = absurd i
member_target texts [] (f ∷ es) h e i = absurd h
member_target texts (t ∷ ts) (f ∷ es) h e (inl same) = (t, h.0 ∙ ap (λ g. Some g) same, inl refl)
member_target texts (t ∷ ts) (f ∷ es) h e (inr i) =
    let w : (u : Target) × (denoted texts u ≡ Some e) × Among u ts = member_target texts ts es h.1 e i in (w.0, w.1, inr w.2)
