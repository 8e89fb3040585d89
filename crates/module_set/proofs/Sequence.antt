-- Modules that are read one after another.
use Rattle.std.proofs.Common.{◌≡◌, ◌<◌, ◌≤◌, inl, inr, ℕ, ◌+◌, List, [], ◌∷◌, ◌++◌, length, map, drop, drop-cons, get_or, add-one, Some, Result, refl, sym, ap, ◌∙◌, subst, append_assoc, append-nil}
use Rattle.std.proofs.Math.ListN.{drop_of_length-le}
use Rattle.std.specs.Str.{IsUtf8}
use Rattle.serde_json.specs.Data.{Data}
use Rattle.serde_json.specs.Read.{read}
use Rattle.semantic_tree.specs.Shaped.{IsShaped}
use Rattle.semantic_tree.specs.Tree.{Tree, IsNumbered}
use Rattle.semantic_tree.specs.declared.error.TreeError.{TreeError}
use Rattle.semantic_tree.specs.declared.error.TreeError.TheVariants as tree
use Rattle.tree_json.specs.Outcome.{IsWantOfMemory as IsWantAtTree}
use Rattle.tree_json.specs.Reading.{reading, Refuses}
use Rattle.tree_json.specs.WrittenForm.{AreWrittenForm, IsWrittenForm, IsReadAs as IsTreeReadAs}
use Rattle.module_set.specs.declared.error.LinkError.{LinkError}
use Rattle.module_set.specs.declared.error.LinkError.TheVariants.{NotJson, Shape, Tree as TreeRefused, NotModule, Twice, TwoExports, UnknownStar, Memory}
use Rattle.module_set.specs.declared.form.ModuleText.{ModuleText}
use Rattle.module_set.specs.declared.modules.Module.{Module}
use Rattle.module_set.specs.Outcome.{IsWantOfMemory}
use Rattle.module_set.specs.Reading.{IsRead, AreRead, told_at, IsRefusedAt, RefusedFrom}
use Rattle.module_set.specs.SetForm.{WrittenModule}
use Rattle.module_set.specs.Views.{module_seen}

-- the modules begin with these, and the others are read from what is left
pub record Continues (front : List Module) (left : List WrittenModule) (ms : List Module) : Type 0 where
  pub rest : List Module
  pub whole : ms ≡ front ++ rest
  pub read : AreRead left rest

-- ---- one more text

next_text : (texts : List ModuleText) (i : ℕ) (d : ModuleText) → i < length texts → map module_seen (drop i texts) ≡ module_seen (get_or texts i d) ∷ map module_seen (drop (i + 1) texts)
next_text texts i d within = rw (add-one, drop-cons texts i d) refl

pub read_more : (all : List WrittenModule) (texts : List ModuleText) (i : ℕ) (d : ModuleText) (ms ns : List Module) (m : Module) → i < length texts → IsRead (module_seen (get_or texts i d)) m → ns ≡ ms ++ m ∷ []
    → ((rest : List Module) → AreRead (map module_seen (drop i texts)) rest → AreRead all (ms ++ rest))
    → (rest : List Module) → AreRead (map module_seen (drop (i + 1) texts)) rest → AreRead all (ns ++ rest)
read_more all texts i d ms ns m within here pushed goes rest read =
    subst (AreRead all) (sym (append_assoc ms (m ∷ []) rest) ∙ ap (λ xs. xs ++ rest) (sym pushed))
    (goes (m ∷ rest) (subst (λ ws. AreRead ws (m ∷ rest)) (sym (next_text texts i d within)) (here, read)))

pub refused_later : (all : List WrittenModule) (texts : List ModuleText) (i : ℕ) (d : ModuleText) (m : Module) → i < length texts → IsRead (module_seen (get_or texts i d)) m
    → ((e : LinkError) → RefusedFrom i (map module_seen (drop i texts)) e → RefusedFrom 0 all e)
    → (e : LinkError) → RefusedFrom (i + 1) (map module_seen (drop (i + 1) texts)) e → RefusedFrom 0 all e
refused_later all texts i d m within here goes e refused =
    goes e (subst (λ ws. RefusedFrom i ws e) (sym (next_text texts i d within)) (inr ((m, here), refused)))

pub refused_here : (all : List WrittenModule) (texts : List ModuleText) (i : ℕ) (d : ModuleText) (e : LinkError) → i < length texts
    → ((e : LinkError) → RefusedFrom i (map module_seen (drop i texts)) e → RefusedFrom 0 all e)
    → IsRefusedAt i (module_seen (get_or texts i d)) e → RefusedFrom 0 all e
refused_here all texts i d e within goes at = goes e (subst (λ ws. RefusedFrom i ws e) (sym (next_text texts i d within)) (inl at))

first_read : (w : WrittenModule) (ws : List WrittenModule) (rest : List Module) → AreRead (w ∷ ws) rest → (m : Module) × (more : List Module) × (rest ≡ m ∷ more) × IsRead w m × AreRead ws more
first_read w ws [] read = absurd read
first_read w ws (m ∷ more) read = (m, more, refl, read.0, read.1)

-- what is read must be the next module
pub continues_more : (texts : List ModuleText) (i : ℕ) (d : ModuleText) (front next : List Module) (m : Module) (ms : List Module) → i < length texts
    → ((n : Module) → IsRead (module_seen (get_or texts i d)) n → m ≡ n) → next ≡ front ++ m ∷ []
    → Continues front (map module_seen (drop i texts)) ms → Continues next (map module_seen (drop (i + 1) texts)) ms
continues_more texts i d front next m ms within only pushed c =
    let read : AreRead (module_seen (get_or texts i d) ∷ map module_seen (drop (i + 1) texts)) c.rest = subst (λ ws. AreRead ws c.rest) (next_text texts i d within) c.read in
    let (n, more, is, here, later) = first_read (module_seen (get_or texts i d)) (map module_seen (drop (i + 1) texts)) c.rest read in
    let split : (front ++ m ∷ []) ++ more ≡ front ++ c.rest = append_assoc front (m ∷ []) more ∙ ap (λ x. front ++ x ∷ more) (only n here) ∙ ap (λ r. front ++ r) (sym is) in
    record { rest = more; whole = c.whole ∙ sym split ∙ ap (λ xs. xs ++ more) (sym pushed); read = later }

-- what isn't read is no module
pub want_only : (texts : List ModuleText) (i : ℕ) (d : ModuleText) (front ms : List Module) (e : LinkError) → i < length texts
    → ((n : Module) → IsRead (module_seen (get_or texts i d)) n → IsWantOfMemory e)
    → Continues front (map module_seen (drop i texts)) ms → IsWantOfMemory e
want_only texts i d front ms e within only c =
    let read : AreRead (module_seen (get_or texts i d) ∷ map module_seen (drop (i + 1) texts)) c.rest = subst (λ ws. AreRead ws c.rest) (next_text texts i d within) c.read in
    let (n, more, is, here, later) = first_read (module_seen (get_or texts i d)) (map module_seen (drop (i + 1) texts)) c.rest read in
    only n here

-- all texts are read
pub read_all : (all : List WrittenModule) (texts : List ModuleText) (i : ℕ) (ms ns : List Module) → length texts ≤ i → ns ≡ ms → ((rest : List Module) → AreRead (map module_seen (drop i texts)) rest → AreRead all (ms ++ rest)) → AreRead all ns
read_all all texts i ms ns past same goes =
    let end : drop i texts ≡ [] = drop_of_length-le texts past in
    subst (AreRead all) (append-nil ms ∙ sym same) (goes [] (subst (λ ts. AreRead (map module_seen ts) []) (sym end) tt))

pub continues_all : (front ms : List Module) → Continues front [] ms → front ≡ ms
continues_all front ms c = go c.rest c.whole c.read
  where
    go : (rest : List Module) → ms ≡ front ++ rest → AreRead [] rest → front ≡ ms
    go [] whole read = sym (whole ∙ append-nil front)
    go (m ∷ rest) whole read = absurd read

pub continues_end : (texts : List ModuleText) (i : ℕ) (front next ms : List Module) → length texts ≤ i → next ≡ front → Continues front (map module_seen (drop i texts)) ms → next ≡ ms
continues_end texts i front next ms past same c =
    let end : drop i texts ≡ [] = drop_of_length-le texts past in
    same ∙ continues_all front ms (subst (λ ts. Continues front (map module_seen ts) ms) end c)

-- ---- causes

-- what is not refused for another cause is refused for want of memory
pub only_memory : (e : LinkError) → ((¬ IsWantOfMemory e) → ⊥) → IsWantOfMemory e
only_memory NotJson h = h (λ x. x)
only_memory Shape h = h (λ x. x)
only_memory (TreeRefused n cause) h = h (λ x. x)
only_memory (NotModule n) h = h (λ x. x)
only_memory (Twice n) h = h (λ x. x)
only_memory (TwoExports n node) h = h (λ x. x)
only_memory (UnknownStar n node) h = h (λ x. x)
only_memory (Memory a) h = tt

pub told_want : (n : ℕ) (cause : TreeError) → IsWantAtTree cause → IsWantOfMemory (told_at n cause)
told_want n tree.NotJson h = absurd h
told_want n (tree.Shape place) h = absurd h
told_want n tree.TooMany h = absurd h
told_want n (tree.TooDeep place) h = absurd h
told_want n (tree.Span fault) h = absurd h
told_want n (tree.Memory wanting) h = tt

pub told_refused : (n : ℕ) (w : WrittenModule) (cause : TreeError) → (¬ IsWantAtTree cause → Refuses (reading w.tree) cause) → ¬ IsWantOfMemory (told_at n cause) → IsRefusedAt n w (told_at n cause)
told_refused n w tree.NotJson why other = record { cause = tree.NotJson; told = refl; other = other; why = why other }
told_refused n w (tree.Shape place) why other = record { cause = tree.Shape place; told = refl; other = other; why = why other }
told_refused n w tree.TooMany why other = record { cause = tree.TooMany; told = refl; other = other; why = why other }
told_refused n w (tree.TooDeep place) why other = record { cause = tree.TooDeep place; told = refl; other = other; why = why other }
told_refused n w (tree.Span fault) why other = record { cause = tree.Span fault; told = refl; other = other; why = why other }
told_refused n w (tree.Memory wanting) why other = absurd (other tt)

-- ---- one module

-- what the reader of trees gives is the program of each module that is written so
pub read_is : (w : WrittenModule) (bytes : List ℕ) (result : Result Tree TreeError) → bytes ≡ w.tree
    → ((d : Data) (p : Tree) → IsUtf8 bytes → read bytes ≡ Some d → IsWrittenForm d p → IsNumbered p.root → IsShaped p → IsTreeReadAs p result)
    → (m : Module) → IsRead w m → IsTreeReadAs m.program result
read_is w bytes result same complete m is =
    let form : AreWrittenForm bytes m.program = subst (λ b. AreWrittenForm b m.program) (sym same) is.tree in
    complete form.1.0 m.program form.0 form.1.1 form.1.2 is.numbered is.shaped

pub refused_at : (n : ℕ) (w : WrittenModule) (bytes : List ℕ) (cause : TreeError) (e : LinkError) → e ≡ told_at n cause → bytes ≡ w.tree → (¬ IsWantAtTree cause → Refuses (reading bytes) cause) → ¬ IsWantOfMemory e → IsRefusedAt n w e
refused_at n w bytes cause e is same why other =
    subst (IsRefusedAt n w) (sym is) (told_refused n w cause (subst (λ b. ¬ IsWantAtTree cause → Refuses (reading b) cause) same why) (subst (λ x. ¬ IsWantOfMemory x) is other))

pub want_at : (n : ℕ) (cause : TreeError) (e : LinkError) → e ≡ told_at n cause → IsWantAtTree cause → IsWantOfMemory e
want_at n cause e is want = subst IsWantOfMemory (sym is) (told_want n cause want)
