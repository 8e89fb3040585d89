-- What the walk keeps.
use Rattle.std.proofs.Common.{◌≡◌, ◌≢◌, ◌<◌, ◌≤◌, ◌+◌, ◌⊎◌, inl, inr, ℕ, zero, suc, List, [], ◌∷◌, ◌++◌, ◌||◌, refl, sym, ap, subst, ◌∙◌, length, get_or, set, replicate, arith, All, Bool, true, false, length-set, get_or-set_same, get_or-set_other, map}
use Rattle.std.specs.List.{list_any}
use Rattle.std.proofs.lemmas.List.{length-replicate}
use Rattle.std.proofs.lemmas.List.Elements.{All-head, All-tail}
use Rattle.std.proofs.lemmas.Bool.{cases_eq}
use Rattle.reachability.specs.Rows.{Among, row, AreWithin}
use Rattle.reachability.proofs.Lists.{among_left, row_within}
use Rattle.link_search.specs.declared.rings.Mark.{Mark}
use Rattle.link_search.specs.declared.rings.Mark.TheVariants as mark
use Rattle.link_search.specs.declared.rings.Task.{Task}
use Rattle.link_search.specs.declared.rings.Task.TheVariants as task
use Rattle.link_search.specs.Steps.{Leads, LeadsOn, LeadsToRing}
use Rattle.link_search.specs.Walked.{Walked, mark_of, is_new, is_ring, turns, enter_tasks, number_entered, any_turns, mark_for, number_left}
use Rattle.link_search.specs.Keeping.{weight, task_number, WaysEnd, they_end, Linked, IsMet, Handled, Knows, Within, Keeps, Turned}
use Rattle.link_search.proofs.Weight.{weight_entered, weight_left, length_entering}
use Rattle.link_search.proofs.WaysEnding.{step_on, one_step, leads_to_none, ring_before}

module _ (rows : List (List ℕ)) where
  seen_more : (marks others : List Mark) (before after : List ℕ) (c : ℕ) → ((b : ℕ) → IsMet rows marks before b → IsMet rows others after b) → (b : ℕ) → IsMet rows marks (c ∷ before) b → IsMet rows others (c ∷ after) b
  seen_more marks others before after c h b (inl e) = later (h b (inl e))
    where
      later : IsMet rows others after b → IsMet rows others (c ∷ after) b
      later (inl f) = inl f
      later (inr f) = inr (inr f)
  seen_more marks others before after c h b (inr (inl e)) = inr (inl e)
  seen_more marks others before after c h b (inr (inr i)) = later (h b (inr i))
    where
      later : IsMet rows others after b → IsMet rows others (c ∷ after) b
      later (inl f) = inl f
      later (inr f) = inr (inr f)

  handled_more : (marks others : List Mark) (before after : List ℕ) (ts : List Task) → ((b : ℕ) → IsMet rows marks before b → IsMet rows others after b) → Handled rows marks before ts → Handled rows others after ts
  handled_more marks others before after [] h k = tt
  handled_more marks others before after (task.Enter c ∷ ts) h k = handled_more marks others (c ∷ before) (c ∷ after) ts (seen_more marks others before after c h) k
  handled_more marks others before after (task.Leave a ∷ ts) h k = ((λ b i. h b (k.0 b i)), handled_more marks others before after ts h k.1)

  -- a mark that isn't new keeps what was entered
  pub entered_stays : (marks : List Mark) (a b : ℕ) (m : Mark) → a < length marks → is_new m ≡ false → is_new (mark_of marks b) ≡ false → is_new (mark_of (set marks a m) b) ≡ false
  entered_stays marks a b m h e f = go (cases_eq b a)
    where
      go : (b ≡ a) ⊎ (b ≢ a) → is_new (mark_of (set marks a m) b) ≡ false
      go (inl same) = subst (λ c. is_new (mark_of (set marks a m) c) ≡ false) (sym same) (ap is_new (get_or-set_same marks a m mark.New h) ∙ e)
      go (inr other) = ap is_new (get_or-set_other marks a b m mark.New other) ∙ f

  now_entered : (marks : List Mark) (a : ℕ) (m : Mark) → a < length marks → is_new m ≡ false → is_new (mark_of (set marks a m) a) ≡ false
  now_entered marks a m h e = ap is_new (get_or-set_same marks a m mark.New h) ∙ e

  among_entering : (t : Task) (bs : List ℕ) (ts : List Task) → Among t ts → Among t (enter_tasks bs ts)
  among_entering t [] ts i = i
  among_entering t (b ∷ bs) ts i = among_entering t bs (task.Enter b ∷ ts) (inr i)

  not_left : (a c : ℕ) → task.Enter a ≡ task.Leave c → ⊥
  not_left a c e = absurd cc

  not_entered : (a c : ℕ) → task.Leave a ≡ task.Enter c → ⊥
  not_entered a c e = absurd cc

  linked_entering : (bs : List ℕ) (ts : List Task) → Linked rows ts → ((b : ℕ) → Among b bs → (c : ℕ) → Among (task.Leave c) ts → LeadsOn rows c b) → Linked rows (enter_tasks bs ts)
  linked_entering [] ts l h = l
  linked_entering (b ∷ bs) ts l h = linked_entering bs (task.Enter b ∷ ts) ((λ c i. h b (inl refl) c i), l) (λ d j c i. past d j c i)
    where
      past : (d : ℕ) → Among d bs → (c : ℕ) → Among (task.Leave c) (task.Enter b ∷ ts) → LeadsOn rows c d
      past d j c (inl e) = absurd (not_left b c e)
      past d j c (inr i) = h d (inr j) c i

  handled_entering : (marks : List Mark) (before bs : List ℕ) (ts : List Task) → Handled rows marks (bs ++ before) ts → Handled rows marks before (enter_tasks bs ts)
  handled_entering marks before [] ts h = h
  handled_entering marks before (b ∷ bs) ts h = handled_entering marks before bs (task.Enter b ∷ ts) h

  within_entering : (n : ℕ) (bs : List ℕ) (ts : List Task) → All (λ b. b < n) bs → Within rows n ts → Within rows n (enter_tasks bs ts)
  within_entering n [] ts h w = w
  within_entering n (b ∷ bs) ts h w = within_entering n bs (task.Enter b ∷ ts) (All-tail (λ c. c < n) b bs h) (All-head (λ c. c < n) b bs h, w)

  knows_kept : (m : Mark) (ts us : List Task) (x : ℕ) → (Among (task.Leave x) ts → Among (task.Leave x) us) → Knows rows m ts x → Knows rows m us x
  knows_kept mark.New ts us x h k = tt
  knows_kept mark.Open ts us x h k = h k
  knows_kept mark.Straight ts us x h k = k
  knows_kept mark.Ring ts us x h k = k

  module _ (n : ℕ) (marks : List Mark) (a : ℕ) (ts : List Task) where
    -- a number that was entered before is passed
    pub passes : Keeps rows n (record { marks = marks; tasks = task.Enter a ∷ ts }) → is_new (mark_of marks a) ≡ false → Turned rows n (record { marks = marks; tasks = task.Enter a ∷ ts }) (record { marks = marks; tasks = ts })
    passes k e = record {
      keeps = record {
        size = k.size;
        within = k.within.1;
        linked = k.linked.1;
        handled = handled_more marks marks (a ∷ []) [] ts seen k.handled;
        knows = λ x. knows_kept (mark_of marks x) (task.Enter a ∷ ts) ts x (there x) (k.knows x);
      };
      less = omega arith;
      grows = λ b f. f;
      to_enter = λ b i. entered_now b i;
    }
      where
        seen : (b : ℕ) → IsMet rows marks (a ∷ []) b → IsMet rows marks [] b
        seen b (inl f) = inl f
        seen b (inr (inl same)) = inl (subst (λ c. is_new (mark_of marks c) ≡ false) same e)
        seen b (inr (inr none)) = absurd none

        there : (x : ℕ) → Among (task.Leave x) (task.Enter a ∷ ts) → Among (task.Leave x) ts
        there x (inl f) = absurd (not_left a x f)
        there x (inr i) = i

        entered_now : (b : ℕ) → Among (task.Enter b) (task.Enter a ∷ ts) → (is_new (mark_of marks b) ≡ false) ⊎ Among (task.Enter b) ts
        entered_now b (inl f) = inl (subst (λ c. is_new (mark_of marks c) ≡ false) (ap task_number f) e)
        entered_now b (inr i) = inr i

    -- a new number is entered
    pub enters : AreWithin n rows → Keeps rows n (record { marks = marks; tasks = task.Enter a ∷ ts }) → is_new (mark_of marks a) ≡ true → Turned rows n (record { marks = marks; tasks = task.Enter a ∷ ts }) (number_entered (record { marks = marks; tasks = ts }) a (row rows a))
    enters r k e =
        let h : a < length marks = subst (λ m. a < m) (sym k.size) k.within.0 in
        record {
          keeps = record {
            size = length-set marks a mark.Open ∙ k.size;
            within = within_entering n (row rows a) (task.Leave a ∷ ts) (row_within n rows a r) (k.within.0, k.within.1);
            linked = linked_entering (row rows a) (task.Leave a ∷ ts) (k.linked.0, k.linked.1) links;
            handled = handled_entering (set marks a mark.Open) [] (row rows a) (task.Leave a ∷ ts) ((λ b i. inr (among_left b (row rows a) [] i)), handled_more marks (set marks a mark.Open) (a ∷ []) (row rows a ++ []) ts (seen h) k.handled);
            knows = λ x. knows h x (cases_eq x a);
          };
          less = (let one : weight (set marks a mark.Open) rows + length (row rows a) + 2 ≡ weight marks rows = weight_entered marks rows a mark.Open h e refl in let two : length (enter_tasks (row rows a) (task.Leave a ∷ ts)) ≡ length (row rows a) + length (task.Leave a ∷ ts) = length_entering (row rows a) (task.Leave a ∷ ts) in omega (arith, one, two));
          grows = λ b f. entered_stays marks a b mark.Open h refl f;
          to_enter = λ b i. entered_now h b i;
        }
      where
        links : (b : ℕ) → Among b (row rows a) → (c : ℕ) → Among (task.Leave c) (task.Leave a ∷ ts) → LeadsOn rows c b
        links b i c (inl f) = subst (λ d. LeadsOn rows d b) (ap task_number f) (one_step rows a b i)
        links b i c (inr j) = step_on rows c a b (k.linked.0 c j) i

        seen : a < length marks → (b : ℕ) → IsMet rows marks (a ∷ []) b → IsMet rows (set marks a mark.Open) (row rows a ++ []) b
        seen h b (inl f) = inl (entered_stays marks a b mark.Open h refl f)
        seen h b (inr (inl same)) = inl (subst (λ c. is_new (mark_of (set marks a mark.Open) c) ≡ false) same (now_entered marks a mark.Open h refl))
        seen h b (inr (inr none)) = absurd none

        there : (x : ℕ) → Among (task.Leave x) (task.Enter a ∷ ts) → Among (task.Leave x) (enter_tasks (row rows a) (task.Leave a ∷ ts))
        there x (inl f) = absurd (not_left a x f)
        there x (inr i) = among_entering (task.Leave x) (row rows a) (task.Leave a ∷ ts) (inr i)

        knows : a < length marks → (x : ℕ) → (x ≡ a) ⊎ (x ≢ a) → Knows rows (mark_of (set marks a mark.Open) x) (enter_tasks (row rows a) (task.Leave a ∷ ts)) x
        knows h x (inl same) =
            subst (λ y. Knows rows (mark_of (set marks a mark.Open) y) (enter_tasks (row rows a) (task.Leave a ∷ ts)) y) (sym same)
            (subst (λ m. Knows rows m (enter_tasks (row rows a) (task.Leave a ∷ ts)) a) (sym (get_or-set_same marks a mark.Open mark.New h))
            (among_entering (task.Leave a) (row rows a) (task.Leave a ∷ ts) (inl refl)))
        knows h x (inr other) =
            subst (λ m. Knows rows m (enter_tasks (row rows a) (task.Leave a ∷ ts)) x) (sym (get_or-set_other marks a x mark.Open mark.New other))
            (knows_kept (mark_of marks x) (task.Enter a ∷ ts) (enter_tasks (row rows a) (task.Leave a ∷ ts)) x (there x) (k.knows x))

        entered_now : a < length marks → (b : ℕ) → Among (task.Enter b) (task.Enter a ∷ ts) → (is_new (mark_of (set marks a mark.Open) b) ≡ false) ⊎ Among (task.Enter b) (enter_tasks (row rows a) (task.Leave a ∷ ts))
        entered_now h b (inl f) = inl (subst (λ c. is_new (mark_of (set marks a mark.Open) c) ≡ false) (ap task_number f) (now_entered marks a mark.Open h refl))
        entered_now h b (inr i) = inr (among_entering (task.Enter b) (row rows a) (task.Leave a ∷ ts) (inr i))

    found : (test : ℕ → Bool) (bs : List ℕ) → list_any test bs ≡ true → (b : ℕ) × Among b bs × (test b ≡ true)
    found test [] e = absurd cc
    found test (b ∷ bs) e = go (test b) refl (λ f. found test bs f) e
      where
        go : (x : Bool) → test b ≡ x → (list_any test bs ≡ true → (c : ℕ) × Among c bs × (test c ≡ true)) → (x || list_any test bs) ≡ true → (c : ℕ) × Among c (b ∷ bs) × (test c ≡ true)
        go true f more e = (b, inl refl, f)
        go false f more e = let r : (c : ℕ) × Among c bs × (test c ≡ true) = more e in (r.0, inr r.1, r.2)

    none : (test : ℕ → Bool) (bs : List ℕ) → list_any test bs ≡ false → (b : ℕ) → Among b bs → test b ≡ false
    none test [] e b i = absurd i
    none test (c ∷ bs) e b i = go (test c) refl (λ f j. none test bs f b j) e i
      where
        go : (x : Bool) → test c ≡ x → (list_any test bs ≡ false → Among b bs → test b ≡ false) → (x || list_any test bs) ≡ false → Among b (c ∷ bs) → test b ≡ false
        go true f more e i = absurd cc
        go false f more e (inl same) = subst (λ d. test d ≡ false) same f
        go false f more e (inr j) = more e j

    straight : (m : Mark) (b : ℕ) → is_new m ≡ false → turns m ≡ false → Knows rows m (task.Leave a ∷ ts) b → WaysEnd rows b
    straight mark.New b e f k = absurd cc
    straight mark.Open b e f k = absurd cc
    straight mark.Straight b e f k = k
    straight mark.Ring b e f k = absurd cc

    ring_by : Linked rows (task.Leave a ∷ ts) → (m : Mark) (b : ℕ) → Among b (row rows a) → turns m ≡ true → Knows rows m (task.Leave a ∷ ts) b → LeadsToRing rows a
    ring_by l mark.New b i f k = absurd cc
    ring_by l mark.Open b i f (inl same) = record { there = a; reached = Leads.itself a; ring = one_step rows a a (subst (λ c. Among c (row rows a)) (sym (ap task_number same)) i) }
    ring_by l mark.Open b i f (inr j) = record { there = a; reached = Leads.itself a; ring = record { next = b; step = i; rest = Leads.onward b (l.0 b j).next a (l.0 b j).step (l.0 b j).rest } }
    ring_by l mark.Straight b i f k = absurd cc
    ring_by l mark.Ring b i f k = ring_before rows a b i k

    -- a number is left
    pub leaves : Keeps rows n (record { marks = marks; tasks = task.Leave a ∷ ts }) → Turned rows n (record { marks = marks; tasks = task.Leave a ∷ ts }) (number_left (record { marks = marks; tasks = ts }) a (row rows a))
    leaves k =
        let h : a < length marks = subst (λ m. a < m) (sym k.size) k.within.0 in
        let m : Mark = mark_for (any_turns marks (row rows a)) in
        record {
          keeps = record {
            size = length-set marks a m ∙ k.size;
            within = k.within.1;
            linked = k.linked.1;
            handled = handled_more marks (set marks a m) [] [] ts (seen h) k.handled.1;
            knows = λ x. knows h x (cases_eq x a);
          };
          less = (let one : weight (set marks a m) rows ≤ weight marks rows = weight_left marks rows a m (old (any_turns marks (row rows a))) in omega (arith, one));
          grows = λ b f. entered_stays marks a b m h (old (any_turns marks (row rows a))) f;
          to_enter = λ b i. entered_now b i;
        }
      where
        old : (x : Bool) → is_new (mark_for x) ≡ false
        old true = refl
        old false = refl

        seen : a < length marks → (b : ℕ) → IsMet rows marks [] b → IsMet rows (set marks a (mark_for (any_turns marks (row rows a)))) [] b
        seen h b (inl f) = inl (entered_stays marks a b (mark_for (any_turns marks (row rows a))) h (old (any_turns marks (row rows a))) f)
        seen h b (inr none) = absurd none

        not_new : (b : ℕ) → IsMet rows marks [] b → is_new (mark_of marks b) ≡ false
        not_new b (inl e) = e
        not_new b (inr none) = absurd none

        told : (x : Bool) → any_turns marks (row rows a) ≡ x → Knows rows (mark_for x) ts a
        told true e = (let f : (b : ℕ) × Among b (row rows a) × (turns (mark_of marks b) ≡ true) = found (λ b. turns (mark_of marks b)) (row rows a) e in ring_by k.linked (mark_of marks f.0) f.0 f.1 f.2 (k.knows f.0))
        told false e = they_end a (λ b i. straight (mark_of marks b) b (not_new b (k.handled.0 b i)) (none (λ c. turns (mark_of marks c)) (row rows a) e b i) (k.knows b))

        there : (x : ℕ) → x ≢ a → Among (task.Leave x) (task.Leave a ∷ ts) → Among (task.Leave x) ts
        there x other (inl f) = absurd (other (sym (ap task_number f)))
        there x other (inr i) = i

        knows : a < length marks → (x : ℕ) → (x ≡ a) ⊎ (x ≢ a) → Knows rows (mark_of (set marks a (mark_for (any_turns marks (row rows a)))) x) ts x
        knows h x (inl same) =
            subst (λ y. Knows rows (mark_of (set marks a (mark_for (any_turns marks (row rows a)))) y) ts y) (sym same)
            (subst (λ m. Knows rows m ts a) (sym (get_or-set_same marks a (mark_for (any_turns marks (row rows a))) mark.New h))
            (told (any_turns marks (row rows a)) refl))
        knows h x (inr other) =
            subst (λ m. Knows rows m ts x) (sym (get_or-set_other marks a x (mark_for (any_turns marks (row rows a))) mark.New other))
            (knows_kept (mark_of marks x) (task.Leave a ∷ ts) ts x (there x other) (k.knows x))

        entered_now : (b : ℕ) → Among (task.Enter b) (task.Leave a ∷ ts) → (is_new (mark_of (set marks a (mark_for (any_turns marks (row rows a)))) b) ≡ false) ⊎ Among (task.Enter b) ts
        entered_now b (inl f) = absurd (not_entered a b f)
        entered_now b (inr i) = inr i

  -- a number is to be entered, and nothing else is to be done
  pub starts : (n : ℕ) (w : Walked) (start : ℕ) → Keeps rows n w → w.tasks ≡ [] → start < n → Keeps rows n (record w { tasks = task.Enter start ∷ w.tasks })
  starts n w start k e h = record {
    size = k.size;
    within = (h, k.within);
    linked = ((λ a i. absurd (subst (λ ts. Among (task.Leave a) ts) e i)), k.linked);
    handled = subst (λ ts. Handled rows w.marks (start ∷ []) ts) (sym e) tt;
    knows = λ x. knows_kept (mark_of w.marks x) w.tasks (task.Enter start ∷ w.tasks) x (λ i. inr i) (k.knows x);
  }

  -- nothing is entered
  pub nothing_kept : (n : ℕ) → Keeps rows n (record { marks = replicate n mark.New; tasks = [] })
  nothing_kept n = record {
    size = length-replicate n mark.New;
    within = tt;
    linked = tt;
    handled = tt;
    knows = λ a. subst (λ m. Knows rows m [] a) (sym (all_new n a)) tt;
  }
    where
      all_new : (k a : ℕ) → mark_of (replicate k mark.New) a ≡ mark.New
      all_new zero a = refl
      all_new (suc k) zero = refl
      all_new (suc k) (suc a) = all_new k a

  -- in the end the marks tell
  pub ring_told : (n : ℕ) (w : Walked) (a : ℕ) → Keeps rows n w → is_ring (mark_of w.marks a) ≡ true → LeadsToRing rows a
  ring_told n w a k e = go (mark_of w.marks a) (k.knows a) e
    where
      go : (m : Mark) → Knows rows m w.tasks a → is_ring m ≡ true → LeadsToRing rows a
      go mark.New h e = absurd cc
      go mark.Open h e = absurd cc
      go mark.Straight h e = absurd cc
      go mark.Ring h e = h

  pub ring_found : (n : ℕ) (w : Walked) (a : ℕ) → Keeps rows n w → w.tasks ≡ [] → is_new (mark_of w.marks a) ≡ false → LeadsToRing rows a → is_ring (mark_of w.marks a) ≡ true
  ring_found n w a k d e r = go (mark_of w.marks a) (k.knows a) e
    where
      go : (m : Mark) → Knows rows m w.tasks a → is_new m ≡ false → is_ring m ≡ true
      go mark.New h e = absurd cc
      go mark.Open h e = absurd (subst (λ ts. Among (task.Leave a) ts) d h)
      go mark.Straight h e = absurd (leads_to_none rows a h r)
      go mark.Ring h e = refl

pub flag_at : (ms : List Mark) (a : ℕ) → get_or (map is_ring ms) a false ≡ is_ring (mark_of ms a)
flag_at [] a = refl
flag_at (m ∷ ms) zero = refl
flag_at (m ∷ ms) (suc a) = flag_at ms a
