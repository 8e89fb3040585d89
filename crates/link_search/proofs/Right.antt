-- The answers are right.
use Rattle.std.proofs.Common.{◌≡◌, ℕ, ◌+◌, List, Bool, true, false, Some, refl, sym, ap, subst, ◌∙◌, slice_get, arith}
use Rattle.reachability.specs.Rows.{Among}
use Rattle.link_search.specs.Numbering.{Pair, AreDistinctPairs}
use Rattle.link_search.specs.Graph.{AreRowsOf}
use Rattle.link_search.specs.Steps.{Leads, LeadsToRing}
use Rattle.link_search.specs.Reached.{ReachesEnd, AnswerTells}
use Rattle.link_search.specs.declared.terminals.Terminals.{Terminals}
use Rattle.link_search.specs.declared.terminals.Terminals.TheVariants as those
use Rattle.link_search.specs.declared.exports.SetExports.{SetExports}
use Rattle.link_search.specs.declared.target.Target.{Target}
use Rattle.link_search.specs.declared.target.Target.TheVariants.{Name, End}
use Rattle.link_search.specs.declared.terminal.Terminal.{Terminal}
use Rattle.link_search.specs.Answers.{answer_by, if_there}
use Rattle.link_search.specs.Ends.{AreApart, EndsAreNumbered, ends_from}
use Rattle.link_search.specs.Exports.{targets_of, leads_of}
use Rattle.link_search.specs.Reaches.{Reaches, ReachesTerminal, ReachesTwo}
use Rattle.link_search.specs.Targets.{is_end, TargetComesTo}
use Rattle.link_search.proofs.Members.{end_among, among_end, same_end, some_same}
use Rattle.link_search.proofs.Ties.{names_of, further, lands, reaches, ring_of, of_ring}
use Rattle.link_search.proofs.Numbers.{told, tells, Ended, EndsAt, ends_there, ends_only}

module _ (s : SetExports) (keys : List Pair) (rows : List (List ℕ)) (are : AreRowsOf (names_of s) keys rows) (distinct : AreDistinctPairs keys) where
  module _ (ts : List Terminal) (ends : List (ℕ × ℕ)) (numbered : EndsAreNumbered ts ends (ends_from s 0 keys)) (apart : AreApart ts) where
    -- a terminal that a name reaches is found by its number
    reached_end : (i m k : ℕ) (t : Terminal) → slice_get keys i ≡ Some (m, k) → Reaches (leads_of s) (Name m k) (End t) → (n : ℕ) × (slice_get ts n ≡ Some t) × ReachesEnd rows ends i n
    reached_end i m k t e r =
        let w : (j : ℕ) × (q : Pair) × (slice_get keys j ≡ Some q) × Leads rows i j × Among (End t) (targets_of s q) = lands s keys rows are i m k (End t) e r in
        let a : Among {A = Ended} (0 + w.0, t) (ends_from s 0 keys) = ends_there s keys 0 w.0 w.1 t w.2 (among_end (targets_of s w.1) t w.4) in
        let b : Among {A = Ended} (w.0, t) (ends_from s 0 keys) = subst (λ j. Among {A = Ended} (j, t) (ends_from s 0 keys)) (omega arith) a in
        let v : (n : ℕ) × Among {A = ℕ × ℕ} (w.0, n) ends × (slice_get ts n ≡ Some t) = tells ts ends (ends_from s 0 keys) numbered w.0 t b in
        (v.0, v.2, record { there = w.0; reached = w.3; end = v.1 })

    -- a number that is found is that of a terminal that the name reaches
    end_reached : (i n : ℕ) (p : Pair) → slice_get keys i ≡ Some p → ReachesEnd rows ends i n → (t : Terminal) × (slice_get ts n ≡ Some t) × Reaches (leads_of s) (Name p.0 p.1) (End t)
    end_reached i n p e r =
        let w : (t : Terminal) × (slice_get ts n ≡ Some t) × Among {A = Ended} (r.there, t) (ends_from s 0 keys) = told ts ends (ends_from s 0 keys) numbered r.there n r.end in
        let a : EndsAt s keys 0 r.there w.0 = ends_only s keys 0 r.there w.0 w.2 in
        let place : r.there ≡ a.place = (let is : r.there ≡ 0 + a.place = a.is in omega (arith, is)) in
        let v : (q : Pair) × (slice_get keys r.there ≡ Some q) × Reaches (leads_of s) (Name p.0 p.1) (Name q.0 q.1) = reaches s keys rows are i r.there r.reached p e in
        let same : a.name ≡ v.0 = some_same a.name v.0 (sym a.there ∙ ap (slice_get keys) (sym place) ∙ v.1) in
        let end : Among (End w.0) (targets_of s v.0) = subst (λ q. Among (End w.0) (targets_of s q)) same (end_among (targets_of s a.name) w.0 a.end) in
        (w.0, w.1, further s (Name p.0 p.1) (Name v.0.0 v.0.1) (End w.0) v.2 end)

    abbrev is_reached : Pair → Target → Type 0
    is_reached p t = ReachesTerminal (leads_of s) is_end (Name p.0 p.1) t

    none : (i m k : ℕ) → slice_get keys i ≡ Some (m, k) → ((n : ℕ) → ReachesEnd rows ends i n → ⊥) → (t : Target) → ReachesTerminal (leads_of s) is_end (Name m k) t → ⊥
    none i m k e without (Name n l) r = absurd (let h : false ≡ true = r.1 in cc)
    none i m k e without (End t) r = let w : (n : ℕ) × (slice_get ts n ≡ Some t) × ReachesEnd rows ends i n = reached_end i m k t e r.0 in without w.0 w.2

    alone : (i m k n : ℕ) (t : Terminal) → slice_get keys i ≡ Some (m, k) → slice_get ts n ≡ Some t → ((o : ℕ) → ReachesEnd rows ends i o → o ≡ n) → (u : Target) → ReachesTerminal (leads_of s) is_end (Name m k) u → u ≡ End t
    alone i m k n t e is only (Name a b) r = absurd (let h : false ≡ true = r.1 in cc)
    alone i m k n t e is only (End u) r =
        let w : (o : ℕ) × (slice_get ts o ≡ Some u) × ReachesEnd rows ends i o = reached_end i m k u e r.0 in
        ap (λ v. End v) (some_same u t (sym w.1 ∙ ap (slice_get ts) (only w.0 w.2) ∙ is))

    found_one : (i m k n : ℕ) → slice_get keys i ≡ Some (m, k) → AnswerTells rows ends (those.One n) i → TargetComesTo (leads_of s) (Name m k) (if_there (slice_get ts n))
    found_one i m k n e tell =
        let w : (t : Terminal) × (slice_get ts n ≡ Some t) × Reaches (leads_of s) (Name m k) (End t) = end_reached i n (m, k) e tell.0 in
        subst (λ o. TargetComesTo (leads_of s) (Name m k) (if_there o)) (sym w.1) (record { reached = (w.2, refl); alone = alone i m k n w.0 e w.1 tell.1 })

    found_two : (i m k : ℕ) → slice_get keys i ≡ Some (m, k) → AnswerTells rows ends those.Several i → ReachesTwo (leads_of s) is_end (Name m k)
    found_two i m k e two =
        let v : (t : Terminal) × (slice_get ts two.one ≡ Some t) × Reaches (leads_of s) (Name m k) (End t) = end_reached i two.one (m, k) e two.reached_one in
        let w : (t : Terminal) × (slice_get ts two.other ≡ Some t) × Reaches (leads_of s) (Name m k) (End t) = end_reached i two.other (m, k) e two.reached_other in
        record {
          one = End v.0;
          other = End w.0;
          reached_one = (v.2, refl);
          reached_other = (w.2, refl);
          differ = λ same. two.differ (apart two.one two.other w.0 (v.1 ∙ ap (λ t. Some t) (same_end v.0 w.0 same)) w.1);
        }

    -- the answer at a number is right
    pub right_at : (i m k : ℕ) (to_ring : Bool) (v : Terminals) → slice_get keys i ≡ Some (m, k) → (to_ring ≡ true → LeadsToRing rows i) → (LeadsToRing rows i → to_ring ≡ true) → AnswerTells rows ends v i
        → TargetComesTo (leads_of s) (Name m k) (answer_by ts to_ring v)
    right_at i m k true those.Nowhere e sound complete tell = (none i m k e tell, ring_of s keys rows are i (m, k) e (sound refl))
    right_at i m k false those.Nowhere e sound complete tell = (none i m k e tell, λ r. absurd (let h : false ≡ true = complete (of_ring s keys rows are distinct i m k e r) in cc))
    right_at i m k to_ring (those.One n) e sound complete tell = found_one i m k n e tell
    right_at i m k to_ring those.Several e sound complete tell = found_two i m k e tell
