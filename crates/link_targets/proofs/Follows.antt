-- What targets come to is what the ends come to that they stand for.
use Rattle.std.proofs.Common.{◌≡◌, ℕ, List, true, false, Option, Some, refl, sym, ap, subst, ◌∙◌, slice_get}
use Rattle.reachability.specs.Rows.{Among}
use Rattle.semantic_syntax.specs.Tables.{Name}
use Rattle.link_model.specs.Leads.{LinkEnd, pair, symbol, default_of, namespace_of, outside, is_terminal, leads}
use Rattle.link_model.specs.Module.{Analysed}
use Rattle.link_model.specs.Outcome.{outcome_at, IsOfOne, IsOutcome}
use Rattle.link_search.specs.Ends.{AreApart}
use Rattle.link_search.specs.Exports.{leads_of}
use Rattle.link_search.specs.Reaches.{Reaches, ReachesItself, ReachesRing, ReachesTerminal, ReachesOne}
use Rattle.link_search.specs.Targets.{is_end, TargetComesTo}
use Rattle.link_search.specs.declared.answer.Found.{Found}
use Rattle.link_search.specs.declared.answer.Found.TheVariants as found
use Rattle.link_search.specs.declared.exports.SetExports.{SetExports}
use Rattle.link_search.specs.declared.target.Target.{Target}
use Rattle.link_search.specs.declared.target.Target.TheVariants as target
use Rattle.link_search.specs.declared.terminal.Terminal.{Terminal}
use Rattle.link_search.specs.declared.terminal.Terminal.TheVariants as terminal
use Rattle.link_search.proofs.Members.{some_same}
use Rattle.link_targets.specs.Denoted.{terminal_denoted, denoted}
use Rattle.link_targets.specs.Followed.{Follow, terminal_outcome, outcome_of}
use Rattle.link_targets.proofs.Denotes.{mapped_some, same_kind, one_end, member_end, member_target, IsOutside, is_outside, outside_is}

module _ (texts : List Name) (apart : AreApart texts) (s : SetExports) (ms : List Analysed) (follow : Follow texts s ms) where
  forth : (t u : Target) → Reaches (leads_of s) t u → (e : LinkEnd) → denoted texts t ≡ Some e → (f : LinkEnd) × (denoted texts u ≡ Some f) × Reaches (leads ms) e f
  forth t _ (Reaches.itself _) e d = (e, d, Reaches.itself e)
  forth t u (Reaches.onward _ b _ a rest) e d =
      let w : (f : LinkEnd) × (denoted texts b ≡ Some f) × Among f (leads ms e) = member_end texts (leads_of s t) (leads ms e) (follow t e d) b a in
      let v : (f : LinkEnd) × (denoted texts u ≡ Some f) × Reaches (leads ms) w.0 f = forth b u rest w.0 w.1 in
      (v.0, v.1, Reaches.onward e w.0 v.0 w.2 v.2)

  back : (e f : LinkEnd) → Reaches (leads ms) e f → (t : Target) → denoted texts t ≡ Some e → (u : Target) × (denoted texts u ≡ Some f) × Reaches (leads_of s) t u
  back e _ (Reaches.itself _) t d = (t, d, Reaches.itself t)
  back e f (Reaches.onward _ b _ a rest) t d =
      let w : (u : Target) × (denoted texts u ≡ Some b) × Among u (leads_of s t) = member_target texts (leads_of s t) (leads ms e) (follow t e d) b a in
      let v : (u : Target) × (denoted texts u ≡ Some f) × Reaches (leads_of s) w.0 u = back b f rest w.0 w.1 in
      (v.0, v.1, Reaches.onward t w.0 v.0 w.2 v.2)

  -- a terminal that the end reaches is one that the target reaches
  terminal_back : (t : Target) (e f : LinkEnd) → denoted texts t ≡ Some e → ReachesTerminal (leads ms) is_terminal e f → (u : Target) × (denoted texts u ≡ Some f) × ReachesTerminal (leads_of s) is_end t u
  terminal_back t e f d r =
      let w : (u : Target) × (denoted texts u ≡ Some f) × Reaches (leads_of s) t u = back e f r.0 t d in
      (w.0, w.1, (w.2, sym (same_kind texts w.0 f w.1) ∙ r.1))

  terminal_forth : (t u : Target) (e : LinkEnd) → denoted texts t ≡ Some e → ReachesTerminal (leads_of s) is_end t u → (f : LinkEnd) × (denoted texts u ≡ Some f) × ReachesTerminal (leads ms) is_terminal e f
  terminal_forth t u e d r =
      let w : (f : LinkEnd) × (denoted texts u ≡ Some f) × Reaches (leads ms) e f = forth t u r.0 e d in
      (w.0, w.1, (w.2, same_kind texts u w.0 w.1 ∙ r.1))

  none_forth : (t : Target) (e : LinkEnd) → denoted texts t ≡ Some e → ((u : Target) → ReachesTerminal (leads_of s) is_end t u → ⊥) → (f : LinkEnd) → ReachesTerminal (leads ms) is_terminal e f → ⊥
  none_forth t e d never f r =
      let w : (u : Target) × (denoted texts u ≡ Some f) × ReachesTerminal (leads_of s) is_end t u = terminal_back t e f d r in never w.0 w.2

  ring_forth : (t : Target) (e : LinkEnd) → denoted texts t ≡ Some e → ReachesRing (leads_of s) t → ReachesRing (leads ms) e
  ring_forth t e d r =
      let w : (f : LinkEnd) × (denoted texts r.there ≡ Some f) × Reaches (leads ms) e f = forth t r.there r.reached e d in
      let v : (g : LinkEnd) × (denoted texts r.again.next ≡ Some g) × Among g (leads ms w.0) = member_end texts (leads_of s r.there) (leads ms w.0) (follow r.there w.0 w.1) r.again.next r.again.step in
      let x : (h : LinkEnd) × (denoted texts r.there ≡ Some h) × Reaches (leads ms) v.0 h = forth r.again.next r.there r.again.back v.0 v.1 in
      let same : x.0 ≡ w.0 = some_same x.0 w.0 (sym x.1 ∙ w.1) in
      record { there = w.0; reached = w.2; again = record { next = v.0; step = v.2; back = subst (Reaches (leads ms) v.0) same x.2 } }

  -- names that stand for one are one
  one_name : (t u : Target) (e : LinkEnd) → is_terminal e ≡ false → denoted texts t ≡ Some e → denoted texts u ≡ Some e → t ≡ u
  one_name (target.Name m k) (target.Name n l) e never d f = names_same m k n l e d f
    where
      names_same : (m k n l : ℕ) (e : LinkEnd) → denoted texts (target.Name m k) ≡ Some e → denoted texts (target.Name n l) ≡ Some e → target.Name m k ≡ target.Name n l
      names_same m k n l e d f =
          let v : (x : Name) × (slice_get texts k ≡ Some x) × (pair m x ≡ e) = mapped_some (λ x. pair m x) (slice_get texts k) e d in
          let w : (x : Name) × (slice_get texts l ≡ Some x) × (pair n x ≡ e) = mapped_some (λ x. pair n x) (slice_get texts l) e f in
          let same : (m ≡ n) × (v.0 ≡ w.0) = both m n v.0 w.0 (v.2 ∙ sym w.2) in
          let number : k ≡ l = apart k l w.0 (v.1 ∙ ap (λ x. Some x) same.1) w.1 in
          λ i. target.Name (same.0 i) (number i)
        where
          both : (m n : ℕ) (x y : Name) → pair m x ≡ pair n y → (m ≡ n) × (x ≡ y)
          both m n x y h = (cc, cc)
  one_name (target.Name m k) (target.End u) e never d f = absurd (let h : true ≡ false = sym (same_kind texts (target.End u) e f) ∙ never in cc)
  one_name (target.End t) u e never d f = absurd (let h : true ≡ false = sym (same_kind texts (target.End t) e d) ∙ never in cc)

  -- what reaches itself is a name
  abbrev leads_nowhere : LinkEnd → Type 0
  leads_nowhere e = (f : LinkEnd) → Among f (leads ms e) → ⊥

  itself_name : (e : LinkEnd) → ReachesItself (leads ms) e → is_terminal e ≡ false
  itself_name (pair m x) r = refl
  itself_name (symbol m r') r = absurd r.step
  itself_name (default_of m) r = absurd r.step
  itself_name (namespace_of m) r = absurd r.step
  itself_name (outside x y) r = absurd r.step

  ring_back : (t : Target) (e : LinkEnd) → denoted texts t ≡ Some e → ReachesRing (leads ms) e → ReachesRing (leads_of s) t
  ring_back t e d r =
      let w : (u : Target) × (denoted texts u ≡ Some r.there) × Reaches (leads_of s) t u = back e r.there r.reached t d in
      let v : (u : Target) × (denoted texts u ≡ Some r.again.next) × Among u (leads_of s w.0) = member_target texts (leads_of s w.0) (leads ms r.there) (follow w.0 r.there w.1) r.again.next r.again.step in
      let x : (u : Target) × (denoted texts u ≡ Some r.there) × Reaches (leads_of s) v.0 u = back r.again.next r.there r.again.back v.0 v.1 in
      let same : x.0 ≡ w.0 = one_name x.0 w.0 r.there (itself_name r.there r.again) x.1 w.1 in
      record { there = w.0; reached = w.2; again = record { next = v.0; step = v.2; back = subst (Reaches (leads_of s) v.0) same x.2 } }

  -- the outcome of a terminal is that of its end
  told : (t : Terminal) (f : LinkEnd) → terminal_denoted texts t ≡ Some f → terminal_outcome t ≡ outcome_at f
  told (terminal.Symbol m r) f h = ap outcome_at (some_same (symbol m r) f h)
  told (terminal.Default m) f h = ap outcome_at (some_same (default_of m) f h)
  told (terminal.Namespace m) f h = ap outcome_at (some_same (namespace_of m) f h)
  told (terminal.Outside k name) f h =
      let w : IsOutside texts k name f = is_outside texts k name f h in
      let v : (asked : Option Name) × (outside w.source asked ≡ f) = outside_is texts name w.source f w.asked in
      ap outcome_at v.1

  of_one : (t : Target) (e : LinkEnd) (u : Terminal) → denoted texts t ≡ Some e → ReachesOne (leads_of s) is_end t (target.End u) → IsOfOne ms e (terminal_outcome u)
  of_one t e u d one =
      let w : (f : LinkEnd) × (terminal_denoted texts u ≡ Some f) × ReachesTerminal (leads ms) is_terminal e f = terminal_forth t (target.End u) e d one.reached in
      record {
        terminal = w.0;
        reached = record { reached = w.2; alone = λ g r. alone g r w.0 w.1 };
        told = told u w.0 w.1;
      }
    where
      alone : (g : LinkEnd) → ReachesTerminal (leads ms) is_terminal e g → (f : LinkEnd) → terminal_denoted texts u ≡ Some f → g ≡ f
      alone g r f h =
          let v : (x : Target) × (denoted texts x ≡ Some g) × ReachesTerminal (leads_of s) is_end t x = terminal_back t e g d r in
          some_same g f (sym v.1 ∙ ap (denoted texts) (one.alone v.0 v.2) ∙ h)

  at_one : (e : LinkEnd) (u : Terminal) → IsOfOne ms e (terminal_outcome u) → IsOutcome ms e (terminal_outcome u)
  at_one e (terminal.Symbol m r) one = one
  at_one e (terminal.Default m) one = one
  at_one e (terminal.Namespace m) one = one
  at_one e (terminal.Outside k name) one = one

  -- what a target comes to is the outcome of its end
  pub comes : (t : Target) (e : LinkEnd) (f : Found) → denoted texts t ≡ Some e → TargetComesTo (leads_of s) t f → IsOutcome ms e (outcome_of f)
  comes t e found.Missing d c = (none_forth t e d c.0, λ r. c.1 (ring_back t e d r))
  comes t e found.Ring d c = (none_forth t e d c.0, ring_forth t e d c.1)
  comes t e (found.One u) d c = at_one e u (of_one t e u d c)
  comes t e found.Ambiguous d c =
      let v : (f : LinkEnd) × (denoted texts c.one ≡ Some f) × ReachesTerminal (leads ms) is_terminal e f = terminal_forth t c.one e d c.reached_one in
      let w : (f : LinkEnd) × (denoted texts c.other ≡ Some f) × ReachesTerminal (leads ms) is_terminal e f = terminal_forth t c.other e d c.reached_other in
      record {
        one = v.0;
        other = w.0;
        reached_one = v.2;
        reached_other = w.2;
        differ = λ same. c.differ (one_end texts apart c.one c.other w.0 c.reached_one.1 c.reached_other.1 (v.1 ∙ ap (λ f. Some f) same) w.1);
      }
