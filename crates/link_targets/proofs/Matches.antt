-- Names lead in numbers where they lead.
use Rattle.std.proofs.Common.{◌≡◌, ℕ, zero, suc, ◌+◌, ◌==◌, List, [], ◌∷◌, Bool, true, false, cond, Option, Some, None, refl, sym, ap, subst, ◌∙◌, slice_get, length, map, codes, nat_eq, nat_lt, arith, eq-eqb}
use Rattle.std.specs.Map.{lookup}
use Rattle.std.specs.Prelude.{option_map}
use Rattle.std.specs.Str.{bytes_eq}
use Rattle.std.proofs.lemmas.Bool.{eqb-true}
use Rattle.std.proofs.lemmas.Bool.Decides.{Decides-ltb}
use Rattle.std.proofs.lemmas.Option.{slice_get_within}
use Rattle.std.proofs.lemmas.Slice.Eq.{bytes_eq-Decides}
use Rattle.indexmap.specs.IndexMap.{get}
use Rattle.semantic_syntax.specs.Tables.{Name}
use Rattle.link_model.specs.Exports.{Export, export_named, exports, stars}
use Rattle.link_model.specs.Imports.{Import, imports}
use Rattle.link_model.specs.Leads.{LinkEnd, pair, symbol, default_of, namespace_of, outside, is_terminal, Ties, ties_of, exported_ends, starred, name_ends, ends_in_module, leads}
use Rattle.link_model.specs.Module.{Analysed, module_names}
use Rattle.link_search.specs.Ends.{AreApart}
use Rattle.link_search.specs.Exports.{if_any, passed_on, exported_or_passed, module_targets, targets_at, targets_of}
use Rattle.link_search.specs.declared.exports.ModuleExports.{ModuleExports}
use Rattle.link_search.specs.declared.exports.SetExports.{SetExports}
use Rattle.link_search.specs.declared.target.Target.{Target}
use Rattle.link_search.specs.declared.target.Target.TheVariants as target
use Rattle.link_search.proofs.Members.{some_same}
use Rattle.link_targets.specs.Denoted.{AreDenoted}
use Rattle.link_targets.specs.Described.{IsExport, AreExports, IsModuleExports, AreModuleExports}
use Rattle.link_targets.proofs.Denotes.{mapped_some, terminal_is}
use Rattle.link_targets.specs.Followed.{Follow}

-- both are there, or neither is: the first stands for where the second leads
abbrev pub Match : (names texts : List Name) → ℕ → Ties → List Import → Option (Option Target) → Option Export → Type 0
Match names texts m t is None None = Unit {0}
Match names texts m t is (Some o) (Some e) = AreDenoted texts (if_any o) (exported_ends names m t is e.what)
Match names texts m t is _ _ = ⊥

module _ (names texts : List Name) (apart : AreApart texts) where
  module _ (m : ℕ) (t : Ties) (is : List Import) where
    match_one : (b c : Bool) (k : ℕ) (name : Name) (x : ℕ × Option Target) (e : Export) (more : Option (Option Target)) (other : Option Export) → nat_eq k x.0 ≡ b → bytes_eq e.name name ≡ c → slice_get texts k ≡ Some name
        → IsExport names texts m t is x e → Match names texts m t is more other → Match names texts m t is (cond b (Some x.1) more) (cond c (Some e) other)
    match_one true true k name x e more other h l there here rest = here.stands
    match_one false false k name x e more other h l there here rest = rest
    match_one true false k name x e more other h l there here rest =
        let number : k ≡ x.0 = eqb-true k x.0 h in
        let same : e.name ≡ name = some_same e.name name (sym here.name ∙ ap (slice_get texts) (sym number) ∙ there) in
        absurd (let yes : bytes_eq e.name name ≡ true = (bytes_eq-Decides e.name name).1 same in let both : true ≡ false = sym yes ∙ l in cc)
    match_one false true k name x e more other h l there here rest =
        let same : e.name ≡ name = (bytes_eq-Decides e.name name).0 l in
        let number : k ≡ x.0 = apart k x.0 name there (here.name ∙ ap (λ y. Some y) same) in
        absurd (let yes : nat_eq k x.0 ≡ true = eq-eqb k x.0 number in let both : true ≡ false = sym yes ∙ h in cc)

    pub matches : (xs : List (ℕ × Option Target)) (es : List Export) → AreExports names texts m t is xs es → (k : ℕ) (name : Name) → slice_get texts k ≡ Some name → Match names texts m t is (lookup (nat_eq k) xs) (export_named es name)
    matches [] [] h k name there = tt
    matches [] (e ∷ es) h k name there = absurd h
    matches (x ∷ xs) [] h k name there = absurd h
    matches (x ∷ xs) (e ∷ es) h k name there = match_one (nat_eq k x.0) (bytes_eq e.name name) k name x e (lookup (nat_eq k) xs) (export_named es name) refl refl there h.0 (matches xs es h.1 k name there)

  -- what star exports pass on
  passed : (k : ℕ) (name : Name) → slice_get texts k ≡ Some name → (ns : List ℕ) → AreDenoted texts (passed_on k ns) (map (λ n. pair n name) ns)
  passed k name there [] = tt
  passed k name there (n ∷ ns) = (ap (option_map (λ x. pair n x)) there, passed k name there ns)

  module _ (default_name : ℕ) (default_there : slice_get texts default_name ≡ Some (codes "default")) where
    passed_or_none : (b c : Bool) (k : ℕ) (name : Name) (ns : List ℕ) → (k == default_name) ≡ b → bytes_eq name (codes "default") ≡ c → slice_get texts k ≡ Some name
        → AreDenoted texts (cond b [] (passed_on k ns)) (cond c [] (map (λ n. pair n name) ns))
    passed_or_none true true k name ns h l there = tt
    passed_or_none false false k name ns h l there = passed k name there ns
    passed_or_none true false k name ns h l there =
        let number : k ≡ default_name = eqb-true k default_name h in
        let same : name ≡ codes "default" = some_same name (codes "default") (sym there ∙ ap (slice_get texts) number ∙ default_there) in
        absurd (let yes : bytes_eq name (codes "default") ≡ true = (bytes_eq-Decides name (codes "default")).1 same in let both : true ≡ false = sym yes ∙ l in cc)
    passed_or_none false true k name ns h l there =
        let same : name ≡ codes "default" = (bytes_eq-Decides name (codes "default")).0 l in
        let number : k ≡ default_name = apart k default_name name there (default_there ∙ ap (λ y. Some y) (sym same)) in
        absurd (let yes : (k == default_name) ≡ true = eq-eqb k default_name number in let both : true ≡ false = sym yes ∙ h in cc)

    by_match : (m : ℕ) (x : Analysed) (e : ModuleExports) (k : ℕ) (name : Name) → slice_get texts k ≡ Some name → e.stars.items ≡ starred names (stars x) → (o : Option (Option Target)) (other : Option Export) → Match names texts m (ties_of x.analysis) (imports x) o other
        → AreDenoted texts (exported_or_passed default_name e k o) (name_ends names m x name other)
    by_match m x e k name there starred_by None None h =
        subst (λ ns. AreDenoted texts (cond (k == default_name) [] (passed_on k e.stars.items)) (cond (bytes_eq name (codes "default")) [] (map (λ n. pair n name) ns))) starred_by
        (passed_or_none (k == default_name) (bytes_eq name (codes "default")) k name e.stars.items refl refl there)
    by_match m x e k name there starred_by None (Some other) h = absurd h
    by_match m x e k name there starred_by (Some o) None h = absurd h
    by_match m x e k name there starred_by (Some o) (Some other) h = h

    in_module : (m : ℕ) (x : Analysed) (e : ModuleExports) → IsModuleExports names texts m x e → (k : ℕ) (name : Name) → slice_get texts k ≡ Some name → AreDenoted texts (module_targets default_name e k) (name_ends names m x name (export_named (exports x) name))
    in_module m x e is k name there =
        by_match m x e k name there is.stars (get nat_eq e.names k) (export_named (exports x) name)
        (subst (λ o. Match names texts m (ties_of x.analysis) (imports x) o (export_named (exports x) name)) (sym (is.firsts k)) (matches m (ties_of x.analysis) (imports x) is.targets (exports x) is.stand k name there))

    -- modules at a place
    abbrev Both : ℕ → Option Analysed → Option ModuleExports → Type 0
    Both m None None = Unit {0}
    Both m (Some x) (Some e) = IsModuleExports names texts m x e
    Both m _ _ = ⊥

    both_at : (n : ℕ) (xs : List Analysed) (es : List ModuleExports) → AreModuleExports names texts n xs es → (i : ℕ) → Both (n + i) (slice_get xs i) (slice_get es i)
    both_at n [] [] h i = tt
    both_at n [] (e ∷ es) h i = absurd h
    both_at n (x ∷ xs) [] h i = absurd h
    both_at n (x ∷ xs) (e ∷ es) h zero = subst (λ m. IsModuleExports names texts m x e) (omega arith) h.0
    both_at n (x ∷ xs) (e ∷ es) h (suc i) = subst (λ m. Both m (slice_get xs i) (slice_get es i)) (omega arith) (both_at (n + 1) xs es h.1 i)

    at_option : (s : SetExports) → s.default_name ≡ default_name → (m k : ℕ) (name : Name) → slice_get texts k ≡ Some name → (o : Option Analysed) (p : Option ModuleExports) → Both m o p → AreDenoted texts (targets_at s k p) (ends_in_module names m name o)
    at_option s same m k name there None None h = tt
    at_option s same m k name there None (Some e) h = absurd h
    at_option s same m k name there (Some x) None h = absurd h
    at_option s same m k name there (Some x) (Some e) h = subst (λ d. AreDenoted texts (module_targets d e k) (name_ends names m x name (export_named (exports x) name))) (sym same) (in_module m x e h k name there)

    module _ (s : SetExports) (xs : List Analysed) (named_by : names ≡ module_names xs) (modules : AreModuleExports names texts 0 xs s.modules.items) (many : s.names ≡ length texts) (same : s.default_name ≡ default_name) where
      follow_name : (m k : ℕ) (name : Name) → slice_get texts k ≡ Some name → AreDenoted texts (targets_of s (m, k)) (leads xs (pair m name))
      follow_name m k name there =
          let below : nat_lt k s.names ≡ true = ap (nat_lt k) many ∙ (Decides-ltb k (length texts)).1 (slice_get_within texts k name there) in
          let here : AreDenoted texts (targets_at s k (slice_get s.modules.items m)) (ends_in_module names m name (slice_get xs m)) =
          at_option s same m k name there (slice_get xs m) (slice_get s.modules.items m) (subst (λ n. Both n (slice_get xs m) (slice_get s.modules.items m)) (omega arith) (both_at 0 xs s.modules.items modules m)) in
          subst (λ b. AreDenoted texts (cond b (targets_at s k (slice_get s.modules.items m)) []) (leads xs (pair m name))) (sym below)
          (subst (λ ns. AreDenoted texts (targets_at s k (slice_get s.modules.items m)) (ends_in_module ns m name (slice_get xs m))) named_by here)

      leads_nowhere : (e : LinkEnd) → is_terminal e ≡ true → AreDenoted texts [] (leads xs e)
      leads_nowhere (pair m name) h = absurd cc
      leads_nowhere (symbol m r) h = tt
      leads_nowhere (default_of m) h = tt
      leads_nowhere (namespace_of m) h = tt
      leads_nowhere (outside source name) h = tt

      -- one target leads where its end does
      pub follows : Follow texts s xs
      follows (target.Name m k) e d =
          let w : (name : Name) × (slice_get texts k ≡ Some name) × (pair m name ≡ e) = mapped_some (λ name. pair m name) (slice_get texts k) e d in
          subst (λ f. AreDenoted texts (targets_of s (m, k)) (leads xs f)) w.2 (follow_name m k w.0 w.1)
      follows (target.End t) e d = leads_nowhere e (terminal_is texts t e d)
