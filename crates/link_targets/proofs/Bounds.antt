-- Names lead to modules of the set, and to texts that have numbers.
use Rattle.std.proofs.Common.{◌≡◌, ◌<◌, inl, inr, ℕ, List, [], ◌∷◌, Bool, true, false, cond, Option, Some, None, refl, sym, ap, subst, ◌∙◌, slice_get, get_or, length, map, nat_lt}
use Rattle.std.specs.Prelude.{codes, option_map}
use Rattle.std.specs.Str.{bytes_eq}
use Rattle.std.proofs.lemmas.Bool.Decides.{Decides-ltb}
use Rattle.std.proofs.lemmas.List.{length-map}
use Rattle.std.proofs.lemmas.List.Quantifiers.{position-Some}
use Rattle.std.proofs.lemmas.Option.{slice_get_within, slice_get-get_or}
use Rattle.reachability.specs.Rows.{Among}
use Rattle.link_search.specs.Numbering.{Pair}
use Rattle.semantic_kinds.specs.declared.kind.AstType.TheVariants as kind
use Rattle.semantic_tree.specs.Views.{is as is_kind}
use Rattle.semantic_syntax.specs.Tables.{Name}
use Rattle.semantic_tree.specs.declared.node.Node.{Node}
use Rattle.link_model.specs.Exports.{Exported, listed, passed_on, collected, declared, by_default, Export, export_named, exports, stars}
use Rattle.link_model.specs.Imports.{Import, Wanted, one, whole, imports}
use Rattle.link_model.specs.Leads.{LinkEnd, pair, Ties, ties_of, wanted_by_name, wanted_end, import_binding, import_or_symbol, symbol_ends, local_ends, declared_ends, exported_ends, starred, name_ends, ends_in_module, leads}
use Rattle.link_model.specs.Module.{Analysed, module_names, module_named, source_text}
use Rattle.link_search.specs.Exports.{targets_at, targets_of, StaysWithin}
use Rattle.link_search.specs.Targets.{target_names}
use Rattle.link_search.specs.declared.exports.SetExports.{SetExports}
use Rattle.link_search.specs.declared.target.Target.TheVariants as target
use Rattle.link_search.proofs.Members.{name_among}
use Rattle.link_targets.specs.Denoted.{denoted}
use Rattle.link_targets.proofs.Denotes.{mapped_some, member_end}
use Rattle.link_targets.specs.Followed.{Follow}

first_same : (a b : ℕ) (x y : Name) → pair a x ≡ pair b y → a ≡ b
first_same a b x y e = cc

module _ (names : List Name) (a : ℕ) (y : Name) where
  wanted_at : (source : Name) (w : Wanted) (o : Option ℕ) → module_named names source ≡ o → wanted_by_name source w o ≡ pair a y → a < length names
  wanted_at source w None h e = absurd cc
  wanted_at source (one name) (Some n) h e =
      let within : n < length names = (position-Some (bytes_eq source) names n [] h).0 in
      subst (λ k. k < length names) (first_same n a name y e) within
  wanted_at source whole (Some n) h e = absurd cc

  pub wanted_within : (source : Name) (w : Wanted) → wanted_end names source w ≡ pair a y → a < length names
  wanted_within source w e = wanted_at source w (module_named names source) refl e

  symbol_within : (m s : ℕ) (o : Option Import) → import_or_symbol names m s o ≡ pair a y → a < length names
  symbol_within m s None e = absurd cc
  symbol_within m s (Some i) e = wanted_within i.source i.wanted e

  tied_within : (m : ℕ) (t : Ties) (is : List Import) (o : Option ℕ) → Among (pair a y) (symbol_ends names m t is o) → a < length names
  tied_within m t is None i = absurd i
  tied_within m t is (Some s) (inl e) = symbol_within m s (import_binding t s is) e
  tied_within m t is (Some s) (inr i) = absurd i

  declared_within : (m : ℕ) (o : Option ℕ) → Among (pair a y) (declared_ends m o) → a < length names
  declared_within m None i = absurd i
  declared_within m (Some s) (inl e) = absurd cc
  declared_within m (Some s) (inr i) = absurd i

  local_within : (m : ℕ) (t : Ties) (is : List Import) (o : Option Node) → Among (pair a y) (local_ends names m t is o) → a < length names
  local_within m t is None i = absurd i
  local_within m t is (Some local) i = go (is_kind kind.IdentifierReference local) i
    where
      go : (b : Bool) → Among (pair a y) (cond b (symbol_ends names m t is (t.tied local.node_id)) []) → a < length names
      go true j = tied_within m t is (t.tied local.node_id) j
      go false j = absurd j

  exported_within : (m : ℕ) (t : Ties) (is : List Import) (what : Exported) → Among (pair a y) (exported_ends names m t is what) → a < length names
  exported_within m t is (listed local) i = local_within m t is local i
  exported_within m t is (passed_on source name) (inl e) = wanted_within source (one name) e
  exported_within m t is (passed_on source name) (inr i) = absurd i
  exported_within m t is (collected source) (inl e) = wanted_within source whole e
  exported_within m t is (collected source) (inr i) = absurd i
  exported_within m t is (declared id) i = declared_within m (t.declared id) i
  exported_within m t is (by_default None) (inl e) = absurd cc
  exported_within m t is (by_default None) (inr i) = absurd i
  exported_within m t is (by_default (Some id)) i = declared_within m (t.declared id.node_id) i

  -- an element of a filtered list
  starred_within : (ss : List Node) (name : Name) → Among (pair a y) (map (λ n. pair n name) (starred names ss)) → a < length names
  starred_within [] name i = absurd i
  starred_within (s ∷ ss) name i = go (module_named names (source_text s)) refl i (λ j. starred_within ss name j)
    where
      go : (o : Option ℕ) → module_named names (source_text s) ≡ o → Among (pair a y) (map (λ n. pair n name) (starred names (s ∷ ss))) → (Among (pair a y) (map (λ n. pair n name) (starred names ss)) → a < length names) → a < length names
      go None h j more = more (rw h at j)
      go (Some n) h j more = first n h (rw h at j) more
        where
          first : (n : ℕ) → module_named names (source_text s) ≡ Some n → Among (pair a y) (pair n name ∷ map (λ n. pair n name) (starred names ss)) → (Among (pair a y) (map (λ n. pair n name) (starred names ss)) → a < length names) → a < length names
          first n h (inl e) more =
              let within : n < length names = (position-Some (bytes_eq (source_text s)) names n [] h).0 in
              subst (λ k. k < length names) (first_same n a name y e) within
          first n h (inr j) more = more j

  name_within : (m : ℕ) (x : Analysed) (name : Name) (o : Option Export) → Among (pair a y) (name_ends names m x name o) → a < length names
  name_within m x name (Some e) i = exported_within m (ties_of x.analysis) (imports x) e.what i
  name_within m x name None i = go (bytes_eq name (codes "default")) i
    where
      go : (b : Bool) → Among (pair a y) (cond b [] (map (λ n. pair n name) (starred names (stars x)))) → a < length names
      go true j = absurd j
      go false j = starred_within (stars x) name j

  in_within : (m : ℕ) (name : Name) (o : Option Analysed) → Among (pair a y) (ends_in_module names m name o) → a < length names
  in_within m name None i = absurd i
  in_within m name (Some x) i = name_within m x name (export_named (exports x) name) i

  leads_within : (ms : List Analysed) → names ≡ module_names ms → (m : ℕ) (name : Name) → Among (pair a y) (leads ms (pair m name)) → a < length names
  leads_within ms is m name i = in_within m name (slice_get ms m) (subst (λ ns. Among (pair a y) (ends_in_module ns m name (slice_get ms m))) (sym is) i)

module _ (texts : List Name) (s : SetExports) (ms : List Analysed) (follow : Follow texts s ms) (many : s.names ≡ length texts) (count : length s.modules.items ≡ length ms) where
  -- the number of a text that is denoted is there
  number_within : (m k : ℕ) (e : LinkEnd) → denoted texts (target.Name m k) ≡ Some e → k < length texts
  number_within m k e d =
      let w : (x : Name) × (slice_get texts k ≡ Some x) × (pair m x ≡ e) = mapped_some (λ x. pair m x) (slice_get texts k) e d in slice_get_within texts k w.0 w.1

  within_at : (p q : Pair) (name : Name) → slice_get texts p.1 ≡ Some name → Among q (target_names (targets_of s p)) → (q.0 < length s.modules.items) × (q.1 < s.names)
  within_at p q name there i =
      let d : denoted texts (target.Name p.0 p.1) ≡ Some (pair p.0 name) = ap (option_map (λ x. pair p.0 x)) there in
      let w : (e : LinkEnd) × (denoted texts (target.Name q.0 q.1) ≡ Some e) × Among e (leads ms (pair p.0 name)) = member_end texts (targets_of s p) (leads ms (pair p.0 name)) (follow (target.Name p.0 p.1) (pair p.0 name) d) (target.Name q.0 q.1) (name_among (targets_of s p) q i) in
      let v : (x : Name) × (slice_get texts q.1 ≡ Some x) × (pair q.0 x ≡ w.0) = mapped_some (λ x. pair q.0 x) (slice_get texts q.1) w.0 w.1 in
      let here : Among (pair q.0 v.0) (leads ms (pair p.0 name)) = subst (λ e. Among e (leads ms (pair p.0 name))) (sym v.2) w.2 in
      let first : q.0 < length (module_names ms) = leads_within (module_names ms) q.0 v.0 ms refl p.0 name here in
      let counted : length (module_names ms) ≡ length s.modules.items = length-map ms (λ (x : Analysed). x.name) ∙ sym count in
      (subst (λ n. q.0 < n) counted first, subst (λ n. q.1 < n) (sym many) (slice_get_within texts q.1 v.0 v.1))

  -- names lead only to names that there are
  pub stays_within : StaysWithin s
  stays_within p q i = go (nat_lt p.1 s.names) refl i
    where
      go : (b : Bool) → nat_lt p.1 s.names ≡ b → Among q (target_names (cond b (targets_at s p.1 (slice_get s.modules.items p.0)) [])) → (q.0 < length s.modules.items) × (q.1 < s.names)
      go false h j = absurd j
      go true h j =
          let below : p.1 < length texts = subst (λ n. p.1 < n) many ((Decides-ltb p.1 s.names).0 h) in
          within_at p q (get_or texts p.1 []) (slice_get-get_or texts p.1 [] below) i
