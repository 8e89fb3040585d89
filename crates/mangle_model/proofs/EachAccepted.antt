-- The simple mangler is always accepted: its new names come of a one-to-one map of names, and pass the tests one by one.
use Rattle.std.proofs.Common.{◌≡◌, ℕ, zero, suc, ◌+◌, List, [], ◌∷◌, Bool, true, false, not, ◌&&◌, ◌||◌, inl, inr, ◌⊎◌, Option, Some, None, cond, refl, sym, ap, subst, ◌∙◌, bytes_eq, arith}
use Rattle.std.specs.Prelude.{nat_le, slice_get, slice_index_or}
use Rattle.std.specs.List.{list_any}
use Rattle.std.specs.Map.{lookup}
use Rattle.std.proofs.lemmas.Bool.{le-leb}
use Rattle.semantic_syntax.specs.Tables.{Name, Symbol, Bindings, FreeLists}
use Rattle.semantic_syntax.specs.Reading.{bindings_of}
use Rattle.semantic_tree.specs.Children.{node_count}
use Rattle.semantic_tree.specs.Faults.{first_fault}
use Rattle.semantic_tree.specs.Forest.{Forest, nothing, tree}
use Rattle.semantic_tree.specs.Tree.{Tree, IsNumbered}
use Rattle.semantic_model.specs.Analysis.{Analysis, symbol_at, tied_at, analysis_of}
use Rattle.semantic_model.specs.Entries.{Among}
use Rattle.semantic_model.specs.Moment.{IsOwned}
use Rattle.semantic_model.proofs.bindings.Owned.{bindings_owned}
use Rattle.semantic_model.proofs.form.Shape.{has_form}
use Rattle.semantic_model.proofs.once.ListedUnder.{name_tells}
use Rattle.semantic_model.proofs.swapped.AlikeProgram.{Keeps}
use Rattle.program_laws.specs.SymbolNames.{IsNamed}
use Rattle.rename_model.specs.Same.{first_difference}
use Rattle.rename_model.specs.WithName.{is_identifier}
use Rattle.rename_model.proofs.Differences.{complete}
use Rattle.mangle_model.specs.Alike.{Alike}
use Rattle.mangle_model.specs.Assignment.{Assignment, assignment_of, name_or, first_name, has_new_name, nothing_new}
use Rattle.mangle_model.specs.GoodNames.{is_free_name, is_kept_name, is_good_name}
use Rattle.mangle_model.specs.MayMangle.{Options}
use Rattle.mangle_model.specs.Mangling.{may_change, all_pass, all_identifiers, is_no_node, may_take, is_accepted}
use Rattle.mangle_model.specs.OneNameEach.{is_fixed_name, symbol_names, name_pairs, each_named, one_name_each}
use Rattle.mangle_model.specs.OneToOne.{SymbolsAgree, BoundAgree, BindingsAgree, FreeAgree, ComesOf}
use Rattle.mangle_model.specs.Renamed.{new_name, given, renamed_by}
use Rattle.mangle_model.specs.Tests.{are_renamed}
use Rattle.mangle_model.specs.WithNames.{is_given}
use Rattle.mangle_model.specs.Written.{size_written}
use Rattle.mangle_model.proofs.Composed.{none_alike}
use Rattle.mangle_model.proofs.Decided.{renamed_decides}
use Rattle.mangle_model.proofs.EachNode.{texts_agree, all_named}
use Rattle.mangle_model.proofs.EachPair.{clash, neither, IsUnusedName, old_in, new_in, pairs_apart}
use Rattle.mangle_model.proofs.EachSymbol.{plain_pairs, symbol_not_new, name_of_symbol, given_named, Gets, gets}
use Rattle.mangle_model.proofs.MappedNames.{Pair, IsNotNew, mapped, mapped_is, mapped_keeps, none_found}
use Rattle.mangle_model.proofs.OneName.{none_is_itself}
use Rattle.mangle_model.proofs.OneToOne.{one_to_one_alike}

first_of : (x y : Bool) → x ≡ true → (x || y) ≡ true
first_of true y h = refl
first_of false y h = absurd cc

module _ (o : Options) (p : Tree) (faultless : first_fault p ≡ None) (numbered : IsNumbered p.root) where
  abbrev a : Analysis
  a = analysis_of p

  abbrev may : ℕ → Bool
  may = may_change o p

  abbrev pairs : List Pair
  pairs = name_pairs may a p

  abbrev list : List (Option Name)
  list = each_named o p

  abbrev names : Assignment
  names = assignment_of list

  abbrev f : Name → Name
  f = mapped pairs

  f_is : (name : Name) → IsNotNew pairs name → f name ≡ name_or (lookup (bytes_eq name) pairs) name
  f_is name k = mapped_is pairs (pairs_apart may a p) name k

  -- ---- the map agrees with what is given

  named_agrees : (s : ℕ) (name : Name) → IsNamed a.tables s name → name_or (names s) name ≡ f name
  named_agrees s name w =
      ap (λ n. name_or n name) (given_named o p s name w)
      ∙ sym (f_is name (symbol_not_new o p name (subst (λ t. Among t (symbol_names a.tables)) w.named (name_of_symbol a.tables.symbols s w.symbol w.is_there))))

  symbols_from : (s : ℕ) (ys : List Symbol) → ((i : ℕ) (y : Symbol) → slice_get ys i ≡ Some y → name_or (names (s + i)) y.name ≡ f y.name) → SymbolsAgree f names s ys
  symbols_from s [] h = tt
  symbols_from s (y ∷ ys) h = (
    subst (λ k. name_or (names k) y.name ≡ f y.name) (omega arith) (h zero y refl),
    symbols_from (suc s) ys (λ i z e. subst (λ k. name_or (names k) z.name ≡ f z.name) (omega arith) (h (suc i) z e)),
  )

  bound_agree : (bs : Bindings) → ((b : Name × ℕ) → Among b bs → IsNamed a.tables b.1 b.0) → BoundAgree f names bs
  bound_agree [] h = tt
  bound_agree (b ∷ bs) h = (named_agrees b.1 b.0 (h b (inl refl)), bound_agree bs (λ c d. h c (inr d)))

  bindings_agree : (bss : List Bindings) → ((c : ℕ) (b : Name × ℕ) → Among b (slice_index_or bss c []) → IsNamed a.tables b.1 b.0) → BindingsAgree f names bss
  bindings_agree [] h = tt
  bindings_agree (bs ∷ bss) h = (bound_agree bs (h zero), bindings_agree bss (λ c. h (suc c)))

  owned : (c : ℕ) (b : Name × ℕ) → Among b (bindings_of a.tables c) → IsNamed a.tables b.1 b.0
  owned c b d = let w : IsOwned a.tables c b = (bindings_owned p (has_form p faultless)).owned c b d in record { symbol = w.symbol; is_there = w.is_there; named = w.named }

  -- ---- free names

  free_there : (xs : FreeLists) (x : Name × List ℕ) → Among x xs → list_any (λ y. bytes_eq y.0 x.0) xs ≡ true
  free_there [] x b = absurd b
  free_there (y ∷ ys) x b = go (bytes_eq y.0 x.0) (name_tells y.0 x.0) b (λ c. free_there ys x c)
    where
      go : (t : Bool) → ((t ≡ true) × (y.0 ≡ x.0)) ⊎ ((t ≡ false) × (y.0 ≡ x.0 → ⊥)) → (y ≡ x) ⊎ Among x ys → (Among x ys → list_any (λ z. bytes_eq z.0 x.0) ys ≡ true) → (t || list_any (λ z. bytes_eq z.0 x.0) ys) ≡ true
      go true w c more = refl
      go false (inl w) c more = absurd cc
      go false (inr w) (inl e) more = absurd (w.1 (ap (λ q. q.0) e))
      go false (inr w) (inr c) more = more c

  fixed_stays : (name : Name) → is_fixed_name may a p name ≡ true → f name ≡ name
  fixed_stays name h =
      f_is name (λ d b e. clash (is_fixed_name may a p name) h (subst (λ t. is_fixed_name may a p t ≡ false) e (new_in may a p d b).fixed))
      ∙ ap (λ n. name_or n name) (none_found pairs name (λ d b e. clash (is_fixed_name may a p name) h (subst (λ t. is_fixed_name may a p t ≡ false) e (old_in may a p d b).fixed)))

  free_agree : (xs : FreeLists) → ((x : Name × List ℕ) → Among x xs → is_free_name a.tables x.0 ≡ true) → FreeAgree f xs
  free_agree [] h = tt
  free_agree (x ∷ xs) h = (fixed_stays x.0 (first_of (is_free_name a.tables x.0) _ (h x (inl refl))), free_agree xs (λ y b. h y (inr b)))

  comes : ComesOf f names p
  comes =
      let keeps : Keeps f = mapped_keeps pairs (plain_pairs o p) in record {
        one_to_one = record { equal = keeps.equal; eval = keeps.eval; arguments = keeps.arguments };
        texts = texts_agree o p faultless numbered;
        symbols = symbols_from 0 a.tables.symbols (λ i y e. subst (λ k. name_or (names k) y.name ≡ f y.name) (omega arith) (named_agrees i y.name (record { symbol = y; is_there = e; named = refl })));
        bindings = bindings_agree a.tables.bindings owned;
        free = free_agree a.tables.free (λ x b. free_there a.tables.free x b);
      }

  -- ---- the tests

  module _ (test : ℕ → Name → Bool) where
    pass_from : (s : ℕ) (ns : List (Option Name)) → ((i : ℕ) (n : Name) → assignment_of ns i ≡ Some n → test (s + i) n ≡ true) → all_pass test s ns ≡ true
    pass_from s [] h = refl
    pass_from s (None ∷ ns) h = pass_from (s + 1) ns (λ i n e. subst (λ k. test k n ≡ true) (omega arith) (h (suc i) n e))
    pass_from s (Some m ∷ ns) h =
        let first : test s m ≡ true = subst (λ k. test k m ≡ true) (omega arith) (h zero m refl) in
        let rest : all_pass test (s + 1) ns ≡ true = pass_from (s + 1) ns (λ j n e. subst (λ k. test k n ≡ true) (omega arith) (h (suc j) n e)) in
        λ i. first i && rest i

  good : (name : Name) → IsUnusedName may a p name → is_good_name may a.tables name ≡ true
  good name u =
      let (free, rest) = neither (is_free_name a.tables name) _ u.fixed in
      let (kept, standing) = neither (is_kept_name may name 0 a.tables.symbols) _ rest in
      rw (u.fits, u.word, free, kept) refl

  each_passes : (i : ℕ) (n : Name) → names i ≡ Some n → may_take may a (0 + i) n ≡ true
  each_passes i n e =
      let g : Gets o p i n = gets o p i n e in
      subst (λ k. may_take may a k n ≡ true) (omega arith) (λ j. g.may_be j && good n g.unused j)

  module _ (new : List (Option Name)) (alike : Alike (assignment_of new) p (renamed_by (assignment_of new) p)) where
    abbrev q : Tree
    q = renamed_by (assignment_of new) p

    accepted_by : all_pass (may_take may a) 0 new ≡ true → all_identifiers (is_given (given (assignment_of new) a)) p.root.children ≡ true → nat_le (size_written q) (size_written p) ≡ true → is_accepted o p new ≡ true
    accepted_by pass identifiers shorter =
        let tables : are_renamed (assignment_of new) a.tables (analysis_of q).tables ≡ true = (renamed_decides (assignment_of new) a.tables (analysis_of q).tables).1 alike.tables in
        let nodes : is_no_node (first_difference a (analysis_of q) 0 (node_count p.root)) ≡ true = ap is_no_node (complete p q alike.nodes) in
        λ i. pass i && (identifiers i && (tables i && (nodes i && shorter i)))

  -- ---- no names

  none_new : (at : Option ℕ) → new_name nothing_new at ≡ None
  none_new None = refl
  none_new (Some s) = refl

  none_given : (id : ℕ) → is_given (given nothing_new a) id ≡ false
  none_given id = λ i. has_new_name (first_name (none_new (symbol_at a id) i) (none_new (tied_at a id) i))

  none_identified : (g : Forest) → all_identifiers (is_given (given nothing_new a)) g ≡ true
  none_identified nothing = refl
  none_identified (tree r k span text marks below id after) =
      λ i. (not (none_given id i) || is_identifier k) && (none_identified below i && none_identified after i)

  none_accepted : is_accepted o p [] ≡ true
  none_accepted =
      accepted_by [] (subst (λ q. Alike nothing_new p q) (sym (none_is_itself p)) (none_alike p)) refl (none_identified p.root.children)
      ((λ i. nat_le (size_written (none_is_itself p i)) (size_written p)) ∙ le-leb (size_written p) (size_written p) (omega arith))

  -- ---- all together

  pub all_may_be_given : all_pass (may_take may a) 0 list ≡ true
  all_may_be_given = pass_from (may_take may a) 0 list each_passes

  pub always_accepted : is_accepted o p (one_name_each o p) ≡ true
  always_accepted = go (nat_le (size_written (renamed_by names p)) (size_written p)) refl
    where
      go : (b : Bool) → nat_le (size_written (renamed_by names p)) (size_written p) ≡ b → is_accepted o p (cond b list []) ≡ true
      go true e = accepted_by list (one_to_one_alike f names p faultless comes) all_may_be_given (all_named o p faultless numbered) e
      go false e = none_accepted
