-- When a program is a mangled one.
use Rattle.std.proofs.Common.{◌≡◌, ◌&&◌, ◌||◌, ℕ, List, [], Option, None, Some, Bool, true, false, not, bytes_eq, refl, sym, ap, subst, ◌∙◌}
use Rattle.std.specs.List.{list_any}
use Rattle.std.proofs.lemmas.Bool.{and_parts}
use Rattle.semantic_syntax.specs.Tables.{Name, Tables}
use Rattle.semantic_tree.specs.Children.{node_count}
use Rattle.semantic_tree.specs.Faults.{first_fault}
use Rattle.semantic_tree.specs.Forest.{Forest, nothing, tree}
use Rattle.semantic_tree.specs.Tree.{Tree, IsNumbered}
use Rattle.semantic_model.specs.Analysis.{Analysis, analysis_of, symbol_at, tied_at}
use Rattle.semantic_model.specs.Moment.{ListsBeginWithOwn}
use Rattle.semantic_model.specs.TablesOf.{tables_of}
use Rattle.semantic_model.proofs.fits.Afterwards.{lists_begin}
use Rattle.rename_model.specs.Same.{first_difference}
use Rattle.rename_model.specs.WithName.{AreIdentifiers}
use Rattle.rename_model.proofs.Differences.{exact_none}
use Rattle.mangle_model.specs.Assignment.{Assignment, first_name, has_new_name, assignment_of, nothing_new}
use Rattle.mangle_model.specs.GoodNames.{is_ascii_identifier, is_free_name, is_good_name, is_kept_name, is_reserved}
use Rattle.mangle_model.specs.MayMangle.{Options}
use Rattle.mangle_model.specs.Mangling.{all_identifiers, all_pass, is_no_node, may_change, may_take, IsMangled}
use Rattle.mangle_model.specs.Renamed.{given, new_name, renamed_by}
use Rattle.mangle_model.specs.Tests.{are_renamed}
use Rattle.mangle_model.specs.WithNames.{is_given, with_names_in, AreSomeNames, IsSomeName}
use Rattle.mangle_model.proofs.Decided.{renamed_decides}
use Rattle.mangle_model.proofs.NamesShape.{no_fault_made, numbers_kept}
use Rattle.mangle_model.proofs.OneName.{none_is_itself}
use Rattle.mangle_model.proofs.Settled.{each_passes, each_identifier, from_zero, good_some, some_given, itself}
use Rattle.mangler.specs.Alikes.{AreAlike, AreGivable, IsGoodCopy}
use Rattle.mangler.specs.Passing.{good_by, passes_by}

-- ---- the analysis

-- tables of a program have lists of redeclarations that are known
pub lists_of : (p : Tree) (t : Tables) → t ≡ tables_of p → ListsBeginWithOwn t
lists_of p t e = subst ListsBeginWithOwn (sym e) (lists_begin p)

no_node : (o : Option ℕ) → is_no_node o ≡ true → o ≡ None
no_node None e = refl
no_node (Some node) e = absurd cc

-- what the tests of two analyses tell
pub alike_by : (names : Assignment) (p q : Tree) (a b : Analysis) (test : Bool) → a ≡ analysis_of p → b ≡ analysis_of q
    → test ≡ (are_renamed names a.tables b.tables && is_no_node (first_difference a b 0 (node_count p.root))) → test ≡ true → AreAlike names p q
alike_by names p q a b test e f is passed =
    let parts = and_parts (are_renamed names (analysis_of p).tables (analysis_of q).tables) (is_no_node (first_difference (analysis_of p) (analysis_of q) 0 (node_count p.root)))
    (sym (is ∙ (λ i. are_renamed names (e i).tables (f i).tables && is_no_node (first_difference (e i) (f i) 0 (node_count p.root)))) ∙ passed) in
    record {
      tables = (renamed_decides names (tables_of p) (tables_of q)).0 parts.0;
      nodes = no_node (first_difference (analysis_of p) (analysis_of q) 0 (node_count p.root)) parts.1;
    }

-- ---- names that may be given

not_or : (a b : Bool) → not (a || b) ≡ (not a && not b)
not_or true b = refl
not_or false b = refl

good_is : (may : ℕ → Bool) (a : Analysis) (barred : List Name) → ((q : Name) → list_any (bytes_eq q) barred ≡ (is_free_name a.tables q || is_kept_name may q 0 a.tables.symbols))
    → (name : Name) → good_by barred name ≡ is_good_name may a.tables name
good_is may a barred h name =
    ap (λ b. is_ascii_identifier name && (not (is_reserved name) && b)) (ap not (h name) ∙ not_or (is_free_name a.tables name) (is_kept_name may name 0 a.tables.symbols))

pub givable_by : (may : ℕ → Bool) (p : Tree) (names : List (Option Name)) (a : Analysis) (barred : List Name) (pass identifiers : Bool) → a ≡ analysis_of p
    → ((q : Name) → list_any (bytes_eq q) barred ≡ (is_free_name a.tables q || is_kept_name may q 0 a.tables.symbols))
    → pass ≡ all_pass (passes_by may barred) 0 names → identifiers ≡ all_identifiers (is_given (given (assignment_of names) a)) p.root.children
    → pass ≡ true → identifiers ≡ true → AreGivable may p names
givable_by may p names a barred pass identifiers e h is all passed found = record {
  pass = sym (is ∙ (λ i. all_pass (λ s name. may s && good_is may a barred h name i) 0 names) ∙ ap (λ (b : Analysis). all_pass (may_take may b) 0 names) e) ∙ passed;
  identifiers = sym (all ∙ ap (λ (b : Analysis). all_identifiers (is_given (given (assignment_of names) b)) p.root.children) e) ∙ found;
}

module _ (may : ℕ → Bool) (p : Tree) (names : List (Option Name)) (g : AreGivable may p names) where
  pub each_good : (s : ℕ) (name : Name) → assignment_of names s ≡ Some name → may_take may (analysis_of p) s name ≡ true
  each_good s name l = subst (λ k. may_take may (analysis_of p) k name ≡ true) (from_zero s) (each_passes (may_take may (analysis_of p)) 0 names g.pass s name l)

  pub names_are_some : AreSomeNames (given (assignment_of names) (analysis_of p))
  names_are_some = some_given (assignment_of names) (λ s name l. good_some may p name (and_parts (may s) (is_good_name may (analysis_of p).tables name) (each_good s name l)).1) (analysis_of p)

  pub givens_are_identifiers : AreIdentifiers (is_given (given (assignment_of names) (analysis_of p))) p.root.children
  givens_are_identifiers = each_identifier (is_given (given (assignment_of names) (analysis_of p))) p.root.children g.identifiers

-- by an analysis that tables tell
pub some_by : (may : ℕ → Bool) (p : Tree) (names : List (Option Name)) (a : Analysis) → a ≡ analysis_of p → AreGivable may p names → AreSomeNames (given (assignment_of names) a)
some_by may p names a e g = subst (λ (b : Analysis). AreSomeNames (given (assignment_of names) b)) (sym e) (names_are_some may p names g)

pub identifiers_by : (may : ℕ → Bool) (p : Tree) (names : List (Option Name)) (a : Analysis) → a ≡ analysis_of p → AreGivable may p names → AreIdentifiers (is_given (given (assignment_of names) a)) p.root.children
identifiers_by may p names a e g = subst (λ (b : Analysis). AreIdentifiers (is_given (given (assignment_of names) b)) p.root.children) (sym e) (givens_are_identifiers may p names g)

-- ---- the mangled program

pub mangled_by : (o : Options) (p : Tree) (names : List (Option Name)) (a : Analysis) (may : ℕ → Bool) (made q : Tree) → first_fault p ≡ None → IsNumbered p.root → a ≡ analysis_of p → ((s : ℕ) → may s ≡ may_change o p s)
    → AreGivable may p names → made ≡ with_names_in (given (assignment_of names) a) p → (q ≡ made) × IsGoodCopy (assignment_of names) p q → IsMangled o p names q
mangled_by o p names a may made q faultless numbered e same g is (here, (alike, shorter)) =
    let sames : may ≡ may_change o p = λ i s. same s i in
    let h : AreGivable (may_change o p) p names = subst (λ (m : ℕ → Bool). AreGivable m p names) sames g in
    let copy : q ≡ renamed_by (assignment_of names) p = here ∙ is ∙ ap (λ (b : Analysis). with_names_in (given (assignment_of names) b) p) e in
    record {
      made = copy;
      may = λ s name l. (and_parts (may_change o p s) (is_good_name (may_change o p) (analysis_of p).tables name) (each_good (may_change o p) p names h s name l)).0;
      good = λ s name l. (and_parts (may_change o p s) (is_good_name (may_change o p) (analysis_of p).tables name) (each_good (may_change o p) p names h s name l)).1;
      alike = record { tables = alike.tables; nodes = exact_none p q alike.nodes };
      shorter = shorter;
      sound = ap first_fault copy ∙ no_fault_made (given (assignment_of names) (analysis_of p)) (names_are_some (may_change o p) p names h) p (givens_are_identifiers (may_change o p) p names h) faultless;
      numbered = subst (λ (t : Tree). IsNumbered t.root) (sym copy) (numbers_kept (given (assignment_of names) (analysis_of p)) p numbered);
    }

-- ---- the program itself

nothing_given : (a : Analysis) (id : ℕ) → given (assignment_of []) a id ≡ None
nothing_given a id = go (symbol_at a id) (tied_at a id)
  where
    none : (o : Option ℕ) → new_name (assignment_of []) o ≡ None
    none None = refl
    none (Some s) = refl

    go : (x y : Option ℕ) → first_name (new_name (assignment_of []) x) (new_name (assignment_of []) y) ≡ None
    go None y = none y
    go (Some s) y = none y

none_identified : (given : ℕ → Option Name) → ((id : ℕ) → given id ≡ None) → (f : Forest) → AreIdentifiers (is_given given) f
none_identified given h nothing = tt
none_identified given h (tree r k span text marks below id after) =
    ((λ e. let no : false ≡ true = sym (ap has_new_name (h id)) ∙ e in absurd cc), none_identified given h below, none_identified given h after)

none_some : (given : ℕ → Option Name) → ((id : ℕ) → given id ≡ None) → AreSomeNames given
none_some given h id = subst IsSomeName (sym (h id)) tt

module _ (a : Analysis) (names : List (Option Name)) (none : names ≡ []) where
  pub no_names_some : AreSomeNames (given (assignment_of names) a)
  no_names_some = subst (λ n. AreSomeNames (given (assignment_of n) a)) (sym none) (none_some (given (assignment_of []) a) (nothing_given a))

  pub no_names_identified : (f : Forest) → AreIdentifiers (is_given (given (assignment_of names) a)) f
  no_names_identified f = subst (λ n. AreIdentifiers (is_given (given (assignment_of n) a)) f) (sym none) (none_identified (given (assignment_of []) a) (nothing_given a) f)

pub itself_by : (o : Options) (p : Tree) (names : List (Option Name)) (a : Analysis) (q : Tree) → first_fault p ≡ None → IsNumbered p.root → a ≡ analysis_of p → names ≡ [] → q ≡ with_names_in (given (assignment_of names) a) p → IsMangled o p names q
itself_by o p names a q faultless numbered e none is =
    let none_listed : assignment_of [] ≡ nothing_new = λ i s. None in
    let copy : q ≡ p = is ∙ (λ i. with_names_in (given (assignment_of (none i)) (e i)) p) ∙ ap (λ n. renamed_by n p) none_listed ∙ none_is_itself p in
    subst (λ (t : Tree). IsMangled o p names t) (sym copy) (subst (λ n. IsMangled o p n p) (sym none) (itself o p faultless numbered))
