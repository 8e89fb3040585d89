-- Mangled programs whose names are not longer than those of the simple mangler.
use Rattle.std.proofs.Common.{◌≡◌, ◌≤◌, ℕ, List, [], Option, None, Some, Bool, true, false, cond, nat_le, Result, Ok, Err, IfOk, refl, sym, ap, subst, ◌∙◌, arith}
use Rattle.std.proofs.lemmas.Bool.{leb-true}
use Rattle.semantic_syntax.specs.Tables.{Name}
use Rattle.semantic_tree.specs.Faults.{first_fault}
use Rattle.semantic_tree.specs.Tree.{Tree, IsNumbered}
use Rattle.semantic_model.specs.Analysis.{Analysis, analysis_of}
use Rattle.rename_model.specs.WithName.{AreIdentifiers}
use Rattle.mangle_model.specs.Assignment.{assignment_of}
use Rattle.mangle_model.specs.Mangling.{may_change, IsMangled}
use Rattle.mangle_model.specs.MayMangle.{Options}
use Rattle.mangle_model.specs.OneNameEach.{each_named, name_pairs, names_by_name, one_name_each, simply_mangled}
use Rattle.mangle_model.specs.Renamed.{given, renamed_by}
use Rattle.mangle_model.specs.WithNames.{is_given, with_names_in, AreSomeNames}
use Rattle.mangle_model.specs.Written.{size_written}
use Rattle.mangle_model.proofs.EachAccepted.{all_may_be_given, always_accepted}
use Rattle.mangle_model.proofs.EachNode.{all_named}
use Rattle.mangle_model.proofs.Settled.{accepted}
use Rattle.mangler.specs.Alikes.{AreGivable, IsMangling, IsShortMangling, IsSimple}
use Rattle.mangler.specs.declared.mangling.Mangled.{Mangled}
use Rattle.mangler.proofs.Mangles.{some_by, identifiers_by}

module _ (o : Options) (p : Tree) (faultless : first_fault p ≡ None) (numbered : IsNumbered p.root) where
  -- ---- the simple mangler's names

  -- those that the tables give, where the same symbols may change
  pub each_by : (may : ℕ → Bool) (a : Analysis) (names : List (Option Name)) → ((s : ℕ) → may s ≡ may_change o p s) → a ≡ analysis_of p
      → names ≡ names_by_name (name_pairs may a p) a.tables.symbols → names ≡ each_named o p
  each_by may a names same e is = is ∙ (λ i. names_by_name (name_pairs (λ s. same s i) (e i) p) (e i).tables.symbols)

  givable : AreGivable (may_change o p) p (each_named o p)
  givable = record { pass = all_may_be_given o p faultless numbered; identifiers = all_named o p faultless numbered }

  module _ (names : List (Option Name)) (each : names ≡ each_named o p) (a : Analysis) (e : a ≡ analysis_of p) where
    abbrev are_givable : AreGivable (may_change o p) p names
    are_givable = subst (λ n. AreGivable (may_change o p) p n) (sym each) givable

    pub each_some : AreSomeNames (given (assignment_of names) a)
    each_some = some_by (may_change o p) p names a e are_givable

    pub each_identified : AreIdentifiers (is_given (given (assignment_of names) a)) p.root.children
    each_identified = identifiers_by (may_change o p) p names a e are_givable

  -- ---- its program

  simple_by : (m : Mangled) → m.names ≡ one_name_each o p → m.program ≡ simply_mangled o p → IsSimple o p m
  simple_by m named made = record {
    mangled = subst (λ n. IsMangled o p n m.program) (sym named) (subst (λ (q : Tree). IsMangled o p (one_name_each o p) q) (sym made) (accepted o p faultless numbered (one_name_each o p) (always_accepted o p faultless numbered)));
    names = named;
  }

  -- where it isn't longer by the names for all
  pub simple_names : (m : Mangled) (shorter : Bool) → m.names ≡ each_named o p → m.program ≡ renamed_by (assignment_of m.names) p → shorter ≡ nat_le (size_written m.program) (size_written p) → shorter ≡ true → IsSimple o p m
  simple_names m shorter named made is passed =
      let program : m.program ≡ renamed_by (assignment_of (each_named o p)) p = made ∙ ap (λ n. renamed_by (assignment_of n) p) named in
      let short : nat_le (size_written (renamed_by (assignment_of (each_named o p)) p)) (size_written p) ≡ true = sym (ap (λ (q : Tree). nat_le (size_written q) (size_written p)) program) ∙ sym is ∙ passed in
      let all : one_name_each o p ≡ each_named o p = ap (λ b. cond b (each_named o p) []) short in
      simple_by m (named ∙ sym all) (program ∙ ap (λ n. renamed_by (assignment_of n) p) (sym all))

-- the program that is made, by an analysis that tables tell
pub made_by : (p : Tree) (names : List (Option Name)) (made : Tree) (a : Analysis) → a ≡ analysis_of p → made ≡ with_names_in (given (assignment_of names) a) p → made ≡ renamed_by (assignment_of names) p
made_by p names made a e is = is ∙ ap (λ (b : Analysis). with_names_in (given (assignment_of names) b) p) e

-- ---- the shorter of two

simple_is : (o : Options) (p : Tree) (m : Mangled) → IsSimple o p m → m.program ≡ simply_mangled o p
simple_is o p m s = s.mangled.made ∙ ap (λ n. renamed_by (assignment_of n) p) s.names

pub simple_short : (o : Options) (p : Tree) (m : Mangled) → IsSimple o p m → IsShortMangling o p m
simple_short o p m s = record {
  mangled = s.mangled;
  length = subst (λ (q : Tree). size_written m.program ≤ size_written q) (simple_is o p m s) (omega arith);
}

pub shorter_short : (o : Options) (p : Tree) (one other m : Mangled) → IsMangling o p one → IsSimple o p other → m ≡ cond (nat_le (size_written one.program) (size_written other.program)) one other → IsShortMangling o p m
shorter_short o p one other m mangled simple is = subst (λ (n : Mangled). IsShortMangling o p n) (sym is) (go (nat_le (size_written one.program) (size_written other.program)) refl)
  where
    go : (b : Bool) → nat_le (size_written one.program) (size_written other.program) ≡ b → IsShortMangling o p (cond b one other)
    go false e = simple_short o p other simple
    go true e = record {
      mangled = mangled;
      length = subst (λ (q : Tree). size_written one.program ≤ size_written q) (simple_is o p other simple) (leb-true (size_written one.program) (size_written other.program) e);
    }

pub if_shorter : {E : Type 0} → (o : Options) (p : Tree) (one other : Mangled) (r : Result Mangled E) → IsMangling o p one → IsSimple o p other
    → IfOk r (λ m. m ≡ cond (nat_le (size_written one.program) (size_written other.program)) one other) → IfOk r (IsShortMangling o p)
if_shorter o p one other (Ok m) mangled simple h = shorter_short o p one other m mangled simple h
if_shorter o p one other (Err e) mangled simple h = tt
