-- A renaming keeps what each symbol is declared as, and all names but one.
use Rattle.std.proofs.Common.{◌≡◌, ℕ, ◌==◌, List, [], ◌∷◌, cond, Some, None, Ok, inl, inr, refl, sym, ap, subst, ◌∙◌, map}
use Rattle.std.specs.Prelude.{slice_get}
use Rattle.std.proofs.lemmas.Option.{slice_get_within}
use Rattle.semantic_syntax.specs.Tables.{Name, Symbol}
use Rattle.semantic_tree.specs.Faults.{first_fault}
use Rattle.semantic_tree.specs.Tree.{Tree, IsNumbered}
use Rattle.semantic_model.specs.Analysis.{analysis_of}
use Rattle.semantic_model.specs.Entries.{Among}
use Rattle.semantic_model.specs.Event.{events}
use Rattle.semantic_model.specs.Exported.{exported_names}
use Rattle.semantic_model.specs.Fold.{Made, start}
use Rattle.semantic_model.specs.Hoist.{run}
use Rattle.semantic_model.specs.NamespaceStates.{namespace_states}
use Rattle.semantic_model.specs.Step.{steps}
use Rattle.semantic_model.specs.TablesOf.{tables_of, made_of}
use Rattle.semantic_model.proofs.fold.Orders.{table_of, sound_program}
use Rattle.semantic_model.proofs.form.Shape.{has_form}
use Rattle.program_laws.specs.SymbolNames.{IsNamed}
use Rattle.program_laws.proofs.TiedNames.{declarations_have_names}
use Rattle.rename_model.specs.Refusal.{first_fixed, rename}
use Rattle.rename_model.specs.Renamed.{bears_name, program_renamed}
use Rattle.rename_model.specs.Same.{Same}
use Rattle.rename_model.proofs.Completeness.{no_fault_renamed}
use Rattle.rename_model.proofs.NamedNodes.{some_is}
use Rattle.rename_model.proofs.Refusals.{ends_renamed, none_means_free}
use Rattle.renaming_laws.specs.InBlocks.{ShareFlags}
use Rattle.renaming_laws.specs.KeptDeclarations.{KeepsDeclarations}
use Rattle.renaming_laws.proofs.KeptConflicts.{now_named, own_name, chosen_is, are_twins}
use Rattle.renaming_laws.proofs.SameConflicts.{symbols_in, AreTwins, same_looks}

-- what stands at the same place of the other list
pub record Partner (g h : Made → Name) (m : Made) (ns : List Made) : Type 0 where
  pub other : Made
  pub among : Among other ns
  pub symbol : m.symbol ≡ other.symbol
  pub name : g m ≡ h other

pub head_is : {A : Type 0} → (x y : A) (xs ys : List A) → ◌≡◌ {A = List A} (x ∷ xs) (y ∷ ys) → (x ≡ y) × (xs ≡ ys)
head_is x y xs ys e = (cc, cc)

pub partner : (g h : Made → Name) (ms ns : List Made) (m : Made) → symbols_in ms ≡ symbols_in ns → map g ms ≡ map h ns → Among m ms → Partner g h m ns
partner g h [] ns m e f a = absurd a
partner g h (x ∷ ms) [] m e f a = absurd cc
partner g h (x ∷ ms) (y ∷ ns) m e f (inl q) =
    let (s, others) = head_is x.symbol y.symbol (symbols_in ms) (symbols_in ns) e in
    let (t, rest) = head_is (g x) (h y) (map g ms) (map h ns) f in
    record { other = y; among = inl refl; symbol = ap (λ (k : Made). k.symbol) (sym q) ∙ s; name = ap g (sym q) ∙ t }
partner g h (x ∷ ms) (y ∷ ns) m e f (inr a) =
    let (s, others) = head_is x.symbol y.symbol (symbols_in ms) (symbols_in ns) e in
    let (t, rest) = head_is (g x) (h y) (map g ms) (map h ns) f in
    let w : Partner g h m ns = partner g h ms ns m others rest a in
    record { other = w.other; among = inr w.among; symbol = w.symbol; name = w.name }

-- a name of a symbol is its name
pub named_once : (p : Tree) (r : ℕ) (y : Symbol) (x : Name) → slice_get (tables_of p).symbols r ≡ Some y → IsNamed (tables_of p) r x → y.name ≡ x
named_once p r y x e w = ap (λ (z : Symbol). z.name) (some_is y w.symbol (sym e ∙ w.is_there)) ∙ w.named

module _ (p : Tree) (faultless : first_fault p ≡ None) (numbered : IsNumbered p.root) (s : ℕ) (y : Symbol) (there : slice_get (tables_of p).symbols s ≡ Some y) (new : Name) where
  abbrev q : Tree
  q = program_renamed p (analysis_of p) s new

  module _ (free : first_fixed (exported_names (steps p)) (bears_name (analysis_of p) s) (steps p) ≡ None) (faultless' : first_fault q ≡ None) (same : Same p q) (states : namespace_states (steps q) ≡ namespace_states (steps p)) (share : ShareFlags (made_of p)) (others : ShareFlags (made_of q)) where
    abbrev now : Made → Name
    now = now_named p faultless numbered s y there new free

    abbrev own : Made → Name
    own = own_name p faultless numbered s y there new free

    twins : AreTwins (events (steps p)) (events (steps q)) now own (table_of p) (table_of q)
    twins = are_twins p faultless numbered s y there new free faultless' same states share others

    name_kept : (r : ℕ) (a b : Symbol) → slice_get (tables_of p).symbols r ≡ Some a → slice_get (tables_of q).symbols r ≡ Some b → b.name ≡ cond (r == s) new a.name
    name_kept r a b e f =
        let (m, c, i) = (sound_program p (has_form p faultless)).has_declaration r (slice_get_within (run start (events (steps p))).symbols r a e) in
        let w : Partner now own m (made_of q) = partner now own (made_of p) (made_of q) m twins.symbols twins.names c in
        let old : a.name ≡ m.declaration.naming.name = named_once p r a m.declaration.naming.name e (subst (λ t. IsNamed (tables_of p) t m.declaration.naming.name) i (declarations_have_names p (has_form p faultless) m c)) in
        let fresh : b.name ≡ w.other.declaration.naming.name = named_once q r b w.other.declaration.naming.name f (subst (λ t. IsNamed (tables_of q) t w.other.declaration.naming.name) (sym w.symbol ∙ i) (declarations_have_names q (has_form q faultless') w.other w.among)) in
        fresh ∙ sym w.name ∙ (λ t. cond (chosen_is p faultless numbered s y there new free m c t) new m.declaration.naming.name) ∙ (λ t. cond (i t == s) new (sym old t))

    kept : KeepsDeclarations p q s new
    kept = record {
      symbols = sym (same_looks (events (steps p)) (events (steps q)) now own (table_of p) (table_of q) twins);
      names = name_kept;
    }

  pub declarations_kept : (r : Tree) → rename p s new ≡ Ok r → namespace_states (steps r) ≡ namespace_states (steps p) → ShareFlags (made_of p) → ShareFlags (made_of r) → KeepsDeclarations p r s new
  declarations_kept r h e share others =
      let (bad, none, same, is) = ends_renamed p s new r h in
      let free : first_fixed (exported_names (steps p)) (bears_name (analysis_of p) s) (steps p) ≡ None = none_means_free p s none in
      let same' : Same p q = subst (Same p) is same in
      let e' : namespace_states (steps q) ≡ namespace_states (steps p) = subst (λ t. namespace_states (steps t) ≡ namespace_states (steps p)) is e in
      let others' : ShareFlags (made_of q) = subst (λ t. ShareFlags (made_of t)) is others in
      let faultless' : first_fault q ≡ None = (no_fault_renamed p faultless numbered s y there new bad free).0 in
      subst (λ t. KeepsDeclarations p t s new) (sym is) (kept free faultless' same' e' share others')
