-- Flags that are alike but for whether a declaration is ambient: no look-up tells them apart.
use Rattle.std.proofs.Common.{◌≡◌, ℕ, ◌==◌, Option, Some, None, Bool, true, false, ◌&&◌, ◌||◌, not, cond, refl, sym, ap, subst, ◌∙◌, arith}
use Rattle.std.specs.Int.RustNames.{bit_and}
use Rattle.std.proofs.lemmas.Bool.{eq-eqb}
use Rattle.std.proofs.lemmas.Nat.{and_comm, and_le_r}
use Rattle.semantic_syntax.specs.Lookup.{Seen, is_arguments, fits}
use Rattle.semantic_syntax.specs.Sets.{meets, union}
use Rattle.semantic_syntax.specs.Tables.{Name}
use Rattle.semantic_syntax.specs.Usable.{asks_for_namespace}
use Rattle.semantic_syntax.specs.declared.reference_flags.TheConstants.ReferenceFlags as way
use Rattle.semantic_syntax.specs.declared.symbol_flags.TheConstants.SymbolFlags as symbol
use Rattle.semantic_model.specs.Binder.{ambient_if}
use Rattle.semantic_model.specs.Declaration.{Declaration}
use Rattle.semantic_model.specs.Fold.{Made}
use Rattle.binding_laws.specs.SeenDeclarations.{seen_alone, with_declaration}
use Rattle.typescript_ties.proofs.FitsTogether.{meets_union}

-- the flags of a variable
abbrev pub IsVariable : Declaration → Type 0
IsVariable d = (b : Bool) × (d.naming.flags ≡ union symbol.FunctionScopedVariable.bits (ambient_if b))

abbrev pub FlagsAlike : ℕ → ℕ → Type 0
FlagsAlike f g = (m : ℕ) → meets symbol.Ambient.bits m ≡ false → meets f m ≡ meets g m

-- the same symbol with such flags, or none
abbrev pub SeenAlike : Option Seen → Option Seen → Type 0
SeenAlike None None = Unit {0}
SeenAlike (Some a) (Some b) = (a.symbol ≡ b.symbol) × FlagsAlike a.flags b.flags
SeenAlike a b = ⊥

pub alike_equal : (a b : Option Seen) (z : Seen) → a ≡ Some z → b ≡ Some z → SeenAlike a b
alike_equal a b z e f = subst (λ o. SeenAlike o b) (sym e) (subst (SeenAlike (Some z)) (sym f) (refl, λ m i. refl))

pub alike_self : (o : Option Seen) → SeenAlike o o
alike_self None = tt
alike_self (Some s) = (refl, λ m i. refl)

pub alike_none : (o : Option Seen) → SeenAlike None o → o ≡ None
alike_none None h = refl
alike_none (Some s) h = absurd h

pub none_alike : (o : Option Seen) → SeenAlike o None → o ≡ None
none_alike None h = refl
none_alike (Some s) h = absurd h

abbrev seen_with : ℕ → ℕ → Option Seen
seen_with y flags = Some (record { symbol = y; flags = flags })

-- one more declaration of the symbol
pub one_more : (s f g : ℕ) (m : Made) (o : Option Seen) → SeenAlike (seen_with s f) o → m.symbol ≡ s → FlagsAlike g (union f m.declaration.naming.flags) → SeenAlike (seen_with s g) (with_declaration o m)
one_more s f g m None h e k = absurd h
one_more s f g m (Some b) h e k =
    let flags : ℕ = m.declaration.naming.flags in
    subst (SeenAlike (seen_with s g)) (sym (ap (λ t. Some (cond t (record { symbol = b.symbol; flags = union b.flags flags }) (seen_alone m))) (eq-eqb b.symbol m.symbol (sym h.0 ∙ sym e))))
    (h.0, λ n z. k n z ∙ meets_union f flags n ∙ ap (λ t. t || meets flags n) (h.1 n z) ∙ sym (meets_union b.flags flags n))

-- a variable adds nothing to the flags of one
pub variable_adds_none : (d : Declaration) → IsVariable d → (f : ℕ) → ((m : ℕ) → meets symbol.FunctionScopedVariable.bits m ≡ true → meets f m ≡ true) → FlagsAlike f (union f d.naming.flags)
variable_adds_none d w f covers m a =
    sym (meets_union f d.naming.flags m ∙ ap (λ g. meets f m || meets g m) w.1 ∙ ap (λ z. meets f m || z) (meets_union symbol.FunctionScopedVariable.bits (ambient_if w.0) m ∙ ap (λ z. meets symbol.FunctionScopedVariable.bits m || z) (none w.0))
    ∙ by (meets f m) (meets symbol.FunctionScopedVariable.bits m) (covers m))
  where
    nothing : bit_and 0 m ≡ 0
    nothing = and_comm 0 m ∙ omega (arith, and_le_r m 0)

    none : (b : Bool) → meets (ambient_if b) m ≡ false
    none true = a
    none false = ap (λ n. not (n == 0)) nothing

    by : (u v : Bool) → (v ≡ true → u ≡ true) → (u || (v || false)) ≡ u
    by true v h = refl
    by false true h = sym (h refl)
    by false false h = refl

-- ---- look-ups

pub fit_alike : (x : Name) (w f g : ℕ) → FlagsAlike f g → fits x w f ≡ fits x w g
fit_alike x w f g h = λ i.
    ((((meets w way.Value.bits && h symbol.ByValue.bits refl i) || (meets w way.TypeFlag.bits && h symbol.ByType.bits refl i) || (meets w way.ValueAsType.bits && h symbol.ByValueAsType.bits refl i))
    && (not (asks_for_namespace w) || h symbol.AsNamespace.bits refl i)) && not (is_arguments x w && h symbol.FunctionExpression.bits refl i))
