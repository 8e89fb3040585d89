-- Declarations of a name that keep clear of each other, those of catch clauses among them.
use Rattle.std.proofs.Common.{◌≡◌, ℕ, List, Option, Some, None, true, false, inl, inr, ◌⊎◌, refl, sym, ap, subst, ◌∙◌}
use Rattle.std.specs.Prelude.{slice_get}
use Rattle.semantic_syntax.specs.Tables.{Name}
use Rattle.semantic_model.specs.Declaration.{Declaration, plain, hoisted, caught}
use Rattle.semantic_model.specs.Entries.{Among}
use Rattle.semantic_model.specs.Place.{OpenScope}
use Rattle.binding_laws.specs.SeenDeclarations.{is_own_name}
use Rattle.binding_laws.proofs.SmallLaws.{some_is}
use Rattle.typescript_ties.proofs.LikeFlags.{IsVariable}

-- no declaration of the name goes to the scope, nor to a clause whose body it is
abbrev pub Untouched : List Declaration → Name → ℕ → Type 0
Untouched ds x c = (e : Declaration) → Among e ds → e.naming.name ≡ x → (e.route.target.number ≡ c → ⊥) × (e.route.target.body ≡ Some c → ⊥)

-- no clause's declaration of the name goes there
abbrev pub Free : List Declaration → Name → ℕ → Type 0
Free ds x c = (e : Declaration) → Among e ds → e.naming.name ≡ x → (e.route.target.number ≡ c → e.route.target.body ≡ None) × (e.route.target.body ≡ Some c → ⊥)

-- as `var` declares it, past no scope where the name is declared, or plainly
pub record IsLasting (ds : List Declaration) (d : Declaration) : Type 0 where
  pub lasting : d.route.target.body ≡ None
  pub way : (d.how ≡ plain) ⊎ ((d.how ≡ hoisted) × (IsVariable d × ((s : OpenScope) → Among s d.route.passed → Untouched ds d.naming.name s.number)))

-- as a catch clause does: neither the clause nor its body, which is that of no other clause, has the name by another declaration
pub record IsCaughtAlone (table : List (Option ℕ)) (ds : List Declaration) (d : Declaration) (b : ℕ) : Type 0 where
  pub body : d.route.target.body ≡ Some b
  pub how : (d.how ≡ plain) ⊎ (d.how ≡ caught)
  pub other : is_own_name d ≡ false
  pub ends : slice_get table b ≡ Some None
  pub alone : (e : Declaration) → Among e ds → e.naming.name ≡ d.naming.name → e.route.target.number ≡ d.route.target.number → e.naming.identifier ≡ d.naming.identifier
  pub unbodied : (e : Declaration) → Among e ds → e.naming.name ≡ d.naming.name → e.route.target.number ≡ b → ⊥
  pub sole : (e : Declaration) → Among e ds → e.naming.name ≡ d.naming.name → e.route.target.body ≡ Some b → e.route.target.number ≡ d.route.target.number

-- in one of these ways, and as a function's own name where its scope has no other
pub record IsClearDeclaration (table : List (Option ℕ)) (ds : List Declaration) (d : Declaration) : Type 0 where
  pub alone : is_own_name d ≡ true → (e : Declaration) → Among e ds → e.naming.name ≡ d.naming.name → e.route.target.number ≡ d.route.target.number → e.naming.identifier ≡ d.naming.identifier
  pub way : IsLasting ds d ⊎ ((b : ℕ) × IsCaughtAlone table ds d b)

abbrev pub AllClear : List (Option ℕ) → List Declaration → Name → Type 0
AllClear table ds x = (d : Declaration) → Among d ds → d.naming.name ≡ x → IsClearDeclaration table ds d

-- the table tells the bodies of their targets
abbrev pub AllKnown : List (Option ℕ) → List Declaration → Type 0
AllKnown table ds = (d : Declaration) → Among d ds → slice_get table d.route.target.number ≡ Some d.route.target.body

pub none_some : {A : Type 0} → (a : A) → None ≡ Some a → ⊥
none_some a e = absurd cc

module _ (table : List (Option ℕ)) (ds : List Declaration) (x : Name) (known : AllKnown table ds) (clear : AllClear table ds x) where
  -- one of a clause is caught alone
  pub caught_alone : (d : Declaration) → Among d ds → d.naming.name ≡ x → (b : ℕ) → d.route.target.body ≡ Some b → IsCaughtAlone table ds d b
  caught_alone d a n b q = elim (clear d a n).way [
    | inl l ↦ absurd (none_some b (sym l.lasting ∙ q))
    | inr (c, k) ↦ subst (IsCaughtAlone table ds d) (some_is c b (sym k.body ∙ q)) k
  ]

  -- where a lasting one goes, no clause's does
  pub free_target : (d : Declaration) → Among d ds → d.naming.name ≡ x → d.route.target.body ≡ None → Free ds x d.route.target.number
  free_target d a n l e b m = (
    λ q. some_is e.route.target.body None (sym (known e b) ∙ ap (slice_get table) q ∙ known d a ∙ ap Some l),
    λ q. (caught_alone e b m d.route.target.number q).unbodied d a (n ∙ sym m) refl,
  )

  -- what is caught goes elsewhere than what a clause's body is
  pub caught_apart : (d e : Declaration) → Among d ds → Among e ds → d.naming.name ≡ x → e.naming.name ≡ x → (b : ℕ) → e.route.target.body ≡ Some b → d.route.target.number ≡ b → ⊥
  caught_apart d e a i n m b q = (caught_alone e i m b q).unbodied d a (n ∙ sym m)

pub untouched_free : (ds : List Declaration) (x : Name) (c : ℕ) → Untouched ds x c → Free ds x c
untouched_free ds x c f e a n = ((λ q. absurd ((f e a n).0 q)), (f e a n).1)
