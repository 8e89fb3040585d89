-- Whether a node is a free reference, by its entry alone.
use Rattle.std.proofs.Common.{◌≡◌, ℕ, ◌<◌, ◌≤◌, List, [], ◌∷◌, Bool, true, false, Option, Some, None, ◌==◌, ◌&&◌, ◌||◌, not, cond, length, nat_eq, nat_lt, is_some, refl, sym, ap, ◌∙◌, inl, inr}
use Rattle.std.specs.Prelude.{filter_map}
use Rattle.std.specs.List.{AllByRecursion, IsDistinct, cons_option, list_any}
use Rattle.std.specs.Map.{keys_of, lookup}
use Rattle.std.proofs.lemmas.Bool.{cases_eq, eq-eqb, ne_eqb, eqb-false, lt-ltb, le-ltb}
use Rattle.std.proofs.lemmas.Map.Keys.{IsDistinct-head, IsDistinct-tail}
use Rattle.semantic_syntax.specs.Tables.{Tables}
use Rattle.semantic_syntax.specs.Reading.{reference_of}
use Rattle.semantic_syntax.specs.NodeEntries.{NodeEntries}
use Rattle.check_model.specs.Context.{free_entry, unresolved_by}
use Rattle.check_model.specs.SightOf.{free_by}

module _ (t : Tables) (id : ℕ) where
  -- one of the entries is the node's and tells that it is free
  abbrev free_in : List (ℕ × ℕ) → Bool
  free_in es = list_any (λ node. node == id) (filter_map (free_entry t) es)

  -- the reference is there and tied to no symbol
  abbrev is_free : ℕ → Bool
  is_free r = cond (nat_lt r (length t.references)) (not (is_some (reference_of t r).symbol_id)) false

  abbrev told : Option ℕ → Bool
  told None = false
  told (Some r) = is_free r

  by_symbol : (symbol : Option ℕ) (node : ℕ) (rest : List ℕ) → list_any (λ n. n == id) (cons_option (free_by symbol node) rest) ≡ ((not (is_some symbol) && (node == id)) || list_any (λ n. n == id) rest)
  by_symbol None node rest = refl
  by_symbol (Some y) node rest = refl

  by_entry : (within : Bool) (symbol : Option ℕ) (node : ℕ) (rest : List ℕ)
      → list_any (λ n. n == id) (cons_option (cond within (free_by symbol node) None) rest) ≡ ((cond within (not (is_some symbol)) false && (node == id)) || list_any (λ n. n == id) rest)
  by_entry true symbol node rest = by_symbol symbol node rest
  by_entry false symbol node rest = refl

  first : (e : ℕ × ℕ) (es : List (ℕ × ℕ)) → free_in (e ∷ es) ≡ ((is_free e.1 && (e.0 == id)) || free_in es)
  first e es = by_entry (nat_lt e.1 (length t.references)) (reference_of t e.1).symbol_id e.0 (filter_map (free_entry t) es)

  neither : (b : Bool) → ((b && false) || false) ≡ false
  neither true = refl
  neither false = refl

  just : (b : Bool) → ((b && true) || false) ≡ b
  just true = refl
  just false = refl

  other : (b c : Bool) → ((b && false) || c) ≡ c
  other true c = refl
  other false c = refl

  none : (es : List (ℕ × ℕ)) → AllByRecursion (λ k. (k == id) ≡ false) (keys_of es) → free_in es ≡ false
  none [] h = refl
  none (e ∷ es) h =
      first e es
      ∙ ap (λ b. (is_free e.1 && b) || free_in es) h.0
      ∙ ap (λ b. (is_free e.1 && false) || b) (none es h.1)
      ∙ neither (is_free e.1)

  apart : (k : ℕ) (ks : List ℕ) → k ≡ id → AllByRecursion (λ y. nat_eq k y ≡ false) ks → AllByRecursion (λ y. (y == id) ≡ false) ks
  apart k [] is h = tt
  apart k (y ∷ ks) is h = (ne_eqb y id (λ e. eqb-false k y h.0 (is ∙ sym e)), apart k ks is h.1)

  -- where each node has one entry, its own decides
  tells : (es : List (ℕ × ℕ)) → IsDistinct nat_eq (keys_of es) → free_in es ≡ told (lookup (nat_eq id) es)
  tells [] d = refl
  tells (e ∷ es) d = elim (cases_eq id e.0) [
    | inl is ↦
        first e es
        ∙ ap (λ b. (is_free e.1 && b) || free_in es) (eq-eqb e.0 id (sym is))
        ∙ ap (λ b. (is_free e.1 && true) || b) (none es (apart e.0 (keys_of es) (sym is) (IsDistinct-head nat_eq e.0 (keys_of es) d)))
        ∙ just (is_free e.1)
        ∙ sym (ap (λ b. told (cond b (Some e.1) (lookup (nat_eq id) es))) (eq-eqb id e.0 is))
    | inr ne ↦
        first e es
        ∙ ap (λ b. (is_free e.1 && b) || free_in es) (ne_eqb e.0 id (λ q. ne (sym q)))
        ∙ other (is_free e.1) (free_in es)
        ∙ tells es (IsDistinct-tail nat_eq e.0 (keys_of es) d)
        ∙ sym (ap (λ b. told (cond b (Some e.1) (lookup (nat_eq id) es))) (ne_eqb id e.0 ne))
  ]

-- by what the tables have for the node
module _ (nodes : NodeEntries) (t : Tables) (id : ℕ) (d : IsDistinct nat_eq (keys_of nodes.references)) where
  abbrev pub is_unresolved : Bool
  is_unresolved = list_any (λ node. node == id) (unresolved_by nodes t)

  pub free_there : (r : ℕ) → lookup (nat_eq id) nodes.references ≡ Some r → r < length t.references → is_unresolved ≡ not (is_some (reference_of t r).symbol_id)
  free_there r is within =
      tells t id nodes.references d ∙ ap (told t id) is ∙ ap (λ b. cond b (not (is_some (reference_of t r).symbol_id)) false) (lt-ltb r (length t.references) within)

  pub free_past : (r : ℕ) → lookup (nat_eq id) nodes.references ≡ Some r → length t.references ≤ r → is_unresolved ≡ false
  free_past r is past =
      tells t id nodes.references d ∙ ap (told t id) is ∙ ap (λ b. cond b (not (is_some (reference_of t r).symbol_id)) false) (le-ltb r (length t.references) past)

  pub free_none : lookup (nat_eq id) nodes.references ≡ None → is_unresolved ≡ false
  free_none is = tells t id nodes.references d ∙ ap (told t id) is

pub ruleset free = (free_there, free_past, free_none)
