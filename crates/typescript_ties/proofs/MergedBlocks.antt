-- Blocks that share members have one name, and what a tangled name's members are is told by that.
use Rattle.std.proofs.Common.{◌≡◌, ℕ, zero, suc, ◌==◌, List, [], ◌∷◌, Some, Bool, true, false, ◌||◌, cond, refl, sym, ap, subst, ◌∙◌, inl, inr, bytes_eq, map, filter, filter_map}
use Rattle.std.specs.List.{list_any}
use Rattle.std.specs.Prelude.{slice_get, slice_index_or}
use Rattle.std.proofs.lemmas.Bool.{and_from}
use Rattle.std.proofs.lemmas.Bool.Decides.{eqb_tells}
use Rattle.semantic_syntax.proofs.Truth.{or_true}
use Rattle.semantic_syntax.specs.Members.{contains}
use Rattle.semantic_syntax.specs.Tables.{Name}
use Rattle.semantic_syntax.specs.Reading.{no_scope}
use Rattle.semantic_model.specs.Entries.{Among}
use Rattle.semantic_model.specs.Step.{Step, entering, opening, header_ending, closing, leaving}
use Rattle.semantic_model.specs.TablesOf.{opened_entry}
use Rattle.semantic_model.proofs.once.ListedUnder.{name_tells}
use Rattle.binding_laws.proofs.ListLaws.{among_filter}
use Rattle.binding_laws.proofs.ScopeOpeners.{openers}
use Rattle.tangle_model.specs.Mention.{Mention}
use Rattle.tangle_model.specs.Repeated.{Key, same_key, is_mention_of, key_of, keys_of, key_stands, repeats}
use Rattle.tangle_model.specs.Tangled.{is_merged, merged_openers}
use Rattle.tangle_model.specs.declared.what.What.TheVariants as what

-- a block of the name, by the node that opens its scope
abbrev pub block_of : ℕ → Name → Mention
block_of home name = record { what = what.Block; home = home; name = name }

abbrev block_key : Name → Key
block_key name = record { name = name; home = 0 }

same_self : (name : Name) → same_key (block_key name) (block_key name) ≡ true
same_self name = and_from (bytes_eq name name) (0 == 0) (elim (name_tells name name) [ inl e ↦ e.0 | inr e ↦ absurd (e.1 refl) ]) refl

key_among : (ms : List Mention) (home : ℕ) (name : Name) → Among (block_of home name) ms → key_stands (block_key name) (keys_of what.Block ms) ≡ true
key_among [] home name a = absurd a
key_among (m ∷ ms) home name (inl e) = subst (λ z. key_stands (block_key name) (keys_of what.Block (z ∷ ms)) ≡ true) (sym e) (ap (λ b. b || key_stands (block_key name) (keys_of what.Block ms)) (same_self name))
key_among (m ∷ ms) home name (inr a) = by (is_mention_of what.Block m) (key_among ms home name a)
  where
    by : (t : Bool) → key_stands (block_key name) (keys_of what.Block ms) ≡ true → list_any (same_key (block_key name)) (map key_of (cond t (m ∷ filter (is_mention_of what.Block) ms) (filter (is_mention_of what.Block) ms))) ≡ true
    by true e = ap (λ b. same_key (block_key name) (key_of m) || b) e ∙ or_true (same_key (block_key name) (key_of m))
    by false e = e

-- two of the name are more than one
two_repeat : (ms : List Mention) (i j : ℕ) (name : Name) → (i ≡ j → ⊥) → Among (block_of i name) ms → Among (block_of j name) ms → repeats (block_key name) (keys_of what.Block ms) ≡ true
two_repeat [] i j name n a b = absurd a
two_repeat (m ∷ ms) i j name n (inl e) (inl f) = absurd (n (ap (λ z. z.home) (sym e ∙ f)))
two_repeat (m ∷ ms) i j name n (inl e) (inr b) = subst (λ z. repeats (block_key name) (keys_of what.Block (z ∷ ms)) ≡ true) (sym e) (ap (λ t. cond t (key_stands (block_key name) (keys_of what.Block ms)) (repeats (block_key name) (keys_of what.Block ms))) (same_self name) ∙ key_among ms j name b)
two_repeat (m ∷ ms) i j name n (inr a) (inl f) = subst (λ z. repeats (block_key name) (keys_of what.Block (z ∷ ms)) ≡ true) (sym f) (ap (λ t. cond t (key_stands (block_key name) (keys_of what.Block ms)) (repeats (block_key name) (keys_of what.Block ms))) (same_self name) ∙ key_among ms i name a)
two_repeat (m ∷ ms) i j name n (inr a) (inr b) = by (is_mention_of what.Block m) (two_repeat ms i j name n a b)
  where
    by : (t : Bool) → repeats (block_key name) (keys_of what.Block ms) ≡ true → repeats (block_key name) (map key_of (cond t (m ∷ filter (is_mention_of what.Block) ms) (filter (is_mention_of what.Block) ms))) ≡ true
    by true e = same (same_key (block_key name) (key_of m)) e
      where
        same : (t : Bool) → repeats (block_key name) (keys_of what.Block ms) ≡ true → cond t (key_stands (block_key name) (keys_of what.Block ms)) (repeats (block_key name) (keys_of what.Block ms)) ≡ true
        same true g = key_among ms i name a
        same false g = g
    by false e = e

contains_there : (xs : List ℕ) (x : ℕ) → Among x xs → contains xs x ≡ true
contains_there [] x a = absurd a
contains_there (y ∷ xs) x (inl e) = elim (eqb_tells y x) [ inl q ↦ rw q.0 refl | inr q ↦ absurd (q.1 e) ]
contains_there (y ∷ xs) x (inr a) = elim (eqb_tells y x) [ inl q ↦ rw q.0 refl | inr q ↦ rw q.0 (contains_there xs x a) ]

home_among : (ms : List Mention) (m : Mention) → Among m ms → Among m.home (map (λ z. z.home) ms)
home_among [] m a = absurd a
home_among (y ∷ ms) m (inl e) = inl (ap (λ z. z.home) e)
home_among (y ∷ ms) m (inr a) = inr (home_among ms m a)

-- so each of them is merged
pub merged_opener : (ms : List Mention) (i j : ℕ) (name : Name) → (i ≡ j → ⊥) → Among (block_of i name) ms → Among (block_of j name) ms → contains (merged_openers ms) i ≡ true
merged_opener ms i j name n a b = contains_there (merged_openers ms) i (home_among (filter (is_merged ms) ms) (block_of i name) (among_filter (is_merged ms) ms (block_of i name) a (two_repeat ms i j name n a b)))

-- ---- the node of a scope

pub opened_node : (calls : List (List ℕ)) (ss : List Step) (c o : ℕ) → slice_get (openers ss) c ≡ Some o → (slice_index_or (filter_map (opened_entry calls) ss) c no_scope).node ≡ o
opened_node calls [] c o e = absurd cc
opened_node calls (opening p s ∷ ss) zero o e = cc
opened_node calls (opening p s ∷ ss) (suc c) o e = opened_node calls ss c o e
opened_node calls (entering p ∷ ss) c o e = opened_node calls ss c o e
opened_node calls (header_ending p s ∷ ss) c o e = opened_node calls ss c o e
opened_node calls (closing p s ∷ ss) c o e = opened_node calls ss c o e
opened_node calls (leaving p ∷ ss) c o e = opened_node calls ss c o e
