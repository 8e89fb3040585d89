-- No node has two entries among the references of a walk.
use Rattle.std.proofs.Common.{◌≡◌, ℕ, List, [], ◌∷◌, Bool, true, false, if◌then◌else◌, None, nat_eq, refl, sym, subst}
use Rattle.std.specs.Prelude.{fold}
use Rattle.std.specs.List.{AllByRecursion, IsDistinct}
use Rattle.std.specs.Map.{keys_of}
use Rattle.std.proofs.lemmas.Bool.{eqb-false, ne_eqb}
use Rattle.std.proofs.lemmas.Map.Keys.{IsDistinct-cons, IsDistinct-head, IsDistinct-tail}
use Rattle.indexmap.specs.IndexMap.{insert_entry}
use Rattle.semantic_tree.specs.Tree.{Tree}
use Rattle.semantic_tree.specs.Faults.{first_fault}
use Rattle.semantic_model.specs.NodeTable.{Belongs, node_tables}
use Rattle.semantic_model.specs.Step.{steps}
use Rattle.walk_model.specs.Noted.{with_entry, entries_of}
use Rattle.walk_model.specs.Walks.{walked}
use Rattle.walk_model.proofs.refers.GivesTables.{has_referred}

-- a key that is apart from all stays so from one more
others : (q k v : ℕ) (es : List (ℕ × ℕ)) → nat_eq q k ≡ false → AllByRecursion (λ y. nat_eq q y ≡ false) (keys_of es) → AllByRecursion (λ y. nat_eq q y ≡ false) (keys_of (insert_entry nat_eq es k v))
others q k v [] apart all = (apart, tt)
others q k v (e ∷ es) apart all = by (nat_eq k e.0) (others q k v es apart all.1)
  where
    by : (b : Bool) → AllByRecursion (λ y. nat_eq q y ≡ false) (keys_of (insert_entry nat_eq es k v)) → AllByRecursion (λ y. nat_eq q y ≡ false) (keys_of (if b then (e.0, v) ∷ es else e ∷ insert_entry nat_eq es k v))
    by true rest = all
    by false rest = (all.0, rest)

pub one_more : (k v : ℕ) (es : List (ℕ × ℕ)) → IsDistinct nat_eq (keys_of es) → IsDistinct nat_eq (keys_of (insert_entry nat_eq es k v))
one_more k v [] d = IsDistinct-cons nat_eq k [] tt d
one_more k v (e ∷ es) d =
    by (nat_eq k e.0)
    (λ apart. IsDistinct-cons nat_eq e.0 (keys_of (insert_entry nat_eq es k v)) (others e.0 k v es (ne_eqb e.0 k (λ same. eqb-false k e.0 apart (sym same))) (IsDistinct-head nat_eq e.0 (keys_of es) d)) (one_more k v es (IsDistinct-tail nat_eq e.0 (keys_of es) d)))
    refl
  where
    by : (b : Bool) → (nat_eq k e.0 ≡ false → IsDistinct nat_eq (e.0 ∷ keys_of (insert_entry nat_eq es k v))) → nat_eq k e.0 ≡ b → IsDistinct nat_eq (keys_of (if b then (e.0, v) ∷ es else e ∷ insert_entry nat_eq es k v))
    by true new is = d
    by false new is = new is

from_entries : (es : List (ℕ × ℕ)) (bs : List Belongs) → IsDistinct nat_eq (keys_of es) → IsDistinct nat_eq (keys_of (fold with_entry es bs))
from_entries es [] d = d
from_entries es (b ∷ bs) d = from_entries (with_entry es b) bs (one_more b.node b.number es d)

pub no_keys : IsDistinct nat_eq []
unfolding IsDistinct
no_keys = tt

pub entries_apart : (bs : List Belongs) → IsDistinct nat_eq (keys_of (entries_of bs))
entries_apart bs = from_entries [] bs no_keys

-- what a check of exports asks of the references of a whole program
pub references_apart : (p : Tree) → first_fault p ≡ None → IsDistinct nat_eq (keys_of (walked p).nodes.references)
references_apart p h = subst (λ es. IsDistinct nat_eq (keys_of es)) (sym (has_referred p h).nodes) (entries_apart (node_tables (steps p)).references)
