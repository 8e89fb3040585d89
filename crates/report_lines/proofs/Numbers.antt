-- Items of an iterator that are numbered, and the texts of items that are seen otherwise.
use Rattle.std.proofs.Common.{◌≡◌, ℕ, ◌+◌, ◌<◌, ◌≤◌, List, [], ◌∷◌, ◌++◌, Option, Some, length, map, get_or, drop, cond, is_some, flat_map, subst, sym, refl, ap, arith}
use Rattle.std.specs.List.{AllByRecursion, enumerate_from}
use Rattle.std.specs.Map.Iter.{TakesFirst}
use Rattle.std.proofs.lemmas.Map.Iter.{rest_more}
use Rattle.std.proofs.lemmas.List.{at_drop_more}
use Rattle.semantic_syntax.specs.declared.references.Reference.{Reference}
use Rattle.node_store.specs.NodeList.{SeenNode}
use Rattle.node_store.specs.Outward.{numbered_from}
use Rattle.report_ends.specs.Offers.{Offering}
use Rattle.report_ends.specs.Streams.{PartWritten, numbered_text}
use Rattle.report_ends.proofs.Stages.{writing_begins}
use Rattle.report_lines.specs.CountLines.{free_count}

-- the numbers of the items are below the bound
abbrev pub AreBelow : {X : Type 0} → ℕ → List (ℕ × X) → Type 0
AreBelow bound = AllByRecursion (λ item. item.0 < bound)

enumerated_below : {X : Type 0} (bound n : ℕ) (xs : List X) → n + length xs ≤ bound → AreBelow bound (enumerate_from n xs)
enumerated_below bound n [] fits = tt
enumerated_below bound n (x ∷ xs) fits = (omega (arith, fits), enumerated_below bound (n + 1) xs (omega (arith, fits)))

pub all_enumerated : {X : Type 0} (xs : List X) → AreBelow (length xs) (enumerate_from 0 xs)
all_enumerated xs = enumerated_below (length xs) 0 xs (omega arith)

numbered_below : (bound n : ℕ) (xs : List SeenNode) → n + length xs ≤ bound → AreBelow bound (numbered_from n xs)
numbered_below bound n [] fits = tt
numbered_below bound n (x ∷ xs) fits = (omega (arith, fits), numbered_below bound (n + 1) xs (omega (arith, fits)))

pub all_numbered : (xs : List SeenNode) → AreBelow (length xs) (numbered_from 0 xs)
all_numbered xs = numbered_below (length xs) 0 xs (omega arith)

-- the first item of an iterator, and the others
pub first_below : {A X : Type 0} (shows : A → ℕ × X) (bound : ℕ) (items rest : List (ℕ × X)) (r : Option A) (x : A) → AreBelow bound items → r ≡ Some x → TakesFirst shows items r rest → AreBelow bound (shows x ∷ rest)
first_below shows bound items rest r x below is takes = subst (AreBelow bound) (rest_more shows items rest r x is takes) below

-- the texts of items as they are seen
pub texts_seen : {A X : Type 0} (seen : A → X) (text : ℕ → X → List ℕ) (n : ℕ) (xs : List A) → numbered_text (λ i x. text i (seen x)) n xs ≡ numbered_text text n (map seen xs)
texts_seen seen text n [] = refl
texts_seen seen text n (x ∷ xs) = ap (λ rest. text n (seen x) ++ rest) (texts_seen seen text (n + 1) xs)

-- the references from one on are it and those behind it
pub free_next : (references : List Reference) (i : ℕ) (d : Reference) → i < length references → free_count (drop i references) ≡ cond (is_some (get_or references i d).symbol_id) 0 1 + free_count (drop (i + 1) references)
free_next references i d inside = at_drop_more free_count references i d inside

module _ {K X : Type 0} (held : K → Option (List ℕ)) (faults : K → ℕ) {Offered : Offering K} {IsLine : List ℕ → Type 0} where
  -- nothing is written yet of the texts of these items
  pub begins_with : (out : K) (text : X → List ℕ) (items all : List X) → items ≡ all → PartWritten held faults Offered IsLine out out (flat_map text items) (flat_map text all)
  begins_with out text items all same = subst (λ xs. PartWritten held faults Offered IsLine out out (flat_map text xs) (flat_map text all)) (sym same) (writing_begins held faults out (flat_map text all))
