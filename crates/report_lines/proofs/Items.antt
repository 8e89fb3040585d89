-- The texts of items, written one after the other.
use Rattle.std.proofs.Common.{◌≡◌, ℕ, ◌+◌, ◌<◌, List, ◌++◌, Option, Some, Result, Ok, Err, length, get_or, drop, flat_map, ap, sym, subst}
use Rattle.std.specs.Result.{IsErrAnd}
use Rattle.std.specs.Map.Iter.{TakesFirst}
use Rattle.std.proofs.lemmas.Map.Iter.{rest_more}
use Rattle.std.proofs.lemmas.List.{at_drop_more}
use Rattle.report_ends.specs.declared.error.ReportError.{ReportError}
use Rattle.report_ends.specs.Offers.{Offering}
use Rattle.report_ends.specs.Streams.{WritesLines, PartWritten, numbered_text}
use Rattle.report_ends.proofs.Stages.{writing_goes_on, writing_fails}

-- the text of the next item, and of those after it
flat_map_next : {A X : Type 0} (shows : A → X) (text : X → List ℕ) (items rest : List X) (r : Option A) (x : A) → r ≡ Some x → TakesFirst shows items r rest → text (shows x) ++ flat_map text rest ≡ flat_map text items
flat_map_next shows text items rest r x is takes = ap (flat_map text) (sym (rest_more shows items rest r x is takes))

-- the text of the next element, and of those after it
numbered_next : {X : Type 0} (text : ℕ → X → List ℕ) (i : ℕ) (xs : List X) (d : X) → i < length xs → text i (get_or xs i d) ++ numbered_text text (i + 1) (drop (i + 1) xs) ≡ numbered_text text i (drop i xs)
numbered_next text i xs d inside = sym (at_drop_more (numbered_text text i) xs i d inside)

module _ {K : Type 0} (held : K → Option (List ℕ)) (faults : K → ℕ) {Offered : Offering K} {IsLine : List ℕ → Type 0} where
  -- the text of an item of an iterator
  pub items_go_on : {A X : Type 0} (shows : A → X) (text : X → List ℕ) (items rest : List X) (r : Option A) (x : A) (a b c : K) (all : List ℕ) (u : Unit) → PartWritten held faults Offered IsLine a b (flat_map text items) all → r ≡ Some x → TakesFirst shows items r rest
      → WritesLines held faults Offered IsLine b c (text (shows x)) (Ok u) → PartWritten held faults Offered IsLine a c (flat_map text rest) all
  items_go_on shows text items rest r x a b c all u before is takes call =
      writing_goes_on held faults a b c (text (shows x)) (flat_map text rest) (flat_map text items) all u before call (flat_map_next shows text items rest r x is takes)

  pub items_fail : {A X : Type 0} (shows : A → X) (text : X → List ℕ) (items rest : List X) (r : Option A) (x : A) (a b c : K) (all : List ℕ) (error : ReportError) (result : Result Unit ReportError) → PartWritten held faults Offered IsLine a b (flat_map text items) all → r ≡ Some x → TakesFirst shows items r rest
      → WritesLines held faults Offered IsLine b c (text (shows x)) (Err error) → IsErrAnd result (λ told. told ≡ error) → WritesLines held faults Offered IsLine a c all result
  items_fail shows text items rest r x a b c all error result before is takes call same =
      writing_fails held faults a b c (text (shows x)) (flat_map text rest) (flat_map text items) all error result before call (flat_map_next shows text items rest r x is takes) same

  -- the text of an element in its place
  pub places_go_on : {X : Type 0} (text : ℕ → X → List ℕ) (i : ℕ) (xs : List X) (d : X) (a b c : K) (all : List ℕ) (u : Unit) → PartWritten held faults Offered IsLine a b (numbered_text text i (drop i xs)) all → i < length xs
      → WritesLines held faults Offered IsLine b c (text i (get_or xs i d)) (Ok u) → PartWritten held faults Offered IsLine a c (numbered_text text (i + 1) (drop (i + 1) xs)) all
  places_go_on text i xs d a b c all u before inside call =
      writing_goes_on held faults a b c (text i (get_or xs i d)) (numbered_text text (i + 1) (drop (i + 1) xs)) (numbered_text text i (drop i xs)) all u before call (numbered_next text i xs d inside)

  pub places_fail : {X : Type 0} (text : ℕ → X → List ℕ) (i : ℕ) (xs : List X) (d : X) (a b c : K) (all : List ℕ) (error : ReportError) (result : Result Unit ReportError) → PartWritten held faults Offered IsLine a b (numbered_text text i (drop i xs)) all → i < length xs
      → WritesLines held faults Offered IsLine b c (text i (get_or xs i d)) (Err error) → IsErrAnd result (λ told. told ≡ error) → WritesLines held faults Offered IsLine a c all result
  places_fail text i xs d a b c all error result before inside call same =
      writing_fails held faults a b c (text i (get_or xs i d)) (numbered_text text (i + 1) (drop (i + 1) xs)) (numbered_text text i (drop i xs)) all error result before call (numbered_next text i xs d inside) same

  -- the same text, said otherwise
  pub writes_same : (a b : K) (text other : List ℕ) (result : Result Unit ReportError) → WritesLines held faults Offered IsLine a b text result → text ≡ other → WritesLines held faults Offered IsLine a b other result
  writes_same a b text other result writes same = subst (λ t. WritesLines held faults Offered IsLine a b t result) same writes
