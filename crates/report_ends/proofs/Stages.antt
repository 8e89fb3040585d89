-- A text that is written in several calls.
use Rattle.std.proofs.Common.{◌≡◌, ℕ, ◌+◌, ◌<◌, List, [], ◌++◌, length, get_or, drop, Option, Result, Ok, Err, subst, sym, refl, ap, ◌∙◌, drop-cons, add-one, append-nil, flat_map}
use Rattle.std.specs.Result.{IsErrAnd}
use Rattle.report_ends.specs.Causes.{Rose}
use Rattle.report_ends.specs.declared.error.ReportError.{ReportError}
use Rattle.report_ends.specs.declared.error.ReportError.TheVariants.{Memory}
use Rattle.report_ends.specs.Offers.{Offering, OffersPiece}
use Rattle.report_ends.specs.Streams.{WriteCause, WriteKeeps, Writes, WritesLines, PartTaken, PartWritten, numbered_text}
use Rattle.report_ends.proofs.Offering.{offered_none, offered_more, offered_some, offered_no_more, one_line}
use Rattle.report_ends.proofs.Growth.{wrote_nothing, wrote_then, wrote_prefix, wrote_whole}

-- ---- texts, in whatever pieces

module _ {K : Type 0} (held : K → Option (List ℕ)) (faults : K → ℕ) where
  -- nothing yet
  pub taking_begins : (a : K) (text : List ℕ) → PartTaken held faults a a text text
  taking_begins a text = record { written = wrote_nothing (held a) text; kept = refl }

  -- a call wrote the front of the rest
  pub taking_goes_on : (a b c : K) (front rest old_rest text : List ℕ) (u : Unit) → PartTaken held faults a b old_rest text → Writes held faults b c front (Ok u) → front ++ rest ≡ old_rest → PartTaken held faults a c rest text
  taking_goes_on a b c front rest old_rest text u before call split = record {
    written = wrote_then (held a) (held b) (held c) front rest old_rest text before.written call.whole split;
    kept = call.kept ∙ before.kept;
  }

  -- a call failed at the front of the rest
  pub taking_fails : (a b c : K) (front rest old_rest text : List ℕ) (error : ReportError) → PartTaken held faults a b old_rest text → Writes held faults b c front (Err error) → front ++ rest ≡ old_rest → Writes held faults a c text (Err error)
  taking_fails a b c front rest old_rest text error before call split = record {
    whole = tt;
    part = wrote_prefix (held a) (held b) (held c) front rest old_rest text before.written call.part split;
    cause = subst (λ n. WriteCause (Rose n (faults c)) error) before.kept call.cause;
    kept = subst (λ n. WriteKeeps (faults c ≡ n) (Err error)) before.kept call.kept;
  }

  -- memory was wanting before the rest
  pub taking_lacks_memory : (a b : K) (rest text : List ℕ) → PartTaken held faults a b rest text → Writes held faults a b text (Err Memory)
  taking_lacks_memory a b rest text before = record { whole = tt; part = (rest, before.written); cause = tt; kept = before.kept }

  -- the rest is empty
  pub taking_ends : (a b : K) (text : List ℕ) (u : Unit) → PartTaken held faults a b [] text → Writes held faults a b text (Ok u)
  taking_ends a b text u before = record { whole = wrote_whole (held a) (held b) text before.written; part = tt; cause = tt; kept = before.kept }

  -- two texts, one after the other
  pub text_then : (a b c : K) (first second text : List ℕ) (u : Unit) (result : Result Unit ReportError) → Writes held faults a b first (Ok u) → Writes held faults b c second result → first ++ second ≡ text → Writes held faults a c text result
  text_then a b c first second text u (Ok done) before call split =
      let one : PartTaken held faults a b second text = taking_goes_on a a b first second text text u (taking_begins a text) before split in
      taking_ends a c text done (taking_goes_on a b c second [] second text done one call (append-nil second))
  text_then a b c first second text u (Err error) before call split =
      let one : PartTaken held faults a b second text = taking_goes_on a a b first second text text u (taking_begins a text) before split in
      taking_fails a b c second [] second text error one call (append-nil second)

  -- the first of two texts failed
  pub text_not_then : (a b : K) (first second text : List ℕ) (error : ReportError) → Writes held faults a b first (Err error) → first ++ second ≡ text → Writes held faults a b text (Err error)
  text_not_then a b first second text error call split = taking_fails a a b first second text text error (taking_begins a text) call split

-- ---- lines, each of which is a piece

module _ {K : Type 0} (held : K → Option (List ℕ)) (faults : K → ℕ) {Offered : Offering K} {IsLine : List ℕ → Type 0} where
  -- nothing yet
  pub writing_begins : (a : K) (text : List ℕ) → PartWritten held faults Offered IsLine a a text text
  writing_begins a text = record { taken = taking_begins held faults a text; pieces = offered_none Offered IsLine a text }

  -- a call wrote the next line
  pub writing_goes_on : (a b c : K) (line rest old_rest text : List ℕ) (u : Unit) → PartWritten held faults Offered IsLine a b old_rest text → WritesLines held faults Offered IsLine b c line (Ok u) → line ++ rest ≡ old_rest → PartWritten held faults Offered IsLine a c rest text
  writing_goes_on a b c line rest old_rest text u before call split = record {
    taken = taking_goes_on held faults a b c line rest old_rest text u before.taken call.written split;
    pieces = offered_more Offered IsLine a b c line rest old_rest text before.pieces call.pieces split;
  }

  -- a call failed at the next line
  pub writing_fails : (a b c : K) (line rest old_rest text : List ℕ) (error : ReportError) (result : Result Unit ReportError) → PartWritten held faults Offered IsLine a b old_rest text → WritesLines held faults Offered IsLine b c line (Err error) → line ++ rest ≡ old_rest
      → IsErrAnd result (λ told. told ≡ error) → WritesLines held faults Offered IsLine a c text result
  writing_fails a b c line rest old_rest text error (Err told) before call split same = subst (λ e. WritesLines held faults Offered IsLine a c text (Err e)) (sym same) (record {
    written = taking_fails held faults a b c line rest old_rest text error before.taken call.written split;
    pieces = offered_some Offered IsLine a b c line rest old_rest text before.pieces call.pieces split;
  })
  writing_fails a b c line rest old_rest text error (Ok u) before call split same = absurd same

  -- memory was wanting between two lines
  pub writing_lacks_memory : (a b : K) (rest text : List ℕ) (result : Result Unit ReportError) → PartWritten held faults Offered IsLine a b rest text → IsErrAnd result (λ told. told ≡ Memory) → WritesLines held faults Offered IsLine a b text result
  writing_lacks_memory a b rest text (Err told) before same = subst (λ e. WritesLines held faults Offered IsLine a b text (Err e)) (sym same) (record {
    written = taking_lacks_memory held faults a b rest text before.taken;
    pieces = offered_no_more Offered IsLine a b rest text before.pieces;
  })
  writing_lacks_memory a b rest text (Ok u) before same = absurd same

  -- the rest is empty
  pub writing_ends : (a b : K) (text : List ℕ) (u : Unit) → PartWritten held faults Offered IsLine a b [] text → WritesLines held faults Offered IsLine a b text (Ok u)
  writing_ends a b text u before = record { written = taking_ends held faults a b text u before.taken; pieces = before.pieces }

  -- one piece that is a line
  pub writes_line : (a b : K) (piece line : List ℕ) (result : Result Unit ReportError) → Writes held faults a b piece result → OffersPiece Offered a b piece result → piece ≡ line → IsLine line → WritesLines held faults Offered IsLine a b line result
  writes_line a b piece line result written call same is =
      record { written = subst (λ text. Writes held faults a b text result) same written; pieces = one_line Offered IsLine a b line result is (subst (λ text. OffersPiece Offered a b text result) same call) }

  -- the last of several texts
  pub writes_last : (a b c : K) (line text : List ℕ) (result : Result Unit ReportError) → PartWritten held faults Offered IsLine a b line text → WritesLines held faults Offered IsLine b c line result → WritesLines held faults Offered IsLine a c text result
  writes_last a b c line text (Ok u) before call = writing_ends a c text u (writing_goes_on a b c line [] line text u before call (append-nil line))
  writes_last a b c line text (Err error) before call = writing_fails a b c line [] line text error (Err error) before call (append-nil line) refl

  -- memory was wanting before the first line
  pub lacks_memory_at_once : (a : K) (text : List ℕ) (result : Result Unit ReportError) → IsErrAnd result (λ told. told ≡ Memory) → WritesLines held faults Offered IsLine a a text result
  lacks_memory_at_once a text result same = writing_lacks_memory a a text text result (writing_begins a text) same

  -- two texts, one after the other
  pub writes_then : (a b c : K) (first second text : List ℕ) (u : Unit) (result : Result Unit ReportError) → WritesLines held faults Offered IsLine a b first (Ok u) → WritesLines held faults Offered IsLine b c second result → first ++ second ≡ text → WritesLines held faults Offered IsLine a c text result
  writes_then a b c first second text u result before call split =
      writes_last a b c second text result (writing_goes_on a a b first second text text u (writing_begins a text) before split) call

  -- the first of two texts failed
  pub writes_not_then : (a b : K) (first second text : List ℕ) (error : ReportError) (result : Result Unit ReportError) → WritesLines held faults Offered IsLine a b first (Err error) → IsErrAnd result (λ told. told ≡ error) → first ++ second ≡ text → WritesLines held faults Offered IsLine a b text result
  writes_not_then a b first second text error result call same split =
      writing_fails a a b first second text text error result (writing_begins a text) call split same

-- the text from the item at i on
pub numbered_text-drop : {X : Type 0} (line : ℕ → X → List ℕ) (i : ℕ) (xs : List X) (x : X) → i < length xs → x ≡ get_or xs i x → line i x ++ numbered_text line (i + 1) (drop (i + 1) xs) ≡ numbered_text line i (drop i xs)
numbered_text-drop line i xs x inside is =
    ap (λ y. line i y ++ numbered_text line (i + 1) (drop (i + 1) xs)) is ∙ sym (ap (numbered_text line i) (drop-cons xs i x inside) ∙ rw (add-one) refl)

pub flat_map-drop : {X : Type 0} (line : X → List ℕ) (i : ℕ) (xs : List X) (x : X) → i < length xs → x ≡ get_or xs i x → line x ++ flat_map line (drop (i + 1) xs) ≡ flat_map line (drop i xs)
flat_map-drop line i xs x inside is =
    ap (λ y. line y ++ flat_map line (drop (i + 1) xs)) is ∙ sym (ap (flat_map line) (drop-cons xs i x inside) ∙ rw (add-one) refl)

module _ {K X : Type 0} (held : K → Option (List ℕ)) (faults : K → ℕ) {Offered : Offering K} {IsLine : List ℕ → Type 0} where
  -- the lines of one item more of a loop
  pub numbered_goes_on : (line : ℕ → X → List ℕ) (i : ℕ) (xs : List X) (x : X) (a b c : K) (text : List ℕ) (u : Unit) → PartWritten held faults Offered IsLine a b (numbered_text line i (drop i xs)) text → i < length xs → x ≡ get_or xs i x
      → WritesLines held faults Offered IsLine b c (line i x) (Ok u) → PartWritten held faults Offered IsLine a c (numbered_text line (i + 1) (drop (i + 1) xs)) text
  numbered_goes_on line i xs x a b c text u before inside is call =
      writing_goes_on held faults a b c (line i x) (numbered_text line (i + 1) (drop (i + 1) xs)) (numbered_text line i (drop i xs)) text u before call (numbered_text-drop line i xs x inside is)

  pub numbered_fails : (line : ℕ → X → List ℕ) (i : ℕ) (xs : List X) (x : X) (a b c : K) (text : List ℕ) (error : ReportError) (result : Result Unit ReportError) → PartWritten held faults Offered IsLine a b (numbered_text line i (drop i xs)) text
      → i < length xs → x ≡ get_or xs i x → WritesLines held faults Offered IsLine b c (line i x) (Err error) → IsErrAnd result (λ told. told ≡ error) → WritesLines held faults Offered IsLine a c text result
  numbered_fails line i xs x a b c text error result before inside is call same =
      writing_fails held faults a b c (line i x) (numbered_text line (i + 1) (drop (i + 1) xs)) (numbered_text line i (drop i xs)) text error result before call (numbered_text-drop line i xs x inside is) same

  pub flat_map_goes_on : (line : X → List ℕ) (i : ℕ) (xs : List X) (x : X) (a b c : K) (text : List ℕ) (u : Unit) → PartWritten held faults Offered IsLine a b (flat_map line (drop i xs)) text → i < length xs → x ≡ get_or xs i x
      → WritesLines held faults Offered IsLine b c (line x) (Ok u) → PartWritten held faults Offered IsLine a c (flat_map line (drop (i + 1) xs)) text
  flat_map_goes_on line i xs x a b c text u before inside is call =
      writing_goes_on held faults a b c (line x) (flat_map line (drop (i + 1) xs)) (flat_map line (drop i xs)) text u before call (flat_map-drop line i xs x inside is)

  pub flat_map_fails : (line : X → List ℕ) (i : ℕ) (xs : List X) (x : X) (a b c : K) (text : List ℕ) (error : ReportError) (result : Result Unit ReportError) → PartWritten held faults Offered IsLine a b (flat_map line (drop i xs)) text
      → i < length xs → x ≡ get_or xs i x → WritesLines held faults Offered IsLine b c (line x) (Err error) → IsErrAnd result (λ told. told ≡ error) → WritesLines held faults Offered IsLine a c text result
  flat_map_fails line i xs x a b c text error result before inside is call same =
      writing_fails held faults a b c (line x) (flat_map line (drop (i + 1) xs)) (flat_map line (drop i xs)) text error result before call (flat_map-drop line i xs x inside is) same
