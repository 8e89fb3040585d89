-- A line more, of names and links side by side.
use Rattle.std.proofs.Common.{◌≡◌, ◌<◌, ℕ, ◌+◌, List, [], ◌∷◌, ◌++◌, Option, Result, Ok, Err, length, map, drop, get_or, min, refl, ap, ◌∙◌, arith, add-one, drop-cons, length-append, length-drop, subst}
use Rattle.std.specs.Result.{IsErrAnd}
use Rattle.std.proofs.lemmas.List.{length-map}
use denote.Bor.{Bor}
use Rattle.report_ends.specs.Offers.{Offering}
use Rattle.report_ends.specs.Streams.{WritesLines, PartWritten}
use Rattle.report_ends.specs.declared.error.ReportError.{ReportError}
use Rattle.report_ends.proofs.Stages.{writing_goes_on, writing_fails, writing_ends}
use Rattle.tree_json.specs.Views.{characters}
use Rattle.link_model.specs.declared.outcome.Link.{Link}
use Rattle.module_entries.specs.LinkLines.{link_line, lines_for}

-- the lines that are left from the pair at i on
abbrev pub left : List (Bor (List ℕ)) → List Link → ℕ → List ℕ
left locals links i = lines_for (map characters (drop i locals)) (drop i links)

line_turn : (locals : List (Bor (List ℕ))) (links : List Link) (i : ℕ) (x : Bor (List ℕ)) (l : Link) → i < length locals → i < length links → link_line (characters (get_or locals i x)) (get_or links i l) ++ left locals links (i + 1) ≡ left locals links i
line_turn locals links i x l h k = rw (add-one, drop-cons locals i x, drop-cons links i l) refl

no_names : (links : List Link) → lines_for [] links ≡ []
no_names [] = refl
no_names (l ∷ ls) = refl

lines_short : (names : List (List ℕ)) (links : List Link) → min (length names) (length links) ≡ 0 → lines_for names links ≡ []
lines_short [] links h = no_names links
lines_short (n ∷ ns) [] h = refl
lines_short (n ∷ ns) (l ∷ ls) h = absurd (omega arith)

lines_end : (locals : List (Bor (List ℕ))) (links : List Link) (i : ℕ) → i ≡ min (length locals) (length links) → left locals links i ≡ []
lines_end locals links i e =
    lines_short (map characters (drop i locals)) (drop i links) (omega (arith, length-map (drop i locals) characters, length-drop i locals, length-drop i links, e))

-- the line of the next pair, and what is left behind it
next_pair : {P : Type 0} (locals : List (Bor (List ℕ))) (links : List Link) (ys : List P) (x : Bor (List ℕ)) (l : Link) → length ys < length locals → length ys < length links → x ≡ get_or locals (length ys) x → l ≡ get_or links (length ys) l
    → link_line (characters x) l ++ left locals links (length ys + 1) ≡ left locals links (length ys)
next_pair locals links ys x l h k named linked = (λ j. link_line (characters (named j)) (linked j) ++ left locals links (length ys + 1)) ∙ line_turn locals links (length ys) x l h k

module _ {K : Type 0} (held : K → Option (List ℕ)) (faults : K → ℕ) {Offered : Offering K} {IsLine : List ℕ → Type 0} (locals : List (Bor (List ℕ))) (links : List Link) where
  module _ {P : Type 0} (ys : List P) (x : Bor (List ℕ)) (l : Link) (h : length ys < length locals) (k : length ys < length links) (named : x ≡ get_or locals (length ys) x) (linked : l ≡ get_or links (length ys) l) where
    -- a pair more
    pub pair_goes_on : (p : P) (a b c : K) (text : List ℕ) (u : Unit) → PartWritten held faults Offered IsLine a b (left locals links (length ys)) text → WritesLines held faults Offered IsLine b c (link_line (characters x) l) (Ok u)
        → PartWritten held faults Offered IsLine a c (left locals links (length (ys ++ p ∷ []))) text
    pair_goes_on p a b c text u before call =
        writing_goes_on held faults a b c (link_line (characters x) l) (left locals links (length (ys ++ p ∷ []))) (left locals links (length ys)) text u before call
        (ap (λ n. link_line (characters x) l ++ left locals links n) (length-append ys (p ∷ [])) ∙ next_pair locals links ys x l h k named linked)

    -- its line isn't written
    pub pair_fails : (a b c : K) (text : List ℕ) (error : ReportError) (result : Result Unit ReportError) → PartWritten held faults Offered IsLine a b (left locals links (length ys)) text → WritesLines held faults Offered IsLine b c (link_line (characters x) l) (Err error)
        → IsErrAnd result (λ told. told ≡ error) → WritesLines held faults Offered IsLine a c text result
    pair_fails a b c text error result before call same =
        writing_fails held faults a b c (link_line (characters x) l) (left locals links (length ys + 1)) (left locals links (length ys)) text error result before call (next_pair locals links ys x l h k named linked) same

  -- no pair is left
  pub pairs_end : (i : ℕ) (a b : K) (text : List ℕ) (u : Unit) → i ≡ min (length locals) (length links) → PartWritten held faults Offered IsLine a b (left locals links i) text → WritesLines held faults Offered IsLine a b text (Ok u)
  pairs_end i a b text u e before = writing_ends held faults a b text u (subst (λ rest. PartWritten held faults Offered IsLine a b rest text) (lines_end locals links i e) before)
