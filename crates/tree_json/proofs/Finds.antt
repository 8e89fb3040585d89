-- What is read is a written form.
use Rattle.std.proofs.Common.{◌≡◌, ◌∙◌, ℕ, ◌+◌, Bool, true, false, cond, List, [], ◌∷◌, length, Some, None, Ok, Err, ok_or, refl, ap, arith}
use Rattle.std.proofs.lemmas.Grind.{common_steps}
use Rattle.std.proofs.lemmas.Str.{IsUtf8-from_is_utf8}
use Rattle.std.specs.Str.{IsUtf8, is_utf8}
use Rattle.serde_json.specs.Data.{Data, Items, no_items, item}
use Rattle.serde_json.specs.Read.{read}
use Rattle.semantic_tree.specs.Tree.{Tree}
use Rattle.semantic_tree.specs.declared.error.TreeError.TheVariants.{NotJson, Shape}
use Rattle.tree_json.specs.Lines.{Line}
use Rattle.tree_json.specs.Form.{Texts, line_of_data}
use Rattle.tree_json.specs.Comments.{all_items, comment_of_data}
use Rattle.tree_json.specs.Top.{TopForm, top_of_data, texts_in}
use Rattle.tree_json.specs.Reading.{Listed, listed_program, if_follows, line_at, lines_from, shallow_from, listing_of, if_some, if_few, lines_with, lines_in, listed_of, value_in, listed_in, reading}
use Rattle.tree_json.specs.WrittenForm.{IsWrittenForm}
use Rattle.tree_json.proofs.Items.{ok_or-ok}
use Rattle.tree_json.proofs.Outcomes.{bind_ok}

if_follows-same : (opened index : ℕ) (k l : Line) → if_follows opened index k ≡ Ok l → k ≡ l
if_follows-same opened index k l h = grind (arith, common_steps)

line_at-some : (texts : Texts) (opened index : ℕ) (d : Data) (l : Line) → line_at texts opened index d ≡ Ok l → line_of_data texts d ≡ Some l
unfolding line_at
line_at-some texts opened index d l h =
    let (k, is, stands) = bind_ok (ok_or (line_of_data texts d) (Shape (Some index))) (if_follows opened index) l h in
    ok_or-ok (line_of_data texts d) (Shape (Some index)) k is ∙ ap Some (if_follows-same opened index k l stands)

lines_from-items : (texts : Texts) (ds : Items) (opened index : ℕ) (ls : List Line) → lines_from texts opened index ds ≡ Ok ls → all_items (line_of_data texts) ds ≡ Some ls
lines_from-items texts no_items opened index [] h = refl
lines_from-items texts no_items opened index (l ∷ ls) h = absurd (cc)
lines_from-items texts (item d ds) opened index ls h =
    let (l, at, more) = bind_ok (line_at texts opened index d) _ ls h in
    let (rest, read, joined) = bind_ok (lines_from texts (l.depth + 1) (index + 1) ds) _ ls more in
    let whole : (l ∷ rest) ≡ ls = cc in
    rw (line_at-some texts opened index d l at, lines_from-items texts ds (l.depth + 1) (index + 1) rest read) (ap Some whole)

listing_of-items : (texts : Texts) (ds : Items) (ls : List Line) → listing_of texts ds ≡ Ok ls → all_items (line_of_data texts) ds ≡ Some ls
unfolding listing_of
listing_of-items texts ds ls h =
    let (found, read, checked) = bind_ok (lines_from texts 0 0 ds) _ ls h in
    let (done, shallow, kept) = bind_ok (shallow_from 0 found) (λ _. Ok found) ls checked in
    let same : found ≡ ls = cc in
    lines_from-items texts ds 0 0 found read ∙ ap Some same

lines_with-items : (top : TopForm) (comments : ℕ) (texts : Texts) (ls : List Line) → lines_with top comments texts ≡ Ok ls → all_items (line_of_data texts) top.rows ≡ Some ls
unfolding lines_with
lines_with-items top comments texts ls h =
    let (some, is_some', more) = bind_ok (if_some top.rows) _ ls h in
    let (few, are_few, last) = bind_ok (if_few _ comments top.source) _ ls more in
    listing_of-items texts top.rows ls last

listed_of-found : (d : Data) (top : TopForm) (p : Tree) → top_of_data d ≡ Some top → listed_of top ≡ Ok (listed_program p) → IsWrittenForm d p
unfolding listed_of lines_in
listed_of-found d top p formed h =
    let (comments, comments_are, more) = bind_ok (ok_or (all_items comment_of_data top.comments) (Shape None)) _ (listed_program p) h in
    let (lines, lines_are, last) = bind_ok (lines_in top (length comments)) _ (listed_program p) more in
    let (texts, texts_are, rows) = bind_ok (ok_or (texts_in top.texts) (Shape None)) (lines_with top (length comments)) lines lines_are in
    let whole : ◌≡◌ {A = Listed} (record { source = top.source; source_type = top.source_type; comments = comments; lines = lines }) (listed_program p) = cc in
    record {
      top = top;
      formed = formed;
      source = ap (λ w. w.source) whole;
      source_type = ap (λ w. w.source_type) whole;
      comments = ok_or-ok (all_items comment_of_data top.comments) (Shape None) comments comments_are ∙ ap (λ w. Some w.comments) whole;
      texts = texts;
      told = ok_or-ok (texts_in top.texts) (Shape None) texts texts_are;
      rows = lines_with-items top (length comments) texts lines rows ∙ ap (λ w. Some w.lines) whole;
    }

value_in-cases : (valid : Bool) (bytes : List ℕ) (d : Data) → cond valid (ok_or (read bytes) NotJson) (Err NotJson) ≡ Ok d → (valid ≡ true) × (read bytes ≡ Some d)
value_in-cases true bytes d h = (refl, ok_or-ok (read bytes) NotJson d h)
value_in-cases false bytes d h = absurd (cc)

value_in-found : (bytes : List ℕ) (d : Data) → value_in NotJson bytes ≡ Ok d → IsUtf8 bytes × (read bytes ≡ Some d)
unfolding value_in
value_in-found bytes d h =
    let (valid, is) = value_in-cases (is_utf8 bytes) bytes d h in
    (IsUtf8-from_is_utf8 bytes valid, is)

pub reading-found : (bytes : List ℕ) (p : Tree) → reading bytes ≡ Ok (listed_program p) → IsUtf8 bytes × ((d : Data) × (read bytes ≡ Some d) × IsWrittenForm d p)
unfolding reading listed_in
reading-found bytes p h =
    let (d, in', says) = bind_ok (value_in NotJson bytes) listed_in (listed_program p) h in
    let (utf8, is) = value_in-found bytes d in' in
    let (top, formed, more) = bind_ok (ok_or (top_of_data d) (Shape None)) listed_of (listed_program p) says in
    (utf8, (d, is, listed_of-found d top p (ok_or-ok (top_of_data d) (Shape None) top formed) more))
