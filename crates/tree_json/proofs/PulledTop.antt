-- The top object that is put together from pulled tokens, and what it says.
use Rattle.std.proofs.Common.{◌≡◌, ℕ, ◌<◌, ◌==◌, false, List, [], ◌∷◌, ◌++◌, length, map, codes, Option, Some, None, IfSome, Result, Ok, Err, IfOk, refl, sym, ap, ◌∙◌, subst, arith, append-nil}
use Rattle.std.proofs.lemmas.List.{length-map}
use Rattle.std.proofs.lemmas.Grind.{common_steps}
use Rattle.std.specs.Str.{IsUtf8, chars}
use Rattle.json.specs.Token.{Token}
use Rattle.json.specs.Lex.{tokens}
use Rattle.json.specs.Tree.{json_tokens}
use Rattle.json.specs.Json as json
use Rattle.json.proofs.Printed.Trees.{value-json_tokens}
use Rattle.serde_json.specs.Data.{Data, number, unsigned, string, object, Items, no_members, member}
use Rattle.serde_json.specs.Events.{items_len}
use Rattle.serde_json.specs.Find.{as_array}
use Rattle.serde_json.specs.Read.{read}
use Rattle.semantic_syntax.specs.declared.source_type.SourceType.{SourceType}
use Rattle.semantic_tree.specs.declared.error.TreeError.TheVariants.{NotJson}
use Rattle.tree_json.specs.Lines.{Line}
use Rattle.tree_json.specs.Form.{in_rows, line_of_data, text_in}
use Rattle.tree_json.specs.Comments.{comment_of_data, all_items}
use Rattle.tree_json.specs.Listing.{line, IsListing}
use Rattle.tree_json.specs.Top.{TopForm, goal_named, lang_named, text_at, word_at, list_at, number_at, goal_at, lang_at, source_type_at, has_members, texts_at, top_of_data}
use Rattle.tree_json.specs.Reading.{Listed, shallow_from, listing_of, are_too_many, lines_with, lines_in, listed_of, listed_in, reading}
use Rattle.tree_json.specs.Pulled.{Tokens, IsValue, Pulls, of_list, IsType, IsPulled, IsTop}
use Rattle.tree_json.specs.Views.{parts_view}
use Rattle.tree_json.specs.declared.pull_top.Pulled.{Pulled}
use Rattle.tree_json.specs.declared.read.Parts.{Parts}
use Rattle.tree_json.proofs.Completes.{lines_from-listing}
use Rattle.tree_json.proofs.Items.{some_bind, all_items-len}
use Rattle.tree_json.proofs.Readings.{value_in_ok}

pub at_some : {A : Type 0} (P : A → Type 0) (o : Option A) (x : A) → o ≡ Some x → IfSome o P → P x
at_some P o x e h = subst (λ q. IfSome q P) e h

-- ---- its data

abbrev top_data : Data → List ℕ → List ℕ → Data → List ℕ → Data
top_data comments goal lang rows source = object
    (member (codes "comments") comments
    (member (codes "format") (number (unsigned 1))
    (member (codes "goal") (string goal)
    (member (codes "lang") (string lang)
    (member (codes "rows") rows
    (member (codes "source") (string source)
    no_members))))))

abbrev top_json : json.Json → List ℕ → List ℕ → List ℕ → json.Json → List ℕ → json.Json
top_json comments format goal lang rows source = json.object
    (json.member (codes "comments") comments
    (json.member (codes "format") (json.number format)
    (json.member (codes "goal") (json.string goal)
    (json.member (codes "lang") (json.string lang)
    (json.member (codes "rows") rows
    (json.member (codes "source") (json.string source)
    json.no_members))))))

top_form : (comments rows : Data) (dc dr : Items) (goal lang source : List ℕ) (t : SourceType) → as_array comments ≡ Some dc → as_array rows ≡ Some dr → goal_named goal ≡ Some t.goal → lang_named lang ≡ Some t.lang
    → top_of_data (top_data comments goal lang rows source) ≡ Some (record { source = chars source; source_type = record { goal = t.goal; lang = t.lang }; comments = dc; texts = None; rows = dr })
unfolding top_of_data texts_at text_at word_at list_at number_at goal_at lang_at source_type_at has_members text_in
top_form comments rows dc dr goal lang source t c r g l = rw (g, l, c, r) refl

pub top_pulled : (old a b c d : Tokens) (top : Pulled) → old ≡ Token.begin_object ∷ Token.key (codes "comments") ∷ a → Pulls (of_list (all_items comment_of_data)) 2 a top.comments.items b → IsType b top.source_type c
    → Pulls (of_list (all_items (line_of_data in_rows))) 3 c (map line top.rows.items) d → d ≡ Token.key (codes "source") ∷ Token.string top.source.now ∷ Token.end_object ∷ [] → IsTop old top
top_pulled old a b c d top begin comments type rows end =
    let (goal, lang, mid, format, one, goal_is, lang_is) = type in
    let (dc, listed_comments, said_comments) = some_bind (as_array comments.0) (all_items comment_of_data) _ comments.2 in
    let (dr, listed_rows, said_rows) = some_bind (as_array rows.0) (all_items (line_of_data in_rows)) _ rows.2 in
    let source = top.source.now in
    let whole = top_json comments.1.value one.0 goal lang rows.1.value source in
    let at_rows : c ≡ json_tokens rows.1.value ++ (Token.key (codes "source") ∷ Token.string source ∷ Token.end_object ∷ []) = rows.1.tokens ∙ ap (λ ts. json_tokens rows.1.value ++ ts) end in
    let at_type : b ≡ Token.key (codes "format") ∷ Token.number one.0 ∷ Token.key (codes "goal") ∷ Token.string goal ∷ Token.key (codes "lang") ∷ Token.string lang ∷ Token.key (codes "rows") ∷ c = format ∙ ap (λ ts. Token.key (codes "format") ∷ ts) one.1 in
    let at_end = at_type ∙ ap (λ ts. Token.key (codes "format") ∷ Token.number one.0 ∷ Token.key (codes "goal") ∷ Token.string goal ∷ Token.key (codes "lang") ∷ Token.string lang ∷ Token.key (codes "rows") ∷ ts) at_rows in
    let spelled : old ≡ json_tokens whole = begin ∙ ap (λ ts. Token.begin_object ∷ Token.key (codes "comments") ∷ ts) (comments.1.tokens ∙ ap (λ ts. json_tokens comments.1.value ++ ts) at_end) in
    let value : IsValue 4 old (top_data comments.0 goal lang rows.0 source) [] = record {
      value = whole;
      tokens = spelled ∙ sym (append-nil (json_tokens whole));
      gives = rw (comments.1.gives, one.2, rows.1.gives) refl;
      shallow = omega (arith, comments.1.shallow, rows.1.shallow);
    } in
    let form : TopForm = record { source = chars source; source_type = record { goal = top.source_type.goal; lang = top.source_type.lang }; comments = dc; texts = None; rows = dr } in (
      top_data comments.0 goal lang rows.0 source,
      value,
      record {
        form = form;
        formed = top_form comments.0 rows.0 dc dr goal lang source top.source_type listed_comments listed_rows goal_is lang_is;
        source = refl;
        source_type = refl;
        comments = said_comments;
        texts = refl;
        rows = said_rows;
      },
    )

-- ---- what it says

listed_lines : (rows : Items) (lines : List Line) → all_items (line_of_data in_rows) rows ≡ Some lines → IsListing lines → shallow_from 0 lines ≡ Ok tt → listing_of in_rows rows ≡ Ok lines
unfolding listing_of
listed_lines rows lines say listing shallow = rw (lines_from-listing in_rows rows lines say listing, shallow) refl

some_rows : (rows : Items) (n : ℕ) → 0 < n → items_len rows ≡ n → (items_len rows == 0) ≡ false
some_rows rows n some len = grind (arith, common_steps)

pulled_lines : (d : Data) (top : Pulled) (h : IsPulled d top) → 0 < length top.rows.items → are_too_many (length top.rows.items) (length top.comments.items) (chars top.source.now) ≡ false
    → IsListing (map line top.rows.items) → shallow_from 0 (map line top.rows.items) ≡ Ok tt → lines_with h.form (length top.comments.items) in_rows ≡ Ok (map line top.rows.items)
unfolding lines_with
pulled_lines d top h some few listing shallow =
    let len : items_len h.form.rows ≡ length top.rows.items = all_items-len (line_of_data in_rows) h.form.rows (map line top.rows.items) h.rows ∙ length-map top.rows.items line in
    rw (some_rows h.form.rows (length top.rows.items) some len, h.source, len, few) (listed_lines h.form.rows (map line top.rows.items) h.rows listing shallow)

abbrev pub pulled_view : Pulled → Listed
pulled_view top = record { source = chars top.source.now; source_type = top.source_type; comments = top.comments.items; lines = map line top.rows.items }

pub listed_pulled : (d : Data) (top : Pulled) → IsPulled d top → 0 < length top.rows.items → are_too_many (length top.rows.items) (length top.comments.items) (chars top.source.now) ≡ false
    → IsListing (map line top.rows.items) → shallow_from 0 (map line top.rows.items) ≡ Ok tt → listed_in d ≡ Ok (pulled_view top)
unfolding listed_in listed_of lines_in lines_with chars
listed_pulled d top h some few listing shallow =
    rw (h.formed, h.comments, h.texts, pulled_lines d top h some few listing shallow, h.source, h.source_type) refl

pub parts_pulled : (d : Data) (top : Pulled) (source : List ℕ) (lines : List Line) → source ≡ chars top.source.now → lines ≡ map line top.rows.items → IsPulled d top → 0 < length top.rows.items
    → are_too_many (length top.rows.items) (length top.comments.items) (chars top.source.now) ≡ false → IsListing (map line top.rows.items) → shallow_from 0 (map line top.rows.items) ≡ Ok tt
    → listed_in d ≡ Ok (record { source = source; source_type = top.source_type; comments = top.comments.items; lines = lines })
parts_pulled d top source lines same_source same_lines h some few listing shallow = listed_pulled d top h some few listing shallow ∙ rw (same_source, same_lines) refl

-- ---- from the bytes

pub read_pulled : (text : List ℕ) (d : Data) → IsValue 4 (tokens text) d [] → read text ≡ Some d
read_pulled text d v = rw (v.tokens, value-json_tokens v.value 127 [] (omega (arith, v.shallow))) v.gives

pub reading_pulled : (bytes : List ℕ) (top : Pulled) (said : Listed) → IsUtf8 bytes → IsTop (tokens bytes) top → ((d : Data) → IsPulled d top → listed_in d ≡ Ok said) → reading bytes ≡ Ok said
unfolding reading
reading_pulled bytes top said utf8 h says = rw (value_in_ok NotJson bytes h.0 utf8 (read_pulled bytes h.0 h.1)) (says h.0 h.2)

pub parts_read : {E : Type 0} (bytes text : List ℕ) (start : Tokens) (top : Pulled) (r : Result (Option Parts) E) → IsUtf8 bytes → text ≡ bytes → start ≡ tokens text → IsTop start top
    → IfOk r (λ o. IfSome o (λ parts. (d : Data) → IsPulled d top → listed_in d ≡ Ok (parts_view parts))) → IfOk r (λ o. IfSome o (λ parts. reading bytes ≡ Ok (parts_view parts)))
parts_read bytes text start top (Err x) utf8 same begun h says = tt
parts_read bytes text start top (Ok None) utf8 same begun h says = tt
parts_read bytes text start top (Ok (Some parts)) utf8 same begun h says =
    let all : start ≡ tokens bytes = begun ∙ ap tokens same in
    reading_pulled bytes top (parts_view parts) utf8 (subst (λ ts. IsTop ts top) all h) says
