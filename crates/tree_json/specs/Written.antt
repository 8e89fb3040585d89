-- The written forms of a program that the writers give.
use Rattle.std.specs.Prelude.{◌≡◌, ℕ, List, [], ◌∷◌, ◌++◌, map, position, if◌then◌else◌, unwrap_or, codes, Some}
use Rattle.std.specs.Str.{encode_utf8_all, chars, bytes_eq}
use Rattle.std.specs.List.{list_any}
use Rattle.serde_json.specs.Data.{Data, number, unsigned, string, array, object, Items, no_items, item, Members, no_members, member}
use Rattle.serde_json.specs.View.{items_of}
use Rattle.semantic_syntax.specs.declared.source_type.SourceType.{SourceType}
use Rattle.semantic_kinds.specs.Kinds.{kind_name}
use Rattle.semantic_kinds.specs.Roles.{role_name}
use Rattle.semantic_kinds.specs.Marks.{mark_name}
use Rattle.semantic_kinds.specs.MarkSets.{marks_in}
use Rattle.semantic_kinds.specs.declared.mark.Mark.{Mark}
use Rattle.semantic_kinds.specs.declared.marks.Marks.{Marks}
use Rattle.semantic_tree.specs.Tree.{Tree}
use Rattle.semantic_tree.specs.declared.comment.Comment.{Comment}
use Rattle.semantic_tree.specs.declared.comment.CommentKind.{CommentKind}
use Rattle.semantic_tree.specs.declared.comment.CommentKind.TheVariants as comment
use Rattle.tree_json.specs.Comments.{comment_of_data}
use Rattle.tree_json.specs.Form.{Texts, in_rows, in_list, text_of_data, marks_of_data, line_of_data}
use Rattle.tree_json.specs.Lines.{Line, listing}
use Rattle.tree_json.specs.Top.{goal_name, lang_name}

abbrev pub text_data : List ℕ → Data
text_data text = string (encode_utf8_all text)

-- ---- texts

-- the texts, each once, in the order in which they first stand
abbrev pub and_text : List (List ℕ) → List ℕ → List (List ℕ)
and_text texts text = if list_any (bytes_eq text) texts then texts else texts ++ text ∷ []

abbrev pub texts_from : List (List ℕ) → List Line → List (List ℕ)
texts_from texts [] = texts
texts_from texts (l ∷ ls) = texts_from (and_text texts l.text) ls

-- the texts of a program's nodes, each once, in order of first use
abbrev pub texts_of : Tree → List (List ℕ)
texts_of p = texts_from [] (listing p.root)

-- the first place of a text in a list
abbrev pub place_of : List ℕ → List (List ℕ) → ℕ
place_of text texts = unwrap_or (position (bytes_eq text) texts) 0

-- how a row tells a text
abbrev pub told_text : Texts → List ℕ → Data
told_text in_rows text = text_data text
told_text (in_list texts) text = number (unsigned (place_of text texts))

-- ---- rows

abbrev pub mark_data : Mark → Data
mark_data m = string (mark_name m)

-- the marks that are set, in order
abbrev pub marks_items : Marks → Items
marks_items marks = items_of (map mark_data (marks_in marks))

-- the row of a line
unfoldable pub line_data : Texts → Line → Data
line_data texts l = array (item (number (unsigned l.depth)) (item (string (role_name l.role)) (item (string (kind_name l.kind))
    (item (number (unsigned l.span.start)) (item (number (unsigned l.span.end)) (item (told_text texts l.text)
    (item (array (marks_items l.marks)) no_items)))))))

abbrev pub rows_data : Texts → List Line → Data
rows_data texts ls = array (items_of (map (line_data texts) ls))

-- ---- the top object

abbrev pub comment_kind_name : CommentKind → List ℕ
comment_kind_name comment.Line = codes "line"
comment_kind_name comment.Block = codes "block"

unfoldable pub comment_data : Comment → Data
comment_data c = array (item (number (unsigned c.span.start)) (item (number (unsigned c.span.end)) (item (string (comment_kind_name c.kind)) no_items)))

abbrev pub format_of : Texts → ℕ
format_of in_rows = 1
format_of (in_list texts) = 2

-- the list of texts, in the format that has one
abbrev pub texts_member : Texts → Members
texts_member in_rows = no_members
texts_member (in_list texts) = member (codes "texts") (array (items_of (map text_data texts))) no_members

-- a top object of this format with these comments, rows and source, its keys in order
abbrev pub object_data : ℕ → SourceType → Data → Data → Data → Members → Data
object_data format source_type comments rows source more = object
    (member (codes "comments") comments
    (member (codes "format") (number (unsigned format))
    (member (codes "goal") (string (goal_name source_type.goal))
    (member (codes "lang") (string (lang_name source_type.lang))
    (member (codes "rows") rows
    (member (codes "source") source
    more))))))

-- the written form of a program whose rows tell their texts so
unfoldable pub program_data : Texts → Tree → Data
program_data texts p = object_data (format_of texts) p.source_type (array (items_of (map comment_data p.comments))) (rows_data texts (listing p.root)) (text_data p.source) (texts_member texts)

-- ---- what is read again

-- the fact holds of each element
abbrev pub Each : {X : Type 0} → (X → Type 0) → List X → Type 0
Each P [] = Unit {0}
Each P (x ∷ xs) = P x × Each P xs

-- the marks are read again from what is written for them
abbrev pub MarksAreRead : Marks → Type 0
MarksAreRead marks = marks_of_data (array (marks_items marks)) ≡ Some marks

-- the list has the text at its place
abbrev pub IsTold : Texts → List ℕ → Type 0
IsTold in_rows text = Unit {0}
IsTold (in_list texts) text = text_of_data (in_list texts) (told_text (in_list texts) text) ≡ Some text

-- a line whose marks are read again, and whose text is told, is read again
abbrev pub IsReadAgain : Texts → Line → Type 0
IsReadAgain texts l = MarksAreRead l.marks → IsTold texts l.text → line_of_data texts (line_data texts l) ≡ Some l

-- a comment is read again
abbrev pub IsCommentAgain : Comment → Type 0
IsCommentAgain c = comment_of_data (comment_data c) ≡ Some c

-- rows, comments and source of the program are read again
pub record IsReadable (texts : Texts) (p : Tree) : Type 0 where
  pub rows : Each (IsReadAgain texts) (listing p.root)
  pub comments : Each IsCommentAgain p.comments
  pub source : chars (encode_utf8_all p.source) ≡ p.source

-- a text is read again
abbrev pub IsTextAgain : List ℕ → Type 0
IsTextAgain text = chars (encode_utf8_all text) ≡ text
