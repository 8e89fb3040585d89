-- What the writers give is a written form, without floats and not deeply nested.
use Rattle.std.proofs.Common.{◌≡◌, ℕ, ◌≤◌, false, List, [], ◌∷◌, map, codes, Some, None, Option, refl, ap, arith}
use Rattle.std.specs.Str.{chars, encode_utf8_all}
use Rattle.serde_json.specs.Data.{Data, number, unsigned, string, array, Items, no_items, item, no_members, member, depth, items_depth}
use Rattle.serde_json.specs.View.{items_of}
use Rattle.serde_json.specs.Written.{has_float, items_have_float}
use Rattle.semantic_syntax.specs.declared.source_type.Goal.{Goal}
use Rattle.semantic_syntax.specs.declared.source_type.Goal.TheVariants.{Script, Module, CommonJs}
use Rattle.semantic_syntax.specs.declared.source_type.Lang.{Lang}
use Rattle.semantic_syntax.specs.declared.source_type.Lang.TheVariants.{Js, Jsx, Ts, Tsx, Dts}
use Rattle.semantic_kinds.specs.Kinds.{kind_name}
use Rattle.semantic_kinds.specs.Roles.{role_name}
use Rattle.semantic_kinds.specs.MarkSets.{marks_in}
use Rattle.semantic_kinds.specs.declared.mark.Mark.{Mark}
use Rattle.semantic_tree.specs.Tree.{Tree}
use Rattle.semantic_tree.specs.declared.comment.Comment.{Comment}
use Rattle.tree_json.specs.Comments.{all_items, comment_of_data}
use Rattle.tree_json.specs.Form.{Texts, in_rows, in_list, text_in, line_of_data}
use Rattle.tree_json.specs.Lines.{Line, listing}
use Rattle.tree_json.specs.Top.{goal_name, goal_named, goal_at, lang_name, lang_named, lang_at, source_type_at, text_at, word_at, list_at, number_at, has_members, texts_at, top_of_data}
use Rattle.tree_json.specs.WrittenForm.{IsWrittenForm}
use Rattle.tree_json.specs.Written.{text_data, told_text, mark_data, line_data, comment_data, object_data, program_data, MarksAreRead, IsTold, IsReadAgain, IsTextAgain, IsReadable, Each}

-- ---- no floats, and little depth

items_float : {X : Type 0} (f : X → Data) (xs : List X) → ((x : X) → has_float (f x) ≡ false) → items_have_float (items_of (map f xs)) ≡ false
items_float f [] none = refl
items_float f (x ∷ xs) none = rw (none x, items_float f xs none) refl

items_low : {X : Type 0} (f : X → Data) (xs : List X) (n : ℕ) → ((x : X) → depth (f x) ≤ n) → items_depth (items_of (map f xs)) ≤ n
items_low f [] n low = omega arith
items_low f (x ∷ xs) n low = omega (arith, low x, items_low f xs n low)

told_float : (texts : Texts) (text : List ℕ) → has_float (told_text texts text) ≡ false
told_float in_rows text = refl
told_float (in_list texts) text = refl

told_low : (texts : Texts) (text : List ℕ) → depth (told_text texts text) ≤ 0
told_low in_rows text = omega arith
told_low (in_list texts) text = omega arith

row_float : (depth start end : ℕ) (role kind : List ℕ) (text marks : Data) → has_float text ≡ false → has_float marks ≡ false
    → has_float (array (item (number (unsigned depth)) (item (string role) (item (string kind) (item (number (unsigned start)) (item (number (unsigned end)) (item text (item marks no_items)))))))) ≡ false
row_float depth start end role kind text marks a b = rw (a, b) refl

row_low : (far start end : ℕ) (role kind : List ℕ) (text marks : Data) → depth text ≤ 0 → depth marks ≤ 1
    → depth (array (item (number (unsigned far)) (item (string role) (item (string kind) (item (number (unsigned start)) (item (number (unsigned end)) (item text (item marks no_items)))))))) ≤ 2
row_low far start end role kind text marks a b = omega (arith, a, b)

line_float : (texts : Texts) (l : Line) → has_float (line_data texts l) ≡ false
unfolding line_data
line_float texts l =
    row_float l.depth l.span.start l.span.end (role_name l.role) (kind_name l.kind) (told_text texts l.text) (array (items_of (map mark_data (marks_in l.marks))))
    (told_float texts l.text) (items_float mark_data (marks_in l.marks) (λ m. refl))

marks_low : (ms : List Mark) → depth (array (items_of (map mark_data ms))) ≤ 1
marks_low ms = omega (arith, items_low mark_data ms 0 (λ m. omega arith))

line_low : (texts : Texts) (l : Line) → depth (line_data texts l) ≤ 2
unfolding line_data
line_low texts l =
    row_low l.depth l.span.start l.span.end (role_name l.role) (kind_name l.kind) (told_text texts l.text) (array (items_of (map mark_data (marks_in l.marks))))
    (told_low texts l.text) (marks_low (marks_in l.marks))

comment_float : (c : Comment) → has_float (comment_data c) ≡ false
unfolding comment_data
comment_float c = refl

comment_low : (c : Comment) → depth (comment_data c) ≤ 1
unfolding comment_data
comment_low c = omega arith

object_float : (format : ℕ) (p : Tree) (cs rs : Items) → items_have_float cs ≡ false → items_have_float rs ≡ false → has_float (object_data format p.source_type (array cs) (array rs) (text_data p.source) no_members) ≡ false
object_float format p cs rs a b = rw (a, b) refl

object_texts_float : (format : ℕ) (p : Tree) (cs rs ts : Items) → items_have_float cs ≡ false → items_have_float rs ≡ false → items_have_float ts ≡ false
    → has_float (object_data format p.source_type (array cs) (array rs) (text_data p.source) (member (codes "texts") (array ts) no_members)) ≡ false
object_texts_float format p cs rs ts a b c = rw (a, b, c) refl

pub program_float : (texts : Texts) (p : Tree) → has_float (program_data texts p) ≡ false
unfolding program_data
program_float in_rows p =
    object_float 1 p (items_of (map comment_data p.comments)) (items_of (map (line_data in_rows) (listing p.root)))
    (items_float comment_data p.comments comment_float) (items_float (line_data in_rows) (listing p.root) (line_float in_rows))
program_float (in_list texts) p =
    object_texts_float 2 p (items_of (map comment_data p.comments)) (items_of (map (line_data (in_list texts)) (listing p.root))) (items_of (map text_data texts))
    (items_float comment_data p.comments comment_float) (items_float (line_data (in_list texts)) (listing p.root) (line_float (in_list texts))) (items_float text_data texts (λ t. refl))

object_low : (format : ℕ) (p : Tree) (cs rs : Items) → items_depth cs ≤ 1 → items_depth rs ≤ 2 → depth (object_data format p.source_type (array cs) (array rs) (text_data p.source) no_members) ≤ 127
object_low format p cs rs a b = omega (arith, a, b)

object_texts_low : (format : ℕ) (p : Tree) (cs rs ts : Items) → items_depth cs ≤ 1 → items_depth rs ≤ 2 → items_depth ts ≤ 0
    → depth (object_data format p.source_type (array cs) (array rs) (text_data p.source) (member (codes "texts") (array ts) no_members)) ≤ 127
object_texts_low format p cs rs ts a b c = omega (arith, a, b, c)

pub program_low : (texts : Texts) (p : Tree) → depth (program_data texts p) ≤ 127
unfolding program_data
program_low in_rows p =
    object_low 1 p (items_of (map comment_data p.comments)) (items_of (map (line_data in_rows) (listing p.root)))
    (items_low comment_data p.comments 1 comment_low) (items_low (line_data in_rows) (listing p.root) 2 (line_low in_rows))
program_low (in_list texts) p =
    object_texts_low 2 p (items_of (map comment_data p.comments)) (items_of (map (line_data (in_list texts)) (listing p.root))) (items_of (map text_data texts))
    (items_low comment_data p.comments 1 comment_low) (items_low (line_data (in_list texts)) (listing p.root) 2 (line_low (in_list texts))) (items_low text_data texts 0 (λ t. omega arith))

-- ---- the top object

goal_again : (g : Goal) → goal_named (goal_name g) ≡ Some g
unfolding goal_named
goal_again Script = refl
goal_again Module = refl
goal_again CommonJs = refl

lang_again : (l : Lang) → lang_named (lang_name l) ≡ Some l
unfolding lang_named
lang_again Js = refl
lang_again Jsx = refl
lang_again Ts = refl
lang_again Tsx = refl
lang_again Dts = refl

top_of_object : (p : Tree) (cs rs : Items)
    → top_of_data (object_data 1 p.source_type (array cs) (array rs) (text_data p.source) no_members) ≡ Some (record { source = chars (encode_utf8_all p.source); source_type = p.source_type; comments = cs; texts = None; rows = rs })
unfolding top_of_data texts_at number_at has_members text_at text_in source_type_at goal_at lang_at word_at list_at
top_of_object p cs rs = rw (goal_again p.source_type.goal, lang_again p.source_type.lang) refl

top_of_object_texts : (p : Tree) (cs rs ts : Items)
    → top_of_data (object_data 2 p.source_type (array cs) (array rs) (text_data p.source) (member (codes "texts") (array ts) no_members)) ≡ Some (record { source = chars (encode_utf8_all p.source); source_type = p.source_type; comments = cs; texts = Some ts; rows = rs })
unfolding top_of_data texts_at number_at has_members text_at text_in source_type_at goal_at lang_at word_at list_at
top_of_object_texts p cs rs ts = rw (goal_again p.source_type.goal, lang_again p.source_type.lang) refl

-- ---- the written form

all_items-map : {X : Type 0} (form : Data → Option X) (f : X → Data) (xs : List X) → Each (λ x. form (f x) ≡ Some x) xs → all_items form (items_of (map f xs)) ≡ Some xs
all_items-map form f [] again = refl
all_items-map form f (x ∷ xs) again = rw (again.0, all_items-map form f xs again.1) refl

lines_again : (texts : Texts) (ls : List Line) → Each (IsReadAgain texts) ls → Each (λ (l : Line). MarksAreRead l.marks) ls → Each (λ (l : Line). IsTold texts l.text) ls
    → Each (λ l. line_of_data texts (line_data texts l) ≡ Some l) ls
lines_again texts [] again marks told = tt
lines_again texts (l ∷ ls) again marks told = (again.0 marks.0 told.0, lines_again texts ls again.1 marks.1 told.1)

told_in_rows : (ls : List Line) → Each (λ (l : Line). IsTold in_rows l.text) ls
told_in_rows [] = tt
told_in_rows (l ∷ ls) = (tt, told_in_rows ls)

pub plain_form : (p : Tree) → IsReadable in_rows p → Each (λ (l : Line). MarksAreRead l.marks) (listing p.root) → IsWrittenForm (program_data in_rows p) p
unfolding program_data
plain_form p again marks = record {
  top = record { source = chars (encode_utf8_all p.source); source_type = p.source_type; comments = items_of (map comment_data p.comments); texts = None; rows = items_of (map (line_data in_rows) (listing p.root)) };
  formed = top_of_object p (items_of (map comment_data p.comments)) (items_of (map (line_data in_rows) (listing p.root)));
  source = again.source;
  source_type = refl;
  comments = all_items-map comment_of_data comment_data p.comments again.comments;
  texts = in_rows;
  told = refl;
  rows = all_items-map (line_of_data in_rows) (line_data in_rows) (listing p.root) (lines_again in_rows (listing p.root) again.rows marks (told_in_rows (listing p.root)));
}

texts_again : (texts : List (List ℕ)) → Each IsTextAgain texts → Each (λ t. text_in (text_data t) ≡ Some t) texts
unfolding text_in
texts_again [] again = tt
texts_again (t ∷ ts) again = (ap Some again.0, texts_again ts again.1)

pub texts_form : (p : Tree) (texts : List (List ℕ)) → IsReadable (in_list texts) p → Each IsTextAgain texts → Each (λ (l : Line). IsTold (in_list texts) l.text) (listing p.root)
    → Each (λ (l : Line). MarksAreRead l.marks) (listing p.root) → IsWrittenForm (program_data (in_list texts) p) p
unfolding program_data
texts_form p texts again spelled told marks = record {
  top = record { source = chars (encode_utf8_all p.source); source_type = p.source_type; comments = items_of (map comment_data p.comments); texts = Some (items_of (map text_data texts)); rows = items_of (map (line_data (in_list texts)) (listing p.root)) };
  formed = top_of_object_texts p (items_of (map comment_data p.comments)) (items_of (map (line_data (in_list texts)) (listing p.root))) (items_of (map text_data texts));
  source = again.source;
  source_type = refl;
  comments = all_items-map comment_of_data comment_data p.comments again.comments;
  texts = in_list texts;
  told = rw (all_items-map text_in text_data texts (texts_again texts spelled)) refl;
  rows = all_items-map (line_of_data (in_list texts)) (line_data (in_list texts)) (listing p.root) (lines_again (in_list texts) (listing p.root) again.rows marks told);
}
