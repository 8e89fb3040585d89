-- What is written is read again.
use Rattle.std.proofs.Common.{◌≡◌, ℕ, ◌+◌, ◌<◌, ◌^◌, List, length, map, drop, drop-cons, get_or, add-one, Some, refl, ap, subst, arith}
use Rattle.std.proofs.lemmas.Grind.{common_steps}
use Rattle.std.specs.Str.{chars, encode_utf8_all}
use Rattle.serde_json.specs.Data.{Data, number, unsigned, string, array}
use Rattle.semantic_kinds.specs.Kinds.{kind_name}
use Rattle.semantic_kinds.specs.Roles.{role_name}
use Rattle.semantic_kinds.specs.declared.kind.AstType.{AstType}
use Rattle.semantic_kinds.specs.declared.role.Role.{Role}
use Rattle.semantic_kinds.proofs.KindNames.{kind_named-kind_name}
use Rattle.semantic_kinds.proofs.RoleNames.{role_named-role_name}
use Rattle.semantic_tree.specs.declared.comment.Comment.{Comment}
use Rattle.semantic_tree.specs.declared.comment.CommentKind.{CommentKind}
use Rattle.semantic_tree.specs.declared.comment.CommentKind.TheVariants as comment
use Rattle.tree_json.specs.Comments.{comment_kind_of_data, comment_of_data}
use Rattle.tree_json.specs.Form.{Texts, in_rows, in_list, whole_number, text_in, text_of_data, role_of_data, kind_of_data, span_of_data, marks_of_data, line_of_parts}
use Rattle.tree_json.specs.Lines.{Line}
use Rattle.tree_json.specs.Listing.{line}
use Rattle.tree_json.specs.Views.{IsSpelled}
use Rattle.tree_json.specs.Written.{told_text, line_data, comment_kind_name, comment_data, marks_items, IsTold, IsReadAgain, IsCommentAgain, Each}
use Rattle.tree_json.specs.declared.row.Row.{Row}

pub whole_number-fits : (n : ℕ) → n < 2 ^ 32 → whole_number (number (unsigned n)) ≡ Some n
unfolding whole_number
whole_number-fits n fits = grind (arith, common_steps)

role_again : (r : Role) → role_of_data (string (role_name r)) ≡ Some r
unfolding role_of_data
role_again r = role_named-role_name r

kind_again : (k : AstType) → kind_of_data (string (kind_name k)) ≡ Some k
unfolding kind_of_data
kind_again k = kind_named-kind_name k

-- the text of a row is told again
text_again : (texts : Texts) (bytes : List ℕ) → encode_utf8_all (chars bytes) ≡ bytes → IsTold texts (chars bytes) → text_of_data texts (told_text texts (chars bytes)) ≡ Some (chars bytes)
unfolding text_in
text_again in_rows bytes spelled told = ap (λ b. Some (chars b)) spelled
text_again (in_list texts) bytes spelled told = told

-- a row whose parts are read so is read as the line
line_from_parts : (texts : Texts) (depth role kind start end text marks : Data) (l : Line)
    → whole_number depth ≡ Some l.depth → role_of_data role ≡ Some l.role → kind_of_data kind ≡ Some l.kind → whole_number start ≡ Some l.span.start → whole_number end ≡ Some l.span.end
    → text_of_data texts text ≡ Some l.text → marks_of_data marks ≡ Some l.marks → line_of_parts texts depth role kind start end text marks ≡ Some l
unfolding span_of_data
line_from_parts texts depth role kind start end text marks l a b c d e f g = rw (a, b, c, d, e, f, g) refl

pub line_again : (texts : Texts) (r : Row) → IsSpelled r.text → r.depth < 2 ^ 32 → r.span.start < 2 ^ 32 → r.span.end < 2 ^ 32 → IsReadAgain texts (line r)
unfolding line_data
line_again texts r spelled depth start end marks told =
    line_from_parts texts (number (unsigned r.depth)) (string (role_name r.role)) (string (kind_name r.kind)) (number (unsigned r.span.start)) (number (unsigned r.span.end)) (told_text texts (chars r.text.now)) (array (marks_items r.marks)) (line r)
    (whole_number-fits r.depth depth) (role_again r.role) (kind_again r.kind) (whole_number-fits r.span.start start) (whole_number-fits r.span.end end) (text_again texts r.text.now spelled told) marks

comment_kind_again : (k : CommentKind) → comment_kind_of_data (string (comment_kind_name k)) ≡ Some k
unfolding comment_kind_of_data
comment_kind_again comment.Line = refl
comment_kind_again comment.Block = refl

pub comment_again : (c : Comment) → c.span.start < 2 ^ 32 → c.span.end < 2 ^ 32 → IsCommentAgain c
unfolding comment_data comment_of_data span_of_data
comment_again c start end =
    rw (whole_number-fits c.span.start start, whole_number-fits c.span.end end, comment_kind_again c.kind) refl

-- one more element before those that are left
pub Each-drop : {X : Type 0} (P : X → Type 0) (xs : List X) (i : ℕ) (d : X) → i < length xs → P (get_or xs i d) → Each P (drop (i + 1) xs) → Each P (drop i xs)
Each-drop P xs i d within here rest = rw (drop-cons xs i d) (here, subst (λ n. Each P (drop n xs)) (add-one i) rest)

-- the same for what a list tells
pub Each-left : {X Y : Type 0} (P : Y → Type 0) (f : X → Y) (xs : List X) (i : ℕ) (d : X) → i < length xs → P (f (get_or xs i d)) → Each P (map f (drop (i + 1) xs)) → Each P (map f (drop i xs))
Each-left P f xs i d within here rest = rw (drop-cons xs i d) (here, subst (λ n. Each P (map f (drop n xs))) (add-one i) rest)
