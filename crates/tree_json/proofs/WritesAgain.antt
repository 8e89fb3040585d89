-- What the writers give is read again.
use Rattle.std.proofs.Common.{◌≡◌, ℕ, ◌+◌, ◌<◌, ◌≤◌, ◌^◌, Bool, false, ◌||◌, nat_lt, List, [], ◌∷◌, ◌++◌, length, map, Some, None, Result, Ok, Err, IfOk, Vec, Global, refl, ap, sym, ◌∙◌, subst, arith}
use Rattle.std.proofs.lemmas.Grind.{common_steps}
use Rattle.std.proofs.lemmas.List.{map-append}
use Rattle.std.specs.declared.alloc.AllocError.{AllocError}
use Rattle.std.specs.Str.{IsUtf8, chars, encode_utf8_all}
use denote.Bor.{Bor}
use Rattle.serde_json.specs.Data.{Data, depth}
use Rattle.serde_json.specs.Read.{read, max_depth}
use Rattle.serde_json.specs.Written.{has_float, compact_text}
use Rattle.semantic_kinds.specs.declared.kind.AstType.{AstType}
use Rattle.semantic_kinds.specs.declared.marks.Marks.{Marks}
use Rattle.semantic_kinds.proofs.AllowedBits.{allowed-marks_in}
use Rattle.semantic_tree.specs.Forest.{Forest, nothing, tree}
use Rattle.semantic_tree.specs.Children.{node_count}
use Rattle.semantic_tree.specs.Limits.{node_limit}
use Rattle.semantic_tree.specs.Shaped.{IsShaped}
use Rattle.semantic_tree.proofs.ShapedLaws.{form_holds, IsShaped-no_fault}
use Rattle.semantic_tree.specs.Tree.{Tree}
use Rattle.semantic_tree.specs.Place.{root_place, child_place, placed_below, all_placed}
use Rattle.semantic_tree.specs.Faults.{first_fault, first_where, is_too_deep, is_misshapen, is_too_large, form_fault}
use Rattle.semantic_tree.specs.declared.error.TreeError.TheVariants.{TooMany, TooDeep, Shape}
use Rattle.semantic_tree.specs.declared.node.Node.{Node}
use Rattle.semantic_tree.specs.declared.place.Place.{Place}
use Rattle.tree_json.specs.Form.{Texts, in_rows, in_list}
use Rattle.tree_json.specs.Lines.{Line, lines_of, listing}
use Rattle.tree_json.specs.Reading.{listed_program, reading}
use Rattle.tree_json.specs.Views.{characters, IsSpelled}
use Rattle.tree_json.specs.Written.{texts_of, program_data, MarksAreRead, IsTold, IsTextAgain, IsReadable, Each}
use Rattle.tree_json.proofs.Completes.{neither, first_none, rest_none, listing-len, reading-form}
use Rattle.tree_json.proofs.MarksAgain.{marks_again}
use Rattle.tree_json.proofs.TextsAgain.{IsAmong, told-found, texts_from-has, texts_from-len}
use Rattle.tree_json.proofs.WrittenForms.{program_float, program_low, plain_form, texts_form}

-- ---- marks

abbrev line_marks : Line → Marks
line_marks l = l.marks

abbrev placed_marks : Place × Node → Marks
placed_marks placed = placed.1.marks

marks_below : (depth : ℕ) (place : Place) (kind : AstType) (f : Forest) → map line_marks (lines_of depth f) ≡ map placed_marks (placed_below place kind f)
marks_below depth place kind nothing = refl
marks_below depth place kind (tree role k span text marks below id after) =
    let inside = marks_below (depth + 1) (child_place place kind role) k below in
    let later = marks_below depth place kind after in
    ap (λ ms. marks ∷ ms)
    (map-append line_marks (lines_of (depth + 1) below) (lines_of depth after)
    ∙ (λ i. inside i ++ later i)
    ∙ sym (map-append placed_marks (placed_below (child_place place kind role) k below) (placed_below place kind after)))

marks_read : (xs : List (Place × Node)) (ls : List Line) → map line_marks ls ≡ map placed_marks xs → first_where is_misshapen xs ≡ None → Each (λ (l : Line). MarksAreRead l.marks) ls
marks_read [] [] same none = tt
marks_read [] (l ∷ ls) same none = absurd (cc)
marks_read (x ∷ xs) [] same none = absurd (cc)
marks_read (x ∷ xs) (l ∷ ls) same none =
    let own : x.1.marks ≡ l.marks = cc in
    let others : map line_marks ls ≡ map placed_marks xs = cc in
    let (formed, rest) = neither (is_misshapen x.0 x.1) x.1.node_id (first_where is_misshapen xs) none in
    let known = allowed-marks_in x.1.kind x.1.marks (form_holds x.0 x.1 formed).marks in
    (subst MarksAreRead own (marks_again x.1.marks known), marks_read xs ls others rest)

-- ---- a program without fault

listing_marks : (p : Tree) → first_fault p ≡ None → Each (λ (l : Line). MarksAreRead l.marks) (listing p.root)
listing_marks p sound =
    let source = encode_utf8_all p.source in
    let (few, formed) = neither (is_too_large source p.comments p.root) TooMany (form_fault source p.comments p.root) sound in
    let shaped = rest_none (λ id. TooDeep id) (first_where is_too_deep (all_placed p.root)) _ formed in
    let none : first_where is_misshapen (all_placed p.root) ≡ None = first_none (λ id. Shape (Some id)) (first_where is_misshapen (all_placed p.root)) _ shaped in
    let marks = marks_below 1 root_place p.root.kind p.root.children in
    marks_read (all_placed p.root) (listing p.root) (ap (λ ms. p.root.marks ∷ ms) marks) none

not_many : (nodes : ℕ) (a b : Bool) → (nat_lt node_limit nodes || a || b) ≡ false → nodes ≤ node_limit
not_many nodes a b h = grind (arith, common_steps)

told_each : (texts : List (List ℕ)) (ls : List Line) → length texts < 2 ^ 32 → Each (IsAmong texts) ls → Each (λ (l : Line). IsTold (in_list texts) l.text) ls
told_each texts [] short among = tt
told_each texts (l ∷ ls) short among = (told-found l.text texts short among.0, told_each texts ls short among.1)

listing_told : (p : Tree) → first_fault p ≡ None → Each (λ (l : Line). IsTold (in_list (texts_of p)) l.text) (listing p.root)
listing_told p sound =
    let source = encode_utf8_all p.source in
    let (few, formed) = neither (is_too_large source p.comments p.root) TooMany (form_fault source p.comments p.root) sound in
    let nodes : node_count p.root ≤ node_limit = not_many (node_count p.root) _ _ few in
    let short : length (texts_of p) < 2 ^ 32 = omega (arith, nodes, listing-len p.root, texts_from-len (listing p.root) []) in
    told_each (texts_of p) (listing p.root) short (texts_from-has (listing p.root) [])

pub spelled_again : (keys : List (Bor (List ℕ))) → Each IsSpelled keys → Each IsTextAgain (map characters keys)
spelled_again [] spelled = tt
spelled_again (k ∷ ks) spelled = (ap chars spelled.0, spelled_again ks spelled.1)

-- ---- the clauses of the writers

pub text_of : (texts : Texts) (p : Tree) (d : Data) (result : Result (Vec ℕ Global) AllocError) → d ≡ program_data texts p
    → IfOk result (λ b. has_float d ≡ false → b.items ≡ compact_text d) → IfOk result (λ b. b.items ≡ compact_text (program_data texts p))
text_of texts p d (Ok b) is said = said (ap has_float is ∙ program_float texts p) ∙ ap compact_text is
text_of texts p d (Err e) is said = tt

pub plain_again : (p : Tree) (d : Data) (result : Result (Vec ℕ Global) AllocError) → d ≡ program_data in_rows p → IsShaped p → IsReadable in_rows p
    → IfOk result (λ b. IsUtf8 b.items) → IfOk result (λ b. depth d ≤ max_depth → read b.items ≡ Some d) → IfOk result (λ b. reading b.items ≡ Ok (listed_program p))
plain_again p d (Ok b) is shaped readable utf8 back =
    let sound = IsShaped-no_fault p shaped in
    let low : depth d ≤ max_depth = rw is (program_low in_rows p) in
    reading-form b.items (program_data in_rows p) p utf8 (back low ∙ ap Some is) (plain_form p readable (listing_marks p sound)) sound
plain_again p d (Err e) is shaped readable utf8 back = tt

pub texts_again : (p : Tree) (d : Data) (result : Result (Vec ℕ Global) AllocError) → Each IsTextAgain (texts_of p)
    → d ≡ program_data (in_list (texts_of p)) p → IsShaped p → IsReadable (in_list (texts_of p)) p
    → IfOk result (λ b. IsUtf8 b.items) → IfOk result (λ b. depth d ≤ max_depth → read b.items ≡ Some d) → IfOk result (λ b. reading b.items ≡ Ok (listed_program p))
texts_again p d (Ok b) again is shaped readable utf8 back =
    let sound = IsShaped-no_fault p shaped in
    let low : depth d ≤ max_depth = rw is (program_low (in_list (texts_of p)) p) in
    reading-form b.items (program_data (in_list (texts_of p)) p) p utf8 (back low ∙ ap Some is) (texts_form p (texts_of p) readable again (listing_told p sound) (listing_marks p sound)) sound
texts_again p d (Err e) again is shaped readable utf8 back = tt
