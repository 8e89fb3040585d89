-- What a loop over a list knows with one more of its elements.
use Rattle.std.proofs.Common.{◌≡◌, ℕ, suc, ◌+◌, ◌<◌, ◌≤◌, List, [], ◌∷◌, ◌++◌, append_assoc, append-nil, length, get_or, drop, drop-cons, map, Option, Some, None, option_and_then, Result, Ok, Err, IsErrAnd, ok_or, refl, sym, ap, ◌∙◌, arith}
use Rattle.std.proofs.lemmas.Grind.{common_steps}
use Rattle.std.proofs.lemmas.List.{map-append}
use Rattle.std.specs.Option.{option_map}
use Rattle.serde_json.specs.Data.{Data}
use Rattle.serde_json.specs.View.{view as data_of, items_view}
use Rattle.serde_json.specs.declared.value.Value.{Value}
use Rattle.semantic_kinds.specs.declared.role.Role.{Role}
use Rattle.semantic_tree.specs.Children.{forest_of}
use Rattle.semantic_tree.specs.declared.error.TreeError.{TreeError}
use Rattle.semantic_tree.specs.declared.node.Node.{Node}
use Rattle.tree_json.specs.Comments.{all_items}
use Rattle.tree_json.specs.Lines.{Line, line_of, lines_of, node_lines}
use Rattle.tree_json.specs.Listing.{line}
use Rattle.tree_json.specs.Outcome.{Gives}
use Rattle.tree_json.specs.declared.row.Row.{Row}

split : {A : Type 0} (xs : List A) (i : ℕ) (x : A) → i < length xs → x ≡ get_or xs i x → drop i xs ≡ x ∷ drop (i + 1) xs
split xs i x within is =
    let next : suc i ≡ i + 1 = omega arith in
    drop-cons xs i x within ∙ ap (λ y. y ∷ drop (suc i) xs) (sym is) ∙ ap (λ k. x ∷ drop k xs) next

over : {A : Type 0} (xs : List A) (i : ℕ) → length xs ≤ i → drop i xs ≡ []
over xs i all = grind (arith, common_steps)

-- ---- items that have a form

moved : {A : Type 0} (front : List A) (x : A) (o : Option (List A)) → option_map (λ rest. (front ++ x ∷ []) ++ rest) o ≡ option_map (λ rest. front ++ rest) (option_and_then (λ rest. Some (x ∷ rest)) o)
moved front x None = refl
moved front x (Some rest) = ap Some (append_assoc front (x ∷ []) rest)

-- one more value has the form
pub item_more : {A : Type 0} (form : Data → Option A) (before after : List A) (whole : Option (List A)) (values : List Value) (i : ℕ) (v : Value) (x : A) → i < length values → v ≡ get_or values i v → form (data_of v) ≡ Some x
    → after ≡ before ++ x ∷ [] → option_map (λ rest. before ++ rest) (all_items form (items_view (drop i values))) ≡ whole → option_map (λ rest. after ++ rest) (all_items form (items_view (drop (i + 1) values))) ≡ whole
item_more form before after whole values i v x within is formed pushed so_far =
    rw pushed (moved before x (all_items form (items_view (drop (i + 1) values)))) ∙ (rw (split values i v within is, formed) at so_far)

-- a value has not the form
item_none : {A E : Type 0} (form : Data → Option A) (front : List A) (values : List Value) (i : ℕ) (v : Value) (e : E) → i < length values → v ≡ get_or values i v → form (data_of v) ≡ None
    → option_map (λ rest. front ++ rest) (all_items form (items_view (drop i values))) ≡ all_items form (items_view values) → ok_or (all_items form (items_view values)) e ≡ Err e
item_none form front values i v e within is formless so_far =
    let none : None ≡ all_items form (items_view values) = rw (split values i v within is, formless) at so_far in
    rw (← none) refl

one_error : {B : Type 0} (o : Option B) (e f : TreeError) → Err f ≡ ok_or o e → o ≡ None → f ≡ e
one_error (Some x) e f is none = absurd (cc)
one_error None e f is none = cc

-- the first value that has not the form is refused
pub refuses_item : {X A B : Type 0} (view : X → List A) (result : Result X TreeError) (form : Data → Option A) (front : List A) (values : List Value) (i : ℕ) (v : Value) (o : Option B) (e f : TreeError)
    → IsErrAnd result (λ g. g ≡ f) → Err f ≡ ok_or o e → o ≡ None → i < length values → v ≡ get_or values i v → form (data_of v) ≡ None
    → option_map (λ rest. front ++ rest) (all_items form (items_view (drop i values))) ≡ all_items form (items_view values) → Gives view result (ok_or (all_items form (items_view values)) e)
refuses_item view (Ok x) form front values i v o e f told is none within at formless so_far = absurd told
refuses_item view (Err g) form front values i v o e f told is none within at formless so_far =
    let one : f ≡ e = one_error o e f is none in
    let refused : ok_or (all_items form (items_view values)) e ≡ Err e = item_none form front values i v e within at formless so_far in
    λ no. cc

-- all values have the form
pub item_last : {A E : Type 0} (form : Data → Option A) (front : List A) (values : List Value) (i : ℕ) (e : E) → length values ≤ i
    → option_map (λ rest. front ++ rest) (all_items form (items_view (drop i values))) ≡ all_items form (items_view values) → ok_or (all_items form (items_view values)) e ≡ Ok front
item_last form front values i e all so_far =
    let none : drop i values ≡ [] = over values i all in
    let whole : Some (front ++ []) ≡ all_items form (items_view values) = rw none at so_far in
    rw (← whole) (ap Ok (append-nil front))

-- ---- rows of a node

-- the row of the node itself stands first
pub row_first : (depth : ℕ) (role : Role) (node : Node) (old new : List Row) (row : Row) (items : List (Role × Node)) → new ≡ old ++ row ∷ [] → line row ≡ line_of depth role node → forest_of items ≡ node.children
    → map line new ++ lines_of (depth + 1) (forest_of items) ≡ map line old ++ node_lines depth role node
row_first depth role node old new row items pushed is same =
    rw (pushed, map-append line old (row ∷ []), is, same) (append_assoc (map line old) (line_of depth role node ∷ []) (lines_of (depth + 1) node.children))

-- the rows of one more child stand behind
pub rows_more : (depth : ℕ) (items : List (Role × Node)) (i : ℕ) (x : Role × Node) (before after whole : List Line) → i < length items → x ≡ get_or items i x → after ≡ before ++ node_lines depth x.0 x.1
    → before ++ lines_of depth (forest_of (drop i items)) ≡ whole → after ++ lines_of depth (forest_of (drop (i + 1) items)) ≡ whole
rows_more depth items i x before after whole within is pushed so_far =
    let next : before ++ lines_of depth (forest_of (x ∷ drop (i + 1) items)) ≡ whole = rw (split items i x within is) at so_far in
    rw pushed (append_assoc before (node_lines depth x.0 x.1) (lines_of depth (forest_of (drop (i + 1) items))) ∙ next)

-- the rows of all children stand there
pub rows_last : (depth : ℕ) (items : List (Role × Node)) (i : ℕ) (before whole : List Line) → length items ≤ i → before ++ lines_of depth (forest_of (drop i items)) ≡ whole → before ≡ whole
rows_last depth items i before whole all so_far =
    let none : before ++ lines_of depth (forest_of []) ≡ whole = rw (over items i all) at so_far in
    sym (append-nil before) ∙ none
