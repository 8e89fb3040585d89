-- Each written form of a program without fault is read.
use Rattle.std.proofs.Common.{◌≡◌, ℕ, ◌+◌, ◌<◌, ◌≤◌, Bool, true, false, cond, ◌==◌, nat_lt, List, [], ◌∷◌, ◌++◌, length, map, Option, Some, None, option_map, Ok, refl, sym, ap, ◌∙◌, subst, arith}
use Rattle.std.proofs.lemmas.List.{map-append, length-append}
use Rattle.std.proofs.lemmas.Grind.{common_steps}
use Rattle.std.specs.Str.{IsUtf8, encode_utf8_all}
use denote.Enum.Bare.{true_same}
use Rattle.serde_json.specs.Data.{Data, Items, no_items, item}
use Rattle.serde_json.specs.Read.{read}
use Rattle.serde_json.specs.Events.{items_len}
use Rattle.semantic_kinds.specs.contracts.role.Role.{the_type as roles}
use Rattle.semantic_kinds.specs.Roles.{same_role}
use Rattle.semantic_kinds.specs.declared.kind.AstType.{AstType}
use Rattle.semantic_kinds.specs.declared.role.Role.TheVariants.{Root}
use Rattle.semantic_tree.specs.Forest.{Forest, nothing, tree, count}
use Rattle.semantic_tree.specs.Children.{node_count}
use Rattle.semantic_tree.specs.Limits.{depth_limit}
use Rattle.semantic_tree.specs.Tree.{Tree}
use Rattle.semantic_tree.specs.Place.{root_place, child_place, placed_below, all_placed}
use Rattle.semantic_tree.specs.Faults.{first_fault, first_where, is_too_deep, is_too_large, form_fault, or_fault as or_second}
use Rattle.semantic_tree.specs.declared.error.TreeError.{TreeError}
use Rattle.semantic_tree.specs.declared.error.TreeError.TheVariants.{NotJson, TooMany, TooDeep}
use Rattle.semantic_tree.specs.declared.node.Node.{Node}
use Rattle.semantic_tree.specs.declared.place.Place.{Place}
use Rattle.tree_json.specs.Lines.{Line, lines_of, listing}
use Rattle.tree_json.specs.Listing.{Continues, IsListing}
use Rattle.tree_json.specs.Form.{Texts, line_of_data}
use Rattle.tree_json.specs.Comments.{all_items}
use Rattle.tree_json.specs.Reading.{listed_program, follows, line_at, lines_from, shallow_from, listing_of, are_too_many, lines_with, lines_in, listed_of, listed_in, reading}
use Rattle.tree_json.specs.WrittenForm.{IsWrittenForm}
use Rattle.tree_json.proofs.Items.{all_items-some, all_items-len}
use Rattle.tree_json.proofs.Laws.{listing-IsListing}
use Rattle.tree_json.proofs.Readings.{value_in_ok}

-- ---- rows

follows-from : (opened : ℕ) (l : Line) → l.depth ≤ opened → (0 < opened → 0 < l.depth) → (opened ≡ 0 → same_role l.role Root ≡ true) → follows opened l ≡ true
unfolding follows
follows-from opened l within deeper root = grind (arith, common_steps)

line_at-from : (texts : Texts) (opened index : ℕ) (d : Data) (l : Line) → line_of_data texts d ≡ Some l → follows opened l ≡ true → line_at texts opened index d ≡ Ok l
unfolding line_at
line_at-from texts opened index d l is stands = rw (is, stands) refl

lines_from-items : (texts : Texts) (ds : Items) (ls : List Line) (opened index : ℕ) → 0 < opened → all_items (line_of_data texts) ds ≡ Some ls → Continues opened ls → lines_from texts opened index ds ≡ Ok ls
lines_from-items texts no_items [] opened index some say goes = refl
lines_from-items texts no_items (l ∷ ls) opened index some say goes = absurd (cc)
lines_from-items texts (item d ds) ls opened index some say goes =
    let (l, rest, is, are, whole) = all_items-some (line_of_data texts) d ds ls say in
    let on : Continues opened (l ∷ rest) = subst (λ ms. Continues opened ms) (sym whole) goes in
    let stands : follows opened l ≡ true = follows-from opened l on.0 on.1 (λ h. absurd (omega arith)) in
    let more : lines_from texts (l.depth + 1) (index + 1) ds ≡ Ok rest = lines_from-items texts ds rest (l.depth + 1) (index + 1) (omega arith) are on.2 in
    rw (line_at-from texts opened index d l is stands, more) (ap Ok whole)

pub lines_from-listing : (texts : Texts) (ds : Items) (ls : List Line) → all_items (line_of_data texts) ds ≡ Some ls → IsListing ls → lines_from texts 0 0 ds ≡ Ok ls
lines_from-listing texts no_items [] say goes = absurd goes
lines_from-listing texts no_items (l ∷ ls) say goes = absurd (cc)
lines_from-listing texts (item d ds) ls say goes =
    let (l, rest, is, are, whole) = all_items-some (line_of_data texts) d ds ls say in
    let on : IsListing (l ∷ rest) = subst IsListing (sym whole) goes in
    let stands : follows 0 l ≡ true = follows-from 0 l on.1.0 on.1.1 (λ h. true_same roles l.role Root on.0) in
    let more : lines_from texts (l.depth + 1) (0 + 1) ds ≡ Ok rest = lines_from-items texts ds rest (l.depth + 1) (0 + 1) (omega arith) are on.1.2 in
    rw (line_at-from texts 0 0 d l is stands, more) (ap Ok whole)

-- ---- depths

abbrev line_depth : Line → ℕ
line_depth l = l.depth

abbrev placed_depth : Place × Node → ℕ
placed_depth placed = placed.0.depth

depths_below : (place : Place) (kind : AstType) (f : Forest) → map line_depth (lines_of (place.depth + 1) f) ≡ map placed_depth (placed_below place kind f)
depths_below place kind nothing = refl
depths_below place kind (tree role k span text marks below id after) =
    let inside = depths_below (child_place place kind role) k below in
    let later = depths_below place kind after in
    ap (λ ds. (place.depth + 1) ∷ ds)
    (map-append line_depth (lines_of (place.depth + 1 + 1) below) (lines_of (place.depth + 1) after)
    ∙ (λ i. inside i ++ later i)
    ∙ sym (map-append placed_depth (placed_below (child_place place kind role) k below) (placed_below place kind after)))

pub neither : {A : Type 0} (b : Bool) (x : A) (rest : Option A) → cond b (Some x) rest ≡ None → (b ≡ false) × (rest ≡ None)
neither true x rest h = absurd (cc)
neither false x rest h = (refl, h)

shallow_from-depths : (xs : List (Place × Node)) (ls : List Line) (index : ℕ) → map line_depth ls ≡ map placed_depth xs → first_where is_too_deep xs ≡ None → shallow_from index ls ≡ Ok tt
shallow_from-depths [] [] index same none = refl
shallow_from-depths [] (l ∷ ls) index same none = absurd (cc)
shallow_from-depths (x ∷ xs) [] index same none = absurd (cc)
shallow_from-depths (x ∷ xs) (l ∷ ls) index same none =
    let depth : l.depth ≡ x.0.depth = cc in
    let others : map line_depth ls ≡ map placed_depth xs = cc in
    let (shallow, rest) = neither (nat_lt depth_limit x.0.depth) x.1.node_id (first_where is_too_deep xs) none in
    rw (depth, shallow) (shallow_from-depths xs ls (index + 1) others rest)

-- ---- a program without fault

pub first_none : {A : Type 0} (f : A → TreeError) (o : Option A) (rest : Option TreeError) → or_second (option_map f o) rest ≡ None → o ≡ None
first_none f None rest h = refl
first_none f (Some x) rest h = absurd (cc)

pub rest_none : {A : Type 0} (f : A → TreeError) (o : Option A) (rest : Option TreeError) → or_second (option_map f o) rest ≡ None → rest ≡ None
rest_none f None rest h = h
rest_none f (Some x) rest h = absurd (cc)

listing_shallow : (p : Tree) → first_fault p ≡ None → shallow_from 0 (listing p.root) ≡ Ok tt
listing_shallow p sound =
    let (few, formed) = neither (is_too_large (encode_utf8_all p.source) p.comments p.root) TooMany (form_fault (encode_utf8_all p.source) p.comments p.root) sound in
    let none : first_where is_too_deep (all_placed p.root) ≡ None = first_none (λ id. TooDeep id) (first_where is_too_deep (all_placed p.root)) _ formed in
    let depths = depths_below root_place p.root.kind p.root.children in
    shallow_from-depths (all_placed p.root) (listing p.root) 0 (ap (λ ds. 0 ∷ ds) depths) none

lines_of-len : (depth : ℕ) (f : Forest) → length (lines_of depth f) ≡ count f
lines_of-len depth nothing = refl
lines_of-len depth (tree role kind span text marks below id after) =
    omega (arith, length-append (lines_of (depth + 1) below) (lines_of depth after), lines_of-len (depth + 1) below, lines_of-len depth after)

pub listing-len : (n : Node) → length (listing n) ≡ node_count n
listing-len n = omega (arith, lines_of-len 1 n.children)

few_nodes : (p : Tree) (nodes : ℕ) → nodes ≡ node_count p.root → first_fault p ≡ None → are_too_many nodes (length p.comments) p.source ≡ false
unfolding are_too_many
few_nodes p nodes is sound =
    let (few, formed) = neither (is_too_large (encode_utf8_all p.source) p.comments p.root) TooMany (form_fault (encode_utf8_all p.source) p.comments p.root) sound in
    rw is few

-- ---- its written forms

listing_of-form : (texts : Texts) (rows : Items) (p : Tree) → all_items (line_of_data texts) rows ≡ Some (listing p.root) → first_fault p ≡ None → listing_of texts rows ≡ Ok (listing p.root)
unfolding listing_of
listing_of-form texts rows p say sound =
    rw (lines_from-listing texts rows (listing p.root) say (listing-IsListing p.root), listing_shallow p sound) refl

not_empty : (n m : ℕ) → n ≡ m + 1 → (n == 0) ≡ false
not_empty n m is = grind (arith, common_steps)

lines_with-form : (d : Data) (p : Tree) (form : IsWrittenForm d p) → first_fault p ≡ None → lines_with form.top (length p.comments) form.texts ≡ Ok (listing p.root)
unfolding lines_with
lines_with-form d p form sound =
    let len : items_len form.top.rows ≡ node_count p.root = all_items-len (line_of_data form.texts) form.top.rows (listing p.root) form.rows ∙ listing-len p.root in
    rw (not_empty (items_len form.top.rows) (count p.root.children) len, form.source, few_nodes p (items_len form.top.rows) len sound)
    (listing_of-form form.texts form.top.rows p form.rows sound)

listed_of-form : (d : Data) (p : Tree) (form : IsWrittenForm d p) → first_fault p ≡ None → listed_of form.top ≡ Ok (listed_program p)
unfolding listed_of lines_in
listed_of-form d p form sound =
    rw (form.comments, form.told, lines_with-form d p form sound, form.source, form.source_type) refl

pub reading-form : (bytes : List ℕ) (d : Data) (p : Tree) → IsUtf8 bytes → read bytes ≡ Some d → IsWrittenForm d p → first_fault p ≡ None → reading bytes ≡ Ok (listed_program p)
unfolding reading listed_in
reading-form bytes d p utf8 is form sound =
    rw (value_in_ok NotJson bytes d utf8 is, form.formed) (listed_of-form d p form sound)
