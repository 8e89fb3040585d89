-- Data that is put together from pulled tokens.
use Rattle.std.proofs.Common.{◌≡◌, ℕ, suc, ◌<◌, ◌≤◌, ◌^◌, true, false, List, [], ◌∷◌, ◌++◌, length, get_or, map, Option, Some, None, option_map, IfSome, Result, Ok, Err, IfOk, refl, sym, ap, ◌∙◌, subst, arith, append_assoc, append-nil, length-append, lt-ltb, ne_eqb}
use Rattle.std.proofs.lemmas.List.{map-append}
use Rattle.std.specs.Char.{digit_value}
use Rattle.std.specs.Str.Parse.{AllDigits, IsNumeral, digits_value}
use Rattle.std.specs.Float.Numeral.{Parts, numeral_digits, IsWellFormed}
use Rattle.std.proofs.lemmas.Float.Parse.{scan_numeral-text_of}
use Rattle.json.specs.Token.{Token}
use Rattle.json.specs.Tree.{json_tokens, items_tokens}
use Rattle.json.specs.Json as json
use Rattle.json.specs.Json.{after_end_array}
use Rattle.serde_json.specs.Data.{Data, unsigned, number, string, array, Items, no_items, item}
use Rattle.serde_json.specs.Read.{number_of, number_from, is_integer}
use Rattle.semantic_kinds.specs.MarkSets.{no_marks, has_mark, with_mark}
use Rattle.semantic_kinds.specs.Marks.{mark_named}
use Rattle.semantic_kinds.specs.declared.mark.Mark.{Mark}
use Rattle.semantic_kinds.specs.declared.marks.Marks.{Marks}
use Rattle.tree_json.specs.Comments.{comment_kind_named, comment_kind_of_data, comment_of_data, all_items}
use Rattle.tree_json.specs.Form.{in_rows, whole_number, text_in, role_of_data, kind_of_data, span_of_data, marks_of_data, marks_from, line_of_data}
use Rattle.tree_json.specs.Listing.{line}
use Rattle.tree_json.specs.Pulled.{Tokens, PullsNumber, IsSpan, IsValue, AreItems, Pulls, PullsItems, of_list, IsHead}
use Rattle.tree_json.specs.declared.row.Row.{Row}
use Rattle.semantic_tree.specs.declared.comment.Comment.{Comment}

-- ---- numbers

abbrev digits : List ℕ → Parts
digits ds = record { whole = ds; point = false; fraction = []; exponent_negative = false; exponent = []; len = length (ds ++ []) }

no_minus : (ds rest : List ℕ) → AllDigits 10 ds → 0 < length ds → get_or (ds ++ rest) 0 0 ≡ 45 → ⊥
no_minus [] rest h some e = omega arith
no_minus (d ∷ ds) rest h some e = let digit : digit_value d < 10 = h.0 in let is : d ≡ 45 = e in grind arith

number_of-digits : (ds : List ℕ) → IsNumeral 10 ds → number_of (ds ++ []) ≡ number_from false (digits ds)
unfolding number_of
number_of-digits ds h =
    let formed : IsWellFormed (digits ds) = record { whole_digits = h.1; fraction_digits = tt; exponent_digits = tt; no_point = λ _. refl; no_exponent = λ _. refl; len_is = refl } in
    rw (ne_eqb (get_or (ds ++ []) 0 0) 45 (no_minus ds [] h.1 h.0)) (ap (number_from false) (scan_numeral-text_of (digits ds) formed))

pub number_of-numeral : (ds : List ℕ) → IsNumeral 10 ds → digits_value 10 ds < 2 ^ 32 → number_of ds ≡ Some (unsigned (digits_value 10 ds))
number_of-numeral ds h small =
    let fits : digits_value 10 ds < 2 ^ 64 = omega arith in
    let is : is_integer (digits ds) ≡ true = rw (lt-ltb _ _ h.0) in
    let value : numeral_digits (digits ds) ≡ digits_value 10 ds = rw (append-nil ds) in
    ap number_of (sym (append-nil ds)) ∙ number_of-digits ds h ∙ rw (is, value) (rw (lt-ltb _ _ fits))

pub number_pulled : (old new : Tokens) (s bytes : List ℕ) (o : Option ℕ) → old ≡ Token.number s ∷ new → bytes ≡ s → IfSome o (λ n. IsNumeral 10 bytes × (n ≡ digits_value 10 bytes) × (n < 2 ^ 32)) → IfSome o (λ n. PullsNumber old n new)
number_pulled old new s bytes None e same h = tt
number_pulled old new s bytes (Some n) e same h =
    let small : digits_value 10 bytes < 2 ^ 32 = omega (arith, h.1, h.2) in
    (s, e, ap number_of (sym same) ∙ number_of-numeral bytes h.0 small ∙ ap (λ k. Some (unsigned k)) (sym h.1), h.2)

-- ---- single values

pub number_value : (old new : Tokens) (n : ℕ) → PullsNumber old n new → IsValue 0 old (number (unsigned n)) new
number_value old new n h = record { value = json.number h.0; tokens = h.1; gives = ap (option_map number) h.2; shallow = omega arith }

pub string_value : (old new : Tokens) (s : List ℕ) → old ≡ Token.string s ∷ new → IsValue 0 old (string s) new
string_value old new s e = record { value = json.string s; tokens = e; gives = refl; shallow = omega arith }

pub deeper : (n m : ℕ) (old new : Tokens) (d : Data) → n ≤ m → IsValue n old d new → IsValue m old d new
deeper n m old new d le v = record { value = v.value; tokens = v.tokens; gives = v.gives; shallow = omega (arith, v.shallow) }

pub whole : (n : ℕ) → n < 2 ^ 32 → whole_number (number (unsigned n)) ≡ Some n
unfolding whole_number
whole n h = rw (lt-ltb _ _ h) refl

-- ---- lists

pub items_close : (deepest : ℕ) (old new : Tokens) → old ≡ Token.end_array ∷ new → AreItems deepest old no_items new
items_close deepest old new e = record { items = json.no_items; tokens = e; gives = refl; shallow = omega arith }

pub item_on : (deepest : ℕ) (old mid new : Tokens) (d : Data) (ds : Items) → IsValue deepest old d mid → AreItems deepest mid ds new → AreItems deepest old (item d ds) new
item_on deepest old mid new d ds v w = record {
  items = json.item v.value w.items;
  tokens = v.tokens ∙ ap (λ ts. json_tokens v.value ++ ts) w.tokens ∙ sym (append_assoc (json_tokens v.value) (items_tokens w.items) new);
  gives = rw (v.gives, w.gives) refl;
  shallow = omega (arith, v.shallow, w.shallow);
}

pub list_on : (deepest : ℕ) (old mid new : Tokens) (ds : Items) → old ≡ Token.begin_array ∷ mid → AreItems deepest mid ds new → IsValue (suc deepest) old (array ds) new
list_on deepest old mid new ds e w = record {
  value = json.array w.items;
  tokens = e ∙ ap (λ ts. Token.begin_array ∷ ts) w.tokens;
  gives = rw w.gives refl;
  shallow = omega (arith, w.shallow);
}

pub list_pulled : {A : Type 0} (form : Items → Option A) (deepest : ℕ) (old mid : Tokens) (a : A) (new : Tokens) → old ≡ Token.begin_array ∷ mid → PullsItems form deepest mid a new → Pulls (of_list form) (suc deepest) old a new
list_pulled form deepest old mid a new e h = (array h.0, list_on deepest old mid new h.0 e h.1, h.2)

-- ---- what is pulled is shorter

some_token : (j : json.Json) → 0 < length (json_tokens j)
some_token json.null = omega arith
some_token (json.boolean b) = omega arith
some_token (json.number s) = omega arith
some_token (json.string s) = omega arith
some_token (json.array js) = omega arith
some_token (json.object ms) = omega arith

pub shorter : (deepest : ℕ) (old new : Tokens) (d : Data) → IsValue deepest old d new → length new < length old
shorter deepest old new d v = omega (arith, ap length v.tokens, length-append (json_tokens v.value) new, some_token v.value)

-- ---- the bracket that closes a list

pub closes : (old new : Tokens) → after_end_array old ≡ Some new → old ≡ Token.end_array ∷ new
closes [] new e = absurd (cc)
closes (Token.begin_object ∷ ts) new e = absurd (cc)
closes (Token.end_object ∷ ts) new e = absurd (cc)
closes (Token.begin_array ∷ ts) new e = absurd (cc)
closes (Token.end_array ∷ ts) new e = cc
closes (Token.key s ∷ ts) new e = absurd (cc)
closes (Token.string s ∷ ts) new e = absurd (cc)
closes (Token.number s ∷ ts) new e = absurd (cc)
closes (Token.boolean b ∷ ts) new e = absurd (cc)
closes (Token.null ∷ ts) new e = absurd (cc)
closes (Token.bad ∷ ts) new e = absurd (cc)

-- ---- all items

pub all_end : {A : Type 0} (form : Data → Option A) (deepest : ℕ) (old new : Tokens) → old ≡ Token.end_array ∷ new → PullsItems (all_items form) deepest old [] new
all_end form deepest old new e = (no_items, items_close deepest old new e, refl)

pub all_on : {A : Type 0} (form : Data → Option A) (deepest : ℕ) (old mid : Tokens) (a : A) (rest : List A) (new : Tokens) → Pulls form deepest old a mid → PullsItems (all_items form) deepest mid rest new → PullsItems (all_items form) deepest old (a ∷ rest) new
all_on form deepest old mid a rest new h k = (item h.0 k.0, item_on deepest old mid new h.0 k.0 h.1 k.1, rw (h.2, k.2) refl)

-- what begins here goes on where so much was pulled
abbrev pub Going : {A : Type 0} → (Data → Option A) → ℕ → Tokens → List A → Tokens → Type 0
Going {A} form deepest start done now = (rest : List A) (new : Tokens) → PullsItems (all_items form) deepest now rest new → PullsItems (all_items form) deepest start (done ++ rest) new

pub going_on : {A : Type 0} (form : Data → Option A) (deepest : ℕ) (start now mid : Tokens) (done : List A) (a : A) → Going form deepest start done now → Pulls form deepest now a mid → Going form deepest start (done ++ a ∷ []) mid
going_on form deepest start now mid done a going h rest new k =
    subst (λ xs. PullsItems (all_items form) deepest start xs new) (sym (append_assoc done (a ∷ []) rest)) (going (a ∷ rest) new (all_on form deepest now mid a rest new h k))

pub going_end : {A : Type 0} (form : Data → Option A) (deepest : ℕ) (start now : Tokens) (done : List A) (new : Tokens) → Going form deepest start done now → after_end_array now ≡ Some new → PullsItems (all_items form) deepest start done new
going_end form deepest start now done new going e =
    subst (λ xs. PullsItems (all_items form) deepest start xs new) (append-nil done) (going [] new (all_end form deepest now new (closes now new e)))

-- the same where a turn first looked for the bracket
pub going_next : {A : Type 0} (form : Data → Option A) (deepest : ℕ) (start now seen mid : Tokens) (done next : List A) (a : A) → Going form deepest start done now → seen ≡ now → Pulls form deepest seen a mid → next ≡ done ++ a ∷ [] → Going form deepest start next mid
going_next form deepest start now seen mid done next a going same h grown =
    subst (λ as'. Going form deepest start as' mid) (sym grown) (going_on form deepest start now mid done a going (subst (λ ts. Pulls form deepest ts a mid) same h))

pub pushed_line : (done next : List Row) (row : Row) → next ≡ done ++ row ∷ [] → map line next ≡ map line done ++ line row ∷ []
pushed_line done next row grown = ap (map line) grown ∙ map-append line done (row ∷ [])

pub falls : {A : Type 0} (form : Data → Option A) (deepest : ℕ) (now seen mid : Tokens) (a : A) → seen ≡ now → Pulls form deepest seen a mid → length mid < length now
falls form deepest now seen mid a same h = omega (arith, ap length same, shorter deepest seen mid h.0 h.1)

pub lists_pulled : {A B E : Type 0} (view : A → B) (form : Items → Option B) (deepest : ℕ) (r : Result (Option A) E) (old mid new : Tokens) → old ≡ Token.begin_array ∷ mid → IfOk r (λ o. IfSome o (λ a. PullsItems form deepest mid (view a) new))
    → IfOk r (λ o. IfSome o (λ a. Pulls (of_list form) (suc deepest) old (view a) new))
lists_pulled view form deepest (Err x) old mid new e h = tt
lists_pulled view form deepest (Ok None) old mid new e h = tt
lists_pulled view form deepest (Ok (Some a)) old mid new e h = list_pulled form deepest old mid (view a) new e h

-- ---- marks

abbrev pub GoingMarks : Tokens → Marks → Tokens → Type 0
GoingMarks start marks now = (final : Marks) (new : Tokens) → PullsItems (marks_from marks) 0 now final new → PullsItems (marks_from no_marks) 0 start final new

pub marks_end : (start now : Tokens) (marks : Marks) (new : Tokens) → GoingMarks start marks now → after_end_array now ≡ Some new → PullsItems (marks_from no_marks) 0 start marks new
marks_end start now marks new going e = going marks new (no_items, items_close 0 now new (closes now new e), refl)

pub marks_on : (start now seen mid : Tokens) (marks : Marks) (s : List ℕ) (mark : Mark) (next : Marks) → GoingMarks start marks now → seen ≡ now → seen ≡ Token.string s ∷ mid → mark_named s ≡ Some mark → has_mark marks mark ≡ false → next ≡ with_mark marks mark
    → GoingMarks start next mid
marks_on start now seen mid marks s mark next going same e is fresh with' final new k =
    let more : PullsItems (marks_from (with_mark marks mark)) 0 mid final new = subst (λ m. PullsItems (marks_from m) 0 mid final new) with' k in
    going final new (item (string s) more.0, item_on 0 now mid new (string s) more.0 (string_value now mid s (sym same ∙ e)) more.1, rw (is, fresh) more.2)

pub marks_pulled : (old mid : Tokens) (r : Option Marks) (new : Tokens) → old ≡ Token.begin_array ∷ mid → IfSome r (λ marks. PullsItems (marks_from no_marks) 0 mid marks new) → IfSome r (λ marks. Pulls marks_of_data 1 old marks new)
unfolding marks_of_data
marks_pulled old mid None new e h = tt
marks_pulled old mid (Some marks) new e h = list_pulled (marks_from no_marks) 0 old mid marks new e h

-- ---- a row

pub row_pulled : (old a b new end : Tokens) (row : Row) → old ≡ Token.begin_array ∷ a → IsHead a row b → Pulls marks_of_data 1 b row.marks end → end ≡ Token.end_array ∷ new → Pulls (line_of_data in_rows) 2 old (line row) new
unfolding role_of_data kind_of_data span_of_data text_in
row_pulled old a b new end row e h m c =
    let (r, k, a', b', depth, role, kind, span, text) = h in
    let (mid, start, until) = span in
    let cells = item (number (unsigned row.depth)) (item (string r) (item (string k) (item (number (unsigned row.span.start)) (item (number (unsigned row.span.end)) (item (string row.text.now) (item m.0 no_items)))))) in
    let up = λ (old' new' : Tokens) (d : Data) (v : IsValue 0 old' d new'). deeper 0 1 old' new' d (omega arith) v in
    let items : AreItems 1 a cells new =
    item_on 1 _ _ _ _ _ (up _ _ _ (number_value _ _ _ depth))
    (item_on 1 _ _ _ _ _ (up _ _ _ (string_value _ _ r refl))
    (item_on 1 _ _ _ _ _ (up _ _ _ (string_value _ _ k refl))
    (item_on 1 _ _ _ _ _ (up _ _ _ (number_value _ _ _ start))
    (item_on 1 _ _ _ _ _ (up _ _ _ (number_value _ _ _ until))
    (item_on 1 _ _ _ _ _ (up _ _ _ (string_value _ _ row.text.now text))
    (item_on 1 _ _ _ _ _ m.1 (items_close 1 end new c))))))) in
    (array cells, list_on 1 old a new cells e items, rw (whole _ depth.3, role, kind, whole _ start.3, whole _ until.3, m.2) refl)

-- ---- a comment

pub comment_pulled : (old a b c new : Tokens) (s : List ℕ) (comment : Comment) → old ≡ Token.begin_array ∷ a → IsSpan a comment.span b → b ≡ Token.string s ∷ c → comment_kind_named s ≡ Some comment.kind → c ≡ Token.end_array ∷ new
    → Pulls comment_of_data 1 old comment new
unfolding comment_of_data comment_kind_of_data span_of_data
comment_pulled old a b c new s comment e span text kind close =
    let (mid, start, until) = span in
    let cells = item (number (unsigned comment.span.start)) (item (number (unsigned comment.span.end)) (item (string s) no_items)) in
    let items : AreItems 0 a cells new =
    item_on 0 _ _ _ _ _ (number_value _ _ _ start)
    (item_on 0 _ _ _ _ _ (number_value _ _ _ until)
    (item_on 0 _ _ _ _ _ (string_value _ _ s text) (items_close 0 c new close))) in
    (array cells, list_on 0 old a new cells e items, rw (whole _ start.3, whole _ until.3, kind) refl)
