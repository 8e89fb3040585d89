-- What lists of values give.
use Rattle.std.proofs.Common.{◌≡◌, ℕ, ◌+◌, ◌<◌, ◌≤◌, true, ◌==◌, List, [], ◌∷◌, length, Some, Result, Ok, Err, ok_or, refl, sym, arith, subst}
use Rattle.std.proofs.lemmas.Grind.{common_steps}
use Rattle.semantic_syntax.proofs.Truth.{and_second}
use Rattle.serde_json.specs.Data.{Data, Items, no_items, item}
use Rattle.serde_json.specs.View.{view as data_of, items_view}
use Rattle.serde_json.specs.declared.value.Value.{Value}
use denote.Enum.Bare.{same_true}
use Rattle.semantic_kinds.specs.contracts.role.Role.{the_type as roles}
use Rattle.semantic_kinds.specs.Roles.{same_role}
use Rattle.semantic_kinds.specs.declared.role.Role.TheVariants.{Root}
use Rattle.semantic_tree.specs.declared.error.TreeError.TheVariants.{Shape}
use Rattle.tree_json.specs.Lines.{Line}
use Rattle.tree_json.specs.Form.{Texts, line_of_data}
use Rattle.tree_json.specs.Listing.{Continues, IsListing}
use Rattle.tree_json.specs.Outcome.{◌>>=◌}
use Rattle.tree_json.specs.Reading.{follows, if_follows, line_at, lines_from}

pub bind_ok : {A B E : Type 0} (r : Result A E) (f : A → Result B E) (y : B) → (r >>= f) ≡ Ok y → (x : A) × (r ≡ Ok x) × (f x ≡ Ok y)
bind_ok (Ok x) f y e = (x, refl, e)
bind_ok (Err e) f y h = absurd (cc)

-- what stands where `opened` nodes are open
pub follows-true : (opened : ℕ) (l : Line) → follows opened l ≡ true → (l.depth ≤ opened) × (0 < opened → 0 < l.depth)
unfolding follows
follows-true opened l h = grind (arith, common_steps)

pub follows-root : (l : Line) → follows 0 l ≡ true → l.role ≡ Root
unfolding follows
follows-root l h = same_true roles tt l.role Root (and_second (l.depth == 0) (same_role l.role Root) h)

if_follows-ok : (opened index : ℕ) (k l : Line) → if_follows opened index k ≡ Ok l → follows opened l ≡ true
if_follows-ok opened index k l h = grind (arith, common_steps)

pub line_at-ok : (texts : Texts) (opened index : ℕ) (d : Data) (l : Line) → line_at texts opened index d ≡ Ok l → follows opened l ≡ true
unfolding line_at
line_at-ok texts opened index d l h =
    let (k, is, then') = bind_ok (ok_or (line_of_data texts d) (Shape (Some index))) (if_follows opened index) l h in
    if_follows-ok opened index k l then'

pub lines_from-Continues : (texts : Texts) (ds : Items) (opened index : ℕ) (ls : List Line) → lines_from texts opened index ds ≡ Ok ls → Continues opened ls
lines_from-Continues texts no_items opened index [] h = tt
lines_from-Continues texts no_items opened index (l ∷ ls) h = absurd (cc)
lines_from-Continues texts (item d ds) opened index ls h =
    let (l, at, more) = bind_ok (line_at texts opened index d) _ ls h in
    let (rest, read, joined) = bind_ok (lines_from texts (l.depth + 1) (index + 1) ds) _ ls more in
    let stands : (l.depth ≤ opened) × (0 < opened → 0 < l.depth) = follows-true opened l (line_at-ok texts opened index d l at) in
    let next : Continues (l.depth + 1) rest = lines_from-Continues texts ds (l.depth + 1) (index + 1) rest read in
    let whole : (l ∷ rest) ≡ ls = cc in
    subst (λ ms. Continues opened ms) whole (stands.0, stands.1, next)

-- what is read is the listing of a tree
pub lines_from-IsListing : (texts : Texts) (d : Data) (ds : Items) (ls : List Line) → lines_from texts 0 0 (item d ds) ≡ Ok ls → IsListing ls
lines_from-IsListing texts d ds ls h =
    let (l, at, more) = bind_ok (line_at texts 0 0 d) _ ls h in
    let (rest, read, joined) = bind_ok (lines_from texts (l.depth + 1) (0 + 1) ds) _ ls more in
    let whole : (l ∷ rest) ≡ ls = cc in
    let goes : Continues 0 (l ∷ rest) = subst (λ ms. Continues 0 ms) (sym whole) (lines_from-Continues texts (item d ds) 0 0 ls h) in
    subst IsListing whole (follows-root l (line_at-ok texts 0 0 d l at), goes)

pub lines_from_values-IsListing : (texts : Texts) (vs : List Value) (ls : List Line) → 0 < length vs → lines_from texts 0 0 (items_view vs) ≡ Ok ls → IsListing ls
lines_from_values-IsListing texts [] ls some h = absurd (omega arith)
lines_from_values-IsListing texts (v ∷ vs) ls some h = lines_from-IsListing texts (data_of v) (items_view vs) ls h
