-- A tree's listing is a listing, and trees of one listing are one but for their ids.
use Rattle.std.proofs.Common.{◌≡◌, ℕ, ◌+◌, ◌<◌, ◌≤◌, List, [], ◌∷◌, ◌++◌, refl, sym, ap, ◌∙◌, append_assoc, append-nil, subst, arith}
use Rattle.semantic_kinds.specs.declared.role.Role.TheVariants.{Root}
use Rattle.semantic_tree.specs.Forest.{Forest, nothing, tree, count, numbered}
use Rattle.semantic_tree.specs.Children.{numbered_node}
use Rattle.semantic_tree.specs.declared.node.Node.{Node}
use Rattle.semantic_tree.proofs.Forests.{count-numbered}
use Rattle.tree_json.specs.Lines.{Line, lines_of, line_of, listing}
use Rattle.tree_json.specs.Listing.{Continues, IsLessDeep, IsListing}

-- ---- a tree's listing is a listing

lines_of-Continues : (f : Forest) (depth : ℕ) (rest : List Line) (opened : ℕ) → 0 < depth → depth ≤ opened → ((k : ℕ) → depth ≤ k → Continues k rest) → Continues opened (lines_of depth f ++ rest)
lines_of-Continues nothing depth rest opened some within after = after opened within
lines_of-Continues (tree role kind span text marks below id later) depth rest opened some within after = (
  within,
  (λ h. some),
  subst (λ ls. Continues (depth + 1) ls) (sym (append_assoc (lines_of (depth + 1) below) (lines_of depth later) rest))
      (lines_of-Continues below (depth + 1) (lines_of depth later ++ rest) (depth + 1) (omega arith) (omega arith) (λ k h. lines_of-Continues later depth rest k some (omega arith) after)),
)

pub listing-IsListing : (root : Node) → IsListing (listing root)
listing-IsListing root =
    (refl, (omega arith, (λ h. absurd (omega arith)), subst (λ ls. Continues 1 ls) (append-nil (lines_of 1 root.children)) (lines_of-Continues root.children 1 [] 1 (omega arith) (omega arith) (λ k h. tt))))

-- ---- no other tree has it

Ends-after : (f : Forest) (depth : ℕ) (xs : List Line) → IsLessDeep depth xs → IsLessDeep (depth + 1) (lines_of depth f ++ xs)
Ends-after nothing depth [] ends = tt
Ends-after nothing depth (x ∷ xs) ends = omega arith
Ends-after (tree role kind span text marks below id after) depth xs ends = omega arith

lines_of-same : (f g : Forest) (n depth : ℕ) (xs ys : List Line) → IsLessDeep depth xs → IsLessDeep depth ys → lines_of depth f ++ xs ≡ lines_of depth g ++ ys → (numbered n f ≡ numbered n g) × (xs ≡ ys)
lines_of-same nothing nothing n depth xs ys ends_x ends_y h = (refl, h)
lines_of-same nothing (tree role kind span text marks below id after) n depth [] ys ends_x ends_y h = absurd (cc)
lines_of-same nothing (tree role kind span text marks below id after) n depth (x ∷ xs) ys ends_x ends_y h =
    let first : x ≡ record { depth = depth; role = role; kind = kind; span = span; text = text; marks = marks } = cc in
    absurd (omega (arith, ap (λ l. l.depth) first))
lines_of-same (tree role kind span text marks below id after) nothing n depth xs [] ends_x ends_y h = absurd (cc)
lines_of-same (tree role kind span text marks below id after) nothing n depth xs (y ∷ ys) ends_x ends_y h =
    let first : record { depth = depth; role = role; kind = kind; span = span; text = text; marks = marks } ≡ y = cc in
    absurd (omega (arith, ap (λ l. l.depth) first))
lines_of-same (tree role kind span text marks below id after) (tree role' kind' span' text' marks' below' id' after') n depth xs ys ends_x ends_y h =
    let first : ◌≡◌ {A = Line} (record { depth = depth; role = role; kind = kind; span = span; text = text; marks = marks }) (record { depth = depth; role = role'; kind = kind'; span = span'; text = text'; marks = marks' }) = cc in
    let more : (lines_of (depth + 1) below ++ lines_of depth after) ++ xs ≡ (lines_of (depth + 1) below' ++ lines_of depth after') ++ ys = cc in
    let regrouped : lines_of (depth + 1) below ++ (lines_of depth after ++ xs) ≡ lines_of (depth + 1) below' ++ (lines_of depth after' ++ ys) =
    sym (append_assoc (lines_of (depth + 1) below) (lines_of depth after) xs) ∙ more ∙ append_assoc (lines_of (depth + 1) below') (lines_of depth after') ys in
    let (same_below, rest) = lines_of-same below below' (n + 1) (depth + 1) (lines_of depth after ++ xs) (lines_of depth after' ++ ys) (Ends-after after depth xs ends_x) (Ends-after after' depth ys ends_y) regrouped in
    let counts : count below ≡ count below' = sym (count-numbered (n + 1) below) ∙ ap count same_below ∙ count-numbered (n + 1) below' in
    let (same_after, end) = lines_of-same after after' (n + 1 + count below) depth xs ys ends_x ends_y rest in
    let last : numbered (n + 1 + count below) after ≡ numbered (n + 1 + count below') after' = same_after ∙ ap (λ k. numbered (n + 1 + k) after') counts in
    ((λ i. tree (first i).role (first i).kind (first i).span (first i).text (first i).marks (same_below i) n (last i)), end)

pub listing-injective : (a b : Node) → listing a ≡ listing b → numbered_node 0 a ≡ numbered_node 0 b
listing-injective a b h =
    let first : line_of 0 Root a ≡ line_of 0 Root b = cc in
    let more : lines_of 1 a.children ≡ lines_of 1 b.children = cc in
    let (below, _) = lines_of-same a.children b.children 1 1 [] [] tt tt (append-nil _ ∙ more ∙ sym (append-nil _)) in
    λ i. record { kind = (first i).kind; span = (first i).span; text = (first i).text; marks = (first i).marks; children = below i; node_id = 0 }
