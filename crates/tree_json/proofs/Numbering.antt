-- The ids of a tree do not stand in its listing.
use Rattle.std.proofs.Common.{◌≡◌, ◌∙◌, ℕ, ◌+◌, ◌∷◌, ◌++◌, Some, None, Result, Ok, Err, IfOk, IfErr, refl, ap}
use Rattle.semantic_tree.specs.Faults.{first_fault}
use Rattle.semantic_tree.specs.declared.error.TreeError.{TreeError}
use Rattle.semantic_kinds.specs.declared.role.Role.TheVariants.{Root}
use Rattle.semantic_tree.specs.Forest.{Forest, nothing, tree, count, numbered}
use Rattle.semantic_tree.specs.Shaped.{IsShaped}
use Rattle.semantic_tree.proofs.ShapedLaws.{no_fault-IsShaped}
use Rattle.semantic_tree.specs.Tree.{Tree, IsNumbered, numbered_tree}
use Rattle.tree_json.specs.Lines.{lines_of, line_of}
use Rattle.tree_json.specs.Reading.{listed_program}
use Rattle.semantic_tree.proofs.Forests.{count-numbered}

lines_of-numbered : (n depth : ℕ) (f : Forest) → lines_of depth (numbered n f) ≡ lines_of depth f
lines_of-numbered n depth nothing = refl
lines_of-numbered n depth (tree role kind span text marks below id after) =
    let inside = lines_of-numbered (n + 1) (depth + 1) below in
    let later = lines_of-numbered (n + 1 + count below) depth after in
    λ i. record { depth = depth; role = role; kind = kind; span = span; text = text; marks = marks } ∷ (inside i ++ later i)

pub listed-numbered : (p : Tree) → listed_program (numbered_tree p) ≡ listed_program p
listed-numbered p =
    let below = lines_of-numbered 1 1 p.root.children in
    λ i. record { source = p.source; source_type = p.source_type; comments = p.comments; lines = line_of 0 Root p.root ∷ below i }

numbered-twice : (n : ℕ) (f : Forest) → numbered n (numbered n f) ≡ numbered n f
numbered-twice n nothing = refl
numbered-twice n (tree role kind span text marks below id after) =
    let inside = numbered-twice (n + 1) below in
    rw (count-numbered (n + 1) below)
    (let later = numbered-twice (n + 1 + count below) after in
    λ i. tree role kind span text marks (inside i) n (later i))

pub numbered_tree-IsNumbered : (p : Tree) → IsNumbered (numbered_tree p).root
numbered_tree-IsNumbered p =
    let below = numbered-twice 1 p.root.children in
    λ i. record p.root { children = below i; node_id = 0 }

-- what `Program::new` gives has the listing of the tree that it was given
pub made-listed : (result : Result Tree TreeError) (p : Tree) → IfOk result (λ made. made ≡ numbered_tree p) → IfOk result (λ made. listed_program made ≡ listed_program p)
made-listed (Ok made) p is = ap listed_program is ∙ listed-numbered p
made-listed (Err e) p is = tt

pub made-numbered : (result : Result Tree TreeError) (p : Tree) → IfOk result (λ made. made ≡ numbered_tree p) → IfOk result (λ made. IsNumbered made.root)
made-numbered (Ok made) p is = rw is (numbered_tree-IsNumbered p)
made-numbered (Err e) p is = tt

pub made-shaped : (result : Result Tree TreeError) → IfOk result (λ made. first_fault made ≡ None) → IfOk result (λ made. IsShaped made)
made-shaped (Ok made) fits = no_fault-IsShaped made fits
made-shaped (Err e) fits = tt

pub refused-listed : (result : Result Tree TreeError) (p : Tree) → IfErr result (λ e. first_fault (numbered_tree p) ≡ Some e)
    → IfErr result (λ e. (q : Tree) × IsNumbered q.root × (listed_program q ≡ listed_program p) × (first_fault q ≡ Some e))
refused-listed (Ok made) p is = tt
refused-listed (Err e) p is = (numbered_tree p, numbered_tree-IsNumbered p, listed-numbered p, is)
