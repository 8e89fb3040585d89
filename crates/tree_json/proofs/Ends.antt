-- What a reading is, where its bytes are a written form of a program.
use Rattle.std.proofs.Common.{◌≡◌, ◌∙◌, inl, inr, List, ℕ, None, Result, Ok, Err, IfOk, IfErr, Vec, Global, ap, sym}
use Rattle.semantic_tree.specs.Faults.{first_fault}
use Rattle.semantic_tree.specs.Tree.{Tree, IsNumbered}
use Rattle.semantic_tree.specs.declared.error.TreeError.{TreeError}
use Rattle.semantic_tree.specs.declared.error.TreeError.TheVariants.{NotJson, Shape, TooMany, TooDeep, Span, Memory}
use Rattle.tree_json.specs.Outcome.{IsWantOfMemory}
use Rattle.tree_json.specs.Reading.{Listed, listed_program, reading, Refuses}
use Rattle.std.specs.declared.alloc.AllocError.{AllocError}
use Rattle.tree_json.specs.WrittenForm.{AreWrittenForm, IsReadAs}
use Rattle.tree_json.proofs.Finds.{reading-found}
use Rattle.tree_json.proofs.Laws.{listing-injective}

-- numbered programs of one listing are one
listed-same : (p q : Tree) → IsNumbered p.root → IsNumbered q.root → listed_program p ≡ listed_program q → p ≡ q
listed-same p q p_numbered q_numbered h =
    let roots : p.root ≡ q.root = sym p_numbered ∙ listing-injective p.root q.root (ap (λ w. w.lines) h) ∙ q_numbered in
    λ i. record { source = (h i).source; source_type = (h i).source_type; comments = (h i).comments; root = roots i }

-- what is not refused for another cause is refused for want of memory
only_memory : (e : TreeError) → ((¬ IsWantOfMemory e) → ⊥) → IsWantOfMemory e
only_memory NotJson h = h (λ x. x)
only_memory (Shape n) h = h (λ x. x)
only_memory TooMany h = h (λ x. x)
only_memory (TooDeep n) h = h (λ x. x)
only_memory (Span f) h = h (λ x. x)
only_memory (Memory a) h = tt

not_refused : (read : Result Listed TreeError) (p : Tree) (e : TreeError) → read ≡ Ok (listed_program p) → IsNumbered p.root → first_fault p ≡ None → Refuses read e → ⊥
not_refused read p e is numbered sound (inl refused) = absurd (cc)
not_refused read p e is numbered sound (inr (q, q_numbered, says, fault)) =
    let one : listed_program p ≡ listed_program q = cc in
    let same : p ≡ q = listed-same p q numbered q_numbered one in
    let none : first_fault q ≡ None = ap first_fault (sym same) ∙ sound in
    absurd (cc)

pub read-as : (result : Result Tree TreeError) (read : Result Listed TreeError) (p : Tree)
    → IfOk result (λ q. read ≡ Ok (listed_program q)) → IfOk result (λ q. IsNumbered q.root) → IfErr result (λ e. ¬ IsWantOfMemory e → Refuses read e)
    → read ≡ Ok (listed_program p) → IsNumbered p.root → first_fault p ≡ None → IsReadAs p result
read-as (Ok q) read p says q_numbered refused is numbered sound =
    let one : listed_program q ≡ listed_program p = cc in
    listed-same q p q_numbered numbered one
read-as (Err e) read p says q_numbered refused is numbered sound =
    only_memory e (λ other. not_refused read p e is numbered sound (refused other))

pub read-found : (result : Result Tree TreeError) (bytes : List ℕ) → IfOk result (λ p. reading bytes ≡ Ok (listed_program p))
    → IfOk result (λ p. AreWrittenForm bytes p)
read-found (Ok p) bytes says = reading-found bytes p says
read-found (Err e) bytes says = tt

pub written-found : (result : Result (Vec ℕ Global) AllocError) (p : Tree) → IfOk result (λ b. reading b.items ≡ Ok (listed_program p))
    → IfOk result (λ b. AreWrittenForm b.items p)
written-found (Ok b) p says = reading-found b.items p says
written-found (Err e) p says = tt
