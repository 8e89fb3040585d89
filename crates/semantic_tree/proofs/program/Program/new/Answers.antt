use Rattle.std.proofs.Common.{◌≡◌, ℕ, ◌+◌, List, Bool, true, false, ◌||◌, if◌then◌else◌, nat_lt, Option, Some, None, length, refl, ap, sym, ◌∙◌, subst, arith}
use Rattle.std.specs.Str.{encode_utf8_all}
use Rattle.semantic_tree.specs.Children.{node_count, numbered_node}
use Rattle.semantic_tree.specs.Limits.{node_limit, comment_limit, source_limit}
use Rattle.semantic_tree.specs.Tree.{Tree, IsNumbered, numbered_tree}
use Rattle.semantic_tree.specs.Faults.{is_too_large, form_fault, first_fault}
use Rattle.semantic_tree.specs.declared.comment.Comment.{Comment}
use Rattle.semantic_tree.specs.declared.node.Node.{Node}
use Rattle.semantic_tree.specs.declared.error.TreeError.{TreeError}
use Rattle.semantic_tree.specs.declared.error.TreeError.TheVariants.{TooMany}
use Rattle.semantic_tree.specs.KindCounts.{counted}
use Rattle.semantic_tree.proofs.KindCounting.{counts_all}
use Rattle.semantic_tree.proofs.Forests.{count-numbered, numbered_twice}
use Rattle.semantic_tree.proofs.ShapedLaws.{IsShaped-no_fault, small}
use Rattle.semantic_tree.proofs.program.Program.new.Goals as goal

faulty_is_not_faultless : (p : Tree) (fault : TreeError) → first_fault p ≡ None → first_fault p ≡ Some fault → false ≡ true
faulty_is_not_faultless p fault none some = let different : ◌≡◌ {A = Option TreeError} None (Some fault) = sym none ∙ some in cc

count_same : (root numbered : Node) → numbered ≡ numbered_node 0 root → node_count numbered ≡ node_count root
count_same root numbered n = ap node_count n ∙ ap (λ below. below + 1) (count-numbered 1 root.children)

is_numbered : (root numbered : Node) → numbered ≡ numbered_node 0 root → IsNumbered numbered
is_numbered root numbered n = subst IsNumbered (sym n) (ap (λ below. record root { children = below; node_id = 0 }) (numbered_twice 1 1 root.children))

-- a tree is too large once it is numbered where it was before
size_of : (source source' : List ℕ) (comments comments' : List Comment) (root : Node) (large : Bool) → source' ≡ source → comments' ≡ comments → is_too_large source' comments' root ≡ large → is_too_large source comments (numbered_node 0 root) ≡ large
size_of source source' comments comments' root large s k h =
    ap (λ below. nat_lt node_limit (below + 1) || nat_lt comment_limit (length comments) || nat_lt source_limit (length source)) (count-numbered 1 root.children)
    ∙ (λ i. is_too_large (sym s i) (sym k i) root) ∙ h

-- the first fault of a tree that is not too large, once it is numbered
fault_of : (source source' source'' : List ℕ) (comments comments' comments'' : List Comment) (root numbered : Node) (found : Option TreeError) → source' ≡ source → source'' ≡ source → comments' ≡ comments → comments'' ≡ comments → numbered ≡ numbered_node 0 root → is_too_large source' comments' root ≡ false → form_fault source'' comments'' numbered ≡ found
    → (if is_too_large source comments (numbered_node 0 root) then Some TooMany else form_fault source comments (numbered_node 0 root)) ≡ found
fault_of source source' source'' comments comments' comments'' root numbered found s s' k k' n few form =
    ap (λ b. if b then Some TooMany else form_fault source comments (numbered_node 0 root)) (size_of source source' comments comments' root false s k few)
    ∙ (λ i. form_fault (sym s' i) (sym k' i) (sym n i)) ∙ form

pub number-nodes-requires : goal.number-nodes-requires
number-nodes-requires c =
    let (nodes, comments, bytes) = small c.as_str.result.now c.as_slice.result.now c.args.root (sym c.is_too_large.ensures ∙ c.if-is_too_large.false) in
    record { fits = omega (arith, nodes); within = λ k. omega (arith, c.new-kinds.ensures k) }

pub form_fault-requires : goal.form_fault-requires
form_fault-requires c =
    let (nodes, comments, bytes) = small c.as_str.result.now c.as_slice.result.now c.args.root (sym c.is_too_large.ensures ∙ c.if-is_too_large.false) in
    record {
      nodes = omega (arith, nodes, count_same c.args.root c.number-nodes.new.self c.number-nodes.ensures.numbered);
      comments = omega (arith, comments, ap length c.as_slice.ensures.value, ap length c.as_slice-2.ensures.value);
    }

pub returns-then-is_too_large : goal.returns-then-is_too_large
returns-then-is_too_large c =
    let source = encode_utf8_all c.args.source in
    let comments = c.args.comments.items in
    let p : Tree = numbered_tree (record { source = c.args.source; source_type = c.args.source_type; comments = comments; root = c.args.root }) in
    let large = size_of source c.as_str.result.now comments c.as_slice.result.now c.args.root true c.as_str.ensures.bytes c.as_slice.ensures.value (sym c.is_too_large.ensures ∙ c.if-is_too_large.true) in
    let found : first_fault p ≡ Some TooMany = ap (λ b. if b then Some TooMany else form_fault source comments (numbered_node 0 c.args.root)) large in
    record { ok = tt; fits = tt; complete = λ shaped. faulty_is_not_faultless p TooMany (IsShaped-no_fault p shaped) found; err = found }

pub returns-in-Some : goal.returns-in-Some
returns-in-Some c =
    let p : Tree = numbered_tree (record { source = c.args.source; source_type = c.args.source_type; comments = c.args.comments.items; root = c.args.root }) in
    let found : first_fault p ≡ Some c.in-Some.fault =
    fault_of (encode_utf8_all c.args.source) c.as_str.result.now c.as_str-2.result.now c.args.comments.items c.as_slice.result.now c.as_slice-2.result.now c.args.root c.number-nodes.new.self (Some c.in-Some.fault)
    c.as_str.ensures.bytes c.as_str-2.ensures.bytes c.as_slice.ensures.value c.as_slice-2.ensures.value c.number-nodes.ensures.numbered (sym c.is_too_large.ensures ∙ c.if-is_too_large.false) (sym c.in-Some.ensures) in
    record { ok = tt; fits = tt; complete = λ shaped. faulty_is_not_faultless p c.in-Some.fault (IsShaped-no_fault p shaped) found; err = found }

no_fault : (c : goal.In-None) → first_fault (record { source = c.args.source; source_type = c.args.source_type; comments = c.args.comments.items; root = c.number-nodes.new.self }) ≡ None
no_fault c =
    ap (λ root. first_fault (record { source = c.args.source; source_type = c.args.source_type; comments = c.args.comments.items; root = root })) c.number-nodes.ensures.numbered
    ∙ fault_of (encode_utf8_all c.args.source) c.as_str.result.now c.as_str-2.result.now c.args.comments.items c.as_slice.result.now c.as_slice-2.result.now c.args.root c.number-nodes.new.self None
    c.as_str.ensures.bytes c.as_str-2.ensures.bytes c.as_slice.ensures.value c.as_slice-2.ensures.value c.number-nodes.ensures.numbered (sym c.is_too_large.ensures ∙ c.if-is_too_large.false) (sym c.in-None.ensures)

pub returns-in-None : goal.returns-in-None
returns-in-None c = record {
  ok = ap (λ (root : Node). record { source = c.args.source; source_type = c.args.source_type; comments = c.args.comments.items; root = root }) c.number-nodes.ensures.numbered;
  fits = no_fault c;
  complete = λ shaped. refl;
  err = tt;
}

pub invariant_of-result : goal.invariant_of-result
invariant_of-result c = (
  is_numbered c.args.root c.number-nodes.new.self c.number-nodes.ensures.numbered,
  no_fault c,
  omega (arith, c.number-nodes.ensures.next, count_same c.args.root c.number-nodes.new.self c.number-nodes.ensures.numbered),
  λ k. counts_all k c.args.root c.number-nodes.new.self (counted c.new-kinds.result k) (counted c.number-nodes.new.kinds k) c.number-nodes.ensures.numbered (c.new-kinds.ensures k) (c.number-nodes.ensures.kinds k),
)
