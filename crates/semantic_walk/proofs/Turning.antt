-- The way to the node that is visited, as nodes are entered and left.
use Rattle.std.proofs.Common.{◌≡◌, ◌-◌, List, [], ◌∷◌, ◌++◌, slice_get, Bool, true, false, Option, Some, None, cond, length, map, filter, option_map, reverse, drop, take, refl, sym, ap, ◌∙◌, arith, length-append, append_assoc}
use Rattle.std.proofs.lemmas.List.{reverse-append}
use Rattle.std.proofs.Math.Seq.{take-append_seam}
use Rattle.semantic_kinds.specs.declared.kind.AstType.TheVariants as kind
use Rattle.semantic_tree.specs.BoundNames.{is_simple_parameter_list}
use Rattle.semantic_tree.specs.ChildIter.{shown}
use Rattle.semantic_tree.specs.Nodes.{first_of}
use Rattle.semantic_tree.specs.Views.{is}
use Rattle.semantic_tree.specs.declared.node.Node.{Node}
use Rattle.semantic_tree.specs.declared.view.AstKind.{AstKind}
use Rattle.node_rules.specs.Seen.{parent_path}
use Rattle.semantic_walk.specs.Paths.{parent_in, ends_with_list, lists_simple}

with_first : (path : List Node) (node : Node) → reverse (node ∷ path) ≡ reverse path ++ node ∷ []
with_first path node = reverse-append (node ∷ []) path

without_last : {X : Type 0} (xs : List X) (x : X) → take (length (xs ++ x ∷ []) - 1) (xs ++ x ∷ []) ≡ xs
without_last xs x =
    let counted = length-append xs (x ∷ []) in
    let short : length (xs ++ x ∷ []) - 1 ≡ length xs = omega arith in
    ap (λ n. take n (xs ++ x ∷ [])) short ∙ take-append_seam xs (x ∷ [])

-- a node is entered

lists-append : (xs ys : List Node) → lists_simple (xs ++ ys) ≡ lists_simple xs ++ lists_simple ys
lists-append [] ys = refl
lists-append (x ∷ xs) ys = by (is kind.FormalParameters x) (lists-append xs ys)
  where
    by : (b : Bool) → lists_simple (xs ++ ys) ≡ lists_simple xs ++ lists_simple ys
        → map is_simple_parameter_list (cond b (x ∷ filter (is kind.FormalParameters) (xs ++ ys)) (filter (is kind.FormalParameters) (xs ++ ys))) ≡ map is_simple_parameter_list (cond b (x ∷ filter (is kind.FormalParameters) xs) (filter (is kind.FormalParameters) xs)) ++ lists_simple ys
    by true rest = ap (λ bs. is_simple_parameter_list x ∷ bs) rest
    by false rest = rest

one_list : (x : Node) → is kind.FormalParameters x ≡ true → lists_simple (x ∷ []) ≡ is_simple_parameter_list x ∷ []
one_list x h = rw h refl

no_list : (x : Node) → is kind.FormalParameters x ≡ false → lists_simple (x ∷ []) ≡ []
no_list x h = rw h refl

pub list_on : (bs : List Bool) (path : List Node) (node : Node) → bs ≡ lists_simple (reverse path) → is kind.FormalParameters node ≡ true → bs ++ is_simple_parameter_list node ∷ [] ≡ lists_simple (reverse (node ∷ path))
list_on bs path node h list =
    ap (λ cs. cs ++ is_simple_parameter_list node ∷ []) h ∙ ap (λ cs. lists_simple (reverse path) ++ cs) (sym (one_list node list))
    ∙ sym (lists-append (reverse path) (node ∷ [])) ∙ ap lists_simple (sym (with_first path node))

append-empty : (bs : List Bool) → bs ++ [] ≡ bs
append-empty [] = refl
append-empty (b ∷ bs) = ap (λ cs. b ∷ cs) (append-empty bs)

pub other_on : (bs : List Bool) (path : List Node) (node : Node) → bs ≡ lists_simple (reverse path) → is kind.FormalParameters node ≡ false → bs ≡ lists_simple (reverse (node ∷ path))
other_on bs path node h other =
    h ∙ sym (append-empty (lists_simple (reverse path))) ∙ ap (λ cs. lists_simple (reverse path) ++ cs) (sym (no_list node other))
    ∙ sym (lists-append (reverse path) (node ∷ [])) ∙ ap lists_simple (sym (with_first path node))

-- and left

last_list : (xs : List Node) (x : Node) → ends_with_list (xs ++ x ∷ []) ≡ is kind.FormalParameters x
last_list [] x = refl
last_list (a ∷ []) x = refl
last_list (a ∷ b ∷ xs) x = last_list (b ∷ xs) x

abbrev pub is_list : Option Node → Bool
is_list None = false
is_list (Some x) = is kind.FormalParameters x

-- the last node is the first of the stack
pub ends_by : (path : List Node) → ends_with_list (reverse path) ≡ is_list (first_of path)
ends_by [] = refl
ends_by (node ∷ path) = ap ends_with_list (with_first path node) ∙ last_list (reverse path) node

-- the parent stands second

second_last : (xs : List Node) (y x : Node) → parent_in (xs ++ y ∷ x ∷ []) ≡ y ∷ []
second_last [] y x = refl
second_last (a ∷ []) y x = refl
second_last (a ∷ b ∷ []) y x = refl
second_last (a ∷ b ∷ d ∷ xs) y x = second_last (b ∷ d ∷ xs) y x

two_first : (x y : Node) (path : List Node) → reverse (x ∷ y ∷ path) ≡ reverse path ++ y ∷ x ∷ []
two_first x y path = with_first (y ∷ path) x ∙ ap (λ (l : List Node). l ++ x ∷ []) (with_first path y) ∙ append_assoc (reverse path) (y ∷ []) (x ∷ [])

second : (x y : Node) (path : List Node) → parent_in (reverse (x ∷ y ∷ path)) ≡ y ∷ []
second x y path = ap parent_in (two_first x y path) ∙ second_last (reverse path) y x

pub parent_is : (parent : Option AstKind) (path : List Node) → option_map shown parent ≡ first_of (drop 1 path) → parent_path parent ≡ parent_in (reverse path)
parent_is None [] h = refl
parent_is None (x ∷ []) h = refl
parent_is None (x ∷ y ∷ path) h = absurd cc
parent_is (Some k) [] h = absurd cc
parent_is (Some k) (x ∷ []) h = absurd cc
parent_is (Some k) (x ∷ y ∷ path) h = ap (λ n. n ∷ []) (node_is h) ∙ sym (second x y path)
  where
    node_is : Some (shown k) ≡ Some y → shown k ≡ y
    node_is e = cc

-- where the last node is none, the last list is the parent

last_of : (bs : List Bool) (b : Bool) → slice_get (bs ++ b ∷ []) (length (bs ++ b ∷ []) - 1) ≡ Some b
last_of bs b = ap (slice_get (bs ++ b ∷ [])) (let counted = length-append bs (b ∷ []) in omega arith) ∙ at_seam bs
  where
    at_seam : (cs : List Bool) → slice_get (cs ++ b ∷ []) (length cs) ≡ Some b
    at_seam [] = refl
    at_seam (c ∷ cs) = at_seam cs

same_bool : (b c : Bool) → Some b ≡ Some c → b ≡ c
same_bool b c h = cc

same_node : (x y : Node) → x ∷ [] ≡ y ∷ [] → x ≡ y
same_node x y h = cc

pub in_simple : (bs : List Bool) (path : List Node) (list : Node) (b : Bool) → bs ≡ lists_simple (reverse path) → list ∷ [] ≡ parent_in (reverse path) → is kind.FormalParameters list ≡ true
    → ends_with_list (reverse path) ≡ false → slice_get bs (length bs - 1) ≡ Some b → b ≡ is_simple_parameter_list list
in_simple bs [] list b h parent k other last = absurd cc
in_simple bs (x ∷ []) list b h parent k other last = absurd cc
in_simple bs (x ∷ y ∷ path) list b h parent k other last =
    let list_is : list ≡ y = same_node list y (parent ∙ second x y path) in
    let no : is kind.FormalParameters x ≡ false = sym (ends_by (x ∷ y ∷ path)) ∙ other in
    let yes : is kind.FormalParameters y ≡ true = sym (ap (is kind.FormalParameters) list_is) ∙ k in
    let whole : bs ≡ lists_simple (reverse path) ++ is_simple_parameter_list y ∷ [] =
    h ∙ sym (other_on (lists_simple (reverse (y ∷ path))) (y ∷ path) x refl no) ∙ sym (list_on (lists_simple (reverse path)) path y refl yes) in
    same_bool b (is_simple_parameter_list y) (sym last ∙ ap (λ (cs : List Bool). slice_get cs (length cs - 1)) whole ∙ last_of (lists_simple (reverse path)) (is_simple_parameter_list y))
    ∙ ap is_simple_parameter_list (sym list_is)

-- leaving

pub list_back : (bs : List Bool) (path : List Node) → bs ≡ lists_simple (reverse path) → ends_with_list (reverse path) ≡ true → take (length bs - 1) bs ≡ lists_simple (reverse (drop 1 path))
list_back bs [] h k = absurd cc
list_back bs (x ∷ path) h k =
    let whole : bs ≡ lists_simple (reverse path) ++ is_simple_parameter_list x ∷ [] = h ∙ sym (list_on (lists_simple (reverse path)) path x refl (sym (ends_by (x ∷ path)) ∙ k)) in
    ap (λ (cs : List Bool). take (length cs - 1) cs) whole ∙ without_last (lists_simple (reverse path)) (is_simple_parameter_list x)

pub other_back : (bs : List Bool) (path : List Node) → bs ≡ lists_simple (reverse path) → ends_with_list (reverse path) ≡ false → bs ≡ lists_simple (reverse (drop 1 path))
other_back bs [] h k = h
other_back bs (x ∷ path) h k = h ∙ sym (other_on (lists_simple (reverse path)) path x refl (sym (ends_by (x ∷ path)) ∙ k))

pub forgotten : (bs : List Bool) (path : List Node) (b : Bool) → bs ≡ lists_simple (reverse path) → b ≡ ends_with_list (reverse path) → cond b (take (length bs - 1) bs) bs ≡ lists_simple (reverse (drop 1 path))
forgotten bs path true h e = list_back bs path h (sym e)
forgotten bs path false h e = other_back bs path h (sym e)
