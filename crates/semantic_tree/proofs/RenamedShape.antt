-- A program with other names is numbered and shaped as it was.
use Rattle.std.proofs.Common.{◌≡◌, ℕ, zero, suc, ◌+◌, ◌==◌, List, [], ◌∷◌, ◌++◌, Bool, true, false, ◌&&◌, ◌||◌, not, if◌then◌else◌, nat_lt, Some, option_map, length, take, drop, map, codes, refl, ap, sym, ◌∙◌, arith}
use Rattle.std.specs.Str.{bytes_eq, encode_utf8_all}
use Rattle.std.proofs.lemmas.List.{length-map}
use Rattle.semantic_kinds.specs.Roles.{same_role}
use Rattle.semantic_kinds.specs.Parts.{parts}
use Rattle.semantic_kinds.specs.declared.kind.AstType.{AstType}
use Rattle.semantic_kinds.specs.declared.kind.AstType.TheVariants as kinds
use Rattle.semantic_kinds.specs.declared.role.Role.{Role}
use Rattle.semantic_kinds.specs.declared.role.Role.TheVariants as roles
use Rattle.semantic_kinds.specs.declared.class.Class.{Class}
use Rattle.semantic_kinds.specs.declared.part.Part.{Part}
use Rattle.semantic_tree.specs.Forest.{Forest, nothing, tree, count, numbered}
use Rattle.semantic_tree.specs.Children.{numbered_node}
use Rattle.semantic_tree.specs.Limits.{node_limit, comment_limit, source_limit}
use Rattle.semantic_tree.specs.Nodes.{trees, nodes_in}
use Rattle.semantic_tree.specs.Tree.{Tree, IsNumbered}
use Rattle.semantic_tree.specs.Place.{root_place, child_place, placed_below, all_placed}
use Rattle.semantic_tree.specs.Fit.{allows, lead, all_of, is_run, fit}
use Rattle.semantic_tree.specs.Rules.{is_method_value, is_member_name, number_in, stands, keeps_table}
use Rattle.semantic_tree.specs.Sound.{shows_sign}
use Rattle.semantic_tree.specs.Faults.{first_where, is_too_deep, is_misshapen, has_bad_span, first_bad_comment, or_fault, form_fault, first_fault}
use Rattle.semantic_tree.specs.Renamed.{renamed_text, setting_below, renamed, renamed_node, renamed_tree}
use Rattle.semantic_tree.specs.declared.node.Node.{Node}
use Rattle.semantic_tree.specs.declared.place.Place.{Place}
use Rattle.semantic_tree.specs.declared.swap.Setting.{Setting}
use Rattle.semantic_tree.specs.declared.swap.Setting.TheVariants.{Elsewhere}
use Rattle.semantic_tree.specs.declared.error.TreeError.TheVariants.{Shape, TooMany, TooDeep, Span}
use Rattle.semantic_tree.specs.declared.error.SpanFault.TheVariants as span
use Rattle.semantic_tree.proofs.Faults.{or_else, first_where-append}
use Rattle.semantic_tree.proofs.RenamedKinds.{KeepsEmpty, text_kept, class_kept, function_unnamed}

-- ---- numbers

pub count-renamed : (f : List ℕ → List ℕ) (s : Setting) (t : Forest) → count (renamed f s t) ≡ count t
count-renamed f s nothing = refl
count-renamed f s (tree role kind span text marks below id after) =
    omega (arith, count-renamed f (setting_below s role kind) below, count-renamed f s after)

numbered-renamed : (f : List ℕ → List ℕ) (s : Setting) (n : ℕ) (t : Forest) → numbered n (renamed f s t) ≡ renamed f s (numbered n t)
numbered-renamed f s n nothing = refl
numbered-renamed f s n (tree role kind span text marks below id after) =
    rw (count-renamed f (setting_below s role kind) below, numbered-renamed f (setting_below s role kind) (n + 1) below, numbered-renamed f s (n + 1 + count below) after) refl

pub numbers_kept : (f : List ℕ → List ℕ) (s : Setting) (role : Role) (node : Node) → IsNumbered node → IsNumbered (renamed_node f s role node)
numbers_kept f s role node h =
    let moved : numbered_node 0 (renamed_node f s role node) ≡ renamed_node f s role (numbered_node 0 node) =
    ap (λ (below : Forest). record node { text = renamed_text f s role node.kind node.text; children = below; node_id = 0 }) (numbered-renamed f (setting_below s role node.kind) 1 node.children) in
    moved ∙ ap (renamed_node f s role) h

-- ---- the children of a node

abbrev Child : Type 0
Child = Role × Node

abbrev other : (List ℕ → List ℕ) → Setting → Child → Child
other f s child = (child.0, renamed_node f s child.0 child.1)

trees-renamed : (f : List ℕ → List ℕ) (s : Setting) (t : Forest) → trees (renamed f s t) ≡ map (other f s) (trees t)
trees-renamed f s nothing = refl
trees-renamed f s (tree role kind span text marks below id after) =
    ap (λ (rest : List Child). (role, renamed_node f s role (record { kind = kind; span = span; text = text; marks = marks; children = below; node_id = id })) ∷ rest) (trees-renamed f s after)

lead-renamed : (f : List ℕ → List ℕ) (s : Setting) (role : Role) (cs : List Child) → lead role (map (other f s) cs) ≡ lead role cs
lead-renamed f s role [] = refl
lead-renamed f s role (c ∷ cs) = ap (λ n. if same_role c.0 role then n + 1 else 0) (lead-renamed f s role cs)

take-renamed : (f : List ℕ → List ℕ) (s : Setting) (n : ℕ) (cs : List Child) → take n (map (other f s) cs) ≡ map (other f s) (take n cs)
take-renamed f s zero cs = refl
take-renamed f s (suc n) [] = refl
take-renamed f s (suc n) (c ∷ cs) = ap (λ (rest : List Child). other f s c ∷ rest) (take-renamed f s n cs)

drop-renamed : (f : List ℕ → List ℕ) (s : Setting) (n : ℕ) (cs : List Child) → drop n (map (other f s) cs) ≡ map (other f s) (drop n cs)
drop-renamed f s zero cs = refl
drop-renamed f s (suc n) [] = refl
drop-renamed f s (suc n) (c ∷ cs) = drop-renamed f s n cs

both : {a a' b b' : Bool} → a ≡ a' → b ≡ b' → a && b ≡ a' && b'
both p q = λ i. p i && q i

all_of-renamed : (f : List ℕ → List ℕ) (s : Setting) (class : Class) (cs : List Child) → all_of class (map (other f s) cs) ≡ all_of class cs
all_of-renamed f s class [] = refl
all_of-renamed f s class (c ∷ cs) = both (class_kept f class c.1.text s c.0 c.1.kind) (all_of-renamed f s class cs)

run-renamed : (f : List ℕ → List ℕ) (s : Setting) (part : Part) (own : List Child) → is_run part (map (other f s) own) ≡ is_run part own
run-renamed f s part own = both (ap (allows part.count) (length-map own (other f s))) (all_of-renamed f s part.class own)

fit-renamed : (f : List ℕ → List ℕ) (s : Setting) (ps : List Part) (cs : List Child) → fit ps (map (other f s) cs) ≡ fit ps cs
fit-renamed f s [] cs = ap (λ n. n == 0) (length-map cs (other f s))
fit-renamed f s (p ∷ ps) cs =
    let n = lead p.role cs in
    ap (λ k. is_run p (take k (map (other f s) cs)) && fit ps (drop k (map (other f s) cs))) (lead-renamed f s p.role cs)
    ∙ both (ap (is_run p) (take-renamed f s n cs) ∙ run-renamed f s p (take n cs)) (ap (fit ps) (drop-renamed f s n cs) ∙ fit-renamed f s ps (drop n cs))

in_role-renamed : (f : List ℕ → List ℕ) (s : Setting) (role : Role) (cs : List Child) → length (nodes_in role (map (other f s) cs)) ≡ length (nodes_in role cs)
in_role-renamed f s role [] = refl
in_role-renamed f s role (c ∷ cs) =
    elim (same_role c.0 role) as (λ b. length (if b then renamed_node f s c.0 c.1 ∷ nodes_in role (map (other f s) cs) else nodes_in role (map (other f s) cs)) ≡ length (if b then c.1 ∷ nodes_in role cs else nodes_in role cs)) [
      | true ↦ ap (λ n. suc n) (in_role-renamed f s role cs)
      | false ↦ in_role-renamed f s role cs
    ]

number_kept : (f : List ℕ → List ℕ) (s : Setting) (r role : Role) (node : Node) → number_in role (renamed_node f s r node) ≡ number_in role node
number_kept f s r role node =
    ap (λ cs. length (nodes_in role cs)) (trees-renamed f (setting_below s r node.kind) node.children) ∙ in_role-renamed f (setting_below s r node.kind) role (trees node.children)

-- ---- the rules of single kinds

function_text : (f : List ℕ → List ℕ) (s : Setting) (r : Role) (node : Node) → kinds.Function ≡ node.kind → renamed_text f s r node.kind node.text ≡ node.text
function_text f s r node e = ap (λ k. renamed_text f s r k node.text) (sym e) ∙ ap (λ b. if b then f node.text else node.text) (function_unnamed s r)

stands_kept : (f : List ℕ → List ℕ) (s : Setting) (r : Role) (place : Place) (node : Node) (k : AstType) → k ≡ node.kind → stands place k (renamed_node f s r node) ≡ stands place k node
stands_kept f s r place node kinds.Function e =
    let test : List ℕ → ℕ → Bool = λ text ids. if bytes_eq text (codes "ts-empty-body") then is_method_value place && ids == 0 else not (is_method_value place) || bytes_eq text (codes "expression") in
    λ i. test (function_text f s r node e i) (number_kept f s r roles.Id node i)
stands_kept f s r place node kinds.Class e = λ i. (number_kept f s r roles.TypeArguments node i == 0) || not (number_kept f s r roles.Heritage node i == 0)
stands_kept f s r place node kinds.NumericLiteral e = refl
stands_kept f s r place node kinds.TemplateLiteral e =
    λ i. (number_kept f s r roles.Quasis node i == number_kept f s r roles.Expressions node i + 1) && (not (is_member_name place) || number_kept f s r roles.Expressions node i == 0)
stands_kept f s r place node kinds.TSTemplateLiteralType e = λ i. number_kept f s r roles.Quasis node i == number_kept f s r roles.Types node i + 1
stands_kept f s r place node _ e = refl

table_kept : (f : List ℕ → List ℕ) → KeepsEmpty f → (s : Setting) (r : Role) (node : Node) → keeps_table (renamed_node f s r node) ≡ keeps_table node
table_kept f keeps s r node =
    both (both (text_kept f keeps node.text s r node.kind) refl)
    (ap (fit (parts node.kind)) (trees-renamed f (setting_below s r node.kind) node.children) ∙ fit-renamed f (setting_below s r node.kind) (parts node.kind) (trees node.children))

form_kept : (f : List ℕ → List ℕ) → KeepsEmpty f → (place : Place) (s : Setting) (node : Node) → is_misshapen place (renamed_node f s place.role node) ≡ is_misshapen place node
form_kept f keeps place s node =
    ap not (both (both (both refl (table_kept f keeps s place.role node)) (stands_kept f s place.role place node node.kind refl)) refl)

sign_kept : (source : List ℕ) (f : List ℕ → List ℕ) (s : Setting) (r : Role) (node : Node) (k : AstType) → shows_sign source k (renamed_node f s r node) ≡ shows_sign source k node
sign_kept source f s r node kinds.JSDocNullableType = refl
sign_kept source f s r node kinds.JSDocNonNullableType = refl
sign_kept source f s r node _ = refl

span_kept : (source : List ℕ) (f : List ℕ → List ℕ) (place : Place) (s : Setting) (node : Node) → has_bad_span source place (renamed_node f s place.role node) ≡ has_bad_span source place node
span_kept source f place s node = ap not (both refl (sign_kept source f s place.role node node.kind))

-- ---- the first node that passes a test that names do not change

abbrev Agrees : (List ℕ → List ℕ) → (Place → Node → Bool) → Type 0
Agrees f test = (place : Place) (s : Setting) (node : Node) → test place (renamed_node f s place.role node) ≡ test place node

first_below : (f : List ℕ → List ℕ) (test : Place → Node → Bool) → Agrees f test → (place : Place) (kind : AstType) (s : Setting) (t : Forest) → first_where test (placed_below place kind (renamed f s t)) ≡ first_where test (placed_below place kind t)
first_below f test agrees place kind s nothing = refl
first_below f test agrees place kind s (tree role k span text marks below id after) =
    let node : Node = record { kind = k; span = span; text = text; marks = marks; children = below; node_id = id } in
    let here = child_place place kind role in
    let inner = setting_below s role k in
    let rest : first_where test (placed_below here k (renamed f inner below) ++ placed_below place kind (renamed f s after)) ≡ first_where test (placed_below here k below ++ placed_below place kind after) =
    first_where-append test (placed_below here k (renamed f inner below)) (placed_below place kind (renamed f s after))
    ∙ (λ i. or_else (first_below f test agrees here k inner below i) (first_below f test agrees place kind s after i))
    ∙ sym (first_where-append test (placed_below here k below) (placed_below place kind after)) in
    λ i. if agrees here s node i then Some id else rest i

first_kept : (f : List ℕ → List ℕ) (test : Place → Node → Bool) → Agrees f test → (root : Node) → first_where test (all_placed (renamed_node f Elsewhere roles.Root root)) ≡ first_where test (all_placed root)
first_kept f test agrees root =
    λ i. if agrees root_place Elsewhere root i then Some root.node_id else first_below f test agrees root_place root.kind (setting_below Elsewhere roles.Root root.kind) root.children i

form_fault_kept : (f : List ℕ → List ℕ) → KeepsEmpty f → (p : Tree) → form_fault (encode_utf8_all p.source) p.comments (renamed_node f Elsewhere roles.Root p.root) ≡ form_fault (encode_utf8_all p.source) p.comments p.root
form_fault_kept f keeps p =
    let source = encode_utf8_all p.source in
    let deep = first_kept f is_too_deep (λ place s node. refl) p.root in
    let shape = first_kept f is_misshapen (form_kept f keeps) p.root in
    let spans = first_kept f (has_bad_span source) (span_kept source f) p.root in
    λ i. or_fault (option_map (λ id. TooDeep id) (deep i))
    (or_fault (option_map (λ id. Shape (Some id)) (shape i))
    (or_fault (option_map (λ id. Span (span.Node id)) (spans i))
    (option_map (λ n. Span (span.Comment n)) (first_bad_comment source 0 0 p.comments))))

-- other names make no fault
pub faults_kept : (f : List ℕ → List ℕ) → KeepsEmpty f → (p : Tree) → first_fault (renamed_tree f p) ≡ first_fault p
faults_kept f keeps p =
    let source = encode_utf8_all p.source in
    let counts = count-renamed f (setting_below Elsewhere roles.Root p.root.kind) p.root.children in
    λ i. if nat_lt node_limit (counts i + 1) || nat_lt comment_limit (length p.comments) || nat_lt source_limit (length source) then Some TooMany else form_fault_kept f keeps p i
