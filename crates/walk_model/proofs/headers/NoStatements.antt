-- What stands in a header holds no statements but in functions and static blocks.
use Rattle.std.proofs.Common.{◌≡◌, ℕ, List, [], ◌∷◌, Bool, true, false, not, ◌&&◌, ◌||◌, None, ◌⊎◌, inl, inr, refl, sym, ap, subst, ◌∙◌, bytes_eq, codes}
use Rattle.std.specs.List.{list_all, list_any}
use Rattle.std.proofs.lemmas.Bool.{cases_Bool}
use Rattle.std.proofs.lemmas.Slice.Eq.{bytes_eq-Decides}
use Rattle.semantic_syntax.proofs.Truth.{and_first, and_second}
use Rattle.semantic_kinds.specs.Kinds.{same_kind}
use Rattle.semantic_kinds.specs.Roles.{same_role}
use Rattle.semantic_kinds.specs.Classes.{is_of, holds_kind}
use Rattle.semantic_kinds.specs.Parts.{parts}
use Rattle.semantic_kinds.specs.declared.kind.AstType.{AstType}
use Rattle.semantic_kinds.specs.declared.kind.AstType.TheVariants as kind
use Rattle.semantic_kinds.specs.declared.role.Role.{Role}
use Rattle.semantic_kinds.specs.declared.role.Role.TheVariants as role
use Rattle.semantic_kinds.specs.declared.class.Class.{Class}
use Rattle.semantic_kinds.specs.declared.class.Class.TheVariants as class
use Rattle.semantic_kinds.specs.declared.part.Part.{Part}
use Rattle.semantic_tree.specs.Tree.{Tree}
use Rattle.semantic_tree.specs.Faults.{first_fault}
use Rattle.semantic_tree.specs.Place.{child_place}
use Rattle.semantic_tree.specs.Rules.{stands, function_stands}
use Rattle.semantic_tree.specs.declared.node.Node.{Node}
use Rattle.semantic_tree.specs.declared.place.Place.{Place}
use Rattle.semantic_model.specs.Inside.{is_in_header, is_parameter_decorator}
use Rattle.semantic_model.proofs.form.Clauses.{kind_is}
use Rattle.walk_model.proofs.places.Shapes.{HoldsPart, HoldParts, holds_below, tree_holds, tree_stands, only_is, is_only, only_holds}

-- kinds that hold statements, or declare by `var`
abbrev pub loose_kinds : List AstType
loose_kinds = kind.Program ∷ kind.FunctionBody ∷ kind.SwitchCase ∷ kind.CatchClause ∷ kind.BlockStatement ∷ kind.IfStatement ∷ kind.DoWhileStatement ∷ kind.WhileStatement ∷ kind.ForStatement ∷ kind.ForInStatement ∷ kind.ForOfStatement ∷ kind.WithStatement ∷ kind.SwitchStatement ∷ kind.LabeledStatement ∷ kind.TryStatement ∷ kind.VariableDeclaration ∷ kind.VariableDeclarator ∷ kind.TSModuleBlock ∷ kind.TSExternalModuleDeclaration ∷ kind.TSNamespaceDeclaration ∷ kind.TSGlobalDeclaration ∷ kind.ExportDeclaration ∷ kind.ExportDefaultDeclaration ∷ []

abbrev pub is_loose : AstType → Bool
is_loose k = holds_kind loose_kinds k

-- the text of a function as a statement
abbrev pub is_statement_text : List ℕ → Bool
is_statement_text text = bytes_eq text (codes "declaration") || bytes_eq text (codes "ts-declare")

-- a node that holds no statement, and is none that moves
abbrev pub is_closed : AstType → List ℕ → Bool
is_closed k text = not (is_loose k) && not (same_kind k kind.Function && is_statement_text text)

-- a node whose scope ends the way of a `var`
abbrev pub is_bound : AstType → Bool
is_bound k = holds_kind (kind.Function ∷ kind.ArrowFunctionExpression ∷ kind.StaticBlock ∷ []) k

-- a child that must be closed
abbrev pub asks_closed : AstType → Role → Bool
asks_closed k r =
    (not (is_loose k) && not (is_bound k)) || is_in_header k r || (same_kind k kind.Function && same_role r role.Id) || is_parameter_decorator k r

abbrev pub is_value_function : AstType → Role → AstType → Bool
is_value_function k r k2 = same_kind k kind.MethodDefinition && same_role r role.Value && same_kind k2 kind.Function

-- it is, or is a method's function
abbrev pub closed_by_table : AstType → Role → AstType → List ℕ → Bool
closed_by_table k r k2 text = not (asks_closed k r) || (is_closed k2 text || is_value_function k r k2)

-- a method's function is no statement
abbrev pub closed_by_place : AstType → Role → AstType → List ℕ → Bool
closed_by_place k r k2 text = not (is_value_function k r k2) || not (is_statement_text text)

abbrev is_open_class : Class → Bool
is_open_class class.Statement = true
is_open_class class.Declaration = true
is_open_class class.ForInit = true
is_open_class class.LoopLeft = true
is_open_class class.DefaultExport = true
is_open_class class.ArrowBody = true
is_open_class class.NamespaceBody = true
is_open_class (class.Only k) = is_loose k || same_kind k kind.Function
is_open_class _ = false

not_any : (k k2 : AstType) → (is_loose k || same_kind k kind.Function) ≡ false → same_kind k2 k ≡ true → is_loose k2 ≡ true → ⊥
not_any k k2 e h l =
    let q : k2 ≡ k = kind_is k2 k h in
    let w : is_loose k ≡ true = subst (λ m. is_loose m ≡ true) q l in
    let v : true ≡ false = sym (ap (λ b. b || same_kind k kind.Function) w) ∙ e in absurd cc

-- no loose kind is of such a class
none_loose : (c : Class) → is_open_class c ≡ false → (text : List ℕ) → (list_all (λ k2. not (is_of c k2 text)) loose_kinds ≡ true) ⊎ ((k : AstType) × (c ≡ class.Only k))
none_loose class.Statement e text = absurd cc
none_loose class.Declaration e text = absurd cc
none_loose class.ForInit e text = absurd cc
none_loose class.LoopLeft e text = absurd cc
none_loose class.DefaultExport e text = absurd cc
none_loose class.ArrowBody e text = absurd cc
none_loose class.NamespaceBody e text = absurd cc
none_loose (class.Only k) e text = inr (k, refl)
none_loose _ e text = inl refl

each_of : (f : AstType → Bool) (ks : List AstType) (k2 : AstType) → list_all f ks ≡ true → list_any (λ k. same_kind k k2) ks ≡ true → f k2 ≡ true
each_of f [] k2 h a = absurd cc
each_of f (k ∷ ks) k2 h a = elim (cases_Bool (same_kind k k2)) [
  | inl e ↦ subst (λ m. f m ≡ true) (kind_is k k2 e) (and_first (f k) (list_all f ks) h)
  | inr e ↦ each_of f ks k2 (and_second (f k) (list_all f ks) h) (rw e at a)
]

not_loose : (c : Class) (k2 : AstType) (text : List ℕ) → is_open_class c ≡ false → is_of c k2 text ≡ true → is_loose k2 ≡ false
not_loose c k2 text e h = elim (cases_Bool (is_loose k2)) [
  | inr q ↦ q
  | inl q ↦ elim (none_loose c e text) [
    | inl a ↦ (let w : not (is_of c k2 text) ≡ true = each_of (λ k. not (is_of c k text)) loose_kinds k2 a q in let v : false ≡ true = sym (ap not h) ∙ w in absurd cc)
    | inr o ↦ absurd (not_any o.0 k2 (subst (λ d. is_open_class d ≡ false) o.1 e) (sym (only_is o.0 k2 text) ∙ subst (λ d. is_of d k2 text ≡ true) o.1 h) q)
  ]
]

-- a function of such a class is an expression
function_text : (c : Class) → is_open_class c ≡ false → (text : List ℕ) → is_of c kind.Function text ≡ true → bytes_eq text (codes "expression") ≡ true
function_text class.Statement e text h = absurd cc
function_text class.Declaration e text h = absurd cc
function_text class.ForInit e text h = absurd cc
function_text class.LoopLeft e text h = absurd cc
function_text class.DefaultExport e text h = absurd cc
function_text class.ArrowBody e text h = absurd cc
function_text class.NamespaceBody e text h = absurd cc
function_text (class.Only k) e text h = let q : k ≡ kind.Function = sym (kind_is kind.Function k (sym (only_is k kind.Function text) ∙ h)) in let w : true ≡ false = subst (λ m. (is_loose m || same_kind m kind.Function) ≡ false) q e in absurd cc
function_text class.Expression e text h = elim (cases_Bool (bytes_eq text (codes "expression"))) [ inl q ↦ q | inr q ↦ (let w : false ≡ true = rw q at h in absurd cc) ]
function_text class.Key e text h = elim (cases_Bool (bytes_eq text (codes "expression"))) [ inl q ↦ q | inr q ↦ (let w : false ≡ true = rw q at h in absurd cc) ]
function_text class.ArrayItem e text h = elim (cases_Bool (bytes_eq text (codes "expression"))) [ inl q ↦ q | inr q ↦ (let w : false ≡ true = rw q at h in absurd cc) ]
function_text class.Argument e text h = elim (cases_Bool (bytes_eq text (codes "expression"))) [ inl q ↦ q | inr q ↦ (let w : false ≡ true = rw q at h in absurd cc) ]
function_text class.Callee e text h = elim (cases_Bool (bytes_eq text (codes "expression"))) [ inl q ↦ q | inr q ↦ (let w : false ≡ true = rw q at h in absurd cc) ]
function_text class.JsxContent e text h = elim (cases_Bool (bytes_eq text (codes "expression"))) [ inl q ↦ q | inr q ↦ (let w : false ≡ true = rw q at h in absurd cc) ]
function_text _ e text h = absurd cc

expression_is_none : (text : List ℕ) → bytes_eq text (codes "expression") ≡ true → is_statement_text text ≡ false
expression_is_none text h = let q : text ≡ codes "expression" = (bytes_eq-Decides text (codes "expression")).0 h in rw q refl

closed_of : (c : Class) (k2 : AstType) (text : List ℕ) → is_open_class c ≡ false → is_of c k2 text ≡ true → is_closed k2 text ≡ true
closed_of c k2 text e h = rw (not_loose c k2 text e h) (elim (cases_Bool (same_kind k2 kind.Function)) [
  | inr q ↦ rw q refl
  | inl q ↦ (let i : is_of c kind.Function text ≡ true = subst (λ k. is_of c k text ≡ true) (kind_is k2 kind.Function q) h in
      rw (q, expression_is_none text (function_text c e text i)) refl)
])

abbrev is_function : AstType → Bool
is_function k = same_kind k kind.Function

part_closes : AstType → Part → Bool
part_closes k part = not (asks_closed k part.role) || (not (is_open_class part.class) || (same_kind k kind.MethodDefinition && same_role part.role role.Value && is_only is_function part.class))

all_close : (k : AstType) → list_all (part_closes k) (parts k) ≡ true
unfolding part_closes
all_close kind.Program = refl
all_close _ = refl

part_holds : (k : AstType) (part : Part) → part_closes k part ≡ true → HoldsPart closed_by_table k part
unfolding part_closes
part_holds k part e k2 text h = by (asks_closed k part.role) (is_open_class part.class) refl e
  where
    by : (a o : Bool) → is_open_class part.class ≡ o → (not a || (not o || (same_kind k kind.MethodDefinition && same_role part.role role.Value && is_only is_function part.class))) ≡ true
        → (not a || (is_closed k2 text || is_value_function k part.role k2)) ≡ true
    by false o q w = refl
    by true false q w = rw (closed_of part.class k2 text q h) refl
    by true true q w =
        let method : (same_kind k kind.MethodDefinition && same_role part.role role.Value) ≡ true = and_first (same_kind k kind.MethodDefinition && same_role part.role role.Value) (is_only is_function part.class) w in
        let f : same_kind k2 kind.Function ≡ true = only_holds is_function part.class k2 text (and_second (same_kind k kind.MethodDefinition && same_role part.role role.Value) (is_only is_function part.class) w) h in
        or_true (is_closed k2 text) (is_value_function k part.role k2) (rw (method, f) refl)
      where
        or_true : (x y : Bool) → y ≡ true → (x || y) ≡ true
        or_true true y v = refl
        or_true false y v = v

parts_hold : (k : AstType) (ps : List Part) → list_all (part_closes k) ps ≡ true → HoldParts closed_by_table k ps
parts_hold k [] h = tt
parts_hold k (p ∷ ps) h = (part_holds k p (and_first (part_closes k p) (list_all (part_closes k) ps) h), parts_hold k ps (and_second (part_closes k p) (list_all (part_closes k) ps) h))

pub table_closes : (p : Tree) → first_fault p ≡ None → holds_below closed_by_table p.root.kind p.root.children ≡ true
table_closes p h = tree_holds closed_by_table (λ k. parts_hold k (parts k) (all_close k)) p h

-- a method's function by its place
value_text : (place : Place) (r : Role) (node : Node) → same_role r role.Value ≡ true → function_stands (child_place place kind.MethodDefinition r) node ≡ true → is_statement_text node.text ≡ false
value_text place r node e h = by (cases_Bool (bytes_eq node.text (codes "ts-empty-body")))
  where
    by : (bytes_eq node.text (codes "ts-empty-body") ≡ true) ⊎ (bytes_eq node.text (codes "ts-empty-body") ≡ false) → is_statement_text node.text ≡ false
    by (inl q) = let t : node.text ≡ codes "ts-empty-body" = (bytes_eq-Decides node.text (codes "ts-empty-body")).0 q in rw t refl
    by (inr q) = let w : bytes_eq node.text (codes "expression") ≡ true = rw (q, e) at h in expression_is_none node.text w

place_closes_one : (place : Place) (k : AstType) (r : Role) (node : Node) → stands (child_place place k r) node.kind node ≡ true → closed_by_place k r node.kind node.text ≡ true
place_closes_one place k r node h = elim (cases_Bool (is_value_function k r node.kind)) [
  | inr q ↦ rw q refl
  | inl q ↦ (let two : (same_kind k kind.MethodDefinition && same_role r role.Value) ≡ true = and_first (same_kind k kind.MethodDefinition && same_role r role.Value) (same_kind node.kind kind.Function) q in
      let m : k ≡ kind.MethodDefinition = kind_is k kind.MethodDefinition (and_first (same_kind k kind.MethodDefinition) (same_role r role.Value) two) in
      let f : node.kind ≡ kind.Function = kind_is node.kind kind.Function (and_second (same_kind k kind.MethodDefinition && same_role r role.Value) (same_kind node.kind kind.Function) q) in
      let g : stands (child_place place k r) kind.Function node ≡ true = subst (λ n. stands (child_place place k r) n node ≡ true) f h in
      let g2 : function_stands (child_place place kind.MethodDefinition r) node ≡ true = subst (λ n. function_stands (child_place place n r) node ≡ true) m g in
      rw (q, value_text place r node (and_second (same_kind k kind.MethodDefinition) (same_role r role.Value) two) g2) refl)
]

pub place_closes : (p : Tree) → first_fault p ≡ None → holds_below closed_by_place p.root.kind p.root.children ≡ true
place_closes p h = tree_stands closed_by_place place_closes_one p h

-- so a child that must be closed is
pub child_closed : (k : AstType) (r : Role) (k2 : AstType) (text : List ℕ) → closed_by_table k r k2 text ≡ true → closed_by_place k r k2 text ≡ true → asks_closed k r ≡ true → is_closed k2 text ≡ true
child_closed k r k2 text h g a = elim (cases_Bool (is_closed k2 text)) [
  | inl q ↦ q
  | inr q ↦ (let w : is_value_function k r k2 ≡ true = rw (a, q) at h in
      let n : not (is_statement_text text) ≡ true = rw w at g in
      let f : k2 ≡ kind.Function = kind_is k2 kind.Function (and_second (same_kind k kind.MethodDefinition && same_role r role.Value) (same_kind k2 kind.Function) w) in
      rw f (no_text (is_statement_text text) n))
]
  where
    no_text : (b : Bool) → not b ≡ true → not (true && b) ≡ true
    no_text true e = absurd cc
    no_text false e = refl
