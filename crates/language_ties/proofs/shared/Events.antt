-- The declarations among the events of an ECMAScript program, with the scopes that are open there.
use Rattle.std.proofs.Common.{◌≡◌, ℕ, suc, ◌<◌, ◌≤◌, List, [], ◌∷◌, ◌++◌, Option, Bool, true, false, inl, inr, refl, sym, ap, subst, ◌∙◌, cond, map, flat_map, if◌then◌else◌, arith}
use Rattle.semantic_kinds.specs.declared.kind.AstType.{AstType}
use Rattle.semantic_kinds.specs.declared.kind.AstType.TheVariants as kind
use Rattle.semantic_kinds.specs.declared.mark.Mark.TheVariants as mark
use Rattle.semantic_syntax.specs.Sets.{meets, union}
use Rattle.semantic_syntax.specs.declared.symbol_flags.TheConstants.SymbolFlags as symbol
use Rattle.semantic_tree.specs.Views.{has}
use Rattle.semantic_tree.specs.declared.node.Node.{Node}
use Rattle.semantic_model.specs.Binder.{BinderRow, declaration_at, ambient_if, is_statement, is_special, own_function_row, class_row, ids, declared_by, declared_inside, declared_on_entering, declared_on_opening}
use Rattle.semantic_model.specs.Declaration.{How, plain, hoisted, moved, caught, Declaration}
use Rattle.semantic_model.specs.EachStep.{EachStep}
use Rattle.semantic_model.specs.Event.{Event, declares, takes_over, ends_header, is_barred, staying_declaration, placed, placed_by, is_catch_body, declares_all, taken_over, events_of}
use Rattle.semantic_model.specs.Place.{Place, OpenScope, innermost, outside}
use Rattle.semantic_model.specs.Step.{Step, entering, opening, header_ending, closing, leaving}
use Rattle.semantic_model.proofs.fold.BodyChains.{block_is}
use Rattle.semantic_model.proofs.fold.EachDeclared.{EachDeclared}
use Rattle.language_ties.specs.EcmaScript.{is_ecmascript_kind}
use Rattle.language_ties.specs.SharedSymbols.{is_own_name}
use Rattle.language_ties.proofs.shared.DeclaredFlags.{variable_flags, flags_of_function, HoldsOfRows, AllHaveFlags, flags_entering}
use Rattle.language_ties.proofs.shared.Numbers.{PlaceIn, NumberedFrom, entering_below, staying_below}
use Rattle.language_ties.proofs.shared.PlainNodes.{IsPlainPlace, IsEcmaScriptAt}
use Rattle.language_ties.proofs.shared.Shared.{RouteBelow}

-- ---- names of functions

abbrev pub IsVisible : ℕ → Type 0
IsVisible flags = meets flags symbol.FunctionExpression.bits ≡ false

abbrev pub AllVisible : List Declaration → Type 0
AllVisible = AllHaveFlags IsVisible

variable_visible : (v l a : Bool) → IsVisible (variable_flags v l a)
variable_visible true l true = refl
variable_visible true l false = refl
variable_visible false true true = refl
variable_visible false true false = refl
variable_visible false false true = refl
variable_visible false false false = refl

-- of the functions, those that are expressions are hidden by others of the name
pub function_hidden : (a s p : Bool) → meets (flags_of_function a s p) symbol.FunctionExpression.bits ≡ cond s false true
function_hidden true true true = refl
function_hidden true true false = refl
function_hidden true false true = refl
function_hidden true false false = refl
function_hidden false true true = refl
function_hidden false true false = refl
function_hidden false false true = refl
function_hidden false false false = refl

pub class_visible : (a : Bool) → IsVisible (union symbol.Class.bits (ambient_if a))
class_visible true = refl
class_visible false = refl

visible_rows : HoldsOfRows IsVisible
visible_rows = record { variable = variable_visible; parameter = refl; function = λ a s. function_hidden a true s; of_class = class_visible; catch_name = refl; catch_pattern = refl; of_import = refl }

pub entering_visible : (k : AstType) (p : Place) → IsPlainPlace p → is_ecmascript_kind k ≡ true → AllVisible (declared_by k p)
entering_visible = flags_entering IsVisible visible_rows

-- ---- events

-- what is known of a declaration, where the first n scopes are open to all and the first m to names of functions
pub record IsNumbered (n m k l : ℕ) (d : Declaration) : Type 0 where
  pub more : n ≤ k
  pub opens : m ≤ l
  pub below : is_own_name d ≡ false → RouteBelow k d
  pub within : d.route.target.number < l
  pub fresh : is_own_name d ≡ true → n ≤ d.route.target.number
  pub visible : (d.how ≡ plain → ⊥) → is_own_name d ≡ false

abbrev pub AllNumbered : ℕ → ℕ → List Event → Type 0
AllNumbered n m [] = Unit {0}
AllNumbered n m (declares d ∷ es) = (k : ℕ) × (l : ℕ) × IsNumbered n m k l d × AllNumbered k l es
AllNumbered n m (takes_over c b ∷ es) = (n ≤ b) × (m ≤ b) × AllNumbered (suc b) (suc b) es
AllNumbered n m (ends_header c ∷ es) = AllNumbered n m es

-- fewer scopes may be open before
numbered_fewer : (n m k l : ℕ) (es : List Event) → n ≤ k → m ≤ l → AllNumbered k l es → AllNumbered n m es
numbered_fewer n m k l [] i j h = tt
numbered_fewer n m k l (declares d ∷ es) i j h =
    let q : IsNumbered k l h.0 h.1 d = h.2 in
    (h.0, h.1, record { more = (let w : k ≤ h.0 = q.more in omega arith); opens = (let w : l ≤ h.1 = q.opens in omega arith); below = q.below; within = q.within; fresh = λ e. (let w : k ≤ d.route.target.number = q.fresh e in omega arith); visible = q.visible }, h.3)
numbered_fewer n m k l (takes_over c b ∷ es) i j h = ((let w : k ≤ b = h.0 in omega arith), (let w : l ≤ b = h.1 in omega arith), h.2)
numbered_fewer n m k l (ends_header c ∷ es) i j h = numbered_fewer n m k l es i j h

-- ---- of a node that is entered

placed_naming : (how : How) (ds : List Declaration) (d : Declaration) → is_own_name (placed_by how ds d) ≡ is_own_name d
placed_naming plain ds d = refl
placed_naming hoisted ds d = refl
placed_naming caught ds d = refl
placed_naming moved ds d = go (is_barred ds d (outside d.route.passed))
  where
    go : (b : Bool) → is_own_name (if b then staying_declaration d else d) ≡ is_own_name d
    go true = refl
    go false = refl

placed_below : (n : ℕ) (how : How) (ds : List Declaration) (d : Declaration) → RouteBelow n d → RouteBelow n (placed_by how ds d)
placed_below n plain ds d h = h
placed_below n hoisted ds d h = h
placed_below n caught ds d h = h
placed_below n moved ds d h = go (is_barred ds d (outside d.route.passed))
  where
    go : (b : Bool) → RouteBelow n (if b then staying_declaration d else d)
    go true = staying_below n d (staying_declaration d) h refl
    go false = h

numbered_visible : (n : ℕ) (d : Declaration) → RouteBelow n d → is_own_name d ≡ false → IsNumbered n n n n d
numbered_visible n d h v = record { more = omega arith; opens = omega arith; below = λ e. h; within = h.target; fresh = λ e. (let w : true ≡ false = sym e ∙ v in absurd cc); visible = λ e. v }

declares_numbered : (n : ℕ) (ds new : List Declaration) (es : List Event) → EachDeclared (RouteBelow n) new → AllVisible new → AllNumbered n n es → AllNumbered n n (declares_all ds new ++ es)
declares_numbered n ds [] es h v k = k
declares_numbered n ds (d ∷ new) es h v k = (n, n, numbered_visible n (placed ds d) (placed_below n d.how ds d h.0) (placed_naming d.how ds d ∙ v.0), declares_numbered n ds new es h.1 v.1 k)

-- ---- of a scope that opens

own_numbered : (n : ℕ) (ds : List Declaration) (p : Place) (row : BinderRow) (b : Bool) (names : List Node) (es : List Event) → row.how ≡ plain → row.route.target.number ≡ n → meets row.flags symbol.FunctionExpression.bits ≡ true → AllNumbered n (suc n) es → AllNumbered n (suc n) (declares_all ds (map (declaration_at p.node row b) names) ++ es)
own_numbered n ds p row b [] es e t f k = k
own_numbered n ds p row b (x ∷ names) es e t f k = (n, suc n, one, own_numbered n ds p row b names es e t f k)
  where
    d : Declaration
    d = declaration_at p.node row b x

    same : placed ds d ≡ d
    same = ap (λ how. placed_by how ds d) e

    one : IsNumbered n (suc n) n (suc n) (placed ds d)
    one = subst (IsNumbered n (suc n) n (suc n)) (sym same) (record {
      more = omega arith;
      opens = omega arith;
      below = λ q. (let w : true ≡ false = sym f ∙ q in absurd cc);
      within = omega (arith, t);
      fresh = λ q. omega (arith, t);
      visible = λ q. absurd (q e);
    })

class_numbered : (n : ℕ) (ds : List Declaration) (p : Place) (own : OpenScope) (a : Bool) (names : List Node) (es : List Event) → own.number ≡ n → AllNumbered (suc n) (suc n) es
    → AllNumbered (suc n) (suc n) (declares_all ds (map (declaration_at p.node (class_row p (own ∷ [])) false) names) ++ es)
class_numbered n ds p own a [] es t k = k
class_numbered n ds p own a (x ∷ names) es t k =
    (suc n, suc n, numbered_visible (suc n) (declaration_at p.node (class_row p (own ∷ [])) false x) (record { target = omega (arith, t); passed = λ c q. absurd cc; stands = omega (arith, t) }) (class_visible (has mark.Declare p.node)), class_numbered n ds p own a names es t k)

opening_numbered : (k : AstType) (n : ℕ) (ds : List Declaration) (p : Place) (own : OpenScope) (es : List Event) → is_ecmascript_kind k ≡ true → own.number ≡ n → AllNumbered (suc n) (suc n) es → AllNumbered n n (declares_all ds (declared_inside k p own) ++ es)
opening_numbered kind.Function n ds p own es i t h = go (is_statement p.node) refl
  where
    go : (b : Bool) → is_statement p.node ≡ b → AllNumbered n n (declares_all ds (cond b [] (map (declaration_at p.node (own_function_row p own) (has mark.Pure p.node)) (ids p.node))) ++ es)
    go true e = numbered_fewer n n (suc n) (suc n) es (omega arith) (omega arith) h
    go false e = numbered_fewer n n n (suc n) (declares_all ds (map (declaration_at p.node (own_function_row p own) (has mark.Pure p.node)) (ids p.node)) ++ es) (omega arith) (omega arith)
        (own_numbered n ds p (own_function_row p own) (has mark.Pure p.node) (ids p.node) es refl t (rw e (function_hidden (has mark.Declare p.node) false (is_special p.node))) (numbered_fewer n (suc n) (suc n) (suc n) es (omega arith) (omega arith) h))
opening_numbered kind.Class n ds p own es i t h = go (is_statement p.node)
  where
    go : (b : Bool) → AllNumbered n n (declares_all ds (cond b [] (map (declaration_at p.node (class_row p (own ∷ [])) false) (ids p.node))) ++ es)
    go true = numbered_fewer n n (suc n) (suc n) es (omega arith) (omega arith) h
    go false = numbered_fewer n n (suc n) (suc n) (declares_all ds (map (declaration_at p.node (class_row p (own ∷ [])) false) (ids p.node)) ++ es) (omega arith) (omega arith) (class_numbered n ds p own true (ids p.node) es t h)
opening_numbered kind.TSMappedType n ds p own es i t h = absurd cc
opening_numbered _ n ds p own es i t h = numbered_fewer n n (suc n) (suc n) es (omega arith) (omega arith) h

-- ---- of all steps

module _ (table : List (Option ℕ)) (ds : List Declaration) where
  entered_numbered : (n : ℕ) (p : Place) (es : List Event) → PlaceIn n p → IsPlainPlace p → AllNumbered n n es → AllNumbered n n (declares_all ds (declared_on_entering p) ++ es)
  entered_numbered n p es (inl e) k h = subst (λ i. AllNumbered n n (declares_all ds (declared_by i p) ++ es)) (sym e) h
  entered_numbered n p es (inr c) k h = declares_numbered n ds (declared_on_entering p) es (entering_below n p.node.kind p c) (entering_visible p.node.kind p k k.node.of_kind) h

  opened_numbered : (n : ℕ) (p : Place) (o : OpenScope) (es : List Event) → o.number ≡ n → IsPlainPlace p → AllNumbered (suc n) (suc n) es → AllNumbered n n (taken_over p o ++ declares_all ds (declared_on_opening p o) ++ es)
  opened_numbered n p o es t k h = go (is_catch_body p) refl
    where
      block : (i : AstType) → i ≡ kind.BlockStatement → AllNumbered (suc o.number) (suc o.number) (declares_all ds (declared_inside i p o) ++ es)
      block i e = subst (λ j. AllNumbered (suc o.number) (suc o.number) (declares_all ds (declared_inside j p o) ++ es)) (sym e) (subst (λ j. AllNumbered (suc j) (suc j) es) (sym t) h)

      go : (b : Bool) → is_catch_body p ≡ b → AllNumbered n n (cond b (takes_over (innermost p.chain).number o.number ∷ []) [] ++ declares_all ds (declared_on_opening p o) ++ es)
      go true e = (omega (arith, t), omega (arith, t), block p.node.kind (block_is table p e))
      go false e = opening_numbered p.node.kind n ds p o es k.node.of_kind t h

  pub numbered_events : (n : ℕ) (ss : List Step) → NumberedFrom n ss → EachStep IsEcmaScriptAt ss → AllNumbered n n (flat_map (events_of ds) ss)
  numbered_events n [] h k = tt
  numbered_events n (entering p ∷ ss) h k = entered_numbered n p (flat_map (events_of ds) ss) h.0 k.0 (numbered_events n ss h.1 k.1)
  numbered_events n (opening p o ∷ ss) h k = opened_numbered n p o (flat_map (events_of ds) ss) h.0 k.0 (numbered_events (suc n) ss h.1 k.1)
  numbered_events n (header_ending p o ∷ ss) h k = numbered_events n ss h k.1
  numbered_events n (closing p o ∷ ss) h k = numbered_events n ss h k.1
  numbered_events n (leaving p ∷ ss) h k = numbered_events n ss h k.1
