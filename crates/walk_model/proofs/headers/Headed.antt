-- The headers of a program's steps: which are still to end, and what stands in them.
use Rattle.std.proofs.Common.{◌≡◌, ℕ, zero, suc, ◌+◌, ◌<◌, ◌≤◌, List, [], ◌∷◌, ◌++◌, Option, Some, None, Bool, true, false, cond, ◌&&◌, ◌||◌, not, ◌⊎◌, inl, inr, refl, sym, ap, subst, ◌∙◌, length, bytes_eq, codes, arith}
use Rattle.std.specs.Prelude.{slice_get}
use Rattle.std.proofs.lemmas.List.{length-append}
use Rattle.std.proofs.lemmas.Bool.{cases_Bool}
use Rattle.std.proofs.lemmas.Bool.Decides.{eqb_tells}
use Rattle.semantic_tree.specs.Forest.{Forest, nothing, tree}
use Rattle.semantic_tree.specs.declared.node.Node.{Node}
use Rattle.semantic_kinds.specs.Kinds.{same_kind}
use Rattle.semantic_kinds.specs.Roles.{same_role}
use Rattle.semantic_kinds.specs.declared.kind.AstType.{AstType}
use Rattle.semantic_kinds.specs.declared.kind.AstType.TheVariants as kind
use Rattle.semantic_kinds.specs.declared.role.Role.{Role}
use Rattle.semantic_kinds.specs.declared.role.Role.TheVariants as role
use Rattle.semantic_syntax.specs.declared.scope_flags.TheConstants.ScopeFlags as scope
use Rattle.semantic_syntax.specs.Sets.{meets, union}
use Rattle.semantic_tree.specs.Views.{is, has_role, has_text, child_of, holds, has_use_strict}
use Rattle.semantic_model.specs.Place.{Place, OpenScope, is_strict}
use Rattle.semantic_model.specs.Inside.{opens, is_inside, any_inside, header_roles, is_in_header}
use Rattle.semantic_model.specs.ScopeKind.{strict_if, accessor, value_of, method_flags, flags_of_kind, opened_scope}
use Rattle.semantic_model.specs.Declaration.{first_with}
use Rattle.semantic_model.specs.Entries.{Among}
use Rattle.semantic_syntax.specs.Members.{contains}
use Rattle.semantic_model.specs.Binder.{is_var}
use Rattle.semantic_model.specs.Step.{Step, entering, opening, header_ending, closing, leaving, opening_at, ending_after, opening_last, scope_at}
use Rattle.semantic_model.proofs.form.Clauses.{kind_is}
use Rattle.semantic_model.proofs.steps.Opened.{openings}
use Rattle.walk_model.proofs.places.Nested.{IsInnermost}
use Rattle.walk_model.proofs.headers.NoStatements.{is_closed, is_bound}

-- whether the scope of the place has a header
abbrev pub has_header : Place → Bool
has_header p = has_role (header_roles p.node.kind) p.node.children

-- the scopes whose headers are still to end, innermost first
abbrev pub awaiting_past : List ℕ → Step → List ℕ
awaiting_past awaiting (opening p s) = cond (has_header p) (s.number ∷ awaiting) awaiting
awaiting_past [] (header_ending p s) = []
awaiting_past (c ∷ awaiting) (header_ending p s) = awaiting
awaiting_past awaiting (entering p) = awaiting
awaiting_past awaiting (closing p s) = awaiting
awaiting_past awaiting (leaving p) = awaiting

-- the flags of the scopes, in order of opening
abbrev pub flags_past : List ℕ → Step → List ℕ
flags_past fs (opening p s) = fs ++ s.flags ∷ []
flags_past fs (entering p) = fs
flags_past fs (header_ending p s) = fs
flags_past fs (closing p s) = fs
flags_past fs (leaving p) = fs

abbrev pub awaiting_after : List ℕ → List Step → List ℕ
awaiting_after awaiting [] = awaiting
awaiting_after awaiting (s ∷ more) = awaiting_after (awaiting_past awaiting s) more

abbrev pub flags_after : List ℕ → List Step → List ℕ
flags_after fs [] = fs
flags_after fs (s ∷ more) = flags_after (flags_past fs s) more

abbrev pub AreFlagged : List ℕ → List OpenScope → Type 0
AreFlagged fs [] = Unit {0}
AreFlagged fs (s ∷ ss) = (slice_get fs s.number ≡ Some s.flags) × AreFlagged fs ss

-- the chain tells of each scope whether its header is still to end
abbrev pub AllMatch : List ℕ → List OpenScope → Type 0
AllMatch awaiting [] = Unit {0}
AllMatch awaiting (s ∷ ss) = (s.in_header ≡ contains awaiting s.number) × AllMatch awaiting ss

pub match_among : (awaiting : List ℕ) (chain : List OpenScope) (s : OpenScope) → AllMatch awaiting chain → Among s chain → s.in_header ≡ contains awaiting s.number
match_among awaiting [] s h a = absurd a
match_among awaiting (x ∷ xs) s h (inl e) = subst (λ (o : OpenScope). o.in_header ≡ contains awaiting o.number) e h.0
match_among awaiting (x ∷ xs) s h (inr a) = match_among awaiting xs s h.1 a

-- the next function's scope, or the like, was opened after the scope
pub record VarAbove (c : ℕ) (chain : List OpenScope) : Type 0 where
  pub next : OpenScope
  pub is : first_with is_var chain ≡ Some next
  pub above : c < next.number

abbrev pub AllVarAbove : List ℕ → List OpenScope → Type 0
AllVarAbove [] chain = Unit {0}
AllVarAbove (c ∷ cs) chain = VarAbove c chain × AllVarAbove cs chain

abbrev pub IsSheltered : List ℕ → Place → Type 0
IsSheltered awaiting p = (is_closed p.node.kind p.node.text ≡ true) ⊎ AllVarAbove awaiting p.chain

abbrev pub AllLess : List ℕ → ℕ → Type 0
AllLess [] n = Unit {0}
AllLess (c ∷ cs) n = (c < n) × AllLess cs n

-- the innermost of the open scopes is the last that was opened
pub first_most : (c : ℕ) (cs : List ℕ) (x : ℕ) → AllLess cs c → contains (c ∷ cs) x ≡ true → x ≤ c
first_most c cs x l h = elim (eqb_tells c x) [ inl q ↦ omega (arith, q.1) | inr q ↦ among cs (rw q.0 at h) l ]
  where
    among : (ds : List ℕ) → contains ds x ≡ true → AllLess ds c → x ≤ c
    among [] k m = absurd cc
    among (d ∷ ds) k m = elim (eqb_tells d x) [ inl q ↦ omega (arith, q.1, m.0) | inr q ↦ among ds (rw q.0 at k) m.1 ]

pub record IsHeadedPlace (awaiting fs : List ℕ) (p : Place) : Type 0 where
  pub flagged : AreFlagged fs p.chain
  pub matches : is kind.BindingIdentifier p.node ≡ false → AllMatch awaiting p.chain
  pub sheltered : IsSheltered awaiting p
  pub older : AllLess awaiting (length fs)

-- a reference is no name that is bound
pub reference_matches : (awaiting fs : List ℕ) (p : Place) → IsHeadedPlace awaiting fs p → is kind.IdentifierReference p.node ≡ true → AllMatch awaiting p.chain
reference_matches awaiting fs p h e = h.matches (ap (λ k. same_kind k kind.BindingIdentifier) (kind_is p.node.kind kind.IdentifierReference e))

abbrev pub IsHeadedStep : List ℕ → List ℕ → Step → Type 0
IsHeadedStep awaiting fs (entering p) = IsHeadedPlace awaiting fs p
IsHeadedStep awaiting fs (opening p s) = IsSheltered awaiting p × AllLess awaiting (length fs)
IsHeadedStep awaiting fs (header_ending p s) = IsInnermost awaiting s
IsHeadedStep awaiting fs (closing p s) = contains awaiting s.number ≡ false
IsHeadedStep awaiting fs (leaving p) = Unit {0}

abbrev pub AreHeaded : List ℕ → List ℕ → List Step → Type 0
AreHeaded awaiting fs [] = Unit {0}
AreHeaded awaiting fs (s ∷ more) = IsHeadedStep awaiting fs s × AreHeaded (awaiting_past awaiting s) (flags_past fs s) more

pub awaiting-append : (awaiting : List ℕ) (xs ys : List Step) → awaiting_after awaiting (xs ++ ys) ≡ awaiting_after (awaiting_after awaiting xs) ys
awaiting-append awaiting [] ys = refl
awaiting-append awaiting (x ∷ xs) ys = awaiting-append (awaiting_past awaiting x) xs ys

pub flags-append : (fs : List ℕ) (xs ys : List Step) → flags_after fs (xs ++ ys) ≡ flags_after (flags_after fs xs) ys
flags-append fs [] ys = refl
flags-append fs (x ∷ xs) ys = flags-append (flags_past fs x) xs ys

pub headed-append : (awaiting fs : List ℕ) (xs ys : List Step) → AreHeaded awaiting fs xs → AreHeaded (awaiting_after awaiting xs) (flags_after fs xs) ys → AreHeaded awaiting fs (xs ++ ys)
headed-append awaiting fs [] ys h k = k
headed-append awaiting fs (x ∷ xs) ys h k = (h.0, headed-append (awaiting_past awaiting x) (flags_past fs x) xs ys h.1 k)

pub flags_length : (fs : List ℕ) (xs : List Step) → length (flags_after fs xs) ≡ length fs + openings xs
flags_length fs [] = omega arith
flags_length fs (opening p s ∷ xs) = omega (arith, flags_length (fs ++ s.flags ∷ []) xs, length-append fs (s.flags ∷ []))
flags_length fs (entering p ∷ xs) = flags_length fs xs
flags_length fs (header_ending p s ∷ xs) = flags_length fs xs
flags_length fs (closing p s ∷ xs) = flags_length fs xs
flags_length fs (leaving p ∷ xs) = flags_length fs xs

get_left : (xs ys : List ℕ) (i x : ℕ) → slice_get xs i ≡ Some x → slice_get (xs ++ ys) i ≡ Some x
get_left [] ys i x h = absurd cc
get_left (z ∷ xs) ys zero x h = h
get_left (z ∷ xs) ys (suc i) x h = get_left xs ys i x h

get_end : (xs : List ℕ) (x n : ℕ) → length xs ≡ n → slice_get (xs ++ x ∷ []) n ≡ Some x
get_end [] x zero e = refl
get_end [] x (suc n) e = absurd (omega arith)
get_end (y ∷ xs) x zero e = absurd (omega arith)
get_end (y ∷ xs) x (suc n) e = get_end xs x n (omega arith)

-- what was flagged stays so
get_later : (fs : List ℕ) (xs : List Step) (i x : ℕ) → slice_get fs i ≡ Some x → slice_get (flags_after fs xs) i ≡ Some x
get_later fs [] i x h = h
get_later fs (opening p s ∷ xs) i x h = get_later (fs ++ s.flags ∷ []) xs i x (get_left fs (s.flags ∷ []) i x h)
get_later fs (entering p ∷ xs) i x h = get_later fs xs i x h
get_later fs (header_ending p s ∷ xs) i x h = get_later fs xs i x h
get_later fs (closing p s ∷ xs) i x h = get_later fs xs i x h
get_later fs (leaving p ∷ xs) i x h = get_later fs xs i x h

pub flagged_later : (fs : List ℕ) (xs : List Step) (chain : List OpenScope) → AreFlagged fs chain → AreFlagged (flags_after fs xs) chain
flagged_later fs xs [] h = tt
flagged_later fs xs (s ∷ ss) h = (get_later fs xs s.number s.flags h.0, flagged_later fs xs ss h.1)

pub less_more : (cs : List ℕ) (n m : ℕ) → n ≤ m → AllLess cs n → AllLess cs m
less_more [] n m l h = tt
less_more (c ∷ cs) n m l h = (omega (arith, h.0, l), less_more cs n m l h.1)

pub not_among : (cs : List ℕ) (n m : ℕ) → n ≤ m → AllLess cs n → contains cs m ≡ false
not_among [] n m l h = refl
not_among (c ∷ cs) n m l h = elim (eqb_tells c m) [
  | inl q ↦ absurd (omega (arith, q.1, h.0, l))
  | inr q ↦ ap (λ b. b || contains cs m) q.0 ∙ not_among cs n m l h.1
]

-- the numbers of a chain are below one
abbrev pub ChainLess : List OpenScope → ℕ → Type 0
ChainLess [] n = Unit {0}
ChainLess (s ∷ ss) n = (s.number < n) × ChainLess ss n

pub chain_less_more : (chain : List OpenScope) (n m : ℕ) → n ≤ m → ChainLess chain n → ChainLess chain m
chain_less_more [] n m l h = tt
chain_less_more (s ∷ ss) n m l h = (omega (arith, h.0, l), chain_less_more ss n m l h.1)

-- one more scope that awaits its end is none of the chain's
pub match_more : (c : ℕ) (awaiting : List ℕ) (chain : List OpenScope) → ChainLess chain c → AllMatch awaiting chain → AllMatch (c ∷ awaiting) chain
match_more c awaiting [] l h = tt
match_more c awaiting (s ∷ ss) l h = (
  h.0 ∙ (elim (eqb_tells c s.number) [
    | inl q ↦ absurd (omega (arith, q.1, l.0))
    | inr q ↦ ap (λ b. b || contains awaiting s.number) (sym q.0)
  ]),
  match_more c awaiting ss l.1 h.1,
)

-- a function's scope, an arrow's and a static block's end the way of a `var`
abbrev IsAccessory : ℕ → Type 0
IsAccessory x = (x ≡ 0) ⊎ ((x ≡ scope.GetAccessor.bits) ⊎ ((x ≡ scope.SetAccessor.bits) ⊎ (x ≡ scope.Constructor.bits)))

accessory_cond : (b : Bool) (x y : ℕ) → IsAccessory x → IsAccessory y → IsAccessory (cond b x y)
accessory_cond true x y h k = h
accessory_cond false x y h k = k

accessory_text : (text : List ℕ) → IsAccessory (accessor text)
accessory_text text = accessory_cond (bytes_eq text (codes "get")) scope.GetAccessor.bits _ (inr (inl refl)) (accessory_cond (bytes_eq text (codes "set")) scope.SetAccessor.bits 0 (inr (inr (inl refl))) (inl refl))

accessory_value : (k : AstType) (text : List ℕ) (node : Node) → IsAccessory (value_of k text node)
accessory_value kind.MethodDefinition text node = accessory_cond (bytes_eq text (codes "constructor")) scope.Constructor.bits (accessor text) (inr (inr (inr refl))) (accessory_text text)
accessory_value kind.ObjectProperty text node = accessory_cond (has_text (codes "expression") node) (accessor text) 0 (accessory_text text) (inl refl)
accessory_value _ text node = inl refl

accessory_method : (path : List Node) (node : Node) → IsAccessory (method_flags path node)
accessory_method [] node = inl refl
accessory_method (parent ∷ path) node = accessory_value parent.kind parent.text node

function_meets : (a b : Bool) (x : ℕ) → IsAccessory x → meets (union (union scope.Function.bits (union (strict_if a) x)) (strict_if b)) scope.Var.bits ≡ true
function_meets a b x (inl e) = subst (λ y. meets (union (union scope.Function.bits (union (strict_if a) y)) (strict_if b)) scope.Var.bits ≡ true) (sym e) (go a b)
  where
    go : (a b : Bool) → meets (union (union scope.Function.bits (union (strict_if a) 0)) (strict_if b)) scope.Var.bits ≡ true
    go true true = refl
    go true false = refl
    go false true = refl
    go false false = refl
function_meets a b x (inr (inl e)) = subst (λ y. meets (union (union scope.Function.bits (union (strict_if a) y)) (strict_if b)) scope.Var.bits ≡ true) (sym e) (go a b)
  where
    go : (a b : Bool) → meets (union (union scope.Function.bits (union (strict_if a) scope.GetAccessor.bits)) (strict_if b)) scope.Var.bits ≡ true
    go true true = refl
    go true false = refl
    go false true = refl
    go false false = refl
function_meets a b x (inr (inr (inl e))) = subst (λ y. meets (union (union scope.Function.bits (union (strict_if a) y)) (strict_if b)) scope.Var.bits ≡ true) (sym e) (go a b)
  where
    go : (a b : Bool) → meets (union (union scope.Function.bits (union (strict_if a) scope.SetAccessor.bits)) (strict_if b)) scope.Var.bits ≡ true
    go true true = refl
    go true false = refl
    go false true = refl
    go false false = refl
function_meets a b x (inr (inr (inr e))) = subst (λ y. meets (union (union scope.Function.bits (union (strict_if a) y)) (strict_if b)) scope.Var.bits ≡ true) (sym e) (go a b)
  where
    go : (a b : Bool) → meets (union (union scope.Function.bits (union (strict_if a) scope.Constructor.bits)) (strict_if b)) scope.Var.bits ≡ true
    go true true = refl
    go true false = refl
    go false true = refl
    go false false = refl

arrow_meets : (a b : Bool) → meets (union (union scope.Function.bits (union scope.Arrow.bits (strict_if a))) (strict_if b)) scope.Var.bits ≡ true
arrow_meets true true = refl
arrow_meets true false = refl
arrow_meets false true = refl
arrow_meets false false = refl

block_meets : (b : Bool) → meets (union scope.ClassStaticBlock.bits (strict_if b)) scope.Var.bits ≡ true
block_meets true = refl
block_meets false = refl

kind_meets : (k : AstType) (p : Place) → is_bound k ≡ true → meets (union (flags_of_kind k p) (strict_if (is_strict p.chain))) scope.Var.bits ≡ true
kind_meets kind.Function p h =
    function_meets (holds has_use_strict (child_of role.Body p.node)) (is_strict p.chain) (cond (same_role p.role role.Value) (method_flags p.path p.node) 0)
    (accessory_cond (same_role p.role role.Value) (method_flags p.path p.node) 0 (accessory_method p.path p.node) (inl refl))
kind_meets kind.ArrowFunctionExpression p h = arrow_meets (holds has_use_strict (child_of role.Body p.node)) (is_strict p.chain)
kind_meets kind.StaticBlock p h = block_meets (is_strict p.chain)
kind_meets _ p h = absurd cc

bound_var : (p : Place) (n : ℕ) → is_bound p.node.kind ≡ true → is_var (opened_scope p n) ≡ true
bound_var p n h = kind_meets p.node.kind p h

pub bound_inside : (k : AstType) (r : Role) → is_bound k ≡ true → is_inside k r ≡ true
bound_inside kind.Function r h = refl
bound_inside kind.ArrowFunctionExpression r h = refl
bound_inside kind.StaticBlock r h = refl
bound_inside _ r h = absurd cc

-- steps that are headed, and lead from the headers that are awaited to others
pub record LeadsOn (awaiting later fs : List ℕ) (xs : List Step) : Type 0 where
  pub headed : AreHeaded awaiting fs xs
  pub is : awaiting_after awaiting xs ≡ later

pub leads_on-append : (a b c fs : List ℕ) (xs ys : List Step) → LeadsOn a b fs xs → LeadsOn b c (flags_after fs xs) ys → LeadsOn a c fs (xs ++ ys)
leads_on-append a b c fs xs ys h k = record {
  headed = headed-append a fs xs ys h.headed (subst (λ l. AreHeaded l (flags_after fs xs) ys) (sym h.is) k.headed);
  is = awaiting-append a xs ys ∙ ap (λ l. awaiting_after l ys) h.is ∙ k.is;
}

abbrev pub left : Place → Forest → Bool
left p f = has_role (header_roles p.node.kind) f

-- the own scope is awaited as long as parts of the header are left
abbrev pub awaiting_with : Place → Option OpenScope → Forest → List ℕ → List ℕ
awaiting_with p None f awaiting = awaiting
awaiting_with p (Some s) f awaiting = cond (left p f) (s.number ∷ awaiting) awaiting

pub record OwnHead (awaiting fs : List ℕ) (p : Place) (s : OpenScope) : Type 0 where
  pub flagged : slice_get fs s.number ≡ Some s.flags
  pub older : AllLess awaiting s.number
  pub around : ChainLess p.chain s.number
  pub within : s.number < length fs
  pub ends_var : is_bound p.node.kind ≡ true → is_var s ≡ true

-- before it opens, nothing of the header is passed
abbrev pub OwnHeadOf : List ℕ → List ℕ → Place → Option OpenScope → Forest → Type 0
OwnHeadOf awaiting fs p None f = left p f ≡ has_header p
OwnHeadOf awaiting fs p (Some s) f = OwnHead awaiting fs p s

none_of : (f : Forest) → has_role [] f ≡ false
none_of nothing = refl
none_of (tree r k span text marks below id after) = none_of after

-- a kind with a header holds all children inside
no_header : (k : AstType) (r : Role) (f : Forest) → is_inside k r ≡ false → has_role (header_roles k) f ≡ false
no_header kind.Function r f e = absurd cc
no_header kind.ArrowFunctionExpression r f e = absurd cc
no_header kind.CatchClause r f e = absurd cc
no_header _ r f e = none_of f

-- parts of a header are inside
left_inside : (k : AstType) (f : Forest) → has_role (header_roles k) f ≡ true → any_inside k f ≡ true
left_inside k nothing h = absurd cc
left_inside k (tree r k2 span text marks below id after) h = elim (cases_Bool (is_inside k r)) [
  | inl e ↦ rw e refl
  | inr e ↦ (let q : has_role (header_roles k) (tree r k2 span text marks below id after) ≡ false = no_header k r (tree r k2 span text marks below id after) e in let w : true ≡ false = sym h ∙ q in absurd cc)
]

pub at_opening : (p : Place) (r : Role) (own : Option OpenScope) (n : ℕ) (f : Forest) (awaiting fs : List ℕ) → IsSheltered awaiting p → AllLess awaiting (length fs) → OwnHeadOf awaiting fs p own f
    → LeadsOn (awaiting_with p own f awaiting) (awaiting_with p (scope_at p r own n) f awaiting) fs (opening_at p r own n)
at_opening p r (Some s) n f awaiting fs sh l o = record { headed = tt; is = refl }
at_opening p r None n f awaiting fs sh l o = go (is_inside p.node.kind r)
  where
    go : (b : Bool) → LeadsOn awaiting (awaiting_with p (cond b (Some (opened_scope p n)) None) f awaiting) fs (cond b (opening p (opened_scope p n) ∷ []) [])
    go true = record { headed = ((sh, l), tt); is = ap (λ b. cond b (n ∷ awaiting) awaiting) (sym o) }
    go false = record { headed = tt; is = refl }

pub own_opened : (p : Place) (r : Role) (own : Option OpenScope) (n : ℕ) (f : Forest) (awaiting fs : List ℕ) → length fs ≡ n → AllLess awaiting n → ChainLess p.chain n → OwnHeadOf awaiting fs p own f
    → OwnHeadOf awaiting (flags_after fs (opening_at p r own n)) p (scope_at p r own n) f
own_opened p r (Some s) n f awaiting fs e l c o = o
own_opened p r None n f awaiting fs e l c o = go (is_inside p.node.kind r)
  where
    go : (b : Bool) → OwnHeadOf awaiting (flags_after fs (cond b (opening p (opened_scope p n) ∷ []) [])) p (cond b (Some (opened_scope p n)) None) f
    go true = record {
      flagged = get_end fs (opened_scope p n).flags n e;
      older = l;
      around = c;
      within = omega (arith, length-append fs ((opened_scope p n).flags ∷ []), e);
      ends_var = bound_var p n;
    }
    go false = o

pub own_later : (awaiting fs : List ℕ) (xs : List Step) (p : Place) (r : Role) (own : Option OpenScope) (n : ℕ) (f after : Forest) → OwnHeadOf awaiting fs p (scope_at p r own n) f → OwnHeadOf awaiting (flags_after fs xs) p (scope_at p r own n) after
own_later awaiting fs xs p r (Some s) n f after o = record { flagged = get_later fs xs s.number s.flags o.flagged; older = o.older; around = o.around; within = omega (arith, o.within, flags_length fs xs); ends_var = o.ends_var }
own_later awaiting fs xs p r None n f after o = go (is_inside p.node.kind r) refl o
  where
    go : (b : Bool) → is_inside p.node.kind r ≡ b → OwnHeadOf awaiting fs p (cond b (Some (opened_scope p n)) None) f → OwnHeadOf awaiting (flags_after fs xs) p (cond b (Some (opened_scope p n)) None) after
    go true e q = record { flagged = get_later fs xs n (opened_scope p n).flags q.flagged; older = q.older; around = q.around; within = omega (arith, q.within, flags_length fs xs); ends_var = q.ends_var }
    go false e q = no_header p.node.kind r after e ∙ sym (no_header p.node.kind r p.node.children e)

pub at_last : (p : Place) (own : Option OpenScope) (n : ℕ) (awaiting fs : List ℕ) → length fs ≡ n → IsSheltered awaiting p → AllLess awaiting n → OwnHeadOf awaiting fs p own nothing → LeadsOn awaiting awaiting fs (opening_last p own n)
at_last p (Some s) n awaiting fs e sh l o = record { headed = tt; is = refl }
at_last p None n awaiting fs e sh l o = go (opens p.node.kind)
  where
    none : cond (has_header p) (n ∷ awaiting) awaiting ≡ awaiting
    none = ap (λ b. cond b (n ∷ awaiting) awaiting) (sym o)

    go : (b : Bool) → LeadsOn awaiting awaiting fs (cond b (opening p (opened_scope p n) ∷ closing p (opened_scope p n) ∷ []) [])
    go true = record {
      headed = ((sh, subst (AllLess awaiting) (sym e) l), (subst (λ a. contains a n ≡ false) (sym none) (not_among awaiting n n (omega arith) l), tt));
      is = none;
    }
    go false = record { headed = tt; is = refl }

pub none_with : (p : Place) (own : Option OpenScope) (awaiting : List ℕ) → awaiting_with p own nothing awaiting ≡ awaiting
none_with p None awaiting = refl
none_with p (Some s) awaiting = refl

-- after a child the header ends, if it was the last part of it; as the scope closes it has ended
pub at_ending : (p : Place) (r : Role) (own : Option OpenScope) (before after : Forest) (awaiting fs : List ℕ) → left p before ≡ (is_in_header p.node.kind r || left p after) → ((s : OpenScope) → own ≡ Some s → AllLess awaiting s.number)
    → LeadsOn (awaiting_with p own before awaiting) (awaiting_with p own after awaiting) fs (ending_after p r own after)
at_ending p r None before after awaiting fs e l = record { headed = tt; is = refl }
at_ending p r (Some s) before after awaiting fs e l =
    subst (λ b. LeadsOn (cond b (s.number ∷ awaiting) awaiting) (awaiting_with p (Some s) after awaiting) fs (ending_after p r (Some s) after)) (sym e)
    (go (is_in_header p.node.kind r) (left p after) (is_inside p.node.kind r) (any_inside p.node.kind after) (λ h. left_inside p.node.kind after h))
  where
    out : contains awaiting s.number ≡ false
    out = not_among awaiting s.number s.number (omega arith) (l s refl)

    go : (h t i a : Bool) → (t ≡ true → a ≡ true)
        → LeadsOn (cond (h || t) (s.number ∷ awaiting) awaiting) (cond t (s.number ∷ awaiting) awaiting) fs (cond (h && not t) (header_ending p s ∷ []) [] ++ cond (i && not a) (closing p s ∷ []) [])
    go true true true true q = record { headed = tt; is = refl }
    go true true false a q = record { headed = tt; is = refl }
    go true true true false q = absurd (let w : false ≡ true = q refl in absurd cc)
    go true false true true q = record { headed = (record { around = awaiting; is = refl }, tt); is = refl }
    go true false true false q = record { headed = (record { around = awaiting; is = refl }, (out, tt)); is = refl }
    go true false false a q = record { headed = (record { around = awaiting; is = refl }, tt); is = refl }
    go false true true true q = record { headed = tt; is = refl }
    go false true true false q = absurd (let w : false ≡ true = q refl in absurd cc)
    go false true false a q = record { headed = tt; is = refl }
    go false false true true q = record { headed = tt; is = refl }
    go false false true false q = record { headed = (out, tt); is = refl }
    go false false false a q = record { headed = tt; is = refl }
