-- Which scopes the events of a step touch: open ones, and no scope from within a header to one outside.
use Rattle.std.proofs.Common.{◌≡◌, ℕ, ◌<◌, ◌≤◌, List, [], ◌∷◌, ◌++◌, Some, Bool, true, false, ◌&&◌, not, ◌⊎◌, inl, inr, refl, sym, ap, subst, ◌∙◌, nat_lt, if◌then◌else◌, arith}
use Rattle.std.proofs.lemmas.Bool.Decides.{Decides-ltb}
use Rattle.semantic_kinds.specs.declared.kind.AstType.{AstType}
use Rattle.semantic_kinds.specs.declared.kind.AstType.TheVariants as kind
use Rattle.semantic_model.specs.Place.{Place, OpenScope, innermost, outside}
use Rattle.semantic_model.specs.Declaration.{How, plain, hoisted, moved, caught, Declaration, first_with, outward_to, outward_past, stands_in}
use Rattle.semantic_model.specs.Binder.{is_var, is_statement, declared_by, declared_on_entering}
use Rattle.semantic_model.proofs.fold.EachDeclared.{EachDeclared, each_on_entering}
use Rattle.semantic_model.specs.Event.{Event, declares, is_barred, staying_declaration, placed_by, placed, declares_all}
use Rattle.walk_model.proofs.places.Nested.{Descends}
use Rattle.walk_model.proofs.places.Routes.{grounded, GoesOut, AllGoOut, placed_goes, not_var, target_below}
use Rattle.walk_model.proofs.headers.Sides.{AllOn, ArePassedOn, IsOn}
use Rattle.walk_model.proofs.headers.NoStatements.{is_closed}
use Rattle.walk_model.proofs.headers.Headed.{VarAbove}

-- the event acts on scopes of one side alone
abbrev pub Touches : (ℕ → Bool) → Bool → Event → Type 0
Touches inside b e = (side : ℕ → Bool) → IsOn inside side b e

abbrev pub ChainOn : (ℕ → Bool) → Bool → List OpenScope → Type 0
ChainOn inside b [] = Unit {0}
ChainOn inside b (s ∷ ss) = (inside s.number ≡ b) × ChainOn inside b ss

chain_left : (inside : ℕ → Bool) (b : Bool) (xs ys : List OpenScope) → ChainOn inside b (xs ++ ys) → ChainOn inside b xs
chain_left inside b [] ys h = tt
chain_left inside b (x ∷ xs) ys h = (h.0, chain_left inside b xs ys h.1)

chain_right : (inside : ℕ → Bool) (b : Bool) (xs ys : List OpenScope) → ChainOn inside b (xs ++ ys) → ChainOn inside b ys
chain_right inside b [] ys h = h
chain_right inside b (x ∷ xs) ys h = chain_right inside b xs ys h.1

all_on : (inside side : ℕ → Bool) (b : Bool) (cs : List OpenScope) → ChainOn inside b cs → AllOn inside side b cs
all_on inside side b [] h = tt
all_on inside side b (c ∷ cs) h = (h.0, all_on inside side b cs h.1)

stands_on : (inside : ℕ → Bool) (b : Bool) (d : Declaration) (passed : List OpenScope) → d.route.passed ≡ passed → ChainOn inside b passed → inside d.route.target.number ≡ b → inside (stands_in d) ≡ b
stands_on inside b d [] e h t = rw e t
stands_on inside b d (s ∷ ss) e h t = rw e h.0

-- a declaration along scopes of one side
pub way_touches : (inside : ℕ → Bool) (b : Bool) (d : Declaration) → ChainOn inside b d.route.passed → inside d.route.target.number ≡ b → Touches inside b (declares d)
way_touches inside b d h t side = (t, by d.how)
  where
    by : (how : How) → ArePassedOn inside side b how d
    by plain = tt
    by caught = tt
    by hoisted = all_on inside side b d.route.passed h
    by moved = stands_on inside b d d.route.passed refl h t

pub chain_touches : (inside : ℕ → Bool) (b : Bool) (chain : List OpenScope) (d : Declaration) → GoesOut chain d → ChainOn inside b (grounded chain) → Touches inside b (declares d)
chain_touches inside b chain d g h =
    let all : ChainOn inside b (d.route.passed ++ d.route.target ∷ g.rest) = subst (ChainOn inside b) (sym g.is) h in
    way_touches inside b d (chain_left inside b d.route.passed (d.route.target ∷ g.rest) all) (chain_right inside b d.route.passed (d.route.target ∷ g.rest) all).0

abbrev pub AllTouch : (ℕ → Bool) → Bool → List Event → Type 0
AllTouch inside b [] = Unit {0}
AllTouch inside b (e ∷ es) = Touches inside b e × AllTouch inside b es

pub touch-append : (inside : ℕ → Bool) (b : Bool) (es fs : List Event) → AllTouch inside b es → AllTouch inside b fs → AllTouch inside b (es ++ fs)
touch-append inside b [] fs h k = k
touch-append inside b (e ∷ es) fs h k = (h.0, touch-append inside b es fs h.1 k)

pub declares_touch : (inside : ℕ → Bool) (b : Bool) (chain : List OpenScope) (ds new : List Declaration) → AllGoOut chain new → ChainOn inside b (grounded chain) → AllTouch inside b (declares_all ds new)
declares_touch inside b chain ds [] g h = tt
declares_touch inside b chain ds (d ∷ new) g h = (chain_touches inside b chain (placed ds d) (placed_goes chain d.how ds d g.0) h, declares_touch inside b chain ds new g.1 h)

-- how a `var` or a block function finds its target: at the next function's scope, from a node that isn't closed
abbrev pub IsByVar : Place → How → OpenScope → Type 0
IsByVar p hoisted target = (is_closed p.node.kind p.node.text ≡ false) × ((t : OpenScope) → first_with is_var p.chain ≡ Some t → target ≡ t)
IsByVar p moved target = (is_closed p.node.kind p.node.text ≡ false) × ((t : OpenScope) → first_with is_var p.chain ≡ Some t → target ≡ t)
IsByVar p _ target = Unit {0}

abbrev pub AllByVar : Place → List Declaration → Type 0
AllByVar p = EachDeclared (λ d. IsByVar p d.how d.route.target)

outward_target : (chain : List OpenScope) (t : OpenScope) → first_with is_var chain ≡ Some t → (outward_to is_var chain).target ≡ t
outward_target chain t e = rw e refl

past_target : (chain : List OpenScope) (t : OpenScope) → is_var (innermost chain) ≡ false → first_with is_var chain ≡ Some t → (outward_past is_var chain).target ≡ t
past_target [] t v e = absurd cc
past_target (s ∷ ss) t v e = let q : first_with is_var ss ≡ Some t = rw v at e in rw q refl

statement_open : (p : Place) → p.node.kind ≡ kind.Function → is_statement p.node ≡ true → is_closed p.node.kind p.node.text ≡ false
statement_open p e h = rw e (ap (λ b. not (true && b)) h)

loose_open : (p : Place) → p.node.kind ≡ kind.VariableDeclarator → is_closed p.node.kind p.node.text ≡ false
loose_open p e = rw e refl

pub entering_by_var : (k : AstType) (p : Place) → p.node.kind ≡ k → AllByVar p (declared_by k p)
entering_by_var k p e = each_on_entering (λ d. IsByVar p d.how d.route.target) (λ how r. IsByVar p how r.target) (λ node row is_pure name h. h) k p (record {
  at_home = tt;
  when_caught = tt;
  when_hoisted = λ q. (loose_open p (e ∙ q), λ t f. outward_target p.chain t f);
  when_moved = λ q s b. (statement_open p (e ∙ q) s, λ t f. past_target p.chain t (not_var p b) f);
  when_inferred = tt;
})

-- a scope above another
abbrev pub above : ℕ → ℕ → Bool
above c s = nat_lt c s

pub above_is : (c s : ℕ) → c < s → above c s ≡ true
above_is c s l = (Decides-ltb c s).1 l

pub above_not : (c s : ℕ) → s ≤ c → above c s ≡ false
above_not c s l = by (nat_lt c s) refl
  where
    by : (t : Bool) → nat_lt c s ≡ t → t ≡ false
    by true e = let q : c < s = (Decides-ltb c s).0 e in absurd (omega (arith, q, l))
    by false e = refl

-- each event is on one side of the scope
pub record OneSided (c : ℕ) (e : Event) : Type 0 where
  pub side : Bool
  pub touches : Touches (above c) side e

abbrev pub AllOneSided : ℕ → List Event → Type 0
AllOneSided c [] = Unit {0}
AllOneSided c (e ∷ es) = OneSided c e × AllOneSided c es

pub one-append : (c : ℕ) (es fs : List Event) → AllOneSided c es → AllOneSided c fs → AllOneSided c (es ++ fs)
one-append c [] fs h k = k
one-append c (e ∷ es) fs h k = (h.0, one-append c es fs h.1 k)

chain_above : (c n : ℕ) (passed : List OpenScope) (target : OpenScope) (rest : List OpenScope) → Descends n (passed ++ target ∷ rest) → c < target.number → ChainOn (above c) true passed
chain_above c n [] target rest h l = tt
chain_above c n (s ∷ ss) target rest h l = (above_is c s.number (omega (arith, target_below s.number ss target rest h.1, l)), chain_above c s.number ss target rest h.1 l)

-- one that reaches past scopes stays above a header that holds it
far_sided : (c n : ℕ) (p : Place) (how : How) (d : Declaration) → d.how ≡ how → GoesOut p.chain d → Descends n (grounded p.chain) → IsByVar p how d.route.target → (is_closed p.node.kind p.node.text ≡ true) ⊎ VarAbove c p.chain → OneSided c (declares d)
far_sided c n p plain d e g k v s = record { side = above c d.route.target.number; touches = λ side. (refl, rw e tt) }
far_sided c n p caught d e g k v s = record { side = above c d.route.target.number; touches = λ side. (refl, rw e tt) }
far_sided c n p hoisted d e g k v (inl q) = let w : true ≡ false = sym q ∙ v.0 in absurd cc
far_sided c n p hoisted d e g k v (inr a) =
    let t : d.route.target ≡ a.next = v.1 a.next a.is in
    let l : c < d.route.target.number = subst (λ (o : OpenScope). c < o.number) (sym t) a.above in
    record { side = true; touches = way_touches (above c) true d (chain_above c n d.route.passed d.route.target g.rest (subst (Descends n) (sym g.is) k) l) (above_is c d.route.target.number l) }
far_sided c n p moved d e g k v (inl q) = let w : true ≡ false = sym q ∙ v.0 in absurd cc
far_sided c n p moved d e g k v (inr a) =
    let t : d.route.target ≡ a.next = v.1 a.next a.is in
    let l : c < d.route.target.number = subst (λ (o : OpenScope). c < o.number) (sym t) a.above in
    record { side = true; touches = way_touches (above c) true d (chain_above c n d.route.passed d.route.target g.rest (subst (Descends n) (sym g.is) k) l) (above_is c d.route.target.number l) }

placed_by_var : (p : Place) (how : How) (ds : List Declaration) (d : Declaration) → d.how ≡ how → IsByVar p how d.route.target → IsByVar p (placed_by how ds d).how (placed_by how ds d).route.target
placed_by_var p plain ds d e v = rw e tt
placed_by_var p caught ds d e v = rw e tt
placed_by_var p hoisted ds d e v = rw e v
placed_by_var p moved ds d e v = go (is_barred ds d (outside d.route.passed))
  where
    go : (b : Bool) → IsByVar p (if b then staying_declaration d else d).how (if b then staying_declaration d else d).route.target
    go true = tt
    go false = rw e v

declares_sided : (c n : ℕ) (p : Place) (ds new : List Declaration) → AllGoOut p.chain new → AllByVar p new → Descends n (grounded p.chain) → (is_closed p.node.kind p.node.text ≡ true) ⊎ VarAbove c p.chain → AllOneSided c (declares_all ds new)
declares_sided c n p ds [] g v k s = tt
declares_sided c n p ds (d ∷ new) g v k s =
    let there : Declaration = placed ds d in
    (far_sided c n p there.how there refl (placed_goes p.chain d.how ds d g.0) k (placed_by_var p d.how ds d refl v.0) s, declares_sided c n p ds new g.1 v.1 k s)

pub entering_sided : (c n : ℕ) (p : Place) (ds : List Declaration) → AllGoOut p.chain (declared_on_entering p) → Descends n (grounded p.chain) → (is_closed p.node.kind p.node.text ≡ true) ⊎ VarAbove c p.chain → AllOneSided c (declares_all ds (declared_on_entering p))
entering_sided c n p ds g k s = declares_sided c n p ds (declared_on_entering p) g (entering_by_var p.node.kind p refl) k s
