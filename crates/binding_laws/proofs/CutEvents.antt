-- What declares in a scope before the end of its header, and what behind it.
use Rattle.std.proofs.Common.{◌≡◌, ℕ, ◌<◌, ◌==◌, List, [], ◌∷◌, ◌++◌, Bool, true, false, ◌||◌, ◌⊎◌, inl, inr, refl, sym, ap, subst, ◌∙◌, if◌then◌else◌, arith}
use Rattle.std.proofs.lemmas.Bool.{ne_eqb, and_from, or_right}
use Rattle.std.proofs.lemmas.Bool.Decides.{eqb_tells}
use Rattle.semantic_model.specs.Place.{Place, OpenScope, outside}
use Rattle.semantic_model.specs.Declaration.{How, plain, hoisted, moved, caught, Declaration}
use Rattle.semantic_model.specs.Event.{Event, declares, takes_over, ends_header, is_barred, staying_declaration, placed_by, placed, declares_all}
use Rattle.semantic_model.specs.Naming.{Naming}
use Rattle.semantic_model.specs.Tie.{is_end_of}
use Rattle.semantic_syntax.specs.Members.{contains}
use Rattle.semantic_model.proofs.fold.EachDeclared.{EachDeclared}
use Rattle.walk_model.proofs.places.Nested.{Descends}
use Rattle.walk_model.proofs.places.Routes.{grounded, GoesOut, AllGoOut, placed_goes, target_below}
use Rattle.walk_model.proofs.headers.Sides.{ArePassedOn}
use Rattle.walk_model.proofs.headers.NoStatements.{is_closed}
use Rattle.walk_model.proofs.headers.Headed.{VarAbove, AllMatch}
use Rattle.walk_model.proofs.headers.TouchedScopes.{Touches, ChainOn, AllTouch, way_touches, IsByVar, AllByVar}
use Rattle.binding_laws.proofs.DeclaredMade.{placed_naming}
use Rattle.binding_laws.specs.SeenDeclarations.{is_own_name, stands_before_body}
use Rattle.binding_laws.proofs.OwnNames.{IsOther, AllOther, IsOwnName}

-- the scope is that of the number
abbrev pub is_scope : ℕ → ℕ → Bool
is_scope c s = s == c

-- in its scope itself, or as a catch name does
abbrev pub IsSimple : Declaration → Type 0
IsSimple d = (d.how ≡ plain) ⊎ (d.how ≡ caught)

-- a declaration of the header, or of the own name
pub record InHeader (c : ℕ) (d : Declaration) : Type 0 where
  pub target : d.route.target.number ≡ c
  pub simple : IsSimple d
  pub counts : stands_before_body c d ≡ true

-- before the header ends, a declaration is one of these, or leaves the scope alone, as other events do
abbrev pub IsBefore : ℕ → Event → Type 0
IsBefore c (declares d) = InHeader c d ⊎ Touches (is_scope c) false (declares d)
IsBefore c (takes_over a b) = Touches (is_scope c) false (takes_over a b)
IsBefore c (ends_header d) = Unit {0}

abbrev pub AllBefore : ℕ → List Event → Type 0
AllBefore c [] = Unit {0}
AllBefore c (e ∷ es) = (is_end_of c e ≡ false) × IsBefore c e × AllBefore c es

-- behind it, none is
abbrev pub IsBehind : ℕ → Event → Type 0
IsBehind c (declares d) = stands_before_body c d ≡ false
IsBehind c (takes_over a b) = Unit {0}
IsBehind c (ends_header d) = Unit {0}

abbrev pub AllBehind : ℕ → List Event → Type 0
AllBehind c [] = Unit {0}
AllBehind c (e ∷ es) = IsBehind c e × AllBehind c es

-- events that are cut by the end of the header
pub data Cut (c : ℕ) : List Event → Type 0 where
  no_end : Cut c []
  ended : (d : ℕ) (es : List Event) → (d == c) ≡ true → AllBehind c es → Cut c (ends_header d ∷ es)
  not_yet : (e : Event) (es : List Event) → is_end_of c e ≡ false → IsBefore c e → Cut c es → Cut c (e ∷ es)

pub cut-append : (c : ℕ) (xs ys : List Event) → AllBefore c xs → Cut c ys → Cut c (xs ++ ys)
cut-append c [] ys h k = k
cut-append c (x ∷ xs) ys h k = not_yet x (xs ++ ys) h.0 h.1 (cut-append c xs ys h.2 k)

pub before-append : (c : ℕ) (xs ys : List Event) → AllBefore c xs → AllBefore c ys → AllBefore c (xs ++ ys)
before-append c [] ys h k = k
before-append c (x ∷ xs) ys h k = (h.0, h.1, before-append c xs ys h.2 k)

pub behind-append : (c : ℕ) (xs ys : List Event) → AllBehind c xs → AllBehind c ys → AllBehind c (xs ++ ys)
behind-append c [] ys h k = k
behind-append c (x ∷ xs) ys h k = (h.0, behind-append c xs ys h.1 k)

-- a declaration into another scope
pub elsewhere : (c : ℕ) (d : Declaration) → (d.route.target.number ≡ c → ⊥) → stands_before_body c d ≡ false
elsewhere c d n = elim (eqb_tells d.route.target.number c) [ inl e ↦ absurd (n e.1) | inr e ↦ rw e.0 refl ]

in_body : (c : ℕ) (d : Declaration) → (d.route.target.number ≡ c → d.route.target.in_header ≡ false) → IsOther d → stands_before_body c d ≡ false
in_body c d h o = elim (eqb_tells d.route.target.number c) [ inl e ↦ rw (e.0, h e.1, o) refl | inr e ↦ rw e.0 refl ]

pub placed_other : (ds : List Declaration) (d : Declaration) → IsOther d → IsOther (placed ds d)
placed_other ds d h = subst (λ (n : Naming). is_own_name (record d { naming = n }) ≡ false) (sym (placed_naming d.how ds d)) h

match_of : (aw : List ℕ) (xs : List OpenScope) (t : OpenScope) (rest : List OpenScope) → AllMatch aw (xs ++ t ∷ rest) → t.in_header ≡ contains aw t.number
match_of aw [] t rest h = h.0
match_of aw (x ∷ xs) t rest h = match_of aw xs t rest h.1

-- the target of a declaration is one of the chain
target_matches : (c : ℕ) (aw : List ℕ) (chain : List OpenScope) (d : Declaration) → GoesOut chain d → AllMatch aw (grounded chain) → d.route.target.number ≡ c → d.route.target.in_header ≡ contains aw c
target_matches c aw chain d g m e = match_of aw d.route.passed d.route.target g.rest (subst (AllMatch aw) (sym g.is) m) ∙ ap (contains aw) e

-- what is written behind the header stands in the body
pub entering_behind : (c : ℕ) (aw : List ℕ) (chain : List OpenScope) (ds new : List Declaration) → AllGoOut chain new → AllMatch aw (grounded chain) → contains aw c ≡ false → AllOther new → AllBehind c (declares_all ds new)
entering_behind c aw chain ds [] g m n o = tt
entering_behind c aw chain ds (d ∷ new) g m n o = (
  in_body c (placed ds d) (λ e. target_matches c aw chain (placed ds d) (placed_goes chain d.how ds d g.0) m e ∙ n) (placed_other ds d o.0),
  entering_behind c aw chain ds new g.1 m n o.1,
)

-- into the own scope
abbrev pub IsOwnPlain : OpenScope → Declaration → Type 0
IsOwnPlain s d = (d.how ≡ plain) × (d.route.target.number ≡ s.number)

pub placed_plain : (how : How) (ds : List Declaration) (d : Declaration) → how ≡ plain → placed_by how ds d ≡ d
placed_plain plain ds d e = refl
placed_plain hoisted ds d e = absurd cc
placed_plain moved ds d e = absurd cc
placed_plain caught ds d e = absurd cc

pub opening_behind : (c : ℕ) (s : OpenScope) (ds new : List Declaration) → (s.number ≡ c → ⊥) → EachDeclared (IsOwnPlain s) new → AllBehind c (declares_all ds new)
opening_behind c s ds [] n h = tt
opening_behind c s ds (d ∷ new) n h = (
  subst (λ x. stands_before_body c x ≡ false) (sym (placed_plain d.how ds d h.0.0)) (elsewhere c d (λ e. n (sym h.0.1 ∙ e))),
  opening_behind c s ds new n h.1,
)

quiet : (c : ℕ) (side : ℕ → Bool) (d : Declaration) → IsSimple d → ArePassedOn (is_scope c) side false d.how d
quiet c side d (inl e) = rw e tt
quiet c side d (inr e) = rw e tt

simple_before : (c : ℕ) (d : Declaration) → IsSimple d → (d.route.target.number ≡ c → (d.route.target.in_header || is_own_name d) ≡ true) → IsBefore c (declares d)
simple_before c d s h = elim (eqb_tells d.route.target.number c) [
  | inl q ↦ inl (record { target = q.1; simple = s; counts = and_from (d.route.target.number == c) (d.route.target.in_header || is_own_name d) q.0 (h q.1) })
  | inr q ↦ inr (λ side. (q.0, quiet c side d s))
]

chain_apart : (c n : ℕ) (passed : List OpenScope) (target : OpenScope) (rest : List OpenScope) → Descends n (passed ++ target ∷ rest) → c < target.number → ChainOn (is_scope c) false passed
chain_apart c n [] target rest h l = tt
chain_apart c n (s ∷ ss) target rest h l = (ne_eqb s.number c (λ e. absurd (omega (arith, e, target_below s.number ss target rest h.1, l))), chain_apart c s.number ss target rest h.1 l)

far_touches : (c n : ℕ) (chain : List OpenScope) (d : Declaration) → GoesOut chain d → Descends n (grounded chain) → c < d.route.target.number → Touches (is_scope c) false (declares d)
far_touches c n chain d g k l = way_touches (is_scope c) false d (chain_apart c n d.route.passed d.route.target g.rest (subst (Descends n) (sym g.is) k) l) (ne_eqb d.route.target.number c (λ e. absurd (omega (arith, e, l))))

-- while the header lasts, what reaches past scopes stays within
before_one : (c n : ℕ) (p : Place) (how : How) (d : Declaration) → d.how ≡ how → GoesOut p.chain d → Descends n (grounded p.chain) → IsByVar p how d.route.target → (is_closed p.node.kind p.node.text ≡ true) ⊎ VarAbove c p.chain
    → (d.route.target.number ≡ c → d.route.target.in_header ≡ true) → IsBefore c (declares d)
before_one c n p plain d e g k v s t = simple_before c d (inl e) (λ q. rw (t q) refl)
before_one c n p caught d e g k v s t = simple_before c d (inr e) (λ q. rw (t q) refl)
before_one c n p hoisted d e g k v (inl q) t = let w : true ≡ false = sym q ∙ v.0 in absurd cc
before_one c n p hoisted d e g k v (inr a) t = inr (far_touches c n p.chain d g k (subst (λ (o : OpenScope). c < o.number) (sym (v.1 a.next a.is)) a.above))
before_one c n p moved d e g k v (inl q) t = let w : true ≡ false = sym q ∙ v.0 in absurd cc
before_one c n p moved d e g k v (inr a) t = inr (far_touches c n p.chain d g k (subst (λ (o : OpenScope). c < o.number) (sym (v.1 a.next a.is)) a.above))

placed_by_var : (p : Place) (how : How) (ds : List Declaration) (d : Declaration) → d.how ≡ how → IsByVar p how d.route.target → IsByVar p (placed_by how ds d).how (placed_by how ds d).route.target
placed_by_var p plain ds d e v = rw e tt
placed_by_var p caught ds d e v = rw e tt
placed_by_var p hoisted ds d e v = rw e v
placed_by_var p moved ds d e v = go (is_barred ds d (outside d.route.passed))
  where
    go : (b : Bool) → IsByVar p (if b then staying_declaration d else d).how (if b then staying_declaration d else d).route.target
    go true = tt
    go false = rw e v

pub entering_before : (c n : ℕ) (aw : List ℕ) (p : Place) (ds new : List Declaration) → AllGoOut p.chain new → AllByVar p new → Descends n (grounded p.chain) → (is_closed p.node.kind p.node.text ≡ true) ⊎ VarAbove c p.chain → AllMatch aw (grounded p.chain) → contains aw c ≡ true
    → AllBefore c (declares_all ds new)
entering_before c n aw p ds [] g v k s m i = tt
entering_before c n aw p ds (d ∷ new) g v k s m i =
    let there : Declaration = placed ds d in
    let goes : GoesOut p.chain there = placed_goes p.chain d.how ds d g.0 in
    (refl, before_one c n p there.how there refl goes k (placed_by_var p d.how ds d refl v.0) s (λ e. target_matches c aw p.chain there goes m e ∙ i), entering_before c n aw p ds new g.1 v.1 k s m i)

-- what leaves the scope alone
pub touched_before : (c : ℕ) (ds new : List Declaration) → AllTouch (is_scope c) false (declares_all ds new) → AllBefore c (declares_all ds new)
touched_before c ds [] h = tt
touched_before c ds (d ∷ new) h = (refl, inr h.0, touched_before c ds new h.1)

-- what opens inside declares there
pub opening_before : (c : ℕ) (s : OpenScope) (ds new : List Declaration) → (s.number ≡ c → ⊥) → EachDeclared (IsOwnPlain s) new → AllBefore c (declares_all ds new)
opening_before c s ds [] n h = tt
opening_before c s ds (d ∷ new) n h = (
  refl,
  subst (λ x. IsBefore c (declares x)) (sym (placed_plain d.how ds d h.0.0)) (simple_before c d (inl h.0.0) (λ e. absurd (n (sym h.0.1 ∙ e)))),
  opening_before c s ds new n h.1,
)

-- the scope itself opens
pub own_before : (c : ℕ) (s : OpenScope) (ds new : List Declaration) → EachDeclared (IsOwnPlain s) new → EachDeclared IsOwnName new → AllBefore c (declares_all ds new)
own_before c s ds [] h o = tt
own_before c s ds (d ∷ new) h o = (
  refl,
  subst (λ x. IsBefore c (declares x)) (sym (placed_plain d.how ds d h.0.0)) (simple_before c d (inl h.0.0) (λ e. or_right d.route.target.in_header (is_own_name d) o.0)),
  own_before c s ds new h.1 o.1,
)
