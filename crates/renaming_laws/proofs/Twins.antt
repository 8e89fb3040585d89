-- Programs that differ in names alone, with namespaces of the same states, have the same events but for names.
use Rattle.std.proofs.Common.{◌≡◌, List, [], ◌∷◌, ◌++◌, Option, Some, None, cond, Bool, true, false, ◌&&◌, if◌then◌else◌, refl, sym, ap, subst, ◌∙◌, flat_map}
use Rattle.std.specs.List.{cons_option}
use Rattle.semantic_kinds.specs.Kinds.{same_kind}
use Rattle.semantic_kinds.specs.Roles.{same_role}
use Rattle.semantic_kinds.specs.declared.kind.AstType.TheVariants as kind
use Rattle.semantic_kinds.specs.declared.role.Role.TheVariants as role
use Rattle.semantic_syntax.specs.Tables.{Name}
use Rattle.semantic_tree.specs.Views.{is}
use Rattle.semantic_model.specs.Binder.{declared_by, declared_on_entering, declared_on_opening, namespace_row}
use Rattle.semantic_model.specs.Declaration.{How, plain, hoisted, moved, caught, Declaration}
use Rattle.semantic_model.specs.Event.{Event, declares, takes_over, ends_header, written_declarations, is_barred, staying_declaration, placed_by, placed, taken_over, declares_all, events_of, events}
use Rattle.semantic_model.specs.Namespace.{InstanceState, instance_state, nodes_around}
use Rattle.semantic_model.specs.NamespaceStates.{state_at, namespace_states}
use Rattle.semantic_model.specs.Naming.{Naming}
use Rattle.semantic_model.specs.Place.{Place, OpenScope, innermost, outside}
use Rattle.semantic_model.specs.Step.{Step, entering, opening, header_ending, closing, leaving}
use Rattle.semantic_model.proofs.form.Clauses.{kind_is}
use Rattle.semantic_model.proofs.swapped.AlikeBinder.{renamed_declaration, ren, parent_kind}
use Rattle.semantic_model.proofs.swapped.AlikeSteps.{SamePlace, AlikeStep, AlikeSteps}
use Rattle.semantic_model.proofs.swapped.AlikeDeclares.{namespace_same, facts, entering_same, opening_same}

-- ---- declarations and events that differ in names alone

-- no name is left
abbrev pub nameless : Name → Name
nameless x = []

abbrev pub unnamed : Naming → Naming
unnamed n = record n { name = [] }

abbrev pub TwinEvent : Event → Event → Type 0
TwinEvent (declares d) (declares e) = unnamed d.naming ≡ unnamed e.naming
TwinEvent (takes_over c b) (takes_over c' b') = (c ≡ c') × (b ≡ b')
TwinEvent (ends_header c) (ends_header c') = c ≡ c'
TwinEvent _ _ = ⊥

abbrev pub TwinEvents : List Event → List Event → Type 0
TwinEvents [] [] = Unit {0}
TwinEvents (x ∷ xs) (y ∷ ys) = TwinEvent x y × TwinEvents xs ys
TwinEvents _ _ = ⊥

pub twins_append : (xs ys us vs : List Event) → TwinEvents xs ys → TwinEvents us vs → TwinEvents (xs ++ us) (ys ++ vs)
twins_append [] [] us vs h i = i
twins_append [] (y ∷ ys) us vs h i = absurd h
twins_append (x ∷ xs) [] us vs h i = absurd h
twins_append (x ∷ xs) (y ∷ ys) us vs h i = (h.0, twins_append xs ys us vs h.1 i)

-- where a block function goes is no matter of its naming
unnamed_placed : (how : How) (ds : List Declaration) (d : Declaration) → unnamed (placed_by how ds d).naming ≡ unnamed d.naming
unnamed_placed plain ds d = refl
unnamed_placed hoisted ds d = refl
unnamed_placed caught ds d = refl
unnamed_placed moved ds d = go (is_barred ds d (outside d.route.passed))
  where
    go : (b : Bool) → unnamed (if b then staying_declaration d else d).naming ≡ unnamed d.naming
    go true = refl
    go false = refl

placed_twins : (ds es : List Declaration) (d e : Declaration) → renamed_declaration nameless d ≡ renamed_declaration nameless e → unnamed (placed ds d).naming ≡ unnamed (placed es e).naming
placed_twins ds es d e h = unnamed_placed d.how ds d ∙ ap (λ (x : Declaration). x.naming) h ∙ sym (unnamed_placed e.how es e)

-- ---- steps

module _ (f : Name → Name) where
  -- two places that differ in names alone from a third
  pub record Twins (x y : Place) : Type 0 where
    pub between : Place
    pub left : SamePlace f x between
    pub right : SamePlace f y between

  abbrev pub TwinStep : Step → Step → Type 0
  TwinStep (entering x) (entering y) = Twins x y
  TwinStep (opening x s) (opening y t) = Twins x y × (t ≡ s)
  TwinStep (header_ending x s) (header_ending y t) = Twins x y × (t ≡ s)
  TwinStep (closing x s) (closing y t) = Twins x y × (t ≡ s)
  TwinStep (leaving x) (leaving y) = Twins x y
  TwinStep _ _ = ⊥

  abbrev pub TwinSteps : List Step → List Step → Type 0
  TwinSteps [] [] = Unit {0}
  TwinSteps (x ∷ xs) (y ∷ ys) = TwinStep x y × TwinSteps xs ys
  TwinSteps _ _ = ⊥

  twins : (x y z : Place) → SamePlace f x z → SamePlace f y z → Twins x y
  twins x y z h k = record { between = z; left = h; right = k }

  twin_step : (x y z : Step) → AlikeStep f x z → AlikeStep f y z → TwinStep x y
  twin_step (entering x) (entering y) (entering z) h k = twins x y z h k
  twin_step (opening x s) (opening y t) (opening z u) h k = (twins x y z h.0 k.0, sym k.1 ∙ h.1)
  twin_step (header_ending x s) (header_ending y t) (header_ending z u) h k = (twins x y z h.0 k.0, sym k.1 ∙ h.1)
  twin_step (closing x s) (closing y t) (closing z u) h k = (twins x y z h.0 k.0, sym k.1 ∙ h.1)
  twin_step (leaving x) (leaving y) (leaving z) h k = twins x y z h k
  twin_step (entering x) _ (entering z) h k = absurd k
  twin_step (opening x s) _ (opening z u) h k = absurd k
  twin_step (header_ending x s) _ (header_ending z u) h k = absurd k
  twin_step (closing x s) _ (closing z u) h k = absurd k
  twin_step (leaving x) _ (leaving z) h k = absurd k
  twin_step _ _ _ h k = absurd h

  pub twin_steps : (xs ys zs : List Step) → AlikeSteps f xs zs → AlikeSteps f ys zs → TwinSteps xs ys
  twin_steps [] [] [] h k = tt
  twin_steps (x ∷ xs) (y ∷ ys) (z ∷ zs) h k = (twin_step x y z h.0 k.0, twin_steps xs ys zs h.1 k.1)
  twin_steps [] (y ∷ ys) [] h k = absurd k
  twin_steps (x ∷ xs) [] (z ∷ zs) h k = absurd k
  twin_steps [] ys (z ∷ zs) h k = absurd h
  twin_steps (x ∷ xs) ys [] h k = absurd h

  -- the kind of a place is no name
  same_kinds : (x y : Place) → Twins x y → x.node.kind ≡ y.node.kind
  same_kinds x y w = sym (ap (λ (p : Place). p.node.kind) w.left.is) ∙ ap (λ (p : Place). p.node.kind) w.right.is

  namespace_between : (x z : Place) → SamePlace f x z → (s : InstanceState) → namespace_row s z ≡ ren f (namespace_row s x)
  namespace_between x z h s = ap (namespace_row s) h.is ∙ namespace_same f s x h.u h.g h.path (facts f x z h)

  some_state : (a b : InstanceState) → ◌≡◌ {A = Option InstanceState} (Some a) (Some b) → a ≡ b
  some_state a b e = cc

  declared_in_namespace : (x y : Place) → Twins x y → kind.TSNamespaceDeclaration ≡ x.node.kind → state_at (entering x) ≡ state_at (entering y) → ren f (declared_on_entering x) ≡ ren f (declared_on_entering y)
  declared_in_namespace x y w k e =
      let k' : kind.TSNamespaceDeclaration ≡ y.node.kind = k ∙ same_kinds x y w in
      let sx : InstanceState = instance_state x.node x.path (nodes_around x.node x.path) in
      let sy : InstanceState = instance_state y.node y.path (nodes_around y.node y.path) in
      let left : state_at (entering x) ≡ Some sx = ap (λ j. cond (same_kind j kind.TSNamespaceDeclaration) (Some sx) None) (sym k) in
      let right : state_at (entering y) ≡ Some sy = ap (λ j. cond (same_kind j kind.TSNamespaceDeclaration) (Some sy) None) (sym k') in
      let same : sx ≡ sy = some_state sx sy (sym left ∙ e ∙ right) in
      ap (λ j. ren f (declared_by j x)) (sym k)
      ∙ sym (namespace_between x w.between w.left sx) ∙ ap (λ s. namespace_row s w.between) same ∙ namespace_between y w.between w.right sy
      ∙ ap (λ j. ren f (declared_by j y)) k'

  pub declared_twins : (x y : Place) → Twins x y → state_at (entering x) ≡ state_at (entering y) → ren f (declared_on_entering x) ≡ ren f (declared_on_entering y)
  declared_twins x y w e = go (same_kind x.node.kind kind.TSNamespaceDeclaration) refl
    where
      go : (b : Bool) → same_kind x.node.kind kind.TSNamespaceDeclaration ≡ b → ren f (declared_on_entering x) ≡ ren f (declared_on_entering y)
      go true k = declared_in_namespace x y w (sym (kind_is x.node.kind kind.TSNamespaceDeclaration k)) e
      go false k =
          sym (entering_same f x w.between w.left k)
          ∙ entering_same f y w.between w.right (ap (λ j. same_kind j kind.TSNamespaceDeclaration) (sym (same_kinds x y w)) ∙ k)

  pub inside_twins : (x y : Place) (own : OpenScope) → Twins x y → ren f (declared_on_opening x own) ≡ ren f (declared_on_opening y own)
  inside_twins x y own w = sym (opening_same f x w.between own w.left) ∙ opening_same f y w.between own w.right

  pub taken_twins : (x y : Place) (s : OpenScope) → Twins x y → taken_over x s ≡ taken_over y s
  taken_twins x y s w = sym (taken_between x w.between s w.left) ∙ taken_between y w.between s w.right
    where
      taken_between : (p q : Place) (o : OpenScope) → SamePlace f p q → taken_over q o ≡ taken_over p o
      taken_between p q o h =
          ap (λ x. taken_over x o) h.is
          ∙ ap (λ b. cond (is kind.BlockStatement p.node && same_role p.role role.Body && b) (takes_over (innermost p.chain).number o.number ∷ []) []) (parent_kind f kind.CatchClause p.path h.path h.above)

-- ---- events

abbrev pub unnamed_all : List Declaration → List Declaration
unnamed_all ds = ren nameless ds

all_twins : (ds es new old : List Declaration) → unnamed_all new ≡ unnamed_all old → TwinEvents (declares_all ds new) (declares_all es old)
all_twins ds es [] [] h = tt
all_twins ds es [] (e ∷ old) h = absurd cc
all_twins ds es (d ∷ new) [] h = absurd cc
all_twins ds es (d ∷ new) (e ∷ old) h = (placed_twins ds es d e (first_is d e new old h), all_twins ds es new old (rest_is d e new old h))
  where
    first_is : (d e : Declaration) (new old : List Declaration) → unnamed_all (d ∷ new) ≡ unnamed_all (e ∷ old) → renamed_declaration nameless d ≡ renamed_declaration nameless e
    first_is d e new old h = cc

    rest_is : (d e : Declaration) (new old : List Declaration) → unnamed_all (d ∷ new) ≡ unnamed_all (e ∷ old) → unnamed_all new ≡ unnamed_all old
    rest_is d e new old h = cc

same_events : (es : List Event) → ((e : Event) → TwinEvent e e) → TwinEvents es es
same_events [] h = tt
same_events (e ∷ es) h = (h e, same_events es h)

self_twin : (e : Event) → TwinEvent e e
self_twin (declares d) = refl
self_twin (takes_over c b) = (refl, refl)
self_twin (ends_header c) = refl

pub step_twins : (ds es : List Declaration) (x y : Step) → TwinStep nameless x y → state_at x ≡ state_at y → TwinEvents (events_of ds x) (events_of es y)
step_twins ds es (entering x) (entering y) w e = all_twins ds es (declared_on_entering x) (declared_on_entering y) (declared_twins nameless x y w e)
step_twins ds es (opening x s) (opening y t) w e =
    subst (λ o. TwinEvents (events_of ds (opening x s)) (events_of es (opening y o))) (sym w.1)
    (twins_append (taken_over x s) (taken_over y s) (declares_all ds (declared_on_opening x s)) (declares_all es (declared_on_opening y s))
    (subst (TwinEvents (taken_over x s)) (taken_twins nameless x y s w.0) (same_events (taken_over x s) self_twin))
    (all_twins ds es (declared_on_opening x s) (declared_on_opening y s) (inside_twins nameless x y s w.0)))
step_twins ds es (header_ending x s) (header_ending y t) w e = (ap (λ (o : OpenScope). o.number) (sym w.1), tt)
step_twins ds es (closing x s) (closing y t) w e = tt
step_twins ds es (leaving x) (leaving y) w e = tt
step_twins ds es _ _ w e = absurd w

-- states in the same order belong to the same namespaces
pub first_states : (x y : Step) (xs ys : List Step) → TwinStep nameless x y → namespace_states (x ∷ xs) ≡ namespace_states (y ∷ ys) → (state_at x ≡ state_at y) × (namespace_states xs ≡ namespace_states ys)
first_states (entering x) (entering y) xs ys w e = go (same_kind x.node.kind kind.TSNamespaceDeclaration) refl e
  where
    sx : InstanceState
    sx = instance_state x.node x.path (nodes_around x.node x.path)

    sy : InstanceState
    sy = instance_state y.node y.path (nodes_around y.node y.path)

    heads : (b : Bool) → cons_option (cond b (Some sx) None) (namespace_states xs) ≡ cons_option (cond b (Some sy) None) (namespace_states ys) → (cond b (Some sx) None ≡ cond b (Some sy) None) × (namespace_states xs ≡ namespace_states ys)
    heads true h = (cc, cc)
    heads false h = (refl, h)

    by : (b : Bool) → same_kind x.node.kind kind.TSNamespaceDeclaration ≡ b → same_kind y.node.kind kind.TSNamespaceDeclaration ≡ b → namespace_states (entering x ∷ xs) ≡ namespace_states (entering y ∷ ys) → (state_at (entering x) ≡ state_at (entering y)) × (namespace_states xs ≡ namespace_states ys)
    by b k k' h =
        let h' : cons_option (cond b (Some sx) None) (namespace_states xs) ≡ cons_option (cond b (Some sy) None) (namespace_states ys) = sym (ap (λ t. cons_option (cond t (Some sx) None) (namespace_states xs)) k) ∙ h ∙ ap (λ t. cons_option (cond t (Some sy) None) (namespace_states ys)) k' in
        let (first, rest) = heads b h' in
        (ap (λ t. cond t (Some sx) None) k ∙ first ∙ sym (ap (λ t. cond t (Some sy) None) k'), rest)

    go : (b : Bool) → same_kind x.node.kind kind.TSNamespaceDeclaration ≡ b → namespace_states (entering x ∷ xs) ≡ namespace_states (entering y ∷ ys) → (state_at (entering x) ≡ state_at (entering y)) × (namespace_states xs ≡ namespace_states ys)
    go b k h =
        let k' : same_kind y.node.kind kind.TSNamespaceDeclaration ≡ b = ap (λ j. same_kind j kind.TSNamespaceDeclaration) (sym (same_kinds nameless x y w)) ∙ k in
        by b k k' h
first_states (opening x s) (opening y t) xs ys w e = (refl, e)
first_states (header_ending x s) (header_ending y t) xs ys w e = (refl, e)
first_states (closing x s) (closing y t) xs ys w e = (refl, e)
first_states (leaving x) (leaving y) xs ys w e = (refl, e)
first_states _ _ xs ys w e = absurd w

-- where no namespace is, there is none among the other steps
pub no_states : (xs ys : List Step) → TwinSteps nameless xs ys → namespace_states xs ≡ [] → namespace_states ys ≡ []
no_states [] [] w e = refl
no_states [] (y ∷ ys) w e = absurd w
no_states (x ∷ xs) [] w e = absurd w
no_states (entering x ∷ xs) (entering y ∷ ys) w e = go (same_kind x.node.kind kind.TSNamespaceDeclaration) refl (no_states xs ys w.1)
  where
    sx : InstanceState
    sx = instance_state x.node x.path (nodes_around x.node x.path)

    sy : InstanceState
    sy = instance_state y.node y.path (nodes_around y.node y.path)

    of_left : (b : Bool) → cons_option (cond b (Some sx) None) (namespace_states xs) ≡ [] → (b ≡ false) × (namespace_states xs ≡ [])
    of_left true h = absurd cc
    of_left false h = (refl, h)

    go : (b : Bool) → same_kind x.node.kind kind.TSNamespaceDeclaration ≡ b → (namespace_states xs ≡ [] → namespace_states ys ≡ []) → namespace_states (entering y ∷ ys) ≡ []
    go b k more =
        let (f, rest) = of_left b (subst (λ t. cons_option (cond t (Some sx) None) (namespace_states xs) ≡ []) k e) in
        let k' : same_kind y.node.kind kind.TSNamespaceDeclaration ≡ false = ap (λ j. same_kind j kind.TSNamespaceDeclaration) (sym (same_kinds nameless x y w.0)) ∙ k ∙ f in
        subst (λ t. cons_option (cond t (Some sy) None) (namespace_states ys) ≡ []) (sym k') (more rest)
no_states (opening x s ∷ xs) (opening y t ∷ ys) w e = no_states xs ys w.1 e
no_states (header_ending x s ∷ xs) (header_ending y t ∷ ys) w e = no_states xs ys w.1 e
no_states (closing x s ∷ xs) (closing y t ∷ ys) w e = no_states xs ys w.1 e
no_states (leaving x ∷ xs) (leaving y ∷ ys) w e = no_states xs ys w.1 e
no_states (_ ∷ xs) (_ ∷ ys) w e = absurd w.0

pub all_step_twins : (ds es : List Declaration) (xs ys : List Step) → TwinSteps nameless xs ys → namespace_states xs ≡ namespace_states ys → TwinEvents (flat_map (events_of ds) xs) (flat_map (events_of es) ys)
all_step_twins ds es [] [] w e = tt
all_step_twins ds es [] (y ∷ ys) w e = absurd w
all_step_twins ds es (x ∷ xs) [] w e = absurd w
all_step_twins ds es (x ∷ xs) (y ∷ ys) w e =
    let (first, rest) = first_states x y xs ys w.0 e in
    twins_append (events_of ds x) (events_of es y) (flat_map (events_of ds) xs) (flat_map (events_of es) ys) (step_twins ds es x y w.0 first) (all_step_twins ds es xs ys w.1 rest)

-- programs that differ in names alone have events that do
pub events_twins : (xs ys : List Step) → TwinSteps nameless xs ys → namespace_states xs ≡ namespace_states ys → TwinEvents (events xs) (events ys)
events_twins xs ys w e = all_step_twins (written_declarations xs) (written_declarations ys) xs ys w e
