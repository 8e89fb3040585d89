-- Where lists of parameters, parameters and their decorators stand, and what is round them.
use Rattle.std.proofs.Common.{◌≡◌, ℕ, ◌<◌, ◌≤◌, ◌==◌, List, [], ◌∷◌, ◌++◌, None, Bool, true, false, ◌&&◌, ◌||◌, not, cond, refl, sym, ap, subst, ◌∙◌, inl, inr, arith}
use Rattle.std.specs.List.{list_all}
use Rattle.std.proofs.lemmas.Bool.{ne_eqb, eq-eqb, and_from}
use Rattle.semantic_syntax.proofs.Truth.{and_first, and_second}
use Rattle.semantic_kinds.specs.Classes.{is_of, holds_kind}
use Rattle.semantic_kinds.specs.Kinds.{same_kind}
use Rattle.semantic_kinds.specs.Parts.{parts}
use Rattle.semantic_kinds.specs.Roles.{same_role}
use Rattle.semantic_kinds.specs.declared.kind.AstType.{AstType}
use Rattle.semantic_kinds.specs.declared.kind.AstType.TheVariants as kind
use Rattle.semantic_kinds.specs.declared.part.Part.{Part}
use Rattle.semantic_kinds.specs.declared.role.Role.{Role}
use Rattle.semantic_kinds.specs.declared.role.Role.TheVariants as role
use Rattle.semantic_syntax.specs.declared.source_type.SourceType.{SourceType}
use Rattle.semantic_tree.specs.Faults.{first_fault}
use Rattle.semantic_tree.specs.Tree.{Tree}
use Rattle.semantic_tree.specs.Views.{is}
use Rattle.semantic_tree.specs.declared.node.Node.{Node}
use Rattle.semantic_model.specs.Entries.{Among}
use Rattle.semantic_model.specs.Inside.{is_inside, is_parameter_decorator}
use Rattle.semantic_model.proofs.form.PartsHold.{passed_hold}
use Rattle.walk_model.proofs.places.Shapes.{holds_below, tree_holds}
use Rattle.binding_laws.proofs.SmallLaws.{never}
use Rattle.typescript_ties.specs.Containers.{Container, container_of, is_of_signature, parameter_containers, function_containers, containers_by, past_node, outside_function}
use Rattle.typescript_ties.specs.declared.container_kind.ContainerKind.TheVariants as container
use Rattle.typescript_ties.proofs.ChildPlaces.{same_truth, is_one_of, is_none_of, one_of, none_of}

-- ---- kinds

abbrev pub is_parameter_kind : AstType → Bool
is_parameter_kind k = holds_kind (kind.FormalParameter ∷ kind.FormalParameterRest ∷ []) k

-- a list of parameters, or one of them
abbrev pub is_list_kind : AstType → Bool
is_list_kind k = holds_kind (kind.FormalParameters ∷ []) k || is_parameter_kind k

-- what has a list of parameters
abbrev pub has_parameters : AstType → Bool
has_parameters k =
    holds_kind (kind.Function ∷ kind.ArrowFunctionExpression ∷ kind.TSFunctionType ∷ kind.TSConstructorType ∷ kind.TSCallSignatureDeclaration ∷ kind.TSConstructSignatureDeclaration ∷ kind.TSMethodSignature ∷ []) k

-- a decorator of a parameter is told by its role as by its kind
abbrev pub tells_decorator : AstType → Role → AstType → Bool
tells_decorator k r k2 = same_truth (is_parameter_decorator k r) (is_parameter_kind k && same_kind k2 kind.Decorator)

-- a list stands in the scope of what has it, and a parameter in a list; type parameters are no part of the program itself
abbrev pub stands_in_list : AstType → Role → AstType → Bool
stands_in_list k r k2 =
    ((has_parameters k && is_inside k r) || not (holds_kind (kind.FormalParameters ∷ []) k2)) && (same_kind k kind.FormalParameters || not (is_parameter_kind k2))

abbrev pub stands_deeper : AstType → AstType → Bool
stands_deeper k k2 = not (same_kind k kind.Program) || not (holds_kind (kind.TSTypeParameterDeclaration ∷ []) k2)

abbrev pub tells_parameters : AstType → Role → AstType → List ℕ → Bool
tells_parameters k r k2 text = tells_decorator k r k2 && (stands_in_list k r k2 && stands_deeper k k2)

decorator_part : AstType → List ℕ → Part → Bool
decorator_part k text part = not (is_parameter_kind k) || cond (same_role part.role role.Decorators) (is_one_of (kind.Decorator ∷ []) part.class) (is_none_of (kind.Decorator ∷ []) part.class text)

list_part : AstType → List ℕ → Part → Bool
list_part k text part =
    ((has_parameters k && is_inside k part.role) || is_none_of (kind.FormalParameters ∷ []) part.class text) && (same_kind k kind.FormalParameters || is_none_of (kind.FormalParameter ∷ kind.FormalParameterRest ∷ []) part.class text)

deeper_part : AstType → List ℕ → Part → Bool
deeper_part k text part = not (same_kind k kind.Program) || is_none_of (kind.TSTypeParameterDeclaration ∷ []) part.class text

parameters_part : AstType → List ℕ → Part → Bool
parameters_part k text part = decorator_part k text part && (list_part k text part && deeper_part k text part)

all_parts : (k : AstType) (text : List ℕ) → list_all (parameters_part k text) (parts k) ≡ true
unfolding parameters_part decorator_part list_part deeper_part
all_parts kind.Program text = refl
all_parts _ text = refl

flip : (k : AstType) → same_kind k kind.Decorator ≡ holds_kind (kind.Decorator ∷ []) k
flip kind.Decorator = refl
flip _ = refl

or_by : (a b c : Bool) → (b ≡ true → c ≡ true) → (a || b) ≡ true → (a || c) ≡ true
or_by true b c f h = refl
or_by false b c f h = f h

decorator_tells : (k : AstType) (part : Part) (k2 : AstType) (text : List ℕ) → decorator_part k text part ≡ true → is_of part.class k2 text ≡ true → tells_decorator k part.role k2 ≡ true
unfolding decorator_part
decorator_tells k part k2 text h i = go (is_parameter_kind k) (same_role part.role role.Decorators) h (same_kind k2 kind.Decorator)
    (λ e. flip k2 ∙ one_of (kind.Decorator ∷ []) part.class k2 text e i) (λ e. flip k2 ∙ none_of (kind.Decorator ∷ []) part.class k2 text e i)
  where
    go : (a b : Bool) → (not a || cond b (is_one_of (kind.Decorator ∷ []) part.class) (is_none_of (kind.Decorator ∷ []) part.class text)) ≡ true → (c : Bool)
        → (is_one_of (kind.Decorator ∷ []) part.class ≡ true → c ≡ true) → (is_none_of (kind.Decorator ∷ []) part.class text ≡ true → c ≡ false) → same_truth (a && b) (a && c) ≡ true
    go false b e c f g = refl
    go true true e c f g = f e
    go true false e c f g = ap not (g e)

list_tells : (k : AstType) (part : Part) (k2 : AstType) (text : List ℕ) → list_part k text part ≡ true → is_of part.class k2 text ≡ true → stands_in_list k part.role k2 ≡ true
unfolding list_part
list_tells k part k2 text h i =
    let a : Bool = (has_parameters k && is_inside k part.role) || is_none_of (kind.FormalParameters ∷ []) part.class text in
    let b : Bool = same_kind k kind.FormalParameters || is_none_of (kind.FormalParameter ∷ kind.FormalParameterRest ∷ []) part.class text in
    and_from ((has_parameters k && is_inside k part.role) || not (holds_kind (kind.FormalParameters ∷ []) k2)) (same_kind k kind.FormalParameters || not (is_parameter_kind k2))
    (or_by (has_parameters k && is_inside k part.role) (is_none_of (kind.FormalParameters ∷ []) part.class text) (not (holds_kind (kind.FormalParameters ∷ []) k2)) (λ e. ap not (none_of (kind.FormalParameters ∷ []) part.class k2 text e i)) (and_first a b h))
    (or_by (same_kind k kind.FormalParameters) (is_none_of (kind.FormalParameter ∷ kind.FormalParameterRest ∷ []) part.class text) (not (is_parameter_kind k2)) (λ e. ap not (none_of (kind.FormalParameter ∷ kind.FormalParameterRest ∷ []) part.class k2 text e i)) (and_second a b h))

deeper_tells : (k : AstType) (part : Part) (k2 : AstType) (text : List ℕ) → deeper_part k text part ≡ true → is_of part.class k2 text ≡ true → stands_deeper k k2 ≡ true
unfolding deeper_part
deeper_tells k part k2 text h i =
    or_by (not (same_kind k kind.Program)) (is_none_of (kind.TSTypeParameterDeclaration ∷ []) part.class text) (not (holds_kind (kind.TSTypeParameterDeclaration ∷ []) k2)) (λ e. ap not (none_of (kind.TSTypeParameterDeclaration ∷ []) part.class k2 text e i)) h

part_tells : (k : AstType) (part : Part) (k2 : AstType) (text : List ℕ) → parameters_part k text part ≡ true → is_of part.class k2 text ≡ true → tells_parameters k part.role k2 text ≡ true
unfolding parameters_part
part_tells k part k2 text h i =
    let rest : (list_part k text part && deeper_part k text part) ≡ true = and_second (decorator_part k text part) (list_part k text part && deeper_part k text part) h in
    and_from (tells_decorator k part.role k2) (stands_in_list k part.role k2 && stands_deeper k k2) (decorator_tells k part k2 text (and_first (decorator_part k text part) (list_part k text part && deeper_part k text part) h) i)
    (and_from (stands_in_list k part.role k2) (stands_deeper k k2) (list_tells k part k2 text (and_first (list_part k text part) (deeper_part k text part) rest) i) (deeper_tells k part k2 text (and_second (list_part k text part) (deeper_part k text part) rest) i))

pub tree_parameters : (p : Tree) → first_fault p ≡ None → holds_below tells_parameters p.root.kind p.root.children ≡ true
tree_parameters p h = tree_holds tells_parameters (λ k. passed_hold tells_parameters (parameters_part k) k (part_tells k) (parts k) (all_parts k)) p h

-- ---- what is outside of a function

-- all of a list stand at the node, or before it
abbrev pub AllAt : ℕ → List Container → Type 0
AllAt n [] = Unit {0}
AllAt n (c ∷ cs) = (c.node ≡ n) × AllAt n cs

abbrev pub AllBefore : ℕ → List Container → Type 0
AllBefore n [] = Unit {0}
AllBefore n (c ∷ cs) = (c.node < n) × AllBefore n cs

pub before_later : (n m : ℕ) (cs : List Container) → n ≤ m → AllBefore n cs → AllBefore m cs
before_later n m [] i h = tt
before_later n m (c ∷ cs) i h = ((let w : c.node < n = h.0 in omega (arith, w, i)), before_later n m cs i h.1)

pub before_append : (n : ℕ) (g cs : List Container) → ((c : Container) → Among c g → c.node < n) → AllBefore n cs → AllBefore n (g ++ cs)
before_append n [] cs f h = h
before_append n (c ∷ g) cs f h = (f c (inl refl), before_append n g cs (λ d a. f d (inr a)) h)

past_before : (n m : ℕ) (cs : List Container) → AllBefore n cs → AllBefore n (past_node m cs)
past_before n m [] h = tt
past_before n m (c ∷ cs) h = go (c.node == m) (past_before n m cs h.1)
  where
    go : (b : Bool) → AllBefore n (past_node m cs) → AllBefore n (cond b (past_node m cs) (c ∷ cs))
    go true later = later
    go false later = h

pub outside_before : (n : ℕ) (cs : List Container) → AllBefore n cs → AllBefore n (outside_function cs)
outside_before n [] h = tt
outside_before n (c ∷ cs) h = past_before n c.node cs h.1

past_none : (n : ℕ) (cs : List Container) → AllBefore n cs → past_node n cs ≡ cs
past_none n [] h = refl
past_none n (c ∷ cs) h = ap (λ b. cond b (past_node n cs) (c ∷ cs)) (ne_eqb c.node n (λ e. (let w : c.node < n = h.0 in absurd (omega (arith, w, e)))))

past_all : (n : ℕ) (g cs : List Container) → AllAt n g → past_node n (g ++ cs) ≡ past_node n cs
past_all n [] cs h = refl
past_all n (c ∷ g) cs h = ap (λ b. cond b (past_node n (g ++ cs)) (c ∷ (g ++ cs))) (eq-eqb c.node n h.0) ∙ past_all n g cs h.1

module _ (s : SourceType) (x child : Node) (path : List Node) (outer : List Container) where
  -- round a list of parameters, what has it begins with the parameters
  record BeginsSo (g : List Container) : Type 0 where
    first : Container
    rest : List Container
    is_so : g ≡ first ∷ rest
    at : first.node ≡ x.node_id
    others : AllAt x.node_id rest

  parameters_begin : is kind.TSTypeParameterDeclaration child ≡ false → BeginsSo (parameter_containers x child)
  parameters_begin e = subst (λ t. BeginsSo (cond t [] (container_of container.Parameters x ∷ []) ++ container_of container.TypeParameters x ∷ [])) (sym e)
      (record { first = container_of container.Parameters x; rest = container_of container.TypeParameters x ∷ []; is_so = refl; at = refl; others = (refl, tt) })

  functions_begin : is_of_signature child ≡ true → is kind.TSTypeParameterDeclaration child ≡ false → BeginsSo (function_containers x child)
  functions_begin h e =
      subst (λ t. BeginsSo ((cond t [] (container_of container.Body x ∷ []) ++ parameter_containers x child) ++ container_of container.OwnName x ∷ [])) (sym h)
      (subst (λ t. BeginsSo (([] ++ (cond t [] (container_of container.Parameters x ∷ []) ++ container_of container.TypeParameters x ∷ [])) ++ container_of container.OwnName x ∷ [])) (sym e)
      (record { first = container_of container.Parameters x; rest = container_of container.TypeParameters x ∷ container_of container.OwnName x ∷ []; is_so = refl; at = refl; others = (refl, (refl, tt)) }))

  begin_if : (t : Bool) → t ≡ true → is kind.TSTypeParameterDeclaration child ≡ false → BeginsSo (cond t (parameter_containers x child) [])
  begin_if true h e = parameters_begin e
  begin_if false h e = absurd (never (sym h))

  begins_so : (k : AstType) → has_parameters k ≡ true → child.kind ≡ kind.FormalParameters → BeginsSo (containers_by k s x path outer child)
  begins_so k h e = by k h (ap (λ j. same_kind j kind.TSTypeParameterDeclaration) e) (ap (λ j. holds_kind (kind.TSTypeParameterDeclaration ∷ kind.TSThisParameter ∷ kind.FormalParameters ∷ kind.TSTypeAnnotation ∷ []) j) e)
    where
      by : (k : AstType) → has_parameters k ≡ true → is kind.TSTypeParameterDeclaration child ≡ false → is_of_signature child ≡ true → BeginsSo (containers_by k s x path outer child)
      by kind.Function h t u = functions_begin u t
      by kind.ArrowFunctionExpression h t u = functions_begin u t
      by kind.TSFunctionType h t u = parameters_begin t
      by kind.TSConstructorType h t u = parameters_begin t
      by kind.TSCallSignatureDeclaration h t u = parameters_begin t
      by kind.TSConstructSignatureDeclaration h t u = parameters_begin t
      by kind.TSMethodSignature h t u = begin_if (is_of_signature child) u t
      by _ h t u = absurd (never (sym h))

  -- and outside of that is what is round the whole
  pub outside_is : (k : AstType) → has_parameters k ≡ true → child.kind ≡ kind.FormalParameters → AllBefore x.node_id outer → outside_function (containers_by k s x path outer child ++ outer) ≡ outer
  outside_is k h e b =
      let w : BeginsSo (containers_by k s x path outer child) = begins_so k h e in
      ap (λ g. outside_function (g ++ outer)) w.is_so ∙ ap (λ n. past_node n (w.rest ++ outer)) w.at ∙ past_all x.node_id w.rest outer w.others ∙ past_none x.node_id outer b
