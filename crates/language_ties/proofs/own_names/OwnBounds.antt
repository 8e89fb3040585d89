-- Where the own name of an expression is bound, and its declaration in the scope that the expression opens.
use Rattle.std.proofs.Common.{◌≡◌, List, [], ◌∷◌, None, Bool, true, false, cond, map, flat_map, inl, inr, ◌⊎◌, refl, sym, ap, subst, ◌∙◌, codes}
use Rattle.semantic_kinds.specs.Kinds.{same_kind}
use Rattle.semantic_kinds.specs.declared.kind.AstType.{AstType}
use Rattle.semantic_kinds.specs.declared.kind.AstType.TheVariants as kind
use Rattle.semantic_kinds.specs.declared.mark.Mark.TheVariants as mark
use Rattle.semantic_kinds.specs.declared.role.Role.TheVariants as role
use Rattle.semantic_syntax.specs.Tables.{Name}
use Rattle.semantic_syntax.specs.declared.source_type.SourceType.{SourceType}
use Rattle.semantic_tree.specs.Faults.{first_fault}
use Rattle.semantic_tree.specs.Tree.{Tree}
use Rattle.semantic_tree.specs.Views.{is, has, is_with_text, children_of}
use Rattle.semantic_tree.specs.declared.node.Node.{Node}
use Rattle.semantic_model.specs.Binder.{declaration_at, own_function_row, class_row, is_statement, is_special, ids, declared_inside, declared_on_opening}
use Rattle.semantic_model.specs.Declaration.{Declaration, plain}
use Rattle.semantic_model.specs.Entries.{Among}
use Rattle.semantic_model.specs.Event.{declares, declared, declarations, events, events_of, declares_all, placed, placed_by, taken_over, written_declarations}
use Rattle.semantic_model.specs.Inside.{opens}
use Rattle.semantic_model.specs.Names.{bound_names, names_at}
use Rattle.semantic_model.specs.Place.{Place, OpenScope}
use Rattle.semantic_model.specs.ScopeKind.{opened_scope}
use Rattle.semantic_model.specs.Step.{entering, opening, steps}
use Rattle.semantic_model.proofs.form.Shape.{has_form}
use Rattle.semantic_model.proofs.lists.Members.{among_right}
use Rattle.program_laws.proofs.DeclaredNodes.{among_map, among_flat}
use Rattle.binding_laws.proofs.ListLaws.{of_map, of_flat}
use Rattle.binding_laws.proofs.ScopeOpeners.{openers, IsOpened}
use Rattle.binding_laws.proofs.SmallLaws.{never}
use Rattle.language_ties.specs.Bound as language
use Rattle.language_ties.specs.Bound.{Bound, bound_identifier, bound_here, bound_outward, bound_by_declarator, bound_by_declaration, bound_by_function, bound_by_class, bound_by_catch, bound_by_node, is_bound_as, written}
use Rattle.language_ties.specs.Environments.{Environment, environments, innermost, passed, variable_environment}
use Rattle.language_ties.specs.SharedSymbols.{is_own_name}
use Rattle.language_ties.specs.declared.bound_as.BoundAs.{BoundAs}
use Rattle.language_ties.specs.declared.bound_as.BoundAs.TheVariants as bound
use Rattle.language_ties.specs.declared.environment_kind.EnvironmentKind.TheVariants as environment
use Rattle.language_ties.proofs.agree.PlainBounds.{IsBoundAt, bound_at_place}
use Rattle.language_ties.proofs.own_names.OpenedNodes.{Opens, scope_opens, scope_stands}
use Rattle.language_ties.proofs.shared.Events.{function_hidden, class_visible}

-- ---- the node

-- a function with the environment of its name, or a class with its own
abbrev pub IsOfExpression : Node → Environment → Type 0
IsOfExpression x e =
    ((x.kind ≡ kind.Function) × (e ≡ record { kind = environment.OwnName; maker = x.node_id })) ⊎ ((x.kind ≡ kind.Class) × (e ≡ record { kind = environment.Class; maker = x.node_id }))

-- the node is an expression that has the name
pub record IsNamed (x : Node) (b : Bound) : Type 0 where
  pub expression : is_statement x ≡ false
  pub sort : IsOfExpression x b.environment
  pub alone : b.also ≡ []
  pub identifier : Node
  pub among : Among identifier (names_at role.Id x)
  pub names : identifier.text ≡ b.name
  pub is : identifier.node_id ≡ b.identifier

module _ (s : SourceType) (x : Node) (b : Bound) (own : is_bound_as bound.OwnName b ≡ true) where
  other : (c : Bound) → c ≡ b → is_bound_as bound.OwnName c ≡ false → IsNamed x b
  other c q n = absurd (never (sym own ∙ sym (ap (is_bound_as bound.OwnName) q) ∙ n))

  names_here : (w : BoundAs) (es : List Environment) (names : List Node) → ((n : Node) → is_bound_as bound.OwnName (bound_here w es n) ≡ false) → Among b (map (bound_here w es) names) → IsNamed x b
  names_here w es names f a = let (n, c, q) = among_map (bound_here w es) names b a in other (bound_here w es n) q (f n)

  declarator : (path : List Node) → Among b (bound_by_declarator x path) → IsNamed x b
  declarator [] a = absurd a
  declarator (y ∷ path) a = go (is_with_text kind.VariableDeclaration (codes "var") y) a
    where
      go : (t : Bool) → Among b (map (cond t (bound_outward (environments x (y ∷ path))) (bound_here bound.Lexical (environments x (y ∷ path)))) (bound_names x)) → IsNamed x b
      go true c =
          let (n, i, q) = among_map (bound_outward (environments x (y ∷ path))) (bound_names x) b c in
          other (bound_outward (environments x (y ∷ path)) n) q refl
      go false c = names_here bound.Lexical (environments x (y ∷ path)) (bound_names x) (λ n. refl) c

  no_declaration : (path : List Node) (n : Node) → is_bound_as bound.OwnName (bound_by_declaration s x path n) ≡ false
  no_declaration path n = either (language.is_block_function s x path)
    where
      either : (t : Bool) → is_bound_as bound.OwnName (cond t (bound_identifier bound.Function (innermost (environments x path)) (variable_environment (environments x path) ∷ []) (passed (environments x path)) n) (bound_here bound.Function (environments x path) n)) ≡ false
      either true = refl
      either false = refl

  function : (path : List Node) → x.kind ≡ kind.Function → Among b (bound_by_function s x path) → IsNamed x b
  function path k a = go (is_statement x) refl a
    where
      e : Environment
      e = record { kind = environment.OwnName; maker = x.node_id }

      go : (t : Bool) → is_statement x ≡ t → Among b (map (cond t (bound_by_declaration s x path) (bound_identifier bound.OwnName e [] [])) (names_at role.Id x)) → IsNamed x b
      go true w c =
          let (n, i, q) = among_map (bound_by_declaration s x path) (names_at role.Id x) b c in
          other (bound_by_declaration s x path n) q (no_declaration path n)
      go false w c =
          let (n, i, q) = among_map (bound_identifier bound.OwnName e [] []) (names_at role.Id x) b c in
          record { expression = w; sort = inl (k, sym (ap (λ z. z.environment) q)); alone = sym (ap (λ z. z.also) q); identifier = n; among = i; names = ap (λ z. z.name) q; is = ap (λ z. z.identifier) q }

  class : (path : List Node) → x.kind ≡ kind.Class → Among b (bound_by_class x path) → IsNamed x b
  class path k a = go (is_statement x) refl a
    where
      e : Environment
      e = record { kind = environment.Class; maker = x.node_id }

      go : (t : Bool) → is_statement x ≡ t → Among b (map (cond t (bound_identifier bound.Lexical (innermost (environments x path)) (e ∷ []) []) (bound_identifier bound.OwnName e [] [])) (names_at role.Id x)) → IsNamed x b
      go true w c =
          let (n, i, q) = among_map (bound_identifier bound.Lexical (innermost (environments x path)) (e ∷ []) []) (names_at role.Id x) b c in
          other (bound_identifier bound.Lexical (innermost (environments x path)) (e ∷ []) [] n) q refl
      go false w c =
          let (n, i, q) = among_map (bound_identifier bound.OwnName e [] []) (names_at role.Id x) b c in
          record { expression = w; sort = inr (k, sym (ap (λ z. z.environment) q)); alone = sym (ap (λ z. z.also) q); identifier = n; among = i; names = ap (λ z. z.name) q; is = ap (λ z. z.identifier) q }

  catch : (path patterns : List Node) → Among b (flat_map (bound_by_catch (environments x path)) patterns) → IsNamed x b
  catch path patterns a =
      let (n, c, d) = among_flat (bound_by_catch (environments x path)) patterns b a in
      go (is kind.BindingIdentifier n) n d
    where
      go : (t : Bool) (n : Node) → Among b (map (bound_here (cond t bound.CatchName bound.Lexical) (environments x path)) (bound_names n)) → IsNamed x b
      go true n c = names_here bound.CatchName (environments x path) (bound_names n) (λ m. refl) c
      go false n c = names_here bound.Lexical (environments x path) (bound_names n) (λ m. refl) c

  pub is_named : (k : AstType) (path : List Node) → x.kind ≡ k → Among b (bound_by_node k s x path) → IsNamed x b
  is_named kind.VariableDeclarator path w a = declarator path a
  is_named kind.Function path w a = function path w a
  is_named kind.Class path w a = class path w a
  is_named kind.FormalParameter path w a = names_here bound.Parameter (environments x path) (bound_names x) (λ n. refl) a
  is_named kind.FormalParameterRest path w a = names_here bound.Parameter (environments x path) (bound_names x) (λ n. refl) a
  is_named kind.CatchParameter path w a = catch path (children_of role.Pattern x.children) a
  is_named kind.ImportSpecifier path w a = names_here bound.Lexical (environments x path) (names_at role.Local x) (λ n. refl) a
  is_named kind.ImportDefaultSpecifier path w a = names_here bound.Lexical (environments x path) (names_at role.Local x) (λ n. refl) a
  is_named kind.ImportNamespaceSpecifier path w a = names_here bound.Lexical (environments x path) (names_at role.Local x) (λ n. refl) a
  is_named _ path w a = absurd a

-- ---- the declaration

-- what an expression declares in its own scope
record DeclaresName (x : Node) (q : Place) (o : OpenScope) (n : Node) : Type 0 where
  declaration : Declaration
  told : Among declaration (declared_on_opening q o)
  identifier : declaration.naming.identifier ≡ n.node_id
  named : declaration.naming.name ≡ n.text
  how : declaration.how ≡ plain
  target : declaration.route.target ≡ o
  bare : declaration.route.passed ≡ []
  hidden : is_own_name declaration ≡ is kind.Function x

declares_name : (q : Place) (o : OpenScope) (b : Bound) (k : IsNamed q.node b) → DeclaresName q.node q o k.identifier
declares_name q o b k = go k.sort
  where
    function : q.node.kind ≡ kind.Function → DeclaresName q.node q o k.identifier
    function w =
        let d : Declaration = declaration_at q.node (own_function_row q o) (has mark.Pure q.node) k.identifier in
        let all : List Declaration = map (declaration_at q.node (own_function_row q o) (has mark.Pure q.node)) (ids q.node) in
        let there : Among d all = of_map (declaration_at q.node (own_function_row q o) (has mark.Pure q.node)) (ids q.node) k.identifier k.among in
        record {
          declaration = d;
          told = subst (λ i. Among d (declared_inside i q o)) (sym w) (subst (λ t. Among d (cond t [] all)) (sym k.expression) there);
          identifier = refl;
          named = refl;
          how = refl;
          target = refl;
          bare = refl;
          hidden = rw k.expression (function_hidden (has mark.Declare q.node) false (is_special q.node)) ∙ sym (ap (λ i. same_kind i kind.Function) w);
        }

    class : q.node.kind ≡ kind.Class → DeclaresName q.node q o k.identifier
    class w =
        let d : Declaration = declaration_at q.node (class_row q (o ∷ [])) false k.identifier in
        let all : List Declaration = map (declaration_at q.node (class_row q (o ∷ [])) false) (ids q.node) in
        let there : Among d all = of_map (declaration_at q.node (class_row q (o ∷ [])) false) (ids q.node) k.identifier k.among in
        record {
          declaration = d;
          told = subst (λ i. Among d (declared_inside i q o)) (sym w) (subst (λ t. Among d (cond t [] all)) (sym k.expression) there);
          identifier = refl;
          named = refl;
          how = refl;
          target = refl;
          bare = refl;
          hidden = class_visible (has mark.Declare q.node) ∙ sym (ap (λ i. same_kind i kind.Function) w);
        }

    go : IsOfExpression q.node b.environment → DeclaresName q.node q o k.identifier
    go (inl w) = function w.0
    go (inr w) = class w.0

-- ---- the program

module _ (p : Tree) (h : first_fault p ≡ None) (x : Name) where
  -- what is known of what binds the name as an own name
  pub record OwnBound (b : Bound) : Type 0 where
    pub own : is_bound_as bound.OwnName b ≡ true
    pub place : Place
    pub entered : Among (entering place) (steps p)
    pub binds : Among b (bound_by_node place.node.kind p.source_type place.node place.path)
    pub named_by : IsNamed place.node b
    pub scope : OpenScope
    pub opener : scope.opener ≡ place.node.node_id
    pub opened : IsOpened (openers (steps p)) scope
    pub bodiless : scope.body ≡ None
    pub declaration : Declaration
    pub among : Among declaration (declarations (events (steps p)))
    pub named : declaration.naming.name ≡ x
    pub identifier : declaration.naming.identifier ≡ b.identifier
    pub how : declaration.how ≡ plain
    pub target : declaration.route.target ≡ scope
    pub bare : declaration.route.passed ≡ []
    pub hidden : is_own_name declaration ≡ is kind.Function place.node

  -- what is declared plainly as a scope opens is declared
  declared_there : (q : Place) (o : OpenScope) (d : Declaration) → Among (opening q o) (steps p) → Among d (declared_on_opening q o) → d.how ≡ plain → Among d (declarations (events (steps p)))
  declared_there q o d a i w =
      let ds : List Declaration = written_declarations (steps p) in
      let stays : placed ds d ≡ d = ap (λ y. placed_by y ds d) w in
      let told : Among (declares d) (declares_all ds (declared_on_opening q o)) = subst (λ y. Among (declares y) (declares_all ds (declared_on_opening q o))) stays (of_map (λ y. declares (placed ds y)) (declared_on_opening q o) d i) in
      let event : Among (declares d) (events_of ds (opening q o)) = among_right (declares d) (taken_over q o) (declares_all ds (declared_on_opening q o)) told in
      of_flat declared (events (steps p)) (declares d) d (of_flat (events_of ds) (steps p) (opening q o) (declares d) a event) (inl refl)

  opens_own : (y : Node) (e : Environment) → IsOfExpression y e → (opens y.kind ≡ true) × (is kind.CatchClause y ≡ false)
  opens_own y e (inl w) = (ap opens w.0, ap (λ i. same_kind i kind.CatchClause) w.0)
  opens_own y e (inr w) = (ap opens w.0, ap (λ i. same_kind i kind.CatchClause) w.0)

  pub own_bound : (b : Bound) → Among b (written p.source_type (steps p)) → b.name ≡ x → is_bound_as bound.OwnName b ≡ true → OwnBound b
  own_bound b a n own =
      let at : IsBoundAt p.source_type (steps p) b = bound_at_place p.source_type (steps p) b a in
      let q : Place = at.place in
      let k : IsNamed q.node b = is_named p.source_type q.node b own q.node.kind q.path refl at.binds in
      let kinds : (opens q.node.kind ≡ true) × (is kind.CatchClause q.node ≡ false) = opens_own q.node b.environment k.sort in
      let o : Opens q (steps p) = scope_opens p q at.entered kinds.0 in
      let s : OpenScope = opened_scope q o.number in
      let d : DeclaresName q.node q s k.identifier = declares_name q s b k in
      record {
        own = own;
        place = q;
        entered = at.entered;
        binds = at.binds;
        named_by = k;
        scope = s;
        opener = refl;
        opened = scope_stands p (has_form p h).root q s o.among;
        bodiless = rw kinds.1 refl;
        declaration = d.declaration;
        among = declared_there q s d.declaration o.among d.told d.how;
        named = d.named ∙ k.names ∙ n;
        identifier = d.identifier ∙ k.is;
        how = d.how;
        target = d.target;
        bare = d.bare;
        hidden = d.hidden;
      }

  -- its environment is that of a name or a class, made by the expression
  pub own_maker : (b : Bound) (k : OwnBound b) → b.environment.maker ≡ k.place.node.node_id
  own_maker b k = go k.named_by.sort
    where
      go : IsOfExpression k.place.node b.environment → b.environment.maker ≡ k.place.node.node_id
      go (inl w) = ap (λ z. z.maker) w.1
      go (inr w) = ap (λ z. z.maker) w.1
