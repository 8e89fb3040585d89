-- Where a statement stands, the scope to which its variables go is that of the container which takes them, and what they pass are containers before that.
use Rattle.std.proofs.Common.{◌≡◌, ℕ, List, [], ◌∷◌, ◌++◌, Some, None, Bool, true, false, ◌||◌, not, cond, refl, sym, ap, subst, ◌∙◌, inl, inr, ◌⊎◌}
use Rattle.std.specs.List.{list_all}
use Rattle.std.proofs.lemmas.Bool.{cases_Bool}
use Rattle.semantic_syntax.proofs.Truth.{and_first, and_second, or_true}
use Rattle.semantic_syntax.specs.Sets.{meets, union}
use Rattle.semantic_syntax.specs.declared.scope_flags.TheConstants.ScopeFlags as scope
use Rattle.semantic_syntax.specs.declared.source_type.SourceType.{SourceType}
use Rattle.semantic_kinds.specs.Classes.{is_of, holds_kind}
use Rattle.semantic_kinds.specs.Kinds.{same_kind}
use Rattle.semantic_kinds.specs.Parts.{parts}
use Rattle.semantic_kinds.specs.Roles.{same_role}
use Rattle.semantic_kinds.specs.declared.class.Class.{Class}
use Rattle.semantic_kinds.specs.declared.kind.AstType.{AstType}
use Rattle.semantic_kinds.specs.declared.kind.AstType.TheVariants as kind
use Rattle.semantic_kinds.specs.declared.part.Part.{Part}
use Rattle.semantic_kinds.specs.declared.role.Role.{Role}
use Rattle.semantic_kinds.specs.declared.role.Role.TheVariants as role
use Rattle.semantic_tree.specs.Faults.{first_fault}
use Rattle.semantic_tree.specs.Tree.{Tree}
use Rattle.semantic_tree.specs.Views.{child_of}
use Rattle.semantic_tree.specs.declared.node.Node.{Node}
use Rattle.semantic_model.specs.Binder.{is_var}
use Rattle.semantic_model.specs.Entries.{Among}
use Rattle.semantic_model.specs.Inside.{is_inside, is_in_header}
use Rattle.semantic_model.specs.Place.{Place, is_strict}
use Rattle.semantic_model.specs.ScopeKind.{strict_if, flags_of_kind, opened_scope}
use Rattle.semantic_model.proofs.form.Clauses.{kind_is}
use Rattle.semantic_model.proofs.form.PartsHold.{passed_hold}
use Rattle.walk_model.proofs.places.Shapes.{holds_below, tree_holds}
use Rattle.binding_laws.proofs.SmallLaws.{never}
use Rattle.typescript_ties.specs.Containers.{Container, is_container, container_of, bound_container, members_of, id_name, module_member_name, is_exported_under, is_one_of_kind, is_of_signature, parameter_containers, containers_by}
use Rattle.typescript_ties.specs.NamedDeclarations.{takes_vars, from_first_taking}
use Rattle.typescript_ties.specs.SimpleNames.{is_apart, before_first_taking}
use Rattle.typescript_ties.specs.declared.container_kind.ContainerKind.TheVariants as container
use Rattle.typescript_ties.proofs.ChildPlaces.{is_told_by_role, tells_by_kind}
use Rattle.typescript_ties.proofs.FitsTogether.{meets_union}
use Rattle.typescript_ties.proofs.GroupNodes.{stands_by}
use Rattle.typescript_ties.proofs.Heads.{is_of_header, head_one, inside_is}

-- ---- kinds

-- what stands between a variable and the body or block that takes it
abbrev pub var_statements : List AstType
var_statements =
    kind.VariableDeclarator ∷ kind.VariableDeclaration ∷ kind.BlockStatement ∷ kind.IfStatement ∷ kind.DoWhileStatement ∷ kind.WhileStatement ∷ kind.ForStatement ∷ kind.ForInStatement ∷ kind.ForOfStatement ∷ kind.WithStatement ∷ kind.SwitchStatement
    ∷ kind.SwitchCase ∷ kind.LabeledStatement ∷ kind.TryStatement ∷ kind.CatchClause ∷ kind.ExportDeclaration ∷ kind.FunctionBody ∷ kind.TSModuleBlock ∷ []

abbrev pub is_statement_kind : AstType → Bool
is_statement_kind k = holds_kind var_statements k

-- whether a node takes the variables of a child in the role
abbrev pub takes_from : AstType → Role → Bool
takes_from kind.Program r = true
takes_from kind.StaticBlock r = true
takes_from kind.TSGlobalDeclaration r = true
takes_from kind.Function r = same_role r role.Body
takes_from kind.ArrowFunctionExpression r = same_role r role.Body
takes_from kind.TSNamespaceDeclaration r = same_role r role.Body
takes_from kind.TSExternalModuleDeclaration r = same_role r role.Body
takes_from k r = false

-- the kinds whose scope takes variables
abbrev pub is_var_kind : AstType → Bool
is_var_kind k = holds_kind (kind.Program ∷ kind.StaticBlock ∷ kind.TSGlobalDeclaration ∷ kind.Function ∷ kind.ArrowFunctionExpression ∷ kind.TSNamespaceDeclaration ∷ kind.TSExternalModuleDeclaration ∷ []) k

-- a statement stands in one, or where variables are taken
abbrev pub is_placed : AstType → Role → AstType → List ℕ → Bool
is_placed k r k2 text = not (is_statement_kind k2) || (is_statement_kind k || takes_from k r)

places_part : AstType → List ℕ → Part → Bool
places_part k text part = (is_statement_kind k || takes_from k part.role) || list_all (λ j. not (is_of part.class j text)) var_statements

all_place : (k : AstType) (text : List ℕ) → list_all (places_part k text) (parts k) ≡ true
unfolding places_part
all_place kind.Program text = refl
all_place _ text = refl

none_of : (ks : List AstType) (c : Class) (k2 : AstType) (text : List ℕ) → list_all (λ j. not (is_of c j text)) ks ≡ true → is_of c k2 text ≡ true → holds_kind ks k2 ≡ false
none_of [] c k2 text h i = refl
none_of (k ∷ ks) c k2 text h i = elim (cases_Bool (same_kind k k2)) [
  | inl e ↦ (let q : is_of c k text ≡ true = subst (λ m. is_of c m text ≡ true) (sym (kind_is k k2 e)) i in
      absurd (never (sym (and_first (not (is_of c k text)) (list_all (λ j. not (is_of c j text)) ks) h) ∙ ap not q)))
  | inr e ↦ rw e (none_of ks c k2 text (and_second (not (is_of c k text)) (list_all (λ j. not (is_of c j text)) ks) h) i)
]

part_places : (k : AstType) (part : Part) (k2 : AstType) (text : List ℕ) → places_part k text part ≡ true → is_of part.class k2 text ≡ true → is_placed k part.role k2 text ≡ true
unfolding places_part
part_places k part k2 text h i = by (is_statement_kind k || takes_from k part.role) (list_all (λ j. not (is_of part.class j text)) var_statements) h refl
  where
    by : (a b : Bool) → (a || b) ≡ true → list_all (λ j. not (is_of part.class j text)) var_statements ≡ b → (not (is_statement_kind k2) || a) ≡ true
    by true b e q = or_true (not (is_statement_kind k2))
    by false b e q = ap (λ z. not z || false) (none_of var_statements part.class k2 text (q ∙ e) i)

pub tree_places : (p : Tree) → first_fault p ≡ None → holds_below is_placed p.root.kind p.root.children ≡ true
tree_places p h = tree_holds is_placed (λ k. passed_hold is_placed (places_part k) k (part_places k) (parts k) (all_place k)) p h

pub placed_in : (k : AstType) (r : Role) (k2 : AstType) (text : List ℕ) → is_placed k r k2 text ≡ true → is_statement_kind k2 ≡ true → (is_statement_kind k ≡ true) ⊎ (takes_from k r ≡ true)
placed_in k r k2 text h e = by (is_statement_kind k) (takes_from k r) (sym (ap (λ b. not b || (is_statement_kind k || takes_from k r)) e) ∙ h)
  where
    by : (a b : Bool) → (a || b) ≡ true → (a ≡ true) ⊎ (b ≡ true)
    by true b i = inl refl
    by false b i = inr i

-- ---- scopes

first_meets : (a b m : ℕ) → meets a m ≡ true → meets (union a b) m ≡ true
first_meets a b m e = meets_union a b m ∙ ap (λ t. t || meets b m) e

-- whether a scope takes variables, by the kind of the node that opens it
var_flags : (k : AstType) (q : Place) (b : Bool) → meets (union (flags_of_kind k q) (strict_if b)) scope.Var.bits ≡ is_var_kind k
var_flags kind.Program q b = first_meets (flags_of_kind kind.Program q) (strict_if b) scope.Var.bits (first_meets scope.Top.bits _ scope.Var.bits refl)
var_flags kind.Function q b = first_meets (flags_of_kind kind.Function q) (strict_if b) scope.Var.bits (first_meets scope.Function.bits _ scope.Var.bits refl)
var_flags kind.ArrowFunctionExpression q b = first_meets (flags_of_kind kind.ArrowFunctionExpression q) (strict_if b) scope.Var.bits (first_meets scope.Function.bits _ scope.Var.bits refl)
var_flags kind.TSNamespaceDeclaration q b = first_meets (flags_of_kind kind.TSNamespaceDeclaration q) (strict_if b) scope.Var.bits (first_meets scope.TsModuleBlock.bits _ scope.Var.bits refl)
var_flags kind.TSExternalModuleDeclaration q b = first_meets (flags_of_kind kind.TSExternalModuleDeclaration q) (strict_if b) scope.Var.bits (first_meets scope.TsModuleBlock.bits _ scope.Var.bits refl)
var_flags kind.StaticBlock q true = refl
var_flags kind.StaticBlock q false = refl
var_flags _ q true = refl
var_flags _ q false = refl

pub opened_var : (q : Place) (n : ℕ) → is_var (opened_scope q n) ≡ is_var_kind q.node.kind
opened_var q n = var_flags q.node.kind q (is_strict q.chain)

pub statement_no_var : (k : AstType) → is_statement_kind k ≡ true → is_var_kind k ≡ false
statement_no_var kind.Program e = absurd (never (sym e))
statement_no_var kind.StaticBlock e = absurd (never (sym e))
statement_no_var kind.TSGlobalDeclaration e = absurd (never (sym e))
statement_no_var kind.Function e = absurd (never (sym e))
statement_no_var kind.ArrowFunctionExpression e = absurd (never (sym e))
statement_no_var kind.TSNamespaceDeclaration e = absurd (never (sym e))
statement_no_var kind.TSExternalModuleDeclaration e = absurd (never (sym e))
statement_no_var _ e = refl

-- what takes variables of a child has it inside, and not in its header
pub record TakesInside (k : AstType) (r : Role) : Type 0 where
  pub inside : is_inside k r ≡ true
  pub header : is_in_header k r ≡ false
  pub var : is_var_kind k ≡ true

body_role : (r : Role) → same_role r role.Body ≡ true → r ≡ role.Body
body_role role.Body e = refl
body_role _ e = absurd (never (sym e))

pub takes_inside : (k : AstType) (r : Role) → takes_from k r ≡ true → TakesInside k r
takes_inside kind.Program r e = record { inside = refl; header = refl; var = refl }
takes_inside kind.StaticBlock r e = record { inside = refl; header = refl; var = refl }
takes_inside kind.TSGlobalDeclaration r e = record { inside = refl; header = refl; var = refl }
takes_inside kind.Function r e = subst (TakesInside kind.Function) (sym (body_role r e)) (record { inside = refl; header = refl; var = refl })
takes_inside kind.ArrowFunctionExpression r e = subst (TakesInside kind.ArrowFunctionExpression) (sym (body_role r e)) (record { inside = refl; header = refl; var = refl })
takes_inside kind.TSNamespaceDeclaration r e = subst (TakesInside kind.TSNamespaceDeclaration) (sym (body_role r e)) (record { inside = refl; header = refl; var = refl })
takes_inside kind.TSExternalModuleDeclaration r e = subst (TakesInside kind.TSExternalModuleDeclaration) (sym (body_role r e)) (record { inside = refl; header = refl; var = refl })
takes_inside _ r e = absurd (never (sym e))

-- ---- containers

-- none of them takes variables
abbrev pub NoneTakes : List Container → Type 0
NoneTakes [] = Unit {0}
NoneTakes (c ∷ cs) = (takes_vars c ≡ false) × NoneTakes cs

pub from_past : (g cs : List Container) → NoneTakes g → from_first_taking (g ++ cs) ≡ from_first_taking cs
from_past [] cs h = refl
from_past (c ∷ g) cs h = ap (λ b. cond b (c ∷ (g ++ cs)) (from_first_taking (g ++ cs))) h.0 ∙ from_past g cs h.1

pub before_past : (g cs : List Container) → NoneTakes g → before_first_taking (g ++ cs) ≡ g ++ before_first_taking cs
before_past [] cs h = refl
before_past (c ∷ g) cs h = ap (λ b. cond b [] (c ∷ before_first_taking (g ++ cs))) h.0 ∙ ap (λ l. c ∷ l) (before_past g cs h.1)

if_none : (t : Bool) (c : Container) → takes_vars c ≡ false → NoneTakes (cond t (c ∷ []) [])
if_none true c e = (e, tt)
if_none false c e = tt

module _ (s : SourceType) (x child : Node) (path : List Node) (outer : List Container) (r : Role) where
  pub statement_takes_none : (k : AstType) → is_statement_kind k ≡ true → same_kind k kind.WithStatement ≡ false → NoneTakes (containers_by k s x path outer child)
  statement_takes_none kind.BlockStatement e w = (refl, tt)
  statement_takes_none kind.ForStatement e w = (refl, tt)
  statement_takes_none kind.ForInStatement e w = (refl, tt)
  statement_takes_none kind.ForOfStatement e w = (refl, tt)
  statement_takes_none kind.CatchClause e w = (refl, tt)
  statement_takes_none kind.SwitchStatement e w = if_none (is_one_of_kind kind.SwitchCase child) (container_of container.Block x) refl
  statement_takes_none kind.WithStatement e w = absurd (never w)
  statement_takes_none kind.VariableDeclarator e w = tt
  statement_takes_none kind.VariableDeclaration e w = tt
  statement_takes_none kind.IfStatement e w = tt
  statement_takes_none kind.DoWhileStatement e w = tt
  statement_takes_none kind.WhileStatement e w = tt
  statement_takes_none kind.SwitchCase e w = tt
  statement_takes_none kind.LabeledStatement e w = tt
  statement_takes_none kind.TryStatement e w = tt
  statement_takes_none kind.ExportDeclaration e w = tt
  statement_takes_none kind.FunctionBody e w = tt
  statement_takes_none kind.TSModuleBlock e w = tt
  statement_takes_none _ e w = absurd (never (sym e))

  -- a statement that opens a scope has a container
  record HasOne (g : List Container) : Type 0 where
    container : Container
    among : Among container g

  one_if : (t : Bool) (c : Container) → t ≡ true → HasOne (cond t (c ∷ []) [])
  one_if true c e = record { container = c; among = inl refl }
  one_if false c e = absurd (never (sym e))

  opens_one : (k : AstType) → is_statement_kind k ≡ true → same_kind k kind.WithStatement ≡ false → is_inside k r ≡ true → (is_told_by_role k ≡ false → tells_by_kind k r child.kind ≡ true) → HasOne (containers_by k s x path outer child)
  opens_one kind.BlockStatement e w i t = record { container = container_of container.Block x; among = inl refl }
  opens_one kind.ForStatement e w i t = record { container = container_of container.Block x; among = inl refl }
  opens_one kind.ForInStatement e w i t = record { container = container_of container.Block x; among = inl refl }
  opens_one kind.ForOfStatement e w i t = record { container = container_of container.Block x; among = inl refl }
  opens_one kind.CatchClause e w i t = record { container = container_of container.CatchClause x; among = inl refl }
  opens_one kind.SwitchStatement e w i t = one_if (is_one_of_kind kind.SwitchCase child) (container_of container.Block x) (inside_is (is_inside kind.SwitchStatement r) true (is_one_of_kind kind.SwitchCase child) (t refl) i)
  opens_one kind.WithStatement e w i t = absurd (never w)
  opens_one kind.VariableDeclarator e w i t = absurd (never (sym i))
  opens_one kind.VariableDeclaration e w i t = absurd (never (sym i))
  opens_one kind.IfStatement e w i t = absurd (never (sym i))
  opens_one kind.DoWhileStatement e w i t = absurd (never (sym i))
  opens_one kind.WhileStatement e w i t = absurd (never (sym i))
  opens_one kind.SwitchCase e w i t = absurd (never (sym i))
  opens_one kind.LabeledStatement e w i t = absurd (never (sym i))
  opens_one kind.TryStatement e w i t = absurd (never (sym i))
  opens_one kind.ExportDeclaration e w i t = absurd (never (sym i))
  opens_one kind.FunctionBody e w i t = absurd (never (sym i))
  opens_one kind.TSModuleBlock e w i t = absurd (never (sym i))
  opens_one _ e w i t = absurd (never (sym e))

  pub statement_has : (k : AstType) → x.kind ≡ k → is_statement_kind k ≡ true → same_kind k kind.WithStatement ≡ false → is_inside k r ≡ true → (is_told_by_role k ≡ false → tells_by_kind k r child.kind ≡ true) → (c : Container) × Among c (containers_by k s x path outer child) × (c.node ≡ x.node_id)
  statement_has k q e w i t =
      let o : HasOne (containers_by k s x path outer child) = opens_one k e w i t in
      (o.container, o.among, stands_by s x child path outer k o.container o.among)

  -- ---- what takes variables has them in its first container, or among the members of its block

  pub record TakesFirst (cs : List Container) : Type 0 where
    pub first : from_first_taking cs ≡ cs
    pub none_before : before_first_taking cs ≡ []
    pub free : (b : Bool) → is_apart (bound_container b cs).kind ≡ false
    pub no_header : (b : Bool) → is_of_header (bound_container b cs) ≡ false

  single_first : (c : Container) (rest : List Container) → takes_vars c ≡ true → is_container container.ModuleBlock c ≡ false → is_apart c.kind ≡ false → is_of_header c ≡ false → TakesFirst (c ∷ rest)
  single_first c rest e m a h = record {
    first = ap (λ b. cond b (c ∷ rest) (from_first_taking rest)) e;
    none_before = ap (λ b. cond b [] (c ∷ before_first_taking rest)) e;
    free = λ b. subst (λ d. is_apart d.kind ≡ false) (sym (head_one b c rest m)) a;
    no_header = λ b. subst (λ d. is_of_header d ≡ false) (sym (head_one b c rest m)) h;
  }

  double_first : (d : Container) (rest : List Container) → is_apart d.kind ≡ false → is_of_header d ≡ false → TakesFirst (container_of container.ModuleBlock x ∷ d ∷ rest)
  double_first d rest a h = record {
    first = refl;
    none_before = refl;
    free = λ b. by_free b;
    no_header = λ b. by_header b;
  }
    where
      by_free : (b : Bool) → is_apart (bound_container b (container_of container.ModuleBlock x ∷ d ∷ rest)).kind ≡ false
      by_free true = a
      by_free false = refl

      by_header : (b : Bool) → is_of_header (bound_container b (container_of container.ModuleBlock x ∷ d ∷ rest)) ≡ false
      by_header true = h
      by_header false = refl

  no_signature : (k : AstType) → is_statement_kind k ≡ true → holds_kind (kind.TSTypeParameterDeclaration ∷ kind.TSThisParameter ∷ kind.FormalParameters ∷ kind.TSTypeAnnotation ∷ []) k ≡ false
  no_signature kind.TSTypeParameterDeclaration e = absurd (never (sym e))
  no_signature kind.TSThisParameter e = absurd (never (sym e))
  no_signature kind.FormalParameters e = absurd (never (sym e))
  no_signature kind.TSTypeAnnotation e = absurd (never (sym e))
  no_signature _ e = refl

  no_identifier : (k : AstType) → is_statement_kind k ≡ true → holds_kind (kind.BindingIdentifier ∷ []) k ≡ false
  no_identifier kind.BindingIdentifier e = absurd (never (sym e))
  no_identifier _ e = refl

  body_first : (l m : List Container) → is_statement_kind child.kind ≡ true → TakesFirst (((cond (is_of_signature child) [] (container_of container.Body x ∷ []) ++ l) ++ m) ++ outer)
  body_first l m e = subst (λ t. TakesFirst (((cond t [] (container_of container.Body x ∷ []) ++ l) ++ m) ++ outer)) (sym (no_signature child.kind e)) (single_first (container_of container.Body x) ((l ++ m) ++ outer) refl refl refl refl)

  block_first : (t : Bool) (d : Container) → t ≡ true → is_apart d.kind ≡ false → is_of_header d ≡ false → TakesFirst (cond t (container_of container.ModuleBlock x ∷ d ∷ []) [] ++ outer)
  block_first true d e a h = double_first d outer a h
  block_first false d e a h = absurd (never (sym e))

  block_unless : (t : Bool) (d : Container) → t ≡ false → is_apart d.kind ≡ false → is_of_header d ≡ false → TakesFirst (cond t [] (container_of container.ModuleBlock x ∷ d ∷ []) ++ outer)
  block_unless false d e a h = double_first d outer a h
  block_unless true d e a h = absurd (never e)

  pub takes_first : (k : AstType) → takes_from k r ≡ true → is_statement_kind child.kind ≡ true → (is_told_by_role k ≡ false → tells_by_kind k r child.kind ≡ true) → TakesFirst (containers_by k s x path outer child ++ outer)
  takes_first kind.Program t e w = single_first (container_of container.File x) outer refl refl refl refl
  takes_first kind.StaticBlock t e w = single_first (container_of container.StaticBlock x) outer refl refl refl refl
  takes_first kind.Function t e w = body_first (parameter_containers x child) (container_of container.OwnName x ∷ []) e
  takes_first kind.ArrowFunctionExpression t e w = body_first (parameter_containers x child) (container_of container.OwnName x ∷ []) e
  takes_first kind.TSNamespaceDeclaration t e w =
      block_unless (is_one_of_kind kind.BindingIdentifier child) (members_of container.NamespaceMembers x.node_id (id_name (child_of role.Id x)) (bound_container (is_exported_under s path) outer)) (no_identifier child.kind e) refl refl
  takes_first kind.TSExternalModuleDeclaration t e w =
      block_first (is_one_of_kind kind.TSModuleBlock child) (members_of container.ModuleMembers x.node_id (module_member_name (child_of role.Id x)) (bound_container false outer))
      (inside_is (is_inside kind.TSExternalModuleDeclaration r) true (is_one_of_kind kind.TSModuleBlock child) (w refl) (takes_inside kind.TSExternalModuleDeclaration r t).inside) refl refl
  takes_first kind.TSGlobalDeclaration t e w = double_first (record { kind = container.GlobalMembers; node = x.node_id; members = Some (record { root = 0; names = [] }) }) outer refl refl
  takes_first _ t e w = absurd (never (sym t))
