-- Each declaration is of a node: a binding identifier with its name, or an enum member.
use Rattle.std.proofs.Common.{◌≡◌, ℕ, List, [], ◌∷◌, ◌++◌, cond, Bool, true, false, inl, inr, refl, sym, ap, subst, ◌∙◌, map, flat_map, if◌then◌else◌}
use Rattle.semantic_kinds.specs.declared.kind.AstType.{AstType}
use Rattle.semantic_kinds.specs.declared.kind.AstType.TheVariants as kind
use Rattle.semantic_kinds.specs.declared.mark.Mark.TheVariants as mark
use Rattle.semantic_kinds.specs.declared.role.Role.{Role}
use Rattle.semantic_kinds.specs.declared.role.Role.TheVariants as role
use Rattle.semantic_syntax.specs.Sets.{union}
use Rattle.semantic_syntax.specs.declared.symbol_flags.TheConstants.SymbolFlags as symbol
use Rattle.semantic_tree.specs.Forest.{Forest, nothing, tree}
use Rattle.semantic_tree.specs.Tree.{Tree}
use Rattle.semantic_tree.specs.declared.node.Node.{Node}
use Rattle.semantic_model.specs.Binder.{BinderRow, declaration_at, declare_here, ids, is_statement, marked_ambient, function_row, own_function_row, class_row, variable_row, variables_under, is_pure_declarator, parameter_excluded, parameters_under, catch_names, import_flags, enums, member_names, named_member, member_named, member_declarations, namespace_row, type_parameter_route, type_parameter_row, declared_by, declared_inside}
use Rattle.semantic_model.specs.Declaration.{Declaration, How, plain, hoisted, moved, caught, here}
use Rattle.semantic_model.specs.Entries.{Among}
use Rattle.semantic_model.specs.Event.{Event, declares, takes_over, declared, declared_at, declarations, events, events_of, declares_all, is_barred, staying_declaration, placed, placed_by, taken_over, is_catch_body, written_declarations}
use Rattle.semantic_model.specs.Names.{binding_roles, bound_below, bound_names, names_at}
use Rattle.semantic_model.specs.Namespace.{InstanceState, non_instantiated, const_enum_only, instantiated, instance_state, nodes_around}
use Rattle.semantic_tree.specs.Views.{is, has, is_role_of, children_of}
use Rattle.semantic_model.specs.Place.{Place, OpenScope, innermost, outside}
use Rattle.semantic_model.specs.Step.{Step, entering, opening, header_ending, closing, leaving, steps}
use Rattle.semantic_model.proofs.form.Clauses.{kind_is}
use Rattle.semantic_model.proofs.lists.Members.{among_left, among_right, among_cases}
use Rattle.program_laws.proofs.TreeNodes.{nodes_below, nodes_from, child_in}
use Rattle.program_laws.proofs.Walked.{node_at, steps_within}

-- ---- lists

pub among_map : {A B : Type 0} → (g : A → B) (xs : List A) (y : B) → Among y (map g xs) → (x : A) × Among x xs × (g x ≡ y)
among_map g [] y a = absurd a
among_map g (x ∷ xs) y (inl e) = (x, inl refl, e)
among_map g (x ∷ xs) y (inr a) = let (z, b, e) = among_map g xs y a in (z, inr b, e)

pub among_flat : {A B : Type 0} → (g : A → List B) (xs : List A) (y : B) → Among y (flat_map g xs) → (x : A) × Among x xs × Among y (g x)
among_flat g [] y a = absurd a
among_flat g (x ∷ xs) y a = elim (among_cases y (g x) (flat_map g xs) a) [
  | inl b ↦ (x, inl refl, b)
  | inr b ↦ (let (z, c, d) = among_flat g xs y b in (z, inr c, d))
]

among_if : {A : Type 0} → (b : Bool) (xs : List A) (x : A) → Among x (cond b xs []) → Among x xs
among_if true xs x a = a
among_if false xs x a = absurd a

among_unless : {A : Type 0} → (b : Bool) (xs : List A) (x : A) → Among x (cond b [] xs) → Among x xs
among_unless true xs x a = absurd a
among_unless false xs x a = a

-- ---- binding identifiers

-- the node is a binding identifier of the list
pub record Binds (all : List Node) (x : Node) : Type 0 where
  pub among : Among x all
  pub binds : x.kind ≡ kind.BindingIdentifier

binds_left : (x : Node) (xs ys : List Node) → Binds xs x → Binds (xs ++ ys) x
binds_left x xs ys b = record { among = among_left x xs ys b.among; binds = b.binds }

binds_right : (x : Node) (xs ys : List Node) → Binds ys x → Binds (xs ++ ys) x
binds_right x xs ys b = record { among = among_right x xs ys b.among; binds = b.binds }

binds_later : (x y : Node) (xs : List Node) → Binds xs x → Binds (y ∷ xs) x
binds_later x y xs b = record { among = inr b.among; binds = b.binds }

binds_all : (xs ys : List Node) (x : Node) → ((y : Node) → Among y xs → Among y ys) → Binds xs x → Binds ys x
binds_all xs ys x h b = record { among = h x b.among; binds = b.binds }

bound_in : (parent : AstType) (f : Forest) (x : Node) → Among x (bound_below parent f) → Binds (nodes_below f) x
bound_in parent nothing x a = absurd a
bound_in parent (tree r k span text marks below id after) x a =
    elim (among_cases x (cond (is_role_of r (binding_roles parent)) (cond (is kind.BindingIdentifier old) (old ∷ []) (bound_below k below)) []) (bound_below parent after) a) [
      | inl b ↦ own (is_role_of r (binding_roles parent)) (is kind.BindingIdentifier old) refl b (λ q. bound_in k below x q)
      | inr b ↦ binds_later x old (nodes_below below ++ nodes_below after) (binds_right x (nodes_below below) (nodes_below after) (bound_in parent after x b))
    ]
  where
    old : Node
    old = record { kind = k; span = span; text = text; marks = marks; children = below; node_id = id }

    own : (b c : Bool) → is kind.BindingIdentifier old ≡ c → Among x (cond b (cond c (old ∷ []) (bound_below k below)) []) → (Among x (bound_below k below) → Binds (nodes_below below) x) → Binds (nodes_below (tree r k span text marks below id after)) x
    own true true e (inl q) more = record { among = inl q; binds = sym (ap (λ y. y.kind) q) ∙ kind_is k kind.BindingIdentifier e }
    own true true e (inr q) more = absurd q
    own true false e q more = binds_later x old (nodes_below below ++ nodes_below after) (binds_left x (nodes_below below) (nodes_below after) (more q))
    own false c e q more = absurd q

pub bound_of : (node x : Node) → Among x (bound_names node) → Binds (nodes_from node) x
bound_of node x a = go (is kind.BindingIdentifier node) refl a
  where
    go : (b : Bool) → is kind.BindingIdentifier node ≡ b → Among x (cond b (node ∷ []) (bound_below node.kind node.children)) → Binds (nodes_from node) x
    go true e (inl q) = record { among = inl q; binds = sym (ap (λ y. y.kind) q) ∙ kind_is node.kind kind.BindingIdentifier e }
    go true e (inr q) = absurd q
    go false e q = binds_later x node (nodes_below node.children) (bound_in node.kind node.children x q)

-- those of a child are among the node's
bound_child : (r : Role) (node child x : Node) → Among child (children_of r node.children) → Among x (bound_names child) → Binds (nodes_from node) x
bound_child r node child x a b = binds_later x node (nodes_below node.children) (binds_all (nodes_from child) (nodes_below node.children) x (child_in r node.children child a) (bound_of child x b))

named_in : (r : Role) (node x : Node) → Among x (names_at r node) → Binds (nodes_from node) x
named_in r node x a = let (child, b, c) = among_flat bound_names (children_of r node.children) x a in bound_child r node child x b c

-- ---- declarations

-- the declaration is of a binding identifier of its name, or of an enum member
pub data IsOf (all : List Node) (d : Declaration) : Type 0 where
  of_name : (x : Node) → Binds all x → d.naming.identifier ≡ x.node_id → d.naming.name ≡ x.text → IsOf all d
  of_member : (x : Node) → Among x all → x.kind ≡ kind.TSEnumMember → d.naming.identifier ≡ x.node_id → IsOf all d

row_of : (ns : List Node) (node : Node) (row : BinderRow) (is_pure : Bool) (xs : List Node) (d : Declaration) → ((x : Node) → Among x xs → Binds ns x) → Among d (map (declaration_at node row is_pure) xs) → IsOf ns d
row_of ns node row is_pure xs d h a =
    let (x, b, e) = among_map (declaration_at node row is_pure) xs d a in
    of_name x (h x b) (sym (ap (λ y. y.naming.identifier) e)) (sym (ap (λ y. y.naming.name) e))

module _ (p : Place) where
  abbrev all : List Node
  all = nodes_from p.node

  own_row : (row : BinderRow) (is_pure : Bool) (d : Declaration) → Among d (map (declaration_at p.node row is_pure) (bound_names p.node)) → IsOf all d
  own_row row is_pure d a = row_of all p.node row is_pure (bound_names p.node) d (λ x b. bound_of p.node x b) a

  role_row : (r : Role) (row : BinderRow) (is_pure : Bool) (d : Declaration) → Among d (map (declaration_at p.node row is_pure) (names_at r p.node)) → IsOf all d
  role_row r row is_pure d a = row_of all p.node row is_pure (names_at r p.node) d (λ x b. named_in r p.node x b) a

  abbrev row_here : ℕ → ℕ → BinderRow
  row_here flags excluded = record { flags = flags; excluded = excluded; how = plain; route = here p.chain }

  role_here : (r : Role) (flags excluded : ℕ) (d : Declaration) → Among d (declare_here p flags excluded (names_at r p.node)) → IsOf all d
  role_here r flags excluded d a = role_row r (row_here flags excluded) false d a

  variables_of : (path : List Node) (d : Declaration) → Among d (variables_under path p) → IsOf all d
  variables_of [] d a = absurd a
  variables_of (x ∷ xs) d a = own_row (variable_row x p.chain) (is_pure_declarator p.node) d a

  parameters_of : (path : List Node) (d : Declaration) → Among d (parameters_under path p) → IsOf all d
  parameters_of [] d a = absurd a
  parameters_of (x ∷ xs) d a = own_row (row_here symbol.FunctionScopedVariable.bits (parameter_excluded x p.chain)) false d a

  catch_of : (pattern : Node) (d : Declaration) → Among pattern (children_of role.Pattern p.node.children) → Among d (catch_names p pattern) → IsOf all d
  catch_of pattern d b a = go (is kind.BindingIdentifier pattern) refl a
    where
      flags : ℕ
      flags = union symbol.BlockScopedVariable.bits symbol.CatchVariable.bits

      own : is kind.BindingIdentifier pattern ≡ true → Among pattern (bound_names pattern)
      own e = subst (λ t. Among pattern (cond t (pattern ∷ []) (bound_below pattern.kind pattern.children))) (sym e) (inl refl)

      go : (t : Bool) → is kind.BindingIdentifier pattern ≡ t → Among d (if t then declaration_at p.node (record { flags = union symbol.FunctionScopedVariable.bits symbol.CatchVariable.bits; excluded = 0; how = caught; route = here p.chain }) false pattern ∷ [] else declare_here p (union symbol.BlockScopedVariable.bits symbol.CatchVariable.bits) symbol.BlockScopedVariableExcludes.bits (bound_names pattern)) → IsOf all d
      go true e (inl q) = of_name pattern (bound_child role.Pattern p.node pattern pattern b (own e)) (sym (ap (λ y. y.naming.identifier) q)) (sym (ap (λ y. y.naming.name) q))
      go true e (inr q) = absurd q
      go false e q = row_of all p.node (row_here (union symbol.BlockScopedVariable.bits symbol.CatchVariable.bits) symbol.BlockScopedVariableExcludes.bits) false (bound_names pattern) d (λ x c. bound_child role.Pattern p.node pattern x b c) q

  namespace_of : (s : InstanceState) (d : Declaration) → Among d (namespace_row s p) → IsOf all d
  namespace_of non_instantiated d a = role_here role.Id (union symbol.NamespaceModule.bits (marked_ambient p.node)) symbol.NamespaceModuleExcludes.bits d a
  namespace_of const_enum_only d a = role_here role.Id (union symbol.ValueModule.bits (marked_ambient p.node)) symbol.ValueModuleExcludes.bits d a
  namespace_of instantiated d a = role_here role.Id (union symbol.ValueModule.bits (marked_ambient p.node)) symbol.ValueModuleExcludes.bits d a

  enum_of : (d : Declaration) → Among d (enums p) → IsOf all d
  enum_of d a = go (has mark.Const p.node) a
    where
      go : (b : Bool) → Among d (if b then declare_here p (union symbol.ConstEnum.bits (marked_ambient p.node)) symbol.ConstEnumExcludes.bits (ids p.node) else declare_here p (union symbol.RegularEnum.bits (marked_ambient p.node)) symbol.RegularEnumExcludes.bits (ids p.node)) → IsOf all d
      go true q = role_here role.Id (union symbol.ConstEnum.bits (marked_ambient p.node)) symbol.ConstEnumExcludes.bits d q
      go false q = role_here role.Id (union symbol.RegularEnum.bits (marked_ambient p.node)) symbol.RegularEnumExcludes.bits d q

  member_of : (d : Declaration) → p.node.kind ≡ kind.TSEnumMember → Among d (member_declarations p) → IsOf all d
  member_of d k a =
      let (x, b, e) = among_map (declaration_at p.node (row_here symbol.EnumMember.bits symbol.EnumMemberExcludes.bits) false) (flat_map (member_named p.node) (children_of role.Id p.node.children)) d a in
      let (id, c, f) = among_flat (member_named p.node) (children_of role.Id p.node.children) x b in
      let (name, g, h) = among_map (named_member p.node id) (member_names id) x f in
      of_member p.node (inl refl) k (sym (ap (λ y. y.naming.identifier) e) ∙ sym (ap (λ y. y.node_id) h))

  declared_of : (k : AstType) (d : Declaration) → p.node.kind ≡ k → Among d (declared_by k p) → IsOf all d
  declared_of kind.VariableDeclarator d e a = variables_of p.path d a
  declared_of kind.Function d e a = role_row role.Id (function_row p) (has mark.Pure p.node) d (among_if (is_statement p.node) (map (declaration_at p.node (function_row p) (has mark.Pure p.node)) (ids p.node)) d a)
  declared_of kind.Class d e a = role_row role.Id (class_row p p.chain) false d (among_if (is_statement p.node) (map (declaration_at p.node (class_row p p.chain) false) (ids p.node)) d a)
  declared_of kind.FormalParameter d e a = parameters_of p.path d a
  declared_of kind.FormalParameterRest d e a = parameters_of p.path d a
  declared_of kind.BindingRestElement d e a =
      let row : BinderRow = row_here symbol.FunctionScopedVariable.bits (union symbol.FunctionScopedVariableExcludes.bits symbol.FunctionScopedVariable.bits) in
      own_row row false d (among_if _ (map (declaration_at p.node row false) (bound_names p.node)) d a)
  declared_of kind.CatchParameter d e a = let (x, b, c) = among_flat (catch_names p) (children_of role.Pattern p.node.children) d a in catch_of x d b c
  declared_of kind.ImportSpecifier d e a = role_here role.Local (import_flags p) symbol.ImportBindingExcludes.bits d a
  declared_of kind.ImportDefaultSpecifier d e a = role_here role.Local (import_flags p) symbol.ImportBindingExcludes.bits d a
  declared_of kind.ImportNamespaceSpecifier d e a = role_here role.Local (import_flags p) symbol.ImportBindingExcludes.bits d a
  declared_of kind.TSImportEqualsDeclaration d e a = role_here role.Id symbol.Import.bits symbol.ImportBindingExcludes.bits d a
  declared_of kind.TSTypeAliasDeclaration d e a = role_here role.Id (union symbol.TypeAlias.bits (marked_ambient p.node)) symbol.TypeAliasExcludes.bits d a
  declared_of kind.TSInterfaceDeclaration d e a = role_here role.Id (union symbol.Interface.bits (marked_ambient p.node)) symbol.InterfaceExcludes.bits d a
  declared_of kind.TSEnumDeclaration d e a = enum_of d a
  declared_of kind.TSEnumMember d e a = member_of d e a
  declared_of kind.TSNamespaceDeclaration d e a = namespace_of (instance_state p.node p.path (nodes_around p.node p.path)) d a
  declared_of kind.TSTypeParameter d e a = role_row role.Name (type_parameter_row (type_parameter_route p)) false d a
  declared_of _ d e a = absurd a

  inside_of : (k : AstType) (own : OpenScope) (d : Declaration) → Among d (declared_inside k p own) → IsOf all d
  inside_of kind.Function own d a = role_row role.Id (own_function_row p own) (has mark.Pure p.node) d (among_unless (is_statement p.node) (map (declaration_at p.node (own_function_row p own) (has mark.Pure p.node)) (ids p.node)) d a)
  inside_of kind.Class own d a = role_row role.Id (class_row p (own ∷ [])) false d (among_unless (is_statement p.node) (map (declaration_at p.node (class_row p (own ∷ [])) false) (ids p.node)) d a)
  inside_of kind.TSMappedType own d a = role_row role.Key (type_parameter_row (here (own ∷ []))) false d a
  inside_of _ own d a = absurd a

-- ---- the declarations of a program

more_nodes : (xs ys : List Node) (d : Declaration) → ((y : Node) → Among y xs → Among y ys) → IsOf xs d → IsOf ys d
more_nodes xs ys d h (of_name x b e f) = of_name x (binds_all xs ys x h b) e f
more_nodes xs ys d h (of_member x a k e) = of_member x (h x a) k e

step_of : (s : Step) (d : Declaration) → Among d (declared_at s) → IsOf (nodes_from (node_at s)) d
step_of (entering p) d a = declared_of p p.node.kind d refl a
step_of (opening p own) d a = inside_of p p.node.kind own d a
step_of (header_ending p own) d a = absurd a
step_of (closing p own) d a = absurd a
step_of (leaving p) d a = absurd a

-- where a declaration is to be made doesn't matter
placed_of : (ns : List Node) (how : How) (ds : List Declaration) (d : Declaration) → IsOf ns d → IsOf ns (placed_by how ds d)
placed_of ns plain ds d i = i
placed_of ns hoisted ds d i = i
placed_of ns caught ds d i = i
placed_of ns moved ds d i = go (is_barred ds d (outside d.route.passed)) i
  where
    stays : IsOf ns d → IsOf ns (staying_declaration d)
    stays (of_name x b e f) = of_name x b e f
    stays (of_member x a k e) = of_member x a k e

    go : (b : Bool) → IsOf ns d → IsOf ns (if b then staying_declaration d else d)
    go true q = stays q
    go false q = q

all_of : (ns : List Node) (ds new : List Declaration) (d : Declaration) → ((n : Declaration) → Among n new → IsOf ns n) → (e : Event) → Among e (declares_all ds new) → Among d (declared e) → IsOf ns d
all_of ns ds new d h e a b =
    let (n, c, q) = among_map (λ n. declares (placed ds n)) new e a in
    go n c (subst (λ x. Among d (declared x)) (sym q) b)
  where
    go : (n : Declaration) → Among n new → Among d (placed ds n ∷ []) → IsOf ns d
    go n c (inl r) = subst (IsOf ns) r (placed_of ns n.how ds n (h n c))
    go n c (inr r) = absurd r

event_of : (ds : List Declaration) (s : Step) (e : Event) (d : Declaration) → Among e (events_of ds s) → Among d (declared e) → IsOf (nodes_from (node_at s)) d
event_of ds (entering p) e d a b = all_of (nodes_from p.node) ds (declared_at (entering p)) d (λ n c. step_of (entering p) n c) e a b
event_of ds (opening p own) e d a b = elim (among_cases e (taken_over p own) (declares_all ds (declared_at (opening p own))) a) [
  | inl q ↦ taken (is_catch_body p) q
  | inr q ↦ all_of (nodes_from p.node) ds (declared_at (opening p own)) d (λ n c. step_of (opening p own) n c) e q b
]
  where
    taken : (t : Bool) → Among e (cond t (takes_over (innermost p.chain).number own.number ∷ []) []) → IsOf (nodes_from p.node) d
    taken true (inl r) = absurd (subst (λ x. Among d (declared x)) (sym r) b)
    taken true (inr r) = absurd r
    taken false r = absurd r
event_of ds (header_ending p own) e d (inl q) b = absurd (subst (λ x. Among d (declared x)) (sym q) b)
event_of ds (header_ending p own) e d (inr q) b = absurd q
event_of ds (closing p own) e d a b = absurd a
event_of ds (leaving p) e d a b = absurd a

-- each declaration of a program is of one of its nodes
pub declaration_of : (p : Tree) (d : Declaration) → Among d (declarations (events (steps p))) → IsOf (nodes_from p.root) d
declaration_of p d a =
    let (e, b, c) = among_flat declared (events (steps p)) d a in
    let (s, f, g) = among_flat (events_of (written_declarations (steps p))) (steps p) e b in
    more_nodes (nodes_from (node_at s)) (nodes_from p.root) d (steps_within p s f) (event_of (written_declarations (steps p)) s e d g c)
