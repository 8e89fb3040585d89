-- What a node declares, by its kind.
use Rattle.std.proofs.Common.{◌≡◌, ℕ, [], ◌∷◌, ◌++◌, Bool, true, false, ◌&&◌, ◌||◌, not, cond, map, flat_map, refl, sym, ap, ◌∙◌}
use Rattle.std.specs.Prelude.{if◌then◌else◌}
use Rattle.bitflags.specs.Sets.{without}
use Rattle.semantic_kinds.specs.Classes.{holds_kind}
use Rattle.semantic_kinds.specs.Kinds.{same_kind}
use Rattle.semantic_kinds.specs.Roles.{same_role}
use Rattle.semantic_kinds.specs.declared.kind.AstType.{AstType}
use Rattle.semantic_kinds.specs.declared.kind.AstType.TheVariants as kind
use Rattle.semantic_kinds.specs.declared.role.Role.TheVariants as role
use Rattle.semantic_kinds.specs.declared.mark.Mark.TheVariants as mark
use Rattle.semantic_syntax.specs.declared.source_type.SourceType.{SourceType}
use Rattle.semantic_syntax.specs.declared.symbol_flags.TheConstants.SymbolFlags as symbol
use Rattle.semantic_syntax.specs.SourceTypes.{is_typescript}
use Rattle.semantic_tree.specs.Forest.{Forest, nothing, tree}
use Rattle.semantic_tree.specs.declared.node.Node.{Node}
use Rattle.semantic_tree.specs.Views.{is, has, is_role_of, children_of}
use Rattle.semantic_model.specs.Names.{binding_roles, bound_below, bound_names}
use Rattle.semantic_model.specs.Place.{Place, OpenScope, innermost, is_strict, parent_holds}
use Rattle.semantic_model.specs.Binder as binder
use Rattle.semantic_model.specs.Binder.{declare_here, ids, is_statement, is_special, function_excluded, is_block_function, is_var, is_clause, function_row, own_function_row, class_row, type_parameter_row, declared_by, declared_on_entering, declared_inside, declared_on_opening}
use Rattle.walk_model.specs.WrittenNames.{is_known_inside}
use Rattle.semantic_walk.specs.Binds.{is_bound_inside}

-- under one role alone a node binds the names below its children in it
by_id : (k : AstType) (f : Forest) → binding_roles k ≡ role.Id ∷ [] → bound_below k f ≡ flat_map bound_names (children_of role.Id f)
by_id k nothing e = refl
by_id k (tree r name span text marks below id after) e =
    ap (λ rs. cond (is_role_of r rs) (bound_names node) [] ++ bound_below k after) e ∙ by (same_role r role.Id) (by_id k after e)
  where
    node : Node
    node = record { kind = name; span = span; text = text; marks = marks; children = below; node_id = id }

    by : (b : Bool) → bound_below k after ≡ flat_map bound_names (children_of role.Id after)
        → cond (b || false) (bound_names node) [] ++ bound_below k after ≡ flat_map bound_names (cond b (node ∷ children_of role.Id after) (children_of role.Id after))
    by true h = ap (λ xs. bound_names node ++ xs) h
    by false h = h

pub own_names : (node : Node) (k : AstType) → node.kind ≡ k → same_kind k kind.BindingIdentifier ≡ false → binding_roles k ≡ role.Id ∷ [] → bound_names node ≡ ids node
own_names node k e other roles =
    ap (λ b. cond b (node ∷ []) (bound_below node.kind node.children)) (ap (λ j. same_kind j kind.BindingIdentifier) e ∙ other)
    ∙ by_id node.kind node.children (ap binding_roles e ∙ roles)

-- whether a node of the kind declares in its own scope
abbrev inside_by : AstType → Bool → Bool
inside_by k statement = (holds_kind (kind.Function ∷ kind.Class ∷ []) k && not statement) || same_kind k kind.TSMappedType

pub never_inside : (node : Node) (k : AstType) → node.kind ≡ k → inside_by k (is_statement node) ≡ false → is_bound_inside node ≡ false
never_inside node k e h = ap (λ j. inside_by j (is_statement node)) e ∙ h

pub not_inside : (node : Node) (k : AstType) → node.kind ≡ k → inside_by k (is_statement node) ≡ false → is_bound_inside node ≡ true → ⊥
not_inside node k e h t = clash (sym (never_inside node k e h) ∙ t)
  where
    clash : false ≡ true → ⊥
    clash q = cc

-- a function or class that declares outside is a statement
pub stated : (node : Node) (k : AstType) → node.kind ≡ k → holds_kind (kind.Function ∷ kind.Class ∷ []) k ≡ true → is_bound_inside node ≡ false → is_statement node ≡ true
stated node k e f h =
    by (is_statement node) (sym (ap (λ b. (b && not (is_statement node)) || same_kind node.kind kind.TSMappedType) (ap (holds_kind (kind.Function ∷ kind.Class ∷ [])) e ∙ f)) ∙ h)
  where
    by : (b : Bool) → ((true && not b) || same_kind node.kind kind.TSMappedType) ≡ false → b ≡ true
    by true q = refl
    by false q = cc

-- and one that declares inside is none
pub unstated : (node : Node) (k : AstType) → node.kind ≡ k → same_kind k kind.TSMappedType ≡ false → is_bound_inside node ≡ true → is_statement node ≡ false
unstated node k e f h =
    by (holds_kind (kind.Function ∷ kind.Class ∷ []) node.kind) (is_statement node)
    (sym (ap (λ b. (holds_kind (kind.Function ∷ kind.Class ∷ []) node.kind && not (is_statement node)) || b) (ap (λ j. same_kind j kind.TSMappedType) e ∙ f)) ∙ h)
  where
    by : (a b : Bool) → ((a && not b) || false) ≡ true → b ≡ false
    by true true q = cc
    by true false q = refl
    by false b q = cc

pub mapped_inside : (node : Node) → node.kind ≡ kind.TSMappedType → is_bound_inside node ≡ false → ⊥
mapped_inside node e h = by (is_known_inside node) (sym (ap (λ j. is_known_inside node || same_kind j kind.TSMappedType) e) ∙ h)
  where
    by : (b : Bool) → (b || true) ≡ false → ⊥
    by true q = cc
    by false q = cc

module _ (p : Place) where
  pub class_declares : p.node.kind ≡ kind.Class → is_statement p.node ≡ true
      → declared_on_entering p ≡ map (binder.declaration_at p.node (class_row p p.chain) false) (bound_names p.node)
  class_declares k s =
      ap (λ j. declared_by j p) k ∙ ap (λ b. cond b (map (binder.declaration_at p.node (class_row p p.chain) false) (ids p.node)) []) s
      ∙ ap (map (binder.declaration_at p.node (class_row p p.chain) false)) (sym (own_names p.node kind.Class k refl refl))

  pub class_opens : (own : OpenScope) → p.node.kind ≡ kind.Class → is_statement p.node ≡ false
      → declared_on_opening p own ≡ map (binder.declaration_at p.node (class_row p (own ∷ [])) false) (bound_names p.node)
  class_opens own k s =
      ap (λ j. declared_inside j p own) k ∙ ap (λ b. cond b [] (map (binder.declaration_at p.node (class_row p (own ∷ [])) false) (ids p.node))) s
      ∙ ap (map (binder.declaration_at p.node (class_row p (own ∷ [])) false)) (sym (own_names p.node kind.Class k refl refl))

  pub function_declares : p.node.kind ≡ kind.Function → is_statement p.node ≡ true
      → declared_on_entering p ≡ map (binder.declaration_at p.node (function_row p) (has mark.Pure p.node)) (bound_names p.node)
  function_declares k s =
      ap (λ j. declared_by j p) k ∙ ap (λ b. cond b (map (binder.declaration_at p.node (function_row p) (has mark.Pure p.node)) (ids p.node)) []) s
      ∙ ap (map (binder.declaration_at p.node (function_row p) (has mark.Pure p.node))) (sym (own_names p.node kind.Function k refl refl))

  pub function_opens : (own : OpenScope) → p.node.kind ≡ kind.Function → is_statement p.node ≡ false
      → declared_on_opening p own ≡ map (binder.declaration_at p.node (own_function_row p own) (has mark.Pure p.node)) (bound_names p.node)
  function_opens own k s =
      ap (λ j. declared_inside j p own) k ∙ ap (λ b. cond b [] (map (binder.declaration_at p.node (own_function_row p own) (has mark.Pure p.node)) (ids p.node))) s
      ∙ ap (map (binder.declaration_at p.node (own_function_row p own) (has mark.Pure p.node))) (sym (own_names p.node kind.Function k refl refl))

  -- the names that are declared here are those that the node binds
  pub here_binds : (k : AstType) (flags excluded : ℕ) → p.node.kind ≡ k → same_kind k kind.BindingIdentifier ≡ false → binding_roles k ≡ role.Id ∷ []
      → declare_here p flags excluded (ids p.node) ≡ declare_here p flags excluded (bound_names p.node)
  here_binds k flags excluded e other roles = ap (declare_here p flags excluded) (sym (own_names p.node k e other roles))

-- what a function conflicts with, by what is seen of its place
abbrev excluded_by : SourceType → Node → (strict under_if : Bool) → ℕ
excluded_by source node strict under_if =
    if is_typescript source then symbol.FunctionExcludes.bits
    else if is_statement node && not strict && under_if then 0
    else without 32 symbol.FunctionExcludes.bits symbol.FunctionScopedVariable.bits

module _ (p q : Place) (source : p.source_type ≡ q.source_type) (node : p.node ≡ q.node) where
  pub excluded_same : is_strict p.chain ≡ is_strict q.chain → parent_holds (is kind.IfStatement) p.path ≡ parent_holds (is kind.IfStatement) q.path → function_excluded p ≡ function_excluded q
  excluded_same strict parent =
      ap (λ s. excluded_by s p.node (is_strict p.chain) (parent_holds (is kind.IfStatement) p.path)) source
      ∙ ap (λ n. excluded_by q.source_type n (is_strict p.chain) (parent_holds (is kind.IfStatement) p.path)) node
      ∙ ap (λ b. excluded_by q.source_type q.node b (parent_holds (is kind.IfStatement) p.path)) strict
      ∙ ap (λ b. excluded_by q.source_type q.node (is_strict q.chain) b) parent

  -- of an expression neither the scope nor the parent counts
  pub excluded_alone : is_statement p.node ≡ false → function_excluded p ≡ function_excluded q
  excluded_alone s =
      ap (λ t. excluded_by t p.node (is_strict p.chain) (parent_holds (is kind.IfStatement) p.path)) source
      ∙ ap (λ b. if is_typescript q.source_type then symbol.FunctionExcludes.bits else if b && not (is_strict p.chain) && parent_holds (is kind.IfStatement) p.path then 0 else without 32 symbol.FunctionExcludes.bits symbol.FunctionScopedVariable.bits) s
      ∙ sym (ap (λ b. if is_typescript q.source_type then symbol.FunctionExcludes.bits else if b && not (is_strict q.chain) && parent_holds (is kind.IfStatement) q.path then 0 else without 32 symbol.FunctionExcludes.bits symbol.FunctionScopedVariable.bits) (ap is_statement (sym node) ∙ s))

  pub block_same : is_strict p.chain ≡ is_strict q.chain → is_var (innermost p.chain) ≡ is_var (innermost q.chain) → is_clause (innermost p.chain) ≡ is_clause (innermost q.chain)
      → is_block_function p ≡ is_block_function q
  block_same strict var clause =
      ap (λ n. not (is_special n) && not (is_typescript p.source_type) && not (is_strict p.chain) && not (is_var (innermost p.chain) || is_clause (innermost p.chain))) node
      ∙ ap (λ s. not (is_special q.node) && not (is_typescript s) && not (is_strict p.chain) && not (is_var (innermost p.chain) || is_clause (innermost p.chain))) source
      ∙ ap (λ b. not (is_special q.node) && not (is_typescript q.source_type) && not b && not (is_var (innermost p.chain) || is_clause (innermost p.chain))) strict
      ∙ ap (λ b. not (is_special q.node) && not (is_typescript q.source_type) && not (is_strict q.chain) && not (b || is_clause (innermost p.chain))) var
      ∙ ap (λ b. not (is_special q.node) && not (is_typescript q.source_type) && not (is_strict q.chain) && not (is_var (innermost q.chain) || b)) clause

-- a function that may move stands in no function's scope itself
pub block_is_inner : (p : Place) → is_block_function p ≡ true → is_var (innermost p.chain) ≡ false
block_is_inner p h = by (not (is_special p.node) && not (is_typescript p.source_type) && not (is_strict p.chain)) (is_var (innermost p.chain)) (is_clause (innermost p.chain)) h
  where
    by : (a b c : Bool) → (a && not (b || c)) ≡ true → b ≡ false
    by a false c q = refl
    by true true c q = cc
    by false true c q = cc
