-- What alike places declare: the same, with changed names.
use Rattle.std.proofs.Common.{◌≡◌, ℕ, List, [], ◌∷◌, ◌++◌, cond, Bool, true, false, not, ◌&&◌, ◌||◌, refl, sym, ap, subst, ◌∙◌, map, flat_map, if◌then◌else◌, codes}
use Rattle.bitflags.specs.Sets.{without}
use Rattle.semantic_syntax.specs.Tables.{Name}
use Rattle.semantic_syntax.specs.Sets.{union}
use Rattle.semantic_syntax.specs.SourceTypes.{is_typescript}
use Rattle.semantic_syntax.specs.declared.symbol_flags.TheConstants.SymbolFlags as symbol
use Rattle.semantic_tree.specs.Forest.{Forest}
use Rattle.semantic_tree.specs.declared.node.Node.{Node}
use Rattle.semantic_kinds.specs.declared.kind.AstType.{AstType}
use Rattle.semantic_kinds.specs.declared.kind.AstType.TheVariants as kind
use Rattle.semantic_kinds.specs.declared.mark.Mark.TheVariants as mark
use Rattle.semantic_kinds.specs.declared.role.Role.TheVariants as role
use Rattle.semantic_tree.specs.Views.{is, has}
use Rattle.semantic_model.specs.Names.{bound_names}
use Rattle.semantic_model.specs.Place.{Place, OpenScope, is_strict, parent_holds}
use Rattle.semantic_model.specs.Declaration.{plain, hoisted, moved, caught, Declaration, here, outward_to, outward_past}
use Rattle.semantic_model.specs.Binder.{BinderRow, declaration_at, declare_here, marked_ambient, is_var, is_pure_function, is_pure_declarator, variable_row, variables_under, is_statement, function_flags, is_block_function, function_row, own_function_row, parameter_excluded, parameters_under, catch_names}
use Rattle.semantic_model.proofs.form.Clauses.{kind_is}
use Rattle.semantic_model.proofs.swapped.Alike.{is_name}
use Rattle.semantic_model.proofs.swapped.AlikeCursor.{with_text, SameNode}
use Rattle.semantic_model.proofs.swapped.AlikeScopes.{re, AlikePath, first_same, word_same}
use Rattle.semantic_model.proofs.swapped.AlikeNames.{Changed, bound_changed, simple_same}

-- a declaration whose name is changed
abbrev pub renamed_declaration : (Name → Name) → Declaration → Declaration
renamed_declaration f d = record d { naming = record d.naming { name = f d.naming.name } }

module _ (f : Name → Name) where
  -- declarations with changed names
  abbrev pub ren : List Declaration → List Declaration
  ren ds = map (renamed_declaration f) ds

  pub rows_changed : (node : Node) (u : Name) (g : Forest) (row : BinderRow) (is_pure : Bool) (xs ys : List Node) → Changed f xs ys → map (declaration_at (with_text node u g) row is_pure) ys ≡ ren (map (declaration_at node row is_pure) xs)
  rows_changed node u g row is_pure [] [] h = refl
  rows_changed node u g row is_pure [] (y ∷ ys) h = absurd h
  rows_changed node u g row is_pure (x ∷ xs) [] h = absurd h
  rows_changed node u g row is_pure (x ∷ xs) (y ∷ ys) h = λ i. declaration_at (with_text node u g) row is_pure (h.0.1 i) ∷ rows_changed node u g row is_pure xs ys h.1 i

  pub here_changed : (p : Place) (u : Name) (g : Forest) (path : List Node) (flags excluded : ℕ) (xs ys : List Node) → Changed f xs ys → declare_here (re p u g path) flags excluded ys ≡ ren (declare_here p flags excluded xs)
  here_changed p u g path flags excluded xs ys h = rows_changed p.node u g (record { flags = flags; excluded = excluded; how = plain; route = here p.chain }) false xs ys h

  pub cond_changed : (b : Bool) (ds es ds' es' : List Declaration) → ds' ≡ ren ds → es' ≡ ren es → cond b ds' es' ≡ ren (cond b ds es)
  cond_changed true ds es ds' es' h k = h
  cond_changed false ds es ds' es' h k = k

  pub append_changed : (ds es : List Declaration) → ren (ds ++ es) ≡ ren ds ++ ren es
  append_changed [] es = refl
  append_changed (d ∷ ds) es = ap (λ xs. renamed_declaration f d ∷ xs) (append_changed ds es)

  -- a test of the parent that reads no name
  pub parent_kind : (w : AstType) (path path' : List Node) → AlikePath f path path' → parent_holds (is w) path' ≡ parent_holds (is w) path
  parent_kind w [] [] h = refl
  parent_kind w [] (y ∷ ys) h = absurd h
  parent_kind w (x ∷ xs) [] h = absurd h
  parent_kind w (x ∷ xs) (y ∷ ys) h = ap (is w) h.0.2

  pub parent_typed : (path path' : List Node) → AlikePath f path path' → parent_holds (has mark.TypeOnly) path' ≡ parent_holds (has mark.TypeOnly) path
  parent_typed [] [] h = refl
  parent_typed [] (y ∷ ys) h = absurd h
  parent_typed (x ∷ xs) [] h = absurd h
  parent_typed (x ∷ xs) (y ∷ ys) h = ap (has mark.TypeOnly) h.0.2

  -- a variable's row
  variable_by : Node → List OpenScope → Bool → Bool → BinderRow
  variable_by x chain v l =
      if v then record { flags = union symbol.FunctionScopedVariable.bits (marked_ambient x); excluded = symbol.FunctionScopedVariableExcludes.bits; how = hoisted; route = outward_to is_var chain }
      else record { flags = union (cond l symbol.BlockScopedVariable.bits (union symbol.BlockScopedVariable.bits symbol.ConstVariable.bits)) (marked_ambient x); excluded = symbol.BlockScopedVariableExcludes.bits; how = plain; route = here chain }

  variable_same : (x : Node) (u : Name) (g : Forest) (chain : List OpenScope) → SameNode f x u g → variable_row (with_text x u g) chain ≡ variable_row x chain
  unfolding variable_by
  variable_same x u g chain s = λ i. variable_by x chain (word_same f kind.VariableDeclaration (codes "var") x u g refl refl s i) (word_same f kind.VariableDeclaration (codes "let") x u g refl refl s i)

  pure_same : (node : Node) (u : Name) (g : Forest) → SameNode f node u g → is_pure_declarator (with_text node u g) ≡ is_pure_declarator node
  pure_same node u g s = λ i. first_same f role.Id (is kind.BindingIdentifier) (λ n v h w. refl) node.children g s.children i && first_same f role.Init is_pure_function (λ n v h w. refl) node.children g s.children i

  pub variables_same : (p : Place) (u : Name) (g : Forest) (path path' xs ys : List Node) → SameNode f p.node u g → AlikePath f xs ys → variables_under ys (re p u g path') ≡ ren (variables_under xs p)
  variables_same p u g path path' [] [] s h = refl
  variables_same p u g path path' [] (y ∷ ys) s h = absurd h
  variables_same p u g path path' (x ∷ xs) [] s h = absurd h
  variables_same p u g path path' (x ∷ xs) (y ∷ ys) s h = let (v, w, e, t) = h.0 in
      ap (λ z. map (declaration_at (with_text p.node u g) (variable_row z p.chain) (is_pure_declarator (with_text p.node u g))) (bound_names (with_text p.node u g))) e
      ∙ ap (λ row. map (declaration_at (with_text p.node u g) row (is_pure_declarator (with_text p.node u g))) (bound_names (with_text p.node u g))) (variable_same x v w p.chain t)
      ∙ ap (λ b. map (declaration_at (with_text p.node u g) (variable_row x p.chain) b) (bound_names (with_text p.node u g))) (pure_same p.node u g s)
      ∙ rows_changed p.node u g (variable_row x p.chain) (is_pure_declarator p.node) (bound_names p.node) (bound_names (with_text p.node u g)) (bound_changed f p.node u g s)

  -- a function's row
  function_by : Place → Bool → BinderRow
  function_by p b =
      if is_block_function p
      then record { flags = function_flags p.node; excluded = (if is_typescript p.source_type then symbol.FunctionExcludes.bits else if is_statement p.node && not (is_strict p.chain) && b then 0 else without 32 symbol.FunctionExcludes.bits symbol.FunctionScopedVariable.bits); how = moved; route = outward_past is_var p.chain }
      else record { flags = function_flags p.node; excluded = (if is_typescript p.source_type then symbol.FunctionExcludes.bits else if is_statement p.node && not (is_strict p.chain) && b then 0 else without 32 symbol.FunctionExcludes.bits symbol.FunctionScopedVariable.bits); how = plain; route = here p.chain }

  pub function_same : (p : Place) (g : Forest) (path : List Node) → AlikePath f p.path path → function_row (re p p.node.text g path) ≡ function_row p
  unfolding function_by
  function_same p g path a = ap (function_by p) (parent_kind kind.IfStatement p.path path a)

  own_by : Place → OpenScope → Bool → BinderRow
  own_by p own b = record { flags = function_flags p.node; excluded = (if is_typescript p.source_type then symbol.FunctionExcludes.bits else if is_statement p.node && not (is_strict p.chain) && b then 0 else without 32 symbol.FunctionExcludes.bits symbol.FunctionScopedVariable.bits); how = plain; route = here (own ∷ []) }

  pub own_same : (p : Place) (g : Forest) (path : List Node) (own : OpenScope) → AlikePath f p.path path → own_function_row (re p p.node.text g path) own ≡ own_function_row p own
  unfolding own_by
  own_same p g path own a = ap (own_by p own) (parent_kind kind.IfStatement p.path path a)

  -- a parameter
  excluded_by : Bool → Bool → Bool → Bool → ℕ
  excluded_by a u s l = if a || u || s || not l then union symbol.FunctionScopedVariableExcludes.bits symbol.FunctionScopedVariable.bits else symbol.FunctionScopedVariableExcludes.bits

  parameter_same : (x : Node) (u : Name) (g : Forest) (chain : List OpenScope) → SameNode f x u g → parameter_excluded (with_text x u g) chain ≡ parameter_excluded x chain
  unfolding excluded_by
  parameter_same x u g chain s = λ i. excluded_by (word_same f kind.FormalParameters (codes "arrow") x u g refl refl s i) (word_same f kind.FormalParameters (codes "unique") x u g refl refl s i) (is_strict chain) (simple_same f x u g s i)

  pub parameters_same : (p : Place) (u : Name) (g : Forest) (path' xs ys : List Node) → SameNode f p.node u g → AlikePath f xs ys → parameters_under ys (re p u g path') ≡ ren (parameters_under xs p)
  parameters_same p u g path' [] [] s h = refl
  parameters_same p u g path' [] (y ∷ ys) s h = absurd h
  parameters_same p u g path' (x ∷ xs) [] s h = absurd h
  parameters_same p u g path' (x ∷ xs) (y ∷ ys) s h = let (v, w, e, t) = h.0 in
      ap (λ z. declare_here (re p u g path') symbol.FunctionScopedVariable.bits (parameter_excluded z p.chain) (bound_names (with_text p.node u g))) e
      ∙ ap (λ n. declare_here (re p u g path') symbol.FunctionScopedVariable.bits n (bound_names (with_text p.node u g))) (parameter_same x v w p.chain t)
      ∙ here_changed p u g path' symbol.FunctionScopedVariable.bits (parameter_excluded x p.chain) (bound_names p.node) (bound_names (with_text p.node u g)) (bound_changed f p.node u g s)

  -- the names of a catch clause
  catch_same : (p : Place) (u : Name) (g : Forest) (path' : List Node) (x : Node) (v : Name) (w : Forest) → SameNode f x v w → catch_names (re p u g path') (with_text x v w) ≡ ren (catch_names p x)
  catch_same p u g path' x v w t = go (is kind.BindingIdentifier x) refl
    where
      row : BinderRow
      row = record { flags = union symbol.FunctionScopedVariable.bits symbol.CatchVariable.bits; excluded = 0; how = caught; route = here p.chain }

      go : (b : Bool) → is kind.BindingIdentifier x ≡ b → (if b then declaration_at (with_text p.node u g) (record { flags = union symbol.FunctionScopedVariable.bits symbol.CatchVariable.bits; excluded = 0; how = caught; route = here p.chain }) false (with_text x v w) ∷ [] else declare_here (re p u g path') (union symbol.BlockScopedVariable.bits symbol.CatchVariable.bits) symbol.BlockScopedVariableExcludes.bits (bound_names (with_text x v w))) ≡ ren (if b then declaration_at p.node (record { flags = union symbol.FunctionScopedVariable.bits symbol.CatchVariable.bits; excluded = 0; how = caught; route = here p.chain }) false x ∷ [] else declare_here p (union symbol.BlockScopedVariable.bits symbol.CatchVariable.bits) symbol.BlockScopedVariableExcludes.bits (bound_names x))
      go true e = ap (λ z. declaration_at (with_text p.node u g) (record { flags = union symbol.FunctionScopedVariable.bits symbol.CatchVariable.bits; excluded = 0; how = caught; route = here p.chain }) false (with_text x z w) ∷ []) (t.text.named (subst (λ j. is_name j ≡ true) (sym (kind_is x.kind kind.BindingIdentifier e)) refl))
      go false e = here_changed p u g path' (union symbol.BlockScopedVariable.bits symbol.CatchVariable.bits) symbol.BlockScopedVariableExcludes.bits (bound_names x) (bound_names (with_text x v w)) (bound_changed f x v w t)

  pub catches_same : (p : Place) (u : Name) (g : Forest) (path' xs ys : List Node) → AlikePath f xs ys → flat_map (catch_names (re p u g path')) ys ≡ ren (flat_map (catch_names p) xs)
  catches_same p u g path' [] [] h = refl
  catches_same p u g path' [] (y ∷ ys) h = absurd h
  catches_same p u g path' (x ∷ xs) [] h = absurd h
  catches_same p u g path' (x ∷ xs) (y ∷ ys) h = let (v, w, e, t) = h.0 in
      (λ i. (ap (catch_names (re p u g path')) e ∙ catch_same p u g path' x v w t) i ++ catches_same p u g path' xs ys h.1 i)
      ∙ sym (append_changed (catch_names p x) (flat_map (catch_names p) xs))
