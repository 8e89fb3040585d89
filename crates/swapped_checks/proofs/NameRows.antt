-- Rows on names, where names are others.
use Rattle.std.proofs.Common.{◌≡◌, List, [], ◌∷◌, ◌++◌, Some, None, Bool, true, false, ◌&&◌, ◌||◌, not, if◌then◌else◌, refl, ap, ◌∙◌, bytes_eq, codes}
use Rattle.std.specs.List.{find}
use Rattle.semantic_kinds.specs.Classes.{is_member}
use Rattle.semantic_kinds.specs.Kinds.{same_kind}
use Rattle.semantic_kinds.specs.declared.kind.AstType.{AstType}
use Rattle.semantic_kinds.specs.declared.kind.AstType.TheVariants as kind
use Rattle.semantic_kinds.specs.declared.role.Role.{Role}
use Rattle.semantic_kinds.specs.declared.role.Role.TheVariants as role
use Rattle.semantic_syntax.specs.Tables.{Name}
use Rattle.semantic_tree.specs.Views.{is, has_text}
use Rattle.semantic_tree.specs.declared.node.Node.{Node}
use Rattle.semantic_tree.specs.declared.swap.Setting.{Setting}
use Rattle.semantic_diagnostics.specs.declared.diagnostic.Diagnostic.{Diagnostic}
use Rattle.semantic_diagnostics.specs.declared.contexts.ReservedKeywordContext.TheVariants as reserved
use Rattle.semantic_diagnostics.specs.declared.contexts.UnexpectedIdentifierAssignContext.TheVariants as assigned
use Rattle.semantic_diagnostics.specs.Names.{reserved_keyword, class_static_block_await, unexpected_identifier_assign, invalid_let_declaration, unexpected_arguments}
use Rattle.semantic_model.proofs.form.Clauses.{kind_is}
use Rattle.check_model.specs.Names.{is_strict_reserved, reserved_because, not_assigned_because, check_identifier, is_eval_or_arguments, is_pattern_part, is_second_under, is_plain_binding, eval_binding_rows, declaration_around, let_rows, check_binding_identifier, is_updated_target, writes_to, is_write_outward, is_field_value, is_static_block, owner_of_arguments, arguments_rows, check_identifier_reference}
use Rattle.check_model.specs.Search.{rows_if, row_if, passes, find_before}
use Rattle.check_model.specs.Sight.{Sight}
use Rattle.check_model.specs.Surroundings.{is_strict, is_module, is_definition, scope_passes, links}
use Rattle.swapped_checks.specs.RuleWords.{is_rule_word, KeepsRuleWords}
use Rattle.swapped_checks.proofs.Changed.{Change, IsChanged}
use Rattle.swapped_checks.proofs.Pairwise.{Each, Both, OfPairs, Agree, find_each, passes_both, some_same}
use Rattle.swapped_checks.proofs.RenamedNodes.{kind_agrees, plain_text, word_agrees, whose_agrees, inner_agrees}
use Rattle.swapped_checks.proofs.Around.{seen, in_class, parent_agrees, under, links_both}

-- a name that no rule asks for
pub record IsQuiet (name : Name) : Type 0 where
  pub no_await : bytes_eq name (codes "await") ≡ false
  pub no_eval : bytes_eq name (codes "eval") ≡ false
  pub no_arguments : bytes_eq name (codes "arguments") ≡ false
  pub no_let : bytes_eq name (codes "let") ≡ false
  pub not_reserved : is_strict_reserved name ≡ false

nothing_if : (b : Bool) → rows_if {A = Diagnostic} b [] ≡ []
nothing_if true = refl
nothing_if false = refl

module _ (s : Sight) (q : IsQuiet s.node.text) where
  pub identifier_quiet : check_identifier s.node.text s.node.span s ≡ []
  identifier_quiet = rw (q.no_await, q.not_reserved) (nothing_if (not s.is_ambient))

  pub binding_quiet : check_binding_identifier s ≡ []
  binding_quiet = rw (q.no_eval, q.no_arguments, q.no_let) (nothing_if (not (is_definition s)))

  pub reference_quiet : check_identifier_reference s ≡ []
  reference_quiet = rw (q.no_eval, q.no_arguments) (nothing_if (not (is_definition s)))

module _ (f : Change) (keeps : KeepsRuleWords f.names) (s : Sight) (st : Setting) (r : Role) (path : List Node) (above : Each (IsChanged f) s.path path) where
  abbrev t : Sight
  t = seen f s st r path

  abbrev R : Node → Node → Type 0
  R = IsChanged f

  abbrev P : Node × Node → Node × Node → Type 0
  P = OfPairs R

  because_same : reserved_because t ≡ reserved_because s
  because_same = ap (λ b. if b then reserved.Class else (if is_module s then reserved.Module else reserved.StrictMode)) (in_class f s st r path above)

  assigned_same : not_assigned_because t ≡ not_assigned_because s
  assigned_same = ap (λ b. if b then assigned.Class else (if is_module s then assigned.Module else assigned.StrictMode)) (in_class f s st r path above)

  -- ---- the text is the same

  module _ (same : t.node.text ≡ s.node.text) where
    pub identifier_same : check_identifier t.node.text t.node.span t ≡ check_identifier s.node.text s.node.span s
    identifier_same = λ i.
        rows_if (not s.is_ambient)
        (if bytes_eq (same i) (codes "await") then (if is_module s then reserved_keyword (same i) s.node.span reserved.ModuleAwait ∷ [] else row_if (scope_passes (λ seen. seen.is_static_block) s) (class_static_block_await s.node.span))
        else row_if (is_strict_reserved (same i) && is_strict s) (reserved_keyword (same i) s.node.span (because_same i)))

    -- ---- binding identifiers

    second_same : (k : AstType) (xs ys : List Node) → Each R xs ys → is_second_under k ys ≡ is_second_under k xs
    second_same k [] [] e = refl
    second_same k [] (y ∷ ys) e = absurd e
    second_same k (x ∷ xs) [] e = absurd e
    second_same k (x ∷ []) (y ∷ []) e = refl
    second_same k (x ∷ []) (y ∷ y2 ∷ ys) e = absurd e.1
    second_same k (x ∷ x2 ∷ xs) (y ∷ []) e = absurd e.1
    second_same k (x ∷ x2 ∷ xs) (y ∷ y2 ∷ ys) e = kind_agrees f (λ j. same_kind j k) x2 y2 e.1.0

    plain_same : is_plain_binding t ≡ is_plain_binding s
    plain_same = λ i. (under f s st r path above kind.BindingRestElement i && second_same kind.FormalParameterRest s.path path above i) || not (parent_agrees f s st r path above (λ n. is_pattern_part n.kind) (kind_agrees f is_pattern_part) i)

    evals_same : eval_binding_rows t ≡ eval_binding_rows s
    evals_same = λ i. row_if (is_eval_or_arguments (same i) && is_strict s && not (s.is_ambient && plain_same i)) (unexpected_identifier_assign (same i) s.node.span (assigned_same i))

    abbrev let_row : Node → List Diagnostic
    let_row n = row_if (not (has_text (codes "var") n)) (invalid_let_declaration n.text s.node.span)

    -- a declaration of variables
    abbrev D : Node → Node → Type 0
    D a b = R a b × (is kind.VariableDeclaration a ≡ true)

    declarations : (xs ys : List Node) → Each R xs ys → Both D (find_before (is kind.Function) (is kind.VariableDeclaration) xs) (find_before (is kind.Function) (is kind.VariableDeclaration) ys)
    declarations [] [] e = tt
    declarations [] (y ∷ ys) e = absurd e
    declarations (x ∷ xs) [] e = absurd e
    declarations (x ∷ xs) (y ∷ ys) e = go (is kind.Function x) (is kind.Function y) (is kind.VariableDeclaration x) (is kind.VariableDeclaration y) (kind_agrees f (λ k. same_kind k kind.Function) x y e.0) (kind_agrees f (λ k. same_kind k kind.VariableDeclaration) x y e.0) refl (declarations xs ys e.1)
      where
        go : (a b c d : Bool) → b ≡ a → d ≡ c → is kind.VariableDeclaration x ≡ c → Both D (find_before (is kind.Function) (is kind.VariableDeclaration) xs) (find_before (is kind.Function) (is kind.VariableDeclaration) ys)
            → Both D (if a then None else (if c then Some x else find_before (is kind.Function) (is kind.VariableDeclaration) xs)) (if b then None else (if d then Some y else find_before (is kind.Function) (is kind.VariableDeclaration) ys))
        go true true c d h i j k = tt
        go false false true true h i j k = (e.0, j)
        go false false false false h i j k = k
        go true false c d h i j k = absurd cc
        go false true c d h i j k = absurd cc
        go false false true false h i j k = absurd cc
        go false false false true h i j k = absurd cc

    lets_same : let_rows t ≡ let_rows s
    lets_same = λ i. rows_if (bytes_eq (same i) (codes "let") && not (is_strict s))
        (some_same D let_row let_row (λ a b e. ap (λ u. row_if (not (bytes_eq u (codes "var"))) (invalid_let_declaration u s.node.span)) (plain_text f kind.VariableDeclaration refl refl a b e.0 (kind_is a.kind kind.VariableDeclaration e.1))) (declaration_around s) (declaration_around t) (declarations s.path path above) i)

    pub binding_same : check_binding_identifier t ≡ check_binding_identifier s
    binding_same = λ i. rows_if (not (is_definition s)) (evals_same i ++ lets_same i)

    -- ---- identifier references

    module _ (word : is_rule_word s.node.text ≡ true) where
      left_agrees : Agree R (λ n. is kind.IdentifierReference n && has_text s.node.text n) (λ n. is kind.IdentifierReference n && has_text s.node.text n)
      left_agrees a b e = λ i. kind_agrees f (λ k. same_kind k kind.IdentifierReference) a b e i && word_agrees f keeps s.node.text word a b e i

      writes_agree : Agree R (writes_to s.node.text) (writes_to s.node.text)
      writes_agree a b e = λ i. kind_agrees f is_updated_target a b e i || (kind_agrees f (λ k. same_kind k kind.AssignmentExpression) a b e i && whose_agrees f role.Left (λ n. is kind.IdentifierReference n && has_text s.node.text n) (λ n. is kind.IdentifierReference n && has_text s.node.text n) left_agrees a b e i)

      written_same : is_write_outward t ≡ is_write_outward s
      written_same =
          ap (λ u. passes (λ n. not (is_member n.kind)) (find (λ n. is_member n.kind || writes_to u n) path)) same
          ∙ passes_both R (λ n. not (is_member n.kind)) (λ n. not (is_member n.kind)) (kind_agrees f (λ k. not (is_member k)))
          (find (λ n. is_member n.kind || writes_to s.node.text n) s.path) (find (λ n. is_member n.kind || writes_to s.node.text n) path)
          (find_each R (λ n. is_member n.kind || writes_to s.node.text n) (λ n. is_member n.kind || writes_to s.node.text n) (λ a b e. λ i. kind_agrees f is_member a b e i || writes_agree a b e i) s.path path above)

      field_agrees : Agree P is_field_value is_field_value
      field_agrees p q e = λ i. kind_agrees f (λ k. same_kind k kind.PropertyDefinition) p.1 q.1 e.1 i && inner_agrees f role.Value p q e i

      block_agrees : Agree P is_static_block is_static_block
      block_agrees p q e = kind_agrees f (λ k. same_kind k kind.StaticBlock) p.1 q.1 e.1

      owner_both : Both P (owner_of_arguments s) (owner_of_arguments t)
      owner_both = find_each P (λ p. is kind.Function p.1 || (is_field_value p || is_static_block p)) (λ p. is kind.Function p.1 || (is_field_value p || is_static_block p)) (λ p q e. λ i. kind_agrees f (λ k. same_kind k kind.Function) p.1 q.1 e.1 i || (field_agrees p q e i || block_agrees p q e i)) (links s) (links t) (links_both f s st r path above)

      abbrev owner_rows : Node × Node → List Diagnostic
      owner_rows p = row_if (is_field_value p) (unexpected_arguments (codes "class field initializer") s.node.span) ++ row_if (is_static_block p) (unexpected_arguments (codes "static initialization block") s.node.span)

      arguments_same : arguments_rows t ≡ arguments_rows s
      arguments_same = some_same P owner_rows owner_rows (λ p q e. λ i. row_if (field_agrees p q e i) (unexpected_arguments (codes "class field initializer") s.node.span) ++ row_if (block_agrees p q e i) (unexpected_arguments (codes "static initialization block") s.node.span)) (owner_of_arguments s) (owner_of_arguments t) owner_both

      pub reference_same : check_identifier_reference t ≡ check_identifier_reference s
      reference_same = λ i. rows_if (not (is_definition s))
          (if is_eval_or_arguments (same i) && is_strict s && written_same i then unexpected_identifier_assign (same i) s.node.span (assigned_same i) ∷ []
          else rows_if (bytes_eq (same i) (codes "arguments")) (arguments_same i))
