-- All rows on a node, where names are others.
use Rattle.std.proofs.Common.{◌≡◌, List, [], ◌∷◌, ◌++◌, Bool, true, false, ◌&&◌, ◌||◌, inl, inr, refl, sym, subst, ap, ◌∙◌, map, bytes_eq, codes}
use Rattle.std.specs.List.{list_any, list_all}
use Rattle.std.proofs.lemmas.Bool.{cases_Bool}
use Rattle.semantic_syntax.proofs.Truth.{and_first, and_second}
use Rattle.semantic_kinds.specs.Kinds.{same_kind}
use Rattle.semantic_kinds.specs.declared.kind.AstType.{AstType}
use Rattle.semantic_kinds.specs.declared.kind.AstType.TheVariants as kind
use Rattle.semantic_kinds.specs.declared.mark.Mark.TheVariants as mark
use Rattle.semantic_kinds.specs.declared.role.Role.{Role}
use Rattle.semantic_kinds.specs.declared.role.Role.TheVariants as role
use Rattle.semantic_syntax.specs.Tables.{Name, Symbol}
use Rattle.semantic_tree.specs.Renamed.{swap}
use Rattle.semantic_tree.specs.Views.{is}
use Rattle.semantic_tree.specs.declared.node.Node.{Node}
use Rattle.semantic_tree.specs.declared.swap.Setting.{Setting}
use Rattle.semantic_diagnostics.specs.declared.diagnostic.Diagnostic.{Diagnostic}
use Rattle.semantic_model.specs.Swap.{renamed_symbol}
use Rattle.semantic_model.proofs.once.ListedUnder.{name_tells}
use Rattle.semantic_model.proofs.swapped.AlikeProgram.{swap_keeps}
use Rattle.check_model.specs.Names.{is_strict_reserved, check_binding_identifier, check_identifier_reference, check_private_identifier_outside_class}
use Rattle.check_model.specs.Bodies.{check_with_statement}
use Rattle.check_model.specs.Variables.{check_for_of_statement}
use Rattle.semantic_diagnostics.specs.Names.{private_not_in_class, class_static_block_for_await}
use Rattle.std.specs.Prelude.{is_none}
use Rattle.check_model.specs.Elements.{check_duplicate_class_elements}
use Rattle.check_model.specs.Exports.{check_unresolved_exports, check_import_value_redeclarations, check_ts_export_assignment_in_program}
use Rattle.check_model.specs.Classes.{check_class, check_class_redeclaration}
use Rattle.check_model.specs.Members as typed
use Rattle.check_model.specs.Rows.{own_identifier_rows, rows_by, rows_of}
use Rattle.check_model.specs.Search.{row_if, first}
use Rattle.check_model.specs.Surroundings.{is_in_static_block}
use Rattle.check_model.specs.Sight.{Sight}
use Rattle.swapped_checks.specs.RuleWords.{rule_words, is_rule_word, KeepsRuleWords}
use Rattle.swapped_checks.specs.SwappedRows.{AreToldAgain}
use Rattle.swapped_checks.specs.SwappedSight.{HasPlainParts, is_signature_list, KeepsParameters}
use Rattle.swapped_checks.proofs.Changed.{Change, IsChanged, changed_at, IsChangedSight}
use Rattle.swapped_checks.proofs.Pairwise.{Each, told_all, told_equal, told_append}
use Rattle.swapped_checks.proofs.RenamedNodes.{mark_agrees, either_text}
use Rattle.swapped_checks.proofs.Around.{seen, own, own_text}
use Rattle.swapped_checks.proofs.BodyRows.{body_same, labelled_same, left_same, variables_same, declarators_told, functions_told}
use Rattle.swapped_checks.proofs.ClassRows.{classes_same, redeclared_told, members_same}
use Rattle.swapped_checks.proofs.ExpressionRows.{objects_same, numbers_same, strings_same, directives_same, unary_same, awaits_same, yields_same}
use Rattle.swapped_checks.proofs.JumpRows.{break_same, continue_same, label_same}
use Rattle.swapped_checks.proofs.MethodRows.{methods_same, parameters_told}
use Rattle.swapped_checks.proofs.NameRows.{IsQuiet, identifier_quiet, binding_quiet, reference_quiet, identifier_same, binding_same, reference_same}
use Rattle.swapped_checks.proofs.ProgramRows.{unresolved_told, imports_told, assigned_same}
use Rattle.swapped_checks.proofs.SuperRows.{super_same}
use Rattle.swapped_checks.proofs.TypeRows.{annotations_same, predicates_same, infers_same, enums_same, namespaces_same, globals_same, modules_same}

-- ---- words

-- a name that is none of the words differs from each
pub apart : (words : List Name) (name w : Name) → list_any (bytes_eq w) words ≡ true → list_any (bytes_eq name) words ≡ false → bytes_eq w name ≡ false
apart words name w h i = elim (name_tells w name) [
  | inl q ↦ (let e : true ≡ false = sym (subst (λ u. list_any (bytes_eq u) words ≡ true) q.1 h) ∙ i in absurd cc)
  | inr q ↦ q.0
]

pub other_way : (t u : Name) → bytes_eq t u ≡ false → bytes_eq u t ≡ false
other_way t u h = elim (name_tells u t) [ inr k ↦ k.0 | inl k ↦ elim (name_tells t u) [ inr q ↦ absurd (q.1 (sym k.1)) | inl q ↦ (let w : true ≡ false = sym q.0 ∙ h in absurd cc) ] ]

behind : (a b : Bool) → (a || b) ≡ false → b ≡ false
behind true b h = absurd cc
behind false b h = h

-- a name that is no word of a rule is asked for by none
quiet_name : (name : Name) → is_rule_word name ≡ false → IsQuiet name
quiet_name name h =
    let one : (w : Name) → is_rule_word w ≡ true → bytes_eq name w ≡ false = λ w i. other_way w name (apart rule_words name w i h) in
    record {
      no_await = one (codes "await") refl;
      no_eval = one (codes "eval") refl;
      no_arguments = one (codes "arguments") refl;
      no_let = one (codes "let") refl;
      not_reserved = behind (bytes_eq name (codes "ts-empty-body")) (is_strict_reserved name) (behind (bytes_eq name (codes "ts-declare")) _ (behind (bytes_eq name (codes "use strict")) _ (behind (bytes_eq name (codes "var")) _ (behind (bytes_eq name (codes "__proto__")) _ (behind (bytes_eq name (codes "eval")) _ (behind (bytes_eq name (codes "await")) _ (behind (bytes_eq name (codes "arguments")) _ h)))))));
    }

pub swap_words : (a b : Name) → is_rule_word a ≡ false → is_rule_word b ≡ false → KeepsRuleWords (swap a b)
swap_words a b h i = record {
  same = λ x w k. ap (bytes_eq (swap a b x)) (sym (stays w k)) ∙ (swap_keeps a b (apart rule_words a (codes "eval") refl h) (apart rule_words b (codes "eval") refl i) (apart rule_words a (codes "arguments") refl h) (apart rule_words b (codes "arguments") refl i)).equal x w;
}
  where
    stays : (w : Name) → is_rule_word w ≡ true → swap a b w ≡ w
    stays w k = rw (apart rule_words a w k h, apart rule_words b w k i) refl

module _ (f : Change) (keeps : KeepsRuleWords f.names) where
  words_same : (words : List Name) (u : Name) → list_all is_rule_word words ≡ true → list_any (bytes_eq (f.names u)) words ≡ list_any (bytes_eq u) words
  words_same [] u h = refl
  words_same (w ∷ ws) u h = λ i. keeps.same u w (and_first (is_rule_word w) (list_all is_rule_word ws) h) i || words_same ws u (and_second (is_rule_word w) (list_all is_rule_word ws) h) i

  -- a word stays what it is
  word_stays : (w : Name) → is_rule_word w ≡ true → f.names w ≡ w
  word_stays w h = elim (name_tells (f.names w) w) [ inl k ↦ k.1 | inr k ↦ elim (name_tells w w) [ inl q ↦ (let e : true ≡ false = sym q.0 ∙ sym (keeps.same w w h) ∙ k.0 in absurd cc) | inr q ↦ absurd (q.1 refl) ] ]

  module _ (s : Sight) (st : Setting) (r : Role) (path : List Node) (above : Each (IsChanged f) s.path path) where
    abbrev t : Sight
    t = seen f s st r path

    -- a name of the rules stays, and another one becomes another one
    word_kept : is_rule_word s.node.text ≡ true → t.node.text ≡ s.node.text
    word_kept h = elim (either_text f s.node t.node (own f s st r path above)) [ inl e ↦ e | inr e ↦ e ∙ word_stays s.node.text h ]

    other_kept : is_rule_word s.node.text ≡ false → is_rule_word t.node.text ≡ false
    other_kept h = elim (either_text f s.node t.node (own f s st r path above)) [
      | inl e ↦ ap is_rule_word e ∙ h
      | inr e ↦ ap is_rule_word e ∙ words_same rule_words s.node.text refl ∙ h
    ]

    -- ---- names

    nothing_told : (xs ys : List Diagnostic) → xs ≡ [] → ys ≡ [] → AreToldAgain f.names xs ys
    nothing_told xs ys h i = told_equal f.names xs ys (i ∙ sym h)

    names_told : AreToldAgain f.names (own_identifier_rows s) (own_identifier_rows t)
    names_told = elim (cases_Bool (is_rule_word s.node.text)) [
      | inl h ↦ told_equal f.names (own_identifier_rows s) (own_identifier_rows t) (identifier_same f keeps s st r path above (word_kept h))
      | inr h ↦ nothing_told (own_identifier_rows s) (own_identifier_rows t) (identifier_quiet s (quiet_name s.node.text h)) (identifier_quiet t (quiet_name t.node.text (other_kept h)))
    ]

    bindings_told : AreToldAgain f.names (check_binding_identifier s) (check_binding_identifier t)
    bindings_told = elim (cases_Bool (is_rule_word s.node.text)) [
      | inl h ↦ told_equal f.names (check_binding_identifier s) (check_binding_identifier t) (binding_same f keeps s st r path above (word_kept h))
      | inr h ↦ nothing_told (check_binding_identifier s) (check_binding_identifier t) (binding_quiet s (quiet_name s.node.text h)) (binding_quiet t (quiet_name t.node.text (other_kept h)))
    ]

    references_told : AreToldAgain f.names (check_identifier_reference s) (check_identifier_reference t)
    references_told = elim (cases_Bool (is_rule_word s.node.text)) [
      | inl h ↦ told_equal f.names (check_identifier_reference s) (check_identifier_reference t) (reference_same f keeps s st r path above (word_kept h) h)
      | inr h ↦ nothing_told (check_identifier_reference s) (check_identifier_reference t) (reference_quiet s (quiet_name s.node.text h)) (reference_quiet t (quiet_name t.node.text (other_kept h)))
    ]

    -- ---- by the kind of the node

    same_told : (k : AstType) → rows_by k t ≡ rows_by k s → AreToldAgain f.names (rows_by k s) (rows_by k t)
    same_told k e = told_equal f.names (rows_by k s) (rows_by k t) e

    private_same : s.node.kind ≡ kind.PrivateIdentifier → check_private_identifier_outside_class t ≡ check_private_identifier_outside_class s
    private_same e = ap (λ u. row_if (is_none (first s.classes)) (private_not_in_class u s.node.span)) (own_text f s st r path above kind.PrivateIdentifier refl refl e)

    loops_same : check_for_of_statement t ≡ check_for_of_statement s
    loops_same = ap (λ b. row_if (b && is_in_static_block s) (class_static_block_for_await s.node.span)) (mark_agrees f mark.Await refl s.node t.node (own f s st r path above))

    module _ (parts : HasPlainParts s) (strings : is kind.StringLiteral s.node ≡ true → t.node.text ≡ s.node.text) (apart_still : is_signature_list s.node ≡ true → KeepsParameters f.names s.node) where
      pub rows_told : (k : AstType) → s.node.kind ≡ k → AreToldAgain f.names (rows_by k s) (rows_by k t)
      rows_told kind.Program e =
          told_append f.names (check_duplicate_class_elements s ++ check_unresolved_exports s ++ check_import_value_redeclarations s) (check_duplicate_class_elements t ++ check_unresolved_exports t ++ check_import_value_redeclarations t) (check_ts_export_assignment_in_program s) (check_ts_export_assignment_in_program t)
          (told_append f.names (check_duplicate_class_elements s ++ check_unresolved_exports s) (check_duplicate_class_elements t ++ check_unresolved_exports t) (check_import_value_redeclarations s) (check_import_value_redeclarations t)
          (told_append f.names (check_duplicate_class_elements s) (check_duplicate_class_elements t) (check_unresolved_exports s) (check_unresolved_exports t) (told_all f.names (check_duplicate_class_elements s)) (unresolved_told f s st r path above))
          (imports_told f s st r path above))
          (told_equal f.names (check_ts_export_assignment_in_program s) (check_ts_export_assignment_in_program t) (assigned_same f s st r path above))
      rows_told kind.BindingIdentifier e = told_append f.names (own_identifier_rows s) (own_identifier_rows t) (check_binding_identifier s) (check_binding_identifier t) names_told bindings_told
      rows_told kind.IdentifierReference e = told_append f.names (own_identifier_rows s) (own_identifier_rows t) (check_identifier_reference s) (check_identifier_reference t) names_told references_told
      rows_told kind.LabelIdentifier e = names_told
      rows_told kind.PrivateIdentifier e = same_told kind.PrivateIdentifier (private_same e)
      rows_told kind.NumericLiteral e = same_told kind.NumericLiteral (numbers_same f s st r path above e)
      rows_told kind.StringLiteral e = same_told kind.StringLiteral (strings_same f s st r path above (strings (ap (λ k. same_kind k kind.StringLiteral) e)))
      rows_told kind.Directive e = same_told kind.Directive (directives_same f s st r path above e)
      rows_told kind.WithStatement e = same_told kind.WithStatement (ap (λ rows. rows ++ check_with_statement s) (body_same f keeps s st r path above role.Body false))
      rows_told kind.IfStatement e = same_told kind.IfStatement (λ i. body_same f keeps s st r path above role.Consequent true i ++ body_same f keeps s st r path above role.Alternate true i)
      rows_told kind.BreakStatement e = same_told kind.BreakStatement (break_same f s st r path above parts.labels e)
      rows_told kind.ContinueStatement e = same_told kind.ContinueStatement (continue_same f s st r path above parts.labels e)
      rows_told kind.LabeledStatement e = same_told kind.LabeledStatement (λ i. label_same f s st r path above parts.labels e i ++ labelled_same f keeps s st r path above i)
      rows_told kind.DoWhileStatement e = same_told kind.DoWhileStatement (body_same f keeps s st r path above role.Body false)
      rows_told kind.WhileStatement e = same_told kind.WhileStatement (body_same f keeps s st r path above role.Body false)
      rows_told kind.ForStatement e = same_told kind.ForStatement (body_same f keeps s st r path above role.Body false)
      rows_told kind.ForInStatement e = same_told kind.ForInStatement (λ i. body_same f keeps s st r path above role.Body false i ++ left_same f keeps s st r path above true i)
      rows_told kind.ForOfStatement e = same_told kind.ForOfStatement (λ i. body_same f keeps s st r path above role.Body false i ++ loops_same i ++ left_same f keeps s st r path above false i)
      rows_told kind.VariableDeclaration e = same_told kind.VariableDeclaration (variables_same f keeps s st r path above e)
      rows_told kind.VariableDeclarator e = declarators_told f keeps s st r path above
      rows_told kind.Function e = functions_told f keeps s st r path above
      rows_told kind.Class e =
          told_append f.names (check_class s ++ check_class_redeclaration s) (check_class t ++ check_class_redeclaration t) (typed.check_class_members s) (typed.check_class_members t)
          (told_append f.names (check_class s) (check_class t) (check_class_redeclaration s) (check_class_redeclaration t) (told_equal f.names (check_class s) (check_class t) (classes_same f keeps s st r path above e)) (redeclared_told f keeps s st r path above))
          (told_equal f.names (typed.check_class_members s) (typed.check_class_members t) (members_same f keeps s st r path above parts.keys))
      rows_told kind.MethodDefinition e = same_told kind.MethodDefinition (methods_same f keeps s st r path above e)
      rows_told kind.FormalParameters e = parameters_told f keeps s st r path above apart_still e
      rows_told kind.Super e = same_told kind.Super (super_same f s st r path above)
      rows_told kind.ObjectExpression e = same_told kind.ObjectExpression (objects_same f s st r path above keeps)
      rows_told kind.UnaryExpression e = same_told kind.UnaryExpression (unary_same f s st r path above e)
      rows_told kind.AwaitExpression e = same_told kind.AwaitExpression (awaits_same f s st r path above)
      rows_told kind.YieldExpression e = same_told kind.YieldExpression (yields_same f s st r path above)
      rows_told kind.TSTypeAnnotation e = same_told kind.TSTypeAnnotation (annotations_same f s st r path above)
      rows_told kind.TSTypePredicate e = same_told kind.TSTypePredicate (predicates_same f s st r path above)
      rows_told kind.TSInferType e = same_told kind.TSInferType (infers_same f s st r path above)
      rows_told kind.TSNamespaceDeclaration e = same_told kind.TSNamespaceDeclaration (namespaces_same f s st r path above)
      rows_told kind.TSGlobalDeclaration e = same_told kind.TSGlobalDeclaration (globals_same f s st r path above)
      rows_told kind.TSExternalModuleDeclaration e = same_told kind.TSExternalModuleDeclaration (modules_same f s st r path above)
      rows_told kind.TSEnumDeclaration e = same_told kind.TSEnumDeclaration (enums_same f s st r path above)
      rows_told _ e = tt

  -- ---- any sight

  abbrev put : Sight → Node → List Node → List Symbol → Sight
  put s n path symbols = record s { node = n; path = path; symbols = symbols }

  told_at : (m n : Node) → IsChanged f m n → (s : Sight) (path : List Node) → Each (IsChanged f) s.path path → HasPlainParts (put s m s.path s.symbols) → (is kind.StringLiteral m ≡ true → n.text ≡ m.text) → (is_signature_list m ≡ true → KeepsParameters f.names m) → AreToldAgain f.names (rows_of (put s m s.path s.symbols)) (rows_of (put s n path (map (renamed_symbol f.names) s.symbols)))
  told_at _ _ (changed_at st r node) s path above parts strings names = rows_told (put s node s.path s.symbols) st r path above parts strings names node.kind refl

  pub sights_told : (s t : Sight) → HasPlainParts s → IsChangedSight f s t → (is_signature_list s.node ≡ true → KeepsParameters f.names s.node) → AreToldAgain f.names (rows_of s) (rows_of t)
  sights_told s t parts w names =
      let is : t ≡ put s t.node t.path (map (renamed_symbol f.names) s.symbols) = w.others ∙ ap (put s t.node t.path) w.symbols in
      subst (λ x. AreToldAgain f.names (rows_of s) (rows_of x)) (sym is) (told_at s.node t.node w.node s t.path w.path parts w.strings names)

-- where no row was told, none is told then
pub none_told : (f : Name → Name) (xs ys : List Diagnostic) → xs ≡ [] → AreToldAgain f xs ys → ys ≡ []
none_told f xs ys e h = go ys (subst (λ zs. AreToldAgain f zs ys) e h)
  where
    go : (zs : List Diagnostic) → AreToldAgain f [] zs → zs ≡ []
    go [] i = refl
    go (z ∷ zs) i = absurd i
