-- The declarations of a name that is bound by no `var`, function or plain catch name keep clear of each other.
use Rattle.std.proofs.Common.{◌≡◌, ℕ, None, List, [], ◌∷◌, Bool, true, false, cond, map, flat_map, inl, inr, refl, sym, ap, subst, ◌∙◌, codes, if◌then◌else◌}
use Rattle.semantic_kinds.specs.declared.kind.AstType.{AstType}
use Rattle.semantic_kinds.specs.declared.kind.AstType.TheVariants as kind
use Rattle.semantic_kinds.specs.declared.mark.Mark.TheVariants as mark
use Rattle.semantic_kinds.specs.declared.role.Role.TheVariants as role
use Rattle.semantic_syntax.specs.Sets.{union}
use Rattle.semantic_syntax.specs.Tables.{Name}
use Rattle.semantic_syntax.specs.declared.source_type.SourceType.{SourceType}
use Rattle.semantic_syntax.specs.declared.symbol_flags.TheConstants.SymbolFlags as symbol
use Rattle.semantic_tree.specs.Faults.{first_fault}
use Rattle.semantic_tree.specs.Tree.{Tree}
use Rattle.semantic_tree.specs.Views.{is, has, is_with_text, children_of}
use Rattle.semantic_tree.specs.declared.node.Node.{Node}
use Rattle.semantic_model.specs.Binder.{BinderRow, declaration_at, declare_here, variable_row, variables_under, is_pure_declarator, is_statement, function_row, class_row, ids, parameter_excluded, parameters_under, catch_names, import_flags, declared_by, declared_on_entering, declared_on_opening}
use Rattle.semantic_model.specs.Declaration.{Declaration, How, plain, hoisted, moved, caught, here}
use Rattle.semantic_model.specs.EachStep.{EachStep}
use Rattle.semantic_model.specs.Entries.{Among}
use Rattle.semantic_model.specs.Event.{Event, declares, takes_over, declared, declared_at, declarations, events, events_of, declares_all, is_barred, staying_declaration, placed, placed_by, taken_over, is_catch_body, written_declarations}
use Rattle.semantic_model.specs.Names.{bound_names, bound_below, names_at}
use Rattle.semantic_model.specs.Place as place
use Rattle.semantic_model.specs.Place.{Place, OpenScope, parent_holds}
use Rattle.semantic_model.specs.Step.{Step, entering, opening, header_ending, closing, leaving, steps}
use Rattle.semantic_model.proofs.fold.EachDeclared.{each_on_opening}
use Rattle.semantic_model.proofs.form.Shape.{has_form}
use Rattle.semantic_model.proofs.lists.Members.{among_left, among_right, among_cases}
use Rattle.program_laws.proofs.DeclaredNodes.{among_map, among_flat}
use Rattle.binding_laws.proofs.ListLaws.{each_declared}
use Rattle.language_ties.specs.Bound as language
use Rattle.language_ties.specs.Bound.{Bound, bound_identifier, bound_here, bound_outward, bound_by_declarator, bound_by_declaration, bound_by_catch, bound_by_node, written}
use Rattle.language_ties.specs.ClearNames.{may_go_out, StaysInside}
use Rattle.language_ties.specs.EcmaScript.{is_ecmascript_kind, is_ecmascript}
use Rattle.language_ties.specs.Environments.{Environment, environments, innermost, passed, variable_environment}
use Rattle.language_ties.specs.SharedSymbols.{KeepsClear, AllKeepClear}
use Rattle.language_ties.specs.declared.bound_as.BoundAs.TheVariants as bound
use Rattle.language_ties.specs.declared.environment_kind.EnvironmentKind.TheVariants as environment
use Rattle.language_ties.proofs.shared.PlainNodes.{IsPlainPlace, IsEcmaScriptAt, ecmascript_program}

abbrev IsPlain : Declaration → Type 0
IsPlain d = d.how ≡ plain

-- among the names of a row
row_plain : (node : Node) (row : BinderRow) (b : Bool) (names : List Node) (d : Declaration) → row.how ≡ plain → Among d (map (declaration_at node row b) names) → IsPlain d
row_plain node row b names d e a = let (n, c, q) = among_map (declaration_at node row b) names d a in sym (ap (λ i. i.how) q) ∙ e

here_plain : (p : Place) (flags excluded : ℕ) (names : List Node) (d : Declaration) → Among d (declare_here p flags excluded names) → IsPlain d
here_plain p flags excluded names d a = row_plain p.node (record { flags = flags; excluded = excluded; how = plain; route = here p.chain }) false names d refl a

-- what is bound of the same name
same_name : (node : Node) (row : BinderRow) (b : Bool) (f : Node → Bound) (names : List Node) (d : Declaration) → ((n : Node) → (f n).name ≡ n.text) → Among d (map (declaration_at node row b) names) → (c : Bound) × Among c (map f names) × (c.name ≡ d.naming.name) × ((n : Node) × (c ≡ f n))
same_name node row b f [] d h a = absurd a
same_name node row b f (n ∷ names) d h (inl e) = (f n, inl refl, h n ∙ ap (λ i. i.naming.name) e, (n, refl))
same_name node row b f (n ∷ names) d h (inr a) = let (c, i, j, k) = same_name node row b f names d h a in (c, inr i, j, k)

either_out : (b : Bool) (f g : Bound) → may_go_out f ≡ true → may_go_out g ≡ true → may_go_out (cond b f g) ≡ true
either_out true f g h k = h
either_out false f g h k = k

either_name : (b : Bool) (f g : Bound) (n : Name) → f.name ≡ n → g.name ≡ n → (cond b f g).name ≡ n
either_name true f g n h k = h
either_name false f g n h k = k

module _ (s : SourceType) (p : Place) (x : Name) where
  -- nothing that a node of the kind binds by that name goes out
  abbrev Inside : AstType → Type 0
  Inside k = (b : Bound) → Among b (bound_by_node k s p.node p.path) → b.name ≡ x → may_go_out b ≡ false

  variables : (path : List Node) → ((b : Bound) → Among b (bound_by_declarator p.node path) → b.name ≡ x → may_go_out b ≡ false) → (d : Declaration) → Among d (variables_under path p) → d.naming.name ≡ x → IsPlain d
  variables [] h d a e = absurd a
  variables (declaration ∷ path) h d a e = go (is_with_text kind.VariableDeclaration (codes "var") declaration) refl
    where
      go : (b : Bool) → is_with_text kind.VariableDeclaration (codes "var") declaration ≡ b → IsPlain d
      go true q =
          let (c, i, j, k) = same_name p.node (variable_row declaration p.chain) (is_pure_declarator p.node) (bound_outward (environments p.node (declaration ∷ path))) (bound_names p.node) d (λ n. refl) a in
          let w : may_go_out c ≡ false = h c (subst (λ t. Among c (map (cond t (bound_outward (environments p.node (declaration ∷ path))) (bound_here bound.Lexical (environments p.node (declaration ∷ path)))) (bound_names p.node))) (sym q) i) (j ∙ e) in
          let v : true ≡ false = sym (ap may_go_out k.1) ∙ w in absurd cc
      go false q = row_plain p.node (variable_row declaration p.chain) (is_pure_declarator p.node) (bound_names p.node) d (rw q refl) a

  -- a function goes out, in a block or not
  function_out : (n : Node) → may_go_out (bound_by_declaration s p.node p.path n) ≡ true
  function_out n =
      let es : List Environment = environments p.node p.path in
      either_out (language.is_block_function s p.node p.path) (bound_identifier bound.Function (innermost es) (variable_environment es ∷ []) (passed es) n) (bound_here bound.Function es n) refl refl

  function_name : (n : Node) → (bound_by_declaration s p.node p.path n).name ≡ n.text
  function_name n =
      let es : List Environment = environments p.node p.path in
      either_name (language.is_block_function s p.node p.path) (bound_identifier bound.Function (innermost es) (variable_environment es ∷ []) (passed es) n) (bound_here bound.Function es n) n.text refl refl

  functions : Inside kind.Function → (d : Declaration) → Among d (declared_by kind.Function p) → d.naming.name ≡ x → IsPlain d
  functions h d a e = go (is_statement p.node) refl a
    where
      go : (b : Bool) → is_statement p.node ≡ b → Among d (cond b (map (declaration_at p.node (function_row p) (has mark.Pure p.node)) (ids p.node)) []) → IsPlain d
      go true q c =
          let (f, i, j, k) = same_name p.node (function_row p) (has mark.Pure p.node) (bound_by_declaration s p.node p.path) (ids p.node) d function_name c in
          let w : may_go_out f ≡ false = h f (subst (λ t. Among f (map (cond t (bound_by_declaration s p.node p.path) (bound_identifier bound.OwnName (record { kind = environment.OwnName; maker = p.node.node_id }) [] [])) (ids p.node))) (sym q) i) (j ∙ e) in
          let v : true ≡ false = sym (function_out k.0) ∙ sym (ap may_go_out k.1) ∙ w in absurd cc
      go false q c = absurd c

  classes : (d : Declaration) → Among d (declared_by kind.Class p) → IsPlain d
  classes d a = go (is_statement p.node) a
    where
      go : (b : Bool) → Among d (cond b (map (declaration_at p.node (class_row p p.chain) false) (ids p.node)) []) → IsPlain d
      go true c = row_plain p.node (class_row p p.chain) false (ids p.node) d refl c
      go false c = absurd c

  parameters : (path : List Node) (d : Declaration) → Among d (parameters_under path p) → IsPlain d
  parameters [] d a = absurd a
  parameters (list ∷ path) d a = here_plain p symbol.FunctionScopedVariable.bits (parameter_excluded list p.chain) (bound_names p.node) d a

  rests : (d : Declaration) → Among d (declared_by kind.BindingRestElement p) → IsPlain d
  rests d a = go (parent_holds (is kind.FormalParameters) p.path) a
    where
      go : (b : Bool) → Among d (cond b (declare_here p symbol.FunctionScopedVariable.bits (union symbol.FunctionScopedVariableExcludes.bits symbol.FunctionScopedVariable.bits) (bound_names p.node)) []) → IsPlain d
      go true c = here_plain p symbol.FunctionScopedVariable.bits (union symbol.FunctionScopedVariableExcludes.bits symbol.FunctionScopedVariable.bits) (bound_names p.node) d c
      go false c = absurd c

  catches : (patterns : List Node) → ((b : Bound) → Among b (flat_map (bound_by_catch (environments p.node p.path)) patterns) → b.name ≡ x → may_go_out b ≡ false) → (d : Declaration) → Among d (flat_map (catch_names p) patterns) → d.naming.name ≡ x → IsPlain d
  catches [] h d a e = absurd a
  catches (y ∷ ys) h d a e = elim (among_cases d (catch_names p y) (flat_map (catch_names p) ys) a) [
    | inl c ↦ go (is kind.BindingIdentifier y) refl c
    | inr c ↦ catches ys (λ b i. h b (among_right b (bound_by_catch (environments p.node p.path) y) (flat_map (bound_by_catch (environments p.node p.path)) ys) i)) d c e
  ]
    where
      row : BinderRow
      row = record { flags = union symbol.FunctionScopedVariable.bits symbol.CatchVariable.bits; excluded = 0; how = caught; route = here p.chain }

      go : (t : Bool) → is kind.BindingIdentifier y ≡ t → Among d (if t then declaration_at p.node row false y ∷ [] else declare_here p (union symbol.BlockScopedVariable.bits symbol.CatchVariable.bits) symbol.BlockScopedVariableExcludes.bits (bound_names y)) → IsPlain d
      go true q (inl c) =
          let f : Bound = bound_here bound.CatchName (environments p.node p.path) y in
          let there : Among f (bound_by_catch (environments p.node p.path) y) = subst (λ t. Among f (map (bound_here (cond t bound.CatchName bound.Lexical) (environments p.node p.path)) (cond t (y ∷ []) (bound_below y.kind y.children)))) (sym q) (inl refl) in
          let w : may_go_out f ≡ false = h f (among_left f (bound_by_catch (environments p.node p.path) y) (flat_map (bound_by_catch (environments p.node p.path)) ys) there) (ap (λ i. i.naming.name) c ∙ e) in
          absurd cc
      go true q (inr c) = absurd c
      go false q c = here_plain p (union symbol.BlockScopedVariable.bits symbol.CatchVariable.bits) symbol.BlockScopedVariableExcludes.bits (bound_names y) d c

  imports : (d : Declaration) → Among d (declared_by kind.ImportSpecifier p) → IsPlain d
  imports d a = here_plain p (import_flags p) symbol.ImportBindingExcludes.bits (names_at role.Local p.node) d a

  by_kind : (k : AstType) → is_ecmascript_kind k ≡ true → Inside k → (d : Declaration) → Among d (declared_by k p) → d.naming.name ≡ x → IsPlain d
  by_kind kind.VariableDeclarator i h d a e = variables p.path h d a e
  by_kind kind.Function i h d a e = functions h d a e
  by_kind kind.Class i h d a e = classes d a
  by_kind kind.FormalParameter i h d a e = parameters p.path d a
  by_kind kind.FormalParameterRest i h d a e = parameters p.path d a
  by_kind kind.BindingRestElement i h d a e = rests d a
  by_kind kind.CatchParameter i h d a e = catches (children_of role.Pattern p.node.children) h d a e
  by_kind kind.ImportSpecifier i h d a e = imports d a
  by_kind kind.ImportDefaultSpecifier i h d a e = imports d a
  by_kind kind.ImportNamespaceSpecifier i h d a e = imports d a
  by_kind kind.TSImportEqualsDeclaration i h d a e = absurd cc
  by_kind kind.TSTypeAliasDeclaration i h d a e = absurd cc
  by_kind kind.TSInterfaceDeclaration i h d a e = absurd cc
  by_kind kind.TSEnumDeclaration i h d a e = absurd cc
  by_kind kind.TSEnumMember i h d a e = absurd cc
  by_kind kind.TSNamespaceDeclaration i h d a e = absurd cc
  by_kind kind.TSTypeParameter i h d a e = absurd cc
  by_kind _ i h d a e = absurd a

-- ---- all steps

-- in a scope that opens all is plain
opening_plain : (p : Place) (o : OpenScope) (d : Declaration) → Among d (declared_on_opening p o) → IsPlain d
opening_plain p o d a = each_declared IsPlain (declared_on_opening p o) d (each_on_opening IsPlain (λ how r. how ≡ plain) (λ node row is_pure name r. r) p.node.kind p o (λ q. refl)) a

module _ (p : Tree) (x : Name) (h : first_fault p ≡ None) (e : is_ecmascript p ≡ true) (inside : StaysInside p x) where
  abbrev ds : List Declaration
  ds = written_declarations (steps p)

  plain_at : (st : Step) → Among st (steps p) → (d : Declaration) → Among d (declared_at st) → d.naming.name ≡ x → IsPlain d
  plain_at (entering q) a d b n =
      let k : IsPlainPlace q = each_step (entering q) (steps p) (ecmascript_program p h (has_form p h).root e) a in
      by_kind p.source_type q x q.node.kind k.node.of_kind (λ c i j. inside c (bound_there c q (steps p) a i) j) d b n
    where
      each_step : (st : Step) (ss : List Step) → EachStep IsEcmaScriptAt ss → Among st ss → IsEcmaScriptAt st
      each_step st [] k c = absurd c
      each_step st (y ∷ ss) k (inl i) = subst IsEcmaScriptAt i k.0
      each_step st (y ∷ ss) k (inr i) = each_step st ss k.1 i

      bound_there : (c : Bound) (q : Place) (ss : List Step) → Among (entering q) ss → Among c (bound_by_node q.node.kind p.source_type q.node q.path) → Among c (written p.source_type ss)
      bound_there c q [] i j = absurd i
      bound_there c q (y ∷ ss) (inl i) j = among_left c (language.bound_at p.source_type y) (written p.source_type ss) (subst (λ z. Among c (language.bound_at p.source_type z)) (sym i) j)
      bound_there c q (y ∷ ss) (inr i) j = among_right c (language.bound_at p.source_type y) (written p.source_type ss) (bound_there c q ss i j)
  plain_at (opening q o) a d b n = opening_plain q o d b
  plain_at (header_ending q o) a d b n = absurd b
  plain_at (closing q o) a d b n = absurd b
  plain_at (leaving q) a d b n = absurd b

  placed_same : (how : How) (n : Declaration) → n.how ≡ how → IsPlain n → placed_by how ds n ≡ n
  placed_same plain n q k = refl
  placed_same hoisted n q k = refl
  placed_same caught n q k = refl
  placed_same moved n q k = let w : moved ≡ plain = sym q ∙ k in absurd cc

  placed_kept : (how : How) (n : Declaration) → (placed_by how ds n).naming ≡ n.naming
  placed_kept plain n = refl
  placed_kept hoisted n = refl
  placed_kept caught n = refl
  placed_kept moved n = go (is_barred ds n (place.outside n.route.passed))
    where
      go : (b : Bool) → (if b then staying_declaration n else n).naming ≡ n.naming
      go true = refl
      go false = refl

  of_new : (new : List Declaration) (event : Event) (d : Declaration) → ((n : Declaration) → Among n new → n.naming.name ≡ x → IsPlain n) → Among event (declares_all ds new) → Among d (declared event) → d.naming.name ≡ x → IsPlain d
  of_new new event d k a b n =
      let (m, c, q) = among_map (λ i. declares (placed ds i)) new event a in
      go m c (subst (λ y. Among d (declared y)) (sym q) b)
    where
      go : (m : Declaration) → Among m new → Among d (placed ds m ∷ []) → IsPlain d
      go m c (inl r) =
          let named : m.naming.name ≡ x = sym (ap (λ i. i.name) (placed_kept m.how m)) ∙ ap (λ i. i.naming.name) r ∙ n in
          let flat : IsPlain m = k m c named in
          subst IsPlain (sym (placed_same m.how m refl flat) ∙ r) flat
      go m c (inr r) = absurd r

  of_step : (st : Step) (event : Event) (d : Declaration) → ((n : Declaration) → Among n (declared_at st) → n.naming.name ≡ x → IsPlain n) → Among event (events_of ds st) → Among d (declared event) → d.naming.name ≡ x → IsPlain d
  of_step (entering q) event d k a b n = of_new (declared_on_entering q) event d k a b n
  of_step (opening q o) event d k a b n = elim (among_cases event (taken_over q o) (declares_all ds (declared_on_opening q o)) a) [
    | inl i ↦ absurd (taken (is_catch_body q) i)
    | inr i ↦ of_new (declared_on_opening q o) event d k i b n
  ]
    where
      taken : (t : Bool) → Among event (cond t (takes_over (place.innermost q.chain).number o.number ∷ []) []) → ⊥
      taken true (inl r) = subst (λ y. Among d (declared y)) (sym r) b
      taken true (inr r) = r
      taken false r = r
  of_step (header_ending q o) event d k (inl i) b n = absurd (subst (λ y. Among d (declared y)) (sym i) b)
  of_step (header_ending q o) event d k (inr i) b n = absurd i
  of_step (closing q o) event d k a b n = absurd a
  of_step (leaving q) event d k a b n = absurd a

  all_plain : (d : Declaration) → Among d (declarations (events (steps p))) → d.naming.name ≡ x → IsPlain d
  all_plain d a n =
      let (event, b, c) = among_flat declared (events (steps p)) d a in
      let (st, f, g) = among_flat (events_of ds) (steps p) event b in
      of_step st event d (plain_at st f) g c n

  clear_of : (d e : Declaration) → IsPlain d → KeepsClear d e
  clear_of d e k = record {
    as_variable = λ q c i j. (let w : hoisted ≡ plain = sym q ∙ k in absurd cc);
    as_function = λ q i. (let w : moved ≡ plain = sym q ∙ k in absurd cc);
    as_catch_name = λ q i. (let w : caught ≡ plain = sym q ∙ k in absurd cc);
  }

  clear_list : (es : List Declaration) → ((d : Declaration) → Among d es → d.naming.name ≡ x → IsPlain d) → AllKeepClear x es
  clear_list [] k = tt
  clear_list (d ∷ es) k = ((λ n f a m. (clear_of d f (k d (inl refl) n), clear_of f d (k f (inr a) m))), clear_list es (λ f a. k f (inr a)))

  pub lexical_clear : AllKeepClear x (declarations (events (steps p)))
  lexical_clear = clear_list (declarations (events (steps p))) all_plain
