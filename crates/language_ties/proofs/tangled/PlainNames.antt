-- A name that isn't tangled, of which no function is misplaced, is a plain name.
use Rattle.std.proofs.Common.{◌≡◌, List, [], ◌∷◌, None, Bool, true, false, ◌&&◌, ◌||◌, not, cond, map, flat_map, inl, inr, ◌⊎◌, refl, sym, ap, subst, ◌∙◌, bytes_eq, codes}
use Rattle.std.proofs.lemmas.Bool.{cases_Bool, and_from, not-true, or_parts}
use Rattle.semantic_syntax.proofs.Truth.{and_first, and_second}
use Rattle.semantic_kinds.specs.declared.kind.AstType.{AstType}
use Rattle.semantic_kinds.specs.declared.kind.AstType.TheVariants as kind
use Rattle.semantic_kinds.specs.declared.role.Role.TheVariants as role
use Rattle.semantic_syntax.specs.Tables.{Name}
use Rattle.semantic_syntax.specs.declared.source_type.SourceType.{SourceType}
use Rattle.semantic_tree.specs.Faults.{first_fault}
use Rattle.semantic_tree.specs.Tree.{Tree, IsNumbered}
use Rattle.semantic_tree.specs.Views.{is, is_with_text, children_of}
use Rattle.semantic_tree.specs.declared.node.Node.{Node}
use Rattle.semantic_model.specs.Binder.{is_special, is_statement}
use Rattle.semantic_model.specs.Entries.{Among}
use Rattle.semantic_model.specs.Names.{bound_names, names_at}
use Rattle.semantic_model.specs.Place.{Place}
use Rattle.semantic_model.specs.Step.{entering, steps}
use Rattle.semantic_model.proofs.once.ListedUnder.{name_tells}
use Rattle.program_laws.proofs.DeclaredNodes.{among_map, among_flat}
use Rattle.binding_laws.proofs.ListLaws.{each_at}
use Rattle.binding_laws.proofs.SmallLaws.{never}
use Rattle.tangle_model.specs.Mention as tangle
use Rattle.tangle_model.specs.Surroundings.{in_block_under, is_strict_under, around_under}
use Rattle.language_ties.specs.AgreeingNames.{has_none, is_declared_plainly, is_plain, leaves_block, IsAlone, IsPlainName}
use Rattle.language_ties.specs.Bound as language
use Rattle.language_ties.specs.Bound.{Bound, bound_identifier, bound_here, bound_outward, bound_by_declarator, bound_by_declaration, bound_by_function, bound_by_class, bound_by_catch, bound_by_node, is_bound_as, written}
use Rattle.language_ties.specs.EcmaScript.{is_ecmascript}
use Rattle.language_ties.specs.Environments.{Environment, is_made_for, environments, innermost, passed, takes_variables, variable_environment}
use Rattle.language_ties.specs.Misplaced.{is_misplaced, misplaced_at, has_misplaced}
use Rattle.language_ties.specs.declared.bound_as.BoundAs.TheVariants as bound
use Rattle.language_ties.specs.declared.environment_kind.EnvironmentKind.TheVariants as environment
use Rattle.language_ties.proofs.agree.FamiliarPlaces.{IsFamiliar, FamiliarAt, familiar_program}
use Rattle.language_ties.proofs.agree.KnownNodes.{node_at}
use Rattle.language_ties.proofs.agree.PlainBounds.{IsBoundAt, bound_at_place}
use Rattle.language_ties.proofs.moved.LeavingFunctions.{LeavesAt, leaves_at}
use Rattle.language_ties.proofs.moved.Settled.{leaves_function}
use Rattle.language_ties.proofs.own_names.ClasslessNames.{no_class_environment}
use Rattle.language_ties.proofs.tangled.CaughtVariables.{passes_not}
use Rattle.language_ties.proofs.tangled.LeavesAlone.{goes_alone}
use Rattle.language_ties.proofs.tangled.NamePlaces.{IsAmidSteps, AmidAt, amid_program}
use Rattle.language_ties.proofs.tangled.StrictUnder.{not_strict_under}
use Rattle.language_ties.proofs.tangled.Untangled.{NoneButWith, any_of}

-- ---- what leaves no block is bound by one environment alone, or as a class

module _ (s : SourceType) (x : Node) (path : List Node) (b : Bound) (stays : leaves_block b ≡ false) (no_own : is_bound_as bound.OwnName b ≡ false) where
  abbrev es : List Environment
  es = environments x path

  abbrev Alone : Bound → Type 0
  Alone c = (has_none c.also || is_bound_as bound.Lexical c) ≡ true

  names_here : (f : Node → Bound) (names : List Node) → ((n : Node) → Alone (f n)) → Among b (map f names) → Alone b
  names_here f names g a = let (n, i, q) = among_map f names b a in subst Alone q (g n)

  declarator : (l : List Node) → Among b (bound_by_declarator x l) → Alone b
  declarator [] a = absurd a
  declarator (y ∷ l) a = go (is_with_text kind.VariableDeclaration (codes "var") y) a
    where
      go : (t : Bool) → Among b (map (cond t (bound_outward (environments x (y ∷ l))) (bound_here bound.Lexical (environments x (y ∷ l)))) (bound_names x)) → Alone b
      go true i = names_here (bound_outward (environments x (y ∷ l))) (bound_names x) (λ n. refl) i
      go false i = names_here (bound_here bound.Lexical (environments x (y ∷ l))) (bound_names x) (λ n. refl) i

  function : Among b (bound_by_function s x path) → Alone b
  function a = go (is_statement x) a
    where
      by : (t : Bool) (n : Node) → cond t (bound_identifier bound.Function (innermost es) (variable_environment es ∷ []) (passed es) n) (bound_here bound.Function es n) ≡ b → Alone b
      by true n q = absurd (never (ap leaves_block q ∙ stays))
      by false n q = subst Alone q refl

      go : (t : Bool) → Among b (map (cond t (bound_by_declaration s x path) (bound_identifier bound.OwnName (record { kind = environment.OwnName; maker = x.node_id }) [] [])) (names_at role.Id x)) → Alone b
      go true i = let (n, j, q) = among_map (bound_by_declaration s x path) (names_at role.Id x) b i in by (language.is_block_function s x path) n q
      go false i = names_here (bound_identifier bound.OwnName (record { kind = environment.OwnName; maker = x.node_id }) [] []) (names_at role.Id x) (λ n. refl) i

  class : Among b (bound_by_class x path) → Alone b
  class a = go (is_statement x) a
    where
      go : (t : Bool) → Among b (map (cond t (bound_identifier bound.Lexical (innermost es) (record { kind = environment.Class; maker = x.node_id } ∷ []) []) (bound_identifier bound.OwnName (record { kind = environment.Class; maker = x.node_id }) [] [])) (names_at role.Id x)) → Alone b
      go true i = names_here (bound_identifier bound.Lexical (innermost es) (record { kind = environment.Class; maker = x.node_id } ∷ []) []) (names_at role.Id x) (λ n. refl) i
      go false i = names_here (bound_identifier bound.OwnName (record { kind = environment.Class; maker = x.node_id }) [] []) (names_at role.Id x) (λ n. refl) i

  catch : Among b (flat_map (bound_by_catch es) (children_of role.Pattern x.children)) → Alone b
  catch a =
      let (m, i, d) = among_flat (bound_by_catch es) (children_of role.Pattern x.children) b a in
      names_here (bound_here (cond (is kind.BindingIdentifier m) bound.CatchName bound.Lexical) es) (bound_names m) (λ n. refl) d

  by_kind : (k : AstType) → Among b (bound_by_node k s x path) → Alone b
  by_kind kind.VariableDeclarator a = declarator path a
  by_kind kind.Function a = function a
  by_kind kind.Class a = class a
  by_kind kind.FormalParameter a = names_here (bound_here bound.Parameter es) (bound_names x) (λ n. refl) a
  by_kind kind.FormalParameterRest a = names_here (bound_here bound.Parameter es) (bound_names x) (λ n. refl) a
  by_kind kind.CatchParameter a = catch a
  by_kind kind.ImportSpecifier a = names_here (bound_here bound.Lexical es) (names_at role.Local x) (λ n. refl) a
  by_kind kind.ImportDefaultSpecifier a = names_here (bound_here bound.Lexical es) (names_at role.Local x) (λ n. refl) a
  by_kind kind.ImportNamespaceSpecifier a = names_here (bound_here bound.Lexical es) (names_at role.Local x) (λ n. refl) a
  by_kind _ a = absurd a

-- ---- the name

module _ (p : Tree) (h : first_fault p ≡ None) (e : is_ecmascript p ≡ true) (numbered : IsNumbered p.root) (name : Name) (untangled : NoneButWith p name) (well_placed : has_misplaced p name ≡ false) where
  -- none of its functions is misplaced
  stands_well : (q : Place) → Among (entering q) (steps p) → (b : Bound) → Among b (bound_by_node q.node.kind p.source_type q.node q.path) → b.name ≡ name → is_misplaced q.path b ≡ false
  stands_well q a b i n = elim (cases_Bool (is_misplaced q.path b)) [
    | inr w ↦ w
    | inl w ↦ (let named : bytes_eq b.name name ≡ true = elim (name_tells b.name name) [ inl j ↦ j.0 | inr j ↦ absurd (j.1 n) ] in
        let here : misplaced_at p.source_type name (entering q) ≡ true = any_of (λ c. bytes_eq c.name name && is_misplaced q.path c) (bound_by_node q.node.kind p.source_type q.node q.path) b i (and_from (bytes_eq b.name name) (is_misplaced q.path b) named w) in
        absurd (never (sym (any_of (misplaced_at p.source_type name) (steps p) (entering q) a here) ∙ well_placed)))
  ]

  -- a function that leaves its block is noted as such
  noted_as_block : (q : Place) → Among (entering q) (steps p) → (b : Bound) → Among b (bound_by_node q.node.kind p.source_type q.node q.path) → b.name ≡ name → leaves_block b ≡ true → LeavesAt p.source_type q b → tangle.is_block_function (around_under p.source_type q.path) q.node ≡ true
  noted_as_block q a b i n leaves l =
      let familiar : IsFamiliar (node_at p) q = each_at (FamiliarAt (node_at p)) (steps p) (entering q) (familiar_program p h e numbered) a in
      let amid : IsAmidSteps (steps p) q = each_at (AmidAt (steps p)) (steps p) (entering q) (amid_program p) a in
      let first : (not (takes_variables (innermost (environments q.node q.path))) && not (is_special q.node)) ≡ true = and_first (not (takes_variables (innermost (environments q.node q.path))) && not (is_special q.node)) (not (language.is_strict p.source_type q.path)) l.ours in
      let special : not (is_special q.node) ≡ true = and_second (not (takes_variables (innermost (environments q.node q.path)))) (not (is_special q.node)) first in
      let strict : language.is_strict p.source_type q.path ≡ false = not-true (language.is_strict p.source_type q.path) (and_second (not (takes_variables (innermost (environments q.node q.path))) && not (is_special q.node)) (not (language.is_strict p.source_type q.path)) l.ours) in
      let sloppy : is_strict_under p.source_type q.path ≡ false = not_strict_under p h e numbered q.path familiar.path amid.above strict in
      let either : ((leaves_block b && not (in_block_under q.path)) || (not (leaves_block b) && is_made_for environment.IfBody b.environment)) ≡ false = subst (λ t. (t && ((leaves_block b && not (in_block_under q.path)) || (not (leaves_block b) && is_made_for environment.IfBody b.environment))) ≡ false) (leaves_function b leaves) (stands_well q a b i n) in
      let outside : not (in_block_under q.path) ≡ false = subst (λ t. (t && not (in_block_under q.path)) ≡ false) leaves (or_parts (leaves_block b && not (in_block_under q.path)) (not (leaves_block b) && is_made_for environment.IfBody b.environment) either).0 in
      rw (inside (in_block_under q.path) outside, sloppy, special) refl
    where
      inside : (t : Bool) → not t ≡ false → t ≡ true
      inside true w = refl
      inside false w = absurd (never w)

  -- one that doesn't is the body of no `if`
  no_if_body : (q : Place) → Among (entering q) (steps p) → (b : Bound) → Among b (bound_by_node q.node.kind p.source_type q.node q.path) → b.name ≡ name → leaves_block b ≡ false → (is_bound_as bound.Function b && is_made_for environment.IfBody b.environment) ≡ false
  no_if_body q a b i n stays = elim (cases_Bool (is_bound_as bound.Function b)) [
    | inr f ↦ ap (λ t. t && is_made_for environment.IfBody b.environment) f
    | inl f ↦ (let either : ((leaves_block b && not (in_block_under q.path)) || (not (leaves_block b) && is_made_for environment.IfBody b.environment)) ≡ false = subst (λ t. (t && ((leaves_block b && not (in_block_under q.path)) || (not (leaves_block b) && is_made_for environment.IfBody b.environment))) ≡ false) f (stands_well q a b i n) in
        let body : is_made_for environment.IfBody b.environment ≡ false = subst (λ t. (not t && is_made_for environment.IfBody b.environment) ≡ false) stays (or_parts (leaves_block b && not (in_block_under q.path)) (not (leaves_block b) && is_made_for environment.IfBody b.environment) either).1 in
        ap (λ t. t && is_made_for environment.IfBody b.environment) f ∙ body)
  ]

  is_plain_bound : (b : Bound) → Among b (written p.source_type (steps p)) → b.name ≡ name → (is_plain b ≡ true) ⊎ ((leaves_block b ≡ true) × IsAlone p b)
  is_plain_bound b a n =
      let at : IsBoundAt p.source_type (steps p) b = bound_at_place p.source_type (steps p) b a in
      elim (cases_Bool (is_bound_as bound.OwnName b)) [
        | inl o ↦ inl (ap (λ t. t || is_declared_plainly b) o)
        | inr o ↦ elim (cases_Bool (leaves_block b)) [
          | inl l ↦ (let there : LeavesAt p.source_type at.place b = leaves_at p.source_type at.place b l at.place.node.kind refl at.binds in
              inr (l, goes_alone p h e numbered name untangled b n at.place at.entered there (noted_as_block at.place at.entered b at.binds n l there)))
          | inr l ↦ inl (ap (λ t. t || is_declared_plainly b) o ∙ and_from (has_none b.also || is_bound_as bound.Lexical b) _
              (by_kind p.source_type at.place.node at.place.path b l o at.place.node.kind at.binds)
              (and_from (not (is_made_for environment.Class b.environment)) _
              (ap not (no_class_environment p h e numbered at.place at.entered b o at.binds))
              (ap not (no_if_body at.place at.entered b at.binds n l))))
        ]
      ]

  pub plain_name : IsPlainName p name
  plain_name = record { each = is_plain_bound; unpassed = λ b c i j n m k var passes. passes_not p h e numbered name untangled b c i j n m k var passes }
