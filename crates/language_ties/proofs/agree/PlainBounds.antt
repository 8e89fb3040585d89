-- Where a plain name is bound: in an environment of its place, and by which node that is made.
use Rattle.std.proofs.Common.{◌≡◌, List, [], ◌∷◌, Option, Some, None, Bool, true, false, ◌&&◌, ◌||◌, not, cond, map, flat_map, inl, inr, refl, sym, ap, subst, ◌∙◌, codes}
use Rattle.std.proofs.lemmas.Bool.{not-true}
use Rattle.semantic_syntax.proofs.Truth.{and_first, and_second, and_false}
use Rattle.semantic_kinds.specs.Kinds.{same_kind}
use Rattle.semantic_kinds.specs.declared.kind.AstType.{AstType}
use Rattle.semantic_kinds.specs.declared.kind.AstType.TheVariants as kind
use Rattle.semantic_kinds.specs.declared.role.Role.TheVariants as role
use Rattle.semantic_syntax.specs.Tables.{Name}
use Rattle.semantic_syntax.specs.declared.source_type.SourceType.{SourceType}
use Rattle.semantic_tree.specs.Faults.{first_fault}
use Rattle.semantic_tree.specs.Tree.{Tree, IsNumbered}
use Rattle.semantic_tree.specs.Views.{is, is_with_text, children_of}
use Rattle.semantic_tree.specs.declared.node.Node.{Node}
use Rattle.semantic_model.specs.Binder.{is_statement}
use Rattle.semantic_model.specs.Entries.{Among}
use Rattle.semantic_model.specs.Names.{bound_names, names_at}
use Rattle.semantic_model.specs.Place.{Place}
use Rattle.semantic_model.specs.Step.{Step, entering, opening, header_ending, closing, leaving, steps}
use Rattle.semantic_model.proofs.lists.Members.{among_cases}
use Rattle.program_laws.proofs.DeclaredNodes.{among_map, among_flat}
use Rattle.binding_laws.proofs.ListLaws.{each_at}
use Rattle.binding_laws.proofs.SmallLaws.{never}
use Rattle.language_ties.specs.AgreeingNames.{has_none, is_declared_plainly}
use Rattle.language_ties.specs.Bound as language
use Rattle.language_ties.specs.Bound.{Bound, bound_identifier, bound_here, bound_outward, bound_by_declarator, bound_by_declaration, bound_by_function, bound_by_class, bound_by_catch, bound_by_node, is_bound_as, written}
use Rattle.language_ties.specs.EcmaScript.{is_ecmascript}
use Rattle.language_ties.specs.Environments.{Environment, is_made_for, has_parameter_expressions, environments, innermost, passed, takes_variables, variable_environment, first_taking, environment_or}
use Rattle.language_ties.specs.OneSymbol.{IsBoundByNode}
use Rattle.language_ties.specs.ToldNames.{may_leave_block}
use Rattle.language_ties.specs.declared.bound_as.BoundAs.TheVariants as bound
use Rattle.language_ties.specs.declared.environment_kind.EnvironmentKind.TheVariants as environment
use Rattle.language_ties.proofs.agree.FamiliarPlaces.{IsFamiliar, FamiliarAt, AllKnown, familiar_program, known_among}
use Rattle.language_ties.proofs.agree.KnownNodes.{node_at}
use Rattle.language_ties.proofs.agree.MadeEnvironments.{IsMadeBy, made_in, may_make, EndsAtProgram, innermost_among, variable_among, IsUsual, innermost_usual, taking_usual}
use Rattle.language_ties.proofs.block_functions.StayingFunctions.{innermost_unnamed}

-- the place of what is bound
pub record IsBoundAt (s : SourceType) (ss : List Step) (b : Bound) : Type 0 where
  pub place : Place
  pub entered : Among (entering place) ss
  pub binds : Among b (bound_by_node place.node.kind s place.node place.path)

later : (s : SourceType) (st : Step) (ss : List Step) (b : Bound) → IsBoundAt s ss b → IsBoundAt s (st ∷ ss) b
later s st ss b h = record { place = h.place; entered = inr h.entered; binds = h.binds }

pub bound_at_place : (s : SourceType) (ss : List Step) (b : Bound) → Among b (written s ss) → IsBoundAt s ss b
bound_at_place s [] b a = absurd a
bound_at_place s (entering q ∷ ss) b a = elim (among_cases b (bound_by_node q.node.kind s q.node q.path) (written s ss) a) [
  | inl c ↦ record { place = q; entered = inl refl; binds = c }
  | inr c ↦ later s (entering q) ss b (bound_at_place s ss b c)
]
bound_at_place s (opening q o ∷ ss) b a = later s (opening q o) ss b (bound_at_place s ss b a)
bound_at_place s (header_ending q o ∷ ss) b a = later s (header_ending q o) ss b (bound_at_place s ss b a)
bound_at_place s (closing q o ∷ ss) b a = later s (closing q o) ss b (bound_at_place s ss b a)
bound_at_place s (leaving q ∷ ss) b a = later s (leaving q) ss b (bound_at_place s ss b a)

-- ---- what it is to be plain

module _ (b : Bound) (h : is_declared_plainly b ≡ true) where
  rest : (not (is_made_for environment.Class b.environment) && not (is_bound_as bound.Function b && is_made_for environment.IfBody b.environment)) ≡ true
  rest = and_second (has_none b.also || is_bound_as bound.Lexical b) _ h

  more : not (is_bound_as bound.Function b && is_made_for environment.IfBody b.environment) ≡ true
  more = and_second (not (is_made_for environment.Class b.environment)) _ rest

  pub by_one : is_bound_as bound.Lexical b ≡ false → b.also ≡ []
  by_one other = go b.also (subst (λ t. (has_none b.also || t) ≡ true) other (and_first (has_none b.also || is_bound_as bound.Lexical b) _ h))
    where
      go : (es : List Environment) → (has_none es || false) ≡ true → es ≡ []
      go [] e = refl
      go (x ∷ es) e = absurd cc

  pub no_class : is_made_for environment.Class b.environment ≡ false
  no_class = not-true (is_made_for environment.Class b.environment) (and_first (not (is_made_for environment.Class b.environment)) _ rest)

  pub no_if_body : is_bound_as bound.Function b ≡ true → is_made_for environment.IfBody b.environment ≡ false
  no_if_body e = subst (λ t. (t && is_made_for environment.IfBody b.environment) ≡ false) e (not-true (is_bound_as bound.Function b && is_made_for environment.IfBody b.environment) more)

never_empty : (e : Environment) (es : List Environment) → [] ≡ e ∷ es → ⊥
never_empty e es q = absurd cc

-- ---- the environment

-- it is one of the place, no own name's and no `if` body's, and no function leaves its block there
pub record Stands (s : SourceType) (x : Node) (path : List Node) (b : Bound) : Type 0 where
  pub among : Among b.environment (environments x path)
  pub usual : IsUsual b.environment
  pub no_leaving : may_leave_block s x path ≡ false

module _ (s : SourceType) (x y : Node) (path : List Node) (rooted : EndsAtProgram y path) where
  abbrev es : List Environment
  es = environments x (y ∷ path)

  inner_there : Among (innermost es) es
  inner_there = innermost_among x y path rooted

  -- a node that is no function
  no_function : (k : AstType) → x.kind ≡ k → same_kind k kind.Function ≡ false → (is kind.Function x && is_statement x) ≡ false
  no_function k e h = ap (λ b. b && is_statement x) (ap (λ q. same_kind q kind.Function) e ∙ h)

  no_block : (k : AstType) → x.kind ≡ k → same_kind k kind.Function ≡ false → may_leave_block s x (y ∷ path) ≡ false
  no_block k e h = ap (λ b. b && (language.is_block_function s x (y ∷ path) || is_made_for environment.IfBody (innermost es))) (no_function k e h)

  here : (k : AstType) (b : Bound) → x.kind ≡ k → same_kind k kind.Function ≡ false → b.environment ≡ innermost es → Stands s x (y ∷ path) b
  here k b e h q = record {
    among = subst (λ d. Among d es) (sym q) inner_there;
    usual = subst IsUsual (sym q) (innermost_usual x (y ∷ path) (no_function k e h));
    no_leaving = no_block k e h;
  }

  variable_usual : (k : AstType) → x.kind ≡ k → same_kind k kind.Function ≡ false → IsUsual (variable_environment es)
  variable_usual k e h = go (first_taking es) (takes_first es)
    where
      takes_first : (ds : List Environment) → (d : Environment) → first_taking ds ≡ Some d → takes_variables d ≡ true
      takes_first [] d q = absurd cc
      takes_first (c ∷ ds) d q = by (takes_variables c) refl q (takes_first ds d)
        where
          by : (t : Bool) → takes_variables c ≡ t → cond t (Some c) (first_taking ds) ≡ Some d → (first_taking ds ≡ Some d → takes_variables d ≡ true) → takes_variables d ≡ true
          by true i j more = let w : c ≡ d = cc in subst (λ z. takes_variables z ≡ true) w i
          by false i j more = more j

      go : (o : Option Environment) → ((d : Environment) → o ≡ Some d → takes_variables d ≡ true) → IsUsual (environment_or (innermost es) o)
      go None t = innermost_usual x (y ∷ path) (no_function k e h)
      go (Some d) t = taking_usual d (t d refl)

  out : (k : AstType) (b : Bound) → x.kind ≡ k → same_kind k kind.Function ≡ false → b.environment ≡ variable_environment es → Stands s x (y ∷ path) b
  out k b e h q = record {
    among = subst (λ d. Among d es) (sym q) (variable_among es inner_there);
    usual = subst IsUsual (sym q) (variable_usual k e h);
    no_leaving = no_block k e h;
  }

  names_here : (k : AstType) (w : _) (names : List Node) (b : Bound) → x.kind ≡ k → same_kind k kind.Function ≡ false → Among b (map (bound_here w es) names) → Stands s x (y ∷ path) b
  names_here k w names b e h a = let (n, c, q) = among_map (bound_here w es) names b a in here k b e h (sym (ap (λ i. i.environment) q))

  variables : (b : Bound) → x.kind ≡ kind.VariableDeclarator → Among b (bound_by_declarator x (y ∷ path)) → Stands s x (y ∷ path) b
  variables b e a = go (is_with_text kind.VariableDeclaration (codes "var") y) a
    where
      go : (t : Bool) → Among b (map (cond t (bound_outward es) (bound_here bound.Lexical es)) (bound_names x)) → Stands s x (y ∷ path) b
      go true c = let (n, d, q) = among_map (bound_outward es) (bound_names x) b c in out kind.VariableDeclarator b e refl (sym (ap (λ i. i.environment) q))
      go false c = names_here kind.VariableDeclarator bound.Lexical (bound_names x) b e refl c

  -- a function that is a statement stays where it stands
  statement : (b : Bound) → is_declared_plainly b ≡ true → (t : Bool) → language.is_block_function s x (y ∷ path) ≡ t → (n : Node) → b ≡ cond t (bound_identifier bound.Function (innermost es) (variable_environment es ∷ []) (passed es) n) (bound_here bound.Function es n) → Stands s x (y ∷ path) b
  statement b h true w n q = absurd (never_empty (variable_environment es) [] (sym (by_one b h (ap (is_bound_as bound.Lexical) q)) ∙ ap (λ i. i.also) q))
  statement b h false w n q =
      let env : b.environment ≡ innermost es = ap (λ i. i.environment) q in
      let no_body : is_made_for environment.IfBody (innermost es) ≡ false = subst (λ d. is_made_for environment.IfBody d ≡ false) env (no_if_body b h (ap (is_bound_as bound.Function) q)) in
      record {
        among = subst (λ d. Among d es) (sym env) inner_there;
        usual = subst IsUsual (sym env) (innermost_unnamed x (y ∷ path), no_body);
        no_leaving = ap (λ t. (is kind.Function x && is_statement x) && t) (ap (λ t. t || is_made_for environment.IfBody (innermost es)) w ∙ no_body) ∙ and_false (is kind.Function x && is_statement x);
      }

  functions : (b : Bound) → is_declared_plainly b ≡ true → is_bound_as bound.OwnName b ≡ false → Among b (bound_by_function s x (y ∷ path)) → Stands s x (y ∷ path) b
  functions b h o a = go (is_statement x) a
    where
      go : (t : Bool) → Among b (map (cond t (bound_by_declaration s x (y ∷ path)) (bound_identifier bound.OwnName (record { kind = environment.OwnName; maker = x.node_id }) [] [])) (names_at role.Id x)) → Stands s x (y ∷ path) b
      go true c =
          let (n, d, q) = among_map (bound_by_declaration s x (y ∷ path)) (names_at role.Id x) b c in
          statement b h (language.is_block_function s x (y ∷ path)) refl n (sym q)
      go false c =
          let (n, d, q) = among_map (bound_identifier bound.OwnName (record { kind = environment.OwnName; maker = x.node_id }) [] []) (names_at role.Id x) b c in
          absurd (never (ap (is_bound_as bound.OwnName) q ∙ o))

  classes : (b : Bound) → x.kind ≡ kind.Class → is_bound_as bound.OwnName b ≡ false → Among b (bound_by_class x (y ∷ path)) → Stands s x (y ∷ path) b
  classes b e o a = go (is_statement x) a
    where
      go : (t : Bool) → Among b (map (cond t (bound_identifier bound.Lexical (innermost es) (record { kind = environment.Class; maker = x.node_id } ∷ []) []) (bound_identifier bound.OwnName (record { kind = environment.Class; maker = x.node_id }) [] [])) (names_at role.Id x)) → Stands s x (y ∷ path) b
      go true c =
          let (n, d, q) = among_map (bound_identifier bound.Lexical (innermost es) (record { kind = environment.Class; maker = x.node_id } ∷ []) []) (names_at role.Id x) b c in
          here kind.Class b e refl (sym (ap (λ i. i.environment) q))
      go false c =
          let (n, d, q) = among_map (bound_identifier bound.OwnName (record { kind = environment.Class; maker = x.node_id }) [] []) (names_at role.Id x) b c in
          absurd (never (ap (is_bound_as bound.OwnName) q ∙ o))

  catches : (patterns : List Node) (b : Bound) → x.kind ≡ kind.CatchParameter → Among b (flat_map (bound_by_catch es) patterns) → Stands s x (y ∷ path) b
  catches patterns b e a =
      let (n, c, d) = among_flat (bound_by_catch es) patterns b a in
      names_here kind.CatchParameter (cond (is kind.BindingIdentifier n) bound.CatchName bound.Lexical) (bound_names n) b e refl d

  by_kind : (k : AstType) (b : Bound) → x.kind ≡ k → is_declared_plainly b ≡ true → is_bound_as bound.OwnName b ≡ false → Among b (bound_by_node k s x (y ∷ path)) → Stands s x (y ∷ path) b
  by_kind kind.VariableDeclarator b e h o a = variables b e a
  by_kind kind.Function b e h o a = functions b h o a
  by_kind kind.Class b e h o a = classes b e o a
  by_kind kind.FormalParameter b e h o a = names_here kind.FormalParameter bound.Parameter (bound_names x) b e refl a
  by_kind kind.FormalParameterRest b e h o a = names_here kind.FormalParameterRest bound.Parameter (bound_names x) b e refl a
  by_kind kind.CatchParameter b e h o a = catches (children_of role.Pattern x.children) b e a
  by_kind kind.ImportSpecifier b e h o a = names_here kind.ImportSpecifier bound.Lexical (names_at role.Local x) b e refl a
  by_kind kind.ImportDefaultSpecifier b e h o a = names_here kind.ImportDefaultSpecifier bound.Lexical (names_at role.Local x) b e refl a
  by_kind kind.ImportNamespaceSpecifier b e h o a = names_here kind.ImportNamespaceSpecifier bound.Lexical (names_at role.Local x) b e refl a
  by_kind _ b e h o a = absurd a

-- ---- the program

-- by which node its environment is made
pub record IsPlacedBound (p : Tree) (b : Bound) : Type 0 where
  pub usual : IsUsual b.environment
  pub maker : Node
  pub found : node_at p b.environment.maker ≡ Some maker
  pub makes : may_make maker.kind b.environment.kind ≡ true
  pub body : is_made_for environment.Body b.environment ≡ true → has_parameter_expressions maker ≡ true

placed_in : (p : Tree) (b : Bound) (q : Place) (path : List Node) → q.path ≡ path → Among (entering q) (steps p) → IsFamiliar (node_at p) q → is_declared_plainly b ≡ true → is_bound_as bound.OwnName b ≡ false → Among b (bound_by_node q.node.kind p.source_type q.node q.path) → IsBoundByNode p b × IsPlacedBound p b
placed_in p b q [] e a f h o c = absurd (root_binds q.node.kind (subst (EndsAtProgram q.node) e f.rooted) (subst (λ l. Among b (bound_by_node q.node.kind p.source_type q.node l)) e c))
  where
    root_binds : (k : AstType) → q.node.kind ≡ kind.Program → Among b (bound_by_node q.node.kind p.source_type q.node []) → ⊥
    root_binds k r i = subst (λ j. Among b (bound_by_node j p.source_type q.node [])) r i
placed_in p b q (y ∷ path) e a f h o c =
    let there : Among b (bound_by_node q.node.kind p.source_type q.node (y ∷ path)) = subst (λ l. Among b (bound_by_node q.node.kind p.source_type q.node l)) e c in
    let rooted : EndsAtProgram y path = subst (EndsAtProgram q.node) e f.rooted in
    let known : AllKnown (node_at p) (y ∷ path) = subst (AllKnown (node_at p)) e f.path in
    let st : Stands p.source_type q.node (y ∷ path) b = by_kind p.source_type q.node y path rooted q.node.kind b refl h o there in
    let m : IsMadeBy (q.node ∷ y ∷ path) b.environment = made_in q.node (y ∷ path) b.environment st.among in (
      record {
        place = q;
        entered = a;
        no_leaving = subst (λ l. may_leave_block p.source_type q.node l ≡ false) (sym e) st.no_leaving;
        no_own_name = o;
        binds = c;
      },
      record {
        usual = st.usual;
        maker = m.maker;
        found = ap (node_at p) m.is ∙ known_among (node_at p) (q.node ∷ y ∷ path) m.maker (f.node, known) m.among;
        makes = m.makes;
        body = m.body;
      },
    )

pub placed_bound : (p : Tree) → first_fault p ≡ None → is_ecmascript p ≡ true → IsNumbered p.root → (x : Name) → (b : Bound) → Among b (written p.source_type (steps p)) → b.name ≡ x → is_declared_plainly b ≡ true → is_bound_as bound.OwnName b ≡ false → IsBoundByNode p b × IsPlacedBound p b
placed_bound p h e numbered x b a named plain o =
    let at : IsBoundAt p.source_type (steps p) b = bound_at_place p.source_type (steps p) b a in
    placed_in p b at.place at.place.path refl at.entered
    (each_at (FamiliarAt (node_at p)) (steps p) (entering at.place) (familiar_program p h e numbered) at.entered)
    plain o at.binds
