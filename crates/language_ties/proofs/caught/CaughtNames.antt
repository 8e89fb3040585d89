-- Plain catch names are bound by the parameters of catch clauses alone, in the clause's environment.
use Rattle.std.proofs.Common.{◌≡◌, List, [], ◌∷◌, Bool, true, false, cond, map, refl, sym, ap, ◌∙◌, codes}
use Rattle.semantic_kinds.specs.declared.kind.AstType.{AstType}
use Rattle.semantic_kinds.specs.declared.kind.AstType.TheVariants as kind
use Rattle.semantic_kinds.specs.declared.role.Role.TheVariants as role
use Rattle.semantic_syntax.specs.declared.source_type.SourceType.{SourceType}
use Rattle.semantic_tree.specs.Views.{is, is_with_text, children_of}
use Rattle.semantic_tree.specs.declared.node.Node.{Node}
use Rattle.semantic_model.specs.Binder.{is_statement}
use Rattle.semantic_model.specs.Entries.{Among}
use Rattle.semantic_model.specs.Names.{bound_names, names_at}
use Rattle.program_laws.proofs.DeclaredNodes.{among_map, among_flat}
use Rattle.binding_laws.proofs.SmallLaws.{never}
use Rattle.language_ties.specs.Bound.{Bound, bound_identifier, bound_here, bound_outward, bound_by_declarator, bound_by_declaration, bound_by_function, bound_by_class, bound_by_catch, bound_by_node, is_block_function, is_bound_as}
use Rattle.language_ties.specs.Environments.{Environment, environments, innermost, passed, variable_environment}
use Rattle.language_ties.specs.declared.bound_as.BoundAs.TheVariants as bound
use Rattle.language_ties.specs.declared.environment_kind.EnvironmentKind.TheVariants as environment

module _ (s : SourceType) (x : Node) (path : List Node) (b : Bound) where
  abbrev es : List Environment
  es = environments x path

  -- the parameter of a clause binds in the innermost environment
  pub catch_environment : Among b (bound_by_node kind.CatchParameter s x path) → b.environment ≡ innermost es
  catch_environment a =
      let (n, c, d) = among_flat (bound_by_catch es) (children_of role.Pattern x.children) b a in
      let (m, i, j) = among_map (bound_here (cond (is kind.BindingIdentifier n) bound.CatchName bound.Lexical) es) (bound_names n) b d in
      sym (ap (λ z. z.environment) j)

  module _ (caught : is_bound_as bound.CatchName b ≡ true) where
    -- what is bound otherwise is no catch name
    other : (f : Node → Bound) (names : List Node) → ((n : Node) → is_bound_as bound.CatchName (f n) ≡ false) → Among b (map f names) → ⊥
    other f names g a = let (n, c, i) = among_map f names b a in never (sym caught ∙ sym (ap (is_bound_as bound.CatchName) i) ∙ g n)

    declarator : (l : List Node) → Among b (bound_by_declarator x l) → ⊥
    declarator [] a = absurd a
    declarator (declaration ∷ l) a = go (is_with_text kind.VariableDeclaration (codes "var") declaration) a
      where
        go : (t : Bool) → Among b (map (cond t (bound_outward (environments x (declaration ∷ l))) (bound_here bound.Lexical (environments x (declaration ∷ l)))) (bound_names x)) → ⊥
        go true i = other (bound_outward (environments x (declaration ∷ l))) (bound_names x) (λ n. refl) i
        go false i = other (bound_here bound.Lexical (environments x (declaration ∷ l))) (bound_names x) (λ n. refl) i

    of_declaration : (n : Node) → is_bound_as bound.CatchName (bound_by_declaration s x path n) ≡ false
    of_declaration n = go (is_block_function s x path)
      where
        go : (t : Bool) → is_bound_as bound.CatchName (cond t (bound_identifier bound.Function (innermost es) (variable_environment es ∷ []) (passed es) n) (bound_here bound.Function es n)) ≡ false
        go true = refl
        go false = refl

    function : Among b (bound_by_function s x path) → ⊥
    function a = go (is_statement x) a
      where
        go : (t : Bool) → Among b (map (cond t (bound_by_declaration s x path) (bound_identifier bound.OwnName (record { kind = environment.OwnName; maker = x.node_id }) [] [])) (names_at role.Id x)) → ⊥
        go true i = other (bound_by_declaration s x path) (names_at role.Id x) of_declaration i
        go false i = other (bound_identifier bound.OwnName (record { kind = environment.OwnName; maker = x.node_id }) [] []) (names_at role.Id x) (λ n. refl) i

    class : Among b (bound_by_class x path) → ⊥
    class a = go (is_statement x) a
      where
        go : (t : Bool) → Among b (map (cond t (bound_identifier bound.Lexical (innermost es) (record { kind = environment.Class; maker = x.node_id } ∷ []) []) (bound_identifier bound.OwnName (record { kind = environment.Class; maker = x.node_id }) [] [])) (names_at role.Id x)) → ⊥
        go true i = other (bound_identifier bound.Lexical (innermost es) (record { kind = environment.Class; maker = x.node_id } ∷ []) []) (names_at role.Id x) (λ n. refl) i
        go false i = other (bound_identifier bound.OwnName (record { kind = environment.Class; maker = x.node_id }) [] []) (names_at role.Id x) (λ n. refl) i

    pub catch_kind : (k : AstType) → Among b (bound_by_node k s x path) → k ≡ kind.CatchParameter
    catch_kind kind.CatchParameter a = refl
    catch_kind kind.VariableDeclarator a = absurd (declarator path a)
    catch_kind kind.Function a = absurd (function a)
    catch_kind kind.Class a = absurd (class a)
    catch_kind kind.FormalParameter a = absurd (other (bound_here bound.Parameter es) (bound_names x) (λ n. refl) a)
    catch_kind kind.FormalParameterRest a = absurd (other (bound_here bound.Parameter es) (bound_names x) (λ n. refl) a)
    catch_kind kind.ImportSpecifier a = absurd (other (bound_here bound.Lexical es) (names_at role.Local x) (λ n. refl) a)
    catch_kind kind.ImportDefaultSpecifier a = absurd (other (bound_here bound.Lexical es) (names_at role.Local x) (λ n. refl) a)
    catch_kind kind.ImportNamespaceSpecifier a = absurd (other (bound_here bound.Lexical es) (names_at role.Local x) (λ n. refl) a)
    catch_kind _ a = absurd a
