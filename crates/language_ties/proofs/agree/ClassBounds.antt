-- Where a plain name is bound in another environment, too: as a class, inside it.
use Rattle.std.proofs.Common.{◌≡◌, List, [], ◌∷◌, Bool, true, false, cond, map, flat_map, inl, inr, refl, sym, ap, subst, ◌∙◌, codes}
use Rattle.semantic_kinds.specs.declared.kind.AstType.{AstType}
use Rattle.semantic_kinds.specs.declared.kind.AstType.TheVariants as kind
use Rattle.semantic_kinds.specs.declared.role.Role.TheVariants as role
use Rattle.semantic_syntax.specs.declared.source_type.SourceType.{SourceType}
use Rattle.semantic_tree.specs.Views.{is, is_with_text, children_of}
use Rattle.semantic_tree.specs.declared.node.Node.{Node}
use Rattle.semantic_model.specs.Binder.{is_statement}
use Rattle.semantic_model.specs.Entries.{Among}
use Rattle.semantic_model.specs.Names.{bound_names, names_at}
use Rattle.semantic_model.specs.Place.{Place}
use Rattle.program_laws.proofs.DeclaredNodes.{among_map, among_flat}
use Rattle.language_ties.specs.AgreeingNames.{is_declared_plainly}
use Rattle.language_ties.specs.Bound as language
use Rattle.language_ties.specs.Bound.{Bound, bound_identifier, bound_here, bound_outward, bound_by_declarator, bound_by_declaration, bound_by_function, bound_by_class, bound_by_catch, bound_by_node, is_bound_as}
use Rattle.language_ties.specs.Environments.{Environment, environments, innermost, passed, variable_environment}
use Rattle.language_ties.specs.declared.bound_as.BoundAs.{BoundAs}
use Rattle.language_ties.specs.declared.bound_as.BoundAs.TheVariants as bound
use Rattle.language_ties.specs.declared.environment_kind.EnvironmentKind.TheVariants as environment
use Rattle.language_ties.proofs.agree.PlainBounds.{by_one}

-- the place is that of a class, and binds it where it stands
pub record IsClassBound (r : Place) (b : Bound) (d : Environment) : Type 0 where
  pub inside : d ≡ record { kind = environment.Class; maker = r.node.node_id }
  pub around : b.environment ≡ innermost (environments r.node r.path)
  pub statement : is_statement r.node ≡ true

module _ (s : SourceType) (r : Place) (b : Bound) (plain : is_declared_plainly b ≡ true) (d : Environment) (also : Among d b.also) where
  none_also : b.also ≡ [] → IsClassBound r b d
  none_also e = absurd (subst (Among d) e also)

  names_here : (w : BoundAs) (es : List Environment) (names : List Node) → Among b (map (bound_here w es) names) → IsClassBound r b d
  names_here w es names a = let (n, c, q) = among_map (bound_here w es) names b a in none_also (sym (ap (λ z. z.also) q))

  declarator : (path : List Node) → Among b (bound_by_declarator r.node path) → IsClassBound r b d
  declarator [] a = absurd a
  declarator (y ∷ path) a = go (is_with_text kind.VariableDeclaration (codes "var") y) a
    where
      go : (t : Bool) → Among b (map (cond t (bound_outward (environments r.node (y ∷ path))) (bound_here bound.Lexical (environments r.node (y ∷ path)))) (bound_names r.node)) → IsClassBound r b d
      go true c =
          let (n, i, q) = among_map (bound_outward (environments r.node (y ∷ path))) (bound_names r.node) b c in
          none_also (sym (ap (λ z. z.also) q))
      go false c = names_here bound.Lexical (environments r.node (y ∷ path)) (bound_names r.node) c

  not_lexical : (n : Node) → is_bound_as bound.Lexical (bound_by_declaration s r.node r.path n) ≡ false
  not_lexical n = either (language.is_block_function s r.node r.path)
    where
      either : (t : Bool) → is_bound_as bound.Lexical (cond t (bound_identifier bound.Function (innermost (environments r.node r.path)) (variable_environment (environments r.node r.path) ∷ []) (passed (environments r.node r.path)) n) (bound_here bound.Function (environments r.node r.path) n)) ≡ false
      either true = refl
      either false = refl

  function : Among b (bound_by_function s r.node r.path) → IsClassBound r b d
  function a = go (is_statement r.node) a
    where
      go : (t : Bool) → Among b (map (cond t (bound_by_declaration s r.node r.path) (bound_identifier bound.OwnName (record { kind = environment.OwnName; maker = r.node.node_id }) [] [])) (names_at role.Id r.node)) → IsClassBound r b d
      go true c =
          let (n, i, q) = among_map (bound_by_declaration s r.node r.path) (names_at role.Id r.node) b c in
          none_also (by_one b plain (sym (ap (is_bound_as bound.Lexical) q) ∙ not_lexical n))
      go false c =
          let (n, i, q) = among_map (bound_identifier bound.OwnName (record { kind = environment.OwnName; maker = r.node.node_id }) [] []) (names_at role.Id r.node) b c in
          none_also (sym (ap (λ z. z.also) q))

  class : Among b (bound_by_class r.node r.path) → IsClassBound r b d
  class a = go (is_statement r.node) refl a
    where
      by : is_statement r.node ≡ true → b.environment ≡ innermost (environments r.node r.path) → Among d (record { kind = environment.Class; maker = r.node.node_id } ∷ []) → IsClassBound r b d
      by t e (inl w) = record { inside = sym w; around = e; statement = t }
      by t e (inr w) = absurd w

      go : (t : Bool) → is_statement r.node ≡ t → Among b (map (cond t (bound_identifier bound.Lexical (innermost (environments r.node r.path)) (record { kind = environment.Class; maker = r.node.node_id } ∷ []) []) (bound_identifier bound.OwnName (record { kind = environment.Class; maker = r.node.node_id }) [] [])) (names_at role.Id r.node)) → IsClassBound r b d
      go true t c =
          let (n, i, q) = among_map (bound_identifier bound.Lexical (innermost (environments r.node r.path)) (record { kind = environment.Class; maker = r.node.node_id } ∷ []) []) (names_at role.Id r.node) b c in
          by t (sym (ap (λ z. z.environment) q)) (subst (Among d) (sym (ap (λ z. z.also) q)) also)
      go false t c =
          let (n, i, q) = among_map (bound_identifier bound.OwnName (record { kind = environment.Class; maker = r.node.node_id }) [] []) (names_at role.Id r.node) b c in
          none_also (sym (ap (λ z. z.also) q))

  catch : (patterns : List Node) → Among b (flat_map (bound_by_catch (environments r.node r.path)) patterns) → IsClassBound r b d
  catch patterns a =
      let (n, c, i) = among_flat (bound_by_catch (environments r.node r.path)) patterns b a in
      names_here (cond (is kind.BindingIdentifier n) bound.CatchName bound.Lexical) (environments r.node r.path) (bound_names n) i

  pub class_bound : (k : AstType) → Among b (bound_by_node k s r.node r.path) → IsClassBound r b d
  class_bound kind.VariableDeclarator a = declarator r.path a
  class_bound kind.Function a = function a
  class_bound kind.Class a = class a
  class_bound kind.FormalParameter a = names_here bound.Parameter (environments r.node r.path) (bound_names r.node) a
  class_bound kind.FormalParameterRest a = names_here bound.Parameter (environments r.node r.path) (bound_names r.node) a
  class_bound kind.CatchParameter a = catch (children_of role.Pattern r.node.children) a
  class_bound kind.ImportSpecifier a = names_here bound.Lexical (environments r.node r.path) (names_at role.Local r.node) a
  class_bound kind.ImportDefaultSpecifier a = names_here bound.Lexical (environments r.node r.path) (names_at role.Local r.node) a
  class_bound kind.ImportNamespaceSpecifier a = names_here bound.Lexical (environments r.node r.path) (names_at role.Local r.node) a
  class_bound _ a = absurd a
