-- Outside of `with` no object stands between, so that a name means there what it means past all objects.
use Rattle.std.proofs.Common.{◌≡◌, List, [], ◌∷◌, ◌++◌, Bool, true, false, ◌&&◌, ◌||◌, not, cond, refl, ap, ◌∙◌}
use Rattle.semantic_kinds.specs.Kinds.{same_kind}
use Rattle.semantic_kinds.specs.declared.kind.AstType.{AstType}
use Rattle.semantic_kinds.specs.declared.kind.AstType.TheVariants as kind
use Rattle.semantic_syntax.specs.Tables.{Name}
use Rattle.semantic_tree.specs.Views.{is}
use Rattle.semantic_tree.specs.declared.node.Node.{Node}
use Rattle.semantic_model.specs.Binder.{is_statement}
use Rattle.tangle_model.specs.Surroundings.{in_with_under}
use Rattle.language_ties.specs.Bound.{Bound}
use Rattle.language_ties.specs.Environments.{Environment, is_made_for, has_parameter_expressions, is_outside_body, made_by, environments}
use Rattle.language_ties.specs.Meaning.{of_object, bound, identifiers_in, binds_arguments, bound_or, meaning, meaning_past_objects}
use Rattle.language_ties.specs.declared.environment_kind.EnvironmentKind.TheVariants as environment

-- none is the object of a `with`
abbrev NoObjects : List Environment → Type 0
NoObjects [] = Unit {0}
NoObjects (e ∷ es) = (is_made_for environment.Object e ≡ false) × NoObjects es

both : (es ds : List Environment) → NoObjects es → NoObjects ds → NoObjects (es ++ ds)
both [] ds h k = k
both (e ∷ es) ds h k = (h.0, both es ds h.1 k)

one_or_none : (b : Bool) (e : Environment) → is_made_for environment.Object e ≡ false → NoObjects (cond b (e ∷ []) [])
one_or_none true e h = (h, tt)
one_or_none false e h = tt

made_without : (k : AstType) (x child : Node) → same_kind k kind.WithStatement ≡ false → NoObjects (made_by k x child)
made_without kind.Program x child h = (refl, tt)
made_without kind.Function x child h = both (cond (not (is_outside_body child) && has_parameter_expressions x) (record { kind = environment.Body; maker = x.node_id } ∷ []) []) _ (one_or_none (not (is_outside_body child) && has_parameter_expressions x) (record { kind = environment.Body; maker = x.node_id }) refl) (refl, (refl, tt))
made_without kind.ArrowFunctionExpression x child h = both (cond (not (is_outside_body child) && has_parameter_expressions x) (record { kind = environment.Body; maker = x.node_id } ∷ []) []) _ (one_or_none (not (is_outside_body child) && has_parameter_expressions x) (record { kind = environment.Body; maker = x.node_id }) refl) (refl, tt)
made_without kind.StaticBlock x child h = (refl, tt)
made_without kind.BlockStatement x child h = (refl, tt)
made_without kind.SwitchStatement x child h = one_or_none (is kind.SwitchCase child) (record { kind = environment.Block; maker = x.node_id }) refl
made_without kind.IfStatement x child h = one_or_none (is kind.Function child && is_statement child) (record { kind = environment.IfBody; maker = child.node_id }) refl
made_without kind.ForStatement x child h = (refl, tt)
made_without kind.ForInStatement x child h = (refl, tt)
made_without kind.ForOfStatement x child h = (refl, tt)
made_without kind.CatchClause x child h = (refl, tt)
made_without kind.Class x child h = unless (is kind.Decorator child)
  where
    unless : (b : Bool) → NoObjects (cond b [] (record { kind = environment.Class; maker = x.node_id } ∷ []))
    unless true = tt
    unless false = (refl, tt)
made_without kind.WithStatement x child h = absurd cc
made_without _ x child h = tt

without : (child : Node) (path : List Node) → in_with_under path ≡ false → NoObjects (environments child path)
without child [] h = tt
without child (x ∷ path) h = go (is kind.WithStatement x) refl h (without x path)
  where
    go : (b : Bool) → is kind.WithStatement x ≡ b → (b || in_with_under path) ≡ false → (in_with_under path ≡ false → NoObjects (environments x path)) → NoObjects (made_by x.kind x child ++ environments x path)
    go true e w later = absurd cc
    go false e w later = both (made_by x.kind x child) (environments x path) (made_without x.kind x child e) (later w)

same_without : (bs : List Bound) (name : Name) (es : List Environment) → NoObjects es → meaning bs es name ≡ meaning_past_objects bs es name
same_without bs name [] h = refl
same_without bs name (e ∷ es) h =
    ap (λ b. cond b (of_object e) (bound_or e (identifiers_in bs e name) (cond (binds_arguments e name) (bound e []) (meaning bs es name)))) h.0
    ∙ ap (λ m. bound_or e (identifiers_in bs e name) (cond (binds_arguments e name) (bound e []) m)) (same_without bs name es h.1)

pub same_outside : (bs : List Bound) (name : Name) (child : Node) (path : List Node) → in_with_under path ≡ false → meaning bs (environments child path) name ≡ meaning_past_objects bs (environments child path) name
same_outside bs name child path h = same_without bs name (environments child path) (without child path h)
