-- Names of which tables and language are proved to agree, and where.
use Rattle.std.specs.Prelude.{◌≡◌, List, [], ◌∷◌, ◌++◌, Bool, true, false, ◌&&◌, ◌||◌, not, ◌⊎◌}
use Rattle.semantic_kinds.specs.declared.kind.AstType.TheVariants as kind
use Rattle.semantic_syntax.specs.Tables.{Name}
use Rattle.semantic_tree.specs.Tree.{Tree}
use Rattle.semantic_tree.specs.Views.{is}
use Rattle.semantic_tree.specs.declared.node.Node.{Node}
use Rattle.semantic_model.specs.Analysis.{analysis_of}
use Rattle.semantic_model.specs.Entries.{Among}
use Rattle.semantic_model.specs.Place.{Place}
use Rattle.semantic_model.specs.Step.{entering, steps}
use Rattle.tangle_model.specs.Surroundings.{in_with_under}
use Rattle.language_ties.specs.Agreement.{use_agrees, use_agrees_past_objects}
use Rattle.language_ties.specs.Bound.{Bound, is_bound_as, written}
use Rattle.language_ties.specs.Environments.{Environment, is_made_for, has_parameter_expressions}
use Rattle.language_ties.specs.Meaning.{use_at}
use Rattle.language_ties.specs.Moved.{bound_of}
use Rattle.language_ties.specs.declared.bound_as.BoundAs.TheVariants as bound
use Rattle.language_ties.specs.declared.environment_kind.EnvironmentKind.TheVariants as environment

abbrev pub has_none : List Environment → Bool
has_none [] = true
has_none (e ∷ es) = false

-- bound by one environment alone, or as the declaration of a class, which is bound inside it, too: by no function that has a variable beside its block's, nor as the body of an `if`
abbrev pub is_declared_plainly : Bound → Bool
is_declared_plainly b =
    (has_none b.also || is_bound_as bound.Lexical b)
    && (not (is_made_for environment.Class b.environment) && not (is_bound_as bound.Function b && is_made_for environment.IfBody b.environment))

-- so, or as the own name of a function or class expression
abbrev pub is_plain : Bound → Bool
is_plain b = is_bound_as bound.OwnName b || is_declared_plainly b

-- a function in a block that has a variable beside, if nothing bars it
abbrev pub leaves_block : Bound → Bool
leaves_block b = is_bound_as bound.Function b && not (has_none b.also)

-- the environments through which a name goes: where it is bound, those its variable passes, and where else it is bound
abbrev pub crossed : Bound → List Environment
crossed b = b.environment ∷ (b.passed ++ b.also)

-- whether both are made by one node; a function that is the body of an `if` makes more than one environment, and one of them round itself
abbrev pub HaveOneMaker : Environment → Environment → Type 0
HaveOneMaker d e = (d.maker ≡ e.maker) × (is_made_for environment.IfBody d ≡ is_made_for environment.IfBody e)

-- nothing else of its name goes through a node that makes an environment on its way
abbrev pub IsAlone : Tree → Bound → Type 0
IsAlone p b =
    (c : Bound) → Among c (written p.source_type (steps p)) → c.name ≡ b.name → (d e : Environment) → Among d (crossed b) → Among e (crossed c) → HaveOneMaker d e → c ≡ b

-- the name is bound plainly, or by functions that leave their blocks alone, and no `var` of it passes a clause whose plain parameter it is (B.3.4)
pub record IsPlainName (p : Tree) (name : Name) : Type 0 where
  pub each : (b : Bound) → Among b (written p.source_type (steps p)) → b.name ≡ name → (is_plain b ≡ true) ⊎ ((leaves_block b ≡ true) × IsAlone p b)
  pub unpassed : (b c : Bound) → Among b (written p.source_type (steps p)) → Among c (written p.source_type (steps p)) → b.name ≡ name → c.name ≡ name → is_bound_as bound.CatchName b ≡ true → is_bound_as bound.Var c ≡ true → Among b.environment c.passed → ⊥

-- of the functions among whose parameters the place stands, each that binds the name has an expression there
abbrev pub StandsInExpressions : List Bound → Name → Node → List Node → Type 0
StandsInExpressions bs name child [] = Unit {0}
StandsInExpressions bs name child (f ∷ path) =
    (is kind.FormalParameters child ≡ true → (b : Bound) (d : Environment) → Among b bs → b.name ≡ name → Among d (b.environment ∷ b.also) → d.maker ≡ f.node_id
    → has_parameter_expressions f ≡ true)
    × StandsInExpressions bs name f path

-- each reference of the name stands so
abbrev pub AllStandInExpressions : Tree → Name → Type 0
AllStandInExpressions p name =
    (q : Place) → Among (entering q) (steps p) → is kind.IdentifierReference q.node ≡ true → q.node.text ≡ name → StandsInExpressions (written p.source_type (steps p)) name q.node q.path

-- no `with` holds a reference of the name
abbrev pub IsReadOutsideWith : Tree → Name → Type 0
IsReadOutsideWith p name =
    (q : Place) → Among (entering q) (steps p) → is kind.IdentifierReference q.node ≡ true → q.node.text ≡ name → in_with_under q.path ≡ false

-- tables and language agree on each that no `with` holds
abbrev pub AgreesOutsideWith : Tree → Name → Type 0
AgreesOutsideWith p name =
    (q : Place) → Among (entering q) (steps p) → is kind.IdentifierReference q.node ≡ true → q.node.text ≡ name → in_with_under q.path ≡ false → use_agrees (analysis_of p) (bound_of p) (use_at q) ≡ true

-- so they do on each reference, if no object of a `with` has the name
abbrev pub AgreesPastObjects : Tree → Name → Type 0
AgreesPastObjects p name =
    (q : Place) → Among (entering q) (steps p) → is kind.IdentifierReference q.node ≡ true → q.node.text ≡ name → use_agrees_past_objects (analysis_of p) (bound_of p) (use_at q) ≡ true
