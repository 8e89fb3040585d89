use Rattle.std.proofs.Common.{◌≡◌, ℕ, [], Bool, true, false, Some, None, cond, bytes_eq, sym, subst, ◌∙◌}
use Rattle.std.specs.Str.{chars}
use Rattle.semantic_syntax.specs.Tables.{Name}
use Rattle.semantic_tree.specs.Tree.{Tree}
use Rattle.rename_model.specs.Renamed.{bears_name}
use Rattle.rename_model.specs.WithName.{AreIdentifiers}
use Rattle.mangle_model.specs.WithNames.{IsSomeName}
use Rattle.mangle_model.proofs.OneName.{is_chosen, same_forest}
use Rattle.renamer.specs.Told.{told_by}
use Rattle.renamer.proofs.renaming.renamed.Goals as goal

some_name : (b : Bool) (name : Name) → bytes_eq name [] ≡ false → IsSomeName (cond b (Some name) None)
some_name true name h = h
some_name false name h = tt

pub with_names_in-requires-clause-some : goal.with_names_in-requires-clause-some
with_names_in-requires-clause-some c = λ id. some_name (bears_name (told_by c.args.analysed.now) c.args.symbol id) (chars c.args.new.now) c.requires.name

pub with_names_in-requires-clause-identifiers : goal.with_names_in-requires-clause-identifiers
with_names_in-requires-clause-identifiers c =
    subst (λ (f : ℕ → Bool). AreIdentifiers f c.args.program.now.root.children) (sym (is_chosen (bears_name (told_by c.args.analysed.now) c.args.symbol) (chars c.args.new.now))) c.requires.identifiers

pub returns : goal.returns
returns c =
    let p : Tree = c.args.program.now in
    c.in_ok-made.ensures
    ∙ (λ i. record p { root = record p.root { children = same_forest (bears_name (told_by c.args.analysed.now) c.args.symbol) (chars c.args.new.now) p.root.children i } })
