use Rattle.std.proofs.Common.{ℕ, Option, ap, sym, subst, ◌∙◌}
use Rattle.semantic_syntax.specs.Tables.{Name}
use Rattle.semantic_tree.specs.Tree.{Tree}
use Rattle.semantic_tree.specs.declared.node.Node.{Node}
use Rattle.semantic_tree.proofs.ShapedLaws.{IsShaped-no_fault}
use Rattle.mangle_model.specs.WithNames.{with_names}
use Rattle.renamer.specs.Renaming.{AreKnown}
use Rattle.renamer.proofs.KnownMarks.{shaped_known}
use Rattle.renamer.proofs.NamedChildren.{numbered_again, no_fault_again}
use Rattle.renamer.proofs.renaming.with_names_in.Goals as goal

pub renamed_root-requires : goal.renamed_root-requires
renamed_root-requires g c = subst (λ (n : Node). AreKnown n.children) (sym (c.node.ensures ∙ c.root.ensures.root)) (shaped_known c.args.program.now c.root.ensures.shaped)

pub program_of-requires : goal.program_of-requires
program_of-requires g c =
    let names : ℕ → Option Name = g.N.GivenNames.given c.args.names.now in
    let p : Tree = c.args.program.now in
    let root = c.in_ok-root.ensures ∙ ap (λ (n : Node). record n { children = with_names names n.children; node_id = 0 }) (c.node.ensures ∙ c.root.ensures.root) in
    let q : Tree = record { source = c.in_ok-source.source; source_type = c.source_type.result; comments = c.in_ok-comments.comments.items; root = c.in_ok-root.root } in
    no_fault_again names p c.root.ensures.numbered (IsShaped-no_fault p c.root.ensures.shaped) c.requires.some c.requires.identifiers q
    (c.in_ok-source.ensures ∙ c.source_text.ensures.chars) c.source_type.ensures (c.in_ok-comments.ensures.items ∙ c.comments.ensures) root

pub returns : goal.returns
returns g c =
    let names : ℕ → Option Name = g.N.GivenNames.given c.args.names.now in
    let p : Tree = c.args.program.now in
    let root = c.in_ok-root.ensures ∙ ap (λ (n : Node). record n { children = with_names names n.children; node_id = 0 }) (c.node.ensures ∙ c.root.ensures.root) in
    let q : Tree = record { source = c.in_ok-source.source; source_type = c.source_type.result; comments = c.in_ok-comments.comments.items; root = c.in_ok-root.root } in
    c.program_of.ensures
    ∙ numbered_again names p c.root.ensures.numbered q (c.in_ok-source.ensures ∙ c.source_text.ensures.chars) c.source_type.ensures (c.in_ok-comments.ensures.items ∙ c.comments.ensures) root
