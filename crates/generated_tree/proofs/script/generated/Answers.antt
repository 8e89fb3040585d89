use Rattle.std.proofs.Common.{◌≡◌, [], ap, sym, ◌∙◌, arith}
use Rattle.std.specs.Str.{chars}
use Rattle.semantic_kinds.specs.declared.kind.AstType.TheVariants as kind
use Rattle.semantic_tree.specs.Faults.{first_fault}
use Rattle.semantic_tree.specs.declared.node.Node.{Node}
use Rattle.generated_tree.specs.Generated.{lines, plain_node, functions, script, generated}
use Rattle.generated_tree.proofs.Lines.{lines_chars}
use Rattle.generated_tree.proofs.NoFault.{no_fault}
use Rattle.generated_tree.proofs.script.generated.Goals as goal

pub program_of-requires : goal.program_of-requires
program_of-requires c =
    let n = c.args.functions in
    let ended : c.loop-number.number ≡ n = omega arith in
    let text = c.in_ok-text.ensures ∙ ap chars (c.as_str-2.ensures.value ∙ c.loop-number.invariant.source ∙ ap lines ended) ∙ lines_chars n c.requires in
    let root = c.ending_at.ensures ∙ ap (λ (r : Node). record r { span = record { start = 0; end = c.end_of-end.result } }) (c.loop-number.invariant.root ∙ ap (λ k. plain_node kind.Program 0 0 [] (functions k)) ended) ∙ ap (λ e. plain_node kind.Program 0 e [] (functions n)) c.end_of-end.ensures.end in
    ap first_fault (λ i. script (text i) (root i)) ∙ no_fault n c.requires

pub returns : goal.returns
returns c =
    let n = c.args.functions in
    let ended : c.loop-number.number ≡ n = omega arith in
    let text = c.in_ok-text.ensures ∙ ap chars (c.as_str-2.ensures.value ∙ c.loop-number.invariant.source ∙ ap lines ended) ∙ lines_chars n c.requires in
    let root = c.ending_at.ensures ∙ ap (λ (r : Node). record r { span = record { start = 0; end = c.end_of-end.result } }) (c.loop-number.invariant.root ∙ ap (λ k. plain_node kind.Program 0 0 [] (functions k)) ended) ∙ ap (λ e. plain_node kind.Program 0 e [] (functions n)) c.end_of-end.ensures.end in
    c.program_of.ensures ∙ (λ i. script (text i) (root i))
