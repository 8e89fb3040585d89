use Rattle.std.proofs.Common.{◌≡◌, ◌≤◌, [], string_bytes}
use Rattle.semantic_kinds.specs.declared.kind.AstType.TheVariants as kind
use Rattle.generated_tree.specs.Generated.{lines, plain_node, functions}
use Rattle.generated_tree.proofs.script.generated.Given as goal

-- the source and the tree of the functions so far
abbrev pub invariant-loop-number : goal.invariant-loop-number
invariant-loop-number l = record {
  place : l.number ≤ l.functions;
  source : string_bytes l.source ≡ lines l.number;
  root : l.root ≡ plain_node kind.Program 0 0 [] (functions l.number);
}
