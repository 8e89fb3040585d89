use Rattle.std.proofs.Common.{◌≡◌, ◌+◌, ◌-◌, ◌^◌, ◌≤◌, length, map, filter}
use Rattle.semantic_kinds.specs.declared.kind.AstType.TheVariants as kind
use Rattle.semantic_kinds.specs.declared.role.Role.TheVariants as role
use Rattle.semantic_tree.specs.ChildIter.{left_of}
use Rattle.semantic_tree.specs.Views.{all_in, is}
use Rattle.table_building.specs.Growth.{Goes}
use Rattle.table_building.specs.Named.{member_naming}
use Rattle.table_building.specs.Each.{declare_each}
use Rattle.table_building.proofs.declared.Declared.declare_pieces.Given as goal

-- to declare what is left is to declare all
abbrev pub invariant-loop-piece : goal.invariant-loop-piece
invariant-loop-piece l = record {
  rest : declare_each l.self l.scope (map (member_naming l.member.node.now l.id.node.now) (filter (is kind.TemplateElement) (left_of l.piece-iterator)))
      ≡ declare_each l.initial.self l.scope (map (member_naming l.member.node.now l.id.node.now) (filter (is kind.TemplateElement) (all_in role.Quasis l.id.node.now)));
  room : length l.self.tables.symbols + length (filter (is kind.TemplateElement) (left_of l.piece-iterator)) ≤ 2 ^ 32 - 1;
  goes : Goes l.initial.self l.self;
}
