-- Declarations of the program, in the words of the walk's definition.
use Rattle.std.specs.Prelude.{Bool, false}
use Rattle.std.specs.Str.{chars}
use Rattle.semantic_syntax.specs.declared.symbol_flags.TheConstants.SymbolFlags as symbol
use Rattle.semantic_syntax.specs.Sets.{union}
use Rattle.semantic_tree.specs.declared.node.Node.{Node}
use Rattle.semantic_model.specs.Naming.{Naming}
use Rattle.node_rules.specs.declared.rows.Row.{Row}
use Rattle.table_building.specs.declared.declaration.Declaration.{Declaration}

abbrev pub naming : Declaration → Naming
naming d = record {
  node = d.node;
  identifier = d.identifier;
  name = chars d.name.now;
  span = d.span;
  flags = d.row.flags.bits;
  excluded = d.row.excluded.bits;
  is_pure = d.is_pure;
}

-- the node declares the name of another one by the row
abbrev pub named_by : Node → Row → Bool → Node → Naming
named_by node row is_pure name = record {
  node = node.node_id;
  identifier = name.node_id;
  name = name.text;
  span = name.span;
  flags = row.flags.bits;
  excluded = row.excluded.bits;
  is_pure = is_pure;
}

-- the member of an enum declares the text of a node in its id
abbrev pub member_naming : (member id named : Node) → Naming
member_naming member id named = record {
  node = member.node_id;
  identifier = member.node_id;
  name = named.text;
  span = id.span;
  flags = symbol.EnumMember.bits;
  excluded = symbol.EnumMemberExcludes.bits;
  is_pure = false;
}

-- the catch clause declares a plain name
abbrev pub caught_naming : (parameter name : Node) → Naming
caught_naming parameter name = record {
  node = parameter.node_id;
  identifier = name.node_id;
  name = name.text;
  span = name.span;
  flags = union symbol.FunctionScopedVariable.bits symbol.CatchVariable.bits;
  excluded = 0;
  is_pure = false;
}

-- and a name of a pattern
abbrev pub pattern_naming : (parameter name : Node) → Naming
pattern_naming parameter name = record {
  node = parameter.node_id;
  identifier = name.node_id;
  name = name.text;
  span = name.span;
  flags = union symbol.BlockScopedVariable.bits symbol.CatchVariable.bits;
  excluded = symbol.BlockScopedVariableExcludes.bits;
  is_pure = false;
}
