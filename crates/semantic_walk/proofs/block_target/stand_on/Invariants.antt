use Rattle.std.proofs.Common.{◌≡◌, drop}
use Rattle.std.specs.Str.{chars}
use Rattle.semantic_walk.specs.Binds.{stands_on}
use Rattle.semantic_walk.proofs.block_target.stand_on.Given as goal

-- to ask from here on is to ask all
abbrev pub invariant-loop-scope : goal.invariant-loop-scope
invariant-loop-scope l = record {
  items : l.scope-items ≡ drop 1 l.route.passed.items;
  stays : l.namesakes ≡ l.initial.namesakes;
  rest : stands_on l.scoping l.initial.namesakes (chars l.name.text.now) (drop l.scope-index l.scope-items) ≡ stands_on l.scoping l.initial.namesakes (chars l.name.text.now) (drop 1 l.route.passed.items);
}
