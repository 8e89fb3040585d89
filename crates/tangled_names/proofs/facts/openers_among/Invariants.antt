use Rattle.std.proofs.Common.{◌≡◌, ℕ, ◌||◌, map, drop}
use Rattle.semantic_syntax.specs.Members.{contains}
use Rattle.tangle_model.specs.Repeated.{key_stands}
use Rattle.tangled_names.specs.Gathered.{noted_of}
use Rattle.tangled_names.specs.Stored.{node_key, openers_by}
use Rattle.tangled_names.proofs.facts.openers_among.Given as goal

abbrev pub invariant-loop-mention : goal.invariant-loop-mention
invariant-loop-mention l = (n : ℕ) → (key_stands (node_key n) l.openers || contains (openers_by l.keys (map noted_of (drop l.mention-index l.mentions))) n) ≡ contains (openers_by l.keys (map noted_of l.mentions)) n
