use Rattle.std.proofs.Common.{◌≡◌, ◌||◌, map, drop}
use Rattle.semantic_syntax.specs.Tables.{Name}
use Rattle.tangle_model.specs.Repeated.{is_mention_of}
use Rattle.tangle_model.specs.Tangled.{any_mention}
use Rattle.tangled_names.specs.Gathered.{noted_of}
use Rattle.tangled_names.specs.Stored.{has_name}
use Rattle.tangled_names.proofs.facts.noted_names.Given as goal

abbrev pub invariant-loop-mention : goal.invariant-loop-mention
invariant-loop-mention l = (x : Name) → (has_name l.names x || any_mention (is_mention_of l.what) (map noted_of (drop l.mention-index l.mentions)) x) ≡ any_mention (is_mention_of l.what) (map noted_of l.mentions) x
