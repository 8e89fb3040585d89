use Rattle.std.proofs.Common.{◌≡◌, ◌&&◌, ◌||◌, map, drop}
use Rattle.semantic_syntax.specs.Tables.{Name}
use Rattle.tangle_model.specs.Mention.{Mention}
use Rattle.tangle_model.specs.Repeated.{is_mention_of, key_of, key_stands}
use Rattle.tangle_model.specs.Tangled.{any_mention}
use Rattle.tangled_names.specs.Gathered.{noted_of}
use Rattle.tangled_names.specs.Stored.{has_name}
use Rattle.tangled_names.proofs.facts.names_among.Given as goal

abbrev pub invariant-loop-mention : goal.invariant-loop-mention
invariant-loop-mention l = (x : Name)
    → (has_name l.names x || any_mention (λ (m : Mention). is_mention_of l.what m && key_stands (key_of m) l.keys) (map noted_of (drop l.mention-index l.mentions)) x)
    ≡ any_mention (λ (m : Mention). is_mention_of l.what m && key_stands (key_of m) l.keys) (map noted_of l.mentions) x
