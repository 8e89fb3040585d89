use Rattle.std.proofs.Common.{◌≡◌, ◌||◌, map, drop}
use Rattle.tangle_model.specs.Repeated.{Key, keys_of, key_stands}
use Rattle.tangled_names.specs.Gathered.{noted_of}
use Rattle.tangled_names.proofs.repeated.noted_keys.Given as goal

abbrev pub invariant-loop-mention : goal.invariant-loop-mention
invariant-loop-mention l = (k : Key) → (key_stands k l.keys || key_stands k (keys_of l.what (map noted_of (drop l.mention-index l.mentions)))) ≡ key_stands k (keys_of l.what (map noted_of l.mentions))
