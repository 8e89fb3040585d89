use Rattle.std.proofs.Common.{◌≡◌, ◌||◌, cond, map, drop, true}
use Rattle.tangle_model.specs.Repeated.{Key, keys_of, key_stands, repeats}
use Rattle.tangled_names.specs.Gathered.{noted_of}
use Rattle.tangled_names.proofs.repeated.repeated_keys.Given as goal

-- what was met again, and what is met again among what is left
abbrev pub invariant-loop-mention : goal.invariant-loop-mention
invariant-loop-mention l = record {
  kept : (k : Key) → key_stands k l.met.again ≡ true → key_stands k l.met.seen ≡ true;
  rest : (k : Key) → cond (key_stands k l.met.seen) (key_stands k l.met.again || key_stands k (keys_of l.what (map noted_of (drop l.mention-index l.mentions)))) (repeats k (keys_of l.what (map noted_of (drop l.mention-index l.mentions)))) ≡ repeats k (keys_of l.what (map noted_of l.mentions));
}
