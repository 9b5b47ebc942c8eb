use Rattle.std.proofs.Common.{◌≡◌, map, drop}
use Rattle.checker_values.specs.Keys.{with_keys, keys_of}
use Rattle.checker_values.proofs.words.gather.Given as goal

abbrev pub invariant-loop-word : goal.invariant-loop-word
invariant-loop-word l = with_keys l.set.keys (map (λ w. w.now) (drop l.word-index l.words))
    ≡ keys_of (map (λ w. w.now) l.words)
