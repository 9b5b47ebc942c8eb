-- The law of keys that a function of `laws` carries as its contract.
use Rattle.std.specs.Prelude.{◌↔◌, ℕ, List, map}
use Rattle.std.specs.List.Sorted.{IsStrictlyIncreasing}
use Rattle.checker_values.specs.Keys.{key_of_word, keys_of, IsKeyAmong}

-- the keys of words ascend, and are those of the words and no others
abbrev pub KeysAreEachOnce : Type 0
KeysAreEachOnce = (words : List (List ℕ)) → IsStrictlyIncreasing (keys_of words)
    × ((key : ℕ) → IsKeyAmong key (keys_of words) ↔ IsKeyAmong key (map key_of_word words))
