-- The keys of words have six bytes.
use Rattle.std.proofs.Common.{◌≡◌, ℕ, zero, suc, ◌%◌, ◌^◌, ◌<◌, inl, inr, List, [], ◌∷◌, length, map, refl, sym, ◌∙◌}
use Rattle.std.proofs.Common.{subst, arith}
use Rattle.std.specs.Prelude.{slice_index_or}
use Rattle.std.specs.List.{All}
use Rattle.std.proofs.Math.Nat.{mod-eq_of_lt}
use Rattle.byteorder.specs.Endian.{big_number}
use Rattle.zcore.specs.Dictionary.{number_of_key}
use Rattle.checker_values.specs.Keys.{key_of_word, keys_of, IsKeyAmong}
use Rattle.checker_values.proofs.Gathered.{each_once}

-- the number of six bytes needs no remainder
pub number_fits : (n : ℕ) (key : List ℕ) → n ≡ number_of_key key → ((i : ℕ) → slice_index_or key i 0 < 256)
    → n ≡ number_of_key key % 2 ^ 48
unfolding number_of_key
number_fits n key is bytes =
    let fits : big_number 6 key < 2 ^ 48 = omega (arith, bytes 0, bytes 1, bytes 2, bytes 3, bytes 4, bytes 5) in
    is ∙ sym (mod-eq_of_lt fits)

word_small : (word : List ℕ) → key_of_word word < 2 ^ 48
unfolding key_of_word
word_small word = omega arith

among_small : (key : ℕ) (words : List (List ℕ)) → IsKeyAmong key (map key_of_word words) → key < 2 ^ 48
among_small key [] m = absurd m
among_small key (word ∷ words) (inl e) = subst (λ k. k < 2 ^ 48) (sym e) (word_small word)
among_small key (word ∷ words) (inr m) = among_small key words m

is_among : (keys : List ℕ) (k d : ℕ) → k < length keys → IsKeyAmong (slice_index_or keys k d) keys
is_among [] k d within = absurd (omega (arith, within))
is_among (key ∷ keys) zero d within = inl refl
is_among (key ∷ keys) (suc k) d within = inr (is_among keys k d (omega (arith, within)))

pub keys_small : (words : List (List ℕ)) → All (λ k. k < 2 ^ 48) (keys_of words)
keys_small words k d within =
    let key = slice_index_or (keys_of words) k d in
    among_small key words (((each_once words).1 key).0 (is_among (keys_of words) k d within))
