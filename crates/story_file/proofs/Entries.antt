-- The dictionary of keys: how long it is, and what a story reads where it stands.
use Rattle.std.proofs.Common.{◌≡◌, ℕ, ◌+◌, ◌*◌, ◌^◌, ◌<◌, ◌≤◌, List, [], ◌∷◌, length, refl, sym, ap, ◌∙◌, subst, arith}
use Rattle.std.specs.Prelude.{map}
use Rattle.std.specs.List.{All}
use Rattle.std.specs.List.Sorted.{IsStrictlyIncreasing}
use Rattle.std.proofs.lemmas.List.{length-map}
use Rattle.std.proofs.lemmas.List.Elements.{All-head, All-tail}
use Rattle.byteorder.specs.Numbers.{length-bytes_high_first, big_number-reads_back}
use Rattle.ztext.specs.Text.{Holds}
use Rattle.zcore.specs.Header.{static_end}
use Rattle.zcore.specs.Dictionary.{number_of_key}
use Rattle.tables.specs.Dictionary.{ReadsKeys}
use Rattle.code.proofs.Written.{AreKeys, length_dictionary, reads_back}
use Rattle.story_file.specs.Layout.{key_bytes, dictionary_bytes}

-- Keys

keys_long : (keys : List ℕ) → AreKeys (map key_bytes keys)
keys_long [] = tt
keys_long (k ∷ ks) = (length-bytes_high_first 6 k, keys_long ks)

key_back : (key : ℕ) → key < 2 ^ 48 → number_of_key (key_bytes key) ≡ key
unfolding number_of_key
key_back key small = big_number-reads_back 6 key [] small

keys_back : (keys : List ℕ) → All (λ k. k < 2 ^ 48) keys → map number_of_key (map key_bytes keys) ≡ keys
keys_back [] small = refl
keys_back (k ∷ ks) small =
    ap (λ n. n ∷ map number_of_key (map key_bytes ks)) (key_back k (All-head (λ n. n < 2 ^ 48) k ks small))
    ∙ ap (λ ns. k ∷ ns) (keys_back ks (All-tail (λ n. n < 2 ^ 48) k ks small))

-- The dictionary

pub dictionary_length : (keys : List ℕ) → length (dictionary_bytes keys) ≡ 7 + 9 * length keys
dictionary_length keys =
    length_dictionary (map key_bytes keys) (keys_long keys) ∙ ap (λ n. 7 + 9 * n) (length-map keys key_bytes)

pub keys_read : (story : List ℕ) (at : ℕ) (keys : List ℕ) → All (λ k. k < 2 ^ 48) keys
    → IsStrictlyIncreasing keys → length keys ≤ 7281 → Holds story at (dictionary_bytes keys)
    → at + (7 + 9 * length keys) ≤ static_end story → ReadsKeys story at keys
keys_read story at keys small ascending few held within =
    let back : map number_of_key (map key_bytes keys) ≡ keys = keys_back keys small in
    let count : length (map key_bytes keys) ≡ length keys = length-map keys key_bytes in
    subst (ReadsKeys story at) back
    (reads_back story at (map key_bytes keys) (keys_long keys) (subst IsStrictlyIncreasing (sym back) ascending)
    (omega (arith, few, count)) held (omega (arith, within, dictionary_length keys)))
