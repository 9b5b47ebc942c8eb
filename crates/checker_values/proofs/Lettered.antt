-- Only the first nine letters of a word count for its key.
use Rattle.std.proofs.Common.{◌≡◌, ◌==◌, Bool, true, false, cond, Option, Some, None, ℕ, zero, suc, ◌+◌, ◌%◌, ◌^◌, ◌<◌}
use Rattle.std.proofs.Common.{◌≤◌, min, List, [], ◌∷◌, ◌++◌, length, take, refl, sym, ap, ◌∙◌}
use Rattle.std.proofs.Common.{append_assoc, arith}
use Rattle.std.specs.Prelude.{map, replicate}
use Rattle.std.specs.List.{flat_map}
use Rattle.std.proofs.lemmas.List.{take-map, take_min}
use Rattle.ztext.specs.Alphabets.{lower_letters, upper_letters, punctuation, place_in, spelling_in_punctuation}
use Rattle.ztext.specs.Alphabets.{spelling_in_upper, spelling_in_lower, spelling_of, spelled}
use Rattle.ztext.specs.Text.{lower_case, key_of}
use Rattle.ztext.specs.Words.{packed}
use Rattle.zcore.specs.Dictionary.{number_of_key}
use Rattle.checker_values.specs.Keys.{letter_of, key_of_word}

-- what differs after some that are alike
same_front : (xs ys zs : List ℕ) (j : ℕ) → ((k : ℕ) → k + length xs ≤ j → take k ys ≡ take k zs)
    → take j (xs ++ ys) ≡ take j (xs ++ zs)
same_front [] ys zs j h = h j (omega arith)
same_front (x ∷ xs) ys zs zero h = refl
same_front (x ∷ xs) ys zs (suc j) h = ap (λ r. x ∷ r) (same_front xs ys zs j (λ k le. h k (omega (arith, le))))

module _ (f : ℕ → List ℕ) (some : (c : ℕ) → 0 < length (f c)) (pad : List ℕ) where
  -- where each letter gives something, the first n give the first n
  first_letters : (n j : ℕ) (w : List ℕ) → j ≤ n
      → take j (flat_map f (take n w) ++ pad) ≡ take j (flat_map f w ++ pad)
  first_letters zero zero w h = refl
  first_letters zero (suc j) w h = absurd (omega (arith, h))
  first_letters (suc n) zero w h = refl
  first_letters (suc n) (suc j) [] h = refl
  first_letters (suc n) (suc j) (c ∷ cs) h =
      let first = some c in
      ap (take (suc j)) (append_assoc (f c) (flat_map f (take n cs)) pad)
      ∙ same_front (f c) (flat_map f (take n cs) ++ pad) (flat_map f cs ++ pad) (suc j)
      (λ k le. first_letters n k cs (omega (arith, le, first, h)))
      ∙ ap (take (suc j)) (sym (append_assoc (f c) (flat_map f cs) pad))

-- each character is spelled by some Z-characters
some_of_two : (b : Bool) (xs ys : List ℕ) → 0 < length xs → 0 < length ys → 0 < length (cond b xs ys)
some_of_two true xs ys h k = h
some_of_two false xs ys h k = k

some_punctuation : (o : Option ℕ) (c : ℕ) → 0 < length (spelling_in_punctuation o c)
some_punctuation (Some place) c = omega arith
some_punctuation None c = omega arith

some_upper : (o : Option ℕ) (c : ℕ) → 0 < length (spelling_in_upper o c)
some_upper (Some place) c = omega arith
some_upper None c = some_of_two (c == 13) (5 ∷ 7 ∷ []) (spelling_in_punctuation (place_in punctuation c) c)
    (omega arith) (some_punctuation (place_in punctuation c) c)

some_lower : (o : Option ℕ) (c : ℕ) → 0 < length (spelling_in_lower o c)
some_lower (Some place) c = omega arith
some_lower None c = some_upper (place_in upper_letters c) c

spells_some : (c : ℕ) → 0 < length (spelling_of c)
unfolding spelling_of
spells_some c = some_of_two (c == 32) (0 ∷ []) (spelling_in_lower (place_in lower_letters c) c) (omega arith)
    (some_lower (place_in lower_letters c) c)

pub key_of_first : (letters : List ℕ) → key_of (take 9 letters) ≡ key_of letters
unfolding key_of
key_of_first letters =
    ap (λ (w : List ℕ). packed (take 9 (spelled w ++ replicate 9 5))) (sym (take-map lower_case 9 letters))
    ∙ ap packed (first_letters spelling_of spells_some (replicate 9 5) 9 9 (map lower_case letters) (omega arith))

-- the key of a word, by letters whose first are those of the word
pub key_lettered : (word letters given : List ℕ) (count : ℕ) → count ≡ min 9 (length word)
    → take count letters ≡ map letter_of (take count word) → given ≡ take count letters
    → number_of_key (key_of given) % 2 ^ 48 ≡ key_of_word word
unfolding key_of_word
key_lettered word letters given count is first same =
    ap (λ (l : List ℕ). number_of_key (key_of l) % 2 ^ 48)
    (same ∙ first ∙ ap (λ (n : ℕ). map letter_of (take n word)) is ∙ ap (map letter_of) (take_min 9 word)
    ∙ sym (take-map letter_of 9 word))
    ∙ ap (λ (k : List ℕ). number_of_key k % 2 ^ 48) (key_of_first (map letter_of word))
