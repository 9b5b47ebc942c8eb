-- How many bytes texts have.
use Rattle.std.proofs.Common.{◌≤◌, ◌+◌, ◌-◌, ◌*◌, ◌%◌, ◌==◌, ℕ, suc, Bool, true, false, List, [], ◌∷◌, length, map}
use Rattle.std.proofs.Common.{Option, Some, None, arith, length-append}
use Rattle.std.specs.Prelude.{◌++◌, if◌then◌else◌, nat_lt, replicate}
use Rattle.std.specs.List.{filter}
use Rattle.std.proofs.lemmas.List.{length-map, length-replicate}
use Rattle.ztext.specs.Alphabets.{is_printable, punctuation, upper_letters, lower_letters, place_in}
use Rattle.ztext.specs.Alphabets.{spelling_in_punctuation, spelling_in_upper, spelling_in_lower, spelling_of}
use Rattle.ztext.specs.Words.{packed, missing, padded}
use Rattle.ztext.specs.Abbreviations.{Found, longest, spelling_or, more_of, spelled_behind, encoded_with}
use Rattle.zcore.specs.InstructionBytes.{bytes_of}
use Rattle.code_drafts.specs.Items as items
use Rattle.code_drafts.specs.Addresses.{Sizes}
use Rattle.meaning.specs.Places.{machine_character}
use Rattle.code.specs.Bytes.{least_size}

-- Texts

chosen_length : (test : Bool) (xs ys : List ℕ) → length xs ≤ 4 → length ys ≤ 4 → length (if test then xs else ys) ≤ 4
chosen_length true xs ys h k = h
chosen_length false xs ys h k = k

punctuation_length : (place : Option ℕ) (c : ℕ) → length (spelling_in_punctuation place c) ≤ 4
punctuation_length (Some n) c = omega arith
punctuation_length None c = omega arith

upper_length : (place : Option ℕ) (c : ℕ) → length (spelling_in_upper place c) ≤ 4
upper_length (Some n) c = omega arith
upper_length None c =
    chosen_length (c == 13) (5 ∷ 7 ∷ []) _ (omega arith) (punctuation_length (place_in punctuation c) c)

lower_length : (place : Option ℕ) (c : ℕ) → length (spelling_in_lower place c) ≤ 4
lower_length (Some n) c = omega arith
lower_length None c = upper_length (place_in upper_letters c) c

-- each character has at most four Z-characters
spelling_length : (c : ℕ) → length (spelling_of c) ≤ 4
unfolding spelling_of
spelling_length c = chosen_length (c == 32) (0 ∷ []) _ (omega arith) (lower_length (place_in lower_letters c) c)

-- an abbreviation has two
found_length : (found : Option Found) (c : ℕ) → length (spelling_or found c) ≤ 4
found_length None c = spelling_length c
found_length (Some x) c = omega arith

either_length : (test : Bool) (xs ys : List ℕ) (n : ℕ) → length xs ≤ n → length ys ≤ n
    → length (if test then xs else ys) ≤ n
either_length true xs ys n h k = h
either_length false xs ys n h k = k

spelled_length : (abbreviations : List (List ℕ)) (spelled : ℕ) (text : List ℕ)
    → length (spelled_behind abbreviations spelled text) ≤ 4 * length text
spelled_length abbreviations spelled [] = omega arith
spelled_length abbreviations spelled (c ∷ cs) =
    let found : Option Found = longest abbreviations (c ∷ cs) in
    let rest : List ℕ = spelled_behind abbreviations (more_of found) cs in
    either_length (nat_lt 0 spelled) (spelled_behind abbreviations (spelled - 1) cs) (spelling_or found c ++ rest)
    (4 * suc (length cs)) (omega (arith, spelled_length abbreviations (spelled - 1) cs))
    (omega (
      arith,
      length-append (spelling_or found c) rest,
      found_length found c,
      spelled_length abbreviations (more_of found) cs,
    ))

packed_length : (zs : List ℕ) → 3 * length (packed zs) ≤ 2 * length zs
unfolding packed
packed_length [] = omega arith
packed_length (a ∷ []) = omega arith
packed_length (a ∷ b ∷ []) = omega arith
packed_length (a ∷ b ∷ c ∷ zs) = omega (arith, packed_length zs)

-- at most a word of fives
few : (none : Bool) (n : ℕ) → (if none then 3 else n % 3) ≤ 3
few true n = omega arith
few false n = omega arith

missing_few : (n : ℕ) → missing n ≤ 3
missing_few n = few (n == 0) (3 - n % 3)

-- whatever the abbreviations are
encoded_length : (abbreviations : List (List ℕ)) (text : List ℕ)
    → length (encoded_with abbreviations text) ≤ 3 * length text + 2
unfolding encoded_with
encoded_length abbreviations text =
    let zs = spelled_behind abbreviations 0 text in
    omega (
      arith,
      packed_length (padded zs),
      length-append zs (replicate (missing (length zs)) 5),
      missing_few (length zs),
      length-replicate {A = ℕ} (missing (length zs)) 5,
      spelled_length abbreviations 0 text,
    )

filter_few : (p : ℕ → Bool) (xs : List ℕ) → length (filter p xs) ≤ length xs
filter_few p [] = omega arith
filter_few p (x ∷ xs) = go (p x) (filter_few p xs)
  where
    go : (b : Bool) → length (filter p xs) ≤ length xs
        → length (if b then x ∷ filter p xs else filter p xs) ≤ suc (length xs)
    go true h = omega (arith, h)
    go false h = omega (arith, h)

pub text_few : (sizes : Sizes) (bytes : List ℕ) → least_size sizes (items.print_text bytes) ≤ 3 * length bytes + 3
unfolding bytes_of
text_few sizes bytes = omega (
  arith,
  encoded_length sizes.abbreviations (filter is_printable (map machine_character bytes)),
  filter_few is_printable (map machine_character bytes),
  length-map bytes machine_character,
)
