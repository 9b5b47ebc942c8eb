-- Texts and words of versions 1 and 2, computed.
use Rattle.std.proofs.Common.{◌≡◌, ℕ, List, [], ◌∷◌, ◌++◌, replicate, refl, Result, Ok, Err}
use Rattle.std.specs.Prelude.{codes}
use Rattle.ztext.specs.Reading.{Cause, Abbreviation}
use Rattle.ztext.specs.Text.{refused}
use Rattle.ztext.specs.Words.{unpacked_text}
use Rattle.zcore_versions.specs.LockedTexts.{Letter, read_locked, locked_codes_at, spelled_with_locks}

abbrev text_of : ℕ → List ℕ → Result (List ℕ) Cause
text_of version zs = read_locked version refused 0 (Letter 0) zs

-- a shift counts from the alphabet that is locked, not from another shift
shift_after_shift : text_of 1 (2 ∷ 2 ∷ 6 ∷ 6 ∷ []) ≡ Ok (codes "Aa")
unfolding read_locked
shift_after_shift = refl

-- a lock stays, also over a shift
lock_stays : text_of 1 (4 ∷ 6 ∷ 7 ∷ 2 ∷ 8 ∷ 6 ∷ []) ≡ Ok (codes "AB1A")
unfolding read_locked
lock_stays = refl

-- a shift is used up by a space
space_after_shift : text_of 2 (2 ∷ 0 ∷ 6 ∷ []) ≡ Ok (codes " a")
unfolding read_locked
space_after_shift = refl

-- new lines: 1 in version 1, and 7 of the third alphabet in version 2, which is the digit 0 in version 1
new_line_1 : text_of 1 (6 ∷ 1 ∷ 3 ∷ 7 ∷ []) ≡ Ok (97 ∷ 13 ∷ 48 ∷ [])
unfolding read_locked
new_line_1 = refl

new_line_2 : text_of 2 (6 ∷ 3 ∷ 7 ∷ 3 ∷ 8 ∷ []) ≡ Ok (97 ∷ 13 ∷ 48 ∷ [])
unfolding read_locked
new_line_2 = refl

-- an escape, and one that is not finished
escape : text_of 2 (3 ∷ 6 ∷ 2 ∷ 1 ∷ 6 ∷ []) ≡ Ok (codes "Aa")
unfolding read_locked
escape = refl

unfinished : text_of 1 (6 ∷ 3 ∷ 6 ∷ 2 ∷ []) ≡ Ok (codes "a")
unfolding read_locked
unfinished = refl

-- `<` of version 1
less_than : text_of 1 (3 ∷ 27 ∷ []) ≡ Ok (codes "<")
unfolding read_locked
less_than = refl

-- an abbreviation of version 2, after which the lock is what it was, and one that may not be there
abbreviated : read_locked 2 (λ number. Ok (number ∷ [])) 0 (Letter 0) (4 ∷ 1 ∷ 31 ∷ 6 ∷ []) ≡ Ok (31 ∷ codes "A")
unfolding read_locked
abbreviated = refl

nested : text_of 2 (1 ∷ 0 ∷ []) ≡ Err Abbreviation
unfolding read_locked
nested = refl

-- a text in memory
in_memory : locked_codes_at 1 (replicate 64 0 ++ 0x90 ∷ 0xC7 ∷ []) 64 ≡ Ok (codes "AB", 66)
unfolding locked_codes_at unpacked_text read_locked
in_memory = refl

-- Words: two digits lock the third alphabet, and one shifts to it

two_digits_1 : spelled_with_locks 1 0 (codes "a12b") ≡ 6 ∷ 5 ∷ 8 ∷ 9 ∷ 2 ∷ 7 ∷ []
unfolding spelled_with_locks
two_digits_1 = refl

two_digits_2 : spelled_with_locks 2 0 (codes "a12b") ≡ 6 ∷ 5 ∷ 9 ∷ 10 ∷ 2 ∷ 7 ∷ []
unfolding spelled_with_locks
two_digits_2 = refl

one_digit : spelled_with_locks 2 0 (codes "a1b") ≡ 6 ∷ 3 ∷ 9 ∷ 7 ∷ []
unfolding spelled_with_locks
one_digit = refl

-- what is in no alphabet
escaped : spelled_with_locks 2 0 (155 ∷ []) ≡ 3 ∷ 6 ∷ 4 ∷ 27 ∷ []
unfolding spelled_with_locks
escaped = refl
