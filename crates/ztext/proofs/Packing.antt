-- Packing and unpacking, a word at a time.
use Rattle.std.proofs.Common.{◌≡◌, ℕ, zero, suc, ◌+◌, ◌-◌, ◌*◌, ◌/◌, ◌%◌, ◌^◌, ◌<◌, ◌≤◌, true, false, ltb, List, []}
use Rattle.std.proofs.Common.{◌∷◌, ◌++◌, length, get_or, drop, Result, Ok, Err, refl, sym, ap, subst, ◌∙◌}
use Rattle.std.proofs.Common.{append_assoc, arith, add-one, drop-cons, inl, inr}
use Rattle.std.proofs.lemmas.Bool.{le-leb, lt-leb, lt-ltb, le-ltb, cases_lt}
use Rattle.std.proofs.lemmas.List.{append-nil, get_or_append_left, get_or-append_right, length-append}
use Rattle.ztext.specs.Results.{◌>>=◌}
use Rattle.ztext.specs.Reading.{Cause, End}
use Rattle.ztext.specs.Words.{mark, word_of, packed, three_of, unpacked_text}
use Rattle.ztext.specs.Fronts.{after_text}
use Rattle.ztext.specs.TextParts.{AreSmall, words_of, z_character_at}

-- ---- packing

pub packed_step : (bytes rest : List ℕ) (a b c : ℕ)
    → bytes ++ packed (a ∷ b ∷ c ∷ rest) ≡ (bytes ++ word_of (mark rest) a b c) ++ packed rest
unfolding packed
packed_step bytes rest a b c = sym (append_assoc bytes (word_of (mark rest) a b c) (packed rest))

pub packed_short : (bytes rest : List ℕ) → length rest < 3 → bytes ++ packed rest ≡ bytes
unfolding packed
packed_short bytes [] lt = append-nil bytes
packed_short bytes (a ∷ []) lt = append-nil bytes
packed_short bytes (a ∷ b ∷ []) lt = append-nil bytes
packed_short bytes (a ∷ b ∷ c ∷ rest) lt = absurd (omega arith)

pub small_three : (rest more : List ℕ) (a b c : ℕ) → rest ≡ a ∷ b ∷ c ∷ more → AreSmall rest
    → AreSmall (a ∷ b ∷ c ∷ more)
small_three rest more a b c e h = subst AreSmall e h

pub small_append : (xs ys : List ℕ) → AreSmall xs → AreSmall ys → AreSmall (xs ++ ys)
small_append [] ys h k = k
small_append (x ∷ xs) ys h k = (h.0, small_append xs ys h.1 k)

-- ---- unpacking

pub joined_none : (r : Result (List ℕ × ℕ) Cause) → after_text [] r ≡ r
joined_none (Ok x) = refl
joined_none (Err f) = refl

joined_more : (text zs : List ℕ) (r : Result (List ℕ × ℕ) Cause)
    → after_text text (r >>= λ x. Ok (zs ++ x.0, x.1)) ≡ after_text (text ++ zs) r
joined_more text zs (Ok x) = ap (λ y. Ok (y, x.1)) (sym (append_assoc text zs x.0))
joined_more text zs (Err f) = refl

drop_two : (bytes : List ℕ) (n : ℕ) → 2 * n + 1 < length bytes
    → drop (2 * n) bytes ≡ get_or bytes (2 * n) 0 ∷ get_or bytes (2 * n + 1) 0 ∷ drop (2 * (n + 1)) bytes
drop_two bytes n lt =
    let first : drop (2 * n) bytes ≡ get_or bytes (2 * n) 0
    ∷ drop (suc (2 * n)) bytes = drop-cons bytes (2 * n) 0 (omega arith) in
    let second : drop (2 * n + 1) bytes ≡ get_or bytes (2 * n + 1) 0
    ∷ drop (suc (2 * n + 1)) bytes = drop-cons bytes (2 * n + 1) 0 lt in
    let one : suc (2 * n) ≡ 2 * n + 1 = omega arith in
    let two : suc (2 * n + 1) ≡ 2 * (n + 1) = omega arith in
    first ∙ ap (λ k. get_or bytes (2 * n) 0 ∷ drop k bytes) one
    ∙ ap (λ y. get_or bytes (2 * n) 0 ∷ y) (second ∙ ap (λ k. get_or bytes (2 * n + 1) 0 ∷ drop k bytes) two)

words_of-more : (n : ℕ) (bytes : List ℕ) → words_of (n + 1) bytes ≡ words_of n bytes
    ++ three_of (get_or bytes (2 * n) 0) (get_or bytes (2 * n + 1) 0)
unfolding words_of
words_of-more n bytes = rw (add-one n) refl

unpacked_more : (text bytes : List ℕ) (at high low : ℕ) → high < 128
    → after_text text (unpacked_text at (high ∷ low ∷ bytes))
    ≡ after_text (text ++ three_of high low) (unpacked_text (at + 2) bytes)
unfolding unpacked_text
unpacked_more text bytes at high low lt = rw (lt-leb 128 high lt)
    (joined_more text (three_of high low) (unpacked_text (at + 2) bytes))

unpacked_last : (text bytes : List ℕ) (at high low : ℕ) → 128 ≤ high → at + 2 < 2 ^ 32
    → after_text text (unpacked_text at (high ∷ low ∷ bytes)) ≡ Ok (text ++ three_of high low, at + 2)
unfolding unpacked_text
unpacked_last text bytes at high low le lt =
    let fits : ltb (at + 2) (2 ^ 32) ≡ true = lt-ltb _ _ lt in
    rw (le-leb 128 high le, fits) refl

unpacked_beyond : (text bytes : List ℕ) (at high low : ℕ) → 128 ≤ high → 2 ^ 32 ≤ at + 2
    → after_text text (unpacked_text at (high ∷ low ∷ bytes)) ≡ Err End
unfolding unpacked_text
unpacked_beyond text bytes at high low le lt =
    let fits : ltb (at + 2) (2 ^ 32) ≡ false = le-ltb _ _ lt in
    rw (le-leb 128 high le, fits) refl

unpacked_short : (text bytes : List ℕ) (at : ℕ) → length bytes < 2
    → after_text text (unpacked_text at bytes) ≡ Err End
unfolding unpacked_text
unpacked_short text [] at lt = refl
unpacked_short text (a ∷ []) at lt = refl
unpacked_short text (a ∷ b ∷ rest) at lt = absurd (omega arith)

-- what is unpacked_text once the words before a place are
pub unpacked_from : ℕ → List ℕ → ℕ → Result (List ℕ × ℕ) Cause
unpacked_from at bytes n = after_text (words_of n bytes) (unpacked_text (at + 2 * n) (drop (2 * n) bytes))

pub words_none : (at : ℕ) (bytes : List ℕ) → unpacked_from at bytes 0 ≡ unpacked_text at bytes
unfolding unpacked_from words_of
words_none at bytes = let e : at + 2 * 0 ≡ at = omega arith in rw e (joined_none (unpacked_text at bytes))

pub words_more : (at : ℕ) (bytes : List ℕ) (n : ℕ) → 2 * n + 1 < length bytes → get_or bytes (2 * n) 0 < 128
    → unpacked_from at bytes (n + 1) ≡ unpacked_from at bytes n
unfolding unpacked_from
words_more at bytes n room lt =
    let here = unpacked_more (words_of n bytes) (drop (2 * (n + 1)) bytes) (at + 2 * n) (get_or bytes (2 * n) 0)
    (get_or bytes (2 * n + 1) 0) lt in
    let after : at + 2 * n + 2 ≡ at + 2 * (n + 1) = omega arith in
    ap (λ zs. after_text zs (unpacked_text (at + 2 * (n + 1)) (drop (2 * (n + 1)) bytes))) (words_of-more n bytes)
    ∙ ap (λ k. after_text (words_of n bytes ++ three_of (get_or bytes (2 * n) 0) (get_or bytes (2 * n + 1) 0))
    (unpacked_text k (drop (2 * (n + 1)) bytes))) (sym after)
    ∙ sym here
    ∙ ap (λ bs. after_text (words_of n bytes) (unpacked_text (at + 2 * n) bs)) (sym (drop_two bytes n room))

pub words_last : (at : ℕ) (bytes : List ℕ) (n : ℕ) → 2 * n + 1 < length bytes → 128 ≤ get_or bytes (2 * n) 0
    → at + 2 * n + 2 < 2 ^ 32 → unpacked_from at bytes n ≡ Ok (words_of (n + 1) bytes, at + 2 * (n + 1))
unfolding unpacked_from
words_last at bytes n room le lt =
    let after : at + 2 * n + 2 ≡ at + 2 * (n + 1) = omega arith in
    ap (λ bs. after_text (words_of n bytes) (unpacked_text (at + 2 * n) bs)) (drop_two bytes n room)
    ∙ unpacked_last (words_of n bytes) (drop (2 * (n + 1)) bytes) (at + 2 * n) (get_or bytes (2 * n) 0)
    (get_or bytes (2 * n + 1) 0) le lt
    ∙ ap (λ zs. Ok (zs, at + 2 * n + 2)) (sym (words_of-more n bytes))
    ∙ ap (λ k. Ok (words_of (n + 1) bytes, k)) after

pub words_beyond : (at : ℕ) (bytes : List ℕ) (n : ℕ) → 2 * n + 1 < length bytes → 128 ≤ get_or bytes (2 * n) 0
    → 2 ^ 32 ≤ at + 2 * n + 2 → unpacked_from at bytes n ≡ Err End
unfolding unpacked_from
words_beyond at bytes n room le lt =
    ap (λ bs. after_text (words_of n bytes) (unpacked_text (at + 2 * n) bs)) (drop_two bytes n room)
    ∙ unpacked_beyond (words_of n bytes) (drop (2 * (n + 1)) bytes) (at + 2 * n) (get_or bytes (2 * n) 0)
    (get_or bytes (2 * n + 1) 0) le lt

length_rest : (bytes : List ℕ) (i : ℕ) → length bytes < i + 2 → length (drop i bytes) < 2
length_rest bytes zero lt = omega arith
length_rest [] (suc i) lt = omega arith
length_rest (b ∷ bytes) (suc i) lt = length_rest bytes i (omega arith)

pub words_short : (at : ℕ) (bytes : List ℕ) (n : ℕ) → length bytes < 2 * n + 2 → unpacked_from at bytes n ≡ Err End
unfolding unpacked_from
words_short at bytes n lt = unpacked_short (words_of n bytes) (drop (2 * n) bytes) (at + 2 * n)
    (length_rest bytes (2 * n) lt)

-- ---- a Z-character by its place

pub length-words_of : (n : ℕ) (bytes : List ℕ) → length (words_of n bytes) ≡ 3 * n
unfolding words_of
length-words_of zero bytes = refl
length-words_of (suc n) bytes =
    length-append (words_of n bytes) (three_of (get_or bytes (2 * n) 0) (get_or bytes (2 * n + 1) 0))
    ∙ omega (arith, length-words_of n bytes)

pub z_character-is : (n : ℕ) (bytes : List ℕ) (place : ℕ) → place < 3 * n
    → z_character_at bytes place ≡ get_or (words_of n bytes) place 0
unfolding words_of
z_character-is zero bytes place lt = absurd (omega arith)
z_character-is (suc n) bytes place lt =
    let before = words_of n bytes in
    let last = three_of (get_or bytes (2 * n) 0) (get_or bytes (2 * n + 1) 0) in
    elim (cases_lt place (3 * n)) [
      | inl less ↦ z_character-is n bytes place less
          ∙ sym (get_or_append_left before last 0 place (omega (arith, length-words_of n bytes)))
      | inr le ↦
          let word : place / 3 ≡ n = omega arith in
          let within : place % 3 ≡ place - 3 * n = omega arith in
          ap (λ k. get_or (three_of (get_or bytes (2 * k) 0) (get_or bytes (2 * k + 1) 0)) (place % 3) 0) word
          ∙ ap (λ k. get_or last k 0) within
          ∙ sym (get_or-append_right before last (3 * n) place 0 (length-words_of n bytes) le)
    ]
