-- The keys of words.
use Rattle.std.proofs.Common.{◌≡◌, ℕ, zero, suc, ◌+◌, ◌<◌, ◌≤◌, List, [], ◌∷◌, ◌++◌, length, get_or, set, take, map}
use Rattle.std.proofs.Common.{refl, sym, ap, subst, ◌∙◌, append_assoc, arith, drop-cons}
use Rattle.std.specs.Prelude.{replicate}
use Rattle.std.proofs.lemmas.List.{take-replicate, take-append-le, take_more, drop_all, take_all, length-append}
use Rattle.std.proofs.lemmas.Bool.Decides.{nat_tests}
use Rattle.ztext.specs.Alphabets.{spelled}
use Rattle.ztext.specs.Words.{packed, word_of}
use Rattle.ztext.specs.Text.{lower_case, key_of}
use Rattle.ztext.specs.TextParts.{AreSmall, filled, IsFilledKey}
use Rattle.ztext.proofs.Packing.{small_append}
use Rattle.ztext.proofs.Spelling.{AreBytes, spelled_small, fives_small}

set_within : (k m z : ℕ) (zs : List ℕ) → length zs < k → k ≤ length zs + m
    → set (take k (zs ++ replicate m 5)) (length zs) z ≡ take k ((zs ++ z ∷ []) ++ replicate m 5)
set_within zero m z zs lt le = absurd (omega arith)
set_within (suc k) zero z [] lt le = absurd (omega arith)
set_within (suc k) (suc m) z [] lt le = ap (λ y. z ∷ y)
    (take-replicate k m 5 (omega arith) ∙ sym (take-replicate k (suc m) 5 (omega arith)))
set_within (suc k) m z (x ∷ zs) lt le = ap (λ y. x ∷ y) (set_within k m z zs (omega arith) (omega arith))

set_filled : (z : ℕ) (zs : List ℕ) → length zs < 9 → set (filled zs) (length zs) z ≡ filled (zs ++ z ∷ [])
unfolding filled
set_filled z zs lt = set_within 9 9 z zs lt (omega arith)

filled_more : (zs more : List ℕ) → 9 ≤ length zs → filled zs ≡ filled (zs ++ more)
unfolding filled
filled_more zs more le =
    take-append-le 9 zs (replicate 9 5) le
    ∙ sym (take-append-le 9 zs more le)
    ∙ sym (take-append-le 9 (zs ++ more) (replicate 9 5) (omega (arith, length-append zs more)))

-- a Z-character that has room
pub put_within : (zs key : List ℕ) (count z : ℕ) → IsFilledKey zs count key → count < 9
    → IsFilledKey (zs ++ z ∷ []) (count + 1) (set key count z)
put_within zs key count z h lt =
    let within : length zs < 9 = omega (arith, h.many) in
    let here : count ≡ length zs = omega (arith, h.many) in
    let e : set key count z ≡ filled (zs ++ z ∷ []) = rw (h.characters, here) (set_filled z zs within) in
    record { characters = e; many = omega (arith, h.many, length-append zs (z ∷ [])) }

-- a Z-character that has none
pub put_beyond : (zs key : List ℕ) (count z : ℕ) → IsFilledKey zs count key → 9 ≤ count
    → IsFilledKey (zs ++ z ∷ []) count key
put_beyond zs key count z h le =
    record {
      characters = h.characters ∙ filled_more zs (z ∷ []) (omega (arith, h.many));
      many = omega (arith, h.many, length-append zs (z ∷ []));
    }

pub turn_within : (zs items key : List ℕ) (i count : ℕ) → i < length items → IsFilledKey (zs ++ take i items) count key
    → count < 9 → IsFilledKey (zs ++ take (i + 1) items) (count + 1) (set key count (get_or items i 0))
turn_within zs items key i count lt h room =
    let e : zs ++ take (i + 1) items ≡ (zs ++ take i items) ++ get_or items i 0
    ∷ [] = ap (λ ys. zs ++ ys) (take_more items i 0 lt)
    ∙ sym (append_assoc zs (take i items) (get_or items i 0 ∷ [])) in
    subst (λ ys. IsFilledKey ys (count + 1) (set key count (get_or items i 0))) (sym e)
    (put_within (zs ++ take i items) key count (get_or items i 0) h room)

pub turn_beyond : (zs items key : List ℕ) (i count : ℕ) → i < length items → IsFilledKey (zs ++ take i items) count key
    → 9 ≤ count → IsFilledKey (zs ++ take (i + 1) items) count key
turn_beyond zs items key i count lt h full =
    let e : zs ++ take (i + 1) items ≡ (zs ++ take i items) ++ get_or items i 0
    ∷ [] = ap (λ ys. zs ++ ys) (take_more items i 0 lt)
    ∙ sym (append_assoc zs (take i items) (get_or items i 0 ∷ [])) in
    subst (λ ys. IsFilledKey ys count key) (sym e) (put_beyond (zs ++ take i items) key count (get_or items i 0) h full)

pub nothing_filled : (5 ∷ 5 ∷ 5 ∷ 5 ∷ 5 ∷ 5 ∷ 5 ∷ 5 ∷ 5 ∷ []) ≡ filled []
unfolding filled
nothing_filled = refl

small_take : (k : ℕ) (zs : List ℕ) → AreSmall zs → AreSmall (take k zs)
small_take zero zs h = tt
small_take (suc k) [] h = tt
small_take (suc k) (z ∷ zs) h = (h.0, small_take k zs h.1)

pub filled_small : (zs : List ℕ) → AreSmall zs → AreSmall (filled zs)
unfolding filled
filled_small zs h = small_take 9 (zs ++ replicate 9 5) (small_append zs (replicate 9 5) h (fives_small 9))

lower_byte : (c : ℕ) → c < 256 → lower_case c < 256
lower_byte c lt = grind (arith, nat_tests)

lower_bytes : (word : List ℕ) → AreBytes word → AreBytes (map lower_case word)
lower_bytes [] h = tt
lower_bytes (c ∷ cs) h = (lower_byte c h.0, lower_bytes cs h.1)

bytes_take : (k : ℕ) (word : List ℕ) → AreBytes word → AreBytes (take k word)
bytes_take zero word h = tt
bytes_take (suc k) [] h = tt
bytes_take (suc k) (c ∷ cs) h = (h.0, bytes_take k cs h.1)

pub key_small : (word key : List ℕ) (count index : ℕ) → AreBytes word
    → IsFilledKey (spelled (map lower_case (take index word))) count key → AreSmall key
key_small word key count index bytes h =
    subst AreSmall (sym h.characters)
    (filled_small (spelled (map lower_case (take index word)))
    (spelled_small (map lower_case (take index word))
    (lower_bytes (take index word) (bytes_take index word bytes))))

pub key_is : (word key : List ℕ) (count index : ℕ) → length word ≤ index
    → IsFilledKey (spelled (map lower_case (take index word))) count key → packed key ≡ key_of word
unfolding key_of filled
key_is word key count index le h = ap packed
    (h.characters ∙ ap (λ w. filled (spelled (map lower_case w))) (take_all index word le))

-- the nine of a list of nine
nine : (zs : List ℕ) → length zs ≡ 9 → zs ≡ get_or zs 0 0 ∷ get_or zs 1 0 ∷ get_or zs 2 0 ∷ get_or zs 3 0
    ∷ get_or zs 4 0 ∷ get_or zs 5 0 ∷ get_or zs 6 0 ∷ get_or zs 7 0 ∷ get_or zs 8 0 ∷ []
nine zs e =
    drop-cons zs 0 0 (omega arith) ∙ ap (λ y. get_or zs 0 0 ∷ y)
    (drop-cons zs 1 0 (omega arith) ∙ ap (λ y. get_or zs 1 0 ∷ y)
    (drop-cons zs 2 0 (omega arith) ∙ ap (λ y. get_or zs 2 0 ∷ y)
    (drop-cons zs 3 0 (omega arith) ∙ ap (λ y. get_or zs 3 0 ∷ y)
    (drop-cons zs 4 0 (omega arith) ∙ ap (λ y. get_or zs 4 0 ∷ y)
    (drop-cons zs 5 0 (omega arith) ∙ ap (λ y. get_or zs 5 0 ∷ y)
    (drop-cons zs 6 0 (omega arith) ∙ ap (λ y. get_or zs 6 0 ∷ y)
    (drop-cons zs 7 0 (omega arith) ∙ ap (λ y. get_or zs 7 0 ∷ y)
    (drop-cons zs 8 0 (omega arith) ∙ ap (λ y. get_or zs 8 0 ∷ y) (drop_all 9 zs (omega arith))))))))))

pub packed_nine : (zs p q r : List ℕ) → length zs ≡ 9 → p ≡ word_of 0 (get_or zs 0 0) (get_or zs 1 0) (get_or zs 2 0)
    → q ≡ word_of 0 (get_or zs 3 0) (get_or zs 4 0) (get_or zs 5 0)
    → r ≡ word_of 128 (get_or zs 6 0) (get_or zs 7 0) (get_or zs 8 0)
    → get_or p 0 0 ∷ get_or p 1 0 ∷ get_or q 0 0 ∷ get_or q 1 0 ∷ get_or r 0 0 ∷ get_or r 1 0 ∷ [] ≡ packed zs
unfolding packed
packed_nine zs p q r e ep eq er = rw (ep, eq, er) (sym (ap packed (nine zs e)))
