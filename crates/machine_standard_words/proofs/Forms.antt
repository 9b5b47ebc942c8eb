-- The forms of words.
use Rattle.std.proofs.Common.{◌≡◌, ◌≢◌, ℕ, zero, suc, ◌<◌, ◌≤◌, List, [], ◌∷◌, length, take, drop, sym, ap, subst, ◌∙◌, refl, arith}
use Rattle.std.proofs.Common.{Bool, true, false, cond, Option, Some, None}
use Rattle.std.specs.Prelude.{◌==◌, slice_range}
use Rattle.std.proofs.lemmas.Bool.{eq-eqb, ne_eqb}
use Rattle.std.proofs.lemmas.List.{take_all, length-drop, length-take-le}
use Rattle.std.proofs.lemmas.List.Quantifiers.{position-Some}
use Rattle.ztext.specs.Alphabets.{place_in, spelling_in_punctuation}
use Rattle.ztext.specs.TextParts.{AreSmall, filled, IsFilledKey}
use Rattle.ztext.proofs.Packing.{small_append}
use Rattle.ztext.proofs.Spelling.{AreBytes}
use Rattle.ztext.proofs.Keys.{filled_small}
use Rattle.zcore_standard.specs.Texts.{spelled_in_first, spelled_in_second, spelled_in_third, spelling_by, spelled_by}

-- How a code is spelled that is a space or another

pub of_space : (alphabets : List ℕ) (code : ℕ) → code ≡ 32 → 0 ∷ [] ≡ spelling_by alphabets code
unfolding spelling_by
of_space alphabets code e = rw (eq-eqb code 32 e) refl

pub of_no_space : (alphabets : List ℕ) (code : ℕ) (zs : List ℕ) → code ≢ 32
    → zs ≡ spelled_in_first alphabets (place_in (take 26 alphabets) code) code → zs ≡ spelling_by alphabets code
unfolding spelling_by
of_no_space alphabets code zs other e = e ∙ rw (ne_eqb code 32 other) refl

pub of_no_line : (alphabets : List ℕ) (code : ℕ) (zs : List ℕ) → code ≢ 13
    → zs ≡ spelling_in_punctuation (place_in (drop 54 alphabets) code) code → zs ≡ spelled_in_third alphabets code
of_no_line alphabets code zs other e = e ∙ rw (ne_eqb code 13 other) refl

-- the letters of the third alphabet end with it
pub third_letters : (alphabets : List ℕ) → length alphabets ≡ 78 → take 24 (drop 54 alphabets) ≡ drop 54 alphabets
third_letters alphabets long =
    take_all 24 (drop 54 alphabets) (omega (arith, length-drop 54 alphabets, long))

-- Z-characters are below 32

small_if : (b : Bool) (zs others : List ℕ) → AreSmall zs → AreSmall others → AreSmall (cond b zs others)
small_if true zs others p q = p
small_if false zs others p q = q

-- a place is in the row that it was found in
place_within : (letters : List ℕ) (code place n : ℕ) → place_in letters code ≡ Some place → length letters ≡ n → place < n
place_within letters code place n e long =
    let within = position-Some (λ letter. letter == code) letters place 0 e in omega (arith, within.0, long)

small_sign : (letters : List ℕ) (code : ℕ) (o : Option ℕ) → place_in letters code ≡ o → length letters ≡ 24
    → code < 256 → AreSmall (spelling_in_punctuation o code)
small_sign letters code (Some place) e long byte =
    let within = place_within letters code place 24 e long in (omega arith, (omega arith, tt))
small_sign letters code None e long byte =
    (omega arith, (omega arith, (omega arith, (omega arith, tt))))

small_in_third : (alphabets : List ℕ) (code : ℕ) → length alphabets ≡ 78 → code < 256
    → AreSmall (spelled_in_third alphabets code)
small_in_third alphabets code long byte = small_if (code == 13) _ _ (omega arith, (omega arith, tt))
    (small_sign (drop 54 alphabets) code (place_in (drop 54 alphabets) code) refl
    (omega (arith, length-drop 54 alphabets, long)) byte)

small_in_second : (alphabets : List ℕ) (code : ℕ) (o : Option ℕ) → place_in (slice_range alphabets 26 52) code ≡ o
    → length alphabets ≡ 78 → code < 256 → AreSmall (spelled_in_second alphabets o code)
small_in_second alphabets code (Some place) e long byte =
    let within = place_within (slice_range alphabets 26 52) code place 26 e
    (length-take-le 26 (drop 26 alphabets) (omega (arith, length-drop 26 alphabets, long))) in
    (omega arith, (omega arith, tt))
small_in_second alphabets code None e long byte = small_in_third alphabets code long byte

small_in_first : (alphabets : List ℕ) (code : ℕ) (o : Option ℕ) → place_in (take 26 alphabets) code ≡ o
    → length alphabets ≡ 78 → code < 256 → AreSmall (spelled_in_first alphabets o code)
small_in_first alphabets code (Some place) e long byte =
    let within = place_within (take 26 alphabets) code place 26 e
    (length-take-le 26 alphabets (omega (arith, long))) in
    (omega arith, tt)
small_in_first alphabets code None e long byte =
    small_in_second alphabets code (place_in (slice_range alphabets 26 52) code) refl long byte

spelling_small : (alphabets : List ℕ) (code : ℕ) → length alphabets ≡ 78 → code < 256
    → AreSmall (spelling_by alphabets code)
unfolding spelling_by
spelling_small alphabets code long byte = small_if (code == 32) _ _ (omega arith, tt)
    (small_in_first alphabets code (place_in (take 26 alphabets) code) refl long byte)

spelled_small : (alphabets word : List ℕ) → length alphabets ≡ 78 → AreBytes word
    → AreSmall (spelled_by alphabets word)
spelled_small alphabets [] long h = tt
spelled_small alphabets (c ∷ cs) long h = small_append (spelling_by alphabets c) (spelled_by alphabets cs)
    (spelling_small alphabets c long h.0) (spelled_small alphabets cs long h.1)

bytes_take : (k : ℕ) (word : List ℕ) → AreBytes word → AreBytes (take k word)
bytes_take zero word h = tt
bytes_take (suc k) [] h = tt
bytes_take (suc k) (c ∷ cs) h = (h.0, bytes_take k cs h.1)

-- The forms of words

pub form_small : (alphabets word characters : List ℕ) (count index : ℕ) → length alphabets ≡ 78 → AreBytes word
    → IsFilledKey (spelled_by alphabets (take index word)) count characters → AreSmall characters
form_small alphabets word characters count index long bytes h =
    subst AreSmall (sym h.characters)
    (filled_small (spelled_by alphabets (take index word))
    (spelled_small alphabets (take index word) long (bytes_take index word bytes)))

pub nine_is : (alphabets word characters : List ℕ) (count index : ℕ) → length word ≤ index
    → IsFilledKey (spelled_by alphabets (take index word)) count characters
    → characters ≡ filled (spelled_by alphabets word)
nine_is alphabets word characters count index le h =
    h.characters ∙ ap (λ w. filled (spelled_by alphabets w)) (take_all index word le)
