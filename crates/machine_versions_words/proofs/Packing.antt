-- The first six Z-characters of a word in two words of memory.
use Rattle.std.proofs.Common.{◌≡◌, ◌≤◌, ℕ, zero, suc, true, false, List, ◌∷◌, [], ◌++◌, length, get_or, take, refl, sym, ap, ◌∙◌, arith, drop-cons}
use Rattle.std.specs.Prelude.{replicate}
use Rattle.ztext.specs.Words.{packed, word_of}
use Rattle.ztext.specs.TextParts.{filled}
use Rattle.zcore_standard.specs.Texts.{alphabets_of, spelled_by}
use Rattle.zcore_versions.specs.Keys.{spelled_in, form_in}
use Rattle.zcore_versions.specs.LockedTexts.{spelled_with_locks}
use Rattle.zcore_versions.specs.Versions.{Story, is_small, locks_alphabets}

six : (zs : List ℕ) → length zs ≡ 9 → take 6 zs
    ≡ get_or zs 0 0 ∷ get_or zs 1 0 ∷ get_or zs 2 0 ∷ get_or zs 3 0 ∷ get_or zs 4 0 ∷ get_or zs 5 0 ∷ []
six zs e =
    ap (take 6) (drop-cons zs 0 0 (omega arith)) ∙ ap (λ y. get_or zs 0 0 ∷ take 5 y)
    (drop-cons zs 1 0 (omega arith)) ∙ ap (λ y. get_or zs 0 0 ∷ get_or zs 1 0 ∷ take 4 y)
    (drop-cons zs 2 0 (omega arith)) ∙ ap (λ y. get_or zs 0 0 ∷ get_or zs 1 0 ∷ get_or zs 2 0 ∷ take 3 y)
    (drop-cons zs 3 0 (omega arith))
    ∙ ap (λ y. get_or zs 0 0 ∷ get_or zs 1 0 ∷ get_or zs 2 0 ∷ get_or zs 3 0 ∷ take 2 y)
    (drop-cons zs 4 0 (omega arith))
    ∙ ap (λ y. get_or zs 0 0 ∷ get_or zs 1 0 ∷ get_or zs 2 0 ∷ get_or zs 3 0 ∷ get_or zs 4 0 ∷ take 1 y)
    (drop-cons zs 5 0 (omega arith))

pub packed_is : (zs p q : List ℕ) → length zs ≡ 9 → p ≡ word_of 0 (get_or zs 0 0) (get_or zs 1 0) (get_or zs 2 0)
    → q ≡ word_of 128 (get_or zs 3 0) (get_or zs 4 0) (get_or zs 5 0)
    → get_or p 0 0 ∷ get_or p 1 0 ∷ get_or q 0 0 ∷ get_or q 1 0 ∷ [] ≡ packed (take 6 zs)
unfolding packed
packed_is zs p q e ep eq = rw (ep, eq) (sym (ap packed (six zs e)))

take_fewer : (k n : ℕ) (zs : List ℕ) → k ≤ n → take k (take n zs) ≡ take k zs
take_fewer zero n zs le = refl
take_fewer (suc k) zero zs le = absurd (omega (arith, le))
take_fewer (suc k) (suc n) [] le = refl
take_fewer (suc k) (suc n) (z ∷ zs) le = ap (λ l. z ∷ l) (take_fewer k n zs (omega (arith, le)))

-- of nine Z-characters the first six are those of the word
pub key_is : (story : Story) (word zs key : List ℕ) → is_small story.version ≡ true
    → zs ≡ filled (spelled_in story word) → key ≡ packed (take 6 zs) → key ≡ form_in story word
unfolding form_in filled
key_is story word zs key small is e =
    let zs9 = spelled_in story word ++ replicate 9 5 in
    e ∙ ap (λ l. packed (take 6 l)) is ∙ ap packed (take_fewer 6 9 zs9 (omega arith)) ∙ rw small refl

pub not_locked : (story : Story) (word zs : List ℕ) → locks_alphabets story.version ≡ false
    → zs ≡ filled (spelled_by (alphabets_of story.loaded) word) → zs ≡ filled (spelled_in story word)
not_locked story word zs none e = rw none e

pub locked_spelled : (story : Story) (word zs : List ℕ) → locks_alphabets story.version ≡ true
    → zs ≡ filled (spelled_with_locks story.version.number 0 word) → zs ≡ filled (spelled_in story word)
locked_spelled story word zs locked e = rw locked e
