-- Words that are read one by one.
use Rattle.std.proofs.Common.{◌≡◌, ℕ, suc, ◌+◌, ◌-◌, ◌*◌, ◌<◌, List, [], ◌∷◌, ◌++◌, ap, sym, ◌∙◌, arith}
use Rattle.std.proofs.lemmas.List.{append_assoc}
use Rattle.ztext.specs.Bytes.{word_at}
use Rattle.zcore_standard_loading.specs.Loading.{words_from}

-- the next of the words that are left
next_word : (story : List ℕ) (at i count : ℕ) → i < count
    → words_from story (at + 2 * i) (count - i)
    ≡ word_at story (at + 2 * i) ∷ words_from story (at + 2 * (i + 1)) (count - (i + 1))
next_word story at i count below =
    let left : count - i ≡ suc (count - (i + 1)) = omega (arith, below) in
    let on : at + 2 * i + 2 ≡ at + 2 * (i + 1) = omega arith in
    ap (words_from story (at + 2 * i)) left
    ∙ ap (λ a. word_at story (at + 2 * i) ∷ words_from story a (count - (i + 1))) on

-- it goes to those that were read
pub word_read : (story words all : List ℕ) (at i count : ℕ) → i < count
    → words ++ words_from story (at + 2 * i) (count - i) ≡ all
    → (words ++ word_at story (at + 2 * i) ∷ []) ++ words_from story (at + 2 * (i + 1)) (count - (i + 1)) ≡ all
word_read story words all at i count below e =
    append_assoc words (word_at story (at + 2 * i) ∷ []) (words_from story (at + 2 * (i + 1)) (count - (i + 1)))
    ∙ ap (λ rest. words ++ rest) (sym (next_word story at i count below)) ∙ e
