-- The words of a line as slots of a parse buffer, by what a slot is.
use Rattle.std.proofs.Common.{◌≡◌, ℕ, suc, ◌+◌, ◌-◌, ◌*◌, ◌<◌, List, [], ◌∷◌, ◌++◌, length, take, ap, sym, ◌∙◌}
use Rattle.std.proofs.Common.{append_assoc, arith}
use Rattle.std.specs.List.{flat_map}
use Rattle.std.proofs.lemmas.List.{append-nil}
use Rattle.zcore.specs.Cutting.{Word, words_of}
use Rattle.zcore.specs.Parsing.{separators_of, first_words}

module _ (slot : Word → List ℕ) (memory : List ℕ) (dictionary : ℕ) (letters : List ℕ) (most : ℕ) where
  -- the slots so far and those of the words that are left are those of all
  abbrev pub Parses : List ℕ → ℕ → List Word → Type 0
  Parses bytes count words =
      (take (4 * count) bytes ++ flat_map slot (take (most - count) words)
      ≡ flat_map slot (first_words memory dictionary letters most))
      × (count + length (take (most - count) words) ≡ length (first_words memory dictionary letters most))

  pub parse_begins : (bytes : List ℕ) (words : List Word) → words ≡ words_of (separators_of memory dictionary) letters
      → Parses bytes 0 words
  unfolding first_words
  parse_begins bytes words e =
      let z : most - 0 ≡ most = omega arith in
      let n : (k : ℕ) → 0 + k ≡ k = λ k. omega arith in (
        ap (λ k. flat_map slot (take k words)) z ∙ ap (λ ws. flat_map slot (take most ws)) e,
        n (length (take (most - 0) words)) ∙ ap (λ k. length (take k words)) z ∙ ap (λ ws. length (take most ws)) e,
      )

  pub parse_goes_on : (bytes new : List ℕ) (count : ℕ) (words rest : List Word) (w : Word) → Parses bytes count words
      → count < most → words ≡ w ∷ rest → take (4 * count + 4) new ≡ take (4 * count) bytes ++ slot w
      → Parses new (count + 1) rest
  parse_goes_on bytes new count words rest w h lt e written =
      let place : 4 * (count + 1) ≡ 4 * count + 4 = omega arith in
      let left : most - count ≡ suc (most - (count + 1)) = omega (arith, lt) in
      let those : take (most - count) words ≡ w ∷ take (most - (count + 1)) rest = ap (λ k. take k words) left
      ∙ ap (take (suc (most - (count + 1)))) e in (
        ap (λ k. take k new ++ flat_map slot (take (most - (count + 1)) rest)) place
            ∙ ap (λ l. l ++ flat_map slot (take (most - (count + 1)) rest)) written
            ∙ append_assoc (take (4 * count) bytes) (slot w) (flat_map slot (take (most - (count + 1)) rest))
            ∙ ap (λ ws. take (4 * count) bytes ++ flat_map slot ws) (sym those) ∙ h.0,
        omega (arith, ap length those, h.1),
      )

  -- there is no room for more, or no word is left
  pub parse_ends : (bytes : List ℕ) (count : ℕ) (words : List Word) → Parses bytes count words
      → take (most - count) words ≡ [] → (count ≡ length (first_words memory dictionary letters most))
      × (take (4 * count) bytes ≡ flat_map slot (first_words memory dictionary letters most))
  parse_ends bytes count words h none = (
    omega (arith, ap length none, h.1),
    sym (append-nil (take (4 * count) bytes))
        ∙ ap (λ ws. take (4 * count) bytes ++ flat_map slot ws) (sym none) ∙ h.0,
  )
