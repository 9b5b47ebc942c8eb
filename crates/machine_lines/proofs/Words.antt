-- The words of a line as bytes of a parse buffer.
use Rattle.std.proofs.Common.{◌≡◌, ◌==◌, ℕ, suc, ◌+◌, ◌-◌, ◌*◌, ◌<◌, ◌≤◌, Bool, true, false, cond, List, [], ◌∷◌}
use Rattle.std.proofs.Common.{◌++◌, length, take, set, ap, sym, ◌∙◌, append_assoc, arith}
use Rattle.std.specs.List.{AllByRecursion, flat_map}
use Rattle.std.proofs.lemmas.List.{take_more_set, length-set, length_push, append-nil}
use Rattle.zcore.specs.Cutting.{Word, is_among, with_run, words_from, words_of}
use Rattle.zcore.specs.Parsing.{separators_of, first_words, word_bytes}

-- Words lie within their line

abbrev pub AreWithin : ℕ → List Word → Type 0
AreWithin end words = AllByRecursion (λ (w : Word). w.place + length w.bytes ≤ end) words

run_within : (place end : ℕ) (run : List ℕ) (words : List Word) → place + length run ≤ end → AreWithin end words
    → AreWithin end (with_run place run words)
run_within place end [] words le h = h
run_within place end (c ∷ cs) words le h = (le, h)

pub words_within : (separators run line : List ℕ) (place end : ℕ) → place + length run + length line ≤ end
    → AreWithin end (words_from separators place run line)
words_within separators run [] place end le = run_within place end run [] (omega (arith, le)) tt
words_within separators run (c ∷ cs) place end le =
    by_kind (words_within separators [] cs (place + length run + 1) end (omega (arith, le)))
    (words_within separators (run ++ c ∷ []) cs place end (omega (arith, le, length_push run c))) (c == 32)
    (is_among separators c)
  where
    by_kind : AreWithin end (words_from separators (place + length run + 1) [] cs)
        → AreWithin end (words_from separators place (run ++ c ∷ []) cs) → (a b : Bool)
        → AreWithin end (cond a
        (with_run place run (words_from separators (place + length run + 1) [] cs))
        (cond b
        (with_run place run
        (record { place = place + length run; bytes = c ∷ [] }
        ∷ words_from separators (place + length run + 1) [] cs))
        (words_from separators place (run ++ c ∷ []) cs)))
    by_kind after on true b = run_within place end run _ (omega (arith, le)) after
    by_kind after on false true = run_within place end run _ (omega (arith, le)) (omega (arith, le), after)
    by_kind after on false false = on

-- One word after another

pub four_written : (xs : List ℕ) (at a b c d : ℕ) → at + 4 ≤ length xs
    → take (at + 4) (set (set (set (set xs at a) (at + 1) b) (at + 2) c) (at + 3) d)
    ≡ take at xs ++ a ∷ b ∷ c ∷ d ∷ []
four_written xs at a b c d room =
    let x1 = set xs at a in
    let x2 = set x1 (at + 1) b in
    let x3 = set x2 (at + 2) c in
    let e4 : at + 4 ≡ at + 3 + 1 = omega arith in
    let e3 : at + 3 ≡ at + 2 + 1 = omega arith in
    let e2 : at + 2 ≡ at + 1 + 1 = omega arith in
    let l1 : length x1 ≡ length xs = length-set xs at a in
    let l2 : length x2 ≡ length xs = length-set x1 (at + 1) b ∙ l1 in
    let l3 : length x3 ≡ length xs = length-set x2 (at + 2) c ∙ l2 in
    ap (λ n. take n (set x3 (at + 3) d)) e4 ∙ take_more_set x3 (at + 3) d (omega (arith, l3, room))
    ∙ ap (λ n. take n x3 ++ d ∷ []) e3 ∙ ap (λ l. l ++ d ∷ []) (take_more_set x2 (at + 2) c (omega (arith, l2, room)))
    ∙ ap (λ n. (take n x2 ++ c ∷ []) ++ d ∷ []) e2
    ∙ ap (λ l. (l ++ c ∷ []) ++ d ∷ []) (take_more_set x1 (at + 1) b (omega (arith, l1, room)))
    ∙ ap (λ l. ((l ++ b ∷ []) ++ c ∷ []) ++ d ∷ []) (take_more_set xs at a (omega (arith, room)))
    ∙ append_assoc ((take at xs ++ a ∷ []) ++ b ∷ []) (c ∷ []) (d ∷ []) ∙ append_assoc (take at xs ++ a ∷ []) (b ∷ [])
    (c ∷ d ∷ []) ∙ append_assoc (take at xs) (a ∷ []) (b ∷ c ∷ d ∷ [])

module _ (memory : List ℕ) (dictionary : ℕ) (letters : List ℕ) (most : ℕ) where
  abbrev pub Parses : List ℕ → ℕ → List Word → Type 0
  Parses bytes count words =
      (take (4 * count) bytes ++ flat_map (word_bytes memory dictionary) (take (most - count) words)
      ≡ flat_map (word_bytes memory dictionary) (first_words memory dictionary letters most))
      × (count + length (take (most - count) words) ≡ length (first_words memory dictionary letters most))

  pub parse_begins : (bytes : List ℕ) (words : List Word) → words ≡ words_of (separators_of memory dictionary) letters
      → Parses bytes 0 words
  unfolding first_words
  parse_begins bytes words e =
      let z : most - 0 ≡ most = omega arith in
      let n : (k : ℕ) → 0 + k ≡ k = λ k. omega arith in (
        ap (λ k. flat_map (word_bytes memory dictionary) (take k words)) z
            ∙ ap (λ ws. flat_map (word_bytes memory dictionary) (take most ws)) e,
        n (length (take (most - 0) words)) ∙ ap (λ k. length (take k words)) z ∙ ap (λ ws. length (take most ws)) e,
      )

  pub parse_goes_on : (bytes new : List ℕ) (count : ℕ) (words rest : List Word) (w : Word) → Parses bytes count words
      → count < most → words ≡ w ∷ rest
      → take (4 * count + 4) new ≡ take (4 * count) bytes ++ word_bytes memory dictionary w
      → Parses new (count + 1) rest
  parse_goes_on bytes new count words rest w h lt e written =
      let place : 4 * (count + 1) ≡ 4 * count + 4 = omega arith in
      let left : most - count ≡ suc (most - (count + 1)) = omega (arith, lt) in
      let those : take (most - count) words ≡ w ∷ take (most - (count + 1)) rest = ap (λ k. take k words) left
      ∙ ap (take (suc (most - (count + 1)))) e in (
        ap (λ k. take k new ++ flat_map (word_bytes memory dictionary) (take (most - (count + 1)) rest)) place
            ∙ ap (λ l. l ++ flat_map (word_bytes memory dictionary) (take (most - (count + 1)) rest)) written
            ∙ append_assoc (take (4 * count) bytes) (word_bytes memory dictionary w)
            (flat_map (word_bytes memory dictionary) (take (most - (count + 1)) rest))
            ∙ ap (λ ws. take (4 * count) bytes ++ flat_map (word_bytes memory dictionary) ws) (sym those) ∙ h.0,
        omega (arith, ap length those, h.1),
      )

  -- there is no room for more, or no word is left
  pub parse_ends : (bytes : List ℕ) (count : ℕ) (words : List Word) → Parses bytes count words
      → take (most - count) words ≡ [] → (count ≡ length (first_words memory dictionary letters most))
      × (take (4 * count) bytes ≡ flat_map (word_bytes memory dictionary)
      (first_words memory dictionary letters most))
  parse_ends bytes count words h none = (
    omega (arith, ap length none, h.1),
    sym (append-nil (take (4 * count) bytes))
        ∙ ap (λ ws. take (4 * count) bytes ++ flat_map (word_bytes memory dictionary) ws) (sym none) ∙ h.0,
  )
