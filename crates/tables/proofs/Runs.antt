-- The words of a line, a byte or a run at a time.
use Rattle.std.proofs.Common.{◌≡◌, ◌==◌, ℕ, ◌+◌, ◌-◌, ◌<◌, ◌≤◌, false, List, [], ◌∷◌, ◌++◌, length, take, drop}
use Rattle.std.proofs.Common.{slice_index, refl, ap, sym, ◌∙◌, arith}
use Rattle.std.specs.Prelude.{slice_range}
use Rattle.std.proofs.lemmas.Bool.{or_parts}
use Rattle.std.proofs.lemmas.List.{at_drop_more, take_more, get_or-drop, length-drop}
use Rattle.zcore.specs.Cutting.{is_among, divides, words_from}

-- a byte that divides nothing goes on with the run
pub letter : (separators run line : List ℕ) (place c : ℕ) → divides separators c ≡ false
    → words_from separators place run (c ∷ line) ≡ words_from separators place (run ++ c ∷ []) line
letter separators run line place c h =
    let parts = or_parts (c == 32) (is_among separators c) h in
    let a : (c == 32) ≡ false = parts.0 in
    let b : is_among separators c ≡ false = parts.1 in
    rw (a, b) refl

range_more : (line : List ℕ) (start i : ℕ) → start ≤ i → i < length line
    → slice_range line start (i + 1) ≡ slice_range line start i ++ slice_index line i ∷ []
range_more line start i le lt =
    let one : i + 1 - start ≡ i - start + 1 = omega arith in
    let place : start + (i - start) ≡ i = omega arith in
    ap (λ n. take n (drop start line)) one ∙ take_more (drop start line) (i - start) 0
    (omega (arith, length-drop start line))
    ∙ ap (λ x. take (i - start) (drop start line) ++ x ∷ [])
    (get_or-drop start line (i - start) 0 ∙ ap (slice_index line) place)

-- the next byte of a run from a place on
pub run_more : (separators line : List ℕ) (start i : ℕ) → start ≤ i → i < length line
    → divides separators (slice_index line i) ≡ false
    → words_from separators start (slice_range line start i) (drop i line)
    ≡ words_from separators start (slice_range line start (i + 1)) (drop (i + 1) line)
run_more separators line start i le lt h =
    at_drop_more (words_from separators start (slice_range line start i)) line i 0 lt
    ∙ letter separators (slice_range line start i) (drop (i + 1) line) start (slice_index line i) h
    ∙ ap (λ run. words_from separators start run (drop (i + 1) line)) (sym (range_more line start i le lt))
