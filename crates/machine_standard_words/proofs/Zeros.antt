-- The letters before a byte 0.
use Rattle.std.proofs.Common.{◌≡◌, ◌≤◌, ◌<◌, ◌+◌, ℕ, List, length, drop, take, nat_le, slice_index, ap, sym, arith}
use Rattle.std.specs.List.{prefix_len}
use Rattle.std.proofs.lemmas.Bool.{le-leb}
use Rattle.std.proofs.lemmas.List.{take_all}
use Rattle.std.proofs.lemmas.List.Sums.{prefix_len-drop_all, prefix_len-drop_no, prefix_len-drop_yes}
use Rattle.zcore_standard.specs.Words.{before_zero}

-- how many letters there are before the first byte 0
abbrev pub letters_before : List ℕ → ℕ
letters_before letters = prefix_len (λ letter. nat_le 1 letter) letters

abbrev pub HasNone : List ℕ → ℕ → Type 0
HasNone letters count = letters_before letters ≡ count + letters_before (drop count letters)

pub stops : (letters : List ℕ) (count : ℕ) → count < length letters → slice_index letters count ≡ 0
    → HasNone letters count → take count letters ≡ before_zero letters
stops letters count within zero none =
    let no = prefix_len-drop_no (λ letter. nat_le 1 letter) letters count 0 within (ap (λ (n : ℕ). nat_le 1 n) zero) in
    let all : letters_before letters ≡ count = omega (arith, none, no) in
    ap (λ (n : ℕ). take n letters) (sym all)

pub further : (letters : List ℕ) (count : ℕ) → count < length letters → (slice_index letters count ≡ 0 → ⊥)
    → HasNone letters count → HasNone letters (count + 1)
further letters count within letter none =
    let yes = prefix_len-drop_yes (λ letter. nat_le 1 letter) letters count 0 within
    (le-leb 1 (slice_index letters count) (omega (arith, letter))) in
    omega (arith, none, yes)

pub ends : (letters : List ℕ) (count : ℕ) → length letters ≤ count → HasNone letters count → letters ≡ before_zero letters
ends letters count over none =
    let no = prefix_len-drop_all (λ letter. nat_le 1 letter) letters count over in
    sym (take_all (letters_before letters) letters (omega (arith, none, no, over)))
