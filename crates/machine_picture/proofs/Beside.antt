-- What is left of a text beside the part in which a read shows the upper window.
use Rattle.std.proofs.Common.{◌≡◌, ◌==◌, ◌+◌, ◌∙◌, ℕ, Bool, true, false, List, [], ◌++◌, length, take, drop, ap, sym, arith, refl}
use Rattle.std.proofs.Common.{append_assoc}
use Rattle.std.specs.Prelude.{if◌then◌else◌}
use Rattle.std.proofs.Math.Seq.{drop-append_seam, take-append_seam}
use Rattle.std.proofs.lemmas.Bool.{eqb-true}
use Rattle.std.proofs.lemmas.List.{length-append, nil_from_length, take-append-drop}
use Rattle.zcore_standard.specs.declared.windows.Upper.{Upper}
use Rattle.zcore_standard.specs.Windows.{last_line, with_new_line, with_upper, without_spaces}
use Rattle.machine_standard_windows.proofs.TextLines.{lines_apart}
use Rattle.machine_picture.specs.Styles.{part_of, without_part}

empty_line : length (with_new_line []) ≡ 0
unfolding with_new_line last_line
empty_line = refl

-- the lower window's text, where the upper one shows this
abbrev beside : List ℕ → List ℕ → List ℕ
beside before bare = if length bare == 0 then before else with_new_line before

left_by : (b : Bool) (before bare more : List ℕ) → (length bare == 0) ≡ b
    → without_part (record {
      from = length (with_new_line before);
      to = length (with_new_line before) + length (with_new_line bare);
    }) ((if b then before else with_new_line (with_new_line before ++ bare)) ++ more)
    ≡ (if b then before else with_new_line before) ++ more
left_by true before bare more e =
    let n : ℕ = length (with_new_line before) in
    let all : List ℕ = before ++ more in
    let none : length (with_new_line bare) ≡ 0 =
    ap (λ (l : List ℕ). length (with_new_line l)) (nil_from_length bare (eqb-true (length bare) 0 e)) ∙ empty_line in
    let same : n + length (with_new_line bare) ≡ n = omega (arith, none) in
    ap (λ (k : ℕ). take n all ++ drop k all) same ∙ take-append-drop n all
left_by false before bare more e =
    let first : List ℕ = with_new_line before in
    let window : List ℕ = with_new_line bare in
    let long : length first + length window ≡ length (first ++ window) = sym (length-append first window) in
    ap (λ (l : List ℕ). take (length first) (l ++ more) ++ drop (length first + length window) (l ++ more))
    (lines_apart before bare)
    ∙ ap (λ (l : List ℕ). take (length first) l ++ drop (length first + length window) (first ++ window ++ more))
    (append_assoc first window more)
    ∙ ap (λ (l : List ℕ). l ++ drop (length first + length window) (first ++ window ++ more))
    (take-append_seam first (window ++ more))
    ∙ ap (λ (k : ℕ). first ++ drop k (first ++ window ++ more)) long
    ∙ ap (λ (l : List ℕ). first ++ l) (drop-append_seam (first ++ window) more)

-- All that the lower window has is left, in lines of its own where the upper one shows something, and all that comes after.
pub left_beside : (upper : Upper) (text more : List ℕ)
    → without_part (part_of upper text) (with_upper upper text ++ more)
    ≡ beside (take upper.from text) (without_spaces (drop upper.from text)) ++ more
unfolding with_upper
left_beside upper text more =
    left_by (length (without_spaces (drop upper.from text)) == 0) (take upper.from text)
    (without_spaces (drop upper.from text)) more refl
