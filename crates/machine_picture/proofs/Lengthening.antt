-- Styles that become so long.
use Rattle.std.proofs.Common.{◌≡◌, ◌-◌, ◌∙◌, ℕ, List, [], ◌++◌, take, replicate, length, ap, arith}
use Rattle.std.specs.Prelude.{if◌then◌else◌, OnOk, Result, Ok, Err}
use Rattle.std.specs.Result.{is_ok}
use Rattle.std.proofs.lemmas.List.{take_all}
use Rattle.machine_picture.specs.Styles.{Styles, as_long, begun, no_part}

-- a text was cut, or bytes of one style were added
pub longer : {E : Type 0} (result : Result (Unit {0}) E) (count long style : ℕ) (p : Styles) (now : List ℕ)
    → long ≡ length p.each
    → now ≡ (if is_ok result then take count p.each ++ replicate (count - long) style else p.each)
    → OnOk result (record p { each = now } ≡ record p { each = as_long count style p.each })
longer (Ok x) count long style p now is put =
    ap (λ (l : List ℕ). record p { each = l })
    (put ∙ ap (λ n. take count p.each ++ replicate (count - n) style) is)
longer (Err x) count long style p now is put = tt

-- a turn begins
pub begins : {E : Type 0} (result : Result (Unit {0}) E) (count long : ℕ) (p : Styles) (none now : List ℕ) → none ≡ []
    → long ≡ 0 → now ≡ (if is_ok result then take count none ++ replicate (count - long) 0 else none)
    → OnOk result (record p { each = now; part = no_part } ≡ begun p.style count)
begins (Ok x) count long p none now empty is put =
    let all : count - long ≡ count = omega (arith, is) in
    ap (λ (l : List ℕ). record p { each = l; part = no_part })
    (put ∙ ap (λ (l : List ℕ). take count l ++ replicate (count - long) 0) empty
    ∙ ap (λ (l : List ℕ). l ++ replicate (count - long) 0) (take_all count [] (omega arith))
    ∙ ap (λ n. replicate n 0) all)
begins (Err x) count long p none now empty is put = tt
