-- The number of a mark, digit by digit.
use Rattle.std.proofs.Common.{◌≡◌, ◌≤◌, ◌<◌, ◌+◌, ◌-◌, ℕ, zero, suc, List, [], ◌∷◌, length, drop, take, get_or, refl, ap, sym, ◌∙◌}
use Rattle.std.proofs.Common.{Option, None, Some, arith, if◌then◌else◌, lt-ltb, le-ltb}
use Rattle.std.proofs.lemmas.List.{drop_all, drop_more, take_rest}
use Rattle.std.specs.Prelude.{option_and_then}
use Rattle.play_json.specs.Requests.{mark_in, next_number, number_from, number_of}

step : (digits : List ℕ) (i number : ℕ) → i < length digits
    → number_from number (drop i digits)
    ≡ option_and_then (λ next. number_from next (drop (i + 1) digits)) (next_number number (get_or digits i 0))
step digits i number lt = ap (number_from number) (drop_more digits i 0 lt)

pub number_more : (digits : List ℕ) (i number next : ℕ) → i < length digits
    → next_number number (get_or digits i 0) ≡ Some next → number_from 0 digits ≡ number_from number (drop i digits)
    → number_from 0 digits ≡ number_from next (drop (i + 1) digits)
number_more digits i number next lt e same =
    same ∙ step digits i number lt ∙ ap (option_and_then (λ n. number_from n (drop (i + 1) digits))) e

pub number_none : (digits : List ℕ) (i number : ℕ) → i < length digits
    → next_number number (get_or digits i 0) ≡ None → number_from 0 digits ≡ number_from number (drop i digits)
    → number_from 0 digits ≡ None
number_none digits i number lt e same =
    same ∙ step digits i number lt ∙ ap (option_and_then (λ n. number_from n (drop (i + 1) digits))) e

pub number_all : (digits : List ℕ) (i number : ℕ) → length digits ≤ i
    → number_from 0 digits ≡ number_from number (drop i digits) → number_from 0 digits ≡ Some number
number_all digits i number le same = same ∙ ap (number_from number) (drop_all i digits le)

pub mark_short : (line : List ℕ) → length line < 4 → mark_in line ≡ None
mark_short line lt = ap (λ b. if b then None else number_of (drop 4 line)) (lt-ltb (length line) 4 lt)

pub mark_long : (line : List ℕ) → 4 ≤ length line → mark_in line ≡ number_of (take (length line - 4) (drop 4 line))
mark_long line le =
    ap (λ b. if b then None else number_of (drop 4 line)) (le-ltb (length line) 4 le)
    ∙ ap number_of (sym (take_rest line 4))
