-- The code of one of some characters.
use Rattle.std.proofs.Common.{◌≡◌, ◌≢◌, ℕ, ◌+◌, ◌<◌, List, length, take, drop, refl, ap, sym, ◌∙◌, arith, slice_index}
use Rattle.std.specs.Prelude.{◌==◌, if◌then◌else◌}
use Rattle.std.proofs.lemmas.Bool.{ne_eqb, eq-eqb}
use Rattle.std.proofs.lemmas.List.{drop_all, drop_more, get_or-take}
use Rattle.zcore_standard.specs.Streams.{code_among}

pub among_next : (cs : List ℕ) (i most base character : ℕ) → i < most → i < length (take most cs)
    → slice_index cs i ≢ character
    → code_among (drop i (take most cs)) (base + i) character
    ≡ code_among (drop (i + 1) (take most cs)) (base + (i + 1)) character
unfolding code_among
among_next cs i most base character few lt other =
    let at : slice_index (take most cs) i ≡ slice_index cs i = get_or-take most cs i 0 few in
    let place : base + i + 1 ≡ base + (i + 1) = omega arith in
    rw (drop_more (take most cs) i 0 lt, at, ne_eqb (slice_index cs i) character other)
    (ap (λ n. code_among (drop (i + 1) (take most cs)) n character) place)

pub among_found : (cs : List ℕ) (i most code character : ℕ) → i < most → i < length (take most cs)
    → slice_index cs i ≡ character → code_among (drop i (take most cs)) code character ≡ code
unfolding code_among
among_found cs i most code character few lt same =
    let at : slice_index (take most cs) i ≡ slice_index cs i = get_or-take most cs i 0 few in
    rw (drop_more (take most cs) i 0 lt, at, eq-eqb (slice_index cs i) character same) refl

pub among_none : (cs : List ℕ) (code character : ℕ) → code_among (drop (length cs) cs) code character ≡ 63
unfolding code_among
among_none cs code character = rw (drop_all (length cs) cs (omega arith)) refl
