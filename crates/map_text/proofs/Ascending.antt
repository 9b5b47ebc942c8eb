-- Rows whose addresses ascend.
use Rattle.std.proofs.Common.{◌≡◌, ◌<◌, ◌≤◌, ◌+◌, ◌-◌, Option, Some, None, subst, ℕ, zero, suc, List, [], ◌∷◌, map, length, drop, ap, arith}
use Rattle.std.specs.List.{All, slice_index_or}
use Rattle.std.proofs.lemmas.List.Elements.{All-nil, All-cons}
use Rattle.map_text.specs.declared.row.Row.{Row}
use Rattle.map_text.specs.Text.{Ascend, row_of}
use Rattle.map_text.specs.Found.{IsBehind, IsLast, IsRowAt}

pub all_behind : (rows : List Row) (least address : ℕ) → Ascend least (map row_of rows) → address < least
    → All (IsBehind address) rows
all_behind [] least address up lt = All-nil (IsBehind address)
all_behind (r ∷ rs) least address up lt =
    All-cons (IsBehind address) r rs (omega (arith, up.0, lt))
    (all_behind rs r.address address up.1 (omega (arith, up.0, lt)))

pub rest_behind : (rows : List Row) (least number address : ℕ) (d : Row) → Ascend least (map row_of rows)
    → number < length rows → address < (slice_index_or rows number d).address
    → All (IsBehind address) (drop number rows)
rest_behind [] least number address d up lt more = absurd (omega (arith, lt))
rest_behind (x ∷ xs) least zero address d up lt more =
    All-cons (IsBehind address) x xs more (all_behind xs x.address address up.1 more)
rest_behind (x ∷ xs) least (suc k) address d up lt more =
    rest_behind xs x.address k address d up.1 (omega (arith, lt)) more

-- the last of the rows at or before an address, of which there are so many, before rows that are all after it
pub found : (rows : List Row) (n address : ℕ) (o : Option Row) → n ≤ length rows
    → ((k : ℕ) (d : Row) → k < n → (slice_index_or rows k d).address ≤ address)
    → All (IsBehind address) (drop n rows) → IsLast rows n o → IsRowAt rows address o
found rows n address None le below behind last =
    subst (λ (m : ℕ). All (IsBehind address) (drop m rows)) last behind
found rows n address (Some r) le below behind last =
    let low = below (n - 1) r (omega (arith, last.0)) in
    let next : n ≡ n - 1 + 1 = omega (arith, last.0) in (
      n - 1,
      omega (arith, le, last.0),
      last.1,
      omega (arith, low, ap (λ (x : Row). x.address) last.1),
      subst (λ (m : ℕ). All (IsBehind address) (drop m rows)) next behind,
    )
