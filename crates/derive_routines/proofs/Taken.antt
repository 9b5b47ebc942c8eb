-- Names that are taken.
use Rattle.std.proofs.Common.{◌≡◌, ℕ, List, take, drop, ap, sym, ◌∙◌}
use Rattle.std.specs.Borrow.{Bor}
use Rattle.std.proofs.lemmas.List.{take-map, drop-map}
use Rattle.derive_routines.specs.Held.{names_now}

pub taken_now : (names : List (Bor (List ℕ))) (skipped count : ℕ)
    → names_now (take count (drop skipped names)) ≡ take count (drop skipped (names_now names))
taken_now names skipped count =
    let now : Bor (List ℕ) → List ℕ = λ n. n.now in
    sym (take-map now count (drop skipped names)) ∙ ap (take count) (sym (drop-map now skipped names))
