-- A store under record, as its callers see it.
use Rattle.std.specs.Prelude.{◌≡◌, ℕ, List, [], refl}
use Rattle.std.specs.Coded.{Coded, code_by, coded×, coded_ℕ, coded_list}

-- the store now, its cells when the turn began, and the pages that are kept as they were then
pub record Recording (C : Type 0) : Type 0 where
  pub store : C
  pub beginning : List ℕ
  pub kept : List ℕ

-- the turn keeps no page yet, so the store is as it was when the turn began
abbrev pub IsNothingKept : {C : Type 0} → Recording C → Type 0
IsNothingKept {C} r = r.kept ≡ []

-- a recording as a pair of pairs, which std's codes are made of
abbrev pub recording_code : {C : Type 0} → Coded C → Coded (Recording C)
recording_code {C} code = code_by (C × (List ℕ × List ℕ))
    (coded× code (coded× (coded_list coded_ℕ) (coded_list coded_ℕ))) (λ r. (r.store, (r.beginning, r.kept)))
    (λ p. record { store = p.0; beginning = p.1.0; kept = p.1.1 }) (λ _. refl)
