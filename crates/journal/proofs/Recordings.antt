-- Recordings whose parts are the same.
use Rattle.std.proofs.Common.{◌≡◌, ℕ, List, ap, ◌∙◌}
use Rattle.journal.specs.Recording.{Recording}

abbrev pub recording : {C : Type 0} → C → List ℕ → List ℕ → Recording C
recording s b k = record { store = s; beginning = b; kept = k }

pub same_recording : {C : Type 0} (s t : C) (b d k l : List ℕ) → s ≡ t → b ≡ d → k ≡ l
    → recording s b k ≡ recording t d l
same_recording {C} s t b d k l p q r = ap (λ (x : C). recording x b k) p ∙ ap (λ (x : List ℕ). recording t x k) q
    ∙ ap (λ (x : List ℕ). recording t d x) r
