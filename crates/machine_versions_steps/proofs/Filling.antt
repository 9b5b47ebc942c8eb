-- Texts that are filled up with spaces.
use Rattle.std.proofs.Common.{◌≡◌, ℕ, ◌+◌, ◌-◌, List, ◌++◌, length, take, ap, ◌∙◌, arith}
use Rattle.std.specs.Prelude.{replicate}
use Rattle.std.proofs.lemmas.List.{take_all}
use Rattle.zcore_versions.specs.StatusLine.{filled, spaces_after}

pub filled_is : (width m k n : ℕ) (t y : List ℕ) → m ≡ k → k ≡ length t → n ≡ m + spaces_after t width
    → y ≡ take n t ++ replicate (n - k) 32 → y ≡ filled width t
unfolding filled
filled_is width m k n t y same size long items =
    items ∙ ap (λ l. l ++ replicate (n - k) 32) (take_all n t (omega (arith, long, size, same)))
    ∙ ap (λ j. t ++ replicate j 32) (omega (arith, long, same))
