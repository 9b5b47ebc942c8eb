-- What is added to a writer until that fails.
use Rattle.std.specs.Prelude.{◌≡◌, ℕ, Bool, true, false, List, Option, Some, None}
use Rattle.std.specs.Io.KnownBytes.{Appends}

-- Of a writer before and after: the bytes were added, all of them; or it failed now and there is none any more. Where
-- there was none, there is none for good.
abbrev pub IsAdded : {W : Type 0} → (W → Option (List ℕ)) → List ℕ → Option W → Option W → Bool → Type 0
IsAdded known bytes (Some before) (Some after) failed = Appends (known before) (known after) bytes × (failed ≡ false)
IsAdded known bytes (Some before) None failed = failed ≡ true
IsAdded known bytes None (Some after) failed = ⊥
IsAdded known bytes None None failed = failed ≡ false
