-- A character of a text as far as it has been read.
use Rattle.std.specs.Prelude.{◌≡◌, ◌≢◌, ◌≤◌, ◌<◌, ℕ, List, [], ◌∷◌, ◌++◌}
use Rattle.zcore_standard.specs.declared.streams.Begun.{Begun}
use Rattle.zcore_standard.specs.Streams.{between, zscii_of}

-- it has at most two bytes more, and no more bits than leave room for those
pub record IsBegun (begun : Begun) : Type 0 where
  pub few : begun.more ≤ 2
  pub whole : begun.bits < 65536
  pub one : 1 ≤ begun.more → begun.bits < 1024
  pub two : begun.more ≡ 2 → begun.bits < 16

-- a character that is whole was added to a text by its code, and none has begun; another goes on
pub record AddsWhole (extra : List ℕ) (begun : Begun) (old new : List ℕ) (next : Begun) : Type 0 where
  pub whole : begun.more ≡ 0 → (new ≡ old ++ zscii_of extra begun.bits ∷ []) × (next ≡ between)
  pub parted : begun.more ≢ 0 → (new ≡ old) × (next ≡ begun)
