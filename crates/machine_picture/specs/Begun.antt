-- A character of a text as far as it has been read.
use Rattle.std.specs.Prelude.{◌≡◌, ◌≤◌, ◌<◌}
use Rattle.zcore_standard.specs.declared.streams.Begun.{Begun}

-- it has at most two bytes more, and no more bits than leave room for those
pub record IsBegun (begun : Begun) : Type 0 where
  pub few : begun.more ≤ 2
  pub whole : begun.bits < 65536
  pub one : 1 ≤ begun.more → begun.bits < 1024
  pub two : begun.more ≡ 2 → begun.bits < 16
