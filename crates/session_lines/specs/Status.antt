-- The exit status of the player.
use Rattle.std.specs.Prelude.{ℕ}
use Rattle.zcore.specs.declared.place.Place.{Place}
use Rattle.zcore.specs.declared.place.Place.TheVariants.{Waiting, Quit, Limit, Fault}

-- 0 where the story waits or has quit, 3 where a limit stopped it, 4 where a fault did
abbrev pub status_of : Place → ℕ
status_of Waiting = 0
status_of Quit = 0
status_of (Limit limit) = 3
status_of (Fault fault) = 4
