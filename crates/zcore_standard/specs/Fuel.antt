-- The fuel of operations on many bytes, so that fuel bounds the work of a turn.
use Rattle.std.specs.Prelude.{◌-◌, ◌/◌, ℕ, nat_le, if◌then◌else◌}
use Rattle.zcore.specs.declared.place.Limit.TheVariants as limits
use Rattle.zcore.specs.declared.place.Place.TheVariants as places
use Rattle.zcore.specs.State.{State, Out, done, halt}

-- The first 256 bytes cost nothing. Each 256 that follow cost a unit, and so does what is left of them.
abbrev pub units : ℕ → ℕ
units bytes = (bytes - 1) / 256

-- An operation spends the units of its bytes after its own faults are tested and before it does anything. Where they are
-- not there, the turn is too long.
unfoldable pub spend_for : ℕ → ℕ → State → Out ℕ
spend_for bytes fuel s =
    if nat_le (units bytes) fuel then done (fuel - units bytes) s else halt (places.Limit limits.Fuel) s
