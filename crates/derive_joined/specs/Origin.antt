-- Where a byte of the joined source comes from.
use Rattle.std.specs.Prelude.{◌+◌, ◌-◌, ℕ, nat_lt, List, [], ◌∷◌, length, Option, Some, None, if◌then◌else◌}
use Rattle.syntax_lexer.specs.declared.fault.PlacedFault.{PlacedFault}
use Rattle.derive_joined.specs.declared.mode.Mode.TheVariants as m
use Rattle.derive_joined.specs.Joined.{State, outside, step}

-- the offset of the byte at which the byte of an offset is written; past the end, that of the end
abbrev pub origin_from : State → ℕ → ℕ → List ℕ → ℕ
origin_from s at offset [] = at
origin_from s at offset (b ∷ bs) =
    if nat_lt offset (length (step s b bs).0) then at
    else origin_from (step s b bs).1 (at + 1) (offset - length (step s b bs).0) bs

abbrev pub origin : List ℕ → ℕ → ℕ
origin source offset = origin_from (outside m.Code) 0 offset source

-- the offset of a fault in the source that was written
abbrev pub offset_in : List ℕ → Option ℕ → Option ℕ
offset_in source None = None
offset_in source (Some offset) = Some (origin source offset)

abbrev pub fault_in : List ℕ → PlacedFault → PlacedFault
fault_in source fault = record { fault = fault.fault; offset = offset_in source fault.offset }
