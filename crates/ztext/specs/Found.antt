-- What the code's `Found` stands for.
use Rattle.std.specs.Prelude.{Option, Some, None}
use Rattle.ztext.specs.Abbreviations.{Found}
use Rattle.ztext.specs.declared.abbreviations.Found as declared_found

-- the abbreviation of the definitions that one of the code is
abbrev pub found_of : Option declared_found.Found → Option Found
found_of None = None
found_of (Some x) = Some (record { number = x.number; length = x.length })
