-- Which programs are too large.
use Rattle.std.specs.Prelude.{ℕ, nat_lt, if◌then◌else◌, List, [], ◌∷◌, Option, Some, None}
use Rattle.syntax_lexer.specs.declared.token.Position.{Position}
use Rattle.syntax_lexer.specs.declared.fault.SourceFault.{SourceFault}
use Rattle.syntax_lexer.specs.FaultNumbers.{routine_too_large, story_too_large, tables_too_large}
use Rattle.zcore.specs.declared.header.Version.{Version}
use Rattle.zcore.specs.declared.header.Version.TheVariants as versions
use Rattle.zcore.specs.Layout.{greatest_word}

-- what a source may weigh
abbrev pub greatest_weight : Version → ℕ
greatest_weight versions.V5 = 190000
greatest_weight versions.V8 = 450000

-- what a routine may weigh
abbrev pub greatest_routine_weight : ℕ
greatest_routine_weight = 32000

abbrev pub fault : ℕ → ℕ → SourceFault
fault number line = record { number = number; line = line }

-- Of some routines, whose weights and whose names' positions are told: the position of the first that weighs more.
abbrev pub first_heavy : {R : Type 0} → (R → ℕ) → (R → Position) → List R → Option Position
first_heavy weight name [] = None
first_heavy weight name (r ∷ rs) =
    if nat_lt greatest_routine_weight (weight r) then Some (name r) else first_heavy weight name rs

abbrev pub heavy_fault : Option Position → Option SourceFault
heavy_fault None = None
heavy_fault (Some p) = Some (fault routine_too_large p.line)

-- Of a source whose parts before the routines end at a place, which weighs so much, and whose first routine that is too
-- heavy stands at a position: E30 where these parts are too large, else E31 where the source is, else E32.
abbrev pub size_fault : Version → ℕ → ℕ → Option Position → Option SourceFault
size_fault version place weight heavy =
    if nat_lt greatest_word place then Some (fault tables_too_large 0)
    else (if nat_lt (greatest_weight version) weight then Some (fault story_too_large 0)
    else heavy_fault heavy)
