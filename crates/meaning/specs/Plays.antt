-- What it is for a story to play a program.
use Rattle.std.specs.Prelude.{◌≡◌, ◌≢◌, ℕ, List, map}
use Rattle.zcore.specs.declared.place.Fault.{Fault}
use Rattle.zcore.specs.declared.place.Place.TheVariants as places
use Rattle.zcore.specs.Turn.{Whole, plays, last_place}
use Rattle.meaning.specs.Resolved.{ProgramOf}
use Rattle.meaning.specs.Meaning.{meaning}

-- the machine's turns on a story print what a program means, and end where it ends, which is no machine fault
pub record Plays (story : List ℕ) (p : ProgramOf) (full : ℕ) (lines : List (List ℕ)) : Type 0 where
  pub texts : map (λ (w : Whole). w.text) (plays story full lines) ≡ (meaning p full lines).texts
  pub place : last_place (plays story full lines) ≡ (meaning p full lines).place
  pub no_fault : (fault : Fault) → (meaning p full lines).place ≢ places.Fault fault
