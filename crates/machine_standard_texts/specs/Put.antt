-- What printing makes of the text of a turn, whatever the state around it is.
use Rattle.std.specs.Prelude.{◌≡◌, ◌+◌, ◌≤◌, ℕ, List, ◌++◌, length, take, Option, Some, None}
use Rattle.zcore.specs.declared.place.Limit.TheVariants as limits
use Rattle.zcore.specs.declared.place.Place.TheVariants as places
use Rattle.zcore.specs.Layout.{text_limit}
use Rattle.zcore.specs.State.{State, Out, done, halt}
use Rattle.zcore_standard.specs.Characters.{print_codes}
use Rattle.machine_standard_texts.specs.declared.characters.Halt.{Halt}
use Rattle.machine_standard_texts.specs.declared.characters.Halt.TheVariants as halts

-- a text is after what was there, and the turn has printed no more than it may
pub record Extends (start : ℕ) (was now : List ℕ) : Type 0 where
  pub longer : length was ≤ length now
  pub stays : take (length was) now ≡ was
  pub within : length now ≤ start + text_limit

abbrev pub PrintsBy : Option Halt → List ℕ → List ℕ → (State → Out (Unit {0})) → Type 0
PrintsBy None was now f = (s : State) → f (record s { text = was }) ≡ done tt (record s { text = now })
PrintsBy (Some halts.Full) was now f =
    (s : State) → f (record s { text = was }) ≡ halt (places.Limit limits.Text) (record s { text = now })
PrintsBy (Some halts.Memory) was now f = Unit {0}

-- what was printed, up to the end or to where it halted, is what the definition prints
pub record Prints (halted : Option Halt) (was now : List ℕ) (f : State → Out (Unit {0})) : Type 0 where
  pub by : PrintsBy halted was now f

-- after codes that were printed, up to the end or to where they halted, so were these
pub record PrintsOn (characters : List ℕ) (before after : Option Halt) (was now codes : List ℕ) : Type 0 where
  pub on : (first : List ℕ) (printed : List ℕ) → Prints before first was (print_codes characters printed)
      → Prints after first now (print_codes characters (printed ++ codes))
