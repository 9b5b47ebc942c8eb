-- What loading fixes for all turns of the Standard's machine.
use Rattle.std.specs.Prelude.{ℕ, Bool, List, Option}
use Rattle.zcore.specs.declared.standard_state.StandardState.{StandardState}

pub record Loaded : Type 0 where
  -- dynamic memory as `restart` restores it
  pub dynamic : List ℕ
  -- the window and the dice as the opening and `restart` find them
  pub dice : StandardState
  -- whether the file has the sum that its header states, as `verify` tells
  pub is_sum_right : Bool
  -- the characters of the ZSCII codes from 155 on, as Unicode (3.8.5)
  pub characters : List ℕ
  -- the three alphabets of the story's own, of 26 ZSCII codes each, if it has them (3.5.5)
  pub own_alphabets : Option (List ℕ)
  -- where the player has save files: dynamic memory as the story's file has it, from which they tell what is different
  pub saves : Option (List ℕ)
  -- whether the player writes a transcript (stream 2)
  pub has_transcript : Bool

-- window 0, and the dice of a seed
abbrev pub seeded : ℕ → StandardState
seeded seed = record { window = 0; random = seed; interval = 0; counter = 0 }
