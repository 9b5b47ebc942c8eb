-- What the code holds while it joins.
use Rattle.std.specs.Prelude.{◌≡◌, ◌<◌, ◌≤◌, ◌+◌, ◌++◌, ◌∷◌, [], ℕ, List, length, take, drop}
use Rattle.derive_joined.specs.declared.joiner.Joiner.{Joiner}
use Rattle.derive_joined.specs.declared.mode.Mode.{Mode}
use Rattle.derive_joined.specs.declared.mode.Mode.TheVariants as m
use Rattle.derive_joined.specs.Joined.{State, step, joined_from}

abbrev pub state_of : Joiner → State
state_of j = record { mode = j.mode; held = j.held.items; ends = j.ends }

-- one byte more is joined
pub record Joins (old new : Joiner) (b : ℕ) (bs : List ℕ) : Type 0 where
  pub writes : new.text.items ≡ old.text.items ++ (step (state_of old) b bs).0
  pub moves : state_of new ≡ (step (state_of old) b bs).1

-- nothing is still to be written
abbrev pub inside : Mode → ℕ → State
inside mode ends = record { mode = mode; held = []; ends = ends }

-- a byte is written, and nothing else changes
abbrev pub Keeps : State → ℕ → Type 0
Keeps s b = (bs : List ℕ) → step s b bs ≡ (b ∷ [], s)

-- a byte of a text is written, after what is held, and the text goes on
abbrev pub Writes : ℕ → Type 0
Writes b = (held : List ℕ) (ends : ℕ) (bs : List ℕ)
    → step (record { mode = m.Text; held = held; ends = ends }) b bs ≡ (held ++ b ∷ [], inside m.Text ends)

-- so many bytes at the front are written, and nothing else changes
abbrev pub Stays : State → List ℕ → ℕ → Type 0
Stays s bs n = joined_from s bs ≡ take n bs ++ joined_from s (drop n bs)

-- so many bytes at the front are joined
pub record Advances (old new : Joiner) (bs : List ℕ) (n : ℕ) : Type 0 where
  pub some : 0 < n
  pub within : n ≤ length bs
  pub ends : new.ends ≤ old.ends + n
  pub joins : new.text.items ++ joined_from (state_of new) (drop n bs)
      ≡ old.text.items ++ joined_from (state_of old) bs
