-- What a source becomes whose texts go on over several lines.
use Rattle.std.specs.Prelude.{◌==◌, ◌||◌, ◌&&◌, ◌+◌, ℕ, Bool, List, [], ◌∷◌, ◌++◌, if◌then◌else◌}
use Rattle.std.specs.Prelude.{replicate}
use Rattle.derive_joined.specs.declared.mode.Mode.{Mode}
use Rattle.derive_joined.specs.declared.mode.Mode.TheVariants as m
use Rattle.derive_joined.specs.Directives.{begins_directive}

-- where a byte stands, what is still to be written before the next byte of a text, and how many line ends the text has
pub record State : Type 0 where
  pub mode : Mode
  pub held : List ℕ
  pub ends : ℕ

abbrev pub outside : Mode → State
outside mode = record { mode = mode; held = []; ends = 0 }

-- what follows a byte of code: a comment, a text, a character or word between quotes, or the sign `.`
abbrev pub after_code : ℕ → Mode
after_code b =
    if b == 33 then m.Comment
    else if b == 34 then m.Text
    else if b == 39 then m.Quote
    else if b == 46 then m.Dot
    else m.Code

abbrev pub is_blank : ℕ → Bool
is_blank b = b == 32 || (b == 9 || b == 13)

-- what a line end in a text is, after its last byte that is no blank: a space, but nothing after `^`
abbrev pub held_at_end : Mode → List ℕ → List ℕ
held_at_end m.Caret held = []
held_at_end m.Broken held = held
held_at_end _ held = 32 ∷ []

-- blanks beside a line end are left out
abbrev pub held_at_blank : Mode → List ℕ → ℕ → List ℕ
held_at_blank m.Broken held b = held
held_at_blank _ held b = held ++ b ∷ []

-- what follows another byte of a text
abbrev pub after_inside : ℕ → Mode
after_inside b = if b == 94 then m.Caret else m.Text

-- the bytes that are written at a byte, and the state after it
abbrev pub Step : Type 0
Step = List ℕ × State

abbrev pub text_step : State → ℕ → Step
text_step s b =
    if b == 34 then (s.held ++ 34 ∷ replicate s.ends 10, outside m.Code)
    else if b == 10 then ([], record { mode = m.Broken; held = held_at_end s.mode s.held; ends = s.ends + 1 })
    else if is_blank b then ([], record { mode = s.mode; held = held_at_blank s.mode s.held b; ends = s.ends })
    else (s.held ++ b ∷ [], record { mode = after_inside b; held = []; ends = s.ends })

-- a byte, and those after it
abbrev pub step_in : Mode → State → ℕ → List ℕ → Step
step_in m.Code s b bs =
    if b == 35 && begins_directive bs then (32 ∷ [], outside m.Code) else (b ∷ [], outside (after_code b))
step_in m.Dot s b bs = (b ∷ [], outside (after_code b))
step_in m.Comment s b bs = (b ∷ [], outside (if b == 10 then m.Code else m.Comment))
step_in m.Quote s b bs = (b ∷ [], outside (if b == 39 || b == 10 then m.Code else m.Quote))
step_in _ s b bs = text_step s b

abbrev pub step : State → ℕ → List ℕ → Step
step s b bs = step_in s.mode s b bs

abbrev pub joined_from : State → List ℕ → List ℕ
joined_from s [] = []
joined_from s (b ∷ bs) = (step s b bs).0 ++ joined_from (step s b bs).1 bs

abbrev pub joined : List ℕ → List ℕ
joined source = joined_from (outside m.Code) source
