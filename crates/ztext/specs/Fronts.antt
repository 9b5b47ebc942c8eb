-- The front of a text: what is read of it where only so many characters are wanted.
use Rattle.std.specs.Prelude.{ℕ, List, ◌++◌, take, Result, Ok}
use Rattle.ztext.specs.Results.{◌>>=◌}
use Rattle.ztext.specs.Reading.{Cause}

-- the first characters of a text, `most` at most, and the address after the whole of it
abbrev pub front_of : ℕ → Result (List ℕ × ℕ) Cause → Result (List ℕ × ℕ) Cause
front_of most read = read >>= λ x. Ok (take most x.0, x.1)

-- characters, then those of a text and the address after it
abbrev pub after_text : List ℕ → Result (List ℕ × ℕ) Cause → Result (List ℕ × ℕ) Cause
after_text text read = read >>= λ x. Ok (text ++ x.0, x.1)
