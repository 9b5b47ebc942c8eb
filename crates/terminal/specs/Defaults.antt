-- What is done by default at a terminal, and nowhere else.
use Rattle.std.specs.Prelude.{◌≡◌, ◌&&◌, ◌||◌, Bool, not, is_some, ⊤}
use Rattle.terminal.specs.declared.play.words.Asked.{Asked}
use Rattle.terminal.specs.declared.play.words.Asked.TheVariants.{Explain, Play, Check}
use Rattle.terminal.specs.declared.play.words.Words.{Words}

-- it is asked for, or the user is at a terminal and has not declined it
abbrev pub is_chosen : Bool → Bool → Bool → Bool
is_chosen is_asked is_declined is_seen = is_asked || (is_seen && not is_declined)

-- the words have a seed, and so the mode of the whole Standard, exactly where that is chosen
abbrev pub IsInMode : Bool → Words → Type 0
IsInMode is_seen words = is_some words.seed ≡ is_chosen words.is_given.standard words.is_given.profile is_seen

-- where a story is to be played
abbrev pub IsAskedInMode : Bool → Asked → Type 0
IsAskedInMode is_seen (Explain _) = ⊤
IsAskedInMode is_seen (Play words) = IsInMode is_seen words
IsAskedInMode is_seen (Check _) = ⊤
