-- The status line of versions 1 to 3 (Z-Machine Standards Document 1.1, section 8.2). It shows an object and two numbers,
-- which the story keeps in its first three globals. So it is made of the state alone, and can be asked for whenever the
-- story waits.
use Rattle.std.specs.Prelude.{◌==◌, ◌&&◌, ◌-◌, ◌/◌, ◌%◌, ℕ, nat_lt, Bool, if◌then◌else◌, List, [], ◌∷◌, ◌++◌}
use Rattle.std.specs.Prelude.{codes, map, replicate, slice_index}
use Rattle.std.specs.List.{count_by}
use Rattle.ztext.specs.Bytes.{word_at}
use Rattle.zcore.specs.declared.next.Next.{Next}
use Rattle.zcore.specs.Arithmetic.{signed_text}
use Rattle.zcore.specs.Parts.{global_address}
use Rattle.zcore.specs.State.{State, Out, done, halt}
use Rattle.zcore_standard.specs.Windows.{begins_character, is_new_line}
use Rattle.zcore_versions.specs.declared.version.StoryVersion.{StoryVersion}
use Rattle.zcore_versions.specs.SmallObjects.{print_object}
use Rattle.zcore_versions.specs.Versions.{Story, is_small}

-- the value of a global: variables 16, 17 and 18 are the first three (8.2.2)
abbrev pub global_in : List ℕ → ℕ → ℕ
global_in memory variable = word_at memory (global_address memory variable)

-- The name

-- what was printed, unless a fault or a limit ended it
abbrev pub printed : {A : Type 0} → Out A → List ℕ
printed (done a s) = s.text
printed (halt place s) = []

-- between turns no address and no fuel matters to what is printed
abbrev pub nowhere : Next
nowhere = record { program_counter = 0; fuel = 0 }

-- the short name of an object; none where there is no such object, or its text cannot be read
unfoldable pub short_name : Story → State → ℕ → List ℕ
short_name story s object = printed (print_object story nowhere 0 object (record s { text = [] }))

-- a new line as a space
abbrev pub joined : ℕ → ℕ
joined byte = if is_new_line byte then 32 else byte

abbrev pub on_one_line : List ℕ → List ℕ
on_one_line text = map joined text

-- The line

-- how many spaces fill a text up to so many characters; one at least
abbrev pub spaces_after : List ℕ → ℕ → ℕ
spaces_after text width =
    if nat_lt (count_by begins_character text) width then width - count_by begins_character text else 1

unfoldable pub filled : ℕ → List ℕ → List ℕ
filled width text = text ++ replicate (spaces_after text width) 32

-- the columns in which score or time, and the number of moves, begin
abbrev pub second_column : ℕ
second_column = 50

abbrev pub third_column : ℕ
third_column = 66

-- the place: global 16 (8.2.2.1)
unfoldable pub place_shown : Story → State → List ℕ
place_shown story s = filled second_column (32 ∷ on_one_line (short_name story s (global_in s.memory 16)))

-- the score and the number of moves: globals 17 and 18 (8.2.3.1)
unfoldable pub with_score : List ℕ → List ℕ → List ℕ
with_score memory place =
    filled third_column (place ++ codes "Score: " ++ signed_text (global_in memory 17))
    ++ codes "Moves: " ++ signed_text (global_in memory 18)

-- minutes have two digits
unfoldable pub minutes_text : ℕ → List ℕ
minutes_text minutes = if nat_lt minutes 10 then 48 ∷ signed_text minutes else signed_text minutes

-- the time of day: hours and minutes (8.2.3.2)
unfoldable pub with_time : List ℕ → List ℕ → List ℕ
with_time memory place =
    place ++ codes "Time: " ++ signed_text (global_in memory 17) ++ 58 ∷ minutes_text (global_in memory 18)

-- version 3 tells by bit 1 of Flags 1 that it shows a time (8.2.3)
abbrev pub shows_time : StoryVersion → List ℕ → Bool
shows_time version memory = (version.number == 3) && (slice_index memory 1 / 2 % 2 == 1)

abbrev pub small_line : Story → State → List ℕ
small_line story s =
    if shows_time story.version s.memory then with_time s.memory (place_shown story s)
    else with_score s.memory (place_shown story s)

-- the status line; later versions draw theirs themselves
unfoldable pub status_line : Story → State → List ℕ
status_line story s = if is_small story.version then small_line story s else []
