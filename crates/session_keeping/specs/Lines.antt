-- How the lines of play are kept: a mark before each line.
use Rattle.std.specs.Prelude.{◌≡◌, ℕ, Bool, true, false, not, List, [], ◌∷◌, ◌++◌, ◌==◌, if◌then◌else◌, ⊤}
use Rattle.std.specs.Prelude.{Option, Some, None, option_map, Result, Ok, Err}
use Rattle.std.specs.Global.{Vec}
use Rattle.session_keeping.specs.declared.lines.LinesFault.{LinesFault}
use Rattle.session_keeping.specs.declared.lines.LinesFault.TheVariants.{Unmarked, Memory}

-- the mark before a line that was typed: >
abbrev pub typed_mark : ℕ
typed_mark = 0x3E

-- a line is begun after each byte but the end of a line
abbrev pub begins_line : ℕ → Bool
begins_line byte = not (byte == 10)

abbrev pub is_begun_after : Bool → List ℕ → Bool
is_begun_after begun [] = begun
is_begun_after begun (b ∷ bs) = is_begun_after (begins_line b) bs

-- a byte with the mark before it, where it begins a line
abbrev pub mark_byte : Bool → ℕ → List ℕ
mark_byte true b = b ∷ []
mark_byte false b = typed_mark ∷ b ∷ []

-- bytes that were typed with a mark before each line, of which the first was begun before them or not
abbrev pub marked : Bool → List ℕ → List ℕ
marked begun [] = []
marked begun (b ∷ bs) = mark_byte begun b ++ marked (begins_line b) bs

-- what is added to a file for bytes that were typed, or at their end for the line that is begun
abbrev pub added : Bool → List ℕ → Bool → List ℕ
added begun typed false = marked begun typed
added true typed true = 10 ∷ []
added false typed true = []

-- the mark before what a story was given for a name: <
abbrev pub answer_mark : ℕ
answer_mark = 0x3C

-- the bytes that were typed, where each line has its mark; one is begun or not, and is an answer or not
abbrev pub unmarked_in : Bool → Bool → List ℕ → Option (List ℕ)
unmarked_in begun answer [] = Some []
unmarked_in true true (b ∷ bs) = unmarked_in (begins_line b) true bs
unmarked_in true false (b ∷ bs) = option_map (λ typed. b ∷ typed) (unmarked_in (begins_line b) false bs)
unmarked_in false answer (b ∷ bs) =
    if b == typed_mark then unmarked_in true false bs
    else (if b == answer_mark then unmarked_in true true bs
    else None)

abbrev pub unmarked : Bool → List ℕ → Option (List ℕ)
unmarked begun bytes = unmarked_in begun false bytes

-- bytes were added to others with their marks, and a line is begun then or not
abbrev pub IsMarked : Bool → List ℕ → List ℕ → List ℕ → Bool → Type 0
IsMarked begun typed before after now = (after ≡ before ++ marked begun typed) × (now ≡ is_begun_after begun typed)

abbrev pub IsUnmarked : Option (List ℕ) → Result (Vec ℕ) LinesFault → Type 0
IsUnmarked (Some bytes) (Ok typed) = typed.items ≡ bytes
IsUnmarked None (Err (Unmarked number)) = ⊤
IsUnmarked typed (Err Memory) = ⊤
IsUnmarked _ _ = ⊥
