-- Names of saved games. A story that asks for one is given what became of the file.
use Rattle.std.specs.Prelude.{◌==◌, ◌&&◌, ◌||◌, ◌++◌, ℕ, nat_eq, nat_le, Bool, false, if◌then◌else◌, not}
use Rattle.std.specs.Prelude.{codes, List, [], ◌∷◌, length, Option, Some, None}
use Rattle.std.specs.List.{list_all, ends_with}
use Rattle.zcore_standard.specs.Saving.{no_name}
use Rattle.zcore_standard.specs.declared.save_form.Purpose.{Purpose}

-- A name has 1 to 60 letters, digits, hyphens, underscores and dots, and does not begin with a dot.

abbrev pub is_name_byte : ℕ → Bool
is_name_byte byte =
    (nat_le 65 byte && nat_le byte 90) || (nat_le 97 byte && nat_le byte 122) || (nat_le 48 byte && nat_le byte 57)
    || ((byte == 45) || (byte == 95) || (byte == 46))

abbrev pub are_name_bytes : List ℕ → Bool
are_name_bytes line = list_all is_name_byte line

abbrev pub is_name : List ℕ → Bool
is_name [] = false
is_name (b ∷ bs) = nat_le (length (b ∷ bs)) 60 && not (b == 46) && are_name_bytes (b ∷ bs)

abbrev pub ending : List ℕ
ending = codes ".qzl"

-- the name of the file: the ending is added unless it is there
abbrev pub file_name : List ℕ → List ℕ
file_name name = if ends_with nat_eq name ending then name else name ++ ending

-- What the story is given for a name: nothing for an empty line, the number of a reason where it is no name, and else
-- what the outside answers.
abbrev pub given_name : List ℕ → List ℕ → List ℕ
given_name [] answer = []
given_name (b ∷ bs) answer = if is_name (b ∷ bs) then answer else no_name ∷ []

-- what it is given for a line, by what it asks for
abbrev pub given_after : Option Purpose → List ℕ → List ℕ → List ℕ
given_after None line answer = line
given_after (Some purpose) line answer = given_name line answer
