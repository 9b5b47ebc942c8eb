-- The bytes of an item.
use Rattle.std.specs.Prelude.{ℕ, List, [], ◌++◌, map}
use Rattle.std.specs.List.{filter}
use Rattle.ztext.specs.Alphabets.{is_printable}
use Rattle.ztext.specs.Abbreviations.{encoded_with}
use Rattle.code_drafts.specs.Items.{Item}
use Rattle.code_drafts.specs.Items as items
use Rattle.code_drafts.specs.Addresses.{Addresses, Sizes}
use Rattle.code_drafts.specs.Bytes.{bytes_of_all}
use Rattle.meaning.specs.Places.{machine_character}
use Rattle.code.specs.ItemCode.{item_code}

-- the text that follows an instruction `print`, with these abbreviations; what cannot be printed is left out, and no
-- accepted program has it
abbrev pub text_bytes : List (List ℕ) → Item → List ℕ
text_bytes abbreviations (items.print_text bytes) =
    encoded_with abbreviations (filter is_printable (map machine_character bytes))
text_bytes abbreviations _ = []

-- an item of a program of these sizes, whose branch or jump has this offset
abbrev pub item_bytes : Sizes → Addresses → ℕ → Item → List ℕ
item_bytes sizes a offset item = bytes_of_all (item_code sizes a offset item) ++ text_bytes sizes.abbreviations item
