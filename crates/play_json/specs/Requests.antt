-- What a line asks of the player, to the byte.
use Rattle.std.specs.Prelude.{ℕ, ◌+◌, ◌-◌, ◌*◌, Bool, ◌&&◌, if◌then◌else◌, List, [], ◌∷◌, bytes_eq, codes, drop, length}
use Rattle.std.specs.Prelude.{nat_eq, nat_le, nat_lt, Option, None, Some, option_and_then, ◌==◌}
use Rattle.std.specs.List.{starts_with}
use Rattle.play_json.specs.declared.kind.Kind.{Kind}
use Rattle.play_json.specs.declared.kind.Kind.TheVariants as kinds
use Rattle.play_json.specs.declared.request.Request.{Request}
use Rattle.play_json.specs.declared.request.Request.TheVariants.{Undo, Redo, Show, Mark, Go, Turn, Unknown}
use Rattle.play_json.specs.declared.request.Topic.{Topic}
use Rattle.play_json.specs.declared.request.Topic.TheVariants as topics

-- the kind of the reply that shows a topic
abbrev pub kind_of : Topic → Kind
kind_of topics.Status = kinds.Status
kind_of topics.Globals = kinds.Globals
kind_of topics.Objects = kinds.Objects
kind_of topics.Lines = kinds.Lines
kind_of topics.Memory = kinds.Memory
kind_of topics.Dictionary = kinds.Dictionary
kind_of topics.Hash = kinds.Hash

-- a command to the player: `/` and something after it
abbrev pub is_command : List ℕ → Bool
is_command line = nat_lt 1 (length line) && starts_with nat_eq line (codes "/")

-- what a line asks for that takes no turn back and does none again
abbrev pub show_in : List ℕ → Request
show_in line =
    if bytes_eq line (codes "/status") then Show topics.Status
    else (if bytes_eq line (codes "/globals") then Show topics.Globals
    else (if bytes_eq line (codes "/objects") then Show topics.Objects
    else (if bytes_eq line (codes "/lines") then Show topics.Lines
    else (if bytes_eq line (codes "/dictionary") then Show topics.Dictionary
    else (if bytes_eq line (codes "/hash") then Show topics.Hash
    else (if starts_with nat_eq line (codes "/memory ") then Show topics.Memory
    else (if is_command line then Unknown
    else Turn)))))))

abbrev pub request_of : List ℕ → Request
request_of line =
    if bytes_eq line (codes "/undo") then Undo
    else (if bytes_eq line (codes "/redo") then Redo
    else (if bytes_eq line (codes "/mark") then Mark
    else (if starts_with nat_eq line (codes "/go ") then Go
    else show_in line)))

-- a number with one digit more: one below 10,000,000,000
abbrev pub next_number : ℕ → ℕ → Option ℕ
next_number number digit =
    if nat_lt number 1000000000 && nat_le 48 digit && nat_le digit 57 then Some (number * 10 + (digit - 48)) else None

-- a number that goes on with these digits
abbrev pub number_from : ℕ → List ℕ → Option ℕ
number_from number [] = Some number
number_from number (digit ∷ digits) =
    option_and_then (λ next. number_from next digits) (next_number number digit)

abbrev pub number_of : List ℕ → Option ℕ
number_of digits = if length digits == 0 then None else number_from 0 digits

-- the number of the mark to which a line asks to go: what is after its first four bytes, `/go `
abbrev pub mark_in : List ℕ → Option ℕ
mark_in line = if nat_lt (length line) 4 then None else number_of (drop 4 line)
