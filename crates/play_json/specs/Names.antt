-- The words by which an object names a reply, a place, and what the story waits for.
use Rattle.std.specs.Prelude.{ℕ, Bool, true, false, List, codes}
use Rattle.zcore.specs.declared.place.Place.{Place}
use Rattle.zcore.specs.declared.place.Place.TheVariants as places
use Rattle.zcore.specs.declared.place.Limit.{Limit}
use Rattle.zcore.specs.declared.place.Limit.TheVariants as limits
use Rattle.zcore.specs.declared.place.Fault.{Fault}
use Rattle.zcore.specs.declared.place.Fault.TheVariants as faults
use Rattle.play_json.specs.declared.awaited.Awaited.{Awaited}
use Rattle.play_json.specs.declared.awaited.Awaited.TheVariants.{Line, Key, Name, Nothing}
use Rattle.play_json.specs.declared.kind.Kind.{Kind}
use Rattle.play_json.specs.declared.kind.Kind.TheVariants as kinds

abbrev pub kind_name : Kind → List ℕ
kind_name kinds.Opening = codes "opening"
kind_name kinds.Taken = codes "taken"
kind_name kinds.Undone = codes "undone"
kind_name kinds.Redone = codes "redone"
kind_name kinds.NothingToUndo = codes "nothing to undo"
kind_name kinds.NothingToRedo = codes "nothing to redo"
kind_name kinds.Refused = codes "refused"
kind_name kinds.TooLong = codes "refused"
kind_name kinds.NoBytes = codes "refused"
kind_name kinds.NoMark = codes "refused"
kind_name kinds.GivenUp = codes "refused"
kind_name kinds.Unknown = codes "unknown"
kind_name kinds.Over = codes "over"
kind_name kinds.NoMemory = codes "no memory"
kind_name kinds.Status = codes "status"
kind_name kinds.Globals = codes "globals"
kind_name kinds.Objects = codes "objects"
kind_name kinds.Memory = codes "memory"
kind_name kinds.Lines = codes "lines"
kind_name kinds.Mark = codes "mark"
kind_name kinds.Gone = codes "gone"
kind_name kinds.Dictionary = codes "dictionary"
kind_name kinds.Hash = codes "hash"

-- a story that waits waits for a line or a key, or asks for a name
abbrev pub awaited_at : Bool → Bool → Bool → Awaited
awaited_at is_asking is_key false = Nothing
awaited_at true is_key true = Name
awaited_at false false true = Line
awaited_at false true true = Key

abbrev pub awaited_name : Awaited → List ℕ
awaited_name Line = codes "line"
awaited_name Key = codes "key"
awaited_name Name = codes "name"
awaited_name Nothing = codes "nothing"

abbrev pub limit_words : Limit → List ℕ
limit_words limits.Fuel = codes "limit turn too long"
limit_words limits.Calls = codes "limit calls too deep"
limit_words limits.Text = codes "limit text too long"

abbrev pub fault_words : Fault → List ℕ
fault_words faults.Opcode = codes "fault M1"
fault_words faults.Code = codes "fault M2"
fault_words faults.Read = codes "fault M3"
fault_words faults.Write = codes "fault M4"
fault_words faults.StackEmpty = codes "fault M5"
fault_words faults.StackFull = codes "fault M6"
fault_words faults.Division = codes "fault M7"
fault_words faults.Object = codes "fault M8"
fault_words faults.Property = codes "fault M9"
fault_words faults.Character = codes "fault M10"
fault_words faults.Return = codes "fault M11"
fault_words faults.Buffer = codes "fault M12"

abbrev pub place_words : Place → List ℕ
place_words places.Waiting = codes "waiting"
place_words places.Quit = codes "quit"
place_words (places.Limit limit) = limit_words limit
place_words (places.Fault fault) = fault_words fault
