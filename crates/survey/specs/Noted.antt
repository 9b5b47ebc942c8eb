-- What is known of the instructions that were found and the machine does not play.
use Rattle.std.specs.Prelude.{◌≡◌, List, Any}
use Rattle.zcore_standard.specs.declared.opcode.Opcode.{Opcode}
use Rattle.survey.specs.declared.refusal.Refusal.{Refusal}
use Rattle.survey.specs.declared.unplayed.Unplayed.{Unplayed}

-- an opcode is among them, with what the machine refuses of it
abbrev pub IsNoted : List Unplayed → Opcode → Refusal → Type 0
IsNoted found opcode refusal = Any (λ x. (x.opcode ≡ opcode) × (x.refusal ≡ refusal)) found
