-- What loading a story comes to.
use Rattle.std.specs.Prelude.{◌≡◌, ℕ, List, [], Result, Ok, Err}
use Rattle.zcore.specs.Header.{Reads}
use Rattle.zcore.specs.Turn.{first_state}
use Rattle.zcore.specs.declared.header.Header.{Header}
use Rattle.machine_frames.specs.Contents.{Contents}
use Rattle.machine_frames.specs.States.{state_of, IsStoreOf}
use Rattle.machine.specs.declared.turn.Machine.{Machine}
use Rattle.machine.specs.declared.load.LoadFault.{LoadFault}
use Rattle.machine.specs.declared.load.LoadFault.TheVariants as faults

-- the machine has the story's header, and the store stands for the story as it begins
pub record IsLoaded (story : List ℕ) (machine : Machine) (contents : Contents) : Type 0 where
  pub header : Reads story (Ok machine.header)
  pub store : IsStoreOf machine.header contents
  pub state : state_of contents [] ≡ first_state story

-- a header that is not read, or memory that is refused for a story whose header is read
abbrev pub Loads : List ℕ → Result (Machine × Contents) LoadFault → Type 0
Loads story (Ok x) = IsLoaded story x.0 x.1
Loads story (Err (faults.Header fault)) = Reads story (Err fault)
Loads story (Err faults.Memory) = (header : Header) × Reads story (Ok header)
