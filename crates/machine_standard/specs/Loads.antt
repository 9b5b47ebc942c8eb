-- What loading a story comes to.
use Rattle.std.specs.Prelude.{◌≡◌, ℕ, List, [], length, take, Option, IfSome, Result, Ok, Err}
use Rattle.zcore.specs.Header.{static_base_of}
use Rattle.zcore.specs.Turn.{first_state}
use Rattle.zcore_standard_loading.specs.declared.loading.LoadedStory.{LoadedStory}
use Rattle.zcore_standard_loading.specs.Loading.{ReadsFile, characters_of, own_alphabets_of, memory_for}
use Rattle.zcore_standard_loading.specs.Loading as loading
use Rattle.zcore_standard.specs.Loaded.{seeded}
use Rattle.zcore_standard_loading.specs.declared.options.StandardOptions.{StandardOptions}
use Rattle.zcore_versions.specs.Versions.{Story, versioned}
use Rattle.machine_frames.specs.Contents.{Contents, memory_of}
use Rattle.machine_frames.specs.States.{state_of, IsStoreOf}
pub use Rattle.machine_standard_steps.specs.Versions.{IsPlayedVersion}
use Rattle.machine_standard.specs.declared.load.StandardFault.{StandardFault}
use Rattle.machine_standard.specs.declared.load.StandardFault.TheVariants as faults
use Rattle.machine_standard.specs.declared.turn.StandardMachine.{StandardMachine}

-- the story that a machine plays: what loading fixes, and the version
abbrev pub story_of : StandardMachine → Story
story_of machine = versioned machine.loaded machine.version

-- where there are save files, they tell what is different from as many bytes as are dynamic in this memory
abbrev pub AreSaves : List ℕ → Option (List ℕ) → Type 0
AreSaves memory saves = IfSome saves (λ story. length story ≡ static_base_of memory)

-- a store that this machine plays: it is of the story with this header, and loading has kept its dynamic memory
pub record IsStoreFor (machine : StandardMachine) (contents : Contents) : Type 0 where
  pub store : IsStoreOf machine.header contents
  pub dynamic : length machine.loaded.dynamic ≡ static_base_of (memory_of contents)
  pub saves : AreSaves (memory_of contents) machine.loaded.saves
  pub version : IsPlayedVersion machine.version

-- a machine and a store that begin with this memory, and with these save files
pub record Begins (memory : List ℕ) (saves : Option (List ℕ)) (story : LoadedStory) (options : StandardOptions)
    (machine : StandardMachine) (contents : Contents) : Type 0 where
  pub header : machine.header ≡ story.header
  pub version : machine.version ≡ story.version
  pub loaded : machine.loaded ≡ record {
    dynamic = take (static_base_of memory) memory;
    dice = seeded options.seed;
    is_sum_right = story.is_sum_right;
    characters = characters_of memory;
    own_alphabets = own_alphabets_of memory;
    saves = saves;
    has_transcript = options.has_transcript;
  }
  pub store : IsStoreFor machine contents
  pub state : state_of contents [] ≡ first_state memory

-- the machine has what loading fixes, and the store stands for the story as it begins
pub record IsLoaded (file : List ℕ) (options : StandardOptions) (machine : StandardMachine)
    (contents : Contents) : Type 0 where
  pub story : LoadedStory
  pub read : ReadsFile options.capabilities file (Ok story)
  pub header : machine.header ≡ story.header
  pub played : story_of machine ≡ loading.story_of file options
  pub store : IsStoreFor machine contents
  pub state : state_of contents [] ≡ first_state (memory_for options.capabilities file)

-- a file that is refused, or memory that is refused for one which can be played
abbrev pub Loads : List ℕ → StandardOptions → Result (StandardMachine × Contents) StandardFault → Type 0
Loads file options (Ok x) = IsLoaded file options x.0 x.1
Loads file options (Err (faults.File fault)) = ReadsFile options.capabilities file (Err fault)
Loads file options (Err faults.Memory) = (story : LoadedStory) × ReadsFile options.capabilities file (Ok story)
