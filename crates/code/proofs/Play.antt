-- Which state of the machine stands for a state of the machine of items.
use Rattle.std.proofs.Common.{◌≡◌, ℕ, ◌+◌, ◌*◌, ◌<◌, ◌≤◌, List, [], ◌∷◌, ◌++◌, length, reverse, drop, slice_index}
use Rattle.std.proofs.Common.{Option, Some, None, Bool, true, false}
use Rattle.std.specs.Prelude.{map}
use Rattle.std.specs.List.{All, concat}
use Rattle.zcore.specs.declared.next.Next.{Next}
use Rattle.ztext.specs.Bytes.{word_at}
use Rattle.zcore.specs.Header.{defaults_of, globals_of, static_base_of}
use Rattle.zcore.specs.Parts.{unpacked}
use Rattle.zcore.specs.State.{Frame, State, done}
use Rattle.zcore.specs.Execution.{step}
use Rattle.zcore.specs.Turn.{Whole, Turns, turn_from, turn_on, is_waiting, first_environment, plays_from, last_place}
use Rattle.code.specs.Region.{HasObjects}
use Rattle.code.specs.Tables.{PropertyTable}
use Rattle.meaning.specs.Objects.{Objects}
use Rattle.meaning.specs.Resolved.{ProgramOf}
use Rattle.meaning.specs.World.{Outcome, World}
use Rattle.meaning.specs.Meaning.{routine_at}
use Rattle.code_drafts.specs.Items.{Item}
use Rattle.code_items.specs.Statements.{routine_items}
use Rattle.code_items.specs.Laws.{IsDestination}
use Rattle.code_items.specs.Stack.{Caller}
use Rattle.code_items.specs.Stack as stack
use Rattle.code_drafts.specs.Addresses.{Addresses}
use Rattle.code_instructions.specs.Instructions.{call_result}
use Rattle.code.specs.Bytes.{place_of}
use Rattle.code.specs.HeldProgram.{sizes_of, offset_in}
use Rattle.code.proofs.Regions.{StandsIn}

-- so many steps, one after another, lead from one point of a turn to another
pub data Leads : Next → State → Next → State → Type 0 where
  stays : (here : Next) (s : State) → Leads here s here s
  moves : (here mid next : Next) (s t u : State) → step here s ≡ done mid t → Leads mid t next u → Leads here s next u

-- a turn from here, and those on the lines of a world after it, are the rest of an outcome
pub record PlaysAs (full : ℕ) (here : Next) (s : State) (w : World) (outcome : Outcome) : Type 0 where
  pub whole : Whole
  pub turns : Turns here s whole
  pub texts : outcome.texts ≡ w.texts ++ map (λ (v : Whole). v.text) (whole ∷ plays_from full whole w.lines)
  pub place : outcome.place ≡ last_place (whole ∷ plays_from full whole w.lines)

-- these are the arrays of the source: they stand one after another, after the globals and below the objects
pub record HoldsArrays (story : List ℕ) (a : Addresses) (arrays : List (List ℕ)) (memory : List ℕ) : Type 0 where
  pub first : ℕ
  pub above : globals_of story + 480 ≤ first
  pub below : first + length (concat arrays) ≤ defaults_of story
  pub places : (n : ℕ) → n < length arrays → slice_index a.arrays n ≡ first + offset_in arrays n
  pub stands : StandsIn memory first (concat arrays)

-- the memory of a story that runs: these are the globals, the arrays and the objects of the source, and header, all
-- below the globals, static and high memory are the story's
pub record Stored (story : List ℕ) (a : Addresses) (p : ProgramOf) (globals : List ℕ) (arrays : List (List ℕ))
    (objects : Objects) (memory : List ℕ) : Type 0
  where
    pub size : length memory ≡ length story
    pub header : (q : ℕ) → q < 64 → slice_index memory q ≡ slice_index story q
    pub below : (q : ℕ) → q < globals_of story → slice_index memory q ≡ slice_index story q
    pub kept : drop (static_base_of story) memory ≡ drop (static_base_of story) story
    pub values : (g : ℕ) → g < length globals → word_at memory (globals_of story + 2 * g) ≡ slice_index globals g
    pub regions : HoldsArrays story a arrays memory
    pub tables : List PropertyTable
    pub has : HasObjects p.objects p.defaults objects tables memory

-- a word that was put aside stands in the last variable
abbrev pub HoldsAside : List ℕ → List ℕ → Option ℕ → Type 0
HoldsAside story memory aside = (v : ℕ) → aside ≡ Some v → word_at memory (globals_of story + 478) ≡ v

-- where there is none there is nothing to show
pub none_aside : (story memory : List ℕ) → HoldsAside story memory None
none_aside story memory v e = absurd (cc)

-- how many arguments the first of some calls was given, and the others
abbrev pub first_count : List ℕ → ℕ
first_count [] = 0
first_count (n ∷ ns) = n

abbrev pub other_counts : List ℕ → List ℕ
other_counts [] = []
other_counts (n ∷ ns) = ns

module _ (story : List ℕ) (a : Addresses) (p : ProgramOf) where
  -- where a routine's code begins
  abbrev pub base : ℕ → ℕ
  base r = unpacked story (slice_index a.routines r) + 1

  abbrev pub items_in : ℕ → List Item
  items_in r = routine_items (routine_at p.routines r)

  -- where an item of a routine stands
  abbrev pub address : ℕ → ℕ → ℕ
  address r i = base r + place_of (sizes_of p) (items_in r) i

  -- where a routine returns to; Main to the end of the code that begins the story
  abbrev pub back_of : List Caller → ℕ
  back_of [] = word_at story 6 + 3
  back_of (c ∷ cs) = address c.routine c.place

  -- the result of a call goes where its caller wants it; that of Main goes nowhere
  abbrev pub result_of : List Caller → Option ℕ
  result_of [] = None
  result_of (c ∷ cs) = call_result c.destination

  -- the frame of a routine with these locals and this stack, its newest word first, which was called by these
  abbrev pub frame_of : List ℕ → List ℕ → ℕ → List Caller → Frame
  frame_of locals stack count callers =
      record {
        locals = locals;
        stack = reverse stack;
        arguments = count;
        return_address = back_of callers;
        result = result_of callers;
      }

  abbrev pub frames_of : List Caller → List ℕ → List Frame
  frames_of [] counts = first_environment ∷ []
  frames_of (c ∷ cs) counts = frame_of c.locals c.stack (first_count counts) cs ∷ frames_of cs (other_counts counts)

  -- in a routine with these locals and this stack
  abbrev pub on : List ℕ → List ℕ → List ℕ → ℕ → List Caller → List ℕ → List ℕ → State
  on memory locals stack count callers counts text = record {
    memory = memory;
    frames = frame_of locals stack count callers ∷ frames_of callers counts;
    pending = None;
    text = text;
  }

  abbrev pub state_of : stack.ItemState → List ℕ → ℕ → List ℕ → State
  state_of s memory count counts = on memory s.situation.locals s.stack count s.callers counts s.situation.world.text

  abbrev pub next_of : stack.ItemState → Next
  next_of s = record { program_counter = address s.routine s.place; fuel = s.situation.world.fuel }

  -- a call that waits
  pub record IsCaller (c : Caller) : Type 0 where
    pub known : c.routine < length p.routines
    pub locals : length c.locals ≡ (routine_at p.routines c.routine).locals
    pub room : length c.stack ≤ 48
    pub destination : IsDestination p (routine_at p.routines c.routine).locals c.destination

  pub record Good (s : stack.ItemState) (memory : List ℕ) : Type 0 where
    pub known : s.routine < length p.routines
    pub locals : length s.situation.locals ≡ (routine_at p.routines s.routine).locals
    pub room : length s.stack ≤ 48
    pub callers : All IsCaller s.callers
    pub few : length s.callers < 1000
    pub globals : length s.situation.world.globals ≡ length p.globals
    pub sizes : map length s.situation.world.arrays ≡ (sizes_of p).arrays
    pub stored : Stored story a p s.situation.world.globals s.situation.world.arrays s.situation.world.objects memory
    pub put_aside : HoldsAside story memory s.put_aside

  -- the machine comes to a state that stands for this one
  pub record Arrives (here : Next) (t : State) (s : stack.ItemState) : Type 0 where
    pub memory : List ℕ
    pub count : ℕ
    pub counts : List ℕ
    pub good : Good s memory
    pub leads : Leads here t (next_of s) (state_of s memory count counts)

  -- the turn ends here, and waits for the next line; the turn of that line begins in a state that stands for this one
  pub record Awaits (full : ℕ) (here : Next) (t : State) (w : World) (s : stack.ItemState) : Type 0 where
    pub line : List ℕ
    pub lines : w.lines ≡ line ∷ s.situation.world.lines
    pub whole : Whole
    pub turns : Turns here t whole
    pub waits : is_waiting whole.place ≡ true
    pub texts : s.situation.world.texts ≡ w.texts ++ whole.text ∷ []
    pub memory : List ℕ
    pub count : ℕ
    pub counts : List ℕ
    pub good : Good s memory
    pub given : turn_on line full whole.state ≡ turn_from (next_of s) (state_of s memory count counts)

  -- the machine does what an item leads to
  abbrev pub Led : ℕ → Next → State → World → stack.Next → Type 0
  Led full here t w (stack.goes s) = Arrives here t s
  Led full here t w (stack.ends outcome) = PlaysAs full here t w outcome
  Led full here t w stack.stuck = Unit {0}

  -- and where the item reads a line
  abbrev pub LedOn : ℕ → Next → State → World → stack.Next → Type 0
  LedOn full here t w (stack.goes s) = Awaits full here t w s
  LedOn full here t w (stack.ends outcome) = PlaysAs full here t w outcome
  LedOn full here t w stack.stuck = Unit {0}

  -- by whether it does
  abbrev pub LedBy : Bool → ℕ → Next → State → World → stack.Next → Type 0
  LedBy true full here t w next = LedOn full here t w next
  LedBy false full here t w next = Led full here t w next
