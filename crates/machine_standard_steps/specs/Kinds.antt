-- StandardOperation operations by what they do.
use Rattle.std.specs.Prelude.{◌≡◌, ◌&&◌, ℕ, Bool, true, false, not, List, Option}
use Rattle.zcore.specs.declared.instruction.Branch.{Branch}
use Rattle.zcore.specs.declared.next.Next.{Next}
use Rattle.zcore.specs.Effects.{give_result}
use Rattle.zcore.specs.Parts.{branch_on}
use Rattle.zcore_standard.specs.declared.operations.StandardOperation.{StandardOperation}
use Rattle.zcore_standard.specs.declared.operations.StandardOperation.TheVariants.{ShowStatus, Verify, Piracy}
use Rattle.zcore_standard.specs.declared.operations.StandardOperation.TheVariants.{SetColour, SplitWindow, SetWindow}
use Rattle.zcore_standard.specs.declared.operations.StandardOperation.TheVariants.{EraseWindow, EraseLine, SetCursor}
use Rattle.zcore_standard.specs.declared.operations.StandardOperation.TheVariants.{SetTextStyle, BufferMode}
use Rattle.zcore_standard.specs.declared.operations.StandardOperation.TheVariants.{InputStream, SoundEffect}
use Rattle.zcore_standard.specs.declared.operations.StandardOperation.TheVariants.{LogShift, ArtShift, SetFont}
use Rattle.zcore_standard.specs.declared.operations.StandardOperation.TheVariants.{PrintUnicode, CheckUnicode}
use Rattle.zcore_standard.specs.declared.operations.StandardOperation.TheVariants.{SetTrueColour}
use Rattle.zcore_standard.specs.Loaded.{Loaded}
use Rattle.zcore_standard.specs.Performing.{perform_keeping}

-- whether an operation does nothing
abbrev pub does_nothing : StandardOperation → Bool
does_nothing ShowStatus = true
does_nothing SetColour = true
does_nothing EraseLine = true
does_nothing SetTextStyle = true
does_nothing BufferMode = true
does_nothing InputStream = true
does_nothing SoundEffect = true
does_nothing SetTrueColour = true
does_nothing _ = false

-- whether an operation is on windows
abbrev pub is_on_windows : StandardOperation → Bool
is_on_windows SetWindow = true
is_on_windows SetCursor = true
is_on_windows EraseWindow = true
is_on_windows SplitWindow = true
is_on_windows _ = false

-- whether an operation gives a word, and does nothing else
abbrev pub gives_word : StandardOperation → Bool
gives_word LogShift = true
gives_word ArtShift = true
gives_word SetFont = true
gives_word CheckUnicode = true
gives_word _ = false

-- an operation on these values gives this word, whatever is around it
abbrev pub GivesWord : Loaded → StandardOperation → List ℕ → ℕ → Type 0
GivesWord loaded operation values word = (here : Next) → (after : ℕ) → (into : Option ℕ) → (branch : Option Branch)
    → perform_keeping loaded operation here after into branch values ≡ give_result here after into word

-- whether an operation branches, and does nothing else
abbrev pub branches : StandardOperation → Bool
branches Verify = true
branches Piracy = true
branches _ = false

-- an operation branches by whether this holds, whatever is around it
abbrev pub BranchesBy : Loaded → StandardOperation → List ℕ → Bool → Type 0
BranchesBy loaded operation values holds = (here : Next) → (after : ℕ) → (into : Option ℕ) → (branch : Option Branch)
    → perform_keeping loaded operation here after into branch values ≡ branch_on here after branch holds

-- whether an operation prints
abbrev pub prints : StandardOperation → Bool
prints PrintUnicode = true
prints _ = false

-- whether an operation prints nothing, and does more than to give a word or to branch
abbrev pub is_quiet : StandardOperation → Bool
is_quiet operation =
    not (does_nothing operation) && not (gives_word operation) && not (branches operation) && not (prints operation)
