-- What the further operations do (Z-Machine Standards Document 1.1, section 15): one line for each.
use Rattle.std.specs.Prelude.{◌-◌, ℕ, true, List, [], ◌∷◌, Option, Result, Ok, Err, slice_index_or}
use Rattle.zcore.specs.declared.instruction.Branch.{Branch}
use Rattle.zcore.specs.declared.place.Fault.{Fault}
use Rattle.zcore.specs.declared.place.Fault.TheVariants as faults
use Rattle.zcore.specs.declared.next.Next.{Next}
use Rattle.zcore.specs.State.{State, Out, ◌>>=◌}
use Rattle.zcore.specs.Parts.{fault, operand_values, goes_on, branch_on}
use Rattle.zcore.specs.Effects.{give_result}
use Rattle.zcore.specs.Execution.{first, second, third}
use Rattle.zcore_standard.specs.declared.operations.StandardOperation.{StandardOperation}
use Rattle.zcore_standard.specs.declared.operations.StandardOperation.TheVariants.{Restart, Catch, ShowStatus, Verify}
use Rattle.zcore_standard.specs.declared.operations.StandardOperation.TheVariants.{Piracy, SetColour, Throw, Read}
use Rattle.zcore_standard.specs.declared.operations.StandardOperation.TheVariants.{Random, SplitWindow, SetWindow}
use Rattle.zcore_standard.specs.declared.operations.StandardOperation.TheVariants.{EraseWindow, EraseLine, SetCursor}
use Rattle.zcore_standard.specs.declared.operations.StandardOperation.TheVariants.{GetCursor, SetTextStyle, BufferMode}
use Rattle.zcore_standard.specs.declared.operations.StandardOperation.TheVariants.{OutputStream, InputStream}
use Rattle.zcore_standard.specs.declared.operations.StandardOperation.TheVariants.{SoundEffect, ReadChar, ScanTable}
use Rattle.zcore_standard.specs.declared.operations.StandardOperation.TheVariants.{Tokenise, EncodeText, CopyTable}
use Rattle.zcore_standard.specs.declared.operations.StandardOperation.TheVariants.{PrintTable, Save, Restore, LogShift}
use Rattle.zcore_standard.specs.declared.operations.StandardOperation.TheVariants.{ArtShift, SetFont, SaveUndo}
use Rattle.zcore_standard.specs.declared.operations.StandardOperation.TheVariants.{RestoreUndo, PrintUnicode}
use Rattle.zcore_standard.specs.declared.operations.StandardOperation.TheVariants.{CheckUnicode, SetTrueColour}
use Rattle.zcore_standard.specs.Place.{Here, past, within}
use Rattle.zcore_standard.specs.Loaded.{Loaded}
use Rattle.zcore_standard.specs.Texts.{alphabets_of}
use Rattle.zcore_standard.specs.Instruction.{Instruction}
use Rattle.zcore_standard.specs.Shifts.{log_shift, art_shift}
use Rattle.zcore_standard.specs.Dice.{random}
use Rattle.zcore_standard.specs.Unicode.{print_unicode, check_unicode}
use Rattle.zcore_standard.specs.Flow.{restart, catch, throw, verify, failed}
use Rattle.zcore_standard.specs.SavedStates.{save_undo, restore_undo}
use Rattle.zcore_standard.specs.Saving.{pause_or}
use Rattle.zcore_standard.specs.declared.save_form.Purpose.{Purpose}
use Rattle.zcore_standard.specs.declared.save_form.Purpose.TheVariants.{Saving, Restoring}
use Rattle.zcore_standard.specs.Screen.{cursor_row, cursor_column, get_cursor, indent_of, set_font}
use Rattle.zcore_standard.specs.Windows.{set_window, set_cursor, erase_window, split_window}
use Rattle.zcore_standard.specs.Streams.{output_stream}
use Rattle.zcore_standard.specs.Reading.{read_line, read_key}
use Rattle.zcore_standard.specs.Tables.{scan_table, copy_table, print_table}
use Rattle.zcore_standard.specs.Words.{tokenise, encode_text}

-- the value of the fourth operand
abbrev pub fourth : List ℕ → ℕ
fourth values = slice_index_or values 3 0

-- Values of operands that are left out. Of `aread` and `tokenise` it is 0: no parse buffer, the story's dictionary, no
-- flag.

-- scan_table looks for words in a table of words
abbrev pub words_of_table : ℕ
words_of_table = 0x82

-- print_table prints one row
abbrev pub one_row : ℕ
one_row = 1

-- The operations that neither change nor ask for windows, dice, streams and kept states, with the address after the instruction, the variable
-- for the result, the branch, and the values of the operands.
unfoldable pub perform_keeping :
    Loaded → StandardOperation → Next → ℕ → Option ℕ → Option Branch → List ℕ → State → Out Next
perform_keeping loaded Catch here after result branch values = catch here after result
perform_keeping loaded ShowStatus here after result branch values = goes_on after here.fuel
perform_keeping loaded Verify here after result branch values = verify loaded here after branch
perform_keeping loaded Piracy here after result branch values = branch_on here after branch true
perform_keeping loaded SetColour here after result branch values = goes_on after here.fuel
perform_keeping loaded Throw here after result branch values = throw here (first values) (second values)
perform_keeping loaded EraseLine here after result branch values = goes_on after here.fuel
perform_keeping loaded SetTextStyle here after result branch values = goes_on after here.fuel
perform_keeping loaded BufferMode here after result branch values = goes_on after here.fuel
perform_keeping loaded InputStream here after result branch values = goes_on after here.fuel
perform_keeping loaded SoundEffect here after result branch values = goes_on after here.fuel
perform_keeping loaded ScanTable here after result branch values = scan_table here after result branch
    (first values) (second values) (third values) (slice_index_or values 3 words_of_table)
perform_keeping loaded Tokenise here after result branch values = tokenise (alphabets_of loaded) here after
    (first values) (second values) (slice_index_or values 2 0) (fourth values)
perform_keeping loaded EncodeText here after result branch values = encode_text (alphabets_of loaded) here after
    (first values) (second values) (third values) (fourth values)
perform_keeping loaded CopyTable here after result branch values = copy_table here after
    (first values) (second values) (third values)
perform_keeping loaded LogShift here after result branch values = log_shift here after result
    (first values) (second values)
perform_keeping loaded ArtShift here after result branch values = art_shift here after result
    (first values) (second values)
perform_keeping loaded SetFont here after result branch values = set_font here after result (first values)
perform_keeping loaded PrintUnicode here after result branch values = print_unicode here after (first values)
perform_keeping loaded CheckUnicode here after result branch values = check_unicode loaded.characters here after result
    (first values)
perform_keeping loaded SetTrueColour here after result branch values = goes_on after here.fuel
perform_keeping loaded _ here after result branch values = fault faults.Opcode

-- `save` and `restore`. With operands, which would save a part of memory, they fail.
abbrev pub use_file : Loaded → Purpose → Here → ℕ → Option ℕ → List ℕ → State → Out Here
use_file loaded purpose here after result [] =
    pause_or loaded purpose here (after - 1) result (give_result here.next after result failed)
use_file loaded purpose here after result (value ∷ values) = λ s.
    within here (give_result here.next after result failed s)

-- any further operation
unfoldable pub perform_further :
    Loaded → StandardOperation → Here → ℕ → Option ℕ → Option Branch → List ℕ → State → Out Here
perform_further loaded Restart here after result branch values = restart loaded here
perform_further loaded Random here after result branch values = random here after result (first values)
perform_further loaded Read here after result branch values = read_line loaded.characters here after result
    (first values) (slice_index_or values 1 0)
perform_further loaded ReadChar here after result branch values = read_key loaded.characters here after result
perform_further loaded OutputStream here after result branch values = output_stream loaded.characters
    loaded.has_transcript here after values
perform_further loaded SetWindow here after result branch values = set_window (past here after) (first values)
perform_further loaded SetCursor here after result branch values = set_cursor (past here after) (first values)
    (second values)
perform_further loaded GetCursor here after result branch values = λ s.
    within here (get_cursor here.next after (first values) (cursor_row here s.text) (cursor_column here s.text) s)
perform_further loaded PrintTable here after result branch values = λ s.
    within here (print_table loaded.characters here.next after (first values) (second values)
    (slice_index_or values 2 one_row) (fourth values) (indent_of here s.text) s)
perform_further loaded EraseWindow here after result branch values = erase_window (past here after) (first values)
perform_further loaded SplitWindow here after result branch values = split_window (past here after) (first values)
perform_further loaded Save here after result branch values = use_file loaded Saving here after result values
perform_further loaded Restore here after result branch values = use_file loaded Restoring here after result values
perform_further loaded SaveUndo here after result branch values = save_undo loaded here after result
perform_further loaded RestoreUndo here after result branch values = restore_undo loaded here after result
perform_further loaded operation here after result branch values = λ s.
    within here (perform_keeping loaded operation here.next after result branch values s)

abbrev pub execute_further : Loaded → StandardOperation → Here → Result (Instruction × ℕ) Fault → State → Out Here
execute_further loaded operation here (Err cause) = fault cause
execute_further loaded operation here (Ok x) = do
  values ← operand_values x.0.operands
  perform_further loaded operation here x.1 x.0.result x.0.branch values
