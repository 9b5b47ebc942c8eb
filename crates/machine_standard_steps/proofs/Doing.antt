-- StandardOperation operations on the values of their operands.
use Rattle.std.proofs.Common.{◌≡◌, ◌≢◌, ◌-◌, ℕ, Bool, true, false, List, [], ◌∷◌, length, Option, Result, Ok, refl, ap, sym}
use Rattle.std.proofs.Common.{◌∙◌, arith, slice_index, slice_index_or}
use Rattle.journal.specs.Recording.{Recording}
use Rattle.zcore.specs.declared.instruction.Branch.{Branch}
use Rattle.zcore.specs.declared.next.Next.{Next}
use Rattle.zcore.specs.Effects.{give_result}
use Rattle.zcore.specs.Parts.{branch_on}
use Rattle.zcore.specs.State.{State, Out, done}
use Rattle.zcore_standard.specs.declared.operations.StandardOperation.{StandardOperation}
use Rattle.zcore_standard.specs.declared.operations.StandardOperation.TheVariants as operations
use Rattle.zcore_standard.specs.Place.{Here, on, within}
use Rattle.zcore_standard.specs.Loaded.{Loaded}
use Rattle.zcore_standard.specs.Performing.{one_row, perform_keeping, perform_further, use_file}
use Rattle.zcore_standard.specs.Screen.{cursor_row, cursor_column, get_cursor, indent_of}
use Rattle.zcore_standard.specs.Tables.{print_table}
use Rattle.zcore_standard.specs.Saving.{pause_or}
use Rattle.zcore_standard.specs.declared.save_form.Purpose.{Purpose}
use Rattle.machine_frames.specs.Contents.{Contents}
use Rattle.machine_frames.specs.States.{state_of, IsSound}
use Rattle.machine_frames.specs.Went.{Went, Told}
use Rattle.machine_frames.specs.declared.end.End.{End}
use Rattle.machine_frames.proofs.Steps.{told_as, told_went, told_still}
use Rattle.machine_decoding.specs.Seen.{seen}
use Rattle.machine_standard_opcodes.proofs.Keeping.{told_within}
use Rattle.machine_standard_steps.specs.Kinds.{does_nothing, is_on_windows, gives_word, branches, prints, is_quiet}
use Rattle.machine_standard_steps.specs.Kinds.{GivesWord}
use Rattle.machine_standard_steps.specs.Kinds.{BranchesBy}

-- the operations that do nothing

nothing_done : (loaded : Loaded) (operation : StandardOperation) (here : Next) (after : ℕ) (result : Option ℕ)
    (branch : Option Branch) (values : List ℕ) (s : State) → does_nothing operation ≡ true
    → perform_keeping loaded operation here after result branch values s
    ≡ done (record { program_counter = after; fuel = here.fuel }) s
unfolding perform_keeping
nothing_done loaded operations.ShowStatus here after result branch values s e = refl
nothing_done loaded operations.SetColour here after result branch values s e = refl
nothing_done loaded operations.EraseLine here after result branch values s e = refl
nothing_done loaded operations.SetTextStyle here after result branch values s e = refl
nothing_done loaded operations.BufferMode here after result branch values s e = refl
nothing_done loaded operations.InputStream here after result branch values s e = refl
nothing_done loaded operations.SoundEffect here after result branch values s e = refl
nothing_done loaded operations.SetTrueColour here after result branch values s e = refl
nothing_done loaded _ here after result branch values s e = absurd (cc)

pub does_nothing_told : (s : Recording Contents) (x : List ℕ) (loaded : Loaded) (operation : StandardOperation) (here : Next)
    (after : ℕ) (result : Option ℕ) (branch : Option Branch) (values : List ℕ) → IsSound s.store
    → does_nothing operation ≡ true
    → Told (Ok (record { program_counter = after; fuel = here.fuel })) s x s x
    (perform_keeping loaded operation here after result branch values)
does_nothing_told s x loaded operation here after result branch values sound e =
    told_still s (perform_keeping loaded operation here after result branch values) x sound
    (nothing_done loaded operation here after result branch values (state_of s.store x) e)

pub gives_word_told : {s t : Recording Contents} (r : Result Next End) (x : List ℕ) (loaded : Loaded)
    (operation : StandardOperation) (here : Next) (after : ℕ) (result : Option ℕ) (branch : Option Branch) (values : List ℕ)
    (word : ℕ) → GivesWord loaded operation values word → Went r s t (give_result here after result word)
    → Told r s x t x (perform_keeping loaded operation here after result branch values)
gives_word_told {s} r x loaded operation here after result branch values word g w =
    told_as r (perform_keeping loaded operation here after result branch values)
    (ap (λ (f : State → Out Next). f (state_of s.store x)) (g here after result branch)) (told_went r x w)

pub branches_told : {s t : Recording Contents} (r : Result Next End) (x : List ℕ) (loaded : Loaded)
    (operation : StandardOperation) (here : Next) (after : ℕ) (result : Option ℕ) (branch : Option Branch) (values : List ℕ)
    (holds : Bool) → BranchesBy loaded operation values holds → Went r s t (branch_on here after branch holds)
    → Told r s x t x (perform_keeping loaded operation here after result branch values)
branches_told {s} r x loaded operation here after result branch values holds g w =
    told_as r (perform_keeping loaded operation here after result branch values)
    (ap (λ (f : State → Out Next). f (state_of s.store x)) (g here after result branch)) (told_went r x w)

-- an operation that does more

prints_not : (operation : StandardOperation) → operation ≢ operations.PrintUnicode → prints operation ≡ false
prints_not operations.PrintUnicode m = absurd (m refl)
prints_not _ m = refl

pub quiet : (operation : StandardOperation) → does_nothing operation ≡ false → gives_word operation ≡ false
    → branches operation ≡ false → operation ≢ operations.PrintUnicode → is_quiet operation ≡ true
quiet operation a b c m = rw (a, b, c, prints_not operation m) refl

-- get_cursor, with where the cursor is
pub cursor_told : {s t : Recording Contents} (r : Result Next End) (x : List ℕ) (loaded : Loaded) (here : Here)
    (after : ℕ) (result : Option ℕ) (branch : Option Branch) (values : List ℕ) (row column : ℕ)
    → row ≡ cursor_row here x → column ≡ cursor_column here x
    → Went r s t (get_cursor here.next after (slice_index values 0) row column)
    → Told (seen (on here) r) s x t x (perform_further loaded operations.GetCursor here after result branch values)
unfolding perform_further
cursor_told {s} r x loaded here after result branch values row column e f w =
    let table = slice_index values 0 in
    told_within r here
    (λ z. get_cursor here.next after table (cursor_row here z.text) (cursor_column here z.text) z)
    (told_as r (λ z. get_cursor here.next after table (cursor_row here z.text) (cursor_column here z.text) z)
    (ap (λ n. get_cursor here.next after table n (cursor_column here x) (state_of s.store x)) (sym e)
    ∙ ap (λ n. get_cursor here.next after table row n (state_of s.store x)) (sym f)) (told_went r x w))

-- print_table, with how far it is indented
pub table_told : {s t : Recording Contents} {x y : List ℕ} (r : Result Next End) (loaded : Loaded) (here : Here)
    (after : ℕ) (result : Option ℕ) (branch : Option Branch) (values : List ℕ)
    → Told r s x t y (print_table loaded.characters here.next after (slice_index values 0) (slice_index values 1)
    (slice_index_or values 2 one_row) (slice_index_or values 3 0) (indent_of here x))
    → Told (seen (on here) r) s x t y (perform_further loaded operations.PrintTable here after result branch values)
unfolding perform_further
table_told r loaded here after result branch values w =
    told_within r here (λ z. print_table loaded.characters here.next after (slice_index values 0) (slice_index values 1)
    (slice_index_or values 2 one_row) (slice_index_or values 3 0) (indent_of here z.text) z) (told_as r _ refl w)

-- save and restore

pub saves_part : {s t : Recording Contents} {x y : List ℕ} (r : Result Next End) (loaded : Loaded) (purpose : Purpose)
    (here : Here) (after : ℕ) (result : Option ℕ) (values : List ℕ) → length values ≢ 0
    → Told r s x t y (give_result here.next after result 0)
    → Told (seen (on here) r) s x t y (use_file loaded purpose here after result values)
saves_part r loaded purpose here after result [] some w = absurd (some refl)
saves_part r loaded purpose here after result (value ∷ values) some w =
    told_within r here (give_result here.next after result 0) w

pub saves_whole : {s t : Recording Contents} {x y : List ℕ} (r : Result Here End) (loaded : Loaded) (purpose : Purpose)
    (here : Here) (after : ℕ) (result : Option ℕ) (values : List ℕ) → length values ≡ 0
    → Told r s x t y (pause_or loaded purpose here (after - 1) result (give_result here.next after result 0))
    → Told r s x t y (use_file loaded purpose here after result values)
saves_whole r loaded purpose here after result [] none w = w
saves_whole r loaded purpose here after result (value ∷ values) none w = absurd (omega (arith, none))

-- windows, dice, streams and kept states stay

keeping_is : (loaded : Loaded) (operation : StandardOperation) (here : Here) (after : ℕ) (result : Option ℕ)
    (branch : Option Branch) (values : List ℕ) (s : State) → operation ≢ operations.Restart
    → operation ≢ operations.Random → operation ≢ operations.Read → operation ≢ operations.ReadChar
    → operation ≢ operations.OutputStream → operation ≢ operations.SaveUndo → operation ≢ operations.RestoreUndo
    → operation ≢ operations.Save → operation ≢ operations.Restore → operation ≢ operations.GetCursor
    → operation ≢ operations.PrintTable → is_on_windows operation ≡ false
    → perform_further loaded operation here after result branch values s
    ≡ within here (perform_keeping loaded operation here.next after result branch values s)
unfolding perform_further
keeping_is loaded operations.Restart here after result branch values s m n k j l o p q z u v e = absurd (m refl)
keeping_is loaded operations.Random here after result branch values s m n k j l o p q z u v e = absurd (n refl)
keeping_is loaded operations.Read here after result branch values s m n k j l o p q z u v e = absurd (k refl)
keeping_is loaded operations.ReadChar here after result branch values s m n k j l o p q z u v e = absurd (j refl)
keeping_is loaded operations.OutputStream here after result branch values s m n k j l o p q z u v e = absurd (l refl)
keeping_is loaded operations.SaveUndo here after result branch values s m n k j l o p q z u v e = absurd (o refl)
keeping_is loaded operations.RestoreUndo here after result branch values s m n k j l o p q z u v e = absurd (p refl)
keeping_is loaded operations.Save here after result branch values s m n k j l o p q z u v e = absurd (q refl)
keeping_is loaded operations.Restore here after result branch values s m n k j l o p q z u v e = absurd (z refl)
keeping_is loaded operations.GetCursor here after result branch values s m n k j l o p q z u v e = absurd (u refl)
keeping_is loaded operations.PrintTable here after result branch values s m n k j l o p q z u v e = absurd (v refl)
keeping_is loaded operations.SetWindow here after result branch values s m n k j l o p q z u v e = absurd (cc)
keeping_is loaded operations.SetCursor here after result branch values s m n k j l o p q z u v e = absurd (cc)
keeping_is loaded operations.EraseWindow here after result branch values s m n k j l o p q z u v e = absurd (cc)
keeping_is loaded operations.SplitWindow here after result branch values s m n k j l o p q z u v e = absurd (cc)
keeping_is loaded _ here after result branch values s m n k j l o p q z u v e = refl

pub keeping_told : {s t : Recording Contents} {x y : List ℕ} (r : Result Next End) (loaded : Loaded)
    (operation : StandardOperation) (here : Here) (after : ℕ) (result : Option ℕ) (branch : Option Branch)
    (values : List ℕ) → operation ≢ operations.Restart → operation ≢ operations.Random → operation ≢ operations.Read
    → operation ≢ operations.ReadChar → operation ≢ operations.OutputStream → operation ≢ operations.SaveUndo
    → operation ≢ operations.RestoreUndo → operation ≢ operations.Save → operation ≢ operations.Restore
    → operation ≢ operations.GetCursor → operation ≢ operations.PrintTable → is_on_windows operation ≡ false
    → Told r s x t y (perform_keeping loaded operation here.next after result branch values)
    → Told (seen (on here) r) s x t y (perform_further loaded operation here after result branch values)
keeping_told {s} {x = x} r loaded operation here after result branch values m n k j l o p q z u v e w =
    told_as (seen (on here) r) (perform_further loaded operation here after result branch values)
    (keeping_is loaded operation here after result branch values (state_of s.store x) m n k j l o p q z u v e)
    (told_within r here (perform_keeping loaded operation here.next after result branch values) w)
