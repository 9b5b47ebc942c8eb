-- The picture of the upper window along a step.
use Rattle.std.proofs.Common.{◌≡◌, ◌∙◌, ℕ, Bool, true, false, List, [], length, take, drop, refl, ◌-◌, ◌≢◌}
use Rattle.std.proofs.Common.{ap, subst, sym, arith, Option, Some, None, Result, Ok, Err}
use Rattle.std.specs.Prelude.{if◌then◌else◌, is_ok, not}
use Rattle.std.specs.Result.{IsErrAnd}
use Rattle.std.proofs.lemmas.List.{length-drop, take_all}
use Rattle.std.proofs.lemmas.Result.{err_from_is_err_and}
use Rattle.journal.specs.Recording.{Recording}
use Rattle.zcore.specs.declared.next.Next.{Next}
use Rattle.zcore.specs.declared.place.Place.TheVariants as places
use Rattle.zcore.specs.declared.place.Fault.{Fault}
use Rattle.zcore.specs.Parts.{fault, is_code, operand_values}
use Rattle.zcore.specs.State.{State}
use Rattle.zcore.specs.Turn.{after_step}
use Rattle.zcore_standard.specs.declared.operations.StandardOperation.{StandardOperation}
use Rattle.zcore_standard.specs.declared.operations.StandardOperation.TheVariants.{SplitWindow}
use Rattle.zcore_standard.specs.Instruction.{Instruction, decode_row}
use Rattle.zcore_standard.specs.Operations.{row_of}
use Rattle.zcore_standard.specs.Place.{Here, past}
use Rattle.zcore_standard.specs.Windows.{split_window}
use Rattle.zcore_standard.specs.declared.operations.OlderOperation.TheVariants as older
use Rattle.zcore_versions.specs.declared.operations.VersionOperation.{VersionOperation}
use Rattle.zcore_versions.specs.declared.operations.VersionOperation.TheVariants as versions
use Rattle.zcore_versions.specs.declared.version.StoryVersion.{StoryVersion}
use Rattle.zcore_versions.specs.Performing.{execute_older, perform}
use Rattle.zcore_versions.specs.Operations.{older_at}
use Rattle.zcore_versions.specs.Versions.{Story, is_late}
use Rattle.machine_picture.specs.Picture.{Picture, after, before, by_name}
use Rattle.machine_picture.specs.Picture.{after_values, redrawn_to, values_in, with_text}
use Rattle.machine_frames.specs.Contents.{Contents}
use Rattle.machine_frames.specs.States.{state_of, IsSound}
use Rattle.machine_frames.specs.Went.{Told, Went}
use Rattle.machine_frames.specs.declared.end.End.{End}
use Rattle.machine_frames.specs.declared.end.End.TheVariants as ends
use Rattle.machine_frames.proofs.Steps.{told_halt, told_then, told_went, went_no_further}
use Rattle.machine_standard_windows.specs.TurnState.{place}
use Rattle.machine_standard_steps.specs.Redrawing.{Pictures, Redraws, redrawn_if}

pub none_pictures : (r : Result Next End) (version : ℕ) (o : Option StandardOperation) (here : Here) (s : State)
    (text : List ℕ) (p : Picture) → o ≡ None → Pictures r version o here s text p p
none_pictures (Ok next) version o here s text p e =
    sym (ap (λ q. after version q here s text (before q here s.text p)) e)
none_pictures (Err (ends.Stop place)) version o here s text p e = sym (ap (λ q. before q here s.text p) e)
none_pictures (Err ends.Memory) version o here s text p e = tt

pub pictures_as : (r : Result Next End) (version : ℕ) (o q : Option StandardOperation) (here : Here) (s : State)
    (text : List ℕ) (old new : Picture) → o ≡ q → Pictures r version q here s text old new
    → Pictures r version o here s text old new
pictures_as r version o q here s text old new e h =
    subst (λ x. Pictures r version x here s text old new) (sym e) h

-- the picture was brought up to date
pub pictures_looked : (r : Result Next End) (version : ℕ) (o : Option StandardOperation) (here : Here) (s : State)
    (text : List ℕ) (old looked new : Picture) → looked ≡ before o here s.text old
    → Redraws r version o here s text looked new → Pictures r version o here s text old new
pictures_looked (Ok next) version o here s text old looked new e h = h ∙ ap (after version o here s text) e
pictures_looked (Err (ends.Stop place)) version o here s text old looked new e h = h ∙ e
pictures_looked (Err ends.Memory) version o here s text old looked new e h = tt

-- an operation was done, or not
pub redraws_by : (r : Result Next End) (is_done : Bool) (version : ℕ) (operation : StandardOperation) (here : Here)
    (s : State) (text values : List ℕ) (window long : ℕ) (old new : Picture) → is_done ≡ is_ok r
    → window ≡ here.standard_state.window
    → values ≡ values_in s (decode_row s.memory here.next.program_counter (row_of operation)) → long ≡ length text
    → new ≡ redrawn_if is_done version operation window values long old
    → Redraws r version (Some operation) here s text old new
redraws_by (Ok next) is_done version operation here s text values window long old new b w v l e =
    e ∙ ap (λ b. redrawn_if b version operation window values long old) b
    ∙ ap (λ n. after_values version operation n values long old) w
    ∙ ap (λ vs. after_values version operation here.standard_state.window vs long old) v
    ∙ ap (λ n. after_values version operation here.standard_state.window
    (values_in s (decode_row s.memory here.next.program_counter (row_of operation))) n old) l
redraws_by (Err end) is_done version operation here s text values window long old new b w v l e =
    e ∙ ap (λ b. redrawn_if b version operation window values long old) b

-- values that were read
pub values_read : {s t : Recording Contents} (values text : List ℕ) (i : Instruction) (after : ℕ)
    (d : Result (Instruction × ℕ) Fault) → Ok (i, after) ≡ d → Went (Ok values) s t (operand_values i.operands)
    → values ≡ values_in (state_of s.store text) d
values_read {s} {t} values text i after d e went =
    sym (ap (values_in (state_of s.store text)) (sym e)
    ∙ ap (λ o. after_step o (λ values t. values) (λ place t. [])) (went.did.1 text))

-- at the exit of a `?`
pub redraws_none : (e : End) (r : Result Next End) (version : ℕ) (o : Option StandardOperation) (here : Here) (s : State)
    (text : List ℕ) (p : Picture) → IsErrAnd r (λ q. q ≡ e) → Redraws r version o here s text p p
redraws_none e r version o here s text p h =
    let x = err_from_is_err_and r h in
    rw x.1 refl

-- Names

pub by_name_alike : (operation : VersionOperation) (further : Option StandardOperation)
    → by_name (Some operation) further ≡ by_name (Some operation) None
by_name_alike (versions.Known operation) further = refl
by_name_alike (versions.Older older.Not) further = refl
by_name_alike (versions.Older older.Pop) further = refl
by_name_alike (versions.Older older.Save) further = refl
by_name_alike (versions.Older older.Restore) further = refl
by_name_alike (versions.Older older.Read) further = refl
by_name_alike versions.SplitWindow further = refl
by_name_alike versions.Missing further = refl

still_by : (version : ℕ) (operation : VersionOperation) (here : Here) (s : State) (text : List ℕ) (p : Picture)
    → operation ≢ versions.SplitWindow → after version (by_name (Some operation) None) here s text p ≡ p
still_by version (versions.Known operation) here s text p not = refl
still_by version (versions.Older older.Not) here s text p not = refl
still_by version (versions.Older older.Pop) here s text p not = refl
still_by version (versions.Older older.Save) here s text p not = refl
still_by version (versions.Older older.Restore) here s text p not = refl
still_by version (versions.Older older.Read) here s text p not = refl
still_by version versions.SplitWindow here s text p not = absurd (not refl)
still_by version versions.Missing here s text p not = refl

pub redraws_still : (r : Result Next End) (version : ℕ) (operation : VersionOperation) (here : Here) (s : State)
    (text : List ℕ) (p : Picture) → operation ≢ versions.SplitWindow
    → Redraws r version (by_name (Some operation) None) here s text p p
redraws_still (Ok next) version operation here s text p not = sym (still_by version operation here s text p not)
redraws_still (Err end) version operation here s text p not = refl

-- no operation of versions 5 and 8 is performed otherwise
either_none : {A : Type 0} (late code : Bool) (o : Option A) → late ≡ true
    → (if code then (if late then None else o) else None) ≡ None
either_none true true o e = refl
either_none true false o e = refl
either_none false code o e = absurd (cc)

pub late_has_none : (version : StoryVersion) (memory : List ℕ) (at : ℕ) → is_late version ≡ true
    → older_at version memory at ≡ None
late_has_none version memory at late =
    either_none (is_late version) (is_code memory at) _ late

-- `split_window` of version 3

pub splits : {s t u : Recording Contents} {x y : List ℕ} (r : Result Here End) (story : Story) (here : Here)
    (i : Instruction) (after : ℕ) (d : Result (Instruction × ℕ) Fault) (values : List ℕ) → Ok (i, after) ≡ d
    → Went (Ok values) s t (operand_values i.operands) → Told r t x u y (split_window (past here after) 0)
    → Told r s x u y (execute_older story versions.SplitWindow here d)
unfolding perform
splits {s} {t} {u} {x} {y} r story here i after d values e v w =
    subst (λ o. Told r s x u y (execute_older story versions.SplitWindow here o)) e
    (told_then (λ vs. perform story versions.SplitWindow here after i.result i.branch vs) (told_went (Ok values) x v) w)

pub splits_unread : {s t : Recording Contents} {x : List ℕ} (story : Story) (here : Here) (i : Instruction) (after : ℕ)
    (d : Result (Instruction × ℕ) Fault) (e : End) → Ok (i, after) ≡ d
    → Went {A = List ℕ} (Err e) s t (operand_values i.operands)
    → Told {A = Here} (Err e) s x t x (execute_older story versions.SplitWindow here d)
splits_unread {s} {t} {x} story here i after d e is w =
    subst (λ o. Told {A = Here} (Err e) s x t x (execute_older story versions.SplitWindow here o)) is
    (told_went {A = Here} (Err e) x
    (went_no_further (λ vs. perform story versions.SplitWindow here after i.result i.branch vs) w))

pub splits_undecoded : {x : List ℕ} (s : Recording Contents) (story : Story) (here : Here)
    (d : Result (Instruction × ℕ) Fault) (cause : Fault) → IsSound s.store → Err cause ≡ d
    → Told {A = Here} (Err (ends.Stop (places.Fault cause))) s x s x (execute_older story versions.SplitWindow here d)
splits_undecoded {x} s story here d cause sound e =
    subst (λ o. Told {A = Here} (Err (ends.Stop (places.Fault cause))) s x s x
    (execute_older story versions.SplitWindow here o)) e (told_halt s (fault cause) x sound refl)

-- the operation was found by its name
pub looked_by : (here : Here) (text : List ℕ) (o q : Option StandardOperation) (p looked : Picture) → o ≡ q
    → looked ≡ before o here text p → looked ≡ before q here text p
looked_by here text o q p looked e is = is ∙ ap (λ x. before x here text p) e

pub split_not_missing : versions.SplitWindow ≢ versions.Missing
split_not_missing e = absurd (cc)

-- the text of the turn, as a part of a longer one
pub turn_text : (start : ℕ) (text whole : List ℕ) (o : Option StandardOperation) (here : Here) (p looked : Picture)
    → whole ≡ text → looked ≡ before o here (take (length whole - start) (drop start whole)) p
    → looked ≡ before o here (drop start text) p
turn_text start text whole o here p looked same e =
    e ∙ ap (λ l. before o here l p) (take_all (length whole - start) (drop start whole)
    (omega (arith, length-drop start whole)))
    ∙ ap (λ l. before o here (drop start l) p) same

pub splits_redraws : (version : ℕ) (here : Here) (s : State) (text values : List ℕ) (window long : ℕ) (old new : Picture)
    → window ≡ here.standard_state.window
    → values ≡ values_in s (decode_row s.memory here.next.program_counter (row_of SplitWindow)) → long ≡ length text
    → new ≡ redrawn_to version SplitWindow window values long old → new ≡ after version (Some SplitWindow) here s text old
splits_redraws version here s text values window long old new w v l e =
    e ∙ ap (λ n. redrawn_to version SplitWindow n values long old) w
    ∙ ap (λ vs. redrawn_to version SplitWindow here.standard_state.window vs long old) v
    ∙ ap (λ n. redrawn_to version SplitWindow here.standard_state.window
    (values_in s (decode_row s.memory here.next.program_counter (row_of SplitWindow))) n old) l

-- an operation that looks at the text, or not

pub looked_now : (b looks drawing is_drawing : Bool) (text : List ℕ) (p q : Picture) → b ≡ looks → b ≡ true
    → drawing ≡ is_drawing → q ≡ with_text drawing text p → q ≡ (if looks then with_text is_drawing text p else p)
looked_now b true drawing is_drawing text p q e is d h = h ∙ ap (λ x. with_text x text p) d
looked_now true false drawing is_drawing text p q e is d h = absurd (cc)
looked_now false false drawing is_drawing text p q e is d h = absurd (cc)

pub looked_not : (b looks : Bool) (p q : Picture) → b ≡ looks → b ≡ false → p ≡ (if looks then q else p)
looked_not b false p q e is = refl
looked_not true true p q e is = absurd (cc)
looked_not false true p q e is = absurd (cc)
