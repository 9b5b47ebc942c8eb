-- Operations that a version performs otherwise, on the values of their operands.
use Rattle.std.proofs.Common.{◌≡◌, ◌≢◌, ℕ, List, true, false, Option, Result, Ok, Err, refl}
use Rattle.std.proofs.Common.{◌⊎◌, inl, inr}
use Rattle.std.proofs.lemmas.Bool.{eq-eqb, ne_eqb}
use Rattle.journal.specs.Recording.{Recording}
use Rattle.zcore.specs.declared.instruction.Branch.{Branch}
use Rattle.zcore.specs.declared.instruction.Operation.{Operation}
use Rattle.zcore.specs.declared.instruction.Operation.TheVariants as known
use Rattle.zcore.specs.declared.next.Next.{Next}
use Rattle.zcore.specs.declared.place.Place.TheVariants as places
use Rattle.zcore.specs.declared.place.Fault.TheVariants as faults
use Rattle.zcore.specs.Effects.{give_result}
use Rattle.zcore.specs.Parts.{branch_on}
use Rattle.zcore.specs.State.{State}
use Rattle.zcore_standard.specs.declared.operations.OlderOperation.{OlderOperation}
use Rattle.zcore_standard.specs.declared.operations.OlderOperation.TheVariants as older
use Rattle.zcore_standard.specs.Nothing.{concerns_nothing, perform_on_nothing}
use Rattle.zcore_standard.specs.Place.{Here, on, within}
use Rattle.machine_decoding.specs.Seen.{seen}
use Rattle.machine_frames.specs.Contents.{Contents}
use Rattle.machine_frames.specs.States.{state_of, IsSound}
use Rattle.machine_frames.specs.Went.{Went, Told}
use Rattle.machine_frames.specs.declared.end.End.{End}
use Rattle.machine_frames.specs.declared.end.End.TheVariants as ends
use Rattle.machine_frames.proofs.Steps.{went_as, went_still, told_as, told_halt}
use Rattle.machine_standard_opcodes.proofs.Keeping.{told_within}
use Rattle.zcore_versions.specs.declared.operations.VersionOperation.TheVariants.{Known, Older, Missing}
use Rattle.zcore_versions.specs.declared.version.StoryVersion.{StoryVersion}
use Rattle.zcore_versions.specs.Operations.{differs}
use Rattle.zcore_versions.specs.Performing.{perform_on_none, perform_other, perform_known, perform_older, perform, fail}
use Rattle.zcore_versions.specs.SmallObjects.{remove_object}
use Rattle.zcore_versions.specs.Versions.{Story, is_small, locks_alphabets}
use Rattle.machine_versions_steps.specs.Kinds.{is_on_small_object, take_out}

-- Objects

pub on_small_object : (version : ℕ) (operation : Operation) → differs version operation ≡ true
    → operation ≢ known.CallVs → operation ≢ known.CallVs2 → operation ≢ known.Call1s → operation ≢ known.Call2s
    → operation ≢ known.CallVn → operation ≢ known.CallVn2 → operation ≢ known.Call1n → operation ≢ known.Call2n
    → operation ≢ known.PrintPacked → operation ≢ known.PrintObject → operation ≢ known.Print
    → operation ≢ known.PrintReturn → operation ≢ known.PrintAddress
    → is_on_small_object operation ≡ true
on_small_object version known.CallVs z a b d e f g h i j k l m n = absurd (a refl)
on_small_object version known.CallVs2 z a b d e f g h i j k l m n = absurd (b refl)
on_small_object version known.Call1s z a b d e f g h i j k l m n = absurd (d refl)
on_small_object version known.Call2s z a b d e f g h i j k l m n = absurd (e refl)
on_small_object version known.CallVn z a b d e f g h i j k l m n = absurd (f refl)
on_small_object version known.CallVn2 z a b d e f g h i j k l m n = absurd (g refl)
on_small_object version known.Call1n z a b d e f g h i j k l m n = absurd (h refl)
on_small_object version known.Call2n z a b d e f g h i j k l m n = absurd (i refl)
on_small_object version known.PrintPacked z a b d e f g h i j k l m n = absurd (j refl)
on_small_object version known.PrintObject z a b d e f g h i j k l m n = absurd (k refl)
on_small_object version known.Print z a b d e f g h i j k l m n = absurd (l refl)
on_small_object version known.PrintReturn z a b d e f g h i j k l m n = absurd (m refl)
on_small_object version known.PrintAddress z a b d e f g h i j k l m n = absurd (n refl)
on_small_object version known.JumpIfIn z a b d e f g h i j k l m n = refl
on_small_object version known.TestAttribute z a b d e f g h i j k l m n = refl
on_small_object version known.SetAttribute z a b d e f g h i j k l m n = refl
on_small_object version known.ClearAttribute z a b d e f g h i j k l m n = refl
on_small_object version known.InsertObject z a b d e f g h i j k l m n = refl
on_small_object version known.RemoveObject z a b d e f g h i j k l m n = refl
on_small_object version known.GetParent z a b d e f g h i j k l m n = refl
on_small_object version known.GetSibling z a b d e f g h i j k l m n = refl
on_small_object version known.GetChild z a b d e f g h i j k l m n = refl
on_small_object version known.GetProperty z a b d e f g h i j k l m n = refl
on_small_object version known.GetPropertyAddress z a b d e f g h i j k l m n = refl
on_small_object version known.GetNextProperty z a b d e f g h i j k l m n = refl
on_small_object version known.GetPropertyLength z a b d e f g h i j k l m n = refl
on_small_object version known.PutProperty z a b d e f g h i j k l m n = refl
on_small_object version _ z a b d e f g h i j k l m n = absurd (cc)

-- a text alone is printed otherwise where an alphabet can be locked
pub text_locked : (version : StoryVersion) (operation : Operation)
    → (operation ≡ known.Print) ⊎ ((operation ≡ known.PrintReturn) ⊎ (operation ≡ known.PrintAddress))
    → differs version.number operation ≡ true → locks_alphabets version ≡ true
text_locked version operation (inl e) differ = rw e at differ
text_locked version operation (inr (inl e)) differ = rw e at differ
text_locked version operation (inr (inr e)) differ = rw e at differ

pub nothing_taken : (s : Recording Contents) (here : Next) (after object : ℕ) → IsSound s.store → object ≡ 0
    → Went (Ok (record { program_counter = after; fuel = here.fuel })) s s (take_out here after object)
nothing_taken s here after object sound e = went_still s (take_out here after object) sound
    (λ x. rw (eq-eqb object 0 e) refl)

pub something_taken : {s t : Recording Contents} (r : Result Next End) (here : Next) (after object : ℕ) → object ≢ 0
    → Went r s t (remove_object here after object) → Went r s t (take_out here after object)
something_taken r here after object some w =
    went_as r (take_out here after object) (λ x. rw (ne_eqb object 0 some) refl) w

pub none_else : {s t : Recording Contents} (r : Result Next End) (operation : Operation) (here : Next) (after : ℕ)
    (result : Option ℕ) (branch : Option Branch) (values : List ℕ) → operation ≢ known.InsertObject
    → Went r s t (perform_on_nothing operation here after result branch values)
    → Went r s t (perform_on_none operation here after result branch values)
none_else r known.InsertObject here after result branch values not w = absurd (not refl)
none_else r _ here after result branch values not w = w

pub on_none : {s t : Recording Contents} (r : Result Next End) (story : Story) (operation : Operation) (here : Next)
    (after : ℕ) (result : Option ℕ) (branch : Option Branch) (values : List ℕ)
    → concerns_nothing operation values ≡ true
    → Went r s t (perform_on_none operation here after result branch values)
    → Went r s t (perform_known story operation here after result branch values)
on_none r story operation here after result branch values e w =
    went_as r (perform_known story operation here after result branch values) (λ x. rw e refl) w

pub on_some : {s t : Recording Contents} {x y : List ℕ} (r : Result Next End) (story : Story) (operation : Operation)
    (here : Next) (after : ℕ) (result : Option ℕ) (branch : Option Branch) (values : List ℕ)
    → concerns_nothing operation values ≡ false
    → Told r s x t y (perform_other story operation here after result branch values)
    → Told r s x t y (perform_known story operation here after result branch values)
on_some r story operation here after result branch values e w =
    told_as r (perform_known story operation here after result branch values) (rw e refl) w

-- Operations of versions up to 4

pub fails_by_branch : {s t : Recording Contents} (r : Result Next End) (story : Story) (here : Next) (after : ℕ)
    (result : Option ℕ) (branch : Option Branch) → is_small story.version ≡ true
    → Went r s t (branch_on here after branch false) → Went r s t (fail story here after result branch)
fails_by_branch r story here after result branch e w = went_as r (fail story here after result branch) (λ x. rw e refl) w

pub fails_by_result : {s t : Recording Contents} (r : Result Next End) (story : Story) (here : Next) (after : ℕ)
    (result : Option ℕ) (branch : Option Branch) → is_small story.version ≡ false
    → Went r s t (give_result here after result 0) → Went r s t (fail story here after result branch)
fails_by_result r story here after result branch e w = went_as r (fail story here after result branch) (λ x. rw e refl) w

-- Windows, dice and streams stay

pub known_within : {s t : Recording Contents} {x y : List ℕ} (r : Result Next End) (story : Story) (operation : Operation)
    (here : Here) (after : ℕ) (result : Option ℕ) (branch : Option Branch) (values : List ℕ)
    → Told r s x t y (perform_known story operation here.next after result branch values)
    → Told (seen (on here) r) s x t y (perform story (Known operation) here after result branch values)
unfolding perform perform_older
known_within r story operation here after result branch values w =
    told_within r here (perform_known story operation here.next after result branch values) w

silent_is : (story : Story) (operation : OlderOperation) (here : Here) (after : ℕ) (result : Option ℕ)
    (branch : Option Branch) (values : List ℕ) (s : State) → operation ≢ older.Read → operation ≢ older.Save → operation ≢ older.Restore
    → perform story (Older operation) here after result branch values s
    ≡ within here (perform_older story (Older operation) here.next after result branch values s)
unfolding perform
silent_is story older.Read here after result branch values s read saves restores = absurd (read refl)
silent_is story older.Not here after result branch values s read saves restores = refl
silent_is story older.Pop here after result branch values s read saves restores = refl
silent_is story older.Save here after result branch values s read saves restores = absurd (saves refl)
silent_is story older.Restore here after result branch values s read saves restores = absurd (restores refl)

pub silent_within : {s t : Recording Contents} {x y : List ℕ} (r : Result Next End) (story : Story)
    (operation : OlderOperation) (here : Here) (after : ℕ) (result : Option ℕ) (branch : Option Branch) (values : List ℕ)
    → operation ≢ older.Read → operation ≢ older.Save → operation ≢ older.Restore
    → Told r s x t y (perform_older story (Older operation) here.next after result branch values)
    → Told (seen (on here) r) s x t y (perform story (Older operation) here after result branch values)
silent_within {s} {x = x} r story operation here after result branch values read saves restores w =
    told_as (seen (on here) r) (perform story (Older operation) here after result branch values)
    (silent_is story operation here after result branch values (state_of s.store x) read saves restores)
    (told_within r here (perform_older story (Older operation) here.next after result branch values) w)

pub missing_halts : {x : List ℕ} (s : Recording Contents) (story : Story) (here : Here) (after : ℕ) (result : Option ℕ)
    (branch : Option Branch) (values : List ℕ) → IsSound s.store
    → Told {A = Here} (Err (ends.Stop (places.Fault faults.Opcode))) s x s x
    (perform story Missing here after result branch values)
unfolding perform perform_older
missing_halts {x} s story here after result branch values sound =
    told_halt s (perform story Missing here after result branch values) x sound refl
