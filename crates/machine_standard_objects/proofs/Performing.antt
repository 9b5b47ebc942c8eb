-- Operations that the profile knows, on the values of their operands.
use Rattle.std.proofs.Common.{◌≡◌, ◌≢◌, ◌∙◌, ℕ, Bool, true, false, cond, List, Option, refl, ap, Result, Ok}
use Rattle.std.proofs.lemmas.Bool.{eq-eqb, ne_eqb}
use Rattle.journal.specs.Recording.{Recording}
use Rattle.zcore.specs.declared.instruction.Branch.{Branch}
use Rattle.zcore.specs.declared.instruction.Operation.{Operation}
use Rattle.zcore.specs.declared.instruction.Operation.TheVariants as operations
use Rattle.zcore.specs.declared.next.Next.{Next}
use Rattle.zcore.specs.declared.operations.OperandCount.{OperandCount}
use Rattle.zcore.specs.declared.operations.OperandCount.TheVariants as counts
use Rattle.zcore.specs.Execution.{perform}
use Rattle.zcore.specs.Operations.{count_of}
use Rattle.zcore.specs.Objects.{remove_object}
use Rattle.zcore.specs.State.{State, Out, done}
use Rattle.zcore_standard.specs.Flags.{concerns_flags, perform_on_flags}
use Rattle.zcore_standard.specs.Forgiving.{may_be_forgiven, perform_forgiving}
use Rattle.zcore_standard.specs.Loaded.{Loaded}
use Rattle.zcore_standard.specs.Nothing.{concerns_nothing, insert_nothing, perform_on_nothing, perform_known}
use Rattle.zcore_standard.specs.Printing.{is_text, by_alphabets, perform_text, perform_printing}
use Rattle.machine_frames.specs.Contents.{Contents}
use Rattle.machine_frames.specs.States.{state_of, IsSound}
use Rattle.machine_frames.specs.Went.{Went, Told}
use Rattle.machine_frames.specs.declared.end.End.{End}
use Rattle.machine_frames.proofs.Steps.{went_as, went_still, told_as}

-- an operation that prints a text forgives no slip
text_unforgiven : (operation : Operation) (values : List ℕ) → is_text operation ≡ true
    → may_be_forgiven operation values ≡ false
text_unforgiven operations.TestAttribute values e = absurd (cc)
text_unforgiven operations.SetAttribute values e = absurd (cc)
text_unforgiven operations.ClearAttribute values e = absurd (cc)
text_unforgiven operations.GetProperty values e = absurd (cc)
text_unforgiven operations.PutProperty values e = absurd (cc)
text_unforgiven _ values e = refl

-- on object 0, to Flags 2, where it forgives a slip, as it prints, and in the profile

module _ (loaded : Loaded) (operation : Operation) (here : Next) (after : ℕ) (result : Option ℕ)
    (branch : Option Branch) (values : List ℕ) where
  -- as the profile does it, or as it prints
  abbrev pub prints : State → Out Next
  prints = by_alphabets loaded.own_alphabets (perform operation here after result branch values)
      (perform_text loaded operation here after values)

  -- not on object 0 and not to Flags 2
  abbrev forgives : Bool → State → Out Next
  forgives c = cond c (perform_forgiving operation here after result branch values)
      (perform_printing loaded operation here after result branch values)

  -- not on object 0
  abbrev others : Bool → State → Out Next
  others c = cond c (perform_on_flags operation here after values) (forgives (may_be_forgiven operation values))

  known_is : (s : State) (b : Bool) → concerns_nothing operation values ≡ b
      → perform_known loaded operation here after result branch values s
      ≡ cond b (perform_on_nothing operation here after result branch values)
      (others (concerns_flags operation values)) s
  known_is s b e = ap (λ (x : Bool). cond x (perform_on_nothing operation here after result branch values)
      (others (concerns_flags operation values)) s) e

  flags_is : (s : State) (c : Bool) → concerns_nothing operation values ≡ false → concerns_flags operation values ≡ c
      → perform_known loaded operation here after result branch values s ≡ others c s
  flags_is s c e f = known_is s false e ∙ ap (λ (x : Bool). others x s) f

  forgiven_is : (s : State) (c : Bool) → concerns_nothing operation values ≡ false
      → concerns_flags operation values ≡ false → may_be_forgiven operation values ≡ c
      → perform_known loaded operation here after result branch values s ≡ forgives c s
  forgiven_is s c e f v = flags_is s false e f ∙ ap (λ (x : Bool). forgives x s) v

  printing_is : (s : State) (d : Bool) → concerns_nothing operation values ≡ false
      → concerns_flags operation values ≡ false → may_be_forgiven operation values ≡ false → is_text operation ≡ d
      → perform_known loaded operation here after result branch values s
      ≡ cond d prints (perform operation here after result branch values) s
  printing_is s d e f v g = forgiven_is s false e f v
      ∙ ap (λ (x : Bool). cond x prints (perform operation here after result branch values) s) g

  pub nothing_went : {s t : Recording Contents} (r : Result Next End) → concerns_nothing operation values ≡ true
      → Went r s t (perform_on_nothing operation here after result branch values)
      → Went r s t (perform_known loaded operation here after result branch values)
  nothing_went {s} r e w = went_as r (perform_known loaded operation here after result branch values)
      (λ x. known_is (state_of s.store x) true e) w

  pub flags_went : {s t : Recording Contents} (r : Result Next End) → concerns_nothing operation values ≡ false
      → concerns_flags operation values ≡ true → Went r s t (perform_on_flags operation here after values)
      → Went r s t (perform_known loaded operation here after result branch values)
  flags_went {s} r e f w = went_as r (perform_known loaded operation here after result branch values)
      (λ x. flags_is (state_of s.store x) true e f) w

  pub forgiven_went : {s t : Recording Contents} (r : Result Next End) → concerns_nothing operation values ≡ false
      → concerns_flags operation values ≡ false → may_be_forgiven operation values ≡ true
      → Went r s t (perform_forgiving operation here after result branch values)
      → Went r s t (perform_known loaded operation here after result branch values)
  forgiven_went {s} r e f v w = went_as r (perform_known loaded operation here after result branch values)
      (λ x. forgiven_is (state_of s.store x) true e f v) w

  pub known_went : {s t : Recording Contents} (r : Result Next End) → concerns_nothing operation values ≡ false
      → concerns_flags operation values ≡ false → may_be_forgiven operation values ≡ false
      → is_text operation ≡ false
      → Went r s t (perform operation here after result branch values)
      → Went r s t (perform_known loaded operation here after result branch values)
  known_went {s} r e f v g w = went_as r (perform_known loaded operation here after result branch values)
      (λ x. printing_is (state_of s.store x) false e f v g) w

  pub known_told : {s t : Recording Contents} {x y : List ℕ} (r : Result Next End)
      → concerns_nothing operation values ≡ false → concerns_flags operation values ≡ false
      → may_be_forgiven operation values ≡ false → is_text operation ≡ false
      → Told r s x t y (perform operation here after result branch values)
      → Told r s x t y (perform_known loaded operation here after result branch values)
  known_told {s} {x = x} r e f v g w = told_as r (perform_known loaded operation here after result branch values)
      (printing_is (state_of s.store x) false e f v g) w

  pub text_told : {s t : Recording Contents} {x y : List ℕ} (r : Result Next End)
      → concerns_nothing operation values ≡ false → concerns_flags operation values ≡ false
      → is_text operation ≡ true → Told r s x t y prints
      → Told r s x t y (perform_known loaded operation here after result branch values)
  text_told {s} {x = x} r e f g w = told_as r (perform_known loaded operation here after result branch values)
      (printing_is (state_of s.store x) true e f (text_unforgiven operation values g) g) w

-- which operations do not store to Flags 2

abbrev pub is_several : OperandCount → Bool
is_several counts.Several = true
is_several _ = false

pub no_flags : (operation : Operation) (values : List ℕ) → is_several (count_of operation) ≡ false
    → concerns_flags operation values ≡ false
no_flags operations.StoreWord values e = absurd (cc)
no_flags operations.StoreByte values e = absurd (cc)
no_flags _ values e = refl

-- which operations forgive no slip

abbrev pub is_one_or_none : OperandCount → Bool
is_one_or_none counts.One = true
is_one_or_none counts.Zero = true
is_one_or_none _ = false

pub unforgiven : (operation : Operation) (values : List ℕ) → is_one_or_none (count_of operation) ≡ true
    → may_be_forgiven operation values ≡ false
unforgiven operations.TestAttribute values e = absurd (cc)
unforgiven operations.SetAttribute values e = absurd (cc)
unforgiven operations.ClearAttribute values e = absurd (cc)
unforgiven operations.GetProperty values e = absurd (cc)
unforgiven operations.PutProperty values e = absurd (cc)
unforgiven _ values e = refl

-- which operations print no text

pub two_plain : (operation : Operation) → count_of operation ≡ counts.Two → is_text operation ≡ false
two_plain operations.Print e = absurd (cc)
two_plain operations.PrintReturn e = absurd (cc)
two_plain operations.PrintAddress e = absurd (cc)
two_plain operations.PrintPacked e = absurd (cc)
two_plain operations.PrintObject e = absurd (cc)
two_plain operations.PrintCharacter e = absurd (cc)
two_plain _ e = refl

pub one_plain : (operation : Operation) → count_of operation ≡ counts.One → operation ≢ operations.PrintAddress
    → operation ≢ operations.PrintPacked → operation ≢ operations.PrintObject → is_text operation ≡ false
one_plain operations.Print e a b c = absurd (cc)
one_plain operations.PrintReturn e a b c = absurd (cc)
one_plain operations.PrintAddress e a b c = absurd (a refl)
one_plain operations.PrintPacked e a b c = absurd (b refl)
one_plain operations.PrintObject e a b c = absurd (c refl)
one_plain operations.PrintCharacter e a b c = absurd (cc)
one_plain _ e a b c = refl

pub several_plain : (operation : Operation) → count_of operation ≡ counts.Several
    → operation ≢ operations.PrintCharacter → is_text operation ≡ false
several_plain operations.Print e a = absurd (cc)
several_plain operations.PrintReturn e a = absurd (cc)
several_plain operations.PrintAddress e a = absurd (cc)
several_plain operations.PrintPacked e a = absurd (cc)
several_plain operations.PrintObject e a = absurd (cc)
several_plain operations.PrintCharacter e a = absurd (a refl)
several_plain _ e a = refl

pub none_plain : (operation : Operation) → count_of operation ≡ counts.Zero → operation ≢ operations.Print
    → operation ≢ operations.PrintReturn → is_text operation ≡ false
none_plain operations.Print e a b = absurd (a refl)
none_plain operations.PrintReturn e a b = absurd (b refl)
none_plain operations.PrintAddress e a b = absurd (cc)
none_plain operations.PrintPacked e a b = absurd (cc)
none_plain operations.PrintObject e a b = absurd (cc)
none_plain operations.PrintCharacter e a b = absurd (cc)
none_plain _ e a b = refl

-- an operation without operands is on no object
pub without_none : (operation : Operation) (values : List ℕ) → count_of operation ≡ counts.Zero
    → concerns_nothing operation values ≡ false
without_none operations.JumpIfIn values e = absurd (cc)
without_none operations.TestAttribute values e = absurd (cc)
without_none operations.SetAttribute values e = absurd (cc)
without_none operations.ClearAttribute values e = absurd (cc)
without_none operations.InsertObject values e = absurd (cc)
without_none operations.GetProperty values e = absurd (cc)
without_none operations.GetPropertyAddress values e = absurd (cc)
without_none operations.GetNextProperty values e = absurd (cc)
without_none operations.GetSibling values e = absurd (cc)
without_none operations.GetChild values e = absurd (cc)
without_none operations.GetParent values e = absurd (cc)
without_none operations.RemoveObject values e = absurd (cc)
without_none operations.PrintObject values e = absurd (cc)
without_none operations.PutProperty values e = absurd (cc)
without_none _ values e = refl

goes_on_only : (operation : Operation) (here : Next) (after : ℕ) (result : Option ℕ) (branch : Option Branch)
    (values : List ℕ) (s : State) → operation ≢ operations.JumpIfIn → operation ≢ operations.TestAttribute
    → operation ≢ operations.InsertObject → operation ≢ operations.GetProperty
    → operation ≢ operations.GetPropertyAddress → operation ≢ operations.GetNextProperty
    → operation ≢ operations.GetParent → operation ≢ operations.GetSibling → operation ≢ operations.GetChild
    → perform_on_nothing operation here after result branch values s
    ≡ done (record { program_counter = after; fuel = here.fuel }) s
unfolding perform_on_nothing
goes_on_only operations.JumpIfIn here after result branch values s a b c d e f g h i = absurd (a refl)
goes_on_only operations.TestAttribute here after result branch values s a b c d e f g h i = absurd (b refl)
goes_on_only operations.InsertObject here after result branch values s a b c d e f g h i = absurd (c refl)
goes_on_only operations.GetProperty here after result branch values s a b c d e f g h i = absurd (d refl)
goes_on_only operations.GetPropertyAddress here after result branch values s a b c d e f g h i = absurd (e refl)
goes_on_only operations.GetNextProperty here after result branch values s a b c d e f g h i = absurd (f refl)
goes_on_only operations.GetParent here after result branch values s a b c d e f g h i = absurd (g refl)
goes_on_only operations.GetSibling here after result branch values s a b c d e f g h i = absurd (h refl)
goes_on_only operations.GetChild here after result branch values s a b c d e f g h i = absurd (i refl)
goes_on_only _ here after result branch values s a b c d e f g h i = refl

-- the operations on object 0 that do nothing
pub nothing_else : (s : Recording Contents) (operation : Operation) (here : Next) (after : ℕ) (result : Option ℕ)
    (branch : Option Branch) (values : List ℕ) → IsSound s.store → operation ≢ operations.JumpIfIn
    → operation ≢ operations.TestAttribute → operation ≢ operations.InsertObject → operation ≢ operations.GetProperty
    → operation ≢ operations.GetPropertyAddress → operation ≢ operations.GetNextProperty
    → operation ≢ operations.GetParent → operation ≢ operations.GetSibling → operation ≢ operations.GetChild
    → Went (Ok (record { program_counter = after; fuel = here.fuel })) s s
    (perform_on_nothing operation here after result branch values)
nothing_else s operation here after result branch values sound a b c d e f g h i =
    went_still s (perform_on_nothing operation here after result branch values) sound
    (λ t. goes_on_only operation here after result branch values (state_of s.store t) a b c d e f g h i)

-- insert_obj

pub nothing_inserted : (s : Recording Contents) (here : Next) (after object : ℕ) → IsSound s.store → object ≡ 0
    → Went (Ok (record { program_counter = after; fuel = here.fuel })) s s (insert_nothing here after object)
nothing_inserted s here after object sound e = went_still s (insert_nothing here after object) sound
    (λ t. rw (eq-eqb object 0 e) refl)

pub something_taken : {s t : Recording Contents} (r : Result Next End) (here : Next) (after object : ℕ) → object ≢ 0
    → Went r s t (remove_object here after object) → Went r s t (insert_nothing here after object)
something_taken r here after object n w = went_as r (insert_nothing here after object)
    (λ x. rw (ne_eqb object 0 n) refl) w
