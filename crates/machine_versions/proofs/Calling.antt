-- Calls of older versions in a store.
use Rattle.std.proofs.Common.{◌≡◌, ◌≢◌, ℕ, ◌+◌, ◌*◌, ◌≤◌, ◌<◌, List, length, take, refl, ap, sym, ◌∙◌, arith, Bool, true, false}
use Rattle.std.proofs.Common.{Option, Result, Ok, Err}
use Rattle.std.proofs.lemmas.Bool.{ne_eqb}
use Rattle.std.specs.Prelude.{◌==◌, ◌||◌}
use Rattle.zcore.specs.declared.next.Next.{Next}
use Rattle.zcore.specs.declared.place.Fault.TheVariants as faults
use Rattle.zcore.specs.declared.place.Place.TheVariants as places
use Rattle.zcore.specs.Effects.{give_result}
use Rattle.zcore.specs.Layout.{longest_story}
use Rattle.zcore.specs.Parts.{test, call, goes_on}
use Rattle.zcore.specs.State.{State, Out, done, ◌>>=◌}
use Rattle.journal.specs.Recording.{Recording}
use Rattle.machine_frames.specs.Contents.{Contents, memory_of}
use Rattle.machine_frames.specs.States.{state_of, IsSound}
use Rattle.machine_opcodes.specs.Routines.{last_routine}
use Rattle.machine_frames.specs.Went.{Went}
use Rattle.machine_frames.specs.declared.end.End.{End}
use Rattle.machine_frames.specs.declared.end.End.TheVariants as ends
use Rattle.machine_frames.proofs.Steps.{went_as, went_still, went_halt}
use Rattle.zcore_versions.specs.declared.version.StoryVersion.{StoryVersion}
use Rattle.zcore_versions.specs.Versions.{is_old, is_small, is_late, scale_of, routine_at}
use Rattle.zcore_versions.specs.Calls.{code_of, initial_values, has_values, test_values, set_locals, call_with_values}
use Rattle.zcore_versions.specs.Calls.{call_at, call_older}

pub calls_nothing : (version : StoryVersion) (here : Next) (after packed : ℕ) (v : Option ℕ) (arguments : List ℕ)
    (r : Result Next End) (s t : Recording Contents) → packed ≡ 0 → Went r s t (give_result here after v 0)
    → Went r s t (call_older version here after v packed arguments)
unfolding call_older
calls_nothing version here after packed v arguments r s t e w =
    went_as r (call_older version here after v packed arguments) (λ x. rw e refl) w

pub calls_routine : (version : StoryVersion) (here : Next) (after packed routine : ℕ) (v : Option ℕ) (arguments : List ℕ)
    (r : Result Next End) (s t : Recording Contents) → packed ≢ 0 → routine ≡ routine_at version packed
    → Went r s t (call_at version here after routine arguments v)
    → Went r s t (call_older version here after v packed arguments)
unfolding call_older
calls_routine version here after packed routine v arguments r s t other e w =
    went_as r (call_older version here after v packed arguments)
    (λ x. rw (ne_eqb packed 0 other) (ap (λ k. call_at version here after k arguments v (state_of s.store x)) (sym e))) w

pub old_call : (version : StoryVersion) (here : Next) (after routine : ℕ) (v : Option ℕ) (arguments : List ℕ)
    (r : Result Next End) (s t : Recording Contents) → is_old version ≡ true
    → Went r s t (call_with_values here after routine arguments v)
    → Went r s t (call_at version here after routine arguments v)
old_call version here after routine v arguments r s t old w =
    went_as r (call_at version here after routine arguments v) (λ x. rw old refl) w

pub new_call : (version : StoryVersion) (here : Next) (after routine : ℕ) (v : Option ℕ) (arguments : List ℕ)
    (r : Result Next End) (s t : Recording Contents) → is_old version ≡ false
    → Went r s t (call here after routine arguments v)
    → Went r s t (call_at version here after routine arguments v)
new_call version here after routine v arguments r s t new w =
    went_as r (call_at version here after routine arguments v) (λ x. rw new refl) w

pub values_there : (s : Recording Contents) (routine : ℕ) → IsSound s.store
    → has_values (memory_of s.store) routine ≡ true → Went (Ok tt) s s (test_values routine)
unfolding test_values
values_there s routine sound there =
    went_still s (test_values routine) sound (λ x. ap (λ b. test b faults.Code (state_of s.store x)) there)

pub values_missing : (s : Recording Contents) (routine : ℕ) → IsSound s.store
    → has_values (memory_of s.store) routine ≡ false
    → Went {A = Unit {0}} (Err (ends.Stop (places.Fault faults.Code))) s s (test_values routine)
unfolding test_values
values_missing s routine sound none =
    went_halt s (test_values routine) sound (λ x. ap (λ b. test b faults.Code (state_of s.store x)) none)

-- what follows the test of a call, with the values that were read before it
abbrev pub called : Next → ℕ → ℕ → List ℕ → Option ℕ → List ℕ → ℕ → Unit {0} → State → Out Next
called here after routine arguments v words code _ =
    call here after routine arguments v >>= λ next. set_locals (length arguments) words >>= λ _. goes_on code next.fuel

pub with_values : (r : Result Next End) {s t : Recording Contents} (here : Next) (after routine : ℕ) (arguments : List ℕ)
    (v : Option ℕ) (words : List ℕ) (code : ℕ)
    → words ≡ initial_values (memory_of s.store) routine (length arguments) → code ≡ code_of (memory_of s.store) routine
    → Went r s t (test_values routine >>= called here after routine arguments v words code)
    → Went r s t (call_with_values here after routine arguments v)
unfolding call_with_values
with_values r {s} {t} here after routine arguments v words code e f w =
    let m = memory_of s.store in
    let does : List ℕ → ℕ → State → Out Next = λ ws c. test_values routine >>= called here after routine arguments v ws c in
    went_as r (call_with_values here after routine arguments v)
    (λ x. ap (λ ws. does ws (code_of m routine) (state_of s.store x)) (sym e)
    ∙ ap (λ c. does words c (state_of s.store x)) (sym f)) w

-- where there are no values, the call is not begun
pub without_values : (r : Result Next End) {s t : Recording Contents} (here : Next) (after routine : ℕ)
    (arguments : List ℕ) (v : Option ℕ)
    → Went r s t (test_values routine >>= called here after routine arguments v
    (initial_values (memory_of s.store) routine (length arguments)) (code_of (memory_of s.store) routine))
    → Went r s t (call_with_values here after routine arguments v)
without_values r here after routine arguments v w = with_values r here after routine arguments v _ _ refl refl w

-- by how many bytes packed addresses count where the version is neither 5 nor 8

second_not : (a b : Bool) → (a || b) ≡ false → b ≡ false
second_not true b e = absurd (cc)
second_not false b e = e

small_scale : (version : StoryVersion) → is_small version ≡ true → scale_of version ≡ 2
small_scale version small = rw small refl

large_scale : (version : StoryVersion) → is_late version ≡ false → is_small version ≡ false → scale_of version ≡ 4
large_scale version early large =
    rw (large, second_not (version.number == 5) (version.number == 8) early) refl

near_by : (version : StoryVersion) (packed routine : ℕ) (b : Bool) → is_small version ≡ b → is_late version ≡ false
    → packed ≤ 65535 → version.routine_offset ≤ longest_story → routine ≡ routine_at version packed
    → routine ≤ last_routine
near_by version packed routine true small early le near is =
    let e : routine ≡ 2 * packed + version.routine_offset =
    is ∙ ap (λ k. k * packed + version.routine_offset) (small_scale version small) in
    omega (arith, e, le, near)
near_by version packed routine false large early le near is =
    let e : routine ≡ 4 * packed + version.routine_offset =
    is ∙ ap (λ k. k * packed + version.routine_offset) (large_scale version early large) in
    omega (arith, e, le, near)

-- a routine that a packed address stands for is not past the last one
pub routine_near : (version : StoryVersion) (packed routine : ℕ) → is_late version ≡ false → packed ≤ 65535
    → version.routine_offset ≤ longest_story → routine ≡ routine_at version packed → routine ≤ last_routine
routine_near version packed routine early le near is =
    near_by version packed routine (is_small version) refl early le near is
