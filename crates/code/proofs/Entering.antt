-- How the machine enters a routine that the machine of items enters.
use Rattle.std.proofs.Common.{◌≡◌, ℕ, zero, suc, ◌+◌, ◌-◌, ◌*◌, ◌<◌, ◌≤◌, List, [], ◌∷◌, ◌++◌, length, take}
use Rattle.std.proofs.Common.{slice_index, Option, None, Bool, true, false, refl, sym, ap, ◌∙◌, subst, arith}
use Rattle.std.proofs.Common.{length-append}
use Rattle.std.specs.Prelude.{nat_lt, nat_le, nat_eq, if◌then◌else◌, replicate, map}
use Rattle.std.specs.List.{All}
use Rattle.std.proofs.lemmas.Bool.{lt-ltb, le-ltb, le-leb, ne_eqb, ltb-true, ltb-false}
use Rattle.std.proofs.lemmas.List.{length-take-le, length-replicate}
use Rattle.ztext.specs.Text.{Holds}
use Rattle.ztext.proofs.Holding.{holds_byte}
use Rattle.zcore.specs.declared.place.Limit.TheVariants as limits
use Rattle.zcore.specs.declared.place.Place.TheVariants as places
use Rattle.zcore.specs.Header.{static_base_of}
use Rattle.zcore.specs.State.{Frame, State, done, halt, words}
use Rattle.zcore.specs.Parts as machine
use Rattle.zcore.specs.Parts.{unpacked, call, test_routine, test_calls, spend}
use Rattle.zcore.specs.Execution.{step, call_packed}
use Rattle.meaning.specs.Resolved.{ProgramOf}
use Rattle.meaning.specs.World.{Situation, ended, spend_from}
use Rattle.meaning.specs.Meaning.{locals_of, routine_at}
use Rattle.meaning.specs.Accepted.{IsAccepted}
use Rattle.meaning.specs.Objects.{Objects}
use Rattle.code_items.specs.Statements.{routine_items}
use Rattle.code_items.specs.Stack.{Caller}
use Rattle.code_items.specs.Stack as stack
use Rattle.code_drafts.specs.Addresses.{Addresses}
use Rattle.code.specs.Bytes.{code_bytes}
use Rattle.code.specs.HeldProgram.{sizes_of, HoldsProgram}
use Rattle.code.proofs.Play.{Stored, address, frames_of, back_of, result_of, other_counts, IsCaller, Led, none_aside}
use Rattle.code.proofs.Memory.{holds_on}
use Rattle.code.proofs.Steps.{point, one_step}
use Rattle.code.proofs.Places.{starts}
use Rattle.code.proofs.Ends.{does_halt}
use Rattle.code.proofs.HeldRoutines.{few_locals, caller_words}

-- Locals

-- with at most 15 locals, the machine's are those of the meaning
pub locals_same : (count : ℕ) (arguments : List ℕ) → count ≤ 15
    → machine.locals_of count arguments ≡ locals_of count arguments
locals_same count arguments few = go count 15 arguments few
  where
    zeros : (n m : ℕ) → n ≤ m → take {A = ℕ} n (replicate m 0) ≡ take {A = ℕ} n (replicate n 0)
    zeros zero m h = refl
    zeros (suc n) zero h = absurd (omega (arith, h))
    zeros (suc n) (suc m) h = ap (λ xs. 0 ∷ xs) (zeros n m (omega (arith, h)))

    more_zeros : (n k m : ℕ) → n ≤ k → n ≤ m → take {A = ℕ} n (replicate m 0) ≡ take {A = ℕ} n (replicate k 0)
    more_zeros n k m h g = zeros n m g ∙ sym (zeros n k h)

    both : (n k m : ℕ) (xs : List ℕ) → n ≤ k → n ≤ m → take n (xs ++ replicate m 0) ≡ take n (xs ++ replicate k 0)
    both n k m [] h g = more_zeros n k m h g
    both zero k m (x ∷ xs) h g = refl
    both (suc n) k m (x ∷ xs) h g = ap (λ ys. x ∷ ys) (both n k m xs (omega (arith, h)) (omega (arith, g)))

    go : (n m : ℕ) (xs : List ℕ) → n ≤ m → take n (xs ++ replicate m 0) ≡ take n (xs ++ replicate n 0)
    go n m xs h = both n n m xs (omega arith) h

pub locals_count : (count : ℕ) (arguments : List ℕ) → length (locals_of count arguments) ≡ count
locals_count count arguments =
    length-take-le count (arguments ++ replicate count 0)
    (omega (arith, length-append arguments (replicate count 0), length-replicate {A = ℕ} count 0))

-- Calls of the machine

abbrev pub in_frames : List ℕ → List Frame → List ℕ → State
in_frames memory frames text = record { memory = memory; frames = frames; pending = None; text = text }

-- a routine that can be called
pub record Callable (memory : List ℕ) (frames : List Frame) (packed count : ℕ) : Type 0 where
  pub named : 0 < packed
  pub above : 64 ≤ unpacked memory packed
  pub within : unpacked memory packed < length memory
  pub locals : slice_index memory (unpacked memory packed) ≡ count
  pub few : count ≤ 15
  pub room : words frames + count ≤ 65536

module _ (memory : List ℕ) (frames : List Frame) (text : List ℕ) (packed count : ℕ)
    (can : Callable memory frames packed count) (pc after : ℕ) (arguments : List ℕ) (result : Option ℕ) where
  abbrev caller : State
  caller = in_frames memory frames text

  pub enters : (fuel : ℕ) → length frames < 1001
      → call_packed (point pc (suc fuel)) after result packed arguments caller
      ≡ done (point (unpacked memory packed + 1) fuel)
      (in_frames memory (record {
        locals = machine.locals_of count arguments;
        stack = [];
        arguments = length arguments;
        return_address = after;
        result = result;
      } ∷ frames) text)
  unfolding call_packed call test_routine test_calls spend machine.enter
  enters fuel fits =
      let a : nat_eq packed 0 ≡ false = ne_eqb _ _ (λ h. omega (arith, h, can.named)) in
      let b : nat_le 64 (unpacked memory packed) ≡ true = le-leb _ _ can.above in
      let c : nat_lt (unpacked memory packed) (length memory) ≡ true = lt-ltb _ _ can.within in
      let d = can.locals in
      let e : nat_lt 15 count ≡ false = le-ltb _ _ can.few in
      let f : nat_le (words frames + count) 65536 ≡ true = le-leb _ _ can.room in
      let g : nat_lt (length frames) 1001 ≡ true = lt-ltb _ _ fits in
      let h : nat_eq (suc fuel) 0 ≡ false = ne_eqb _ _ (λ h. omega (arith, h)) in
      let i : suc fuel - 1 ≡ fuel = omega arith in
      rw a (rw b (rw c (rw d (rw e (rw f (rw g (rw h (rw i
      (ap (λ (n : ℕ). done (point (unpacked memory packed + 1) fuel)
      (in_frames memory (record {
        locals = machine.locals_of n arguments;
        stack = [];
        arguments = length arguments;
        return_address = after;
        result = result;
      } ∷ frames) text)) can.locals)))))))))

  pub no_unit : length frames < 1001 → call_packed (point pc 0) after result packed arguments caller
      ≡ halt (places.Limit limits.Fuel) caller
  unfolding call_packed call test_routine test_calls spend
  no_unit fits =
      let a : nat_eq packed 0 ≡ false = ne_eqb _ _ (λ h. omega (arith, h, can.named)) in
      let b : nat_le 64 (unpacked memory packed) ≡ true = le-leb _ _ can.above in
      let c : nat_lt (unpacked memory packed) (length memory) ≡ true = lt-ltb _ _ can.within in
      let d = can.locals in
      let e : nat_lt 15 count ≡ false = le-ltb _ _ can.few in
      let f : nat_le (words frames + count) 65536 ≡ true = le-leb _ _ can.room in
      let g : nat_lt (length frames) 1001 ≡ true = lt-ltb _ _ fits in
      rw a (rw b (rw c (rw d (rw e (rw f (rw g refl))))))

  pub no_call : (fuel : ℕ) → 1001 ≤ length frames
      → call_packed (point pc fuel) after result packed arguments caller ≡ halt (places.Limit limits.Calls) caller
  unfolding call_packed call test_routine test_calls
  no_call fuel many =
      let a : nat_eq packed 0 ≡ false = ne_eqb _ _ (λ h. omega (arith, h, can.named)) in
      let b : nat_le 64 (unpacked memory packed) ≡ true = le-leb _ _ can.above in
      let c : nat_lt (unpacked memory packed) (length memory) ≡ true = lt-ltb _ _ can.within in
      let d = can.locals in
      let e : nat_lt 15 count ≡ false = le-ltb _ _ can.few in
      let f : nat_le (words frames + count) 65536 ≡ true = le-leb _ _ can.room in
      let g : nat_lt (length frames) 1001 ≡ false = le-ltb _ _ many in
      rw a (rw b (rw c (rw d (rw e (rw f (rw g refl))))))

-- Calls of the program's routines

module _ (story : List ℕ) (a : Addresses) (p : ProgramOf) (accepted : IsAccepted p) (holds : HoldsProgram story a p)
  where
    -- the machine counts packed addresses in the story's way
    pub same_place : (globals memory : List ℕ) (arrays : List (List ℕ)) (objects : Objects) (packed : ℕ)
        → Stored story a p globals arrays objects memory
        → unpacked memory packed ≡ unpacked story packed
    same_place globals memory arrays objects packed stored =
        ap (λ (b : ℕ). (if nat_eq b 8 then 8 else 4) * packed) (stored.header 0 (omega arith))

    frames_count : (callers : List Caller) (counts : List ℕ)
        → length (frames_of story a p callers counts) ≡ suc (length callers)
    frames_count [] counts = refl
    frames_count (c ∷ callers) counts = ap suc (frames_count callers (other_counts counts))

    pub callable : (globals memory : List ℕ) (arrays : List (List ℕ)) (objects : Objects) (callers : List Caller)
        (counts : List ℕ) (r : ℕ)
        → r < length p.routines → Stored story a p globals arrays objects memory → All (IsCaller story a p) callers
        → length callers ≤ 1000
        → Callable memory (frames_of story a p callers counts) (slice_index a.routines r)
        (routine_at p.routines r).locals
    callable globals memory arrays objects callers counts r known stored all few =
        let h = holds.routines r known in
        let packed = slice_index a.routines r in
        let is = same_place globals memory arrays objects packed stored in
        let there : Holds memory (unpacked story packed)
        ((routine_at p.routines r).locals ∷ code_bytes (sizes_of p) a (routine_items (routine_at p.routines r))) =
        holds_on (static_base_of story) (unpacked story packed) story memory _ stored.kept h.above h.bytes in
        let byte = holds_byte memory (unpacked story packed) (routine_at p.routines r).locals
        (code_bytes (sizes_of p) a (routine_items (routine_at p.routines r))) there in
        let waiting = caller_words story a p accepted holds callers counts all in
        let locals = few_locals story a p accepted holds r known in
        record {
          named = h.named;
          above = omega (arith, is, h.above, holds.globals_above, holds.globals_below);
          within = subst (λ x. x < length memory) (sym is) byte.within;
          locals = ap (slice_index memory) is ∙ byte.here;
          few = locals;
          room = omega (arith, waiting, few, locals);
        }

    -- A call whose caller waits already: the limit of calls, then the unit, and then the routine begins.
    pub enter_led : (full pc : ℕ) (begin : State) (memory counts : List ℕ) (r : ℕ) (arguments : List ℕ)
        (callers : List Caller) (s : Situation)
        → r < length p.routines → Stored story a p s.world.globals s.world.arrays s.world.objects memory
        → length s.world.globals ≡ length p.globals → map length s.world.arrays ≡ (sizes_of p).arrays
        → All (IsCaller story a p) callers → length callers ≤ 1000
        → step (point pc s.world.fuel) begin
        ≡ call_packed (point pc s.world.fuel) (back_of story a p callers) (result_of story a p callers)
        (slice_index a.routines r) arguments (in_frames memory (frames_of story a p callers counts) s.world.text)
        → Led story a p full (point pc s.world.fuel) begin s.world (stack.enter p r arguments callers s)
    enter_led full pc begin memory counts r arguments callers s known stored globals sizes all few called =
        go (nat_lt (length callers) 1000) refl s.world.fuel called
      where
        frames : List Frame
        frames = frames_of story a p callers counts

        st : State
        st = in_frames memory frames s.world.text

        count : ℕ
        count = (routine_at p.routines r).locals

        packed : ℕ
        packed = slice_index a.routines r

        can : Callable memory frames packed count
        can = callable s.world.globals memory s.world.arrays s.world.objects callers counts r known stored all few

        Called : ℕ → Type 0
        Called fuel = step (point pc fuel) begin ≡ call_packed (point pc fuel) (back_of story a p callers)
            (result_of story a p callers) packed arguments st

        entered : ℕ → stack.ItemState
        entered fuel = record {
          routine = r;
          place = 0;
          stack = [];
          put_aside = None;
          callers = callers;
          situation = record { locals = locals_of count arguments; world = record (s.world) { fuel = fuel } };
        }

        many : List ℕ → State
        many locals = in_frames memory (record {
          locals = locals;
          stack = [];
          arguments = length arguments;
          return_address = back_of story a p callers;
          result = result_of story a p callers;
        } ∷ frames) s.world.text

        go : (b : Bool) → nat_lt (length callers) 1000 ≡ b → (fuel : ℕ) → Called fuel
            → Led story a p full (point pc fuel) begin s.world
            (if b then stack.after_part (spend_from fuel s) (λ _ after. stack.goes (record {
              routine = r;
              place = 0;
              stack = [];
              put_aside = None;
              callers = callers;
              situation = record { locals = locals_of count arguments; world = after.world };
            }))
            else stack.ends (ended (places.Limit limits.Calls) s.world))
        go false e fuel h =
            does_halt full s.world (point pc fuel) begin st (places.Limit limits.Calls) refl
            (h ∙ no_call memory frames s.world.text packed count can pc (back_of story a p callers) arguments
            (result_of story a p callers) fuel (omega (arith, frames_count callers counts, ltb-false _ _ e)))
        go true e zero h =
            does_halt full s.world (point pc 0) begin st (places.Limit limits.Fuel) refl
            (h ∙ no_unit memory frames s.world.text packed count can pc (back_of story a p callers) arguments
            (result_of story a p callers) (omega (arith, frames_count callers counts, ltb-true _ _ e)))
        go true e (suc fuel) h =
            let open_calls : length callers < 1000 = ltb-true _ _ e in
            let place : unpacked memory packed + 1 ≡ address story a p r 0 =
            omega (
              arith,
              same_place s.world.globals memory s.world.arrays s.world.objects packed stored,
              starts (sizes_of p) (routine_items (routine_at p.routines r)),
            ) in
            record {
              memory = memory;
              count = length arguments;
              counts = counts;
              good = record {
                known = known;
                locals = locals_count count arguments;
                room = omega arith;
                callers = all;
                few = open_calls;
                globals = globals;
                sizes = sizes;
                stored = stored;
                put_aside = none_aside story memory;
              };
              leads = one_step (point pc (suc fuel)) (point (address story a p r 0) fuel) begin
                  (many (locals_of count arguments))
                  (h ∙ enters memory frames s.world.text packed count can pc (back_of story a p callers) arguments
                  (result_of story a p callers) fuel (omega (arith, frames_count callers counts, open_calls))
                  ∙ ap (λ (x : ℕ). done (point x fuel) (many (machine.locals_of count arguments))) place
                  ∙ ap (λ (l : List ℕ). done (point (address story a p r 0) fuel) (many l))
                  (locals_same count arguments can.few));
            }
