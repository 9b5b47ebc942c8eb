-- A step of an instruction that the profile knows is the profile's step, or one that the profile refuses: an operation on
-- object 0, a store to Flags 2, a slip that is forgiven, or one that prints what the profile does not.
use Rattle.std.proofs.Common.{◌≡◌, ℕ, List, refl, ap, sym, ◌∙◌, Bool, true, false, cond, Option, Some, None, Result, Ok}
use Rattle.std.proofs.Common.{Err, ◌<◌, arith, inl, inr}
use Rattle.zcore.specs.declared.place.Fault.{Fault}
use Rattle.zcore.specs.declared.place.Fault.TheVariants as faults
use Rattle.zcore.specs.declared.place.Place.TheVariants as places
use Rattle.zcore.specs.declared.next.Next.{Next}
use Rattle.zcore.specs.Instruction.{Instruction, decode}
use Rattle.zcore.specs.Execution.{perform, execute, step}
use Rattle.zcore.specs.Parts.{fault, is_code, operand_values}
use Rattle.zcore.specs.State.{State, Out, done, halt, bound}
use Rattle.zcore.proofs.Ahead.{decode_ahead}
use Rattle.zcore.proofs.Falls.{step_falls}
use Rattle.zcore.proofs.FallsOfParts.{Falls, FallsFrom, falls_alike}
use Rattle.zcore.proofs.KeepingReads.{keeps_operand_values}
use Rattle.zcore.proofs.Waiting.{step_waits}
use Rattle.zcore.proofs.WaitingTests.{WaitsWell, Waits}
use Rattle.zcore_versions.specs.StandardLaws.{ends_in_fault}
use Rattle.zcore_standard.specs.Flags.{concerns_flags, perform_on_flags}
use Rattle.zcore_standard.specs.Forgiving.{may_be_forgiven, perform_forgiving}
use Rattle.zcore_standard.specs.Nothing.{concerns_nothing, perform_on_nothing, perform_known, execute_known, step_known}
use Rattle.zcore_standard.specs.Loaded.{Loaded}
use Rattle.zcore_standard.specs.Printing.{is_text, is_refused, by_alphabets, perform_text, perform_printing}
use Rattle.zcore_versions.proofs.FlagsFacts.{perform_flags_faults, perform_on_flags_falls, waits_perform_on_flags}
use Rattle.zcore_versions.proofs.ForgivingFacts.{SameOrRefused, forgiving_alike, perform_forgiving_falls}
use Rattle.zcore_versions.proofs.ForgivingFacts.{waits_perform_forgiving}
use Rattle.zcore_versions.proofs.Printing.{perform_text_falls, waits_perform_text, refused_faults}
use Rattle.zcore_versions.proofs.Objects.{perform_nothing_faults, perform_on_nothing_falls}
use Rattle.zcore_versions.proofs.Objects.{waits_perform_on_nothing}

neither : (b : Bool) → b ≡ false → b ≡ true → ⊥
neither true e f = cc
neither false e f = cc

not_both : (o : Option (List ℕ)) (alphabets : List ℕ) → o ≡ None → o ≡ Some alphabets → ⊥
not_both None alphabets e f = cc
not_both (Some x) alphabets e f = cc

-- what an instruction does with the values of its operands: in the profile, on object 0, to Flags 2, where it forgives a
-- slip, and as it prints
abbrev profile_does : Next → Instruction × ℕ → List ℕ → State → Out Next
profile_does here x values = perform x.0.operation here x.1 x.0.result x.0.branch values

abbrev nothing_does : Next → Instruction × ℕ → List ℕ → State → Out Next
nothing_does here x values = perform_on_nothing x.0.operation here x.1 x.0.result x.0.branch values

abbrev flags_does : Next → Instruction × ℕ → List ℕ → State → Out Next
flags_does here x values = perform_on_flags x.0.operation here x.1 values

abbrev forgiving_does : Next → Instruction × ℕ → List ℕ → State → Out Next
forgiving_does here x values = perform_forgiving x.0.operation here x.1 x.0.result x.0.branch values

abbrev text_does : Loaded → Next → Instruction × ℕ → List ℕ → State → Out Next
text_does loaded here x values = perform_text loaded x.0.operation here x.1 values

-- an instruction and the values of its operands, and what the profile does
record Given (here : Next) (s : State) (x : Instruction × ℕ) (values : List ℕ) (t : State) : Type 0 where
  read : decode s.memory here.program_counter ≡ Ok x
  given : operand_values x.0.operands s ≡ done values t
  plain : step here s ≡ profile_does here x values t

-- a step that does something else than the profile, which refuses it, if the alphabets are the default ones
record Instead (loaded : Loaded) (here : Next) (s : State) : Type 0 where
  x : Instruction × ℕ
  values : List ℕ
  between : State
  given : Given here s x values between
  does : State → Out Next
  known : step_known loaded here s ≡ does between
  refused : loaded.own_alphabets ≡ None → ends_in_fault (profile_does here x values between) ≡ true
  falls : here.program_counter < x.1 → FallsFrom here does
  waits : Waits does

module _ {P : Type 0} (loaded : Loaded) (here : Next) (s : State) (same : step_known loaded here s ≡ step here s → P)
    (instead : Instead loaded here s → P) where
  known_text : (x : Instruction × ℕ) (values : List ℕ) (t : State) → Given here s x values t
      → (loaded.own_alphabets ≡ None → is_refused (profile_does here x values t) ≡ true)
      → step_known loaded here s ≡ text_does loaded here x values t → P
  known_text x values t g refused known = instead (record {
    x = x;
    values = values;
    between = t;
    given = g;
    does = text_does loaded here x values;
    known = known;
    refused = λ own. refused_faults (profile_does here x values t) (refused own);
    falls = λ ahead. perform_text_falls loaded x.0.operation here x.1 values ahead;
    waits = waits_perform_text loaded x.0.operation here x.1 values;
  })

  known_refused : (x : Instruction × ℕ) (values : List ℕ) (t : State) (c : Bool) → Given here s x values t
      → is_refused (profile_does here x values t) ≡ c
      → step_known loaded here s ≡ cond c (text_does loaded here x values t) (profile_does here x values t) → P
  known_refused x values t true g refused known = known_text x values t g (λ _. refused) known
  known_refused x values t false g refused known = same (known ∙ sym g.plain)

  known_own : (x : Instruction × ℕ) (values : List ℕ) (t : State) (own : Option (List ℕ)) → Given here s x values t
      → loaded.own_alphabets ≡ own
      → step_known loaded here s
      ≡ by_alphabets own (profile_does here x values) (text_does loaded here x values) t → P
  known_own x values t (Some alphabets) g is known =
      known_text x values t g (λ none. absurd (not_both loaded.own_alphabets alphabets none is)) known
  known_own x values t None g is known =
      known_refused x values t (is_refused (profile_does here x values t)) g refl known

  known_printing : (x : Instruction × ℕ) (values : List ℕ) (t : State) (c : Bool) → Given here s x values t
      → step_known loaded here s
      ≡ cond c (by_alphabets loaded.own_alphabets (profile_does here x values) (text_does loaded here x values))
      (profile_does here x values) t → P
  known_printing x values t true g known = known_own x values t loaded.own_alphabets g refl known
  known_printing x values t false g known = same (known ∙ sym g.plain)

  known_forgiven : (x : Instruction × ℕ) (values : List ℕ) (t : State) → Given here s x values t
      → SameOrRefused (forgiving_does here x values t) (profile_does here x values t)
      → step_known loaded here s ≡ forgiving_does here x values t → P
  known_forgiven x values t g (inl alike) known = same (known ∙ alike ∙ sym g.plain)
  known_forgiven x values t g (inr refused) known = instead (record {
    x = x;
    values = values;
    between = t;
    given = g;
    does = forgiving_does here x values;
    known = known;
    refused = λ own. refused;
    falls = λ ahead. perform_forgiving_falls x.0.operation here x.1 x.0.result x.0.branch values ahead;
    waits = waits_perform_forgiving x.0.operation here x.1 x.0.result x.0.branch values;
  })

  known_forgiving : (x : Instruction × ℕ) (values : List ℕ) (t : State) (b : Bool) → Given here s x values t
      → may_be_forgiven x.0.operation values ≡ b
      → step_known loaded here s
      ≡ cond b (forgiving_does here x values)
      (perform_printing loaded x.0.operation here x.1 x.0.result x.0.branch values) t → P
  known_forgiving x values t true g may known = known_forgiven x values t g
      (forgiving_alike x.0.operation here x.1 x.0.result x.0.branch values t may) known
  known_forgiving x values t false g may known = known_printing x values t (is_text x.0.operation) g known

  known_flags : (x : Instruction × ℕ) (values : List ℕ) (t : State) (b : Bool) → Given here s x values t
      → concerns_flags x.0.operation values ≡ b
      → step_known loaded here s
      ≡ cond b (flags_does here x values)
      (cond (may_be_forgiven x.0.operation values) (forgiving_does here x values)
      (perform_printing loaded x.0.operation here x.1 x.0.result x.0.branch values)) t → P
  known_flags x values t true g flags known = instead (record {
    x = x;
    values = values;
    between = t;
    given = g;
    does = flags_does here x values;
    known = known;
    refused = λ own. perform_flags_faults x.0.operation here x.1 x.0.result x.0.branch values t flags;
    falls = λ ahead. perform_on_flags_falls x.0.operation here x.1 values ahead;
    waits = waits_perform_on_flags x.0.operation here x.1 values;
  })
  known_flags x values t false g flags known =
      known_forgiving x values t (may_be_forgiven x.0.operation values) g refl known

  known_at : (x : Instruction × ℕ) (values : List ℕ) (t : State) (b : Bool) → Given here s x values t
      → concerns_nothing x.0.operation values ≡ b
      → step_known loaded here s
      ≡ cond b (nothing_does here x values)
      (cond (concerns_flags x.0.operation values) (flags_does here x values)
      (cond (may_be_forgiven x.0.operation values) (forgiving_does here x values)
      (perform_printing loaded x.0.operation here x.1 x.0.result x.0.branch values))) t → P
  known_at x values t true g none known = instead (record {
    x = x;
    values = values;
    between = t;
    given = g;
    does = nothing_does here x values;
    known = known;
    refused = λ own. perform_nothing_faults x.0.operation here x.1 x.0.result x.0.branch values t none;
    falls = λ ahead. perform_on_nothing_falls x.0.operation here x.1 x.0.result x.0.branch values ahead;
    waits = waits_perform_on_nothing x.0.operation here x.1 x.0.result x.0.branch values;
  })
  known_at x values t false g none known =
      known_flags x values t (concerns_flags x.0.operation values) g refl known

  known_of : (x : Instruction × ℕ) (o : Out (List ℕ))
      → decode s.memory here.program_counter ≡ Ok x → operand_values x.0.operands s ≡ o
      → step_known loaded here s
      ≡ bound o (λ values. perform_known loaded x.0.operation here x.1 x.0.result x.0.branch values)
      → step here s ≡ bound o (λ values. profile_does here x values) → P
  known_of x (done values t) read given known plain =
      known_at x values t (concerns_nothing x.0.operation values)
      (record { read = read; given = given; plain = plain }) refl known
  known_of x (halt place t) read given known plain = same (known ∙ sym plain)

  known_if : (code : Bool) (r : Result (Instruction × ℕ) Fault)
      → decode s.memory here.program_counter ≡ r
      → step_known loaded here s ≡ cond code (execute_known loaded here r s) (fault faults.Code s)
      → step here s ≡ cond code (execute here r s) (fault faults.Code s) → P
  known_if false r read known plain = same (known ∙ sym plain)
  known_if true (Err cause) read known plain = same (known ∙ sym plain)
  known_if true (Ok x) read known plain = known_of x (operand_values x.0.operands s) read refl known plain

  known_cases : P
  unfolding step_known step
  known_cases =
      known_if (is_code s.memory here.program_counter) (decode s.memory here.program_counter) refl refl refl

-- what the profile plays without a fault
pub known_keeps : (loaded : Loaded) (here : Next) (s : State) → loaded.own_alphabets ≡ None
    → ends_in_fault (step here s) ≡ false → step_known loaded here s ≡ step here s
known_keeps loaded here s own e = known_cases loaded here s (λ same. same)
    (λ n. absurd (neither (ends_in_fault (step here s)) e (ap ends_in_fault n.given.plain ∙ n.refused own)))

-- the weight falls
pub step_known_falls : (loaded : Loaded) (here next : Next) (s t : State) → step_known loaded here s ≡ done next t
    → Falls here s next t
step_known_falls loaded here next s t h = known_cases loaded here s (λ same. step_falls here next s t (sym same ∙ h))
    (λ n.
    let ahead = decode_ahead s.memory here.program_counter n.x n.given.read in
    let alike = keeps_operand_values n.x.0.operands s n.between n.values n.given.given in
    falls_alike here next s n.between t alike
    (n.falls ahead.0 n.between t next (omega (arith, ahead.1, alike.memory)) (sym n.known ∙ h)))

-- what the profile refuses does not wait here
pub waits_step_known : (loaded : Loaded) (here : Next) (s t : State)
    → step_known loaded here s ≡ halt places.Waiting t → WaitsWell t
waits_step_known loaded here s t h = known_cases loaded here s (λ same. step_waits here s t (sym same ∙ h))
    (λ n. n.waits n.between t (sym n.known ∙ h))
