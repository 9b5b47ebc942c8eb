-- What the first bytes of a file say of it: a file has the same story where it is cut after the most bytes of a form.
use Rattle.std.proofs.Common.{◌≡◌, ◌+◌, ◌-◌, ◌*◌, ◌<◌, ◌≤◌, ◌∙◌, ℕ, zero, suc, List, length, take, drop, refl, sym, ap}
use Rattle.std.proofs.Common.{inl, inr, arith, subst, Bool, true, false, if◌then◌else◌, ◌&&◌, Option, Some, None, Result, Ok, Err}
use Rattle.std.proofs.lemmas.Bool.{cases_Bool, cases_lt, leb-true, lt-leb, and_parts, and_right}
use Rattle.std.proofs.lemmas.Bool.Decides.{nat_tests}
use Rattle.std.proofs.lemmas.List.{get_or-take, length-take, drop-take, take-take}
use Rattle.std.specs.Prelude.{nat_le, slice_range, codes}
use Rattle.iff_files.specs.declared.blorb_fault.BlorbFault.{BlorbFault}
use Rattle.iff_files.specs.declared.blorb_fault.BlorbFault.TheVariants.{Damaged, OtherProgram}
use Rattle.iff_files.specs.Stories.{chunk_end, has_name, index_end, is_blorb, is_whole, most_bytes, number_at, program_in}
use Rattle.iff_files.specs.Stories.{resources, story_at, story_in}

number_cut : (n : ℕ) (file : List ℕ) (at : ℕ) → at + 4 ≤ n → number_at (take n file) at ≡ number_at file at
number_cut n file at h =
    rw (
      get_or-take n file at 0 (omega arith),
      get_or-take n file (at + 1) 0 (omega arith),
      get_or-take n file (at + 2) 0 (omega arith),
      get_or-take n file (at + 3) 0 (omega arith),
    ) refl

long_cut : (n : ℕ) (file : List ℕ) → 12 ≤ n → nat_le 12 (length (take n file)) ≡ nat_le 12 (length file)
long_cut n file h = rw (length-take n file) (grind (arith, nat_tests))

-- the first twelve bytes tell whether a file is a Blorb file
pub is_blorb_cut : (n : ℕ) (file : List ℕ) → 12 ≤ n → is_blorb (take n file) ≡ is_blorb file
is_blorb_cut n file h =
    let long : nat_le 12 (length (take n file)) ≡ nat_le 12 (length file) = long_cut n file h in
    let first : number_at (take n file) 0 ≡ number_at file 0 = number_cut n file 0 (omega arith) in
    let third : number_at (take n file) 8 ≡ number_at file 8 = number_cut n file 8 (omega arith) in
    cc

chunk_cut : (n : ℕ) (file : List ℕ) (at : ℕ) → at + 8 ≤ n → chunk_end (take n file) at ≡ chunk_end file at
chunk_cut n file at h = ap (λ k. at + 8 + k) (number_cut n file (at + 4) (omega arith))

-- a form of few enough bytes is in a file if it is in what is kept of that
form_cut : (n e : ℕ) (file : List ℕ) → most_bytes ≤ n
    → (nat_le e (length (take n file)) && nat_le e most_bytes) ≡ (nat_le e (length file) && nat_le e most_bytes)
form_cut n e file h = rw (length-take n file) (grind (arith, nat_tests))

is_whole_cut : (n : ℕ) (file : List ℕ) → most_bytes ≤ n → is_whole (take n file) ≡ is_whole file
is_whole_cut n file h =
    let form : chunk_end (take n file) 0 ≡ chunk_end file 0 = chunk_cut n file 0 (omega arith) in
    let within : (nat_le (chunk_end file 0) (length (take n file)) && nat_le (chunk_end file 0) most_bytes)
    ≡ (nat_le (chunk_end file 0) (length file) && nat_le (chunk_end file 0) most_bytes) =
    form_cut n (chunk_end file 0) file h in
    let name : number_at (take n file) 12 ≡ number_at file 12 = number_cut n file 12 (omega arith) in
    let index : chunk_end (take n file) 12 ≡ chunk_end file 12 = chunk_cut n file 12 (omega arith) in
    let count : number_at (take n file) 20 ≡ number_at file 20 = number_cut n file 20 (omega arith) in
    cc

program_cut : (n : ℕ) (file : List ℕ) (at count : ℕ) → at + 12 * count ≤ n
    → program_in (take n file) at count ≡ program_in file at count
program_cut n file at zero h = refl
program_cut n file at (suc others) h =
    rw (
      number_cut n file at (omega arith),
      number_cut n file (at + 8) (omega arith),
      program_cut n file (at + 12) others (omega arith),
    ) refl

range_of_cut : (from m to : ℕ) (file : List ℕ) → to - from ≤ m
    → slice_range (take (from + m) file) from to ≡ slice_range file from to
range_of_cut from m to file h = rw (drop-take from m file, take-take (to - from) m (drop from file) h) refl

range_cut : (n from to : ℕ) (file : List ℕ) → from ≤ to → to ≤ n
    → slice_range (take n file) from to ≡ slice_range file from to
range_cut n from to file h k =
    let parted : from + (n - from) ≡ n = omega arith in
    subst (λ (m : ℕ). slice_range (take m file) from to ≡ slice_range file from to) parted
    (range_of_cut from (n - from) to file (omega arith))

-- the story that the chunk from a place to another has, by two tests
story_by : List ℕ → ℕ → ℕ → Bool → Bool → Result (List ℕ) BlorbFault
story_by file at to is_placed is_story =
    if is_placed then (if is_story then Ok (slice_range file (at + 8) to) else Err OtherProgram) else Err Damaged

story_by_cut : (n at to : ℕ) (file : List ℕ) (p s : Bool) → at + 8 ≤ to → (p ≡ true → to ≤ n)
    → story_by (take n file) at to p s ≡ story_by file at to p s
unfolding story_by
story_by_cut n at to file false s h k = refl
story_by_cut n at to file true false h k = refl
story_by_cut n at to file true true h k = ap Ok (range_cut n (at + 8) to file h (k refl))

is_placed : List ℕ → ℕ → Bool
is_placed file at = nat_le (index_end file) at && nat_le (chunk_end file at) (chunk_end file 0)

by_tests : (file : List ℕ) (at : ℕ)
    → story_at file (Some at) ≡ story_by file at (chunk_end file at) (is_placed file at) (has_name file at (codes "ZCOD"))
unfolding story_by is_placed
by_tests file at = refl

placed_in_form : (file : List ℕ) (at : ℕ) → is_placed file at ≡ true → chunk_end file at ≤ chunk_end file 0
unfolding is_placed
placed_in_form file at h =
    leb-true (chunk_end file at) (chunk_end file 0)
    (and_parts (nat_le (index_end file) at) (nat_le (chunk_end file at) (chunk_end file 0)) h).1

is_placed_cut : (n : ℕ) (file : List ℕ) (at : ℕ) → 24 ≤ n → at + 8 ≤ n → is_placed (take n file) at ≡ is_placed file at
unfolding is_placed
is_placed_cut n file at h room =
    let form : chunk_end (take n file) 0 ≡ chunk_end file 0 = chunk_cut n file 0 (omega arith) in
    let chunk : chunk_end (take n file) at ≡ chunk_end file at = chunk_cut n file at room in
    let count : number_at (take n file) 20 ≡ number_at file 20 = number_cut n file 20 (omega arith) in
    cc

-- a chunk whose heading is in the form
within : (n : ℕ) (file : List ℕ) (at : ℕ) → most_bytes ≤ n → chunk_end file 0 ≤ n → at + 8 ≤ n
    → story_at (take n file) (Some at) ≡ story_at file (Some at)
within n file at h k room =
    let chunk : chunk_end (take n file) at ≡ chunk_end file at = chunk_cut n file at room in
    let placed : is_placed (take n file) at ≡ is_placed file at = is_placed_cut n file at (omega arith) room in
    let name : number_at (take n file) at ≡ number_at file at = number_cut n file at (omega arith) in
    let tested : story_by (take n file) at (chunk_end (take n file) at) (is_placed (take n file) at)
    (has_name (take n file) at (codes "ZCOD"))
    ≡ story_by (take n file) at (chunk_end file at) (is_placed file at) (has_name file at (codes "ZCOD")) = cc in
    by_tests (take n file) at ∙ tested
    ∙ story_by_cut n at (chunk_end file at) file (is_placed file at) (has_name file at (codes "ZCOD")) (omega arith)
    (λ p. omega (arith, placed_in_form file at p))
    ∙ sym (by_tests file at)

-- one whose heading passes the end of the form
beyond : (file : List ℕ) (at : ℕ) → chunk_end file 0 < at + 8 → story_at file (Some at) ≡ Err Damaged
beyond file at h =
    let passes : nat_le (chunk_end file at) (chunk_end file 0) ≡ false =
    lt-leb (chunk_end file at) (chunk_end file 0) (omega arith) in
    rw (passes, and_right (nat_le (index_end file) at) false refl) refl

story_at_cut : (n : ℕ) (file : List ℕ) (place : Option ℕ) → most_bytes ≤ n → chunk_end file 0 ≤ n
    → story_at (take n file) place ≡ story_at file place
story_at_cut n file None h k = refl
story_at_cut n file (Some at) h k =
    elim (cases_lt (chunk_end file 0) (at + 8)) [
      | inl past ↦
          let form : chunk_end (take n file) 0 ≡ chunk_end file 0 = chunk_cut n file 0 (omega arith) in
          beyond (take n file) at (omega arith) ∙ sym (beyond file at past)
      | inr room ↦ within n file at h k (omega arith)
    ]

whole_in_most : (file : List ℕ) → is_whole file ≡ true
    → (index_end file ≤ chunk_end file 0) × (chunk_end file 0 ≤ most_bytes)
whole_in_most file h = (grind (arith, nat_tests), grind (arith, nat_tests))

-- the story of a Blorb file, cut after 64 MB, is that of the file
pub story_in_cut : (n : ℕ) (file : List ℕ) → most_bytes ≤ n → story_in (take n file) ≡ story_in file
story_in_cut n file h =
    elim (cases_Bool (is_whole file)) [
      | inl whole ↦
          let whole_cut : is_whole (take n file) ≡ true = is_whole_cut n file h ∙ whole in
          let places : (index_end file ≤ chunk_end file 0) × (chunk_end file 0 ≤ most_bytes) = whole_in_most file whole in
          let count : resources (take n file) ≡ resources file = number_cut n file 20 (omega arith) in
          let program : program_in (take n file) 24 (resources file) ≡ program_in file 24 (resources file) =
          program_cut n file 24 (resources file) (omega arith) in
          rw (whole_cut, whole, count, program)
          (story_at_cut n file (program_in file 24 (resources file)) h (omega arith))
      | inr damaged ↦
          let cut : is_whole (take n file) ≡ false = is_whole_cut n file h ∙ damaged in
          rw (cut, damaged) refl
    ]
