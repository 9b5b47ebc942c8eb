-- What holds of the routines of a program that stands in a story: their locals, and where their code stands.
use Rattle.std.proofs.Common.{◌≡◌, ℕ, zero, suc, ◌+◌, ◌*◌, ◌^◌, ◌<◌, ◌≤◌, List, [], ◌∷◌, length, slice_index}
use Rattle.std.proofs.Common.{Bool, true, false, refl, sym, ap, ◌∙◌, subst, arith}
use Rattle.std.specs.Prelude.{nat_eq, if◌then◌else◌, slice_index_or}
use Rattle.std.specs.List.{All}
use Rattle.std.proofs.lemmas.List.{length-reverse}
use Rattle.zcore.specs.Header.{globals_of, static_base_of}
use Rattle.zcore.specs.State.{words}
use Rattle.meaning.specs.Resolved.{RoutineOf, ProgramOf}
use Rattle.meaning.specs.Meaning.{no_routine, routine_at}
use Rattle.meaning.specs.Accepted.{IsAccepted}
use Rattle.meaning.specs.Objects.{Objects}
use Rattle.code_items.specs.Stack.{Caller}
use Rattle.code_drafts.specs.Addresses.{Addresses}
use Rattle.code.specs.HeldProgram.{sizes_of, HoldsProgram}
use Rattle.code.proofs.Play.{Stored, items_in, address, frames_of, IsCaller, other_counts}
use Rattle.code.proofs.Memory.{Ground}
use Rattle.code.proofs.Places.{ends_by}

-- a routine by its number, in the words of lists
routine_is : (rs : List RoutineOf) (n : ℕ) → routine_at rs n ≡ slice_index_or rs n no_routine
routine_is [] n = refl
routine_is (r ∷ rs) zero = refl
routine_is (r ∷ rs) (suc n) = routine_is rs n

-- the address of a packed address that is a word
pub unpacked_low : (b : Bool) (k : ℕ) → k < 65536 → (if b then 8 else 4) * k < 524288
unpacked_low true k h = omega (arith, h)
unpacked_low false k h = omega (arith, h)

module _ (story : List ℕ) (a : Addresses) (p : ProgramOf) (accepted : IsAccepted p) (holds : HoldsProgram story a p)
  where
    -- a routine of the program has at most 15 locals
    pub few_locals : (r : ℕ) → r < length p.routines → (routine_at p.routines r).locals ≤ 15
    few_locals r known =
        subst (λ (x : RoutineOf). x.locals ≤ 15) (sym (routine_is p.routines r))
        (accepted.routines r no_routine known).0

    -- calls that wait have at most 63 words each
    pub caller_words : (cs : List Caller) (counts : List ℕ) → All (IsCaller story a p) cs
        → words (frames_of story a p cs counts) ≤ 63 * length cs
    caller_words [] counts all = omega arith
    caller_words (c ∷ cs) counts all =
        let here : IsCaller story a p c = all 0 c (omega arith) in
        let rest = caller_words cs (other_counts counts) (λ k d h. all (suc k) d (omega (arith, h))) in
        omega (arith, rest, here.room, here.locals, few_locals c.routine here.known, length-reverse c.stack)

    -- where the code of a routine stands
    pub address_high : (r n : ℕ) → r < length p.routines → static_base_of story ≤ address story a p r n
    address_high r n known = omega (arith, (holds.routines r known).above)

    -- and below the end of what can be read of texts
    pub address_low : (r n : ℕ) → r < length p.routines → address story a p r n < 2 ^ 32
    address_low r n known =
        let routine = holds.routines r known in
        let short = ends_by (sizes_of p) (items_in story a p r) n in
        omega (
          arith,
          short,
          routine.short,
          unpacked_low (nat_eq (slice_index story 0) 8) (slice_index a.routines r) routine.word,
        )

    pub ground_is : (m globals : List ℕ) (arrays : List (List ℕ)) (objects : Objects)
        → Stored story a p globals arrays objects m
        → Ground (static_base_of story) m
    ground_is m globals arrays objects stored =
        let b = stored.header 12 (omega arith) in
        let c = stored.header 13 (omega arith) in
        let same : globals_of m ≡ globals_of story =
        ap (λ x. x * 256 + slice_index m 13) b ∙ ap (λ x. slice_index story 12 * 256 + x) c in
        record {
          above = omega (arith, same, holds.globals_above);
          below = omega (arith, same, holds.globals_below);
          long = omega (arith, stored.size, holds.static_below);
        }
