-- The variables of the source in a running routine.
use Rattle.std.proofs.Common.{◌≡◌, ℕ, ◌+◌, ◌%◌, ◌<◌, ◌≤◌, List, length, drop, slice_index, slice_set, refl, subst}
use Rattle.std.proofs.Common.{arith}
use Rattle.std.proofs.lemmas.List.{length-set, get_or-set_same}
use Rattle.zcore.specs.Header.{static_base_of}
use Rattle.meaning.specs.declared.resolved.Variable.{Variable}
use Rattle.meaning.specs.declared.resolved.Variable.TheVariants as variables
use Rattle.meaning.specs.World.{value_in, with_value}
use Rattle.meaning.specs.Meaning.{routine_at}
use Rattle.meaning.specs.Accepted.{IsVariable}
use Rattle.code_drafts.specs.Instructions.{number_of}
use Rattle.code.proofs.Play.{Stored}
use Rattle.code.proofs.Memory.{with_variable, writes_ground, stored_global, global_is}
use Rattle.code.proofs.Parts.{Writes, local_reads, local_writes, global_reads, global_writes, ReadsVariable}
use Rattle.code.proofs.HeldRoutines.{few_locals}
use Rattle.code.proofs.Arriving.{Running, around, few, situation_here}
use Rattle.code.proofs.Temporaries.{Scratch}

module _ (c : Running) where
  open c use {story, a, p, accepted, holds, full, m, count, counts, routine, place, callers, locals, world, good}

  pub number_is : (x : Variable) → IsVariable p (routine_at p.routines routine).locals x → (number_of x) < 256
  number_is (variables.Local i) is = omega arith
  number_is (variables.Global g) is = omega arith

  abbrev pub memory_with : List ℕ → Variable → ℕ → List ℕ
  memory_with other (variables.Local i) word = other
  memory_with other (variables.Global g) word = with_variable other (16 + g) word

  pub record Held (other : List ℕ) (x : Variable) : Type 0 where
    pub reads : ReadsVariable (around c) other locals (number_of x) (value_in x (situation_here c))
    pub writes : (word : ℕ) → Writes (around c) other locals (number_of x) word (memory_with other x word)
        (with_value x word (situation_here c)).locals
    pub again : (word : ℕ)
        → ReadsVariable (around c) (memory_with other x word) (with_value x word (situation_here c)).locals
        (number_of x) word
    pub kept : (word : ℕ) → drop (static_base_of story) (memory_with other x word) ≡ drop (static_base_of story) other
    pub stored : (word : ℕ) → Stored story a p (with_value x word (situation_here c)).world.globals
        (with_value x word (situation_here c)).world.arrays (with_value x word (situation_here c)).world.objects
        (memory_with other x word)
    pub locals_same : (word : ℕ) → length (with_value x word (situation_here c)).locals ≡ length locals
    pub globals_same : (word : ℕ) → length (with_value x word (situation_here c)).world.globals ≡ length world.globals
    pub arrays_same : (word : ℕ) → (with_value x word (situation_here c)).world.arrays ≡ world.arrays

  pub variable_held : (other : List ℕ) (x : Variable) → Scratch c other
      → IsVariable p (routine_at p.routines routine).locals x → Held other x
  variable_held other (variables.Local i) scratch is =
      let within : i < length locals = omega (arith, is, good.locals) in
      let few15 : i < 15 = omega (arith, is, few_locals story a p accepted holds routine good.known) in
      let number : 1 + i ≡ (1 + i) % 256 = omega (arith, few15) in
      record {
        reads = subst (λ n. ReadsVariable (around c) other locals n (slice_index locals i)) number
            (local_reads (around c) other locals i few15 within);
        writes = λ word. subst (λ n. Writes (around c) other locals n word other (slice_set locals i word)) number
            (local_writes (around c) other locals i word few15 within);
        again = λ word. subst (λ n. ReadsVariable (around c) other (slice_set locals i word) n word) number
            (subst (λ v. ReadsVariable (around c) other (slice_set locals i word) (1 + i) v)
            (get_or-set_same locals i word 0 within)
            (local_reads (around c) other (slice_set locals i word) i few15
            (omega (arith, within, length-set locals i word))));
        kept = λ word. refl;
        stored = λ word. scratch.stored;
        locals_same = λ word. length-set locals i word;
        globals_same = λ word. refl;
        arrays_same = λ word. refl;
      }
  variable_held other (variables.Global g) scratch is =
      let within : g < length world.globals = omega (arith, is, good.globals) in
      let from : 16 ≤ 16 + g = omega arith in
      let small : 16 + g < 256 = omega (arith, within, few c) in
      let number : 16 + g ≡ (16 + g) % 256 = omega (arith, small) in
      let value = global_is story a p world.globals world.arrays world.objects other scratch.ground (few c)
      scratch.stored g within in
      record {
        reads = subst (λ n. ReadsVariable (around c) other locals n (slice_index world.globals g)) number
            (subst (λ v. ReadsVariable (around c) other locals (16 + g) v) value
            (global_reads (around c) other locals (16 + g) from small));
        writes = λ word. subst (λ n. Writes (around c) other locals n word (with_variable other (16 + g) word) locals)
            number (global_writes (around c) other locals (16 + g) word from small);
        again = λ word. subst (λ n. ReadsVariable (around c) (with_variable other (16 + g) word) locals n word) number
            (subst (λ v. ReadsVariable (around c) (with_variable other (16 + g) word) locals (16 + g) v)
            (writes_ground (static_base_of story) other (16 + g) word scratch.ground from small).is
            (global_reads (around c) (with_variable other (16 + g) word) locals (16 + g) from small));
        kept = λ word. (writes_ground (static_base_of story) other (16 + g) word scratch.ground from small).kept;
        stored = λ word. stored_global story a p world.globals world.arrays world.objects other scratch.ground (few c)
            scratch.stored
            g word within;
        locals_same = λ word. refl;
        globals_same = λ word. length-set world.globals g word;
        arrays_same = λ word. refl;
      }
