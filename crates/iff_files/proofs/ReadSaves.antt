-- A save file that is written is read back.
use Rattle.std.proofs.Common.{◌≡◌, ℕ, ◌+◌, ◌-◌, ◌*◌, ◌/◌, ◌%◌, ◌≤◌, Bool, true, false, if◌then◌else◌}
use Rattle.std.proofs.Common.{List, [], ◌∷◌, ◌++◌, length, take, drop, refl, ap, sym, ◌∙◌, arith, codes}
use Rattle.std.proofs.Common.{Option, Some, None, Result, Ok, Err, append_assoc, nat_eq}
use Rattle.std.specs.List.{starts_with}
use Rattle.std.specs.Option.{is_some, option_and_then, option_map}
use Rattle.std.proofs.lemmas.Bool.{and_from, false≢true, le-leb}
use Rattle.std.proofs.lemmas.Bool.Decides.{Decides-eqb}
use Rattle.std.proofs.lemmas.List.{append-nil, length-append, take_all}
use Rattle.std.proofs.lemmas.Slice.Eq.{starts_is}
use Rattle.iff_files.specs.declared.chunks.Part.TheVariants.{Header, Memory, Frames}
use Rattle.iff_files.specs.declared.fault.SaveFault.{SaveFault}
use Rattle.iff_files.specs.declared.fault.SaveFault.TheVariants.{Damaged, OtherStory, WrongMemory, WrongStacks}
use Rattle.iff_files.specs.Chunks.{chunk, chunks_after, found, part_in, stated}
use Rattle.iff_files.specs.Differences.{packed}
use Rattle.iff_files.specs.Frames.{Stacks, main_frame, stacks_bytes, stacks_in}
use Rattle.iff_files.specs.SaveFiles.{CanBeSaved, Parts, ReadsBack, Saved, all_parts, and_then, chunks_of, form_in, header_in}
use Rattle.iff_files.specs.SaveFiles.{form_start, identity, longest_file, memory_in, or_fault, parts_in, save_bytes, saved_in, three}
use Rattle.iff_files.proofs.PackedBytes.{read_back}
use Rattle.iff_files.proofs.ReadFrames.{address_back, length-frames_bytes, stacks_back}
use Rattle.iff_files.proofs.FoundChunks.{bare, chunk_back, four_back, length-chunk, no_chunks}
use Rattle.iff_files.proofs.Lengths.{length-packed}

not_some : {A : Type 0} (o : Option A) → is_some o ≡ false → o ≡ None
not_some None e = refl
not_some (Some a) e = absurd (false≢true (sym e))

the_some : {A : Type 0} (o : Option A) → is_some o ≡ true → (a : A) × (o ≡ Some a)
the_some None e = absurd (false≢true e)
the_some (Some a) e = (a, refl)

-- the form

pub form_whole : (bytes : List ℕ) → length bytes ≤ longest_file → starts_with nat_eq bytes (codes "FORM") ≡ true
    → starts_with nat_eq (drop 8 bytes) (codes "IFZS") ≡ true → 8 + stated bytes ≤ length bytes
    → form_in bytes ≡ Some (take (stated bytes - 4) (drop 12 bytes))
form_whole bytes short form kind whole =
    ap (λ (t : Bool). if t then Some (take (stated bytes - 4) (drop 12 bytes)) else None)
    (and_from _ _ (and_from _ _ (and_from _ _ (le-leb (length bytes) longest_file short) form) kind)
    (le-leb (8 + stated bytes) (length bytes) whole))

abbrev pub header_of : List ℕ → Saved → List ℕ
header_of story s = identity story ++ three s.program_counter

pub length-chunks : (story : List ℕ) (s : Saved) → length (chunks_of story s)
    ≡ 22 + ((8 + length (packed 0 story s.memory) + length (packed 0 story s.memory) % 2)
    + (8 + length (stacks_bytes s.stacks) + length (stacks_bytes s.stacks) % 2))
length-chunks story s =
    let memory : List ℕ = chunk (codes "CMem") (packed 0 story s.memory) in
    let frames : List ℕ = chunk (codes "Stks") (stacks_bytes s.stacks) in
    omega (
      arith,
      length-append (chunk (codes "IFhd") (header_of story s)) (memory ++ (frames ++ [])),
      length-append memory (frames ++ []),
      length-append frames [],
      length-chunk 73 70 104 100 (header_of story s),
      length-chunk 67 77 101 109 (packed 0 story s.memory),
      length-chunk 83 116 107 115 (stacks_bytes s.stacks),
    )

short_file : (story : List ℕ) (size : ℕ) (s : Saved) → CanBeSaved story size s → 12 + length (chunks_of story s) ≤ longest_file
short_file story size s can = omega (
  arith,
  length-chunks story s,
  length-packed 0 story s.memory,
  length-frames_bytes (main_frame s.stacks.stack ∷ s.stacks.calls),
  can.short,
  can.few,
  can.words,
)

form_back : (story : List ℕ) (size : ℕ) (s : Saved) → CanBeSaved story size s
    → form_in (save_bytes story s) ≡ Some (chunks_of story s)
unfolding save_bytes
form_back story size s can =
    let chunks : List ℕ = chunks_of story s in
    let bytes : List ℕ = save_bytes story s in
    let says : stated bytes ≡ 4 + length chunks = four_back (4 + length chunks) in
    form_whole bytes (omega (arith, short_file story size s can)) refl refl (omega (arith, says))
    ∙ ap (λ (t : ℕ). Some (take (t - 4) chunks)) says
    ∙ ap (λ (t : List ℕ). Some t) (take_all (4 + length chunks - 4) chunks (omega arith))

-- the file that `write_save` makes
pub file_is : (story : List ℕ) (s : Saved) (size : ℕ) (head memory frames : List ℕ)
    → size ≡ 4 + length (chunks_of story s) → head ≡ header_of story s → memory ≡ packed 0 story s.memory
    → frames ≡ stacks_bytes s.stacks
    → ((form_start size ++ chunk (codes "IFhd") head) ++ chunk (codes "CMem") memory)
    ++ chunk (codes "Stks") frames ≡ save_bytes story s
unfolding save_bytes
file_is story s size head memory frames long is_head is_memory is_frames =
    (λ i. form_start (long i)
    ++ ((chunk (codes "IFhd") (is_head i) ++ chunk (codes "CMem") (is_memory i)) ++ chunk (codes "Stks") (is_frames i)))
    ∙ ap (λ (t : List ℕ). form_start (4 + length (chunks_of story s)) ++ t)
    (append_assoc (chunk (codes "IFhd") (header_of story s)) (chunk (codes "CMem") (packed 0 story s.memory))
    (chunk (codes "Stks") (stacks_bytes s.stacks))
    ∙ ap (λ (t : List ℕ). chunk (codes "IFhd") (header_of story s) ++ (chunk (codes "CMem") (packed 0 story s.memory) ++ t))
    (sym (append-nil (chunk (codes "Stks") (stacks_bytes s.stacks)))))

-- the parts

chunks_back : (story : List ℕ) (s : Saved) → chunks_after 0 (chunks_of story s)
    ≡ Some (bare (codes "IFhd") (header_of story s) ∷ bare (codes "CMem") (packed 0 story s.memory)
    ∷ bare (codes "Stks") (stacks_bytes s.stacks) ∷ [])
chunks_back story s =
    chunk_back 73 70 104 100 (header_of story s) _
    ∙ ap (λ (t : Option (List (List ℕ))). option_map (λ cs. bare (codes "IFhd") (header_of story s) ∷ cs) t)
    (chunk_back 67 77 101 109 (packed 0 story s.memory) _
    ∙ ap (λ (t : Option (List (List ℕ))). option_map (λ cs. bare (codes "CMem") (packed 0 story s.memory) ∷ cs) t)
    (chunk_back 83 116 107 115 (stacks_bytes s.stacks) []
    ∙ ap (λ (t : Option (List (List ℕ))). option_map (λ cs. bare (codes "Stks") (stacks_bytes s.stacks) ∷ cs) t)
    no_chunks))

parts_back : (story : List ℕ) (size : ℕ) (s : Saved) → CanBeSaved story size s
    → parts_in (save_bytes story s) ≡ Some (record {
      header = header_of story s;
      memory = bare (codes "CMem") (packed 0 story s.memory);
      frames = stacks_bytes s.stacks;
    })
parts_back story size s can =
    ap (λ (t : Option (List ℕ)). option_and_then
    (λ form. all_parts (part_in Header form) (part_in Memory form) (part_in Frames form)) t) (form_back story size s can)
    ∙ ap (λ (t : Option (List (List ℕ))). all_parts (option_and_then (found Header) t)
    (option_and_then (found Memory) t) (option_and_then (found Frames) t)) (chunks_back story s)

starts : (xs rest : List ℕ) → starts_with nat_eq (xs ++ rest) xs ≡ true
starts xs rest = (starts_is Decides-eqb (xs ++ rest) xs (starts_with nat_eq (xs ++ rest) xs) refl).1 rest refl

header_back : (story : List ℕ) (s : Saved) → header_in story (header_of story s) ≡ Ok s.program_counter
header_back story s =
    let n : ℕ = s.program_counter in
    ap (λ (t : Bool). if t then Ok ((n / 256 / 256 * 256 + n / 256 % 256) * 256 + n % 256) else Err OtherStory)
    (starts (identity story) (three n))
    ∙ ap (λ (t : ℕ). Ok t) (address_back n)

memory_back : (story : List ℕ) (s : Saved) → length s.memory ≡ length story
    → memory_in story (bare (codes "CMem") (packed 0 story s.memory)) ≡ Some s.memory
memory_back story s e = read_back story s.memory (sym e)

-- how reading goes on
abbrev with_stacks : ℕ → List ℕ → Stacks → Result Saved SaveFault
with_stacks counter memory stacks = Ok (record { program_counter = counter; memory = memory; stacks = stacks })

abbrev with_memory : ℕ → Parts → ℕ → List ℕ → Result Saved SaveFault
with_memory size parts counter memory =
    or_fault WrongStacks (stacks_in size parts.frames) (λ stacks. with_stacks counter memory stacks)

abbrev with_counter : List ℕ → ℕ → Parts → ℕ → Result Saved SaveFault
with_counter story size parts counter =
    or_fault WrongMemory (memory_in story parts.memory) (λ memory. with_memory size parts counter memory)

pub saved_from : (story : List ℕ) (size : ℕ) (bytes : List ℕ) → saved_in story size bytes
    ≡ or_fault Damaged (parts_in bytes) (λ parts. and_then (header_in story parts.header)
    (λ counter. with_counter story size parts counter))
unfolding saved_in
saved_from story size bytes = refl

saved_back : (story : List ℕ) (size : ℕ) (s : Saved) → CanBeSaved story size s
    → saved_in story size (save_bytes story s) ≡ Ok s
saved_back story size s can =
    let parts : Parts = record {
      header = header_of story s;
      memory = bare (codes "CMem") (packed 0 story s.memory);
      frames = stacks_bytes s.stacks;
    } in
    saved_from story size (save_bytes story s)
    ∙ ap (λ (t : Option Parts). or_fault Damaged t (λ p. and_then (header_in story p.header)
    (λ counter. with_counter story size p counter))) (parts_back story size s can)
    ∙ ap (λ (t : Result ℕ SaveFault). and_then t (λ counter. with_counter story size parts counter)) (header_back story s)
    ∙ ap (λ (t : Option (List ℕ)). or_fault WrongMemory t (λ memory. with_memory size parts s.program_counter memory))
    (memory_back story s can.memory)
    ∙ ap (λ (t : Option Stacks). or_fault WrongStacks t (λ stacks. with_stacks s.program_counter s.memory stacks))
    (stacks_back size s.stacks can.some can.few can.words can.calls)

pub reads_back : (story : List ℕ) (size : ℕ) → ReadsBack story size
reads_back story size = λ s can. saved_back story size s can

-- the steps of `read_save`

pub refused_parts : (story : List ℕ) (size : ℕ) (bytes : List ℕ) → parts_in bytes ≡ None
    → saved_in story size bytes ≡ Err Damaged
refused_parts story size bytes none = saved_from story size bytes
    ∙ ap (λ (t : Option Parts). or_fault Damaged t (λ p. and_then (header_in story p.header)
    (λ counter. with_counter story size p counter))) none

with_parts : (story : List ℕ) (size : ℕ) (bytes : List ℕ) (parts : Parts) → parts_in bytes ≡ Some parts
    → saved_in story size bytes ≡ and_then (header_in story parts.header) (λ counter. with_counter story size parts counter)
with_parts story size bytes parts some = saved_from story size bytes
    ∙ ap (λ (t : Option Parts). or_fault Damaged t (λ p. and_then (header_in story p.header)
    (λ counter. with_counter story size p counter))) some

pub refused_header : (story : List ℕ) (size : ℕ) (bytes : List ℕ) (parts : Parts) (fault : SaveFault)
    → parts_in bytes ≡ Some parts → header_in story parts.header ≡ Err fault → saved_in story size bytes ≡ Err fault
refused_header story size bytes parts fault some refused = with_parts story size bytes parts some
    ∙ ap (λ (t : Result ℕ SaveFault). and_then t (λ counter. with_counter story size parts counter)) refused

with_header : (story : List ℕ) (size : ℕ) (bytes : List ℕ) (parts : Parts) (counter : ℕ)
    → parts_in bytes ≡ Some parts → header_in story parts.header ≡ Ok counter
    → saved_in story size bytes ≡ with_counter story size parts counter
with_header story size bytes parts counter some ok = with_parts story size bytes parts some
    ∙ ap (λ (t : Result ℕ SaveFault). and_then t (λ n. with_counter story size parts n)) ok

pub refused_memory : (story : List ℕ) (size : ℕ) (bytes : List ℕ) (parts : Parts) (counter : ℕ)
    → parts_in bytes ≡ Some parts → header_in story parts.header ≡ Ok counter → memory_in story parts.memory ≡ None
    → saved_in story size bytes ≡ Err WrongMemory
refused_memory story size bytes parts counter some ok none = with_header story size bytes parts counter some ok
    ∙ ap (λ (t : Option (List ℕ)). or_fault WrongMemory t (λ memory. with_memory size parts counter memory)) none

with_all : (story : List ℕ) (size : ℕ) (bytes : List ℕ) (parts : Parts) (counter : ℕ) (memory : List ℕ)
    → parts_in bytes ≡ Some parts → header_in story parts.header ≡ Ok counter
    → memory_in story parts.memory ≡ Some memory → saved_in story size bytes ≡ with_memory size parts counter memory
with_all story size bytes parts counter memory some ok is = with_header story size bytes parts counter some ok
    ∙ ap (λ (t : Option (List ℕ)). or_fault WrongMemory t (λ m. with_memory size parts counter m)) is

pub refused_stacks : (story : List ℕ) (size : ℕ) (bytes : List ℕ) (parts : Parts) (counter : ℕ) (memory : List ℕ)
    → parts_in bytes ≡ Some parts → header_in story parts.header ≡ Ok counter
    → memory_in story parts.memory ≡ Some memory → is_some (stacks_in size parts.frames) ≡ false
    → saved_in story size bytes ≡ Err WrongStacks
refused_stacks story size bytes parts counter memory some ok is none =
    with_all story size bytes parts counter memory some ok is
    ∙ ap (λ (t : Option Stacks). or_fault WrongStacks t (λ stacks. with_stacks counter memory stacks))
    (not_some (stacks_in size parts.frames) none)

pub is_read : (story : List ℕ) (size : ℕ) (bytes : List ℕ) (parts : Parts) (counter : ℕ) (memory : List ℕ)
    → parts_in bytes ≡ Some parts → header_in story parts.header ≡ Ok counter
    → memory_in story parts.memory ≡ Some memory → is_some (stacks_in size parts.frames) ≡ true
    → (stacks : Stacks) × ((stacks_in size parts.frames ≡ Some stacks)
    × (saved_in story size bytes ≡ Ok (record { program_counter = counter; memory = memory; stacks = stacks })))
is_read story size bytes parts counter memory some ok is there =
    let found = the_some (stacks_in size parts.frames) there in (
      found.0,
      (
        found.1,
        with_all story size bytes parts counter memory some ok is
            ∙ ap (λ (t : Option Stacks). or_fault WrongStacks t (λ stacks. with_stacks counter memory stacks)) found.1,
      ),
    )
