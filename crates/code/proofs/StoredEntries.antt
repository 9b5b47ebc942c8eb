-- Entries of arrays in the memory of a story that runs.
use Rattle.std.proofs.Common.{◌≡◌, ℕ, ◌+◌, ◌-◌, ◌*◌, ◌%◌, ◌<◌, ◌≤◌, List, length, drop, slice_index, slice_set, true}
use Rattle.std.proofs.Common.{sym, ap, ◌∙◌, subst, arith}
use Rattle.std.specs.Prelude.{nat_lt, map}
use Rattle.std.specs.List.{concat}
use Rattle.std.proofs.lemmas.Bool.{and_parts, ltb-true}
use Rattle.std.proofs.lemmas.List.{length-set}
use Rattle.ztext.specs.Bytes.{word_at}
use Rattle.zcore.specs.Header.{defaults_of, globals_of, static_base_of}
use Rattle.zcore.specs.Parts.{with_word}
use Rattle.syntax_trees.specs.declared.tree.Width.{Width}
use Rattle.syntax_trees.specs.declared.tree.Width.TheVariants as widths
use Rattle.meaning.specs.World.{array_at, entry_count, is_index, entry_at, with_entry}
use Rattle.meaning.specs.Objects.{Objects}
use Rattle.meaning.specs.Resolved.{ProgramOf}
use Rattle.code.proofs.Frames as region
use Rattle.code_drafts.specs.Addresses.{Addresses}
use Rattle.code.specs.HeldProgram.{offset_in}
use Rattle.code.proofs.Flat.{array_within, byte_at, byte_set, word_set, sizes_same, concat_same, place_same, count_same}
use Rattle.code.proofs.Regions.{stands_set, stands_word, KeepsOutside, keeps_set, keeps_word, byte_behind, StandsIn}
use Rattle.code.proofs.Regions.{same_on}
use Rattle.code.proofs.Play.{Stored}
use Rattle.code.proofs.Memory.{word_of, length_with}

-- where an entry of an array stands, what stands there, and the memory where it is another
abbrev pub entry_address : Width → ℕ → ℕ → ℕ
entry_address widths.Byte place i = place + i
entry_address widths.Word place i = place + 2 * i

abbrev pub read_at : Width → List ℕ → ℕ → ℕ
read_at widths.Byte memory at = slice_index memory at
read_at widths.Word memory at = word_at memory at

abbrev pub written_at : Width → List ℕ → ℕ → ℕ → List ℕ
written_at widths.Byte memory at v = slice_set memory at (v % 256)
written_at widths.Word memory at v = with_word memory at v

-- the address of the last byte of an entry
abbrev pub last_byte : Width → ℕ → ℕ
last_byte widths.Byte at = at
last_byte widths.Word at = at + 1

-- an index of an array
pub index_below : (width : Width) (bytes : List ℕ) (i : ℕ) → is_index width bytes i ≡ true
    → (i < 32768) × (i < entry_count width bytes)
index_below width bytes i is =
    let both = and_parts (nat_lt i 32768) (nat_lt i (entry_count width bytes)) is in
    (ltb-true _ _ both.0, ltb-true _ _ both.1)

with_length : (width : Width) (bytes : List ℕ) (i v : ℕ) → length (with_entry width bytes i v) ≡ length bytes
with_length widths.Byte bytes i v = length-set bytes i (v % 256)
with_length widths.Word bytes i v = length_with bytes (2 * i) v

-- objects and static memory begin in the same places
pub defaults_same : (story memory : List ℕ) → ((q : ℕ) → q < 64 → slice_index memory q ≡ slice_index story q)
    → defaults_of memory ≡ defaults_of story
defaults_same story memory header =
    ap (λ x. x * 256 + slice_index memory 11) (header 10 (omega arith))
    ∙ ap (λ x. slice_index story 10 * 256 + x) (header 11 (omega arith))

pub static_same : (story memory : List ℕ) → ((q : ℕ) → q < 64 → slice_index memory q ≡ slice_index story q)
    → static_base_of memory ≡ static_base_of story
static_same story memory header =
    ap (λ x. x * 256 + slice_index memory 15) (header 14 (omega arith))
    ∙ ap (λ x. slice_index story 14 * 256 + x) (header 15 (omega arith))

-- what is the same from the objects on is so from static memory on
pub high_kept : (story : List ℕ) (a : Addresses) (p : ProgramOf) (globals : List ℕ) (arrays : List (List ℕ))
    (objects : Objects) (memory other : List ℕ) → Stored story a p globals arrays objects memory
    → drop (defaults_of story) other ≡ drop (defaults_of story) memory
    → drop (static_base_of story) other ≡ drop (static_base_of story) memory
high_kept story a p globals arrays objects memory other stored kept =
    let base = defaults_same story memory stored.header in
    let static = static_same story memory stored.header in
    let entries = stored.has.entries in
    same_on (defaults_of story) (static_base_of story) memory other kept (omega (arith, base, static, entries.below))

-- other bytes stand in the region of arrays
pub stored_other : (story : List ℕ) (a : Addresses) (p : ProgramOf) (globals : List ℕ)
    (arrays other_arrays : List (List ℕ)) (objects : Objects) (memory other : List ℕ)
    (stored : Stored story a p globals arrays objects memory)
    → KeepsOutside stored.regions.first (defaults_of story) memory other
    → StandsIn other stored.regions.first (concat other_arrays) → map length other_arrays ≡ map length arrays
    → 64 ≤ globals_of story → length globals ≤ 232 → Stored story a p globals other_arrays objects other
stored_other story a p globals arrays other_arrays objects memory other stored keeps stands same low few =
    let r = stored.regions in
    let base = defaults_same story memory stored.header in
    record {
      size = keeps.size ∙ stored.size;
      header = λ q h. keeps.before q (omega (arith, h, low, r.above)) ∙ stored.header q h;
      below = λ q h. keeps.before q (omega (arith, h, r.above)) ∙ stored.below q h;
      kept = high_kept story a p globals arrays objects memory other stored keeps.after ∙ stored.kept;
      values = λ g h.
          let here = globals_of story + 2 * g in
          ap (λ x. x * 256 + slice_index other (here + 1)) (keeps.before here (omega (arith, h, few, r.above)))
          ∙ ap (λ x. slice_index memory here * 256 + x) (keeps.before (here + 1) (omega (arith, h, few, r.above)))
          ∙ stored.values g h;
      regions = record {
        first = r.first;
        above = r.above;
        below = omega (arith, r.below, concat_same other_arrays arrays same);
        places = λ n h. r.places n (omega (arith, h, count_same other_arrays arrays same))
            ∙ ap (λ x. r.first + x) (sym (place_same other_arrays arrays n same));
        stands = stands;
      };
      tables = stored.tables;
      has = region.keeps p.objects p.defaults objects stored.tables memory other stored.has
          (record {
            size = keeps.size;
            header = λ q h. keeps.before q (omega (arith, h, low, r.above));
            above = λ q h _. byte_behind r.first (defaults_of story) memory other q keeps (omega (arith, h, base));
          });
    }

module _ (story : List ℕ) (a : Addresses) (p : ProgramOf) (globals : List ℕ) (arrays : List (List ℕ))
    (objects : Objects) (memory : List ℕ) (stored : Stored story a p globals arrays objects memory) (k : ℕ)
    (known : k < length arrays) where
  abbrev bytes : List ℕ
  bytes = array_at arrays k

  abbrev place : ℕ
  place = slice_index a.arrays k

  abbrev first : ℕ
  first = stored.regions.first

  within : offset_in arrays k + length bytes ≤ length (concat arrays)
  within = array_within arrays k known

  -- where a byte of the array stands
  byte_place : (i : ℕ) → first + (offset_in arrays k + i) ≡ place + i
  byte_place i = omega (arith, stored.regions.places k known)

  -- an entry lies in the region of arrays
  pub record Inside (at last : ℕ) : Type 0 where
    pub from : first ≤ at
    pub behind : globals_of story + 480 ≤ at
    pub low : last < defaults_of story
    pub below : last < static_base_of story
    pub long : last < length memory

  inside : (j n : ℕ) → j + n < length bytes → Inside (place + j) (place + j + n)
  inside j n h =
      let r = stored.regions in
      let base = defaults_same story memory stored.header in
      let static = static_same story memory stored.header in
      let entries = stored.has.entries in
      let is = r.places k known in
      record {
        from = omega (arith, is);
        behind = omega (arith, is, r.above);
        low = omega (arith, is, r.below, within, h);
        below = omega (arith, is, r.below, within, h, base, static, entries.below);
        long = omega (arith, is, r.stands.within, within, h);
      }

  pub entry_inside : (width : Width) (i : ℕ) → is_index width bytes i ≡ true
      → Inside (entry_address width place i) (last_byte width (entry_address width place i))
  entry_inside widths.Byte i index =
      let is = index_below widths.Byte bytes i index in
      let z : place + i + 0 ≡ place + i = omega arith in
      subst (λ q. Inside (place + i) q) z (inside i 0 (omega (arith, is.1)))
  entry_inside widths.Word i index =
      let is = index_below widths.Word bytes i index in
      inside (2 * i) 1 (omega (arith, is.1))

  -- a byte of the array
  byte_is : (j : ℕ) → j < length bytes → slice_index memory (place + j) ≡ slice_index bytes j
  byte_is j h =
      ap (slice_index memory) (sym (byte_place j))
      ∙ stored.regions.stands.each (offset_in arrays k + j) (omega (arith, within, h)) ∙ byte_at arrays k j known h

  pub entry_is : (width : Width) (i : ℕ) → is_index width bytes i ≡ true
      → read_at width memory (entry_address width place i) ≡ entry_at width bytes i
  entry_is widths.Byte i index = byte_is i (index_below widths.Byte bytes i index).1
  entry_is widths.Word i index =
      let below = (index_below widths.Word bytes i index).1 in
      let z : place + (2 * i + 1) ≡ place + 2 * i + 1 = omega arith in
      ap (λ x. x * 256 + slice_index memory (place + 2 * i + 1)) (byte_is (2 * i) (omega (arith, below)))
      ∙ ap (λ x. slice_index bytes (2 * i) * 256 + x)
      (ap (slice_index memory) (sym z) ∙ byte_is (2 * i + 1) (omega (arith, below)))

  abbrev next_arrays : Width → ℕ → ℕ → List (List ℕ)
  next_arrays width i v = slice_set arrays k (with_entry width bytes i v)

  abbrev next_memory : Width → ℕ → ℕ → List ℕ
  next_memory width i v = written_at width memory (entry_address width place i) v

  -- the region where an entry is written
  entry_stands : (width : Width) (i v : ℕ) → is_index width bytes i ≡ true
      → StandsIn (next_memory width i v) first (concat (next_arrays width i v))
  entry_stands widths.Byte i v index =
      let below = (index_below widths.Byte bytes i index).1 in
      subst (λ q. StandsIn (slice_set memory q (v % 256)) first (concat (next_arrays widths.Byte i v))) (byte_place i)
      (subst (StandsIn (slice_set memory (first + (offset_in arrays k + i)) (v % 256)) first)
      (byte_set arrays k i (v % 256) known below)
      (stands_set memory first (concat arrays) (offset_in arrays k + i) (v % 256) stored.regions.stands
      (omega (arith, within, below))))
  entry_stands widths.Word i v index =
      let below = (index_below widths.Word bytes i index).1 in
      subst (λ q. StandsIn (with_word memory q v) first (concat (next_arrays widths.Word i v))) (byte_place (2 * i))
      (subst (StandsIn (with_word memory (first + (offset_in arrays k + 2 * i)) v) first)
      (word_set arrays k (2 * i) v known (omega (arith, below)))
      (stands_word memory first (concat arrays) (offset_in arrays k + 2 * i) v stored.regions.stands
      (omega (arith, within, below))))

  pub entry_keeps : (width : Width) (i v : ℕ) → is_index width bytes i ≡ true
      → KeepsOutside first (defaults_of story) memory (next_memory width i v)
  entry_keeps widths.Byte i v index =
      let there = entry_inside widths.Byte i index in
      keeps_set first (defaults_of story) (place + i) (v % 256) memory there.from there.low
  entry_keeps widths.Word i v index =
      let there = entry_inside widths.Word i index in
      keeps_word first (defaults_of story) (place + 2 * i) v memory there.from there.low

  pub sizes_kept : (width : Width) (i v : ℕ) → map length (next_arrays width i v) ≡ map length arrays
  sizes_kept width i v = sizes_same arrays k (with_entry width bytes i v) (with_length width bytes i v)

  -- an entry is written
  pub stored_entry : (width : Width) (i v : ℕ) → is_index width bytes i ≡ true → 64 ≤ globals_of story
      → length globals ≤ 232 → Stored story a p globals (next_arrays width i v) objects (next_memory width i v)
  stored_entry width i v index low few =
      stored_other story a p globals arrays (next_arrays width i v) objects memory (next_memory width i v) stored
      (entry_keeps width i v index) (entry_stands width i v index) (sizes_kept width i v) low few

-- a variable from 16 on is the same where an entry is written
pub variable_kept : (story : List ℕ) (a : Addresses) (p : ProgramOf) (globals : List ℕ)
    (arrays other_arrays : List (List ℕ)) (objects : Objects) (memory other : List ℕ) (first to variable : ℕ)
    → Stored story a p globals arrays objects memory → Stored story a p globals other_arrays objects other
    → KeepsOutside first to memory other
    → globals_of story + 480 ≤ first → 16 ≤ variable → variable < 256
    → word_of other variable ≡ word_of memory variable
variable_kept story a p globals arrays other_arrays objects memory other first to variable stored stored_other keeps
    above low small =
    let here : globals_of memory ≡ globals_of story = globals_at memory stored.header in
    let there : globals_of other ≡ globals_of story = globals_at other stored_other.header in
    let at = globals_of story + 2 * (variable - 16) in
    ap (λ g. word_at other (g + 2 * (variable - 16))) there
    ∙ ap (λ x. x * 256 + slice_index other (at + 1)) (keeps.before at (omega (arith, above, low, small)))
    ∙ ap (λ x. slice_index memory at * 256 + x) (keeps.before (at + 1) (omega (arith, above, low, small)))
    ∙ ap (λ g. word_at memory (g + 2 * (variable - 16))) (sym here)
  where
    globals_at : (m : List ℕ) → ((q : ℕ) → q < 64 → slice_index m q ≡ slice_index story q)
        → globals_of m ≡ globals_of story
    globals_at m header =
        ap (λ x. x * 256 + slice_index m 13) (header 12 (omega arith))
        ∙ ap (λ x. slice_index story 12 * 256 + x) (header 13 (omega arith))
