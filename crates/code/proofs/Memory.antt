-- Words written to the globals of a story in memory, and what they leave as it was.
use Rattle.std.proofs.Common.{◌≡◌, ◌≢◌, ◌⊎◌, inl, inr, ℕ, ◌+◌, ◌-◌, ◌*◌, ◌/◌, ◌%◌, ◌<◌, ◌≤◌, List, length, take, drop}
use Rattle.std.proofs.Common.{slice_index, slice_set, sym, ap, ◌∙◌, arith}
use Rattle.std.specs.List.{concat}
use Rattle.std.proofs.lemmas.Bool.{cases_eq, cases_lt}
use Rattle.std.proofs.lemmas.List.{length-set, drop-set-lt, get_or-set_same, get_or-set_other}
use Rattle.ztext.specs.Bytes.{word_at}
use Rattle.zcore.specs.Header.{defaults_of, globals_of, static_base_of}
use Rattle.zcore.specs.Parts.{global_address, with_word}
use Rattle.ztext.specs.Text.{Holds}
use Rattle.meaning.specs.Objects.{Objects}
use Rattle.meaning.specs.Resolved.{ProgramOf}
use Rattle.code.specs.Region.{HasObjects}
use Rattle.code.proofs.Frames.{keeps}
use Rattle.code_drafts.specs.Addresses.{Addresses}
use Rattle.code.proofs.Regions.{stands_on, same_on}
use Rattle.code.proofs.Play.{HoldsArrays, Stored}

-- the word of a variable from 16 on, and the memory where it is another
abbrev pub word_of : List ℕ → ℕ → ℕ
word_of memory variable = word_at memory (global_address memory variable)

abbrev pub with_variable : List ℕ → ℕ → ℕ → List ℕ
with_variable memory variable word = with_word memory (global_address memory variable) word

module _ (memory : List ℕ) (at word : ℕ) where
  pub length_with : length (with_word memory at word) ≡ length memory
  length_with = length-set (slice_set memory at (word / 256)) (at + 1) (word % 256)
      ∙ length-set memory at (word / 256)

  pub drop_with : (n : ℕ) → at + 1 < n → drop n (with_word memory at word) ≡ drop n memory
  drop_with n h = drop-set-lt n (slice_set memory at (word / 256)) (at + 1) (word % 256) h
      ∙ drop-set-lt n memory at (word / 256) (omega (arith, h))

  pub byte_other : (q : ℕ) → q ≢ at → q ≢ (at + 1) → slice_index (with_word memory at word) q ≡ slice_index memory q
  byte_other q a b = get_or-set_other (slice_set memory at (word / 256)) (at + 1) q (word % 256) 0 b
      ∙ get_or-set_other memory at q (word / 256) 0 a

  pub word_other : (q : ℕ) → (q + 1 < at) ⊎ (at + 1 < q) → word_at (with_word memory at word) q ≡ word_at memory q
  word_other q (inl h) =
      let a = byte_other q (λ e. omega (arith, h, e)) (λ e. omega (arith, h, e)) in
      let b = byte_other (q + 1) (λ e. omega (arith, h, e)) (λ e. omega (arith, h, e)) in
      ap (λ x. x * 256 + slice_index (with_word memory at word) (q + 1)) a
      ∙ ap (λ x. slice_index memory q * 256 + x) b
  word_other q (inr h) =
      let a = byte_other q (λ e. omega (arith, h, e)) (λ e. omega (arith, h, e)) in
      let b = byte_other (q + 1) (λ e. omega (arith, h, e)) (λ e. omega (arith, h, e)) in
      ap (λ x. x * 256 + slice_index (with_word memory at word) (q + 1)) a
      ∙ ap (λ x. slice_index memory q * 256 + x) b

  pub word_here : at + 1 < length memory → word_at (with_word memory at word) at ≡ word
  word_here h =
      let high = get_or-set_other (slice_set memory at (word / 256)) (at + 1) at (word % 256) 0
      (λ e. omega (arith, e))
      ∙ get_or-set_same memory at (word / 256) 0 (omega (arith, h)) in
      let low = get_or-set_same (slice_set memory at (word / 256)) (at + 1) (word % 256) 0
      (omega (arith, h, length-set memory at (word / 256))) in
      let whole : word / 256 * 256 + word % 256 ≡ word = omega arith in
      ap (λ x. x * 256 + slice_index (with_word memory at word) (at + 1)) high ∙ ap (λ x. word / 256 * 256 + x) low
      ∙ whole

-- memory that is the same from an address on holds the same bytes there
pub holds_on : (base q : ℕ) (memory other bytes : List ℕ) → drop base other ≡ drop base memory → base ≤ q
    → Holds memory q bytes → Holds other q bytes
holds_on base q memory other bytes kept high h = ap (take (length bytes)) (same_on base q memory other kept high) ∙ h

-- 240 words of globals after the header and below static memory, which begins at `base`
pub record Ground (base : ℕ) (memory : List ℕ) : Type 0 where
  pub above : 64 ≤ globals_of memory
  pub below : globals_of memory + 480 ≤ base
  pub long : base ≤ length memory

-- what a write of a variable from 16 on leaves
pub record WrittenVariable (base : ℕ) (memory : List ℕ) (variable word : ℕ) : Type 0 where
  pub ground : Ground base (with_variable memory variable word)
  pub kept : drop base (with_variable memory variable word) ≡ drop base memory
  pub size : length (with_variable memory variable word) ≡ length memory
  pub is : word_of (with_variable memory variable word) variable ≡ word
  pub other : (v : ℕ) → 16 ≤ v → v ≢ variable → word_of (with_variable memory variable word) v ≡ word_of memory v
  pub globals : globals_of (with_variable memory variable word) ≡ globals_of memory

-- one of two numbers that differ is less
apart : (a b : ℕ) → a ≢ b → (a < b) ⊎ (b < a)
apart a b ne = go (cases_lt a b)
  where
    go : (a < b) ⊎ (b ≤ a) → (a < b) ⊎ (b < a)
    go (inl h) = inl h
    go (inr h) = go2 (cases_eq a b) h
      where
        go2 : (a ≡ b) ⊎ (a ≡ b → ⊥) → b ≤ a → (a < b) ⊎ (b < a)
        go2 (inl e) h = absurd (ne e)
        go2 (inr n) h = inr (omega (arith, h))

pub writes_ground : (base : ℕ) (memory : List ℕ) (variable word : ℕ) → Ground base memory → 16 ≤ variable
    → variable < 256 → WrittenVariable base memory variable word
writes_ground base memory variable word ground low high =
    let at = global_address memory variable in
    let m1 = with_word memory at word in
    let a : 64 ≤ at = omega (arith, ground.above) in
    let b : at + 1 < base = omega (arith, ground.below, low, high) in
    let g1 = byte_other memory at word 12 (λ e. omega (arith, a, e)) (λ e. omega (arith, a, e)) in
    let g2 = byte_other memory at word 13 (λ e. omega (arith, a, e)) (λ e. omega (arith, a, e)) in
    let same : globals_of m1 ≡ globals_of memory =
    ap (λ x. x * 256 + slice_index m1 13) g1 ∙ ap (λ x. slice_index memory 12 * 256 + x) g2 in
    record {
      ground = record {
        above = omega (arith, same, ground.above);
        below = omega (arith, same, ground.below);
        long = omega (arith, length_with memory at word, ground.long);
      };
      kept = drop_with memory at word base b;
      size = length_with memory at word;
      is = ap (λ g. word_at m1 (g + 2 * (variable - 16))) same
          ∙ word_here memory at word (omega (arith, b, ground.long));
      other = λ v from ne. ap (λ g. word_at m1 (g + 2 * (v - 16))) same
          ∙ word_other memory at word (global_address memory v) (away v from (apart v variable ne));
      globals = same;
    }
  where
    away : (v : ℕ) → 16 ≤ v → (v < variable) ⊎ (variable < v)
        → (global_address memory v + 1 < global_address memory variable) ⊎ (global_address memory variable + 1
        < global_address memory v)
    away v from (inl h) = inl (omega (arith, h, from, low))
    away v from (inr h) = inr (omega (arith, h, from, low))

-- The globals of the source

module _ (story : List ℕ) (a : Addresses) (p : ProgramOf) (globals : List ℕ) (arrays : List (List ℕ))
    (objects : Objects) (memory : List ℕ) (ground : Ground (static_base_of story) memory) (few : length globals ≤ 232)
    (stored : Stored story a p globals arrays objects memory) where
  pub same_globals : globals_of memory ≡ globals_of story
  same_globals =
      let high = stored.header 12 (omega arith) in
      let low = stored.header 13 (omega arith) in
      ap (λ x. x * 256 + slice_index memory 13) high ∙ ap (λ x. slice_index story 12 * 256 + x) low

  -- the word of a global of the source
  pub global_is : (g : ℕ) → g < length globals → word_of memory (16 + g) ≡ slice_index globals g
  global_is g h =
      let e : globals_of memory + 2 * (16 + g - 16) ≡ globals_of story + 2 * g = omega (arith, same_globals) in
      ap (word_at memory) e ∙ stored.values g h

  header_kept : (variable word : ℕ) (q : ℕ) → q < 64
      → slice_index (with_variable memory variable word) q ≡ slice_index story q
  header_kept variable word q h =
      byte_other memory (global_address memory variable) word q (λ e. omega (arith, h, e, ground.above))
      (λ e. omega (arith, h, e, ground.above)) ∙ stored.header q h

  -- and so are all bytes below the globals
  below_kept : (variable word : ℕ) (q : ℕ) → q < globals_of story
      → slice_index (with_variable memory variable word) q ≡ slice_index story q
  below_kept variable word q h =
      byte_other memory (global_address memory variable) word q (λ e. omega (arith, h, e, same_globals))
      (λ e. omega (arith, h, e, same_globals)) ∙ stored.below q h

  -- the arrays lie after the globals
  arrays_kept : (variable word : ℕ) → 16 ≤ variable → variable < 256
      → HoldsArrays story a arrays (with_variable memory variable word)
  arrays_kept variable word low high =
      let r = stored.regions in
      let at = global_address memory variable in
      let before : at + 1 < r.first = omega (arith, low, high, same_globals, r.above) in
      record {
        first = r.first;
        above = r.above;
        below = r.below;
        places = r.places;
        stands = stands_on memory (with_variable memory variable word) r.first (concat arrays) r.stands
            (length_with memory at word)
            (λ q h. byte_other memory at word q (λ e. omega (arith, e, h, before))
            (λ e. omega (arith, e, h, before)));
      }

  same_defaults : defaults_of memory ≡ defaults_of story
  same_defaults =
      ap (λ x. x * 256 + slice_index memory 11) (stored.header 10 (omega arith))
      ∙ ap (λ x. slice_index story 10 * 256 + x) (stored.header 11 (omega arith))

  -- the objects lie after the arrays
  objects_kept : (variable word : ℕ) → 16 ≤ variable → variable < 256
      → HasObjects p.objects p.defaults objects stored.tables (with_variable memory variable word)
  objects_kept variable word low high =
      let r = stored.regions in
      let at = global_address memory variable in
      let before : at + 1 < defaults_of memory =
      omega (arith, low, high, same_globals, r.above, r.below, same_defaults) in
      keeps p.objects p.defaults objects stored.tables memory (with_variable memory variable word) stored.has
      (record {
        size = length_with memory at word;
        header = λ q h. byte_other memory at word q (λ e. omega (arith, h, e, ground.above))
            (λ e. omega (arith, h, e, ground.above));
        above = λ q h _. byte_other memory at word q (λ e. omega (arith, e, h, before))
            (λ e. omega (arith, e, h, before));
      })

  -- a variable of the compiler is written
  pub stored_temporary : (variable word : ℕ) → 248 ≤ variable → variable < 256
      → Stored story a p globals arrays objects (with_variable memory variable word)
  stored_temporary variable word low high =
      let w = writes_ground (static_base_of story) memory variable word ground (omega (arith, low)) high in
      record {
        size = w.size ∙ stored.size;
        header = header_kept variable word;
        below = below_kept variable word;
        kept = w.kept ∙ stored.kept;
        values = λ g h. word_other memory (global_address memory variable) word (globals_of story + 2 * g)
            (inl (omega (arith, h, few, low, same_globals))) ∙ stored.values g h;
        regions = arrays_kept variable word (omega (arith, low)) high;
        tables = stored.tables;
        has = objects_kept variable word (omega (arith, low)) high;
      }

  -- a global of the source is written
  pub stored_global : (g word : ℕ) → g < length globals
      → Stored story a p (slice_set globals g word) arrays objects (with_variable memory (16 + g) word)
  stored_global g word within =
      let w = writes_ground (static_base_of story) memory (16 + g) word ground (omega arith)
      (omega (arith, within, few)) in
      record {
        size = w.size ∙ stored.size;
        header = header_kept (16 + g) word;
        below = below_kept (16 + g) word;
        kept = w.kept ∙ stored.kept;
        values = λ k h. value k (omega (arith, h, length-set globals g word)) (cases_eq k g);
        regions = arrays_kept (16 + g) word (omega arith) (omega (arith, within, few));
        tables = stored.tables;
        has = objects_kept (16 + g) word (omega arith) (omega (arith, within, few));
      }
    where
      value : (k : ℕ) → k < length globals → (k ≡ g) ⊎ (k ≡ g → ⊥)
          → word_at (with_variable memory (16 + g) word) (globals_of story + 2 * k)
          ≡ slice_index (slice_set globals g word) k
      value k h (inl e) =
          let place : globals_of story + 2 * k ≡ global_address memory (16 + g) = omega (arith, e, same_globals) in
          ap (word_at (with_variable memory (16 + g) word)) place
          ∙ word_here memory (global_address memory (16 + g)) word
          (omega (arith, within, few, ground.below, ground.long))
          ∙ sym (ap (slice_index (slice_set globals g word)) e ∙ get_or-set_same globals g word 0 within)
      value k h (inr ne) =
          word_other memory (global_address memory (16 + g)) word (globals_of story + 2 * k) (away (apart k g ne))
          ∙ stored.values k h ∙ sym (get_or-set_other globals g k word 0 ne)
        where
          away : (k < g) ⊎ (g < k) → (globals_of story + 2 * k + 1 < global_address memory (16 + g)) ⊎
              (global_address memory (16 + g) + 1 < globals_of story + 2 * k)
          away (inl h) = inl (omega (arith, h, same_globals))
          away (inr h) = inr (omega (arith, h, same_globals))
