-- A memory that holds what a story holds behind its header, and names the same addresses in its own, holds its program.
use Rattle.std.proofs.Common.{◌≡◌, ℕ, ◌+◌, ◌-◌, ◌*◌, ◌<◌, ◌≤◌, List, ◌∷◌, length, drop, take, sym, ap, ◌∙◌, subst, arith}
use Rattle.std.specs.Prelude.{◌==◌, slice_index, if◌then◌else◌}
use Rattle.std.specs.List.{All}
use Rattle.std.proofs.lemmas.List.{drop-drop, get_or-drop}
use Rattle.ztext.specs.Bytes.{word_at}
use Rattle.ztext.specs.Text.{Holds, encoded}
use Rattle.ztext.specs.Abbreviations.{abbreviation_at}
use Rattle.zcore.specs.Header.{abbreviations_of, defaults_of, dictionary_of, globals_of, high_memory_of}
use Rattle.zcore.specs.Header.{static_base_of}
use Rattle.zcore.specs.Parts.{unpacked}
use Rattle.tables.specs.Dictionary.{ReadsKeys}
use Rattle.meaning.specs.Resolved.{RoutineOf, ProgramOf}
use Rattle.code_items.specs.Statements.{routine_items}
use Rattle.code.specs.Rows.{rows_of, rows_bytes}
use Rattle.code_drafts.specs.Addresses.{Addresses}
use Rattle.code.specs.Bytes.{code_bytes, code_size}
use Rattle.code.specs.HeldProgram.{HoldsAbbreviation, HoldsProgram, HoldsRoutine, HoldsText, sizes_of, start_code}

pub record IsSameBehind (story memory : List ℕ) : Type 0 where
  pub long : length memory ≡ length story
  pub behind : drop 64 memory ≡ drop 64 story
  pub first : slice_index memory 0 ≡ slice_index story 0
  pub start : word_at memory 6 ≡ word_at story 6
  pub static_base : static_base_of memory ≡ static_base_of story
  pub globals : globals_of memory ≡ globals_of story
  pub defaults : defaults_of memory ≡ defaults_of story
  pub dictionary : dictionary_of memory ≡ dictionary_of story
  pub abbreviations : abbreviations_of memory ≡ abbreviations_of story
  pub high_memory : high_memory_of memory ≡ high_memory_of story

module _ (story memory : List ℕ) (same : IsSameBehind story memory) where
  drop_same : (at : ℕ) → 64 ≤ at → drop at memory ≡ drop at story
  drop_same at after =
      let e : 64 + (at - 64) ≡ at = omega (arith, after) in
      subst (λ n. drop n memory ≡ drop n story) e
      (sym (drop-drop (at - 64) 64 memory) ∙ ap (drop (at - 64)) same.behind ∙ drop-drop (at - 64) 64 story)

  pub byte_same : (at : ℕ) → 64 ≤ at → slice_index memory at ≡ slice_index story at
  byte_same at after =
      let e : 64 + (at - 64) ≡ at = omega (arith, after) in
      subst (λ n. slice_index memory n ≡ slice_index story n) e
      (sym (get_or-drop 64 memory (at - 64) 0) ∙ ap (λ xs. slice_index xs (at - 64)) same.behind
      ∙ get_or-drop 64 story (at - 64) 0)

  pub word_same : (at : ℕ) → 64 ≤ at → word_at memory at ≡ word_at story at
  word_same at after =
      ap (λ b. b * 256 + slice_index memory (at + 1)) (byte_same at after)
      ∙ ap (λ b. slice_index story at * 256 + b) (byte_same (at + 1) (omega (arith, after)))

  holds_same : (at : ℕ) (bytes : List ℕ) → 64 ≤ at → Holds story at bytes → Holds memory at bytes
  holds_same at bytes after h = ap (take (length bytes)) (drop_same at after) ∙ h

  unpacked_same : (packed : ℕ) → unpacked memory packed ≡ unpacked story packed
  unpacked_same packed = ap (λ (b : ℕ). (if b == 8 then 8 else 4) * packed) same.first

  -- a fact of a place in the story, of the same place in memory
  at_place : (P : ℕ → Type 0) (packed : ℕ) → P (unpacked story packed) → P (unpacked memory packed)
  at_place P packed h = subst P (sym (unpacked_same packed)) h

  module _ (a : Addresses) (p : ProgramOf) (h : HoldsProgram story a p) where
    after_header : (at : ℕ) → static_base_of story ≤ at → 64 ≤ at
    after_header at above = omega (arith, above, h.globals_above, h.globals_below)

    above_base : (at : ℕ) → static_base_of story ≤ at → static_base_of memory ≤ at
    above_base at above = subst (λ n. n ≤ at) (sym same.static_base) above

    routine : (packed : ℕ) (r : RoutineOf) → HoldsRoutine story (sizes_of p) a packed r
        → HoldsRoutine memory (sizes_of p) a packed r
    routine packed r old =
        let bytes : List ℕ = r.locals ∷ code_bytes (sizes_of p) a (routine_items r) in
        record {
          bytes = at_place (λ at. Holds memory at bytes) packed
              (holds_same (unpacked story packed) bytes (after_header _ old.above) old.bytes);
          followed = at_place (λ at. at + 1 + code_size (sizes_of p) (routine_items r) < length memory) packed
              (subst (λ n. unpacked story packed + 1 + code_size (sizes_of p) (routine_items r) < n) (sym same.long)
              old.followed);
          above = at_place (λ at. static_base_of memory ≤ at) packed (above_base _ old.above);
          named = old.named;
          word = old.word;
          short = old.short;
        }

    text : (packed : ℕ) (words : List ℕ) → HoldsText story packed words → HoldsText memory packed words
    text packed words old = record {
      bytes = at_place (λ at. Holds memory at (encoded words)) packed
          (holds_same (unpacked story packed) (encoded words) (after_header _ old.above) old.bytes);
      word = old.word;
      above = at_place (λ at. static_base_of memory ≤ at) packed (above_base _ old.above);
    }

    named : (n : ℕ) → 2 * word_at memory (abbreviations_of memory + 2 * n)
        ≡ 2 * word_at story (abbreviations_of story + 2 * n)
    named n =
        ap (λ at. 2 * word_at memory (at + 2 * n)) same.abbreviations
        ∙ ap (λ w. 2 * w) (word_same (abbreviations_of story + 2 * n) (omega (arith, h.table_above)))

    abbreviation : (n : ℕ) (words : List ℕ) → HoldsAbbreviation story n words → HoldsAbbreviation memory n words
    abbreviation n words old = record {
      bytes = subst (λ at. Holds memory at (encoded words)) (sym (named n))
          (holds_same _ (encoded words) (after_header _ old.above) old.bytes);
      above = subst (λ at. static_base_of memory ≤ at) (sym (named n)) (above_base _ old.above);
      low = omega (arith, named n, old.low);
    }

    pub holds_too : All (λ b. b < 256) memory → ReadsKeys memory (dictionary_of story) p.keys → HoldsProgram memory a p
    holds_too small keys = record {
      byte_each = small;
      routines = λ r within. routine _ _ (h.routines r within);
      faults = λ cause. text _ _ (h.faults cause);
      start = subst (λ at. Holds memory at (start_code (slice_index a.routines p.main))) (sym same.start)
          (holds_same (word_at story 6) (start_code (slice_index a.routines p.main)) (after_header _ h.start_above) h.start);
      start_above = subst (λ at. static_base_of memory ≤ at) (sym same.start) (above_base _ h.start_above);
      globals_above = omega (arith, same.globals, h.globals_above);
      globals_below = omega (arith, same.globals, same.static_base, h.globals_below);
      static_below = omega (arith, same.static_base, same.long, h.static_below);
      globals = λ g within. ap (λ at. word_at memory (at + 2 * g)) same.globals
          ∙ word_same (globals_of story + 2 * g) (omega (arith, h.globals_above)) ∙ h.globals g within;
      table_above = omega (arith, same.abbreviations, h.table_above);
      table_below = omega (arith, same.abbreviations, same.globals, h.table_below);
      abbreviations = λ n within. abbreviation n (abbreviation_at p.abbreviations n) (h.abbreviations n within);
      first_array = h.first_array;
      arrays = holds_same h.first_array _ (omega (arith, h.arrays_above, h.globals_above)) h.arrays;
      arrays_each = h.arrays_each;
      arrays_above = omega (arith, same.globals, h.arrays_above);
      objects_above = omega (arith, same.defaults, h.objects_above);
      objects = record {
        stand = subst (λ at. Holds memory at (rows_bytes (rows_of p.objects) p.defaults at)) (sym same.defaults)
            (holds_same (defaults_of story) _ h.objects.above h.objects.stand);
        above = omega (arith, same.defaults, h.objects.above);
        below = omega (arith, same.defaults, same.static_base, h.objects.below);
      };
      dictionary_above = omega (arith, same.dictionary, same.static_base, h.dictionary_above);
      dictionary_there = same.dictionary ∙ h.dictionary_there;
      keys = subst (λ at. ReadsKeys memory at p.keys) (sym same.dictionary) keys;
    }
