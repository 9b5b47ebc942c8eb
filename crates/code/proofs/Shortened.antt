-- The abbreviations of a story are those of the memory while it runs: so texts that use them are read back.
use Rattle.std.proofs.Common.{◌≡◌, ℕ, zero, suc, ◌+◌, ◌*◌, ◌<◌, List, [], ◌∷◌, length, slice_index, Bool, true, refl}
use Rattle.std.proofs.Common.{ap, ◌∙◌, arith}
use Rattle.std.specs.Prelude.{nat_le, ◌&&◌}
use Rattle.std.specs.List.{All, list_all}
use Rattle.std.proofs.lemmas.Bool.{le-leb}
use Rattle.ztext.specs.Bytes.{word_at}
use Rattle.ztext.specs.Alphabets.{is_printable}
use Rattle.zcore.specs.Header.{abbreviations_of, globals_of, static_base_of}
use Rattle.ztext.specs.Text.{has_abbreviations, abbreviation_address, encoded}
use Rattle.ztext.specs.Abbreviations.{abbreviation_at, HasAbbreviations}
use Rattle.ztext.proofs.Expanding.{plain_abbreviation}
use Rattle.meaning.specs.Objects.{Objects}
use Rattle.meaning.specs.Resolved.{ProgramOf}
use Rattle.code_drafts.specs.Addresses.{Addresses}
use Rattle.code.specs.HeldProgram.{HoldsProgram}
use Rattle.code.proofs.Memory.{holds_on}
use Rattle.code.proofs.Play.{Stored}

-- what holds of each of some texts holds of the one that has a number
text_of : (P : List ℕ → Type 0) (texts : List (List ℕ)) (n : ℕ) → All P texts → n < length texts
    → P (abbreviation_at texts n)
text_of P [] n all h = absurd (omega (arith, h))
text_of P (t ∷ ts) zero all h = all 0 t (omega arith)
text_of P (t ∷ ts) (suc n) all h =
    text_of P ts n (λ k d l. all (suc k) d (omega (arith, l))) (omega (arith, h))

-- three tests that hold
all_three : (x y z : Bool) → x ≡ true → y ≡ true → z ≡ true → (x && y && z) ≡ true
all_three x y z a b c = rw (a, b, c) refl

module _ (story : List ℕ) (a : Addresses) (p : ProgramOf) (holds : HoldsProgram story a p) (globals : List ℕ)
    (arrays : List (List ℕ)) (objects : Objects) (memory : List ℕ)
    (stored : Stored story a p globals arrays objects memory) where
  -- a word below the globals is the story's
  word_same : (q : ℕ) → q + 1 < globals_of story → word_at memory q ≡ word_at story q
  word_same q h =
      ap (λ x. x * 256 + slice_index memory (q + 1)) (stored.below q (omega (arith, h)))
      ∙ ap (λ x. slice_index story q * 256 + x) (stored.below (q + 1) h)

  table_same : abbreviations_of memory ≡ abbreviations_of story
  table_same = word_same 24 (omega (arith, holds.table_above, holds.table_below))

  has_table : has_abbreviations memory ≡ true
  has_table =
      all_three (nat_le 64 (length memory)) (nat_le 1 (word_at memory 24))
      (nat_le (word_at memory 24 + 192) (length memory))
      (le-leb _ _ (omega (arith, stored.size, holds.globals_above, holds.globals_below, holds.static_below)))
      (le-leb _ _ (omega (arith, table_same, holds.table_above)))
      (le-leb _ _ (omega (
        arith,
        table_same,
        stored.size,
        holds.table_below,
        holds.globals_below,
        holds.static_below,
      )))

  -- where the table of the memory says that a text stands
  address_same : (n : ℕ) → n < 96
      → abbreviation_address memory n ≡ 2 * word_at story (abbreviations_of story + 2 * n)
  address_same n h =
      ap (λ x. 2 * word_at memory (x + 2 * n)) table_same
      ∙ ap (λ x. 2 * x) (word_same (abbreviations_of story + 2 * n) (omega (arith, h, holds.table_below)))

  -- a text in a story ends where it can be read
  pub has_all : All (λ (t : List ℕ). list_all is_printable t ≡ true) p.abbreviations
      → HasAbbreviations memory p.abbreviations
  has_all printable n known few =
      let there = holds.abbreviations n known in
      let address = 2 * word_at story (abbreviations_of story + 2 * n) in
      plain_abbreviation (abbreviation_at p.abbreviations n) memory n address has_table (address_same n few)
      (text_of (λ t. list_all is_printable t ≡ true) p.abbreviations n printable known)
      (holds_on (static_base_of story) address story memory (encoded (abbreviation_at p.abbreviations n)) stored.kept
      there.above there.bytes)
      there.low
