-- What the player writes into a header leaves memory as long, and the version and the addresses as they are.
use Rattle.std.proofs.Common.{◌≡◌, ℕ, ◌+◌, ◌*◌, ◌<◌, ◌≤◌, ◌/◌, ◌%◌, List, [], ◌∷◌, length, set, refl, ap, ◌∙◌, arith}
use Rattle.std.proofs.Common.{slice_index, Bool, true, false, cond}
use Rattle.std.proofs.lemmas.List.{length-set}
use Rattle.zcore.specs.Layout.{header_size}
use Rattle.zcore.specs.Parts.{with_word}
use Rattle.zcore.specs.Turn.{with_bytes}
use Rattle.zcore_standard_loading.specs.declared.options.Capabilities.{Capabilities}
use Rattle.zcore_standard_loading.specs.Loading.{with_extension_word, with_header}
use Rattle.std.specs.Prelude.{◌&&◌, nat_le, min}
use Rattle.std.proofs.lemmas.Bool.{and_parts, leb-true}
use Rattle.std.proofs.lemmas.List.{get_or-set_other, get_or-take}
use Rattle.zcore.specs.Header.{static_base_of}
use Rattle.ztext.specs.Bytes.{word_at}
use Rattle.zcore_standard.specs.Extension.{extension_of, extension_place, has_dynamic_word, number_of}
use Rattle.zcore_standard_loading.specs.Loading.{with_extension, flags_1, flags_2, screen, colours, revision}
use Rattle.zcore_standard_loading.specs.Loading.{memory_for, story_in, story_length}

-- bytes that are written leave the memory as long
length-with_bytes : (memory : List ℕ) (at : ℕ) (bytes : List ℕ) → length (with_bytes memory at bytes) ≡ length memory
length-with_bytes memory at [] = refl
length-with_bytes memory at (b ∷ bs) = length-with_bytes (set memory at b) (at + 1) bs ∙ length-set memory at b

-- what comes before them stays
bytes_before : (memory : List ℕ) (at : ℕ) (bytes : List ℕ) (j : ℕ) → j < at
    → slice_index (with_bytes memory at bytes) j ≡ slice_index memory j
bytes_before memory at [] j below = refl
bytes_before memory at (b ∷ bs) j below =
    bytes_before (set memory at b) (at + 1) bs j (omega arith)
    ∙ get_or-set_other memory at j b 0 (λ e. absurd (omega (arith, e, below)))

word_before : (memory : List ℕ) (at word j : ℕ) → j < at
    → slice_index (with_word memory at word) j ≡ slice_index memory j
word_before memory at word j below =
    get_or-set_other (set memory at (word / 256)) (at + 1) j (word % 256) 0 (λ e. absurd (omega (arith, e, below)))
    ∙ get_or-set_other memory at j (word / 256) 0 (λ e. absurd (omega (arith, e, below)))

-- the header's first byte, those that name addresses, and the length

pub record Stays (before after : List ℕ) : Type 0 where
  pub first : slice_index after 0 ≡ slice_index before 0
  pub addresses : (j : ℕ) → 2 ≤ j → j < 16 → slice_index after j ≡ slice_index before j
  pub long : length after ≡ length before

stays_then : (a b c : List ℕ) → Stays a b → Stays b c → Stays a c
stays_then a b c p q = record {
  first = q.first ∙ p.first;
  addresses = λ j l h. q.addresses j l h ∙ p.addresses j l h;
  long = q.long ∙ p.long;
}

bytes_stay : (memory : List ℕ) (at : ℕ) (bytes : List ℕ) → 16 ≤ at → Stays memory (with_bytes memory at bytes)
bytes_stay memory at bytes late = record {
  first = bytes_before memory at bytes 0 (omega arith);
  addresses = λ j l h. bytes_before memory at bytes j (omega arith);
  long = length-with_bytes memory at bytes;
}

-- byte 1 is none of them
flags_stay : (memory : List ℕ) (byte : ℕ) → Stays memory (with_bytes memory 1 (byte ∷ []))
flags_stay memory byte = record {
  first = bytes_before memory 1 (byte ∷ []) 0 (omega arith);
  addresses = λ j l h. get_or-set_other memory 1 j byte 0 (λ e. absurd (omega (arith, e, l)));
  long = length-with_bytes memory 1 (byte ∷ []);
}

if_word_stays : (holds : Bool) (memory : List ℕ) (at word : ℕ) → (holds ≡ true → 16 ≤ at)
    → Stays memory (cond holds (with_word memory at word) memory)
if_word_stays true memory at word late =
    let far : 16 ≤ at = late refl in
    record {
      first = word_before memory at word 0 (omega arith);
      addresses = λ j l h. word_before memory at word j (omega arith);
      long = length-set (set memory at (word / 256)) (at + 1) (word % 256) ∙ length-set memory at (word / 256);
    }
if_word_stays false memory at word late = record { first = refl; addresses = λ j l h. refl; long = refl }

extension_word_stays : (number word : ℕ) (memory : List ℕ) → Stays memory (with_extension_word number word memory)
extension_word_stays number word memory =
    if_word_stays (has_dynamic_word memory number) memory (extension_place memory number) word (λ h.
    let parts = and_parts (nat_le header_size (extension_of memory)
    && nat_le (extension_place memory number + 2) (min (length memory) (static_base_of memory)))
    (nat_le number (word_at memory (extension_of memory))) h in
    let most = and_parts (nat_le header_size (extension_of memory))
    (nat_le (extension_place memory number + 2) (min (length memory) (static_base_of memory))) parts.0 in
    let after : header_size ≤ extension_of memory = leb-true header_size (extension_of memory) most.0 in
    omega (arith, after))

extension_stays : (memory : List ℕ) → Stays memory (with_extension memory)
extension_stays memory =
    let four = with_extension_word 4 0 memory in
    let five = with_extension_word 5 0x7FFF four in
    stays_then memory five _ (stays_then memory four five (extension_word_stays 4 0 memory)
    (extension_word_stays 5 0x7FFF four)) (extension_word_stays 6 0 five)

pub header_stays : (shown : Capabilities) (story : List ℕ) → Stays story (with_header shown story)
unfolding with_header
header_stays shown story =
    let number = number_of story in
    let first = flags_1 shown.has_styles number (slice_index story 1) ∷ [] in
    let one = with_bytes story 0x01 first in
    let two = with_bytes one 0x10 (flags_2 (number_of story) story) in
    let three = with_bytes two 0x1E (screen shown number) in
    let four = with_bytes three 0x2C (colours number) in
    let five = with_bytes four 0x32 revision in
    stays_then story one _ (flags_stay story (flags_1 shown.has_styles number (slice_index story 1)))
    (stays_then one two _ (bytes_stay one 0x10 (flags_2 (number_of story) story) (omega arith))
    (stays_then two three _ (bytes_stay two 0x1E (screen shown number) (omega arith))
    (stays_then three four _ (bytes_stay three 0x2C (colours number) (omega arith))
    (stays_then four five _ (bytes_stay four 0x32 revision (omega arith)) (extension_stays five)))))

-- the same with the names that callers want
pub first_stays : (shown : Capabilities) (story : List ℕ) → number_of (with_header shown story) ≡ number_of story
first_stays shown story = (header_stays shown story).first

pub length_stays : (shown : Capabilities) (story : List ℕ) → length (with_header shown story) ≡ length story
length_stays shown story = (header_stays shown story).long

pub base_stays : (shown : Capabilities) (story : List ℕ) → static_base_of (with_header shown story) ≡ static_base_of story
base_stays shown story =
    let s = header_stays shown story in
    ap (λ (b : ℕ). b * 256 + slice_index (with_header shown story) 15) (s.addresses 14 (omega arith) (omega arith))
    ∙ ap (λ (b : ℕ). slice_index story 14 * 256 + b) (s.addresses 15 (omega arith) (omega arith))

-- of a story in a file, where it has a header
pub base_in_file : (shown : Capabilities) (file : List ℕ) → header_size ≤ story_length file
    → static_base_of (memory_for shown file) ≡ static_base_of file
base_in_file shown file least =
    let n = story_length file in
    base_stays shown (story_in file)
    ∙ ap (λ (b : ℕ). b * 256 + slice_index (story_in file) 15) (get_or-take n file 14 0 (omega arith))
    ∙ ap (λ (b : ℕ). slice_index file 14 * 256 + b) (get_or-take n file 15 0 (omega arith))
