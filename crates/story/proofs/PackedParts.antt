-- Packed addresses, parts by their numbers, and where arrays stand.
use Rattle.std.proofs.Common.{◌≡◌, ℕ, zero, suc, ◌+◌, ◌*◌, ◌/◌, ◌==◌, ◌<◌, ◌≤◌, List, [], ◌∷◌, ◌++◌, length, take, refl}
use Rattle.std.proofs.Common.{sym, ap, ◌∙◌, subst, arith}
use Rattle.std.specs.Prelude.{map, if◌then◌else◌, slice_index, slice_index_or}
use Rattle.std.specs.List.{concat}
use Rattle.std.proofs.lemmas.List.{length-append, length-map, get_or-append-add}
use Rattle.ztext.specs.Alphabets.{spelling_of}
use Rattle.ztext.specs.Text.{encoded}
use Rattle.ztext.specs.Words.{packed}
use Rattle.zcore.specs.declared.header.Version.{Version}
use Rattle.zcore.specs.declared.header.Version.TheVariants.{V5, V8}
use Rattle.zcore.specs.Header.{scale_of, version_number}
use Rattle.zcore.specs.Layout.{header_size}
use Rattle.zcore.specs.Parts.{scale_in}
use Rattle.meaning.specs.Resolved.{RoutineOf}
use Rattle.meaning.specs.Meaning.{routine_at}
use Rattle.meaning.specs.World.{words_of}
use Rattle.meaning.specs.declared.cause.Cause.{Cause}
use Rattle.meaning.specs.declared.cause.Cause.TheVariants as causes
use Rattle.code_drafts.specs.Addresses.{Addresses, Sizes, number_of}
use Rattle.code.specs.HeldProgram.{fault_line, offset_in}
use Rattle.story_file.specs.Layout.{fault_texts, addresses_from, aligned, routine_bytes}
use Rattle.story_file.proofs.Parts.{whole}

-- Packed addresses

pub packed_is : (version : Version) (addresses : List ℕ) (k : ℕ) → k < length addresses
    → slice_index (map (λ address. address / scale_of version) addresses) k
    ≡ slice_index addresses k / scale_of version
packed_is version [] k within = absurd (omega (arith, within))
packed_is version (address ∷ addresses) zero within = refl
packed_is version (address ∷ addresses) (suc k) within = packed_is version addresses k (omega (arith, within))

pub scale_is : (version : Version) (story : List ℕ) → slice_index story 0 ≡ version_number version
    → scale_in story ≡ scale_of version
scale_is V5 story e = ap (λ n. if n == 8 then 8 else 4) e
scale_is V8 story e = ap (λ n. if n == 8 then 8 else 4) e

-- what the packed address of an address in a story is
pub record IsPacked (version : Version) (address : ℕ) : Type 0 where
  pub back : scale_of version * (address / scale_of version) ≡ address
  pub named : 0 < address / scale_of version
  pub word : address / scale_of version < 65536

pub is_packed : (version : Version) (address end : ℕ) → whole version address → header_size ≤ address
    → address ≤ end
    → end ≤ 65535 * scale_of version → IsPacked version address
is_packed V5 address end multiple low below within =
    record { back = omega (arith, multiple); named = omega (arith, low); word = omega (arith, below, within) }
is_packed V8 address end multiple low below within =
    record { back = omega (arith, multiple); named = omega (arith, low); word = omega (arith, below, within) }

-- Parts by their numbers

pub size_at : (parts : List (List ℕ)) (k : ℕ) → k < length parts
    → slice_index (map length parts) k ≡ length (slice_index_or parts k [])
size_at [] k within = absurd (omega (arith, within))
size_at (part ∷ parts) zero within = refl
size_at (part ∷ parts) (suc k) within = size_at parts k (omega (arith, within))

pub routine_is : (rs : List RoutineOf) (k : ℕ) (d : RoutineOf) → k < length rs → slice_index_or rs k d ≡ routine_at rs k
routine_is [] k d within = absurd (omega (arith, within))
routine_is (r ∷ rs) zero d within = refl
routine_is (r ∷ rs) (suc k) d within = routine_is rs k d (omega (arith, within))

pub text_lengths : map length fault_texts ≡ 26 ∷ 24 ∷ 26 ∷ 26 ∷ 30 ∷ 28 ∷ 24 ∷ 26 ∷ []
unfolding encoded packed spelling_of
text_lengths = refl

-- each text stands by its number
pub few_causes : (cause : Cause) → number_of cause < 8
few_causes causes.DivisionByZero = omega arith
few_causes causes.NotAnObject = omega arith
few_causes causes.IndexOutOfRange = omega arith
few_causes causes.NoSuchProperty = omega arith
few_causes causes.PropertyOfManyWords = omega arith
few_causes causes.ObjectInsideItself = omega arith
few_causes causes.NotACharacter = omega arith
few_causes causes.BufferTooSmall = omega arith

pub text_of : (cause : Cause) → slice_index_or fault_texts (number_of cause) [] ≡ encoded (fault_line (words_of cause))
text_of causes.DivisionByZero = refl
text_of causes.NotAnObject = refl
text_of causes.IndexOutOfRange = refl
text_of causes.NoSuchProperty = refl
text_of causes.PropertyOfManyWords = refl
text_of causes.ObjectInsideItself = refl
text_of causes.NotACharacter = refl
text_of causes.BufferTooSmall = refl

text_long : (k : ℕ) → k < 8 → 0 < slice_index (map length fault_texts) k
text_long k within = subst (λ (ns : List ℕ). 0 < slice_index ns k) (sym text_lengths) (go k within)
  where
    go : (k : ℕ) → k < 8 → 0 < slice_index (26 ∷ 24 ∷ 26 ∷ 26 ∷ 30 ∷ 28 ∷ 24 ∷ 26 ∷ []) k
    go zero h = omega arith
    go (suc zero) h = omega arith
    go (suc (suc zero)) h = omega arith
    go (suc (suc (suc zero))) h = omega arith
    go (suc (suc (suc (suc zero)))) h = omega arith
    go (suc (suc (suc (suc (suc zero))))) h = omega arith
    go (suc (suc (suc (suc (suc (suc zero)))))) h = omega arith
    go (suc (suc (suc (suc (suc (suc (suc zero))))))) h = omega arith
    go (suc (suc (suc (suc (suc (suc (suc (suc k)))))))) h = absurd (omega (arith, h))

module _ (sizes : Sizes) (a : Addresses) where
  abbrev pub parts_of : List RoutineOf → List (List ℕ)
  parts_of rs = map (routine_bytes sizes a) rs ++ fault_texts

  pub parts_count : (rs : List RoutineOf) → length (parts_of rs) ≡ length rs + 8
  parts_count rs =
      let b : length (map (routine_bytes sizes a) rs) ≡ length rs = length-map rs (routine_bytes sizes a) in
      omega (arith, length-append (map (routine_bytes sizes a) rs) fault_texts, b)

  pub routine_part : (rs : List RoutineOf) (k : ℕ) → k < length rs
      → slice_index_or (parts_of rs) k [] ≡ routine_bytes sizes a (routine_at rs k)
  routine_part [] k within = absurd (omega (arith, within))
  routine_part (r ∷ rs) zero within = refl
  routine_part (r ∷ rs) (suc k) within = routine_part rs k (omega (arith, within))

  pub text_part : (rs : List RoutineOf) (n : ℕ)
      → slice_index_or (parts_of rs) (length rs + n) [] ≡ slice_index_or fault_texts n []
  text_part rs n =
      ap (λ k. slice_index_or (parts_of rs) (k + n) []) (sym (length-map rs (routine_bytes sizes a)))
      ∙ get_or-append-add (map (routine_bytes sizes a) rs) fault_texts n []

  -- no part is empty
  pub part_long : (rs : List RoutineOf) (k : ℕ) → k < length (parts_of rs)
      → 0 < slice_index (map length (parts_of rs)) k
  part_long [] k within = text_long k within
  part_long (r ∷ rs) zero within = omega arith
  part_long (r ∷ rs) (suc k) within = part_long rs k (omega (arith, within))

-- Arrays

-- an array may stand at every address, and so they stand one after another
pub array_found : (at : ℕ) (arrays : List (List ℕ)) (n : ℕ) → n < length arrays
    → slice_index (addresses_from 1 at (map length arrays)) n ≡ at + offset_in arrays n
array_found at [] n within = absurd (omega (arith, within))
array_found at (bytes ∷ arrays) zero within = omega arith
array_found at (bytes ∷ arrays) (suc n) within =
    let more : slice_index (addresses_from 1 (aligned 1 at + length bytes) (map length arrays)) n
    ≡ aligned 1 at + length bytes + offset_in arrays n =
    array_found (aligned 1 at + length bytes) arrays n (omega (arith, within)) in
    let all = length-append bytes (concat (take n arrays)) in
    omega (arith, more, all)
