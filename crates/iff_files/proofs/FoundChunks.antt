-- Chunks that are found, and chunks that are written.
use Rattle.std.proofs.Common.{◌≡◌, ℕ, zero, suc, ◌+◌, ◌*◌, ◌/◌, ◌%◌, ◌<◌, ◌≤◌, Bool, false, if◌then◌else◌}
use Rattle.std.proofs.Common.{List, [], ◌∷◌, ◌++◌, length, take, drop, refl, ap, sym, ◌∙◌, arith}
use Rattle.std.proofs.Common.{Option, Some, None, append_assoc, nat_lt, eqb}
use Rattle.std.specs.Borrow.{Bor}
use Rattle.std.specs.Option.{option_and_then, option_map}
use Rattle.std.proofs.lemmas.Bool.{le-ltb, lt-ltb}
use Rattle.std.proofs.lemmas.List.{drop_at, length-append, take_at}
use Rattle.iff_files.specs.declared.chunks.Part.{Part}
use Rattle.iff_files.specs.Chunks.{chunk, chunks_after, first_chunk, found, four, holds, padding, stated}
use Rattle.iff_files.specs.Steps.{first_found, now_of}
use Rattle.iff_files.proofs.ReadFrames.{word_back}

-- the steps of `find_part`

chunks_skip : (bytes : List ℕ) (n : ℕ) → chunks_after n bytes ≡ chunks_after 0 (drop n bytes)
unfolding chunks_after
chunks_skip [] zero = refl
chunks_skip [] (suc n) = refl
chunks_skip (b ∷ bytes) zero = refl
chunks_skip (b ∷ bytes) (suc n) = chunks_skip bytes n

-- what a chunk and the rest of the bytes come to
abbrev further : List ℕ → Option (List (List ℕ)) → Option (List (List ℕ))
further bytes o = option_map (λ chunks. first_chunk bytes ∷ chunks) o

abbrev at_chunk : List ℕ → Bool → Bool → Option (List (List ℕ)) → Option (List (List ℕ))
at_chunk bytes is_short is_cut o = if is_short then Some [] else (if is_cut then None else further bytes o)

chunks_step : (b : ℕ) (bytes : List ℕ) → chunks_after 0 (b ∷ bytes)
    ≡ at_chunk (b ∷ bytes) (nat_lt (length (b ∷ bytes)) 8) (nat_lt (length (b ∷ bytes)) (8 + stated (b ∷ bytes)))
    (chunks_after (7 + stated (b ∷ bytes) + stated (b ∷ bytes) % 2) bytes)
unfolding chunks_after
chunks_step b bytes = refl

chunks_end : (bytes : List ℕ) → length bytes < 8 → chunks_after 0 bytes ≡ Some []
unfolding chunks_after
chunks_end [] lt = refl
chunks_end (b ∷ bytes) lt = chunks_step b bytes
    ∙ ap (λ (t : Bool). at_chunk (b ∷ bytes) t (nat_lt (length (b ∷ bytes)) (8 + stated (b ∷ bytes)))
    (chunks_after (7 + stated (b ∷ bytes) + stated (b ∷ bytes) % 2) bytes))
    (lt-ltb (length (b ∷ bytes)) 8 lt)

chunks_cut : (bytes : List ℕ) → 8 ≤ length bytes → length bytes < 8 + stated bytes → chunks_after 0 bytes ≡ None
chunks_cut [] le lt = absurd (omega (arith, le))
chunks_cut (b ∷ bytes) le lt =
    let rest : Option (List (List ℕ)) = chunks_after (7 + stated (b ∷ bytes) + stated (b ∷ bytes) % 2) bytes in
    chunks_step b bytes
    ∙ ap (λ (t : Bool). at_chunk (b ∷ bytes) t (nat_lt (length (b ∷ bytes)) (8 + stated (b ∷ bytes))) rest)
    (le-ltb (length (b ∷ bytes)) 8 le)
    ∙ ap (λ (t : Bool). at_chunk (b ∷ bytes) false t rest) (lt-ltb (length (b ∷ bytes)) (8 + stated (b ∷ bytes)) lt)

chunks_more : (bytes : List ℕ) → 8 ≤ length bytes → 8 + stated bytes ≤ length bytes
    → chunks_after 0 bytes ≡ further bytes (chunks_after 0 (drop (8 + stated bytes + stated bytes % 2) bytes))
chunks_more [] le whole = absurd (omega (arith, le))
chunks_more (b ∷ bytes) le whole =
    let size : ℕ = stated (b ∷ bytes) in
    let rest : Option (List (List ℕ)) = chunks_after (7 + size + size % 2) bytes in
    let count : suc (7 + size + size % 2) ≡ 8 + size + size % 2 = omega arith in
    chunks_step b bytes
    ∙ ap (λ (t : Bool). at_chunk (b ∷ bytes) t (nat_lt (length (b ∷ bytes)) (8 + size)) rest)
    (le-ltb (length (b ∷ bytes)) 8 le)
    ∙ ap (λ (t : Bool). at_chunk (b ∷ bytes) false t rest) (le-ltb (length (b ∷ bytes)) (8 + size) whole)
    ∙ ap (λ (t : Option (List (List ℕ))). further (b ∷ bytes) t) (chunks_skip bytes (7 + size + size % 2))
    ∙ ap (λ (t : ℕ). further (b ∷ bytes) (chunks_after 0 (drop t (b ∷ bytes)))) count

-- what is found in the end, with a chunk that was found so far
abbrev pub left_in : Part → Option (Bor (List ℕ)) → List ℕ → Option (List ℕ)
left_in part so_far bytes = option_and_then (λ chunks. first_found so_far (found part chunks)) (chunks_after 0 bytes)

pub left_cut : (part : Part) (so_far : Option (Bor (List ℕ))) (bytes : List ℕ) → 8 ≤ length bytes
    → length bytes < 8 + stated bytes → left_in part so_far bytes ≡ None
left_cut part so_far bytes le lt = ap (λ (t : Option (List (List ℕ))).
    option_and_then (λ chunks. first_found so_far (found part chunks)) t) (chunks_cut bytes le lt)

after_first : (F G : List (List ℕ) → Option (List ℕ)) (c : List ℕ) (o : Option (List (List ℕ)))
    → ((chunks : List (List ℕ)) → F (c ∷ chunks) ≡ G chunks)
    → option_and_then F (option_map (λ chunks. c ∷ chunks) o) ≡ option_and_then G o
after_first F G c None same = refl
after_first F G c (Some chunks) same = same chunks

pub left_more : (part : Part) (so_far next : Option (Bor (List ℕ))) (bytes : List ℕ) → 8 ≤ length bytes
    → 8 + stated bytes ≤ length bytes
    → ((later : Option (List ℕ)) → first_found next later
    ≡ first_found so_far (if holds part (first_chunk bytes) then Some (first_chunk bytes) else later))
    → left_in part next (drop (8 + stated bytes + stated bytes % 2) bytes) ≡ left_in part so_far bytes
left_more part so_far next bytes le whole first = sym (
    ap (λ (t : Option (List (List ℕ))). option_and_then (λ chunks. first_found so_far (found part chunks)) t)
    (chunks_more bytes le whole)
    ∙ after_first (λ chunks. first_found so_far (found part chunks)) (λ chunks. first_found next (found part chunks))
    (first_chunk bytes) (chunks_after 0 (drop (8 + stated bytes + stated bytes % 2) bytes))
    (λ chunks. sym (first (found part chunks))))

found_at_end : (o : Option (Bor (List ℕ))) → first_found o None ≡ now_of o
found_at_end None = refl
found_at_end (Some c) = refl

pub left_end : (part : Part) (so_far : Option (Bor (List ℕ))) (bytes : List ℕ) → length bytes < 8
    → left_in part so_far bytes ≡ now_of so_far
left_end part so_far bytes lt =
    ap (λ (t : Option (List (List ℕ))). option_and_then (λ chunks. first_found so_far (found part chunks)) t)
    (chunks_end bytes lt)
    ∙ found_at_end so_far

-- a chunk that is written

pub padding_is : (m : ℕ) → m < 2 → (if eqb m 1 then 0 ∷ [] else []) ≡ padding m
padding_is zero lt = refl
padding_is (suc zero) lt = refl
padding_is (suc (suc m)) lt = absurd (omega (arith, lt))

length-padding : (m : ℕ) → m < 2 → length (padding m) ≡ m
length-padding zero lt = refl
length-padding (suc zero) lt = refl
length-padding (suc (suc m)) lt = absurd (omega (arith, lt))

pub length-chunk : (a b c d : ℕ) (contents : List ℕ)
    → length (chunk (a ∷ b ∷ c ∷ d ∷ []) contents) ≡ 8 + length contents + length contents % 2
unfolding chunk
length-chunk a b c d contents = omega (
  arith,
  length-append contents (padding (length contents % 2)),
  length-padding (length contents % 2) (omega arith),
)

pub four_back : (n : ℕ)
    → ((n / 256 / 256 / 256 * 256 + n / 256 / 256 % 256) * 256 + n / 256 % 256) * 256 + n % 256 ≡ n
four_back n =
    ap (λ (t : ℕ). (t * 256 + n / 256 % 256) * 256 + n % 256) (word_back (n / 256 / 256))
    ∙ ap (λ (t : ℕ). t * 256 + n % 256) (word_back (n / 256)) ∙ word_back n

-- a chunk without its padding
abbrev pub bare : List ℕ → List ℕ → List ℕ
bare name contents = name ++ (four (length contents) ++ contents)

-- the bytes of a chunk with what comes after it
spread : (name contents rest : List ℕ) → chunk name contents ++ rest
    ≡ name ++ (four (length contents) ++ (contents ++ (padding (length contents % 2) ++ rest)))
unfolding chunk
spread name contents rest =
    append_assoc name (four (length contents) ++ (contents ++ padding (length contents % 2))) rest
    ∙ ap (λ (t : List ℕ). name ++ (four (length contents) ++ t))
    (append_assoc contents (padding (length contents % 2)) rest)

-- A chunk that is written is read back.
pub chunk_back : (a b c d : ℕ) (contents rest : List ℕ) → chunks_after 0 (chunk (a ∷ b ∷ c ∷ d ∷ []) contents ++ rest)
    ≡ option_map (λ chunks. bare (a ∷ b ∷ c ∷ d ∷ []) contents ∷ chunks) (chunks_after 0 rest)
chunk_back a b c d contents rest =
    let name : List ℕ = a ∷ b ∷ c ∷ d ∷ [] in
    let n : ℕ = length contents in
    let pad : List ℕ = padding (n % 2) in
    let bytes : List ℕ = name ++ (four n ++ (contents ++ (pad ++ rest))) in
    let size : stated bytes ≡ n = four_back n in
    let long : length bytes ≡ 8 + (n + length (pad ++ rest)) =
    omega (arith, length-append contents (pad ++ rest)) in
    let bare_long : length (bare name contents) ≡ 8 + n = omega arith in
    let padded : length (bare name contents ++ pad) ≡ 8 + n + n % 2 =
    omega (arith, length-append (bare name contents) pad, bare_long, length-padding (n % 2) (omega arith)) in
    let first : first_chunk bytes ≡ bare name contents =
    ap (λ (t : ℕ). take (8 + t) bytes) size ∙ take_at (bare name contents) (pad ++ rest) (8 + n) bare_long in
    let after : drop (8 + n + n % 2) bytes ≡ rest =
    ap (λ (t : List ℕ). drop (8 + n + n % 2) t) (sym (append_assoc (bare name contents) pad rest))
    ∙ drop_at (bare name contents ++ pad) rest (8 + n + n % 2) padded in
    ap (λ (t : List ℕ). chunks_after 0 t) (spread name contents rest)
    ∙ chunks_more bytes (omega (arith, long)) (omega (arith, size, long))
    ∙ ap (λ (t : ℕ). option_map (λ chunks. first_chunk bytes ∷ chunks) (chunks_after 0 (drop (8 + t + t % 2) bytes))) size
    ∙ ap (λ (t : List ℕ). option_map (λ chunks. t ∷ chunks) (chunks_after 0 (drop (8 + n + n % 2) bytes))) first
    ∙ ap (λ (t : List ℕ). option_map (λ chunks. bare name contents ∷ chunks) (chunks_after 0 t)) after

pub no_chunks : chunks_after 0 [] ≡ Some []
unfolding chunks_after
no_chunks = refl
