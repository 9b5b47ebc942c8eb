-- The code of routines, and where it is laid.
use Rattle.std.proofs.Common.{◌≡◌, ℕ, zero, suc, ◌+◌, ◌-◌, ◌*◌, ◌<◌, ◌≤◌, List, [], ◌∷◌, ◌++◌, length, take, drop, refl}
use Rattle.std.proofs.Common.{Bool, true, false, nat_le, sym, ap, ◌∙◌, subst, arith, append_assoc, length-append}
use Rattle.std.proofs.lemmas.Bool.{leb-false, leb-true}
use Rattle.std.proofs.lemmas.List.{drop_at, length-map, length-replicate}
use Rattle.std.specs.Prelude.{map, replicate, slice_index, slice_index_or, sum}
use Rattle.std.specs.List.{All, concat}
use Rattle.std.specs.Global.{Vec}
use Rattle.std.proofs.lemmas.List.Concat.{concat_is, length-flat_map}
use Rattle.std.proofs.lemmas.List.Elements.{All-head, All-tail}
use Rattle.std.proofs.lemmas.List.Sums.{sum-map}
use Rattle.zcore.specs.declared.header.Version.{Version}
use Rattle.zcore.specs.Header.{scale_of}
use Rattle.meaning.specs.declared.places.Places.{Places}
use Rattle.meaning.specs.Resolved.{RoutineOf, ProgramOf}
use Rattle.meaning.specs.Meaning.{routine_at}
use Rattle.meaning.specs.Accepted.{IsRoutine}
use Rattle.meaning.specs.Places.{arrays_place, routines_place, places_of}
use Rattle.code_drafts.specs.Addresses.{Addresses, Sizes}
use Rattle.code.specs.HeldProgram.{sizes_of}
use Rattle.code.specs.Sizes.{routine_size}
use Rattle.code.specs.Written.{CodeOf}
use Rattle.story_file.specs.Layout.{aligned, parts_from, fault_texts, routine_bytes, packed_addresses}
use Rattle.zcore.specs.Layout.{greatest_word}
use Rattle.story_file.specs.Layout.{array_addresses, addresses_in, low_bytes, body_with, body_of, header_of, story_of}
use Rattle.story_file.specs.Written.{bytes_in, code_of, code_part, part_size, packed_from, IsReadyCode, FitsStory, FitsTables}
use Rattle.story_file.specs.Written.{codes_in, encoded_length, end_from, part_sizes, reaches_end}
use Rattle.story_file.proofs.Parts.{aligned_above}
use Rattle.story_file.proofs.Low.{low_length}
use Rattle.story_file.proofs.Lengths.{sizes_are}

-- Codes

-- of a program of these sizes
module _ (sizes : Sizes) where
  pub code_next : (rs : List RoutineOf) (i : ℕ) → i < length rs
      → take (i + 1) (map (code_of sizes) rs) ≡ take i (map (code_of sizes) rs) ++ code_of sizes (routine_at rs i) ∷ []
  code_next [] i h = absurd (omega arith)
  code_next (r ∷ rs) zero h = refl
  code_next (r ∷ rs) (suc i) h =
      let e : suc i + 1 ≡ suc (i + 1) = omega arith in
      ap (λ n. take n (map (code_of sizes) (r ∷ rs))) e
      ∙ ap (λ z. code_of sizes r ∷ z) (code_next rs i (omega arith))

  code_found : (rs : List RoutineOf) (k : ℕ) (d : CodeOf) → k < length rs
      → slice_index_or (map (code_of sizes) rs) k d ≡ code_of sizes (routine_at rs k)
  code_found [] k d h = absurd (omega arith)
  code_found (r ∷ rs) zero d h = refl
  code_found (r ∷ rs) (suc k) d h = code_found rs k d (omega arith)

  codes_count : (rs : List RoutineOf) → length (map (code_of sizes) rs) ≡ length rs
  codes_count [] = refl
  codes_count (r ∷ rs) = ap suc (codes_count rs)

  sizes_of_codes : (rs : List RoutineOf) (more : List ℕ)
      → map part_size (map (code_of sizes) rs) ++ more ≡ map (routine_size sizes) rs ++ more
  sizes_of_codes [] more = refl
  sizes_of_codes (r ∷ rs) more = ap (λ z. routine_size sizes r ∷ z) (sizes_of_codes rs more)

  parts_are : (a : Addresses) (rs : List RoutineOf) (more : List (List ℕ))
      → map (code_part a) (map (code_of sizes) rs) ++ more ≡ map (routine_bytes sizes a) rs ++ more
  parts_are a [] more = refl
  parts_are a (r ∷ rs) more = ap (λ z. routine_bytes sizes a r ∷ z) (parts_are a rs more)

few_locals : (p : ProgramOf) (rs : List RoutineOf) (k : ℕ) → All (IsRoutine p) rs → k < length rs
    → (routine_at rs k).locals ≤ 15
few_locals p [] k all h = absurd (omega arith)
few_locals p (r ∷ rs) zero all h = (All-head (IsRoutine p) r rs all).0
few_locals p (r ∷ rs) (suc k) all h = few_locals p rs k (All-tail (IsRoutine p) r rs all) (omega arith)

pub codes_ready : (version : Version) (p : ProgramOf) (codes : List CodeOf) → FitsStory version p
    → codes ≡ codes_in p → All IsReadyCode codes
codes_ready version p codes fits e k d h =
    let within : k < length p.routines = omega (arith, h, ap length e, codes_count (sizes_of p) p.routines) in
    let found : slice_index_or codes k d ≡ code_of (sizes_of p) (routine_at p.routines k) =
    ap (λ cs. slice_index_or cs k d) e ∙ code_found (sizes_of p) p.routines k d within in
    let few : (routine_at p.routines k).locals ≤ 15 = few_locals p p.routines k fits.accepted.routines within in
    let ready : IsReadyCode (code_of (sizes_of p) (routine_at p.routines k)) = omega (arith, few) in
    subst IsReadyCode (sym found) ready

-- Sizes and addresses

pub found_at : (xs : List ℕ) (i d : ℕ) → i < length xs → slice_index_or xs i d ≡ slice_index xs i
found_at [] i d h = absurd (omega arith)
found_at (x ∷ xs) zero d h = refl
found_at (x ∷ xs) (suc i) d h = found_at xs i d (omega arith)

-- a part ends before the end
part_within : (version : Version) (at : ℕ) (sizes : List ℕ) → at ≤ end_from (scale_of version) at sizes
part_within version at [] = aligned_above version at
part_within version at (size ∷ sizes) =
    let rest = part_within version (aligned (scale_of version) at + size) sizes in
    omega (arith, rest, aligned_above version at)

from_size : (xs : List ℕ) (i x : ℕ) → i < length xs → x ≡ slice_index_or xs i x → drop i xs ≡ x ∷ drop (i + 1) xs
from_size [] i x h is = absurd (omega (arith, h))
from_size (y ∷ xs) zero x h is = ap (λ z. z ∷ xs) (sym is)
from_size (y ∷ xs) (suc i) x h is =
    let j : suc i + 1 ≡ suc (i + 1) = omega arith in
    from_size xs i x (omega (arith, h)) is ∙ ap (λ k. x ∷ drop k (y ∷ xs)) (sym j)

pub size_within : (version : Version) (at whole : ℕ) (sizes : List ℕ) (i x : ℕ) → i < length sizes
    → x ≡ slice_index_or sizes i x
    → end_from (scale_of version) at (drop i sizes) ≡ whole → whole ≤ 65535 * scale_of version
    → aligned (scale_of version) at + x ≤ 65535 * scale_of version
size_within version at whole sizes i x h is e fits =
    let rest : List ℕ = drop (i + 1) sizes in
    let this : end_from (scale_of version) at (x ∷ rest) ≡ whole =
    ap (end_from (scale_of version) at) (sym (from_size sizes i x h is)) ∙ e in
    omega (arith, this, fits, part_within version (aligned (scale_of version) at + x) rest)

-- one more size of a text
pub sizes_step : (given : List (Vec ℕ)) (i n : ℕ) (x : Vec ℕ) (sizes more whole : List ℕ) → i < length given
    → x ≡ slice_index_or given i x → n ≡ encoded_length x → more ≡ sizes ++ n ∷ []
    → sizes ++ map encoded_length (drop i given) ≡ whole → more ++ map encoded_length (drop (i + 1) given) ≡ whole
sizes_step given i n x sizes more whole h is e m w =
    ap (λ (ns : List ℕ). ns ++ map encoded_length (drop (i + 1) given)) m
    ∙ append_assoc sizes (n ∷ []) (map encoded_length (drop (i + 1) given))
    ∙ ap (λ (k : ℕ). sizes ++ k ∷ map encoded_length (drop (i + 1) given)) e
    ∙ ap (λ (ns : List ℕ). sizes ++ ns) (sym (next given i h is)) ∙ w
  where
    next : (xs : List (Vec ℕ)) (i : ℕ) → i < length xs → x ≡ slice_index_or xs i x
        → map encoded_length (drop i xs) ≡ encoded_length x ∷ map encoded_length (drop (i + 1) xs)
    next [] i h is = absurd (omega (arith, h))
    next (y ∷ xs) zero h is = ap (λ (z : Vec ℕ). encoded_length z ∷ map encoded_length xs) (sym is)
    next (y ∷ xs) (suc i) h is =
        let j : suc i + 1 ≡ suc (i + 1) = omega arith in
        next xs i (omega (arith, h)) is
        ∙ ap (λ (k : ℕ). encoded_length x ∷ map encoded_length (drop k (y ∷ xs))) (sym j)

-- the sizes of codes, and of texts after them
pub sizes_of_texts : (codes : List CodeOf) (texts given : List (Vec ℕ)) (sizes more : List ℕ) → given ≡ texts
    → sizes ≡ map part_size codes → more ≡ sizes ++ map encoded_length given
    → more ≡ map part_size codes ++ map length (map bytes_in texts)
sizes_of_texts codes texts given sizes more g e m =
    m ∙ ap (λ (ns : List ℕ). ns ++ map encoded_length given) e
    ∙ ap (λ (ts : List (Vec ℕ)). map part_size codes ++ map encoded_length ts) g
    ∙ ap (λ (ns : List ℕ). map part_size codes ++ ns) (lengths texts)
  where
    lengths : (ts : List (Vec ℕ)) → map encoded_length ts ≡ map length (map bytes_in ts)
    lengths [] = refl
    lengths (t ∷ ts) = ap (λ (ns : List ℕ). encoded_length t ∷ ns) (lengths ts)

-- the sizes of the codes and of the texts
pub all_sizes : (p : ProgramOf) (codes : List CodeOf) (texts : List (List ℕ)) → codes ≡ codes_in p
    → texts ≡ fault_texts
    → map part_size codes ++ map length texts ≡ map (routine_size (sizes_of p)) p.routines ++ map length fault_texts
all_sizes p codes texts e t =
    ap (λ cs. map part_size cs ++ map length texts) e ∙ sizes_of_codes (sizes_of p) p.routines (map length texts)
    ∙ ap (λ ts. map (routine_size (sizes_of p)) p.routines ++ map length ts) t

end_is : (version : Version) (at : ℕ) (parts : List (List ℕ))
    → end_from (scale_of version) at (map length parts) ≡ at + length (parts_from (scale_of version) at parts)
end_is version at [] =
    let e = length-replicate {A = ℕ} (aligned (scale_of version) at - at) 0 in
    omega (arith, e, aligned_above version at)
end_is version at (part ∷ parts) =
    let up : ℕ = aligned (scale_of version) at in
    let filling : List ℕ = replicate (up - at) 0 in
    let rest : List ℕ = parts_from (scale_of version) (up + length part) parts in
    let more : end_from (scale_of version) (up + length part) (map length parts) ≡ up + length part + length rest =
    end_is version (up + length part) parts in
    omega (
      arith,
      more,
      length-append (filling ++ part) rest,
      length-append filling part,
      length-replicate {A = ℕ} (up - at) 0,
      aligned_above version at,
    )

-- the parts at packed addresses
abbrev high_parts : Addresses → ProgramOf → List (List ℕ)
high_parts a p = map (routine_bytes (sizes_of p) a) p.routines ++ fault_texts

-- how long the bytes after the header are
body_length : (version : Version) (p : ProgramOf) → length p.defaults ≡ 63
    → 64 + length (body_of version p) ≡ end_from (scale_of version) (routines_place p)
    (map (routine_size (sizes_of p)) p.routines ++ map length fault_texts)
body_length version p words =
    let a : Addresses = addresses_in (scale_of version) p in
    let low : List ℕ = low_bytes p (slice_index a.routines p.main) in
    let high : List ℕ = parts_from (scale_of version) (routines_place p) (high_parts a p) in
    let end : end_from (scale_of version) (routines_place p)
    (map (routine_size (sizes_of p)) p.routines ++ map length fault_texts)
    ≡ routines_place p + length high =
    ap (end_from (scale_of version) (routines_place p)) (sym (sizes_are (sizes_of p) a p.routines))
    ∙ end_is version (routines_place p) (high_parts a p) in
    omega (arith, end, low_length p (slice_index a.routines p.main) words, length-append low high)

pub body_within : (version : Version) (p : ProgramOf) (body : List ℕ) → FitsStory version p → body ≡ body_of version p
    → 64 + length body ≤ 65535 * scale_of version
unfolding story_of
body_within version p body fits e =
    let whole = length-append (header_of version (places_of p) (body_of version p)) (body_of version p) in
    let within : length (header_of version (places_of p) (body_of version p) ++ body_of version p)
    ≤ 65535 * scale_of version =
    fits.within in
    omega (arith, ap length e, whole, within)

pub packed_within : (version : Version) (p : ProgramOf) (codes : List CodeOf) (texts : List (List ℕ))
    (sizes : List ℕ) → FitsStory version p → codes ≡ codes_in p → texts ≡ fault_texts
    → sizes ≡ map part_size codes ++ map length texts
    → end_from (scale_of version) (routines_place p) sizes ≤ 65535 * scale_of version
packed_within version p codes texts sizes fits e t es =
    let end = ap (end_from (scale_of version) (routines_place p)) (es ∙ all_sizes p codes texts e t) in
    omega (
      arith,
      end,
      body_length version p fits.accepted.defaults.0,
      body_within version p (body_of version p) fits refl,
    )

-- The addresses of a story

pub packed_are : (version : Version) (p : ProgramOf) (codes : List CodeOf) (texts : List (List ℕ))
    (sizes packed : List ℕ) → codes ≡ codes_in p → texts ≡ fault_texts
    → sizes ≡ map part_size codes ++ map length texts
    → packed ≡ packed_from (scale_of version) (routines_place p) sizes → packed ≡ packed_addresses (scale_of version) p
packed_are version p codes texts sizes packed e t es h =
    h ∙ ap (packed_from (scale_of version) (routines_place p)) (es ∙ all_sizes p codes texts e t)

packed_count : (version : Version) (at : ℕ) (sizes : List ℕ)
    → length (packed_from (scale_of version) at sizes) ≡ length sizes
packed_count version at [] = refl
packed_count version at (size ∷ sizes) = ap suc (packed_count version (aligned (scale_of version) at + size) sizes)

-- an address for each routine, and more
pub packed_counted : (version : Version) (at : ℕ) (codes : List CodeOf) (texts : List (List ℕ)) (sizes packed : List ℕ)
    → sizes ≡ map part_size codes ++ map length texts → packed ≡ packed_from (scale_of version) at sizes
    → length codes ≤ length packed
packed_counted version at codes texts sizes packed es e =
    omega (
      arith,
      ap length e,
      packed_count version at sizes,
      ap length es,
      length-append (map part_size codes) (map length texts),
      length-map codes part_size,
    )

pub codes_counted : (p : ProgramOf) (codes : List CodeOf) → codes ≡ codes_in p
    → length codes ≡ length p.routines
codes_counted p codes e = ap length e ∙ codes_count (sizes_of p) p.routines

-- The bytes after the header

-- from what is put after the header, with addresses that are the story's
pub body_laid : (version : Version) (p : ProgramOf) (codes : List CodeOf) (a : Addresses)
    (texts : List (List ℕ)) (b b1 b2 b3 : List ℕ) (main : ℕ)
    → length p.defaults ≡ 63 → codes ≡ codes_in p → texts ≡ fault_texts → a ≡ addresses_in (scale_of version) p
    → main ≡ slice_index a.routines p.main
    → length b ≡ 64 → b1 ≡ b ++ low_bytes p main
    → ((parts : List (List ℕ)) → b2 ++ parts_from (scale_of version) (length b2) parts ≡ b1
    ++ parts_from (scale_of version) (length b1) (map (code_part a) codes ++ parts))
    → b3 ≡ b2 ++ parts_from (scale_of version) (length b2) texts
    → b3 ≡ b ++ body_of version p
body_laid version p codes a texts b b1 b2 b3 main words e t at em e0 e1 e2 e3 =
    let low : List ℕ = low_bytes p main in
    let high : List ℕ = parts_from (scale_of version) (routines_place p) (high_parts a p) in
    let begin : length b1 ≡ routines_place p =
    omega (arith, e0, ap length e1, length-append b low, low_length p main words) in
    let parts : map (code_part a) codes ++ texts ≡ high_parts a p =
    ap (λ cs. map (code_part a) cs ++ texts) e ∙ parts_are (sizes_of p) a p.routines texts
    ∙ ap (λ ts. map (routine_bytes (sizes_of p) a) p.routines ++ ts) t in
    let with_these : b3 ≡ b ++ body_with (scale_of version) a p =
    e3 ∙ e2 texts ∙ ap (λ n. b1 ++ parts_from (scale_of version) n (map (code_part a) codes ++ texts)) begin
    ∙ ap (λ ps. b1 ++ parts_from (scale_of version) (routines_place p) ps) parts
    ∙ ap (λ z. z ++ high) e1 ∙ append_assoc b low high
    ∙ ap (λ n. b ++ (low_bytes p n ++ high)) em in
    with_these ∙ ap (λ x. b ++ body_with (scale_of version) x p) at

-- arrays that stand before the routines stand at addresses that are words
pub arrays_within : (p : ProgramOf) (at : ℕ) (sizes : List ℕ) → routines_place p ≤ greatest_word → at ≡ arrays_place
    → sizes ≡ map length p.arrays → at + sum sizes ≤ greatest_word
arrays_within p at sizes placed here e = omega (arith, placed, here, ap sum e, sum_of_sizes p.arrays)
  where
    sum_of_sizes : (arrays : List (List ℕ)) → sum (map length arrays) ≡ length (concat arrays)
    sum_of_sizes arrays = sum-map length arrays ∙ sym (length-flat_map (λ bytes. bytes) arrays)
        ∙ sym (ap length (concat_is arrays))

-- the addresses are the story's
pub addresses_are : (version : Version) (p : ProgramOf) (a : Addresses) (packed arrays : List ℕ) (n : ℕ)
    → packed ≡ packed_addresses (scale_of version) p → arrays ≡ array_addresses p → n ≡ length p.routines
    → a ≡ record { routines = packed; arrays = arrays; faults = drop n packed } → a ≡ addresses_in (scale_of version) p
addresses_are version p a packed arrays n e ea en h =
    let of_packed : List ℕ → List ℕ → ℕ → Addresses =
    λ (xs : List ℕ) (ys : List ℕ) (k : ℕ). record { routines = xs; arrays = ys; faults = drop k xs } in
    h ∙ ap (λ xs. of_packed xs arrays n) e ∙ ap (λ ys. of_packed (packed_addresses (scale_of version) p) ys n) ea
    ∙ ap (of_packed (packed_addresses (scale_of version) p) (array_addresses p)) en

-- The story

pub story_laid : (version : Version) (p : ProgramOf) (places : Places) (kept body story : List ℕ) → length kept ≡ 64
    → body ≡ kept ++ body_of version p → places ≡ places_of p
    → story ≡ header_of version places (drop 64 body) ++ drop 64 body → story ≡ story_of version p
unfolding story_of
story_laid version p places kept body story long e at is =
    let rest : drop 64 body ≡ body_of version p = ap (drop 64) e ∙ drop_at kept (body_of version p) 64 long in
    is ∙ ap (λ b. header_of version places b ++ b) rest
    ∙ ap (λ (x : Places). header_of version x (body_of version p) ++ body_of version p) at

pub story_within : (version : Version) (p : ProgramOf) (kept body : List ℕ) → FitsStory version p → length kept ≡ 64
    → body ≡ kept ++ body_of version p → length body ≤ 65535 * scale_of version
story_within version p kept body fits long e =
    omega (
      arith,
      long,
      ap length e,
      length-append kept (body_of version p),
      body_within version p (body_of version p) fits refl,
    )

-- Whether packed addresses reach the end of a story

pub story_end : (version : Version) (p : ProgramOf) → length p.defaults ≡ 63
    → length (story_of version p) ≡ end_from (scale_of version) (routines_place p) (part_sizes p)
unfolding story_of
story_end version p words =
    let end = ap (end_from (scale_of version) (routines_place p)) (all_sizes p (codes_in p) fault_texts refl refl) in
    let whole = length-append (header_of version (places_of p) (body_of version p)) (body_of version p) in
    omega (arith, end, whole, body_length version p words)

not_within : (m n : ℕ) → n < m → nat_le m n ≡ false
not_within m n h = go (nat_le m n) refl
  where
    go : (b : Bool) → nat_le m n ≡ b → nat_le m n ≡ false
    go true e = absurd (omega (arith, h, leb-true m n e))
    go false e = e

-- a part ends after what packed addresses reach, so the whole does
pub beyond_end : (version : Version) (at whole : ℕ) (sizes : List ℕ) (i x : ℕ) → i < length sizes
    → x ≡ slice_index_or sizes i x → end_from (scale_of version) at (drop i sizes) ≡ whole
    → 65535 * scale_of version < aligned (scale_of version) at + x
    → nat_le whole (65535 * scale_of version) ≡ false
beyond_end version at whole sizes i x h is e far =
    let rest : List ℕ = drop (i + 1) sizes in
    let this : end_from (scale_of version) at (x ∷ rest) ≡ whole =
    ap (end_from (scale_of version) at) (sym (from_size sizes i x h is)) ∙ e in
    not_within whole (65535 * scale_of version)
    (omega (arith, this, far, part_within version (aligned (scale_of version) at + x) rest))

-- the sizes of routines come first among those of the parts
module _ (sizes : Sizes) (more : List ℕ) where
  size_there : (rs : List RoutineOf) (k d : ℕ) → k < length rs
      → slice_index_or (map part_size (map (code_of sizes) rs) ++ more) k d
      ≡ part_size (code_of sizes (routine_at rs k))
  size_there [] k d h = absurd (omega arith)
  size_there (r ∷ rs) zero d h = refl
  size_there (r ∷ rs) (suc k) d h = size_there rs k d (omega arith)

  size_counted : (rs : List RoutineOf) (k : ℕ) → k < length rs
      → k < length (map part_size (map (code_of sizes) rs) ++ more)
  size_counted [] k h = absurd (omega arith)
  size_counted (r ∷ rs) zero h = omega arith
  size_counted (r ∷ rs) (suc k) h = let there = size_counted rs k (omega arith) in omega (arith, there)

module _ (version : Version) (p : ProgramOf) (k at n : ℕ) (h : k < length p.routines)
    (is : n ≡ part_size (code_of (sizes_of p) (routine_at p.routines k)))
    (whole : ℕ) (w : end_from (scale_of version) at (drop k (part_sizes p)) ≡ whole) where
  counted : k < length (part_sizes p)
  counted = size_counted (sizes_of p) (map length fault_texts) p.routines k h

  found : n ≡ slice_index_or (part_sizes p) k n
  found = is ∙ sym (size_there (sizes_of p) (map length fault_texts) p.routines k n h)

  pub end_goes_on : (end : ℕ) → end ≡ aligned (scale_of version) at + n
      → end_from (scale_of version) end (drop (k + 1) (part_sizes p)) ≡ whole
  end_goes_on end e =
      ap (λ x. end_from (scale_of version) x (drop (k + 1) (part_sizes p))) e
      ∙ ap (end_from (scale_of version) at) (sym (from_size (part_sizes p) k n counted found)) ∙ w

  pub routine_beyond : 65535 * scale_of version < aligned (scale_of version) at + n
      → nat_le whole (65535 * scale_of version) ≡ false
  routine_beyond far = beyond_end version at whole (part_sizes p) k n counted found w far

pub story_too_long : (version : Version) (p : ProgramOf) → FitsTables p → reaches_end version p ≡ false
    → 65535 * scale_of version < length (story_of version p)
story_too_long version p fits beyond =
    let end = story_end version p fits.accepted.defaults.0 in
    let far = leb-false (end_from (scale_of version) (routines_place p) (part_sizes p)) (65535 * scale_of version) beyond in
    omega (arith, end, far)

pub story_reached : (version : Version) (p : ProgramOf) → FitsTables p → reaches_end version p ≡ true
    → length (story_of version p) ≤ 65535 * scale_of version
story_reached version p fits reached =
    let end = story_end version p fits.accepted.defaults.0 in
    let near = leb-true (end_from (scale_of version) (routines_place p) (part_sizes p)) (65535 * scale_of version) reached in
    omega (arith, end, near)

-- the test is on the sizes of codes and of texts, from the first on
pub reach_as : (version : Version) (p : ProgramOf) (codes : List CodeOf) (place : ℕ) (b : Bool)
    → place ≡ routines_place p → codes ≡ codes_in p
    → b ≡ nat_le (end_from (scale_of version) place (map part_size codes ++ map length fault_texts))
    (65535 * scale_of version)
    → reaches_end version p ≡ b
reach_as version p codes place b e t is =
    sym (is
    ∙ ap (λ at. nat_le (end_from (scale_of version) at (map part_size codes ++ map length fault_texts))
    (65535 * scale_of version)) e
    ∙ ap (λ cs. nat_le (end_from (scale_of version) (routines_place p) (map part_size cs ++ map length fault_texts))
    (65535 * scale_of version)) t)
