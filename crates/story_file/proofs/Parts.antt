-- Parts that stand one after another, each at a multiple of the scale of packed addresses.
use Rattle.std.proofs.Common.{◌≡◌, ℕ, zero, suc, ◌+◌, ◌-◌, ◌*◌, ◌/◌, ◌<◌, ◌≤◌, List, [], ◌∷◌, ◌++◌, length, take, drop}
use Rattle.std.proofs.Common.{refl, sym, ap, ◌∙◌, subst, arith}
use Rattle.std.specs.Prelude.{map, replicate, slice_index, slice_index_or}
use Rattle.std.proofs.lemmas.List.{append_assoc, length-append, length-replicate, length-drop, drop-drop, drop_at}
use Rattle.std.proofs.lemmas.List.{take_at}
use Rattle.ztext.specs.Text.{Holds}
use Rattle.zcore.specs.declared.header.Version.{Version}
use Rattle.zcore.specs.declared.header.Version.TheVariants.{V5, V8}
use Rattle.zcore.specs.Header.{scale_of}
use Rattle.story_file.specs.Layout.{aligned, addresses_from, parts_from}

-- Lists

-- what stands after a list
pub behind : (n m : ℕ) (xs ys : List ℕ) → length xs ≡ n → drop (n + m) (xs ++ ys) ≡ drop m ys
behind n m xs ys e = sym (drop-drop m n (xs ++ ys)) ∙ ap (drop m) (drop_at xs ys n e)

pub behind_at : (at n : ℕ) (story xs ys : List ℕ) → drop at story ≡ xs ++ ys → length xs ≡ n
    → drop (at + n) story ≡ ys
behind_at at n story xs ys stands e = sym (drop-drop n at story) ∙ ap (drop n) stands ∙ drop_at xs ys n e

pub holds_first : (at : ℕ) (story xs ys : List ℕ) → drop at story ≡ xs ++ ys → Holds story at xs
holds_first at story xs ys stands = ap (take (length xs)) stands ∙ take_at xs ys (length xs) refl

-- Multiples

abbrev pub whole : Version → ℕ → Type 0
whole version at = at / scale_of version * scale_of version ≡ at

pub aligned_whole : (version : Version) (at : ℕ) → whole version (aligned (scale_of version) at)
aligned_whole V5 at = omega arith
aligned_whole V8 at = omega arith

pub aligned_above : (version : Version) (at : ℕ) → at ≤ aligned (scale_of version) at
aligned_above V5 at = omega arith
aligned_above V8 at = omega arith

pub aligned_below : (version : Version) (at : ℕ) → aligned (scale_of version) at ≤ at + 7
aligned_below V5 at = omega arith
aligned_below V8 at = omega arith

-- Parts

module _ (version : Version) (story : List ℕ) where
  -- a part that stands at an address
  pub record HasPartAt (at address : ℕ) (part : List ℕ) : Type 0 where
    pub bytes : Holds story address part
    pub above : at ≤ address
    pub multiple : whole version address
    pub within : address + length part ≤ length story

  -- parts from an address on: filling, the first of them, and the others
  first_stands : (at : ℕ) (part : List ℕ) (parts : List (List ℕ))
      → drop at story ≡ parts_from (scale_of version) at (part ∷ parts)
      → drop (aligned (scale_of version) at) story ≡ part
      ++ parts_from (scale_of version) (aligned (scale_of version) at + length part) parts
  first_stands at part parts stands =
      let up = aligned (scale_of version) at in
      let filling : List ℕ = replicate (up - at) 0 in
      let rest : List ℕ = parts_from (scale_of version) (up + length part) parts in
      let e : at + (up - at) ≡ up = omega (arith, aligned_above version at) in
      subst (λ x. drop x story ≡ part ++ rest) e
      (behind_at at (up - at) story filling (part ++ rest) (stands
      ∙ append_assoc filling part rest) (length-replicate {A = ℕ} (up - at) 0))

  others_stand : (at : ℕ) (part : List ℕ) (parts : List (List ℕ))
      → drop at story ≡ parts_from (scale_of version) at (part ∷ parts)
      → drop (aligned (scale_of version) at + length part) story
      ≡ parts_from (scale_of version) (aligned (scale_of version) at + length part) parts
  others_stand at part parts stands =
      let up = aligned (scale_of version) at in
      behind_at up (length part) story part (parts_from (scale_of version) (up + length part) parts)
      (first_stands at part parts stands) refl

  -- the filling and the part end within the story
  first_within : (at : ℕ) (part : List ℕ) (parts : List (List ℕ)) → at ≤ length story
      → drop at story ≡ parts_from (scale_of version) at (part ∷ parts)
      → aligned (scale_of version) at + length part ≤ length story
  first_within at part parts low stands =
      let up : ℕ = aligned (scale_of version) at in
      let filling : List ℕ = replicate (up - at) 0 in
      let rest : List ℕ = parts_from (scale_of version) (up + length part) parts in
      let a : length story - at ≡ length (filling ++ part ++ rest) = sym (length-drop at story) ∙ ap length stands in
      let b = length-append (filling ++ part) rest in
      let c = length-append filling part in
      let d : length filling ≡ up - at = length-replicate {A = ℕ} (up - at) 0 in
      omega (arith, a, b, c, d, low, aligned_above version at)

  -- each part stands at its address
  pub parts_stand : (at : ℕ) (parts : List (List ℕ)) → at ≤ length story
      → drop at story ≡ parts_from (scale_of version) at parts
      → (k : ℕ) → k < length parts
      → HasPartAt at (slice_index (addresses_from (scale_of version) at (map length parts)) k)
      (slice_index_or parts k [])
  parts_stand at [] low stands k within = absurd (omega (arith, within))
  parts_stand at (part ∷ parts) low stands zero within =
      record {
        bytes = holds_first (aligned (scale_of version) at) story part
            (parts_from (scale_of version) (aligned (scale_of version) at + length part) parts)
            (first_stands at part parts stands);
        above = aligned_above version at;
        multiple = aligned_whole version at;
        within = first_within at part parts low stands;
      }
  parts_stand at (part ∷ parts) low stands (suc k) within =
      let next = parts_stand (aligned (scale_of version) at + length part) parts
      (first_within at part parts low stands)
      (others_stand at part parts stands) k (omega (arith, within)) in
      record {
        bytes = next.bytes;
        above = omega (arith, next.above, aligned_above version at);
        multiple = next.multiple;
        within = next.within;
      }

-- a part ends where the next one stands or before
pub parts_rise : (version : Version) (at : ℕ) (sizes : List ℕ) (k : ℕ) → suc k < length sizes
    → slice_index (addresses_from (scale_of version) at sizes) k + slice_index sizes k
    ≤ slice_index (addresses_from (scale_of version) at sizes) (suc k)
parts_rise version at [] k within = absurd (omega (arith, within))
parts_rise version at (size ∷ []) k within = absurd (omega (arith, within))
parts_rise version at (size ∷ next ∷ sizes) zero within = aligned_above version (aligned (scale_of version) at + size)
parts_rise version at (size ∷ next ∷ sizes) (suc k) within =
    parts_rise version (aligned (scale_of version) at + size) (next ∷ sizes) k (omega (arith, within))

pub addresses_count : (version : Version) (at : ℕ) (sizes : List ℕ)
    → length (addresses_from (scale_of version) at sizes) ≡ length sizes
addresses_count version at [] = refl
addresses_count version at (size ∷ sizes) =
    ap suc (addresses_count version (aligned (scale_of version) at + size) sizes)

-- the end of the parts is a multiple
pub parts_end : (version : Version) (at : ℕ) (parts : List (List ℕ))
    → whole version (at + length (parts_from (scale_of version) at parts))
parts_end version at [] =
    let up : ℕ = aligned (scale_of version) at in
    let e : up ≡ at + length (replicate (up - at) 0) =
    omega (arith, length-replicate {A = ℕ} (up - at) 0, aligned_above version at) in
    subst (whole version) e (aligned_whole version at)
parts_end version at (part ∷ parts) =
    let up : ℕ = aligned (scale_of version) at in
    let filling : List ℕ = replicate (up - at) 0 in
    let rest : List ℕ = parts_from (scale_of version) (up + length part) parts in
    let e : up + length part + length rest ≡ at + length (filling ++ part ++ rest) =
    omega (
      arith,
      length-append (filling ++ part) rest,
      length-append filling part,
      length-replicate {A = ℕ} (up - at) 0,
      aligned_above version at,
    ) in
    subst (whole version) e (parts_end version (up + length part) parts)

-- Each part costs at most its size and seven bytes of filling.
abbrev pub room_for : List ℕ → ℕ
room_for [] = 7
room_for (size ∷ sizes) = size + 7 + room_for sizes

pub parts_short : (version : Version) (at : ℕ) (parts : List (List ℕ))
    → length (parts_from (scale_of version) at parts) ≤ room_for (map length parts)
parts_short version at [] =
    let up : ℕ = aligned (scale_of version) at in
    omega (arith, length-replicate {A = ℕ} (up - at) 0, aligned_below version at)
parts_short version at (part ∷ parts) =
    let up : ℕ = aligned (scale_of version) at in
    let filling : List ℕ = replicate (up - at) 0 in
    let rest : List ℕ = parts_from (scale_of version) (up + length part) parts in
    let more : length rest ≤ room_for (map length parts) = parts_short version (up + length part) parts in
    omega (
      arith,
      more,
      length-append (filling ++ part) rest,
      length-append filling part,
      length-replicate {A = ℕ} (up - at) 0,
      aligned_below version at,
    )
