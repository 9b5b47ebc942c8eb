-- What is written of a memory's differences is read back; and the steps of reading and writing them.
use Rattle.std.proofs.Common.{◌≡◌, ℕ, zero, suc, ◌+◌, ◌-◌, ◌*◌, ◌/◌, ◌%◌, ◌<◌, ◌≤◌, Bool, true, false, if◌then◌else◌}
use Rattle.std.proofs.Common.{List, [], ◌∷◌, ◌++◌, length, take, drop, set, slice_index, refl, ap, sym, ◌∙◌, arith}
use Rattle.std.proofs.Common.{Option, Some, None, inl, inr, not, append_assoc, add-one, add-zero, nat_lt, eqb}
use Rattle.std.specs.Prelude.{bytes_eq, nat_eq}
use Rattle.std.specs.List.{starts_with}
use Rattle.std.specs.Int.Bits.{bit_xor, xor_assoc, xor_self, xor_zero_l, xor_zero_r}
use Rattle.std.proofs.Math.Seq.{take-add}
use Rattle.std.proofs.Math.Nat.{div-add-mod}
use Rattle.std.proofs.lemmas.Bool.{and_parts, cases_eq, eq-eqb, eqb-true, false≢true, ne_eqb, lt-ltb, le-ltb}
use Rattle.std.proofs.lemmas.List.{append-nil, drop-drop, drop_at, length-append, drop-set-lt, get_or-drop, length-drop, length_push}
use Rattle.std.proofs.lemmas.List.{take-append-drop, take_all, take_at, take_more_set}
use Rattle.iff_files.specs.Differences.{with_front, full_runs, packed, short_run, unpacked, with_equal}

front-front : (xs ys : List ℕ) (o : Option (List ℕ)) → with_front xs (with_front ys o) ≡ with_front (xs ++ ys) o
front-front xs ys None = refl
front-front xs ys (Some zs) = ap (λ (t : List ℕ). Some t) (sym (append_assoc xs ys zs))

pub front-nil : (o : Option (List ℕ)) → with_front [] o ≡ o
front-nil None = refl
front-nil (Some zs) = refl

-- reading, a byte at a time

unpacked_run : (d : ℕ) (ds base : List ℕ) → d < length base
    → unpacked (d ∷ ds) true base ≡ with_front (take (d + 1) base) (unpacked ds false (drop (d + 1) base))
unfolding unpacked
unpacked_run d ds base lt =
    ap (λ (t : Bool). if t then with_front (take (d + 1) base) (unpacked ds false (drop (d + 1) base)) else None)
    (lt-ltb d (length base) lt)

unpacked_run_past : (d : ℕ) (ds base : List ℕ) → length base ≤ d → unpacked (d ∷ ds) true base ≡ None
unfolding unpacked
unpacked_run_past d ds base le =
    ap (λ (t : Bool). if t then with_front (take (d + 1) base) (unpacked ds false (drop (d + 1) base)) else None)
    (le-ltb d (length base) le)

pub unpacked_zero : (d : ℕ) (ds base : List ℕ) → d ≡ 0 → unpacked (d ∷ ds) false base ≡ unpacked ds true base
unfolding unpacked
unpacked_zero d ds base e =
    ap (λ (t : Bool). if t then unpacked ds true base
    else (
    if nat_lt 0 (length base) then with_front (bit_xor (slice_index base 0) d ∷ []) (unpacked ds false (drop 1 base))
    else None))
    (eq-eqb d 0 e)

unpacked_byte : (d : ℕ) (ds base : List ℕ) → (d ≡ 0 → ⊥) → 0 < length base
    → unpacked (d ∷ ds) false base ≡ with_front (bit_xor (slice_index base 0) d ∷ []) (unpacked ds false (drop 1 base))
unfolding unpacked
unpacked_byte d ds base ne lt =
    let rest : Option (List ℕ) = with_front (bit_xor (slice_index base 0) d ∷ []) (unpacked ds false (drop 1 base)) in
    ap (λ (t : Bool). if t then unpacked ds true base else (if nat_lt 0 (length base) then rest else None))
    (ne_eqb d 0 ne)
    ∙ ap (λ (t : Bool). if t then rest else None) (lt-ltb 0 (length base) lt)

unpacked_past : (d : ℕ) (ds base : List ℕ) → (d ≡ 0 → ⊥) → length base ≤ 0 → unpacked (d ∷ ds) false base ≡ None
unfolding unpacked
unpacked_past d ds base ne le =
    let rest : Option (List ℕ) = with_front (bit_xor (slice_index base 0) d ∷ []) (unpacked ds false (drop 1 base)) in
    ap (λ (t : Bool). if t then unpacked ds true base else (if nat_lt 0 (length base) then rest else None))
    (ne_eqb d 0 ne)
    ∙ ap (λ (t : Bool). if t then rest else None) (le-ltb 0 (length base) le)

-- bytes that are taken together
taken : (m n : ℕ) (xs : List ℕ) (o : List ℕ → Option (List ℕ))
    → with_front (take m xs) (with_front (take n (drop m xs)) (o (drop n (drop m xs)))) ≡ with_front (take (m + n) xs) (o (drop (m + n) xs))
taken m n xs o = front-front (take m xs) (take n (drop m xs)) (o (drop n (drop m xs)))
    ∙ ap (λ (t : List ℕ). with_front t (o (drop n (drop m xs)))) (sym (take-add m n xs))
    ∙ ap (λ (t : List ℕ). with_front (take (m + n) xs) (o t)) (drop-drop n m xs)

taken_to : (m n k : ℕ) (xs : List ℕ) (o : List ℕ → Option (List ℕ)) → m + n ≡ k
    → with_front (take m xs) (with_front (take n (drop m xs)) (o (drop n (drop m xs)))) ≡ with_front (take k xs) (o (drop k xs))
taken_to m n k xs o e = taken m n xs o ∙ ap (λ (t : ℕ). with_front (take t xs) (o (drop t xs))) e

-- the steps of `unpack`

pub run_step : (m : List ℕ) (at d : ℕ) (ds : List ℕ) → d < length m - at
    → with_front (take at m) (unpacked (d ∷ ds) true (drop at m))
    ≡ with_front (take (at + d + 1) m) (unpacked ds false (drop (at + d + 1) m))
run_step m at d ds lt =
    ap (λ (t : Option (List ℕ)). with_front (take at m) t)
    (unpacked_run d ds (drop at m) (omega (arith, length-drop at m, lt)))
    ∙ taken_to at (d + 1) (at + d + 1) m (λ t. unpacked ds false t) (omega arith)

pub run_past : (m : List ℕ) (at d : ℕ) (ds : List ℕ) → length m - at ≤ d
    → with_front (take at m) (unpacked (d ∷ ds) true (drop at m)) ≡ None
run_past m at d ds le =
    ap (λ (t : Option (List ℕ)). with_front (take at m) t)
    (unpacked_run_past d ds (drop at m) (omega (arith, length-drop at m, le)))

pub byte_past : (m : List ℕ) (at d : ℕ) (ds : List ℕ) → (d ≡ 0 → ⊥) → length m ≤ at
    → with_front (take at m) (unpacked (d ∷ ds) false (drop at m)) ≡ None
byte_past m at d ds ne le =
    ap (λ (t : Option (List ℕ)). with_front (take at m) t)
    (unpacked_past d ds (drop at m) ne (omega (arith, length-drop at m, le)))

pub byte_step : (m : List ℕ) (at d : ℕ) (ds : List ℕ) → (d ≡ 0 → ⊥) → at < length m
    → with_front (take at m) (unpacked (d ∷ ds) false (drop at m))
    ≡ with_front (take (at + 1) (set m at (bit_xor (slice_index m at) d)))
    (unpacked ds false (drop (at + 1) (set m at (bit_xor (slice_index m at) d))))
byte_step m at d ds ne lt =
    let v : ℕ = bit_xor (slice_index m at) d in
    let first : bit_xor (slice_index (drop at m) 0) d ≡ v =
    ap (λ (t : ℕ). bit_xor t d) (get_or-drop at m 0 0 ∙ ap (λ (t : ℕ). slice_index m t) (omega arith)) in
    ap (λ (t : Option (List ℕ)). with_front (take at m) t)
    (unpacked_byte d ds (drop at m) ne (omega (arith, length-drop at m, lt)))
    ∙ front-front (take at m) (bit_xor (slice_index (drop at m) 0) d ∷ []) (unpacked ds false (drop 1 (drop at m)))
    ∙ ap (λ (t : ℕ). with_front (take at m ++ t ∷ []) (unpacked ds false (drop 1 (drop at m)))) first
    ∙ ap (λ (t : List ℕ). with_front (take at m ++ v ∷ []) (unpacked ds false t))
    (drop-drop 1 at m ∙ sym (drop-set-lt (at + 1) m at v (omega arith)))
    ∙ ap (λ (t : List ℕ). with_front t (unpacked ds false (drop (at + 1) (set m at v)))) (sym (take_more_set m at v lt))

pub read_to_end : (m : List ℕ) (at : ℕ) (is_run : Bool)
    → with_front (take at m) (unpacked [] is_run (drop at m)) ≡ (if not is_run then Some m else None)
unfolding unpacked
read_to_end m at true = refl
read_to_end m at false = ap (λ (t : List ℕ). Some t) (take-append-drop at m)

-- the steps of `pack`

pub packed_equal : (equal b c : ℕ) (base bytes : List ℕ) → b ≡ c
    → packed equal (b ∷ base) (c ∷ bytes) ≡ packed (equal + 1) base bytes
unfolding packed
packed_equal equal b c base bytes e =
    ap (λ (t : Bool). if t then packed (equal + 1) base bytes
    else with_equal equal (bit_xor b c ∷ packed 0 base bytes)) (eq-eqb b c e)

pub packed_other : (equal b c : ℕ) (base bytes : List ℕ) → (b ≡ c → ⊥)
    → packed equal (b ∷ base) (c ∷ bytes) ≡ with_equal equal (bit_xor b c ∷ packed 0 base bytes)
unfolding packed
packed_other equal b c base bytes ne =
    ap (λ (t : Bool). if t then packed (equal + 1) base bytes
    else with_equal equal (bit_xor b c ∷ packed 0 base bytes)) (ne_eqb b c ne)

-- bytes that are equal, one after another
pub packed_same : (equal : ℕ) (xs base bytes : List ℕ)
    → packed equal (xs ++ base) (xs ++ bytes) ≡ packed (equal + length xs) base bytes
packed_same equal [] base bytes = ap (λ (t : ℕ). packed t base bytes) (sym (add-zero equal))
packed_same equal (x ∷ xs) base bytes =
    packed_equal equal x x (xs ++ base) (xs ++ bytes) refl
    ∙ packed_same (equal + 1) xs base bytes
    ∙ ap (λ (t : ℕ). packed t base bytes) (let e : equal + 1 + length xs ≡ equal + suc (length xs) = omega arith in e)

bytes_tell : (xs ys : List ℕ) → bytes_eq xs ys ≡ true → xs ≡ ys
bytes_tell [] [] e = refl
bytes_tell [] (y ∷ ys) e = absurd (false≢true e)
bytes_tell (x ∷ xs) [] e = absurd (false≢true e)
bytes_tell (x ∷ xs) (y ∷ ys) e =
    let parts = and_parts (eqb x y) (bytes_eq xs ys) e in
    λ i. eqb-true x y parts.0 i ∷ bytes_tell xs ys parts.1 i

-- one that begins with another of its length
pub front_tells : (xs ys : List ℕ) → length xs ≡ length ys → starts_with nat_eq xs ys ≡ true → xs ≡ ys
front_tells xs ys same e =
    sym (bytes_tell ys (take (length ys) xs) e ∙ take_all (length ys) xs (omega (arith, same)))

-- a list cut at two places
pub cut_twice : (at next : ℕ) (xs : List ℕ) → at ≤ next → take (next - at) (drop at xs) ++ drop next xs ≡ drop at xs
cut_twice at next xs le =
    let e : at + (next - at) ≡ next = omega (arith, le) in
    ap (λ (t : List ℕ). take (next - at) (drop at xs) ++ t)
    (sym (drop-drop (next - at) at xs ∙ ap (λ (t : ℕ). drop t xs) e))
    ∙ take-append-drop (next - at) (drop at xs)

-- the part of a list from a place on, up to its end
pub rest_is : (at : ℕ) (xs : List ℕ) → take (length xs - at) (drop at xs) ≡ drop at xs
rest_is at xs = take_all (length xs - at) (drop at xs) (omega (arith, length-drop at xs))

-- Where all bytes were looked at, equal bytes at the end are left out.
pub packed_whole : (equal : ℕ) (before after was now : List ℕ)
    → after ++ [] ≡ before ++ packed equal (was ++ []) (now ++ []) → after ≡ before ++ packed equal was now
packed_whole equal before after was now put =
    sym (append-nil after)
    ∙ put
    ∙ ap (λ (t : List ℕ). before ++ packed equal t (now ++ [])) (append-nil was)
    ∙ ap (λ (t : List ℕ). before ++ packed equal was t) (append-nil now)

-- a run that is not full, and none
pub with_short : (equal : ℕ) (rest : List ℕ) → equal < 256 → with_equal equal rest ≡ short_run equal rest
unfolding with_equal
with_short equal rest lt =
    let none : equal / 256 ≡ 0 = omega (arith, lt) in
    let all : equal % 256 ≡ equal = omega (arith, lt) in
    ap (λ (t : ℕ). full_runs t (short_run (equal % 256) rest)) none ∙ ap (λ (t : ℕ). short_run t rest) all

-- how many equal bytes are left
pub packed_left : (all left : ℕ) (out base bytes : List ℕ) → left ≤ all
    → out ++ packed (all - (all - left)) base bytes ≡ out ++ packed left base bytes
packed_left all left out base bytes le =
    let same : all - (all - left) ≡ left = omega (arith, le) in
    ap (λ (t : ℕ). out ++ packed t base bytes) same

pub packed_from : (next all done : ℕ) (out base bytes : List ℕ) → next ≡ all
    → out ++ packed (next - done) base bytes ≡ out ++ packed (all - done) base bytes
packed_from next all done out base bytes e = ap (λ (t : ℕ). out ++ packed (t - done) base bytes) e

pub full_run_more : (runs : ℕ) (rest : List ℕ) → full_runs runs (0 ∷ 255 ∷ rest) ≡ full_runs (suc runs) rest
full_run_more zero rest = refl
full_run_more (suc runs) rest = ap (λ (t : List ℕ). 0 ∷ 255 ∷ t) (full_run_more runs rest)

-- what is written of equal bytes is read as them

read_full_runs : (runs : ℕ) (ds base : List ℕ) → runs * 256 ≤ length base
    → unpacked (full_runs runs ds) false base
    ≡ with_front (take (runs * 256) base) (unpacked ds false (drop (runs * 256) base))
read_full_runs zero ds base le = sym (front-nil (unpacked ds false base))
read_full_runs (suc runs) ds base le =
    unpacked_zero 0 (255 ∷ full_runs runs ds) base refl
    ∙ unpacked_run 255 (full_runs runs ds) base (omega (arith, le))
    ∙ ap (λ (t : Option (List ℕ)). with_front (take 256 base) t)
    (read_full_runs runs ds (drop 256 base) (omega (arith, le, length-drop 256 base)))
    ∙ taken_to 256 (runs * 256) (suc runs * 256) base (λ t. unpacked ds false t) (omega arith)

read_short_run : (more : ℕ) (ds base : List ℕ) → more ≤ length base
    → unpacked (short_run more ds) false base ≡ with_front (take more base) (unpacked ds false (drop more base))
read_short_run zero ds base le = sym (front-nil (unpacked ds false base))
read_short_run (suc more) ds base le =
    unpacked_zero 0 (more ∷ ds) base refl
    ∙ unpacked_run more ds base (omega (arith, le))
    ∙ ap (λ (t : ℕ). with_front (take t base) (unpacked ds false (drop t base))) (add-one more)

read_equal : (count : ℕ) (ds base : List ℕ) → count ≤ length base
    → unpacked (with_equal count ds) false base ≡ with_front (take count base) (unpacked ds false (drop count base))
unfolding with_equal
read_equal count ds base le =
    let parts : count / 256 * 256 + count % 256 ≡ count = omega (arith, div-add-mod count 256) in
    read_full_runs (count / 256) (short_run (count % 256) ds) base (omega (arith, parts, le))
    ∙ ap (λ (t : Option (List ℕ)). with_front (take (count / 256 * 256) base) t)
    (read_short_run (count % 256) ds (drop (count / 256 * 256) base)
    (omega (arith, parts, le, length-drop (count / 256 * 256) base)))
    ∙ taken_to (count / 256 * 256) (count % 256) count base (λ t. unpacked ds false t) parts

xor_back : (b c : ℕ) → bit_xor b (bit_xor b c) ≡ c
xor_back b c = sym (xor_assoc b b c) ∙ ap (λ (t : ℕ). bit_xor t c) (xor_self b) ∙ xor_zero_l c

xor_tells : (b c : ℕ) → bit_xor b c ≡ 0 → b ≡ c
xor_tells b c e = sym (xor_zero_r b) ∙ ap (λ (t : ℕ). bit_xor b t) (sym e) ∙ xor_back b c

read_byte : (b c : ℕ) (ds base : List ℕ) → (b ≡ c → ⊥)
    → unpacked (bit_xor b c ∷ ds) false (b ∷ base) ≡ with_front (c ∷ []) (unpacked ds false base)
read_byte b c ds base ne =
    unpacked_byte (bit_xor b c) ds (b ∷ base) (λ e. ne (xor_tells b c e)) (omega arith)
    ∙ ap (λ (t : ℕ). with_front (t ∷ []) (unpacked ds false base)) (xor_back b c)

-- The differences of bytes from others of the same number are read back, also after equal bytes that were not written.
read_after : (equal base bytes : List ℕ) → length base ≡ length bytes
    → unpacked (packed (length equal) base bytes) false (equal ++ base) ≡ Some (equal ++ bytes)
unfolding packed unpacked
read_after equal [] [] e = refl
read_after equal [] (c ∷ bytes) e = absurd (omega (arith, e))
read_after equal (b ∷ base) [] e = absurd (omega (arith, e))
read_after equal (b ∷ base) (c ∷ bytes) e =
    elim (cases_eq b c) as (λ _. unpacked (packed (length equal) (b ∷ base) (c ∷ bytes)) false (equal ++ b ∷ base)
    ≡ Some (equal ++ c ∷ bytes)) [
      | inl same ↦
          ap (λ (t : List ℕ). unpacked t false (equal ++ b ∷ base))
          (packed_equal (length equal) b c base bytes same
          ∙ ap (λ (t : ℕ). packed t base bytes) (sym (length_push equal b)))
          ∙ ap (λ (t : List ℕ). unpacked (packed (length (equal ++ b ∷ [])) base bytes) false t)
          (sym (append_assoc equal (b ∷ []) base))
          ∙ read_after (equal ++ b ∷ []) base bytes (omega (arith, e))
          ∙ ap (λ (t : List ℕ). Some t)
          (append_assoc equal (b ∷ []) bytes ∙ ap (λ (t : ℕ). equal ++ t ∷ bytes) same)
      | inr other ↦
          let ds : List ℕ = bit_xor b c ∷ packed 0 base bytes in
          ap (λ (t : List ℕ). unpacked t false (equal ++ b ∷ base)) (packed_other (length equal) b c base bytes other)
          ∙ read_equal (length equal) ds (equal ++ b ∷ base)
          (omega (arith, length-append equal (b ∷ base)))
          ∙ ap (λ (t : List ℕ). with_front t (unpacked ds false (drop (length equal) (equal ++ b ∷ base))))
          (take_at equal (b ∷ base) (length equal) refl)
          ∙ ap (λ (t : List ℕ). with_front equal (unpacked ds false t)) (drop_at equal (b ∷ base) (length equal) refl)
          ∙ ap (λ (t : Option (List ℕ)). with_front equal t)
          (read_byte b c (packed 0 base bytes) base other
          ∙ ap (λ (t : Option (List ℕ)). with_front (c ∷ []) t) (read_after [] base bytes (omega (arith, e))))
    ]

-- Differences that are written are read back.
pub read_back : (base bytes : List ℕ) → length base ≡ length bytes
    → unpacked (packed 0 base bytes) false base ≡ Some bytes
read_back base bytes e = read_after [] base bytes e
