-- A source is joined byte by byte.
use Rattle.std.proofs.Common.{◌≡◌, ℕ, zero, suc, ◌+◌, ◌-◌, ◌<◌, ◌≤◌, List, [], ◌∷◌, ◌++◌, length, drop}
use Rattle.std.proofs.Common.{get_or, refl, ap, sym, ◌∙◌, arith, length-append, drop-cons, add-one, append_assoc, append-nil}
use Rattle.std.specs.Prelude.{if◌then◌else◌}
use Rattle.std.proofs.lemmas.List.{drop_more}
use Rattle.std.proofs.lemmas.Bool.{lt-ltb, le-ltb}
use Rattle.derive_joined.specs.Joined.{State, step, joined_from}
use Rattle.derive_joined.specs.Origin.{origin_from}

nothing_left : (bs : List ℕ) (n : ℕ) → length bs ≤ n → drop n bs ≡ []
nothing_left [] zero le = refl
nothing_left [] (suc n) le = refl
nothing_left (b ∷ bs) zero le = absurd (omega arith)
nothing_left (b ∷ bs) (suc n) le = nothing_left bs n (omega arith)

pub joins_one : (s : State) (bs : List ℕ) (n : ℕ) → n < length bs
    → joined_from s (drop n bs) ≡ (step s (get_or bs n 0) (drop (n + 1) bs)).0
    ++ joined_from (step s (get_or bs n 0) (drop (n + 1) bs)).1 (drop (n + 1) bs)
joins_one s bs n lt = rw (drop-cons bs n 0, add-one) refl

-- a text that is written, after one byte more
pub joins_next : (s t : State) (bs old new : List ℕ) (n : ℕ) → n < length bs
    → new ≡ old ++ (step s (get_or bs n 0) (drop (n + 1) bs)).0 → t ≡ (step s (get_or bs n 0) (drop (n + 1) bs)).1
    → new ++ joined_from t (drop (n + 1) bs) ≡ old ++ joined_from s (drop n bs)
joins_next s t bs old new n lt e f =
    let one = joins_one s bs n lt in
    ap (λ xs. xs ++ joined_from t (drop (n + 1) bs)) e
    ∙ append_assoc old (step s (get_or bs n 0) (drop (n + 1) bs)).0 (joined_from t (drop (n + 1) bs))
    ∙ ap (λ u. old ++ ((step s (get_or bs n 0) (drop (n + 1) bs)).0 ++ joined_from u (drop (n + 1) bs))) f
    ∙ ap (λ xs. old ++ xs) (sym one)

pub joins_none : (s : State) (bs text : List ℕ) (n : ℕ) → length bs ≤ n
    → text ++ joined_from s (drop n bs) ≡ text
joins_none s bs text n le = ap (λ xs. text ++ joined_from s xs) (nothing_left bs n le) ∙ append-nil text

at_cons : (s : State) (b : ℕ) (bs : List ℕ) (at offset : ℕ) → offset < length (step s b bs).0
    → origin_from s at offset (b ∷ bs) ≡ at
at_cons s b bs at offset here =
    ap (λ t. if t then at else origin_from (step s b bs).1 (at + 1) (offset - length (step s b bs).0) bs)
    (lt-ltb offset (length (step s b bs).0) here)

past_cons : (s : State) (b : ℕ) (bs : List ℕ) (at offset : ℕ) → length (step s b bs).0 ≤ offset
    → origin_from s at offset (b ∷ bs)
    ≡ origin_from (step s b bs).1 (at + 1) (offset - length (step s b bs).0) bs
past_cons s b bs at offset later =
    ap (λ t. if t then at else origin_from (step s b bs).1 (at + 1) (offset - length (step s b bs).0) bs)
    (le-ltb offset (length (step s b bs).0) later)

pub origin_here : (s : State) (bs : List ℕ) (n at offset : ℕ) → n < length bs
    → offset < length (step s (get_or bs n 0) (drop (n + 1) bs)).0 → origin_from s at offset (drop n bs) ≡ at
origin_here s bs n at offset lt here =
    ap (origin_from s at offset) (drop_more bs n 0 lt) ∙ at_cons s (get_or bs n 0) (drop (n + 1) bs) at offset here

pub origin_later : (s : State) (bs : List ℕ) (n at offset : ℕ) → n < length bs
    → length (step s (get_or bs n 0) (drop (n + 1) bs)).0 ≤ offset
    → origin_from s at offset (drop n bs) ≡ origin_from (step s (get_or bs n 0) (drop (n + 1) bs)).1 (at + 1)
    (offset - length (step s (get_or bs n 0) (drop (n + 1) bs)).0) (drop (n + 1) bs)
origin_later s bs n at offset lt later =
    ap (origin_from s at offset) (drop_more bs n 0 lt)
    ∙ past_cons s (get_or bs n 0) (drop (n + 1) bs) at offset later

pub origin_end : (s : State) (bs : List ℕ) (n at offset : ℕ) → length bs ≤ n → origin_from s at offset (drop n bs) ≡ at
origin_end s bs n at offset le = rw (nothing_left bs n le) refl

-- where the byte comes from is told by what is left, after one byte more that does not write it
pub origin_next : (s t : State) (bs rest old new : List ℕ) (n offset : ℕ) → n < length bs → rest ≡ drop (n + 1) bs
    → new ≡ old ++ (step s (get_or bs n 0) rest).0 → t ≡ (step s (get_or bs n 0) rest).1 → length new ≤ offset
    → origin_from t (n + 1) (offset - length new) (drop (n + 1) bs)
    ≡ origin_from s n (offset - length old) (drop n bs)
origin_next s t bs rest old new n offset lt er e f le =
    let b = get_or bs n 0 in
    let behind = drop (n + 1) bs in
    let wrote : new ≡ old ++ (step s b behind).0 = e ∙ ap (λ r. old ++ (step s b r).0) er in
    let moved : t ≡ (step s b behind).1 = f ∙ ap (λ r. (step s b r).1) er in
    let sizes : length new ≡ length old + length (step s b behind).0 =
    ap length wrote ∙ length-append old (step s b behind).0 in
    let places : offset - length new ≡ offset - length old - length (step s b behind).0 = omega (arith, sizes) in
    ap (λ u. origin_from u (n + 1) (offset - length new) behind) moved
    ∙ ap (λ k. origin_from (step s b behind).1 (n + 1) k behind) places
    ∙ sym (origin_later s bs n n (offset - length old) lt (omega (arith, sizes, le)))
