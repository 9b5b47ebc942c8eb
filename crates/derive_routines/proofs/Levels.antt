-- Levels of groups, one round.
use Rattle.std.proofs.Common.{◌≡◌, ◌≤◌, ◌<◌, ◌++◌, ◌+◌, ◌-◌, ℕ, zero, suc, Bool, true, false, List, length, map, nat_lt, refl, ap, sym}
use Rattle.std.proofs.Common.{◌∙◌, arith, append_assoc}
use Rattle.std.specs.Prelude.{if◌then◌else◌}
use Rattle.std.proofs.lemmas.Bool.{lt-ltb, le-ltb}
use Rattle.std.proofs.lemmas.List.{length-map}
use Rattle.derive_routines.specs.declared.search.Arm.{Arm as ArmHeld}
use Rattle.derive_routines.specs.Held.{arm_of}
use Rattle.derive_routines.specs.Search.{Arm, Search, group_arms, group_count, group_texts, levels, search_text, top_text}

-- so many groups, and what is made of them as arms
abbrev pub round_text : Search → ℕ → ℕ → ℕ → ℕ → ℕ → List Arm → List Arm → List ℕ
round_text x first count rounds k groups arms next =
    group_texts x groups k arms ++ levels x first count rounds (k + groups) next

many_arms : (x : Search) (first count rounds k : ℕ) (arms : List Arm) → 0 < rounds → nat_lt 32 (length arms) ≡ true
    → levels x first count rounds k arms
    ≡ round_text x first count (rounds - 1) k (group_count (length arms)) arms
    (group_arms x (group_count (length arms)) k arms)
many_arms x first count zero k arms some many = absurd (omega arith)
many_arms x first count (suc rounds) k arms some many =
    let less : rounds ≡ suc rounds - 1 = omega arith in
    ap
    (λ (b : Bool). if b then round_text x first count rounds k (group_count (length arms)) arms
    (group_arms x (group_count (length arms)) k arms) else top_text x first count arms)
    many
    ∙ ap
    (λ n. round_text x first count n k (group_count (length arms)) arms (group_arms x (group_count (length arms)) k arms))
    less

-- more than 32 arms, of which these are the groups as arms
many_held : (x : Search) (first count rounds k : ℕ) (arms next : List ArmHeld) → 0 < rounds → 32 < length arms
    → length next ≡ group_count (length arms)
    → map arm_of next ≡ group_arms x (group_count (length arms)) k (map arm_of arms)
    → levels x first count rounds k (map arm_of arms)
    ≡ group_texts x (group_count (length arms)) k (map arm_of arms)
    ++ levels x first count (rounds - 1) (k + length next) (map arm_of next)
many_held x first count rounds k arms next some many n e =
    let all : length (map arm_of arms) ≡ length arms = length-map arms arm_of in
    let more : 32 < length (map arm_of arms) = omega (arith, all) in
    many_arms x first count rounds k (map arm_of arms) some (lt-ltb _ _ more)
    ∙ ap (λ m. round_text x first count (rounds - 1) k (group_count m) (map arm_of arms)
    (group_arms x (group_count m) k (map arm_of arms))) all
    ∙ ap (λ (made : List Arm). round_text x first count (rounds - 1) k (group_count (length arms)) (map arm_of arms) made)
    (sym e)
    ∙ ap (λ m. group_texts x (group_count (length arms)) k (map arm_of arms)
    ++ levels x first count (rounds - 1) (k + m) (map arm_of next)) (sym n)

few_arms : (x : Search) (first count rounds k : ℕ) (arms : List Arm) → nat_lt 32 (length arms) ≡ false
    → levels x first count rounds k arms ≡ top_text x first count arms
few_arms x first count zero k arms few = refl
few_arms x first count (suc rounds) k arms few =
    ap
    (λ (b : Bool). if b then round_text x first count rounds k (group_count (length arms)) arms
    (group_arms x (group_count (length arms)) k arms) else top_text x first count arms)
    few

few_held : (x : Search) (first count rounds k : ℕ) (arms : List ArmHeld) → length arms ≤ 32
    → levels x first count rounds k (map arm_of arms) ≡ top_text x first count (map arm_of arms)
few_held x first count rounds k arms few =
    let all : length (map arm_of arms) ≡ length arms = length-map arms arm_of in
    let less : length (map arm_of arms) ≤ 32 = omega (arith, all) in
    few_arms x first count rounds k (map arm_of arms) (le-ltb _ _ less)

no_rounds : (x : Search) (first count rounds k : ℕ) (arms : List Arm) → rounds ≡ 0
    → levels x first count rounds k arms ≡ top_text x first count arms
no_rounds x first count zero k arms none = refl
no_rounds x first count (suc rounds) k arms none = absurd (omega arith)

-- what is put after a text
pub put_round : (text : List ℕ) (x : Search) (first count rounds k : ℕ) (arms next : List ArmHeld) → 0 < rounds
    → 32 < length arms → length next ≡ group_count (length arms)
    → map arm_of next ≡ group_arms x (group_count (length arms)) k (map arm_of arms)
    → text ++ levels x first count rounds k (map arm_of arms)
    ≡ (text ++ group_texts x (group_count (length arms)) k (map arm_of arms))
    ++ levels x first count (rounds - 1) (k + length next) (map arm_of next)
put_round text x first count rounds k arms next some many n e =
    ap (λ (t : List ℕ). text ++ t) (many_held x first count rounds k arms next some many n e)
    ∙ sym (append_assoc text (group_texts x (group_count (length arms)) k (map arm_of arms))
    (levels x first count (rounds - 1) (k + length next) (map arm_of next)))

pub put_few : (text : List ℕ) (x : Search) (first count rounds k : ℕ) (arms : List ArmHeld) → length arms ≤ 32
    → text ++ levels x first count rounds k (map arm_of arms) ≡ text ++ top_text x first count (map arm_of arms)
put_few text x first count rounds k arms few =
    ap (λ (t : List ℕ). text ++ t) (few_held x first count rounds k arms few)

pub put_last : (text : List ℕ) (x : Search) (first count rounds k : ℕ) (arms : List Arm) → rounds ≡ 0
    → text ++ levels x first count rounds k arms ≡ text ++ top_text x first count arms
put_last text x first count rounds k arms none =
    ap (λ (t : List ℕ). text ++ t) (no_rounds x first count rounds k arms none)

-- the same search of the same arms
pub searched : (text : List ℕ) (x y : Search) (first : ℕ) (held arms : List Arm) → x ≡ y → held ≡ arms
    → text ++ search_text x first held ≡ text ++ search_text y first arms
searched text x y first held arms same all =
    ap (λ (z : Search). text ++ search_text z first held) same ∙ ap (λ (a : List Arm). text ++ search_text y first a) all
