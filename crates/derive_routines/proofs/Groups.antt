-- Groups of arms, one group more.
use Rattle.std.proofs.Common.{◌≡◌, ◌++◌, ◌+◌, ◌-◌, ◌<◌, ℕ, zero, suc, List, [], ◌∷◌, length, map, take, drop, refl, ap, sym, ◌∙◌, arith}
use Rattle.std.proofs.Common.{append_assoc, append-nil, length-append}
use Rattle.std.proofs.lemmas.List.{take-map, drop-map, length-map}
use Rattle.derive_routines.specs.declared.search.Arm.{Arm as ArmHeld}
use Rattle.derive_routines.specs.Held.{arm_of}
use Rattle.derive_routines.specs.Search.{Arm, Search, group_arm, group_arms, group_text, group_texts}

abbrev text_of : Search → ℕ → ℕ → ℕ → List Arm → List Arm → List ℕ
text_of x n k l low high = group_text x k low ++ group_texts x n l high

one_text : (x : Search) (n k : ℕ) (arms : List ArmHeld) → 0 < n
    → group_texts x n k (map arm_of arms)
    ≡ group_text x k (map arm_of (take 32 arms)) ++ group_texts x (n - 1) (k + 1) (map arm_of (drop 32 arms))
one_text x zero k arms some = absurd (omega arith)
one_text x (suc n) k arms some =
    let less : n ≡ suc n - 1 = omega arith in
    ap (λ (low : List Arm). text_of x n k (k + 1) low (drop 32 (map arm_of arms))) (take-map arm_of 32 arms)
    ∙ ap (λ (high : List Arm). text_of x n k (k + 1) (map arm_of (take 32 arms)) high) (drop-map arm_of 32 arms)
    ∙ ap (λ i. text_of x i k (k + 1) (map arm_of (take 32 arms)) (map arm_of (drop 32 arms))) less

abbrev arms_of : Search → ℕ → ℕ → ℕ → List Arm → List Arm → List Arm
arms_of x n k l low high = group_arm x k low ∷ group_arms x n l high

one_arm : (x : Search) (n k : ℕ) (arms : List ArmHeld) → 0 < n
    → group_arms x n k (map arm_of arms)
    ≡ group_arm x k (map arm_of (take 32 arms)) ∷ group_arms x (n - 1) (k + 1) (map arm_of (drop 32 arms))
one_arm x zero k arms some = absurd (omega arith)
one_arm x (suc n) k arms some =
    let less : n ≡ suc n - 1 = omega arith in
    ap (λ (low : List Arm). arms_of x n k (k + 1) low (drop 32 (map arm_of arms))) (take-map arm_of 32 arms)
    ∙ ap (λ (high : List Arm). arms_of x n k (k + 1) (map arm_of (take 32 arms)) high) (drop-map arm_of 32 arms)
    ∙ ap (λ i. arms_of x i k (k + 1) (map arm_of (take 32 arms)) (map arm_of (drop 32 arms))) less

no_texts : (x : Search) (n k : ℕ) (arms : List Arm) → n ≡ 0 → group_texts x n k arms ≡ []
no_texts x zero k arms none = refl
no_texts x (suc n) k arms none = absurd (omega arith)

no_arms : (x : Search) (n k : ℕ) (arms : List Arm) → n ≡ 0 → group_arms x n k arms ≡ []
no_arms x zero k arms none = refl
no_arms x (suc n) k arms none = absurd (omega arith)

-- what is put after a text, and after arms
pub put_text : (text : List ℕ) (x : Search) (n k : ℕ) (arms : List ArmHeld) → 0 < n
    → text ++ group_texts x n k (map arm_of arms)
    ≡ (text ++ group_text x k (map arm_of (take 32 arms))) ++ group_texts x (n - 1) (k + 1) (map arm_of (drop 32 arms))
put_text text x n k arms some =
    ap (λ (t : List ℕ). text ++ t) (one_text x n k arms some)
    ∙ sym (append_assoc text (group_text x k (map arm_of (take 32 arms)))
    (group_texts x (n - 1) (k + 1) (map arm_of (drop 32 arms))))

pub put_arm : (before : List Arm) (x : Search) (n k : ℕ) (arms : List ArmHeld) → 0 < n
    → before ++ group_arms x n k (map arm_of arms)
    ≡ (before ++ group_arm x k (map arm_of (take 32 arms)) ∷ []) ++ group_arms x (n - 1) (k + 1) (map arm_of (drop 32 arms))
put_arm before x n k arms some =
    ap (λ (t : List Arm). before ++ t) (one_arm x n k arms some)
    ∙ sym (append_assoc before (group_arm x k (map arm_of (take 32 arms)) ∷ [])
    (group_arms x (n - 1) (k + 1) (map arm_of (drop 32 arms))))

pub texts_end : (text : List ℕ) (x : Search) (n k : ℕ) (arms : List Arm) → n ≡ 0 → text ++ group_texts x n k arms ≡ text
texts_end text x n k arms none = ap (λ (t : List ℕ). text ++ t) (no_texts x n k arms none) ∙ append-nil text

pub arms_end : (before : List Arm) (x : Search) (n k : ℕ) (arms : List Arm) → n ≡ 0
    → before ++ group_arms x n k arms ≡ before
arms_end before x n k arms none = ap (λ (t : List Arm). before ++ t) (no_arms x n k arms none) ∙ append-nil before

-- one group more, as the code holds it
pub text_on : (before all now : List ℕ) (x : Search) (n k m l : ℕ) (arms low high : List ArmHeld) → 0 < n → m ≡ n - 1
    → l ≡ k + 1 → low ≡ take 32 arms → high ≡ drop 32 arms → now ≡ before ++ group_text x k (map arm_of low)
    → before ++ group_texts x n k (map arm_of arms) ≡ all → now ++ group_texts x m l (map arm_of high) ≡ all
text_on before all now x n k m l arms low high some less next front rest put held = cc (put_text before x n k arms some)

pub arms_on : (before all now : List Arm) (x : Search) (n k m l : ℕ) (arms low high : List ArmHeld) → 0 < n → m ≡ n - 1
    → l ≡ k + 1 → low ≡ take 32 arms → high ≡ drop 32 arms → now ≡ before ++ group_arm x k (map arm_of low) ∷ []
    → before ++ group_arms x n k (map arm_of arms) ≡ all → now ++ group_arms x m l (map arm_of high) ≡ all
arms_on before all now x n k m l arms low high some less next front rest put held = cc (put_arm before x n k arms some)

pub one_more : (old new : List ArmHeld) (a : Arm) (n : ℕ) → map arm_of new ≡ map arm_of old ++ a ∷ [] → length old ≡ n
    → length new ≡ n + 1
one_more old new a n put held = omega (
  arith,
  ap length put,
  length-map new arm_of,
  length-map old arm_of,
  length-append (map arm_of old) (a ∷ []),
)
