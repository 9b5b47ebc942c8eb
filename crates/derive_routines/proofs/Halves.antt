-- A search among arms, one step.
use Rattle.std.proofs.Common.{◌≡◌, ◌++◌, ◌-◌, ◌/◌, ◌<◌, ◌≤◌, ℕ, zero, suc, List, [], ◌∷◌, length, map, take, drop, refl, ap, ◌∙◌, arith}
use Rattle.std.proofs.Common.{append_assoc, append-nil}
use Rattle.std.specs.Prelude.{codes}
use Rattle.std.specs.Fmt.{decimal}
use Rattle.std.proofs.lemmas.List.{take-map, drop-map, length-map}
use Rattle.derive_routines.specs.declared.search.Arm.{Arm as ArmHeld}
use Rattle.derive_routines.specs.Held.{arm_of}
use Rattle.derive_routines.specs.Search.{Arm, by_halves, first_arm_text, first_value}

no_steps : (locals : List (List ℕ)) (steps : ℕ) (arms : List Arm) → steps ≡ 0 → by_halves locals steps arms ≡ []
no_steps locals zero arms none = refl
no_steps locals (suc steps) arms none = absurd (omega arith)

no_arms : (locals : List (List ℕ)) (steps : ℕ) → by_halves locals steps [] ≡ []
no_arms locals zero = refl
no_arms locals (suc steps) = refl

-- the text of two halves
abbrev pub halves_text : List (List ℕ) → ℕ → List Arm → List Arm → List ℕ
halves_text locals steps low high =
    codes "if(x__v<" ++ decimal (first_value high) ++ codes "){" ++ by_halves locals steps low ++ codes "}else{"
    ++ by_halves locals steps high ++ codes "}"

halved : (locals : List (List ℕ)) (steps : ℕ) (arms : List Arm) → 0 < steps → 2 ≤ length arms
    → by_halves locals steps arms
    ≡ halves_text locals (steps - 1) (take (length arms / 2) arms) (drop (length arms / 2) arms)
halved locals zero arms some two = absurd (omega arith)
halved locals (suc steps) [] some two = absurd (omega arith)
halved locals (suc steps) (a ∷ []) some two = absurd (omega arith)
halved locals (suc steps) (a ∷ b ∷ arms) some two =
    let all : List Arm = a ∷ b ∷ arms in
    let less : steps ≡ suc steps - 1 = omega arith in
    ap (λ n. halves_text locals n (take (length all / 2) all) (drop (length all / 2) all)) less

-- of the arms that the code holds
halved_held : (locals : List (List ℕ)) (steps : ℕ) (arms : List ArmHeld) → 0 < steps → 2 ≤ length arms
    → by_halves locals steps (map arm_of arms)
    ≡ halves_text locals (steps - 1) (map arm_of (take (length arms / 2) arms)) (map arm_of (drop (length arms / 2) arms))
halved_held locals steps arms some two =
    let all : length (map arm_of arms) ≡ length arms = length-map arms arm_of in
    let both : 2 ≤ length (map arm_of arms) = omega (arith, all) in
    halved locals steps (map arm_of arms) some both
    ∙ ap (λ n. halves_text locals (steps - 1) (take (n / 2) (map arm_of arms)) (drop (n / 2) (map arm_of arms))) all
    ∙ ap (λ (low : List Arm). halves_text locals (steps - 1) low (drop (length arms / 2) (map arm_of arms)))
    (take-map arm_of (length arms / 2) arms)
    ∙ ap (λ (high : List Arm). halves_text locals (steps - 1) (map arm_of (take (length arms / 2) arms)) high)
    (drop-map arm_of (length arms / 2) arms)

regroup : (t a b c d e f g : List ℕ)
    → t ++ ((((((a ++ b) ++ c) ++ d) ++ e) ++ f) ++ g) ≡ ((((((t ++ a) ++ b) ++ c) ++ d) ++ e) ++ f) ++ g
regroup t a b c d e f g = simp append_assoc

-- what is put after a text: nothing, the text of one arm, or those of two halves
pub put_none : (text : List ℕ) (locals : List (List ℕ)) (steps : ℕ) (arms : List Arm) → steps ≡ 0
    → text ++ by_halves locals steps arms ≡ text
put_none text locals steps arms none =
    ap (λ (t : List ℕ). text ++ t) (no_steps locals steps arms none) ∙ append-nil text

pub put_empty : (text : List ℕ) (locals : List (List ℕ)) (steps : ℕ) → text ++ by_halves locals steps [] ≡ text
put_empty text locals steps = ap (λ (t : List ℕ). text ++ t) (no_arms locals steps) ∙ append-nil text

one_arm : (locals : List (List ℕ)) (steps : ℕ) (arms : List ArmHeld) → 0 < steps → length arms ≡ 1
    → by_halves locals steps (map arm_of arms) ≡ first_arm_text locals (map arm_of arms)
one_arm locals zero arms some one = absurd (omega arith)
one_arm locals (suc steps) [] some one = absurd (omega arith)
one_arm locals (suc steps) (a ∷ []) some one = refl
one_arm locals (suc steps) (a ∷ b ∷ arms) some one = absurd (omega arith)

pub put_one : (text : List ℕ) (locals : List (List ℕ)) (steps : ℕ) (arms : List ArmHeld) → 0 < steps → length arms ≡ 1
    → text ++ by_halves locals steps (map arm_of arms) ≡ text ++ first_arm_text locals (map arm_of arms)
put_one text locals steps arms some one = ap (λ (t : List ℕ). text ++ t) (one_arm locals steps arms some one)

pub put_two : (text : List ℕ) (locals : List (List ℕ)) (steps : ℕ) (arms : List ArmHeld) → 0 < steps → 2 ≤ length arms
    → text ++ by_halves locals steps (map arm_of arms)
    ≡ ((((((text ++ codes "if(x__v<") ++ decimal (first_value (map arm_of (drop (length arms / 2) arms)))) ++ codes "){")
    ++ by_halves locals (steps - 1) (map arm_of (take (length arms / 2) arms))) ++ codes "}else{")
    ++ by_halves locals (steps - 1) (map arm_of (drop (length arms / 2) arms))) ++ codes "}"
put_two text locals steps arms some two =
    ap (λ (t : List ℕ). text ++ t) (halved_held locals steps arms some two)
    ∙ regroup text (codes "if(x__v<") (decimal (first_value (map arm_of (drop (length arms / 2) arms)))) (codes "){")
    (by_halves locals (steps - 1) (map arm_of (take (length arms / 2) arms))) (codes "}else{")
    (by_halves locals (steps - 1) (map arm_of (drop (length arms / 2) arms))) (codes "}")
