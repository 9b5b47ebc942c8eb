-- What was added in parts.
use Rattle.std.proofs.Common.{◌≡◌, ◌++◌, ◌-◌, ℕ, List, [], ap, arith, drop, drop_of_length-le, length, sym, take, ◌∙◌, append_assoc, append-nil}
use Rattle.std.proofs.lemmas.List.{length-drop, take_all}

pub then_more : (old now new a b : List ℕ) → now ≡ old ++ a → new ≡ now ++ b → new ≡ old ++ (a ++ b)
then_more old now new a b first second = second ∙ ap (λ (t : List ℕ). t ++ b) first ∙ append_assoc old a b

-- a part of what is still to be added
pub goes_on : (now new part later whole : List ℕ) → new ≡ now ++ part → now ++ (part ++ later) ≡ whole
    → new ++ later ≡ whole
goes_on now new part later whole put so = ap (λ (t : List ℕ). t ++ later) put ∙ append_assoc now part later ∙ so

pub all_added : (now later whole : List ℕ) → later ≡ [] → now ++ later ≡ whole → now ≡ whole
all_added now later whole none so = sym (append-nil now) ∙ ap (λ (t : List ℕ). now ++ t) (sym none) ∙ so

-- a part that is known by another name
pub put_by : (old new a b : List ℕ) → new ≡ old ++ a → a ≡ b → new ≡ old ++ b
put_by old new a b put is = put ∙ ap (λ (t : List ℕ). old ++ t) is

-- a slice of the same length that was written back
pub written_back : (old new : List ℕ) (n : ℕ) → length new ≡ length old → n ≡ length old
    → take n (new ++ drop (length new) old) ≡ new
written_back old new n long n_is =
    let none : drop (length new) old ≡ [] = drop_of_length-le old (omega (arith, long)) in
    ap (λ (t : List ℕ). take n (new ++ t)) none
    ∙ ap (take n) (append-nil new)
    ∙ take_all n new (omega (arith, long, n_is))

-- what comes after so many bytes
pub to_end : (n : ℕ) (xs : List ℕ) → take (length xs - n) (drop n xs) ≡ drop n xs
to_end n xs = take_all (length xs - n) (drop n xs) (omega (arith, length-drop n xs))

-- several parts

pub added_three : (t0 t1 t2 t3 a b c : List ℕ) → t1 ≡ t0 ++ a → t2 ≡ t1 ++ b → t3 ≡ t2 ++ c
    → t3 ≡ t0 ++ (a ++ (b ++ c))
added_three t0 t1 t2 t3 a b c e f g = then_more t0 t1 t3 a (b ++ c) e (then_more t1 t2 t3 b c f g)

pub added_four : (t0 t1 t2 t3 t4 a b c d : List ℕ) → t1 ≡ t0 ++ a → t2 ≡ t1 ++ b → t3 ≡ t2 ++ c → t4 ≡ t3 ++ d
    → t4 ≡ t0 ++ (a ++ (b ++ (c ++ d)))
added_four t0 t1 t2 t3 t4 a b c d e f g h =
    then_more t0 t1 t4 a (b ++ (c ++ d)) e (added_three t1 t2 t3 t4 b c d f g h)

pub added_five : (t0 t1 t2 t3 t4 t5 a b c d e : List ℕ) → t1 ≡ t0 ++ a → t2 ≡ t1 ++ b → t3 ≡ t2 ++ c → t4 ≡ t3 ++ d
    → t5 ≡ t4 ++ e → t5 ≡ t0 ++ (a ++ (b ++ (c ++ (d ++ e))))
added_five t0 t1 t2 t3 t4 t5 a b c d e h1 h2 h3 h4 h5 =
    then_more t0 t1 t5 a (b ++ (c ++ (d ++ e))) h1 (added_four t1 t2 t3 t4 t5 b c d e h2 h3 h4 h5)
