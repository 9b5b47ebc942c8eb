-- Bytes that stay as they are.
use Rattle.std.proofs.Common.{◌≡◌, ℕ, ◌+◌, ◌<◌, List, [], ◌∷◌, ◌++◌, length, drop, take}
use Rattle.std.proofs.Common.{get_or, refl, ap, sym, subst, ◌∙◌, arith, append_assoc}
use Rattle.std.proofs.lemmas.List.{drop_more, drop-drop}
use Rattle.std.proofs.Math.Seq.{take-add}
use Rattle.derive_joined.specs.declared.mode.Mode.TheVariants as m
use Rattle.derive_joined.specs.Joined.{State, joined_from}
use Rattle.derive_joined.specs.Joiners.{Keeps, Stays, Writes, inside}

-- one byte, and two of a text of which the first is a space
one_stays : (s : State) (b : ℕ) (bs : List ℕ) → Keeps s b → Stays s (b ∷ bs) 1
one_stays s b bs keeps = ap (λ p. p.0 ++ joined_from p.1 bs) (keeps bs)

two_stay : (ends b : ℕ) (bs : List ℕ) → Writes b → Stays (inside m.Text ends) (32 ∷ b ∷ bs) 2
two_stay ends b bs writes = ap (λ p. p.0 ++ joined_from p.1 bs) (writes (32 ∷ []) ends bs)

pub byte_stays : (s : State) (bs : List ℕ) (n : ℕ) → n < length bs → Keeps s (get_or bs n 0) → Stays s (drop n bs) 1
byte_stays s bs n lt keeps =
    subst (λ xs. Stays s xs 1) (sym (drop_more bs n 0 lt)) (one_stays s (get_or bs n 0) (drop (n + 1) bs) keeps)

pub blank_stays : (ends : ℕ) (bs : List ℕ) (n : ℕ) → n + 1 < length bs → get_or bs n 0 ≡ 32
    → Writes (get_or bs (n + 1) 0) → Stays (inside m.Text ends) (drop n bs) 2
blank_stays ends bs n lt blank writes =
    let rest = drop (n + 1 + 1) bs in
    let split : drop n bs ≡ 32 ∷ get_or bs (n + 1) 0 ∷ rest =
    drop_more bs n 0 (omega (arith, lt)) ∙ ap (λ xs. get_or bs n 0 ∷ xs) (drop_more bs (n + 1) 0 lt)
    ∙ ap (λ x. x ∷ get_or bs (n + 1) 0 ∷ rest) blank in
    subst (λ xs. Stays (inside m.Text ends) xs 2) (sym split)
    (two_stay ends (get_or bs (n + 1) 0) rest writes)

-- what stays after what stays
pub both_stay : (s : State) (bs : List ℕ) (n k : ℕ) → Stays s bs n → Stays s (drop n bs) k → Stays s bs (n + k)
both_stay s bs n k first second =
    let behind : joined_from s (drop k (drop n bs)) ≡ joined_from s (drop (n + k) bs) =
    ap (joined_from s) (drop-drop k n bs) in
    first ∙ ap (λ xs. take n bs ++ xs) second
    ∙ sym (append_assoc (take n bs) (take k (drop n bs)) (joined_from s (drop k (drop n bs))))
    ∙ ap (λ xs. xs ++ joined_from s (drop k (drop n bs))) (sym (take-add n k bs))
    ∙ ap (λ xs. take (n + k) bs ++ xs) behind

-- outside of texts nothing is held
pub held_nothing_in_code : (held : List ℕ) (ends : ℕ) (bs : List ℕ)
    → joined_from (record { mode = m.Code; held = held; ends = ends }) bs ≡ joined_from (inside m.Code 0) bs
held_nothing_in_code held ends [] = refl
held_nothing_in_code held ends (b ∷ bs) = refl

pub held_nothing_in_comment : (held : List ℕ) (ends : ℕ) (bs : List ℕ)
    → joined_from (record { mode = m.Comment; held = held; ends = ends }) bs ≡ joined_from (inside m.Comment 0) bs
held_nothing_in_comment held ends [] = refl
held_nothing_in_comment held ends (b ∷ bs) = refl
