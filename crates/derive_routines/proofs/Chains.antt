-- Texts that are put one after another.
use Rattle.std.proofs.Common.{◌≡◌, ◌++◌, List, ℕ, append_assoc}

pub two : {t1 t2 : List ℕ} (t a b : List ℕ) → t1 ≡ t ++ a → t2 ≡ t1 ++ b → t2 ≡ t ++ (a ++ b)
two t a b h1 h2 = cc (append_assoc t a b)

regroup_three : (t a b c : List ℕ) → ((t ++ a) ++ b) ++ c ≡ t ++ ((a ++ b) ++ c)
regroup_three t a b c = simp append_assoc

pub three : {t1 t2 t3 : List ℕ} (t a b c : List ℕ) → t1 ≡ t ++ a → t2 ≡ t1 ++ b → t3 ≡ t2 ++ c
    → t3 ≡ t ++ ((a ++ b) ++ c)
three t a b c h1 h2 h3 = cc (regroup_three t a b c)

regroup_four : (t a b c d : List ℕ) → (((t ++ a) ++ b) ++ c) ++ d ≡ t ++ (((a ++ b) ++ c) ++ d)
regroup_four t a b c d = simp append_assoc

pub four : {t1 t2 t3 t4 : List ℕ} (t a b c d : List ℕ) → t1 ≡ t ++ a → t2 ≡ t1 ++ b → t3 ≡ t2 ++ c → t4 ≡ t3 ++ d
    → t4 ≡ t ++ (((a ++ b) ++ c) ++ d)
four t a b c d h1 h2 h3 h4 = cc (regroup_four t a b c d)
