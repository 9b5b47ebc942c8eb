-- Texts that are put one after another.
use Rattle.std.proofs.Common.{◌≡◌, ◌++◌, List, ℕ, append_assoc}

regroup : (t a b c : List ℕ) → ((t ++ a) ++ b) ++ c ≡ t ++ ((a ++ b) ++ c)
regroup t a b c = simp append_assoc

pub three : {t1 t2 t3 : List ℕ} (t a b c : List ℕ) → t1 ≡ t ++ a → t2 ≡ t1 ++ b → t3 ≡ t2 ++ c
    → t3 ≡ t ++ ((a ++ b) ++ c)
three t a b c h1 h2 h3 = cc (regroup t a b c)
