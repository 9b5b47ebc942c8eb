-- The longest token at the front of bytes is found by the class of its first byte.
use Rattle.std.proofs.Common.{◌≡◌, ℕ, zero, suc, ◌<◌, ◌≤◌, Bool, true, false, cond, List, [], ◌∷◌, length, get_or}
use Rattle.std.proofs.Common.{take, refl, ap, arith}
use Rattle.syntax_lexer.specs.Token.{Lexeme}
use Rattle.syntax_lexer.specs.Bytes.{run, Each}
use Rattle.syntax_lexer.specs.Spelling.{Spells}
use Rattle.syntax_lexer.proofs.Beginnings.{class_of, class_at, begins, takes}

-- ---- runs

pub run_each : (p : ℕ → Bool) (bs : List ℕ) → Each p (take (run p bs) bs)
unfolding run
run_each p [] = tt
run_each p (b ∷ bs) = go (p b) refl (run_each p bs)
  where
    go : (t : Bool) → p b ≡ t → Each p (take (run p bs) bs) → Each p (take (cond t (suc (run p bs)) 0) (b ∷ bs))
    go true e h = (e, h)
    go false e h = tt

-- no longer front is of the class
pub run_longest : (p : ℕ → Bool) (bs : List ℕ) (m : ℕ) → run p bs < m → m ≤ length bs → Each p (take m bs) → ⊥
unfolding run
run_longest p [] m lt le h = omega arith
run_longest p (b ∷ bs) zero lt le h = omega arith
run_longest p (b ∷ bs) (suc m) lt le h =
    let more : run p (b ∷ bs) ≡ suc (run p bs) = rw h.0 refl in
    run_longest p bs m (omega (arith, more)) (omega arith) h.1

pub run_some : (p : ℕ → Bool) (bs : List ℕ) → p (get_or bs 0 0) ≡ true → p 0 ≡ false → 0 < run p bs
unfolding run
run_some p [] e z = absurd cc
run_some p (b ∷ bs) e z = rw e (omega arith)

-- bytes of the class at the front are within the run
pub run_holds : (p : ℕ → Bool) (bs ds : List ℕ) → take (length ds) bs ≡ ds → Each p ds → length ds ≤ run p bs
unfolding run
run_holds p bs [] e h = omega arith
run_holds p [] (d ∷ ds) e h = absurd cc
run_holds p (b ∷ bs) (d ∷ ds) e h =
    let first : b ≡ d = cc in
    let rest : take (length ds) bs ≡ ds = cc in
    let more = run_holds p bs ds rest h.1 in
    let here : p b ≡ true = rw first h.0 in
    rw here (omega arith)

-- all bytes are of the class where the run is as long as they are
pub run_all : (p : ℕ → Bool) (bs : List ℕ) → run p bs ≡ length bs → Each p bs
unfolding run
run_all p [] e = tt
run_all p (b ∷ bs) e = go (p b) refl e (run_all p bs)
  where
    go : (t : Bool) → p b ≡ t → cond t (suc (run p bs)) 0 ≡ suc (length bs) → (run p bs ≡ length bs → Each p bs)
        → Each p (b ∷ bs)
    go true h e more = (h, more (omega arith))
    go false h e more = absurd (omega arith)

pub all_run : (p : ℕ → Bool) (bs : List ℕ) → Each p bs → run p bs ≡ length bs
unfolding run
all_run p [] h = refl
all_run p (b ∷ bs) h = rw h.0 (ap suc (all_run p bs h.1))

-- ---- classes

pub front_class : (bs : List ℕ) (x : Lexeme) (m : ℕ) → Spells x (take m bs) → class_at (get_or bs 0 0) ≡ class_of x
front_class [] x zero h = absurd (omega (arith, takes x [] h))
front_class [] x (suc m) h = absurd (omega (arith, takes x [] h))
front_class (b ∷ bs) x zero h = absurd (omega (arith, takes x [] h))
front_class (b ∷ bs) x (suc m) h = begins x b (take m bs) h
