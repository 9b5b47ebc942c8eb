-- The columns of a line, one text after another.
use Rattle.std.proofs.Common.{◌≡◌, ℕ, List, [], ◌∷◌, ◌++◌, ap, sym, ◌∙◌, append_assoc, Result, Ok, Err}
use Rattle.std.proofs.Common.{◌<◌, ◌≤◌, if◌then◌else◌, lt-ltb, le-ltb, true, false}
use Rattle.std.specs.Prelude.{codes, OnOk}
use Rattle.zcore.specs.Arithmetic.{signed_text}
use Rattle.zcore.specs.State.{State}
use Rattle.zcore_versions.specs.StatusLine.{filled, global_in, minutes_text, third_column, with_score, with_time}
use Rattle.zcore_versions.specs.StatusLine.{place_shown, shows_time, small_line, status_line}
use Rattle.zcore_versions.specs.Versions.{Story, is_small}

-- two parts that were added one after the other
both_added : (t u v x y : List ℕ) → u ≡ t ++ x → v ≡ u ++ y → v ≡ t ++ (x ++ y)
both_added t u v x y e f = f ∙ ap (λ l. l ++ y) e ∙ append_assoc t x y

-- a title, and a number
numbered : (t u v title : List ℕ) (n g : ℕ) → u ≡ t ++ title → v ≡ u ++ signed_text n → n ≡ g
    → v ≡ (t ++ title) ++ signed_text g
numbered t u v title n g e f same = f ∙ ap (λ l. l ++ signed_text n) e ∙ ap (λ k. (t ++ title) ++ signed_text k) same

pub score_is : (memory t u v w x y : List ℕ) (score moves : ℕ) → u ≡ t ++ codes "Score: " → v ≡ u ++ signed_text score
    → score ≡ global_in memory 17 → w ≡ filled third_column v → x ≡ w ++ codes "Moves: " → y ≡ x ++ signed_text moves
    → moves ≡ global_in memory 18 → y ≡ with_score memory t
unfolding with_score
score_is memory t u v w x y score moves a b same c d e other =
    numbered w x y (codes "Moves: ") moves (global_in memory 18) d e other
    ∙ ap (λ l. (l ++ codes "Moves: ") ++ signed_text (global_in memory 18))
    (c ∙ ap (filled third_column) (numbered t u v (codes "Score: ") score (global_in memory 17) a b same))

pub time_is : (memory t u v w x : List ℕ) (hours minutes : ℕ) → u ≡ t ++ codes "Time: " → v ≡ u ++ signed_text hours
    → hours ≡ global_in memory 17 → w ≡ v ++ 58 ∷ [] → x ≡ w ++ minutes_text minutes → minutes ≡ global_in memory 18
    → x ≡ with_time memory t
unfolding with_time
time_is memory t u v w x hours minutes a b same c d other =
    both_added v w x (58 ∷ []) (minutes_text minutes) c d
    ∙ ap (λ k. v ++ 58 ∷ minutes_text k) other
    ∙ ap (λ l. l ++ 58 ∷ minutes_text (global_in memory 18))
    (numbered t u v (codes "Time: ") hours (global_in memory 17) a b same)

-- what follows from what holds where no memory was refused
pub on_ok : {E P Q : Type 0} (r : Result (Unit {0}) E) → (P → Q) → OnOk r P → OnOk r Q
on_ok (Ok a) f p = f p
on_ok (Err e) f p = tt

-- minutes of one digit, and of more
pub minutes_short : (t u v : List ℕ) (minutes : ℕ) → minutes < 10 → u ≡ t ++ 48 ∷ [] → v ≡ u ++ signed_text minutes
    → v ≡ t ++ minutes_text minutes
unfolding minutes_text
minutes_short t u v minutes lt e f = both_added t u v (48 ∷ []) (signed_text minutes) e f
    ∙ ap (λ b. t ++ (if b then 48 ∷ signed_text minutes else signed_text minutes)) (sym (lt-ltb minutes 10 lt))

pub minutes_long : (t v : List ℕ) (minutes : ℕ) → 10 ≤ minutes → v ≡ t ++ signed_text minutes → v ≡ t ++ minutes_text minutes
unfolding minutes_text
minutes_long t v minutes le e =
    e ∙ ap (λ b. t ++ (if b then 48 ∷ signed_text minutes else signed_text minutes)) (sym (le-ltb minutes 10 le))

-- the line, with a time or with score and moves, after the place
pub timed : (story : Story) (s : State) (y place : List ℕ) → is_small story.version ≡ true
    → shows_time story.version s.memory ≡ true → place ≡ place_shown story s → y ≡ with_time s.memory place
    → y ≡ status_line story s
unfolding status_line
timed story s y place small time is e =
    let later : List ℕ = with_score s.memory (place_shown story s) in
    e ∙ ap (with_time s.memory) is
    ∙ ap (λ b. if b then with_time s.memory (place_shown story s) else later) (sym time)
    ∙ ap (λ b. if b then small_line story s else []) (sym small)

pub scored : (story : Story) (s : State) (y place : List ℕ) → is_small story.version ≡ true
    → shows_time story.version s.memory ≡ false → place ≡ place_shown story s → y ≡ with_score s.memory place
    → y ≡ status_line story s
unfolding status_line
scored story s y place small time is e =
    let sooner : List ℕ = with_time s.memory (place_shown story s) in
    e ∙ ap (with_score s.memory) is
    ∙ ap (λ b. if b then sooner else with_score s.memory (place_shown story s)) (sym time)
    ∙ ap (λ b. if b then small_line story s else []) (sym small)

-- later versions have none
pub no_line : (story : Story) (s : State) → is_small story.version ≡ false → status_line story s ≡ []
unfolding status_line
no_line story s small = ap (λ b. if b then small_line story s else []) small
