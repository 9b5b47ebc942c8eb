-- The whole states of a story on the front of a list of lines, and on one line more.
use Rattle.std.proofs.Common.{Option, None, Some, ◌≡◌, ℕ, zero, suc, ◌+◌, ◌<◌, Bool, true, false, List, [], ◌∷◌, ◌++◌}
use Rattle.std.proofs.Common.{length, get_or, take, refl, ap, sym, ◌∙◌, subst, arith, if◌then◌else◌, add-one}
use Rattle.std.proofs.lemmas.List.{get_or_default}
use Rattle.zcore.specs.Turn.{StateOfPlay, Whole, Play, is_waiting, entries, follow, plays_of, last_text, last_place}
use Rattle.zcore_versions.specs.Versions.{Story}
use Rattle.session.specs.Files.{file_with, last_file}
use Rattle.session.specs.Scripts.{is_on_with, last_is_on, last_script, turn_script}
use Rattle.session.specs.Naming.{asked_with, last_asked}

front_next : (o : Option Whole) (f g : Whole → List Whole) (n k : ℕ)
    → ((v : Whole) → length (g v) ≡ n + k → f v ≡ take n (g v)) → length (entries o g) ≡ suc n + k
    → entries o f ≡ take (suc n) (entries o g)
front_next None f g n k ih e = absurd (omega arith)
front_next (Some v) f g n k ih e = ap (λ t. v ∷ t) (ih v (omega arith))

front_turn : (b : Bool) (x y : List Whole) (n k : ℕ) → (length y ≡ suc n + k → x ≡ take (suc n) y)
    → length (if b then y else []) ≡ suc n + k → (if b then x else []) ≡ take (suc n) (if b then y else [])
front_turn true x y n k ih e = ih e
front_turn false x y n k ih e = absurd (omega arith)

front_from : (turn : List ℕ → StateOfPlay → Option Whole) (xs ys : List (List ℕ)) (w : Whole)
    → length (follow turn w (xs ++ ys)) ≡ length xs + length ys
    → follow turn w xs ≡ take (length xs) (follow turn w (xs ++ ys))
front_from turn [] ys w e = refl
front_from turn (x ∷ xs) ys w e =
    let o = turn x w.state in
    front_turn (is_waiting w.place) (entries o (λ v. follow turn v xs))
    (entries o (λ v. follow turn v (xs ++ ys))) (length xs) (length ys)
    (front_next o (λ v. follow turn v xs) (λ v. follow turn v (xs ++ ys)) (length xs) (length ys)
    (λ v. front_from turn xs ys v)) e

-- the front of the lines leads to the front of the whole states
pub plays_front : (play : Play) (xs ys : List (List ℕ))
    → length (plays_of play (xs ++ ys)) ≡ length xs + length ys + 1
    → plays_of play xs ≡ take (length xs + 1) (plays_of play (xs ++ ys))
plays_front play xs ys e =
    front_next (play.opening) (λ w. follow play.turn_on w xs) (λ w. follow play.turn_on w (xs ++ ys)) (length xs)
    (length ys) (λ v. front_from play.turn_on xs ys v) (omega arith)
    ∙ ap (λ n. take n (plays_of play (xs ++ ys))) (sym (add-one (length xs)))

abbrev pub last_of : Whole → List Whole → Whole
last_of w [] = w
last_of w (v ∷ vs) = last_of v vs

pub last_at : (ws : List Whole) (k : ℕ) (d : Whole) → k < length ws → last_of d (take (suc k) ws) ≡ get_or ws k d
last_at [] k d lt = absurd (omega arith)
last_at (w ∷ ws) zero d lt = refl
last_at (w ∷ ws) (suc k) d lt = last_at ws k w (omega arith) ∙ get_or_default ws k w d (omega arith)

more_at : (turn : List ℕ → StateOfPlay → Option Whole) (l : List ℕ) (w v : Whole) → is_waiting w.place ≡ true
    → turn l w.state ≡ Some v
    → follow turn w (l ∷ []) ≡ v ∷ []
more_at turn l w v e f = ap (λ b. if b then entries (turn l w.state) (λ u. []) else []) e
    ∙ ap (λ o. entries o (λ u. [])) f

more_next : (o : Option Whole) (f g : Whole → List Whole) (n : ℕ) (v w : Whole)
    → ((u : Whole) → length (f u) ≡ n → last_of u (f u) ≡ w → g u ≡ f u ++ v ∷ [])
    → (d : Whole) → length (entries o f) ≡ suc n → last_of d (entries o f) ≡ w → entries o g ≡ entries o f ++ v ∷ []
more_next None f g n v w ih d e h = absurd (omega arith)
more_next (Some u) f g n v w ih d e h = ap (λ t. u ∷ t) (ih u (omega arith) h)

more_turn : (b : Bool) (x y : List Whole) (n : ℕ) (v w d : Whole)
    → (length x ≡ suc n → last_of d x ≡ w → y ≡ x ++ v ∷ []) → length (if b then x else []) ≡ suc n
    → last_of d (if b then x else []) ≡ w
    → (if b then y else []) ≡ (if b then x else []) ++ v ∷ []
more_turn true x y n v w d ih e h = ih e h
more_turn false x y n v w d ih e h = absurd (omega arith)

more_from : (turn : List ℕ → StateOfPlay → Option Whole) (l : List ℕ) (v w : Whole) → is_waiting w.place ≡ true
    → turn l w.state ≡ Some v
    → (xs : List (List ℕ)) (d : Whole) → length (follow turn d xs) ≡ length xs
    → last_of d (follow turn d xs) ≡ w → follow turn d (xs ++ l ∷ []) ≡ follow turn d xs ++ v ∷ []
more_from turn l v w wait now [] d e h = subst (λ u. follow turn u (l ∷ []) ≡ v ∷ []) (sym h)
    (more_at turn l w v wait now)
more_from turn l v w wait now (x ∷ xs) d e h =
    let o = turn x d.state in
    more_turn (is_waiting d.place) (entries o (λ u. follow turn u xs))
    (entries o (λ u. follow turn u (xs ++ l ∷ []))) (length xs) v w d
    (more_next o (λ u. follow turn u xs) (λ u. follow turn u (xs ++ l ∷ [])) (length xs) v w
    (λ u. more_from turn l v w wait now xs u) d) e h

-- one line more leads to one whole state more
pub plays_more : (play : Play) (xs : List (List ℕ)) (l : List ℕ) (d v w : Whole)
    → length (plays_of play xs) ≡ length xs + 1 → last_of d (plays_of play xs) ≡ w → is_waiting w.place ≡ true
    → play.turn_on l w.state ≡ Some v → plays_of play (xs ++ l ∷ []) ≡ plays_of play xs ++ v ∷ []
plays_more play xs l d v w e h wait turn =
    more_next (play.opening) (λ u. follow play.turn_on u xs) (λ u. follow play.turn_on u (xs ++ l ∷ [])) (length xs) v
    w (λ u. more_from play.turn_on l v w wait turn xs u) d (omega arith) h

pub last_text_at : (ws : List Whole) (k : ℕ) (d : Whole) → k < length ws
    → last_text (take (suc k) ws) ≡ (get_or ws k d).text
last_text_at [] k d h = absurd (omega arith)
last_text_at (w ∷ ws) zero d h = refl
last_text_at (w ∷ []) (suc k) d h = absurd (omega arith)
last_text_at (w ∷ v ∷ ws) (suc k) d h = last_text_at (v ∷ ws) k d (omega arith)

pub last_place_at : (ws : List Whole) (k : ℕ) (d : Whole) → k < length ws
    → last_place (take (suc k) ws) ≡ (get_or ws k d).place
last_place_at [] k d h = absurd (omega arith)
last_place_at (w ∷ ws) zero d h = refl
last_place_at (w ∷ []) (suc k) d h = absurd (omega arith)
last_place_at (w ∷ v ∷ ws) (suc k) d h = last_place_at (v ∷ ws) k d (omega arith)

pub last_asked_at : (loaded : Option Story) (ws : List Whole) (k : ℕ) (d : Whole) → k < length ws
    → last_asked loaded (take (suc k) ws) ≡ asked_with loaded (get_or ws k d).state
last_asked_at loaded [] k d h = absurd (omega arith)
last_asked_at loaded (w ∷ ws) zero d h = refl
last_asked_at loaded (w ∷ []) (suc k) d h = absurd (omega arith)
last_asked_at loaded (w ∷ v ∷ ws) (suc k) d h = last_asked_at loaded (v ∷ ws) k d (omega arith)

pub last_file_at : (loaded : Option Story) (ws : List Whole) (k : ℕ) (d : Whole) → k < length ws
    → last_file loaded (take (suc k) ws) ≡ file_with loaded (get_or ws k d).state (get_or ws k d).state.pending
last_file_at loaded [] k d h = absurd (omega arith)
last_file_at loaded (w ∷ ws) zero d h = refl
last_file_at loaded (w ∷ []) (suc k) d h = absurd (omega arith)
last_file_at loaded (w ∷ v ∷ ws) (suc k) d h = last_file_at loaded (v ∷ ws) k d (omega arith)

pub last_is_on_at : (loaded : Option Story) (ws : List Whole) (k : ℕ) (d : Whole) → k < length ws
    → last_is_on loaded (take (suc k) ws) ≡ is_on_with loaded (get_or ws k d).state
last_is_on_at loaded [] k d h = absurd (omega arith)
last_is_on_at loaded (w ∷ ws) zero d h = refl
last_is_on_at loaded (w ∷ []) (suc k) d h = absurd (omega arith)
last_is_on_at loaded (w ∷ v ∷ ws) (suc k) d h = last_is_on_at loaded (v ∷ ws) k d (omega arith)

pub last_script_at : (loaded : Option Story) (fuel : ℕ) (line : List ℕ) (ws : List Whole) (k : ℕ) (d : Whole)
    → k < length ws → last_script loaded fuel line (take (suc k) ws) ≡ turn_script loaded line fuel (get_or ws k d).state
last_script_at loaded fuel line [] k d h = absurd (omega arith)
last_script_at loaded fuel line (w ∷ ws) zero d h = refl
last_script_at loaded fuel line (w ∷ []) (suc k) d h = absurd (omega arith)
last_script_at loaded fuel line (w ∷ v ∷ ws) (suc k) d h = last_script_at loaded fuel line (v ∷ ws) k d (omega arith)
