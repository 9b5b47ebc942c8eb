-- A text that grows by a few bytes.
use Rattle.std.proofs.Common.{◌≡◌, ℕ, ◌+◌, ◌≤◌, List, [], ◌∷◌, ◌++◌, length, take, ap, sym, ◌∙◌, arith, append_assoc, codes, Result, Ok, Err}
use Rattle.std.specs.Prelude.{OnErr, OnOk}
use Rattle.std.proofs.lemmas.List.{length-append, length-take, take-append-le, take_all, take-take}
use Rattle.zcore_standard.specs.Saving.{notice}
use Rattle.machine_standard_windows.specs.TurnState.{Keeps}
use Rattle.machine_standard_saves.specs.Asked.{GrewBy}

pub grew_none : (most : ℕ) (x : List ℕ) → GrewBy most x x
grew_none most x = record { front = take_all (length x) x (omega arith); few = omega arith }

grew_append : (x more y : List ℕ) → y ≡ x ++ more → GrewBy (length more) x y
grew_append x more y is = record {
  front = ap (take (length x)) is ∙ take-append-le (length x) x more (omega arith) ∙ take_all (length x) x (omega arith);
  few = omega (arith, ap length is, length-append x more);
}

grew_same : (most : ℕ) (x y : List ℕ) → y ≡ x → GrewBy most x y
grew_same most x y is = record {
  front = ap (take (length x)) is ∙ take_all (length x) x (omega arith);
  few = omega (arith, ap length is);
}

pub grew_added : {E : Type 0} (r : Result (Unit {0}) E) (x more y : List ℕ) → OnOk r (y ≡ x ++ more) → OnErr r (y ≡ x)
    → GrewBy (length more) x y
grew_added (Ok u) x more y ok err = grew_append x more y ok
grew_added (Err e) x more y ok err = grew_same (length more) x y err

longer : (most : ℕ) (x y : List ℕ) → GrewBy most x y → length x ≤ length y
longer most x y g = omega (arith, ap length g.front, length-take (length x) y)

pub grew_then : (m n most : ℕ) (x y z : List ℕ) → GrewBy m x y → GrewBy n y z → m + n ≤ most → GrewBy most x z
grew_then m n most x y z a b few = record {
  front = sym (take-take (length x) (length y) z (longer m x y a)) ∙ ap (take (length x)) b.front ∙ a.front;
  few = omega (arith, a.few, b.few, few);
}

pub grew_more : (m most : ℕ) (x y : List ℕ) → GrewBy m x y → m ≤ most → GrewBy most x y
grew_more m most x y a few = record { front = a.front; few = omega (arith, a.few, few) }

-- the turn's text began at its end
pub keeps_grown : (most : ℕ) (x y : List ℕ) → GrewBy most x y → most ≤ 65536 → Keeps (length x) x y
keeps_grown most x y g few = record {
  front = g.front ∙ sym (take_all (length x) x (omega arith));
  begun = longer most x y g;
  within = omega (arith, g.few, few);
}

-- The notice that tells why

pub why_added : {E : Type 0} (r : Result (Unit {0}) E) (x y z t why : List ℕ) → y ≡ x ++ codes ": " → z ≡ y ++ why
    → OnOk r (t ≡ z ++ (codes ".]" ++ 10 ∷ [])) → OnOk r (t ≡ x ++ (codes ": " ++ why ++ codes ".]" ++ 10 ∷ []))
why_added (Ok u) x y z t why one two three =
    let last : List ℕ = codes ".]" ++ 10 ∷ [] in
    three ∙ ap (λ (l : List ℕ). l ++ last) two ∙ ap (λ (l : List ℕ). (l ++ why) ++ last) one
    ∙ ap (λ (l : List ℕ). l ++ last) (append_assoc x (codes ": ") why) ∙ append_assoc x (codes ": " ++ why) last
    ∙ ap (λ (l : List ℕ). x ++ l) (sym (append_assoc (codes ": " ++ why) (codes ".]") (10 ∷ [])))
why_added (Err e) x y z t why one two three = tt

pub notice_added : {E : Type 0} (r : Result (Unit {0}) E) (x y z t what why : List ℕ) → y ≡ x ++ codes "[Not "
    → z ≡ y ++ what → OnOk r (t ≡ z ++ (codes ": " ++ why ++ codes ".]" ++ 10 ∷ []))
    → OnOk r (t ≡ x ++ notice what why)
notice_added (Ok u) x y z t what why one two three =
    let first : List ℕ = codes "[Not " ++ what in
    let middle : List ℕ = codes ": " ++ why in
    let end : List ℕ = 10 ∷ [] in
    let last : List ℕ = (middle ++ codes ".]") ++ end in
    three ∙ ap (λ (l : List ℕ). l ++ last) two ∙ ap (λ (l : List ℕ). (l ++ what) ++ last) one
    ∙ ap (λ (l : List ℕ). l ++ last) (append_assoc x (codes "[Not ") what) ∙ append_assoc x first last
    ∙ ap (λ (l : List ℕ). x ++ l)
    (sym (append_assoc first (middle ++ codes ".]") end)
    ∙ ap (λ (l : List ℕ). l ++ end)
    (sym (append_assoc first middle (codes ".]")) ∙ ap (λ (l : List ℕ). l ++ codes ".]") (sym (append_assoc first (codes ": ") why))))
notice_added (Err e) x y z t what why one two three = tt
