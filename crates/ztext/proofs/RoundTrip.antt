-- What was encoded is decoded.
use Rattle.std.proofs.Common.{◌≡◌, ℕ, zero, suc, ◌+◌, ◌-◌, ◌*◌, ◌/◌, ◌%◌, ◌^◌, ◌<◌, ◌&&◌, Bool, true, false, cond}
use Rattle.std.proofs.Common.{eqb, leb, ltb, List, [], ◌∷◌, ◌++◌, length, drop, Result, Ok, Err, refl, sym, ap, subst}
use Rattle.std.proofs.Common.{◌∙◌, append_assoc, arith}
use Rattle.std.specs.Prelude.{replicate}
use Rattle.std.specs.List.{list_all}
use Rattle.std.proofs.lemmas.Bool.{eqb-true, le-leb, lt-leb, lt-ltb, ne_eqb, and_parts}
use Rattle.std.proofs.lemmas.List.{append-nil, length-append, length-replicate, take-append-drop}
use Rattle.ztext.specs.Alphabets.{is_printable, spelling_of, spelled}
use Rattle.ztext.specs.Results.{◌>>=◌}
use Rattle.ztext.specs.Reading.{Cause, Lower, Punctuation, next, printed, reads, ReadingState}
use Rattle.ztext.specs.Words.{packed, three_of, unpacked_text, missing, padded}
use Rattle.ztext.specs.Text.{abbreviation, read_with, decoded, encoded, Holds}
use Rattle.ztext.specs.TextParts.{AreSmall}
use Rattle.ztext.proofs.Packing.{small_append}
use Rattle.ztext.proofs.Spelling.{each_below, below_at, AreBytes, spelled_small, fives_small, printable_below}
use Rattle.ztext.proofs.Loops.{before, before_more}

pub bind_ok : {A B : Type 0} (r : Result A Cause) (f : A → Result B Cause) (y : B) → (r >>= f) ≡ Ok y
    → (x : A) × (r ≡ Ok x) × (f x ≡ Ok y)
bind_ok (Ok x) f y e = (x, refl, e)
bind_ok (Err d) f y e = absurd cc

abbrev found : List ℕ × ReadingState → Result (List ℕ × ReadingState) Cause
found x = Ok x

pair_is : (x y : List ℕ × ReadingState) → found x ≡ found y → x ≡ y
pair_is x y e = cc

pub before_none : (r : Result (List ℕ) Cause) → r ≡ before [] r
before_none (Ok x) = refl
before_none (Err f) = refl

module _ (expand : ℕ → Result (List ℕ) Cause) where
  -- what Z-characters print, and the state after them
  abbrev runs : ReadingState → List ℕ → Result (List ℕ × ReadingState) Cause
  runs s [] = Ok ([], s)
  runs s (z ∷ zs) = printed expand s z >>= λ text. runs (next s z) zs >>= λ y. Ok (text ++ y.0, y.1)

  abbrev is_lower : ReadingState → Bool
  is_lower Lower = true
  is_lower _ = false

  abbrev is_one : List ℕ → ℕ → Bool
  is_one [] c = false
  is_one (b ∷ []) c = eqb b c
  is_one (b ∷ d ∷ bs) c = false

  abbrev gives : Result (List ℕ × ReadingState) Cause → ℕ → Bool
  gives (Ok x) c = is_one x.0 c && is_lower x.1
  gives (Err f) c = false

  abbrev prints_itself : ℕ → Bool
  prints_itself c = cond (is_printable c) (gives (runs Lower (spelling_of c)) c) true

  -- each character's spelling prints it, by computing at each
  all_print : each_below prints_itself 127 ≡ true
  unfolding spelling_of
  all_print = refl

  one_is : (bs : List ℕ) (c : ℕ) → is_one bs c ≡ true → bs ≡ c ∷ []
  one_is [] c e = absurd cc
  one_is (b ∷ []) c e = ap (λ x. x ∷ []) (eqb-true b c e)
  one_is (b ∷ d ∷ bs) c e = absurd cc

  lower_is : (s : ReadingState) → is_lower s ≡ true → s ≡ Lower
  lower_is Lower e = refl
  lower_is _ e = absurd cc

  gives_is : (r : Result (List ℕ × ReadingState) Cause) (c : ℕ) → gives r c ≡ true → r ≡ Ok (c ∷ [], Lower)
  gives_is (Ok x) c e =
      let parts = and_parts (is_one x.0 c) (is_lower x.1) e in
      ap (λ (y : List ℕ × ReadingState). Ok y) (λ i. (one_is x.0 c parts.0 i, lower_is x.1 parts.1 i))
  gives_is (Err f) c e = absurd cc

  pub prints : (c : ℕ) → is_printable c ≡ true → runs Lower (spelling_of c) ≡ Ok (c ∷ [], Lower)
  prints c e =
      let here = below_at prints_itself 127 c all_print (printable_below c e) in
      gives_is (runs Lower (spelling_of c)) c (rw e at here)

  pub reads_one : (s : ReadingState) (z : ℕ) (zs text : List ℕ) → printed expand s z ≡ Ok text
      → reads expand s (z ∷ zs) ≡ before text (reads expand (next s z) zs)
  unfolding reads
  reads_one s z zs text e = rw e refl

  pub reads_runs : (s t : ReadingState) (zs rest text : List ℕ) → runs s zs ≡ Ok (text, t)
      → reads expand s (zs ++ rest) ≡ before text (reads expand t rest)
  unfolding reads
  reads_runs s t [] rest text e =
      let p = pair_is ([], s) (text, t) e in
      subst (λ (x : List ℕ × ReadingState). reads expand s rest ≡ before x.0 (reads expand x.1 rest)) p
      (before_none (reads expand s rest))
  reads_runs s t (z ∷ zs) rest text e =
      let a = bind_ok (printed expand s z) (λ got. runs (next s z) zs >>= λ y. Ok (got ++ y.0, y.1)) (text, t) e in
      let b = bind_ok (runs (next s z) zs) (λ y. Ok (a.0 ++ y.0, y.1)) (text, t) a.2 in
      let again = reads_runs (next s z) b.0.1 zs rest b.0.0 b.1 in
      let p = pair_is (a.0 ++ b.0.0, b.0.1) (text, t) b.2 in
      reads_one s z (zs ++ rest) a.0 a.1 ∙ ap (before a.0) again ∙ before_more a.0 b.0.0 (reads expand b.0.1 rest)
      ∙ ap (λ (x : List ℕ × ReadingState). before x.0 (reads expand x.1 rest)) p

  reads_spelled : (text rest : List ℕ) → list_all is_printable text ≡ true
      → reads expand Lower (spelled text ++ rest) ≡ before text (reads expand Lower rest)
  reads_spelled [] rest e = before_none (reads expand Lower rest)
  reads_spelled (c ∷ text) rest e =
      let parts = and_parts (is_printable c) (list_all is_printable text) e in
      let first = reads_runs Lower Lower (spelling_of c) (spelled text ++ rest) (c ∷ []) (prints c parts.0) in
      ap (reads expand Lower) (append_assoc (spelling_of c) (spelled text) rest) ∙ first
      ∙ ap (before (c ∷ [])) (reads_spelled text rest parts.1)
      ∙ before_more (c ∷ []) text (reads expand Lower rest)

  punctuation_fives : (k : ℕ) → reads expand Punctuation (replicate k 5) ≡ Ok []
  unfolding reads
  punctuation_fives zero = refl
  punctuation_fives (suc k) = rw (punctuation_fives k) refl

  pub lower_fives : (k : ℕ) → reads expand Lower (replicate k 5) ≡ Ok []
  unfolding reads
  lower_fives zero = refl
  lower_fives (suc k) = rw (punctuation_fives k) refl

  pub reads_padded : (text : List ℕ) → list_all is_printable text ≡ true
      → reads expand Lower (padded (spelled text)) ≡ Ok text
  reads_padded text e =
      reads_spelled text (replicate (missing (length (spelled text))) 5) e
      ∙ ap (before text) (lower_fives (missing (length (spelled text)))) ∙ ap (λ y. Ok y) (append-nil text)

-- ---- words

word_last : (a b c : ℕ) → a < 32 → b < 32 → c < 32
    → three_of (128 + a * 4 + b / 8) ((b % 8) * 32 + c) ≡ a ∷ b ∷ c ∷ []
word_last a b c la lb lc =
    let p : ((128 + a * 4 + b / 8) / 4) % 32 ≡ a = omega arith in
    let q : ((128 + a * 4 + b / 8) % 4) * 8 + ((b % 8) * 32 + c) / 32 ≡ b = omega arith in
    let r : ((b % 8) * 32 + c) % 32 ≡ c = omega arith in
    rw (p, q, r) refl

word_inner : (a b c : ℕ) → a < 32 → b < 32 → c < 32 → three_of (0 + a * 4 + b / 8) ((b % 8) * 32 + c) ≡ a ∷ b ∷ c ∷ []
word_inner a b c la lb lc =
    let p : ((0 + a * 4 + b / 8) / 4) % 32 ≡ a = omega arith in
    let q : ((0 + a * 4 + b / 8) % 4) * 8 + ((b % 8) * 32 + c) / 32 ≡ b = omega arith in
    let r : ((b % 8) * 32 + c) % 32 ≡ c = omega arith in
    rw (p, q, r) refl

-- whole words, at least one
abbrev AreThrees : List ℕ → Type 0
AreThrees [] = ⊥
AreThrees (a ∷ []) = ⊥
AreThrees (a ∷ b ∷ []) = ⊥
AreThrees (a ∷ b ∷ c ∷ []) = Unit {0}
AreThrees (a ∷ b ∷ c ∷ d ∷ rest) = AreThrees (d ∷ rest)

unpacked_packed : (zs rest : List ℕ) (at : ℕ) → AreThrees zs → AreSmall zs → at + length (packed zs) < 2 ^ 32
    → unpacked_text at (packed zs ++ rest) ≡ Ok (zs, at + length (packed zs))
unfolding packed unpacked_text
unpacked_packed [] rest at h s lt = absurd h
unpacked_packed (a ∷ []) rest at h s lt = absurd h
unpacked_packed (a ∷ b ∷ []) rest at h s lt = absurd h
unpacked_packed (a ∷ b ∷ c ∷ []) rest at h s lt =
    let top : leb 128 (128 + a * 4 + b / 8) ≡ true = le-leb _ _ (omega arith) in
    let fits : ltb (at + 2) (2 ^ 32) ≡ true = lt-ltb _ _ lt in
    rw (top, fits, word_last a b c s.0 s.1.0 s.1.1.0) refl
unpacked_packed (a ∷ b ∷ c ∷ d ∷ more) rest at h s lt =
    let top : leb 128 (0 + a * 4 + b / 8) ≡ false = lt-leb _ _ (omega (arith, s.0, s.1.0)) in
    let n = length (packed (d ∷ more)) in
    let after : at + 2 + n ≡ at + suc (suc n) = omega arith in
    let again = unpacked_packed (d ∷ more) rest (at + 2) h s.1.1.1 (omega (arith, lt)) in
    rw (top, again)
    (ap (λ (x : List ℕ). Ok (x ++ d ∷ more, at + 2 + n)) (word_inner a b c s.0 s.1.0 s.1.1.0)
    ∙ ap (λ k. Ok (a ∷ b ∷ c ∷ d ∷ more, k)) after)

threes : (k : ℕ) (zs : List ℕ) → length zs ≡ 3 * suc k → AreThrees zs
threes k [] e = absurd (omega arith)
threes k (a ∷ []) e = absurd (omega arith)
threes k (a ∷ b ∷ []) e = absurd (omega arith)
threes k (a ∷ b ∷ c ∷ []) e = tt
threes zero (a ∷ b ∷ c ∷ d ∷ rest) e = absurd (omega arith)
threes (suc k) (a ∷ b ∷ c ∷ d ∷ rest) e = threes k (d ∷ rest) (omega arith)

missing_fills : (n : ℕ) → (k : ℕ) × (n + missing n ≡ 3 * suc k)
missing_fills zero = (0, refl)
missing_fills (suc n) = ((suc n + (3 - suc n % 3) % 3) / 3 - 1, fills)
  where
    fills : suc n + missing (suc n) ≡ 3 * suc ((suc n + (3 - suc n % 3) % 3) / 3 - 1)
    fills = let e : eqb (suc n) 0 ≡ false = ne_eqb (suc n) 0 (λ h. omega arith) in rw e (omega arith)

padded_threes : (zs : List ℕ) → AreThrees (padded zs)
padded_threes zs =
    let m = missing_fills (length zs) in
    threes m.0 (padded zs)
    (omega (
      arith,
      length-append zs (replicate (missing (length zs)) 5),
      length-replicate {A = ℕ}
          (missing (length zs)) 5,
      m.1,
    ))

pub padded_small : (text : List ℕ) → AreBytes text → AreSmall (padded (spelled text))
padded_small text h = small_append (spelled text) (replicate (missing (length (spelled text))) 5)
    (spelled_small text h) (fives_small (missing (length (spelled text))))

-- ---- the round trip

-- bytes in a story that are the words of Z-characters are read as what these print
pub read_back : (expand : ℕ → Result (List ℕ) Cause) (zs text bytes story : List ℕ) (at : ℕ) → AreSmall (padded zs)
    → reads expand Lower (padded zs) ≡ Ok text → bytes ≡ packed (padded zs) → Holds story at bytes
    → at + length bytes < 2 ^ 32 → read_with expand story at ≡ Ok (text, at + length bytes)
read_back expand zs text bytes story at small back is held lt =
    let rest = drop (length bytes) (drop at story) in
    let whole : drop at story ≡ packed (padded zs) ++ rest = sym (take-append-drop (length bytes) (drop at story))
    ∙ ap (λ bs. bs ++ rest) (held ∙ is) in
    let long : length bytes ≡ length (packed (padded zs)) = ap length is in
    let words = unpacked_packed (padded zs) rest at (padded_threes zs) small (omega (arith, long)) in
    ap (λ bs. unpacked_text at bs >>= λ x. reads expand Lower x.0 >>= λ got. Ok (got, x.1)) whole
    ∙ ap (λ r. r >>= λ x. reads expand Lower x.0 >>= λ got. Ok (got, x.1)) words
    ∙ ap (λ r. r >>= λ got. Ok (got, at + length (packed (padded zs)))) back
    ∙ ap (λ k. Ok (text, at + k)) (sym long)

pub round_trip : (text bytes story : List ℕ) (at : ℕ) → AreBytes text → list_all is_printable text ≡ true
    → bytes ≡ encoded text → Holds story at bytes → at + length bytes < 2 ^ 32
    → decoded story at ≡ Ok (text, at + length bytes)
unfolding decoded encoded
round_trip text bytes story at small e is held lt =
    read_back (abbreviation story) (spelled text) text bytes story at (padded_small text small)
    (reads_padded (abbreviation story) text e) is held lt
