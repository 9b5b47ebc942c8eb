-- The characters of a text in a story of bytes are printable.
use Rattle.std.proofs.Common.{◌≡◌, ℕ, zero, suc, ◌+◌, ◌*◌, ◌<◌, Bool, true, false, cond, eqb, leb, ltb}
use Rattle.std.proofs.Common.{List, [], ◌∷◌, ◌++◌, drop, Result, Ok, Err, refl, ap, subst, arith}
use Rattle.std.specs.List.{list_all}
use Rattle.std.proofs.lemmas.List.Folds.{list_all-append}
use Rattle.ztext.specs.Alphabets.{is_printable}
use Rattle.ztext.specs.Results.{◌>>=◌}
use Rattle.ztext.specs.Reading.{Cause, Lower, Upper, Punctuation, EscapeHigh, EscapeLow, Abbreviated, ReadingState}
use Rattle.ztext.specs.Reading.{Character, next, letter, printed, reads}
use Rattle.ztext.specs.Words.{unpacked_text, last_word, three_of}
use Rattle.ztext.specs.Text.{z_text_at, read_with, refused, has_abbreviations, abbreviation_address, abbreviation}
use Rattle.ztext.specs.Text.{decoded}
use Rattle.ztext.specs.TextParts.{AreSmall}
use Rattle.ztext.proofs.Packing.{small_append}
use Rattle.ztext.proofs.Spelling.{AreBytes, each_below, below_at}
use Rattle.ztext.proofs.RoundTrip.{bind_ok}

-- characters that are printable
abbrev Printable : List ℕ → Type 0
Printable text = list_all is_printable text ≡ true

printable_append : (xs ys : List ℕ) → Printable xs → Printable ys → Printable (xs ++ ys)
printable_append xs ys h k = rw (list_all-append is_printable xs ys, h) k

-- what was answered is what is there
ok_is : {A : Type 0} (a b : A) → ◌≡◌ {A = Result A Cause} (Ok a) (Ok b) → a ≡ b
ok_is {A} a b e = let there : Result A Cause → A = λ r. elim r [ Ok x ↦ x | Err f ↦ a ] in ap there e

printable_ok : (a b : List ℕ) → Printable a → ◌≡◌ {A = Result (List ℕ) Cause} (Ok a) (Ok b) → Printable b
printable_ok a b h e = subst Printable (ok_is a b e) h

-- ---- Z-characters

bytes_drop : (k : ℕ) (story : List ℕ) → AreBytes story → AreBytes (drop k story)
bytes_drop zero story h = h
bytes_drop (suc k) [] h = tt
bytes_drop (suc k) (b ∷ story) h = bytes_drop k story h.1

three_small : (high low : ℕ) → high < 256 → low < 256 → AreSmall (three_of high low)
three_small high low h k = (omega arith, (omega arith, (omega arith, tt)))

small_ok : (zs : List ℕ) (after : ℕ) (x : List ℕ × ℕ) → AreSmall zs
    → ◌≡◌ {A = Result (List ℕ × ℕ) Cause} (Ok (zs, after)) (Ok x) → AreSmall x.0
small_ok zs after x h e = subst AreSmall (ap (λ y. y.0) (ok_is (zs, after) x e)) h

last_small : (b : Bool) (zs : List ℕ) (after : ℕ) (f : Cause) (x : List ℕ × ℕ) → AreSmall zs
    → cond {A = Result (List ℕ × ℕ) Cause} b (Ok (zs, after)) (Err f) ≡ Ok x → AreSmall x.0
last_small true zs after f x h e = small_ok zs after x h e
last_small false zs after f x h e = cc

more_small : (zs : List ℕ) (r : Result (List ℕ × ℕ) Cause) (x : List ℕ × ℕ) → AreSmall zs
    → ((y : List ℕ × ℕ) → r ≡ Ok y → AreSmall y.0) → (r >>= λ y. Ok (zs ++ y.0, y.1)) ≡ Ok x → AreSmall x.0
more_small zs (Ok y) x h k e = small_ok (zs ++ y.0) y.1 x (small_append zs y.0 h (k y refl)) e
more_small zs (Err f) x h k e = cc

chosen_small : (b : Bool) (q r : Result (List ℕ × ℕ) Cause) (x : List ℕ × ℕ) → (q ≡ Ok x → AreSmall x.0)
    → (r ≡ Ok x → AreSmall x.0) → cond b q r ≡ Ok x → AreSmall x.0
chosen_small true q r x h k e = h e
chosen_small false q r x h k e = k e

unpacked_small : (at : ℕ) (bytes : List ℕ) (x : List ℕ × ℕ) → AreBytes bytes → unpacked_text at bytes ≡ Ok x
    → AreSmall x.0
unfolding unpacked_text
unpacked_small at [] x h e = cc
unpacked_small at (high ∷ []) x h e = cc
unpacked_small at (high ∷ low ∷ bytes) x h e =
    let three = three_small high low h.0 h.1.0 in
    chosen_small (leb 128 high) (last_word at high low) (unpacked_text (at + 2) bytes >>= λ y. Ok
    (three_of high low ++ y.0, y.1)) x (λ f. last_small _ (three_of high low) (at + 2) _ x three f)
    (λ f. more_small (three_of high low) (unpacked_text (at + 2) bytes) x three
    (λ y g. unpacked_small (at + 2) bytes y h.1.1 g) f) e

-- ---- what they print

lower_printable : each_below (λ z. list_all is_printable (letter Lower z)) 32 ≡ true
lower_printable = refl

upper_printable : each_below (λ z. list_all is_printable (letter Upper z)) 32 ≡ true
upper_printable = refl

punctuation_printable : each_below (λ z. list_all is_printable (letter Punctuation z)) 32 ≡ true
punctuation_printable = refl

escaped_printable : (t u : Bool) (code : ℕ) (text : List ℕ) → is_printable code ≡ u
    → cond {A = Result (List ℕ) Cause} t (Ok []) (cond u (Ok (code ∷ [])) (Err Character)) ≡ Ok text → Printable text
escaped_printable true u code text f e = printable_ok [] text refl e
escaped_printable false true code text f e = printable_ok (code ∷ []) text (rw f refl) e
escaped_printable false false code text f e = cc

one_of : (t u : Bool) (a b c text : List ℕ) → Printable a → Printable b → Printable c
    → cond {A = Result (List ℕ) Cause} t (Ok a) (cond u (Ok b) (Ok c)) ≡ Ok text → Printable text
one_of true u a b c text h k l e = printable_ok a text h e
one_of false true a b c text h k l e = printable_ok b text k e
one_of false false a b c text h k l e = printable_ok c text l e

-- the texts of abbreviations are printable
abbrev Expands : (ℕ → Result (List ℕ) Cause) → Type 0
Expands expand = (n : ℕ) (text : List ℕ) → expand n ≡ Ok text → Printable text

module _ (expand : ℕ → Result (List ℕ) Cause) (texts : Expands expand) where
  printed_printable : (s : ReadingState) (z : ℕ) (text : List ℕ) → z < 32 → printed expand s z ≡ Ok text
      → Printable text
  printed_printable EscapeHigh z text lt e = printable_ok [] text refl e
  printed_printable (EscapeLow high) z text lt e =
      escaped_printable (eqb (32 * high + z) 0) (is_printable (32 * high + z)) (32 * high + z) text refl e
  printed_printable (Abbreviated row) z text lt e = texts _ text e
  printed_printable Lower z text lt e = one_of (eqb z 0) (ltb z 6) (32 ∷ []) [] (letter Lower z) text refl refl
      (below_at (λ y. list_all is_printable (letter Lower y)) 32 z lower_printable lt) e
  printed_printable Upper z text lt e = one_of (eqb z 0) (ltb z 6) (32 ∷ []) [] (letter Upper z) text refl refl
      (below_at (λ y. list_all is_printable (letter Upper y)) 32 z upper_printable lt) e
  printed_printable Punctuation z text lt e = one_of (eqb z 0) (ltb z 6) (32 ∷ []) [] (letter Punctuation z) text refl
      refl (below_at (λ y. list_all is_printable (letter Punctuation y)) 32 z punctuation_printable lt) e

  reads_printable : (s : ReadingState) (zs text : List ℕ) → AreSmall zs → reads expand s zs ≡ Ok text → Printable text
  unfolding reads
  reads_printable s [] text h e = printable_ok [] text refl e
  reads_printable s (z ∷ zs) text h e =
      let p = bind_ok (printed expand s z) (λ got. reads expand (next s z) zs >>= λ more. Ok (got ++ more)) text e in
      let q = bind_ok (reads expand (next s z) zs) (λ more. Ok (p.0 ++ more)) text p.2 in
      printable_ok (p.0 ++ q.0) text
      (printable_append p.0 q.0 (printed_printable s z p.0 h.0 p.1) (reads_printable (next s z) zs q.0 h.1 q.1)) q.2

  read_printable : (story : List ℕ) (at : ℕ) (x : List ℕ × ℕ) → AreBytes story → read_with expand story at ≡ Ok x
      → Printable x.0
  read_printable story at x h e =
      let p = bind_ok (z_text_at story at) (λ y. reads expand Lower y.0 >>= λ text. Ok (text, y.1)) x e in
      let q = bind_ok (reads expand Lower p.0.0) (λ text. Ok (text, p.0.1)) x p.2 in
      printable_ok q.0 x.0
      (reads_printable Lower p.0.0 q.0 (unpacked_small at (drop at story) p.0 (bytes_drop at story h) p.1) q.1)
      (ap (λ y. Ok y.0) (ok_is (q.0, p.0.1) x q.2))

-- ---- abbreviations

refused_printable : (n : ℕ) (text : List ℕ) → refused n ≡ Ok text → Printable text
refused_printable n text e = cc

found_printable : (b : Bool) (r : Result (List ℕ × ℕ) Cause) (f : Cause) (text : List ℕ)
    → ((x : List ℕ × ℕ) → r ≡ Ok x → Printable x.0) → cond b (r >>= λ x. Ok x.0) (Err f) ≡ Ok text → Printable text
found_printable true (Ok x) f text h e = printable_ok x.0 text (h x refl) e
found_printable true (Err g) f text h e = cc
found_printable false r f text h e = cc

abbreviation_printable : (story : List ℕ) → AreBytes story → (n : ℕ) (text : List ℕ) → abbreviation story n ≡ Ok text
    → Printable text
unfolding abbreviation
abbreviation_printable story h n text e =
    found_printable (has_abbreviations story) (read_with refused story (abbreviation_address story n)) _ text
    (λ x f. read_printable refused refused_printable story (abbreviation_address story n) x h f) e

pub decoded_printable : (story : List ℕ) (at : ℕ) → AreBytes story → (x : List ℕ × ℕ) → decoded story at ≡ Ok x
    → list_all is_printable x.0 ≡ true
unfolding decoded
decoded_printable story at h x e =
    read_printable (abbreviation story) (abbreviation_printable story h) story at x h e
