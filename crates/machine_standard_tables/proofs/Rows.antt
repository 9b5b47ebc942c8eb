-- Rows that are printed, and their codes.
use Rattle.std.proofs.Common.{◌≡◌, ℕ, zero, suc, ◌+◌, ◌-◌, ◌*◌, ◌<◌, ◌≤◌, inl, inr, List, [], ◌∷◌, ◌++◌, length, take, drop}
use Rattle.std.proofs.Common.{slice_index, refl, ap, sym, ◌∙◌, subst, arith, append-nil, append_assoc, add-one, true, false}
use Rattle.std.proofs.Common.{Result, Ok, Err, replicate}
use Rattle.std.specs.Prelude.{◌==◌}
use Rattle.std.proofs.lemmas.Bool.{ne_eqb, cases_lt}
use Rattle.std.proofs.lemmas.List.{replicate-append-replicate, take_more, take-append-drop, take-take}
use Rattle.std.proofs.Math.Nat.{mul-le-mul_right}
use Rattle.journal.specs.Recording.{Recording}
use Rattle.zcore.specs.declared.next.Next.{Next}
use Rattle.zcore.specs.Parts.{goes_on}
use Rattle.zcore_standard.specs.Characters.{print_codes}
use Rattle.zcore_standard.specs.Fuel.{spend_for}
use Rattle.zcore_standard.specs.Tables.{are_readable, print_table, row_division, rows, rows_length, rows_size}
use Rattle.zcore_standard.specs.Tables.{test_readable}
use Rattle.machine_frames.specs.Contents.{Contents, memory_of}
use Rattle.machine_frames.specs.States.{IsSound}
use Rattle.machine_frames.specs.Went.{Told, Went}
use Rattle.machine_frames.specs.declared.end.End.{End}
use Rattle.machine_frames.proofs.Steps.{told_as, told_no_further, told_sound, told_still, told_then, told_went, went_no_further, went_sound, went_then}
use Rattle.machine_opcodes.specs.Says.{Says}
use Rattle.machine_opcodes.proofs.Saying.{went_says}
use Rattle.machine_standard_texts.proofs.Adding.{codes_two, codes_first}
use Rattle.machine_standard_tables.proofs.Tests.{readable_each}

-- The codes of a row

pub row_more : {r s t : Recording Contents} {x y z : List ℕ} (characters l : List ℕ) (i c : ℕ) → i < length l
    → c ≡ slice_index l i → Told (Ok tt) r x s y (print_codes characters (take i l))
    → Told (Ok tt) s y t z (print_codes characters (c ∷ []))
    → Told (Ok tt) r x t z (print_codes characters (take (i + 1) l))
row_more {r} {s} {t} {x} {y} {z} characters l i c lt e v w =
    subst (λ k. Told (Ok tt) r x t z (print_codes characters k))
    (sym (take_more l i 0 lt ∙ ap (λ b. take i l ++ b ∷ []) (sym e))) (codes_two characters (take i l) (c ∷ []) v w)

pub row_stop : {e : End} {r s t : Recording Contents} {x y z : List ℕ} (characters l : List ℕ) (width i c : ℕ)
    → i < width → i < length l → c ≡ slice_index l i → Told (Ok tt) r x s y (print_codes characters (take i l))
    → Told {A = Unit {0}} (Err e) s y t z (print_codes characters (c ∷ []))
    → Told {A = Unit {0}} (Err e) r x t z (print_codes characters (take width l))
row_stop {e} {r} {s} {t} {x} {y} {z} characters l width i c within lt q v w =
    let row = take width l in
    let front : take (i + 1) row ≡ take i l ++ c ∷ [] = take-take (i + 1) width l (omega arith)
    ∙ take_more l i 0 lt ∙ ap (λ b. take i l ++ b ∷ []) (sym q) in
    let all : row ≡ (take i l ++ c ∷ []) ++ drop (i + 1) row = sym (take-append-drop (i + 1) row)
    ∙ ap (λ k. k ++ drop (i + 1) row) front in
    subst (λ k. Told {A = Unit {0}} (Err e) r x t z (print_codes characters k)) (sym all)
    (codes_first characters (take i l ++ c ∷ []) (drop (i + 1) row)
    (codes_two characters (take i l) (c ∷ []) v w))

-- Rows

pub division_is : (indent row : ℕ) → (row ≡ 0 → ⊥) → row_division indent row ≡ 13 ∷ replicate indent 32
division_is indent zero p = absurd (p refl)
division_is indent (suc others) p = refl

-- what divides it from those before it: the new line, and the spaces, or some of them
pub division_told : {o : Result (Unit {0}) End} {r s t : Recording Contents} {x y z : List ℕ} (characters : List ℕ)
    (indent row : ℕ) → (row ≡ 0 → ⊥) → Told (Ok tt) r x s y (print_codes characters (13 ∷ []))
    → Told o s y t z (print_codes characters (replicate indent 32))
    → Told o r x t z (print_codes characters (row_division indent row))
division_told {o} {r} {s} {t} {x} {y} {z} characters indent row some line spaces =
    subst (λ k. Told o r x t z (print_codes characters k)) (sym (division_is indent row some))
    (codes_two characters (13 ∷ []) (replicate indent 32) line spaces)

pub line_stops : {e : End} {r s : Recording Contents} {x y : List ℕ} (characters : List ℕ) (indent row : ℕ)
    → (row ≡ 0 → ⊥) → Told {A = Unit {0}} (Err e) r x s y (print_codes characters (13 ∷ []))
    → Told {A = Unit {0}} (Err e) r x s y (print_codes characters (row_division indent row))
line_stops {e} {r} {s} {x} {y} characters indent row some h =
    subst (λ k. Told {A = Unit {0}} (Err e) r x s y (print_codes characters k)) (sym (division_is indent row some))
    (codes_first characters (13 ∷ []) (replicate indent 32) h)

-- a space more
pub spaces_more : {o : Result (Unit {0}) End} {r s t : Recording Contents} {x y z : List ℕ} (characters : List ℕ) (n : ℕ)
    → Told (Ok tt) r x s y (print_codes characters (replicate n 32))
    → Told o s y t z (print_codes characters (32 ∷ []))
    → Told o r x t z (print_codes characters (replicate (n + 1) 32))
spaces_more {o} {r} {s} {t} {x} {y} {z} characters n before space =
    subst (λ k. Told o r x t z (print_codes characters k)) (replicate-append-replicate n 1 32)
    (codes_two characters (replicate n 32) (32 ∷ []) before space)

-- some of them, and the others
spaces_split : (n count : ℕ) → n < count
    → ◌++◌ {A = ℕ} (replicate (n + 1) 32) (replicate (count - n - 1) 32) ≡ replicate count 32
spaces_split n count lt =
    let size : n + 1 + (count - n - 1) ≡ count = omega (arith, lt) in
    replicate-append-replicate (n + 1) (count - n - 1) 32 ∙ ap (λ k. replicate k 32) size

pub spaces_stop : {e : End} {r s : Recording Contents} {x y : List ℕ} (characters : List ℕ) (n count : ℕ) → n < count
    → Told {A = Unit {0}} (Err e) r x s y (print_codes characters (replicate (n + 1) 32))
    → Told {A = Unit {0}} (Err e) r x s y (print_codes characters (replicate count 32))
spaces_stop {e} {r} {s} {x} {y} characters n count lt h =
    subst (λ k. Told {A = Unit {0}} (Err e) r x s y (print_codes characters k)) (spaces_split n count lt)
    (codes_first characters (replicate (n + 1) 32) (replicate (count - n - 1) 32) h)

-- the codes of a row
abbrev pub row_of : List ℕ → ℕ → ℕ → ℕ → ℕ → List ℕ
row_of m text width skip n = take width (drop (text + n * (width + skip)) m)

rows_next : (m : List ℕ) (text width skip indent n : ℕ)
    → rows m text width skip indent (n + 1) ≡ rows m text width skip indent n ++ (row_division indent n ++ row_of m text width skip n)
unfolding rows
rows_next m text width skip indent n = ap (rows m text width skip indent) (add-one n)

-- some rows, and those after them
rows_split : (m : List ℕ) (text width skip indent k h : ℕ) → k ≤ h
    → (rest : List ℕ) × (rows m text width skip indent h ≡ rows m text width skip indent k ++ rest)
unfolding rows
rows_split m text width skip indent k zero le =
    let none : k ≡ 0 = omega arith in
    ([], ap (rows m text width skip indent) (sym none) ∙ sym (append-nil (rows m text width skip indent k)))
rows_split m text width skip indent k (suc h) le = elim (cases_lt k (suc h)) [
  | inl lt ↦
      let p = rows_split m text width skip indent k h (omega arith) in
      let more = row_division indent h ++ row_of m text width skip h in
      (p.0 ++ more, ap (λ l. l ++ more) p.1 ∙ append_assoc (rows m text width skip indent k) p.0 more)
  | inr past ↦
      let e : suc h ≡ k = omega arith in
      ([], ap (rows m text width skip indent) e ∙ sym (append-nil (rows m text width skip indent k)))
]

-- where the first rows are not printed to their end, neither is the table
rows_cut : {e : End} {r s : Recording Contents} {x y : List ℕ} (characters m : List ℕ) (text width skip indent n height : ℕ)
    → n < height → Told (Err e) r x s y (print_codes characters (rows m text width skip indent (n + 1)))
    → Told (Err e) r x s y (print_codes characters (rows m text width skip indent height))
rows_cut {e} {r} {s} {x} {y} characters m text width skip indent n height lt h =
    let p = rows_split m text width skip indent (n + 1) height (omega arith) in
    subst (λ k. Told (Err e) r x s y (print_codes characters k)) (sym p.1)
    (codes_first characters (rows m text width skip indent (n + 1)) p.0 h)

-- one more row
pub rows_more : {o : Result (Unit {0}) End} {r s t u : Recording Contents} {x y z w : List ℕ} (characters m : List ℕ)
    (text width skip indent n : ℕ)
    → Told (Ok tt) r x s y (print_codes characters (rows m text width skip indent n))
    → Told (Ok tt) s y t z (print_codes characters (row_division indent n))
    → Told o t z u w (print_codes characters (row_of m text width skip n))
    → Told o r x u w (print_codes characters (rows m text width skip indent (n + 1)))
rows_more {o} {r} {s} {t} {u} {x} {y} {z} {w} characters m text width skip indent n before division row =
    subst (λ k. Told o r x u w (print_codes characters k)) (sym (rows_next m text width skip indent n))
    (codes_two characters (rows m text width skip indent n) (row_division indent n ++ row_of m text width skip n) before
    (codes_two characters (row_division indent n) (row_of m text width skip n) division row))

-- so where a row is not printed to its end
pub row_cut : {e : End} {r s t u : Recording Contents} {x y z w : List ℕ} (characters m : List ℕ)
    (text width skip indent n height : ℕ) → n < height
    → Told (Ok tt) r x s y (print_codes characters (rows m text width skip indent n))
    → Told (Ok tt) s y t z (print_codes characters (row_division indent n))
    → Told (Err e) t z u w (print_codes characters (row_of m text width skip n))
    → Told (Err e) r x u w (print_codes characters (rows m text width skip indent height))
row_cut characters m text width skip indent n height lt before division row =
    rows_cut characters m text width skip indent n height lt (rows_more characters m text width skip indent n before division row)

-- or the new line before it
pub division_cut : {e : End} {r s t : Recording Contents} {x y z : List ℕ} (characters m : List ℕ)
    (text width skip indent n height : ℕ) → n < height
    → Told (Ok tt) r x s y (print_codes characters (rows m text width skip indent n))
    → Told (Err e) s y t z (print_codes characters (row_division indent n))
    → Told (Err e) r x t z (print_codes characters (rows m text width skip indent height))
division_cut {e} {r} {s} {t} {x} {y} {z} characters m text width skip indent n height lt before division =
    rows_cut characters m text width skip indent n height lt
    (subst (λ k. Told (Err e) r x t z (print_codes characters k)) (sym (rows_next m text width skip indent n))
    (codes_two characters (rows m text width skip indent n) (row_division indent n ++ row_of m text width skip n) before
    (codes_first characters (row_division indent n) (row_of m text width skip n) division)))

-- Each character of a row is in readable memory

-- the size of a table whose rows have characters
size_is : (width height skip : ℕ) → 0 < width → 0 < height
    → rows_size width height skip ≡ (height - 1) * (width + skip) + width
size_is width height skip w h =
    let one : (width == 0) ≡ false = ne_eqb width 0 (λ e. let no : ⊥ = omega arith in no) in
    let two : (height == 0) ≡ false = ne_eqb height 0 (λ e. let no : ⊥ = omega arith in no) in
    rw (one, two) refl

pub row_inside : (m : List ℕ) (text width height skip row i : ℕ)
    → are_readable m text (rows_size width height skip) ≡ true → row < height → i < width
    → text + row * (width + skip) + i < length m
row_inside m text width height skip row i readable r lt =
    let size = size_is width height skip (omega arith) (omega arith) in
    let le : row * (width + skip) ≤ (height - 1) * (width + skip) = mul-le-mul_right (width + skip) (omega arith) in
    let inside = readable_each m text (rows_size width height skip) (row * (width + skip) + i) readable
    (omega (arith, size, le)) in
    omega (arith, inside)

-- The operation, from its parts

module _ {e : End} (s : Recording Contents) where
  pub table_unread : (characters x : List ℕ) (here : Next) (after text width height skip indent size : ℕ)
      → size ≡ rows_size width height skip → Went {A = Unit {0}} (Err e) s s (test_readable text size)
      → Told {A = Next} (Err e) s x s x (print_table characters here after text width height skip indent)
  unfolding print_table
  table_unread characters x here after text width height skip indent size is w = told_went _ x
      (went_no_further _ (subst (λ n. Went {A = Unit {0}} (Err e) s s (test_readable text n)) is w))

  pub table_unpaid : (characters x : List ℕ) (here : Next) (after text width height skip indent size count : ℕ)
      → size ≡ rows_size width height skip → count ≡ rows_length width height indent
      → Went (Ok tt) s s (test_readable text size) → Says {A = ℕ} (Err e) (spend_for count here.fuel)
      → Told {A = Next} (Err e) s x s x (print_table characters here after text width height skip indent)
  unfolding print_table
  table_unpaid characters x here after text width height skip indent size count is long w unpaid = told_went _ x
      (went_then _ (subst (λ n. Went (Ok tt) s s (test_readable text n)) is w)
      (went_no_further _ (went_says (Err _) s (went_sound w)
      (subst (λ n. Says {A = ℕ} (Err e) (spend_for n here.fuel)) long unpaid))))

module _ (s : Recording Contents) (x : List ℕ) (here : Next) where
  readable : (text size whole : ℕ) → size ≡ whole → Went (Ok tt) s s (test_readable text size)
      → Told (Ok tt) s x s x (test_readable text whole)
  readable text size whole is w = told_went _ x (subst (λ n. Went (Ok tt) s s (test_readable text n)) is w)

  spent : (count all fuel : ℕ) → count ≡ all → IsSound s.store → Says (Ok fuel) (spend_for count here.fuel)
      → Told (Ok fuel) s x s x (spend_for all here.fuel)
  spent count all fuel is sound paid =
      told_went _ x (went_says (Ok fuel) s sound (subst (λ n. Says (Ok fuel) (spend_for n here.fuel)) is paid))

module _ {t : Recording Contents} {x y : List ℕ} (s : Recording Contents) (characters : List ℕ) (here : Next)
    (after text width height skip indent size count fuel : ℕ) (is : size ≡ rows_size width height skip)
    (long : count ≡ rows_length width height indent) (w : Went (Ok tt) s s (test_readable text size))
    (paid : Says (Ok fuel) (spend_for count here.fuel)) where
  pub table_stops : {e : End}
      → Told {A = Unit {0}} (Err e) s x t y (print_codes characters (rows (memory_of s.store) text width skip indent height))
      → Told {A = Next} (Err e) s x t y (print_table characters here after text width height skip indent)
  unfolding print_table
  table_stops h = told_then _ (readable s x here text size (rows_size width height skip) is w)
      (told_then _ (spent s x here count (rows_length width height indent) fuel long (went_sound w) paid)
      (told_no_further (λ _. goes_on after fuel) (told_as _ _ refl h)))

  pub table_told : Told (Ok tt) s x t y (print_codes characters (rows (memory_of s.store) text width skip indent height))
      → Told (Ok (record { program_counter = after; fuel = fuel })) s x t y
      (print_table characters here after text width height skip indent)
  unfolding print_table
  table_told h = told_then _ (readable s x here text size (rows_size width height skip) is w)
      (told_then _ (spent s x here count (rows_length width height indent) fuel long (went_sound w) paid)
      (told_then (λ _. goes_on after fuel) (told_as _ _ refl h) (told_still t (goes_on after fuel) y (told_sound h) refl)))
