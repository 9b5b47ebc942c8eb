-- A line is cut into words in one way.
use Rattle.std.proofs.Common.{◌≡◌, ◌==◌, ℕ, ◌+◌, ◌⊎◌, inl, inr, true, false, List, [], ◌∷◌, ◌++◌, length, refl, ap}
use Rattle.std.proofs.Common.{sym, ◌∙◌, subst, append_assoc, arith}
use Rattle.std.specs.List.{AllByRecursion}
use Rattle.std.proofs.lemmas.Bool.{cases_Bool, eqb-true, or_left, or_right, or_from}
use Rattle.std.proofs.lemmas.List.{append-nil}
use Rattle.zcore.specs.Cutting.{Word, is_among, divides, IsBlank, IsSeparator, EndsRun, IsRun, BeginsWith, IsCut}
use Rattle.zcore.specs.Cutting.{with_run, words_from, words_of}
use Rattle.tables.specs.Laws.{LinesAreCutOneWay}
use Rattle.tables.proofs.Runs.{letter}

-- The function gives what the relation says

space_step : (separators rest : List ℕ) (place c : ℕ) → c ≡ 32
    → words_from separators place [] (c ∷ rest) ≡ words_from separators (place + 1) [] rest
space_step separators rest place c e =
    let z : place + 0 + 1 ≡ place + 1 = omega arith in
    ap (λ x. words_from separators place [] (x ∷ rest)) e ∙ ap (λ p. words_from separators p [] rest) z

blank_step : (separators spaces rest : List ℕ) (place : ℕ) → IsBlank spaces
    → words_from separators place [] (spaces ++ rest) ≡ words_from separators (place + length spaces) [] rest
blank_step separators [] rest place h =
    let z : place ≡ place + 0 = omega arith in
    ap (λ p. words_from separators p [] rest) z
blank_step separators (c ∷ cs) rest place h =
    let z : place + 1 + length cs ≡ place + length (c ∷ cs) = omega arith in
    space_step separators (cs ++ rest) place c h.0 ∙ blank_step separators cs rest (place + 1) h.1
    ∙ ap (λ p. words_from separators p [] rest) z

run_step : (separators run bytes rest : List ℕ) (place : ℕ)
    → AllByRecursion (λ c. divides separators c ≡ false) bytes
    → words_from separators place run (bytes ++ rest) ≡ words_from separators place (run ++ bytes) rest
run_step separators run [] rest place h = ap (λ r. words_from separators place r rest) (sym (append-nil run))
run_step separators run (c ∷ cs) rest place h =
    letter separators run (cs ++ rest) place c h.0 ∙ run_step separators (run ++ c ∷ []) cs rest place h.1
    ∙ ap (λ r. words_from separators place r rest) (append_assoc run (c ∷ []) cs)

separator_step : (separators rest : List ℕ) (place c : ℕ) → (c == 32) ≡ false → is_among separators c ≡ true
    → words_from separators place [] (c ∷ rest) ≡ record { place = place; bytes = c ∷ [] }
    ∷ words_from separators (place + 1) [] rest
separator_step separators rest place c a b =
    let z : place + 0 ≡ place = omega arith in
    rw (a, b, z) refl

-- a run ends at a byte that divides
run_ends : (separators run rest : List ℕ) (place : ℕ) → EndsRun separators rest
    → words_from separators place run rest ≡ with_run place run (words_from separators (place + length run) [] rest)
run_ends separators run [] place h = refl
run_ends separators run (c ∷ cs) place h = by_kind (cases_Bool (c == 32)) (cases_Bool (is_among separators c))
  where
    z : place + length run + 0 ≡ place + length run
    z = omega arith

    by_kind : ((c == 32) ≡ true) ⊎ ((c == 32) ≡ false)
        → (is_among separators c ≡ true) ⊎ (is_among separators c ≡ false)
        → words_from separators place run (c ∷ cs)
        ≡ with_run place run (words_from separators (place + length run) [] (c ∷ cs))
    by_kind (inl a) b = rw (a, z) refl
    by_kind (inr a) (inl b) = rw (a, b, z) refl
    by_kind (inr a) (inr b) = absurd (cc (or_from (c == 32) (is_among separators c) a b))

word_after : (separators bytes rest : List ℕ) (place : ℕ) → IsSeparator separators bytes ⊎ IsRun separators bytes rest
    → words_from separators place [] (bytes ++ rest) ≡ record { place = place; bytes = bytes }
    ∷ words_from separators (place + length bytes) [] rest
word_after separators bytes rest place (inl s) =
    subst (λ bs. words_from separators place [] (bs ++ rest) ≡ record { place = place; bytes = bs }
    ∷ words_from separators (place + length bs) [] rest) (sym s.1)
    (separator_step separators rest place s.0 s.2 s.3)
word_after separators [] rest place (inr r) = absurd (omega (arith, r.some))
word_after separators (c ∷ cs) rest place (inr r) = run_step separators [] (c ∷ cs) rest place r.run
    ∙ run_ends separators (c ∷ cs) rest place r.longest

first_word : (separators line rest : List ℕ) (from : ℕ) (w : Word) → BeginsWith separators from line w rest
    → words_from separators from [] line ≡ w ∷ words_from separators (w.place + length w.bytes) [] rest
first_word separators line rest from w b =
    ap (words_from separators from []) b.parts ∙ blank_step separators b.spaces (w.bytes ++ rest) from b.blank
    ∙ ap (λ p. words_from separators p [] (w.bytes ++ rest)) (sym b.place)
    ∙ word_after separators w.bytes rest w.place b.word

cut_is : (separators line : List ℕ) (from : ℕ) (words : List Word) → IsCut separators from line words
    → words ≡ words_from separators from [] line
cut_is separators line from [] h = sym
    (ap (words_from separators from []) (sym (append-nil line)) ∙ blank_step separators line [] from h)
cut_is separators line from (w ∷ ws) h =
    ap (λ ys. w ∷ ys) (cut_is separators h.0 (w.place + length w.bytes) ws h.2)
    ∙ sym (first_word separators line h.0 from w h.1)

-- What the function gives is as the relation says

cut_space : (separators line : List ℕ) (from c : ℕ) (words : List Word) → c ≡ 32
    → IsCut separators (from + 1) line words → IsCut separators from (c ∷ line) words
cut_space separators line from c [] e h = (e, h)
cut_space separators line from c (w ∷ ws) e h = (
  h.0,
  record {
    spaces = c ∷ h.1.spaces;
    blank = (e, h.1.blank);
    parts = ap (λ l. c ∷ l) h.1.parts;
    place = omega (arith, h.1.place);
    word = h.1.word;
  },
  h.2,
)

cut_run : (separators run rest : List ℕ) (from : ℕ) (words : List Word)
    → AllByRecursion (λ c. divides separators c ≡ false) run → EndsRun separators rest
    → IsCut separators (from + length run) rest words
    → IsCut separators from (run ++ rest) (with_run from run words)
cut_run separators [] rest from words letters ends h =
    let z : from + 0 ≡ from = omega arith in
    subst (λ p. IsCut separators p rest words) z h
cut_run separators (c ∷ cs) rest from words letters ends h = (
  rest,
  record {
    spaces = [];
    blank = tt;
    parts = refl;
    place = omega arith;
    word = inr (record { some = omega arith; run = letters; longest = ends });
  },
  h,
)

letters_push : (separators run : List ℕ) (c : ℕ) → AllByRecursion (λ x. divides separators x ≡ false) run
    → divides separators c ≡ false → AllByRecursion (λ x. divides separators x ≡ false) (run ++ c ∷ [])
letters_push separators [] c h one = (one, tt)
letters_push separators (x ∷ xs) c h one = (h.0, letters_push separators xs c h.1 one)

pub words_cut : (separators run line : List ℕ) (from : ℕ) → AllByRecursion (λ c. divides separators c ≡ false) run
    → IsCut separators from (run ++ line) (words_from separators from run line)
words_cut separators run [] from letters = cut_run separators run [] from [] letters tt tt
words_cut separators run (c ∷ cs) from letters =
    by_kind (words_cut separators [] cs (from + length run + 1) tt)
    (λ one. words_cut separators (run ++ c ∷ []) cs from (letters_push separators run c letters one))
    (cases_Bool (c == 32)) (cases_Bool (is_among separators c))
  where
    by_kind : IsCut separators (from + length run + 1) cs (words_from separators (from + length run + 1) [] cs)
        → (divides separators c ≡ false → IsCut separators from ((run ++ c ∷ []) ++ cs)
        (words_from separators from (run ++ c ∷ []) cs))
        → ((c == 32) ≡ true) ⊎ ((c == 32) ≡ false) → (is_among separators c ≡ true) ⊎ (is_among separators c ≡ false)
        → IsCut separators from (run ++ c ∷ cs) (words_from separators from run (c ∷ cs))
    by_kind after on (inl a) b =
        let e : words_from separators from run (c ∷ cs)
        ≡ with_run from run (words_from separators (from + length run + 1) [] cs) = rw a refl in
        subst (IsCut separators from (run ++ c ∷ cs)) (sym e)
        (cut_run separators run (c ∷ cs) from _ letters (or_left (c == 32) (is_among separators c) a)
        (cut_space separators cs (from + length run) c _ (eqb-true c 32 a) after))
    by_kind after on (inr a) (inl b) =
        let w : Word = record { place = from + length run; bytes = c ∷ [] } in
        let e : words_from separators from run (c ∷ cs)
        ≡ with_run from run (w ∷ words_from separators (from + length run + 1) [] cs) = rw (a, b) refl in
        let cut : IsCut separators (from + length run) (c ∷ cs)
        (w ∷ words_from separators (from + length run + 1) [] cs) = (
          cs,
          record { spaces = []; blank = tt; parts = refl; place = omega arith; word = inl (c, refl, a, b) },
          after,
        ) in
        subst (IsCut separators from (run ++ c ∷ cs)) (sym e)
        (cut_run separators run (c ∷ cs) from _ letters (or_right (c == 32) (is_among separators c) b) cut)
    by_kind after on (inr a) (inr b) =
        let one : divides separators c ≡ false = or_from (c == 32) (is_among separators c) a b in
        subst (IsCut separators from (run ++ c ∷ cs)) (sym (letter separators run cs from c one))
        (subst (λ l. IsCut separators from l (words_from separators from (run ++ c ∷ []) cs))
        (append_assoc run (c ∷ []) cs) (on one))

pub cut_one_way : LinesAreCutOneWay
unfolding words_of
cut_one_way separators line words =
    (cut_is separators line 0 words, λ e. subst (IsCut separators 0 line) (sym e) (words_cut separators [] line 0 tt))
