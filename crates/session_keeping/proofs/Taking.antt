-- Lines that were taken, as they are gathered.
use Rattle.std.proofs.Common.{◌≡◌, ◌≤◌, ◌++◌, ◌∙◌, ℕ, Bool, true, false, if◌then◌else◌, List, [], ◌∷◌, length, take, drop}
use Rattle.std.proofs.Common.{ap, sym, refl, arith, append_assoc, append-nil}
use Rattle.std.proofs.lemmas.List.{drop_all, drop_at, drop-append-le, length-append, length-take-le, take_at, take-append-drop, take-append-le, take-take}
use Rattle.session_keeping.specs.Heading.{ended}
use Rattle.session_keeping.specs.Kept.{IsAside, aside_text, has_mark, is_passed, passed_mark, taken_lines, text_of}
use Rattle.session_keeping.specs.Lines.{typed_mark}

-- what is taken of a line and those after it, by the marks
abbrev view : Bool → Bool → List ℕ → List (List ℕ) → List ℕ → List ℕ → List ℕ
view has_passed has_typed line lines done last =
    done ++ ((if (if has_passed then true else (if has_typed then false else is_passed lines)) then [] else last)
    ++ text_of (if has_passed then taken_lines lines
    else (if is_passed lines then taken_lines lines else line ∷ taken_lines lines)))

either : (p : Bool) (l : List ℕ) → (if p then l else l) ≡ l
either true l = refl
either false l = refl

pub aside_none : (lines : List (List ℕ)) → text_of (taken_lines lines) ≡ aside_text 0 [] lines
aside_none lines = sym (ap (λ l. l ++ text_of (taken_lines lines)) (either (is_passed lines) []))

pub aside_all : (aside : ℕ) (text : List ℕ) → aside_text aside text [] ≡ text
aside_all aside text = ap (λ l. take aside text ++ l) (append-nil (drop aside text)) ∙ take-append-drop aside text

pub passed_aside : (line : List ℕ) (aside : ℕ) (text : List ℕ) → aside ≤ length text
    → has_mark passed_mark line ≡ true → IsAside line aside text (take aside text) aside
passed_aside line aside text h e = record {
  within = omega (arith, length-take-le aside text h);
  same = λ lines.
      ap (λ b. view b (has_mark typed_mark line) line lines (take aside text) (drop aside text)) e
      ∙ ap (λ l. take aside text ++ (l ++ text_of (taken_lines lines))) (sym (either (is_passed lines) []))
      ∙ ap (λ l. take aside text ++ ((if is_passed lines then [] else l) ++ text_of (taken_lines lines)))
      (sym (drop_all aside (take aside text) (omega (arith, length-take-le aside text h))))
      ∙ ap (λ l. l ++ ((if is_passed lines then [] else drop aside (take aside text)) ++ text_of (taken_lines lines)))
      (sym (take-take aside aside text (omega arith)));
}

-- a line that is no mark is left out or stands
left_or_not : (p : Bool) (line : List ℕ) (lines : List (List ℕ)) → text_of (if p then lines else line ∷ lines)
    ≡ (if p then [] else ended line) ++ text_of lines
left_or_not true line lines = refl
left_or_not false line lines = refl

pub typed_aside : (line : List ℕ) (aside : ℕ) (text : List ℕ) → has_mark passed_mark line ≡ false
    → has_mark typed_mark line ≡ true → IsAside line aside text (text ++ ended line) (length text)
typed_aside line aside text e d = record {
  within = omega (arith, length-append text (ended line));
  same = λ lines.
      let p = is_passed lines in
      let rest = text_of (taken_lines lines) in
      ap (λ b. view b (has_mark typed_mark line) line lines (take aside text) (drop aside text)) e
      ∙ ap (λ b. view false b line lines (take aside text) (drop aside text)) d
      ∙ ap (λ l. take aside text ++ (drop aside text ++ l)) (left_or_not p line (taken_lines lines))
      ∙ sym (append_assoc (take aside text) (drop aside text) ((if p then [] else ended line) ++ rest))
      ∙ ap (λ l. l ++ ((if p then [] else ended line) ++ rest)) (take-append-drop aside text)
      ∙ ap (λ l. l ++ ((if p then [] else ended line) ++ rest)) (sym (take_at text (ended line) (length text) refl))
      ∙ ap (λ l. take (length text) (text ++ ended line) ++ ((if p then [] else l) ++ rest))
      (sym (drop_at text (ended line) (length text) refl));
}

more_last : (p : Bool) (last line : List ℕ) (lines : List (List ℕ))
    → (if p then [] else last) ++ text_of (if p then lines else line ∷ lines)
    ≡ (if p then [] else last ++ ended line) ++ text_of lines
more_last true last line lines = refl
more_last false last line lines = sym (append_assoc last (ended line) (text_of lines))

pub other_aside : (line : List ℕ) (aside : ℕ) (text : List ℕ) → aside ≤ length text
    → has_mark passed_mark line ≡ false → has_mark typed_mark line ≡ false
    → IsAside line aside text (text ++ ended line) aside
other_aside line aside text h e d = record {
  within = omega (arith, length-append text (ended line));
  same = λ lines.
      let p = is_passed lines in
      let rest = text_of (taken_lines lines) in
      ap (λ b. view b (has_mark typed_mark line) line lines (take aside text) (drop aside text)) e
      ∙ ap (λ b. view false b line lines (take aside text) (drop aside text)) d
      ∙ ap (λ l. take aside text ++ l) (more_last p (drop aside text) line (taken_lines lines))
      ∙ ap (λ l. l ++ ((if p then [] else drop aside text ++ ended line) ++ rest))
      (sym (take-append-le aside text (ended line) h))
      ∙ ap (λ l. take aside (text ++ ended line) ++ ((if p then [] else l) ++ rest))
      (sym (drop-append-le aside text (ended line) h));
}
