-- Spans within a line.
use Rattle.std.proofs.Common.{ℕ, ◌≡◌, ◌≤◌, ◌<◌, ◌≢◌, List, All, length, take, drop, sym, ap, subst}
use Rattle.std.proofs.Common.{◌∙◌, arith, take-take}
use Rattle.std.proofs.Common.{length-drop, length-take-le}
use Rattle.std.proofs.lemmas.List.Elements.{All-take}
use Rattle.syntax_lexer.specs.Placed.{line_behind}
use Rattle.messages_parts.specs.Lines.{IsPlaceIn, column_behind}

-- what holds of the elements of a span holds of those of a shorter one
shorter : {X : Type 0} (P : X → Type 0) (m n : ℕ) (xs : List X) → m ≤ n → All P (take n xs) → All P (take m xs)
shorter P m n xs le h = subst (All P) (take-take m n xs le) (All-take P m (take n xs) h)

-- a span of the first n bytes behind an offset, none of which ends a line
pub place_in : (source before rest line : List ℕ) (offset n m number column : ℕ) → before ≡ take offset source
    → rest ≡ drop offset source → line ≡ take n rest → offset ≤ length source → n ≤ length rest
    → All (λ b. b ≢ 10) (take n rest) → m ≤ length line
    → line_behind 1 before ≡ number → column_behind 1 before ≡ column → (0 < length rest → 0 < m)
    → IsPlaceIn source number (record { offset = offset; column = column; length = m })
place_in source before rest line offset n m number column eb er el within fits all small in_line at_column some =
    let size : length rest ≡ length (drop offset source) = ap length er in
    let short : length line ≡ n = ap length el ∙ length-take-le n rest fits in
    record {
      within = omega (arith, size, short, length-drop offset source);
      in_line = ap (line_behind 1) (sym eb) ∙ in_line;
      at_column = ap (column_behind 1) (sym eb) ∙ at_column;
      in_one_line = subst (λ bs. All (λ b. b ≢ 10) (take m bs)) er
          (shorter (λ b. b ≢ 10) m n rest (omega (arith, short)) all);
      has_bytes = λ before_end. some (omega (arith, size, length-drop offset source));
    }
