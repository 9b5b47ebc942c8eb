-- Reserved words, found among the words that begin with a letter.
use Rattle.std.proofs.Common.{◌≡◌, ℕ, zero, suc, ◌<◌, Bool, false, List, [], ◌∷◌, length, get_or, sym, refl, ◌∙◌, ap}
use Rattle.std.proofs.Common.{arith}
use Rattle.std.specs.Char.{to_ascii_lowercase}
use Rattle.std.specs.List.{Contains}
use Rattle.std.specs.Str.{str_eq_ignore_ascii_case}
use Rattle.std.proofs.lemmas.List.{length-map}
use Rattle.syntax_lexer.specs.declared.token.Word.{Word}
use Rattle.syntax_lexer.specs.Spelling.{IsReserved, word_spelling}
use Rattle.syntax_lexer.proofs.WordTables.{spelled_false}

reserved_begins : (w : Word) (bs : List ℕ) → IsReserved w bs
    → get_or (word_spelling w) 0 0 ≡ to_ascii_lowercase (get_or bs 0 0)
reserved_begins w [] r = ap (λ xs. get_or xs 0 0) (sym r)
reserved_begins w (b ∷ bs) r = ap (λ xs. get_or xs 0 0) (sym r)

pub reserved_length : (w : Word) (bs : List ℕ) → IsReserved w bs → length (word_spelling w) ≡ length bs
reserved_length w bs r = ap length (sym r) ∙ length-map bs to_ascii_lowercase

any_default : (ws : List Word) (k : ℕ) (d e : Word) → k < length ws → get_or ws k d ≡ get_or ws k e
any_default [] k d e lt = absurd (omega arith)
any_default (w ∷ ws) zero d e lt = refl
any_default (w ∷ ws) (suc k) d e lt = any_default ws k d e (omega arith)

-- the word at a place is not spelled
pub tested : (text : List ℕ) (ws : List Word) (i k : ℕ) (d e : Word) (r : Bool) → i < length ws
    → r ≡ str_eq_ignore_ascii_case text (word_spelling (get_or ws i e)) → r ≡ false → k ≡ i
    → str_eq_ignore_ascii_case text (word_spelling (get_or ws k d)) ≡ false
tested text ws i k d e r lt h f q = ap (λ j. str_eq_ignore_ascii_case text (word_spelling (get_or ws j d))) q
    ∙ ap (λ w. str_eq_ignore_ascii_case text (word_spelling w)) (any_default ws i d e lt) ∙ sym h ∙ f

-- none of the words that begin as the text does is spelled
pub none_spelled : (text : List ℕ) (first : ℕ) (ws : List Word) → first ≡ to_ascii_lowercase (get_or text 0 0)
    → ((w : Word) → get_or (word_spelling w) 0 0 ≡ first → Contains ws w)
    → ((k : ℕ) (d : Word) → k < length ws → str_eq_ignore_ascii_case text (word_spelling (get_or ws k d)) ≡ false)
    → (w : Word) → IsReserved w text → ⊥
none_spelled text first ws is all none w r =
    let at = all w (reserved_begins w text r ∙ sym is) in
    spelled_false text w (ap (λ x. str_eq_ignore_ascii_case text (word_spelling x)) (sym at.2) ∙ none at.0 w at.1) r
