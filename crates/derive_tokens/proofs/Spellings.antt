-- One spelling is of one sign, and of one reserved word.
use Rattle.std.proofs.Common.{rules, ◌≡◌, refl, sym, ap, subst}
use denote.Enum.Bare.{sameb, same_true, true_same}
use Rattle.std.specs.Bool.{Decides, one_answer}
use Rattle.std.specs.Str.{bytes_eq, str_to_ascii_lowercase}
use Rattle.std.proofs.lemmas.Slice.Eq.{bytes_eq-Decides}
use Rattle.syntax_lexer.specs.contracts.token.Sign.{the_type as sign_type}
use Rattle.syntax_lexer.specs.contracts.token.Word.{the_type as word_type}
use Rattle.syntax_lexer.specs.declared.token.Sign.{Sign}
use Rattle.syntax_lexer.specs.declared.token.Word.{Word}
use Rattle.syntax_lexer.specs.Spelling.{sign_spelling, word_spelling, IsReserved}
use Rattle.syntax_lexer.proofs.SignTables.{same_sign}
use Rattle.syntax_lexer.proofs.WordTables.{same_word, spelled_true}

signs_spelled : (r s : Sign) → Decides (bytes_eq (sign_spelling r) (sign_spelling s)) (r ≡ s)
signs_spelled r s =
    let same = bytes_eq-Decides (sign_spelling r) (sign_spelling s) in
    (λ e. same_sign r s (same.0 e), λ e. same.1 (ap sign_spelling e))

pub one_sign : (r s : Sign) → sameb sign_type r s ≡ bytes_eq (sign_spelling r) (sign_spelling s)
one_sign r s = one_answer (sameb sign_type r s) (bytes_eq (sign_spelling r) (sign_spelling s))
    (same_true sign_type (search rules) r s, true_same sign_type r s) (signs_spelled r s)

spelled : (w : Word) → IsReserved w (word_spelling w)
spelled w = spelled_true (word_spelling w) w (
    (bytes_eq-Decides (str_to_ascii_lowercase (word_spelling w)) (str_to_ascii_lowercase (word_spelling w))).1 refl)

words_spelled : (v w : Word) → Decides (bytes_eq (word_spelling v) (word_spelling w)) (v ≡ w)
words_spelled v w =
    let same = bytes_eq-Decides (word_spelling v) (word_spelling w) in (
      λ e. same_word v w (word_spelling v) (spelled v) (subst (IsReserved w) (sym (same.0 e)) (spelled w)),
      λ e. same.1 (ap word_spelling e),
    )

pub one_word : (v w : Word) → sameb word_type v w ≡ bytes_eq (word_spelling v) (word_spelling w)
one_word v w = one_answer (sameb word_type v w) (bytes_eq (word_spelling v) (word_spelling w))
    (same_true word_type (search rules) v w, true_same word_type v w) (words_spelled v w)
