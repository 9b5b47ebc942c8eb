-- What is read derives in the grammar and is nested no deeper than was allowed; and where the fault is that a token
-- stands too deep, one does.
use Rattle.std.proofs.Common.{◌≡◌, ℕ, suc, ◌≤◌, List, [], ◌∷◌, length, refl, sym, subst, arith}
use Rattle.syntax_lexer.specs.declared.token.Position.{Position}
use Rattle.syntax_lexer.specs.declared.token.Sign.TheVariants as s
use Rattle.syntax_lexer.specs.declared.token.Word.TheVariants as w
use Rattle.syntax_lexer.specs.Token.{Lexeme, reserved, position_of}
use Rattle.syntax_trees.specs.Parse.{head, tail, is_word, expect}
use Rattle.syntax_expressions.proofs.Judged.{Judged, judged_read, judged_then, judged_after, judged_by}
use Rattle.syntax_expressions.proofs.Tokens.{at_word, expect_ok, expect_not_deep}
use Rattle.syntax_statements.proofs.SoundRows.{repeated_judged}
use Rattle.syntax_directives.specs.Grammar.{IsTexts}
use Rattle.syntax_directives.specs.Nesting.{DeepDirective}
use Rattle.syntax_directives.specs.Parse.{abbreviate_after}
use Rattle.syntax_directives.proofs.TextsRead.{texts_judged}
use Rattle.syntax_directives.proofs.Sound.{directive_judged}
use Rattle.syntax.specs.Tree.{EntryTree, entry, abbreviate, directives_of}
use Rattle.syntax.specs.Grammar.{e_abbreviate, IsEntry, e_directive, IsEntries, entries_stop, entries_next}
use Rattle.syntax.specs.Grammar.{directives_nesting}
use Rattle.syntax.specs.Nesting.{DeepEntries, deep_entries_first, deep_entries_next}
use Rattle.syntax.specs.Parse.{goes_on, Parts, parts_of, one_entry, all_entries, entries}

-- ---- abbreviations

abbreviate_judged : (p : Position) (ts : List Lexeme)
    → Judged (λ xs r. IsEntry (reserved w.Abbreviate p ∷ ts) (abbreviate xs) r) (λ i. ⊥) (abbreviate_after ts)
unfolding abbreviate_after
abbreviate_judged p ts = judged_then _ (texts_judged ts)
    (λ xs m l. judged_after (expect s.Semicolon m) _
    (λ r e. judged_read xs r
    (e_abbreviate (subst (λ v. IsTexts ts xs v) (expect_ok s.Semicolon m r e) l.0) l.1))
    (λ i e. absurd (expect_not_deep s.Semicolon m i e)))
    (λ i z. z)

-- ---- entries

nests_no_deeper : (d : ℕ) (e : EntryTree) (es : List EntryTree) → directives_nesting (directives_of (e ∷ [])) ≤ d
    → directives_nesting (directives_of es) ≤ d → directives_nesting (directives_of (e ∷ es)) ≤ d
nests_no_deeper d (entry x) es a b = omega (arith, a, b)
nests_no_deeper d (abbreviate xs) es a b = b

-- the parts of entries that derive, nested no deeper than d
pub record Entered (d : ℕ) (ts : List Lexeme) (x : Parts) (r : List Lexeme) : Type 0 where
  pub all : List EntryTree
  pub is : x ≡ parts_of all
  pub derives : IsEntries ts all r
  pub nests : directives_nesting (directives_of all) ≤ d

module _ (d : ℕ) where
  entry_judged : (ts : List Lexeme)
      → Judged (λ e r. IsEntry ts e r × (directives_nesting (directives_of (e ∷ [])) ≤ d)) (DeepDirective (suc d) ts)
      (one_entry d ts)
  unfolding one_entry
  entry_judged ts = judged_by (is_word w.Abbreviate (head ts)) _ _
      (λ is. judged_then _ (abbreviate_judged (position_of (head ts)) (tail ts))
      (λ xs r h. judged_read (abbreviate xs) r (
        subst (λ v. IsEntry v (abbreviate xs) r) (sym (at_word w.Abbreviate ts is)) h,
        omega arith,
      ))
      (λ i z. absurd z))
      (λ is. judged_then _ (directive_judged d ts)
      (λ x r h. judged_read (entry x) r (e_directive h.0, omega (arith, h.1))) (λ i z. z))

  all_entries_judged : (ts : List Lexeme)
      → Judged (λ es r. IsEntries ts es r × (directives_nesting (directives_of es) ≤ d)) (DeepEntries (suc d) ts)
      (all_entries d ts)
  unfolding all_entries
  all_entries_judged ts =
      repeated_judged goes_on (one_entry d)
      (λ us e r. IsEntry us e r × (directives_nesting (directives_of (e ∷ [])) ≤ d))
      (λ us es r. IsEntries us es r × (directives_nesting (directives_of es) ≤ d)) (DeepDirective (suc d))
      (DeepEntries (suc d))
      (λ r. (entries_stop, omega arith))
      (λ us e m es r q l. (entries_next q.0 l.0, nests_no_deeper d e es q.1 l.1))
      (λ us v e x. deep_entries_first x)
      (λ us e m v q z. deep_entries_next q.0 z)
      entry_judged (length ts) ts

  pub entries_judged : (ts : List Lexeme) → Judged (λ x r. Entered d ts x r) (DeepEntries (suc d) ts) (entries d ts)
  unfolding entries
  entries_judged ts = judged_then _ (all_entries_judged ts)
      (λ es r h. judged_read (parts_of es) r (record { all = es; is = refl; derives = h.0; nests = h.1 }))
      (λ i z. z)
