-- What has a tree is read as that tree, unless it is nested too deep.
use Rattle.std.proofs.Common.{◌≡◌, ℕ, zero, suc, ◌<◌, ◌≤◌, max, true, false, List, [], ◌∷◌, length, Result, Ok}
use Rattle.std.proofs.Common.{refl, arith}
use Rattle.syntax_lexer.specs.declared.token.Position.{Position}
use Rattle.syntax_lexer.specs.declared.token.Word.TheVariants as w
use Rattle.syntax_lexer.specs.Token.{Lexeme, end}
use Rattle.syntax_trees.specs.Stop.{Stop, TooDeep}
use Rattle.syntax_trees.specs.Parse.{head, is_word, repeated}
use Rattle.syntax_expressions.proofs.Limited.{Limited, then, at_once, deep_sooner, deep_before}
use Rattle.syntax_statements.proofs.PartsRead.{repeated_stop, repeated_next}
use Rattle.syntax_directives.specs.Tree.{DirectiveTree}
use Rattle.syntax_directives.specs.Grammar.{IsDirective, d_global, d_global_value, d_constant, d_array, d_attribute}
use Rattle.syntax_directives.specs.Grammar.{d_property, d_property_value, d_object, d_routine, directive_nesting}
use Rattle.syntax_directives.proofs.Complete.{short_Directive, at_Directive}
use Rattle.syntax_directives.proofs.TextsRead.{short_Texts, abbreviate_read}
use Rattle.syntax.specs.Tree.{EntryTree, entry, abbreviate, directives_of, ProgramTree}
use Rattle.syntax.specs.Grammar.{IsEntry, e_directive, e_abbreviate, IsEntries, entries_stop, entries_next, IsProgram}
use Rattle.syntax.specs.Grammar.{program as program_is, directives_nesting, program_nesting}
use Rattle.syntax.specs.Parse.{goes_on, parts_of, one_entry, all_entries, entries, program}

-- ---- directives

first_Directive : {ts r : List Lexeme} {x : DirectiveTree} → IsDirective ts x r → goes_on (head ts) ≡ true
first_Directive d_global = refl
first_Directive (d_global_value k) = refl
first_Directive (d_constant k) = refl
first_Directive (d_array o a lt) = refl
first_Directive d_attribute = refl
first_Directive d_property = refl
first_Directive (d_property_value k) = refl
first_Directive (d_object h a b) = refl
first_Directive (d_routine n a) = refl

-- ---- entries

pub short_Entry : {ts r : List Lexeme} {e : EntryTree} → IsEntry ts e r → length r < length ts
short_Entry (e_directive a) = short_Directive a
short_Entry (e_abbreviate a lt) = omega (arith, short_Texts a)

pub first_Entry : {ts r : List Lexeme} {e : EntryTree} → IsEntry ts e r → goes_on (head ts) ≡ true
first_Entry (e_directive a) = first_Directive a
first_Entry (e_abbreviate a lt) = refl

-- no directive begins with the word `abbreviate`
no_abbreviate : {ts r : List Lexeme} {x : DirectiveTree} → IsDirective ts x r
    → is_word w.Abbreviate (head ts) ≡ false
no_abbreviate d_global = refl
no_abbreviate (d_global_value k) = refl
no_abbreviate (d_constant k) = refl
no_abbreviate (d_array o a lt) = refl
no_abbreviate d_attribute = refl
no_abbreviate d_property = refl
no_abbreviate (d_property_value k) = refl
no_abbreviate (d_object h a b) = refl
no_abbreviate (d_routine n a) = refl

abbrev entry_nesting : EntryTree → ℕ
entry_nesting (entry x) = directive_nesting x
entry_nesting (abbreviate xs) = 0

nesting_next : (e : EntryTree) (es : List EntryTree)
    → max (entry_nesting e) (directives_nesting (directives_of es)) ≡ directives_nesting (directives_of (e ∷ es))
nesting_next (entry x) es = refl
nesting_next (abbreviate xs) es = omega arith

up : {A : Type 0} {R : Result (A × List Lexeme) Stop} {d m n : ℕ} {a : A} {r : List Lexeme} → Limited R d m a r
    → m ≡ n → Limited R d n a r
up p e = record { within = λ h. p.within (omega arith); beyond = λ h. p.beyond (omega arith) }

-- ---- what is read

module _ (d : ℕ) where
  pub at_Entry : {ts r : List Lexeme} {e : EntryTree} → IsEntry ts e r → Limited (one_entry d ts) d (entry_nesting e) e r
  unfolding one_entry
  at_Entry (e_directive a) = rw (no_abbreviate a) (then _ (at_Directive d a) (omega arith) refl)
  at_Entry (e_abbreviate a lt) = at_once (rw (abbreviate_read a lt) refl)

  pub short_Entries : {ts r : List Lexeme} {es : List EntryTree} → IsEntries ts es r → length r ≤ length ts
  short_Entries entries_stop = omega arith
  short_Entries (entries_next a b) = omega (arith, short_Entry a, short_Entries b)

  turns_Entries : {ts : List Lexeme} {es : List EntryTree} {p : Position} → IsEntries ts es (end p ∷ [])
      → (n : ℕ) → length ts ≤ n → Limited (repeated goes_on (one_entry d) n ts) d
      (directives_nesting (directives_of es)) es (end p ∷ [])
  turns_Entries {p = p} entries_stop n le = repeated_stop goes_on (one_entry d) d n (end p ∷ []) refl
  turns_Entries (entries_next a b) zero le = absurd (omega (arith, short_Entry a))
  turns_Entries {ts} (entries_next {e = e} {es = es} a b) (suc n) le = up
      (repeated_next goes_on (one_entry d) d n ts (first_Entry a) (at_Entry a) (short_Entries b)
      (turns_Entries b n (omega (arith, short_Entry a)))) (nesting_next e es)

  at_Entries : {es : List EntryTree} {p : Position} (ts : List Lexeme) → IsEntries ts es (end p ∷ [])
      → Limited (entries d ts) d (directives_nesting (directives_of es)) (parts_of es) (end p ∷ [])
  unfolding entries all_entries
  at_Entries ts a = then _ (turns_Entries a (length ts) (omega arith)) (omega arith) refl

-- ---- programs

pub within : (d : ℕ) {ts : List Lexeme} {p : ProgramTree} → IsProgram ts p → program_nesting p ≤ d
    → program d ts ≡ Ok p
unfolding program
within d {ts} (program_is a) le = rw ((at_Entries d ts a).within le) refl

pub beyond : (d : ℕ) {ts : List Lexeme} {p : ProgramTree} → IsProgram ts p → d < program_nesting p
    → TooDeep 0 (program d ts)
unfolding program
beyond d {ts} (program_is a) lt = deep_sooner (deep_before _ ((at_Entries d ts a).beyond lt)) (omega arith)
