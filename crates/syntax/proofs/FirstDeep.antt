-- The first token that stands too deep: the reading of a file stops at one that does, and no token before it does.
use Rattle.std.proofs.Common.{◌≡◌, ℕ, zero, suc, ◌<◌, ◌≤◌, true, false, List, ◌∷◌, ◌++◌, length, Ok, refl, ap, sym, ◌∙◌, arith}
use Rattle.std.proofs.Common.{inl, inr, Err, subst}
use Rattle.std.proofs.lemmas.Bool.{cases_lt}
use Rattle.syntax_lexer.specs.declared.token.Word.TheVariants as w
use Rattle.syntax_lexer.specs.Token.{Lexeme}
use Rattle.syntax_trees.specs.Stop.{unfit, deep, TooDeep}
use Rattle.syntax_trees.specs.Parse.{◌>>=◌, head, is_word, repeated}
use Rattle.syntax_expressions.proofs.Limited.{Limited, deep_before}
use Rattle.syntax_expressions.proofs.Deepened.{Deepened, deep_in, deep_same}
use Rattle.syntax_statements.proofs.DeepParts.{deep_first_turn, deep_later_turn}
use Rattle.syntax_directives.specs.Nesting.{DeepDirective, deep_d_routine}
use Rattle.syntax_directives.specs.Parse.{directive}
use Rattle.syntax_directives.proofs.DeepDirectives.{deep_Directive}
use Rattle.syntax_directives.proofs.DeepEnds.{EndsAt, over, ends_Directive}
use Rattle.syntax.specs.Tree.{EntryTree, entry}
use Rattle.syntax.specs.Nesting.{DeepEntries, deep_entries_first, deep_entries_next, DeepProgram}
use Rattle.syntax.specs.Parse.{goes_on, one_entry, all_entries, entries, program}
use Rattle.syntax.proofs.Complete.{short_Entry, first_Entry, at_Entry}
use Rattle.syntax.proofs.Suffixes.{ends_Entry}
use Rattle.syntax.proofs.Main.{one_place, too_deep}

-- ---- one entry

some_Directive : {n : ℕ} {ts u : List Lexeme} → DeepDirective n ts u → 0 < length ts
some_Directive (deep_d_routine a x) = omega arith

goes_Directive : {n : ℕ} {ts u : List Lexeme} → DeepDirective n ts u → goes_on (head ts) ≡ true
goes_Directive (deep_d_routine a x) = refl

no_texts : {n : ℕ} {ts u : List Lexeme} → DeepDirective n ts u → is_word w.Abbreviate (head ts) ≡ false
no_texts (deep_d_routine a x) = refl

entry_deep : {n : ℕ} {ts u : List Lexeme} → DeepDirective n ts u → (d : ℕ) → Deepened (one_entry d ts) d n ts u
unfolding one_entry
entry_deep {ts = ts} x d = deep_same {S = directive d ts >>= λ y. Ok (entry y.0, y.1)} (rw (no_texts x) refl)
    (omega arith) (deep_in _ (deep_Directive x d))

-- ---- all of them

module _ (d : ℕ) {n : ℕ} {ts u : List Lexeme} where
  first_turn : (turns : ℕ) → goes_on (head ts) ≡ true → Deepened (one_entry d ts) d n ts u
      → Deepened (repeated goes_on (one_entry d) (suc turns) ts) d n ts u
  unfolding repeated
  first_turn turns e h = deep_first_turn (λ us. goes_on (head us)) (one_entry d) d turns e h

  later_turn : {l : ℕ} {x : EntryTree} {m : List Lexeme} (turns : ℕ) → goes_on (head ts) ≡ true
      → Limited (one_entry d ts) d l x m → length m ≤ length ts
      → Deepened (repeated goes_on (one_entry d) turns m) d n m u
      → Deepened (repeated goes_on (one_entry d) (suc turns) ts) d n ts u
  unfolding repeated
  later_turn turns e a less h = deep_later_turn (λ us. goes_on (head us)) (one_entry d) d turns e a less h

entries_deep : {n : ℕ} {ts u : List Lexeme} → DeepEntries n ts u → (d turns : ℕ) → length ts ≤ turns
    → Deepened (repeated goes_on (one_entry d) turns ts) d n ts u
entries_deep (deep_entries_first x) d zero le = absurd (omega (arith, le, some_Directive x))
entries_deep (deep_entries_first x) d (suc turns) le = first_turn d turns (goes_Directive x) (entry_deep x d)
entries_deep (deep_entries_next a x) d zero le = absurd (omega (arith, le, short_Entry a))
entries_deep (deep_entries_next a x) d (suc turns) le = later_turn d turns (first_Entry a) (at_Entry d a)
    (omega (arith, short_Entry a)) (entries_deep x d turns (omega (arith, le, short_Entry a)))

deep_program : {n : ℕ} {ts u : List Lexeme} → DeepEntries n ts u → (d : ℕ) → d < n
    → TooDeep (length u) (program d ts)
unfolding program entries all_entries
deep_program {ts = ts} x d lt =
    let h = entries_deep x d (length ts) (omega arith) in
    deep_before _ (deep_before _ (h.stops lt))

-- ---- the token

ends_Entries : {n : ℕ} {ts u : List Lexeme} → DeepEntries n ts u → EndsAt ts u
ends_Entries (deep_entries_first x) = ends_Directive x
ends_Entries (deep_entries_next a x) = let e = ends_Entry a in over e.0 e.1 (ends_Entries x)

-- the first token that stands more than d nestings deep, from which on n tokens are left
pub record FirstDeep (d : ℕ) (ts : List Lexeme) (n : ℕ) : Type 0 where
  pub front : List Lexeme
  pub token : Lexeme
  pub after : List Lexeme
  pub is : ts ≡ front ++ token ∷ after
  pub counts : suc (length after) ≡ n
  pub too_deep : DeepEntries (suc d) ts (token ∷ after)
  pub first : (k : ℕ) (u : List Lexeme) → DeepEntries k ts u → length (token ∷ after) < length u → k ≤ d

none_before : (d n : ℕ) (ts : List Lexeme) → program d ts ≡ Err (deep n) → (k : ℕ) (u : List Lexeme)
    → DeepEntries k ts u → n < length u → k ≤ d
none_before d n ts h k u x less = elim (cases_lt d k) [
  | inl far ↦ (
      let t = deep_program x d far in
      absurd (omega (arith, less, t.enough, one_place n t.left (sym h ∙ t.stops))))
  | inr le ↦ le
]

-- where a token fits nowhere, none that stands before it is too deep
pub none_deeper : (d n : ℕ) (ts : List Lexeme) → program d ts ≡ Err (unfit n) → (k : ℕ) → DeepProgram k ts → k ≤ d
none_deeper d n ts h k x = elim (cases_lt d k) [
  | inl far ↦ (
      let t = deep_program x.1 d far in
      let never = sym h ∙ t.stops in
      absurd cc)
  | inr le ↦ le
]

pub first_deep : (d n : ℕ) (ts : List Lexeme) → program d ts ≡ Err (deep n) → FirstDeep d ts n
first_deep d n ts h =
    let s = too_deep d n ts h in
    let a = ends_Entries s.is in
    let counts : suc (length a.after) ≡ n = omega (arith, s.left, ap length a.first) in
    record {
      front = a.front;
      token = a.token;
      after = a.after;
      is = a.at ∙ ap (λ us. a.front ++ us) a.first;
      counts = counts;
      too_deep = subst (λ us. DeepEntries (suc d) ts us) a.first s.is;
      first = λ k u x less. none_before d n ts h k u x (omega (arith, counts, less));
    }
