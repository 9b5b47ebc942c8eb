-- The machine and the reading of a file go on together: where reading finds no place for a token, the machine stops at
-- that token, and it takes the tokens of a program whole.
use Rattle.std.proofs.Common.{◌≡◌, ℕ, zero, suc, ◌≤◌, Bool, true, false, cond, List, [], ◌∷◌, length, Some}
use Rattle.std.proofs.Common.{None, Result, Ok, Err, refl, sym, subst, ◌∙◌, arith}
use Rattle.syntax_lexer.specs.declared.token.Position.{Position}
use Rattle.syntax_lexer.specs.declared.token.Word.TheVariants as w
use Rattle.syntax_lexer.specs.Token.{Lexeme, name, number, text, character, dictionary_word, reserved, sign, end}
use Rattle.syntax_lexer.specs.Token.{position_of}
use Rattle.syntax_lexer.specs.Tokens.{EndsOnce}
use Rattle.syntax_trees.specs.Stop.{Stop, unfit, deep}
use Rattle.syntax_trees.specs.Parse.{◌>>=◌, head, is_word, as_long, repeated}
use Rattle.syntax_expressions.proofs.Tokens.{is_that_word}
use Rattle.syntax.proofs.Frames.{entries_left, last, Stack}
use Rattle.syntax.proofs.Machine.{shift}
use Rattle.syntax.proofs.Frames.{on_entry}
use Rattle.syntax.proofs.Machine.{accepts, stop, file}
use Rattle.syntax.proofs.After.{Follows, no_effect, onward, follows_read, follows_as, follows_then}
use Rattle.syntax.proofs.Directives.{directive_follows, abbreviate_follows}
use Rattle.syntax.specs.Tree.{entry, abbreviate, ProgramTree}
use Rattle.syntax.specs.Grammar.{IsEntries}
use Rattle.syntax.specs.Parse.{goes_on, end_alone, Parts, parts_of, whole, one_entry, all_entries, entries, program}
use Rattle.syntax.proofs.Sound.{Entered, entries_judged}
use Rattle.syntax.proofs.Suffixes.{end_alone_left}

abbrev unread : ℕ → Result ProgramTree Stop
unread n = Err (unfit n)

-- ---- one entry

-- a token that goes on begins an entry, or has no place
on_goes : (k : Stack) (t : Lexeme) (m : List Lexeme) → goes_on t ≡ true
    → stop false (entries_left ∷ k) (t ∷ m) ≡ onward m (on_entry t (entries_left ∷ k))
unfolding stop shift
on_goes k (name n p) m g = refl
on_goes k (number n p) m g = refl
on_goes k (text bytes p) m g = refl
on_goes k (character c p) m g = refl
on_goes k (dictionary_word f p) m g = refl
on_goes k (reserved r p) m g = refl
on_goes k (sign r p) m g = refl
on_goes k (end p) m g = absurd cc

on_ends : (k : Stack) (ts : List Lexeme) → goes_on (head ts) ≡ false
    → stop false (entries_left ∷ k) ts ≡ stop false k ts
unfolding stop shift accepts
on_ends k [] g = refl
on_ends k (end p ∷ m) g = refl
on_ends k (_ ∷ m) g = absurd cc

-- ---- after the entries

some_unfit : (m n : ℕ) → unread m ≡ unread n → Some m ≡ Some n
some_unfit m n e = cc

whole_stops : (ts r : List Lexeme) (x : Parts) (n : ℕ) → whole ts x r (end_alone r) ≡ Err (unfit n)
    → ((p : Position) (u : Lexeme) (us : List Lexeme) → r ≡ end p ∷ u ∷ us → ⊥) → stop false (last ∷ []) r ≡ Some n
unfolding stop shift accepts
whole_stops ts [] x n e more = some_unfit 0 n e
whole_stops ts (end p ∷ []) x n e more = absurd cc
whole_stops ts (end p ∷ u ∷ us) x n e more = absurd (more p u us refl)
whole_stops ts (_ ∷ us) x n e more = some_unfit (suc (length us)) n e

whole_taken : (ts r : List Lexeme) (x : Parts) (p : ProgramTree) → whole ts x r (end_alone r) ≡ Ok p
    → stop false (last ∷ []) r ≡ None
unfolding stop shift accepts
whole_taken ts (end q ∷ []) x p e = refl
whole_taken ts _ x p e = absurd cc

whole_fits : (ts r : List Lexeme) (x : Parts) (n : ℕ) → stop false (last ∷ []) r ≡ None
    → whole ts x r (end_alone r) ≡ Err (unfit n) → ⊥
unfolding stop shift accepts
whole_fits ts [] x n none e = absurd cc
whole_fits ts (end q ∷ []) x n none e = absurd cc
whole_fits ts (end q ∷ u ∷ us) x n none e = absurd cc
whole_fits ts (_ ∷ us) x n none e = absurd cc

none_left : {d : ℕ} {ts r : List Lexeme} {x : Parts} → Entered d ts x r → EndsOnce ts → (p : Position) (u : Lexeme)
    (us : List Lexeme) → r ≡ end p ∷ u ∷ us → ⊥
none_left {ts = ts} a once p u us is =
    let never : u ∷ us ≡ [] = end_alone_left once (subst (λ v. IsEntries ts a.all v) is a.derives) in absurd cc

module _ (d : ℕ) where
  texts_follow : (k : Stack) (p : Position) (m : List Lexeme)
      → Follows (onward m (on_entry (reserved w.Abbreviate p) k)) no_effect k m
      (one_entry d (reserved w.Abbreviate p ∷ m))
  unfolding one_entry
  texts_follow k p m = follows_then _ (abbreviate_follows k m) (λ xs r h. follows_read (abbreviate xs) r refl (omega arith))

  entry_follows : (k : Stack) (t : Lexeme) (m : List Lexeme)
      → Follows (onward m (on_entry t k)) no_effect k m (one_entry d (t ∷ m))
  unfolding one_entry
  entry_follows k t m = go (is_word w.Abbreviate t) refl
    where
      go : (b : Bool) → is_word w.Abbreviate t ≡ b
          → Follows (onward m (on_entry t k)) no_effect k m (one_entry d (t ∷ m))
      go true e = subst
          (λ u. Follows (onward m (on_entry u k)) no_effect k m (one_entry d (u ∷ m)))
          (sym (is_that_word w.Abbreviate t e)) (texts_follow k (position_of t) m)
      go false e = rw e
          (follows_then _ (directive_follows d k t m e) (λ x r h. follows_read (entry x) r refl (omega arith)))

  -- ---- all of them

  entries_follow : (n : ℕ) (k : Stack) (ts : List Lexeme) → length ts ≤ n
      → Follows (stop false (entries_left ∷ k) ts) no_effect k ts (repeated goes_on (one_entry d) n ts)
  unfolding repeated as_long
  entries_follow zero k [] le = follows_read [] [] (on_ends k [] refl) (omega arith)
  entries_follow zero k (t ∷ m) le = absurd (omega (arith, le))
  entries_follow (suc n) k [] le = follows_read [] [] (on_ends k [] refl) (omega arith)
  entries_follow (suc n) k (t ∷ m) le = go (λ r h. entries_follow n k r (omega (arith, le, h))) (goes_on t) refl
    where
      go : ((r : List Lexeme) → length r ≤ length m
          → Follows (stop false (entries_left ∷ k) r) no_effect k r (repeated goes_on (one_entry d) n r))
          → (b : Bool) → goes_on t ≡ b
          → Follows (stop false (entries_left ∷ k) (t ∷ m)) no_effect k (t ∷ m)
          (cond b (one_entry d (t ∷ m) >>= λ x. as_long (λ us. goes_on (head us)) (one_entry d) n x.1
          >>= λ y. Ok (x.0 ∷ y.0, y.1)) (Ok ([], t ∷ m)))
      go again true g = follows_as (on_goes k t m g) (omega arith)
          (follows_then _ (entry_follows (entries_left ∷ k) t m)
          (λ e r h. follows_then _ (again r h) (λ es u l. follows_read (e ∷ es) u refl (omega arith))))
      go again false g = follows_read [] (t ∷ m) (on_ends k (t ∷ m) g) (omega arith)

  file_follows : (ts : List Lexeme) → Follows (stop false file ts) no_effect (last ∷ []) ts (entries d ts)
  unfolding entries all_entries
  file_follows ts = follows_then _ (entries_follow (length ts) (last ∷ []) ts (omega arith))
      (λ es r h. follows_read (parts_of es) r refl (omega arith))

  -- ---- whole programs

  -- what the machine answers, by what entries leave
  pub program_stops : (n : ℕ) (ts : List Lexeme) → EndsOnce ts → program d ts ≡ Err (unfit n)
      → stop false file ts ≡ Some n
  unfolding program
  program_stops n ts once e = go (entries d ts) refl (file_follows ts) e
    where
      go : (R : Result (Parts × List Lexeme) Stop) → entries d ts ≡ R
          → Follows (stop false file ts) no_effect (last ∷ []) ts R
          → (R >>= λ x. whole ts x.0 x.1 (end_alone x.1)) ≡ Err (unfit n) → stop false file ts ≡ Some n
      go (Ok x) q f h = f.held.0 ∙ whole_stops ts x.1 x.0 n h
          (λ p u us is. none_left ((entries_judged d ts).read x q) once p u us is)
      go (Err (unfit m)) q f h = f.held ∙ some_unfit m n h
      go (Err (deep m)) q f h = absurd cc

  pub program_taken : (ts : List Lexeme) (p : ProgramTree) → program d ts ≡ Ok p → stop false file ts ≡ None
  unfolding program
  program_taken ts p e = go (entries d ts) (file_follows ts) e
    where
      go : (R : Result (Parts × List Lexeme) Stop) → Follows (stop false file ts) no_effect (last ∷ []) ts R
          → (R >>= λ x. whole ts x.0 x.1 (end_alone x.1)) ≡ Ok p → stop false file ts ≡ None
      go (Ok x) f h = f.held.0 ∙ whole_taken ts x.1 x.0 p h
      go (Err g) f h = absurd cc

  -- what the machine takes whole has no token without a place
  pub taken_fits : (n : ℕ) (ts : List Lexeme) → stop false file ts ≡ None → program d ts ≡ Err (unfit n) → ⊥
  unfolding program
  taken_fits n ts none e = go (entries d ts) (file_follows ts) e
    where
      go : (R : Result (Parts × List Lexeme) Stop) → Follows (stop false file ts) no_effect (last ∷ []) ts R
          → (R >>= λ x. whole ts x.0 x.1 (end_alone x.1)) ≡ Err (unfit n) → ⊥
      go (Ok x) f h = whole_fits ts x.1 x.0 n (sym f.held.0 ∙ none) h
      go (Err (unfit m)) f h = let never : Some m ≡ None = sym f.held ∙ none in absurd cc
      go (Err (deep m)) f h = absurd cc
