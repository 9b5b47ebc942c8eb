-- The first token with which no program begins: where the reading of a file finds no place for a token, the tokens
-- before it begin a program, and with it they begin none.
use Rattle.std.proofs.Common.{◌≡◌, ℕ, suc, ◌<◌, ◌≤◌, ◌*◌, ◌-◌, false, List, [], ◌∷◌, ◌++◌, append_assoc}
use Rattle.std.proofs.Common.{length, Option, Some, None, Result, Ok, Err, refl, sym, ap, subst, ◌∙◌, drop, arith}
use Rattle.syntax_lexer.specs.Token.{Lexeme, lexemes, end, position_of}
use Rattle.syntax_lexer.specs.Tokens.{EndsOnce}
use Rattle.syntax_trees.specs.Stop.{Stop, unfit, deep}
use Rattle.syntax_trees.specs.Errors.{place_of}
use Rattle.syntax.proofs.Frames.{Stack}
use Rattle.syntax.proofs.Machine.{shift, accepts, stop, go_on, Refuses, file}
use Rattle.syntax.proofs.StackWords.{Fits, words}
use Rattle.syntax.proofs.Kept.{kept, file_fits}
use Rattle.syntax.proofs.Taken.{taken}
use Rattle.syntax.proofs.Stopped.{Stopped, stopped, at_end}
use Rattle.syntax.proofs.Shallow.{shallow_Directive}
use Rattle.syntax.specs.Tree.{ProgramTree}
use Rattle.syntax.specs.Grammar.{IsProgram, program_nesting}
use Rattle.syntax.specs.Nesting.{DeepEntries, deep_entries_first, deep_entries_next}
use Rattle.syntax.specs.Parse.{program}
use Rattle.syntax.specs.Places.{Begins, IsUnfitAfter}
use Rattle.syntax_lexer.specs.declared.token.Token.{Token}
use Rattle.syntax_trees.specs.declared.error.ParseError.{ParseError}
use Rattle.syntax_trees.specs.declared.error.ParseError.TheVariants as errors
use Rattle.syntax_trees.specs.Parse.{Fails}
use Rattle.syntax_trees.specs.declared.error.Fault.{Fault}
use Rattle.syntax_trees.specs.declared.error.Fault.TheVariants.{Grammar, Deep}
use Rattle.syntax_trees.specs.Stop.{stop_of}
use Rattle.syntax.proofs.Complete.{within, short_Entry}
use Rattle.syntax.proofs.EntriesFollow.{program_stops, program_taken, taken_fits}
use Rattle.syntax.proofs.Main.{found, too_deep}

-- ---- no token stands deeper than twice the count of the tokens

shallow_Program : {n : ℕ} {ts u : List Lexeme} → DeepEntries n ts u → n ≤ 2 * length ts
shallow_Program (deep_entries_first x) = shallow_Directive x
shallow_Program (deep_entries_next a x) = omega (arith, short_Entry a, shallow_Program x)

-- ---- the end of a source has a place, or the machine stops before it

some_is : (m n : ℕ) → Some m ≡ Some n → m ≡ n
some_is m n e = cc

nothing_left : (k : Stack) (ts : List Lexeme) (n : ℕ) → k ≡ [] → ts ≡ [] → stop false k ts ≡ Some n → ⊥
unfolding stop accepts
nothing_left [] [] n q once e = absurd cc
nothing_left [] (t ∷ ts) n q once e = absurd cc
nothing_left (f ∷ k) ts n q once e = absurd cc

before_end : (k : Stack) (ts : List Lexeme) (n : ℕ) → Fits false k → EndsOnce ts → stop false k ts ≡ Some n → 0 < n
unfolding stop
before_end k [] n h once e = absurd once
before_end k (end p ∷ ts) n h once e = go (shift false k (end p)) refl e
  where
    go : (o : Option Stack) → shift false k (end p) ≡ o → go_on (λ j. stop false j ts) (suc (length ts)) o ≡ Some n
        → 0 < n
    go None q e = omega (arith, some_is (suc (length ts)) n e)
    go (Some j) q e = absurd (nothing_left j ts n (at_end false false k j p h q) once e)
before_end k (t ∷ ts) n h once e = go (λ j. before_end j ts n) (shift false k t) refl e
  where
    go : ((j : Stack) → Fits false j → EndsOnce ts → stop false j ts ≡ Some n → 0 < n) → (o : Option Stack)
        → shift false k t ≡ o → go_on (λ j. stop false j ts) (suc (length ts)) o ≡ Some n → 0 < n
    go again None q e = omega (arith, some_is (suc (length ts)) n e)
    go again (Some j) q e = again j (kept false false k j t q h) once e

-- ---- the tokens before it

-- what the machine takes whole is a program
taken_derives : (ts : List Lexeme) → stop false file ts ≡ None → (p : ProgramTree) × IsProgram ts p
taken_derives ts none = go (program (2 * length ts) ts) refl
  where
    go : (R : Result ProgramTree Stop) → program (2 * length ts) ts ≡ R → (p : ProgramTree) × IsProgram ts p
    go (Ok p) q = (p, (found (2 * length ts) ts p q).0)
    go (Err (unfit n)) q = absurd (taken_fits (2 * length ts) n ts none q)
    go (Err (deep n)) q = absurd (omega (arith, shallow_Program (too_deep (2 * length ts) n ts q).is))

pub begins : (front : List Lexeme) (k : Stack) → Fits false k
    → ((vs : List Lexeme) → stop false file (front ++ vs) ≡ stop false k vs) → Begins front
begins front k h on = let a = taken_derives (front ++ words k) (on (words k) ∙ taken k h) in (words k, a.0, a.1)

-- ---- with it

stops_there : (k : Stack) (t : Lexeme) (ts : List Lexeme) → shift false k t ≡ None
    → stop false k (t ∷ ts) ≡ Some (suc (length ts))
unfolding stop
stops_there k t ts e = rw e refl

pub begins_none : (front : List Lexeme) (k : Stack) (t : Lexeme) → shift false k t ≡ None
    → ((vs : List Lexeme) → stop false file (front ++ vs) ≡ stop false k vs) → Begins (front ++ t ∷ []) → ⊥
begins_none front k t e on a =
    let all : List Lexeme = (front ++ t ∷ []) ++ a.0 in
    let is : all ≡ front ++ t ∷ a.0 = append_assoc front (t ∷ []) a.0 in
    let read : program (program_nesting a.1) all ≡ Ok a.1 = within (program_nesting a.1) a.2 (omega arith) in
    let none : stop false file all ≡ None = program_taken (program_nesting a.1) all a.1 read in
    let there = on (t ∷ a.0) ∙ stops_there k t a.0 e in
    let never = sym none ∙ ap (λ ts. stop false file ts) is ∙ there in
    let no : ⊥ = cc in no

-- ---- the token

-- the first token with which no program begins, from which on n tokens are left
pub record Unfit (ts : List Lexeme) (n : ℕ) : Type 0 where
  pub front : List Lexeme
  pub token : Lexeme
  pub after : List Lexeme
  pub is : ts ≡ front ++ token ∷ after
  pub counts : suc (length after) ≡ n
  pub fits : Begins front
  pub does_not : Begins (front ++ token ∷ []) → ⊥

pub first_unfit : (d n : ℕ) (ts : List Lexeme) → EndsOnce ts → program d ts ≡ Err (unfit n) → Unfit ts n
first_unfit d n ts once e =
    let stops = program_stops d n ts once e in
    let a = stopped file ts n file_fits stops in
    go a (before_end file ts n file_fits once stops) a.rest refl
  where
    go : (a : Stopped file ts n) → 0 < n → (u : List Lexeme) → a.rest ≡ u → Unfit ts n
    go a lt [] q = absurd (omega (arith, a.counts, ap length q))
    go a lt (t ∷ m) q = record {
      front = a.front;
      token = t;
      after = m;
      is = a.is ∙ ap (λ u. a.front ++ u) q;
      counts = omega (arith, a.counts, ap length q);
      fits = begins a.front a.stack a.fits a.goes_on;
      does_not = begins_none a.front a.stack t (subst (λ u. Refuses a.stack u) q a.refuses) a.goes_on;
    }

-- ---- its place

length_front : (front back : List Lexeme) → length (front ++ back) - length back ≡ length front
length_front [] back = omega arith
length_front (t ∷ front) back = omega (arith, length_front front back, longer front back)
  where
    longer : (us vs : List Lexeme) → length vs ≤ length (us ++ vs)
    longer [] vs = omega arith
    longer (u ∷ us) vs = omega (arith, longer us vs)

drop_front : (front back : List Lexeme) → drop (length front) (front ++ back) ≡ back
drop_front [] back = refl
drop_front (t ∷ front) back = drop_front front back

pub place_found : (ts front : List Lexeme) (t : Lexeme) (after : List Lexeme) (n : ℕ) → ts ≡ front ++ t ∷ after
    → suc (length after) ≡ n → place_of ts n ≡ position_of t
place_found ts front t after n is counts =
    let before : length (front ++ t ∷ after) - suc (length after) ≡ length front = length_front front (t ∷ after) in
    rw (is, sym counts, before, drop_front front (t ∷ after)) refl

-- ---- its number

no_place_deep : (n : ℕ) (ts : List Lexeme) → program (2 * length ts) ts ≡ Err (deep n) → ⊥
no_place_deep n ts e = absurd (omega (arith, shallow_Program (too_deep (2 * length ts) n ts e).is))

front_is : (ts front : List Lexeme) (t : Lexeme) (after : List Lexeme) (n : ℕ) → ts ≡ front ++ t ∷ after
    → suc (length after) ≡ n → length front ≡ length ts - n
front_is ts front t after n is counts = rw (is, sym counts) (sym (length_front front (t ∷ after)))

unfit_after : (d n : ℕ) (ts : List Lexeme) → EndsOnce ts → program d ts ≡ Err (unfit n)
    → IsUnfitAfter ts (length ts - n)
unfit_after d n ts once e =
    let a = first_unfit d n ts once e in
    record {
      front = a.front;
      token = a.token;
      after = a.after;
      is = a.is;
      counts = front_is ts a.front a.token a.after n a.is a.counts;
      fits = a.fits;
      does_not = a.does_not;
    }

pub as_many : (ts : List Token) → length ts * 2 ≡ 2 * length (lexemes ts)
as_many [] = refl
as_many (t ∷ ts) = omega (arith, as_many ts)

by_fault : (d n : ℕ) (f : Fault) (ts : List Lexeme) → d ≡ 2 * length ts
    → program d ts ≡ Err (stop_of f n) → EndsOnce ts → IsUnfitAfter ts (length ts - n)
by_fault d n Grammar ts is e once = unfit_after d n ts once e
by_fault d n Deep ts is e once = absurd (no_place_deep n ts (subst (λ x. program x ts ≡ Err (deep n)) is e))

-- what is answered, by how the parser with that depth fails
pub answers_unfit : (d m n : ℕ) (f : Fault) (e : ParseError) (ts : List Lexeme) → d ≡ 2 * length ts
    → e ≡ errors.Fault f n → Fails e (program d ts) → m ≡ length ts - n → EndsOnce ts → IsUnfitAfter ts m
answers_unfit d m n f e ts is was h counts once =
    subst (λ k. IsUnfitAfter ts k) (sym counts)
    (by_fault d n f ts is (subst (λ x. Fails x (program d ts)) was h) once)

pub answers_none : (d : ℕ) (p : ProgramTree) (ts : List Lexeme) → program d ts ≡ Ok p → (q : ProgramTree) × IsProgram ts q
answers_none d p ts e = (p, (found d ts p e).0)
