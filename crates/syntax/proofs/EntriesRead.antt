-- The loop over what stands in a file, a turn at a time: the directives and the abbreviations that were read so far,
-- and what is still to come.
use Rattle.std.proofs.Common.{◌≡◌, ℕ, zero, suc, ◌+◌, ◌-◌, ◌<◌, ◌≤◌, Bool, true, false, List, [], ◌∷◌, ◌++◌}
use Rattle.std.proofs.Common.{append_assoc, Result, Ok, Err, refl, sym, ap, ◌∙◌, arith}
use Rattle.std.specs.Prelude.{map}
use Rattle.syntax_lexer.specs.declared.token.Word.TheVariants as w
use Rattle.syntax_lexer.specs.Token.{Lexeme}
use Rattle.syntax_trees.specs.Stop.{Stop}
use Rattle.syntax_trees.specs.declared.error.ParseError.{ParseError}
use Rattle.syntax_trees.specs.declared.error.ParseError.TheVariants as errors
use Rattle.syntax_trees.specs.Parse.{◌>>=◌, Fails, head, tail, is_word, as_long, repeated}
use Rattle.syntax_directives.specs.Tree.{TextTree, DirectiveTree}
use Rattle.syntax_directives.specs.Parse.{abbreviate_after, directive}
use Rattle.syntax.specs.Tree.{EntryTree, entry, abbreviate, directives_of, abbreviations_of}
use Rattle.syntax.specs.Parse.{Parts, goes_on, texts_more, one_entry, directive_more, one_more}

abbrev pub gathered : Parts → Result (List EntryTree × List Lexeme) Stop → Result (Parts × List Lexeme) Stop
gathered p r = r >>= λ x. Ok ((p.0 ++ directives_of x.0, p.1 ++ abbreviations_of x.0), x.1)

append_none : {A : Type 0} (xs : List A) → xs ++ [] ≡ xs
append_none [] = refl
append_none (x ∷ xs) = ap (λ ys. x ∷ ys) (append_none xs)

pub map_both : {X A : Type 0} (view : X → A) (xs ys : List X) → map view (xs ++ ys) ≡ map view xs ++ map view ys
map_both view [] ys = refl
map_both view (x ∷ xs) ys = ap (λ zs. view x ∷ zs) (map_both view xs ys)

pub map_last : {X A : Type 0} (view : X → A) (xs : List X) (x : X)
    → map view (xs ++ x ∷ []) ≡ map view xs ++ view x ∷ []
map_last view xs x = map_both view xs (x ∷ [])

-- ---- of what was gathered

-- with one entry more
abbrev added : Parts → EntryTree → Parts
added p (entry d) = (p.0 ++ d ∷ [], p.1)
added p (abbreviate new) = (p.0, p.1 ++ new)

gathered_last : (p : Parts) (ts : List Lexeme) → gathered p (Ok ([], ts)) ≡ Ok (p, ts)
gathered_last p ts = ap (λ z. Ok ((z, p.1 ++ []), ts)) (append_none p.0) ∙ ap (λ z. Ok ((p.0, z), ts)) (append_none p.1)

gathered_more : (p : Parts) (e : EntryTree) (r : Result (List EntryTree × List Lexeme) Stop)
    → gathered p (r >>= λ y. Ok (e ∷ y.0, y.1)) ≡ gathered (added p e) r
gathered_more p (entry d) (Ok y) =
    ap (λ z. Ok ((z, p.1 ++ abbreviations_of y.0), y.1)) (sym (append_assoc p.0 (d ∷ []) (directives_of y.0)))
gathered_more p (abbreviate new) (Ok y) =
    ap (λ z. Ok ((p.0 ++ directives_of y.0, z), y.1)) (sym (append_assoc p.1 new (abbreviations_of y.0)))
gathered_more p e (Err f) = refl

-- ---- one entry

module _ (p : Parts) where
  abbrev with_entry : EntryTree × List Lexeme → Result (Parts × List Lexeme) Stop
  with_entry e = Ok (added p e.0, e.1)

  abbrev of_directive : DirectiveTree × List Lexeme → Result (EntryTree × List Lexeme) Stop
  of_directive x = Ok (entry x.0, x.1)

  abbrev with_directive : DirectiveTree × List Lexeme → Result (Parts × List Lexeme) Stop
  with_directive x = Ok ((p.0 ++ x.0 ∷ [], p.1), x.1)

  by_directive : (R : Result (DirectiveTree × List Lexeme) Stop)
      → (R >>= with_directive) ≡ ((R >>= of_directive) >>= with_entry)
  by_directive (Ok x) = refl
  by_directive (Err f) = refl

  abbrev of_texts : List TextTree × List Lexeme → Result (EntryTree × List Lexeme) Stop
  of_texts xs = Ok (abbreviate xs.0, xs.1)

  abbrev with_texts : List TextTree × List Lexeme → Result (Parts × List Lexeme) Stop
  with_texts xs = Ok ((p.0, p.1 ++ xs.0), xs.1)

  by_texts : (R : Result (List TextTree × List Lexeme) Stop)
      → (R >>= with_texts) ≡ ((R >>= of_texts) >>= with_entry)
  by_texts (Ok xs) = refl
  by_texts (Err f) = refl

module _ (d : ℕ) where
  by_entry : (p : Parts) (ts : List Lexeme) → one_more d p ts ≡ (one_entry d ts >>= with_entry p)
  unfolding one_more one_entry texts_more directive_more
  by_entry p ts = go (is_word w.Abbreviate (head ts)) refl
    where
      go : (b : Bool) → is_word w.Abbreviate (head ts) ≡ b → one_more d p ts ≡ (one_entry d ts >>= with_entry p)
      go true e = rw e (by_texts p (abbreviate_after (tail ts)))
      go false e = rw e (by_directive p (directive d ts))

  -- ---- a turn

  stopped : (n : ℕ) (ts : List Lexeme) → goes_on (head ts) ≡ false → repeated goes_on (one_entry d) n ts ≡ Ok ([], ts)
  unfolding repeated as_long
  stopped zero ts g = refl
  stopped (suc n) ts g = rw g refl

  worn_out : (n i : ℕ) (ts : List Lexeme) → n ≤ i → repeated goes_on (one_entry d) (n - i) ts ≡ Ok ([], ts)
  unfolding repeated as_long
  worn_out n i ts le = let k : n - i ≡ 0 = omega arith in rw k refl

  pub entries_out : (n i : ℕ) (p : Parts) (ts : List Lexeme) → n ≤ i
      → gathered p (repeated goes_on (one_entry d) (n - i) ts) ≡ Ok (p, ts)
  entries_out n i p ts le = ap (gathered p) (worn_out n i ts le) ∙ gathered_last p ts

  pub entries_done : (n : ℕ) (p : Parts) (ts : List Lexeme) → goes_on (head ts) ≡ false
      → gathered p (repeated goes_on (one_entry d) n ts) ≡ Ok (p, ts)
  entries_done n p ts g = ap (gathered p) (stopped n ts g) ∙ gathered_last p ts

  -- the entries after one, with it; and those after what was read before
  abbrev with_following : ℕ → EntryTree × List Lexeme → Result (List EntryTree × List Lexeme) Stop
  with_following n e = repeated goes_on (one_entry d) n e.1 >>= λ y. Ok (e.0 ∷ y.0, y.1)

  abbrev after_parts : ℕ → Parts × List Lexeme → Result (Parts × List Lexeme) Stop
  after_parts n x = gathered x.0 (repeated goes_on (one_entry d) n x.1)

  turned : (n : ℕ) (p : Parts) (R : Result (EntryTree × List Lexeme) Stop)
      → gathered p (R >>= with_following n) ≡ ((R >>= with_entry p) >>= after_parts n)
  turned n p (Ok e) = gathered_more p e.0 (repeated goes_on (one_entry d) n e.1)
  turned n p (Err f) = refl

  turn : (n i : ℕ) (p : Parts) (ts : List Lexeme) → i < n → goes_on (head ts) ≡ true
      → gathered p (repeated goes_on (one_entry d) (n - i) ts) ≡ (one_more d p ts >>= after_parts (n - (i + 1)))
  unfolding repeated as_long
  turn n i p ts lt g =
      let k : n - i ≡ suc (n - (i + 1)) = omega arith in
      rw (k, g, by_entry p ts) (turned (n - (i + 1)) p (one_entry d ts))

  pub entries_more : (n i : ℕ) (p q : Parts) (ts r : List Lexeme) → i < n → goes_on (head ts) ≡ true
      → one_more d p ts ≡ Ok (q, r) → gathered p (repeated goes_on (one_entry d) (n - i) ts)
      ≡ gathered q (repeated goes_on (one_entry d) (n - (i + 1)) r)
  entries_more n i p q ts r lt g h = turn n i p ts lt g ∙ rw h refl

  pub entries_fail : (e : ParseError) (n i : ℕ) (p : Parts) (ts : List Lexeme)
      (total : Result (Parts × List Lexeme) Stop) → i < n → goes_on (head ts) ≡ true → Fails e (one_more d p ts)
      → gathered p (repeated goes_on (one_entry d) (n - i) ts) ≡ total → Fails e total
  entries_fail errors.Memory n i p ts total lt g h so_far = tt
  entries_fail (errors.Fault f count) n i p ts total lt g h so_far = sym so_far ∙ turn n i p ts lt g ∙ rw h refl
