-- Names and reserved words are the longest tokens at the front.
use Rattle.std.proofs.Common.{◌≡◌, ℕ, ◌<◌, ◌≤◌, true, List, [], ◌∷◌, length, get_or, take, refl, sym, ap, subst, ◌∙◌}
use Rattle.std.proofs.Common.{arith}
use Rattle.std.proofs.lemmas.List.{length-take, get_or-take}
use Rattle.syntax_lexer.specs.declared.fault.LexicalFault.TheVariants as f
use Rattle.syntax_lexer.specs.declared.token.Word.{Word}
use Rattle.syntax_lexer.specs.declared.token.Position.{Position}
use Rattle.syntax_lexer.specs.Token.{Lexeme, name, reserved}
use Rattle.syntax_lexer.specs.Bytes.{is_letter, is_name_byte, run, Each}
use Rattle.syntax_lexer.specs.Spelling.{IsReserved, IsName, Spells}
use Rattle.syntax_lexer.specs.Tokens.{IsLongest, Breaks}
use Rattle.syntax_lexer.proofs.Runs.{run_within}
use Rattle.syntax_lexer.proofs.WordTables.{reserved_each, word_sizes}
use Rattle.syntax_lexer.proofs.Beginnings.{class_of, letter_class}
use Rattle.syntax_lexer.proofs.Longest.{run_each, run_longest, run_some, front_class}
use Rattle.syntax_lexer.proofs.Words.{reserved_length}

name_each : (x : Lexeme) (bs : List ℕ) → class_of x ≡ 1 → Spells x bs → Each is_name_byte bs
name_each (name s p) [] e h = tt
name_each (name s p) (b ∷ bs) e h = (rw h.1.0 refl, h.1.1)
name_each (reserved w p) bs e h = reserved_each w bs h
name_each x bs e h = absurd (omega arith)

name_is : (bs : List ℕ) → is_letter (get_or bs 0 0) ≡ true → Each is_name_byte bs
    → ((w : Word) → IsReserved w bs → ⊥) → IsName bs
name_is [] e h none = absurd cc
name_is (b ∷ bs) e h none = (e, h.1, none)

module _ (bs : List ℕ) (letter : is_letter (get_or bs 0 0) ≡ true) where
  pub name_longest : (x : Lexeme) → Spells x (take (run is_name_byte bs) bs) → IsLongest bs x (run is_name_byte bs)
  name_longest x h = record {
    within = run_within is_name_byte bs;
    spelled = h;
    no_longer = λ other m lt le t. run_longest is_name_byte bs m lt le
        (name_each other (take m bs) (sym (front_class bs other m t) ∙ letter_class (get_or bs 0 0) letter) t);
  }

  front_name : ((w : Word) → IsReserved w (take (run is_name_byte bs) bs) → ⊥)
      → IsName (take (run is_name_byte bs) bs)
  front_name none =
      let named : is_name_byte (get_or bs 0 0) ≡ true = rw letter refl in
      let some : 0 < run is_name_byte bs = run_some is_name_byte bs named refl in
      let first : get_or (take (run is_name_byte bs) bs) 0 0
      ≡ get_or bs 0 0 = get_or-take (run is_name_byte bs) bs 0 0 some in
      name_is (take (run is_name_byte bs) bs) (ap is_letter first ∙ letter) (run_each is_name_byte bs) none

  pub name_found : (p : Position) → ((w : Word) → IsReserved w (take (run is_name_byte bs) bs) → ⊥)
      → IsLongest bs (name (take (run is_name_byte bs) bs) p) (run is_name_byte bs)
  name_found p none = name_longest (name (take (run is_name_byte bs) bs) p) (refl, front_name none)

  front_length : length (take (run is_name_byte bs) bs) ≡ run is_name_byte bs
  front_length = omega (arith, length-take (run is_name_byte bs) bs, run_within is_name_byte bs)

  pub name_long : 32 < run is_name_byte bs → Breaks f.NameTooLong bs
  name_long lt =
      let p : Position = record { offset = 0; line = 0 } in
      let none : (w : Word) → IsReserved w (take (run is_name_byte bs) bs)
      → ⊥ = λ w r. omega (arith, reserved_length w (take (run is_name_byte bs) bs) r, word_sizes w, front_length) in
      (take (run is_name_byte bs) bs, run is_name_byte bs, p, name_found p none, omega (arith, front_length))

  -- the same, at a length and a text that the code has found

  pub long_token : (n : ℕ) → n ≡ run is_name_byte bs → 32 < n → Breaks f.NameTooLong bs
  long_token n e lt = name_long (omega arith)

  pub reserved_token : (n : ℕ) (s : List ℕ) (w : Word) → n ≡ run is_name_byte bs → s ≡ take n bs → IsReserved w s
      → (p : Position) → IsLongest bs (reserved w p) n × Unit {0}
  reserved_token n s w e t r p = (
    subst (IsLongest bs (reserved w p)) (sym e)
        (name_longest (reserved w p) (subst (IsReserved w) (t ∙ ap (λ k. take k bs) e) r)),
    tt,
  )

  pub name_token : (n : ℕ) (s : List ℕ) → n ≡ run is_name_byte bs → s ≡ take n bs → n ≤ 32
      → ((w : Word) → IsReserved w s → ⊥) → (p : Position) → IsLongest bs (name s p) n × (length s ≤ 32)
  name_token n s e t le none p =
      let text : s ≡ take (run is_name_byte bs) bs = t ∙ ap (λ k. take k bs) e in
      let found = name_found p (λ w r. none w (subst (IsReserved w) (sym text) r)) in (
        subst (λ xs. IsLongest bs (name xs p) n) (sym text)
            (subst (IsLongest bs (name (take (run is_name_byte bs) bs) p)) (sym e) found),
        omega
            (arith, ap length text, front_length),
      )
