-- The laws of the public calls.
use Rattle.std.proofs.Common.{◌≡◌, ℕ, suc, ◌<◌, ◌≤◌, ◌⊎◌, max, List, [], ◌∷◌, Option, Some, None, Result, Ok, Err, refl}
use Rattle.std.proofs.Common.{sym, ap, subst, ◌∙◌, inl, inr, arith}
use Rattle.std.proofs.lemmas.Bool.{cases_lt}
use Rattle.syntax_lexer.specs.declared.fault.SourceFault.{SourceFault}
use Rattle.syntax_lexer.specs.declared.fault.PlacedFault.{PlacedFault}
use Rattle.syntax_lexer.specs.declared.token.Position.{Position}
use Rattle.syntax_lexer.specs.FaultNumbers.{no_memory}
use Rattle.syntax_lexer.specs.Placed.{nowhere}
use Rattle.syntax_lexer.specs.Token.{Lexeme, end}
use Rattle.syntax_trees.specs.Stop.{Stop, unfit, deep}
use Rattle.syntax_trees.specs.declared.error.Fault.TheVariants.{Grammar, Deep}
use Rattle.syntax_trees.specs.declared.error.ParseError.{ParseError}
use Rattle.syntax_trees.specs.declared.error.ParseError.TheVariants as errors
use Rattle.syntax_trees.specs.Errors.{placed_fault}
use Rattle.syntax_trees.specs.Parse.{◌>>=◌, Fails}
use Rattle.syntax_directives.specs.Grammar.{weight_of}
use Rattle.syntax_expressions.proofs.Judged.{Stands}
use Rattle.syntax.specs.declared.tree.Program.{Program}
use Rattle.syntax.specs.Tree.{ProgramTree}
use Rattle.syntax.specs.Views.{program_tree}
use Rattle.syntax.specs.Grammar.{dictionary_words, IsProgram, program as program_is, program_nesting}
use Rattle.syntax.specs.Nesting.{DeepEntries, DeepProgram}
use Rattle.syntax.specs.Parse.{end_alone, Parts, parts_of, whole, entries, program}
use Rattle.syntax.proofs.Sound.{Entered, entries_judged}
use Rattle.syntax.proofs.Complete.{within, beyond}

abbrev done : ProgramTree → Result ProgramTree Stop
done x = Ok x

done_is : (x y : ProgramTree) → done x ≡ done y → x ≡ y
done_is x y e = cc

abbrev program_of : List Lexeme → Parts → Position → ProgramTree
program_of ts x q = record {
  directives = x.0;
  abbreviations = x.1;
  end = q;
  weight = weight_of ts;
  words = dictionary_words ts;
}

-- ---- what is read

finished : (d : ℕ) (ts : List Lexeme) (x : Parts) (r : List Lexeme) (p : ProgramTree) → Entered d ts x r
    → whole ts x r (end_alone r) ≡ Ok p → IsProgram ts p × (program_nesting p ≤ d)
finished d ts x (end q ∷ []) p a e =
    subst (λ y. IsProgram ts y × (program_nesting y ≤ d))
    (done_is (program_of ts (parts_of a.all) q) p (ap (λ y. done (program_of ts y q)) (sym a.is) ∙ e))
    (program_is a.derives, a.nests)
finished d ts x _ p a e = absurd cc

not_deep : (n : ℕ) (ts r : List Lexeme) (x : Parts) (o : Option Position) → whole ts x r o ≡ Err (deep n) → ⊥
not_deep n ts r x (Some q) e = absurd cc
not_deep n ts r x None e = absurd cc

pub found : (d : ℕ) (ts : List Lexeme) (p : ProgramTree) → program d ts ≡ Ok p
    → IsProgram ts p × (program_nesting p ≤ d)
unfolding program
found d ts p e = go (entries d ts) refl e
  where
    go : (R : Result (Parts × List Lexeme) Stop) → entries d ts ≡ R
        → (R >>= λ x. whole ts x.0 x.1 (end_alone x.1)) ≡ Ok p → IsProgram ts p × (program_nesting p ≤ d)
    go (Ok x) q h = finished d ts x.0 x.1 p ((entries_judged d ts).read x q) h
    go (Err f) q h = absurd cc

abbrev deep_at : ℕ → Result ProgramTree Stop
deep_at n = Err (deep n)

pub one_place : (m n : ℕ) → deep_at m ≡ deep_at n → m ≡ n
one_place m n e = cc

pub too_deep : (d n : ℕ) (ts : List Lexeme) → program d ts ≡ Err (deep n) → Stands (DeepEntries (suc d) ts) n
unfolding program
too_deep d n ts e = go (entries d ts) refl e
  where
    go : (R : Result (Parts × List Lexeme) Stop) → entries d ts ≡ R
        → (R >>= λ x. whole ts x.0 x.1 (end_alone x.1)) ≡ Err (deep n)
        → Stands (DeepEntries (suc d) ts) n
    go (Ok x) q h = absurd (not_deep n ts x.1 x.0 (end_alone x.1) h)
    go (Err (unfit m)) q h = absurd cc
    go (Err (deep m)) q h =
        let s = (entries_judged d ts).deep m q in
        record { from = s.from; is = s.is; left = s.left ∙ one_place m n h }

no_program : (d n : ℕ) (ts : List Lexeme) → program d ts ≡ Err (unfit n) → (p : ProgramTree) → IsProgram ts p → ⊥
no_program d n ts e p a =
    elim (cases_lt d (program_nesting p)) [
      | inl lt ↦ let never = sym e ∙ (beyond d a lt).stops in let no : ⊥ = cc in no
      | inr le ↦ let never = sym e ∙ within d a le in let no : ⊥ = cc in no
    ]

none_within : (d n : ℕ) (ts : List Lexeme) → program d ts ≡ Err (deep n) → (p : ProgramTree) → IsProgram ts p
    → d < program_nesting p
none_within d n ts e p a =
    elim (cases_lt d (program_nesting p)) [
      | inl lt ↦ lt
      | inr le ↦ let never = sym e ∙ within d a le in absurd cc
    ]

-- ---- the clauses, by what was returned

pub err_grammar : (e : ParseError) (f : SourceFault) (ts : List Lexeme) → Fails e (program 100 ts)
    → f ≡ (placed_fault ts e).fault → f.number ≡ 10 → (p : ProgramTree) → IsProgram ts p → ⊥
err_grammar errors.Memory f ts h is n = absurd (omega (arith, ap (λ (x : SourceFault). x.number) is))
err_grammar (errors.Fault Grammar count) f ts h is n = no_program 100 count ts h
err_grammar (errors.Fault Deep count) f ts h is n = absurd (omega (arith, ap (λ (x : SourceFault). x.number) is))

pub err_deep : (e : ParseError) (f : SourceFault) (ts : List Lexeme) → Fails e (program 100 ts)
    → f ≡ (placed_fault ts e).fault
    → f.number ≡ 5 → DeepProgram 101 ts × ((p : ProgramTree) → IsProgram ts p → 100 < program_nesting p)
err_deep errors.Memory f ts h is n = absurd (omega (arith, ap (λ (x : SourceFault). x.number) is))
err_deep (errors.Fault Grammar count) f ts h is n = absurd (omega (arith, ap (λ (x : SourceFault). x.number) is))
err_deep (errors.Fault Deep count) f ts h is n =
    let s = too_deep 100 count ts h in
    ((s.from, s.is), none_within 100 count ts h)

pub err_only : (e : ParseError) (f : SourceFault) (ts : List Lexeme) → Fails e (program 100 ts)
    → f ≡ (placed_fault ts e).fault
    → (p : ProgramTree) → IsProgram ts p → program_nesting p ≤ 100 → f ≡ no_memory
err_only errors.Memory f ts h is p a le = is
err_only (errors.Fault g count) f ts h is p a le = let never = sym h ∙ within 100 a le in absurd cc

pub err_numbers : (e : ParseError) (f : PlacedFault) (ts : List Lexeme) → f ≡ placed_fault ts e
    → (f.fault.number ≡ 5) ⊎ (f.fault.number ≡ 10) ⊎ (f ≡ nowhere no_memory)
err_numbers errors.Memory f ts is = inr (inr is)
err_numbers (errors.Fault Grammar count) f ts is = inr (inl (ap (λ (x : PlacedFault). x.fault.number) is))
err_numbers (errors.Fault Deep count) f ts is = inl (ap (λ (x : PlacedFault). x.fault.number) is)

pub unplaced_numbers : (f : PlacedFault) → (f.fault.number ≡ 5) ⊎ (f.fault.number ≡ 10) ⊎ (f ≡ nowhere no_memory)
    → (f.fault.number ≡ 5) ⊎ (f.fault.number ≡ 10) ⊎ (f.fault ≡ no_memory)
unplaced_numbers f number = elim number [
  | inl five ↦ inl five
  | inr others ↦ elim others [
    | inl ten ↦ inr (inl ten)
    | inr refused ↦ inr (inr (ap (λ (x : PlacedFault). x.fault) refused))
  ]
]

pub ok_only : (q : Program) (ts : List Lexeme) → program 100 ts ≡ Ok (program_tree q) → (p : ProgramTree)
    → IsProgram ts p → program_nesting p ≤ 100 → program_tree q ≡ p
ok_only q ts h p a le = done_is (program_tree q) p (sym h ∙ within 100 a le)

pub law_one : (ts : List Lexeme) (a b : ProgramTree) → IsProgram ts a → IsProgram ts b → a ≡ b
law_one ts a b p q =
    let d = max (program_nesting a) (program_nesting b) in
    let pa = within d p (omega arith) in
    let pb = within d q (omega arith) in
    done_is a b (sym pa ∙ pb)

pub more_than_end : (t u : Lexeme) (ts : List Lexeme) → end_alone (t ∷ u ∷ ts) ≡ None
more_than_end (end p) u ts = refl
more_than_end _ u ts = refl
