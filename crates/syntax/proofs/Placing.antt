-- The clauses of the public calls on the place of a fault.
use Rattle.std.proofs.Common.{◌≡◌, ℕ, List, Some, Err, sym, ap, ◌∙◌, arith}
use Rattle.syntax_lexer.specs.declared.fault.PlacedFault.{PlacedFault}
use Rattle.syntax_lexer.specs.declared.token.Position.{Position}
use Rattle.syntax_lexer.specs.Token.{Lexeme, position_of}
use Rattle.syntax_lexer.specs.Tokens.{EndsOnce}
use Rattle.syntax_trees.specs.Stop.{unfit, deep}
use Rattle.syntax_trees.specs.declared.error.Fault.TheVariants.{Grammar, Deep}
use Rattle.syntax_trees.specs.declared.error.ParseError.{ParseError}
use Rattle.syntax_trees.specs.declared.error.ParseError.TheVariants as errors
use Rattle.syntax_trees.specs.Errors.{placed_fault}
use Rattle.syntax_trees.specs.Parse.{Fails}
use Rattle.syntax.specs.Parse.{program}
use Rattle.syntax.specs.Places.{IsFirstUnfit, IsFirstDeep}
use Rattle.syntax.proofs.FirstDeep.{first_deep, none_deeper}
use Rattle.syntax.proofs.FirstUnfit.{first_unfit, place_found}

-- a fault stands at that position
abbrev pub At : PlacedFault → Position → Type 0
At f p = (p.line ≡ f.fault.line) × (f.offset ≡ Some p.offset)

unfit_at : (n : ℕ) (f : PlacedFault) (ts : List Lexeme) → program 100 ts ≡ Err (unfit n)
    → f ≡ placed_fault ts (errors.Fault Grammar n) → EndsOnce ts → IsFirstUnfit 100 ts (At f)
unfit_at n f ts h is once =
    let a = first_unfit 100 n ts once h in
    let there = place_found ts a.front a.token a.after n a.is a.counts in
    record {
      front = a.front;
      token = a.token;
      after = a.after;
      is = a.is;
      fits = a.fits;
      does_not = a.does_not;
      none_deeper = none_deeper 100 n ts h;
      stands = (
        sym (ap (λ (x : PlacedFault). x.fault.line) is ∙ ap (λ (p : Position). p.line) there),
        ap (λ (x : PlacedFault). x.offset) is ∙ ap (λ (p : Position). Some p.offset) there,
      );
    }

pub err_place : (e : ParseError) (f : PlacedFault) (ts : List Lexeme) → Fails e (program 100 ts)
    → f ≡ placed_fault ts e → f.fault.number ≡ 10 → EndsOnce ts → IsFirstUnfit 100 ts (At f)
err_place errors.Memory f ts h is n = absurd (omega (arith, n, ap (λ (x : PlacedFault). x.fault.number) is))
err_place (errors.Fault Grammar left) f ts h is n = unfit_at left f ts h is
err_place (errors.Fault Deep left) f ts h is n =
    absurd (omega (arith, n, ap (λ (x : PlacedFault). x.fault.number) is))

-- ---- nested too deep

deep_there : (n : ℕ) (f : PlacedFault) (ts : List Lexeme) → program 100 ts ≡ Err (deep n)
    → f ≡ placed_fault ts (errors.Fault Deep n) → IsFirstDeep 100 ts (At f)
deep_there n f ts h is =
    let a = first_deep 100 n ts h in
    let there = place_found ts a.front a.token a.after n a.is a.counts in
    record {
      front = a.front;
      token = a.token;
      after = a.after;
      is = a.is;
      too_deep = a.too_deep;
      first = a.first;
      stands = (
        sym (ap (λ (x : PlacedFault). x.fault.line) is ∙ ap (λ (p : Position). p.line) there),
        ap (λ (x : PlacedFault). x.offset) is ∙ ap (λ (p : Position). Some p.offset) there,
      );
    }

pub err_deep_place : (e : ParseError) (f : PlacedFault) (ts : List Lexeme) → Fails e (program 100 ts)
    → f ≡ placed_fault ts e → f.fault.number ≡ 5 → IsFirstDeep 100 ts (At f)
err_deep_place errors.Memory f ts h is n = absurd (omega (arith, n, ap (λ (x : PlacedFault). x.fault.number) is))
err_deep_place (errors.Fault Grammar left) f ts h is n =
    absurd (omega (arith, n, ap (λ (x : PlacedFault). x.fault.number) is))
err_deep_place (errors.Fault Deep left) f ts h is n = deep_there left f ts h is

-- ---- of less

pub deep_less : {P Q : Position → Type 0} {most : ℕ} {ts : List Lexeme} → IsFirstDeep most ts P
    → ((p : Position) → P p → Q p) → IsFirstDeep most ts Q
deep_less a less = record {
  front = a.front;
  token = a.token;
  after = a.after;
  is = a.is;
  too_deep = a.too_deep;
  first = a.first;
  stands = less (position_of a.token) a.stands;
}

pub unfit_as : {P Q : Position → Type 0} {most : ℕ} {ts : List Lexeme} → IsFirstUnfit most ts P
    → ((p : Position) → P p → Q p) → IsFirstUnfit most ts Q
unfit_as a less = record {
  front = a.front;
  token = a.token;
  after = a.after;
  is = a.is;
  fits = a.fits;
  does_not = a.does_not;
  none_deeper = a.none_deeper;
  stands = less (position_of a.token) a.stands;
}
