-- The rules that an expression breaks are broken at its tokens.
use Rattle.std.proofs.Common.{ℕ, Bool, true, false, List, Option, Some, None, refl}
use Rattle.std.specs.Prelude.{IfSome}
use Rattle.syntax_lexer.specs.declared.token.Position.{Position}
use Rattle.syntax_lexer.specs.Token.{Lexeme}
use Rattle.syntax_trees.specs.Tree.{NameTree, ExpressionTree, ExpressionTrees}
use Rattle.syntax_expressions.specs.Grammar.{IsE, e_plain, e_assign, IsE1, e1_plain, e1_logical, IsN1, n1_plain, n1_not}
use Rattle.syntax_expressions.specs.Grammar.{IsE2, e2_plain, e2_compare, e2_equal, e2_contained, e2_tested, IsChoice}
use Rattle.syntax_expressions.specs.Grammar.{choice_last, choice_or, IsE3, e3_plain, e3_add, IsE4, e4_plain, e4_scale}
use Rattle.syntax_expressions.specs.Grammar.{IsN4, n4_plain, n4_complement, IsE5, e5_plain, e5_index, e5_entry, IsU}
use Rattle.syntax_expressions.specs.Grammar.{u_plain, u_minus, u_before, u_after, u_length, IsP, p_property, p_number}
use Rattle.syntax_expressions.specs.Grammar.{p_character, p_word, p_true, p_false, p_nothing, p_name, p_call}
use Rattle.syntax_expressions.specs.Grammar.{p_call_with, p_relative, p_parenthesised, IsArguments, arguments_last}
use Rattle.syntax_expressions.specs.Grammar.{arguments_comma}
use Rattle.checker_values.specs.declared.binding.Binding.{Binding}
use Rattle.checker_values.specs.declared.breach.Breach.{Breach}
use Rattle.checker_values.specs.Names.{name_of, is_place}
use Rattle.checker_values.specs.Expressions.{breaches, all_breaches, left_breaches, assigned_breaches, count}
use Rattle.messages_diagnosis.proofs.Sounds.{Sounds, nothing, one, join, Stand, first, after}
use Rattle.messages_diagnosis.proofs.Names.{value_sounds, call_sounds, array_sounds, property_sounds, tested_sounds}
use Rattle.messages_diagnosis.proofs.Names.{target_sounds}

module _ (P : Position → Type 0) (look : List ℕ → Option Binding) where
  -- an expression, with the tokens behind it; and the name that it is, if it is one
  pub record Sound (e : ExpressionTree) (r : List Lexeme) : Type 0 where
    pub sounds : Sounds P (breaches look e)
    pub named : IfSome (name_of e) (λ n. P n.position)
    pub rest : Stand P r

  pub record AllSound (es : ExpressionTrees) (r : List Lexeme) : Type 0 where
    pub sounds : Sounds P (all_breaches look es)
    pub rest : Stand P r

  left_sounds : (operator : Position) → P operator → (n : Option NameTree) → IfSome n (λ n. P n.position)
      → (inside : List Breach) → Sounds P inside → Sounds P (left_breaches look operator n inside)
  left_sounds q k (Some n) h xs inside = target_sounds n.position h q k (look n.text)
  left_sounds q k None h xs inside = join inside (one k refl)

  assigned_sounds : (operator : Position) → P operator → (n : Option NameTree) (is_one : Bool)
      → IfSome n (λ n. P n.position) → (inside : List Breach) → Sounds P inside
      → Sounds P (assigned_breaches look operator n is_one inside)
  assigned_sounds q k (Some n) is_one h xs inside = target_sounds n.position h q k (look n.text)
  assigned_sounds q k None true h xs inside = inside
  assigned_sounds q k None false h xs inside = join inside (one k refl)

  mutual
    pub sound_E : {ts r : List Lexeme} {e : ExpressionTree} → IsE ts e r → Stand P ts → Sound e r
    sound_E (e_plain a) g = sound_E1 a g
    sound_E (e_assign {a = x} a b) g =
        let l = sound_E1 a g in
        let m = sound_E b (after l.rest) in
        record {
          sounds = join (assigned_sounds _ (first l.rest) (name_of x) (is_place x) l.named _ l.sounds) m.sounds;
          named = tt;
          rest = m.rest;
        }

    pub sound_E1 : {ts r : List Lexeme} {e : ExpressionTree} → IsE1 ts e r → Stand P ts → Sound e r
    sound_E1 (e1_plain a) g = sound_N1 a g
    sound_E1 (e1_logical a o b) g =
        let l = sound_E1 a g in
        let m = sound_N1 b (after l.rest) in
        record { sounds = join l.sounds m.sounds; named = tt; rest = m.rest }

    sound_N1 : {ts r : List Lexeme} {e : ExpressionTree} → IsN1 ts e r → Stand P ts → Sound e r
    sound_N1 (n1_plain a) g = sound_E2 a g
    sound_N1 (n1_not a) g =
        let l = sound_N1 a (after g) in
        record { sounds = l.sounds; named = tt; rest = l.rest }

    sound_E2 : {ts r : List Lexeme} {e : ExpressionTree} → IsE2 ts e r → Stand P ts → Sound e r
    sound_E2 (e2_plain a) g = sound_E3 a g
    sound_E2 (e2_compare a o b) g =
        let l = sound_E3 a g in
        let m = sound_E3 b (after l.rest) in
        record { sounds = join l.sounds m.sounds; named = tt; rest = m.rest }
    sound_E2 (e2_equal a o b) g =
        let l = sound_E3 a g in
        let m = sound_Choice b (after l.rest) in
        record { sounds = join l.sounds m.sounds; named = tt; rest = m.rest }
    sound_E2 (e2_contained a o b) g =
        let l = sound_E3 a g in
        let m = sound_E3 b (after l.rest) in
        record { sounds = join l.sounds m.sounds; named = tt; rest = m.rest }
    sound_E2 (e2_tested {n = n} {test = test} a o) g =
        let l = sound_E3 a g in
        record {
          sounds = join l.sounds (tested_sounds _ (first (after l.rest)) test (look n));
          named = tt;
          rest = after (after l.rest);
        }

    sound_Choice : {ts r : List Lexeme} {es : ExpressionTrees} → IsChoice ts es r → Stand P ts → AllSound es r
    sound_Choice (choice_last a) g =
        let l = sound_E3 a g in
        record { sounds = join l.sounds nothing; rest = l.rest }
    sound_Choice (choice_or a b) g =
        let l = sound_E3 a g in
        let m = sound_Choice b (after l.rest) in
        record { sounds = join l.sounds m.sounds; rest = m.rest }

    pub sound_E3 : {ts r : List Lexeme} {e : ExpressionTree} → IsE3 ts e r → Stand P ts → Sound e r
    sound_E3 (e3_plain a) g = sound_E4 a g
    sound_E3 (e3_add a o b) g =
        let l = sound_E3 a g in
        let m = sound_E4 b (after l.rest) in
        record { sounds = join l.sounds m.sounds; named = tt; rest = m.rest }

    sound_E4 : {ts r : List Lexeme} {e : ExpressionTree} → IsE4 ts e r → Stand P ts → Sound e r
    sound_E4 (e4_plain a) g = sound_N4 a g
    sound_E4 (e4_scale a o b) g =
        let l = sound_E4 a g in
        let m = sound_N4 b (after l.rest) in
        record { sounds = join l.sounds m.sounds; named = tt; rest = m.rest }

    sound_N4 : {ts r : List Lexeme} {e : ExpressionTree} → IsN4 ts e r → Stand P ts → Sound e r
    sound_N4 (n4_plain a) g = sound_E5 a g
    sound_N4 (n4_complement a) g =
        let l = sound_N4 a (after g) in
        record { sounds = l.sounds; named = tt; rest = l.rest }

    sound_E5 : {ts r : List Lexeme} {e : ExpressionTree} → IsE5 ts e r → Stand P ts → Sound e r
    sound_E5 (e5_plain a) g = sound_U a g
    sound_E5 (e5_index {n = n} o a) g =
        let l = sound_U a (after (after g)) in
        record { sounds = join (array_sounds _ (first g) (look n)) l.sounds; named = tt; rest = l.rest }
    sound_E5 (e5_entry {n = n} a b) g =
        let l = sound_P a g in
        let m = sound_U b (after (after (after l.rest))) in
        record {
          sounds = join l.sounds (join (property_sounds _ (first (after l.rest)) (look n)) m.sounds);
          named = tt;
          rest = m.rest;
        }

    sound_U : {ts r : List Lexeme} {e : ExpressionTree} → IsU ts e r → Stand P ts → Sound e r
    sound_U (u_plain a) g = sound_P a g
    sound_U (u_minus a) g =
        let l = sound_U a (after g) in
        record { sounds = l.sounds; named = tt; rest = l.rest }
    sound_U (u_before {e = e} o a) g =
        let l = sound_P a (after g) in
        record { sounds = left_sounds _ (first g) (name_of e) l.named _ l.sounds; named = tt; rest = l.rest }
    sound_U (u_after {e = e} a o) g =
        let l = sound_P a g in
        record { sounds = left_sounds _ (first l.rest) (name_of e) l.named _ l.sounds; named = tt; rest = after l.rest }
    sound_U (u_length {n = n} a) g =
        let l = sound_P a g in
        record {
          sounds = join l.sounds (property_sounds _ (first (after l.rest)) (look n));
          named = tt;
          rest = after (after l.rest);
        }

    sound_P : {ts r : List Lexeme} {e : ExpressionTree} → IsP ts e r → Stand P ts → Sound e r
    sound_P (p_property {n = n} a) g =
        let l = sound_P a g in
        record {
          sounds = join l.sounds (property_sounds _ (first (after l.rest)) (look n));
          named = tt;
          rest = after (after l.rest);
        }
    sound_P p_number g = record { sounds = nothing; named = tt; rest = after g }
    sound_P p_character g = record { sounds = nothing; named = tt; rest = after g }
    sound_P p_word g = record { sounds = nothing; named = tt; rest = after g }
    sound_P p_true g = record { sounds = nothing; named = tt; rest = after g }
    sound_P p_false g = record { sounds = nothing; named = tt; rest = after g }
    sound_P p_nothing g = record { sounds = nothing; named = tt; rest = after g }
    sound_P (p_name {n = n}) g =
        record { sounds = value_sounds _ (first g) (look n); named = first g; rest = after g }
    sound_P (p_call {n = n}) g =
        record { sounds = join (call_sounds _ (first g) 0 (look n)) nothing; named = tt; rest = after (after (after g)) }
    sound_P (p_call_with {n = n} {es = es} a) g =
        let l = sound_Arguments a (after (after g)) in
        record { sounds = join (call_sounds _ (first g) (count es) (look n)) l.sounds; named = tt; rest = after l.rest }
    sound_P (p_relative o a) g =
        let l = sound_E a (after (after g)) in
        record { sounds = l.sounds; named = tt; rest = after l.rest }
    sound_P (p_parenthesised a) g =
        let l = sound_E a (after g) in
        record { sounds = l.sounds; named = l.named; rest = after l.rest }

    sound_Arguments : {ts r : List Lexeme} {es : ExpressionTrees} → IsArguments ts es r → Stand P ts → AllSound es r
    sound_Arguments (arguments_last a) g =
        let l = sound_E a g in
        record { sounds = join l.sounds nothing; rest = l.rest }
    sound_Arguments (arguments_comma a b) g =
        let l = sound_E a g in
        let m = sound_Arguments b (after l.rest) in
        record { sounds = join l.sounds m.sounds; rest = m.rest }
