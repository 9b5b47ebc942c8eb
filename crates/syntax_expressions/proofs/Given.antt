-- The laws that the crate gives.
use Rattle.std.proofs.Common.{◌≡◌, ◌<◌, max, false, List, Result, Ok, sym, ap, ◌∙◌, arith}
use Rattle.syntax_lexer.specs.declared.token.Sign.TheVariants as s
use Rattle.syntax_lexer.specs.declared.token.Word.{Word}
use Rattle.syntax_lexer.specs.declared.token.Word.TheVariants as w
use Rattle.syntax_lexer.specs.Token.{Lexeme, reserved, sign}
use Rattle.syntax_trees.specs.Tree.{ExpressionTree}
use Rattle.syntax_trees.specs.Stop.{Stop}
use Rattle.syntax_trees.specs.Parse.{head}
use Rattle.syntax_expressions.specs.Grammar.{nesting}
use Rattle.syntax_expressions.specs.Laws.{word_goes_on, continues, goes_on, ReadsWhatDerives, DerivesWhatIsRead}
use Rattle.syntax_expressions.specs.Laws.{DeepWhereDeep, OneTree, ReadsUnassigned, UnassignedIsRead, UnassignedDeep}
use Rattle.syntax_expressions.specs.Laws.{OneUnassigned, DeepAtFirst, UnassignedAtFirst}
use Rattle.syntax_expressions.proofs.Follow.{word_binds, binds}
use Rattle.syntax_expressions.proofs.Sound.{judged_E, judged_E1}
use Rattle.syntax_expressions.proofs.Complete.{at_E, at_E1}
use Rattle.syntax_expressions.proofs.DeepExpressions.{deep_E, deep_E1}

word_stops : (r : Word) → word_goes_on r ≡ false → word_binds r < 1
word_stops w.Or e = absurd cc
word_stops w.In e = absurd cc
word_stops w.Notin e = absurd cc
word_stops w.Has e = absurd cc
word_stops w.Hasnt e = absurd cc
word_stops w.Provides e = absurd cc
word_stops _ e = omega arith

pub goes_no_further : (t : Lexeme) → continues t ≡ false → binds t < 2
goes_no_further (reserved r p) e = omega (arith, word_stops r e)
goes_no_further (sign s.Assign p) e = omega arith
goes_no_further (sign s.AndAlso p) e = absurd cc
goes_no_further (sign s.OrElse p) e = absurd cc
goes_no_further (sign s.Less p) e = absurd cc
goes_no_further (sign s.Greater p) e = absurd cc
goes_no_further (sign s.LessOrEqual p) e = absurd cc
goes_no_further (sign s.GreaterOrEqual p) e = absurd cc
goes_no_further (sign s.Equal p) e = absurd cc
goes_no_further (sign s.NotEqual p) e = absurd cc
goes_no_further (sign s.Plus p) e = absurd cc
goes_no_further (sign s.Minus p) e = absurd cc
goes_no_further (sign s.Star p) e = absurd cc
goes_no_further (sign s.Slash p) e = absurd cc
goes_no_further (sign s.Percent p) e = absurd cc
goes_no_further (sign s.Ampersand p) e = absurd cc
goes_no_further (sign s.Bar p) e = absurd cc
goes_no_further (sign s.Arrow p) e = absurd cc
goes_no_further (sign s.LongArrow p) e = absurd cc
goes_no_further (sign s.Increment p) e = absurd cc
goes_no_further (sign s.Decrement p) e = absurd cc
goes_no_further (sign s.OpenParenthesis p) e = absurd cc
goes_no_further (sign s.Dot p) e = absurd cc
goes_no_further (sign s.DotAmpersand p) e = absurd cc
goes_no_further (sign s.DotHash p) e = absurd cc
goes_no_further _ e = omega arith

pub stops_there : (t : Lexeme) → goes_on t ≡ false → binds t < 1
stops_there (sign s.Assign p) e = absurd cc
stops_there (sign s.AndAlso p) e = absurd cc
stops_there (sign s.OrElse p) e = absurd cc
stops_there (sign s.Less p) e = absurd cc
stops_there (sign s.Greater p) e = absurd cc
stops_there (sign s.LessOrEqual p) e = absurd cc
stops_there (sign s.GreaterOrEqual p) e = absurd cc
stops_there (sign s.Equal p) e = absurd cc
stops_there (sign s.NotEqual p) e = absurd cc
stops_there (reserved r p) e = word_stops r e
stops_there (sign s.Plus p) e = absurd cc
stops_there (sign s.Minus p) e = absurd cc
stops_there (sign s.Star p) e = absurd cc
stops_there (sign s.Slash p) e = absurd cc
stops_there (sign s.Percent p) e = absurd cc
stops_there (sign s.Ampersand p) e = absurd cc
stops_there (sign s.Bar p) e = absurd cc
stops_there (sign s.Arrow p) e = absurd cc
stops_there (sign s.LongArrow p) e = absurd cc
stops_there (sign s.Increment p) e = absurd cc
stops_there (sign s.Decrement p) e = absurd cc
stops_there (sign s.Dot p) e = absurd cc
stops_there (sign s.DotAmpersand p) e = absurd cc
stops_there (sign s.DotHash p) e = absurd cc
stops_there (sign s.OpenParenthesis p) e = absurd cc
stops_there _ e = omega arith

pub sound : ReadsWhatDerives
sound d ts r e h = (judged_E d ts).read (e, r) h

pub complete : DerivesWhatIsRead
complete d ts r e a o =
    let l = at_E a d (stops_there (head r) o) in
    (l.within, l.beyond)

pub deep : DeepWhereDeep
deep d left ts h =
    let s = (judged_E d ts).deep left h in
    (s.from, s.is, s.left)

pub at_first : DeepAtFirst
at_first d n ts u x lt = (deep_E x d).stops lt

abbrev found : ExpressionTree × List Lexeme → Result (ExpressionTree × List Lexeme) Stop
found x = Ok x

found_is : (x y : ExpressionTree × List Lexeme) → found x ≡ found y → x ≡ y
found_is x y e = cc

pub one_tree : OneTree
one_tree ts r u a b p q o g =
    let d = max (nesting a) (nesting b) in
    let first = (at_E p d (stops_there (head r) o)).within (omega arith) in
    let second = (at_E q d (stops_there (head u) g)).within (omega arith) in
    let same = found_is (a, r) (b, u) (sym first ∙ second) in
    (ap (λ (x : ExpressionTree × List Lexeme). x.0) same, ap (λ (x : ExpressionTree × List Lexeme). x.1) same)

-- ---- without an assignment at the root

pub sound_unassigned : ReadsUnassigned
sound_unassigned d ts r e h = (judged_E1 d ts).read (e, r) h

pub complete_unassigned : UnassignedIsRead
complete_unassigned d ts r e a o =
    let l = at_E1 a d (goes_no_further (head r) o) in
    (l.within, l.beyond)

pub deep_unassigned : UnassignedDeep
deep_unassigned d left ts h =
    let s = (judged_E1 d ts).deep left h in
    (s.from, s.is, s.left)

pub unassigned_at_first : UnassignedAtFirst
unassigned_at_first d n ts u x lt = (deep_E1 x d).stops lt

pub one_unassigned : OneUnassigned
one_unassigned ts r u a b p q o g =
    let d = max (nesting a) (nesting b) in
    let first = (at_E1 p d (goes_no_further (head r) o)).within (omega arith) in
    let second = (at_E1 q d (goes_no_further (head u) g)).within (omega arith) in
    let same = found_is (a, r) (b, u) (sym first ∙ second) in
    (ap (λ (x : ExpressionTree × List Lexeme). x.0) same, ap (λ (x : ExpressionTree × List Lexeme). x.1) same)
