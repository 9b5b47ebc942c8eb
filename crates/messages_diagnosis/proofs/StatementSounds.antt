-- The rules that a statement breaks are broken at its tokens.
use Rattle.std.proofs.Common.{ℕ, nat_lt, Bool, List, Option, refl}
use Rattle.std.specs.List.{flat_map}
use Rattle.syntax_lexer.specs.declared.token.Position.{Position}
use Rattle.syntax_lexer.specs.Token.{Lexeme, position_of}
use Rattle.syntax_trees.specs.Tree.{ExpressionTree}
use Rattle.syntax_statements.specs.PartTree.{PrintItemTree, FlagTree}
use Rattle.syntax_statements.specs.PartGrammar.{IsOptional, optional_none, optional_some, loop_all, loop_in, loop_where}
use Rattle.syntax_statements.specs.PartGrammar.{IsItem, item_text, item_character, item_object, item_number, IsItems}
use Rattle.syntax_statements.specs.PartGrammar.{items_last, items_comma, IsFlag, flag_given, flag_taken, IsFlags}
use Rattle.syntax_statements.specs.PartGrammar.{flags_none, flags_next, IsGiven, given_first}
use Rattle.syntax_statements.specs.Tree.{StatementTree, StatementTrees, CaseTrees}
use Rattle.syntax_statements.specs.Grammar.{IsS, s_empty, s_block, s_text, s_print, s_print_ret, s_new_line, s_if}
use Rattle.syntax_statements.specs.Grammar.{s_if_else, s_while, s_do, s_for, s_switch, s_break, s_continue, s_return}
use Rattle.syntax_statements.specs.Grammar.{s_return_value, s_rtrue, s_rfalse, s_quit, s_read, s_give, s_move, s_remove}
use Rattle.syntax_statements.specs.Grammar.{s_objectloop, s_effect, IsSs, ss_stop, ss_next, IsCases, cases_none}
use Rattle.syntax_statements.specs.Grammar.{cases_default, cases_next}
use Rattle.meaning.specs.declared.enclosure.Enclosure.{Enclosure}
use Rattle.meaning.specs.Enclosure.{in_loop, in_switch}
use Rattle.meaning.specs.Limits.{most_temporaries}
use Rattle.checker_values.specs.declared.binding.Binding.{Binding}
use Rattle.checker_values.specs.Expressions.{breaches}
use Rattle.checker_values.specs.Temporaries.{need}
use Rattle.checker_statements.specs.Statements.{room_breaches, outside_breaches, whole_breaches, part_breaches}
use Rattle.checker_statements.specs.Statements.{heading_need, item_breaches, flag_breaches, move_need}
use Rattle.checker_statements.specs.Statements.{statement_breaches, statements_breaches, cases_breaches}
use Rattle.messages_diagnosis.proofs.Sounds.{Sounds, nothing, one, join, if_then, Stand, first, after}
use Rattle.messages_diagnosis.proofs.Names.{attribute_sounds, loop_sounds, buffer_sounds, same_sounds}
use Rattle.messages_diagnosis.proofs.Expressions.{sound_E, sound_E1, sound_E3}
use Rattle.messages_diagnosis.proofs.Values.{sound_Ranges}

module _ (P : Position → Type 0) where
  room_sounds : (p : Position) → P p → (n : ℕ) → Sounds P (room_breaches p n)
  room_sounds p h n = if_then (nat_lt most_temporaries n) (one h refl) nothing

  outside_sounds : (p : Position) → P p → (stands : Bool) → Sounds P (outside_breaches stands p)
  outside_sounds p h stands = if_then stands nothing (one h refl)

  module _ (look : List ℕ → Option Binding) where
    whole_sounds : (p : Position) → P p → (e : ExpressionTree) → Sounds P (breaches look e)
        → Sounds P (whole_breaches look p e)
    whole_sounds p h e k = join (room_sounds p h (need e)) k

    record PartSound (e : Option ExpressionTree) (r : List Lexeme) : Type 0 where
      sounds : Sounds P (part_breaches look e)
      rest : Stand P r

    sound_Optional : {ts r : List Lexeme} {e : Option ExpressionTree} → IsOptional ts e r → Stand P ts → PartSound e r
    sound_Optional optional_none g = record { sounds = nothing; rest = g }
    sound_Optional (optional_some a) g =
        let l = sound_E P look a g in
        record { sounds = l.sounds; rest = l.rest }

    record ItemSound (x : PrintItemTree) (r : List Lexeme) : Type 0 where
      sounds : Sounds P (item_breaches look x)
      rest : Stand P r

    record ItemsSound (xs : List PrintItemTree) (r : List Lexeme) : Type 0 where
      sounds : Sounds P (flat_map (item_breaches look) xs)
      rest : Stand P r

    sound_Item : {ts r : List Lexeme} {x : PrintItemTree} → IsItem ts x r → Stand P ts → ItemSound x r
    sound_Item item_text g = record { sounds = nothing; rest = after g }
    sound_Item (item_character {t = t} {e = e} a) g =
        let h = after (after (after g)) in
        let l = sound_E P look a h in
        record { sounds = whole_sounds (position_of t) (first h) e l.sounds; rest = l.rest }
    sound_Item (item_object {t = t} {e = e} a) g =
        let h = after (after (after g)) in
        let l = sound_E P look a h in
        record { sounds = whole_sounds (position_of t) (first h) e l.sounds; rest = l.rest }
    sound_Item (item_number {t = t} {e = e} a) g =
        let l = sound_E P look a g in
        record { sounds = whole_sounds (position_of t) (first g) e l.sounds; rest = l.rest }

    sound_Items : {ts r : List Lexeme} {xs : List PrintItemTree} → IsItems ts xs r → Stand P ts → ItemsSound xs r
    sound_Items (items_last a) g =
        let l = sound_Item a g in
        record { sounds = join l.sounds nothing; rest = l.rest }
    sound_Items (items_comma a b) g =
        let l = sound_Item a g in
        let m = sound_Items b (after l.rest) in
        record { sounds = join l.sounds m.sounds; rest = m.rest }

    record FlagSound (x : FlagTree) (r : List Lexeme) : Type 0 where
      sounds : Sounds P (flag_breaches look x)
      rest : Stand P r

    record FlagsSound (xs : List FlagTree) (r : List Lexeme) : Type 0 where
      sounds : Sounds P (flat_map (flag_breaches look) xs)
      rest : Stand P r

    sound_Flag : {ts r : List Lexeme} {x : FlagTree} → IsFlag ts x r → Stand P ts → FlagSound x r
    sound_Flag (flag_given {n = n}) g = record { sounds = attribute_sounds _ (first g) (look n); rest = after g }
    sound_Flag (flag_taken {n = n}) g =
        record { sounds = attribute_sounds _ (first (after g)) (look n); rest = after (after g) }

    sound_Flags : {ts r : List Lexeme} {xs : List FlagTree} → IsFlags ts xs r → Stand P ts → FlagsSound xs r
    sound_Flags flags_none g = record { sounds = nothing; rest = g }
    sound_Flags (flags_next a b) g =
        let l = sound_Flag a g in
        let m = sound_Flags b l.rest in
        record { sounds = join l.sounds m.sounds; rest = m.rest }

    sound_Given : {ts r : List Lexeme} {xs : List FlagTree} → IsGiven ts xs r → Stand P ts → FlagsSound xs r
    sound_Given (given_first a b) g =
        let l = sound_Flag a g in
        let m = sound_Flags b l.rest in
        record { sounds = join l.sounds m.sounds; rest = m.rest }

    -- whatever is around it
    pub record StatementSound (x : StatementTree) (r : List Lexeme) : Type 0 where
      pub sounds : (around : Enclosure) → Sounds P (statement_breaches look around x)
      pub rest : Stand P r

    pub record StatementsSound (xs : StatementTrees) (r : List Lexeme) : Type 0 where
      pub sounds : (around : Enclosure) → Sounds P (statements_breaches look around xs)
      pub rest : Stand P r

    pub record CasesSound (cs : CaseTrees) (r : List Lexeme) : Type 0 where
      pub sounds : (around : Enclosure) → Sounds P (cases_breaches look around cs)
      pub rest : Stand P r

    mutual
      sound_S : {ts r : List Lexeme} {x : StatementTree} → IsS ts x r → Stand P ts → StatementSound x r
      sound_S s_empty g = record { sounds = λ around. nothing; rest = after g }
      sound_S (s_block a) g =
          let l = sound_Ss a (after g) in
          record { sounds = λ around. l.sounds around; rest = after l.rest }
      sound_S s_text g = record { sounds = λ around. nothing; rest = after (after g) }
      sound_S (s_print a) g =
          let l = sound_Items a (after g) in
          record { sounds = λ around. l.sounds; rest = after l.rest }
      sound_S (s_print_ret a) g =
          let l = sound_Items a (after g) in
          record { sounds = λ around. l.sounds; rest = after l.rest }
      sound_S s_new_line g = record { sounds = λ around. nothing; rest = after (after g) }
      sound_S (s_if {c = c} a b f) g =
          let l = sound_E P look a (after (after g)) in
          let m = sound_S b (after l.rest) in
          record { sounds = λ around. join (whole_sounds _ (first g) c l.sounds) (m.sounds around); rest = m.rest }
      sound_S (s_if_else {c = c} a b d) g =
          let l = sound_E P look a (after (after g)) in
          let m = sound_S b (after l.rest) in
          let n = sound_S d (after m.rest) in
          record {
            sounds = λ around. join (whole_sounds _ (first g) c l.sounds) (join (m.sounds around) (n.sounds around));
            rest = n.rest;
          }
      sound_S (s_while {c = c} a b) g =
          let l = sound_E P look a (after (after g)) in
          let m = sound_S b (after l.rest) in
          record { sounds = λ around. join (whole_sounds _ (first g) c l.sounds) (m.sounds in_loop); rest = m.rest }
      sound_S (s_do {c = c} a b) g =
          let l = sound_S a (after g) in
          let m = sound_E P look b (after (after l.rest)) in
          record {
            sounds = λ around. join (l.sounds in_loop) (whole_sounds _ (first g) c m.sounds);
            rest = after (after m.rest);
          }
      sound_S (s_for {a = x} {b = y} {c = z} a e b c f d) g =
          let l = sound_Optional a (after (after g)) in
          let m = sound_Optional b (after l.rest) in
          let n = sound_Optional c (after m.rest) in
          let o = sound_S d (after n.rest) in
          record {
            sounds = λ around. join
                (join (room_sounds _ (first g) (heading_need x y z)) (join l.sounds (join m.sounds n.sounds)))
                (o.sounds in_loop);
            rest = o.rest;
          }
      sound_S (s_objectloop (loop_all {n = n}) b) g =
          let h = after (after g) in
          let m = sound_S b (after (after h)) in
          record {
            sounds = λ around. join (loop_sounds _ (first h) (look n)) (m.sounds in_loop);
            rest = m.rest;
          }
      sound_S (s_objectloop (loop_in {n = n} {e = e} a) b) g =
          let h = after (after g) in
          let l = sound_E3 P look a (after (after h)) in
          let m = sound_S b (after l.rest) in
          record {
            sounds = λ around. join (loop_sounds _ (first h) (look n))
                (join (whole_sounds _ (first g) e l.sounds) (m.sounds in_loop));
            rest = m.rest;
          }
      sound_S (s_objectloop (loop_where {n = n} {e = e} a f) b) g =
          let h = after (after g) in
          let l = sound_E1 P look a h in
          let m = sound_S b (after l.rest) in
          record {
            sounds = λ around. join (loop_sounds _ (first h) (look n))
                (join (whole_sounds _ (first g) e l.sounds) (m.sounds in_loop));
            rest = m.rest;
          }
      sound_S (s_switch {e = e} a b) g =
          let l = sound_E P look a (after (after g)) in
          let m = sound_Cases b (after (after l.rest)) in
          record {
            sounds = λ around. join (whole_sounds _ (first g) e l.sounds) (m.sounds (in_switch around));
            rest = after m.rest;
          }
      sound_S s_break g =
          record { sounds = λ around. outside_sounds _ (first g) around.can_break; rest = after (after g) }
      sound_S s_continue g =
          record { sounds = λ around. outside_sounds _ (first g) around.can_continue; rest = after (after g) }
      sound_S s_return g = record { sounds = λ around. nothing; rest = after (after g) }
      sound_S (s_return_value {e = e} a) g =
          let l = sound_E P look a (after g) in
          record { sounds = λ around. whole_sounds _ (first g) e l.sounds; rest = after l.rest }
      sound_S s_rtrue g = record { sounds = λ around. nothing; rest = after (after g) }
      sound_S s_rfalse g = record { sounds = λ around. nothing; rest = after (after g) }
      sound_S s_quit g = record { sounds = λ around. nothing; rest = after (after g) }
      sound_S (s_read {a = n} {b = m}) g =
          let h = after g in
          let k = after h in
          record {
            sounds = λ around. join (buffer_sounds _ (first h) (look n))
                (join (buffer_sounds _ (first k) (look m)) (same_sounds _ (first k) (look n) (look m)));
            rest = after (after k);
          }
      sound_S (s_give {e = e} a b) g =
          let l = sound_E P look a (after g) in
          let m = sound_Given b l.rest in
          record { sounds = λ around. join (whole_sounds _ (first g) e l.sounds) m.sounds; rest = after m.rest }
      sound_S (s_move {a = x} {b = y} a b) g =
          let l = sound_E P look a (after g) in
          let m = sound_E P look b (after l.rest) in
          record {
            sounds = λ around. join (room_sounds _ (first g) (move_need x y)) (join l.sounds m.sounds);
            rest = after m.rest;
          }
      sound_S (s_remove {e = e} a) g =
          let l = sound_E P look a (after g) in
          record { sounds = λ around. whole_sounds _ (first g) e l.sounds; rest = after l.rest }
      sound_S (s_effect {t = t} {e = e} a f) g =
          let l = sound_E P look a g in
          record { sounds = λ around. whole_sounds (position_of t) (first g) e l.sounds; rest = after l.rest }

      pub sound_Ss : {ts r : List Lexeme} {xs : StatementTrees} → IsSs ts xs r → Stand P ts → StatementsSound xs r
      sound_Ss ss_stop g = record { sounds = λ around. nothing; rest = g }
      sound_Ss (ss_next a b) g =
          let l = sound_S a g in
          let m = sound_Ss b l.rest in
          record { sounds = λ around. join (l.sounds around) (m.sounds around); rest = m.rest }

      sound_Cases : {ts r : List Lexeme} {cs : CaseTrees} → IsCases ts cs r → Stand P ts → CasesSound cs r
      sound_Cases cases_none g = record { sounds = λ around. nothing; rest = g }
      sound_Cases (cases_default a) g =
          let l = sound_Ss a (after (after g)) in
          record { sounds = λ around. l.sounds around; rest = l.rest }
      sound_Cases (cases_next a b c) g =
          let l = sound_Ranges P look a g in
          let m = sound_Ss b (after l.rest) in
          let n = sound_Cases c m.rest in
          record { sounds = λ around. join l.sounds (join (m.sounds around) (n.sounds around)); rest = n.rest }
