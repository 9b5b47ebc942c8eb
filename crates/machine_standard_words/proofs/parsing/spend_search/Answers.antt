use Rattle.std.proofs.Common.{[], sym, subst, ◌∙◌}
use Rattle.zcore_standard.specs.Fuel.{spend_for}
use Rattle.machine_opcodes.specs.Says.{Says}
use Rattle.machine_standard_words.proofs.Tokens.{head_of, other_read, other_searched, own_searched}
use Rattle.machine_standard_words.proofs.parsing.spend_search.Goals as goal

pub returns-then-dictionary-header : goal.returns-then-dictionary-header
returns-then-dictionary-header c = subst (λ n. Says c.spend_for.result (spend_for n c.args.fuel))
    (sym (own_searched c.args.memory.now [] c.args.text c.args.parse c.args.dictionary
    (c.if-dictionary-header.true ∙ c.requires.own)))
    c.spend_for.ensures

pub count_words-words-requires : goal.count_words-words-requires
count_words-words-requires c =
    head_of c.args.memory.now c.args.dictionary
    (other_read c.args.memory.now c.args.dictionary c.requires.dictionary
    (λ e. c.if-dictionary-header.false (e ∙ sym c.requires.own)))

pub entry_bytes-requires : goal.entry_bytes-requires
entry_bytes-requires c =
    head_of c.args.memory.now c.args.dictionary
    (other_read c.args.memory.now c.args.dictionary c.requires.dictionary
    (λ e. c.if-dictionary-header.false (e ∙ sym c.requires.own)))

pub returns : goal.returns
returns c = subst (λ n. Says c.spend_for-2.result (spend_for n c.args.fuel))
    (other_searched c.args.memory.now c.text_in.result.now c.args.text c.args.parse c.args.dictionary _ _
    (λ e. c.if-dictionary-header.false (e ∙ sym c.requires.own)) c.entry_bytes.ensures.same c.text_in.ensures.letters
    c.count_words-words.ensures)
    c.spend_for-2.ensures
