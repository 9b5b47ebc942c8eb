use Rattle.std.proofs.Common.{◌∙◌, ◌-◌, take, drop, sym, arith}
use Rattle.ztext.specs.Text.{abbreviation}
use Rattle.ztext.proofs.Copies.{grown_long, keeps_new, read_again, keeps_again}
use Rattle.ztext.proofs.decoding.put_expansion.Goals as goal

pub put_again-requires-clause-within : goal.put_again-requires-clause-within
put_again-requires-clause-within c =
    (c.requires.keeps c.args.number c.in-Some.expansion (sym c.find.ensures ∙ c.in-Some.is)).within

pub returns-in-Some-clause-read : goal.returns-in-Some-clause-read
returns-in-Some-clause-read c = read_again c.args.story.now c.args.most c.args.number c.args.text.now.items
    c.put_again.new.text.items c.in-Some.expansion c.requires.room
    (c.requires.keeps c.args.number c.in-Some.expansion (sym c.find.ensures ∙ c.in-Some.is))
    c.in_ok-put_again.ensures.adds

pub returns-in-Some-clause-keeps : goal.returns-in-Some-clause-keeps
returns-in-Some-clause-keeps c =
    let old = c.args.text.now.items in
    keeps_again c.args.story.now c.args.most old c.put_again.new.text.items
    (take c.in-Some.expansion.length (drop c.in-Some.expansion.start old)) c.args.known.now c.requires.room
    c.in_ok-put_again.ensures.adds c.requires.keeps

pub returns-clause-keeps : goal.returns-clause-keeps
returns-clause-keeps c =
    let old = c.args.text.now.items in
    let now = c.put_abbreviation.new.text.items in
    keeps_new c.args.story.now c.args.most c.args.number old now c.args.known.now c.note.new.self
    (record { start = c.len-start.result; length = c.len.result - c.len-start.result }) c.requires.room
    c.in_ok-put_abbreviation.ensures.read (omega arith)
    (omega (
      arith,
      grown_long c.args.most old now (abbreviation c.args.story.now c.args.number) c.requires.room
          c.in_ok-put_abbreviation.ensures.read,
    )) c.note.ensures c.requires.keeps
