use Rattle.std.proofs.Common.{◌≡◌, ◌<◌, length, take, refl, sym, ◌∙◌, arith}
use Rattle.std.proofs.lemmas.List.{length-take}
use Rattle.machine_standard_texts.proofs.Among.{among_next, among_found, among_none}
use Rattle.machine_standard_texts.proofs.codes.code_among.Goals as goal

pub loop-i-init : goal.loop-i-init
loop-i-init c = refl

pub loop-i-preserved : goal.loop-i-preserved
loop-i-preserved c =
    let long = length-take 97 c.args.extra.now in
    let lt : c.loop-i.i < length (take 97 c.args.extra.now) = omega (arith, long, c.loop-i-test.true) in
    c.loop-i.invariant
    ∙ among_next c.args.extra.now c.loop-i.i 97 155 c.args.character (omega (arith, long, lt)) lt
    c.if-candidate-character.false

pub returns-then-candidate-character : goal.returns-then-candidate-character
returns-then-candidate-character c =
    let long = length-take 97 c.args.extra.now in
    let lt : c.loop-i.i < length (take 97 c.args.extra.now) = omega (arith, long, c.loop-i-test.true) in
    sym (c.loop-i.invariant
    ∙ among_found c.args.extra.now c.loop-i.i 97 _ c.args.character (omega (arith, long, lt)) lt
    c.if-candidate-character.true)

pub returns : goal.returns
returns c =
    let long = length-take 97 c.args.extra.now in
    let all : c.loop-i.i ≡ length (take 97 c.args.extra.now) = omega (arith, long, c.loop-i-test.false) in
    sym (c.loop-i.invariant ∙ (rw all (among_none (take 97 c.args.extra.now) _ c.args.character)))
