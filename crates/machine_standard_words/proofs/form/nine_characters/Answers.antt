use Rattle.std.proofs.Common.{refl, arith}
use Rattle.ztext.proofs.Spelling.{bytes_from_index}
use Rattle.ztext.proofs.Keys.{nothing_filled}
use Rattle.machine_standard_words.proofs.Forms.{form_small, nine_is}
use Rattle.machine_standard_words.proofs.form.nine_characters.Goals as goal

pub returns-clause-nine : goal.returns-clause-nine
returns-clause-nine c = nine_is c.args.alphabets.now c.args.word.now c.loop-c.characters c.loop-c.count c.loop-c.c-index
    (omega arith) c.loop-c.invariant.so_far

pub returns-clause-small : goal.returns-clause-small
returns-clause-small c = form_small c.args.alphabets.now c.args.word.now c.loop-c.characters c.loop-c.count
    c.loop-c.c-index c.told-alphabets (bytes_from_index c.args.word.now (λ i. omega (arith, c.type_inv.word i)))
    c.loop-c.invariant.so_far

pub loop-c-init : goal.loop-c-init
loop-c-init c = record { room = omega arith; so_far = record { characters = nothing_filled; many = refl } }
