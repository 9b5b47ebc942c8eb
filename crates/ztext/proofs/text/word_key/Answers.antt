use Rattle.std.proofs.Common.{◌∙◌, refl, arith}
use Rattle.ztext.proofs.Spelling.{bytes_from_index}
use Rattle.ztext.proofs.Keys.{key_small, key_is, nothing_filled}
use Rattle.ztext.proofs.text.word_key.Goals as goal

pub key_bytes-requires : goal.key_bytes-requires
key_bytes-requires c = key_small c.args.word.now c.loop-c.key c.loop-c.count c.loop-c.c-index
    (bytes_from_index c.args.word.now (λ i. omega (arith, c.type_inv.word i))) c.loop-c.invariant.so_far

pub returns : goal.returns
returns c = c.key_bytes.ensures ∙ key_is c.args.word.now c.loop-c.key c.loop-c.count c.loop-c.c-index (omega arith)
    c.loop-c.invariant.so_far

pub loop-c-init : goal.loop-c-init
loop-c-init c = record { room = omega arith; so_far = record { characters = nothing_filled; many = refl } }
