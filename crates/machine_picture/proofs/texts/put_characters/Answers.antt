use Rattle.std.proofs.Common.{sym, arith, refl, append-nil}
use Rattle.zcore_standard.specs.Unicode.{utf_8}
use Rattle.machine_picture.proofs.Rows.{characters_all, characters_more}
use Rattle.machine_picture.proofs.texts.put_characters.Goals as goal

pub loop-i-init : goal.loop-i-init
loop-i-init c = record { so_far = sym (append-nil c.args.text.now.items) }

pub loop-i-preserved : goal.loop-i-preserved
loop-i-preserved c = record {
  so_far = characters_more utf_8 c.args.text.now.items _ _ c.args.characters.now c.loop-i.i _ (omega arith) refl
      c.loop-i.invariant.so_far c.in_ok-put_character.ensures;
}

pub returns : goal.returns
returns c = characters_all utf_8 c.args.text.now.items _ c.args.characters.now c.loop-i.i (omega arith)
    c.loop-i.invariant.so_far
