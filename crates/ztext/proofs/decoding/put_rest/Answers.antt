use Rattle.std.proofs.Common.{◌∙◌, ◌*◌, refl, ap, sym, arith}
use Rattle.std.proofs.lemmas.List.{take_all}
use Rattle.ztext.specs.Text.{abbreviation}
use Rattle.ztext.specs.TextParts.{words_of}
use Rattle.ztext.proofs.Fronts.{stays_twice}
use Rattle.ztext.proofs.Copies.{keeps_none, keeps_still, left_of, numbered, passed, rest_is}
use Rattle.ztext.proofs.decoding.put_rest.Goals as goal

pub loop-named-init : goal.loop-named-init
loop-named-init c = record {
  room = c.requires.room;
  number = c.requires.number;
  stays = take_all _ c.args.text.now.items (omega arith);
  keeps = keeps_none c.args.story.now c.args.most c.args.text.now.items c.none-known.result c.none-known.ensures;
  so_far = refl;
}

pub loop-named-preserved : goal.loop-named-preserved
loop-named-preserved c =
    let expand = abbreviation c.args.story.now in
    let most = c.args.most in
    let text = c.loop-named.text.items in
    let grown = c.put_expansion.new.text.items in
    let zs = words_of c.args.words c.args.bytes.now in
    record {
      room = c.in_ok-named.ensures.room;
      number = numbered c.in-Some.field-0.after (3 * c.args.words) c.in_ok-named.named c.in_ok-named.ensures.named;
      stays = stays_twice c.args.text.now.items grown c.put_plain.new.text.items
          (stays_twice c.args.text.now.items text grown c.loop-named.invariant.stays
          c.in_ok-put_expansion.ensures.stays)
          c.in_ok-named.ensures.stays;
      keeps = keeps_still c.args.story.now most grown c.put_plain.new.text.items c.put_expansion.new.known
          c.in_ok-named.ensures.stays c.in_ok-put_expansion.ensures.keeps;
      so_far =
          sym (passed expand most grown c.put_plain.new.text.items zs c.in-Some.field-0.after c.in_ok-named.named
          (c.in_ok-named.ensures.read expand))
          ∙ sym (rest_is expand most text grown zs c.in-Some.field-0 c.in_ok-put_expansion.ensures.read)
          ∙ sym (ap (left_of expand most text zs) c.in-Some.is) ∙ c.loop-named.invariant.so_far;
    }
