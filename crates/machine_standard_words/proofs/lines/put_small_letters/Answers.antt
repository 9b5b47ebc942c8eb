use Rattle.std.proofs.Common.{◌≡◌, ap, sym, ◌∙◌}
use Rattle.std.specs.Str.{chars}
use Rattle.std.proofs.lemmas.Iterator.{YieldsList-from_chars}
use Rattle.std.proofs.lemmas.Iterator.Consumers.{YieldsList-end}
use Rattle.std.proofs.lemmas.List.{map-id}
use Rattle.zcore_standard.specs.Input.{small, text_typed}
use Rattle.zcore_standard.specs.Streams.{zscii_of}
use Rattle.machine_standard_words.proofs.Putting.{put_all}
use Rattle.machine_standard_words.proofs.lines.put_small_letters.Goals as goal

pub returns-clause-letters : goal.returns-clause-letters
returns-clause-letters c =
    let text = c.text_of.result.now in
    let t = YieldsList-end (YieldsList-from_chars text c.text_of.utf8 cc) c.loop-character.yielded _
    c.loop-character.yielded_by _ _ c.in-None.is c.next.ensures.steps in
    let all : c.loop-character.yielded ≡ chars (text_typed c.args.line.now) =
    sym (map-id c.loop-character.yielded) ∙ t.0 ∙ ap chars c.text_of.ensures in
    put_all (small c.args.extra.now) (zscii_of c.args.extra.now) _ _ c.loop-character.yielded _ _ _ _
    c.loop-character.invariant all
