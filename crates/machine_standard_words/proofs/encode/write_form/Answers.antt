use Rattle.std.proofs.Common.{sym, ap, ◌∙◌}
use Rattle.zcore_standard.specs.Words.{are_writable}
use Rattle.machine_frames.specs.Contents.{memory_of}
use Rattle.machine_standard_words.proofs.Encoding.{bytes_written, bytes_unwritten}
use Rattle.machine_standard_words.proofs.encode.write_form.Goals as goal

pub returns-then-not-are_writable : goal.returns-then-not-are_writable
returns-then-not-are_writable c =
    let m = memory_of c.args.store.now.store in
    bytes_unwritten c.args.store.now c.args.coded c.args.form.now c.requires.sound
    (ap (are_writable m c.args.coded) c.told-form ∙ sym (c.are_writable.ensures m c.requires.headed.static_base)
    ∙ c.if-not-are_writable.true)

pub returns : goal.returns
returns c =
    let m = memory_of c.args.store.now.store in
    bytes_written c.args.store.now c.fill.new.store c.args.coded c.args.form.now
    (ap (are_writable m c.args.coded) c.told-form ∙ sym (c.are_writable.ensures m c.requires.headed.static_base)
    ∙ c.if-not-are_writable.false) c.in_ok-fill.ensures.filled
