use Rattle.std.proofs.Common.{◌∙◌}
use Rattle.std.proofs.lemmas.Result.{err_from_is_err_and}
use Rattle.ztext.specs.Text.{refused}
use Rattle.ztext.specs.TextParts.{words_of}
use Rattle.machine_locked_texts.proofs.LockedReading.{no_table, text_alone, nowhere}
use Rattle.machine_standard_texts.proofs.Printed.{extends_still}
use Rattle.machine_locked_texts.proofs.reading.put_abbreviation.Goals as goal

pub returns-in_err-address-clause-read : goal.returns-in_err-address-clause-read
returns-in_err-address-clause-read c =
    let p = err_from_is_err_and c.from_residual.result c.from_residual.ensures.1 in
    rw (p.1, p.2)
    (no_table c.args.version c.args.story.now c.args.number c.in_err-address.field-0.0
    c.in_err-address.ensures.0 c.in_err-address.ensures.1)

pub returns-in_err-address-clause-text : goal.returns-in_err-address-clause-text
returns-in_err-address-clause-text c = extends_still c.args.start c.args.text.now.items c.requires.text

pub returns-in_err-words-clause-read : goal.returns-in_err-words-clause-read
returns-in_err-words-clause-read c =
    let p = err_from_is_err_and c.from_residual-in_err-words.result c.from_residual-in_err-words.ensures.1 in
    rw (p.1, p.2)
    (nowhere c.args.version c.args.story.now c.args.number c.in_err-words.field-0.0
    c.bytes_from-bytes.result.now c.in_ok-address.address c.in_ok-address.ensures.0 c.in_ok-address.ensures.1
    c.bytes_from-bytes.ensures c.in_err-words.ensures.words)

pub returns-in_err-words-clause-text : goal.returns-in_err-words-clause-text
returns-in_err-words-clause-text c = extends_still c.args.start c.args.text.now.items c.requires.text

pub returns-in-Some-clause-read : goal.returns-in-Some-clause-read
returns-in-Some-clause-read c =
    text_alone c.args.version c.args.story.now c.args.number c.bytes_from-bytes.result.now
    c.in_ok-address.address _ (words_of c.in_ok-words.words c.bytes_from-bytes.result.now)
    c.in_ok-address.ensures.0 c.in_ok-address.ensures.1 c.bytes_from-bytes.ensures c.in_ok-words.ensures.words
    ∙ c.in-Some.ensures.read.1 refused

pub returns-in-None-clause-read : goal.returns-in-None-clause-read
returns-in-None-clause-read c =
    let read = c.in-None.ensures.read in (
      read.0,
      text_alone c.args.version c.args.story.now c.args.number c.bytes_from-bytes.result.now
          c.in_ok-address.address _ (words_of c.in_ok-words.words c.bytes_from-bytes.result.now)
          c.in_ok-address.ensures.0 c.in_ok-address.ensures.1 c.bytes_from-bytes.ensures c.in_ok-words.ensures.words
          ∙ read.1 refused,
      read.2,
    )
