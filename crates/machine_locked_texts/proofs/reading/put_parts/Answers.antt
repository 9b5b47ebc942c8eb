use Rattle.std.proofs.Common.{◌++◌, Option, drop, subst}
use Rattle.std.proofs.lemmas.Result.{err_from_is_err_and}
use Rattle.ztext.specs.TextParts.{words_of}
use Rattle.machine_standard_texts.specs.declared.characters.Halt.{Halt}
use Rattle.machine_standard_texts.specs.Put.{PrintsOn}
use Rattle.machine_locked_texts.proofs.LockedReading.{no_whole, whole_plain, whole_rest, whole_fails}
use Rattle.machine_standard_texts.proofs.Printed.{begun_by, extends_after, extends_still, on_then}
use Rattle.machine_locked_texts.proofs.reading.put_parts.Goals as goal

pub returns-in_err-words-clause-fails : goal.returns-in_err-words-clause-fails
returns-in_err-words-clause-fails c =
    let p = err_from_is_err_and c.from_residual.result c.from_residual.ensures.1 in
    rw (p.1, p.2)
    (no_whole c.args.version c.args.story.now c.bytes_from-bytes.result.now c.args.at c.in_err-words.field-0.0
    c.bytes_from-bytes.ensures c.in_err-words.ensures.words)

pub returns-in_err-words-clause-text : goal.returns-in_err-words-clause-text
returns-in_err-words-clause-text c = extends_still c.args.start c.args.text.now.items c.requires.text

pub returns-in-None-clause-read : goal.returns-in-None-clause-read
returns-in-None-clause-read c =
    let read = c.in-None.ensures.read in (
      read.0,
      whole_plain c.args.version c.args.story.now c.bytes_from-bytes.result.now c.args.at _
          (words_of c.in_ok-words.words c.bytes_from-bytes.result.now) c.bytes_from-bytes.ensures
          c.in_ok-words.ensures.words read.0 read.1,
      subst (λ (h : Option Halt). PrintsOn c.args.characters.now h c.put_plain.new.halted
          (drop c.args.start c.args.text.now.items) (drop c.args.start c.put_plain.new.text.items) read.0)
          c.requires.begins read.2,
    )

pub put_rest-requires-clause-text : goal.put_rest-requires-clause-text
put_rest-requires-clause-text c = begun_by c.requires.text c.put_plain.ensures.text

pub returns-in-Ok-clause-read : goal.returns-in-Ok-clause-read
returns-in-Ok-clause-read c =
    let first = c.in-Some.ensures.read in
    let more = c.in-Ok.ensures.read in (
      first.0 ++ more.0,
      whole_rest c.args.version c.args.story.now c.bytes_from-bytes.result.now c.args.at _
          (words_of c.in_ok-words.words c.bytes_from-bytes.result.now) c.bytes_from-bytes.ensures
          c.in_ok-words.ensures.words c.in-Some.first first.0 more.0 first.1 more.1,
      subst (λ (h : Option Halt). PrintsOn c.args.characters.now h c.put_rest.new.halted
          (drop c.args.start c.args.text.now.items) (drop c.args.start c.put_rest.new.text.items) (first.0 ++ more.0))
          c.requires.begins (on_then first.0 more.0 first.2 more.2),
    )

pub returns-in-Ok-clause-text : goal.returns-in-Ok-clause-text
returns-in-Ok-clause-text c = extends_after c.put_plain.ensures.text c.put_rest.ensures.text

pub returns-in-Err-clause-fails : goal.returns-in-Err-clause-fails
returns-in-Err-clause-fails c =
    whole_fails c.args.version c.args.story.now c.bytes_from-bytes.result.now c.args.at _
    (words_of c.in_ok-words.words c.bytes_from-bytes.result.now) c.bytes_from-bytes.ensures
    c.in_ok-words.ensures.words c.in-Err.fault c.in-Some.first c.in-Some.ensures.read.0 c.in-Some.ensures.read.1
    c.in-Err.ensures.read

pub returns-in-Err-clause-text : goal.returns-in-Err-clause-text
returns-in-Err-clause-text c = extends_after c.put_plain.ensures.text c.put_rest.ensures.text
