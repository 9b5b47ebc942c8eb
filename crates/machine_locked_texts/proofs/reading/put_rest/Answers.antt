use Rattle.std.proofs.Common.{◌∙◌, ◌++◌, ◌*◌, [], ap, sym}
use Rattle.std.proofs.lemmas.Result.{err_from_is_err_and}
use Rattle.ztext.specs.TextParts.{words_of}
use Rattle.zcore_versions.specs.LockedTexts.{locked_abbreviation}
use Rattle.machine_standard_texts.specs.Pieces.{joined}
use Rattle.machine_locked_texts.specs.Letters.{rest_of}
use Rattle.machine_standard_texts.proofs.Read.{joined_nothing}
use Rattle.machine_locked_texts.proofs.LockedReading.{IsNumber, rest_on, rest_fails, numbered, left_places, left_less}
use Rattle.machine_standard_texts.proofs.Printed.{begun_by, extends_after, extends_still, on_none, on_then}
use Rattle.machine_locked_texts.proofs.reading.put_rest.Goals as goal

pub loop-named-init : goal.loop-named-init
loop-named-init c = record {
  number = record { number = c.requires.number; lock = c.requires.lock };
  extends = extends_still c.args.start c.args.text.now.items c.requires.text;
  so_far = (
    [],
    on_none _ _ _,
    joined_nothing _,
  );
}

pub put_abbreviation-requires-clause-text : goal.put_abbreviation-requires-clause-text
put_abbreviation-requires-clause-text c = begun_by c.requires.text c.loop-named.invariant.extends

pub put_abbreviation-requires-clause-number : goal.put_abbreviation-requires-clause-number
put_abbreviation-requires-clause-number c =
    let n : IsNumber c.in-Some.next = rw c.in-Some.is at c.loop-named.invariant.number in
    n.number

pub put_plain-named-requires-clause-lock : goal.put_plain-named-requires-clause-lock
put_plain-named-requires-clause-lock c =
    let n : IsNumber c.in-Some.next = rw c.in-Some.is at c.loop-named.invariant.number in
    n.lock

pub put_plain-named-requires-clause-text : goal.put_plain-named-requires-clause-text
put_plain-named-requires-clause-text c = begun_by (begun_by c.requires.text c.loop-named.invariant.extends)
    c.put_abbreviation.ensures.text

pub returns-in_err-put_abbreviation-clause-read : goal.returns-in_err-put_abbreviation-clause-read
returns-in_err-put_abbreviation-clause-read c =
    let expand = locked_abbreviation c.args.version c.args.story.now in
    let zs = words_of c.args.words c.args.bytes.now in
    let p = err_from_is_err_and c.from_residual.result c.from_residual.ensures.1 in
    let so_far = c.loop-named.invariant.so_far in
    rw (p.1, p.2)
    (rest_fails c.args.version expand zs c.in_err-put_abbreviation.field-0.0 c.in-Some.next so_far.0 _
    (sym (ap (λ o. joined so_far.0 (rest_of c.args.version expand zs o)) c.in-Some.is) ∙ so_far.2)
    c.in_err-put_abbreviation.ensures.read)

pub returns-in_err-put_abbreviation-clause-text : goal.returns-in_err-put_abbreviation-clause-text
returns-in_err-put_abbreviation-clause-text c = extends_after c.loop-named.invariant.extends
    c.put_abbreviation.ensures.text

pub loop-named-preserved : goal.loop-named-preserved
loop-named-preserved c =
    let expand = locked_abbreviation c.args.version c.args.story.now in
    let zs = words_of c.args.words c.args.bytes.now in
    let so_far = c.loop-named.invariant.so_far in
    let first = c.in_ok-put_abbreviation.ensures.read in
    let second = c.put_plain-named.ensures.read in
    record {
      number = numbered c.in-Some.next.after (3 * c.args.words) c.put_plain-named.result c.put_plain-named.ensures.named;
      extends = extends_after (extends_after c.loop-named.invariant.extends c.put_abbreviation.ensures.text)
          c.put_plain-named.ensures.text;
      so_far = (
        so_far.0 ++ (first.0 ++ second.0),
        on_then so_far.0 (first.0 ++ second.0) so_far.1 (on_then first.0 second.0 first.2 second.2),
        rest_on c.args.version expand zs c.in-Some.next c.put_plain-named.result so_far.0 first.0 second.0 _
            (sym (ap (λ o. joined so_far.0 (rest_of c.args.version expand zs o)) c.in-Some.is) ∙ so_far.2)
            first.1 second.1,
      );
    }

pub loop-named-smaller : goal.loop-named-smaller
loop-named-smaller c = left_less c.in-Some.next.after (3 * c.args.words) _ c.put_plain-named.result
    c.put_plain-named.ensures.named (ap (left_places (3 * c.args.words)) c.in-Some.is)
