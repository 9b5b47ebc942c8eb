use Rattle.std.proofs.Common.{◌∙◌, ◌∷◌, ◌++◌, [], ℕ, List, Result, sym, arith}
use Rattle.ztext.specs.Reading.{Cause}
use Rattle.ztext.specs.Text.{refused}
use Rattle.zcore_versions.specs.LockedTexts.{locked_codes}
use Rattle.machine_locked_texts.specs.Letters.{expected_of}
use Rattle.machine_standard_texts.proofs.Printed.{begun_by, extends_after, extends_still, on_none, on_then}
use Rattle.machine_locked_texts.proofs.LockedReading.{read_begins, read_end, read_step, read_named, nothing, one, named}
use Rattle.machine_locked_texts.proofs.LockedReading.{named_next}
use Rattle.machine_locked_texts.proofs.reading.put_plain.Goals as goal

pub places-init : goal.places-init
places-init c = record {
  small = c.reading_in-reading.ensures.small;
  extends = extends_still c.args.start c.args.text.now.items c.requires.text;
  begun = omega arith;
  so_far = (
    [],
    on_none _ _ _,
    λ expand. read_begins c.args.version expand c.args.bytes.now c.args.words c.args.lock
        c.reading_in-reading.result.lock c.args.from _ c.reading_in-reading.ensures.lock c.reading_in-reading.ensures.letter,
  );
}

pub put_next-requires : goal.put_next-requires
put_next-requires c = record { text = begun_by c.requires.text c.places.invariant.extends }

pub places-preserved-in-Nothing : goal.places-preserved-in-Nothing
places-preserved-in-Nothing c =
    let version = c.args.version in
    let e = expected_of c.places.reading.expected in
    let z = c.z_character-z.result in
    let so_far = c.places.invariant.so_far in
    record {
      small = c.reading_after-reading.ensures.small;
      extends = c.places.invariant.extends;
      begun = omega (arith, c.places.invariant.begun);
      so_far = (
        so_far.0 ++ [],
        on_then so_far.0 [] so_far.1 (on_none _ _ _),
        λ expand. sym (read_step version expand c.args.bytes.now c.args.words z so_far.0 [] c.places.reading.lock
            c.reading_after-reading.result.lock e (expected_of c.reading_after-reading.result.expected) c.places.place
            c.z_character-z.ensures.is c.places-test.true
            (nothing expand (locked_codes version expand e z) c.piece_of-found.result c.in-Nothing.is
            (c.piece_of-found.ensures expand)) c.reading_after-reading.ensures.lock
            c.reading_after-reading.ensures.expected)
            ∙ so_far.2 expand,
      );
    }

pub places-preserved : goal.places-preserved
places-preserved c =
    let version = c.args.version in
    let e = expected_of c.places.reading.expected in
    let z = c.z_character-z.result in
    let code = c.in-Code.code in
    let so_far = c.places.invariant.so_far in
    record {
      small = c.reading_after-reading.ensures.small;
      extends = extends_after c.places.invariant.extends c.put_next.ensures.text;
      begun = omega (arith, c.places.invariant.begun);
      so_far = (
        so_far.0 ++ code ∷ [],
        on_then so_far.0 (code ∷ []) so_far.1 c.put_next.ensures.prints,
        λ expand. sym (read_step version expand c.args.bytes.now c.args.words z so_far.0 (code ∷ [])
            c.places.reading.lock c.reading_after-reading.result.lock e
            (expected_of c.reading_after-reading.result.expected) c.places.place
            c.z_character-z.ensures.is c.places-test.true
            (one expand (locked_codes version expand e z) c.piece_of-found.result code c.in-Code.is
            (c.piece_of-found.ensures expand)) c.reading_after-reading.ensures.lock
            c.reading_after-reading.ensures.expected)
            ∙ so_far.2 expand,
      );
    }

pub returns-in-Abbreviation-clause-named : goal.returns-in-Abbreviation-clause-named
returns-in-Abbreviation-clause-named c =
    let is = named refused (locked_codes c.args.version refused (expected_of c.places.reading.expected) c.z_character-z.result)
    c.piece_of-found.result c.in-Abbreviation.number c.in-Abbreviation.is (c.piece_of-found.ensures refused) in (
      is.1,
      c.reading_after-reading.ensures.small.lock,
      omega (arith, c.places.invariant.begun),
      omega (arith, c.places-test.true),
    )

pub returns-in-Abbreviation-clause-read : goal.returns-in-Abbreviation-clause-read
returns-in-Abbreviation-clause-read c =
    let version = c.args.version in
    let e = expected_of c.places.reading.expected in
    let z = c.z_character-z.result in
    let number = c.in-Abbreviation.number in
    let new = c.reading_after-reading.result.lock in
    let so_far = c.places.invariant.so_far in
    let is = λ (expand : ℕ → Result (List ℕ) Cause). named expand (locked_codes version expand e z)
    c.piece_of-found.result number c.in-Abbreviation.is (c.piece_of-found.ensures expand) in
    let letter = c.reading_after-reading.ensures.expected ∙ named_next version new z e (is refused).0 in (
      so_far.0,
      λ expand. sym (so_far.2 expand)
          ∙ read_named version expand c.args.bytes.now c.args.words z number so_far.0 c.places.reading.lock new e
          (expected_of c.reading_after-reading.result.expected) c.places.place c.z_character-z.ensures.is
          c.places-test.true (is expand).0 c.reading_after-reading.ensures.lock c.reading_after-reading.ensures.expected
          letter,
      so_far.1,
    )

pub returns-clause-read : goal.returns-clause-read
returns-clause-read c =
    let so_far = c.places.invariant.so_far in (
      so_far.0,
      λ expand. sym (so_far.2 expand)
          ∙ read_end c.args.version expand c.args.bytes.now c.args.words so_far.0 c.places.reading.lock
          (expected_of c.places.reading.expected) c.places.place (omega arith),
      so_far.1,
    )
