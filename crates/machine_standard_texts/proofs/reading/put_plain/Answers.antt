use Rattle.std.proofs.Common.{◌∙◌, ◌∷◌, ◌++◌, [], ℕ, List, Result, sym, arith}
use Rattle.ztext.specs.Reading.{Cause}
use Rattle.ztext.specs.Text.{refused}
use Rattle.zcore_standard.specs.Texts.{codes_of}
use Rattle.machine_standard_texts.specs.Pieces.{state_of}
use Rattle.machine_standard_texts.proofs.Read.{read_begins, read_end, read_step, read_named, nothing, one, named, named_next}
use Rattle.machine_standard_texts.proofs.Printed.{begun_by, extends_after, extends_still, on_none, on_then}
use Rattle.machine_standard_texts.proofs.reading.put_plain.Goals as goal

pub places-init : goal.places-init
places-init c = record {
  small = tt;
  extends = extends_still c.args.start c.args.text.now.items c.requires.text;
  begun = omega arith;
  so_far = (
    [],
    on_none _ _ _,
    λ expand. read_begins c.args.alphabets.now expand c.args.bytes.now c.args.words c.args.from,
  );
}

pub put_next-requires : goal.put_next-requires
put_next-requires c = record { text = begun_by c.requires.text c.places.invariant.extends }

pub places-preserved-in-Nothing : goal.places-preserved-in-Nothing
places-preserved-in-Nothing c =
    let alphabets = c.args.alphabets.now in
    let state = state_of c.places.state in
    let z = c.z_character-z.result in
    let so_far = c.places.invariant.so_far in
    record {
      small = c.next-state.ensures.small;
      extends = c.places.invariant.extends;
      begun = omega (arith, c.places.invariant.begun);
      so_far = (
        so_far.0 ++ [],
        on_then so_far.0 [] so_far.1 (on_none _ _ _),
        λ expand. sym (read_step alphabets expand c.args.bytes.now c.args.words z so_far.0 [] state
            (state_of c.next-state.result) c.places.place c.z_character-z.ensures.is c.places-test.true
            (nothing expand (codes_of alphabets expand state z) c.piece_of-found.result c.in-Nothing.is
            (c.piece_of-found.ensures expand)) c.next-state.ensures.next)
            ∙ so_far.2 expand,
      );
    }

pub places-preserved : goal.places-preserved
places-preserved c =
    let alphabets = c.args.alphabets.now in
    let state = state_of c.places.state in
    let z = c.z_character-z.result in
    let code = c.in-Code.code in
    let so_far = c.places.invariant.so_far in
    record {
      small = c.next-state.ensures.small;
      extends = extends_after c.places.invariant.extends c.put_next.ensures.text;
      begun = omega (arith, c.places.invariant.begun);
      so_far = (
        so_far.0 ++ code ∷ [],
        on_then so_far.0 (code ∷ []) so_far.1 c.put_next.ensures.prints,
        λ expand. sym (read_step alphabets expand c.args.bytes.now c.args.words z so_far.0 (code ∷ []) state
            (state_of c.next-state.result) c.places.place c.z_character-z.ensures.is c.places-test.true
            (one expand (codes_of alphabets expand state z) c.piece_of-found.result code c.in-Code.is
            (c.piece_of-found.ensures expand)) c.next-state.ensures.next)
            ∙ so_far.2 expand,
      );
    }

pub returns-in-Abbreviation-clause-named : goal.returns-in-Abbreviation-clause-named
returns-in-Abbreviation-clause-named c =
    let is = named refused (codes_of c.args.alphabets.now refused (state_of c.places.state) c.z_character-z.result)
    c.piece_of-found.result c.in-Abbreviation.number c.in-Abbreviation.is (c.piece_of-found.ensures refused) in
    (is.1, omega (arith, c.places.invariant.begun), omega (arith, c.places-test.true))

pub returns-in-Abbreviation-clause-read : goal.returns-in-Abbreviation-clause-read
returns-in-Abbreviation-clause-read c =
    let alphabets = c.args.alphabets.now in
    let state = state_of c.places.state in
    let z = c.z_character-z.result in
    let number = c.in-Abbreviation.number in
    let so_far = c.places.invariant.so_far in
    let is = λ (expand : ℕ → Result (List ℕ) Cause). named expand (codes_of alphabets expand state z)
    c.piece_of-found.result number c.in-Abbreviation.is (c.piece_of-found.ensures expand) in (
      so_far.0,
      λ expand. sym (so_far.2 expand)
          ∙ read_named alphabets expand c.args.bytes.now c.args.words z number so_far.0 state c.places.place
          c.z_character-z.ensures.is c.places-test.true (is expand).0 (named_next alphabets state z (is refused).0),
      so_far.1,
    )

pub returns-clause-read : goal.returns-clause-read
returns-clause-read c =
    let so_far = c.places.invariant.so_far in (
      so_far.0,
      λ expand. sym (so_far.2 expand)
          ∙ read_end c.args.alphabets.now expand c.args.bytes.now c.args.words so_far.0 (state_of c.places.state)
          c.places.place (omega arith),
      so_far.1,
    )
