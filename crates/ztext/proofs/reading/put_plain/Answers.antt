use Rattle.std.proofs.Common.{◌≡◌, ◌∙◌, ◌∷◌, ◌++◌, [], ℕ, List, Result, Ok, take, ap, sym, refl, arith, length}
use Rattle.std.proofs.lemmas.List.{take_all, length-append}
use Rattle.std.proofs.lemmas.Result.{err_from_is_err_and}
use Rattle.ztext.specs.Reading.{Cause, printed}
use Rattle.ztext.specs.Text.{refused}
use Rattle.ztext.specs.TextParts.{state_of, three_at, three_in}
use Rattle.ztext.proofs.Fronts.{still, front_room, front_stays}
use Rattle.ztext.proofs.Loops.{read_on_is, fault_at, done_at, named_at, turn_at, printed_fails, nothing, one, named}
use Rattle.ztext.proofs.Loops.{named_next, word_read, small_many, z_here}
use Rattle.ztext.proofs.reading.put_plain.Goals as goal

pub places-init : goal.places-init
places-init c = record {
  row = tt;
  room = c.requires.room;
  begun = omega arith;
  stays = take_all _ c.args.text.now.items (omega arith);
  column = refl;
  word = c.word_entered-word.ensures;
  so_far = λ expand. read_on_is expand c.args.most c.args.bytes.now c.args.words c.args.text.now.items c.args.from;
}

pub returns-in_err-step-clause-read : goal.returns-in_err-step-clause-read
returns-in_err-step-clause-read c =
    let p = err_from_is_err_and c.from_residual-in_err-step.result c.from_residual-in_err-step.ensures.1 in
    let fault = c.in_err-step.field-0.0 in
    let state = state_of c.places.state in
    let z_is = z_here c.args.bytes.now (three_in c.word_here-word.result) c.places.place c.places.column
    c.z_character.result c.z_character.ensures.is c.word_here-word.ensures c.places.invariant.column in
    λ expand. rw (p.1, p.2)
    (fault_at expand c.args.most fault c.args.bytes.now c.args.words c.z_character.result c.places.text.items
    state c.places.place _ z_is (omega arith) (c.places.invariant.so_far expand)
    (printed_fails expand (printed expand state c.z_character.result) fault (c.in_err-step.ensures.prints expand)))

pub returns-in-Abbreviation-clause-read : goal.returns-in-Abbreviation-clause-read
returns-in-Abbreviation-clause-read c =
    let state = state_of c.places.state in
    let z = c.z_character.result in
    let z_is = z_here c.args.bytes.now (three_in c.word_here-word.result) c.places.place c.places.column z
    c.z_character.ensures.is c.word_here-word.ensures c.places.invariant.column in
    let number = c.in-Abbreviation.number in
    let is = λ (expand : ℕ → Result (List ℕ) Cause). named expand (printed expand state z) c.in_ok-step.field-0
    number c.in-Abbreviation.is (c.in_ok-step.ensures.prints expand) in
    λ expand. named_at expand c.args.most c.args.bytes.now c.args.words z number c.places.text.items state
    c.places.place _ z_is (omega arith) (c.places.invariant.so_far expand)
    (is expand).0 (named_next state z (is refused).0)

pub returns-in-Abbreviation-clause-named : goal.returns-in-Abbreviation-clause-named
returns-in-Abbreviation-clause-named c =
    let state = state_of c.places.state in
    let is = named refused (printed refused state c.z_character.result) c.in_ok-step.field-0
    c.in-Abbreviation.number c.in-Abbreviation.is (c.in_ok-step.ensures.prints refused) in
    (is.1, omega arith, omega arith)

pub places-preserved : goal.places-preserved
places-preserved c =
    let state = state_of c.places.state in
    let z = c.z_character.result in
    let z_is = z_here c.args.bytes.now (three_in c.word_here-word.result) c.places.place c.places.column z
    c.z_character.ensures.is c.word_here-word.ensures c.places.invariant.column in
    let most = c.args.most in
    let text = c.places.text.items in
    let now = c.match-branch-3.text.items in
    let output = c.in_ok-step.field-0 in
    let grew : (got : List ℕ) × ((expand : ℕ → Result (List ℕ) Cause) → printed expand state z ≡ Ok got)
    × (now ≡ take most (text ++ got)) = elim c.match-branch-3.branch [
      | goal.in-Nothing w ↦ (
        [],
        λ expand. nothing expand (printed expand state z) output w.in-Nothing.is (c.in_ok-step.ensures.prints expand),
        ap (λ v. v.items) w.text-is ∙ still most text c.places.invariant.room,
      )
      | goal.in-Character+in_ok-put-in-Character w ↦ (
        w.in-Character.c ∷ [],
        λ expand. one expand (printed expand state z) output w.in-Character.c w.in-Character.is
            (c.in_ok-step.ensures.prints expand),
        ap (λ v. v.items) w.text-is ∙ w.in_ok-put-in-Character.ensures.adds,
      )
    ] in
    record {
      row = c.in_ok-step.ensures.row;
      begun = omega (arith, c.places.invariant.begun);
      column = omega (arith, c.places.invariant.column, c.next_column-column.ensures);
      word = λ behind within. c.word_here-word.ensures ∙ ap (λ n. three_at c.args.bytes.now n)
          (omega (arith, c.places.invariant.column, c.next_column-column.ensures));
      room = front_room most now (text ++ grew.0) grew.2;
      stays = front_stays most c.args.text.now.items text grew.0 now c.places.invariant.room
          c.places.invariant.stays grew.2;
      so_far = λ expand. turn_at expand most c.args.bytes.now c.args.words z text grew.0 now state
          (state_of c.step.new.state) c.places.place _ z_is (omega arith)
          (c.places.invariant.so_far expand) (grew.1 expand) grew.2 c.in_ok-step.ensures.next;
    }

pub places-preserved-in-Some : goal.places-preserved-in-Some
places-preserved-in-Some c =
    let text = c.places.text.items in
    let now = c.extend_from_slice.new.self.items in
    let letters = c.in-Some.letters in
    let read = c.in-Some.ensures in
    let grown : now ≡ text ++ letters = c.in_ok-extend_from_slice.ensures.items in
    let three : length letters ≡ 3 = small_many (three_in c.word_here-word.result) letters read.printed in
    let all : now ≡ take c.args.most (text ++ letters) = grown
    ∙ sym (take_all c.args.most (text ++ letters) (omega (arith, length-append text letters, three, read.room))) in
    record {
      row = c.places.invariant.row;
      room = front_room c.args.most now (text ++ letters) all;
      begun = omega (arith, c.places.invariant.begun);
      column = omega (arith, c.places.invariant.column);
      word = λ behind within. absurd (omega (arith, behind, read.begins));
      stays = front_stays c.args.most c.args.text.now.items text letters now c.places.invariant.room
          c.places.invariant.stays all;
      so_far = λ expand. word_read expand c.args.most c.args.bytes.now c.args.words c.places.place _ text now
          (three_in c.word_here-word.result) letters c.places.column (state_of c.places.state) read
          c.places.invariant.column c.word_here-word.ensures (omega arith) grown (c.places.invariant.so_far expand);
    }

pub returns-clause-read : goal.returns-clause-read
returns-clause-read c = λ expand. done_at expand c.args.most c.args.bytes.now c.args.words c.places.text.items
    (state_of c.places.state) c.places.place _ (omega arith) c.places.invariant.room
    (c.places.invariant.so_far expand)
