use Rattle.std.proofs.Common.{◌≡◌, ◌<◌, ◌≤◌, ◌∙◌, ◌%◌, ◌==◌, ap, arith, refl, ℕ, false, List, Option}
use Rattle.std.proofs.Common.{Some, None, length, take}
use Rattle.std.specs.Prelude.{IfSome}
use Rattle.std.proofs.lemmas.List.{length-take-le, take_all}
use Rattle.zcore.specs.Layout.{longest_story}
use Rattle.play.specs.Filling.{block, length_within, stated_length, without_filling}
use Rattle.play.specs.Reading.{most_read}
use Rattle.play.proofs.Playing.{start_read}
use Rattle.play.proofs.reading.read_story.Given as given
use Rattle.play.proofs.reading.read_story.Goals as goal

beginning : (g : given.Over) (c : goal.After-drop_filling g)
    → IfSome (g.R.Read.remaining c.args.file) (λ bytes. c.read_to_end.new.buf.items ≡ take most_read bytes)
beginning g c = start_read most_read g.R.Read.remaining c.take.result c.args.file c.new-story.result.items
    c.read_to_end.new.buf.items c.take.ensures.limit c.take.ensures.inner c.new-story.ensures.items
    c.in_ok-read_to_end.ensures.bytes

-- as many bytes are no multiple of a block, so none of them are filling
no_filling : (read : List ℕ) → length read ≡ most_read → without_filling read ≡ read
no_filling read full = ap (λ n. take n read) (within (stated_length read)) ∙ take_all (length read) read (omega arith)
  where
    within : (stated : Option ℕ) → length_within read stated ≡ length read
    within None = refl
    within (Some stated) =
        let parted : (length read % block == 0) ≡ false = ap (λ n. n % block == 0) full in
        rw parted refl

begun : (o : Option (List ℕ)) (story read : List ℕ) → story ≡ without_filling read
    → IfSome o (λ bytes. read ≡ take most_read bytes)
    → IfSome o (λ bytes. story ≡ without_filling (take most_read bytes))
begun None story read dropped h = tt
begun (Some bytes) story read dropped h = dropped ∙ ap without_filling h

too_long : (o : Option (List ℕ)) (story read : List ℕ) → story ≡ without_filling read
    → IfSome o (λ bytes. read ≡ take most_read bytes)
    → IfSome o (λ bytes. most_read ≤ length bytes → longest_story < length story)
too_long None story read dropped h = tt
too_long (Some bytes) story read dropped h = λ long.
    let full : length read ≡ most_read = ap length h ∙ length-take-le most_read bytes long in
    let same : length story ≡ length read = ap length (dropped ∙ no_filling read full) in
    omega (arith, same, full)

pub returns-clause-story : goal.returns-clause-story
returns-clause-story g c =
    begun (g.R.Read.remaining c.args.file) c.drop_filling.new.file.items c.read_to_end.new.buf.items
    c.drop_filling.ensures
    (beginning g c)

pub returns-clause-cut : goal.returns-clause-cut
returns-clause-cut g c =
    too_long (g.R.Read.remaining c.args.file) c.drop_filling.new.file.items c.read_to_end.new.buf.items
    c.drop_filling.ensures
    (beginning g c)
