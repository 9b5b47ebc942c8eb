use Rattle.std.proofs.Common.{◌≡◌, ℕ, ◌%◌, ◌^◌, List, take, refl, ap, subst, ◌∙◌, arith}
use Rattle.std.specs.Prelude.{map}
use Rattle.zcore.specs.Dictionary.{number_of_key}
use Rattle.checker_values.specs.Keys.{letter_of}
use Rattle.checker_values.proofs.Lettered.{key_lettered}
use Rattle.checker_values.proofs.words.key_of_word.Goals as goal

pub returns : goal.returns
unfolding number_of_key
returns c =
    let count = c.letters_that_count-count.result in
    let end : c.loop-i.i ≡ count = omega arith in
    c.number_of.ensures ∙ ap (λ (k : List ℕ). number_of_key k % 2 ^ 48) c.word_key.ensures
    ∙ key_lettered c.args.word.now c.loop-i.letters (take count c.loop-i.letters) count
    c.letters_that_count-count.ensures
    (subst (λ (n : ℕ). take n c.loop-i.letters ≡ map letter_of (take n c.args.word.now)) end c.loop-i.invariant.first)
    refl
