use Rattle.std.proofs.Common.{◌≡◌, ◌∙◌, ℕ, List, take, drop, ap, sym}
use Rattle.ztext.specs.Alphabets.{place_in, spelling_in_punctuation}
use Rattle.machine_standard_words.proofs.Forms.{third_letters}
use Rattle.machine_standard_words.proofs.form.sign_spelling.Goals as goal
use Rattle.machine_standard_words.proofs.form.sign_spelling.Goals.{in-Some, in-None}

pub returns : goal.returns
returns c =
    let letters = drop 54 c.args.alphabets.now in
    let found : c.place_in.result ≡ place_in letters c.args.c = c.place_in.ensures.found
    ∙ ap (λ l. place_in l c.args.c) (third_letters c.args.alphabets.now c.told-alphabets) in
    elim c.match-place_in.branch [
      | in-Some w ↦ ap (λ (r : List ℕ × (ℕ × Unit {0})). take r.1.0 r.0) w.result-is
          ∙ ap (λ o. spelling_in_punctuation o c.args.c) (sym w.in-Some.is ∙ found)
      | in-None w ↦ ap (λ (r : List ℕ × (ℕ × Unit {0})). take r.1.0 r.0) w.result-is
          ∙ ap (λ o. spelling_in_punctuation o c.args.c) (sym w.in-None.is ∙ found)
    ]
