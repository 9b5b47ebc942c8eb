use Rattle.std.proofs.Common.{◌≡◌, ◌∙◌, ◌+◌, ◌*◌, Ok, ap, sym, subst}
use Rattle.std.proofs.lemmas.Result.{err_from_is_err_and}
use Rattle.ztext.specs.Results.{◌>>=◌}
use Rattle.ztext.specs.Text.{abbreviation}
use Rattle.ztext.specs.Faults.{FailsText}
use Rattle.ztext.specs.TextParts.{words_of}
use Rattle.ztext.specs.Expansions.{read_on}
use Rattle.ztext.proofs.Loops.{whole, fails_whole}
use Rattle.ztext.proofs.Copies.{met, ended}
use Rattle.ztext.proofs.decoding.put_text.Goals as goal

pub returns-in_err-put_rest-clause-read : goal.returns-in_err-put_rest-clause-read
returns-in_err-put_rest-clause-read c =
    let p = err_from_is_err_and c.from_residual-in_err-put_rest.result c.from_residual-in_err-put_rest.ensures.1 in
    let fault = c.in_err-put_rest.field-0.0 in
    let expand = abbreviation c.args.story.now in
    let bytes = c.bytes_from-bytes.result.now in
    let zs = words_of c.in_ok-words.words bytes in
    let old = c.reserve.new.self.items in
    let failed : FailsText fault (read_on expand c.args.most old zs) = subst (FailsText fault)
    (sym (met expand c.args.most old c.put_plain.new.text.items zs 0 c.in_ok-first.field-0
    c.in-Some.first c.in-Some.is (c.in_ok-first.ensures.read expand))) c.in_err-put_rest.ensures.read in
    rw (p.1, p.2)
    (fails_whole expand c.args.most fault c.args.story.now bytes c.args.at (c.args.at + 2 * c.in_ok-words.words) zs
    c.args.text.now.items c.bytes_from-bytes.ensures c.in_ok-words.ensures.words
    (subst (λ text. FailsText fault (read_on expand c.args.most text zs)) c.reserve.ensures.items failed))

pub returns-clause-read : goal.returns-clause-read
returns-clause-read c =
    let expand = abbreviation c.args.story.now in
    let bytes = c.bytes_from-bytes.result.now in
    let words = c.in_ok-words.words in
    let zs = words_of words bytes in
    let old = c.reserve.new.self.items in
    let plain = c.put_plain.new.text.items in
    let read : read_on expand c.args.most old zs ≡ Ok c.match-branch-4.text.items = elim c.match-branch-4.branch [
      | goal.in-Some+in_ok-put_rest w ↦
          met expand c.args.most old plain zs 0 c.in_ok-first.field-0 w.in-Some.first w.in-Some.is
          (c.in_ok-first.ensures.read expand)
          ∙ w.in_ok-put_rest.ensures.read ∙ ap (λ v. Ok v.items) (sym w.text-is)
      | goal.in_default w ↦
          ended expand c.args.most old plain zs 0 c.in_ok-first.field-0 w.in_default.is
          (c.in_ok-first.ensures.read expand)
          ∙ ap (λ v. Ok v.items) (sym w.text-is)
    ] in
    whole expand c.args.most c.args.story.now bytes c.args.at (c.args.at + 2 * words) zs c.args.text.now.items
    c.bytes_from-bytes.ensures c.in_ok-words.ensures.words
    ∙ ap (λ text. read_on expand c.args.most text zs >>= λ read. Ok (read, c.args.at + 2 * words))
    (sym c.reserve.ensures.items)
    ∙ ap (λ r. r >>= λ text. Ok (text, c.args.at + 2 * words)) read
