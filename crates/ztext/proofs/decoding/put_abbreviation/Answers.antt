use Rattle.std.proofs.Common.{◌∙◌, sym, subst}
use Rattle.std.proofs.lemmas.Result.{err_from_is_err_and}
use Rattle.ztext.specs.Text.{refused}
use Rattle.ztext.specs.Faults.{FailsText}
use Rattle.ztext.specs.TextParts.{words_of}
use Rattle.ztext.proofs.Copies.{read_alone, no_table, nowhere_alone, met, ended}
use Rattle.ztext.proofs.decoding.put_abbreviation.Goals as goal

pub returns-in_err-address-clause-read : goal.returns-in_err-address-clause-read
returns-in_err-address-clause-read c =
    let p = err_from_is_err_and c.from_residual.result c.from_residual.ensures.1 in
    rw (p.1, p.2)
    (no_table c.args.most c.in_err-address.field-0.0 c.args.story.now c.args.number c.args.text.now.items
    c.in_err-address.ensures.0 c.in_err-address.ensures.1)

pub returns-in_err-words-clause-read : goal.returns-in_err-words-clause-read
returns-in_err-words-clause-read c =
    let p = err_from_is_err_and c.from_residual-in_err-words.result c.from_residual-in_err-words.ensures.1 in
    rw (p.1, p.2)
    (nowhere_alone c.args.most c.in_err-words.field-0.0 c.args.story.now c.bytes_from-bytes.result.now c.args.number
    c.in_ok-address.address c.args.text.now.items c.in_ok-address.ensures.0 c.in_ok-address.ensures.1
    c.bytes_from-bytes.ensures c.in_err-words.ensures.words)

pub returns-in_err-put_plain-clause-read : goal.returns-in_err-put_plain-clause-read
returns-in_err-put_plain-clause-read c =
    let p = err_from_is_err_and c.from_residual-in_err-put_plain.result c.from_residual-in_err-put_plain.ensures.1 in
    let fault = c.in_err-put_plain.field-0.0 in
    let old = c.args.text.now.items in
    rw (p.1, p.2)
    (subst (FailsText fault) (sym (read_alone c.args.most c.args.story.now c.bytes_from-bytes.result.now c.args.number
    c.in_ok-address.address _ _ old c.in_ok-address.ensures.0 c.in_ok-address.ensures.1
    c.bytes_from-bytes.ensures c.in_ok-words.ensures.words))
    (c.in_err-put_plain.ensures.read refused))

pub returns-in-Some-clause-read : goal.returns-in-Some-clause-read
returns-in-Some-clause-read c =
    let old = c.args.text.now.items in
    let zs = words_of c.in_ok-words.words c.bytes_from-bytes.result.now in
    read_alone c.args.most c.args.story.now c.bytes_from-bytes.result.now c.args.number c.in_ok-address.address _ zs old
    c.in_ok-address.ensures.0 c.in_ok-address.ensures.1 c.bytes_from-bytes.ensures c.in_ok-words.ensures.words
    ∙ met refused c.args.most old c.put_plain.new.text.items zs 0 c.in_ok-put_plain.field-0 c.in-Some.field-0
    c.in-Some.is (c.in_ok-put_plain.ensures.read refused)

pub returns-in-None-clause-read : goal.returns-in-None-clause-read
returns-in-None-clause-read c =
    let old = c.args.text.now.items in
    let zs = words_of c.in_ok-words.words c.bytes_from-bytes.result.now in
    read_alone c.args.most c.args.story.now c.bytes_from-bytes.result.now c.args.number c.in_ok-address.address _ zs old
    c.in_ok-address.ensures.0 c.in_ok-address.ensures.1 c.bytes_from-bytes.ensures c.in_ok-words.ensures.words
    ∙ ended refused c.args.most old c.put_plain.new.text.items zs 0 c.in_ok-put_plain.field-0 c.in-None.is
    (c.in_ok-put_plain.ensures.read refused)
