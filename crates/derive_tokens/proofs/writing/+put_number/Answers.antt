use Rattle.derive_tokens.proofs.Numbers.{last_put}
use Rattle.derive_tokens.proofs.writing.+put_number.Goals as goal

pub returns : goal.returns
returns t c =
    last_put c.args.number c.args.text.now.items c.put_number.new.text.items c.push-2.new.self.items
    c.if-number-lt10.false c.ranges.number.fits c.in_ok-put_number.ensures c.in_ok-push-2.ensures.items
