use Rattle.std.proofs.Common.{refl, true, false, ap, ◌∙◌, subst}
use Rattle.std.specs.Str.Lossy.{utf8_lossy}
use Rattle.play_json.specs.declared.kind.Kind.TheVariants as kinds
use Rattle.session.specs.Replies.{After}
use Rattle.play_json.specs.Said.{held}
use Rattle.play_json.proofs.Saying.{leaves_taken, may_say}
use Rattle.play_json.proofs.Stands.{stands_as}
use Rattle.play_json.proofs.said.give.Goals as goal

pub returns-in_default : goal.returns-in_default
returns-in_default g c = λ game s p.
    let v' = c.reply_given.follows.lender-at-none in
    let given = c.args.given.now in (
      false,
      (subst (λ r. After given r c.args.session.now v') c.in-Taken.is c.reply_given.follows.holds-at-none) game s p.session,
    )

pub returns-in_default-from_utf8_lossy : goal.returns-in_default-from_utf8_lossy
returns-in_default-from_utf8_lossy g c = λ game s p.
    let v' = c.reply_given.follows.lender-at-none in
    let given = c.args.given.now in (
      false,
      (subst (λ r. After given r c.args.session.now v') c.in-Taken.is c.reply_given.follows.holds-at-none) game s p.session,
    )

pub returns-in-Taken : goal.returns-in-Taken
returns-in-Taken g c = λ game s p.
    let v' = c.reply_given.follows.lender-at-none in
    let given = c.args.given.now in
    let after = (subst (λ r. After given r c.args.session.now v') c.in-Taken.is c.reply_given.follows.holds-at-none)
    game s p.session in (
      false,
      (
        record {
          kind = refl;
          text = c.in-Ok-from_utf8_lossy.ensures.lossy ∙ ap utf8_lossy (c.in-Taken.ensures.says game s p.session).1;
          shown = λ _. refl;
          mark = tt;
        },
        leaves_taken game s given c.args.session.now v' c.args.lines.now c.add_given.new.self p after c.in-Ok.ensures,
      ),
    )

pub returns-in-NoMemory : goal.returns-in-NoMemory
returns-in-NoMemory g c = λ game s p.
    let v' = c.reply_given.follows.lender-at-none in
    let l = c.args.lines.now in
    let same = subst (λ r. After c.args.given.now r c.args.session.now v') c.in-NoMemory.is
    c.reply_given.follows.holds-at-none in (
      true,
      may_say game kinds.NoMemory s (held v' l) c.pass.result c.pass.ensures
          (stands_as game s c.args.session.now v' l p same),
    )
