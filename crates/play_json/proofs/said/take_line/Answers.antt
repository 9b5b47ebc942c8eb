use Rattle.std.proofs.Common.{refl, true, false, None, sym, ap, ◌∙◌, subst, []}
use Rattle.std.specs.Str.Lossy.{utf8_lossy}
use Rattle.play_json.specs.declared.kind.Kind.TheVariants as kinds
use Rattle.session.specs.Game.{IsSessionOf}
use Rattle.session.specs.Replies.{After}
use Rattle.play_json.specs.Said.{IsSaid, MayBeSaid, held}
use Rattle.play_json.proofs.Saying.{leaves_taken, line_over, line_refused, line_taken, line_unmet, matches_saying, may_say}
use Rattle.play_json.proofs.Stands.{stands_as}
use Rattle.play_json.proofs.said.take_line.Goals as goal

pub returns-in_default : goal.returns-in_default
returns-in_default g c = λ game s p.
    let v' = c.reply.follows.lender-at-none in
    let line = c.args.line.now in
    let says = c.in-Taken.ensures.says game s p.session in (
      [],
      false,
      subst (λ a. IsSessionOf game a.standing v')
          (sym (line_taken game s c.args.lines.now.marks line (c.requires game s p.session) says.0 says.1))
          ((subst (λ r. After line r c.args.session.now v') c.in-Taken.is c.reply.follows.holds-at-none) game s p.session),
    )

pub returns-in_default-from_utf8_lossy : goal.returns-in_default-from_utf8_lossy
returns-in_default-from_utf8_lossy g c = λ game s p.
    let v' = c.reply.follows.lender-at-none in
    let line = c.args.line.now in
    let says = c.in-Taken.ensures.says game s p.session in (
      [],
      false,
      subst (λ a. IsSessionOf game a.standing v')
          (sym (line_taken game s c.args.lines.now.marks line (c.requires game s p.session) says.0 says.1))
          ((subst (λ r. After line r c.args.session.now v') c.in-Taken.is c.reply.follows.holds-at-none) game s p.session),
    )

pub returns-in-Ok-from_utf8_lossy : goal.returns-in-Ok-from_utf8_lossy
returns-in-Ok-from_utf8_lossy g c = λ game s p.
    let v' = c.reply.follows.lender-at-none in
    let l = c.args.lines.now in
    let line = c.args.line.now in
    let says = c.in-Taken.ensures.says game s p.session in
    let after = (subst (λ r. After line r c.args.session.now v') c.in-Taken.is c.reply.follows.holds-at-none)
    game s p.session in (
      [],
      false,
      subst (λ a. IsSaid game a (held v' c.add.new.self) (record {
        kind = kinds.Taken;
        text = c.in-Ok-from_utf8_lossy.text;
        shown = None;
      })) (sym (line_taken game s l.marks line (c.requires game s p.session) says.0 says.1)) (
        record {
          kind = refl;
          text = c.in-Ok-from_utf8_lossy.ensures.lossy ∙ ap utf8_lossy says.2;
          shown = λ _. refl;
          mark = tt;
        },
        leaves_taken game s line c.args.session.now v' l c.add.new.self p after c.in-Ok.ensures,
      ),
    )

pub returns-in-Refused : goal.returns-in-Refused
returns-in-Refused g c = λ game s p.
    let v' = c.reply.follows.lender-at-none in
    let l = c.args.lines.now in
    let line = c.args.line.now in
    let same = subst (λ r. After line r c.args.session.now v') c.in-Refused.is c.reply.follows.holds-at-none in (
      [],
      false,
      subst (λ a. IsSaid game a (held v' l) c.of.result)
          (sym (line_refused game s l.marks line [] false (c.in-Refused.ensures.says game s p.session))) (
            matches_saying kinds.Refused s l.marks c.of.result c.of.ensures,
            record { stands = stands_as game s c.args.session.now v' l p same; marks = refl },
          ),
    )

pub returns-in-Over : goal.returns-in-Over
returns-in-Over g c = λ game s p.
    let v' = c.reply.follows.lender-at-none in
    let l = c.args.lines.now in
    let line = c.args.line.now in
    let says = c.in-Over.ensures.says game s p.session in
    let same = subst (λ r. After line r c.args.session.now v') c.in-Over.is c.reply.follows.holds-at-none in (
      [],
      false,
      subst (λ a. IsSaid game a (held v' l) c.of-in-Over.result)
          (sym (line_over game s l.marks line [] false says.0 says.1)) (
            matches_saying kinds.Over s l.marks c.of-in-Over.result c.of-in-Over.ensures,
            record { stands = stands_as game s c.args.session.now v' l p same; marks = refl },
          ),
    )

pub returns-in-NoMemory : goal.returns-in-NoMemory
returns-in-NoMemory g c = λ game s p.
    let v' = c.reply.follows.lender-at-none in
    let l = c.args.lines.now in
    let line = c.args.line.now in
    let says = c.in-NoMemory.ensures.says game s p.session in
    let same = subst (λ r. After line r c.args.session.now v') c.in-NoMemory.is c.reply.follows.holds-at-none in (
      [],
      true,
      subst (λ a. MayBeSaid game a (held v' l) c.pass.result)
          (sym (line_unmet game s l.marks line [] says.0 says.1))
          (may_say game kinds.NoMemory s (held v' l) c.pass.result c.pass.ensures
          (stands_as game s c.args.session.now v' l p same)),
    )
