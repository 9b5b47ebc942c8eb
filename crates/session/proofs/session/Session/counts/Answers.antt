use Rattle.std.proofs.Common.{◌≡◌, ◌-◌, arith, length}
use Rattle.session.specs.Game.{bytes_of, play_on}
use Rattle.session.proofs.Views.{counted}
use Rattle.session.proofs.Sessions.{session_undone}
use Rattle.session_lines.specs.Written.{text_of}
use Rattle.session.specs.Players.{known_of}
use Rattle.session.proofs.session.Session.counts.Goals as goal

pub returns : goal.returns
returns c = λ game s h.
    let i = c.self.inside in
    let n = counted i.keep i.fuel (known_of i.player) i.opening.items i.store.store i.first i.turns.items i.done
    (text_of i.given_up) c.args.self.now c.self.view_is in
    let u = session_undone (bytes_of game) game.fuel (play_on game) game.keep s c.args.self.now i.done (length i.turns.items)
    n.present n.size h.session in
    let left : c.len.result - i.done ≡ length s.undone = omega (arith, u.0, u.1, c.len.ensures, i.turns.ok.0) in
    (u.0, left)
