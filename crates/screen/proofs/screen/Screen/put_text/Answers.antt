use Rattle.std.proofs.Common.{◌≡◌, List, ℕ, ap, arith, length, subst, ◌∙◌}
use Rattle.terminal.specs.Broken.{IsBroken}
use Rattle.screen.specs.Marked.{styles_in}
use Rattle.screen.specs.Replies.{prompt_part, text_part}
use Rattle.screen.specs.Shown.{shown}
use Rattle.screen.proofs.Adding.{put_by, written_back}
use Rattle.screen.proofs.Plain.{adds_text}
use Rattle.screen.proofs.screen.Screen.put_text.Goals as goal

pub returns : goal.returns
returns c =
    let broken : List ℕ = c.break_lines.new.text in
    let before : List ℕ = c.in_ok-text.text.items in
    let long : length broken ≡ length before = c.break_lines.ensures.long ∙ ap length c.deref_mut.ensures.value in
    let back = written_back before broken c.in_ok-text.text.len long (omega (arith, c.in_ok-text.text.ok.0)) in
    let each : c.deref-3.result.now ≡ styles_in c.args.text.now =
    c.deref-3.ensures.value ∙ c.in_ok-unmarked.ensures.each in
    let each_again : c.deref-5.result.now ≡ styles_in c.args.text.now =
    c.deref-5.ensures.value ∙ c.in_ok-unmarked.ensures.each in
    adds_text c.args.self.size c.args.self.upper c.args.text.now broken _ _ _
    (omega (arith, c.in_ok-put_lines.ensures.rows)) (omega (arith, c.in_ok-put_lines.ensures.upper))
    (subst (λ (t : List ℕ). IsBroken t broken)
    (c.deref_mut.ensures.value ∙ c.in_ok-text.ensures
    ∙ ap shown (c.deref.ensures.value ∙ c.in_ok-unmarked.ensures.text)) c.break_lines.ensures)
    (put_by _ _ _ _ c.in_ok-put_lines.ensures.added
    (ap (λ (t : List ℕ). text_part c.args.self.upper t c.deref-3.result.now) (c.deref-2.ensures.value ∙ back)
    ∙ ap (text_part c.args.self.upper broken) each))
    (c.in_ok-prompt.ensures
    ∙ ap (λ (t : List ℕ). prompt_part t c.deref-5.result.now) (c.deref-4.ensures.value ∙ back)
    ∙ ap (prompt_part broken) each_again)
