use Rattle.std.proofs.Common.{◌≡◌, ◌++◌, List, ℕ, length, ap, sym, ◌∙◌, append_assoc}
use Rattle.iff_files.specs.declared.frames.FrameHead.{FrameHead}
use Rattle.iff_files.specs.Frames.{frame_bytes, head_bytes, words}
use Rattle.iff_files.proofs.frames.put_frame.Goals as goal

pub returns : goal.returns
unfolding frame_bytes
returns c =
    let head : FrameHead = c.args.head in
    let was : List ℕ = c.args.out.now.items in
    let locals : List ℕ = words c.args.locals.now in
    let stack : List ℕ = words c.args.stack.now in
    let same : head ≡ record {
      return_address = head.return_address;
      locals = length c.args.locals.now;
      variable = head.variable;
      arguments = head.arguments;
      words = length c.args.stack.now;
    } = λ i. record {
      return_address = head.return_address;
      locals = sym c.requires.locals i;
      variable = head.variable;
      arguments = head.arguments;
      words = sym c.requires.words i;
    } in
    c.in_ok-put_words-2.ensures
    ∙ ap (λ (t : List ℕ). t ++ stack) (c.in_ok-put_words.ensures ∙ ap (λ (t : List ℕ). t ++ locals) c.in_ok-put_head.ensures)
    ∙ append_assoc (was ++ head_bytes head) locals stack
    ∙ append_assoc was (head_bytes head) (locals ++ stack)
    ∙ ap (λ (t : FrameHead). was ++ (head_bytes t ++ (locals ++ stack))) same
