use Rattle.std.proofs.Common.{◌≡◌, ◌+◌, ◌++◌, ◌∙◌, ℕ, List, [], Ok, take, length, ap, sym, subst, arith}
use Rattle.journal.specs.Recording.{Recording}
use Rattle.ztext.specs.Text.{decoded}
use Rattle.ztext.specs.Faults.{FailsText}
use Rattle.ztext.proofs.Fronts.{front_behind, behind_fails}
use Rattle.zcore.specs.Execution.{text_at}
use Rattle.machine_frames.specs.Contents.{Contents, memory_of}
use Rattle.machine_opcodes.specs.Fronts.{Adds}
use Rattle.machine_opcodes.proofs.Operating.{text_read}
use Rattle.machine_opcodes.proofs.Fronts.{added_nothing, has_added}
use Rattle.machine_opcodes.proofs.printing.add_text.Goals as goal

pub returns-in-Some : goal.returns-in-Some
returns-in-Some c = (
  [],
  added_nothing c.args.text.now.items,
  text_read _ _ _ _ c.requires (ap memory_of c.store.ensures) c.in-Some.ensures,
)

pub returns-then-len-end : goal.returns-then-len-end
returns-then-len-end c =
    let was : List ℕ = c.args.text.now.items in
    let now : List ℕ = c.append_front.new.text.items in
    let memory : List ℕ = c.memory.result.now in
    let most : ℕ = c.len-end.result + 65536 + 1 in
    let is : most ≡ length was + 65537 = omega arith in
    let read = front_behind most _ was now (decoded memory c.args.address) c.in-Ok.ensures.text in
    let told : Adds (Ok c.in-Ok.after) was now c.args.store.now c.args.store.now (text_at c.args.address) = (
      read.0,
      has_added was now read.0 (c.in-Ok.ensures.printable _ read.1) c.in-Ok.ensures.stays
          (read.2 ∙ ap (λ k. take k (was ++ read.0)) is),
      text_read _ _ _ _ c.requires (c.memory.ensures ∙ ap memory_of c.store-2.ensures) read.1,
    ) in
    subst (λ (s : Recording Contents). Adds (Ok c.in-Ok.after) was now c.args.store.now s (text_at c.args.address))
    (sym c.learn.ensures) told

pub returns-else-len-end : goal.returns-else-len-end
returns-else-len-end c =
    let was : List ℕ = c.args.text.now.items in
    let now : List ℕ = c.append_front.new.text.items in
    let memory : List ℕ = c.memory.result.now in
    let most : ℕ = c.len-end.result + 65536 + 1 in
    let is : most ≡ length was + 65537 = omega arith in
    let read = front_behind most _ was now (decoded memory c.args.address) c.in-Ok.ensures.text in (
      read.0,
      has_added was now read.0 (c.in-Ok.ensures.printable _ read.1) c.in-Ok.ensures.stays
          (read.2 ∙ ap (λ k. take k (was ++ read.0)) is),
      text_read _ _ _ _ c.requires (c.memory.ensures ∙ ap memory_of c.store-2.ensures) read.1,
    )

pub returns-in-Err : goal.returns-in-Err
returns-in-Err c =
    let was : List ℕ = c.args.text.now.items in
    let now : List ℕ = c.append_front.new.text.items in (
      c.truncate.ensures.items ∙ ap (λ k. take k now) (omega arith) ∙ c.in-Err.ensures.stays,
      c.unread.ensures c.args.address
          (subst (λ l. FailsText c.in-Err.fault (decoded l c.args.address))
          (c.memory.ensures ∙ ap memory_of c.store-2.ensures)
          (behind_fails _ was c.in-Err.fault _ c.in-Err.ensures.text)),
    )
