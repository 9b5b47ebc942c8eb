use Rattle.std.proofs.Common.{◌≡◌, ◌==◌, ◌+◌, ◌++◌, Bool, List, ℕ, ap, arith, drop, false, slice_index, subst, sym, true}
use Rattle.std.specs.Prelude.{bit_or, not}
use Rattle.machine_picture.specs.Marks.{escape, without_marks}
use Rattle.screen.specs.Marked.{styles_from}
use Rattle.screen.proofs.Unmarking.{differs, each_all, each_at_mark, each_marked, each_more}
use Rattle.screen.proofs.Unmarking.{text_all, text_at_mark, text_marked, text_more}
use Rattle.screen.proofs.marked.unmarked.Goals as goal

pub loop-byte-preserved-then-is_in_mark : goal.loop-byte-preserved-then-is_in_mark
loop-byte-preserved-then-is_in_mark c =
    let text : List ℕ = c.args.text.now in
    let k : ℕ = c.loop-byte.byte-index in
    record {
      text = text_marked c.loop-byte.bytes.items text (without_marks false text) k (omega arith)
          (subst (λ (b : Bool). c.loop-byte.bytes.items ++ without_marks b (drop k text) ≡ without_marks false text)
          c.if-is_in_mark.true c.loop-byte.invariant.text);
      each = subst (λ (n : ℕ). c.loop-byte.each.items ++ styles_from (not (slice_index text k == 109))
          (bit_or c.loop-byte.style n) (drop (k + 1) text) ≡ styles_from false 0 text) (sym c.style_of-style.ensures)
          (each_marked c.loop-byte.each.items text (styles_from false 0 text) k c.loop-byte.style (omega arith)
          (subst (λ (b : Bool). c.loop-byte.each.items ++ styles_from b c.loop-byte.style (drop k text)
          ≡ styles_from false 0 text) c.if-is_in_mark.true c.loop-byte.invariant.each));
    }

pub loop-byte-preserved-then-byte-eq-ESCAPE : goal.loop-byte-preserved-then-byte-eq-ESCAPE
loop-byte-preserved-then-byte-eq-ESCAPE c =
    let text : List ℕ = c.args.text.now in
    let k : ℕ = c.loop-byte.byte-index in
    let is : (slice_index text k == escape) ≡ true = ap (λ (n : ℕ). n == escape) c.if-byte-eq-ESCAPE.true in
    record {
      text = text_at_mark c.loop-byte.bytes.items text (without_marks false text) k (omega arith) is
          (subst (λ (b : Bool). c.loop-byte.bytes.items ++ without_marks b (drop k text) ≡ without_marks false text)
          c.if-is_in_mark.false c.loop-byte.invariant.text);
      each = each_at_mark c.loop-byte.each.items text (styles_from false 0 text) k c.loop-byte.style (omega arith) is
          (subst (λ (b : Bool). c.loop-byte.each.items ++ styles_from b c.loop-byte.style (drop k text)
          ≡ styles_from false 0 text) c.if-is_in_mark.false c.loop-byte.invariant.each);
    }

pub loop-byte-preserved : goal.loop-byte-preserved
loop-byte-preserved c =
    let text : List ℕ = c.args.text.now in
    let k : ℕ = c.loop-byte.byte-index in
    let other : (slice_index text k == escape) ≡ false = differs (slice_index text k) escape c.if-byte-eq-ESCAPE.false in
    record {
      text = subst (λ (b : Bool). c.push.new.self.items ++ without_marks b (drop (k + 1) text)
          ≡ without_marks false text) (sym c.if-is_in_mark.false)
          (text_more c.loop-byte.bytes.items c.push.new.self.items text (without_marks false text) k (omega arith) other
          c.in_ok-push.ensures.items
          (subst (λ (b : Bool). c.loop-byte.bytes.items ++ without_marks b (drop k text) ≡ without_marks false text)
          c.if-is_in_mark.false c.loop-byte.invariant.text));
      each = subst (λ (b : Bool). c.push-in-loop-byte.new.self.items
          ++ styles_from b c.loop-byte.style (drop (k + 1) text) ≡ styles_from false 0 text)
          (sym c.if-is_in_mark.false)
          (each_more c.loop-byte.each.items c.push-in-loop-byte.new.self.items text (styles_from false 0 text) k
          c.loop-byte.style (omega arith) other c.in_ok-push-2.ensures.items
          (subst (λ (b : Bool). c.loop-byte.each.items ++ styles_from b c.loop-byte.style (drop k text)
          ≡ styles_from false 0 text) c.if-is_in_mark.false c.loop-byte.invariant.each));
    }

pub returns-clause-text : goal.returns-clause-text
returns-clause-text c = text_all c.loop-byte.bytes.items c.args.text.now (without_marks false c.args.text.now)
    c.loop-byte.byte-index c.loop-byte.is_in_mark (omega arith) c.loop-byte.invariant.text

pub returns-clause-each : goal.returns-clause-each
returns-clause-each c = each_all c.loop-byte.each.items c.args.text.now (styles_from false 0 c.args.text.now)
    c.loop-byte.byte-index c.loop-byte.style c.loop-byte.is_in_mark (omega arith) c.loop-byte.invariant.each
