use Rattle.std.proofs.Common.{◌≡◌, ◌++◌, List, [], ℕ, ap, sym, ◌∙◌, arith, append_assoc, rules, length, replicate}
use Rattle.std.proofs.lemmas.List.{append-nil, length-append, length-replicate}
use Rattle.zcore_standard.specs.Saving.{prompt}
use Rattle.machine_standard_saves.proofs.Prompts.{front_stays}
use Rattle.machine_standard_saves.proofs.pausing.add_prompt.Goals as goal

pub returns-in_err-add_lines : goal.returns-in_err-add_lines
returns-in_err-add_lines c =
    let same : c.add_lines.new.text.items ≡ c.args.text.now.items ++ [] =
    c.in_err-add_lines.ensures.same ∙ sym (append-nil c.args.text.now.items) in
    record {
      added = search rules;
      front = front_stays c.args.text.now.items [] _ same;
      few = omega (arith, ap length c.in_err-add_lines.ensures.same);
    }

pub returns-in_err-add : goal.returns-in_err-add
returns-in_err-add c =
    let same : c.add.new.text.items ≡ c.args.text.now.items ++ replicate c.args.lines 10 =
    c.in_err-add.ensures.same ∙ c.in_ok-add_lines.ensures.added in
    record {
      added = search rules;
      front = front_stays c.args.text.now.items (replicate c.args.lines 10) _ same;
      few = omega (
        arith,
        ap length same,
        length-append c.args.text.now.items (replicate c.args.lines 10),
        length-replicate {A = ℕ} c.args.lines 10,
      );
    }

pub returns : goal.returns
returns c =
    let added : c.add.new.text.items ≡ c.args.text.now.items ++ (replicate c.args.lines 10 ++ prompt) =
    c.in_ok-add.ensures.added ∙ ap (λ (l : List ℕ). l ++ prompt) c.in_ok-add_lines.ensures.added
    ∙ append_assoc c.args.text.now.items (replicate c.args.lines 10) prompt in
    record {
      added = added;
      front = front_stays c.args.text.now.items (replicate c.args.lines 10 ++ prompt) _ added;
      few = omega (
        arith,
        ap length added,
        length-append c.args.text.now.items (replicate c.args.lines 10 ++ prompt),
        length-append (replicate c.args.lines 10) prompt,
        length-replicate {A = ℕ} c.args.lines 10,
      );
    }
