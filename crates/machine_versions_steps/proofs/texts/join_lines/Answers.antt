use Rattle.std.proofs.Common.{◌≡◌, ◌-◌, ◌∙◌, ◌++◌, ℕ, List, length, take, drop, ap, sym, refl, arith}
use Rattle.std.specs.Prelude.{map}
use Rattle.std.proofs.lemmas.List.{with_items_is, length-map, length-append, length-take-le, take-append-drop}
use Rattle.std.proofs.lemmas.Grind.{common_steps}
use Rattle.zcore_versions.specs.StatusLine.{joined, on_one_line}
use Rattle.machine_versions_steps.proofs.Joining.{joined_end}
use Rattle.machine_versions_steps.proofs.texts.join_lines.Goals as goal

pub returns : goal.returns
returns c =
    let all : List ℕ = c.args.text.now.items in
    let start : ℕ = c.args.start in
    let old : List ℕ = take start all in
    let cs : List ℕ = drop start all in
    let d : List ℕ = c.deref_mut.result.now in
    let count : ℕ = length d - start in
    let row : List ℕ = c.join.new.bytes in
    let whole : List ℕ = take start d ++ (row ++ drop count (drop start d)) in
    let same : d ≡ all = grind (arith, common_steps) in
    let e : d ≡ old ++ cs = same ∙ sym (take-append-drop start all) in
    let n : start ≡ length old = sym (length-take-le start all c.requires) in
    let is : whole ≡ old ++ on_one_line cs = joined_end old d cs row start count e n refl c.join.ensures in
    let long : length whole ≡ length d = ap length is ∙ length-append old (on_one_line cs)
    ∙ omega (arith, length-map cs joined, ap length e, length-append old cs) in
    with_items_is c.args.text.now whole (omega (arith, long, c.deref_mut.ensures.len)) ∙ is
