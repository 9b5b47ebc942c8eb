use Rattle.std.proofs.Common.{◌≡◌, ◌-◌, ◌∙◌, ◌++◌, ℕ, List, length, take, drop, ap, sym, refl, arith}
use Rattle.std.specs.Prelude.{map}
use Rattle.std.proofs.lemmas.List.{with_items_is, length-map, length-append, length-take-le, take-append-drop}
use Rattle.std.proofs.lemmas.Grind.{common_steps}
use Rattle.machine_opcodes.specs.Printed.{byte_of}
use Rattle.machine_opcodes.proofs.Transcripts.{transcribed_end}
use Rattle.machine_opcodes.proofs.transcript.transcribe_from.Goals as goal

pub returns : goal.returns
returns c =
    let all : List ℕ = c.args.text.now.items in
    let end : ℕ = c.args.end in
    let old : List ℕ = take end all in
    let cs : List ℕ = drop end all in
    let d : List ℕ = c.deref_mut.result.now in
    let count : ℕ = length d - end in
    let row : List ℕ = c.transcribe.new.characters in
    let whole : List ℕ = take end d ++ (row ++ drop count (drop end d)) in
    let same : d ≡ all = grind (arith, common_steps) in
    let e : d ≡ old ++ cs = same ∙ sym (take-append-drop end all) in
    let n : end ≡ length old = sym (length-take-le end all c.requires) in
    let is : whole ≡ old ++ map byte_of cs = transcribed_end old d cs row end count e n refl c.transcribe.ensures in
    let long : length whole ≡ length d = ap length is ∙ length-append old (map byte_of cs)
    ∙ omega (arith, length-map cs byte_of, ap length e, length-append old cs) in
    with_items_is c.args.text.now whole (omega (arith, long, c.deref_mut.ensures.len)) ∙ is
