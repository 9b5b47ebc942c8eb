use Rattle.std.proofs.Common.{◌≡◌, ◌+◌, ◌∙◌, ◌++◌, ℕ, List, length, take, drop, ap, sym, arith}
use Rattle.std.specs.Prelude.{map}
use Rattle.std.proofs.lemmas.List.{length-map, length-append, take_all}
use Rattle.machine_opcodes.specs.Printed.{byte_of}
use Rattle.machine_opcodes.proofs.Transcripts.{at_once_told, limit_told, grew_cut}
use Rattle.machine_opcodes.proofs.transcript.print_added.Goals as goal

pub returns-then-len-start-gt-TEXT_LIMIT-clause-told : goal.returns-then-len-start-gt-TEXT_LIMIT-clause-told
returns-then-len-start-gt-TEXT_LIMIT-clause-told c =
    let all : List ℕ = c.args.text.now.items in
    let x : List ℕ = take c.args.end all in
    let cs : List ℕ = drop c.args.end all in
    let more : List ℕ = map byte_of cs in
    let grown : List ℕ = c.transcribe_from.new.text.items in
    let is : grown ≡ x ++ more = c.transcribe_from.ensures in
    let n : length grown ≡ length x + length cs = ap length is ∙ length-append x more ∙ ap (λ k. length x + k)
    (length-map cs byte_of) in
    λ store sound. limit_told store c.args.start x c.truncate.new.self.items cs sound c.requires.text c.requires.bytes
    (omega (arith, n)) (c.truncate.ensures.items ∙ ap (take (c.args.start + 65536)) is)

pub returns-then-len-start-gt-TEXT_LIMIT-clause-text : goal.returns-then-len-start-gt-TEXT_LIMIT-clause-text
returns-then-len-start-gt-TEXT_LIMIT-clause-text c =
    let all : List ℕ = c.args.text.now.items in
    grew_cut c.args.start (take c.args.end all) c.truncate.new.self.items (map byte_of (drop c.args.end all))
    c.requires.text
    (c.truncate.ensures.items ∙ ap (take (c.args.start + 65536)) c.transcribe_from.ensures)

pub returns-clause-told : goal.returns-clause-told
returns-clause-told c =
    let all : List ℕ = c.args.text.now.items in
    let x : List ℕ = take c.args.end all in
    let cs : List ℕ = drop c.args.end all in
    let more : List ℕ = map byte_of cs in
    let now : List ℕ = c.transcribe_from.new.text.items in
    let is : now ≡ x ++ more = c.transcribe_from.ensures in
    let n : length now ≡ length x + length cs = ap length is ∙ length-append x more ∙ ap (λ k. length x + k)
    (length-map cs byte_of) in
    λ store sound. at_once_told store c.args.start x now cs sound c.requires.text c.requires.bytes
    (omega (arith, n)) is

pub returns-clause-text : goal.returns-clause-text
returns-clause-text c =
    let all : List ℕ = c.args.text.now.items in
    let x : List ℕ = take c.args.end all in
    let more : List ℕ = map byte_of (drop c.args.end all) in
    let now : List ℕ = c.transcribe_from.new.text.items in
    let is : now ≡ x ++ more = c.transcribe_from.ensures in
    grew_cut c.args.start x now more c.requires.text
    (is ∙ sym (take_all (c.args.start + 65536) (x ++ more) (omega (arith, ap length is))))
