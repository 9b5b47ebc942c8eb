use Rattle.std.proofs.Common.{Some, None, if◌then◌else◌, Bool, ap, sym, ◌∙◌}
use Rattle.iff_files.proofs.ReadSaves.{is_read, refused_header, refused_memory, refused_parts, refused_stacks}
use Rattle.iff_files.proofs.reading.read_save.Goals as goal

pub returns-in_default-clause-read : goal.returns-in_default-clause-read
returns-in_default-clause-read c = refused_parts c.args.memory.now c.args.size c.args.bytes.now c.in_default.ensures

pub returns-in-Err-clause-read : goal.returns-in-Err-clause-read
returns-in-Err-clause-read c = refused_header c.args.memory.now c.args.size c.args.bytes.now _ c.in-Err.fault
    c.in-Some.ensures (sym c.in-Err.ensures.same)

pub returns-then-not-put_memory-clause-read : goal.returns-then-not-put_memory-clause-read
returns-then-not-put_memory-clause-read c =
    refused_memory c.args.memory.now c.args.size c.args.bytes.now _ c.in-Ok.program_counter
    c.in-Some.ensures (sym c.in-Ok.ensures.same)
    (c.put_memory.ensures ∙ ap (λ (t : Bool). if t then Some c.put_memory.new.memory else None) c.if-not-put_memory.true)

pub returns-then-not-are_stacks-clause-read : goal.returns-then-not-are_stacks-clause-read
returns-then-not-are_stacks-clause-read c =
    refused_stacks c.args.memory.now c.args.size c.args.bytes.now _ c.in-Ok.program_counter c.put_memory.new.memory
    c.in-Some.ensures (sym c.in-Ok.ensures.same)
    (c.put_memory.ensures ∙ ap (λ (t : Bool). if t then Some c.put_memory.new.memory else None) c.if-not-put_memory.false)
    (sym c.are_stacks.ensures ∙ c.if-not-are_stacks.true)

pub returns-clause-read : goal.returns-clause-read
returns-clause-read c =
    is_read c.args.memory.now c.args.size c.args.bytes.now _ c.in-Ok.program_counter c.put_memory.new.memory
    c.in-Some.ensures (sym c.in-Ok.ensures.same)
    (c.put_memory.ensures ∙ ap (λ (t : Bool). if t then Some c.put_memory.new.memory else None) c.if-not-put_memory.false)
    (sym c.are_stacks.ensures ∙ c.if-not-are_stacks.false)
