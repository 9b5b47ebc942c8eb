-- Which act a note is.
use Rattle.session_lines.specs.Files.{FileAct, looked, read, recalled, scripted, seen_by, wrote}
use Rattle.session_lines.specs.declared.log.Note.{Note}
use Rattle.session_lines.specs.declared.log.Note.TheVariants as notes

abbrev pub act_of : Note → FileAct
act_of (notes.Looked name is_there head) = looked name.now (seen_by is_there head.now)
act_of (notes.Wrote name bytes) = wrote name.now bytes.now
act_of (notes.Read name bytes) = read name.now bytes.now
act_of (notes.Recalled given) = recalled given.now
act_of (notes.Scripted bytes) = scripted bytes.now
