-- What is told of a reply: to the writer, and to the transcript of the story.
use Rattle.std.specs.Prelude.{◌≡◌, ℕ, List, [], codes, Option, Some, None}
use Rattle.std.specs.Borrow.{Bor}
use Rattle.session.specs.declared.reply.Reply.{Reply}
use Rattle.session.specs.declared.reply.Reply.TheVariants as replies
use Rattle.session_lines.specs.Transcript.{note}
use Rattle.session_lines.specs.Files.{FileAct}
use Rattle.session_run.specs.Acts.{adding}

-- the text of a reply
abbrev pub words_of : Reply → List ℕ
words_of (replies.Taken text) = text.now
words_of replies.Refused = note (codes "[Line refused.]")
words_of replies.Over = note (codes "[The story is over.]")
words_of replies.NoMemory = note (codes "[No memory: line not taken.]")

-- what is added to the transcript, where the turn adds this
abbrev pub script_told : Reply → List ℕ → List FileAct
script_told (replies.Taken text) script = adding script
script_told _ script = []

-- Where styles are kept, the text of a reply is told with marks.

-- whether a reply is a notice, with these words, or the text of a turn
abbrev pub IsNotice : Reply → Option (Bor (List ℕ)) → Type 0
IsNotice (replies.Taken text) notice = notice ≡ None
IsNotice reply notice = (words : Bor (List ℕ)) × ((notice ≡ Some words) × (words.now ≡ words_of reply))

-- what is told of it, and what is added to the transcript
abbrev pub told_or : Option (Bor (List ℕ)) → List ℕ → List ℕ
told_or None text = text
told_or (Some words) text = words.now

abbrev pub script_or : Option (Bor (List ℕ)) → List ℕ → List FileAct
script_or None script = adding script
script_or (Some words) script = []
