-- What a turn keeps in one run of bytes: its line, and behind it what it printed.
use Rattle.std.specs.Prelude.{ℕ, List, take, drop}
use Rattle.session_lines.specs.declared.written.Written.{Written}

abbrev pub line_of : Written → List ℕ
line_of w = take w.line w.bytes

abbrev pub text_of : Written → List ℕ
text_of w = drop w.line w.bytes
