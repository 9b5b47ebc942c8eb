use Rattle.std.proofs.Common.{◌≡◌, ◌≤◌, ◌++◌, drop}
use Rattle.syntax_lexer.specs.Token.{lexemes}
use Rattle.derive_tokens.specs.Pieces.{derived_all}
use Rattle.derive_constants.specs.Entries.{entries, entries_from}
use Rattle.derive_constants.specs.Held.{known_of, group_of, opened_in}
use Rattle.derive_constants.proofs.entries.put_entries.Given as goal

abbrev pub invariant-loop-token : goal.invariant-loop-token
invariant-loop-token l = record {
  shallow : l.depth ≤ l.token-index;
  few : opened_in l.group.waiting ≤ l.token-index;
  rest : derived_all l.out.items
      ++ entries_from (known_of l.known) l.depth (group_of l.group) (lexemes (drop l.token-index l.tokens))
      ≡ derived_all l.initial.out.items ++ entries (known_of l.known) (lexemes l.tokens);
}
