-- A machine that comes to where it reads a line waits for it, and its turn ends.
use Rattle.std.proofs.Common.{◌≡◌, ℕ, Option, Some, true, refl}
use Rattle.zcore.specs.declared.place.Place.TheVariants as places
use Rattle.zcore.specs.declared.next.Next.{Next}
use Rattle.zcore.specs.State.{State, done, halt}
use Rattle.zcore.specs.Parts.{is_text_buffer, is_parse_buffer, test_text_buffer, test_parse_buffer, test_result, wait}
use Rattle.zcore.specs.Execution.{read}
use Rattle.zcore.specs.Turn.{Whole, Turns}
use Rattle.zcore.proofs.Turning.{turns_on}
use Rattle.code.proofs.Play.{Leads, stays, moves}
use Rattle.code.proofs.Arriving.{here}

-- steps, and then the end of a turn
pub leads_turns : (from next : Next) (s t : State) (whole : Whole) → Leads from s next t → Turns next t whole
    → Turns from s whole
leads_turns from next s t whole (stays h x) turn = turn
leads_turns from next s t whole (moves h m n x y z e rest) turn =
    turns_on h m x y whole e (leads_turns m next y t whole rest turn)

-- a machine whose tests pass waits
pub waits_for : (here : Next) (after : ℕ) (result : Option ℕ) (text parse : ℕ) (s : State)
    → is_text_buffer s.memory text ≡ true → is_parse_buffer s.memory parse ≡ true → test_result result s ≡ done tt s
    → read here after result text parse s ≡ halt places.Waiting (record s {
      pending = Some
          (record { text_buffer = text; parse_buffer = parse; result = result; return_address = after });
    })
unfolding read test_text_buffer test_parse_buffer wait
waits_for here after result text parse s e f g = rw (e, f, g) refl
