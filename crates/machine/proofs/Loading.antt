-- The store of a story that was loaded.
use Rattle.std.proofs.Common.{◌≡◌, ℕ, List, [], ap, sym, subst, arith, Ok}
use Rattle.zcore.specs.declared.header.Header.{Header}
use Rattle.zcore.specs.Header.{Reads}
use Rattle.zcore.specs.State.{State}
use Rattle.zcore.specs.Turn.{first_state}
use Rattle.machine_frames.specs.Contents.{Contents, memory_of}
use Rattle.machine.specs.Loaded.{IsLoaded}
use Rattle.machine_frames.specs.States.{state_of, IsSound, IsHeadedBy}
use Rattle.machine_opcodes.proofs.Targets.{scale_is}
use Rattle.machine.specs.declared.turn.Machine.{Machine}

headed_by : (story : List ℕ) (header : Header) → Reads story (Ok header) → IsHeadedBy header story
headed_by story header h = record {
  scale = scale_is story header.version h.5.version;
  static_base = h.5.static_base;
  globals = h.5.globals;
  defaults = h.5.defaults;
  abbreviations = h.5.abbreviations;
  dictionary = h.5.dictionary.address;
  behind = h.3.dictionary;
  head = omega (arith, h.4.whole);
  searchable = λ ordered. h.4;
}

pub loaded : (story : List ℕ) (machine : Machine) (s : Contents) → Reads story (Ok machine.header) → IsSound s
    → state_of s [] ≡ first_state story → IsLoaded story machine s
loaded story machine s h sound e =
    let memory : memory_of s ≡ story = ap (λ (t : State). t.memory) e in
    record {
      header = h;
      store = record {
        sound = sound;
        headed = subst (IsHeadedBy machine.header) (sym memory)
            (headed_by story machine.header h);
      };
      state = e;
    }
