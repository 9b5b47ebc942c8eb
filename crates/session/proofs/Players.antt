-- What the turns of a machine come to, as functions of what its store holds.
use Rattle.std.proofs.Common.{◌≡◌, ℕ, List, [], Option, Some, None, Result, Ok, Err, length, drop}
use Rattle.std.proofs.Common.{ap, refl, sym, subst, ◌∙◌}
use Rattle.std.specs.Borrow.{Bor}
use Rattle.std.specs.Global.{Vec}
use Rattle.std.specs.declared.alloc.AllocError.{AllocError}
use Rattle.std.specs.Option.{option_map}
use Rattle.std.specs.Prelude.{Bool, IfOk, IfSome, IsTrue, OnOk}
use Rattle.journal.specs.Recording.{Recording}
use Rattle.journal.specs.declared.recorded.NoMemory.{NoMemory}
use Rattle.zcore.specs.declared.next.Next.{Next}
use Rattle.zcore.specs.declared.place.Place.{Place}
use Rattle.zcore.specs.State.{State, Out, done, halt}
use Rattle.zcore.specs.Turn.{StateOfPlay, Whole, ended, after_step, turn_from, turn_on, turn_pending, given, resumed, opening}
use Rattle.zcore.specs.Turn.{first_next, first_state}
use Rattle.zcore.proofs.Turning.{turns_is}
use Rattle.machine_frames.specs.Contents.{Contents, memory_of}
use Rattle.machine_frames.specs.Playing.{Follows, FollowsBy, Answers, Opens, whole_of}
use Rattle.machine_frames.specs.States.{play_of, IsStoreOf}
use Rattle.machine.specs.Ended.{TurnEndsBy, IsReadyFor, OpensOrAnswers}
use Rattle.zcore.specs.declared.header.Header.{Header}
use Rattle.zcore.specs.Header.{static_base_of}
use Rattle.zcore.specs.Turn.{TurnsBy}
use Rattle.zcore_versions.specs.Machine.{any, any_turn, any_pending, any_opening, any_turn_on}
use Rattle.zcore_versions.specs.Versions.{Story}
use Rattle.zcore_versions.proofs.Turning.{any_turn_is}
use Rattle.zcore_standard.specs.Machine.{standard_ended, begins, begins_after, keeping, play_keeping}
use Rattle.zcore_standard.specs.Place.{Here}
use Rattle.machine_picture.specs.Picture.{any_drawing, drawing_on, opening_drawing, pending_drawing}
use Rattle.machine_picture.proofs.Turns.{drawing_is}
use Rattle.machine_standard.specs.Script.{Scripts, any_script, opening_script, pending_script, script_on}
use Rattle.machine_standard.specs.Scripts.{AnswersScript, FollowsScript, OpensOrAnswersScript, OpensScript, typed_into}
use Rattle.machine_standard.proofs.ScriptTurns.{script_is}
use Rattle.machine_standard.specs.Loads.{IsLoaded as IsStandardLoaded, IsStoreFor, story_of}
use Rattle.machine_standard.specs.Playing.{OpensStandard, AnswersStandard, OpensOrAnswersStandard}
use Rattle.machine_standard.specs.Playing.{IsReadyForStandard, any_waited}
use Rattle.machine_standard.specs.Pictures.{AnswersDrawing, DrawsText, FollowsDrawing, OpensDrawing}
use Rattle.machine_standard.specs.Pictures.{OpensOrAnswersDrawing}
use Rattle.machine_standard.specs.declared.turn.StandardMachine.{StandardMachine}
use Rattle.zcore_standard_loading.specs.declared.options.StandardOptions.{StandardOptions}
use Rattle.session.specs.declared.mode.Mode.TheVariants.{Standard}
use Rattle.session.specs.Modes.{Known, IsSettled, IsSettledStory}
use Rattle.machine_standard_saves.specs.Asked.{IsGameOf}
use Rattle.session.specs.Given.{IsSaveIn}
use Rattle.session.specs.Players.{IsPlayerOf, IsReadyIn, PlayerDrawing, PlayerScript, PlayerStyles, PlayerTurn}
use Rattle.machine_picture.specs.Styles.{Styles, begun}
use Rattle.machine_standard.specs.Styled.{AnswersStyles, FollowsStyles, OpensOrAnswersStyles, OpensStyles, StylesFrom}
use Rattle.machine_standard.specs.Styled.{any_styles, opening_styles, pending_styles, styles_on}
use Rattle.machine_standard.proofs.StyleTurns.{styles_is}

-- a turn that ends by one description ends by another that follows from it
pub ends_as : (takes : Contents → Type 0) (turn other : Whole → Type 0) (old : Recording Contents) (was : List ℕ) (new : Recording Contents)
    (now : List ℕ) (result : Result Place NoMemory)
    → ((place : Place) (text : List ℕ) → turn (whole_of new.store place text) → other (whole_of new.store place text))
    → TurnEndsBy takes turn old was new now result → TurnEndsBy takes other old was new now result
ends_as takes turn other old was new now (Ok place) so h = record {
  whole = so place (drop (length was) now) h.whole;
  waits = h.waits;
  goes_on = h.goes_on;
  given_up = h.given_up;
  front = h.front;
}
ends_as takes turn other old was new now (Err e) so h = record {
  whole = h.whole;
  waits = h.waits;
  goes_on = h.goes_on;
  given_up = h.given_up;
  front = h.front;
}

pub opens_turn : (s : Contents) (fuel : ℕ) (whole : Whole) → Opens s fuel whole
    → opening (memory_of s) fuel ≡ Some whole
unfolding opening
opens_turn s fuel whole h = turns_is (first_next (memory_of s) fuel) (first_state (memory_of s)) whole h

follows_turn : (o : Out Next) (stop : Place → State → Whole) (whole : Whole) → Follows o stop whole
    → after_step o turn_from (λ place s. Some (stop place s)) ≡ Some whole
follows_turn (done next s) stop whole h = turns_is next s whole h
follows_turn (halt place s) stop whole h = ap (λ (w : Whole). Some w) (sym h)

pub answers_turn : (line : List ℕ) (kept : List (List ℕ)) (s : Contents) (fuel : ℕ) (whole : Whole)
    → Answers line s fuel whole → turn_on line fuel (play_keeping kept (play_of s)) ≡ Some whole
unfolding turn_on
answers_turn line kept s fuel whole h =
    ap (λ p. turn_pending p line fuel (play_keeping kept (play_of s))) h.1
    ∙ follows_turn (given h.0 line fuel (resumed (play_of s)))
    (ended (record { program_counter = (play_of s).program_counter; fuel = fuel })) whole h.2

-- its turns
pub profile_turn : (header : Header) (line : Option (Bor (List ℕ))) (kept : List (List ℕ)) (s : Contents) (fuel : ℕ)
    (whole : Whole) → OpensOrAnswers line s fuel whole
    → PlayerTurn (record { header = header; loaded = None }) line kept s fuel whole
profile_turn header None kept s fuel whole h = λ none. opens_turn s fuel whole h
profile_turn header (Some line) kept s fuel whole h = answers_turn line.now kept s fuel whole h

-- a turn of the profile leaves nothing that is kept
pub none_kept : (header : Header) (line : Option (Bor (List ℕ))) (before : List (List ℕ)) (s : Contents) (fuel : ℕ)
    (kept : List (List ℕ)) → kept ≡ [] → (whole : Whole) → OpensOrAnswers line s fuel whole → whole.state.kept ≡ []
    → PlayerTurn (record { header = header; loaded = None }) line before s fuel (keeping kept whole)
none_kept header line before s fuel kept none whole h is =
    subst (λ (w : Whole). PlayerTurn (record { header = header; loaded = None }) line before s fuel w)
    (ap (λ k. keeping k whole) (is ∙ sym none)) (profile_turn header line before s fuel whole h)

-- a store on which one can be played
pub profile_ready : (header : Header) (line : Option (Bor (List ℕ))) (s : Contents)
    → IsReadyIn (record { header = header; loaded = None }) line s → IsReadyFor line s
profile_ready header None s h = h
profile_ready header (Some line) s h = h

-- The Standard's machine

opens_standard : (story : Story) (s : Contents) (fuel : ℕ) (whole : Whole) → OpensStandard story [] s fuel whole
    → any_opening story (memory_of s) fuel ≡ Some whole
unfolding any_opening
opens_standard story s fuel whole h =
    any_turn_is story (begins story.loaded.dice [] (first_next (memory_of s) fuel)) (first_state (memory_of s)) whole h

follows_standard : (story : Story) (here : Next → State → Here) (o : Out Next) (stop : Place → State → Whole)
    (whole : Whole) → FollowsBy (λ next t w. TurnsBy (any story) (here next t) t w) o stop whole
    → after_step o (λ next t. any_turn story (here next t) t) (λ place t. Some (stop place t)) ≡ Some whole
follows_standard story here (done next t) stop whole h = any_turn_is story (here next t) t whole h
follows_standard story here (halt place t) stop whole h = ap (λ (w : Whole). Some w) (sym h)

answers_standard : (story : Story) (line : List ℕ) (kept : List (List ℕ)) (s : Contents) (fuel : ℕ) (whole : Whole)
    → AnswersStandard story line kept s fuel whole
    → any_turn_on story line fuel (play_keeping kept (play_of s)) ≡ Some whole
unfolding any_turn_on
answers_standard story line kept s fuel whole h =
    let play : StateOfPlay = play_of s in
    ap (λ p. any_pending story p line fuel (play_keeping kept play)) h.1
    ∙ follows_standard story (λ next t. begins_after (length t.text) play.standard_state kept next)
    (any_waited story h.0 line fuel (resumed play))
    (λ place t. standard_ended (begins_after (length t.text) play.standard_state kept
    (record { program_counter = play.program_counter; fuel = fuel })) place t)
    whole h.2

-- What is drawn

pub profile_drawing : (header : Header) (line : Option (Bor (List ℕ))) (kept : List (List ℕ)) (s : Contents) (fuel : ℕ)
    (drawing : List ℕ) → PlayerDrawing (record { header = header; loaded = None }) line kept s fuel drawing drawing
profile_drawing header None kept s fuel drawing = λ none blank. blank
profile_drawing header (Some line) kept s fuel drawing = refl

opens_drawing : (story : Story) (s : Contents) (fuel : ℕ) (text : List ℕ) → OpensDrawing story [] s fuel [] text
    → text ≡ opening_drawing story (memory_of s) fuel
unfolding opening_drawing
opens_drawing story s fuel text h =
    h.told
    ∙ sym (drawing_is story (begins story.loaded.dice [] (first_next (memory_of s) fuel)) (first_state (memory_of s)) []
    h.picture h.draws)

follows_drawing : (story : Story) (here : Next → State → Here) (o : Out Next) (drawing text : List ℕ)
    → FollowsDrawing (λ next t. DrawsText story (here next t) t) o drawing text
    → text ≡ after_step o (λ next t. any_drawing story (here next t) t drawing) (λ place t. drawing)
follows_drawing story here (done next t) drawing text h =
    h.told ∙ sym (drawing_is story (here next t) t drawing h.picture h.draws)
follows_drawing story here (halt place t) drawing text h = h

answers_drawing : (story : Story) (line : List ℕ) (kept : List (List ℕ)) (s : Contents) (fuel : ℕ) (drawing text : List ℕ)
    → AnswersDrawing story line kept s fuel drawing text
    → text ≡ drawing_on story line fuel drawing (play_keeping kept (play_of s))
unfolding drawing_on
answers_drawing story line kept s fuel drawing text h =
    let play : StateOfPlay = play_of s in
    follows_drawing story (λ next t. begins_after (length t.text) play.standard_state kept next)
    (any_waited story h.0 line fuel (resumed play)) drawing text h.2
    ∙ sym (ap (λ p. pending_drawing story p line fuel drawing (play_keeping kept play)) h.1)

pub standard_drawing : (header : Header) (story : Story) (line : Option (Bor (List ℕ))) (kept : List (List ℕ))
    (s : Contents) (fuel : ℕ) (drawing text : List ℕ) → OpensOrAnswersDrawing story line kept s fuel drawing text
    → PlayerDrawing (record { header = header; loaded = Some story }) line kept s fuel drawing text
standard_drawing header story None kept s fuel drawing text h = λ none blank.
    opens_drawing story s fuel text (subst (λ d. OpensDrawing story [] s fuel d text) blank
    (subst (λ k. OpensDrawing story k s fuel drawing text) none h))
standard_drawing header story (Some line) kept s fuel drawing text h =
    answers_drawing story line.now kept s fuel drawing text h

pub standard_drawing_on : {A E : Type 0} (result : Result A E) (header : Header) (story : Story)
    (line : Option (Bor (List ℕ))) (kept : List (List ℕ)) (s : Contents) (fuel : ℕ) (drawing text : List ℕ)
    → OnOk result (OpensOrAnswersDrawing story line kept s fuel drawing text)
    → OnOk result (PlayerDrawing (record { header = header; loaded = Some story }) line kept s fuel drawing text)
standard_drawing_on (Ok x) header story line kept s fuel drawing text h =
    standard_drawing header story line kept s fuel drawing text h
standard_drawing_on (Err e) header story line kept s fuel drawing text h = tt

pub profile_drawing_on : {A E : Type 0} (result : Result A E) (header : Header) (line : Option (Bor (List ℕ)))
    (kept : List (List ℕ)) (s : Contents) (fuel : ℕ) (drawing : List ℕ)
    → OnOk result (PlayerDrawing (record { header = header; loaded = None }) line kept s fuel drawing drawing)
profile_drawing_on (Ok x) header line kept s fuel drawing = profile_drawing header line kept s fuel drawing
profile_drawing_on (Err f) header line kept s fuel drawing = tt

-- The styles of what a turn prints

pub profile_styles : {A E : Type 0} (result : Result A E) (b : Bool) (header : Header) (line : Option (Bor (List ℕ)))
    (kept : List (List ℕ)) (s : Contents) (fuel style : ℕ) (p : Styles) → (IsTrue b → p ≡ begun style 0)
    → OnOk result
    (IsTrue b → PlayerStyles (record { header = header; loaded = None }) line kept s fuel style p)
profile_styles (Ok x) b header None kept s fuel style p e = λ asked none plain. e asked ∙ ap (λ n. begun n 0) plain
profile_styles (Ok x) b header (Some line) kept s fuel style p e = e
profile_styles (Err f) b header line kept s fuel style p e = tt

opens_styles : (story : Story) (s : Contents) (fuel : ℕ) (last : Styles) → OpensStyles story [] s fuel 0 last
    → last ≡ opening_styles story (memory_of s) fuel
unfolding opening_styles
opens_styles story s fuel last h =
    sym (styles_is story (begins story.loaded.dice [] (first_next (memory_of s) fuel)) (first_state (memory_of s)) 0
    last h)

follows_styles : (story : Story) (here : Next → State → Here) (style : ℕ) (o : Out Next) (last : Styles)
    → FollowsStyles (λ next t. StylesFrom story (here next t) t) o style last
    → last ≡ after_step o (λ next t. any_styles story (here next t) t style) (λ place t. begun style (length t.text))
follows_styles story here style (done next t) last h = sym (styles_is story (here next t) t style last h)
follows_styles story here style (halt place t) last h = h

answers_styles : (story : Story) (line : List ℕ) (kept : List (List ℕ)) (s : Contents) (fuel style : ℕ) (last : Styles)
    → AnswersStyles story line kept s fuel style last
    → last ≡ styles_on story line fuel style (play_keeping kept (play_of s))
unfolding styles_on
answers_styles story line kept s fuel style last h =
    let play : StateOfPlay = play_of s in
    follows_styles story (λ next t. begins_after (length t.text) play.standard_state kept next) style
    (any_waited story h.0 line fuel (resumed play)) last h.2
    ∙ sym (ap (λ p. pending_styles story p line fuel style (play_keeping kept play)) h.1)

pub standard_styles : {A E : Type 0} (result : Result A E) (b : Bool) (header : Header) (story : Story)
    (line : Option (Bor (List ℕ))) (kept : List (List ℕ)) (s : Contents) (fuel style : ℕ) (last : Styles)
    → OnOk result (IsTrue b → OpensOrAnswersStyles story line kept s fuel style last)
    → OnOk result
    (IsTrue b → PlayerStyles (record { header = header; loaded = Some story }) line kept s fuel style last)
standard_styles (Ok x) b header story None kept s fuel style last h = λ asked none plain.
    opens_styles story s fuel last (subst (λ n. OpensStyles story [] s fuel n last) plain
    (subst (λ k. OpensStyles story k s fuel style last) none (h asked)))
standard_styles (Ok x) b header story (Some line) kept s fuel style last h = λ asked.
    answers_styles story line.now kept s fuel style last (h asked)
standard_styles (Err e) b header story line kept s fuel style last h = tt

-- what a turn adds to the transcript

pub profile_script : {A E : Type 0} (result : Result A E) (header : Header) (line : Option (Bor (List ℕ)))
    (kept : List (List ℕ)) (s : Contents) (fuel : ℕ) (script : List ℕ) → script ≡ []
    → OnOk result (PlayerScript (record { header = header; loaded = None }) line kept s fuel script)
profile_script (Ok x) header None kept s fuel script e = λ none. e
profile_script (Ok x) header (Some line) kept s fuel script e = e
profile_script (Err f) header line kept s fuel script e = tt

opens_script : (story : Story) (s : Contents) (fuel : ℕ) (script : List ℕ) → OpensScript story [] s fuel script
    → script ≡ opening_script story (memory_of s) fuel
unfolding opening_script
opens_script story s fuel script h =
    sym (script_is story (begins story.loaded.dice [] (first_next (memory_of s) fuel)) (first_state (memory_of s)) []
    script h)

follows_script : (story : Story) (here : Next → State → Here) (before : List ℕ) (o : Out Next) (script : List ℕ)
    → FollowsScript (λ next t. Scripts story (here next t) t) before o script
    → script ≡ after_step o (λ next t. any_script story (here next t) t before) (λ place t. before)
follows_script story here before (done next t) script h = sym (script_is story (here next t) t before script h)
follows_script story here before (halt place t) script h = h

answers_script : (story : Story) (line : List ℕ) (kept : List (List ℕ)) (s : Contents) (fuel : ℕ) (script : List ℕ)
    → AnswersScript story line kept s fuel script → script ≡ script_on story line fuel (play_keeping kept (play_of s))
unfolding script_on
answers_script story line kept s fuel script h =
    let play : StateOfPlay = play_of s in
    follows_script story (λ next t. begins_after (length t.text) play.standard_state kept next)
    (typed_into story h.0 line s) (any_waited story h.0 line fuel (resumed play)) script h.2
    ∙ sym (ap (λ p. pending_script story p line fuel (play_keeping kept play)) h.1)

pub standard_script : {A E : Type 0} (result : Result A E) (header : Header) (story : Story)
    (line : Option (Bor (List ℕ))) (kept : List (List ℕ)) (s : Contents) (fuel : ℕ) (script : List ℕ)
    → OnOk result (OpensOrAnswersScript story line kept s fuel script)
    → OnOk result (PlayerScript (record { header = header; loaded = Some story }) line kept s fuel script)
standard_script (Ok x) header story None kept s fuel script h = λ none.
    opens_script story s fuel script (subst (λ k. OpensScript story k s fuel script) none h)
standard_script (Ok x) header story (Some line) kept s fuel script h = answers_script story line.now kept s fuel script h
standard_script (Err e) header story line kept s fuel script h = tt

-- a machine of the whole Standard that was loaded
pub standard_player : (story : List ℕ) (options : StandardOptions) (machine : StandardMachine) (s : Contents)
    → IsStandardLoaded story options machine s
    → IsPlayerOf (Standard options) story (record { header = machine.header; loaded = Some (story_of machine) }) s
standard_player story options machine s h = record {
  can = (h.story, h.read);
  loaded = ap (λ l. Some l) h.played;
  settled = record {
    dynamic = h.store.dynamic ∙ sym h.store.store.headed.static_base;
    saves = subst (λ (n : ℕ). IfSome machine.loaded.saves (λ memory. length memory ≡ n))
        (sym h.store.store.headed.static_base) h.store.saves;
    version = h.store.version;
  };
  store = h.store.store;
  state = h.state;
  static_base = h.store.store.headed.static_base ∙ ap (λ (t : State). static_base_of t.memory) h.state;
}

-- its turns
pub standard_machine_turn : (header : Header) (story : Story) (line : Option (Bor (List ℕ))) (kept : List (List ℕ))
    (s : Contents) (fuel : ℕ) (whole : Whole) → OpensOrAnswersStandard story line kept s fuel whole
    → PlayerTurn (record { header = header; loaded = Some story }) line kept s fuel whole
standard_machine_turn header story None kept s fuel whole h = λ none.
    opens_standard story s fuel whole (subst (λ k. OpensStandard story k s fuel whole) none h)
standard_machine_turn header story (Some line) kept s fuel whole h = answers_standard story line.now kept s fuel whole h

-- a store on which one can be played
pub standard_ready : (header : Header) (story : Story) (line : Option (Bor (List ℕ))) (s : Contents)
    → IsReadyIn (record { header = header; loaded = Some story }) line s → IsReadyForStandard story line s
standard_ready header story None s h = h
standard_ready header story (Some line) s h = h

abbrev pub standard_known : StandardMachine → Known
standard_known machine = record { header = machine.header; loaded = Some (story_of machine) }

-- a store that a session has settled is one that the machine plays
pub standard_store : (machine : StandardMachine) (s : Contents) (known : Known) → known ≡ standard_known machine
    → IsStoreOf known.header s → IsSettled known → IsStoreFor machine s
standard_store machine s known is store settled =
    let o : IsStoreOf machine.header s = subst (λ (k : Known). IsStoreOf k.header s) is store in
    let l : IsSettledStory machine.header.static_base (story_of machine) = subst IsSettled is settled in
    record {
      store = o;
      dynamic = l.dynamic ∙ o.headed.static_base;
      saves = subst (λ (n : ℕ). IfSome machine.loaded.saves (λ memory. length memory ≡ n)) o.headed.static_base l.saves;
      version = l.version;
    }

-- the save file that a machine makes
save_of : (machine : StandardMachine) (s : Contents) (file : Option (Vec ℕ))
    → IsGameOf machine.loaded s (option_map (λ f. f.items) file) → IsSaveIn (Some (story_of machine)) (play_of s) file
save_of machine s None h = λ pending is. h pending is
save_of machine s (Some file) h = λ pending is. h pending is

pub saves_of : (machine : StandardMachine) (s : Contents) (result : Result (Option (Vec ℕ)) AllocError)
    → IfOk result (λ file. IsGameOf machine.loaded s (option_map (λ f. f.items) file))
    → IfOk result (IsSaveIn (Some (story_of machine)) (play_of s))
saves_of machine s (Ok file) h = save_of machine s file h
saves_of machine s (Err fault) h = h
