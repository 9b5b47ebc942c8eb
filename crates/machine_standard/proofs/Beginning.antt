-- The machine and the store of a story that was loaded.
use Rattle.std.proofs.Common.{◌≡◌, ◌≤◌, ℕ, Bool, true, List, [], length, take, ap, sym, ◌∙◌}
use Rattle.std.proofs.Common.{false, if◌then◌else◌, subst, arith, Ok, Option, None, Some}
use Rattle.std.specs.Prelude.{IfSome}
use Rattle.std.proofs.lemmas.List.{length-take-le}
use Rattle.zcore.specs.declared.standard_state.StandardState.{StandardState}
use Rattle.zcore.specs.declared.header.Header.{Header}
use Rattle.zcore.specs.Header.{static_base_of}
use Rattle.zcore.specs.Layout.{longest_story}
use Rattle.zcore.specs.State.{State}
use Rattle.zcore.specs.Turn.{first_state}
use Rattle.zcore_standard_loading.specs.declared.loading.LoadedStory.{LoadedStory}
use Rattle.zcore_standard_loading.specs.Loading.{IsPlayable, ReadsFile, characters_of, own_alphabets_of, loaded_of}
use Rattle.zcore_standard_loading.specs.Loading.{is_played, memory_for, saves_for}
use Rattle.zcore_standard.specs.Loaded.{seeded}
use Rattle.zcore_standard_loading.specs.declared.options.Capabilities.{Capabilities}
use Rattle.zcore_standard_loading.specs.declared.options.StandardOptions.{StandardOptions}
use Rattle.zcore_standard_loading.specs.Loading.{story_in, story_length}
use Rattle.zcore_standard_loading.proofs.Headers.{base_in_file, length_stays}
use Rattle.zcore_standard.specs.Loaded.{Loaded}
use Rattle.machine_frames.specs.Contents.{Contents, memory_of}
use Rattle.machine_frames.specs.States.{state_of, IsScaled, IsSound, IsHeadedBy}
use Rattle.zcore_versions.specs.declared.version.StoryVersion.{StoryVersion}
use Rattle.zcore_versions.specs.ReadVersions.{version_in}
use Rattle.zcore_versions.specs.Versions.{versioned}
use Rattle.machine_standard_steps.specs.Versions.{IsPlayedVersion}
use Rattle.machine_standard.specs.Loads.{AreSaves, Begins, IsLoaded}
use Rattle.machine_standard.specs.declared.turn.StandardMachine.{StandardMachine}

headed_by : (memory : List ℕ) (header : Header) (version : StoryVersion) → IsPlayable memory header version
    → IsHeadedBy header memory
unfolding IsScaled
headed_by memory header version p = record {
  scale = p.read.scale;
  static_base = p.read.static_base;
  globals = p.read.globals;
  defaults = p.read.defaults;
  abbreviations = p.read.abbreviations;
  dictionary = p.read.dictionary.address;
  behind = p.placed.dictionary;
  head = p.dictionary;
  searchable = p.read.dictionary.ordered.0;
}

-- what loading fixes, part by part
abbrev pub made : List ℕ → StandardState → Bool → List ℕ → Option (List ℕ) → Option (List ℕ) → Bool → Loaded
made dynamic dice right characters own saves transcript = record {
  dynamic = dynamic;
  dice = dice;
  is_sum_right = right;
  characters = characters;
  own_alphabets = own;
  saves = saves;
  has_transcript = transcript;
}

pub loaded_as : (x : Loaded) (d dynamic c characters : List ℕ) (b dice : StandardState) (right : Bool)
    (o own saves : Option (List ℕ)) (transcript : Bool) → x ≡ made d b right c o saves transcript → d ≡ dynamic → b ≡ dice → c ≡ characters → o ≡ own
    → x ≡ made dynamic dice right characters own saves transcript
loaded_as x d dynamic c characters b dice right o own saves transcript e f g h i = e
    ∙ ap (λ y. made y b right c o saves transcript) f
    ∙ ap (λ y. made dynamic y right c o saves transcript) g
    ∙ ap (λ y. made dynamic dice right y o saves transcript) h
    ∙ ap (λ y. made dynamic dice right characters y saves transcript) i

if_some : (has : Bool) (xs : List ℕ) (n : ℕ) → length xs ≡ n
    → IfSome (if has then Some xs else None) (λ (l : List ℕ). length l ≡ n)
if_some true xs n e = e
if_some false xs n e = tt

played_version : (version : StoryVersion) → is_played version.number ≡ true
    → (version.routine_offset ≤ longest_story) × (version.text_offset ≤ longest_story) → IsPlayedVersion version
played_version version played near = record {
  played = played;
  routines = near.0;
  texts = near.1;
}

pub begins_with : (memory : List ℕ) (saves : Option (List ℕ)) (story : LoadedStory) (options : StandardOptions)
    (machine : StandardMachine) (s : Contents)
    → IsPlayable memory story.header story.version → AreSaves memory saves
    → machine.header ≡ story.header → machine.version ≡ story.version
    → machine.loaded ≡ made (take (static_base_of memory) memory) (seeded options.seed) story.is_sum_right
    (characters_of memory) (own_alphabets_of memory) saves options.has_transcript
    → IsSound s → state_of s [] ≡ first_state memory → Begins memory saves story options machine s
begins_with memory saves story options machine s p are h v l sound e =
    let same : memory_of s ≡ memory = ap (λ (t : State). t.memory) e in
    let playable : IsPlayable memory machine.header story.version =
    subst (λ h. IsPlayable memory h story.version) (sym h) p in
    let long : length (take (static_base_of memory) memory) ≡ static_base_of memory =
    length-take-le (static_base_of memory) memory (omega (arith, p.placed.static_base.1)) in
    record {
      header = h;
      version = v;
      loaded = l;
      store = record {
        store = record {
          sound = sound;
          headed = subst (IsHeadedBy machine.header) (sym same) (headed_by memory machine.header story.version playable);
        };
        dynamic = ap (λ (x : Loaded). length x.dynamic) l ∙ long ∙ ap static_base_of (sym same);
        saves = subst (λ (x : Loaded). AreSaves (memory_of s) x.saves) (sym l)
            (subst (λ (m : List ℕ). AreSaves m saves) (sym same) are);
        version = subst IsPlayedVersion (sym v) (played_version story.version p.played p.near);
      };
      state = e;
    }

-- what a file that is played has as dynamic memory
pub saves_are : (shown : Capabilities) (file : List ℕ) (story : LoadedStory) (options : StandardOptions)
    → ReadsFile shown file (Ok story) → AreSaves (memory_for shown file) (saves_for file options)
saves_are shown file story options r =
    let base : static_base_of (memory_for shown file) ≡ static_base_of file =
    base_in_file shown file r.0.story.least in
    let long : length (take (static_base_of file) file) ≡ static_base_of (memory_for shown file) =
    length-take-le (static_base_of file) file (omega (
      arith,
      base,
      r.1.placed.static_base.1,
      length_stays shown (story_in file),
      length-take-le (story_length file) file r.0.story.there,
      r.0.story.there,
    )) ∙ sym base in
    if_some options.has_saves (take (static_base_of file) file) (static_base_of (memory_for shown file)) long

pub loaded_file : (file memory : List ℕ) (saves : Option (List ℕ)) (story : LoadedStory) (options : StandardOptions)
    (machine : StandardMachine) (s : Contents)
    → ReadsFile options.capabilities file (Ok story) → memory ≡ memory_for options.capabilities file
    → saves ≡ saves_for file options
    → Begins memory saves story options machine s → IsLoaded file options machine s
loaded_file file memory saves story options machine s r e same b =
    let begun : Begins (memory_for options.capabilities file) (saves_for file options) story options machine s =
    subst (λ (o : Option (List ℕ)). Begins (memory_for options.capabilities file) o story options machine s) same
    (subst (λ (m : List ℕ). Begins m saves story options machine s) e b) in
    record {
      story = story;
      read = r;
      header = begun.header;
      played = ap (λ v. versioned machine.loaded v) (begun.version ∙ r.1.version_read)
          ∙ ap (λ l. versioned l (version_in (memory_for options.capabilities file)))
          (begun.loaded ∙ ap (λ x. record (loaded_of file options) { is_sum_right = x }) r.2);
      store = begun.store;
      state = begun.state;
    }

-- a file that is played is no longer than a story can be
pub short_memory : (shown : Capabilities) (file : List ℕ) (story : LoadedStory) → ReadsFile shown file (Ok story)
    → length (memory_for shown file) ≤ longest_story
short_memory shown file story r = omega (
  arith,
  length_stays shown (story_in file),
  length-take-le (story_length file) file r.0.story.there,
  r.0.story.most,
)
