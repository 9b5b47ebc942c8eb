use Rattle.std.proofs.Common.{◌∙◌, map}
use Rattle.std.proofs.lemmas.Result.{on_ok_weaker}
use Rattle.derive_tokens.specs.Held.{names_of}
use Rattle.derive_values.specs.Values.{first_text}
use Rattle.derive_routines.specs.Held.{arm_of, search_of}
use Rattle.derive_routines.specs.Made.{text_arms, text_routines, text_search}
use Rattle.derive_routines.specs.Search.{search_text}
use Rattle.derive_routines.proofs.Chains.{two}
use Rattle.derive_routines.proofs.Levels.{searched}
use Rattle.derive_routines.proofs.made.put_string.Goals as goal

pub returns : goal.returns
returns c =
    let texts = names_of c.args.texts.now in
    on_ok_weaker c.put_search.result
    (λ e. two c.args.text.now.items (text_routines first_text texts) (search_text text_search first_text (text_arms first_text texts))
    c.in_ok-put_texts.ensures
    (e ∙ searched c.put_texts.new.text.items (search_of c.text_search.result) text_search first_text
    (map arm_of c.in_ok-arms.arms.items) (text_arms first_text texts) c.text_search.ensures c.in_ok-arms.ensures.value))
    c.put_search.ensures
