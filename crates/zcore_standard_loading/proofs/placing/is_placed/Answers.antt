use Rattle.std.proofs.Common.{rules}
use Rattle.zcore_standard_loading.proofs.placing.is_placed.Goals as goal

pub returns-then-has_extension : goal.returns-then-has_extension
returns-then-has_extension c = (
  λ h. record {
    static_base = search rules;
    globals = search rules;
    defaults = search rules;
    abbreviations = search rules;
    first_instruction = search rules;
    dictionary = search rules;
    extension = search rules;
    characters = c.has_characters.ensures.0 h;
  },
  λ placed. c.has_characters.ensures.1 placed.characters,
)
