-- The numbers of pages, wherever they are stored.
use Rattle.std.specs.Prelude.{ℕ, List}
use Rattle.journal.specs.declared.page_list.Numbers.{Numbers}
use Rattle.journal.specs.declared.page_list.Numbers.TheVariants.{Few, Many}

abbrev pub numbers_of : Numbers → List ℕ
numbers_of (Few numbers) = numbers
numbers_of (Many numbers) = numbers.items
