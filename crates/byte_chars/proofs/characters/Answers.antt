-- `byte_chars::characters` meets its contract: the agreement of the table with the rule, computed over all its entries. Assumes nothing.
use mathlib.Core.Path.{refl}
use Rattle.rules.specs.Chars.{is_valid}
use Rattle.byte_chars.specs.Characters.{class_of}
use Rattle.byte_chars.proofs.Table.{agrees}
use Rattle.byte_chars.proofs.characters.Goals as goal

pub returns : goal.returns
unfolding class_of is_valid
returns c = agrees _ refl refl
