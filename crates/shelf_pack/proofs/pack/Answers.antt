-- `shelf_pack::pack` meets its contract: 27 with nothing changed, or a sound shelf packed. Assumes nothing.
use borrow.Author.Rules.{rules}
use Rattle.shelf_rules.proofs.Tests.{not_so}
use Rattle.shelf_pack.proofs.Nexts.{pack_refused, pack_done}
use Rattle.shelf_pack.proofs.pack.Goals as goal

pub returns-then-not-is_sound : goal.returns-then-not-is_sound
returns-then-not-is_sound c = search (pack_refused, rules)

pub pack_sound-requires : goal.pack_sound-requires
pack_sound-requires c = search (not_so, rules)

pub returns : goal.returns
returns c = search (pack_done, rules)
