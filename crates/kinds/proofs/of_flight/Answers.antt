-- `kinds::of_flight` meets its contract. Assumes nothing.
use mathlib.Core.Path.{refl}
use native.Mathlib.Omega.{arith}
use borrow.Author.Rules.{rules}
use Rattle.kinds.proofs.Telling.{short_told, ready, put_long, room_told}
use Rattle.kinds.proofs.of_flight.Goals as goal

pub returns-then-list-n : goal.returns-then-list-n
returns-then-list-n c =
    short_told c.args.file.now c.args.list.now c.args.flight c.requires _ refl _ (omega arith) c.unplaced.ensures

pub letters-from-requires : goal.letters-from-requires
letters-from-requires c =
    ready c.args.file.now c.args.list.now c.args.flight c.requires _ refl (omega arith) _ c.sizes_of.ensures

pub mark-requires : goal.mark-requires
mark-requires c =
    put_long c.args.file.now c.args.list.now c.args.flight c.requires _ refl (omega arith) _ _ c.letters-from.ensures

pub returns : goal.returns
returns c =
    room_told c.args.file.now c.args.list.now c.args.flight c.requires _ refl (omega arith) _ _ _ c.letters-from.ensures c.mark.ensures
