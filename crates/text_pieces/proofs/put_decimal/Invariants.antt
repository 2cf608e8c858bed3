-- `text_pieces::put_decimal` meets its contract: the digits put so far stand behind those of what is left of the number. Assumes nothing.
use Prim.Native.Nat.{◌^◌, ◌≤◌, ◌<◌}
use mathlib.Core.List.{◌++◌}
use mathlib.Core.Path.{◌≡◌}
use lib.ListN.{length, drop}
use Rattle.rules.specs.Listing.{decimal, decimal_in}
use Rattle.text_pieces.proofs.put_decimal.Given as goal

abbrev pub invariant-loop-i : goal.invariant-loop-i
invariant-loop-i l =
    (1 ≤ l.i) × (length l.digits ≡ 20) × (l.x < 10 ^ l.i) × (l.out ≡ l.initial.out) × (decimal l.n ≡ decimal_in l.i l.x ++ drop l.i l.digits)
