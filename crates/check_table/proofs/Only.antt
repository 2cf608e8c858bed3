-- One answer at most meets each promise of this crate. Assumes nothing.
use Rattle.std.specs.Prelude.{Result}
use Rattle.rules.specs.declared.Refusal.{Refusal}
use Prim.Native.Nat.{ℕ}
use mathlib.Core.Bool.{Bool, cond}
use mathlib.Core.List.{List}
use mathlib.Core.Path.{◌≡◌, sym, ap, ◌∙◌}
use Rattle.rules.specs.Refusals.{Said}
use Rattle.rules.specs.declared.State.{State}
use Rattle.rules_only.proofs.Only.{OnlyBoth, same, alike}
use Rattle.rules_only.proofs.Told.{result_one}
use Rattle.check_table.specs.Turns.{entry, EntryPut}
use Rattle.check_table.specs.declared.Reached.{Reached}
use Rattle.check_table.specs.Entering.{Turned, LineLeft}

pub only_entry_put : (lent : Bool) (table : List ℕ) (n at : ℕ) → OnlyBoth (EntryPut lent table n at)
only_entry_put lent table n at r r' after after' e e' =
    let q : r ≡ r' = same r r' e.fits e'.fits in
    (q, e.entries ∙ ap (λ (b : Bool). cond b (entry lent table n at) table) q ∙ sym e'.entries)

pub turned_only : {s : Said Reached} {lent : Bool} {table : List ℕ} {at : ℕ} {st : State} → OnlyBoth (Turned s lent table at st)
turned_only r r' after after' e e' = (alike result_one r r' e.answer e'.answer, same after after' e.entries e'.entries)

pub only_line_left : (j : Result State Refusal) (lent : Bool) (table : List ℕ) (at : ℕ) (st : State) (next : ℕ) → OnlyBoth (LineLeft j lent table at st next)
only_line_left j lent table at st next = turned_only
