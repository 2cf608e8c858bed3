-- Links: what a part of this crate told, to the way on of the definition. Assumes nothing.
use Prim.Native.Nat.{ℕ}
use mathlib.Core.Path.{◌≡◌}
use Rattle.rules.specs.Refusals.{Said, no, refusal}
use Rattle.rules.specs.declared.Reason.{Reason}
use Rattle.rules.specs.declared.Refusal.{Refusal}
use Rattle.rules.proofs.Links.{given_some, given_none}
use Rattle.layout_entry.specs.Parts.{refusal_at}

pub refuses_at : {A : Type 0} (w : Refusal) (why : Reason) (first : ℕ) → w ≡ refusal_at why first → ◌≡◌ {A = Said A} (refusal w) (no why first)
refuses_at w why first e = rw e

pub ruleset links = (refuses_at, given_some, given_none)
