-- No second answer meets the promise of `refill`, and what is lent is afterwards one thing. Assumes nothing.
use Prim.Native.Nat.{ℕ}
use mathlib.Core.List.{List, ◌++◌}
use mathlib.Core.Path.{◌≡◌, sym, ◌∙◌, ap, ap₂}
use native.Mathlib.Omega.{arith}
use lib.ListN.{length, drop, take-append-drop}
use lib.Seq.{length-take-le}
use Rattle.rules_only.proofs.Only.{OnlyBoth}
use Rattle.notes_runs.specs.Runs.{Refilled}

pub only_refilled : (s : List ℕ) (last : ℕ) (heads : List ℕ) → OnlyBoth (λ (r : ℕ) l. Refilled s last heads l r)
only_refilled s last heads r q l k a b =
    let e : r ≡ q = omega (arith, length-take-le r l a.fits, length-take-le q k b.fits, ap length (a.is ∙ sym b.is)) in
    let f : drop r l ≡ drop q k = a.left ∙ rw e (sym b.left) in
    (e, sym (take-append-drop r l) ∙ ap₂ (λ (x y : List ℕ). x ++ y) (a.is ∙ sym b.is) f ∙ take-append-drop q k)
