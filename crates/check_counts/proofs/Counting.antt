-- Few counts: the test agrees with what each family's count is; and they are counted on. Assumes nothing.
use Prim.Native.Nat.{◌≤◌}
use mathlib.Core.Bool.{true, ◌&&◌}
use mathlib.Core.Path.{◌≡◌}
use borrow.Author.Tests.{le-leb, leb-true}
use Rattle.rules.specs.Families.{count_of, one_more}
use Rattle.rules.specs.declared.Counts.{Counts}
use Rattle.rules.specs.declared.Extra.TheVariants as extra
use Rattle.rules.specs.declared.Family.{Family}
use Rattle.rules.specs.declared.Family.TheVariants as family
use Rattle.rules.proofs.Inverse.{and_inv}
use Rattle.check_counts.specs.Counting.{is_few, are_few, more_of}

pub few_are : (ns : Counts) → ((f : Family) → count_of f ns ≤ 16777216) → are_few ns ≡ true
unfolding are_few
few_are ns h = rw (le-leb _ _ (h family.B), le-leb _ _ (h (family.Extra extra.K)), le-leb _ _ (h (family.Extra extra.N)))

three_few : (ns : Counts) → are_few ns ≡ true → (is_few ns.b ≡ true) × (is_few ns.k ≡ true) × (is_few ns.n ≡ true)
unfolding are_few
three_few ns e =
    let a = and_inv (is_few ns.b && is_few ns.k) (is_few ns.n) e in
    let h = and_inv (is_few ns.b) (is_few ns.k) a.0 in
    (h.0, h.1, a.1)

pub are_few_lem : (ns : Counts) → are_few ns ≡ true → (f : Family) → count_of f ns ≤ 16777216
unfolding are_few
are_few_lem ns e family.B = leb-true _ _ (three_few ns e).0
are_few_lem ns e (family.Extra extra.K) = leb-true _ _ (three_few ns e).1
are_few_lem ns e (family.Extra extra.N) = leb-true _ _ (three_few ns e).2

pub few_more : (f : Family) (ns : Counts) → ((g : Family) → count_of g ns ≤ 16777216) → more_of f ns ≡ one_more f ns
unfolding more_of
few_more f ns h = rw (few_are ns h)
