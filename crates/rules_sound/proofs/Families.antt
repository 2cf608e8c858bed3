-- The families one by one, once for all crates of theorems: what holds of each holds of every family; each has letters of its own, with their roles, and a layout of its own.
-- Assumes nothing.
use Prim.Native.Nat.{ℕ}
use mathlib.Core.Bool.{Bool, true, false, not, ◌&&◌}
use mathlib.Core.Path.{◌≡◌, refl, sym, ◌∙◌}
use Rattle.rules.specs.Families.{line_letter, layout_letter, layout_of, with_layout}
use Rattle.rules.specs.Lines.{kind_of}
use Rattle.rules.specs.Roles.{role_of, same_family}
use Rattle.rules.specs.declared.Layout.{Layout}
use Rattle.rules.specs.declared.Layouts.{Layouts}
use Rattle.rules.specs.declared.Extra.TheVariants as extra
use Rattle.rules.specs.declared.Family.{Family}
use Rattle.rules.specs.declared.Family.TheVariants as family
use Rattle.rules.specs.declared.Role.TheVariants as role
use Rattle.rules.proofs.Inverse.{false_true, and_inv}
use borrow.Author.Tests.{not-true}

-- what holds of each family
abbrev pub every : (P : Family → Type 0) → P family.B → P (family.Extra extra.K) → P (family.Extra extra.N) → (f : Family) → P f
every P b k n family.B = b
every P b k n (family.Extra extra.K) = k
every P b k n (family.Extra extra.N) = n

-- a test that each of them passes, and one that each fails
pub all_pass : (test : Family → Bool) → (test family.B && (test (family.Extra extra.K) && test (family.Extra extra.N))) ≡ true → (f : Family) → test f ≡ true
all_pass test e =
    let b = and_inv (test family.B) _ e in
    let x = and_inv (test (family.Extra extra.K)) (test (family.Extra extra.N)) b.1 in
    every (λ f. test f ≡ true) b.0 x.0 x.1

pub none_pass : (test : Family → Bool) → (not (test family.B) && (not (test (family.Extra extra.K)) && not (test (family.Extra extra.N)))) ≡ true → (f : Family) → test f ≡ false
none_pass test e f = not-true (test f) (all_pass (λ g. not (test g)) e f)

-- ---- the roles of their letters

pub line_role : (f : Family) (b : ℕ) → b ≡ line_letter f → role_of (kind_of b) ≡ role.Columned f
unfolding kind_of
line_role f b e = rw e (every (λ f. role_of (kind_of (line_letter f)) ≡ role.Columned f) refl refl refl f)

pub tells_role : (f : Family) (b : ℕ) → b ≡ layout_letter f → role_of (kind_of b) ≡ role.Tells f
unfolding kind_of
tells_role f b e = rw e (every (λ f. role_of (kind_of (layout_letter f)) ≡ role.Tells f) refl refl refl f)

-- ---- the layouts of a file

pub all_layouts : (a b : Layouts) → ((f : Family) → layout_of f a ≡ layout_of f b) → a ≡ b
all_layouts a b h = λ i. record { b = h family.B i; k = h (family.Extra extra.K) i; n = h (family.Extra extra.N) i }

pub put_own : (f : Family) (i : Layout) (ls : Layouts) → layout_of f (with_layout f i ls) ≡ i
put_own f i ls = every (λ f. layout_of f (with_layout f i ls) ≡ i) refl refl refl f

pub own_put : (f : Family) (ls : Layouts) → with_layout f (layout_of f ls) ls ≡ ls
own_put f ls = every (λ f. with_layout f (layout_of f ls) ls ≡ ls) refl refl refl f

-- two families are one, or each has a layout of its own
pub data Beside (f : Family) : Family → Type 0 where
  one : same_family f f ≡ true → Beside f f
  apart : {g : Family} → same_family g f ≡ false → ((i : Layout) (ls : Layouts) → layout_of g (with_layout f i ls) ≡ layout_of g ls) → Beside f g

pub beside : (f g : Family) → Beside f g
beside family.B = every (Beside family.B) (one refl) (apart refl (λ i ls. refl)) (apart refl (λ i ls. refl))
beside (family.Extra extra.K) = every (Beside (family.Extra extra.K)) (apart refl (λ i ls. refl)) (one refl) (apart refl (λ i ls. refl))
beside (family.Extra extra.N) = every (Beside (family.Extra extra.N)) (apart refl (λ i ls. refl)) (apart refl (λ i ls. refl)) (one refl)

pub same_family_lem : (f : Family) → same_family f f ≡ true
same_family_lem = all_pass (λ f. same_family f f) refl

pub is_same_lem : (f g : Family) → same_family g f ≡ true → g ≡ f
is_same_lem f g e = by g (beside f g) e
  where
    by : (g : Family) → Beside f g → same_family g f ≡ true → g ≡ f
    by g (one q) e = refl
    by g (apart q h) e = absurd (false_true (sym q ∙ e))

-- what holds of the layout that is put in, and of each that stays
pub put_by : (P : Family → Layout → Type 0) (f : Family) (i : Layout) (ls : Layouts) → P f i → ((g : Family) → same_family g f ≡ false → P g (layout_of g ls))
    → (g : Family) → P g (layout_of g (with_layout f i ls))
put_by P f i ls h k g = by g (beside f g)
  where
    by : (g : Family) → Beside f g → P g (layout_of g (with_layout f i ls))
    by g (one q) = rw (put_own f i ls) h
    by g (apart q e) = rw (e i ls) (k g q)

pub put_others : (f : Family) (i : Layout) (ls : Layouts) (g : Family) → same_family g f ≡ false → layout_of g (with_layout f i ls) ≡ layout_of g ls
put_others f i ls = put_by (λ g x. same_family g f ≡ false → x ≡ layout_of g ls) f i ls (λ n. absurd (false_true (sym n ∙ same_family_lem f))) (λ g n m. refl)
