-- Laws that every room uses: what a chain's answer says of its links, a line's shape, and that a date's day exists, in the grammar's words. Assumes nothing.
use Rattle.std.specs.Prelude.{None, Option, Some}
use Prim.Native.Nat.{ℕ, suc, zero, ◌%◌, ◌≤◌}
use mathlib.Core.Bool.{Bool, true, false, not, ◌&&◌, cond}
use mathlib.Core.List.{List, [], ◌∷◌}
use mathlib.Core.Path.{◌≡◌, refl, sym, ◌∙◌, subst}
use mathlib.Core.Logic.{◌↔◌}
use native.Mathlib.Omega.{arith}
use borrow.Author.Tests.{le-leb, leb-true, not-false, eqb-true, eqb-false, eq-eqb, ne_eqb}
use lib.Dec.{leb, eqb}
use lib.ListN.{length}
use Rattle.rules.specs.Choice.{given, first_of, Each, on}
use Rattle.rules.specs.Refusals.{says}
use Rattle.rules.specs.Chars.{is_valid, first_invalid, characters}
use Rattle.rules.specs.Lines.{is_sized, shaped}
use Rattle.rules.specs.Fields.{is_leap, days_of}
use Rattle.rules.specs.declared.Date.{Date}
use Rattle.rules.specs.Limits.{is_date, is_planned}
use Rattle.rules.proofs.Inverse.{false_true, refuses_says, need_inv, and_inv, given_none}
use Rattle.rules_trips.proofs.Texts.{are_valid}
use Rattle.rules_trips.proofs.Dates.{days_month}
use Rattle.grammar_words.specs.Characters.{IsValid}
use Rattle.grammar_words.proofs.Characters.{valid_exactly}
use Rattle.grammar.specs.Grammar.{Shaped, Days, january, february, february_leap, march, april, may, june, july, august, september, october, november, december, IsDay, IsPlanned}
use Rattle.rules_trips.proofs.Each.{each_map, nothing_found, none_found}

-- ---- a chain that came to x took this way

pub cond_false : {A : Type 0} (t : Bool) (a b x : A) → (a ≡ x → ⊥) → cond t a b ≡ x → (t ≡ false) × (b ≡ x)
cond_false true a b x n e = absurd (n e)
cond_false false a b x n e = (refl, e)

-- nothing was found
pub nothing_given : {A : Type 0} (o : Option A) → given o true (λ i. false) ≡ true → o ≡ None
nothing_given None e = refl
nothing_given (Some i) e = absurd (false_true e)

-- ---- a line's length and characters

pub are_valid_lem : (l : List ℕ) → are_valid l ≡ true → Each (IsValid false) l
unfolding are_valid
are_valid_lem [] e = tt
are_valid_lem (b ∷ l) e = let h = and_inv (is_valid false b) (are_valid l) e in ((valid_exactly false b).0 h.0, are_valid_lem l h.1)

pub valid_are : (l : List ℕ) → Each (IsValid false) l → are_valid l ≡ true
unfolding are_valid
valid_are [] h = refl
valid_are (b ∷ l) h = rw ((valid_exactly false b).1 h.0) (valid_are l h.1)

module _ (least most : ℕ) (in_h : Bool) (l : List ℕ) where
  pub shape_there : (u : Unit {0}) → shaped least most in_h l ≡ says u → Shaped least most in_h l
  unfolding shaped is_sized characters first_invalid
  shape_there u e =
      let n = need_inv (leb least (length l) && leb (length l) most) _ (says u) _ refuses_says e in
      let s = and_inv (leb least (length l)) (leb (length l) most) n.0 in
      let c = given_none (first_of (λ b. not (is_valid in_h b)) (λ (i b : ℕ). i) l 0) (says tt) (says u) _ (λ v. refuses_says) n.1 in
      record {
        long = leb-true _ _ s.0;
        short = leb-true _ _ s.1;
        valid = each_map l (λ b h. (valid_exactly in_h b).0 (not-false (is_valid in_h b) h)) (nothing_found (λ b. not (is_valid in_h b)) (λ (i b : ℕ). i) l 0 c.0);
      }

  pub shape_said : Shaped least most in_h l → shaped least most in_h l ≡ says tt
  unfolding shaped is_sized characters first_invalid
  shape_said w =
      let c = none_found (λ b. not (is_valid in_h b)) (λ (i b : ℕ). i) l 0 (each_map l (λ b h. rw ((valid_exactly in_h b).1 h) refl) w.valid) in
      simp (le-leb _ _ w.long, le-leb _ _ w.short, c)

-- ---- the days of a month

module _ (y : ℕ) (from : 1980 ≤ y) (to : y ≤ 2079) where
  leap : (b : Bool) → eqb (y % 4) 0 ≡ b → is_leap y ≡ b
  unfolding is_leap
  leap b e = go (eqb (y % 400) 0) (eqb (y % 100) 0) refl refl
    where
      go : (p q : Bool) → eqb (y % 400) 0 ≡ p → eqb (y % 100) 0 ≡ q → cond p true (cond q false (eqb (y % 4) 0)) ≡ b
      go true q f g = let z : y % 400 ≡ 0 = eqb-true (y % 400) 0 f in sym (eq-eqb (y % 4) 0 (omega arith)) ∙ e
      go false true f g =
          let z : y % 400 ≡ 0 → ⊥ = eqb-false (y % 400) 0 f in
          let n : y % 100 ≡ 0 = eqb-true (y % 100) 0 g in
          absurd (z (omega arith))
      go false false f g = e

  february_there : Days y 2 (cond (is_leap y) 29 28)
  february_there = go (eqb (y % 4) 0) refl
    where
      go : (b : Bool) → eqb (y % 4) 0 ≡ b → Days y 2 (cond (is_leap y) 29 28)
      go true e = subst (λ (b : Bool). Days y 2 (cond b 29 28)) (sym (leap true e)) (february_leap (eqb-true _ _ e))
      go false e = subst (λ (b : Bool). Days y 2 (cond b 29 28)) (sym (leap false e)) (february (eqb-false _ _ e))

  month_there : (m : ℕ) → m ≤ 12 → 1 ≤ days_of y m → Days y m (days_of y m)
  unfolding days_of
  month_there zero n h = absurd (omega arith)
  month_there (suc zero) n h = january
  month_there (suc (suc zero)) n h = february_there
  month_there (suc (suc (suc zero))) n h = march
  month_there (suc (suc (suc (suc zero)))) n h = april
  month_there (suc (suc (suc (suc (suc zero))))) n h = may
  month_there (suc (suc (suc (suc (suc (suc zero)))))) n h = june
  month_there (suc (suc (suc (suc (suc (suc (suc zero))))))) n h = july
  month_there (suc (suc (suc (suc (suc (suc (suc (suc zero)))))))) n h = august
  month_there (suc (suc (suc (suc (suc (suc (suc (suc (suc zero))))))))) n h = september
  month_there (suc (suc (suc (suc (suc (suc (suc (suc (suc (suc zero)))))))))) n h = october
  month_there (suc (suc (suc (suc (suc (suc (suc (suc (suc (suc (suc zero))))))))))) n h = november
  month_there (suc (suc (suc (suc (suc (suc (suc (suc (suc (suc (suc (suc zero)))))))))))) n h = december
  month_there (suc (suc (suc (suc (suc (suc (suc (suc (suc (suc (suc (suc (suc m))))))))))))) n h = absurd (omega arith)

  month_here : {m n : ℕ} → Days y m n → days_of y m ≡ n
  unfolding days_of
  month_here january = refl
  month_here (february e) = rw (leap false (ne_eqb _ _ e))
  month_here (february_leap e) = rw (leap true (eq-eqb _ _ e))
  month_here march = refl
  month_here april = refl
  month_here may = refl
  month_here june = refl
  month_here july = refl
  month_here august = refl
  month_here september = refl
  month_here october = refl
  month_here november = refl
  month_here december = refl

pub day_exactly : (d : Date) → (is_date d ≡ true) ↔ IsDay d
unfolding is_date on
day_exactly d = (there, here)
  where
    there : is_date d ≡ true → IsDay d
    there e =
        let a = need_inv (leb 1980 d.year) false true _ false_true e in
        let b = need_inv (leb d.year 2079) false true _ false_true a.1 in
        let c = need_inv (leb 1 d.day) false true _ false_true b.1 in
        let h = need_inv (leb d.day (days_of d.year d.month)) false true _ false_true c.1 in
        let f : 1980 ≤ d.year = leb-true _ _ a.0 in
        let t : d.year ≤ 2079 = leb-true _ _ b.0 in
        let l : 1 ≤ d.day = leb-true _ _ c.0 in
        let m : d.day ≤ days_of d.year d.month = leb-true _ _ h.0 in
        let n : 1 ≤ days_of d.year d.month = omega arith in
        record { from = f; to = t; days = days_of d.year d.month; month = month_there d.year f t d.month (days_month d.year d.month n) n; low = l; high = m }

    here : IsDay d → is_date d ≡ true
    here w =
        let n = month_here d.year w.from w.to w.month in
        simp (le-leb _ _ w.from, le-leb _ _ w.to, le-leb _ _ w.low, n, le-leb _ _ w.high)

pub planned_exactly : (p : Option Date) → (is_planned p ≡ true) ↔ IsPlanned p
unfolding is_planned
planned_exactly (Some d) = day_exactly d
planned_exactly None = (λ e. tt, λ u. refl)
