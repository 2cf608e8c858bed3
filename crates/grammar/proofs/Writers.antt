-- Lines read and written, whatever line it is: where a line reads as values exactly when it is their text and they are within their limits, the writer's promise
-- gives the line and its CR LF, 17 exactly where no line reads so, and 18. And readers of which that does not hold. Assumes nothing.
use Rattle.rules.specs.declared.Refusal.{Refusal}
use Rattle.std.specs.Prelude.{Result}
use Prim.Native.Nat.{ℕ, ◌+◌, ◌-◌, ◌<◌, ◌≤◌}
use mathlib.Core.Bool.{Bool, true, false}
use mathlib.Core.List.{List, [], ◌++◌, append_assoc}
use mathlib.Core.Logic.{◌↔◌, inl, inr}
use mathlib.Core.Path.{◌≡◌, refl, sym, ◌∙◌, ap, subst}
use native.Mathlib.Omega.{arith}
use borrow.Author.Tests.{leb-true, leb-false}
use lib.Dec.{leb}
use lib.ListN.{length, take, drop, length-append}
use lib.Seq.{sets, sets-eq, take_at, drop_at, length-take-le}
use Rattle.rules.specs.Choice.{first_of, leads}
use Rattle.rules.specs.Chars.{first_invalid}
use Rattle.rules.specs.Layouts.{empty_layout, allowed, all_placed, is_unused, line_length}
use Rattle.rules.specs.Refusals.{Said, says, no, number, result_told}
use Rattle.rules.specs.Writes.{crlf, extra_text, written, out_after}
use Rattle.rules.specs.Promises.{Written}
use Rattle.rules.specs.declared.Reason.TheVariants.{BadValue, NoRoom}
use Rattle.rules.specs.declared.Extra.{Extra}
use Rattle.rules.specs.Limits.{is_clean, bad_tail, good_tail, good_extra}
use Rattle.rules.proofs.Inverse.{false_true, refuses_says}
use Rattle.rules_trips.proofs.LineTrip.{LineTrip, line_limits}
use Rattle.grammar.specs.BothWays.{InOutput, ReadsAs, Ways, BothWays}

-- ---- the line in the output

module _ (text : List ℕ) (place : ℕ) (out : List ℕ) (room : place + length text + 2 ≤ length out) where
  to : ℕ
  to = place + length text + 2

  line_length_lem : length (text ++ crlf) ≡ length text + 2
  line_length_lem = length-append text crlf

  in_three : sets out place (text ++ crlf) ≡ take place out ++ ((text ++ crlf) ++ drop to out)
  unfolding to
  in_three =
      let n = line_length_lem in
      let e : place + length (text ++ crlf) ≡ place + length text + 2 = omega arith in
      sets-eq (text ++ crlf) out place (omega arith)
      ∙ ap (λ k. take place out ++ (text ++ crlf) ++ drop k out) e
      ∙ append_assoc (take place out) (text ++ crlf) (drop (place + length text + 2) out)

  front : length (take place out) ≡ place
  front = length-take-le place out (omega arith)

  stands : InOutput text place out (says to) (sets out place (text ++ crlf))
  unfolding to
  stands =
      let n = line_length_lem in
      let k : place + length text + 2 - place ≡ length (text ++ crlf) = omega arith in
      let d : drop place (sets out place (text ++ crlf)) ≡ (text ++ crlf) ++ drop to out = ap (drop place) in_three ∙ drop_at (take place out) _ place front in
      record {
        next = refl;
        line = ap (take (place + length text + 2 - place)) d ∙ take_at (text ++ crlf) (drop to out) _ (sym k);
        before = ap (take place) in_three ∙ take_at (take place out) _ place front;
        behind = ap (drop to) (in_three ∙ sym (append_assoc (take place out) (text ++ crlf) (drop to out)))
            ∙ drop_at (take place out ++ (text ++ crlf)) (drop to out) to (length-append (take place out) (text ++ crlf) ∙ omega (arith, front, n));
      }

-- ---- the three ways to answer

pub data Answer (good : Bool) (text : List ℕ) (place : ℕ) (out : List ℕ) (a : Said ℕ) (after : List ℕ) : Type 0 where
  bad : good ≡ false → a ≡ no BadValue 0 → after ≡ out → Answer good text place out a after
  full : good ≡ true → length out < place + length text + 2 → a ≡ no NoRoom 0 → after ≡ out → Answer good text place out a after
  wrote : good ≡ true → place + length text + 2 ≤ length out → InOutput text place out a after → Answer good text place out a after

pub answer : (good : Bool) (text : List ℕ) (place : ℕ) (out : List ℕ) (r : Result ℕ Refusal) (after : List ℕ) → Written good text place out r after
    → Answer good text place out (result_told r) after
unfolding written out_after to
answer false text place out r after w = bad refl w.told w.bytes
answer true text place out r after w = go (leb (place + length text + 2) (length out)) refl
  where
    go : (b : Bool) → leb (place + length text + 2) (length out) ≡ b → Answer true text place out (result_told r) after
    go false q = full refl (leb-false _ _ q) (w.told ∙ rw q) (w.bytes ∙ rw q)
    go true q =
        let h = leb-true (place + length text + 2) (length out) q in
        let s = stands text place out h in
        wrote refl h (subst (λ (x : List ℕ). InOutput text place out (result_told r) x) (sym (w.bytes ∙ rw q))
        (subst (λ (a : Said ℕ). InOutput text place out a (sets out place (text ++ crlf))) (sym (w.told ∙ rw q)) s))

not_both : ◌≡◌ {A = Said ℕ} (no BadValue 0) (no NoRoom 0) → ⊥
unfolding number
not_both e = let z : ◌≡◌ {A = ℕ} 17 18 = cc in omega arith

-- ---- both ways

module _ {A : Type 0} (Reads : List ℕ → A → Type 0) (text : A → List ℕ) (test limits : A → Bool)
    (exactly : (l : List ℕ) (v : A) → Reads l v ↔ ((l ≡ text v) × (limits v ≡ true))) (tested : (v : A) → test v ≡ limits v) where
  ways : (v : A) (place : ℕ) (out : List ℕ) (r : Result ℕ Refusal) (after : List ℕ) → Answer (test v) (text v) place out (result_told r) after → Ways Reads v place out r after
  ways v place out r after (bad e a u) =
      let none : (l : List ℕ) → Reads l v → ⊥ = λ l h. false_true (sym e ∙ tested v ∙ ((exactly l v).0 h).1) in
      record {
        read_then_write = λ l h n. absurd (none l h);
        write_then_read = λ n s. absurd (refuses_says (sym a ∙ s));
        bad_value_exactly = (λ x. none, λ f. a);
        no_room_exactly = (λ x. absurd (not_both (sym a ∙ x)), λ t. absurd (none t.0 t.1));
        refused = λ n l b x. (inl a, u);
      }
  ways v place out r after (full e h a u) =
      let own : Reads (text v) v = (exactly (text v) v).1 (refl, sym (tested v) ∙ e) in
      record {
        read_then_write = λ l x n. let k = ap length ((exactly l v).0 x).0 in absurd (omega arith);
        write_then_read = λ n s. absurd (refuses_says (sym a ∙ s));
        bad_value_exactly = (λ x. absurd (not_both (sym x ∙ a)), λ f. absurd (f (text v) own));
        no_room_exactly = (λ x. (text v, own, h), λ t. a);
        refused = λ n l b x. (inr a, u);
      }
  ways v place out r after (wrote e h s) =
      let own : Reads (text v) v = (exactly (text v) v).1 (refl, sym (tested v) ∙ e) in
      record {
        read_then_write = λ l x n. subst (λ (y : List ℕ). InOutput y place out (result_told r) after) (sym ((exactly l v).0 x).0) s;
        write_then_read = λ n q. (text v, own, s);
        bad_value_exactly = (λ x. absurd (refuses_says (sym x ∙ s.next)), λ f. absurd (f (text v) own));
        no_room_exactly = (
          λ x. absurd (refuses_says (sym x ∙ s.next)),
          λ t. let k = ap length ((exactly t.0 v).0 t.1).0 in absurd (omega (arith, t.2)),
        );
        refused = λ n l b x. absurd (refuses_says (sym x ∙ s.next));
      }

  pub both_ways : BothWays Reads text test limits
  both_ways = record { reads_exactly = exactly; tested = tested; writes = λ v place out r after w. ways v place out r after (answer (test v) (text v) place out r after w) }

-- a line of fields and what stands behind them
pub trip_ways : {A : Type 0} {said : List ℕ → Said A} {text : A → List ℕ → List ℕ} {fields : ℕ} {limits : A → List ℕ → Bool} (test : A → List ℕ → Bool)
    → LineTrip said text fields limits → ((v : A) (rest : List ℕ) → test v rest ≡ limits v rest)
    → BothWays (ReadsAs said fields) (λ v. text v.0 v.1) (λ v. test v.0 v.1) (λ v. limits v.0 v.1)
trip_ways {said = said} {text = text} {fields = fields} {limits = limits} test trip tested =
    both_ways (ReadsAs said fields) (λ v. text v.0 v.1) (λ v. test v.0 v.1) (λ v. limits v.0 v.1)
    (λ l v. (
      λ h. (trip.there l v.0 h.0 ∙ ap (text v.0) h.1, ap (limits v.0) (sym h.1) ∙ line_limits trip l v.0 h.0),
      λ h. (ap said h.0 ∙ trip.here v.0 v.1 h.1, ap (drop fields) h.0 ∙ trip.behind v.0 v.1),
    ))
    (λ v. tested v.0 v.1)

-- ---- what is not both ways

-- midnight, with no columns, is within the limits of a K or an N line
nothing_good : good_extra 0 [] empty_layout ≡ true
unfolding good_extra good_tail bad_tail is_clean first_invalid first_of allowed all_placed leads is_unused line_length
nothing_good = refl

-- a reader of K or of N lines that refuses everything is not both ways, whatever its writer tests
pub not_refusing : (x : Extra) (said : List ℕ → Said ℕ) (test : ℕ × List ℕ → Bool) → ((l : List ℕ) (t : ℕ) → said l ≡ says t → ⊥)
    → BothWays (ReadsAs said 7) (λ v. extra_text x v.0 v.1) test (λ v. good_extra v.0 v.1 empty_layout) → ⊥
not_refusing x said test never b = never (extra_text x 0 []) 0 ((b.reads_exactly (extra_text x 0 []) (0, [])).1 (refl, nothing_good)).0

-- nor is one that always says the same time
pub not_stock : (x : Extra) (t : ℕ) (test limits : ℕ × List ℕ → Bool) → BothWays (ReadsAs (λ l. says t) 7) (λ v. extra_text x v.0 v.1) test limits → ⊥
unfolding extra_text
not_stock x t test limits b = let n = ap length ((b.reads_exactly [] (t, [])).0 (refl, refl)).0 in omega arith
