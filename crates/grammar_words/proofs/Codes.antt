-- The rules' table of listed codes is document 01's, row by row; and so what the rules test of a code's width (12) and of its column's text (13), in document 01's words.
-- Assumes nothing.
use Rattle.std.specs.Prelude.{None, Option, Some}
use Prim.Native.Nat.{ℕ, suc, ◌≤◌, ◌+◌}
use mathlib.Core.Bool.{Bool, true, false, ◌&&◌, ◌||◌, cond, or-true}
use mathlib.Core.List.{List, [], ◌∷◌}
use mathlib.Core.Logic.{◌↔◌}
use mathlib.Core.Path.{◌≡◌, refl, sym, ◌∙◌, subst, ap}
use native.Mathlib.Nat.{zero-add}
use native.Mathlib.Omega.{arith}
use borrow.Author.Tests.{le-leb, leb-true, eqb-true, eqb-false}
use lib.Dec.{eqb, leb}
use lib.ListN.{length, get_or, drop}
use Rattle.rules.specs.Choice.{given, first_of, leads, bytes, Each}
use Rattle.rules.specs.Chars.{is_digit}
use Rattle.rules.specs.Listed.{packed_of, code_text, listed, unlisted, listed_number, width_fits, is_digits, keeps_sign, keeps_rule}
use Rattle.rules.specs.declared.Listed.{Listed}
use Rattle.rules.proofs.Inverse.{false_true, and_inv}
use Rattle.rules_trips.proofs.Each.{each_map}
use Rattle.rules_sound.proofs.Entries.{packed_back}
use Rattle.grammar_words.specs.Characters.{IsDigit}
use Rattle.grammar_words.specs.Codes.{Row, rows, MayHaveMinus, flp, dae, dan, RowSays, Holds, digits, minus, Same, SameRows}
use Rattle.grammar_words.proofs.Characters.{digit_exactly}

-- ---- the table

-- the rules' sign of a code; document 01's three names have it
sign_of : ℕ → Bool
sign_of x = given (listed_number x) false λ n. (get_or listed n unlisted).sign

signed_code : {name : List ℕ} → MayHaveMinus name → sign_of (packed_of name) ≡ true
unfolding sign_of listed_number first_of listed bytes
signed_code flp = refl
signed_code dae = refl
signed_code dan = refl

plain : {code least most : ℕ} {name : List ℕ} → code_text code ≡ name → sign_of (packed_of name) ≡ false
    → Same (record { code = code; least = least; most = most; sign = false }) (record { name = name; least = least; most = most })
plain n u = record { name = n; least = refl; most = refl; sign = (λ e. absurd (false_true e), λ w. absurd (false_true (sym u ∙ signed_code w))) }

signed : {code least most : ℕ} {name : List ℕ} → code_text code ≡ name → MayHaveMinus name
    → Same (record { code = code; least = least; most = most; sign = true }) (record { name = name; least = least; most = most })
signed n w = record { name = n; least = refl; most = refl; sign = (λ e. w, λ w. refl) }

pub listed_exactly : SameRows listed rows
unfolding sign_of listed_number first_of listed rows bytes
listed_exactly =
    (plain refl refl, (plain refl refl, (plain refl refl, (plain refl refl, (plain refl refl, (signed refl flp, (plain refl refl, (plain refl refl, (plain refl refl, (plain refl refl, (plain refl refl, (plain refl refl, (plain refl refl, (signed refl dae, (signed refl dan, tt)))))))))))))))

-- ---- no two rows have one code

others : ℕ → List Listed → Bool
others x [] = true
others x (r ∷ rs) = cond (eqb r.code x) false (others x rs)

alone : List Listed → Bool
alone [] = true
alone (r ∷ rs) = others r.code rs && alone rs

listed_alone : alone listed ≡ true
unfolding alone others listed bytes
listed_alone = refl

others_there : (x : ℕ) (rs : List Listed) → others x rs ≡ true → Each (λ r. r.code ≡ x → ⊥) rs
unfolding others
others_there x [] e = tt
others_there x (r ∷ rs) e = go (eqb r.code x) refl e (others_there x rs)
  where
    go : (b : Bool) → eqb r.code x ≡ b → cond b false (others x rs) ≡ true → (others x rs ≡ true → Each (λ r. r.code ≡ x → ⊥) rs) → (r.code ≡ x → ⊥) × Each (λ r. r.code ≡ x → ⊥) rs
    go true q e k = absurd (false_true e)
    go false q e k = (eqb-false _ _ q, k e)

-- ---- the row that a code is found in

module _ (x : ℕ) (P : Listed → Type 0) where
  -- what is found from row k on
  data Found (rs : List Listed) (k : ℕ) (o : Option ℕ) : Type 0 where
    missing : o ≡ None → Each (λ r. r.code ≡ x → P r) rs → Found rs k o
    row : (i : ℕ) → o ≡ Some (k + i) → (P (get_or rs i unlisted) → Each (λ r. r.code ≡ x → P r) rs) → (Each (λ r. r.code ≡ x → P r) rs → P (get_or rs i unlisted))
        → Found rs k o

  found : (rs : List Listed) (k : ℕ) → alone rs ≡ true → Found rs k (first_of (λ r. eqb r.code x) (λ n r. n) rs k)
  unfolding first_of alone
  found [] k a = missing refl tt
  found (r ∷ rs) k a =
      let h = and_inv (others r.code rs) (alone rs) a in
      go (eqb r.code x) refl (others_there r.code rs h.0) (found rs (suc k) h.1)
    where
      further : Found rs (suc k) (first_of (λ r. eqb r.code x) (λ n r. n) rs (suc k)) → (r.code ≡ x → ⊥)
          → Found (r ∷ rs) k (first_of (λ r. eqb r.code x) (λ n r. n) rs (suc k))
      further (missing o e) n = missing o ((λ i. absurd (n i)), e)
      further (row i o f g) n = row (suc i) (o ∙ ap Some (omega arith)) (λ p. ((λ j. absurd (n j)), f p)) (λ e. g e.1)

      go : (b : Bool) → eqb r.code x ≡ b → Each (λ s. s.code ≡ r.code → ⊥) rs → Found rs (suc k) (first_of (λ r. eqb r.code x) (λ n r. n) rs (suc k))
          → Found (r ∷ rs) k (cond b (Some k) (first_of (λ r. eqb r.code x) (λ n r. n) rs (suc k)))
      go true q d w =
          let c = eqb-true _ _ q in
          row 0 (ap Some (omega arith)) (λ p. ((λ i. p), each_map rs (λ s n i. absurd (n (i ∙ sym c))) d)) (λ e. e.0 c)
      go false q d w = further w (eqb-false _ _ q)

-- what is said of the rules' row of a code, and of document 01's
module _ (x : ℕ) (P : Listed → Type 0) (Q : Row → Type 0) (m : (r : Listed) (p : Row) → Same r p → P r ↔ Q p) where
  one_code : (r : Listed) (p : Row) → Same r p → (r.code ≡ x) ↔ (code_text x ≡ p.name)
  one_code r p s = (
    λ e. ap code_text (sym e) ∙ s.name,
    λ e. sym (packed_back r.code) ∙ ap packed_of (s.name ∙ sym e) ∙ packed_back x,
  )

  each_row : (rs : List Listed) (ps : List Row) → SameRows rs ps → Each (λ r. r.code ≡ x → P r) rs ↔ Each (λ p. code_text x ≡ p.name → Q p) ps
  each_row [] [] s = (λ h. h, λ h. h)
  each_row [] (p ∷ ps) s = absurd s
  each_row (r ∷ rs) [] s = absurd s
  each_row (r ∷ rs) (p ∷ ps) s =
      let c = one_code r p s.0 in
      let b = m r p s.0 in
      let n = each_row rs ps s.1 in
      (λ h. ((λ e. b.0 (h.0 (c.1 e))), n.0 h.1), λ h. ((λ e. b.1 (h.0 (c.0 e))), n.1 h.1))

-- a test of the row that a code is found in, by what the test means
by_row : (x : ℕ) (t : Listed → Bool) (Q : Row → Type 0) → ((r : Listed) (p : Row) → Same r p → (t r ≡ true) ↔ Q p)
    → (given (listed_number x) true (λ n. t (get_or listed n unlisted)) ≡ true) ↔ RowSays x Q
unfolding listed_number
by_row x t Q m = let w = in_table _ (found x (λ r. t r ≡ true) listed 0 listed_alone) in let s = each_row x (λ r. t r ≡ true) Q m listed rows listed_exactly in
    (λ e. s.0 (w.0 e), λ h. w.1 (s.1 h))
  where
    in_table : (o : Option ℕ) → Found x (λ r. t r ≡ true) listed 0 o
        → (given o true (λ n. t (get_or listed n unlisted)) ≡ true) ↔ Each (λ r. r.code ≡ x → t r ≡ true) listed
    in_table o (missing e h) = (λ i. h, λ i. rw e)
    in_table o (row n e f g) =
        let i : given o true (λ n. t (get_or listed n unlisted)) ≡ t (get_or listed n unlisted) =
        ap (λ v. given v true (λ n. t (get_or listed n unlisted))) (e ∙ ap Some (zero-add n)) in
        (λ h. f (sym i ∙ h), λ h. i ∙ g h)

-- ---- widths

pub width_exactly : (x w : ℕ) → (width_fits x w ≡ true) ↔ RowSays x (λ p. (p.least ≤ w) × (w ≤ p.most))
unfolding width_fits
width_exactly x w =
    by_row x (λ r. leb r.least w && leb w r.most) (λ p. (p.least ≤ w) × (w ≤ p.most))
    (λ r p s. (
      λ e. let h = and_inv (leb r.least w) _ e in (subst (λ n. n ≤ w) s.least (leb-true _ _ h.0), subst (λ n. w ≤ n) s.most (leb-true _ _ h.1)),
      λ h. rw (s.least, s.most, le-leb _ _ h.0, le-leb _ _ h.1),
    ))

-- ---- what a column holds

digits_there : (t : List ℕ) → is_digits t ≡ true → Each IsDigit t
unfolding is_digits leads
digits_there [] e = tt
digits_there (b ∷ t) e = let h = and_inv (is_digit b) _ e in ((digit_exactly b).0 h.0, digits_there t h.1)

digits_here : (t : List ℕ) → Each IsDigit t → is_digits t ≡ true
unfolding is_digits leads
digits_here [] h = refl
digits_here (b ∷ t) h = rw ((digit_exactly b).1 h.0) (digits_here t h.1)

module _ (sign : Bool) (name : List ℕ) (m : (sign ≡ true) ↔ MayHaveMinus name) where
  minus_there : (t : List ℕ) → (sign && eqb (get_or t 0 0) 45 && leb 2 (length t) && is_digits (drop 1 t)) ≡ true → Holds name t
  minus_there [] e = absurd (false_true (and_inv (sign && false) _ (and_inv (sign && false && false) _ e).0).1)
  minus_there (b ∷ []) e = absurd (false_true (and_inv (sign && eqb b 45) false (and_inv (sign && eqb b 45 && false) _ e).0).1)
  minus_there (b ∷ d ∷ t) e =
      let p = and_inv (sign && eqb b 45 && leb 2 (suc (suc (length t)))) (is_digits (d ∷ t)) e in
      let q = and_inv (sign && eqb b 45) _ p.0 in
      let s = and_inv sign (eqb b 45) q.0 in
      let w = digits_there (d ∷ t) p.1 in
      subst (λ (x : ℕ). Holds name (x ∷ d ∷ t)) (sym (eqb-true _ _ s.1)) (minus (m.0 s.0) w.0 w.1)

  sign_exactly : (t : List ℕ) → (keeps_sign sign t ≡ true) ↔ Holds name t
  unfolding keeps_sign
  sign_exactly t = (there (is_digits t) refl, here)
    where
      there : (b : Bool) → is_digits t ≡ b → (b || (sign && eqb (get_or t 0 0) 45 && leb 2 (length t) && is_digits (drop 1 t))) ≡ true → Holds name t
      there true q e = digits (digits_there t q)
      there false q e = minus_there t e

      here : {t : List ℕ} → Holds name t → (is_digits t || (sign && eqb (get_or t 0 0) 45 && leb 2 (length t) && is_digits (drop 1 t))) ≡ true
      here {t} (digits h) = rw (digits_here t h)
      here (minus {d = d} {t = t} s h r) =
          rw (m.1 s, digits_here (d ∷ t) (h, r), le-leb 2 (suc (suc (length t))) (omega arith)) (or-true (is_digits (45 ∷ d ∷ t)))

pub rule_exactly : (x : ℕ) (t : List ℕ) → (keeps_rule x t ≡ true) ↔ RowSays x (λ p. Holds p.name t)
unfolding keeps_rule
rule_exactly x t = by_row x (λ r. keeps_sign r.sign t) (λ p. Holds p.name t) (λ r p s. sign_exactly r.sign p.name s.sign t)
