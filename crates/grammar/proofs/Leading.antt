-- One line after those before it: the check of a line says a state exactly when the line is one that may come there, and leads to that state. First its letter: which
-- role it tells, and what the tests of a first byte say of that role. Assumes nothing.
use Rattle.std.specs.Prelude.{None, Option, Some}
use Prim.Native.Nat.{ℕ, suc, ◌+◌, ◌-◌, ◌≤◌}
use Prim.Native.Char.{code}
use mathlib.Core.Bool.{Bool, true, false, ◌&&◌, cond, not}
use mathlib.Core.List.{List, []}
use mathlib.Core.Logic.{inl, inr}
use mathlib.Core.Path.{◌≡◌, refl, sym}
use native.Mathlib.Omega.{arith}
use borrow.Author.Tests.{le-leb, lt-leb, leb-true, leb-false, eqb-true, eqb-false, ne_eqb, ltb-true, ltb-false, le-ltb, lt-ltb, not-true}
use lib.Dec.{leb, eqb, ltb}
use lib.ListN.{get_or}
use Rattle.rules.specs.Choice.{bytes}
use Rattle.rules.specs.Families.{line_letter, layout_letter, layout_of, count_of, one_more}
use Rattle.rules.specs.Files.{has_room}
use Rattle.rules.specs.Refusals.{says}
use Rattle.rules.specs.Lines.{kind_of}
use Rattle.rules.specs.Roles.{role_of, is_role, is_declaring, is_sealing, is_timed, is_of, same_family, after_a, after_h, after_layout, in_body, after_g, at_start, after_last_g, leading, stage_after}
use Rattle.rules.specs.Order.{judge, start, fits_declaration, order_of, with_flight, moved, dated, laid_out, counted, signed_off, begun, pointed, clocked, onward, next_day, back, passing, is_back}
use Rattle.rules.specs.declared.Layout.{Layout}
use Rattle.rules.specs.declared.Layouts.{Layouts}
use Rattle.rules.specs.declared.Family.{Family}
use Rattle.rules.specs.declared.Extra.TheVariants as extra
use Rattle.rules.specs.declared.Family.TheVariants as family
use Rattle.rules.specs.declared.Kind.{Kind}
use Rattle.rules.specs.declared.Kind.TheVariants as kind
use Rattle.rules.specs.declared.Role.{Role}
use Rattle.rules.specs.declared.Role.TheVariants as role
use Rattle.rules.specs.declared.State.{State}
use Rattle.rules.specs.declared.Date.{Date}
use Rattle.rules.specs.declared.Counts.{Counts}
use Rattle.rules.specs.declared.Head.{Head}
use Rattle.rules.proofs.Inverse.{false_true, none_some, need_inv, and_inv}
use Rattle.rules_laws.proofs.Passing.{role_in, leading_so, leading_inv, Onward, Leaves, judged, judged_so, not_empty}
use Rattle.rules_laws.proofs.Counted.{judged_more}
use Rattle.rules_laws.proofs.Passing as passes
use Rattle.grammar.specs.Coming.{is_among, letters_before, timed_letters}
use Rattle.grammar.specs.FieldTexts.{Letter}
use Rattle.grammar.specs.Grammar.{Follows, IsALine, IsDateLine, IsHLine, IsLayoutLine, IsHeadLine, IsPointLine, IsLLine, IsGLine, Timed, columned, event, satellites, Untimed, differential, remark, other, Fits}
use Rattle.rules_sound.proofs.Families.{every, line_role, tells_role, put_by}
use Rattle.rules_sound.proofs.Placed.{sound_empty}
use Rattle.grammar.proofs.Laws.{cond_false}
use Rattle.grammar.proofs.EachLine.{a_there, a_said, date_there, date_said_lem, h_there, h_said, d_there, d_said, e_there, e_said, f_there, f_said, l_there, l_said, g_there, g_said, other_there, other_said, columned_letter, columned_there, columned_said, head_there, head_said_lem, point_there, point_said_lem}
use Rattle.grammar.proofs.LayoutLines.{IsTold, layout_there, layout_said_lem, layout_told}

-- ---- room in a table, as the rules test it and as the grammar says it

pub fits_there : (room : Option ℕ) (n : ℕ) → has_room room n ≡ true → Fits room n
fits_there None n h = tt
fits_there (Some most) n h = leb-true n most h

pub fits_so : (room : Option ℕ) (n : ℕ) → Fits room n → has_room room n ≡ true
fits_so None n h = refl
fits_so (Some most) n h = le-leb n most h

-- ---- the role of a letter

-- no byte is between two letters that follow one another
past : (n b : ℕ) → n ≤ b → eqb b n ≡ false → suc n ≤ b
past n b h e = let z = eqb-false b n e in omega arith

tell : (P : Role → Type 0) (t : Bool) (k r : Kind) → (t ≡ true → P (role_of k)) → (t ≡ false → P (role_of r)) → P (role_of (cond t k r))
tell P true k r f g = f refl
tell P false k r f g = g refl

pub letter : (b : ℕ) → Letter (role_of (kind_of b)) b
unfolding kind_of
letter b =
    let P : Role → Type 0 = λ r. Letter r b in
    tell P (eqb b 65) kind.A _ (eqb-true b 65) λ a.
    tell P (eqb b 66) kind.B _ (eqb-true b 66) λ b₁.
    tell P (eqb b 67) kind.C _ (eqb-true b 67) λ c.
    tell P (eqb b 68) kind.D _ (eqb-true b 68) λ d.
    tell P (eqb b 69) kind.E _ (eqb-true b 69) λ e.
    tell P (eqb b 70) kind.F _ (eqb-true b 70) λ f.
    tell P (eqb b 71) kind.G _ (eqb-true b 71) λ g.
    tell P (eqb b 72) kind.H _ (eqb-true b 72) λ h.
    tell P (eqb b 73) kind.I _ (eqb-true b 73) λ i.
    tell P (eqb b 74) kind.J _ (eqb-true b 74) λ j.
    tell P (eqb b 75) kind.K _ (eqb-true b 75) λ k.
    tell P (eqb b 76) kind.L _ (eqb-true b 76) λ l.
    tell P (eqb b 77) kind.M _ (eqb-true b 77) λ m.
    tell P (eqb b 78) kind.N _ (eqb-true b 78) λ n.
    tell P (ltb b 65) kind.NoKind _ (λ q. inl (ltb-true b 65 q)) λ q.
    tell P (leb b 90) kind.Other kind.NoKind
    (λ r. (
      past 78 b (past 77 b (past 76 b (past 75 b (past 74 b (past 73 b (past 72 b (past 71 b (past 70 b (past 69 b (past 68 b (past 67 b (past 66 b (past 65 b (ltb-false b 65 q) a) b₁) c) d) e) f) g) h) i) j) k) l) m) n,
      leb-true b 90 r,
    ))
    (λ r. inr (leb-false b 90 r))

pub tells_letter : (f : Family) {b : ℕ} → Letter (role.Tells f) b → b ≡ layout_letter f
tells_letter f {b} = every (λ f. Letter (role.Tells f) b → b ≡ layout_letter f) (λ e. e) (λ e. e) (λ e. e) f

pub line_letter_lem : (f : Family) {b : ℕ} → Letter (role.Columned f) b → b ≡ line_letter f
line_letter_lem f {b} = every (λ f. Letter (role.Columned f) b → b ≡ line_letter f) (λ e. e) (λ e. e) (λ e. e) f

-- ---- tests of a role

-- tells the layout of a family
abbrev pub is_telling : Family → Role → Bool
is_telling g = elim [ role.Opens ↦ false | role.Heads ↦ false | role.Tells f ↦ same_family g f | role.Columned f ↦ false | role.Declares ↦ false | role.Event ↦ false | role.Satellites ↦ false | role.Differential ↦ false | role.Seals ↦ false | role.Remark ↦ false | role.Other ↦ false | role.NoRole ↦ false ]

-- the first part of a file that a line of this role leads to
abbrev pub leads_to : Role → ℕ
leads_to = elim [ role.Opens ↦ after_a | role.Heads ↦ after_h | role.Tells f ↦ after_layout f | role.Columned f ↦ in_body | role.Declares ↦ in_body | role.Event ↦ in_body | role.Satellites ↦ in_body | role.Differential ↦ in_body | role.Seals ↦ after_g | role.Remark ↦ in_body | role.Other ↦ in_body | role.NoRole ↦ in_body ]

-- the tests of a first byte by the role, and those that ask for a family
abbrev Plainly : Role → ℕ → Type 0
Plainly r b = (eqb b (code "C") ≡ is_declaring r) × (eqb b (code "G") ≡ is_sealing r) × (is_among timed_letters b ≡ is_timed r)

abbrev ByFamily : Role → ℕ → Family → Type 0
ByFamily r b f = (eqb b (line_letter f) ≡ is_of f r) × (eqb b (layout_letter f) ≡ is_telling f r) × (is_among (letters_before f) b ≡ leb (leads_to r) (after_layout f - 1))

abbrev pub Tests : Role → ℕ → Type 0
Tests r b = (is_role r ≡ (leb (code "A") b && leb b (code "Z"))) × Plainly r b × ((f : Family) → ByFamily r b f)

-- another byte than A to N
outside : (b : ℕ) → ((x : ℕ) → code "A" ≤ x → x ≤ code "N" → eqb b x ≡ false) → Plainly role.Other b × ((f : Family) → ByFamily role.Other b f)
unfolding is_among bytes
outside b n =
    let no : (x : ℕ) → leb 65 x ≡ true → leb x 78 ≡ true → eqb b x ≡ false = λ x p q. n x (leb-true 65 x p) (leb-true x 78 q) in (
      (no 67 refl refl, no 71 refl refl, simp (no 66 refl refl, no 69 refl refl, no 70 refl refl, no 75 refl refl, no 78 refl refl)),
      every (ByFamily role.Other b) (no 66 refl refl, no 73 refl refl, simp (no 65 refl refl, no 72 refl refl))
          (no 75 refl refl, no 74 refl refl, simp (no 65 refl refl, no 72 refl refl, no 73 refl refl))
          (no 78 refl refl, no 77 refl refl, simp (no 65 refl refl, no 72 refl refl, no 73 refl refl, no 74 refl refl)),
    )

pub other_role : (b : ℕ) → code "O" ≤ b → b ≤ code "Z" → role_of (kind_of b) ≡ role.Other
unfolding kind_of
other_role b p q =
    let no : (x : ℕ) → leb x 78 ≡ true → eqb b x ≡ false = λ x h. let i = leb-true x 78 h in ne_eqb b x (λ z. omega arith) in
    rw (no 65 refl, no 66 refl, no 67 refl, no 68 refl, no 69 refl, no 70 refl, no 71 refl, no 72 refl, no 73 refl, no 74 refl, no 75 refl, no 76 refl, no 77 refl, no 78 refl, le-ltb b 65 (omega arith), le-leb b 90 q)

-- a letter of its own
row : (r : Role) (x b : ℕ) → b ≡ x → is_role r ≡ (leb (code "A") x && leb x (code "Z")) → Plainly r x → ByFamily r x family.B → ByFamily r x (family.Extra extra.K)
    → ByFamily r x (family.Extra extra.N) → Tests r b
row r x b h known plain at_b at_k at_n = rw h (known, plain, every (ByFamily r x) at_b at_k at_n)

tests_by : (r : Role) (b : ℕ) → Letter r b → Tests r b
unfolding is_among bytes
tests_by role.Opens b h = row role.Opens _ b h refl (refl, refl, refl) (refl, refl, refl) (refl, refl, refl) (refl, refl, refl)
tests_by role.Heads b h = row role.Heads _ b h refl (refl, refl, refl) (refl, refl, refl) (refl, refl, refl) (refl, refl, refl)
tests_by (role.Tells family.B) b h = row (role.Tells family.B) _ b h refl (refl, refl, refl) (refl, refl, refl) (refl, refl, refl) (refl, refl, refl)
tests_by (role.Tells (family.Extra extra.K)) b h = row (role.Tells (family.Extra extra.K)) _ b h refl (refl, refl, refl) (refl, refl, refl) (refl, refl, refl) (refl, refl, refl)
tests_by (role.Tells (family.Extra extra.N)) b h = row (role.Tells (family.Extra extra.N)) _ b h refl (refl, refl, refl) (refl, refl, refl) (refl, refl, refl) (refl, refl, refl)
tests_by (role.Columned family.B) b h = row (role.Columned family.B) _ b h refl (refl, refl, refl) (refl, refl, refl) (refl, refl, refl) (refl, refl, refl)
tests_by (role.Columned (family.Extra extra.K)) b h = row (role.Columned (family.Extra extra.K)) _ b h refl (refl, refl, refl) (refl, refl, refl) (refl, refl, refl) (refl, refl, refl)
tests_by (role.Columned (family.Extra extra.N)) b h = row (role.Columned (family.Extra extra.N)) _ b h refl (refl, refl, refl) (refl, refl, refl) (refl, refl, refl) (refl, refl, refl)
tests_by role.Declares b h = row role.Declares _ b h refl (refl, refl, refl) (refl, refl, refl) (refl, refl, refl) (refl, refl, refl)
tests_by role.Event b h = row role.Event _ b h refl (refl, refl, refl) (refl, refl, refl) (refl, refl, refl) (refl, refl, refl)
tests_by role.Satellites b h = row role.Satellites _ b h refl (refl, refl, refl) (refl, refl, refl) (refl, refl, refl) (refl, refl, refl)
tests_by role.Differential b h = row role.Differential _ b h refl (refl, refl, refl) (refl, refl, refl) (refl, refl, refl) (refl, refl, refl)
tests_by role.Seals b h = row role.Seals _ b h refl (refl, refl, refl) (refl, refl, refl) (refl, refl, refl) (refl, refl, refl)
tests_by role.Remark b h = row role.Remark _ b h refl (refl, refl, refl) (refl, refl, refl) (refl, refl, refl) (refl, refl, refl)
tests_by role.Other b h = let o = outside b λ x p q. ne_eqb b x (λ z. omega arith) in (rw (le-leb 65 b (omega arith), le-leb b 90 h.1), o.0, o.1)
tests_by role.NoRole b (inl h) = let o = outside b λ x p q. ne_eqb b x (λ z. omega arith) in (rw (lt-leb 65 b h), o.0, o.1)
tests_by role.NoRole b (inr h) = let o = outside b λ x p q. ne_eqb b x (λ z. omega arith) in (rw (le-leb 65 b (omega arith), lt-leb b 90 h), o.0, o.1)

pub letter_tests : (l : List ℕ) → Tests (role_in l) (get_or l 0 0)
letter_tests l = tests_by (role_in l) (get_or l 0 0) (letter (get_or l 0 0))

-- a line that passes is one line of its family more
pub counts_more : (l : List ℕ) (st after : State) → judge l st ≡ says after → (f : Family)
    → count_of f after.flight.counts ≡ count_of f st.flight.counts + cond (eqb (get_or l 0 0) (line_letter f)) 1 0
counts_more l st after e f = rw ((letter_tests l).2 f).0 ((judged_more l st after e).count f)

-- ---- what is claimed

-- the part of the file that a line leads to
pub data Part : Type 0 where
  recorder header body seals remarks : Part
  telling : Family → Part

-- a line with a time is counted in its family, where it has one
abbrev pub counted_by : {layouts : Layouts} {t : ℕ} {l : List ℕ} → Timed layouts t l → Counts → Counts
counted_by (columned f w) ns = one_more f ns
counted_by (event w) ns = ns
counted_by (satellites w) ns = ns

-- the state behind it: it is counted, and the clock stands at its time
abbrev pub after_timed : {layouts : Layouts} {t : ℕ} {l : List ℕ} → Timed layouts t l → State → State
after_timed {t = t} w st =
    clocked t (with_flight st (record { date = st.flight.date; layouts = st.flight.layouts; lines = st.flight.lines; counts = counted_by w st.flight.counts; signed = st.flight.signed }))

-- a line of the body may come, and the state after it
pub data InBody (st : State) (l : List ℕ) : State → Type 0 where
  head : (h : Head) → st.points ≡ 0 → st.declared ≡ false → count_of family.B st.flight.counts ≡ 0 → IsHeadLine h l → InBody st l (begun h (moved in_body st))
  point : 1 ≤ st.points → IsPointLine l → InBody st l (pointed (moved in_body st))
  timed : (t : ℕ) (w : Timed st.flight.layouts t l) → st.points ≡ 0 → Follows st.clock t → InBody st l (after_timed w (moved in_body st))
  quiet : st.points ≡ 0 → Untimed l → InBody st l (moved in_body st)

-- a line may come, its part, and the state after it
pub data Leads (st : State) (l : List ℕ) : Part → State → Type 0 where
  a_line : st.stage ≡ at_start → st.points ≡ 0 → IsALine l → Leads st l recorder (moved after_a st)
  date_line : (d : Date) → after_a ≤ st.stage → st.stage ≤ after_h → st.points ≡ 0 → st.flight.lines + 1 ≡ 2 → IsDateLine d l → Leads st l header (dated d (moved after_h st))
  h_line : after_a ≤ st.stage → st.stage ≤ after_h → st.points ≡ 0 → (st.flight.lines + 1 ≡ 2 → ⊥) → IsHLine l → Leads st l header (moved after_h st)
  layout_line : (f : Family) (i : Layout) → after_h ≤ st.stage → st.stage ≤ after_layout f - 1 → st.points ≡ 0 → IsLayoutLine f i l
      → Leads st l (telling f) (laid_out f i (moved (after_layout f) st))
  body_line : {m : State} → after_h ≤ st.stage → st.stage ≤ in_body → InBody st l m → Leads st l body m
  g_line : after_h ≤ st.stage → st.stage ≤ after_g → st.points ≡ 0 → IsGLine l → Leads st l seals (signed_off (moved after_g st))
  l_line : after_g ≤ st.stage → st.stage ≤ after_last_g → st.points ≡ 0 → IsLLine l → Leads st l remarks (moved after_last_g st)

-- each layout is one that a line can tell
abbrev pub Sound : State → Type 0
Sound st = (f : Family) → IsTold f (layout_of f st.flight.layouts)

pub sound_start : Sound start
sound_start = every (λ f. IsTold f (layout_of f start.flight.layouts)) (sound_empty _) (sound_empty _) (sound_empty _)

-- ---- the order of roles

-- while points are to come only a C line may
pub plain_fits : (st : State) → fits_declaration false st ≡ true → st.points ≡ 0
unfolding fits_declaration
plain_fits st e =
    let c = cond_false (leb 1 st.points) false _ true false_true e in
    let h = leb-false 1 st.points c.0 in
    omega arith

fits_plain : (st : State) → st.points ≡ 0 → fits_declaration false st ≡ true
unfolding fits_declaration
fits_plain st e = rw e

-- a C line where no point is to come begins a declaration
pub head_fits : (st : State) → st.points ≡ 0 → fits_declaration true st ≡ true → (st.declared ≡ false) × (count_of family.B st.flight.counts ≡ 0)
unfolding fits_declaration
head_fits st z e = let r = and_inv (not st.declared) (eqb (count_of family.B st.flight.counts) 0) (rw z at e) in (not-true st.declared r.0, eqb-true _ _ r.1)

fits_point : (st : State) → 1 ≤ st.points → fits_declaration true st ≡ true
unfolding fits_declaration
fits_point st h = rw (le-leb 1 st.points h)

fits_head : (st : State) → st.points ≡ 0 → st.declared ≡ false → count_of family.B st.flight.counts ≡ 0 → fits_declaration true st ≡ true
unfolding fits_declaration
fits_head st p d b = rw (p, d, b)

pub order_inv : (r : Role) (st : State) (stage : ℕ) → order_of r st ≡ Some stage → (fits_declaration (is_declaring r) st ≡ true) × (stage_after r st.stage ≡ Some stage)
unfolding order_of
order_inv r st stage e = need_inv (fits_declaration (is_declaring r) st) None (Some stage) _ none_some e

-- ---- the time order

pub time_follows : (before now : ℕ) → Onward before now → Follows before now
unfolding passing
time_follows before now e = go (leb before now) (ltb 43200 (before - now)) refl refl e
  where
    go : (x y : Bool) → leb before now ≡ x → ltb 43200 (before - now) ≡ y → is_back (cond x onward (cond y next_day back)) ≡ false → Follows before now
    go true y p q e = inl (leb-true _ _ p)
    go false true p q e = inr (ltb-true _ _ q)
    go false false p q e = absurd (false_true (sym e))

pub follows_time : (before now : ℕ) → Follows before now → Onward before now
unfolding passing
follows_time before now (inl h) = rw (le-leb before now h)
follows_time before now (inr h) = rw (lt-leb before now (omega arith), lt-ltb 43200 (before - now) h)

-- ---- a line that is judged good leads on

pub some_points : (n : ℕ) → (n ≡ 0 → ⊥) → 1 ≤ n
some_points n h = omega arith

module _ (l : List ℕ) (st : State) where
  abbrev Led : State → Type 0
  Led m = (p : Part) × Leads st l p m

  -- an L line, before the first G and after it
  l_led : (stage : ℕ) (b : Bool) → st.points ≡ 0 → IsLLine l → cond b (leading after_h in_body in_body st.stage) (leading after_g after_last_g after_last_g st.stage) ≡ Some stage
      → Led (moved stage st)
  l_led stage true p w o = let s = leading_inv after_h in_body in_body st.stage stage o in rw (← s.2) (body, body_line s.0 s.1 (quiet p (remark w)))
  l_led stage false p w o = let s = leading_inv after_g after_last_g after_last_g st.stage stage o in rw (← s.2) (remarks, l_line s.0 s.1 p w)

  -- and C, D, E, F, B, K, N and other lines, which are of the body
  to_body : (F : ℕ → State) (stage : ℕ) → leading after_h in_body in_body st.stage ≡ Some stage → InBody st l (F in_body) → Led (F stage)
  to_body F stage o w = let s = leading_inv after_h in_body in_body st.stage stage o in rw (← s.2) (body, body_line s.0 s.1 w)

  by_role : (stage : ℕ) {r : Role} {m : State} → Sound st → Letter r (get_or l 0 0) → fits_declaration (is_declaring r) st ≡ true → stage_after r st.stage ≡ Some stage
      → Leaves l (moved stage st) r m → Led m
  unfolding stage_after
  by_role stage g k f o (passes.opens e) =
      let s = leading_inv at_start at_start after_a st.stage stage o in
      rw (← s.2) (recorder, a_line (omega arith) (plain_fits st f) (a_there l tt k e))
  by_role stage g k f o (passes.date d n e) =
      let s = leading_inv after_a after_h after_h st.stage stage o in
      rw (← s.2) (header, date_line d s.0 s.1 (plain_fits st f) n (date_there l d k e))
  by_role stage g k f o (passes.header n e) =
      let s = leading_inv after_a after_h after_h st.stage stage o in
      rw (← s.2) (header, h_line s.0 s.1 (plain_fits st f) n (h_there l tt k e))
  by_role stage g k f o (passes.layout x i e) =
      let s = leading_inv after_h (after_layout x - 1) (after_layout x) st.stage stage o in
      rw (← s.2) (telling x, layout_line x i s.0 s.1 (plain_fits st f) (layout_there x i l e (tells_letter x k)))
  by_role stage g k f o (passes.columned x t e w) =
      let c = columned_there x (layout_of x st.flight.layouts) t l (g x) (line_letter_lem x k) e in
      to_body (λ c. clocked t (counted x (moved c st))) stage o (timed t (columned x c) (plain_fits st f) (time_follows st.clock t w))
  by_role stage g k f o (passes.head h n e) = let d = head_fits st n f in to_body (λ c. begun h (moved c st)) stage o (head h n d.0 d.1 (head_there h l k e))
  by_role stage g k f o (passes.point p n e) = to_body (λ c. pointed (moved c st)) stage o (point (some_points st.points n) (point_there p l k e))
  by_role stage g k f o (passes.event t e w) =
      to_body (λ c. clocked t (moved c st)) stage o (timed t (event (e_there l t k e)) (plain_fits st f) (time_follows st.clock t w))
  by_role stage g k f o (passes.satellites t e w) =
      to_body (λ c. clocked t (moved c st)) stage o (timed t (satellites (f_there l t k e)) (plain_fits st f) (time_follows st.clock t w))
  by_role stage g k f o (passes.differential e) = to_body (λ c. moved c st) stage o (quiet (plain_fits st f) (differential (d_there l tt k e)))
  by_role stage g k f o (passes.seals e) =
      let s = leading_inv after_h after_g after_g st.stage stage o in
      rw (← s.2) (seals, g_line s.0 s.1 (plain_fits st f) (g_there l tt k e))
  by_role stage g k f o (passes.remark e) = l_led stage (leb st.stage in_body) (plain_fits st f) (l_there l tt k e) o
  by_role stage g k f o (passes.other e) = to_body (λ c. moved c st) stage o (quiet (plain_fits st f) (other (other_there l tt k.0 k.1 e)))

  pub judge_leads : (m : State) → Sound st → judge l st ≡ says m → (p : Part) × Leads st l p m
  judge_leads m g e =
      let j = judged l st m e in
      let o = order_inv (role_in l) st j.stage j.order in
      by_role j.stage g (letter (get_or l 0 0)) o.0 o.1 j.left

-- ---- a line that leads on is judged good

module _ (l : List ℕ) (st : State) where
  role_judged : (r : Role) (stage : ℕ) {m : State} → role_in l ≡ r → is_role r ≡ true → fits_declaration (is_declaring r) st ≡ true → stage_after r st.stage ≡ Some stage
      → Leaves l (moved stage st) r m → judge l st ≡ says m
  unfolding order_of
  role_judged r stage {m} k i f o w = judged_so l st m (record { long = not_empty l (rw k i); known = rw k i; stage = stage; order = rw (k, f) o; left = rw k w })

  body_judge : {m : State} → Sound st → after_h ≤ st.stage → st.stage ≤ in_body → InBody st l m → judge l st ≡ says m
  unfolding stage_after kind_of
  body_judge g p q (head h z d b w) =
      let s = head_said_lem h l w in
      role_judged role.Declares in_body (rw s.0) refl (fits_head st z d b) (leading_so after_h in_body in_body st.stage p q) (passes.head h z s.1)
  body_judge g p q (point h w) =
      let s = point_said_lem l w in
      role_judged role.Declares in_body (rw s.0) refl (fits_point st h) (leading_so after_h in_body in_body st.stage p q) (passes.point w.point (λ z. omega arith) s.1)
  body_judge g p q (timed t (columned f w) z o) =
      let k = columned_letter f (layout_of f st.flight.layouts) t l w in
      role_judged (role.Columned f) in_body (line_role f _ k) refl (fits_plain st z) (leading_so after_h in_body in_body st.stage p q)
      (passes.columned f t (columned_said f (layout_of f st.flight.layouts) t l (g f) w) (follows_time st.clock t o))
  body_judge g p q (timed t (event w) z o) =
      let s = e_said l t w in
      role_judged role.Event in_body (rw s.0) refl (fits_plain st z) (leading_so after_h in_body in_body st.stage p q) (passes.event t s.1 (follows_time st.clock t o))
  body_judge g p q (timed t (satellites w) z o) =
      let s = f_said l t w in
      role_judged role.Satellites in_body (rw s.0) refl (fits_plain st z) (leading_so after_h in_body in_body st.stage p q) (passes.satellites t s.1 (follows_time st.clock t o))
  body_judge g p q (quiet z (differential w)) =
      role_judged role.Differential in_body (rw w.letter) refl (fits_plain st z) (leading_so after_h in_body in_body st.stage p q) (passes.differential (d_said l w))
  body_judge g p q (quiet z (remark w)) =
      role_judged role.Remark in_body (rw w.letter) refl (fits_plain st z) (rw (le-leb st.stage in_body q, le-leb after_h st.stage p)) (passes.remark (l_said l w))
  body_judge g p q (quiet z (other w)) =
      role_judged role.Other in_body (other_role _ w.from w.to) refl (fits_plain st z) (leading_so after_h in_body in_body st.stage p q) (passes.other (other_said l w))

  pub leads_judge : {p : Part} {m : State} → Sound st → Leads st l p m → judge l st ≡ says m
  unfolding stage_after kind_of
  leads_judge g (a_line z p w) =
      role_judged role.Opens after_a (rw w.letter) refl (fits_plain st p) (leading_so at_start at_start after_a st.stage (omega arith) (omega arith)) (passes.opens (a_said l w))
  leads_judge g (date_line d a b p n w) =
      role_judged role.Heads after_h (rw w.text) refl (fits_plain st p) (leading_so after_a after_h after_h st.stage a b) (passes.date d n (date_said_lem l d w))
  leads_judge g (h_line a b p n w) =
      role_judged role.Heads after_h (rw w.letter) refl (fits_plain st p) (leading_so after_a after_h after_h st.stage a b) (passes.header n (h_said l w))
  leads_judge g (layout_line f i a b p w) =
      let s = layout_said_lem f i l w in
      role_judged (role.Tells f) (after_layout f) (tells_role f _ s.0) refl (fits_plain st p) (leading_so after_h (after_layout f - 1) (after_layout f) st.stage a b)
      (passes.layout f i s.1)
  leads_judge g (body_line a b w) = body_judge g a b w
  leads_judge g (g_line a b p w) =
      role_judged role.Seals after_g (rw w.letter) refl (fits_plain st p) (leading_so after_h after_g after_g st.stage a b) (passes.seals (g_said l w))
  leads_judge g (l_line a b p w) =
      role_judged role.Remark after_last_g (rw w.letter) refl (fits_plain st p)
      (rw (lt-leb st.stage in_body (omega arith)) (leading_so after_g after_last_g after_last_g st.stage a b))
      (passes.remark (l_said l w))

  -- ---- what stays

  body_sound : {m : State} → InBody st l m → Sound st → Sound m
  body_sound (head h z d b w) g = g
  body_sound (point h w) g = g
  body_sound (timed t w z o) g = g
  body_sound (quiet z w) g = g

  pub stays_sound : {p : Part} {m : State} → Leads st l p m → Sound st → Sound m
  stays_sound (a_line z p w) g = g
  stays_sound (date_line d a b p n w) g = g
  stays_sound (h_line a b p n w) g = g
  stays_sound (layout_line f i a b p w) g = put_by IsTold f i st.flight.layouts (layout_told f i l w) (λ x n. g x)
  stays_sound (body_line a b w) g = body_sound w g
  stays_sound (g_line a b p w) g = g
  stays_sound (l_line a b p w) g = g
