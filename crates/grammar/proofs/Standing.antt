-- What the check carries from line to line is what the lines before tell: how far the file has come, what is still to come of a declaration, the columns of each
-- family's lines, and the last time. Assumes nothing.
use Rattle.std.specs.Prelude.{None, Option, Some}
use Prim.Native.Nat.{ℕ, ◌+◌, ◌-◌, ◌≤◌}
use Prim.Native.Char.{code}
use mathlib.Core.Bool.{Bool, true, false, not, ◌&&◌, ◌||◌, cond, and-true, and-false, and_assoc, or-true}
use mathlib.Core.List.{List, [], ◌∷◌, ◌++◌, append_assoc, append-nil}
use mathlib.Core.Path.{◌≡◌, refl, sym, ◌∙◌, ap}
use native.Mathlib.Omega.{arith}
use borrow.Author.Tests.{le-leb, leb-true, eqb-true, eqb-false, ne_eqb, ltb-true, lt-ltb}
use lib.Dec.{eqb, leb, ltb}
use lib.ListN.{length, get_or, length-append}
use Rattle.rules.specs.Choice.{given, bytes, Each}
use Rattle.rules.specs.Families.{line_letter, layout_letter, layout_of, count_of}
use Rattle.rules.specs.Refusals.{says}
use Rattle.rules.specs.Numbers.{number_at}
use Rattle.rules.specs.Fields.{time_at}
use Rattle.rules.specs.Roles.{is_declaring, is_sealing, is_timed, same_family, at_start, after_a, after_h, after_layout, in_body, after_g, after_last_g, leading, stage_after}
use Rattle.rules.specs.Order.{start, fits_declaration, moved, judge}
use Rattle.rules.specs.declared.Layout.{Layout}
use Rattle.rules.specs.declared.Family.{Family}
use Rattle.rules.specs.declared.Head.{Head}
use Rattle.rules.specs.declared.Role.{Role}
use Rattle.rules.specs.declared.Role.TheVariants as role
use Rattle.rules.specs.declared.State.{State}
use Rattle.rules.proofs.Inverse.{none_some, false_true, and_inv, bool_eq}
use Rattle.rules_laws.proofs.Passing.{role_in, leading_inv, Leaves, Judged, judged}
use Rattle.rules_laws.proofs.Passing as passes
use Rattle.rules_laws.proofs.Counted.{judged_more}
use Rattle.rules_laws.proofs.Walking.{left_clock}
use Rattle.rules_trips.proofs.Heads as heads
use Rattle.grammar.specs.Grammar.{IsHeadLine, IsPointLine, AtMostOne, absent, laid, beginning}
use Rattle.grammar.specs.Grammar as grammar
use Rattle.grammar.specs.Coming.{or_zero, is_among, only, without, ends_with, points_of, is_open, letters_before, those, first_entries, timed_letters, last_time}
use Rattle.grammar.specs.FieldTexts.{Letter}
use Rattle.rules_trips.proofs.Each.{each_join}
use Rattle.rules_sound.proofs.Families.{every, none_pass, put_by, same_family_lem, is_same_lem}
use Rattle.grammar.proofs.EachLine.{head_reads, head_said_lem, head_there, point_there}
use Rattle.grammar.proofs.LayoutLines.{there, layout_laid, layout_there, layout_said_lem}
use Rattle.grammar.proofs.Leading.{letter, tells_letter, is_telling, leads_to, letter_tests, counts_more, Sound, sound_start, some_points, plain_fits, head_fits, order_inv, judge_leads, stays_sound}
use Rattle.grammar.proofs.Sections.{layout_stage}

-- ---- what a line tells of itself

pub head_points : (h : Head) (l : List ℕ) → IsHeadLine h l → points_of l ≡ h.turns + 4
head_points h l w = ap (λ x. x + 4) (there (number_at l 23 2) (heads.head_there l h (head_reads h l w)).at_turns)

-- ---- one line more

module _ (l : List ℕ) where
  length_next : (ls : List (List ℕ)) → length (ls ++ (l ∷ [])) ≡ length ls + 1
  length_next ls = simp length-append

  pub beginning_next : (x : ℕ) (ls : List (List ℕ)) → beginning x (ls ++ (l ∷ [])) ≡ beginning x ls + cond (eqb (get_or l 0 0) x) 1 0
  unfolding beginning
  beginning_next x [] = omega arith
  beginning_next x (a ∷ ls) = omega (arith, beginning_next x ls)

  only_next : (xs : List ℕ) (ls : List (List ℕ)) → only xs (ls ++ (l ∷ [])) ≡ (only xs ls && is_among xs (get_or l 0 0))
  unfolding only
  only_next xs [] = and-true (is_among xs (get_or l 0 0))
  only_next xs (a ∷ ls) = ap (λ t. is_among xs (get_or a 0 0) && t) (only_next xs ls) ∙ sym (and_assoc (is_among xs (get_or a 0 0)) (only xs ls) (is_among xs (get_or l 0 0)))

  ends_next : (x : ℕ) (ls : List (List ℕ)) → ends_with x (ls ++ (l ∷ [])) ≡ eqb (get_or l 0 0) x
  unfolding ends_with
  ends_next x [] = refl
  ends_next x (a ∷ []) = refl
  ends_next x (a ∷ b ∷ ls) = ends_next x (b ∷ ls)

  without_next : (x : ℕ) (ls : List (List ℕ)) → without x (ls ++ (l ∷ [])) ≡ (without x ls && not (eqb (get_or l 0 0) x))
  without_next x ls = go (eqb (get_or l 0 0) x) (beginning x ls) (beginning x (ls ++ (l ∷ []))) (beginning_next x ls)
    where
      go : (b : Bool) (n m : ℕ) → m ≡ n + cond b 1 0 → eqb m 0 ≡ (eqb n 0 && not b)
      go true n m e = bool_eq (eqb m 0) (eqb n 0 && false) (λ z. let i = eqb-true m 0 z in absurd (omega arith)) (λ z. absurd (false_true (and_inv (eqb n 0) false z).1))
      go false n m e =
          let i : m ≡ n = omega arith in
          bool_eq (eqb m 0) (eqb n 0 && true) (λ z. rw (← i, z)) (λ z. rw i (and_inv (eqb n 0) true z).0)

-- ---- letters

-- no line begins with this letter
abbrev pub Without : ℕ → List (List ℕ) → Type 0
Without x ls = Each (λ l. get_or l 0 0 ≡ x → ⊥) ls

-- where each line begins with one of these letters, none begins with another
pub only_without : (xs : List ℕ) (x : ℕ) (ls : List (List ℕ)) → is_among xs x ≡ false → only xs ls ≡ true → Without x ls
unfolding only
only_without xs x [] n e = tt
only_without xs x (l ∷ ls) n e =
    let a = and_inv (is_among xs (get_or l 0 0)) (only xs ls) e in
    ((λ z. false_true (sym n ∙ ap (is_among xs) (sym z) ∙ a.0)), only_without xs x ls n a.1)

none_begin : (x : ℕ) (ls : List (List ℕ)) → Without x ls → beginning x ls ≡ 0
unfolding beginning
none_begin x [] h = refl
none_begin x (l ∷ ls) h = rw (ne_eqb (get_or l 0 0) x h.0) (omega (arith, none_begin x ls h.1))

none_those : (x : ℕ) (ls : List (List ℕ)) → Without x ls → those x ls ≡ []
unfolding those
none_those x [] h = refl
none_those x (l ∷ ls) h = rw (ne_eqb (get_or l 0 0) x h.0) (none_those x ls h.1)

those_next : (x : ℕ) (l : List ℕ) (ls : List (List ℕ)) → those x (ls ++ (l ∷ [])) ≡ those x ls ++ cond (eqb (get_or l 0 0) x) (l ∷ []) []
unfolding those
those_next x l [] = refl
those_next x l (a ∷ ls) = go (eqb (get_or a 0 0) x) (those_next x l ls)
  where
    go : (b : Bool) → those x (ls ++ (l ∷ [])) ≡ those x ls ++ cond (eqb (get_or l 0 0) x) (l ∷ []) []
        → cond b (a ∷ those x (ls ++ (l ∷ []))) (those x (ls ++ (l ∷ []))) ≡ cond b (a ∷ those x ls) (those x ls) ++ cond (eqb (get_or l 0 0) x) (l ∷ []) []
    go true r = ap (λ y. a ∷ y) r
    go false r = r

module _ (l : List ℕ) where
  -- the last line's time, where it has one
  time_next : (ls : List (List ℕ)) → last_time (ls ++ (l ∷ [])) ≡ given (cond (is_among timed_letters (get_or l 0 0)) (time_at l 1) None) (last_time ls) (λ t. Some t)
  unfolding last_time bytes
  time_next [] = go (cond (is_among timed_letters (get_or l 0 0)) (time_at l 1) None)
    where
      go : (o : Option ℕ) → o ≡ given o None (λ t. Some t)
      go (Some t) = refl
      go None = refl
  time_next (a ∷ ls) = rw (time_next ls) (go (cond (is_among timed_letters (get_or l 0 0)) (time_at l 1) None))
    where
      go : (o : Option ℕ) → given (given o (last_time ls) (λ t. Some t)) (cond (is_among timed_letters (get_or a 0 0)) (time_at a 1) None) (λ t. Some t)
          ≡ given o (given (last_time ls) (cond (is_among timed_letters (get_or a 0 0)) (time_at a 1) None) (λ t. Some t)) (λ t. Some t)
      go (Some t) = refl
      go None = refl

-- ---- the declaration

-- whether there is one, and how many of its points are still to come
pub data Declaration (ls : List (List ℕ)) : Bool → ℕ → Type 0 where
  undeclared : Without (code "C") ls → Declaration ls false 0
  declared : (points : ℕ) (before : List (List ℕ)) (head : List ℕ) (rest : List (List ℕ)) (h : Head) → ls ≡ before ++ (head ∷ rest) → Without (code "C") before → IsHeadLine h head
      → points ≡ h.turns + 4 - length rest → (1 ≤ points → Each IsPointLine rest) → Declaration ls true points

-- behind lines that are no C lines
pub open_behind : (before : List (List ℕ)) (l : List ℕ) (points : List (List ℕ)) → Without (code "C") before → get_or l 0 0 ≡ code "C"
    → (is_open (before ++ (l ∷ points)) ≡ ltb (length points) (points_of l)) × (1 ≤ beginning (code "C") (before ++ (l ∷ points)))
unfolding is_open beginning
open_behind [] l points n k = rw k (refl, omega arith)
open_behind (a ∷ before) l points n k = let r = open_behind before l points n.1 k in rw (ne_eqb (get_or a 0 0) (code "C") n.0) (r.0, omega (arith, r.1))

pub none_open : (ls : List (List ℕ)) → Without (code "C") ls → is_open ls ≡ false
unfolding is_open
none_open [] h = refl
none_open (l ∷ ls) h = rw (ne_eqb (get_or l 0 0) (code "C") h.0) (none_open ls h.1)

-- it is open exactly while points are to come, and there is one exactly where a C line came
pub declaration_told_lem : (ls : List (List ℕ)) {d : Bool} {points : ℕ} → Declaration ls d points → (leb 1 points ≡ is_open ls) × (d ≡ not (without (code "C") ls))
declaration_told_lem ls (undeclared n) = rw (none_open ls n, none_begin (code "C") ls n) (refl, refl)
declaration_told_lem ls (declared points before hd rest h o n w e ps) =
    let b = open_behind before hd rest n (head_said_lem h hd w).0 in
    let t = head_points h hd w in
    let i : leb 1 points ≡ ltb (length rest) (points_of hd) =
    bool_eq (leb 1 points) (ltb (length rest) (points_of hd)) (λ q. let j = leb-true 1 points q in lt-ltb (length rest) (points_of hd) (omega arith))
    (λ q. let j = ltb-true (length rest) (points_of hd) q in le-leb 1 points (omega arith)) in
    (i ∙ sym (ap is_open o ∙ b.0), sym (ap (λ x. not (without (code "C") x)) o ∙ ap not (ne_eqb (beginning (code "C") (before ++ (hd ∷ rest))) 0 (λ z. omega (arith, b.1)))))

module _ (ls : List (List ℕ)) (l : List ℕ) where
  -- a line of another role
  silent : {d : Bool} {points : ℕ} → eqb (get_or l 0 0) (code "C") ≡ false → points ≡ 0 → Declaration ls d points → Declaration (ls ++ (l ∷ [])) d points
  silent n z (undeclared w) = undeclared (each_join (λ l. get_or l 0 0 ≡ code "C" → ⊥) ls (l ∷ []) w (eqb-false _ _ n, tt))
  silent n z (declared p before hd rest h o w v e ps) =
      declared p before hd (rest ++ (l ∷ [])) h (ap (λ x. x ++ (l ∷ [])) o ∙ append_assoc before (hd ∷ rest) (l ∷ [])) w v (omega (arith, length_next l rest)) (λ q. absurd (omega arith))

  begins_one : {d : Bool} {points : ℕ} (h : Head) → IsHeadLine h l → d ≡ false → Declaration ls d points → Declaration (ls ++ (l ∷ [])) true (h.turns + 4)
  begins_one h w f (undeclared n) = declared (h.turns + 4) ls l [] h refl n w (omega arith) (λ q. tt)
  begins_one h w f (declared p before hd rest g o n v e ps) = absurd (false_true (sym f))

  goes_on : {d : Bool} {points : ℕ} → IsPointLine l → 1 ≤ points → Declaration ls d points → Declaration (ls ++ (l ∷ [])) d (points - 1)
  goes_on w p (undeclared n) = absurd (omega arith)
  goes_on w p (declared k before hd rest h o n v e ps) =
      declared (k - 1) before hd (rest ++ (l ∷ [])) h (ap (λ x. x ++ (l ∷ [])) o ∙ append_assoc before (hd ∷ rest) (l ∷ [])) n v (omega (arith, length_next l rest))
      (λ q. each_join IsPointLine rest (l ∷ []) (ps p) (w, tt))

-- ---- how far the file has come

-- the stage against the letters of the lines before
pub record Staged (s : ℕ) (ls : List (List ℕ)) : Type 0 where
  pub some_line : leb after_a s ≡ leb 1 (length ls)
  pub two_lines : leb after_h s ≡ leb 2 (length ls)
  pub untold : (f : Family) → leb s (after_layout f - 1) ≡ only (letters_before f) ls
  pub unsealed : leb s in_body ≡ without (code "G") ls
  pub sealing : leb s after_g ≡ (without (code "G") ls || ends_with (code "G") ls)
  pub most : s ≤ after_last_g

staged_start : Staged at_start []
unfolding only beginning
staged_start = record { some_line = refl; two_lines = refl; untold = λ f. le-leb at_start (after_layout f - 1) (omega arith); unsealed = refl; sealing = refl; most = omega arith }

-- from one part of the file a line of this role leads to another
record Moves (r : Role) (s c : ℕ) : Type 0 where
  up : s ≤ c
  least : after_a ≤ c
  most : c ≤ after_last_g
  second : leb after_h c ≡ leb after_a s
  -- among the layout lines it leads where its role does
  early : (f : Family) → leb (leads_to r) (after_layout f - 1) ≡ leb c (after_layout f - 1)
  first : (f : Family) → is_telling f r ≡ true → s ≤ after_layout f - 1
  unsealed : leb c in_body ≡ (leb s in_body && not (is_sealing r))
  sealing : leb c after_g ≡ ((leb s in_body && not (is_sealing r)) || is_sealing r)

module _ (s c : ℕ) where
  made : (r : Role) (next : ℕ) → next ≡ c → s ≤ next → after_a ≤ next → next ≤ after_last_g → leb after_h next ≡ leb after_a s
      → ((f : Family) → leb (leads_to r) (after_layout f - 1) ≡ leb next (after_layout f - 1)) → ((f : Family) → is_telling f r ≡ true → s ≤ after_layout f - 1)
      → leb next in_body ≡ (leb s in_body && not (is_sealing r)) → leb next after_g ≡ ((leb s in_body && not (is_sealing r)) || is_sealing r) → Moves r s c
  made r next e p q m t y z u g = rw (← e) (record { up = p; least = q; most = m; second = t; early = y; first = z; unsealed = u; sealing = g })

  both_low : (n : ℕ) → after_h ≤ n → after_a ≤ s → leb after_h n ≡ leb after_a s
  both_low n p q = le-leb after_h n p ∙ sym (le-leb after_a s q)

  -- from the front to the body
  along : (r : Role) (low high : ℕ) → leading low high (leads_to r) s ≡ Some c → after_a ≤ low → high ≤ leads_to r → after_h ≤ leads_to r → leads_to r ≤ in_body
      → is_sealing r ≡ false → ((f : Family) → is_telling f r ≡ true → high ≤ after_layout f - 1) → Moves r s c
  along r low high o p q h g n t =
      let i = leading_inv low high (leads_to r) s c o in
      made r (leads_to r) i.2 (omega arith) (omega arith) (omega arith) (both_low (leads_to r) h (omega arith)) (λ f. refl) (λ f y. omega (arith, t f y))
      (rw (n, le-leb (leads_to r) in_body g, le-leb s in_body (omega arith)))
      (rw (n, le-leb (leads_to r) after_g (omega arith), le-leb s in_body (omega arith)))

  to_body : (r : Role) → leads_to r ≡ in_body → is_sealing r ≡ false → ((f : Family) → is_telling f r ≡ false) → leading after_h in_body in_body s ≡ Some c → Moves r s c
  to_body r e n t o = along r after_h in_body (rw e o) (omega arith) (omega arith) (omega arith) (omega arith) n (λ f y. absurd (false_true (sym (t f) ∙ y)))

  remark_moves : (b : Bool) → leb s in_body ≡ b → cond b (leading after_h in_body in_body s) (leading after_g after_last_g after_last_g s) ≡ Some c → Moves role.Remark s c
  remark_moves true q o = to_body role.Remark refl refl (λ f. refl) o
  remark_moves false q o =
      let i = leading_inv after_g after_last_g after_last_g s c o in
      made role.Remark after_last_g i.2 i.1 (omega arith) (omega arith) (both_low after_last_g (omega arith) (omega arith))
      (λ f. none_pass (λ f. leb in_body (after_layout f - 1)) refl f ∙ sym (none_pass (λ f. leb after_last_g (after_layout f - 1)) refl f))
      (λ f y. absurd (false_true y))
      (rw q)
      (rw q)

  moves : (r : Role) → stage_after r s ≡ Some c → Moves r s c
  unfolding stage_after
  moves role.Opens o =
      let i = leading_inv at_start at_start after_a s c o in
      let z : s ≡ at_start = omega arith in
      made role.Opens after_a i.2 (omega arith) (omega arith) (omega arith) (rw z) (λ f. refl) (λ f y. absurd (false_true y)) (rw z) (rw z)
  moves role.Heads o = along role.Heads after_a after_h o (omega arith) (omega arith) (omega arith) (omega arith) refl (λ f y. absurd (false_true y))
  moves (role.Tells f) o =
      let k = layout_stage f in
      along (role.Tells f) after_h (after_layout f - 1) o (omega arith) (omega arith) (omega arith) (omega arith) refl (λ g y. rw (is_same_lem f g y) (omega arith))
  moves (role.Columned f) o = to_body (role.Columned f) refl refl (λ g. refl) o
  moves role.Declares o = to_body role.Declares refl refl (λ g. refl) o
  moves role.Event o = to_body role.Event refl refl (λ g. refl) o
  moves role.Satellites o = to_body role.Satellites refl refl (λ g. refl) o
  moves role.Differential o = to_body role.Differential refl refl (λ g. refl) o
  moves role.Seals o =
      let i = leading_inv after_h after_g after_g s c o in
      made role.Seals after_g i.2 i.1 (omega arith) (omega arith) (both_low after_g (omega arith) (omega arith)) (λ f. refl) (λ f y. absurd (false_true y))
      (sym (and-false (leb s in_body)))
      (sym (or-true (leb s in_body && false)))
  moves role.Remark o = remark_moves (leb s in_body) refl o
  moves role.Other o = to_body role.Other refl refl (λ g. refl) o
  moves role.NoRole o = absurd (none_some o)

module _ (s c : ℕ) (ls : List (List ℕ)) (l : List ℕ) (w : Staged s ls) (v : Moves (role_in l) s c) where
  -- below n after it exactly where below before it, and the line leads below
  still : (n : ℕ) → leb c n ≡ (leb s n && leb c n)
  still n = go (leb c n) refl
    where
      go : (b : Bool) → leb c n ≡ b → b ≡ (leb s n && b)
      go true e = let i = leb-true c n e in let j = v.up in rw (le-leb s n (omega arith))
      go false e = sym (and-false (leb s n))

  staged_next : Staged c (ls ++ (l ∷ []))
  staged_next =
      let b = letter_tests l in
      let n = length_next l ls in
      record {
        some_line = rw n (le-leb after_a c v.least ∙ sym (le-leb 1 (length ls + 1) (omega arith)));
        two_lines = rw n (v.second ∙ w.some_line ∙ second_line (length ls));
        untold = λ f. still (after_layout f - 1) ∙ rw (only_next l, ← w.untold f, (b.2 f).2, v.early f);
        unsealed = rw (without_next l, ← w.unsealed, b.1.1) v.unsealed;
        sealing = rw (without_next l, ends_next l, ← w.unsealed, b.1.1) v.sealing;
        most = v.most;
      }
    where
      second_line : (n : ℕ) → leb 1 n ≡ leb 2 (n + 1)
      second_line n = bool_eq _ _ (λ e. let i = leb-true 1 n e in le-leb 2 (n + 1) (omega arith)) (λ e. let i = leb-true 2 (n + 1) e in le-leb 1 n (omega arith))

-- ---- what the lines before tell of the state

pub record Stands (ls : List (List ℕ)) (st : State) : Type 0 where
  pub sound : Sound st
  pub staged : Staged st.stage ls
  pub lines : st.flight.lines ≡ length ls
  pub counts : (f : Family) → count_of f st.flight.counts ≡ beginning (line_letter f) ls
  pub declaration : Declaration ls st.declared st.points
  pub clock : st.clock ≡ or_zero (last_time ls)
  pub told : (f : Family) → AtMostOne f (layout_of f st.flight.layouts) (those (layout_letter f) ls)

pub stands_start : Stands [] start
unfolding beginning last_time those
stands_start = record {
  sound = sound_start;
  staged = staged_start;
  lines = refl;
  counts = every (λ f. count_of f start.flight.counts ≡ beginning (line_letter f) []) refl refl refl;
  declaration = undeclared tt;
  clock = refl;
  told = every (λ f. AtMostOne f (layout_of f start.flight.layouts) (those (layout_letter f) [])) absent absent absent;
}

-- a family's layout is that of the entries that were told
pub laid_out_lem : (f : Family) {layout : Layout} {ls : List (List ℕ)} → AtMostOne f layout ls → layout ≡ laid (first_entries ls)
laid_out_lem f absent = refl
laid_out_lem f (grammar.given {layout = i} {l = l} w) = layout_laid f i l (layout_said_lem f i l w).1

-- what a line that passes leaves of the state m, behind the lines ls, by its role
record Left (ls : List (List ℕ)) (l : List ℕ) (m : State) (r : Role) (after : State) : Type 0 where
  stage : after.stage ≡ m.stage
  declaration : Declaration (ls ++ (l ∷ [])) after.declared after.points
  clock : after.clock ≡ given (cond (is_timed r) (time_at l 1) None) m.clock (λ t. t)
  told : (g : Family) (ks : List (List ℕ)) → (is_telling g r ≡ true → ks ≡ []) → AtMostOne g (layout_of g m.flight.layouts) ks
      → AtMostOne g (layout_of g after.flight.layouts) (ks ++ cond (is_telling g r) (l ∷ []) [])

module _ (ls : List (List ℕ)) (l : List ℕ) (m : State) (d : Declaration ls m.declared m.points) where
  left : {r : Role} {after : State} → Letter r (get_or l 0 0) → eqb (get_or l 0 0) (code "C") ≡ is_declaring r → fits_declaration (is_declaring r) m ≡ true → Leaves l m r after → Left ls l m r after
  left k c f (passes.opens e) = record { stage = refl; declaration = silent ls l c (plain_fits m f) d; clock = refl; told = λ g ks n a. rw append-nil a }
  left k c f (passes.date x n e) = record { stage = refl; declaration = silent ls l c (plain_fits m f) d; clock = refl; told = λ g ks n a. rw append-nil a }
  left k c f (passes.header n e) = record { stage = refl; declaration = silent ls l c (plain_fits m f) d; clock = refl; told = λ g ks n a. rw append-nil a }
  left k c f (passes.layout x i e) = record {
    stage = refl;
    declaration = silent ls l c (plain_fits m f) d;
    clock = refl;
    told = put_by (λ g y. (ks : List (List ℕ)) → (same_family g x ≡ true → ks ≡ []) → AtMostOne g (layout_of g m.flight.layouts) ks → AtMostOne g y (ks ++ cond (same_family g x) (l ∷ []) []))
        x i m.flight.layouts
        (λ ks n a. rw (n (same_family_lem x), same_family_lem x) (grammar.given (layout_there x i l e (tells_letter x k))))
        (λ g n ks q a. rw (n, append-nil) a);
  }
  left k c f (passes.columned x t e o) =
      record { stage = refl; declaration = silent ls l c (plain_fits m f) d; clock = left_clock l m (passes.columned x t e o); told = λ g ks n a. rw append-nil a }
  left k c f (passes.head h n e) = record { stage = refl; declaration = begins_one ls l h (head_there h l k e) (head_fits m n f).0 d; clock = refl; told = λ g ks n a. rw append-nil a }
  left k c f (passes.point p n e) = record { stage = refl; declaration = goes_on ls l (point_there p l k e) (some_points m.points n) d; clock = refl; told = λ g ks n a. rw append-nil a }
  left k c f (passes.event t e o) = record { stage = refl; declaration = silent ls l c (plain_fits m f) d; clock = left_clock l m (passes.event t e o); told = λ g ks n a. rw append-nil a }
  left k c f (passes.satellites t e o) = record { stage = refl; declaration = silent ls l c (plain_fits m f) d; clock = left_clock l m (passes.satellites t e o); told = λ g ks n a. rw append-nil a }
  left k c f (passes.differential e) = record { stage = refl; declaration = silent ls l c (plain_fits m f) d; clock = refl; told = λ g ks n a. rw append-nil a }
  left k c f (passes.seals e) = record { stage = refl; declaration = silent ls l c (plain_fits m f) d; clock = refl; told = λ g ks n a. rw append-nil a }
  left k c f (passes.remark e) = record { stage = refl; declaration = silent ls l c (plain_fits m f) d; clock = refl; told = λ g ks n a. rw append-nil a }
  left k c f (passes.other e) = record { stage = refl; declaration = silent ls l c (plain_fits m f) d; clock = refl; told = λ g ks n a. rw append-nil a }

-- ---- and they tell it of the state after the next line

module _ (ls : List (List ℕ)) (l : List ℕ) (st after : State) (w : Stands ls st) (e : judge l st ≡ says after) where
  so : Judged l st after
  so = judged l st after e

  order : (fits_declaration (is_declaring (role_in l)) st ≡ true) × (stage_after (role_in l) st.stage ≡ Some so.stage)
  order = order_inv (role_in l) st so.stage so.order

  leads_on : Moves (role_in l) st.stage so.stage
  leads_on = moves st.stage so.stage (role_in l) order.1

  by_role : Left ls l (moved so.stage st) (role_in l) after
  unfolding fits_declaration
  by_role = left ls l (moved so.stage st) w.declaration (letter (get_or l 0 0)) (letter_tests l).1.0 order.0 so.left

  clock_next : after.clock ≡ or_zero (last_time (ls ++ (l ∷ [])))
  clock_next = by_role.clock ∙ rw (time_next l, (letter_tests l).1.2, w.clock) (go (cond (is_timed (role_in l)) (time_at l 1) None))
    where
      go : (o : Option ℕ) → given o (or_zero (last_time ls)) (λ t. t) ≡ or_zero (given o (last_time ls) (λ t. Some t))
      go (Some t) = refl
      go None = refl

  -- a family's layout is told once
  untold : (f : Family) → is_telling f (role_in l) ≡ true → those (layout_letter f) ls ≡ []
  unfolding is_among bytes
  untold f q =
      none_those (layout_letter f) ls (only_without (letters_before f) (layout_letter f) ls (none_pass (λ f. is_among (letters_before f) (layout_letter f)) refl f)
      (sym (w.staged.untold f) ∙ le-leb _ _ (leads_on.first f q)))

  pub stands_next : Stands (ls ++ (l ∷ [])) after
  stands_next = record {
    sound = stays_sound l st (judge_leads l st after w.sound e).1 w.sound;
    staged = rw by_role.stage (staged_next st.stage so.stage ls l w.staged leads_on);
    lines = omega (arith, (judged_more l st after e).lines, w.lines, length_next l ls);
    counts = λ f. omega (arith, counts_more l st after e f, w.counts f, beginning_next l (line_letter f) ls);
    declaration = by_role.declaration;
    clock = clock_next;
    told = λ f. rw (those_next (layout_letter f) l ls, ((letter_tests l).2 f).1) (by_role.told f (those (layout_letter f) ls) (untold f) (w.told f));
  }
