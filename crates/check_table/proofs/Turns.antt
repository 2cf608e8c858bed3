-- Laws of the check's turns: a line passed is one entry more, and what is left to compute behind it is still the whole answer. Assumes nothing.
use Rattle.std.specs.Prelude.{Option}
use Prim.Native.Nat.{ℕ, suc, ◌+◌, ◌≤◌, ◌<◌}
use mathlib.Core.Bool.{Bool, true, false}
use mathlib.Core.List.{List, [], ◌∷◌, ◌++◌}
use mathlib.Core.Path.{◌≡◌, refl, sym, ◌∙◌}
use native.Mathlib.Omega.{arith}
use borrow.Author.Tests.{le-leb, lt-leb, leb-true}
use lib.Dec.{leb}
use lib.ListN.{length, get_or, drop, length-append, length-set}
use lib.Seq.{drop-cons, append_snoc, set_at}
use Rattle.rules.specs.Families.{count_of}
use Rattle.rules.specs.Files.{has_room, run}
use Rattle.rules.specs.Order.{start}
use Rattle.rules.specs.Split.{lines_of, offsets}
use Rattle.rules.specs.declared.Extra.{Extra}
use Rattle.rules.specs.declared.Extra.TheVariants as extra
use Rattle.rules.specs.declared.Family.TheVariants as family
use Rattle.rules.specs.declared.Seal.{Seal}
use Rattle.rules.specs.declared.State.{State}
use Rattle.check_state.specs.States.{Few}
use Rattle.check_table.specs.Turns.{Passed, room_of, entered, entry, EntryPut, Here}
use Rattle.check_table.proofs.Counts.{lines_counted, family_counted}

-- ---- one more, in so many places

pub past : (at size : ℕ) → size ≤ at → leb (at + 1) size ≡ false
past at size h = lt-leb (at + 1) size (omega arith)

pub inside : (at size : ℕ) → at < size → leb (at + 1) size ≡ true
inside at size h = le-leb (at + 1) size (omega arith)

-- ---- a line passed

module _ {file : List ℕ} {at : ℕ} {st : State} {next : ℕ} {s : State} (p : Passed file at st next s) where
  pub passed_count : s.flight.lines ≡ st.flight.lines + 1
  passed_count = lines_counted p.text st s p.judged

  passed_run : (seal : Seal) (room : Option ℕ) → has_room room (st.flight.lines + 1) ≡ true → run seal room s (lines_of (drop next file)) ≡ run seal room st (lines_of (drop at file))
  unfolding run
  passed_run seal room h = rw (p.lines, p.judged, passed_count, h)

  passed_offsets : offsets at (lines_of (drop at file)) ≡ at ∷ offsets next (lines_of (drop next file))
  unfolding offsets
  passed_offsets = rw (p.lines, p.place)

-- ---- what holds at each turn

pub here_first : (seal : Seal) (lent : Bool) (file table : List ℕ) (st : State) → st ≡ start → Here seal lent file table table 0 st
here_first seal lent file table st e =
    rw e
    (record {
      passed = [];
      many = refl;
      offsets = refl;
      entries = none_yet lent;
      room = empty lent;
      size = refl;
      within = omega arith;
      lines = omega arith;
      count = elim [ family.B ↦ omega arith | family.Extra e ↦ none_counted e ];
      run = refl;
    })
  where
    none_counted : (e : Extra) → count_of (family.Extra e) start.flight.counts ≤ 0
    none_counted extra.K = omega arith
    none_counted extra.N = omega arith

    none_yet : (b : Bool) → table ≡ entered b [] table
    none_yet true = refl
    none_yet false = refl

    empty : (b : Bool) → has_room (room_of b table) 0 ≡ true
    empty true = le-leb 0 (length table) (omega arith)
    empty false = refl

-- one entry more
entry_more : (lent : Bool) (passed table₀ table : List ℕ) (n at : ℕ) → length passed ≡ n → table ≡ entered lent passed table₀ → has_room (room_of lent table₀) (n + 1) ≡ true
    → (after : List ℕ) → after ≡ entry lent table n at → after ≡ entered lent (passed ++ (at ∷ [])) table₀
entry_more true passed table₀ table n at c e h after q =
    let l : n < length table₀ = omega (arith, leb-true (n + 1) (length table₀) h) in
    let k : length (passed ++ (at ∷ [])) ≡ suc n = simp length-append (omega arith) in
    rw (q, k, e, c, drop-cons table₀ n 0 l, set_at passed (get_or table₀ n 0) (drop (suc n) table₀) at n c, append_snoc)
entry_more false passed table₀ table n at c e h after q = q ∙ e

pub put_long : (lent : Bool) (table : List ℕ) (n at : ℕ) (after : List ℕ) → after ≡ entry lent table n at → length after ≡ length table
put_long true table n at after q = rw q (length-set table n at)
put_long false table n at after q = rw q

-- a table keeps its room
same_room : (lent : Bool) (table table₀ : List ℕ) (n : ℕ) → length table ≡ length table₀ → has_room (room_of lent table) n ≡ true → has_room (room_of lent table₀) n ≡ true
same_room true table table₀ n e h = rw e at h
same_room false table table₀ n e h = h

no_room : (lent : Bool) (table table₀ : List ℕ) (n : ℕ) → length table ≡ length table₀ → has_room (room_of lent table) n ≡ false → has_room (room_of lent table₀) n ≡ false
no_room true table table₀ n e h = rw e at h
no_room false table table₀ n e h = h

-- an entry that was put, and a table with no room for it
module _ {lent : Bool} {table : List ℕ} {n at : ℕ} {r : Bool} {after : List ℕ} (u : EntryPut lent table n at r after) where
  pub put_so : r ≡ true → after ≡ entry lent table n at
  put_so e = rw e at u.entries

  pub put_none : r ≡ false → after ≡ table
  put_none e = rw e at u.entries

  pub put_fits : (table₀ : List ℕ) → length table ≡ length table₀ → r ≡ true → has_room (room_of lent table₀) (n + 1) ≡ true
  put_fits table₀ e q = same_room lent table table₀ (n + 1) e (sym u.fits ∙ q)

  pub put_full : (table₀ : List ℕ) → length table ≡ length table₀ → r ≡ false → has_room (room_of lent table₀) (n + 1) ≡ false
  put_full table₀ e q = no_room lent table table₀ (n + 1) e (sym u.fits ∙ q)

module _ {seal : Seal} {lent : Bool} {file table₀ table : List ℕ} {at : ℕ} {st : State} (h : Here seal lent file table₀ table at st) where
  pub here_few : length file ≤ 16777216 → Few st
  here_few l = record { lines = omega (arith, h.lines, h.within); count = λ f. omega (arith, h.lines, h.within, h.count f) }

  pub here_next : {next : ℕ} {s : State} {after : List ℕ} → Passed file at st next s → has_room (room_of lent table₀) (st.flight.lines + 1) ≡ true → after ≡ entry lent table st.flight.lines at
      → Here seal lent file table₀ after next s
  here_next {next} {s} {after} p l q =
      let n : s.flight.lines ≡ st.flight.lines + 1 = passed_count p in
      record {
        passed = h.passed ++ (at ∷ []);
        many = simp length-append (omega (arith, h.many));
        offsets = rw (append_snoc, ← passed_offsets p) h.offsets;
        entries = entry_more lent h.passed table₀ table st.flight.lines at h.many h.entries l after q;
        room = rw n l;
        size = put_long lent table st.flight.lines at after q ∙ h.size;
        within = p.within;
        lines = omega (arith, p.place, h.lines);
        count = λ f. omega (arith, family_counted p.text st s p.judged f, h.count f);
        run = passed_run p seal (room_of lent table₀) l ∙ h.run;
      }
