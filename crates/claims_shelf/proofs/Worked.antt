-- A shelf worked out: a buffer of zeros is an empty one; two files go one behind the other, and a third takes the place of one that was removed; with no byte to spare it is 30 before that.
-- And buffers that are no shelf. Assumes nothing.
use Rattle.std.specs.Prelude.{Err, Ok}
use Prim.Native.Nat.{ℕ, zero, suc, ◌+◌, ◌*◌, ◌≤◌, ◌<◌}
use mathlib.Core.List.{List, [], ◌∷◌, ◌++◌}
use mathlib.Core.Logic.{◌⊎◌, inl, inr}
use mathlib.Core.Path.{◌≡◌, refl, sym, ap, subst, ◌∙◌}
use native.Mathlib.Omega.{arith}
use lib.ListN.{length, get_or, replicate, length-replicate}
use Rattle.rules.specs.Refusals.{number, says, refuses, result_told}
use Rattle.rules.specs.declared.Reason.TheVariants as reason
use Rattle.rules.specs.declared.Refusal.{Refusal}
use Rattle.rules.specs.declared.Seal.TheVariants as seal
use Rattle.rules.proofs.Computed.{file_of}
use Rattle.rules.proofs.Damaged.{five_lines}
use Rattle.grammar.specs.Grammar.{Meets}
use Rattle.grammar.proofs.Demands.{five_meet}
use Rattle.shelf_rules.specs.Contents.{word, word_bytes, number_of, slot_of, slot_bytes, held}
use Rattle.shelf_rules.specs.Shelf.{add_said, after_add, held_at, after_remove}
use Rattle.shelf_rules.specs.declared.Slot.{Slot}
use Rattle.shelf_rules.proofs.Tests.{by_eq, by_le}
use Rattle.shelf_rules.proofs.Accepts.{adds as accepted, holds}
use Rattle.claims_shelf.specs.Calls.{Call, adds, removes, Empty, Reached, empty, added_one, removed_one}
use Rattle.claims_shelf.specs.Weekend.{Among, InBody, IsShelf, InUse}
use Rattle.claims_shelf.proofs.Answers.{by_sum, met, add_refuses, add_said_lem, held_says}
use Rattle.claims_shelf.proofs.After.{same_slot, add_keeps, add_puts, remove_keeps, remove_zeroes}
use Rattle.claims_shelf.proofs.Books.{held_by_calls}
use Rattle.claims_shelf.proofs.Results.{added as added_to, add_changed, removed, remove_changed, gone}

-- ---- an empty shelf

-- n bytes, all of them 0
abbrev pub zeros : ℕ → List ℕ
zeros n = replicate n 0

zero_at : (n i : ℕ) → get_or (zeros n) i 0 ≡ 0
zero_at zero i = refl
zero_at (suc n) zero = refl
zero_at (suc n) (suc i) = zero_at n i

no_number : (n at : ℕ) → word (zeros n) at ≡ 0
unfolding word
no_number n at = rw (zero_at n at, zero_at n (at + 1), zero_at n (at + 2), zero_at n (at + 3))

long_zeros : (n : ℕ) → length (zeros n) ≡ n
long_zeros n = length-replicate n 0

-- "one lent buffer of 768 to 16,777,216 bytes"
pub zeros_empty : (n : ℕ) → 768 ≤ n → n ≤ 16777216 → Empty (zeros n)
zeros_empty n low high = (
  record {
    least_room = rw (long_zeros n) low;
    most_room = rw (long_zeros n) high;
    free = λ m p z i h. zero_at n (12 * m + i);
    some_byte = λ m p u. absurd (u (no_number n (12 * m)));
    inside = λ m i x. absurd (x.used (no_number n (12 * m)));
    apart = λ m k i x y. absurd (x.used (no_number n (12 * m)));
    once = λ m k p q u e. absurd (u (no_number n (12 * m)));
  },
  λ m p. no_number n (12 * m),
)

-- ---- a shelf that holds two flights at most, in its first two entries

abbrev entry : ℕ → ℕ → ℕ → Slot
entry number start size = record { number = number; start = start; size = size }

record Holding (b : List ℕ) (room : ℕ) (s t : Slot) : Type 0 where
  pub shelf : IsShelf b
  pub long : length b ≡ room
  pub first : slot_of b 0 ≡ s
  pub second : slot_of b 1 ≡ t
  pub others : (n : ℕ) → n < 64 → 2 ≤ n → number_of b n ≡ 0

module _ (b : List ℕ) (room : ℕ) (s t : Slot) (w : Holding b room s t) where
  -- an entry's number
  number_first : number_of b 0 ≡ s.number
  number_first = ap (λ (x : Slot). x.number) w.first

  number_second : number_of b 1 ≡ t.number
  number_second = ap (λ (x : Slot). x.number) w.second

  -- a byte in a body is one of the two
  in_either : (n i : ℕ) → InBody b n i → ((s.number ≡ 0 → ⊥) × Among s.start s.size i) ⊎ ((t.number ≡ 0 → ⊥) × Among t.start t.size i)
  in_either n i x =
      by_eq n 0
      (λ e.
      let y : InBody b 0 i = subst (λ (m : ℕ). InBody b m i) e x in
      inl ((λ z. y.used (number_first ∙ z)), subst (λ (v : Slot). Among v.start v.size i) w.first y.among))
      (λ d. by_eq n 1
      (λ e.
      let y : InBody b 1 i = subst (λ (m : ℕ). InBody b m i) e x in
      inr ((λ z. y.used (number_second ∙ z)), subst (λ (v : Slot). Among v.start v.size i) w.second y.among))
      (λ e. absurd (x.used (w.others n x.entry (omega arith)))))

  first_body : (s.number ≡ 0 → ⊥) → (i : ℕ) → Among s.start s.size i → InBody b 0 i
  first_body u i a = record { entry = omega arith; used = λ z. u (sym number_first ∙ z); among = subst (λ (v : Slot). Among v.start v.size i) (sym w.first) a }

  second_body : (t.number ≡ 0 → ⊥) → (i : ℕ) → Among t.start t.size i → InBody b 1 i
  second_body u i a = record { entry = omega arith; used = λ z. u (sym number_second ∙ z); among = subst (λ (v : Slot). Among v.start v.size i) (sym w.second) a }

  -- a number that neither has is not in use
  neither : (x : ℕ) → (x ≡ 0 → ⊥) → (s.number ≡ x → ⊥) → (t.number ≡ x → ⊥) → InUse b x → ⊥
  neither x z f g u =
      by_eq u.0 0
      (λ e. f (sym number_first ∙ subst (λ (m : ℕ). number_of b m ≡ x) e u.2))
      (λ d. by_eq u.0 1
      (λ e. g (sym number_second ∙ subst (λ (m : ℕ). number_of b m ≡ x) e u.2))
      (λ e. z (sym u.2 ∙ w.others u.0 u.1 (omega arith))))

  -- a file added in one of the two entries
  module _ (number : ℕ) (file : List ℕ) (at : ℕ) (small : number < 4294967296) where
    add_first : (e : add_said b number file ≡ says (record { entry = 0; start = at })) → Holding (after_add (add_said b number file) b number file) room (entry number at (length file)) t
    unfolding after_add
    add_first e =
        let a = accepted b number file (record { entry = 0; start = at }) e in
        let one = (met file a.flight a.checked).least in
        let p = add_puts b file number 0 at a one small in
        let ch = add_changed b file number 0 at a one small in
        rw e (record {
          shelf = add_keeps b file number 0 at a one small;
          long = p.long ∙ w.long;
          first = p.entry;
          second = same_slot b (added_to b file number 0 at a one small) 1 (ch.number_kept 1 (omega arith) (λ e. omega arith)) (ch.start_kept 1 (omega arith) (λ e. omega arith)) (ch.size_kept 1 (omega arith) (λ e. omega arith)) ∙ w.second;
          others = λ n q h. ch.number_kept n q (λ e. omega arith) ∙ w.others n q h;
        })

    add_second : (e : add_said b number file ≡ says (record { entry = 1; start = at })) → Holding (after_add (add_said b number file) b number file) room s (entry number at (length file))
    unfolding after_add
    add_second e =
        let a = accepted b number file (record { entry = 1; start = at }) e in
        let one = (met file a.flight a.checked).least in
        let p = add_puts b file number 1 at a one small in
        let ch = add_changed b file number 1 at a one small in
        rw e (record {
          shelf = add_keeps b file number 1 at a one small;
          long = p.long ∙ w.long;
          first = same_slot b (added_to b file number 1 at a one small) 0 (ch.number_kept 0 (omega arith) (λ e. omega arith)) (ch.start_kept 0 (omega arith) (λ e. omega arith)) (ch.size_kept 0 (omega arith) (λ e. omega arith)) ∙ w.first;
          second = p.entry;
          others = λ n q h. ch.number_kept n q (λ e. omega arith) ∙ w.others n q h;
        })

  -- the first flight removed
  remove_first : (s.number ≡ 0 → ⊥) → (held_at b s.number ≡ says 0) × Holding (after_remove (held_at b s.number) b) room (entry 0 0 0) t
  unfolding after_remove
  remove_first u =
      let e = held_says b s.number 0 (w.shelf, u, omega arith, number_first) in
      let h = holds b s.number 0 e in
      let ch = remove_changed b s.number 0 h in
      let g = gone b s.number 0 h in (
        e,
        rw e (record {
          shelf = remove_keeps b s.number 0 h;
          long = (remove_zeroes b s.number 0 h).long ∙ w.long;
          first = rw (g.0, g.1, g.2);
          second = same_slot b (removed b s.number 0 h) 1 (ch.number_kept 1 (omega arith) (λ e. omega arith)) (ch.start_kept 1 (omega arith) (λ e. omega arith)) (ch.size_kept 1 (omega arith) (λ e. omega arith)) ∙ w.second;
          others = λ n q h. ch.number_kept n q (λ e. omega arith) ∙ w.others n q h;
        }),
      )

-- ---- a file that meets the grammar, on a shelf with room for two such files and not a byte more

-- "30 NO_RUN", at no line and no byte
abbrev no_run : Refusal
no_run = record { reason = reason.NoRun; line = 0; byte = 0 }

-- empty; with flight 1; with flights 1 and 2; with flight 2; with flights 3 and 2
module _ (file : List ℕ) where
  abbrev room_for : ℕ
  room_for = 768 + length file + length file

  abbrev pub none : List ℕ
  none = zeros (768 + length file + length file)

  abbrev pub one : List ℕ
  one = after_add (add_said none 1 file) none 1 file

  abbrev pub two : List ℕ
  two = after_add (add_said one 2 file) one 2 file

  abbrev pub other : List ℕ
  other = after_remove (held_at two 1) two

  abbrev pub three : List ℕ
  three = after_add (add_said other 3 file) other 3 file

  -- flight 1, flight 2 behind it, no room for flight 3; flight 1 removed, and flight 3 in its place: the latest call comes first
  abbrev pub weekend_of : List Call
  weekend_of =
      adds 3 file (Ok 768)
      ∷ removes 1 (Ok tt)
      ∷ adds 3 file (Err no_run)
      ∷ adds 2 file (Ok (768 + length file))
      ∷ adds 1 file (Ok 768)
      ∷ []

module _ (file : List ℕ) (m : Meets seal.Usual file) (fits : 768 + length file + length file ≤ 16777216) where
  abbrev size : ℕ
  size = length file

  abbrev room : ℕ
  room = room_for file

  abbrev b₀ : List ℕ
  b₀ = none file

  abbrev b₁ : List ℕ
  b₁ = one file

  abbrev b₂ : List ℕ
  b₂ = two file

  abbrev b₃ : List ℕ
  b₃ = other file

  holds₀ : Holding b₀ room (entry 0 0 0) (entry 0 0 0)
  holds₀ = record {
    shelf = (zeros_empty room (omega arith) fits).0;
    long = long_zeros room;
    first = rw (no_number room (12 * 0), no_number room (12 * 0 + 4), no_number room (12 * 0 + 8));
    second = rw (no_number room (12 * 1), no_number room (12 * 1 + 4), no_number room (12 * 1 + 8));
    others = λ n p h. no_number room (12 * n);
  }

  -- the first file goes into the first entry, from 768 on
  pub first_said : add_said b₀ 1 file ≡ says (record { entry = 0; start = 768 })
  first_said =
      let w = holds₀ in
      add_said_lem b₀ 1 file 0 768 (record {
        both = (w.shelf, m);
        new = ((λ z. omega arith), neither b₀ room (entry 0 0 0) (entry 0 0 0) w 1 (λ z. omega arith) (λ z. omega arith) (λ z. omega arith));
        entry = (omega arith, number_first b₀ room (entry 0 0 0) (entry 0 0 0) w, λ n h. absurd (omega arith));
        start = (
          record {
            from_768 = omega arith;
            inside = let l = w.long in omega arith;
            free = λ n i a x. by_sum (in_either b₀ room (entry 0 0 0) (entry 0 0 0) w n i x) (λ y. y.0 refl) (λ y. y.0 refl);
          },
          λ a v. v.from_768,
        );
      })

  holds₁ : Holding b₁ room (entry 1 768 size) (entry 0 0 0)
  holds₁ = add_first b₀ room (entry 0 0 0) (entry 0 0 0) holds₀ 1 file 768 (omega arith) first_said

  -- the second behind it
  pub second_said : add_said b₁ 2 file ≡ says (record { entry = 1; start = 768 + length file })
  second_said =
      let w = holds₁ in
      let some = m.least in
      let s : Slot = entry 1 768 size in
      add_said_lem b₁ 2 file 1 (768 + size) (record {
        both = (w.shelf, m);
        new = ((λ z. omega arith), neither b₁ room (entry 1 768 size) (entry 0 0 0) w 2 (λ z. omega arith) (λ z. omega arith) (λ z. omega arith));
        entry = (
          omega arith,
          number_second b₁ room (entry 1 768 size) (entry 0 0 0) w,
          λ n h z.
              let e : n ≡ 0 = omega arith in
              let g : ◌≡◌ {A = ℕ} 1 0 = sym (number_first b₁ room (entry 1 768 size) (entry 0 0 0) w) ∙ subst (λ (k : ℕ). number_of b₁ k ≡ 0) e z in
              omega (arith, g),
        );
        start = (
          record {
            from_768 = omega arith;
            inside = let l = w.long in omega arith;
            free = λ n i a x. by_sum (in_either b₁ room (entry 1 768 size) (entry 0 0 0) w n i x) (λ y. omega (arith, y.1.1, a.0)) (λ y. y.0 refl);
          },
          λ a v. by_le (768 + size) a (λ h. h)
              (λ h. absurd (v.free 0 a (omega arith, omega arith) (first_body b₁ room (entry 1 768 size) (entry 0 0 0) w (λ z. omega arith) a (v.from_768, h)))),
        );
      })

  holds₂ : Holding b₂ room (entry 1 768 size) (entry 2 (768 + size) size)
  holds₂ = add_second b₁ room (entry 1 768 size) (entry 0 0 0) holds₁ 2 file (768 + size) (omega arith) second_said

  -- for a third no free run is long enough
  pub third_refused : add_said b₂ 3 file ≡ refuses 30 0 0
  third_refused =
      let w = holds₂ in
      let some = m.least in
      let l = w.long in
      let s = entry 1 768 size in
      (add_refuses b₂ 3 file 30 0 0).1 (inr (inr (inr (inr (
        (refl, refl, refl),
        (w.shelf, m),
        ((λ z. omega arith), neither b₂ room (entry 1 768 size) (entry 2 (768 + size) size) w 3 (λ z. omega arith) (λ z. omega arith) (λ z. omega arith)),
        (2, omega arith, w.others 2 (omega arith) (omega arith)),
        λ a v. by_le (768 + size) a
            (λ h. v.free 1 a (omega arith, omega arith) (second_body b₂ room (entry 1 768 size) (entry 2 (768 + size) size) w (λ z. omega arith) a (h, omega (arith, v.inside))))
            (λ h. v.free 0 a (omega arith, omega arith) (first_body b₂ room (entry 1 768 size) (entry 2 (768 + size) size) w (λ z. omega arith) a (v.from_768, h))),
      )))))

  -- the first is removed, and the third takes its entry and its place
  pub first_removed : held_at b₂ 1 ≡ says 0
  first_removed = (remove_first b₂ room (entry 1 768 size) (entry 2 (768 + size) size) holds₂ (λ z. omega arith)).0

  holds₃ : Holding b₃ room (entry 0 0 0) (entry 2 (768 + size) size)
  holds₃ = (remove_first b₂ room (entry 1 768 size) (entry 2 (768 + size) size) holds₂ (λ z. omega arith)).1

  pub third_said : add_said b₃ 3 file ≡ says (record { entry = 0; start = 768 })
  third_said =
      let w = holds₃ in
      add_said_lem b₃ 3 file 0 768 (record {
        both = (w.shelf, m);
        new = ((λ z. omega arith), neither b₃ room (entry 0 0 0) (entry 2 (768 + size) size) w 3 (λ z. omega arith) (λ z. omega arith) (λ z. omega arith));
        entry = (omega arith, number_first b₃ room (entry 0 0 0) (entry 2 (768 + size) size) w, λ n h. absurd (omega arith));
        start = (
          record {
            from_768 = omega arith;
            inside = let l = w.long in omega arith;
            free = λ n i a x. by_sum (in_either b₃ room (entry 0 0 0) (entry 2 (768 + size) size) w n i x) (λ y. y.0 refl) (λ y. omega (arith, y.1.0, a.1));
          },
          λ a v. v.from_768,
        );
      })

  -- all of it as calls, the latest first
  pub reached : Reached (weekend_of file) (three file)
  unfolding number result_told after_add
  reached =
      added_one {b = b₃} 3 file (Ok 768) (omega arith) (record { told = rw third_said; bytes = refl })
      (removed_one {b = b₂} 1 (Ok tt) (record { told = rw first_removed; bytes = refl })
      (added_one {b = b₂} {after = b₂} 3 file (Err no_run) (omega arith) (record { told = rw third_refused; bytes = rw third_refused })
      (added_one {b = b₁} 2 file (Ok (768 + length file)) (omega arith) (record { told = rw second_said; bytes = refl })
      (added_one {b = b₀} 1 file (Ok 768) (omega arith) (record { told = rw first_said; bytes = refl })
      (empty (zeros_empty room (omega arith) fits))))))

-- ---- document 01's file of five lines

pub five_long : length five_lines ≡ 89
unfolding file_of
five_long = refl

fits_five : 768 + length five_lines + length five_lines ≤ 16777216
fits_five = rw five_long (omega arith)

pub five_reached : Reached (weekend_of five_lines) (three five_lines)
five_reached = reached five_lines (five_meet seal.Usual) fits_five

-- three times 89 bytes were added, and 89 removed
pub five_held : held (three five_lines) ≡ 178
five_held = let h = held_by_calls (weekend_of five_lines) (three five_lines) five_reached in let e = five_long in omega (arith, h.0)

-- ---- buffers that are no shelf

-- two bodies that overlap by one byte: those of flight 1 are 768 and 769, that of flight 2 is 769
abbrev pub overlapping : List ℕ
overlapping = slot_bytes (entry 1 768 2) ++ (slot_bytes (entry 2 769 1) ++ zeros 776)

pub overlapping_refused : IsShelf overlapping → ⊥
unfolding slot_bytes word_bytes word
overlapping_refused w =
    let e = w.apart 0 1 769 (record { entry = omega arith; used = λ z. omega (arith, z); among = (omega arith, omega arith) }) (record { entry = omega arith; used = λ z. omega (arith, z); among = (omega arith, omega arith) }) in
    omega (arith, e)

-- a free entry with a byte that is not 0
abbrev pub leftover : List ℕ
leftover = zeros 4 ++ (1 ∷ zeros 795)

pub leftover_refused : IsShelf leftover → ⊥
unfolding word
leftover_refused w = let e : ◌≡◌ {A = ℕ} 1 0 = w.free 0 (omega arith) refl 4 (omega arith) in omega (arith, e)
