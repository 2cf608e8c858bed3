-- The entries of a layout line both ways: three code characters, one entry, and entries one behind the other, which each keep to the rules. Assumes nothing.
use Rattle.std.specs.Prelude.{None, Some}
use Prim.Native.Nat.{ℕ, zero, suc, ◌+◌, ◌*◌, ◌/◌, ◌%◌, ◌≤◌, ◌<◌}
use mathlib.Core.Bool.{Bool, true, false, ◌&&◌, ◌||◌}
use mathlib.Core.List.{List, [], ◌∷◌, ◌++◌, append_assoc}
use mathlib.Core.Path.{◌≡◌, refl, sym, ap, ◌∙◌}
use native.Mathlib.Omega.{arith}
use borrow.Author.Tests.{le-leb, leb-true}
use lib.Dec.{leb}
use lib.ListN.{length, get_or, drop}
use Rattle.rules.specs.Choice.{leads}
use Rattle.rules.specs.Refusals.{says}
use Rattle.rules.specs.Chars.{is_digit, is_code, codes_at}
use Rattle.rules.specs.Numbers.{number_at, digits_of}
use Rattle.rules.specs.Listed.{packed, code_text, code_at, is_code_word}
use Rattle.rules.specs.Layouts.{with_entry, placed, entry_at, entries_from, is_said, is_spelt, all_placed}
use Rattle.rules.specs.Writes.{entry_text, entry_texts}
use Rattle.rules.specs.declared.Entry.{Entry}
use Rattle.rules.specs.declared.Layout.{Layout}
use Rattle.rules.proofs.Inverse.{none_some, refuses_says, false_true, given_inv, need_inv, then_inv, and_inv}
use Rattle.rules.proofs.Texts.{digits_length, entry_length}
use Rattle.rules_trips.proofs.Laws.{past, byte_here}
use Rattle.rules_trips.proofs.Texts.{digit_range}
use Rattle.rules_trips.proofs.Digits.{number_there, number_here}
use Rattle.rules_trips.proofs.Placing.{Fits, placed_there, placed_said_lem, fits_there}

-- ---- three code characters

pub code_range : (b : ℕ) → is_code b ≡ true → (48 ≤ b) × (b ≤ 90)
unfolding is_code
code_range b e = go (is_digit b) refl e
  where
    go : (d : Bool) → is_digit b ≡ d → (d || (leb 65 b && leb b 90)) ≡ true → (48 ≤ b) × (b ≤ 90)
    go true q e = let r = digit_range b q in omega arith
    go false q e = let r = and_inv (leb 65 b) (leb b 90) e in (omega (arith, leb-true 65 b r.0), leb-true b 90 r.1)

record Three (r : List ℕ) : Type 0 where
  a : ℕ
  b : ℕ
  c : ℕ
  rest : List ℕ
  is : r ≡ a ∷ b ∷ c ∷ rest
  is_a : is_code a ≡ true
  is_b : is_code b ≡ true
  is_c : is_code c ≡ true

three : (r : List ℕ) → leads is_code 3 r ≡ true → Three r
unfolding leads
three [] e = absurd (false_true e)
three (a ∷ []) e = absurd (false_true (and_inv (is_code a) false e).1)
three (a ∷ b ∷ []) e = absurd (false_true (and_inv (is_code b) false (and_inv (is_code a) _ e).1).1)
three (a ∷ b ∷ c ∷ r) e =
    let x = and_inv (is_code a) _ e in
    let y = and_inv (is_code b) _ x.1 in
    let z = and_inv (is_code c) true y.1 in
    record { a = a; b = b; c = c; rest = r; is = refl; is_a = x.0; is_b = y.0; is_c = z.0 }

pub unpacked : (a b c : ℕ) → b < 256 → c < 256 → code_text (packed a b c) ≡ a ∷ b ∷ c ∷ []
unpacked a b c q r =
    let x : (a * 65536 + b * 256 + c) / 65536 ≡ a = omega arith in
    let y : (a * 65536 + b * 256 + c) / 256 % 256 ≡ b = omega arith in
    let z : (a * 65536 + b * 256 + c) % 256 ≡ c = omega arith in
    simp (x, y, z)

-- and packed again
pub packed_back : (x : ℕ) → packed (x / 65536) (x / 256 % 256) (x % 256) ≡ x
packed_back x = omega arith

pub code_there : (s : List ℕ) (at to x : ℕ) → at + 3 ≡ to → code_at s at ≡ Some x → (drop at s ≡ code_text x ++ drop to s) × (is_code_word x ≡ true)
unfolding code_at codes_at is_code_word
code_there s at to x t e =
    let n = need_inv (leads is_code 3 (drop at s)) None (Some x) _ none_some e in
    let w = three (drop at s) n.0 in
    let a = byte_here s at w.a _ w.is in
    let d₁ = past s at 1 (at + 1) (w.a ∷ []) _ refl refl w.is in
    let b = byte_here s (at + 1) w.b _ d₁ in
    let d₂ = past s at 2 (at + 2) (w.a ∷ w.b ∷ []) _ refl refl w.is in
    let c = byte_here s (at + 2) w.c _ d₂ in
    let d₃ = past s at 3 to (w.a ∷ w.b ∷ w.c ∷ []) w.rest refl t w.is in
    let i : packed w.a w.b w.c ≡ x = cc in
    let u = unpacked w.a w.b w.c (omega (arith, (code_range _ w.is_b).1)) (omega (arith, (code_range _ w.is_c).1)) in
    let a₂ : x / 65536 ≡ w.a = ap (λ l. get_or l 0 0) (sym (ap code_text i) ∙ u) in
    let b₂ : x / 256 % 256 ≡ w.b = ap (λ l. get_or l 1 0) (sym (ap code_text i) ∙ u) in
    let c₂ : x % 256 ≡ w.c = ap (λ l. get_or l 2 0) (sym (ap code_text i) ∙ u) in
    (w.is ∙ sym (simp (a₂, b₂, c₂, d₃)), simp (a₂, b₂, c₂, w.is_a, w.is_b, w.is_c))

pub code_here : (s : List ℕ) (at x : ℕ) (r : List ℕ) → is_code_word x ≡ true → drop at s ≡ code_text x ++ r → code_at s at ≡ Some x
unfolding code_at codes_at is_code_word leads
code_here s at x r h e =
    let p = and_inv (is_code (x / 65536) && is_code (x / 256 % 256)) (is_code (x % 256)) h in
    let q = and_inv (is_code (x / 65536)) (is_code (x / 256 % 256)) p.0 in
    let a = byte_here s at (x / 65536) _ e in
    let b = byte_here s (at + 1) (x / 256 % 256) _ (past s at 1 (at + 1) (x / 65536 ∷ []) _ refl refl e) in
    let c = byte_here s (at + 2) (x % 256) _ (past s at 2 (at + 2) (x / 65536 ∷ x / 256 % 256 ∷ []) _ refl refl e) in
    simp (e, q.0, q.1, p.1, a, b, c, packed_back x)

-- ---- one entry

-- what an entry that was read says of the line
pub record EntryThere (l : List ℕ) (at to start : ℕ) (before : Layout) (e : Entry) : Type 0 where
  pub at_first : number_at l at 2 ≡ Some e.first
  pub at_last : number_at l (at + 2) 2 ≡ Some e.last
  pub at_code : code_at l (at + 4) ≡ Some e.code
  pub text : drop at l ≡ entry_text e ++ drop to l
  pub spelt : is_spelt e ≡ true
  pub fits : Fits start before e

pub entry_there : (l : List ℕ) (at to start : ℕ) (before : Layout) (e : Entry) → at + 7 ≡ to → entry_at l at start before ≡ says e → EntryThere l at to start before e
unfolding entry_at entry_text is_spelt
entry_there l at to start before e t h =
    let a = given_inv (number_at l at 2) _ (says e) _ refuses_says h in
    let b = given_inv (number_at l (at + 2) 2) _ (says e) _ refuses_says a.2 in
    let c = given_inv (code_at l (at + 4)) _ (says e) _ refuses_says b.2 in
    let p = placed_there start before (record { first = a.0; last = b.0; code = c.0 }) e (at + 1) c.2 in
    let u = number_there l at 2 (at + 2) a.0 refl a.1 in
    let v = number_there l (at + 2) 2 (at + 4) b.0 (omega arith) b.1 in
    let w = code_there l (at + 4) to c.0 (omega arith) c.1 in
    rw (← p.1) record {
      at_first = a.1;
      at_last = b.1;
      at_code = c.1;
      text = u.0 ∙ ap (λ y. digits_of 2 a.0 ++ y) (v.0 ∙ ap (λ y. digits_of 2 b.0 ++ y) w.0) ∙ simp append_assoc;
      spelt = simp (le-leb b.0 99 (omega (arith, v.1)), w.1);
      fits = p.0;
    }

pub entry_here : (l : List ℕ) (at start : ℕ) (before : Layout) (e : Entry) (r : List ℕ) → is_spelt e ≡ true → Fits start before e → drop at l ≡ entry_text e ++ r
    → entry_at l at start before ≡ says e
unfolding entry_at entry_text is_spelt
entry_here l at start before e r s w h =
    let k = and_inv (leb e.last 99) (is_code_word e.code) s in
    let m = leb-true e.last 99 k.0 in
    let d₁ : drop at l ≡ digits_of 2 e.first ++ (digits_of 2 e.last ++ (code_text e.code ++ r)) = simp append_assoc at h in
    let d₂ = past l at 2 (at + 2) (digits_of 2 e.first) _ (digits_length 2 e.first) refl d₁ in
    let d₃ = past l (at + 2) 2 (at + 4) (digits_of 2 e.last) _ (digits_length 2 e.last) (omega arith) d₂ in
    let a = number_here l at 2 e.first _ (omega arith) (omega (arith, w.ends)) d₁ in
    let b = number_here l (at + 2) 2 e.last _ (omega arith) (omega arith) d₂ in
    let c = code_here l (at + 4) e.code r k.1 d₃ in
    rw (a, b, c) (placed_said_lem start before e (at + 1) w)

-- ---- entries one behind the other

-- each can be spelt, and keeps to the rules behind those before it
abbrev pub Tiled : List Entry → ℕ → Layout → Type 0
Tiled [] start before = Unit {0}
Tiled (e ∷ es) start before = (is_spelt e ≡ true) × Fits start before e × Tiled es (e.last + 1) (with_entry before e)

pub tiled_there : (es : List Entry) (start : ℕ) (before : Layout) → all_placed es start before ≡ true → Tiled es start before
unfolding all_placed
tiled_there [] start before h = tt
tiled_there (e ∷ es) start before h =
    let a = and_inv (is_spelt e && is_said (placed start before e 0)) _ h in
    let b = and_inv (is_spelt e) (is_said (placed start before e 0)) a.0 in
    (b.0, fits_there start before e b.1, tiled_there es (e.last + 1) (with_entry before e) a.1)

pub tiled_said : (es : List Entry) (start : ℕ) (before : Layout) → Tiled es start before → all_placed es start before ≡ true
unfolding all_placed
tiled_said [] start before h = refl
tiled_said (e ∷ es) start before h = rw (h.0, placed_said_lem start before e 0 h.1, tiled_said es (e.last + 1) (with_entry before e) h.2)

-- a layout with entries more
abbrev pub with_all : Layout → List Entry → Layout
with_all before [] = before
with_all before (e ∷ es) = with_all (with_entry before e) es

pub record EntriesThere (left : ℕ) (l : List ℕ) (at to start : ℕ) (before layout : Layout) : Type 0 where
  pub entries : List Entry
  pub count : length entries ≡ left
  pub is : with_all before entries ≡ layout
  pub tiled : Tiled entries start before
  pub text : drop at l ≡ entry_texts entries ++ drop to l

pub entries_there : (left : ℕ) (l : List ℕ) (at to start : ℕ) (before layout : Layout) → at + 7 * left ≡ to → entries_from left l at start before ≡ says layout
    → EntriesThere left l at to start before layout
unfolding entries_from entry_texts
entries_there zero l at to start before layout t h =
    let i : at ≡ to = omega arith in
    record { entries = []; count = refl; is = cc; tiled = tt; text = ap (λ n. drop n l) i }
entries_there (suc left) l at to start before layout t h =
    let a = then_inv (entry_at l at start before) layout _ h in
    let e = a.0 in
    let w = entry_there l at (at + 7) start before e refl a.1 in
    let r = entries_there left l (at + 7) to (e.last + 1) (with_entry before e) layout (omega arith) a.2 in
    record {
      entries = e ∷ r.entries;
      count = ap suc r.count;
      is = r.is;
      tiled = (w.spelt, w.fits, r.tiled);
      text = w.text ∙ ap (λ x. entry_text e ++ x) r.text ∙ sym (append_assoc (entry_text e) (entry_texts r.entries) (drop to l));
    }

pub entries_here : (es : List Entry) (l : List ℕ) (at start : ℕ) (before : Layout) (r : List ℕ) → Tiled es start before → drop at l ≡ entry_texts es ++ r
    → entries_from (length es) l at start before ≡ says (with_all before es)
unfolding entries_from entry_texts
entries_here [] l at start before r w h = refl
entries_here (e ∷ es) l at start before r w h =
    let d = h ∙ append_assoc (entry_text e) (entry_texts es) r in
    let a = entry_here l at start before e _ w.0 w.1 d in
    rw a (entries_here es l (at + 7) (e.last + 1) (with_entry before e) r w.2 (past l at 7 (at + 7) (entry_text e) _ (entry_length e) refl d))
