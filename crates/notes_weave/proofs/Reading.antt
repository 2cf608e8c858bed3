-- A slice read on, bytes put one after the other, and whose note comes next. Assumes nothing.
use Rattle.std.specs.declared.cmp.Ordering.{Ordering}
use Rattle.std.specs.declared.cmp.Ordering.TheVariants.{Less, Greater}
use Prim.Native.Nat.{ℕ, suc, ◌+◌, ◌-◌, ◌≤◌, ◌<◌}
use mathlib.Core.Bool.{true, false}
use mathlib.Core.List.{List, [], ◌∷◌, ◌++◌, append-nil}
use mathlib.Core.Path.{◌≡◌, refl, sym, ◌∙◌, ap}
use native.Mathlib.Numerals.{add-one}
use native.Mathlib.Omega.{arith}
use lib.ListN.{length, take, drop, get_or, length-append, length-take}
use lib.Seq.{drop-cons, sets, length-take-le, get_or-take, take-take, take_all, append_snoc}
use Rattle.rules.proofs.Texts.{sets_append}
use Rattle.notes_sorted.specs.Sorted.{count}
use Rattle.notes_sorted.proofs.Streams.{follow}
use Rattle.notes_rules.specs.Places.{text_at, earlier, starts}
use Rattle.notes_rules.proofs.Places.{places, rising_once, starts_rising}
use Rattle.notes_compare.specs.Letters.{in_text, whose_of}
use Rattle.notes_compare.proofs.Letters.{in_inside, in_text_lem, in_none}
use Rattle.notes_runs.specs.Runs.{coming, Refilled}
use Rattle.notes_weave.specs.Loom.{Ready, Fine, Fresh, Taken, Fills, Emitted, choice, Chosen}
use Rattle.notes_place.specs.declared.Place.{Place}

-- ---- a slice read on

pub distinct : (s : List ℕ) (z : ℕ) → count (earlier s) z (starts 0 s) ≤ 1
distinct s z = rising_once (places s) 0 z (starts 0 s) (starts_rising s 0)

-- a list by its first
record ByFirst (l : List ℕ) (k h : ℕ) (t : List ℕ) : Type 0 where
  tail : List ℕ
  whole : l ≡ h ∷ tail
  rest_is : t ≡ take k tail

cons_of : (l : List ℕ) (k : ℕ) (h : ℕ) (t : List ℕ) → h ∷ t ≡ take (suc k) l → ByFirst l k h t
cons_of [] k h t e = let z : ◌≡◌ {A = ℕ} 0 1 = cc in absurd (omega arith)
cons_of (x ∷ l) k h t e = record { tail = l; whole = (let d : x ≡ h = cc in rw d); rest_is = cc }

module _ (s heads : List ℕ) (p : Place) (q : Ready s heads p) (h : p.i < p.n) where
  pub taken : (r : Place) → r.n ≡ p.n → r.i ≡ p.i + 1 → r.last ≡ get_or heads p.i 0 → Taken s heads p r
  taken r e f g =
      let k : p.n - p.i ≡ suc (p.n - (p.i + 1)) = omega arith in
      let d : drop p.i (take p.n heads) ≡ get_or heads p.i 0 ∷ drop (p.i + 1) (take p.n heads) =
      drop-cons (take p.n heads) p.i 0 (omega (arith, length-take-le p.n heads q.fits)) ∙ rw (get_or-take p.n heads p.i 0 h, add-one p.i) in
      let c : ByFirst (coming s p.last) (p.n - (p.i + 1)) (get_or heads p.i 0) (drop (p.i + 1) (take p.n heads)) =
      cons_of (coming s p.last) (p.n - (p.i + 1)) (get_or heads p.i 0) (drop (p.i + 1) (take p.n heads)) (sym d ∙ q.is ∙ ap (λ (m : ℕ). take m (coming s p.last)) k) in
      let w : coming s (get_or heads p.i 0) ≡ c.tail = follow (places s) p.last (get_or heads p.i 0) (starts 0 s) c.tail (distinct s) c.whole in
      record {
        ready = record { low = omega arith; fits = omega (arith, q.fits); is = rw (e, f, g, w) c.rest_is };
        is = rw (g, w) c.whole;
      }

  pub next_is : coming s p.last ≡ get_or heads p.i 0 ∷ coming s (get_or heads p.i 0)
  next_is = (taken (record { n = p.n; i = p.i + 1; last = get_or heads p.i 0 }) refl refl refl).is

  pub fresh_same : Fresh s heads p heads p
  fresh_same = record { size = refl; same = refl; fine = record { ready = q; done = λ g. absurd (omega arith) } }

nil_of : {A : Type 0} (l : List A) → length l ≡ 0 → l ≡ []
nil_of [] e = refl
nil_of (x ∷ l) e = absurd (omega arith)

pub fresh_filled : (s heads : List ℕ) (p : Place) (l : List ℕ) (n : ℕ) → Refilled s p.last heads l n → 0 < length heads → (r : Place) → r.n ≡ n → r.i ≡ 0 → r.last ≡ p.last → Fresh s heads p l r
fresh_filled s heads p l n f h r en ei el =
    let c : List ℕ = coming s p.last in
    let k : ℕ = length heads in
    let a : length (take n l) ≡ n = length-take-le n l f.fits in
    let b : length (take k c) ≡ n = sym (ap length f.is) ∙ a in
    let m : take n l ≡ take n c = f.is ∙ sym (take_all n (take k c) (omega arith)) ∙ take-take n k c (omega (arith, f.fits, f.size)) in
    let z : n - 0 ≡ n = omega arith in
    record {
      size = f.size;
      same = el;
      fine = record {
        ready = record { low = omega arith; fits = omega (arith, f.fits); is = rw (en, ei, el, z) m };
        done = λ g. rw el (nil_of c (omega (arith, length-take k c)));
      };
    }

-- ---- bytes put one after the other

pub fills_then : (x l l₁ : List ℕ) (at m : ℕ) (t b : List ℕ) → Fills l at t l₁ → m ≡ at + length t → Fills l₁ m b x → Fills l at (t ++ b) x
fills_then x l l₁ at m t b f e g = record {
  size = g.size ∙ f.size;
  is =
      let d : l₁ ≡ sets l at t = f.is in
      let w : x ≡ sets l₁ m b = g.is in
      cc (sets_append l at t b);
}

pub record Putting (s : List ℕ) (i : ℕ) (out₀ : List ℕ) (at : ℕ) (out : List ℕ) (x to : ℕ) : Type 0 where
  pub done : List ℕ
  pub is : done ++ text_at s x ≡ text_at s i
  pub reach : to ≡ at + length done
  pub fills : Fills out₀ at done out
  pub moved : to + i ≡ at + x
  pub small : to ≤ at + length s

module _ (s : List ℕ) (i : ℕ) (out₀ : List ℕ) (at : ℕ) where
  pub putting_first : Putting s i out₀ at out₀ i at
  putting_first = record { done = []; is = refl; reach = omega arith; fills = record { size = refl; is = refl }; moved = omega arith; small = omega arith }

  module _ (out : List ℕ) (x to : ℕ) (q : Putting s i out₀ at out x to) (out₁ : List ℕ) where
    pub putting_next : in_text (text_at s x) ≡ true → Fills out to (get_or s x 0 ∷ []) out₁ → Putting s i out₀ at out₁ (x + 1) (to + 1)
    putting_next e f = record {
      done = q.done ++ (get_or s x 0 ∷ []);
      is = append_snoc q.done (get_or s x 0) (text_at s (x + 1)) ∙ rw (← in_text_lem s x e) q.is;
      reach = omega (arith, length-append q.done (get_or s x 0 ∷ []), q.reach);
      fills = fills_then out₁ out₀ out at to q.done (get_or s x 0 ∷ []) q.fills q.reach f;
      moved = omega (arith, q.moved);
      small = omega (arith, q.moved, q.reach, in_inside s x e);
    }

    pub putting_end : in_text (text_at s x) ≡ false → Fills out to (13 ∷ []) out₁ → (out₂ : List ℕ) → Fills out₁ (to + 1) (10 ∷ []) out₂ → Emitted s i out₀ at out₂ (to + 2)
    putting_end e f out₂ g =
        let d : q.done ≡ text_at s i = sym (append-nil q.done) ∙ rw (in_none s x e) at q.is in
        record {
          fills = rw (← d) (fills_then out₂ out₀ out at to q.done (13 ∷ 10 ∷ []) q.fills q.reach (fills_then out₂ out out₁ to (to + 1) (13 ∷ []) (10 ∷ []) f refl g));
          length_is = rw (← d) (omega (arith, length-append q.done (13 ∷ 10 ∷ []), q.reach));
        }

-- ---- whose note comes next

module _ (a b ha hb : List ℕ) (x y : Place) (p : Fine a ha x) (q : Fine b hb y) where
  pub chosen_second : x.n ≤ x.i → y.i < y.n → Chosen a b x y Greater
  unfolding choice
  chosen_second h k = record { is = rw (p.done h); first = λ z. absurd (z refl); second = λ z. k }

  pub chosen_first : x.i < x.n → y.n ≤ y.i → Chosen a b x y Less
  unfolding choice
  chosen_first h k = record { is = rw (q.done k, next_is a ha x p.ready h); first = λ z. h; second = λ z. absurd (z refl) }

  module _ (h : x.i < x.n) (k : y.i < y.n) where
    pub chosen_by : (r : Ordering) → r ≡ whose_of (text_at a (get_or ha x.i 0)) (text_at b (get_or hb y.i 0)) → Chosen a b x y r
    unfolding choice
    chosen_by r e = record { is = rw (next_is a ha x p.ready h, next_is b hb y q.ready k) e; first = λ z. h; second = λ z. k }
