-- One note after the other of the two slices: a turn puts the next note of both, and all turns put all notes. Assumes nothing.
use Rattle.std.specs.declared.cmp.Ordering.{Ordering}
use Rattle.std.specs.declared.cmp.Ordering.TheVariants.{Less, Equal, Greater}
use Prim.Native.Nat.{ℕ, suc, ◌+◌, ◌*◌, ◌≤◌, ◌<◌}
use mathlib.Core.Bool.{Bool, true, false}
use mathlib.Core.List.{List, [], ◌∷◌, ◌++◌, map, append_assoc, append-nil}
use mathlib.Core.Path.{◌≡◌, refl, sym, ◌∙◌, ap}
use native.Mathlib.Omega.{arith}
use borrow.Author.Tests.{leb-true, leb-false, le-leb, lt-leb}
use lib.Dec.{eqb}
use lib.ListN.{length, drop, length-append, length-drop}
use lib.Seq.{length-sets}
use Rattle.rules.proofs.Inverse.{by_bool}
use Rattle.notes_sorted.specs.Ways.{weave}
use Rattle.notes_sorted.proofs.Sorting.{by, clash}
use Rattle.notes_sorted.proofs.Streams.{rest_length}
use Rattle.notes_rules.specs.Notes.{not_after, joined}
use Rattle.notes_rules.specs.Places.{up_to_cr, text_at, starts}
use Rattle.notes_rules.proofs.Places.{places, starts_length}
use Rattle.notes_runs.specs.Runs.{coming}
use Rattle.notes_weave.specs.Loom.{Ready, Fine, Fresh, Taken, Fills, line, Emitted, choice, texts, Chosen, both, Turned, Over, all, Walked, NotesPut}
use Rattle.notes_place.specs.Through.{through, BothThrough}
use Rattle.notes_place.specs.declared.Place.{Place}
use Rattle.notes_weave.proofs.Reading.{fills_then}

-- ---- the walk by the choice

step_second : (A : List (List ℕ)) (v : List ℕ) (B : List (List ℕ)) → Greater ≡ choice A (v ∷ B) → weave not_after A (v ∷ B) ≡ v ∷ weave not_after A B
unfolding choice
step_second [] v B e = refl
step_second (u ∷ A) v B e =
    by_bool (not_after u v)
    (λ f. by_bool (not_after v u) (λ g. let z : Greater ≡ Equal = rw (f, g) at e in cc) (λ g. let z : Greater ≡ Less = rw (f, g) at e in cc))
    (λ f. rw f)

step_first : (u : List ℕ) (A B : List (List ℕ)) → Less ≡ choice (u ∷ A) B → weave not_after (u ∷ A) B ≡ u ∷ weave not_after A B
unfolding choice
step_first u A [] e = refl
step_first u A (v ∷ B) e =
    by_bool (not_after u v)
    (λ f. by_bool (not_after v u) (λ g. let z : Less ≡ Equal = rw (f, g) at e in cc) (λ g. rw (f, g)))
    (λ f. let z : Less ≡ Greater = rw f at e in cc)

step_both : (u : List ℕ) (A : List (List ℕ)) (v : List ℕ) (B : List (List ℕ)) → Equal ≡ choice (u ∷ A) (v ∷ B) → weave not_after (u ∷ A) (v ∷ B) ≡ u ∷ weave not_after A B
unfolding choice
step_both u A v B e =
    by_bool (not_after u v)
    (λ f. by_bool (not_after v u) (λ g. rw (f, g)) (λ g. let z : Equal ≡ Less = rw (f, g) at e in cc))
    (λ f. let z : Equal ≡ Greater = rw f at e in cc)

joined_more : (u : List ℕ) (M : List (List ℕ)) → joined (u ∷ M) ≡ line u ++ joined M
joined_more u M = sym (append_assoc u (13 ∷ 10 ∷ []) (joined M))

put_second : (A B : List (List ℕ)) (v : List ℕ) (B₁ : List (List ℕ)) → B ≡ v ∷ B₁ → Greater ≡ choice A B → joined (weave not_after A B) ≡ line v ++ joined (weave not_after A B₁)
put_second A B v B₁ e h = rw e (ap joined (step_second A v B₁ (rw e at h)) ∙ joined_more v (weave not_after A B₁))

put_first : (A B : List (List ℕ)) (u : List ℕ) (A₁ : List (List ℕ)) → A ≡ u ∷ A₁ → Less ≡ choice A B → joined (weave not_after A B) ≡ line u ++ joined (weave not_after A₁ B)
put_first A B u A₁ e h = rw e (ap joined (step_first u A₁ B (rw e at h)) ∙ joined_more u (weave not_after A₁ B))

put_both : (A B : List (List ℕ)) (u : List ℕ) (A₁ : List (List ℕ)) (v : List ℕ) (B₁ : List (List ℕ)) → A ≡ u ∷ A₁ → B ≡ v ∷ B₁ → Equal ≡ choice A B
    → joined (weave not_after A B) ≡ line u ++ joined (weave not_after A₁ B₁)
put_both A B u A₁ v B₁ e f h = rw (e, f) (ap joined (step_both u A₁ v B₁ (rw (e, f) at h)) ∙ joined_more u (weave not_after A₁ B₁))

texts_next : (s heads : List ℕ) (p r : Place) → Taken s heads p r → texts s p.last ≡ text_at s r.last ∷ texts s r.last
texts_next s heads p r t = ap (map (text_at s)) t.is

cut_short : (l : List ℕ) → length (up_to_cr l) ≤ length l
cut_short [] = omega arith
cut_short (b ∷ l) = by (λ t. length t ≤ suc (length l)) (eqb b 13) [] (b ∷ up_to_cr l) (λ _. omega arith) (λ _. omega (arith, cut_short l))

text_short : (s : List ℕ) (i : ℕ) → length (line (text_at s i)) ≤ length s + 2
unfolding text_at
text_short s i = omega (arith, cut_short (drop i s), length-drop i s, length-append (up_to_cr (drop i s)) (13 ∷ 10 ∷ []))

-- ---- one turn

module _ (a b ha hb : List ℕ) (x y : Place) (out : List ℕ) (at : ℕ) (p : Fine a ha x) (q : Fine b hb y) (w : Ordering) (c : Chosen a b x y w) (out₁ : List ℕ) (to : ℕ) where
  pub turned_second : w ≡ Greater → length b ≤ 16777216 → (y₁ : Place) → Taken b hb y y₁ → Emitted b y₁.last out at out₁ to → Turned a b ha hb x y out at out₁ x y₁ to
  turned_second e s y₁ t m = record {
    first = p.ready;
    second = t.ready;
    text = line (text_at b y₁.last);
    is = put_second (texts a x.last) (texts b y.last) (text_at b y₁.last) (texts b y₁.last) (texts_next b hb y y₁ t) (sym e ∙ c.is);
    reach = m.length_is;
    fills = m.fills;
    fewer = omega (arith, ap length t.is);
    short = omega (arith, text_short b y₁.last);
  }

  module _ (s : length a ≤ 16777216) (x₁ : Place) (t : Taken a ha x x₁) (m : Emitted a x₁.last out at out₁ to) where
    pub turned_first : w ≡ Less → Turned a b ha hb x y out at out₁ x₁ y to
    turned_first e = record {
      first = t.ready;
      second = q.ready;
      text = line (text_at a x₁.last);
      is = put_first (texts a x.last) (texts b y.last) (text_at a x₁.last) (texts a x₁.last) (texts_next a ha x x₁ t) (sym e ∙ c.is);
      reach = m.length_is;
      fills = m.fills;
      fewer = omega (arith, ap length t.is);
      short = omega (arith, text_short a x₁.last);
    }

    pub turned_both : w ≡ Equal → (y₁ : Place) → Taken b hb y y₁ → Turned a b ha hb x y out at out₁ x₁ y₁ to
    turned_both e y₁ t₁ = record {
      first = t.ready;
      second = t₁.ready;
      text = line (text_at a x₁.last);
      is =
          put_both (texts a x.last) (texts b y.last) (text_at a x₁.last) (texts a x₁.last) (text_at b y₁.last) (texts b y₁.last) (texts_next a ha x x₁ t) (texts_next b hb y y₁ t₁)
          (sym e ∙ c.is);
      reach = m.length_is;
      fills = m.fills;
      fewer = omega (arith, ap length t.is, ap length t₁.is);
      short = omega (arith, text_short a x₁.last);
    }

-- ---- both through

pub over_of : (x y : Place) (r : Bool) → BothThrough x y r → Over x y r
over_of x y r e =
    by_bool (through x)
    (λ f.
    let d : r ≡ through y = e ∙ rw f in
    record { yes_first = λ t. leb-true x.n x.i f; yes_second = λ t. leb-true y.n y.i (sym d ∙ t); not_yet = λ t g. leb-false y.n y.i (sym d ∙ t) })
    (λ f.
    let d : r ≡ false = e ∙ rw f in
    record { yes_first = λ t. clash t d; yes_second = λ t. clash t d; not_yet = λ t g. absurd (omega (arith, leb-false x.n x.i f)) })

-- ---- the whole walk

pub record Going (a b : List ℕ) (from : ℕ) (out₀ ha hb : List ℕ) (x y : Place) (out : List ℕ) (at : ℕ) : Type 0 where
  pub first : Ready a ha x
  pub second : Ready b hb y
  pub room_first : length ha ≡ 4096
  pub room_second : length hb ≡ 4096
  pub done : List ℕ
  pub is : done ++ both a x.last b y.last ≡ both a (length a) b (length b)
  pub reach : at ≡ from + length done
  pub fills : Fills out₀ from done out
  pub bound : at + (length (coming a x.last) + length (coming b y.last)) * 16777218 ≤ 562950037307392

coming_length : (s : List ℕ) (last : ℕ) → length (coming s last) ≤ length s
coming_length s last = omega (arith, rest_length (places s) last (starts 0 s), starts_length s 0)

ready_first : (s heads : List ℕ) (p : Place) → p.n ≡ 0 → p.i ≡ 0 → Ready s heads p
ready_first s heads p e f = record { low = omega arith; fits = omega arith; is = rw (e, f) }

module _ (a b : List ℕ) (from : ℕ) (out₀ : List ℕ) where
  pub going_first : (ha hb : List ℕ) (x y : Place) → length a ≤ 16777216 → length b ≤ 16777216 → from ≤ 16777216 → length ha ≡ 4096 → length hb ≡ 4096
      → x.n ≡ 0 → x.i ≡ 0 → x.last ≡ length a → y.n ≡ 0 → y.i ≡ 0 → y.last ≡ length b → Going a b from out₀ ha hb x y out₀ from
  going_first ha hb x y sa sb sf ra rb xn xi xl yn yi yl = record {
    first = ready_first a ha x xn xi;
    second = ready_first b hb y yn yi;
    room_first = ra;
    room_second = rb;
    done = [];
    is = rw (xl, yl);
    reach = omega arith;
    fills = record { size = refl; is = refl };
    bound = omega (arith, coming_length a x.last, coming_length b y.last);
  }

  module _ (ha hb : List ℕ) (x y : Place) (out : List ℕ) (at : ℕ) (g : Going a b from out₀ ha hb x y out at) where
    pub going_small : at ≤ 562950037307392
    going_small = omega (arith, g.bound)

    module _ (ha₁ hb₁ : List ℕ) (x₁ y₁ : Place) (p : Fresh a ha x ha₁ x₁) (q : Fresh b hb y hb₁ y₁) where
      pub going_less : (out₂ : List ℕ) (x₂ y₂ : Place) (at₂ : ℕ) → Turned a b ha₁ hb₁ x₁ y₁ out at out₂ x₂ y₂ at₂
          → length (coming a x₂.last) + length (coming b y₂.last) < length (coming a x.last) + length (coming b y.last)
      going_less out₂ x₂ y₂ at₂ t = rw (p.same, q.same) at t.fewer

      pub going_next : (out₂ : List ℕ) (x₂ y₂ : Place) (at₂ : ℕ) → Turned a b ha₁ hb₁ x₁ y₁ out at out₂ x₂ y₂ at₂ → Going a b from out₀ ha₁ hb₁ x₂ y₂ out₂ at₂
      going_next out₂ x₂ y₂ at₂ t =
          let e : both a x.last b y.last ≡ t.text ++ both a x₂.last b y₂.last = rw (p.same, q.same) at t.is in
          record {
            first = t.first;
            second = t.second;
            room_first = p.size ∙ g.room_first;
            room_second = q.size ∙ g.room_second;
            done = g.done ++ t.text;
            is = append_assoc g.done t.text (both a x₂.last b y₂.last) ∙ rw (← e) g.is;
            reach = omega (arith, length-append g.done t.text, t.reach, g.reach);
            fills = fills_then out₂ out₀ out from at g.done t.text g.fills (omega (arith, g.reach)) t.fills;
            bound = omega (arith, g.bound, t.reach, t.short, going_less out₂ x₂ y₂ at₂ t);
          }

      pub going_end : (r : Bool) → Over x₁ y₁ r → r ≡ true → Walked a b from out₀ out at
      unfolding all
      going_end r o e =
          let u : coming a x.last ≡ [] = rw (← p.same) (p.fine.done (o.yes_first e)) in
          let v : coming b y.last ≡ [] = rw (← q.same) (q.fine.done (o.yes_second e)) in
          let d : g.done ≡ both a (length a) b (length b) = sym (append-nil g.done) ∙ rw (u, v) at g.is in
          record { is = omega (arith, g.reach, ap length d); fills = rw (← d) g.fills }

-- ---- the answer

module _ (a b : List ℕ) (from : ℕ) (out : List ℕ) where
  pub put_first_long : 16777216 < length a → NotesPut a b from out 0 out
  put_first_long h = let l = lt-leb (length a) 16777216 h in record { told = rw l; bytes = rw l }

  module _ (sa : length a ≤ 16777216) where
    pub put_second_long : 16777216 < length b → NotesPut a b from out 0 out
    put_second_long h = let k = le-leb (length a) 16777216 sa in let l = lt-leb (length b) 16777216 h in record { told = rw (k, l); bytes = rw (k, l) }

    module _ (sb : length b ≤ 16777216) where
      pub put_front_long : 16777216 < from → NotesPut a b from out 0 out
      put_front_long h =
          let k = le-leb (length a) 16777216 sa in
          let l = le-leb (length b) 16777216 sb in
          let m = lt-leb from 16777216 h in
          record { told = rw (k, l, m); bytes = rw (k, l, m) }

      module _ (sf : from ≤ 16777216) (r : ℕ) (after : List ℕ) where
        pub put_walked : Walked a b from out after r → NotesPut a b from out r after
        put_walked w =
            let k = le-leb (length a) 16777216 sa in
            let l = le-leb (length b) 16777216 sb in
            let m = le-leb from 16777216 sf in
            record { told = rw (k, l, m) w.is; bytes = rw (k, l, m) w.fills.is }

        -- and so it is, where nothing is too long
        pub walked_put : NotesPut a b from out r after → Walked a b from out after r
        walked_put p =
            let k = le-leb (length a) 16777216 sa in
            let l = le-leb (length b) 16777216 sb in
            let m = le-leb from 16777216 sf in
            let e = rw (k, l, m) at p.bytes in
            record { is = rw (k, l, m) at p.told; fills = record { size = ap length e ∙ length-sets out from (all a b); is = e } }
