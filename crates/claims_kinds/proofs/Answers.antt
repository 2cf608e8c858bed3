-- What is answered on the kinds of a file's lines, and the list afterwards, from the promise of the call. Assumes nothing.
use Rattle.rules.specs.declared.Refusal.{Refusal}
use Rattle.std.specs.Prelude.{None, Result}
use Prim.Native.Nat.{ℕ, ◌≤◌, ◌<◌}
use mathlib.Core.Bool.{Bool, true, false}
use mathlib.Core.List.{List, [], ◌++◌}
use mathlib.Core.Path.{◌≡◌, refl, sym, ap, subst, ◌∙◌}
use native.Mathlib.Omega.{arith}
use borrow.Author.Tests.{lt-leb, leb-true, leb-false}
use lib.Dec.{eqb, leb}
use lib.ListN.{length, get_or, take, drop, length-append, length-drop, get_or-append}
use lib.Seq.{take_at, drop_at}
use Rattle.rules.specs.Choice.{need}
use Rattle.rules.specs.Files.{verdict, over}
use Rattle.rules.specs.Refusals.{number, Said, says, refuses, no, and_then, result_told}
use Rattle.rules.specs.Split.{lines_of}
use Rattle.rules.specs.declared.Flight.{Flight}
use Rattle.rules.specs.declared.Reason.TheVariants as reason
use Rattle.rules.proofs.Inverse.{refuses_says, false_true, need_inv, then_inv}
use Rattle.rules_laws.proofs.Splitting.{texts_of}
use Rattle.rules_laws.proofs.Counted.{lines_counted}
use Rattle.grammar.specs.Grammar.{Meets, lines_in, flight_of}
use Rattle.grammar.proofs.Demands.{accepted_as, refused_first}
use Rattle.grammar.proofs.Reading.{lines_are}
use Rattle.grammar_untabled.proofs.NeverFull.{check_never_full}
use Rattle.kinds.specs.Kinds.{kinds_seal, kinds_of, kinds_in, kinds_said, bytes_in, FileKinded}
use Rattle.kinds.proofs.Marking.{kinds_long}
use Rattle.kinds.proofs.Telling.{letters_long}
use Rattle.claims_kinds.specs.Noted.{IsKind, KindsRefused, own, short}
use Rattle.claims_kinds.proofs.Each.{kind_is}

-- ---- a refusal, exactly

module _ (file : List ℕ) (room : ℕ) where
  meets_so : (m : Meets kinds_seal file) → verdict kinds_seal file None ≡ says (flight_of m)
  meets_so m = (accepted_as kinds_seal file None (flight_of m)).1 (m, tt, refl)

  own_as : (n l b n' l' b' : ℕ) → ◌≡◌ {A = Said ℕ} (refuses n l b) (refuses n' l' b') → ◌≡◌ {A = Said Flight} (refuses n l b) (refuses n' l' b')
  own_as n l b n' l' b' e = let p : n ≡ n' = cc in let q : l ≡ l' = cc in let k : b ≡ b' = cc in cc

  short_as : (n l b : ℕ) → ◌≡◌ {A = Said ℕ} (refuses 18 0 0) (refuses n l b) → KindsRefused file room 18 0 0 → KindsRefused file room n l b
  short_as n l b e x = let p : 18 ≡ n = cc in let q : 0 ≡ l = cc in let k : 0 ≡ b = cc in rw (← p, ← q, ← k) x

  room_by : (f : Flight) → verdict kinds_seal file None ≡ says f → (n l b : ℕ) (t : Bool) → leb f.lines room ≡ t → need t (no reason.NoRoom 0) (λ _. says f.lines) ≡ refuses n l b → KindsRefused file room n l b
  unfolding number
  room_by f v n l b true t q = absurd (refuses_says (sym q))
  room_by f v n l b false t q =
      let m = (accepted_as kinds_seal file None f).0 v in
      let c : f.lines ≡ length (lines_in m.0.parts) = sym (ap (λ (z : Flight). z.lines) m.2) in
      short_as n l b q (short m.0 (rw (← c) (leb-false f.lines room t)))

  verdict_by : (s : Said Flight) → verdict kinds_seal file None ≡ s → (n l b : ℕ) → and_then s (λ f. kinds_in f room) ≡ refuses n l b → KindsRefused file room n l b
  unfolding kinds_in
  verdict_by (says f) v n l b q = room_by f v n l b (leb f.lines room) refl q
  verdict_by (refuses i j k) v n l b q = own ((refused_first kinds_seal file None n l b).0 (v ∙ own_as i j k n l b q))

  pub refused_there : (n l b : ℕ) → kinds_said file room ≡ refuses n l b → KindsRefused file room n l b
  unfolding kinds_said
  refused_there n l b e = verdict_by (verdict kinds_seal file None) refl n l b e

  pub refused_here : (n l b : ℕ) → KindsRefused file room n l b → kinds_said file room ≡ refuses n l b
  unfolding kinds_said kinds_in number
  refused_here n l b (own x) = rw ((refused_first kinds_seal file None n l b).1 x)
  refused_here n l b (short m h) = rw (meets_so m, lt-leb (flight_of m).lines room h)

  pub never_full : (n l b : ℕ) → KindsRefused file room n l b → n ≡ 15 → ⊥
  never_full n l b (own x) z = false_true (sym (check_never_full kinds_seal file n l b ((refused_first kinds_seal file None n l b).1 x)) ∙ ap (λ (k : ℕ). eqb k 15) z)
  never_full n l b (short m h) z = omega arith

-- ---- an answer

module _ (file list : List ℕ) (r : Result ℕ Refusal) (after : List ℕ) (w : FileKinded file list r after) where
  -- refused: nothing changes
  pub leaves : (n l b : ℕ) → result_told r ≡ refuses n l b → after ≡ list
  leaves n l b e = w.bytes ∙ ap (λ (s : Said ℕ). over (bytes_in file s) list) (sym w.told ∙ e)

  pub record Stands (n : ℕ) : Type 0 where
    pub flight : Flight
    pub accepted : verdict kinds_seal file None ≡ says flight
    pub count : n ≡ length (texts_of (lines_of file))
    pub room : n ≤ length list
    pub is : after ≡ over (kinds_of (lines_of file)) list
    pub long : length (kinds_of (lines_of file)) ≡ n

  pub stands : (n : ℕ) → result_told r ≡ says n → Stands n
  unfolding kinds_said kinds_in
  stands n e =
      let s : kinds_said file (length list) ≡ says n = sym w.told ∙ e in
      let a = then_inv (verdict kinds_seal file None) n _ s in
      let b = need_inv (leb a.0.lines (length list)) _ (says n) _ refuses_says a.2 in
      let c : a.0.lines ≡ n = cc in
      let count : n ≡ length (texts_of (lines_of file)) = sym c ∙ lines_counted kinds_seal file None a.0 a.1 in
      record {
        flight = a.0;
        accepted = a.1;
        count = count;
        room = rw (← c) (leb-true _ _ b.0);
        is = w.bytes ∙ ap (λ (s : Said ℕ). over (bytes_in file s) list) s;
        long = kinds_long (lines_of file) false ∙ letters_long (lines_of file) ∙ sym count;
      }

  module _ (n : ℕ) (s : Stands n) where
    abbrev bytes : List ℕ
    bytes = kinds_of (lines_of file)

    pub stored : take n after ≡ bytes
    stored = rw s.is (take_at bytes (drop (length bytes) list) n s.long)

    pub stays : (length after ≡ length list) × (drop n after ≡ drop n list)
    stays = (
      rw s.is (length-append bytes (drop (length bytes) list) ∙ rw (length-drop (length bytes) list) (omega (arith, s.long, s.room))),
      rw s.is (drop_at bytes (drop (length bytes) list) n s.long ∙ ap (λ (q : ℕ). drop q list) s.long),
    )

    pub kinds_at : (m : Meets kinds_seal file) (i : ℕ) → i < n → IsKind (lines_in m.parts) i (get_or after i 0)
    kinds_at m i h =
        let k = kind_is (lines_of file) i (omega (arith, s.count, h)) in
        let e : get_or after i 0 ≡ get_or bytes i 0 = rw s.is (get_or-append bytes (drop (length bytes) list) 0 i (omega (arith, s.long, h))) in
        rw e (subst (λ (ls : List (List ℕ)). IsKind ls i (get_or bytes i 0)) (lines_are file m) k)

    pub counts : (m : Meets kinds_seal file) → n ≡ length (lines_in m.parts)
    counts m = s.count ∙ ap length (lines_are file m)
