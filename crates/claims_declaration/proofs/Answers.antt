-- What is answered on the declaration of a file, and the list afterwards, from the promise of the call. Assumes nothing.
use Rattle.rules.specs.declared.Refusal.{Refusal}
use Rattle.std.specs.Prelude.{None, Option, Result, Some}
use Prim.Native.Nat.{ℕ, ◌+◌, ◌-◌, ◌*◌, ◌≤◌, ◌<◌}
use Prim.Native.Char.{code}
use mathlib.Core.Bool.{Bool, true, false}
use mathlib.Core.List.{List, [], ◌∷◌, ◌++◌}
use mathlib.Core.Logic.{◌↔◌}
use mathlib.Core.Path.{◌≡◌, refl, sym, ap, subst, ◌∙◌}
use native.Mathlib.Omega.{arith}
use borrow.Author.Tests.{eq-eqb, lt-leb, leb-true, leb-false}
use lib.Dec.{eqb, leb}
use lib.ListN.{length, get_or, take, drop, length-append, length-drop}
use lib.Seq.{drop_at}
use Rattle.rules.specs.Choice.{Each, need}
use Rattle.rules.specs.Files.{verdict, over}
use Rattle.rules.specs.Reads.{head_said}
use Rattle.rules.specs.Refusals.{number, Said, says, refuses, no, and_then, result_told}
use Rattle.rules.specs.Split.{Lines, line, lines_of}
use Rattle.rules.specs.declared.Flight.{Flight}
use Rattle.rules.specs.declared.Head.{Head}
use Rattle.rules.specs.declared.Reason.TheVariants as reason
use Rattle.rules.proofs.Inverse.{refuses_says, false_true, need_inv, then_inv}
use Rattle.rules_laws.proofs.Splitting.{texts_of, line_at}
use Rattle.grammar.specs.Grammar.{Meets, lines_in, beginning, flight_of}
use Rattle.grammar.specs.Readings.{ReadsHead, ReadsPoint, NoC, ReadsDeclaration, nowhere, declared, total}
use Rattle.grammar.proofs.Demands.{accepted_as, refused_first}
use Rattle.grammar.proofs.Reading.{lines_are}
use Rattle.track.proofs.Accepted.{reads}
use Rattle.track.proofs.Accepted.{lines_are as lines_read}
use Rattle.grammar_untabled.proofs.NeverFull.{check_never_full}
use Rattle.declaration.specs.Declaration.{declaration_seal, no_head, Placed, first_c, undeclared, declared_at, declared_in, points_from, points_in, room_said, placed_said, declared_said, declaration_said, numbers_in, FileDeclared}
use Rattle.declaration.specs.declared.Declared.{Declared}
use Rattle.declaration.proofs.Pointing.{points_few}
use Rattle.claims_declaration.specs.Demanded.{point_lines, DeclarationRefused, own, short, TellsHead, TellsPointAt, Tells, tells_none, tells_all}
use Rattle.claims_declaration.proofs.Finding.{head_letter, points_begin, beginning_none, beginning_points, beginning_join, none_found, points_long, text_behind_lem, Headed, head_found, point_found}

-- an accepted file has met the grammar, and one that meets it is accepted
pub met : (file : List ℕ) (f : Flight) → verdict declaration_seal file None ≡ says f → Meets declaration_seal file
met file f e = ((accepted_as declaration_seal file None f).0 e).0

meets_so : (file : List ℕ) (m : Meets declaration_seal file) → verdict declaration_seal file None ≡ says (flight_of m)
meets_so file m = (accepted_as declaration_seal file None (flight_of m)).1 (m, tt, refl)

-- its declaration, as the grammar reads it
pub declares : (file : List ℕ) (f : Flight) → verdict declaration_seal file None ≡ says f → ReadsDeclaration (texts_of (lines_of file))
declares file f e = subst ReadsDeclaration (lines_read declaration_seal file f e) (reads declaration_seal file f e).declaration

-- ---- what is found of it

module _ (file : List ℕ) where
  abbrev first : Option Placed
  first = first_c 0 0 (lines_of file)

  abbrev texts : List (List ℕ)
  texts = texts_of (lines_of file)

  -- of a head with its points
  module _ (before : List (List ℕ)) (head : List ℕ) (points later : List (List ℕ)) (h : Head) (e : texts ≡ before ++ (head ∷ (points ++ later))) (nb : Each NoC before) (rh : ReadsHead h head)
      (rp : Each ReadsPoint points) (many : length points ≡ h.turns + 4) (nl : Each NoC later) where
    at_head : Headed file (lines_of file) 0 0 before head (points ++ later)
    at_head = head_found file (lines_of file) 0 0 refl before head (points ++ later) e nb (head_letter head h rh.reads)

    found_head : declared_in first ≡ record { head = h; points = h.turns + 4; line = length before + 1; text = total before + 25; length = length head - 25 }
    found_head =
        let a : 0 + length before ≡ length before = omega arith in
        let b : 0 + total before ≡ total before = omega arith in
        rw (at_head.found, rh.reads, a, b)

    found_many : (declared_in first).points ≡ point_lines texts
    unfolding beginning
    found_many =
        let a = beginning_join (code "C") before (head ∷ (points ++ later)) in
        let b = beginning_join (code "C") points later in
        let c : beginning (code "C") (head ∷ (points ++ later)) ≡ 1 + beginning (code "C") (points ++ later) = rw (eq-eqb (get_or head 0 0) (code "C") (head_letter head h rh.reads)) in
        let d : (declared_in first).points ≡ h.turns + 4 = ap (λ (x : Declared). x.points) found_head in
        rw e (omega (arith, a, b, c, d, many, beginning_none before nb, beginning_points points rp, beginning_none later nl))

    tells_head : TellsHead file before head (declared_in first)
    tells_head = rw found_head (record {
      head = rh.reads;
      points = refl;
      line = refl;
      starts = refl;
      long = refl;
      text = text_behind_lem file (total before) 25 head at_head.later (rw z at at_head.here) rh.is.shape.long;
    })
      where
        z : 0 + total before ≡ total before
        z = omega arith

    tells_points : (rest : List ℕ) (i : ℕ) → i < length points → TellsPointAt file (total before + length head + 2 + total (take i points)) (get_or points i []) (points_in first ++ rest) i
    tells_points rest i k =
        let z : 0 + total before ≡ total before = omega arith in
        let w = at_head.here in
        rw (at_head.found, rh.reads, z, ← many) (point_found file at_head.later (total before + length head + 2) (behind (rw z at w)) points later at_head.rests rp rest i k)
      where
        behind : lines_of (drop (total before) file) ≡ line head at_head.later → lines_of (drop (total before + length head + 2) file) ≡ at_head.later
        behind q = (line_at file (total before) head at_head.later q).after

    found_long : length (points_in first) ≡ (declared_in first).points * 6
    found_long =
        let z : 0 + total before ≡ total before = omega arith in
        rw (at_head.found, rh.reads, ← many) (points_long points at_head.later (0 + total before + length head + 2) later at_head.rests)

  -- as many points as there are C lines behind the first
  many_by : ReadsDeclaration texts → (declared_in first).points ≡ point_lines texts
  many_by (nowhere no) = rw (none_found (lines_of file) 0 0 no, beginning_none texts no)
  many_by (declared before head points later h e nb rh rp many nl) = found_many before head points later h e nb rh rp many nl

  tells_by : (list : List ℕ) → ReadsDeclaration texts → Tells file texts (declared_in first) (over (points_in first) list)
  tells_by list (nowhere no) = tells_none no (ap declared_in (none_found (lines_of file) 0 0 no))
  tells_by list (declared before head points later h e nb rh rp many nl) =
      tells_all before head points later e nb (points_begin points rp) nl (tells_head before head points later h e nb rh rp many nl)
      (ap (λ (x : Declared). x.points) (found_head before head points later h e nb rh rp many nl) ∙ sym many)
      (tells_points before head points later h e nb rh rp many nl (drop (length (points_in first)) list))

  -- six numbers for each point
  long_by : ReadsDeclaration texts → length (points_in first) ≡ (declared_in first).points * 6
  long_by (nowhere no) = rw (none_found (lines_of file) 0 0 no)
  long_by (declared before head points later h e nb rh rp many nl) = found_long before head points later h e nb rh rp many nl

  -- ---- which refusal there is

  module _ (room : ℕ) where
    abbrev Why : ℕ → ℕ → ℕ → Type 0
    Why n l b = DeclarationRefused file room n l b

    refused_as : (n l b n' l' b' : ℕ) → ◌≡◌ {A = Said Declared} (refuses n l b) (refuses n' l' b') → Why n l b → Why n' l' b'
    refused_as n l b n' l' b' e x =
        let p : n ≡ n' = cc in
        let q : l ≡ l' = cc in
        let k : b ≡ b' = cc in
        rw (← p, ← q, ← k) x

    own_as : (n l b n' l' b' : ℕ) → ◌≡◌ {A = Said Declared} (refuses n l b) (refuses n' l' b') → ◌≡◌ {A = Said Flight} (refuses n l b) (refuses n' l' b')
    own_as n l b n' l' b' e = let p : n ≡ n' = cc in let q : l ≡ l' = cc in let k : b ≡ b' = cc in cc

    many_of : (m : Meets declaration_seal file) → (declared_in first).points ≡ point_lines (lines_in m.parts)
    many_of m = many_by (declares file (flight_of m) (meets_so file m)) ∙ ap point_lines (lines_are file m)

    room_by : (f : Flight) → verdict declaration_seal file None ≡ says f → (t : Bool) → leb ((declared_in first).points * 6) room ≡ t → (n l b : ℕ) → declared_said (need t (no reason.NoRoom 0) λ _. says first) ≡ refuses n l b → Why n l b
    unfolding number
    room_by f v true t n l b q = absurd (refuses_says (sym q))
    room_by f v false t n l b q =
        let m = met file f v in
        let h : room < (declared_in first).points * 6 = leb-false _ _ t in
        refused_as _ _ _ _ _ _ q (short m (subst (λ (x : ℕ). room < x * 6) (many_of m) h))

    verdict_by : (s : Said Flight) → verdict declaration_seal file None ≡ s → (n l b : ℕ) → declared_said (and_then s λ _. room_said first room) ≡ refuses n l b → Why n l b
    unfolding room_said
    verdict_by (says f) v n l b q = room_by f v (leb ((declared_in first).points * 6) room) refl n l b q
    verdict_by (refuses i j k) v n l b q = own ((refused_first declaration_seal file None n l b).0 (v ∙ own_as i j k n l b q))

    pub refused_there : (n l b : ℕ) → declaration_said file room ≡ refuses n l b → Why n l b
    unfolding placed_said
    refused_there n l b e = verdict_by (verdict declaration_seal file None) refl n l b e

    pub refused_here : (n l b : ℕ) → Why n l b → declaration_said file room ≡ refuses n l b
    unfolding placed_said room_said number
    refused_here n l b (own x) = rw ((refused_first declaration_seal file None n l b).1 x)
    refused_here n l b (short m h) =
        let k : room < (declared_in first).points * 6 = subst (λ (x : ℕ). room < x * 6) (sym (many_of m)) h in
        rw (meets_so file m, lt-leb ((declared_in first).points * 6) room k)

    pub never_full : (n l b : ℕ) → Why n l b → n ≡ 15 → ⊥
    never_full n l b (own x) z = false_true (sym (check_never_full declaration_seal file n l b ((refused_first declaration_seal file None n l b).1 x)) ∙ ap (λ (k : ℕ). eqb k 15) z)
    never_full n l b (short m h) z = omega arith

-- ---- an answer that is no refusal

module _ (file list : List ℕ) (r : Result Declared Refusal) (after : List ℕ) (w : FileDeclared file list r after) where
  pub record Stands (d : Declared) : Type 0 where
    pub flight : Flight
    pub accepted : verdict declaration_seal file None ≡ says flight
    pub tells : d ≡ declared_in (first file)
    pub room : (declared_in (first file)).points * 6 ≤ length list
    pub is : after ≡ over (points_in (first file)) list

  pub stands : (d : Declared) → result_told r ≡ says d → Stands d
  unfolding placed_said room_said
  stands d e =
      let a = then_inv (placed_said file (length list)) d _ (sym w.told ∙ e) in
      let b = then_inv (verdict declaration_seal file None) a.0 _ a.1 in
      let z = need_inv (leb ((declared_in (first file)).points * 6) (length list)) _ (says a.0) _ refuses_says b.2 in
      let same : first file ≡ a.0 = cc in
      let told : declared_in a.0 ≡ d = cc in
      record {
        flight = b.0;
        accepted = b.1;
        tells = sym told ∙ ap declared_in (sym same);
        room = leb-true _ _ z.0;
        is = w.numbers ∙ ap (λ (s : Said (Option Placed)). over (numbers_in s) list) (a.1 ∙ ap says (sym same));
      }

  module _ (d : Declared) (s : Stands d) where
    pub telling : (m : Meets declaration_seal file) → Tells file (lines_in m.parts) d after
    telling m =
        let t = tells_by file list (declares file s.flight s.accepted) in
        let u = subst (λ (x : Declared). Tells file (texts file) x (over (points_in (first file)) list)) (sym s.tells) t in
        let v = subst (λ (l : List ℕ). Tells file (texts file) d l) (sym s.is) u in
        subst (λ (ls : List (List ℕ)). Tells file ls d after) (lines_are file m) v

    pub counting : (m : Meets declaration_seal file) → d.points ≡ point_lines (lines_in m.parts)
    counting m = ap (λ (x : Declared). x.points) s.tells ∙ many_of file 0 m

    pub fits : d.points * 6 ≤ length list
    fits = subst (λ (x : Declared). x.points * 6 ≤ length list) (sym s.tells) s.room

    -- the numbers of the points are six for each
    many : length (points_in (first file)) ≡ d.points * 6
    many = long_by file (declares file s.flight s.accepted) ∙ ap (λ (x : Declared). x.points * 6) (sym s.tells)

    pub stays : (length after ≡ length list) × (drop (d.points * 6) after ≡ drop (d.points * 6) list)
    stays =
        let ps = points_in (first file) in
        let h : length ps ≤ length list = omega (arith, many, fits) in (
          rw s.is (length-append ps (drop (length ps) list) ∙ rw (length-drop (length ps) list) (omega (arith, h))),
          rw s.is (drop_at ps (drop (length ps) list) (d.points * 6) many ∙ ap (λ (q : ℕ). drop q list) many),
        )

    pub none_exactly : (m : Meets declaration_seal file) → (d.points ≡ 0) ↔ Each NoC (lines_in m.parts)
    none_exactly m = (
      (λ e. by (telling m) e),
      (λ no. counting m ∙ rw (beginning_none (lines_in m.parts) no)),
    )
      where
        by : Tells file (lines_in m.parts) d after → d.points ≡ 0 → Each NoC (lines_in m.parts)
        by (tells_none no e) z = no
        by (tells_all before head points later e nb cs nl th n p) z = absurd (omega (arith, th.points, z))

  -- ---- a refusal: nothing changes

  pub leaves : (n l b : ℕ) → result_told r ≡ refuses n l b → after ≡ list
  leaves n l b e = by (placed_said file (length list)) refl (sym w.told ∙ e)
    where
      by : (s : Said (Option Placed)) → placed_said file (length list) ≡ s → declared_said s ≡ refuses n l b → after ≡ list
      by (says o) q k = absurd (refuses_says (sym k))
      by (refuses i j h) q k = w.numbers ∙ ap (λ (s : Said (Option Placed)). over (numbers_in s) list) q
