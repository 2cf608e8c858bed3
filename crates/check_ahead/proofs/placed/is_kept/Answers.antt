-- `check_ahead::placed::is_kept` meets its contract. Assumes nothing.
use Prim.Native.Nat.{ℕ}
use mathlib.Core.Path.{◌≡◌, sym, ◌∙◌}
use native.Mathlib.Omega.{arith}
use borrow.Author.Rules.{rules}
use lib.Seq.{take_all}
use Rattle.check_ahead.proofs.placed.is_kept.Goals as goal

pub returns-then-size-lt47 : goal.returns-then-size-lt47
returns-then-size-lt47 c = λ t. record { n = 48; enough = search rules; most = omega arith; stand = sym c.is_placed.ensures ∙ t }

pub returns-then-size-lt63 : goal.returns-then-size-lt63
returns-then-size-lt63 c = λ t. record { n = 64; enough = search rules; most = omega arith; stand = sym c.is_placed-then-size-lt63.ensures ∙ t }

pub returns-then-size-gt110 : goal.returns-then-size-gt110
returns-then-size-gt110 c = λ t. let z : ◌≡◌ {A = ℕ} 0 1 = cc in absurd (omega arith)

pub returns : goal.returns
returns c = λ t.
    let p = c.args.places.now in
    record {
      n = 112;
      enough = search rules;
      most = omega arith;
      stand =
          rw (take_all 112 p.low (search rules), take_all 112 p.span (search rules), take_all 112 p.other (search rules))
          (sym c.is_placed-2.ensures ∙ t);
    }
