-- What `BothWays` of the face says, of every answer r and output afterwards that a writer's promise allows. Assumes nothing.
use Rattle.rules.specs.declared.Refusal.{Refusal}
use Rattle.std.specs.Prelude.{Result}
use Prim.Native.Nat.{ℕ}
use mathlib.Core.List.{List}
use mathlib.Core.Path.{◌≡◌}
use Rattle.rules.specs.Refusals.{says}
use Rattle.rules.specs.Reads.{fix_said, extra_said, head_said, point_said, layout_said}
use Rattle.rules.specs.Promises.{FixWritten, ExtraWritten, LayoutWritten, HeadWritten, PointWritten}
use Rattle.rules.specs.declared.Layout.{Layout}
use Rattle.rules.specs.declared.Extra.{Extra}
use Rattle.rules.specs.declared.Family.{Family}
use Rattle.rules.specs.declared.Fix.{Fix}
use Rattle.rules.specs.declared.Head.{Head}
use Rattle.rules.specs.declared.Point.{Point}
use Rattle.grammar.specs.BothWays.{Slotted, ReadsAs, Ways}
use Rattle.grammar.proofs.Demands.{fixes_both_ways, extras_both_ways, heads_both_ways, points_both_ways, layouts_both_ways}

module _ (place : ℕ) (out : List ℕ) (r : Result ℕ Refusal) (after : List ℕ) where
  pub fix_writer : (f : Fix) (tail : List ℕ) (layout : Layout) → FixWritten f tail layout place out r after → Ways (ReadsAs (λ l. fix_said l layout) 35) (f, tail) place out r after
  fix_writer f tail layout = (fixes_both_ways layout).writes (f, tail) place out r after

  pub extra_writer : (x : Extra) (t : ℕ) (tail : List ℕ) (layout : Layout) → ExtraWritten x t tail layout place out r after
      → Ways (ReadsAs (λ l. extra_said x l layout) 7) (t, tail) place out r after
  extra_writer x t tail layout = (extras_both_ways x layout).writes (t, tail) place out r after

  pub head_writer : (h : Head) (rest : List ℕ) → HeadWritten h rest place out r after → Ways (ReadsAs head_said 25) (h, rest) place out r after
  head_writer h rest = heads_both_ways.writes (h, rest) place out r after

  pub point_writer : (p : Point) (rest : List ℕ) → PointWritten p rest place out r after → Ways (ReadsAs point_said 18) (p, rest) place out r after
  point_writer p rest = points_both_ways.writes (p, rest) place out r after

  pub layout_writer : (family : Family) (i : Slotted) → LayoutWritten family i.layout place out r after
      → Ways (λ l (v : Slotted). layout_said family l ≡ says v.layout) i place out r after
  layout_writer family i = (layouts_both_ways family).writes i place out r after
