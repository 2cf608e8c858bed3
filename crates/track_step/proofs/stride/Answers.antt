-- `track_step::stride` meets its contract. Assumes nothing.
use native.Mathlib.Omega.{arith}
use mathlib.Core.Path.{◌∙◌}
use Rattle.track_step.proofs.Striding.{stride_spare, stride_so}
use Rattle.track_step.proofs.stride.Goals as goal

pub stride_by-requires : goal.stride_by-requires
stride_by-requires c =
    let a = c.swift_time.ensures _ c.in-Some.is in
    (stride_spare _ _ a.0, a.0.plain, a.1, a.2)

pub returns : goal.returns
returns c = let a = c.swift_time.ensures _ c.in-Some.is in stride_so _ _ a.0 _ c.stride_by.ensures

pub returns-in_default : goal.returns-in_default
returns-in_default c = c.anew.ensures ∙ c.step.ensures

pub overflow_add-end : goal.overflow_add-end
overflow_add-end c = let a = c.swift_time.ensures _ c.in-Some.is in omega (arith, a.0.room)

pub slice_bounds-stride_by-end : goal.slice_bounds-stride_by-end
slice_bounds-stride_by-end c = let a = c.swift_time.ensures _ c.in-Some.is in omega (arith, a.0.room)

pub overflow_add-end-2 : goal.overflow_add-end-2
overflow_add-end-2 c = let a = c.swift_time.ensures _ c.in-Some.is in omega (arith, a.0.room)
