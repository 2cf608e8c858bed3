-- `summary_span::lower` meets its contract. Assumes nothing.
use mir.Syntax.{w32}
use mir.Facts.{to_z-of_z}
use Rattle.summary_span.proofs.Links.{lower_second, lower_first}
use Rattle.summary_span.proofs.lower.Goals as goal

pub returns-then-b-a : goal.returns-then-b-a
returns-then-b-a c = lower_second _ _ _ _ c.if-b-a.true (to_z-of_z {w = w32} (record { sfits = c.struct_told-2-1.given.0.1 })) (to_z-of_z {w = w32} (record { sfits = c.struct_told-1.given.0.1 }))

pub returns-else-b-a : goal.returns-else-b-a
returns-else-b-a c = lower_first _ _ _ _ c.if-b-a.false (to_z-of_z {w = w32} (record { sfits = c.struct_told-2-1.given.0.1 })) (to_z-of_z {w = w32} (record { sfits = c.struct_told-1.given.0.1 }))
