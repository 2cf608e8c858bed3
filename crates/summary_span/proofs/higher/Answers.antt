-- `summary_span::higher` meets its contract. Assumes nothing.
use mir.Syntax.{w32}
use mir.Facts.{to_z-of_z}
use Rattle.summary_span.proofs.Links.{higher_second, higher_first}
use Rattle.summary_span.proofs.higher.Goals as goal

pub returns-then-a-b : goal.returns-then-a-b
returns-then-a-b c = higher_second _ _ _ _ c.if-a-b.true (to_z-of_z {w = w32} (record { sfits = c.struct_told-1.given.0.1 })) (to_z-of_z {w = w32} (record { sfits = c.struct_told-2-1.given.0.1 }))

pub returns-else-a-b : goal.returns-else-a-b
returns-else-a-b c = higher_first _ _ _ _ c.if-a-b.false (to_z-of_z {w = w32} (record { sfits = c.struct_told-1.given.0.1 })) (to_z-of_z {w = w32} (record { sfits = c.struct_told-2-1.given.0.1 }))
