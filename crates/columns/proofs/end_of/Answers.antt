-- `columns::end_of` meets its contract: a line of a family ends by its size, any other where its text ends. Assumes nothing.
use mathlib.Core.Path.{sym, ap, ◌∙◌}
use native.Mathlib.Omega.{arith}
use borrow.Author.Rules.{rules}
use Rattle.rules.specs.declared.Extra.TheVariants as extra
use Rattle.rules.specs.declared.Family.TheVariants as family
use Rattle.columns.specs.Lines.{text_end}
use Rattle.columns.proofs.Filling.{end_past, end_family, end_other}
use Rattle.columns.proofs.end_of.Goals as goal

pub returns-in-66 : goal.returns-in-66
returns-in-66 c =
    end_family c.args.file.now c.args.at c.args.sizes (omega arith) family.B c.in-66.is _ c.by_size.ensures

pub returns-in-75 : goal.returns-in-75
returns-in-75 c =
    end_family c.args.file.now c.args.at c.args.sizes (omega arith) (family.Extra extra.K) c.in-75.is _ c.by_size-in-75.ensures

pub returns-in-78 : goal.returns-in-78
returns-in-78 c =
    end_family c.args.file.now c.args.at c.args.sizes (omega arith) (family.Extra extra.N) c.in-78.is _ c.by_size-in-78.ensures

pub returns-in-At : goal.returns-in-At
returns-in-At c =
    let m = c.in_default.in_default-own.rest in
    end_other c.args.file.now c.args.at c.args.sizes (omega arith) m.0.0.1 m.0.1 m.1 _ c.line_end.ensures _ (sym (ap text_end c.in-At.is))

pub returns-in-Broken : goal.returns-in-Broken
returns-in-Broken c =
    let m = c.in_default.in_default-own.rest in
    end_other c.args.file.now c.args.at c.args.sizes (omega arith) m.0.0.1 m.0.1 m.1 _ c.line_end.ensures _ (sym (ap text_end c.in-Broken.is))

pub returns-then-file-at : goal.returns-then-file-at
returns-then-file-at c = end_past _ _ _ c.if-file-at.true

pub by_size-requires : goal.by_size-requires
by_size-requires c = omega arith

pub by_size-requires-in-75 : goal.by_size-requires-in-75
by_size-requires-in-75 c = omega arith

pub by_size-requires-in-78 : goal.by_size-requires-in-78
by_size-requires-in-78 c = omega arith
