-- `columns_asked::code_at` meets its contract. Assumes nothing.
use Rattle.columns_asked.proofs.Asking.{code_there}
use Rattle.columns_asked.proofs.code_at.Goals as goal

pub returns : goal.returns
returns c = let a = c.args in code_there a.codes.now a.at _ _ _ _ c.byte.ensures c.byte-2.ensures c.byte-3.ensures c.pack.ensures
