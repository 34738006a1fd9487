-- `table::shaped::Table::times_first` meets its contract.
use Rattle.table.proofs.RowsAtOnes.{low-bytes}
use Rattle.table.proofs.shaped.Table.times_first.Goals as goal

pub returns : goal.returns
returns c = low-bytes _ _ _ c.rows_at-total.result c.rows_at-total.ensures c.low_limbs.ensures c.to_bytes.ensures
