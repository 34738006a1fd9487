-- `product::kernel::is_one_way` meets its contract.
use Rattle.product.proofs.kernel.is_one_way.Goals as goal

pub returns-in-Reduced : goal.returns-in-Reduced
returns-in-Reduced c = rw c.in-Reduced.is
