-- `curves::published::bit` meets its contract.
use Rattle.std.proofs.Common.{rules}
use mathlib.Core.Path.{◌≡◌}
use Prim.Native.Nat.{◌/◌}
use lib.ListN.{get_or}
use Rattle.curves.specs.Published.{digit_bit}
use Rattle.curves.proofs.published.bit.Goals as goal

pub returns : goal.returns
unfolding digit_bit
returns c =
    let digit : c.unwrap_or-digit.result ≡ get_or c.args.digits.now (c.args.t / 4) 0 = search rules in
    rw (c.digit_value.ensures, digit)
