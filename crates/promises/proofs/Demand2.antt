-- Demand 2: each field by a law of the crate that proves it.
use Rattle.std.specs.Prelude.{Ok}
use mathlib.Core.Path.{◌≡◌}
use mathlib.Core.List.{List}
use Prim.Native.Nat.{ℕ, ◌%◌}
use native.Mathlib.Omega.{arith}
use lib.ListN.{length}
use Rattle.gf2.specs.Operands.{bytes_for, from_coords}
use Rattle.gf2.specs.Products.{product, reduced}
use Rattle.gf2.proofs.Operands.{coord-from, from-operand}
use Rattle.gaussian.specs.Types.{type_of}
use Rattle.gaussian.specs.Table.{drawn}
use Rattle.gaussian.specs.Calls.{draw_verdict, drawn_into}
use Rattle.gaussian.proofs.Theorems.{type-list, drawn-table}
use Rattle.card.proofs.Theorems.{card-laws}
use Rattle.card_writer.proofs.Theorems.{card-trips}
use Rattle.judging.specs.Causes.{judged}
use Rattle.product.specs.Causes.{product_bytes_causes, reduced_bytes_causes}
use Rattle.product.specs.Calls.{product_into, reduced_into}
use Rattle.promises.specs.Demand2.{bilinear, halved, HasCoords, DrawnBy, Demand2}
use Rattle.promises.proofs.CauseLaws.{wide}
use Rattle.gf2.proofs.Decisions.{equal-unless}
use Rattle.promises.proofs.Demand1.{demand1}

-- the bytes of an operand that is given by its coordinates
given : (m : ℕ) (x : List ℕ) (f : ℕ → ℕ) → length x ≡ bytes_for m → HasCoords m (from_coords (length x) m f) (λ r. f r % 2)
given m x f size = rw size (record { operand = from-operand (bytes_for m) m f; coords = λ r l. coord-from (bytes_for m) m f (omega arith) r l })

products : (m : ℕ) (table a b old : List ℕ) → judged (product_bytes_causes m table a b old) ≡ Ok tt → HasCoords m (product_into m table a b old) (bilinear m table a b)
unfolding product
products m table a b old e =
    let call = demand1.product m table a b old in
    rw (call.buffer.written e) (given m a _ (equal-unless _ _ (call.exact.none.0 e).1.0))

reduced_products : (m : ℕ) (table a b old : List ℕ) → judged (reduced_bytes_causes m table a b old) ≡ Ok tt → HasCoords m (reduced_into m table a b old) (halved m table a b)
unfolding reduced
reduced_products m table a b old e =
    let call = demand1.reduced m table a b old in
    rw (call.buffer.written e) (given m a _ (equal-unless _ _ (call.exact.none.0 e).1.0))

drawn-by : (m : ℕ) (old : List ℕ) → draw_verdict m (length old) ≡ Ok tt → DrawnBy m (type_of m) (drawn_into m old)
drawn-by m old e =
    let call = demand1.draw m old in
    let no = call.exact.none.0 e in
    let w = wide no.0 in
    let t = drawn-table m (type_of m) in
    rw (call.buffer.written e) (record {
      chosen = (type-list m w.0 w.1).chosen no.1.1.0;
      is_table = t.is_table;
      rows = λ d l. rw (t.rows d l) (record {
        operand = from-operand (bytes_for m) m _;
        coords = λ s h. coord-from (bytes_for m) m _ (omega arith) s h;
      });
    })

pub demand2 : Demand2
demand2 = record {
  products = products;
  reduced_products = reduced_products;
  drawn = drawn-by;
  undrawn = λ m l h e. let t = type-list m l h in let d = t.none.0 e in (d, t.never d);
  read_written = card-laws.tables;
  written_read = card-trips;
}
