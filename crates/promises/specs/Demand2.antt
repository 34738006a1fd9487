-- Demand 2, sentence by sentence, over the calls of the C interface. Each definition named here is the one that the call's contract names.
use Rattle.std.specs.Prelude.{◌≡◌, List, ℕ, ◌+◌, ◌*◌, ◌%◌, ◌<◌, ◌≤◌, length, Ok, IsOk}
use Rattle.std.specs.Int.{◌∣◌}
use Rattle.gf2.specs.Sums.{sum}
use Rattle.gf2.specs.Coordinates.{coord}
use Rattle.gf2.specs.Operands.{max_width, bytes_for, minus, IsOperand}
use Rattle.gf2.specs.Tables.{IsTable, row, pair_product}
use Rattle.gaussian.specs.Types.{modulus, IsType, AnsiType, type_of}
use Rattle.gaussian.specs.Table.{row_coord}
use Rattle.gaussian.specs.Calls.{draw_verdict, drawn_into}
use Rattle.card.specs.Calls.{read_call}
use Rattle.card.specs.Statements.{Bytes, TableTrip, width_read, table_read}
use Rattle.card_writer.specs.Statements.{CardTrip}
use Rattle.judging.specs.Causes.{judged}
use Rattle.product.specs.Causes.{product_bytes_causes, reduced_bytes_causes}
use Rattle.product.specs.Calls.{product_into, reduced_into}

-- "coordinate r is the sum modulo 2 of ai·bj over all i, j for which βi·βj has coordinate r"
abbrev pub bilinear : ℕ → List ℕ → List ℕ → List ℕ → ℕ → ℕ
bilinear m table a b r = sum m (λ i. sum m (λ j. coord a i * coord b j * coord (pair_product m table i j) r)) % 2

-- "coordinate r is a(r-1)·b(r-1) plus the sum of ai·bj + aj·bi over i < j for which βi·βj has coordinate r"
abbrev pub halved : ℕ → List ℕ → List ℕ → List ℕ → ℕ → ℕ
halved m table a b r =
    (coord a (minus m r 1) * coord b (minus m r 1)
    + sum m (λ j. sum j (λ i. (coord a i * coord b j + coord a j * coord b i) * coord (pair_product m table i j) r)))
    % 2

-- the W bytes of an operand of width m with these coordinates
pub record HasCoords (m : ℕ) (bytes : List ℕ) (f : ℕ → ℕ) : Type 0 where
  pub operand : IsOperand (bytes_for m) m bytes
  pub coords : (r : ℕ) → r < m → coord bytes r ≡ f r

-- a table that was drawn: by the T that ANSI X9.62 chooses (document 02, (e): "Drawn tables are compared with this choice"), row by row
pub record DrawnBy (m t : ℕ) (table : List ℕ) : Type 0 where
  pub chosen : AnsiType m t
  pub is_table : IsTable m table
  -- "Row d is the sum over w in K of βs where 1 + 2^d·w lies in 2^s·K; .."
  pub rows : (d : ℕ) → d < m → HasCoords m (row m table d) (λ s. row_coord (modulus m t) t d s % 2)

pub record Demand2 : Type 0 where
  -- "Products equal the bilinear product of document 01,"
  pub products : (m : ℕ) (table a b old : List ℕ) → judged (product_bytes_causes m table a b old) ≡ Ok tt →
      HasCoords m (product_into m table a b old) (bilinear m table a b)
  -- the reduced product as document 01 has it; demand 3 says where it is the same
  pub reduced_products : (m : ℕ) (table a b old : List ℕ) → judged (reduced_bytes_causes m table a b old) ≡ Ok tt →
      HasCoords m (reduced_into m table a b old) (halved m table a b)
  -- "drawn tables equal the Gaussian rule of IEEE 1363,"
  pub drawn : (m : ℕ) (old : List ℕ) → draw_verdict m (length old) ≡ Ok tt → DrawnBy m (type_of m) (drawn_into m old)
  -- a width that can't be drawn has no type
  pub undrawn : (m : ℕ) → 2 ≤ m → m ≤ max_width → type_of m ≡ 0 → (8 ∣ m) × ((t : ℕ) → ¬ IsType m t)
  -- "and cards are read and written so that each gives back the other": reading the card of a table gives the table,
  pub read_written : (m : ℕ) (table : List ℕ) → 2 ≤ m → m ≤ max_width → IsTable m table → TableTrip m table
  -- and writing the table that was read from a card gives the card
  pub written_read : (s old : List ℕ) → Bytes s → IsOk (read_call s old) → CardTrip s (width_read s old) (table_read s old)
