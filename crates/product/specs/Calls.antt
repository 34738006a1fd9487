-- What each call answers, for every input: its value, or its fault alone.
-- First the calls on operands that are carried with their width, then the same on W bytes: what they leave in the lent buffer.
use Rattle.std.specs.Prelude.{List, ℕ, Result}
use Rattle.gf2.specs.Products.{product, reduced}
use Rattle.gf2.specs.Inverse.{inverse, products_made}
use Rattle.judging.specs.declared.fault.Fault.{Fault}
use Rattle.judging.specs.Causes.{judged, answered}
use Rattle.operand.specs.declared.Operand.{Operand}
use Rattle.operand.specs.Calls.{answer, written}
use Rattle.product.specs.declared.Inverted.{Inverted}
use Rattle.scatter.specs.declared.methods.Method.{Method}
use Rattle.scatter.specs.declared.methods.Method.TheVariants.{Plain, Reduced}
use Rattle.product.specs.Causes.{product_causes, reduced_causes, inverse_causes, product_bytes_causes, reduced_bytes_causes, inverse_bytes_causes}

-- "coordinate r is the sum modulo 2 of ai·bj over all i, j for which βi·βj has coordinate r"; "it needs no accepted table"
abbrev pub product_call : ℕ → List ℕ → Operand → Operand → Result Operand Fault
product_call m table a b = answer (judged (product_causes m table a b)) m (product m table a.bytes b.bytes)

-- "coordinate r is a(r-1)·b(r-1) plus the sum of ai·bj + aj·bi over i < j for which βi·βj has coordinate r"
abbrev pub reduced_call : ℕ → List ℕ → Operand → Operand → Result Operand Fault
reduced_call m table a b = answer (judged (reduced_causes m table a b)) m (reduced m table a.bytes b.bytes)

-- the product by a method, and the call that is either of those two
abbrev pub multiplied : Method → ℕ → List ℕ → List ℕ → List ℕ → List ℕ
multiplied Plain m table a b = product m table a b
multiplied Reduced m table a b = reduced m table a b

abbrev pub multiply_call : Method → ℕ → List ℕ → Operand → Operand → Result Operand Fault
multiply_call Plain m table a b = product_call m table a b
multiply_call Reduced m table a b = reduced_call m table a b

-- "the result carries the last count as the number of products made": the operand of width m with these bytes, and a count
abbrev pub counted : ℕ → List ℕ → ℕ → Inverted
counted m bytes n = record { value = record { bytes = bytes; width = m }; count = n }

-- "Inverse of a is a to the power 2^m - 2"; "Under a table that isn't accepted the answer is still this chain's value"
abbrev pub inverse_call : ℕ → List ℕ → Operand → Result Inverted Fault
inverse_call m table a = answered (judged (inverse_causes m table a)) (counted m (inverse m table a.bytes) (products_made m table a.bytes))

-- the products of W bytes
abbrev pub product_into : ℕ → List ℕ → List ℕ → List ℕ → List ℕ → List ℕ
product_into m table a b old = written (judged (product_bytes_causes m table a b old)) (product m table a b) old

abbrev pub reduced_into : ℕ → List ℕ → List ℕ → List ℕ → List ℕ → List ℕ
reduced_into m table a b old = written (judged (reduced_bytes_causes m table a b old)) (reduced m table a b) old

abbrev pub multiply_into : Method → ℕ → List ℕ → List ℕ → List ℕ → List ℕ → List ℕ
multiply_into Plain m table a b old = product_into m table a b old
multiply_into Reduced m table a b old = reduced_into m table a b old

-- the inverse of W bytes, and the number of products made
abbrev pub inverse_into : ℕ → List ℕ → List ℕ → List ℕ → List ℕ
inverse_into m table a old = written (judged (inverse_bytes_causes m table a old)) (inverse m table a) old

abbrev pub inverse_count : ℕ → List ℕ → List ℕ → List ℕ → Result ℕ Fault
inverse_count m table a old = answered (judged (inverse_bytes_causes m table a old)) (products_made m table a)
