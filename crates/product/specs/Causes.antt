-- What a product and an inverse judge: their causes, in document 01's order. "1 to 3 hold for every call that takes such a thing"
-- First the calls on operands that are carried with their width, then the same on W bytes, which carry none.
use Rattle.std.specs.Prelude.{List, [], ◌∷◌, ◌++◌, ℕ}
use Rattle.gf2.specs.Operands.{bytes_for, carried_bytes}
use Rattle.judging.specs.Causes.{Cause}
use Rattle.judging.specs.FaultTable.{bad_width, bad_length, not_w, not_table, high_bit, high_bit_in_row, is_zero, rule_causes}
use Rattle.operand.specs.declared.Operand.{Operand}
use Rattle.scatter.specs.declared.methods.Method.{Method}
use Rattle.scatter.specs.declared.methods.Method.TheVariants.{Plain, Reduced}

-- a table and two operands: "An operand whose carried width isn't that of the table, or of the other operand, gets 2"
abbrev pub product_causes : ℕ → List ℕ → Operand → Operand → List Cause
product_causes m table a b =
    bad_width m
    ∷ bad_width a.width
    ∷ bad_width b.width
    ∷ bad_length b.width a.width
    ∷ bad_length a.width m
    ∷ not_table m table
    ∷ high_bit_in_row m table
    ∷ high_bit m a.bytes
    ∷ high_bit m b.bytes
    ∷ []

-- "4 and 5 also for the reduced product and gate lists"
abbrev pub reduced_causes : ℕ → List ℕ → Operand → Operand → List Cause
reduced_causes m table a b = product_causes m table a b ++ rule_causes m table

-- the same by a method: all causes, and of them the rules that it asks for
abbrev pub method_causes : Method → ℕ → List ℕ → Operand → Operand → List Cause
method_causes Plain m table a b = product_causes m table a b
method_causes Reduced m table a b = reduced_causes m table a b

abbrev pub rules_by : Method → ℕ → List ℕ → List Cause
rules_by Plain m table = []
rules_by Reduced m table = rule_causes m table

-- a table and an operand, then 9: "inverse of zero"
abbrev pub inverse_causes : ℕ → List ℕ → Operand → List Cause
inverse_causes m table a =
    bad_width m
    ∷ bad_width a.width
    ∷ bad_length a.width m
    ∷ not_table m table
    ∷ high_bit_in_row m table
    ∷ high_bit m a.bytes
    ∷ is_zero carried_bytes m a.bytes
    ∷ []

-- two operands, a result and a table: all lengths stand before any bit
abbrev pub product_bytes_causes : ℕ → List ℕ → List ℕ → List ℕ → List ℕ → List Cause
product_bytes_causes m table a b result =
    bad_width m
    ∷ not_w m a
    ∷ not_w m b
    ∷ not_w m result
    ∷ not_table m table
    ∷ high_bit_in_row m table
    ∷ high_bit m a
    ∷ high_bit m b
    ∷ []

-- "4 and 5 also for the reduced product and gate lists"
abbrev pub reduced_bytes_causes : ℕ → List ℕ → List ℕ → List ℕ → List ℕ → List Cause
reduced_bytes_causes m table a b result = product_bytes_causes m table a b result ++ rule_causes m table

-- the same by a method
abbrev pub method_bytes_causes : Method → ℕ → List ℕ → List ℕ → List ℕ → List ℕ → List Cause
method_bytes_causes Plain m table a b result = product_bytes_causes m table a b result
method_bytes_causes Reduced m table a b result = reduced_bytes_causes m table a b result

-- an operand, a result and a table, then 9
abbrev pub inverse_bytes_causes : ℕ → List ℕ → List ℕ → List ℕ → List Cause
inverse_bytes_causes m table a result =
    bad_width m
    ∷ not_w m a
    ∷ not_w m result
    ∷ not_table m table
    ∷ high_bit_in_row m table
    ∷ high_bit m a
    ∷ is_zero (bytes_for m) m a
    ∷ []
