-- The products that are summed in each wire of a list, and those that are to be summed in each output: document 02, (b).
use Rattle.std.specs.Prelude.{◌⊎◌, Bool, not, ◌&&◌, ◌||◌, ◌≡◌, List, [], ◌∷◌, ◌++◌, ℕ, ◌+◌, ◌*◌, ◌%◌, ◌<◌, ltb, eqb, get_or, replicate}
use Rattle.gf2.specs.Sums.{every}
use Rattle.gf2.specs.Coordinates.{coord}
use Rattle.gf2.specs.Operands.{choose}
use Rattle.gf2.specs.Tables.{pair_product}
use Rattle.netlist.specs.Gates.{Gate, AND, XOR, Netlist}
use Rattle.netlist.specs.Running.{output_at, read_list}
use Rattle.netlist.specs.Judgements.{IsInput}

-- "the set of products ai·bj": 1 at i and j where ai·bj is in it, else 0
abbrev pub Products : Type 0
Products = ℕ → ℕ → ℕ

-- the empty set
abbrev pub no_products : Products
no_products i j = 0

-- the set of an AND, which "takes one a wire and one b wire": their product alone
unfoldable pub one_product : ℕ → ℕ → ℕ → Products
one_product m left right i j = choose ((eqb left i && eqb right (m + j)) || (eqb left (m + j) && eqb right i)) 1 0

-- the set of a sum: modulo 2 a product that is in both falls out
abbrev pub summed : Products → Products → Products
summed s t i j = (s i j + t i j) % 2

-- the set of a gate, where those of the wires before it are given
abbrev pub gate_set : ℕ → List Products → Gate → Products
gate_set m sets (AND left right) = one_product m left right
gate_set m sets (XOR left right) = summed (get_or sets left no_products) (get_or sets right no_products)

-- "gathers, for each wire, the set of products ai·bj summed in it": each gate's after those of the wires before it
unfoldable pub gather : ℕ → List Gate → List Products → List Products
gather m [] sets = sets
gather m (g ∷ gs) sets = gather m gs (sets ++ (gate_set m sets g ∷ []))

-- of each wire of a list; in an input wire no product is summed
unfoldable pub sets_of : ℕ → Netlist → List Products
sets_of m list = gather m list.gates (replicate (2 * m) no_products)

-- "for each wire, the set of products"
abbrev pub set_on : ℕ → Netlist → ℕ → Products
set_on m list wire = get_or (sets_of m list) wire no_products

-- the products whose sum is coordinate r: "ai·bj over all i, j for which βi·βj has coordinate r"
abbrev pub wanted : ℕ → List ℕ → ℕ → Products
wanted m table r i j = coord (pair_product m table i j) r

-- two sets of the m² products are the same
abbrev pub SameProducts : ℕ → Products → Products → Type 0
SameProducts m s t = (i j : ℕ) → i < m → j < m → s i j ≡ t i j

-- the test of it
unfoldable pub same_products : ℕ → Products → Products → Bool
same_products m s t = every m (λ i. every m (λ j. eqb (s i j) (t i j)))

-- "an output whose set is wrong", of words read as a list; "An output that is an input wire counts as wrong"
abbrev pub IsWrongOutput : ℕ → List ℕ → List ℕ → ℕ → Type 0
IsWrongOutput m table list r =
    IsInput m (output_at list r) ⊎ (¬ SameProducts m (set_on m (read_list list m) (output_at list r)) (wanted m table r))

-- the test that an output is a gate, and its set right
unfoldable pub is_right_output : ℕ → List ℕ → List ℕ → ℕ → Bool
is_right_output m table list r =
    not (ltb (output_at list r) (2 * m)) && same_products m (set_on m (read_list list m) (output_at list r)) (wanted m table r)
