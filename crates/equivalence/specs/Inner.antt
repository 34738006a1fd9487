-- What only inner functions cite: the sets of products as bits in limbs, and what the filling and the comparing are given.
use Rattle.std.specs.Prelude.{◌≡◌, true, List, ℕ, ◌+◌, ◌-◌, ◌*◌, ◌/◌, ◌<◌, ◌≤◌, ltb, get_or}
use Rattle.std.specs.Int.Bits.{bit_xor}
use Rattle.gf2.specs.Sums.{every}
use Rattle.gf2.specs.Operands.{choose}
use Rattle.limbs.specs.Limbs.{limb_coord}
use Rattle.netlist.specs.Running.{gate_count, read_list}
use Rattle.netlist.specs.Judgements.{is_gate, is_output, is_formed}
use Rattle.netlist.specs.Sets.{Products, set_on}
use Rattle.equivalence.specs.Causes.{most_width, most_gates}

-- a bit for each product: the bits, and the limbs, of a gate's square
abbrev pub set_bits : ℕ
set_bits = most_width * most_width

abbrev pub set_limbs : ℕ
set_limbs = set_bits / 64

-- where the product of a wire of a and one of b has its bit
abbrev pub place_of : ℕ → ℕ → ℕ → ℕ
place_of m left right = choose (ltb left m) (most_width * left + (right - m)) (most_width * right + (left - m))

-- the bit of ai·bj in the square of gate k
abbrev pub bit_at : List ℕ → ℕ → Products
bit_at sets k i j = limb_coord sets (set_bits * k + (most_width * i + j))

-- a list of which 18, 19 and 20 were not given
pub record Ready (m : ℕ) (list : List ℕ) : Type 0 where
  pub narrow : m ≤ most_width
  pub few : gate_count list ≤ most_gates
  pub gates : every (gate_count list) (is_gate m list) ≡ true
  pub outputs : every m (is_output m list) ≡ true
  pub formed : every (gate_count list) (is_formed m list) ≡ true

-- the squares of the first k gates have the products that are summed in them; those of the others are clear
pub record Gathered (m : ℕ) (list : List ℕ) (k : ℕ) (sets : List ℕ) : Type 0 where
  pub bits : (l i j : ℕ) → l < k → i < most_width → j < most_width → bit_at sets l i j ≡ set_on m (read_list list m) (2 * m + l) i j
  pub rest : (p : ℕ) → set_limbs * k ≤ p → get_or sets p 0 ≡ 0

-- the first n limbs of gate k's square are those of gates x and y added; the other limbs are as they were
pub record SumPut (n k x y : ℕ) (before after : List ℕ) : Type 0 where
  pub sums : (w : ℕ) → w < n →
      get_or after (set_limbs * k + w) 0 ≡ bit_xor (get_or before (set_limbs * x + w) 0) (get_or before (set_limbs * y + w) 0)
  pub front : (p : ℕ) → p < set_limbs * k → get_or after p 0 ≡ get_or before p 0
  pub rest : (p : ℕ) → set_limbs * k + n ≤ p → get_or after p 0 ≡ get_or before p 0

-- the squares of all gates
abbrev pub AllGathered : ℕ → List ℕ → List ℕ → Type 0
AllGathered m list sets = Gathered m list (gate_count list) sets
