-- The inverse by document 01's chain (Itoh and Tsujii), and its number of products.
use Rattle.std.specs.Prelude.{List, ℕ, zero, suc, ◌+◌, ◌-◌, ◌*◌, ◌/◌, ◌%◌, ◌^◌, ltb}
use Rattle.gf2.specs.Sums.{sum}
use Rattle.gf2.specs.Operands.{choose, turned}
use Rattle.gf2.specs.Products.{product}

-- floor(log2 n): how often n can be halved before it is 1; `fuel` bounds the halvings
unfoldable pub halvings : ℕ → ℕ → ℕ
halvings zero n = 0
halvings (suc fuel) n = choose (ltb n 2) 0 (suc (halvings fuel (n / 2)))

abbrev pub log2 : ℕ → ℕ
log2 n = halvings n n

-- "ones in m-1 in binary"
unfoldable pub binary_ones : ℕ → ℕ
binary_ones n = sum (suc (log2 n)) (λ j. n / 2 ^ j % 2)

-- the state that a step of the chain hands on
pub record Chain : Type 0 where
  pub t : List ℕ
  pub k : ℕ
  pub count : ℕ

-- "starting with t = a, k = 1 and a count of 0"
abbrev pub start : List ℕ → Chain
start a = record { t = a; k = 1; count = 0 }

-- "doubling makes t := (t turned k)·t and k := 2k"; "the count one higher"
unfoldable pub doubling : ℕ → List ℕ → Chain → Chain
doubling m table s = record { t = product m table (turned m s.k s.t) s.t; k = 2 * s.k; count = s.count + 1 }

-- "if the digit is 1, adding makes t := (t turned 1)·a and k := k+1"; "the count one higher"
unfoldable pub adding : ℕ → List ℕ → List ℕ → ℕ → Chain → Chain
adding m table a zero s = s
adding m table a (suc d) s = record { t = product m table (turned m 1 s.t) a; k = s.k + 1; count = s.count + 1 }

-- "Read m-1 in binary from its highest one": the further digits of n, of which `unread` are left
unfoldable pub digits : ℕ → List ℕ → List ℕ → ℕ → ℕ → Chain → Chain
digits m table a n zero s = s
digits m table a n (suc unread) s = digits m table a n unread (adding m table a (n / 2 ^ unread % 2) (doubling m table s))

-- the chain's last state
abbrev pub chain : ℕ → List ℕ → List ℕ → Chain
chain m table a = digits m table a (m - 1) (log2 (m - 1)) (start a)

-- "until no digit is left; then t is turned 1"
unfoldable pub inverse : ℕ → List ℕ → List ℕ → List ℕ
inverse m table a = turned m 1 (chain m table a).t

-- "the result carries the last count as the number of products made"
unfoldable pub products_made : ℕ → List ℕ → List ℕ → ℕ
products_made m table a = (chain m table a).count
