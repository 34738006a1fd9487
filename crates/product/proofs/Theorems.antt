-- The proofs of Statements, each by a theorem of gf2.
use Rattle.gf2.proofs.Theorems.{theorem_b, theorem_d}
use Rattle.product.specs.Statements.{UnderAccepted}
use Rattle.product.proofs.SoundOperands.{fits}
use Rattle.gf2.specs.Operands.{carried_bytes}

pub under-accepted : UnderAccepted
under-accepted m table two w is k = record {
  methods = λ a b ha hb. (theorem_d m table two is k.symmetric a b).pairs;
  inverts = λ a ha. (theorem_b.inverses carried_bytes m table a two (fits m w) is k ha).is_inverse;
  only = λ a b ha. (theorem_b.inverses carried_bytes m table a two (fits m w) is k ha).unique b;
  count = λ a. theorem_b.products m table a two;
}
