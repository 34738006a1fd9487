-- The starred examples hold: each is computed.
use mathlib.Core.Path.{refl}
use Rattle.gf2.specs.Sums.{sum, every}
use Rattle.gf2.specs.Coordinates.{coord, value, tabulate, pack}
use Rattle.gf2.specs.Operands.{minus, is_clear, below, from_coords, zeroes, ones, added, turned, squared, same}
use Rattle.gf2.specs.Quadratic.{trace, root_coord, root}
use Rattle.gf2.specs.Tables.{row, basis, pair_product, ones_in}
use Rattle.gf2.specs.Products.{product}
use Rattle.gf2.specs.Inverse.{halvings, binary_ones, doubling, adding, digits, inverse, products_made}
use Rattle.judging.specs.Causes.{judged, answered, from}
use Rattle.netlist.specs.Gates.{and_gates, xor_gates}
use Rattle.netlist.specs.Lists.{each, only, pairs, ands, onto, start, folds, folded, plain_terms, plain, mixes, reduced_terms, reduced, all_ones, full_rows, common}
use Rattle.nb.specs.Packing.{packed_fault}
use Rattle.examples.specs.Starred.{ComesOut, AllHold, starred}

pub all-starred : AllHold starred
unfolding ComesOut sum every coord value tabulate pack minus is_clear below from_coords zeroes ones added turned squared trace root_coord root row basis pair_product ones_in product halvings binary_ones doubling adding digits inverse products_made judged answered from same and_gates xor_gates each only pairs ands onto start folds folded plain_terms plain mixes reduced_terms reduced all_ones full_rows common packed_fault
all-starred = ((refl, refl), ((refl, refl), ((refl, refl), ((refl, refl), ((refl, refl), ((refl, refl), ((refl, refl), ((refl, refl), (refl, (refl, (refl, ((refl, refl, refl, refl, refl), tt))))))))))))
