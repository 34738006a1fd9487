-- How many words a list has.
use mathlib.Core.Path.{◌≡◌, refl}
use mathlib.Core.List.{List, [], ◌∷◌, ◌++◌, append_assoc}
use Prim.Native.Nat.{ℕ, ◌+◌, ◌*◌}
use native.Mathlib.Omega.{arith}
use lib.ListN.{length, length-append}
use Rattle.netlist.specs.Gates.{Gate, AND, XOR, Netlist, gate_words, words}

pub length-words : (gs : List Gate) → length (gate_words gs) ≡ 3 * length gs
unfolding gate_words
length-words [] = refl
length-words (AND l r ∷ gs) = omega (arith, length-words gs)
length-words (XOR l r ∷ gs) = omega (arith, length-words gs)

pub words_append : (gs hs : List Gate) → gate_words (gs ++ hs) ≡ gate_words gs ++ gate_words hs
unfolding gate_words
words_append [] hs = refl
words_append (g ∷ gs) hs = rw (words_append gs hs, append_assoc)

pub size-words : (m : ℕ) (list : Netlist) → length list.outputs ≡ m → length (words m list) ≡ 2 + 3 * length list.gates + m
unfolding words
size-words m list e = omega (arith, length-append (gate_words list.gates) list.outputs, length-words list.gates, e)
