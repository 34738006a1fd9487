-- The ring of cyclic convolutions of m = p + 1 bits.
-- conv a b: coordinate i of a brings in b turned i places, all summed. It is commutative, associative and additive; conv-const: with a constant;
-- conv-square: a square has each coordinate at twice its place.
use mathlib.Core.Path.{◌≡◌, sym, ◌∙◌, ap, fun_ext}
use mathlib.Core.Bool.{Bool, ◌&&◌}
use Prim.Native.Nat.{ℕ}
use Rattle.gf2.proofs.Parity.{bits}
use Rattle.gf2.proofs.Index.{Ix, ◌⊹◌, add-c}
use Rattle.gf2.proofs.IndexSums.{Σ, Σ-and, Σ-reflect}
use Rattle.gf2.proofs.Vector.{Vec, turn, β, lin, add, lin-basis, lin-lin, turn-lin, lin-add, lin-turns, lin-diagonal, turn-β, turn-swap}

module _ {p : ℕ} where
  unfoldable pub conv : Vec p → Vec p → Vec p
  conv a b = lin a (λ i. turn i b)

  pub conv-comm : (a b : Vec p) → conv a b ≡ conv b a
  unfolding conv
  conv-comm a b = lin-turns a b

  turn-conv : (k : Ix p) (a b : Vec p) → turn k (conv a b) ≡ conv a (turn k b)
  unfolding conv
  turn-conv k a b = turn-lin k a (λ i. turn i b) ∙ ap (lin a) (fun_ext (λ i. turn-swap k i b))

  conv-turn : (k : Ix p) (a b : Vec p) → conv (turn k a) b ≡ turn k (conv a b)
  conv-turn k a b = conv-comm (turn k a) b ∙ sym (turn-conv k b a) ∙ ap (turn k) (conv-comm b a)

  pub conv-assoc : (a b c : Vec p) → conv (conv a b) c ≡ conv a (conv b c)
  conv-assoc a b c = unfold conv in lin-lin a (λ i. turn i b) (λ j. turn j c) ∙ ap (lin a) (fun_ext (λ i. conv-turn i b c))

  pub conv-add : (a b c : Vec p) → conv (add a b) c ≡ add (conv a c) (conv b c)
  unfolding conv
  conv-add a b c = lin-add a b (λ i. turn i c)

  -- a constant gives a constant
  pub conv-const : (c : Bool) (b : Vec p) → conv (λ i. c) b ≡ (λ x. c && Σ bits b)
  unfolding conv lin turn
  conv-const c b = fun_ext (λ x. Σ-and c _ ∙ ap (λ z. c && z) (Σ-reflect bits b x))

  pub conv-square : (a : Vec p) → conv a a ≡ lin a (λ i. β (i ⊹ i))
  unfolding conv
  conv-square a = ap (lin a) (fun_ext spread) ∙ lin-diagonal a (λ i j. β (j ⊹ i)) (λ i j. ap β (add-c j i))
    where
      spread : (i : Ix p) → turn i a ≡ lin a (λ j. β (j ⊹ i))
      spread i = ap (turn i) (sym (lin-basis a)) ∙ turn-lin i a β ∙ ap (lin a) (fun_ext (λ j. turn-β i j))
