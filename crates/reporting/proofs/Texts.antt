-- Laws of a text: bytes put after one another, and the finished text that holds them all.
use Rattle.std.specs.Prelude.{Result, Ok, Err, IsOk, OnOk, OnErr}
use Rattle.arrayvec.specs.ArrayVec.{ArrayVec}
use mathlib.Core.Path.{◌≡◌, refl, sym, ap, ap₂, ◌∙◌}
use mathlib.Core.List.{List, [], ◌∷◌, ◌++◌, append_assoc, append-nil}
use Prim.Native.Nat.{ℕ, ◌+◌, ◌-◌, ◌<◌, ◌≤◌}
use native.Mathlib.Omega.{arith}
use native.Mathlib.Numerals.{add-one}
use lib.ListN.{length, get_or, drop, replicate, length-append}
use lib.Seq.{drop-cons}
use Rattle.std.proofs.lemmas.List.{drop-replicate}
use borrow.Author.Tests.{lt-ltb, le-ltb}
use Rattle.io.specs.Digits.{last_digits, IsDigitCount}
use Rattle.io.specs.Counts.{IsPrefixLen}
use Rattle.io.proofs.Counting.{prefix_len_of_le}
use Rattle.reporting.specs.declared.text.Text.{Text}
use Rattle.reporting.specs.Text.{ascii, decimal, spaced, line, room, text_of}
use Rattle.reporting.specs.Steps.{pushed, appended}
use Rattle.reporting.proofs.Decimals.{count-is}

pub appended-none : (t : List ℕ) → appended t [] ≡ t
unfolding appended
appended-none t = refl

pub appended_one : (t : List ℕ) (b : ℕ) → appended t (b ∷ []) ≡ pushed t b
unfolding appended
appended_one t b = refl

pub appended-more : (t : List ℕ) (x y : List ℕ) → appended (appended t x) y ≡ appended t (x ++ y)
unfolding appended
appended-more t [] y = refl
appended-more t (b ∷ x) y = appended-more (pushed t b) x y

-- a loop over the bytes of a list
pub appended-step : (t : List ℕ) (l : List ℕ) (i : ℕ) → i < length l → appended (pushed t (get_or l i 0)) (drop (i + 1) l) ≡ appended t (drop i l)
unfolding appended
appended-step t l i h = rw (add-one, drop-cons l i 0 h)

-- bytes put after others, where there is room for all
pub appended-text : (x y : List ℕ) → length (x ++ y) ≤ room → appended x y ≡ x ++ y
unfolding appended pushed
appended-text x [] h = sym (append-nil x)
appended-text x (b ∷ y) h =
    let e : (x ++ (b ∷ [])) ++ y ≡ x ++ (b ∷ y) = append_assoc x (b ∷ []) y in
    rw (lt-ltb (length x) room (omega (arith, length-append x (b ∷ y)))) (appended-text (x ++ (b ∷ [])) y (rw e h) ∙ e)

-- a byte that is put where there is room
pub pushed-tried : {A B : Type 0} (r : Result A B) (x y : ArrayVec ℕ) (b : ℕ) → (IsOk r → length x.items < room) → OnOk r (y.items ≡ x.items ++ (b ∷ [])) → OnErr r (length x.items ≡ room) → OnErr r (y ≡ x) → y.items ≡ pushed x.items b
unfolding pushed
pushed-tried (Ok a) x y b few new full same = rw (lt-ltb (length x.items) room (few refl)) new
pushed-tried (Err e) x y b few new full same = rw (le-ltb (length x.items) room (omega (arith, full))) (ap (λ (v : ArrayVec ℕ). v.items) same)

-- a space and a number, for which the kit has k digits
pub number_put : (t : List ℕ) {u : List ℕ} (n k : ℕ) {l : List ℕ} → u ≡ pushed t 32 → IsDigitCount 10 1 n k → l ≡ last_digits 10 k n → appended u l ≡ appended t (spaced (n ∷ []))
unfolding appended spaced decimal
number_put t n k p few e = ap₂ appended p (e ∙ ap (λ j. last_digits 10 j n) (count-is n k few) ∙ sym (append-nil _))

pub number_more : (t : List ℕ) (a b : ℕ) → appended (appended t (spaced (a ∷ []))) (spaced (b ∷ [])) ≡ appended t (spaced (a ∷ b ∷ []))
number_more t a b = appended-more t (spaced (a ∷ [])) (spaced (b ∷ [])) ∙ ap (appended t) (unfold spaced in ap (λ l. ascii " " ++ (l ++ spaced (b ∷ []))) (append-nil (decimal a)))

-- a word, its numbers and the line's end
pub line-put : (t : List ℕ) (word ns : List ℕ) → pushed (appended (appended t word) (spaced ns)) 10 ≡ appended t (line word ns)
unfolding line
line-put t word ns =
    sym (appended_one _ 10) ∙ ap (λ u. appended u (ascii "\n")) (appended-more t word (spaced ns)) ∙ appended-more t (word ++ spaced ns) (ascii "\n") ∙ ap (appended t) (append_assoc word (spaced ns) (ascii "\n"))

-- bytes put over the front of zeros
pub text-filled : (l : List ℕ) {front : List ℕ} {n : ℕ} → front ≡ l → n ≡ length l → ◌≡◌ {A = Text} (record { bytes = front ++ drop n (replicate room 0); length = n }) (text_of l)
text-filled l e q = ap₂ (λ b n. record { bytes = b ++ drop n (replicate room 0); length = n }) e q ∙ ap (λ z. record { bytes = l ++ z; length = length l }) (drop-replicate (length l) room 0)

-- the bytes of a finished text hold it
pub text-fits : (l : List ℕ) {t : Text} → t ≡ text_of l → IsPrefixLen t.length t.bytes
text-fits l e = rw e (prefix_len_of_le _ _ (omega (arith, length-append l (replicate (room - length l) 0))))
