-- The pieces of a demonstration.
use Rattle.std.proofs.Common.{◌≡◌, ◌∙◌, ℕ, ◌+◌, ◌*◌, List, [], ◌∷◌, ◌++◌, map, sym, ap, arith}
use Rattle.std.specs.Prelude.{codes}
use Rattle.std.specs.List.{flat_map, range_with_len}
use Rattle.std.proofs.lemmas.List.FromFn.{map-range_with_len_more}
use Rattle.std.proofs.lemmas.Simd.{map-map}
use Rattle.finvar_text.specs.Demos.{cell, exchange, letters, ring_line, separated}

-- each byte after a comma
abbrev pub after_commas : List ℕ → List ℕ
after_commas bs = flat_map (λ c. 44 ∷ c ∷ []) bs

pub digits_more : (n place d : ℕ) (ds : List ℕ) → d ≡ 48 + cell n place → ds ≡ map (λ c. 48 + cell n c) (range_with_len 0 place) → ds ++ d ∷ [] ≡ map (λ c. 48 + cell n c) (range_with_len 0 (place + 1))
digits_more n place d ds one is =
    ap (λ (l : List ℕ). l ++ d ∷ []) is ∙ ap (λ (x : ℕ). map (λ c. 48 + cell n c) (range_with_len 0 place) ++ x ∷ []) one ∙ sym (map-range_with_len_more (λ c. 48 + cell n c) 0 place place (omega arith))

pub digits_are : (n : ℕ) (ds : List ℕ) (m : ℕ) → m ≡ n * n → ds ≡ map (λ c. 48 + cell n c) (range_with_len 0 m) → ds ≡ map (λ c. 48 + c) (exchange n)
unfolding exchange
digits_are n ds m all is = is ∙ ap (λ (k : ℕ). map (λ c. 48 + cell n c) (range_with_len 0 k)) all ∙ sym (map-map (λ c. 48 + c) (cell n) (range_with_len 0 (n * n)))

-- the pieces of the line of the ring
pub ring_is : (n m : ℕ) (names seen a b c : List ℕ) → m ≡ n → names ≡ separated (letters m) → seen ≡ names → a ≡ codes "ring R=2,(" → b ≡ a ++ seen → c ≡ b ++ (codes "),dp;" ++ 10 ∷ []) → c ≡ ring_line n
unfolding ring_line
ring_is n m names seen a b c same is read first second third =
    third
    ∙ ap (λ (t : List ℕ). t ++ (codes "),dp;" ++ 10 ∷ []))
    (second ∙ ap (λ (t : List ℕ). t ++ seen) first ∙ ap (λ (t : List ℕ). codes "ring R=2,(" ++ t) (read ∙ is ∙ ap (λ (i : ℕ). separated (letters i)) same))
