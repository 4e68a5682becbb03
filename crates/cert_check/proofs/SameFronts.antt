-- Lists that are compared place by place; monomials of lines.
use Rattle.std.proofs.Common.{◌≡◌, ◌∙◌, ◌+◌, ◌<◌, ◌≤◌, ℕ, zero, suc, List, [], ◌∷◌, ◌++◌, length, take, get_or, refl, sym, ap, ap₂, arith}
use Rattle.std.proofs.lemmas.List.{get_or-map, length-map, take_all, take_more}
use Rattle.certificate_io.specs.declared.evidence.Image.{Image}
use Rattle.cert_check.specs.Parts.{monomials}

module _ {A : Type 0} (xs ys : List A) (i : ℕ) where
  pub front_more : (x y d e : A) → i < length xs → i < length ys → x ≡ get_or xs i d → y ≡ get_or ys i e → x ≡ y → take i xs ≡ take i ys → take (i + 1) xs ≡ take (i + 1) ys
  front_more x y d e l m p q same h =
      take_more xs i d l ∙ ap₂ (λ zs z. zs ++ z ∷ []) h (sym p ∙ same ∙ q) ∙ sym (take_more ys i e m)

  pub front_whole : length xs ≡ length ys → length xs ≤ i → take i xs ≡ take i ys → xs ≡ ys
  front_whole e past h = sym (take_all i xs past) ∙ h ∙ take_all i ys (omega (arith, e, past))

  pub front_differs : (x y d e : A) → i < length xs → x ≡ get_or xs i d → y ≡ get_or ys i e → ¬ (x ≡ y) → ¬ (xs ≡ ys)
  front_differs x y d e l p q n same = n (p ∙ default xs i d e l ∙ ap (λ zs. get_or zs i e) same ∙ sym q)
    where
      default : (zs : List A) (j : ℕ) (d e : A) → j < length zs → get_or zs j d ≡ get_or zs j e
      default [] j d e h = absurd (omega arith)
      default (z ∷ zs) zero d e h = refl
      default (z ∷ zs) (suc j) d e h = default zs j d e (omega arith)

-- the monomial of a line
pub line_mono : (xs : List (Image ℕ)) (i : ℕ) (x : Image ℕ) → i < length xs → x ≡ get_or xs i x → x.mono ≡ get_or (monomials xs) i x.mono
line_mono xs i x l read = ap (λ (y : Image ℕ). y.mono) read ∙ sym (get_or-map (λ (y : Image ℕ). y.mono) xs i x x.mono l)

pub monomials_length : (xs : List (Image ℕ)) → length (monomials xs) ≡ length xs
monomials_length xs = length-map xs (λ (y : Image ℕ). y.mono)
