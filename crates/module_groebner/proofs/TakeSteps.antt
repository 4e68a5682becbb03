-- An item that is taken off, against what is seen of the list.
use Rattle.std.proofs.Common.{◌≡◌, ◌<◌, ℕ, zero, suc, List, [], ◌∷◌, map, length, get_or, swap_remove, sym, ap, ◌∙◌, refl, subst, arith}
use Rattle.std.specs.List.Sorted.{IsPermutation}
use Rattle.std.proofs.lemmas.List.Sorted.{IsPermutation-map, IsPermutation-swap_remove}
use Rattle.module_groebner.proofs.Families.{length_map}
use Rattle.module_groebner.proofs.CompletionSteps.{mapped_at}

pub taken_mapped : {A B : Type 0} (f : A → B) (xs : List A) (ys : List B) (zs : List A) (i : ℕ) (x : A) (d : B) → map f xs ≡ ys → i < length ys → x ≡ get_or xs i x → zs ≡ swap_remove xs i x
    → IsPermutation ys (get_or ys i d ∷ map f zs)
taken_mapped f xs ys zs i x d e h at is =
    subst (λ y. IsPermutation ys (y ∷ map f zs)) (sym (mapped_at f xs ys i x d e h at))
    (subst (λ l. IsPermutation l (f x ∷ map f zs)) e
    (subst (λ l. IsPermutation (map f xs) (f x ∷ map f l)) (sym is)
    (IsPermutation-map f xs (x ∷ swap_remove xs i x) (IsPermutation-swap_remove xs i x (let n = length_map f xs in let m = ap length e in omega arith) at))))

same : {A : Type 0} (xs : List A) (i : ℕ) (a b : A) → i < length xs → get_or xs i a ≡ get_or xs i b
same [] i a b h = absurd (omega arith)
same (y ∷ xs) zero a b h = refl
same (y ∷ xs) (suc i) a b h = same xs i a b (omega arith)

pub taken_plain : {A : Type 0} (xs ys zs : List A) (i : ℕ) (x d : A) → xs ≡ ys → i < length ys → x ≡ get_or xs i x → zs ≡ swap_remove xs i x → IsPermutation ys (get_or ys i d ∷ zs)
taken_plain xs ys zs i x d e h at is =
    subst (λ l. IsPermutation l (get_or l i d ∷ zs)) e
    (subst (λ y. IsPermutation xs (y ∷ zs)) (at ∙ same xs i x d (let m = ap length e in omega arith))
    (subst (λ l. IsPermutation xs (x ∷ l)) (sym is) (IsPermutation-swap_remove xs i x (let m = ap length e in omega arith) at)))
