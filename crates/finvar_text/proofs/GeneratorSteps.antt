-- Generators: their entries modulo the characteristic, their sizes and names, and which has no inverse.
use Rattle.std.proofs.Common.{◌≡◌, ◌∙◌, ℕ, ◌-◌, ◌*◌, ◌%◌, ◌<◌, Bool, true, false, nat_lt, List, [], length, map, get_or, cond, sym, ap, ap₂, subst}
use Rattle.std.specs.Prelude.{All}
use Rattle.std.proofs.lemmas.List.{length-map}
use Rattle.std.proofs.lemmas.List.Elements.{All-map}
use mathlib.Core.Bool.{Bool-set}
use Rattle.alg_core.specs.Fields.{Has, Scalar, scalars}
use Rattle.lin_algebra.specs.Matrices.{IsMatrix, IsInverse, entries, cut}
use Rattle.lin_algebra.specs.Vectors.{vector}
use Rattle.lin_algebra.specs.declared.matrix.Matrix as lin
use Rattle.prime_field.specs.ListedPrimes.{is_listed}
use Rattle.prime_field.specs.PrimeFields.{gfp, residue_test, listed_positive}
use Rattle.prime_field.specs.Residues.{neg_mod}
use Rattle.std.specs.Prelude.{slice_index_or}
use Rattle.finvar_text.specs.declared.syntax.EntryText.{EntryText}
use Rattle.finvar_text.specs.Conditions.{value, residue, cells, IsNonsingularModulo}
use Rattle.finvar_text.specs.Scripts.{sized_cells, generator, IsInvertible}
use Rattle.finvar_text.specs.Syntax.{Entry, Matrix}
use Rattle.finvar_text.specs.Trees.{entry_of, entries_of}

residue_has : (p : ℕ) (e : Entry) → 0 < p → nat_lt (residue p e) p ≡ true
residue_has p e positive = go e.is_negative
  where
    go : (b : Bool) → nat_lt (cond b (neg_mod p (value e.digits % p)) (value e.digits % p)) p ≡ true
    go true = residue_test p (p - value e.digits % p) positive
    go false = residue_test p (value e.digits) positive

-- the matrix over the field is one
pub matrix_is : (p n : ℕ) (listed : is_listed p ≡ true) (g : lin.Matrix ℕ) (es : List EntryText) → length es ≡ n * n → g.rows ≡ n → g.cols ≡ n → g.cells.items ≡ map (residue p) (entries_of es) → IsMatrix (gfp p listed) g
matrix_is p n listed g es size rows cols is = record {
  whole = ap length is ∙ length-map (entries_of es) (residue p) ∙ length-map es entry_of ∙ size ∙ sym (ap₂ (λ a b. a * b) rows cols);
  has = subst (All (Has (gfp p listed))) (sym is) (All-map (Has (gfp p listed)) (residue p) (entries_of es) (λ i d below. residue_has p (get_or (entries_of es) i d) (listed_positive p listed)));
}

abbrev Inverse : (p : ℕ) → is_listed p ≡ true → ℕ × ℕ × List ℕ → Type 0
Inverse p listed t = (b : ℕ → ℕ → Scalar (gfp p listed)) × IsInverse (scalars (gfp p listed)) t.0 (λ i. vector (gfp p listed) (slice_index_or (cut t.0 t.1 t.2) i [])) b

-- an inverse over the field is one of the tree's matrix
pub has_inverse : (p n : ℕ) (listed : is_listed p ≡ true) (g : lin.Matrix ℕ) (m : Matrix) → sized_cells g ≡ generator p n m → (b : ℕ → ℕ → Scalar (gfp p listed)) → IsInverse (scalars (gfp p listed)) g.rows (entries (gfp p listed) g) b → IsNonsingularModulo p n (cells p m)
has_inverse p n listed g m e b inverse = let h = subst (Inverse p listed) e (b, inverse) in (listed, h.0, h.1)

pub no_inverse : (p n : ℕ) (listed : is_listed p ≡ true) (g : lin.Matrix ℕ) (m : Matrix) → sized_cells g ≡ generator p n m → ((b : ℕ → ℕ → Scalar (gfp p listed)) → ¬ IsInverse (scalars (gfp p listed)) g.rows (entries (gfp p listed) g) b) → ¬ IsNonsingularModulo p n (cells p m)
no_inverse p n listed g m e none h =
    let here : Inverse p listed (generator p n m) = subst (λ l. Inverse p l (generator p n m)) (Bool-set _ _ h.0 listed) (h.1, h.2) in
    let found = subst (Inverse p listed) (sym e) here in
    none found.0 found.1

-- an invertible matrix over the field has the inverse of the tree's
pub invertible_has : (p n : ℕ) (g : lin.Matrix ℕ) (m : Matrix) → sized_cells g ≡ generator p n m → IsInvertible p g → IsNonsingularModulo p n (cells p m)
invertible_has p n g m e h = has_inverse p n h.0 g m e h.3 h.4

pub invertible_is : (p n : ℕ) (listed : is_listed p ≡ true) (g : lin.Matrix ℕ) (m : Matrix) → sized_cells g ≡ generator p n m → IsMatrix (gfp p listed) g → (b : ℕ → ℕ → Scalar (gfp p listed)) → IsInverse (scalars (gfp p listed)) g.rows (entries (gfp p listed) g) b → IsInvertible p g
invertible_is p n listed g m e matrix b inverse = (listed, matrix, ap (λ (t : ℕ × ℕ × List ℕ). t.0) e ∙ sym (ap (λ (t : ℕ × ℕ × List ℕ). t.1) e), b, inverse)
