-- Lists of terms that are those of a given vector; where the vector is a polynomial, they are those of a polynomial.
use Rattle.std.proofs.Common.{◌≡◌, ℕ, List, sym, ap, subst, ◌∙◌}
use Rattle.alg_core.specs.Keys.{Key, key}
use Rattle.alg_core.specs.ModuleLaws as modules
use Rattle.alg_core.specs.Fields.{FieldOn}
use Rattle.alg_core.specs.Vectors.{Vect, vectors, plus}
use Rattle.alg_core.specs.declared.term.Term.{Term}
use Rattle.alg_core.specs.Spaces.{SpaceOver, entries}
use Rattle.alg_core.proofs.VectorLaws.{plus_comm, plus_cancel}
use Rattle.poly_module.specs.Parts.{Supp, IsPolynomial, supp_plus, supp_act}
use Rattle.poly_module.specs.Signs.{minus}
use Rattle.poly_module.specs.SpaceVectors.{vector_of, IsVector, IsVectorOf, IsPoly, IsPolyOf}
use Rattle.poly_module.proofs.ExponentBounds.{vec_supp, fits_keys}

module _ {E : Type 0} (k : FieldOn E) where
  -- a difference with what was taken away
  pub minus_plus : (u v : Vect k) → plus k (minus k u v) v ≡ u
  unfolding minus plus
  minus_plus u v = (vectors k).add_assoc u (modules.minus (vectors k) v) v ∙ ap ((vectors k).◌+◌ u) (modules.minus_add (vectors k) v) ∙ (vectors k).add_zero u

  -- and what gives the sum is the difference
  pub minus_unique : (w u v : Vect k) → plus k w v ≡ u → w ≡ minus k u v
  minus_unique w u v e = plus_cancel k v w (minus k u v) (plus_comm k v w ∙ e ∙ sym (minus_plus u v) ∙ plus_comm k (minus k u v) v)

  -- a difference of vectors whose keys satisfy Q
  pub supp_minus : (Q : Key → Type 0) (u v : Vect k) → Supp k Q u → Supp k Q v → Supp k Q (minus k u v)
  unfolding minus
  supp_minus Q u v h g = supp_plus k Q u (modules.minus (vectors k) v) h (subst (Supp k Q) (sym (modules.minus_is (vectors k) v)) (supp_act k Q _ v g))

module _ {E M : Type 0} (S : SpaceOver E) (exps : M → List ℕ) where
  -- terms that fit, and their vector
  pub vector_given : (u : Vect S.field) (v : List (Term E M)) → IsVector S exps v → vector_of S exps v ≡ u → IsVectorOf S exps u v
  unfolding key
  vector_given u v fits is = record { fits = fits; is = is; position = λ p. fits_keys S (λ t. t.0 ≡ 0) (entries exps v) fits (subst (IsPolynomial S.field) (sym is) p) }

  -- the vector of a polynomial
  pub is_polynomial : (p : List (Term E M)) → IsPoly S exps p → IsPolynomial S.field (vector_of S exps p)
  unfolding key
  is_polynomial p h = vec_supp S.field (λ t. t.0 ≡ 0) (entries exps p) h.position

  -- a polynomial that is given
  pub poly_given : (u : Vect S.field) (p : List (Term E M)) → IsVectorOf S exps u p → IsPolynomial S.field u → IsPolyOf S exps u p
  poly_given u p h z = record { fits = h.fits; position = h.position z; is = h.is }

  pub poly_of : (u : Vect S.field) (p : List (Term E M)) → IsPolyOf S exps u p → IsPoly S exps p
  poly_of u p h = record { fits = h.fits; position = h.position }

  pub vector_is : (u : Vect S.field) (p : List (Term E M)) → IsPolyOf S exps u p → IsVectorOf S exps u p
  vector_is u p h = vector_given u p h.fits h.is
