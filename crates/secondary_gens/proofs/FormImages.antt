-- Products of forms with their terms are forms, with small exponents.
use Rattle.std.proofs.Common.{◌≡◌, ℕ, ◌+◌, ◌≤◌, List, length, replicate, sym, ap, ap₂, subst, ◌∙◌}
use Rattle.std.specs.Prelude.{All}
use Rattle.alg_core.specs.ExponentLists.{product as list_product, Within}
use Rattle.alg_core.specs.Keys.{key}
use Rattle.alg_core.specs.Monomials.{monomials}
use Rattle.alg_core.specs.Vectors.{Vect, vec}
use Rattle.alg_core.specs.declared.term.Term.{Term}
use Rattle.alg_core.specs.Spaces.{SpaceOver, entries, Fits}
use Rattle.poly_module.specs.Parts.{Supp, supp_product, supp_single}
use Rattle.poly_module.specs.Polynomials.{single_vector, one_vector, product}
use Rattle.poly_module.specs.Products.{one_vector_single}
use Rattle.poly_module.specs.SpaceVectors.{IsPolyOf}
use Rattle.poly_module.proofs.ConstantSteps.{length_zeros, mono_zeros}
use Rattle.poly_module.proofs.ExponentBounds.{Bounded, bounded_products, fits_keys}
use Rattle.invariant_space.specs.InvariantSpaces.{IsOfDegree}
use Rattle.secondary_gens.specs.Images.{IsImage}
use Rattle.secondary_gens.proofs.MonomialDegrees.{of_exponents, of_degree, of_degree_times, bounded_of_degree, total_constant}

pub key_constant : (n : ℕ) → key (0, replicate n 0) ≡ (0, monomials.one)
unfolding key
key_constant = mono_zeros

module _ {E : Type 0} (S : SpaceOver E) where
  abbrev Terms : Type 0
  Terms = List (Term E (List ℕ))

  -- the terms of a form are at position 0
  pub image_made : (d : ℕ) (v : Vect S.field) (p : Terms) → Fits S (entries (λ m. m) p) → vec S.field (entries (λ m. m) p) ≡ v → Supp S.field (IsOfDegree (length S.weights) d) v → IsImage S d v p
  unfolding key
  image_made d v p fits is form = record {
    polynomial = record {
      fits = fits;
      position = fits_keys S (λ t. t.0 ≡ 0) (entries (λ m. m) p) fits (λ t c. (subst (Supp S.field (IsOfDegree (length S.weights) d)) (sym is) form t c).position);
      is = is;
    };
    form = form;
  }

  image_bounded : (d : ℕ) (v : Vect S.field) (p : Terms) → IsImage S d v p → All (λ e. Bounded d (key e.0)) (entries (λ m. m) p)
  image_bounded d v p h = fits_keys S (Bounded d) (entries (λ m. m) p) h.polynomial.fits (λ t c. bounded_of_degree (length S.weights) d t (subst (Supp S.field (IsOfDegree (length S.weights) d)) (sym h.polynomial.is) h.form t c))

  -- a product of forms has small exponents
  pub product_small : (d e cap : ℕ) (u v : Vect S.field) (f p : Terms) → d + e ≤ cap → IsImage S d u f → IsImage S e v p
      → All (λ x. All (λ y. Within cap (list_product x.0.1 y.0.1)) (entries (λ m. m) p)) (entries (λ m. m) f)
  product_small d e cap u v f p le h g = bounded_products cap d e le (entries (λ m. m) f) (entries (λ m. m) p) (image_bounded d u f h) (image_bounded e v p g)

  -- and is a form
  pub product_image : (d e : ℕ) (u v : Vect S.field) (f p r : Terms) → IsImage S d u f → IsImage S e v p → Fits S (entries (λ m. m) r)
      → vec S.field (entries (λ m. m) r) ≡ product S.field (vec S.field (entries (λ m. m) f)) (vec S.field (entries (λ m. m) p)) → IsImage S (d + e) (product S.field u v) r
  product_image d e u v f p r h g fits is =
      let n = length S.weights in
      image_made (d + e) (product S.field u v) r fits (is ∙ ap₂ (product S.field) h.polynomial.is g.polynomial.is)
      (supp_product S.field (IsOfDegree n d) (IsOfDegree n e) (IsOfDegree n (d + e)) (of_degree n (d + e)) (of_degree_times n d e) u v h.form g.form)

  one_form : Supp S.field (IsOfDegree (length S.weights) 0) (one_vector S.field)
  one_form =
      let n = length S.weights in
      subst (Supp S.field (IsOfDegree n 0)) (sym (one_vector_single S.field ∙ ap (single_vector S.field) (sym (key_constant n))))
      (supp_single S.field (IsOfDegree n 0) (key (0, replicate n 0)) (subst (λ d. IsOfDegree n d (key (0, replicate n 0))) (total_constant n) (of_exponents n (replicate n 0) (length_zeros n))))

  -- the terms of 1
  pub one_image : (p : Terms) → IsPolyOf S (λ m. m) (one_vector S.field) p → IsImage S 0 (one_vector S.field) p
  one_image p h = record { polynomial = h; form = one_form }
