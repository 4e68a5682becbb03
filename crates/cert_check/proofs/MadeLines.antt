-- Lines of a kernel are told by what their members stand for.
use Rattle.std.proofs.Common.{◌≡◌, ◌∙◌, ℕ, List, length, map, refl, sym, ap, ap₂, subst}
use Rattle.std.specs.Prelude.{IfSome, Option, Some, None, is_some, slice_get}
use Rattle.std.proofs.lemmas.List.{length-map}
use Rattle.alg_core.specs.Fields.{FieldOn}
use Rattle.alg_core.specs.Vectors.{Vect}
use Rattle.alg_core.specs.declared.term.Term.{Term}
use Rattle.poly_module.specs.declared.vector.Comb.{Comb}
use Rattle.poly_module.specs.Combinations.{mark_value}
use Rattle.poly_module.specs.Forms.{AreForms}
use Rattle.poly_module.specs.SpaceVectors.{IsPoly, IsVector}
use Rattle.lin_algebra.specs.declared.matrix.Matrix.{Matrix}
use Rattle.secondary_gens.proofs.OnePrinted.{printed_unique}
use Rattle.certificate_io.specs.Certificates.{CertificateOf}
use Rattle.certificate_io.specs.declared.evidence.Line.{Line}
use Rattle.syzygy_kernel.specs.declared.member.Member.{Member}
use Rattle.cert_check.specs.Parts.{size, polynomial, primaries, secondaries, degrees, secondary_degrees, members}
use Rattle.cert_check.specs.WellFormed.{marked, combined}
use Rattle.cert_check.specs.Makings.{IsPrinted, IsFixedLine}
use Rattle.cert_check.proofs.MadePlaces.{same_some, place_map}
use Rattle.cert_check.proofs.MadeLists.{one_terms}

abbrev member_of : Line ℕ → Member ℕ
member_of l = record { u = l.u; is_fixed = is_some l.comb }

module _ {A : Type 0} (f : Member ℕ → A) (xs ys : List (Line ℕ)) where
  -- of lists whose members are told alike, so are the members at one place
  pub alike : (j : ℕ) (x y : Line ℕ) → slice_get xs j ≡ Some x → slice_get ys j ≡ Some y → map f (members xs) ≡ map f (members ys) → f (member_of x) ≡ f (member_of y)
  alike j x y p q e = same_some (f (member_of x)) (f (member_of y))
      (sym (place_map f (members xs) j (member_of x) (place_map member_of xs j x p)) ∙ ap (λ l. slice_get l j) e
      ∙ place_map f (members ys) j (member_of y) (place_map member_of ys j y q))

  pub same_count : map f (members xs) ≡ map f (members ys) → length xs ≡ length ys
  same_count e = sym (length-map xs member_of) ∙ sym (length-map (members xs) f) ∙ ap length e ∙ length-map (members ys) f ∙ length-map ys member_of

made_line : List (Term ℕ (List ℕ)) → Option (Comb ℕ) → Line ℕ
made_line u x = record { u = u; comb = x }

made_combination : List (Term ℕ (List ℕ)) → Option (Comb ℕ)
made_combination v = Some (record { vector = v })

module _ (k : FieldOn ℕ) (gens : List (Matrix ℕ)) (c : CertificateOf ℕ) (ws : List ℕ)
    (forms : AreForms k ws (degrees c) (primaries k c)) (secondary_forms : AreForms k ws (secondary_degrees c) (secondaries k c)) where
  abbrev Fits : Comb ℕ → Type 0
  Fits x = IsVector (combined k c) (λ m. m) x.vector

  -- there is one printed combination, where there is any
  one_printed : (f : Vect k) (x y : Option (Comb ℕ)) → IfSome x Fits → IfSome y Fits → IfSome x (IsPrinted k gens c f) → IfSome y (IsPrinted k gens c f)
      → is_some x ≡ is_some y → x ≡ y
  unfolding made_combination
  one_printed f None None a b h g e = refl
  one_printed f None (Some y) a b h g e = absurd cc
  one_printed f (Some x) None a b h g e = absurd cc
  one_printed f (Some x) (Some y) a b h g e = ap made_combination (one_terms (combined k c) x.vector y.vector a b
      (printed_unique k ws (degrees c) (secondary_degrees c) (primaries k c) (secondaries k c) forms secondary_forms f (polynomial k x.vector) (polynomial k y.vector) h g))

  pub one_line : (x y : Line ℕ) → IsPoly (marked k c) (λ m. m) x.u → IsPoly (marked k c) (λ m. m) y.u → IfSome x.comb Fits → IfSome y.comb Fits
      → IsFixedLine k gens c x → IsFixedLine k gens c y → polynomial k x.u ≡ polynomial k y.u → is_some x.comb ≡ is_some y.comb → x ≡ y
  unfolding made_line
  one_line x y p q a b h g e s =
      let same : x.u ≡ y.u = one_terms (marked k c) x.u y.u p.fits q.fits e in
      ap₂ made_line same (one_printed (mark_value k (size c) (primaries k c) (polynomial k x.u)) x.comb y.comb a b h
      (subst (λ (u : List (Term ℕ (List ℕ))). IfSome y.comb (IsPrinted k gens c (mark_value k (size c) (primaries k c) (polynomial k u)))) (sym same) g) s)
