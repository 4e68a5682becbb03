-- Words of a list of polynomials, from their combinations of 1.
use Rattle.std.proofs.Common.{◌≡◌, List, [], ◌∷◌, ◌++◌, sym, ap, subst}
use Rattle.std.specs.Prelude.{Option, Some, None}
use Rattle.alg_core.specs.Spaces.{SpaceOver}
use Rattle.alg_core.specs.Vectors.{vec}
use Rattle.poly_module.specs.SpaceVectors.{IsPoly}
use Rattle.poly_module.specs.declared.vector.Comb.{Comb}
use Rattle.secondary_gens.specs.Combined.{IsCombined}
use Rattle.secondary_gens.specs.Forms.{degrees_of}
use Rattle.secondary_gens.specs.Lists.{Each}
use Rattle.secondary_gens.proofs.RowSteps.{copied_poly}
use Rattle.irreducible_gens.specs.Words.{word_space, IsPrintedWord, IsVectorOf, IsWordOf}
use Rattle.irreducible_gens.proofs.Generators.{unit}
use Rattle.irreducible_gens.proofs.UnitSteps.{Terms, x, xs}
use Rattle.irreducible_gens.proofs.WordSteps.{word_fits, printed_word_at, no_word_at}

-- one relation after another
pub each_after : {A B C : Type 0} (P : A → B → Type 0) (Q : B → C → Type 0) (R : A → C → Type 0) → ((a : A) (b : B) (c : C) → P a b → Q b c → R a c)
    → (xs : List A) (ys : List B) (zs : List C) → Each P xs ys → Each Q ys zs → Each R xs zs
each_after P Q R go [] [] [] p q = tt
each_after P Q R go [] [] (z ∷ zs) p q = absurd q
each_after P Q R go [] (y ∷ ys) zs p q = absurd p
each_after P Q R go (x ∷ xs) [] zs p q = absurd p
each_after P Q R go (x ∷ xs) (y ∷ ys) [] p q = absurd q
each_after P Q R go (x ∷ xs) (y ∷ ys) (z ∷ zs) p q = (go x y z p.0 q.0, each_after P Q R go xs ys zs p.1 q.1)

module _ {E : Type 0} (S : SpaceOver E) (theta irr generators one : List (Terms S)) (vectors : xs S generators ≡ xs S theta ++ xs S irr) (ones : xs S one ≡ unit S.field)
    (degrees : degrees_of generators ≡ degrees_of theta ++ degrees_of irr) (zeros : degrees_of one ≡ 0 ∷ []) where
  pub word_made : (f : Terms S) (o : Option (Comb E)) (w : Option (Terms S)) → IsCombined S generators one f o → IsVectorOf o w → IsWordOf S theta irr f w
  word_made f None None h e = record { none = no_word_at S.field (xs S generators) (xs S one) (xs S theta) (xs S irr) (x S f) vectors ones h.none; polynomial = tt; printed = tt }
  word_made f None (Some w) h e = absurd e
  word_made f (Some c) None h e = absurd e
  word_made f (Some c) (Some w) h e = record {
    none = tt;
    polynomial = subst (λ ws. IsPoly (word_space S.field ws) (λ m. m) w) degrees
        (copied_poly (word_space S.field (degrees_of generators)) c.vector w e (word_fits S.field (degrees_of generators) (degrees_of one) c.vector zeros h.fits));
    printed = subst (IsPrintedWord S.field (degrees_of theta ++ degrees_of irr) (xs S theta) (xs S irr) (x S f)) (sym (ap (vec S.field) e))
        (printed_word_at S.field (xs S generators) (xs S one) (xs S theta) (xs S irr) (degrees_of generators) (degrees_of one) (degrees_of theta ++ degrees_of irr) (x S f) (x S c.vector)
        vectors ones degrees zeros h.printed);
  }
