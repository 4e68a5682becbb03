-- The printed combination of 1 is the printed word.
use Rattle.std.proofs.Common.{◌≡◌, inl, inr, ℕ, ◌+◌, List, [], ◌∷◌, ◌++◌, length, map, sym, ap, ap₂, ◌∙◌, refl, subst, arith}
use Rattle.std.specs.Prelude.{All}
use Rattle.std.proofs.lemmas.List.Elements.{All-nil, All-cons}
use Rattle.alg_core.specs.Fields.{FieldOn}
use Rattle.alg_core.specs.Keys.{Key}
use Rattle.alg_core.specs.Lists.{In}
use Rattle.alg_core.specs.SpaceGrading.{height}
use Rattle.alg_core.specs.Spaces.{Fits, entries}
use Rattle.alg_core.specs.Vectors.{Vect, Entry}
use Rattle.alg_core.specs.declared.term.Term.{Term}
use Rattle.poly_module.specs.Choices.{IsSpannedBefore}
use Rattle.poly_module.specs.Combinations.{Over, term_value}
use Rattle.poly_module.specs.Echelons.{Spans}
use Rattle.poly_module.specs.SpaceVectors.{IsVector, IsPoly}
use Rattle.secondary_gens.specs.PrintedCombinations.{combination_space, IsTermBefore, IsPrintedCombination}
use Rattle.irreducible_gens.specs.Algebras.{InAlgebra}
use Rattle.irreducible_gens.specs.Words.{word_space, word_value, IsMonomialBefore, IsPrintedWord}
use Rattle.irreducible_gens.proofs.Generators.{unit, unit_term, unit_value, unit_polynomial, polynomial_over}

module _ {E : Type 0} (k : FieldOn E) (ds : List ℕ) where
  -- a combination of one polynomial is a polynomial
  pub word_fits : (es : List ℕ) (v : List (Term E (List ℕ))) → es ≡ 0 ∷ [] → IsVector (combination_space k ds es) (λ m. m) v → IsPoly (word_space k ds) (λ m. m) v
  word_fits es v e h =
      let fits : IsVector (word_space k ds) (λ m. m) v = subst (λ l. IsVector (combination_space k ds l) (λ m. m) v) e h in
      record { fits = fits; position = positions (entries (λ m. m) v) fits }
    where
      positions : (l : List (Entry E)) → Fits (word_space k ds) l → All (λ a. a.0.0 ≡ 0) l
      positions [] f = All-nil (λ a. a.0.0 ≡ 0)
      positions (a ∷ l) f = All-cons (λ a. a.0.0 ≡ 0) a l (let q = f.0.place.low in omega arith) (positions l f.2)

  module _ (θ Q : List (Vect k)) where
    abbrev G : List (Vect k)
    G = θ ++ Q

    same_values : (ts : List Key) → ((s : Key) → In s ts → s.0 ≡ 0) → map (word_value k θ Q) ts ≡ map (term_value k G (unit k)) ts
    same_values [] h = refl
    same_values (t ∷ ts) h = ap₂ ◌∷◌ (sym (unit_term k G t (h t (inl refl)))) (same_values ts (λ s i. h s (inr i)))

    spanned : (t : Key) → t.0 ≡ 0 → IsSpannedBefore k (word_value k θ Q) (IsMonomialBefore k ds) t → IsSpannedBefore k (term_value k G (unit k)) (IsTermBefore k ds (0 ∷ [])) t
    spanned t z a = (a.0, before, subst (Spans k (map (term_value k G (unit k)) a.0)) (sym (unit_term k G t z)) (subst (λ l. Spans k l (word_value k θ Q t)) (same_values a.0 (λ s i. (a.1 s i).position)) a.2))
      where
        before : (s : Key) → In s a.0 → IsTermBefore k ds (0 ∷ []) s t
        before s i =
            let b = a.1 s i in
            let p = b.position in
            record { variables = b.variables; position = omega arith; degree = ap₂ ◌+◌ b.degree (ap (height (0 ∷ [])) (p ∙ sym z)); before = inr (p ∙ sym z, b.smaller) }

    pub printed_word : (f c : Vect k) → IsPrintedCombination k ds (0 ∷ []) G (unit k) f c → IsPrintedWord k ds θ Q f c
    printed_word f c h =
        let polynomial = unit_polynomial k (length G) c h.combination in
        record {
          word = record { polynomial = polynomial; variables = λ t n. (h.combination t n).0 };
          value = sym (unit_value k G c polynomial) ∙ h.value;
          first = λ t n a. h.first t n (spanned t (polynomial t n) a);
        }

-- the same for equal lists
pub printed_word_at : {E : Type 0} (k : FieldOn E) (G T θ Q : List (Vect k)) (ds es ws : List ℕ) (f c : Vect k) → G ≡ θ ++ Q → T ≡ unit k → ds ≡ ws → es ≡ 0 ∷ []
    → IsPrintedCombination k ds es G T f c → IsPrintedWord k ws θ Q f c
printed_word_at k G T θ Q ds es ws f c g t d e h =
    printed_word k ws θ Q f c (subst (λ l. IsPrintedCombination k ws (0 ∷ []) l (unit k) f c) g (subst (λ l. IsPrintedCombination k ws (0 ∷ []) G l f c) t
    (subst (λ l. IsPrintedCombination k l (0 ∷ []) G T f c) d (subst (λ l. IsPrintedCombination k ds l G T f c) e h))))

pub no_word_at : {E : Type 0} (k : FieldOn E) (G T θ Q : List (Vect k)) (f : Vect k) → G ≡ θ ++ Q → T ≡ unit k → ¬ Over k G T f → ¬ InAlgebra k θ Q f
no_word_at k G T θ Q f g t n a = n (subst (λ l. Over k G l f) (sym t) (subst (λ l. Over k l (unit k) f) (sym g) (polynomial_over k (θ ++ Q) f a)))
