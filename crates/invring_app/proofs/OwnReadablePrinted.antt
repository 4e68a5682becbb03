-- What is printed of a form is homogeneous: a combination, and a word.
use Rattle.std.proofs.Common.{◌≡◌, ◌∙◌, ℕ, ◌<◌, ◌≤◌, List, ◌++◌, length, sym, ap, subst}
use Rattle.alg_core.specs.Fields.{FieldOn}
use Rattle.alg_core.specs.SpaceGrading.{degree}
use Rattle.alg_core.specs.Vectors.{Vect}
use Rattle.poly_module.specs.Combinations.{combination_degree, term_value}
use Rattle.poly_module.specs.Choices.{IsSpannedBefore}
use Rattle.poly_module.specs.Degrees.{IsHomogeneous, IsGraded, graded_part, graded_part_all, graded_part_graded, graded_part_supp}
use Rattle.poly_module.specs.Forms.{AreForms, IsForm, key_weight, form_part, part_substitute}
use Rattle.poly_module.proofs.CombinationLaws.{combination_value_part}
use Rattle.secondary_gens.specs.PrintedCombinations.{combination_space, IsPrintedCombination, IsTermBefore}
use Rattle.secondary_gens.proofs.OnePrinted.{printed_unique}
use Rattle.irreducible_gens.specs.Words.{IsPrintedWord, IsMonomialBefore, word_value}
use Rattle.irreducible_gens.proofs.OneWord.{one_word}

module _ {E : Type 0} (k : FieldOn E) (ws : List ℕ) where
  -- a form is its own part
  form-own : (d : ℕ) (f : Vect k) → IsForm k ws d f → form_part k ws d f ≡ f
  form-own d f h = graded_part_all k (key_weight ws) d f (λ t c. (h t c).1)

  -- a combination
  module _ (ds es : List ℕ) (θ S : List (Vect k)) (forms : AreForms k ws ds θ) (others : AreForms k ws es S) where
    pub printed-graded : (d : ℕ) (f c : Vect k) → IsForm k ws d f → IsPrintedCombination k ds es θ S f c → IsGraded k (combination_degree ds es) d c
    printed-graded d f c form printed =
        subst (IsGraded k (combination_degree ds es) d) (printed_unique k ws ds es θ S forms others f part c again printed)
        (graded_part_graded k (combination_degree ds es) d c)
      where
        part : Vect k
        part = graded_part k (combination_degree ds es) d c

        again : IsPrintedCombination k ds es θ S f (graded_part k (combination_degree ds es) d c)
        again = record {
          combination = graded_part_supp k (combination_degree ds es) d (λ t. (length t.1.0 ≤ length θ) × (t.0 < length S)) c printed.combination;
          value = sym (combination_value_part k ws ds es θ S forms others d c (λ t x. (printed.combination t x).0)) ∙ ap (form_part k ws d) printed.value ∙ form-own d f form;
          first = graded_part_supp k (combination_degree ds es) d (λ t. ¬ IsSpannedBefore k (term_value k θ S) (IsTermBefore k ds es) t) c printed.first;
        }

    -- in the space of combinations
    pub printed-homogeneous : (d : ℕ) (f c : Vect k) → IsForm k ws d f → IsPrintedCombination k ds es θ S f c → IsHomogeneous (combination_space k ds es) d c
    unfolding degree
    printed-homogeneous d f c form printed = printed-graded d f c form printed

  -- a word
  module _ (ds : List ℕ) (θ Q : List (Vect k)) (forms : AreForms k ws ds (θ ++ Q)) where
    pub word-form : (d : ℕ) (f u : Vect k) → IsForm k ws d f → IsPrintedWord k ds θ Q f u → IsForm k ds d u
    word-form d f u form printed t c = (printed.word.polynomial t c, graded t c)
      where
        part : Vect k
        part = graded_part k (key_weight ds) d u

        again : IsPrintedWord k ds θ Q f (graded_part k (key_weight ds) d u)
        again = record {
          word = record {
            polynomial = graded_part_supp k (key_weight ds) d (λ t. t.0 ≡ 0) u printed.word.polynomial;
            variables = graded_part_supp k (key_weight ds) d (λ t. length t.1.0 ≤ length (θ ++ Q)) u printed.word.variables;
          };
          value = sym (part_substitute k ws ds (θ ++ Q) forms d u printed.word.variables) ∙ ap (form_part k ws d) printed.value ∙ form-own d f form;
          first = graded_part_supp k (key_weight ds) d (λ t. ¬ IsSpannedBefore k (word_value k θ Q) (IsMonomialBefore k ds) t) u printed.first;
        }

        graded : IsGraded k (key_weight ds) d u
        graded = subst (IsGraded k (key_weight ds) d) (one_word k ds θ Q ws forms f part u again printed) (graded_part_graded k (key_weight ds) d u)
