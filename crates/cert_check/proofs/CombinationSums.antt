-- The value of a combination is the sum of the values of its parts.
use Rattle.std.proofs.Common.{◌≡◌, ◌∙◌, ◌+◌, ◌<◌, ℕ, zero, suc, Bool, true, false, List, [], ◌∷◌, ◌++◌, length, take, get_or, refl, sym, ap, ap₂, arith}
use Rattle.std.specs.Prelude.{All, ◌==◌, if◌then◌else◌}
use Rattle.std.proofs.lemmas.Bool.Decides.{nat_tests}
use Rattle.std.proofs.lemmas.List.{take_more, map-append}
use Rattle.std.proofs.lemmas.List.Elements.{All-cons, All-head, All-tail}
use Rattle.alg_core.specs.Fields.{FieldOn}
use Rattle.alg_core.specs.Keys.{key}
use Rattle.alg_core.specs.Monomials.{mono}
use Rattle.alg_core.specs.Spaces.{entry, entries}
use Rattle.alg_core.specs.Vectors.{Entry, Vect, vec, plus, scale, zero_vector}
use Rattle.alg_core.specs.declared.term.Term.{Term}
use Rattle.alg_core.proofs.VectorLaws.{plus_assoc, plus_left_comm, plus_zero, zero_plus, scale_zero_vector, vec_cons, vec_nothing}
use Rattle.poly_module.specs.Combinations.{combination_value}
use Rattle.poly_module.specs.Modules.{listed}
use Rattle.poly_module.specs.Polynomials.{product, vector_ring}
use Rattle.poly_module.specs.Products.{plus_product, product_zero, scale_product, zero_product}
use Rattle.poly_module.specs.Substitutions.{monomial_value, substitute, substitute_plus, substitute_scale, substitute_single, substitute_zero}
use Rattle.poly_module.proofs.CombinationLaws.{combination_value_linear, combination_value_plus, combination_value_single, combination_value_zero}
use Rattle.poly_module.proofs.ExponentBounds.{vec_scaled}
use Rattle.cert_check.specs.CombinationParts.{moved, at_position}

same-place : (i j : ℕ) → i ≡ j → (i == j) ≡ true
same-place i j e = grind (arith, nat_tests)

other-place : (i j : ℕ) → ¬ (i ≡ j) → (i == j) ≡ false
other-place i j n = grind (arith, nat_tests)

tests-true : (i j : ℕ) → (i == j) ≡ true → i ≡ j
tests-true i j e = grind (arith, nat_tests)

tests-false : (i j : ℕ) → (i == j) ≡ false → ¬ (i ≡ j)
tests-false i j e = grind (arith, nat_tests)

module _ {E : Type 0} where
  at_append : (j : ℕ) (es fs : List (Entry E)) → at_position j (es ++ fs) ≡ at_position j es ++ at_position j fs
  unfolding at_position
  at_append j [] fs = refl
  at_append j (e ∷ es) fs = by (e.0.0 == j) (at_append j es fs)
    where
      by : (t : Bool) → at_position j (es ++ fs) ≡ at_position j es ++ at_position j fs
          → (if t then moved e ∷ at_position j (es ++ fs) else at_position j (es ++ fs)) ≡ (if t then moved e ∷ at_position j es else at_position j es) ++ at_position j fs
      by true h = ap (λ l. moved e ∷ l) h
      by false h = h

  at_one : (j : ℕ) (e : Entry E) → e.0.0 ≡ j → at_position j (e ∷ []) ≡ moved e ∷ []
  unfolding at_position
  at_one j e h = ap (λ (t : Bool). if t then moved e ∷ [] else []) (same-place e.0.0 j h)

  at_none : (j : ℕ) (e : Entry E) → ¬ (e.0.0 ≡ j) → at_position j (e ∷ []) ≡ []
  unfolding at_position
  at_none j e h = ap (λ (t : Bool). if t then moved e ∷ [] else []) (other-place e.0.0 j h)

  next : (j : ℕ) (xs : List (Term E (List ℕ))) (i : ℕ) (x : Term E (List ℕ)) → i < length xs → x ≡ get_or xs i x
      → at_position j (entries (λ m. m) (take (i + 1) xs)) ≡ at_position j (entries (λ m. m) (take i xs)) ++ at_position j (entry (λ m. m) x ∷ [])
  next j xs i x l read =
      ap (λ ts. at_position j (entries (λ m. m) ts)) (take_more xs i x l ∙ ap (λ y. take i xs ++ y ∷ []) (sym read))
      ∙ ap (at_position j) (map-append (entry (λ m. m)) (take i xs) (x ∷ [])) ∙ at_append j (entries (λ m. m) (take i xs)) (entry (λ m. m) x ∷ [])

  pub part_none : (j : ℕ) (made : List (Term E (List ℕ))) → made ≡ [] → entries (λ m. m) made ≡ at_position j []
  unfolding at_position
  part_none j made e = ap (entries (λ m. m)) e

  -- one more term: at the position, or elsewhere
  pub part_kept : (j : ℕ) (xs made new : List (Term E (List ℕ))) (i : ℕ) (x t : Term E (List ℕ)) → i < length xs → x ≡ get_or xs i x → x.at.pos ≡ j
      → entry (λ m. m) t ≡ ((0, x.at.mono), x.coef) → new ≡ made ++ t ∷ []
      → entries (λ m. m) made ≡ at_position j (entries (λ m. m) (take i xs)) → entries (λ m. m) new ≡ at_position j (entries (λ m. m) (take (i + 1) xs))
  part_kept j xs made new i x t l read here copied pushed h =
      ap (entries (λ m. m)) pushed ∙ map-append (entry (λ m. m)) made (t ∷ []) ∙ ap₂ (λ a b. a ++ b ∷ []) h copied
      ∙ sym (next j xs i x l read ∙ ap (λ b. at_position j (entries (λ m. m) (take i xs)) ++ b) (at_one j (entry (λ m. m) x) here))

  pub part_left : (j : ℕ) (xs made : List (Term E (List ℕ))) (i : ℕ) (x : Term E (List ℕ)) → i < length xs → x ≡ get_or xs i x → ¬ (x.at.pos ≡ j)
      → entries (λ m. m) made ≡ at_position j (entries (λ m. m) (take i xs)) → entries (λ m. m) made ≡ at_position j (entries (λ m. m) (take (i + 1) xs))
  part_left j xs made i x l read there h =
      h ∙ sym (next j xs i x l read ∙ ap (λ b. at_position j (entries (λ m. m) (take i xs)) ++ b) (at_none j (entry (λ m. m) x) there) ∙ append-nil _)
    where
      append-nil : (es : List (Entry E)) → es ++ [] ≡ es
      append-nil [] = refl
      append-nil (e ∷ es) = ap (λ l. e ∷ l) (append-nil es)

  -- what holds of the exponents and the value of each entry
  pub part_all : (Q : List ℕ → E → Type 0) (j : ℕ) (es : List (Entry E)) → All (λ e. Q e.0.1 e.1) es → All (λ e. Q e.0.1 e.1) (at_position j es)
  unfolding at_position
  part_all Q j [] h = h
  part_all Q j (e ∷ es) h = by (e.0.0 == j) (part_all Q j es (All-tail (λ e. Q e.0.1 e.1) e es h))
    where
      by : (t : Bool) → All (λ e. Q e.0.1 e.1) (at_position j es) → All (λ e. Q e.0.1 e.1) (if t then moved e ∷ at_position j es else at_position j es)
      by true rest = All-cons (λ e. Q e.0.1 e.1) (moved e) (at_position j es) (All-head (λ e. Q e.0.1 e.1) e es h) rest
      by false rest = rest

module _ {E : Type 0} (k : FieldOn E) where
  listed-last : (S : List (Vect k)) (s : Vect k) → listed k (S ++ s ∷ []) (length S) ≡ s
  listed-last [] s = refl
  listed-last (t ∷ S) s = listed-last S s

  listed-past : (S : List (Vect k)) → listed k S (length S) ≡ zero_vector k
  listed-past [] = refl
  listed-past (t ∷ S) = listed-past S

  listed-other : (S : List (Vect k)) (s : Vect k) (j : ℕ) → ¬ (j ≡ length S) → listed k (S ++ s ∷ []) j ≡ listed k S j
  listed-other [] s zero n = absurd (n refl)
  listed-other [] s (suc j) n = refl
  listed-other (t ∷ S) s zero n = refl
  listed-other (t ∷ S) s (suc j) n = listed-other S s j (λ e. n (ap suc e))

  module _ (θ : List (Vect k)) where
    abbrev value : List (Vect k) → List (Entry E) → Vect k
    value S es = combination_value k θ S (vec k es)

    abbrev monomial : Entry E → Vect k
    monomial e = monomial_value (vector_ring k) θ (mono e.0.1).0

    one_value : (S : List (Vect k)) (e : Entry E) → value S (e ∷ []) ≡ scale k e.1 (product k (monomial e) (listed k S e.0.0))
    unfolding scale key
    one_value S e = ap (combination_value k θ S) (vec_scaled k e) ∙ (combination_value_linear k θ S).act _ _ ∙ ap (scale k e.1) (combination_value_single k θ S (key e.0))

    factor : (e : Entry E) → substitute k θ (vec k (moved e ∷ [])) ≡ scale k e.1 (monomial e)
    unfolding key
    factor e = ap (substitute k θ) (vec_scaled k (moved e)) ∙ substitute_scale k θ e.1 _ ∙ ap (scale k e.1) (substitute_single k θ (key (0, e.0.1)))

    split : (S : List (Vect k)) (e : Entry E) (es : List (Entry E)) → value S (e ∷ es) ≡ plus k (value S (e ∷ [])) (value S es)
    split S e es = ap (combination_value k θ S) (vec_cons k e es) ∙ combination_value_plus k θ S _ _

    -- the value of a part
    abbrev pub part_value : ℕ → Vect k → List (Entry E) → Vect k
    part_value j s es = product k (substitute k θ (vec k (at_position j es))) s

    part_split : (s : Vect k) (e : Entry E) (es : List (Entry E)) → product k (substitute k θ (vec k (e ∷ es))) s ≡ plus k (product k (substitute k θ (vec k (e ∷ []))) s) (product k (substitute k θ (vec k es)) s)
    part_split s e es = ap (λ u. product k (substitute k θ u) s) (vec_cons k e es) ∙ ap (λ u. product k u s) (substitute_plus k θ _ _) ∙ plus_product k _ _ s

    -- one more member, and its part
    pub value_next : (S : List (Vect k)) (s : Vect k) (es : List (Entry E)) → combination_value k θ (S ++ s ∷ []) (vec k es) ≡ plus k (combination_value k θ S (vec k es)) (product k (substitute k θ (vec k (at_position (length S) es))) s)
    unfolding at_position
    value_next S s [] =
        ap (combination_value k θ (S ++ s ∷ [])) (vec_nothing k) ∙ combination_value_zero k θ (S ++ s ∷ [])
        ∙ sym (ap₂ (plus k) (ap (combination_value k θ S) (vec_nothing k) ∙ combination_value_zero k θ S)
        (ap (λ u. product k (substitute k θ u) s) (vec_nothing k) ∙ ap (λ u. product k u s) (substitute_zero k θ) ∙ zero_product k s) ∙ plus_zero k (zero_vector k))
    value_next S s (e ∷ es) = by (e.0.0 == length S) refl (value_next S s es)
      where
        here : e.0.0 ≡ length S → value (S ++ s ∷ []) (e ∷ []) ≡ product k (substitute k θ (vec k (moved e ∷ []))) s
        here at =
            one_value (S ++ s ∷ []) e ∙ ap (λ u. scale k e.1 (product k (monomial e) u)) (ap (listed k (S ++ s ∷ [])) at ∙ listed-last S s)
            ∙ sym (ap (λ u. product k u s) (factor e) ∙ scale_product k e.1 (monomial e) s)

        none : e.0.0 ≡ length S → value S (e ∷ []) ≡ zero_vector k
        none at =
            one_value S e ∙ ap (λ u. scale k e.1 (product k (monomial e) u)) (ap (listed k S) at ∙ listed-past S)
            ∙ ap (scale k e.1) (product_zero k (monomial e)) ∙ scale_zero_vector k e.1

        other : ¬ (e.0.0 ≡ length S) → value (S ++ s ∷ []) (e ∷ []) ≡ value S (e ∷ [])
        other n = one_value (S ++ s ∷ []) e ∙ ap (λ u. scale k e.1 (product k (monomial e) u)) (listed-other S s e.0.0 n) ∙ sym (one_value S e)

        by : (t : Bool) → (e.0.0 == length S) ≡ t → value (S ++ s ∷ []) es ≡ plus k (value S es) (part_value (length S) s es)
            → value (S ++ s ∷ []) (e ∷ es)
            ≡ plus k (value S (e ∷ es)) (product k (substitute k θ (vec k (if t then moved e ∷ at_position (length S) es else at_position (length S) es))) s)
        by true test rest =
            let at = tests-true e.0.0 (length S) test in
            split (S ++ s ∷ []) e es ∙ ap₂ (plus k) (here at) rest ∙ plus_left_comm k _ _ _
            ∙ sym (ap₂ (plus k) (split S e es ∙ ap (λ u. plus k u (value S es)) (none at) ∙ zero_plus k (value S es)) (part_split s (moved e) (at_position (length S) es)))
        by false test rest =
            let n = tests-false e.0.0 (length S) test in
            split (S ++ s ∷ []) e es ∙ ap₂ (plus k) (other n) rest ∙ sym (plus_assoc k _ _ _) ∙ ap (λ u. plus k u (part_value (length S) s es)) (sym (split S e es))

    -- over no members
    pub value_none : (es : List (Entry E)) → combination_value k θ [] (vec k es) ≡ zero_vector k
    value_none [] = ap (combination_value k θ []) (vec_nothing k) ∙ combination_value_zero k θ []
    value_none (e ∷ es) =
        split [] e es ∙ ap₂ (plus k) (one_value [] e ∙ ap (scale k e.1) (product_zero k (monomial e)) ∙ scale_zero_vector k e.1) (value_none es)
        ∙ plus_zero k (zero_vector k)
