-- Steps of the loops that make tables of powers.
use Rattle.std.proofs.Common.{◌≡◌, ◌<◌, ◌≤◌, ◌+◌, ◌*◌, ℕ, zero, suc, List, [], ◌∷◌, ◌++◌, length, length-append, get_or, refl, sym, ap, subst, ◌∙◌, arith}
use Rattle.std.specs.Prelude.{All}
use Rattle.alg_core.specs.ExponentLists.{product as list_product, Within}
use Rattle.alg_core.specs.Fields.{scalar_one}
use Rattle.alg_core.specs.Keys.{key}
use Rattle.alg_core.specs.Vectors.{Vect, vectors, vec, scale}
use Rattle.alg_core.specs.declared.term.Term.{Term}
use Rattle.alg_core.specs.Spaces.{SpaceOver, entries, Fits}
use Rattle.poly_module.specs.Polynomials.{product, one_vector, vector_ring}
use Rattle.poly_module.specs.Products.{ring_product, ring_one}
use Rattle.poly_module.specs.Substitutions.{power}
use Rattle.poly_module.specs.Parts.{Supp}
use Rattle.poly_module.specs.GreatestExponents.{peak}
use Rattle.poly_module.specs.SpaceVectors.{IsVectorOf}
use Rattle.poly_module.proofs.SpaceVectorLaws.{vector_given}
use Rattle.poly_module.specs.PowerTables.{AllAt, IsPowers}
use Rattle.poly_module.proofs.ExponentBounds.{Bounded, supp_power, vec_supp, fits_keys, polynomial_bounded, bounded_products, mul_mono}

all_at_append : {A : Type 0} (P : ℕ → A → Type 0) (l : List A) (x : A) → AllAt P l → P (length l) x → AllAt P (l ++ (x ∷ []))
all_at_append P [] x h p zero d w = p
all_at_append P [] x h p (suc i) d w = absurd (omega arith)
all_at_append P (y ∷ l) x h p zero d w = h 0 d (omega arith)
all_at_append P (y ∷ l) x h p (suc i) d w = all_at_append (λ n. P (suc n)) l x (λ n e v. h (suc n) e (omega arith)) p i d (omega arith)

pub all_at_push : {A : Type 0} (P : ℕ → A → Type 0) (l new : List A) (x : A) → new ≡ l ++ (x ∷ []) → AllAt P l → P (length l) x → AllAt P new
all_at_push P l new x e h p = subst (AllAt P) (sym e) (all_at_append P l x h p)

pub all_at_none : {A : Type 0} (P : ℕ → A → Type 0) (l : List A) → l ≡ [] → AllAt P l
all_at_none P [] e i d w = absurd (omega arith)
all_at_none P (x ∷ l) e i d w = absurd cc

pub all_at_read : {A : Type 0} (P : ℕ → A → Type 0) (l : List A) (i : ℕ) (x : A) → i < length l → x ≡ get_or l i x → AllAt P l → P i x
all_at_read P l i x w e h = subst (P i) (sym e) (h i x w)

module _ {E M : Type 0} (S : SpaceOver E) (exps : M → List ℕ) where
  pub scale_one : (c : E) → c ≡ S.field.one → (x : Vect S.field) → scale S.field c x ≡ x
  unfolding scale
  scale_one c e x = ap (λ d. scale S.field d x) e ∙ ap (λ s. (vectors S.field).◌·◌ s x) (scalar_one S.field) ∙ (vectors S.field).one_act x

  -- the exponents of one more power
  pub power_small : (cap last n : ℕ) (image before : List (Term E M)) → n < last → last * peak (entries exps image) ≤ cap → All (λ e. e.0.0 ≡ 0) (entries exps image)
      → IsVectorOf S exps (power (vector_ring S.field) (vec S.field (entries exps image)) n) before
      → All (λ e. All (λ t. Within cap (list_product e.0.1 t.0.1)) (entries exps before)) (entries exps image)
  power_small cap last n image before less small zeros of =
      let b = peak (entries exps image) in
      let x = vec S.field (entries exps image) in
      let all : All (λ e. Bounded b (key e.0)) (entries exps image) = polynomial_bounded b (entries exps image) (omega arith) zeros in
      let there : Supp S.field (Bounded (n * b)) (power (vector_ring S.field) x n) = supp_power S.field b x (vec_supp S.field (Bounded b) (entries exps image) all) n in
      let step = mul_mono (suc n) last b (omega arith) in
      bounded_products cap b (n * b) (omega arith) (entries exps image) (entries exps before) all (fits_keys S (Bounded (n * b)) (entries exps before) of.fits (subst (Supp S.field (Bounded (n * b))) (sym of.is) there))

  -- one more power
  pub power_more : (n : ℕ) (image before next : List (Term E M)) → IsVectorOf S exps (power (vector_ring S.field) (vec S.field (entries exps image)) n) before
      → vec S.field (entries exps next) ≡ product S.field (vec S.field (entries exps image)) (vec S.field (entries exps before))
      → vec S.field (entries exps next) ≡ power (vector_ring S.field) (vec S.field (entries exps image)) (suc n)
  power_more n image before next of e = e ∙ ap (product S.field (vec S.field (entries exps image))) of.is ∙ sym (ring_product S.field _ _)

  -- the list of powers, from the 0th and one by one
  pub powers_first : (x : Vect S.field) (old new : List (List (Term E M))) (p : List (Term E M)) → old ≡ [] → new ≡ old ++ (p ∷ []) → Fits S (entries exps p) → vec S.field (entries exps p) ≡ one_vector S.field
      → IsPowers S exps x new × (length new ≡ 1)
  powers_first x [] new p none pushed fits one =
      (all_at_push (λ (n : ℕ) (q : List (Term E M)). IsVectorOf S exps (power (vector_ring S.field) x n) q) [] new p pushed (all_at_none _ [] refl) (vector_given S exps _ p fits (one ∙ sym (ring_one S.field))), ap length pushed)
  powers_first x (y ∷ old) new p none pushed fits one = absurd cc

  pub powers_next : (x : Vect S.field) (n : ℕ) (old new : List (List (Term E M))) (p : List (Term E M)) → new ≡ old ++ (p ∷ []) → IsPowers S exps x old × (length old ≡ n + 1)
      → Fits S (entries exps p) → vec S.field (entries exps p) ≡ power (vector_ring S.field) x (suc n)
      → IsPowers S exps x new × (length new ≡ n + 1 + 1)
  powers_next x n old new p pushed was fits is =
      let long : length new ≡ length old + 1 = ap length pushed ∙ length-append old (p ∷ []) in
      let at : suc n ≡ length old = omega (arith, was.1) in
      (all_at_push (λ (m : ℕ) (q : List (Term E M)). IsVectorOf S exps (power (vector_ring S.field) x m) q) old new p pushed was.0 (vector_given S exps _ p fits (is ∙ ap (power (vector_ring S.field) x) at)), omega (arith, was.1))

  pub powers_read : (x : Vect S.field) (ps : List (List (Term E M))) (n : ℕ) (p : List (Term E M)) → n < length ps → p ≡ get_or ps n p → IsPowers S exps x ps → IsVectorOf S exps (power (vector_ring S.field) x n) p
  powers_read x ps n p w read h = all_at_read (λ (m : ℕ) (q : List (Term E M)). IsVectorOf S exps (power (vector_ring S.field) x m) q) ps n p w read h

pub all_read : {A : Type 0} (P : A → Type 0) (l : List A) (i : ℕ) (x : A) → i < length l → x ≡ get_or l i x → All P l → P x
all_read P l i x w e h = subst P (sym e) (h i x w)
