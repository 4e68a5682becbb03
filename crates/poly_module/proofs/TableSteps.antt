-- Steps of the loop that makes the table of powers, and what the table holds.
use Rattle.std.proofs.Common.{◌≡◌, ◌<◌, ◌≤◌, ◌+◌, ◌*◌, ℕ, zero, suc, List, [], ◌∷◌, ◌++◌, map, length, length-append, get_or, drop, refl, sym, ap, subst, ◌∙◌, arith, inr}
use Rattle.std.specs.Prelude.{All}
use Rattle.alg_core.specs.Lists.{In}
use Rattle.alg_core.specs.Vectors.{Entry, vec}
use Rattle.alg_core.specs.declared.term.Term.{Term}
use Rattle.alg_core.specs.Spaces.{SpaceOver, entries}
use Rattle.poly_module.specs.Polynomials.{vector_ring}
use Rattle.poly_module.specs.Substitutions.{power}
use Rattle.poly_module.specs.GreatestExponents.{total, peak, highest}
use Rattle.poly_module.specs.SpaceVectors.{IsVectorOf}
use Rattle.poly_module.specs.PowerTables.{AllAt, Covers, IsPowers, IsTable, value_of}
use Rattle.poly_module.proofs.ExponentBounds.{mul_mono}
use Rattle.poly_module.proofs.PowerSteps.{all_at_push, all_at_none, all_at_read}

-- an exponent is at most the sum of all
get_total : (a : List ℕ) (i : ℕ) → get_or a i 0 ≤ total a
get_total [] i = omega arith
get_total (x ∷ a) zero = omega arith
get_total (x ∷ a) (suc i) = let h = get_total a i in omega arith

pub get_drop_total : (a : List ℕ) (i : ℕ) → get_or a i 0 + total (drop (suc i) a) ≤ total a
get_drop_total [] zero = omega arith
get_drop_total [] (suc i) = omega arith
get_drop_total (x ∷ a) zero = omega arith
get_drop_total (x ∷ a) (suc i) = let h = get_drop_total a i in omega arith

mul_mono₂ : (a b c d : ℕ) → a ≤ b → c ≤ d → a * c ≤ b * d
mul_mono₂ a b c d p q = let h = mul_mono a b c p in let g = mul_mono c d b q in omega arith

pub drop_get : (a : List ℕ) (i : ℕ) → i < length a → drop i a ≡ get_or a i 0 ∷ drop (suc i) a
drop_get [] i w = absurd (omega arith)
drop_get (x ∷ a) zero w = refl
drop_get (x ∷ a) (suc i) w = drop_get a i (omega arith)

pub drop_none : {A : Type 0} (l : List A) (n : ℕ) → length l ≤ n → drop n l ≡ []
drop_none [] zero w = refl
drop_none [] (suc n) w = refl
drop_none (x ∷ l) zero w = absurd (omega arith)
drop_none (x ∷ l) (suc n) w = drop_none l n (omega arith)

pub in_drop : {A : Type 0} (x : A) (l : List A) (n : ℕ) → In x (drop n l) → In x l
in_drop x l zero h = h
in_drop x [] (suc n) h = h
in_drop x (y ∷ l) (suc n) h = inr (in_drop x l n h)

module _ {E M : Type 0} (S : SpaceOver E) (exps : M → List ℕ) where
  abbrev Terms : Type 0
  Terms = List (Term E M)

  -- the peak of one image is below the highest
  peak_highest : (images : List Terms) (i : ℕ) (image : Terms) → i < length images → image ≡ get_or images i image → peak (entries exps image) ≤ highest (map (entries exps) images)
  peak_highest [] i image w read = absurd (omega arith)
  peak_highest (y ∷ images) zero image w read = let e : peak (entries exps image) ≡ peak (entries exps y) = ap (λ t. peak (entries exps t)) read in omega arith
  peak_highest (y ∷ images) (suc i) image w read = let h = peak_highest images i image (omega arith) read in omega arith

  -- the powers of one image stay below the cap
  pub row_small : (cap i : ℕ) (images : List Terms) (image : Terms) (es : List (Entry E)) → i < length images → image ≡ get_or images i image
      → All (λ e. total e.0.1 * highest (map (entries exps) images) ≤ cap) es → All (λ e. get_or e.0.1 i 0 * peak (entries exps image) ≤ cap) es
  row_small cap i images image es w read h k d v =
      let a = (get_or es k d).0.1 in
      let p = mul_mono₂ (get_or a i 0) (total a) (peak (entries exps image)) (highest (map (entries exps) images)) (get_total a i) (peak_highest images i image w read) in
      omega (arith, h k d v)

  -- a table so far: its rows are the powers of the images, and long enough for the exponents of some entries
  pub record IsTableSoFar (images : List Terms) (es : List (Entry E)) (n : ℕ) (t : List (List Terms)) : Type 0 where
    pub rows : AllAt (λ i ps. IsPowers S exps (value_of S exps images i) ps) t
    pub long : AllAt (λ i ps. All (λ e. get_or e.0.1 i 0 < length ps) es) t
    pub count : length t ≡ n

  pub table_start : (images : List Terms) (es : List (Entry E)) (t : List (List Terms)) → t ≡ [] → IsTableSoFar images es 0 t
  table_start images es t none = record {
    rows = all_at_none (λ (i : ℕ) (ps : List Terms). IsPowers S exps (value_of S exps images i) ps) t none;
    long = all_at_none (λ (i : ℕ) (ps : List Terms). All (λ e. get_or e.0.1 i 0 < length ps) es) t none;
    count = ap length none;
  }

  same_image : (images : List Terms) (i : ℕ) (image : Terms) → i < length images → image ≡ get_or images i image → image ≡ get_or images i []
  same_image [] i image w read = absurd (omega arith)
  same_image (y ∷ images) zero image w read = read
  same_image (y ∷ images) (suc i) image w read = same_image images i image (omega arith) read

  pub table_step : (images : List Terms) (es : List (Entry E)) (n last : ℕ) (image : Terms) (old new : List (List Terms)) (row : List Terms) → n < length images → image ≡ get_or images n image
      → new ≡ old ++ (row ∷ []) → IsPowers S exps (vec S.field (entries exps image)) row → length row ≡ last + 1 → All (λ e. get_or e.0.1 n 0 ≤ last) es
      → IsTableSoFar images es n old → IsTableSoFar images es (n + 1) new
  table_step images es n last image old new row w read pushed powers many covers h = record {
    rows = all_at_push (λ (i : ℕ) (ps : List Terms). IsPowers S exps (value_of S exps images i) ps) old new row pushed h.rows
        (subst (λ i. IsPowers S exps (value_of S exps images i) row) (sym h.count) (subst (λ t. IsPowers S exps (vec S.field (entries exps t)) row) (same_image images n image w read) powers));
    long = all_at_push (λ (i : ℕ) (ps : List Terms). All (λ e. get_or e.0.1 i 0 < length ps) es) old new row pushed h.long
        (subst (λ i. All (λ e. get_or e.0.1 i 0 < length row) es) (sym h.count) (λ k d v. let c = covers k d v in omega (arith, many)));
    count = let l : length new ≡ length old + 1 = ap length pushed ∙ length-append old (row ∷ []) in omega (arith, h.count);
  }

  pub table_is : (images : List Terms) (es : List (Entry E)) (n : ℕ) (t : List (List Terms)) → length images ≤ n → n ≤ length images → IsTableSoFar images es n t → IsTable S exps images t
  table_is images es n t low high h = (h.rows, omega (arith, h.count))

  pub table_covers : (images : List Terms) (es : List (Entry E)) (n : ℕ) (t : List (List Terms)) → IsTableSoFar images es n t → All (λ e. Covers t e.0.1) es
  table_covers images es n t h k d w i ps v = h.long i ps v k d w

  -- reading one power
  pub table_power : (images : List Terms) (t : List (List Terms)) (i n : ℕ) (row : List Terms) (p : Terms) (a : List ℕ) → i < length images → row ≡ get_or t i row → n ≡ get_or a i 0 → p ≡ get_or row n p
      → IsTable S exps images t → Covers t a → (n < length row) × IsVectorOf S exps (power (vector_ring S.field) (value_of S exps images i) n) p
  table_power images t i n row p a w read e got table covers =
      let there : i < length t = omega (arith, table.1) in
      let enough : n < length row = let c = all_at_read (λ (j : ℕ) (ps : List Terms). get_or a j 0 < length ps) t i row there read covers in omega arith in
      (enough, all_at_read (λ (m : ℕ) (q : Terms). IsVectorOf S exps (power (vector_ring S.field) (value_of S exps images i) m) q) row n p enough got (all_at_read (λ (j : ℕ) (ps : List Terms). IsPowers S exps (value_of S exps images j) ps) t i row there read table.0))
