-- The field of a listed characteristic, and the spaces of a text: polynomials over them can be read.
use Rattle.std.proofs.Common.{◌≡◌, ◌≢◌, ◌∙◌, ℕ, ◌+◌, ◌≤◌, Bool, true, false, ◌⊎◌, inl, inr, List, ◌++◌, length, replicate, refl, sym, ap, arith}
use Rattle.std.specs.Prelude.{All, AllPairs, IsTrue}
use Rattle.std.proofs.lemmas.Bool.{eq-eqb}
use Rattle.std.proofs.lemmas.List.{length-replicate, length-append}
use Rattle.std.proofs.lemmas.List.Elements.{All-nil}
use Rattle.alg_core.specs.Fields.{FieldOn}
use Rattle.alg_core.specs.Names.{is_name}
use Rattle.alg_core.specs.PolynomialSpaces.{plain_space, marked_space}
use Rattle.prime_field.specs.ListedPrimes.{is_listed, listed_one}
use Rattle.prime_field.specs.PrimeFields.{gfp, gfp_same, IsPrimeField}
use Rattle.certificate_io.specs.Readings.{CanRead}
use Rattle.certificate_io.specs.Spaces.{field_if, field_at, word_space, plain_names, marked_names, word_names}
use Rattle.certificate_io.specs.Syntax.{IsBetween}

field_of : (p : ℕ) (b : Bool) (e : is_listed p ≡ b) (listed : is_listed p ≡ true) → field_if p b e ≡ gfp p listed
field_of p true e listed = gfp_same p p refl e listed
field_of p false e listed = absurd (let bad : false ≡ true = sym e ∙ listed in cc)

module _ (p : ℕ) (listed : is_listed p ≡ true) where
  pub prime_at : IsPrimeField p (field_at p)
  prime_at = (listed, field_of p (is_listed p) refl listed)

  pub characteristic_at : (field_at p).characteristic ≡ p
  characteristic_at = ap (λ (k : FieldOn ℕ). k.characteristic) prime_at.1

  pub listed_digits : IsBetween 99999 p
  listed_digits = go (listed_one p listed)
    where
      at : (n : ℕ) → p ≡ n → 1 ≤ n → n ≤ 99999 → IsBetween 99999 p
      at n e low high = (omega (arith, e, low), omega (arith, e, high))

      go : (p ≡ 2) ⊎ ((p ≡ 3) ⊎ ((p ≡ 5) ⊎ ((p ≡ 7) ⊎ ((p ≡ 11) ⊎ ((p ≡ 257) ⊎ (p ≡ 32003)))))) → IsBetween 99999 p
      go (inl e) = at 2 e (omega arith) (omega arith)
      go (inr (inl e)) = at 3 e (omega arith) (omega arith)
      go (inr (inr (inl e))) = at 5 e (omega arith) (omega arith)
      go (inr (inr (inr (inl e)))) = at 7 e (omega arith) (omega arith)
      go (inr (inr (inr (inr (inl e))))) = at 11 e (omega arith) (omega arith)
      go (inr (inr (inr (inr (inr (inl e)))))) = at 257 e (omega arith) (omega arith)
      go (inr (inr (inr (inr (inr (inr e)))))) = at 32003 e (omega arith) (omega arith)

ones : (n : ℕ) → length {A = ℕ} (replicate n 1) ≡ n
ones n = length-replicate {A = ℕ} n 1

zeros : (n : ℕ) → length {A = ℕ} (replicate n 0) ≡ n
zeros n = length-replicate {A = ℕ} n 0

module _ (k : FieldOn ℕ) (ns : List (List ℕ)) (names : All (λ w. IsTrue (is_name w)) ns) (distinct : AllPairs (λ v w. v ≢ w) ns) where
  pub can_plain : CanRead (plain_space k (length ns)) (plain_names ns)
  can_plain =
      let n = length ns in
      let ws : List ℕ = replicate n 1 in
      record {
        places = omega (arith, ones n);
        distinct = distinct;
        polynomials = record {
          constants = record { fits = eq-eqb (length {A = ℕ} (replicate (length ws) 0)) (length ws) (zeros (length ws)); wide = zeros (length ws); low = omega arith };
        };
        variables = names;
      }

  pub can_marked : (ds : List ℕ) → CanRead (marked_space k (length ns) ds) (marked_names ns (length ds))
  can_marked ds =
      let n = length ns in
      let ws : List ℕ = replicate n 1 ++ ds in
      let wide : length ws ≡ n + length ds = length-append (replicate n 1) ds ∙ ap (λ m. m + length ds) (ones n) in
      record {
        places = omega (arith, wide);
        distinct = distinct;
        polynomials = record {
          constants = record { fits = eq-eqb (length {A = ℕ} (replicate (length ws) 0)) (n + length ds) (zeros (length ws) ∙ wide); wide = zeros (length ws); low = omega arith };
        };
        variables = names;
      }

module _ (k : FieldOn ℕ) (ds es : List ℕ) where
  pub can_worded : CanRead (word_space k (ds ++ es)) (word_names (length ds) (length es))
  can_worded =
      let ws : List ℕ = ds ++ es in
      record {
        places = omega (arith, length-append ds es);
        distinct = λ i j d below low. absurd (omega (arith, low));
        polynomials = record {
          constants = record { fits = eq-eqb (length {A = ℕ} (replicate (length ws) 0)) (length ws) (zeros (length ws)); wide = zeros (length ws); low = omega arith };
        };
        variables = All-nil (λ w. IsTrue (is_name w));
      }
