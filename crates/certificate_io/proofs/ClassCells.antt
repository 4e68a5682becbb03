-- The entry that a class modulo a listed p prints, and the class of the entry; names of which none stands twice.
use Rattle.std.proofs.Common.{◌≡◌, ◌≢◌, ◌∙◌, ℕ, suc, ◌*◌, ◌-◌, ◌<◌, ◌≤◌, Bool, true, false, ◌⊎◌, inl, inr, List, [], ◌∷◌, map, refl, sym, ap, subst, arith}
use Rattle.std.specs.Prelude.{All, AllPairs, ◌&&◌, ◌||◌, not, nat_le, nat_lt, if◌then◌else◌}
use Rattle.std.specs.List.{list_all}
use Rattle.std.specs.Bool.{Decides}
use Rattle.std.specs.Str.{bytes_eq}
use Rattle.std.proofs.lemmas.Bool.{and_from, cases_eq, cases_lt, eq-eqb, le-leb, le-ltb, lt-ltb, ne_eqb}
use Rattle.std.proofs.lemmas.List.Elements.{All-head, All-tail}
use Rattle.std.proofs.lemmas.Slice.Eq.{bytes_eq-Decides}
use Rattle.prime_field.specs.ListedPrimes.{is_listed, listed_one}
use Rattle.certificate_io.specs.Parts.{cell_in}
use Rattle.certificate_io.specs.Readings.{class_of}
use Rattle.certificate_io.specs.Syntax.{IsCell}
use Rattle.certificate_io.specs.Values.{is_among, are_distinct, is_printed_cell}
use Rattle.certificate_io.specs.declared.words.Cell.{Cell}
use Rattle.certificate_io.proofs.TextSpaces.{listed_digits}

abbrev cell : Bool → ℕ → Cell
cell b n = record { is_negative = b; size = n }

-- a listed number is 2 or odd
odd : (p x : ℕ) → is_listed p ≡ true → p ≢ 2 → 2 * x ≢ p
odd p x listed other e = go (listed_one p listed)
  where
    go : (p ≡ 2) ⊎ ((p ≡ 3) ⊎ ((p ≡ 5) ⊎ ((p ≡ 7) ⊎ ((p ≡ 11) ⊎ ((p ≡ 257) ⊎ (p ≡ 32003)))))) → ⊥
    go (inl h) = other h
    go (inr (inl h)) = omega (arith, e, h)
    go (inr (inr (inl h))) = omega (arith, e, h)
    go (inr (inr (inr (inl h)))) = omega (arith, e, h)
    go (inr (inr (inr (inr (inl h))))) = omega (arith, e, h)
    go (inr (inr (inr (inr (inr (inl h)))))) = omega (arith, e, h)
    go (inr (inr (inr (inr (inr (inr h)))))) = omega (arith, e, h)

module _ (p x : ℕ) (listed : is_listed p ≡ true) (small : x < p) where
  record IsPrintedAs (b : Bool) : Type 0 where
    is : IsCell (cell b (if b then p - x else x))
    printed : is_printed_cell p (cell b (if b then p - x else x)) ≡ true
    back : class_of p (cell b (if b then p - x else x)) ≡ x

  negative_at : p < 2 * x → IsPrintedAs true
  negative_at h =
      let digits = (listed_digits p listed).1 in
      record {
        is = record { size = omega (arith, digits); sign = λ _. omega (arith, small) };
        printed = go (cases_eq p 2);
        back = omega (arith, small);
      }
    where
      go : (p ≡ 2) ⊎ (p ≢ 2) → is_printed_cell p (cell true (p - x)) ≡ true
      go (inl two) = absurd (omega (arith, two, h, small))
      go (inr other) = ap (λ (t : Bool). if t then false && nat_le (p - x) 1 else nat_lt (2 * (p - x)) p) (ne_eqb p 2 other) ∙ lt-ltb (2 * (p - x)) p (omega (arith, h, small))

  positive_at : 2 * x ≤ p → IsPrintedAs false
  positive_at h =
      let digits = (listed_digits p listed).1 in
      record {
        is = record { size = omega (arith, digits, small); sign = λ (bad : false ≡ true). absurd cc };
        printed = go (cases_eq p 2);
        back = refl;
      }
    where
      go : (p ≡ 2) ⊎ (p ≢ 2) → is_printed_cell p (cell false x) ≡ true
      go (inl two) = ap (λ (t : Bool). if t then true && nat_le x 1 else nat_lt (2 * x) p) (eq-eqb p 2 two) ∙ le-leb x 1 (omega (arith, two, h))
      go (inr other) = let uneven = odd p x listed other in ap (λ (t : Bool). if t then true && nat_le x 1 else nat_lt (2 * x) p) (ne_eqb p 2 other) ∙ lt-ltb (2 * x) p (omega (arith, h, uneven))

  printed_as : IsPrintedAs (nat_lt p (2 * x))
  printed_as = go (cases_lt p (2 * x))
    where
      go : (p < 2 * x) ⊎ (2 * x ≤ p) → IsPrintedAs (nat_lt p (2 * x))
      go (inl h) = subst IsPrintedAs (sym (lt-ltb p (2 * x) h)) (negative_at h)
      go (inr h) = subst IsPrintedAs (sym (le-ltb p (2 * x) h)) (positive_at h)

  pub class_cell : IsCell (cell_in p x)
  class_cell = printed_as.is

  pub class_printed : is_printed_cell p (cell_in p x) ≡ true
  class_printed = printed_as.printed

  pub class_again : class_of p (cell_in p x) ≡ x
  class_again = printed_as.back

-- the classes of a list
module _ (p : ℕ) (listed : is_listed p ≡ true) where
  pub classes_printed : (xs : List ℕ) → All (λ x. x < p) xs → list_all (is_printed_cell p) (map (cell_in p) xs) ≡ true
  classes_printed [] all = refl
  classes_printed (x ∷ xs) all =
      and_from (is_printed_cell p (cell_in p x)) (list_all (is_printed_cell p) (map (cell_in p) xs)) (class_printed p x listed (All-head (λ x. x < p) x xs all)) (classes_printed xs (All-tail (λ x. x < p) x xs all))

-- names of which none stands twice
other_bytes : (v w : List ℕ) → v ≢ w → bytes_eq v w ≡ false
other_bytes v w other = go (bytes_eq v w) (bytes_eq-Decides v w)
  where
    go : (b : Bool) → Decides b (v ≡ w) → b ≡ false
    go true d = absurd (other (d.0 refl))
    go false d = refl

pub same_bytes : (w : List ℕ) → bytes_eq w w ≡ true
same_bytes w = (bytes_eq-Decides w w).1 refl

not_among : (w : List ℕ) (ws : List (List ℕ)) → All (λ v. w ≢ v) ws → is_among w ws ≡ false
not_among w [] all = refl
not_among w (v ∷ ws) all =
    ap (λ (b : Bool). b || is_among w ws) (other_bytes w v (All-head (λ v. w ≢ v) v ws all)) ∙ not_among w ws (All-tail (λ v. w ≢ v) v ws all)

pub names_distinct : (ws : List (List ℕ)) → AllPairs (λ v w. v ≢ w) ws → are_distinct ws ≡ true
names_distinct [] h = refl
names_distinct (w ∷ ws) h =
    and_from (not (is_among w ws)) (are_distinct ws) (ap not (not_among w ws (λ k d low. h 0 (suc k) d (omega arith) (omega (arith, low)))))
    (names_distinct ws (λ i j d before low. h (suc i) (suc j) d (omega (arith, before)) (omega (arith, low))))
