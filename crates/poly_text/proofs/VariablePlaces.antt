-- The variables and their places: each place below the number of places has one variable, and each variable its place.
use Rattle.std.proofs.Common.{◌≡◌, ◌∙◌, ℕ, ◌+◌, ◌-◌, ◌<◌, ◌≤◌, inl, inr, Bool, true, false, cond, List, [], Option, Some, None, length, get_or, refl, sym, ap, subst, arith}
use Rattle.std.specs.Prelude.{All, IsTrue}
use Rattle.std.specs.List.{position, position_or_len}
use Rattle.std.specs.Option.{is_some}
use Rattle.std.specs.Str.{bytes_eq}
use Rattle.std.proofs.lemmas.Bool.{lt-ltb, le-ltb, le-leb, leb-true, cases_lt}
use Rattle.std.proofs.lemmas.List.Quantifiers.{position-Some}
use Rattle.std.proofs.lemmas.List.Sums.{position_or_len_is}
use Rattle.std.proofs.lemmas.Slice.Eq.{bytes_eq-Decides}
use Rattle.alg_core.specs.Names.{is_name}
use Rattle.poly_text.specs.declared.names.Names.{Names}
use Rattle.poly_text.specs.declared.syntax.Mark.TheVariants.{Primary, Irreducible, Secondary}
use Rattle.poly_text.specs.Syntax.{Variable, Named, Marked, IsVariable}
use Rattle.poly_text.specs.Texts.{count_of, place_count, variable_at}
use Rattle.poly_text.specs.Values.{name_place, is_known, is_within, place, AreDistinct, IsIndexed}

false_unless : (b : Bool) (P : Type 0) → (b ≡ true → P) → (P → ⊥) → b ≡ false
false_unless true P h n = absurd (n (h refl))
false_unless false P h n = refl

position_at : (p : List ℕ → Bool) (xs : List (List ℕ)) (i : ℕ) → i < length xs → position_or_len p xs ≡ i → position p xs ≡ Some i
position_at p xs i below at =
    let short : position_or_len p xs < length xs = omega arith in
    ap (λ b. cond b (Some (position_or_len p xs)) None) (lt-ltb _ _ short) ∙ ap Some at

-- where no name stands twice, the name at a place has this place
pub name_place_at : (names : Names) (i : ℕ) → AreDistinct names → i < length names.vars → name_place names (get_or names.vars i []) ≡ Some i
name_place_at names i distinct below =
    let vars = names.vars in
    let w = get_or vars i [] in
    position_at (bytes_eq w) vars i below
    (position_or_len_is (bytes_eq w) vars i [] (omega arith)
    (λ k lower. false_unless _ _ (bytes_eq-Decides w (get_or vars k [])).0 (λ same. distinct k i [] lower below (sym same)))
    (λ _. (bytes_eq-Decides w w).1 refl))

pub name_at_place : (names : Names) (w : List ℕ) (k : ℕ) → name_place names w ≡ Some k → (k < length names.vars) × (get_or names.vars k [] ≡ w)
name_at_place names w k h =
    let found = position-Some (bytes_eq w) names.vars k [] h in
    (found.0, sym ((bytes_eq-Decides w (get_or names.vars k [])).0 found.1))

module _ (names : Names) where
  variable_named : (i : ℕ) → i < length names.vars → variable_at names i ≡ Named (get_or names.vars i [])
  variable_named i below = rw (lt-ltb i (length names.vars) below) refl

  pub variable_primary : (i : ℕ) → length names.vars ≤ i → i < length names.vars + count_of names.primaries → variable_at names i ≡ Marked Primary (i - length names.vars + 1)
  variable_primary i high below = rw (le-ltb i (length names.vars) high, lt-ltb i (length names.vars + count_of names.primaries) below) refl

  variable_irreducible : (i : ℕ) → length names.vars + count_of names.primaries ≤ i → variable_at names i ≡ Marked Irreducible (i - (length names.vars + count_of names.primaries) + 1)
  variable_irreducible i high =
      let low : length names.vars ≤ i = omega arith in
      rw (le-ltb i (length names.vars) low, le-ltb i (length names.vars + count_of names.primaries) high) refl

  -- the variable is known, its index is within, and it has this place
  pub record StandsAt (v : Variable) (i : ℕ) : Type 0 where
    pub known : is_known None names v ≡ true
    pub within : is_within None names v ≡ true
    pub place : place names v ≡ i

  some_count : (count : Option ℕ) → 0 < count_of count → is_some count ≡ true
  some_count None h = absurd (omega arith)
  some_count (Some n) h = refl

  -- the variable at a place stands there
  pub variable_stands : (i : ℕ) → AreDistinct names → i < place_count names → StandsAt (variable_at names i) i
  variable_stands i distinct below =
      let n = length names.vars in
      let r = count_of names.primaries in
      elim (cases_lt i n) as (λ _. StandsAt (variable_at names i) i) [
        | inl low ↦ subst (λ v. StandsAt v i) (sym (variable_named i low)) (record {
          known = ap is_some (name_place_at names i distinct low);
          within = refl;
          place = ap count_of (name_place_at names i distinct low);
        })
        | inr high ↦ elim (cases_lt i (n + r)) as (λ _. StandsAt (variable_at names i) i) [
          | inl low ↦ subst (λ v. StandsAt v i) (sym (variable_primary i high low)) (record {
            known = some_count names.primaries (omega arith);
            within = le-leb _ _ (omega arith);
            place = omega arith;
          })
          | inr higher ↦ subst (λ v. StandsAt v i) (sym (variable_irreducible i higher)) (record {
            known = some_count names.irreducibles (omega arith);
            within = le-leb _ _ (omega arith);
            place = omega arith;
          })
        ]
      ]

  -- a variable that is known and within has a place, and is the one at its place
  pub variable_at_place : (v : Variable) → IsVariable v → is_known None names v ≡ true → is_within None names v ≡ true → (variable_at names (place names v) ≡ v) × (place names v < place_count names)
  variable_at_place (Named w) short known within = named (name_place names w) refl known
    where
      named : (o : Option ℕ) → name_place names w ≡ o → is_some o ≡ true → (variable_at names (count_of (name_place names w)) ≡ Named w) × (count_of (name_place names w) < place_count names)
      named None e h = absurd cc
      named (Some k) e h =
          let found = name_at_place names w k e in
          let low : k < length names.vars = found.0 in
          let small : k < place_count names = omega arith in
          let here : variable_at names k ≡ Named w = variable_named k low ∙ ap Named found.1 in
          subst (λ o. (variable_at names (count_of o) ≡ Named w) × (count_of o < place_count names)) (sym e) (here, small)
  variable_at_place (Marked Primary j) short known within =
      let n = length names.vars in
      let positive : 1 ≤ j = short.0 in
      let small : j ≤ count_of names.primaries = leb-true _ _ within in
      let back : n + (j - 1) - n + 1 ≡ j = omega arith in
      (variable_primary (n + (j - 1)) (omega arith) (omega arith) ∙ ap (Marked Primary) back, omega arith)
  variable_at_place (Marked Irreducible j) short known within =
      let n = length names.vars in
      let r = count_of names.primaries in
      let positive : 1 ≤ j = short.0 in
      let small : j ≤ count_of names.irreducibles = leb-true _ _ within in
      let back : n + r + (j - 1) - (n + r) + 1 ≡ j = omega arith in
      (variable_irreducible (n + r + (j - 1)) (omega arith) ∙ ap (Marked Irreducible) back, omega arith)
  variable_at_place (Marked Secondary j) short known within = absurd cc

  -- the variable at a place is one of the grammar, where its index is short
  pub variable_is_one : (i : ℕ) → All (λ w. IsTrue (is_name w)) names.vars → IsIndexed (variable_at names i) → IsVariable (variable_at names i)
  variable_is_one i each indexed =
      let n = length names.vars in
      let r = count_of names.primaries in
      elim (cases_lt i n) as (λ _. IsVariable (variable_at names i)) [
        | inl low ↦ subst IsVariable (sym (variable_named i low)) (each i [] low)
        | inr high ↦ elim (cases_lt i (n + r)) as (λ _. IsVariable (variable_at names i)) [
          | inl low ↦ subst IsVariable (sym (variable_primary i high low)) (omega arith, subst IsIndexed (variable_primary i high low) indexed)
          | inr higher ↦ subst IsVariable (sym (variable_irreducible i higher)) (omega arith, subst IsIndexed (variable_irreducible i higher) indexed)
        ]
      ]
