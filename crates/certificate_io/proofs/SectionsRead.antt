-- What is read of a section of a text prints the section's parts.
use Rattle.std.proofs.Common.{◌≡◌, ◌∙◌, ℕ, suc, ◌<◌, ◌≤◌, Bool, true, false, List, [], ◌∷◌, ◌++◌, Option, Some, None, length, map, get_or, append_assoc, append-nil, refl, sym, ap, ap₂, subst, arith}
use Rattle.std.specs.Prelude.{nat_lt}
use Rattle.std.specs.List.{zip}
use Rattle.std.specs.Option.{option_map, option_or}
use Rattle.std.specs.Str.{bytes_eq}
use Rattle.std.proofs.lemmas.Bool.{and_parts, ltb-true}
use Rattle.std.proofs.lemmas.List.{get_or_at, length-map, length-append, map-id}
use Rattle.std.proofs.lemmas.Slice.Eq.{bytes_eq-Decides}
use Rattle.alg_core.specs.Spaces.{SpaceOver}
use Rattle.alg_core.specs.declared.term.Term.{Term as CodeTerm}
use Rattle.alg_core.specs.declared.value_kind.ValueKind.{ValueKind}
use Rattle.alg_core.specs.declared.value_kind.ValueKind.TheVariants as kinds
use Rattle.finite_certificate.specs.declared.power.Power.{Power}
use Rattle.poly_module.specs.declared.vector.Comb.{Comb}
use Rattle.poly_text.specs.Syntax.{Term}
use Rattle.poly_text.specs.Texts.{count_of}
use Rattle.poly_text.specs.declared.names.Names.{Names}
use Rattle.poly_text.proofs.EntrySteps.{both_none}
use Rattle.prime_field.specs.PrimeFields.{IsPrimeField}
use Rattle.certificate_io.specs.LineReadings.{image_tree, member_tree, power_kind, power_parts, power_said}
use Rattle.certificate_io.specs.Parts.{ImageTree, MemberTree, PowerTree, tree_in, combination_in, power_in, image_in, member_in}
use Rattle.certificate_io.specs.ReadParts.{ArePolynomials, ArePowers}
use Rattle.certificate_io.specs.Readings.{CanRead, poly_tree, comb_tree, run_fault}
use Rattle.certificate_io.specs.Spaces.{plain_names}
use Rattle.certificate_io.specs.Syntax.{IsSome}
use Rattle.certificate_io.specs.Values.{checked, is_name_at}
use Rattle.certificate_io.specs.declared.evidence.Image.{Image}
use Rattle.certificate_io.specs.declared.evidence.Line.{Line}
use Rattle.certificate_io.proofs.PrintedTrees.{comb_same, tree_same}

-- conditions that hold together
pub none_of_two : {A : Type 0} (a b : Option A) → option_or a b ≡ None → (a ≡ None) × (b ≡ None)
none_of_two None b h = (refl, h)
none_of_two (Some x) b h = absurd cc

pub holds_of_checked : (kind : ValueKind) (b : Bool) → checked kind b ≡ None → b ≡ true
holds_of_checked kind true h = refl
holds_of_checked kind false h = absurd cc

-- lists of what is read
same_maps : {A B : Type 0} (f g : A → B) → ((x : A) → f x ≡ g x) → (xs : List A) → map f xs ≡ map g xs
same_maps f g same [] = refl
same_maps f g same (x ∷ xs) = ap₂ (λ y ys. y ∷ ys) (same x) (same_maps f g same xs)

pub read_length : {A B T : Type 0} (f : A → B) (g : T → B) (xs : List A) (ys : List T) → map f xs ≡ map g ys → length xs ≡ length ys
read_length f g xs ys e = sym (length-map xs f) ∙ ap length e ∙ length-map ys g

pub some_read : {A B : Type 0} (xs : List A) (ys : List B) → length xs ≡ length ys → IsSome ys → IsSome xs
some_read xs ys same some = subst (λ (k : ℕ). 1 ≤ k) (sym same) some

module _ (S : SpaceOver ℕ) (names : Names) (p : ℕ) (prime : IsPrimeField p S.field) (can : CanRead S names) where
  pub trees_read : (xs : List (List Term)) (fs : List (List (CodeTerm ℕ (List ℕ)))) → ArePolynomials S names xs fs → map (tree_in p names.vars (count_of names.primaries)) fs ≡ xs
  trees_read xs fs read = same_maps (tree_in p names.vars (count_of names.primaries)) (poly_tree S names) (λ f. sym (tree_same S names p prime can f)) fs ∙ read.1 ∙ map-id xs

  -- the powers, whose names stand at their places
  abbrev power : List ℕ × Power ℕ → PowerTree
  power x = power_in p names.vars (count_of names.primaries) x

  abbrev power_as : ℕ × List Term → List ℕ → PowerTree
  power_as y w = record { name = w; exponent = y.0; form = y.1 }

  same_power : (v : List ℕ) (w : Power ℕ) (x : PowerTree) → x.name ≡ v → power_parts S names w ≡ power_said x → power (v, w) ≡ x
  same_power v w x named same =
      ap (λ ts. record { name = v; exponent = w.exponent; form = ts }) (sym (tree_same S names p prime can w.form)) ∙ ap₂ power_as same (sym named)

  named_at : (k : ℕ) (x : PowerTree) → power_kind S names k x ≡ None → (k < length names.vars) × (x.name ≡ get_or names.vars k [])
  named_at k x h =
      let found = none_of_two (checked kinds.Power (is_name_at names.vars k x.name)) _ h in
      let parts = and_parts (nat_lt k (length names.vars)) (bytes_eq x.name (get_or names.vars k [])) (holds_of_checked kinds.Power (is_name_at names.vars k x.name) found.0) in
      (ltb-true k (length names.vars) parts.0, (bytes_eq-Decides x.name (get_or names.vars k [])).0 parts.1)

  powers_from : (i : ℕ) (pre vs : List (List ℕ)) (xs : List PowerTree) (ws : List (Power ℕ)) → names.vars ≡ pre ++ vs → run_fault (power_kind S names) i (length pre) xs ≡ None → length vs ≤ length xs
      → map (power_parts S names) ws ≡ map power_said xs → (length ws ≡ length vs) × (map power (zip vs ws) ≡ xs)
  powers_from i pre [] [] [] are passed low same = (refl, refl)
  powers_from i pre [] [] (w ∷ ws) are passed low same = absurd cc
  powers_from i pre [] (x ∷ xs) ws are passed low same =
      let found = both_none i (power_kind S names (length pre) x) (run_fault (power_kind S names) (suc i) (suc (length pre)) xs) passed in
      let here = (named_at (length pre) x found.0).0 in
      let many : length names.vars ≡ length pre = ap length (are ∙ append-nil pre) in
      absurd (omega (arith, here, many))
  powers_from i pre (v ∷ vs) [] ws are passed low same = absurd (omega (arith, low))
  powers_from i pre (v ∷ vs) (x ∷ xs) [] are passed low same = absurd cc
  powers_from i pre (v ∷ vs) (x ∷ xs) (w ∷ ws) are passed low same =
      let found = both_none i (power_kind S names (length pre) x) (run_fault (power_kind S names) (suc i) (suc (length pre)) xs) passed in
      let named : x.name ≡ v = (named_at (length pre) x found.0).1 ∙ ap (λ l. get_or l (length pre) []) are ∙ get_or_at pre v vs [] (length pre) refl in
      let next : suc (length pre) ≡ length (pre ++ (v ∷ [])) = omega (arith, length-append pre (v ∷ [])) in
      let first : power_parts S names w ≡ power_said x = cc in
      let others : map (power_parts S names) ws ≡ map power_said xs = cc in
      let rest = powers_from (suc i) (pre ++ (v ∷ [])) vs xs ws (are ∙ sym (append_assoc pre (v ∷ []) vs)) (ap (λ k. run_fault (power_kind S names) (suc i) k xs) (sym next) ∙ found.1) (omega (arith, low)) others in
      (ap suc rest.0, ap₂ (λ y ys. y ∷ ys) (same_power v w x named first) rest.1)

  pub powers_read : (i : ℕ) (xs : List PowerTree) (ws : List (Power ℕ)) → run_fault (power_kind S names) i 0 xs ≡ None → length names.vars ≤ length xs → ArePowers S names xs ws
      → (length ws ≡ length names.vars) × (map power (zip names.vars ws) ≡ xs)
  powers_read i xs ws passed low read = powers_from i [] names.vars xs ws refl passed low read.1

  -- averages and members of the kernel
  module _ (T : SpaceOver ℕ) (field : IsPrimeField p T.field) where
    abbrev count : ℕ
    count = length T.shifts

    member_same : (y : Line ℕ) → member_in p names.vars (count_of names.primaries) count y ≡ member_tree S T names y
    member_same y = ap₂ (λ a b. record { polynomial = a; combination = b }) (sym (tree_same S names p prime can y.u)) (go y.comb)
      where
        go : (o : Option (Comb ℕ)) → option_map (combination_in p count) o ≡ option_map (comb_tree T) o
        go None = refl
        go (Some c) = ap Some (sym (comb_same T p field c))

    pub members_read : (xs : List MemberTree) (ys : List (Line ℕ)) → map (member_tree S T names) ys ≡ map (λ x. x) xs → map (member_in p names.vars (count_of names.primaries) count) ys ≡ xs
    members_read xs ys read = same_maps (member_in p names.vars (count_of names.primaries) count) (member_tree S T names) member_same ys ∙ read ∙ map-id xs

pub images_read : (T : SpaceOver ℕ) (ns : List (List ℕ)) (p : ℕ) (field : IsPrimeField p T.field) (xs : List ImageTree) (ys : List (Image ℕ)) → map (image_tree T (plain_names ns)) ys ≡ map (λ x. x) xs → map (image_in p ns (length T.shifts)) ys ≡ xs
images_read T ns p field xs ys read =
    same_maps (image_in p ns (length T.shifts)) (image_tree T (plain_names ns)) (λ y. ap (λ ts. record { monomial = (image_in p ns (length T.shifts) y).monomial; combination = ts }) (sym (comb_same T p field y.comb))) ys ∙ read ∙ map-id xs
