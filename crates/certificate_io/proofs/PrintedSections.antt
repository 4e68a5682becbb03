-- What the parts of a certificate print, section by section: the parts are those of lines, and no condition on their values fails.
use Rattle.std.proofs.Common.{◌≡◌, ◌∙◌, ℕ, suc, ◌+◌, ◌*◌, ◌<◌, ◌≤◌, Bool, true, List, [], ◌∷◌, ◌++◌, Option, Some, None, length, map, get_or, append_assoc, refl, sym, ap, ap₂, subst, arith}
use Rattle.std.specs.Prelude.{All, IfSome, IsTrue, ◌==◌, nat_le, nat_lt}
use Rattle.std.specs.List.{zip}
use Rattle.std.specs.Option.{option_map, option_or}
use Rattle.std.specs.Str.{bytes_eq}
use Rattle.std.proofs.lemmas.Bool.{and_from, eq-eqb, le-leb, lt-ltb}
use Rattle.std.proofs.lemmas.List.{get_or_at, length-map, length-append}
use Rattle.std.proofs.lemmas.List.Elements.{All-nil, All-cons, All-head, All-tail}
use Rattle.alg_core.specs.Names.{is_name}
use Rattle.alg_core.specs.Spaces.{SpaceOver}
use Rattle.alg_core.specs.declared.term.Term.{Term as CodeTerm}
use Rattle.alg_core.specs.declared.value_kind.ValueKind.{ValueKind}
use Rattle.alg_core.specs.declared.value_kind.ValueKind.TheVariants as kinds
use Rattle.finite_certificate.specs.declared.power.Power.{Power}
use Rattle.poly_module.specs.declared.vector.Comb.{Comb}
use Rattle.poly_text.specs.Syntax.{Term}
use Rattle.poly_text.specs.Texts.{count_of}
use Rattle.poly_text.specs.declared.names.Names.{Names}
use Rattle.prime_field.specs.ListedPrimes.{is_listed}
use Rattle.prime_field.specs.PrimeFields.{IsPrimeField}
use Rattle.certificate_io.specs.Certificates.{MatrixOf}
use Rattle.certificate_io.specs.Conditions.{IsPolynomialIn, IsCombinationIn, IsSquare}
use Rattle.certificate_io.specs.LineReadings.{power_kind, image_kind, member_kind, comb_kind_of, IsImageIn, IsMemberIn, IsPowerIn}
use Rattle.certificate_io.specs.Parts.{PowerTree, IsSomeOf, IsPowerTree, IsImageTree, IsMemberTree, cell_in, tree_in, combination_in, power_in, image_in, member_in}
use Rattle.certificate_io.specs.Readings.{CanRead, run_fault, matrix_kind, poly_kind}
use Rattle.certificate_io.specs.Spaces.{plain_names}
use Rattle.certificate_io.specs.Syntax.{IsCell, IsPolynomial, IsSome}
use Rattle.certificate_io.specs.Values.{checked, is_name_at}
use Rattle.certificate_io.specs.declared.evidence.Image.{Image}
use Rattle.certificate_io.specs.declared.evidence.Line.{Line}
use Rattle.certificate_io.proofs.ClassCells.{class_cell, classes_printed, same_bytes}
use Rattle.certificate_io.proofs.PrintedTrees.{all_parts, run_passes, tree_passes, tree_is, mono_is, mono_passes, comb_no_fault, comb_is}
use Rattle.certificate_io.proofs.ReadingRuns.{passes_on}

pub some_map : {A B : Type 0} (f : A → B) (xs : List A) → IsSome xs → IsSome (map f xs)
some_map f xs some = subst (λ (k : ℕ). 1 ≤ k) (sym (length-map xs f)) some

pub checked_passes : (kind : ValueKind) (b : Bool) → b ≡ true → checked kind b ≡ None
checked_passes kind b e = ap (checked kind) e

-- entries of a matrix
module _ (p n : ℕ) (listed : is_listed p ≡ true) where
  cells_are : (xs : List ℕ) → All (λ x. x < p) xs → All IsCell (map (cell_in p) xs)
  cells_are xs all = all_parts (cell_in p) (λ x. x < p) IsCell (λ x small. class_cell p x listed small) xs all

  pub matrix_is : 1 ≤ n → (g : MatrixOf ℕ) → IsSquare p n g → IsSomeOf IsCell (map (cell_in p) g.cells)
  matrix_is some g is =
      let many : 1 ≤ n * n = grind (arith, some) in
      (some_map (cell_in p) g.cells (subst (λ (k : ℕ). 1 ≤ k) (sym is.cells) many), cells_are g.cells is.classes)

  pub matrix_passes : (g : MatrixOf ℕ) → IsSquare p n g → matrix_kind p n (map (cell_in p) g.cells) ≡ None
  matrix_passes g is =
      ap₂ option_or (checked_passes kinds.Size (length (map (cell_in p) g.cells) == n * n) (eq-eqb (length (map (cell_in p) g.cells)) (n * n) (length-map g.cells (cell_in p) ∙ is.cells)))
      (checked_passes kinds.Coefficient _ (classes_printed p listed g.cells is.classes))

-- polynomials
module _ (S : SpaceOver ℕ) (names : Names) (p : ℕ) (prime : IsPrimeField p S.field) (can : CanRead S names) where
  abbrev pub tree : List (CodeTerm ℕ (List ℕ)) → List Term
  tree f = tree_in p names.vars (count_of names.primaries) f

  pub trees_are : (fs : List (List (CodeTerm ℕ (List ℕ)))) → All (IsPolynomialIn S names) fs → All IsPolynomial (map tree fs)
  trees_are fs all = all_parts tree (IsPolynomialIn S names) IsPolynomial (tree_is S names p prime can) fs all

  pub trees_pass : (i : ℕ) (fs : List (List (CodeTerm ℕ (List ℕ)))) → All (IsPolynomialIn S names) fs → run_fault (λ _ ts. poly_kind S names ts) i 0 (map tree fs) ≡ None
  trees_pass i fs all = run_passes (λ _ ts. poly_kind S names ts) tree (IsPolynomialIn S names) (λ k f reads. tree_passes S names p prime can f reads) i 0 fs all

  -- powers
  abbrev pub power : List ℕ × Power ℕ → PowerTree
  power x = power_in p names.vars (count_of names.primaries) x

  pub powers_are : (vs : List (List ℕ)) (xs : List (Power ℕ)) → All (λ w. IsTrue (is_name w)) vs → All (IsPowerIn S names) xs → All IsPowerTree (map power (zip vs xs))
  powers_are [] xs named all = All-nil IsPowerTree
  powers_are (v ∷ vs) [] named all = All-nil IsPowerTree
  powers_are (v ∷ vs) (x ∷ xs) named all =
      let one = All-head (IsPowerIn S names) x xs all in
      let low = one.exponent.0 in
      let high = one.exponent.1 in
      All-cons IsPowerTree (power (v, x)) (map power (zip vs xs)) (record { name = All-head (λ w. IsTrue (is_name w)) v vs named; exponent = (low, omega (arith, high)); form = tree_is S names p prime can x.form one.form })
      (powers_are vs xs (All-tail (λ w. IsTrue (is_name w)) v vs named) (All-tail (IsPowerIn S names) x xs all))

  -- the name at the place of a power is its name
  named_at : (pre vs : List (List ℕ)) (v : List ℕ) → is_name_at (pre ++ (v ∷ vs)) (length pre) v ≡ true
  named_at pre vs v =
      let all : length (pre ++ (v ∷ vs)) ≡ length pre + length (v ∷ vs) = length-append pre (v ∷ vs) in
      and_from (nat_lt (length pre) (length (pre ++ (v ∷ vs)))) (bytes_eq v (get_or (pre ++ (v ∷ vs)) (length pre) [])) (lt-ltb (length pre) (length (pre ++ (v ∷ vs))) (omega (arith, all))) (ap (bytes_eq v) (get_or_at pre v vs [] (length pre) refl) ∙ same_bytes v)

  power_passes : (pre vs : List (List ℕ)) (v : List ℕ) (x : Power ℕ) → names.vars ≡ pre ++ (v ∷ vs) → IsPowerIn S names x → power_kind S names (length pre) (power (v, x)) ≡ None
  power_passes pre vs v x are one =
      ap₂ option_or (checked_passes kinds.Power (is_name_at names.vars (length pre) v) (ap (λ ws. is_name_at ws (length pre) v) are ∙ named_at pre vs v))
      (ap₂ option_or (checked_passes kinds.Exponent (nat_le x.exponent 4096) (le-leb x.exponent 4096 one.exponent.1)) (tree_passes S names p prime can x.form one.form))

  powers_pass_from : (i : ℕ) (pre vs : List (List ℕ)) (xs : List (Power ℕ)) → names.vars ≡ pre ++ vs → All (IsPowerIn S names) xs → run_fault (power_kind S names) i (length pre) (map power (zip vs xs)) ≡ None
  powers_pass_from i pre [] xs are all = refl
  powers_pass_from i pre (v ∷ vs) [] are all = refl
  powers_pass_from i pre (v ∷ vs) (x ∷ xs) are all =
      let next : length (pre ++ (v ∷ [])) ≡ suc (length pre) = omega (arith, length-append pre (v ∷ [])) in
      let rest = powers_pass_from (suc i) (pre ++ (v ∷ [])) vs xs (are ∙ sym (append_assoc pre (v ∷ []) vs)) (All-tail (IsPowerIn S names) x xs all) in
      passes_on i (power_kind S names (length pre) (power (v, x))) (run_fault (power_kind S names) (suc i) (suc (length pre)) (map power (zip vs xs))) (power_passes pre vs v x are (All-head (IsPowerIn S names) x xs all))
      ∙ ap (λ k. run_fault (power_kind S names) (suc i) k (map power (zip vs xs))) (sym next) ∙ rest

  pub powers_pass : (i : ℕ) (xs : List (Power ℕ)) → All (IsPowerIn S names) xs → run_fault (power_kind S names) i 0 (map power (zip names.vars xs)) ≡ None
  powers_pass i xs all = powers_pass_from i [] names.vars xs refl all

  -- averages and members of the kernel
  module _ (T : SpaceOver ℕ) (field : IsPrimeField p T.field) where
    abbrev pub count : ℕ
    count = length T.shifts

    pub member_is : (x : Line ℕ) → IsMemberIn S T names x → IsMemberTree (member_in p names.vars (count_of names.primaries) count x)
    member_is x is = record { polynomial = tree_is S names p prime can x.u is.polynomial; combination = go x.comb is.combination }
      where
        go : (o : Option (Comb ℕ)) → IfSome o (λ c. IsCombinationIn T c.vector) → IfSome (option_map (combination_in p count) o) IsPolynomial
        go None h = tt
        go (Some c) h = comb_is T p field c h

    pub member_passes : (x : Line ℕ) → IsMemberIn S T names x → member_kind S T names (member_in p names.vars (count_of names.primaries) count x) ≡ None
    member_passes x is = ap₂ option_or (tree_passes S names p prime can x.u is.polynomial) (go x.comb is.combination)
      where
        go : (o : Option (Comb ℕ)) → IfSome o (λ c. IsCombinationIn T c.vector) → comb_kind_of T (option_map (combination_in p count) o) ≡ None
        go None h = refl
        go (Some c) h = comb_no_fault T p field c h

-- averages, in the variables alone
module _ (S T : SpaceOver ℕ) (ns : List (List ℕ)) (p : ℕ) (prime : IsPrimeField p S.field) (can : CanRead S (plain_names ns)) (field : IsPrimeField p T.field) where
  pub image_is : (x : Image ℕ) → IsImageIn S T (plain_names ns) x → IsImageTree (image_in p ns (length T.shifts) x)
  image_is x is = record { monomial = mono_is S (plain_names ns) p prime can x.mono is.place is.monomial; combination = comb_is T p field x.comb is.combination }

  pub image_passes : (x : Image ℕ) → IsImageIn S T (plain_names ns) x → image_kind S T (plain_names ns) (image_in p ns (length T.shifts) x) ≡ None
  image_passes x is = ap₂ option_or (mono_passes S (plain_names ns) p prime can x.mono is.place is.monomial) (comb_no_fault T p field x.comb is.combination)
