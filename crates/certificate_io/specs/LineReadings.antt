-- The values of the lines of powers, averages and members of the kernel, over a space S of polynomials and a space T of combinations.
--
--   power_kind S names k x           the kind of the first fault of the line of the power at the place k
--   comb_kind_of T o                 the kind of the first fault of the combination of a member, where it has one
--   image_kind, member_kind S T names x   that of the line of an average, of a member
--   IsPowerIn S names p              a power that can be read
--   IsImageIn, IsMemberIn S T names x   an average, a member that can be read
--   power_parts S names p, power_said x   the exponent and the tree that the power prints, and those of its line
--   image_tree, member_tree          the parts of the lines that they print
use Rattle.std.specs.Prelude.{ℕ, nat_le, List, [], ◌∷◌, Option, Some, None, IfSome}
use Rattle.std.specs.Option.{option_map, option_or}
use Rattle.alg_core.specs.Spaces.{SpaceOver, IsPlace}
use Rattle.alg_core.specs.declared.value_kind.ValueKind.{ValueKind}
use Rattle.alg_core.specs.declared.value_kind.ValueKind.TheVariants as kinds
use Rattle.finite_certificate.specs.declared.power.Power.{Power}
use Rattle.poly_text.specs.Syntax.{monomial_term, Term}
use Rattle.poly_text.specs.Texts.{factors_from, variable_at}
use Rattle.poly_text.specs.Values.{IsReadable}
use Rattle.poly_text.specs.declared.names.Names.{Names}
use Rattle.certificate_io.specs.declared.evidence.Image.{Image}
use Rattle.certificate_io.specs.declared.evidence.Line.{Line}
use Rattle.certificate_io.specs.Conditions.{IsPolynomialIn, IsCombinationIn}
use Rattle.certificate_io.specs.Parts.{PowerTree, ImageTree, MemberTree}
use Rattle.certificate_io.specs.Readings.{poly_tree, comb_tree, poly_kind, comb_kind}
use Rattle.certificate_io.specs.Syntax.{IsBetween}
use Rattle.certificate_io.specs.Values.{checked, is_name_at}

module _ (S : SpaceOver ℕ) (names : Names) where
  abbrev pub power_kind : ℕ → PowerTree → Option ValueKind
  power_kind k x =
      option_or (checked kinds.Power (is_name_at names.vars k x.name))
      (option_or (checked kinds.Exponent (nat_le x.exponent 4096)) (poly_kind S names x.form))

  pub record IsPowerIn (p : Power ℕ) : Type 0 where
    pub exponent : IsBetween 4096 p.exponent
    pub form : IsPolynomialIn S names p.form

  abbrev pub power_parts : Power ℕ → ℕ × List Term
  power_parts p = (p.exponent, poly_tree S names p.form)

abbrev pub power_said : PowerTree → ℕ × List Term
power_said x = (x.exponent, x.form)

abbrev pub comb_kind_of : SpaceOver ℕ → Option (List Term) → Option ValueKind
comb_kind_of T None = None
comb_kind_of T (Some us) = comb_kind T us

module _ (S T : SpaceOver ℕ) (names : Names) where
  abbrev pub image_kind : ImageTree → Option ValueKind
  image_kind x = option_or (poly_kind S names (monomial_term x.monomial ∷ [])) (comb_kind T x.combination)

  abbrev pub member_kind : MemberTree → Option ValueKind
  member_kind x = option_or (poly_kind S names x.polynomial) (comb_kind_of T x.combination)

  pub record IsImageIn (y : Image ℕ) : Type 0 where
    pub place : IsPlace S (0, y.mono)
    pub monomial : IsReadable S names ((0, y.mono), 1)
    pub combination : IsCombinationIn T y.comb.vector

  pub record IsMemberIn (y : Line ℕ) : Type 0 where
    pub polynomial : IsPolynomialIn S names y.u
    pub combination : IfSome y.comb (λ c. IsCombinationIn T c.vector)

  abbrev pub member_tree : Line ℕ → MemberTree
  member_tree y = record { polynomial = poly_tree S names y.u; combination = option_map (comb_tree T) y.comb }

module _ (T : SpaceOver ℕ) (names : Names) where
  abbrev pub image_tree : Image ℕ → ImageTree
  image_tree y = record { monomial = factors_from (variable_at names) 0 y.mono; combination = comb_tree T y.comb }
