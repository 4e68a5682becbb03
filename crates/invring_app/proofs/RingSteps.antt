-- The ground of a script, and what a fault on the way to its certificate tells.
use Rattle.std.proofs.Common.{◌≡◌, ◌∙◌, ℕ, List, length, replicate, inl, inr, refl, sym, ap, subst}
use Rattle.std.proofs.lemmas.List.{length-replicate}
use Rattle.alg_core.specs.DpOrder.{dp_order}
use Rattle.alg_core.specs.PolynomialSpaces.{plain_space}
use Rattle.alg_core.specs.Spaces.{SpaceOver, over}
use Rattle.alg_core.specs.declared.dp.Dp.{Dp}
use Rattle.alg_core.specs.declared.limits.Limits.{Limits}
use Rattle.alg_core.specs.declared.space.Space.{Space}
use Rattle.prime_field.specs.PrimeFields.{gfp, IsPrimeField}
use Rattle.prime_field.specs.declared.gfp.PrimeField.{PrimeField}
use Rattle.matrix_group.specs.declared.fault.GroupFault.{GroupFault}
use Rattle.matrix_group.specs.declared.fault.GroupFault.TheVariants as groups
use Rattle.invariant_space.specs.declared.fault.SpaceFault.{SpaceFault}
use Rattle.invariant_space.specs.declared.fault.SpaceFault.TheVariants as spaces
use Rattle.module_groebner.specs.declared.bound.BasisBound.{BasisBound as Bound}
use Rattle.module_groebner.specs.declared.bound.BasisFault.{BasisFault}
use Rattle.module_groebner.specs.declared.bound.BasisFault.TheVariants as bases
use Rattle.primary_module.specs.declared.fault.RankFault.{RankFault}
use Rattle.primary_module.specs.declared.fault.RankFault.TheVariants as ranks
use Rattle.primary_search.specs.declared.fault.SearchFault.{SearchFault}
use Rattle.primary_search.specs.declared.fault.SearchFault.TheVariants as searches
use Rattle.finvar_text.specs.Problems.{Problem, IsProblemText}
use Rattle.finvar_text.specs.declared.script.Script.{Script}
use Rattle.certificate_io.specs.Certificates.{CertificateOf}
use Rattle.certificate_io.specs.Texts.{certificate_text}
use Rattle.invring_app.specs.declared.commands.Command.TheVariants.{Ring}
use Rattle.invring_app.specs.declared.fault.Fault.{Fault}
use Rattle.invring_app.specs.declared.fault.Fault.TheVariants as faults
use Rattle.invring_app.specs.declared.status.BoundFault.TheVariants.{TermBound, RankBound, GroupBound, BasisBound}
use Rattle.invring_app.specs.Answers.{IsFault}
use Rattle.invring_app.specs.Commands.Orders.{IsGroupTold}
use Rattle.invring_app.specs.Commands.Primaries.{IsSearchTold}
use Rattle.invring_app.specs.Commands.Rings.{IsCertificateOf, IsKept, IsGrouped, IsRankFault, IsGraphFault, IsImageFault}
use Rattle.invring_app.specs.Faults.{fault_of_basis, fault_of_group, fault_of_rank, fault_of_search, fault_of_space}
use Rattle.invring_app.specs.Inputs.{OfScript}
use Rattle.invring_app.specs.RankedScripts.{IsScriptSpace}
use Rattle.invring_app.specs.RingFaults.{IsRingTold, IsTooLong}
use Rattle.invring_app.proofs.FoundSteps.{plain_of}

abbrev pub space_of : Space PrimeField Dp → SpaceOver ℕ
space_of s = over (λ (f : PrimeField). gfp f.p f.listed) (λ (o : Dp). dp_order o.weights.items) s

pub ground_of : (script : Script) (s : Space PrimeField Dp) (n : ℕ) (g : PrimeField) → n ≡ length script.names.items → IsPrimeField script.characteristic (gfp g.p g.listed) → s.field ≡ g
    → over (λ (f : PrimeField). gfp f.p f.listed) (λ (o : Dp). dp_order o.weights.items) s ≡ plain_space (gfp g.p g.listed) n → IsScriptSpace script (over (λ (f : PrimeField). gfp f.p f.listed) (λ (o : Dp). dp_order o.weights.items) s)
ground_of script s n g many field same is =
    let weights : s.grading.weights.items ≡ replicate n 1 = ap (λ (T : SpaceOver ℕ). T.weights) is in
    record {
      plain = plain_of (space_of s) n (ap (λ (T : SpaceOver ℕ). T.order) is) weights (ap (λ (T : SpaceOver ℕ). T.shifts) is);
      many = ap length weights ∙ length-replicate n 1 ∙ many;
      field = subst (λ (f : PrimeField). IsPrimeField script.characteristic (gfp f.p f.listed)) (sym same) field;
    }

module _ (q : Problem) (l : Limits) where
  pub group_told : (e : GroupFault) → IsGroupTold l.max_order q e → IsRingTold q l (fault_of_group e)
  group_told (groups.GroupBound counted) told = inl (ap (λ (n : ℕ). GroupBound n) told.0, told.1)
  group_told groups.Memory told = tt

  pub search_told : (N : ℕ) (e : SearchFault ℕ) → IsGrouped q l N → IsSearchTold l q e → IsRingTold q l (fault_of_search e)
  search_told N (searches.NoPrimary found d) group told = inr (inl (record { order = N; group = group; bound = told }))
  search_told N (searches.TermBound d count) group told = inr (inl (record { order = N; group = group; bound = told }))
  search_told N (searches.Basis b) group told = inr (inl (record { order = N; group = group; bound = told }))
  search_told N searches.Memory group told = tt

  pub rank_told : (e : RankFault) → ((counted : ℕ) → e ≡ ranks.RankBound counted → IsRankFault q l (RankBound counted)) → IsRingTold q l (fault_of_rank e)
  rank_told (ranks.RankBound counted) told = inr (inr (inl (told counted refl)))
  rank_told ranks.Memory told = tt

  pub graph_told : (e : BasisFault ℕ) → ((b : Bound ℕ) → e ≡ bases.Above b → IsGraphFault q l (BasisBound b.which b.vector b.degree)) → IsRingTold q l (fault_of_basis e)
  graph_told (bases.Above b) told = inr (inr (inr (inl (told b refl))))
  graph_told bases.Memory told = tt

  pub image_told : (e : SpaceFault) → ((d count : ℕ) → e ≡ spaces.TermBound d count → IsImageFault q l (TermBound d count)) → IsRingTold q l (fault_of_space e)
  image_told (spaces.TermBound d count) told = inr (inr (inr (inr (inl (told d count refl)))))
  image_told spaces.Memory told = tt

  pub ring_fault : (bytes : List ℕ) (e : Fault) → IsProblemText bytes q → IsRingTold q l e → IsFault Ring l bytes e
  ring_fault bytes (faults.Syntax p) text told = absurd told
  ring_fault bytes (faults.Input f) text told = absurd told
  ring_fault bytes (faults.Bound f) text told = (OfScript q, text, told)
  ring_fault bytes faults.Memory text told = tt

  pub text_told : (bytes : List ℕ) (c : CertificateOf ℕ) (e : Fault) → IsProblemText bytes q → IsKept q l → IsCertificateOf q l.tries c → IsTooLong (length (certificate_text c)) l.max_text e → IsFault Ring l bytes e
  text_told bytes c (faults.Syntax p) text kept of told = absurd told
  text_told bytes c (faults.Input f) text kept of told = absurd told
  text_told bytes c (faults.Bound f) text kept of told = (OfScript q, text, inr (inr (inr (inr (inr (record { kept = kept; certificate = c; of_problem = of; longer = told.1; fault = told.0 }))))))
  text_told bytes c faults.Memory text kept of told = tt
