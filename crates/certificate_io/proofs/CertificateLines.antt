-- The parts of a certificate's text, from the lists that are printed.
use Rattle.std.proofs.Common.{◌≡◌, ℕ, List, [], ◌∷◌, ◌++◌, length, map, ap, ◌∙◌}
use Rattle.std.specs.Prelude.{codes}
use Rattle.alg_core.specs.declared.term.Term.{Term}
use Rattle.finite_certificate.specs.declared.power.Power.{Power}
use Rattle.certificate_io.specs.Certificates.{MatrixOf, CertificateOf}
use Rattle.certificate_io.specs.Texts.{ended, number_line, names_line, matrix_line, polynomial_line, power_lines, evidence_lines, heading_lines, module_lines, generator_lines, certificate_lines, certificate_text}
use Rattle.certificate_io.proofs.LineLaws.{lines_of_three, lines_of_four, lines_of_five}

module _ (w : List ℕ) (c : CertificateOf ℕ) where
  pub heading_put : (n : ℕ) (ns : List (List ℕ)) (ms : List (MatrixOf ℕ)) → n ≡ c.characteristic → ns ≡ c.names → ms ≡ c.matrices
      → ((((w ++ ended (codes "invring certificate 1" ∷ [])) ++ ended (number_line (codes "field") n ∷ [])) ++ ended (names_line ns ∷ [])) ++ ended (map (matrix_line c.characteristic) ms)) ++ ended (number_line (codes "order") c.order ∷ [])
      ≡ w ++ ended (heading_lines c)
  unfolding heading_lines
  heading_put n ns ms number names matrices =
      let version = codes "invring certificate 1" ∷ [] in
      let field = number_line (codes "field") c.characteristic ∷ [] in
      let order = number_line (codes "order") c.order ∷ [] in
      let rest : List ℕ → List ℕ = λ l. (l ++ ended (names_line ns ∷ [])) ++ ended (map (matrix_line c.characteristic) ms) in
      ap (λ n. rest ((w ++ ended version) ++ ended (number_line (codes "field") n ∷ [])) ++ ended order) number
      ∙ lines_of_five w version field (names_line ns ∷ []) (map (matrix_line c.characteristic) ms) order
      ∙ ap (λ a. w ++ ended ((((version ++ field) ++ (names_line a ∷ [])) ++ map (matrix_line c.characteristic) ms) ++ order)) names
      ∙ ap (λ a. w ++ ended ((((version ++ field) ++ (names_line c.names ∷ [])) ++ map (matrix_line c.characteristic) a) ++ order)) matrices

  pub module_put : (ns : List (List ℕ)) (ps ls : List (List (Term ℕ (List ℕ)))) (xs : List (Power ℕ)) → ns ≡ c.names → ps ≡ c.primaries → ls ≡ c.lifts → xs ≡ c.powers
      → (((w ++ ended (map (polynomial_line (codes "primary") c.characteristic ns 0) ps)) ++ ended (map (polynomial_line (codes "lift") c.characteristic ns (length ps)) ls)) ++ ended (power_lines c.characteristic ns (length ps) ns xs))
      ++ ended (number_line (codes "rank") c.rank ∷ [])
      ≡ w ++ ended (module_lines c)
  unfolding module_lines
  module_put ns ps ls xs names primaries lifts powers =
      let p = c.characteristic in
      let rank = number_line (codes "rank") c.rank ∷ [] in
      let text : List (List ℕ) → List (List (Term ℕ (List ℕ))) → List (List (Term ℕ (List ℕ))) → List (Power ℕ) → List ℕ =
      λ a b d e. w ++ ended (((map (polynomial_line (codes "primary") p a 0) b ++ map (polynomial_line (codes "lift") p a (length b)) d) ++ power_lines p a (length b) a e) ++ rank) in
      lines_of_four w _ _ _ rank ∙ ap (λ a. text a ps ls xs) names ∙ ap (λ b. text c.names b ls xs) primaries ∙ ap (λ d. text c.names c.primaries d xs) lifts ∙ ap (λ e. text c.names c.primaries c.lifts e) powers

  pub generators_put : (ns : List (List ℕ)) (ss is us : List (List (Term ℕ (List ℕ)))) (r : ℕ) → ns ≡ c.names → ss ≡ c.secondaries → is ≡ c.irreducibles → us ≡ c.words → r ≡ length c.primaries
      → ((((w ++ ended (map (polynomial_line (codes "secondary") c.characteristic ns 0) ss)) ++ ended (evidence_lines c.characteristic ns r (length ss) c.evidence)) ++ ended (map (polynomial_line (codes "irreducible") c.characteristic ns 0) is))
      ++ ended (map (polynomial_line (codes "word") c.characteristic [] r) us)) ++ ended (codes "end" ∷ [])
      ≡ w ++ ended (generator_lines c)
  unfolding generator_lines
  generators_put ns ss is us r names secondaries irreducibles words count =
      let p = c.characteristic in
      let end = codes "end" ∷ [] in
      let text : List (List ℕ) → List (List (Term ℕ (List ℕ))) → List (List (Term ℕ (List ℕ))) → List (List (Term ℕ (List ℕ))) → ℕ → List ℕ =
      λ a b d e m. w ++ ended ((((map (polynomial_line (codes "secondary") p a 0) b ++ evidence_lines p a m (length b) c.evidence) ++ map (polynomial_line (codes "irreducible") p a 0) d) ++ map (polynomial_line (codes "word") p [] m) e) ++ end) in
      lines_of_five w _ _ _ _ end ∙ ap (λ a. text a ss is us r) names ∙ ap (λ b. text c.names b is us r) secondaries ∙ ap (λ d. text c.names c.secondaries d us r) irreducibles
      ∙ ap (λ e. text c.names c.secondaries c.irreducibles e r) words ∙ ap (λ m. text c.names c.secondaries c.irreducibles c.words m) count

  pub text_put : ((w ++ ended (heading_lines c)) ++ ended (module_lines c)) ++ ended (generator_lines c) ≡ w ++ certificate_text c
  unfolding certificate_lines certificate_text
  text_put = lines_of_three w (heading_lines c) (module_lines c) (generator_lines c)
