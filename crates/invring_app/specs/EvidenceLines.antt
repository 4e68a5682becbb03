-- Lines of evidence. B are monomials, cs combinations, and o are the members of a kernel, or none.
--
--   fixed_count ms        how many of the members ms are named fixed
--   combinations_in ls    the combinations of the lines ls, of those that have one
--   ForEach B o cs        there are as many combinations as fixed members, or as monomials where o is none
--   IsEvidenceWith B o cs e   the evidence e has lines for the members o, or where o is none for the monomials B, with the combinations cs
use Rattle.std.specs.Prelude.{◌≡◌, ◌++◌, ℕ, zero, suc, List, [], ◌∷◌, Option, None, Some, length, map, option_to_list, if◌then◌else◌}
use Rattle.poly_module.specs.declared.vector.Comb.{Comb}
use Rattle.syzygy_kernel.specs.declared.member.Member.{Member}
use Rattle.certificate_io.specs.Certificates.{EvidenceOf, Averages, Members}
use Rattle.certificate_io.specs.declared.evidence.Line.{Line}
use Rattle.cert_check.specs.Parts.{monomials, members}

abbrev pub fixed_count : List (Member ℕ) → ℕ
fixed_count [] = zero
fixed_count (m ∷ ms) = if m.is_fixed then suc (fixed_count ms) else fixed_count ms

abbrev pub combinations_in : List (Line ℕ) → List (Comb ℕ)
combinations_in [] = []
combinations_in (l ∷ ls) = option_to_list l.comb ++ combinations_in ls

abbrev pub ForEach : List (List ℕ) → Option (List (Member ℕ)) → List (Comb ℕ) → Type 0
ForEach B None cs = length B ≡ length cs
ForEach B (Some ms) cs = fixed_count ms ≡ length cs

abbrev pub IsEvidenceWith : List (List ℕ) → Option (List (Member ℕ)) → List (Comb ℕ) → EvidenceOf ℕ → Type 0
IsEvidenceWith B None cs (Averages xs) = (monomials xs ≡ B) × (map (λ x. x.comb) xs ≡ cs)
IsEvidenceWith B None cs (Members ls) = ⊥
IsEvidenceWith B (Some ms) cs (Averages xs) = ⊥
IsEvidenceWith B (Some ms) cs (Members ls) = (members ls ≡ ms) × (combinations_in ls ≡ cs)
