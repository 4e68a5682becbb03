-- The lines of kernel evidence, one after another: each fixed member takes the next combination.
use Rattle.std.proofs.Common.{◌≡◌, ◌∙◌, ◌+◌, ◌<◌, ℕ, suc, Bool, true, false, List, [], ◌∷◌, ◌++◌, Option, None, Some, length, refl, sym, ap, ap₂, subst, append_assoc, append-nil, arith}
use Rattle.std.specs.Prelude.{is_some, option_to_list, if◌then◌else◌}
use Rattle.module_groebner.proofs.Families.{map_append}
use Rattle.poly_module.specs.declared.vector.Comb.{Comb}
use Rattle.syzygy_kernel.specs.declared.member.Member.{Member}
use Rattle.certificate_io.specs.declared.evidence.Line.{Line}
use Rattle.cert_check.specs.Parts.{members}
use Rattle.invring_app.specs.EvidenceLines.{combinations_in, fixed_count}

count_append : (ms os : List (Member ℕ)) → fixed_count (ms ++ os) ≡ fixed_count ms + fixed_count os
count_append [] os = omega arith
count_append (m ∷ ms) os = by m.is_fixed (count_append ms os)
  where
    by : (b : Bool) → fixed_count (ms ++ os) ≡ fixed_count ms + fixed_count os
        → (if b then suc (fixed_count (ms ++ os)) else fixed_count (ms ++ os)) ≡ (if b then suc (fixed_count ms) else fixed_count ms) + fixed_count os
    by true e = omega arith
    by false e = e

combinations_append : (ls ks : List (Line ℕ)) → combinations_in (ls ++ ks) ≡ combinations_in ls ++ combinations_in ks
combinations_append [] ks = refl
combinations_append (l ∷ ls) ks = ap (λ t. option_to_list l.comb ++ t) (combinations_append ls ks) ∙ sym (append_assoc (option_to_list l.comb) (combinations_in ls) (combinations_in ks))

-- of an iterator that has no item left
pub nothing_left : {A : Type 0} (xs : List A) (n : ℕ) → n ≡ length xs → n ≡ 0 → xs ≡ []
nothing_left [] n is none = refl
nothing_left (x ∷ xs) n is none = absurd (omega arith)

module _ (cs : List (Comb ℕ)) where
  -- the lines of the members so far, and the combinations that are left
  pub record Lined (given : List (Member ℕ)) (ls : List (Line ℕ)) (rest : List (Comb ℕ)) : Type 0 where
    pub are_members : members ls ≡ given
    pub combinations : combinations_in ls ++ rest ≡ cs
    pub count : fixed_count given + length rest ≡ length cs

  pub lined_start : Lined [] [] cs
  lined_start = record { are_members = refl; combinations = refl; count = omega arith }

  module _ (given : List (Member ℕ)) (ls : List (Line ℕ)) (rest left : List (Comb ℕ)) (was : Lined given ls rest) (m : Member ℕ) (o : Option (Comb ℕ)) (named : is_some o ≡ m.is_fixed) (took : rest ≡ option_to_list o ++ left)
      (now : List (Line ℕ)) (pushed : now ≡ ls ++ record { u = m.u; comb = o } ∷ []) where
    abbrev line : Line ℕ
    line = record { u = m.u; comb = o }

    lined_more : Lined (given ++ m ∷ []) now left
    lined_more = subst (λ ks. Lined (given ++ m ∷ []) ks left) (sym pushed) (record {
      are_members = map_append _ ls (line ∷ []) ∙ ap₂ (λ xs b. xs ++ record { u = m.u; is_fixed = b } ∷ []) was.are_members named;
      combinations = ap (λ t. t ++ left) (combinations_append ls (line ∷ [])) ∙ append_assoc (combinations_in ls) (option_to_list o ++ []) left
          ∙ ap (λ t. combinations_in ls ++ (t ++ left)) (append-nil (option_to_list o)) ∙ ap (λ t. combinations_in ls ++ t) (sym took) ∙ was.combinations;
      count = counted o named took;
    })
      where
        more : (b : Bool) → b ≡ m.is_fixed → fixed_count (m ∷ []) ≡ (if b then 1 else 0)
        more b e = ap (λ (b : Bool). if b then 1 else 0) (sym e)

        counted : (o : Option (Comb ℕ)) → is_some o ≡ m.is_fixed → rest ≡ option_to_list o ++ left → fixed_count (given ++ m ∷ []) + length left ≡ length cs
        counted None e t =
            let a = count_append given (m ∷ []) in
            let b : fixed_count (m ∷ []) ≡ 0 = more false e in
            let d = was.count in
            let s = ap (length {A = Comb ℕ}) t in
            omega arith
        counted (Some x) e t =
            let a = count_append given (m ∷ []) in
            let b : fixed_count (m ∷ []) ≡ 1 = more true e in
            let d = was.count in
            let s : length rest ≡ suc (length left) = ap (length {A = Comb ℕ}) t in
            omega arith

  -- a member that is moved takes none
  pub lined_moved : (given : List (Member ℕ)) (ls : List (Line ℕ)) (rest : List (Comb ℕ)) → Lined given ls rest → (m : Member ℕ) → m.is_fixed ≡ false → (now : List (Line ℕ)) → now ≡ ls ++ record { u = m.u; comb = None } ∷ []
      → Lined (given ++ m ∷ []) now rest
  lined_moved given ls rest was m moved now pushed = lined_more given ls rest rest was m None (sym moved) refl now pushed

  -- one that is fixed takes the next, which is there
  pub lined_fixed : (given : List (Member ℕ)) (ls : List (Line ℕ)) (rest left : List (Comb ℕ)) → Lined given ls rest → (m : Member ℕ) (later : List (Member ℕ)) → fixed_count (given ++ m ∷ later) ≡ length cs → m.is_fixed ≡ true
      → (o : Option (Comb ℕ)) → (0 < length rest → is_some o ≡ true) → rest ≡ option_to_list o ++ left → (now : List (Line ℕ)) → now ≡ ls ++ record { u = m.u; comb = o } ∷ [] → Lined (given ++ m ∷ []) now left
  lined_fixed given ls rest left was m later all fixed o there took now pushed =
      let a = count_append given (m ∷ later) in
      let b : fixed_count (m ∷ later) ≡ suc (fixed_count later) = ap (λ (b : Bool). if b then suc (fixed_count later) else fixed_count later) fixed in
      let d = was.count in
      lined_more given ls rest left was m o (there (omega arith) ∙ sym fixed) took now pushed

  -- the lines of all members have all combinations
  pub lined_end : (given : List (Member ℕ)) (ls : List (Line ℕ)) (rest : List (Comb ℕ)) → Lined given ls rest → fixed_count given ≡ length cs → combinations_in ls ≡ cs
  lined_end given ls rest was all =
      let d = was.count in
      let none : rest ≡ [] = nothing_left rest (length rest) refl (omega arith) in
      sym (append-nil (combinations_in ls)) ∙ ap (λ t. combinations_in ls ++ t) (sym none) ∙ was.combinations
