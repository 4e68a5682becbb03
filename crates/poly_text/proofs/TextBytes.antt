-- No space and no newline stands in a polynomial's text: no state takes one.
use Rattle.std.proofs.Common.{◌≡◌, ◌≢◌, ◌∙◌, ℕ, Bool, true, false, List, [], ◌∷◌, Option, Some, None, refl, sym, ap}
use Rattle.std.specs.Prelude.{All, ◌==◌, if◌then◌else◌}
use Rattle.std.proofs.lemmas.List.Elements.{All-nil, All-cons}
use Rattle.alg_core.specs.Names.{is_reserved}
use Rattle.poly_text.specs.Syntax.{Term, IsText}
use Rattle.poly_text.specs.Scanning.{◌>>=◌, Stage, State, Start, Zero, Signed, Coefficient, Starred, Name, Sign, Index, Raised, Exponent, start, step, step_in, scan, in_start, in_coefficient, in_name, in_index, in_exponent, term_start, factor_start, next_term, after_factor, after_variable}
use Rattle.poly_text.proofs.Scans.{text_scanned}

either : {A : Type 0} (b : Bool) → ◌≡◌ {A = Option A} (if b then None else None) None
either true = refl
either false = refl

no_space : (stage : Stage) (s : State) → step_in stage s 32 ≡ None
unfolding step_in in_start in_coefficient in_name in_index in_exponent term_start factor_start next_term after_factor after_variable
no_space Start s = refl
no_space Zero s = refl
no_space Signed s = refl
no_space Coefficient s = refl
no_space Starred s = refl
no_space (Name w) s = either (is_reserved w)
no_space (Sign m) s = refl
no_space (Index m n) s = refl
no_space (Raised v) s = refl
no_space (Exponent v n) s = either (n == 1)

no_newline : (stage : Stage) (s : State) → step_in stage s 10 ≡ None
unfolding step_in in_start in_coefficient in_name in_index in_exponent term_start factor_start next_term after_factor after_variable
no_newline Start s = refl
no_newline Zero s = refl
no_newline Signed s = refl
no_newline Coefficient s = refl
no_newline Starred s = refl
no_newline (Name w) s = either (is_reserved w)
no_newline (Sign m) s = refl
no_newline (Index m n) s = refl
no_newline (Raised v) s = refl
no_newline (Exponent v n) s = either (n == 1)

-- bytes that are taken are none that no state takes
taken : (c : ℕ) → ((s : State) → step s c ≡ None) → (bs : List ℕ) (s t : State) → scan s bs ≡ Some t → All (λ b. b ≢ c) bs
taken c never [] s t h = All-nil (λ b. b ≢ c)
taken c never (b ∷ bs) s t h = go (step s b) refl h (λ u. taken c never bs u t)
  where
    go : (o : Option State) → step s b ≡ o → scan s (b ∷ bs) ≡ Some t → ((u : State) → scan u bs ≡ Some t → All (λ b. b ≢ c) bs) → All (λ b. b ≢ c) (b ∷ bs)
    go None e h rest = let bad : ◌≡◌ {A = Option State} None (Some t) = sym (ap (λ o. o >>= λ u. scan u bs) e) ∙ h in absurd cc
    go (Some u) e h rest =
        All-cons (λ b. b ≢ c) b bs (λ same. let bad : Some u ≡ None = sym e ∙ ap (step s) same ∙ never s in absurd cc) (rest u (sym (ap (λ o. o >>= λ u. scan u bs) e) ∙ h))

-- the bytes of a text
pub text_unspaced : (bytes : List ℕ) (ts : List Term) → IsText ts bytes → All (λ b. b ≢ 32) bytes
text_unspaced bytes ts is = let found = text_scanned bytes ts is in taken 32 (λ s. no_space s.stage s) bytes start found.0 found.1

pub text_unbroken : (bytes : List ℕ) (ts : List Term) → IsText ts bytes → All (λ b. b ≢ 10) bytes
text_unbroken bytes ts is = let found = text_scanned bytes ts is in taken 10 (λ s. no_newline s.stage s) bytes start found.0 found.1
