-- The greatest exponent of one variable, found entry by entry.
use Rattle.std.proofs.Common.{◌≡◌, ◌<◌, ◌≤◌, ◌+◌, ◌*◌, ℕ, zero, suc, max, List, [], ◌∷◌, ◌++◌, length, get_or, take, sym, subst, ◌∙◌, arith}
use Rattle.std.specs.Prelude.{All}
use Rattle.std.proofs.lemmas.List.{take_all}
use Rattle.std.proofs.lemmas.List.Elements.{All-push}
use native.Mathlib.Decide.{dec_le}
use Rattle.alg_core.specs.declared.term.Term.{Term}
use Rattle.alg_core.specs.Vectors.{Entry}
use Rattle.alg_core.specs.Spaces.{entry, entries}
use Rattle.poly_module.proofs.GreatestValues.{take_map}

last_of : {A : Type 0} (P : A → Type 0) (l : List A) (x : A) → All P (l ++ (x ∷ [])) → P x
last_of P [] x h = h 0 x (omega arith)
last_of P (y ∷ l) x h = last_of P l x (λ n e v. h (suc n) e (omega arith))

front_of : {A : Type 0} (P : A → Type 0) (l : List A) (x : A) → All P (l ++ (x ∷ [])) → All P l
front_of P [] x h i d w = absurd (omega arith)
front_of P (y ∷ l) x h zero d w = h 0 d (omega arith)
front_of P (y ∷ l) x h (suc i) d w = front_of P l x (λ n e v. h (suc n) e (omega arith)) i d (omega arith)

max_times : (a b n cap : ℕ) → a * n ≤ cap → b * n ≤ cap → max a b * n ≤ cap
max_times a b n cap p q = go (dec_le a b)
  where
    go : Dec (a ≤ b) → max a b * n ≤ cap
    go (yes h) = let e : max a b ≡ b = omega arith in subst (λ c. c * n ≤ cap) (sym e) q
    go (no h) = let e : max a b ≡ a = omega arith in subst (λ c. c * n ≤ cap) (sym e) p

module _ {E : Type 0} (i : ℕ) where
  -- it bounds the exponents, and each bound of all of them bounds it
  pub record IsGreatest (es : List (Entry E)) (g : ℕ) : Type 0 where
    pub covers : All (λ e. get_or e.0.1 i 0 ≤ g) es
    pub least : (n cap : ℕ) → All (λ e. get_or e.0.1 i 0 * n ≤ cap) es → g * n ≤ cap

  pub greatest_none : IsGreatest [] 0
  greatest_none = record { covers = λ k d w. absurd (omega arith); least = λ n cap h. omega arith }

  greatest_more : (es : List (Entry E)) (e : Entry E) (g x : ℕ) → x ≡ get_or e.0.1 i 0 → IsGreatest es g → IsGreatest (es ++ (e ∷ [])) (max g x)
  greatest_more es e g x is h = record {
    covers = All-push (λ f. get_or f.0.1 i 0 ≤ max g x) es e (λ k d w. let c = h.covers k d w in omega arith) (omega arith);
    least = λ n cap all. max_times g x n cap (h.least n cap (front_of (λ f. get_or f.0.1 i 0 * n ≤ cap) es e all)) (subst (λ y. y * n ≤ cap) (sym is) (last_of (λ f. get_or f.0.1 i 0 * n ≤ cap) es e all));
  }

  module _ {M : Type 0} (exps : M → List ℕ) where
    pub greatest_start : (ts : List (Term E M)) → IsGreatest (entries exps (take 0 ts)) 0
    greatest_start ts = greatest_none

    pub greatest_step : (ts : List (Term E M)) (j : ℕ) (t : Term E M) (g x new : ℕ) → new ≡ max g x → j < length ts → t ≡ get_or ts j t → x ≡ get_or (exps t.at.mono) i 0
        → IsGreatest (entries exps (take j ts)) g → IsGreatest (entries exps (take (j + 1) ts)) new
    greatest_step ts j t g x new value w read is h =
        subst (IsGreatest (entries exps (take (j + 1) ts))) (sym value) (subst (λ l. IsGreatest l (max g x)) (sym (take_map (entry exps) ts j t w read)) (greatest_more (entries exps (take j ts)) (entry exps t) g x is h))

    pub greatest_end : (ts f : List (Term E M)) (j g : ℕ) → length ts ≤ j → ts ≡ f → IsGreatest (entries exps (take j ts)) g → IsGreatest (entries exps f) g
    greatest_end ts f j g w same h = subst (λ l. IsGreatest (entries exps l) g) (take_all j ts w ∙ same) h

module _ {E M : Type 0} (exps : M → List ℕ) where
  -- what holds of all entries holds of that of a term
  pub at_term : (P : Entry E → Type 0) (ts f : List (Term E M)) (j : ℕ) (t : Term E M) → ts ≡ f → j < length ts → t ≡ get_or ts j t → All P (entries exps f) → P (entry exps t)
  at_term P ts f j t same w read h = go ts j t w read (subst (λ l. All P (entries exps l)) (sym same) h)
    where
      go : (ts : List (Term E M)) (j : ℕ) (t : Term E M) → j < length ts → t ≡ get_or ts j t → All P (entries exps ts) → P (entry exps t)
      go [] j t w read h = absurd (omega arith)
      go (y ∷ ts) zero t w read h = subst (λ z. P (entry exps z)) (sym read) (h 0 (entry exps y) (omega arith))
      go (y ∷ ts) (suc j) t w read h = go ts j t (omega arith) read (λ k d v. h (suc k) d (omega arith))
