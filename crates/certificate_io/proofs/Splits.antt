-- A text tells its part up to a byte, and what follows that byte.
use Rattle.std.proofs.Common.{◌≡◌, ◌≢◌, ◌∙◌, ℕ, List, [], ◌∷◌, ◌++◌, Option, Some, None, refl, sym, ap, ap₂, subst}
use Rattle.std.specs.Prelude.{◌↔◌, All}
use Rattle.std.proofs.lemmas.List.Elements.{All-nil, All-cons, All-head, All-tail}
use Rattle.certificate_io.specs.Lines.{after, IsSplit, joined, AreWords}
use Rattle.certificate_io.specs.Texts.{spaced}

module _ (stop : ℕ) where
  abbrev pub Free : List ℕ → Type 0
  Free w = All (λ b. b ≢ stop) w

  pub split_one : (w v : List ℕ) (o p : Option (List ℕ)) → Free w → Free v → w ++ after stop o ≡ v ++ after stop p → (w ≡ v) × (o ≡ p)
  split_one [] [] None None f g e = (refl, refl)
  split_one [] [] None (Some r) f g e = absurd cc
  split_one [] [] (Some r) None f g e = absurd cc
  split_one [] [] (Some r) (Some q) f g e = (refl, ap Some cc)
  split_one [] (y ∷ v) None p f g e = absurd cc
  split_one [] (y ∷ v) (Some r) p f g e = absurd (All-head (λ b. b ≢ stop) y v g cc)
  split_one (x ∷ w) [] o None f g e = absurd cc
  split_one (x ∷ w) [] o (Some q) f g e = absurd (All-head (λ b. b ≢ stop) x w f cc)
  split_one (x ∷ w) (y ∷ v) o p f g e =
      let first : x ≡ y = cc in
      let rest : w ++ after stop o ≡ v ++ after stop p = cc in
      let found = split_one w v o p (All-tail (λ b. b ≢ stop) x w f) (All-tail (λ b. b ≢ stop) y v g) rest in
      (ap₂ (λ a l. a ∷ l) first found.0, found.1)

  pub same_split : (text w v : List ℕ) (o p : Option (List ℕ)) → IsSplit stop text w o → Free v → text ≡ v ++ after stop p → (w ≡ v) × (o ≡ p)
  same_split text w v o p h g e = split_one w v o p h.free g (sym h.whole ∙ e)

-- what follows the first of some words
abbrev pub rest_of : List (List ℕ) → Option (List ℕ)
rest_of [] = None
rest_of (w ∷ ws) = Some (joined (w ∷ ws))

pub spaced_after : (ws : List (List ℕ)) → spaced ws ≡ after 32 (rest_of ws)
spaced_after [] = refl
spaced_after (w ∷ ws) = refl

abbrev Spaceless : List ℕ → Type 0
Spaceless w = Free 32 w

-- the first word of some, and the rest
pub first_word : (text w v : List ℕ) (vs : List (List ℕ)) (o : Option (List ℕ)) → IsSplit 32 text w o → Spaceless v → joined (v ∷ vs) ≡ text → (w ≡ v) × (o ≡ rest_of vs)
first_word text w v vs o h g e = same_split 32 text w v o (rest_of vs) h g (sym e ∙ ap (λ l. v ++ l) (spaced_after vs))

module _ (P : List ℕ → Type 0) (free : (w : List ℕ) → P w → Spaceless w) where
  -- what is left is words as well, or nothing is left
  abbrev pub AreRest : Option (List ℕ) → Type 0
  AreRest None = Unit {0}
  AreRest (Some bytes) = AreWords P bytes

  rest_words : (ws : List (List ℕ)) (o : Option (List ℕ)) → o ≡ rest_of ws → All P ws → AreRest o
  rest_words [] o e h = subst AreRest (sym e) tt
  rest_words (w ∷ ws) o e h = subst AreRest (sym e) (record { first = w; others = ws; words = h; joins = refl })

  pub words_first : (text w : List ℕ) (o : Option (List ℕ)) → IsSplit 32 text w o → AreWords P text → P w × AreRest o
  words_first text w o h a =
      let found = first_word text w a.first a.others o h (free a.first (All-head P a.first a.others a.words)) a.joins in
      (subst P (sym found.0) (All-head P a.first a.others a.words), rest_words a.others o found.1 (All-tail P a.first a.others a.words))

  pub words_from : (text w : List ℕ) (o : Option (List ℕ)) → IsSplit 32 text w o → P w → AreRest o → AreWords P text
  words_from text w None h p r = record { first = w; others = []; words = All-cons P w [] p (All-nil P); joins = sym h.whole }
  words_from text w (Some rest) h p r = record {
    first = w;
    others = r.first ∷ r.others;
    words = All-cons P w (r.first ∷ r.others) p r.words;
    joins = ap (λ l. w ++ (32 ∷ l)) r.joins ∙ sym h.whole;
  }

  pub words_step : (text w : List ℕ) (o : Option (List ℕ)) → IsSplit 32 text w o → P w → AreWords P text ↔ AreRest o
  words_step text w o h p = (λ a. (words_first text w o h a).1, words_from text w o h p)
