-- The loop over the words of a text.
use Rattle.std.proofs.Common.{◌≡◌, ◌∙◌, ℕ, ◌+◌, ◌<◌, ◌≤◌, length, List, [], ◌∷◌, ◌++◌, Option, Some, None, refl, sym, ap, subst, append-nil, append_assoc, arith}
use Rattle.std.specs.Prelude.{All, IfSome}
use Rattle.std.proofs.lemmas.List.{length-append}
use Rattle.std.proofs.lemmas.List.Elements.{All-head, All-tail}
use Rattle.certificate_io.specs.Lines.{after, IsSplit, joined}
use Rattle.certificate_io.specs.Parts.{IsSomeOf}
use Rattle.certificate_io.proofs.Splits.{Free, rest_of, first_word}

-- of the words ws some are done, and the rest is what follows them
pub record WordsLeft (P : List ℕ → Type 0) (ws done : List (List ℕ)) (rest : Option (List ℕ)) : Type 0 where
  pub left : List (List ℕ)
  pub follows : rest ≡ rest_of left
  pub each : All P left
  pub whole : ws ≡ done ++ left

module _ (P : List ℕ → Type 0) where
  pub words_begin : (ws : List (List ℕ)) (text : List ℕ) → IsSomeOf P ws → joined ws ≡ text → WordsLeft P ws [] (Some text)
  words_begin [] text is same = absurd (let h = is.0 in omega (arith, h))
  words_begin (w ∷ ws) text is same = record { left = w ∷ ws; follows = ap Some (sym same); each = is.1; whole = refl }

  -- the next word
  pub record NextWord (ws done : List (List ℕ)) (w : List ℕ) (o : Option (List ℕ)) : Type 0 where
    pub is : P w
    pub rest : WordsLeft P ws (done ++ (w ∷ [])) o

  pub words_next : ((w : List ℕ) → P w → Free 32 w) → (ws done : List (List ℕ)) (words w : List ℕ) (o : Option (List ℕ)) → WordsLeft P ws done (Some words) → IsSplit 32 words w o → NextWord ws done w o
  words_next free ws done words w o before split = go before.left before.follows before.each before.whole
    where
      go : (left : List (List ℕ)) → Some words ≡ rest_of left → All P left → ws ≡ done ++ left → NextWord ws done w o
      go [] follows each whole = absurd cc
      go (v ∷ vs) follows each whole =
          let this : joined (v ∷ vs) ≡ words = cc in
          let found = first_word words w v vs o split (free v (All-head P v vs each)) this in
          record {
            is = subst P (sym found.0) (All-head P v vs each);
            rest = record { left = vs; follows = found.1; each = All-tail P v vs each; whole = whole ∙ ap (λ x. done ++ (x ∷ vs)) (sym found.0) ∙ sym (append_assoc done (w ∷ []) vs) };
          }

  pub words_end : (ws done : List (List ℕ)) → WordsLeft P ws done None → done ≡ ws
  words_end ws done before = go before.left before.follows before.whole
    where
      go : (left : List (List ℕ)) → None ≡ rest_of left → ws ≡ done ++ left → done ≡ ws
      go [] follows whole = sym (append-nil done) ∙ sym whole
      go (v ∷ vs) follows whole = absurd cc

-- the loop that counts the words of a text
pub record CountsWords (text : List ℕ) (count : ℕ) (rest : Option (List ℕ)) : Type 0 where
  pub few : count + length (after 32 rest) ≤ length text + 1
  pub counted : (ws : List (List ℕ)) → IsSomeOf (Free 32) ws → joined ws ≡ text → (done : List (List ℕ)) × (length done ≡ count) × WordsLeft (Free 32) ws done rest

pub count_begins : (text : List ℕ) → CountsWords text 0 (Some text)
count_begins text = record { few = omega arith; counted = λ ws is same. ([], refl, words_begin (Free 32) ws text is same) }

pub count_more : (text words w : List ℕ) (count : ℕ) (o : Option (List ℕ)) → CountsWords text count (Some words) → IsSplit 32 words w o → IfSome o (λ rest. length rest < length words) → CountsWords text (count + 1) o
count_more text words w count o before split shorter = record {
  few = let h = before.few in let k = low o shorter in omega (arith, h, k);
  counted = λ ws is same.
      let old = before.counted ws is same in
      let next = words_next (Free 32) (λ v free. free) ws old.0 words w o old.2 split in
      (old.0 ++ (w ∷ []), length-append old.0 (w ∷ []) ∙ ap (λ (n : ℕ). n + 1) old.1, next.rest);
}
  where
    low : (o : Option (List ℕ)) → IfSome o (λ rest. length rest < length words) → length (after 32 o) ≤ length words
    low None h = omega arith
    low (Some rest) h = omega (arith, h)

pub count_ends : (text : List ℕ) (count : ℕ) → CountsWords text count None → (ws : List (List ℕ)) → IsSomeOf (Free 32) ws → joined ws ≡ text → count ≡ length ws
count_ends text count before ws is same =
    let old = before.counted ws is same in
    sym old.1 ∙ ap length (words_end (Free 32) ws old.0 old.2)
