-- The phrase and the text as parts of the input, from the phrase's length on, and that length in the library's words. Assumes nothing.
use mathlib.Core.Path.{◌≡◌, refl, sym, ap, ◌∙◌}
use Prim.Native.Nat.{ℕ, suc, ◌+◌, ◌-◌, ◌≤◌, ◌<◌, min}
use native.Mathlib.Omega.{arith}
use mathlib.Core.Bool.{cond}
use mathlib.Core.List.{List, [], ◌∷◌}
use lib.ListN.{length, take, drop, length-drop, drop_of_length-le}
use lib.Seq.{take_all}
use lib.Dec.{eqb, leb, ltb}
use borrow.Author.Tests.{leb-true, leb-false, ltb-false}
use Rattle.std.specs.Prelude.{◌==◌, Option, Some, None, position, unwrap_or}
use Rattle.std.specs.List.{position_or_len}
use Rattle.std.proofs.lemmas.List.Recursion.{is_position_or_len}
use Rattle.matching.proofs.CaseAnalysis.{by-test}
use Rattle.finder_output.specs.Printed.{phrase_in, text_in}

pub phrase-within : (input : List ℕ) → length (phrase_in input) ≤ length input
unfolding phrase_in
phrase-within [] = omega arith
phrase-within (byte ∷ input) =
    by-test (λ t. length (cond t [] (byte ∷ phrase_in input)) ≤ suc (length input)) (eqb byte 10) (λ _. omega arith) (λ _. omega (arith, phrase-within input))

-- the phrase is the input's front
pub phrase-is : (input : List ℕ) → phrase_in input ≡ take (length (phrase_in input)) input
unfolding phrase_in
phrase-is [] = refl
phrase-is (byte ∷ input) =
    by-test (λ t. cond t [] (byte ∷ phrase_in input) ≡ take (length (cond t [] (byte ∷ phrase_in input))) (byte ∷ input)) (eqb byte 10)
    (λ _. refl) (λ _. ap (λ (l : List ℕ). byte ∷ l) (phrase-is input))

-- the text is what stands after the byte that ends the phrase
pub text-is : (input : List ℕ) → text_in input ≡ drop (suc (length (phrase_in input))) input
unfolding phrase_in text_in
text-is [] = refl
text-is (byte ∷ input) =
    by-test (λ t. cond t input (text_in input) ≡ drop (suc (length (cond t [] (byte ∷ phrase_in input)))) (byte ∷ input)) (eqb byte 10)
    (λ _. refl) (λ _. text-is input)

-- the input in two parts, the phrase up to `end` and the text from `start` on, as code lends them
pub record Split (input : List ℕ) (end start : ℕ) : Type 0 where
  pub ends : end ≤ length input
  pub starts : start ≤ length input
  pub phrase : take end input ≡ phrase_in input
  pub text : take (length input - start) (drop start input) ≡ text_in input

pub split_at : {input : List ℕ} {end start : ℕ} → end ≡ length (phrase_in input) → start ≤ length input → drop start input ≡ drop (suc end) input → Split input end start
split_at {input} {end} {start} e inside same =
    record {
      ends = omega (arith, phrase-within input);
      starts = inside;
      phrase = ap (λ (n : ℕ). take n input) e ∙ sym (phrase-is input);
      text =
          take_all (length input - start) (drop start input) (omega (arith, length-drop start input)) ∙ same ∙ ap (λ (n : ℕ). drop (suc n) input) e ∙ sym (text-is input);
    }

-- the text starts after the byte that ends the phrase, or at the input's end where there is none
pub split-min : {input : List ℕ} {end start : ℕ} → end ≡ length (phrase_in input) → start ≡ min (end + 1) (length input) → Split input end start
split-min {input} {end} {start} e s =
    split_at e (omega arith)
    (by-test (λ _. drop start input ≡ drop (suc end) input) (leb (suc end) (length input))
    (λ t. let h : suc end ≤ length input = leb-true (suc end) (length input) t in let is : start ≡ suc end = omega arith in ap (λ (n : ℕ). drop n input) is)
    (λ t.
    let h : length input < suc end = leb-false (suc end) (length input) t in
    drop_of_length-le input {i = start} (omega arith) ∙ sym (drop_of_length-le input {i = suc end} (omega arith))))

-- i bytes of the phrase are passed, and the rest of its length is that of the phrase in what is left
pub record Passed (input : List ℕ) (i : ℕ) : Type 0 where
  pub inside : i ≤ length input
  pub rest : length (phrase_in input) ≡ i + length (phrase_in (drop i input))

pub passed_none : (input : List ℕ) → Passed input 0
passed_none input = record { inside = omega arith; rest = omega arith }

-- the phrase's length in the library's words: the place of the first byte 10, or the input's length
pub end_is : (input : List ℕ) {found : Option ℕ} {end : ℕ} → found ≡ position (λ (byte : ℕ). byte == 10) input → end ≡ unwrap_or found (length input) → end ≡ length (phrase_in input)
unfolding phrase_in
end_is input {found} {end} f e =
    let at : length (phrase_in input) ≡ place = is_position_or_len (λ (l : List ℕ). length (phrase_in l)) (λ (byte : ℕ). byte == 10) refl step input in
    let within : place ≤ length input = omega (arith, at, phrase-within input) in
    e ∙ ap (λ (o : Option ℕ). unwrap_or o (length input)) f
    ∙ by-test (λ t. unwrap_or (cond t (Some place) None) (length input) ≡ place) (ltb place (length input)) (λ _. refl) (λ t. omega (arith, ltb-false place (length input) t)) ∙ sym at
  where
    place : ℕ
    place = position_or_len (λ (byte : ℕ). byte == 10) input

    step : (byte : ℕ) (l : List ℕ) → length (phrase_in (byte ∷ l)) ≡ cond (byte == 10) 0 (1 + length (phrase_in l))
    step byte l = by-test (λ t. length (cond t [] (byte ∷ phrase_in l)) ≡ cond t 0 (1 + length (phrase_in l))) (eqb byte 10) (λ _. refl) (λ _. omega arith)
