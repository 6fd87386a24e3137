-- A group that is accepted: its phrases by the table of folded letters, and the walk by the automaton that is made of them. Assumes nothing.
use Rattle.std.proofs.Common.{◌≡◌, ℕ, ◌^◌, ◌<◌, ◌≤◌, Some, List, [], length, get_or, replicate, sym, ap, ◌∙◌, arith}
use Rattle.fold.specs.Fold.{fold_on}
use Rattle.fold.proofs.Fold.{page-byte}
use Rattle.phrases.specs.Phrases.{phrases_in, letters, endings, numbers}
use Rattle.phrases.specs.States.{state, step}
use Rattle.phrases.proofs.Group.{phrases-count, phrase-long}
use Rattle.phrases.proofs.Endings.{steps-endings}
use Rattle.tries.specs.Group.{Group, Fits}
use Rattle.tries.specs.Links.{Linking, Marked}
use Rattle.tries.specs.Rows.{Rowed, Finished}
use Rattle.tries.specs.Steps.{step_on}
use Rattle.tries.proofs.Finishing.{letter-byte}
use Rattle.tries.proofs.Steps.{walk_is}
use Rattle.automaton.specs.Walk.{table, Ahead, Good}
use Rattle.automaton.specs.Locate.{Accepted, Counted, Answered}
use Rattle.automaton.proofs.Fitting.{phrase-byte, phrases-same}

module _ {page : ℕ} {book starts lens text scratch left place : List ℕ} (a : Accepted page book starts lens text scratch left place) where
  pub accepted_group : Group book starts lens
  accepted_group = record { pairs = a.pairs; inside = a.inside; some = a.letter }

  pub accepted_good : Good (fold_on page) book starts lens
  accepted_good = record { group = accepted_group; most = a.most }

  -- with what each letter folds to in a table, and a book of bytes
  module _ (folds : List ℕ) (looked : (c : ℕ) → c < 256 → get_or folds c 0 ≡ fold_on page c) (bytes : (i : ℕ) → get_or book i 0 < 2 ^ 8) where
    alike : phrases_in (table folds) book starts lens ≡ phrases_in (fold_on page) book starts lens
    alike = phrases-same (table folds) (fold_on page) looked book starts lens bytes

    most : letters (phrases_in (table folds) book starts lens) ≤ 4096
    most = omega (arith, a.most, ap letters alike)

    pub accepted_fits : (length starts ≤ 64) × Fits (phrases_in (table folds) book starts lens) scratch
    accepted_fits =
        let n = phrases-count (table folds) book starts lens a.pairs in
        (a.few, record { some = omega (arith, a.some); small = omega (arith, most); long = omega (arith, most, a.room) })

    module _ {t : List ℕ} {n : ℕ} (m : Marked (phrases_in (table folds) book starts lens) t n) where
      pub accepted_finished : length t ≡ length scratch → Finished t n
      accepted_finished long =
          record {
            phrases = _;
            names = m.names;
            linking = m.linking;
            count = m.count;
            few = omega (arith, m.few, most);
            bytes = λ x i h. letter-byte m.linking.linked (phrase-byte (table folds) (λ c k. omega (arith, looked c k, page-byte page c k)) book starts lens bytes) x i (omega (arith, m.count));
            room = omega (arith, a.room);
          }

      module _ {t' : List ℕ} {w count : ℕ} (finished : (ps names : List (List ℕ)) → Linking ps names 1 t → length names ≡ n → Rowed ps names t' w count) where
        rowed : Rowed (phrases_in (table folds) book starts lens) m.names t' w count
        rowed = finished _ m.names m.linking m.count

        pub accepted_ahead : Ahead t' w count text lens left place
        accepted_ahead =
            let n = phrases-count (table folds) book starts lens a.pairs in
            record {
              phrases = _;
              names = m.names;
              rowed = rowed;
              lens-of = record {
                each = omega (arith, a.pairs);
                is = λ k h. sym (phrase-long (table folds) book starts lens k a.pairs (omega arith) (a.inside k (omega arith)));
              };
              few = omega (arith, a.few, a.pairs);
              lefts = a.lefts ∙ a.pairs;
              places = a.places ∙ a.pairs;
              small = a.small;
            }

        -- the numbers of the walk are those at the letters
        module _ (letters : (i : ℕ) → get_or text i 0 < 2 ^ 8) where
          walked : numbers (step_on t' w count) 0 text ≡ endings (phrases_in (fold_on page) book starts lens) [] text
          unfolding state
          walked =
              let ps : List (List ℕ) = phrases_in (table folds) book starts lens in
              walk_is rowed text 0 rowed.linking.linked.trie.some (λ i _. letters i) ∙ ap (λ s. numbers (step ps) s text) rowed.linking.linked.trie.root ∙ steps-endings ps [] text
              ∙ ap (λ ps. endings ps [] text) alike

          pub accepted_answer : {reads : ℕ} {scratch' left' place' : List ℕ} → Counted (numbers (step_on t' w count) 0 text) lens left place reads left' place' → scratch' ≡ replicate (length scratch) 0
              → Answered page book starts lens text scratch left place (Some reads) scratch' left' place'
          accepted_answer {reads} {left' = left'} {place' = place'} c e =
              record {
                walked = λ r same.
                    let z : reads ≡ r = cc in
                    let d : Counted (endings (phrases_in (fold_on page) book starts lens) [] text) lens left place reads left' place' = rw walked at c in
                    record { accepted = a; counted = rw z at d; emptied = e };
                refused = λ same. absurd cc;
              }
